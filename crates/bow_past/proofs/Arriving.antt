-- Where a session has led beside a reader, once it is over: what follows from what its writers see of it.
use Rattle.std.proofs.Common.{◌≡◌, ◌⊎◌, inl, inr, ℕ, suc, ◌+◌, ◌-◌, ◌^◌, ◌<◌, ◌≤◌, min, max, List, [], length, Option, Some, None, arith, refl, sym, ap, ◌∙◌, subst}
use Rattle.std.specs.Prelude.{slice_index_or}
use Rattle.std.specs.List.{sum_by}
use Rattle.std.proofs.lemmas.Bool.{cases_lt}
use Rattle.std.proofs.lemmas.List.{length-map}
use Rattle.bow_units.specs.Causes.{Rose}
use Rattle.bow_units.specs.Magics.{IsPlain}
use Rattle.bow_units.specs.declared.sizes.Geometry.{Geometry}
use Rattle.bow_disk.specs.Disk.{Content, IsCrash, IsImage, IsShaped}
use Rattle.bow_disk.specs.Moments.{Tells}
use Rattle.bow_chain.specs.Contents.{Contents, contents_of}
use Rattle.bow_flat.specs.Flat.{Flat, opening}
use Rattle.bow_guard.specs.Standing.{StandsFor}
use Rattle.bow_guard.specs.Cuts.{candidates_of}
use Rattle.bow_machine.specs.Standing.{IsStanding}
use Rattle.bow_core.specs.Standing.{StandsIn}
use Rattle.bow_core.specs.Views.{View}
use Rattle.bow_history.specs.declared.items.Item.{Item}
use Rattle.bow_history.specs.Complete.{IsComplete}
use Rattle.bow_history.specs.DiskCuts.{StandsAheadToo}
use Rattle.bow_history.specs.Fits.{Agrees}
use Rattle.bow_history.specs.Histories.{moments_of}
use Rattle.bow_history.specs.Journal.{Legal, beginning}
use Rattle.bow_history.specs.Promises.{faults_in, held}
use Rattle.bow_session.specs.Leads.{BeginsAt, LeadsFrom, StaysBelow}
use Rattle.bow_session.specs.Runs.{begun_over}
use Rattle.bow_session.specs.Sessions.{Run, IsOver, plan_in, state_in}
use Rattle.bow_session.proofs.Cutting.{over_is_complete}
use Rattle.bow_session.proofs.Laws.{beginning_is_sound}
use Rattle.bow_session.proofs.Leading.{as_many, leads_ahead, leads_from}
use Rattle.bow_play.specs.Beginning.{HasBegun, OpenedOn}
use Rattle.bow_play.specs.Leading.{PlayLeads, IsOnWay, CanLeave, read_in}
use Rattle.bow_play.specs.Playing.{IsFresh}
use Rattle.bow_play.proofs.Ends.{ahead_opened, leads_on, standing_told, stands_opened}
use Rattle.bow_play.proofs.Runs.{begins_at}
use Rattle.bow_past.specs.Running.{RanBeside}
use Rattle.bow_past.proofs.Twin.{Twin, cuts_shaped_by, only_now_by, shaped_by}
use Rattle.bow_past.proofs.Twinned.{HasTwin, IsPair, IsTold, content_by, faults_by, first_by, moment_by, pair_at, run_by, since_by, stated_by}

module _ {D : Type 0} (stated : D → Option Geometry) (content : D → Option Content) (moment : D → ℕ) (left : D → ℕ → List (List ℕ) → Type 0) (faults : D → ℕ)
    (old : D) (begun : Run D) (b : HasBegun stated content moment left faults old begun) (lost : ℕ) (s : Run D)
    (t : HasTwin stated content moment left faults b.first (moment old) lost s) where
  abbrev first : View D
  first = b.first

  abbrev start : ℕ
  start = moment first.disk

  abbrev first_view : View (Twin D)
  first_view = first_by stated content moment left faults first (moment old)

  abbrev seen : Run (Twin D)
  seen = run_by stated content moment left faults first (moment old) s s.core.disk t.clock t.at t.count t.calls t.moments

  abbrev shows : Twin D → Option Geometry
  shows = stated_by stated content moment left faults first (moment old)

  abbrev tells : Twin D → Option Content
  tells = content_by stated content moment left faults first (moment old)

  abbrev clock_by : Twin D → ℕ
  clock_by = moment_by stated content moment left faults first (moment old)

  abbrev since_then : Twin D → ℕ → List (List ℕ) → Type 0
  since_then = since_by stated content moment left faults first (moment old)

  abbrev failed : Twin D → ℕ
  failed = faults_by stated content moment left faults first (moment old)

  pub ran : RanBeside stated content moment left faults old s
  ran =
      let k = t.loaded_by in
      record {
        first = first;
        turns = k.turns;
        fresh = b.fresh;
        opened = b.opened;
        sizes = k.sizes;
        rise = ((k.run).session).rise;
        sound = beginning_is_sound (plan_in s) first.memory first.admitted k.sound k.idle;
        may = ((k.run).session).may;
        state = (k.run).state;
        journal = ((k.run).session).journal;
      }

  pub complete : IsOver s → IsComplete (plan_in s) s.journal
  complete over =
      let k = t.loaded_by in
      over_is_complete shows tells failed first_view k.turns seen k.run over k.sound k.idle

  told_faults : (before first told count lost now : ℕ) → before ≤ first → min (first + told) (2 ^ 64 - 1) ≤ count → min (count + lost) (2 ^ 64 - 1) ≤ now → min (before + told + lost) (2 ^ 64 - 1) ≤ now
  told_faults before first told count lost now later own all = omega (arith, later, own, all)

  pub counted : held (faults old + sum_by faults_in s.journal + lost) ≤ faults s.core.disk
  counted = told_faults (faults old) (faults first.disk) (sum_by faults_in s.journal) t.count lost (faults s.core.disk) (b.opened).later (((t.loaded_by).run).session).faults t.faults_all

  -- each item has a moment of theirs
  many : {i : ℕ} → i < length s.journal → i < length t.moments
  many {i} below =
      let k = t.loaded_by in
      let all : length t.moments ≡ length s.journal =
      ap (λ (l : List ℕ). length l) ((k.run).session).moments ∙ length-map (moments_of (plan_in s) (begun_over first) first.calls k.turns) held ∙ as_many (plan_in s) (begun_over first) first.calls k.turns
      ∙ sym (ap (λ (l : List Item). length l) ((k.run).session).journal) in
      omega (arith, below, all)

  pub sizes_told : stated s.core.disk ≡ Some s.core.geometry
  sizes_told = ((t.loaded_by).run).sizes

  module _ (shaped : (d : D) (c : Content) → content d ≡ Some c → (g : Geometry) → stated d ≡ Some g → IsShaped g.block_size g.blocks c)
      (cuts_shaped : (d : D) (c : Content) → content d ≡ Some c → (g : Geometry) → stated d ≡ Some g → (t : ℕ) (image : List (List ℕ)) → left d t image → IsImage g.block_size g.blocks image)
      (counts_now : (d : D) (c : Content) → content d ≡ Some c → (t : ℕ) (image : List (List ℕ)) → t ≤ moment d → IsCrash c.candidates image → left d t image)
      (only_now : (d : D) (c : Content) → content d ≡ Some c → (t : ℕ) (image : List (List ℕ)) → moment d ≤ t → left d t image → IsCrash c.candidates image)
      (idle : s.core.memory.requests ≡ []) (buffers : Agrees (plan_in s) (state_in s) (read_in s))
      (c : Content) (is : content old ≡ Some c) where
    found : OpenedOn content moment old c first
    found = b.found c is

    fresh_by : IsFresh first_view
    fresh_by = record { memory = (b.fresh).memory; places = (b.fresh).places; admitted = (b.fresh).admitted; calls = (b.fresh).calls }

    begins : BeginsAt tells (plan_in seen) first_view (opening c.now)
    begins = begins_at tells (plan_in seen) first_view c.now fresh_by found.stands

    start_is : start ≡ max (moment old) (min (moment old + 2) (2 ^ 64 - 1))
    start_is = found.counted

    leads_for : LeadsFrom tells clock_by since_then (StandsFor s.core.geometry) first_view (opening c.now) seen
    leads_for = leads_from shows tells clock_by since_then failed (shaped_by stated content moment left start shaped cuts_shaped counts_now only_now) (only_now_by stated content moment left start shaped cuts_shaped counts_now only_now) first_view (opening c.now) seen t.loaded_by begins

    -- what is said of images on the way that the session leads
    module _ (says : Flat → Contents → Type 0) (w : LeadsFrom tells clock_by since_then says first_view (opening c.now) seen) (at_first : says (opening c.now) (contents_of c.now)) where
      legal : Legal (plan_in s) (read_in s) s.journal (beginning (opening c.now)) (w.place)
      legal = w.legal (read_in s) buffers

      stands : StandsIn content s.core (w.place).flat
      stands = w.stands idle

      -- the disk tells its content
      told : Tells content (λ e. IsStanding s.core.geometry s.core.memory (contents_of e.now) (candidates_of e.candidates) (w.place).flat) s.core.disk
      told = standing_told content s.core (w.place).flat stands

      knows : IsTold stated content moment left faults first (moment old) s t.clock t.at t.count t.calls t.moments told.told
      knows = t.told told.told told.is

      now_says : (cut : List (List ℕ)) → CanLeave (content s.core.disk) cut → says (w.place).flat (contents_of cut)
      now_says cut can = w.end idle told.told told.is cut (subst (λ o. CanLeave o cut) told.is can)

      -- what may be left now
      settled : (late : ℕ) (cut : List (List ℕ)) → t.clock ≤ t.at late → left s.core.disk late cut → CanLeave (content s.core.disk) cut
      settled late cut up past = subst (λ o. CanLeave o cut) (sym told.is) ((knows.twin).settled late cut up past)

      -- what might have been left since a moment before the first call, as the writers see it
      seen_early : (since : ℕ) (cut : List (List ℕ)) → since ≤ start → left s.core.disk since cut → since_then seen.core.disk since cut
      seen_early since cut low past =
          let same = (knows.twin).early since low in
          elim (cases_lt since t.clock) [
            | inl below ↦ inr (below, (since, omega (arith, same), λ again. same, past))
            | inr high ↦ inl (settled since cut (omega (arith, same, high)) past)
          ]

      left_first : (since : ℕ) (cut : List (List ℕ)) → since ≤ start → since_then first_view.disk since cut → left first.disk since cut
      left_first since cut low (inl can) = by (content first.disk) refl can
        where
          by : (o : Option Content) → content first.disk ≡ o → CanLeave o cut → left first.disk since cut
          by None at none = absurd none
          by (Some e) at crash = counts_now first.disk e at since cut low crash
      left_first since cut low (inr (below, (late, up, first_one, past))) =
          let at = first_one below in
          subst (λ n. left first.disk n cut) (let same : late ≡ since = omega (arith, at, below) in same) past

      ever : (since : ℕ) (cut : List (List ℕ)) → since ≤ moment old → left s.core.disk since cut → left old since cut ⊎ IsOnWay says c.now s w.place 0 cut
      ever since cut low since_left =
          let kept = (b.opened).cuts c is in
          let early : since ≤ start = omega (arith, low, kept.time) in
          elim (w.early (read_in s) buffers since cut early (seen_early since cut early since_left)) [
            | inl before ↦ elim (kept.only since cut low (left_first since cut early before)) [ inl was ↦ inl was | inr none ↦ absurd none ]
            | inr way ↦ inr way
          ]

      -- what might have been left since an item's moment, as the writers see it
      seen_item : (m n : ℕ) (cut : List (List ℕ)) → IsPair stated content moment left faults first (moment old) t.at m n → left s.core.disk (moment old + m) cut → since_then seen.core.disk (start - 2 + n) cut
      seen_item m n cut pair past = elim (cases_lt (start - 2 + n) t.clock) [
        | inl below ↦ inr (below, (moment old + m, omega (arith, below, pair.up, pair.after, knows.clock_is, start_is), λ again. absurd (omega (arith, again, pair.after, start_is)), past))
        | inr high ↦ inl (settled (moment old + m) cut (omega (arith, high, pair.up, pair.after, knows.clock_is, start_is)) past)
      ]

      item : (i : ℕ) (cut : List (List ℕ)) → i < length s.journal → slice_index_or s.moments i 0 < 2 ^ 64 - 1
          → left s.core.disk (moment old + slice_index_or s.moments i 0) cut → IsOnWay says c.now s w.place (suc i) cut
      item i cut below low since_left =
          let pair = pair_at stated content moment left faults first (moment old) t.at s.moments t.moments i knows.pairs (many below) low in
          let two = (b.fresh).calls in
          let base : start ≡ start - 2 + first.calls = omega (arith, two, start_is) in
          w.item (read_in s) buffers (start - 2) i cut base below pair.low (seen_item (slice_index_or s.moments i 0) (slice_index_or t.moments i 0) cut pair since_left)

      leads_by : PlayLeads content moment left says old c s
      leads_by = leads_on content moment left only_now says old c is s w.place at_first legal stands ever item now_says

    pub plain : IsPlain (slice_index_or c.now 0 [])
    plain = found.plain

    pub leads : PlayLeads content moment left (StandsFor s.core.geometry) old c s
    leads = leads_by (StandsFor s.core.geometry) leads_for (stands_opened s.core.geometry c.now plain)

    rose_all : (before first count lost now : ℕ) → before ≤ first → min (count + lost) (2 ^ 64 - 1) ≤ now → Rose first count → Rose before now
    rose_all before first count lost now later all rose = omega (arith, later, all, rose)

    pub ahead : (Rose (faults old) (faults s.core.disk) → ⊥) → PlayLeads content moment left (StandsAheadToo s.core.geometry) old c s
    ahead none =
        let low : StaysBelow (faults first.disk) t.count = λ rose. none (rose_all (faults old) (faults first.disk) t.count lost (faults s.core.disk) (b.opened).later t.faults_all rose) in
        let w = leads_ahead shows tells clock_by since_then failed (shaped_by stated content moment left start shaped cuts_shaped counts_now only_now) (only_now_by stated content moment left start shaped cuts_shaped counts_now only_now)
        (cuts_shaped_by stated content moment left start shaped cuts_shaped counts_now only_now) first_view (opening c.now) seen t.loaded_by begins found.led low in
        let image : IsImage s.core.geometry.block_size s.core.geometry.blocks c.now = subst (λ (g : Geometry). IsImage g.block_size g.blocks c.now) (t.loaded_by).sizes found.image in
        let standing = (told (StandsFor s.core.geometry) leads_for (stands_opened s.core.geometry c.now plain)).holds in
        leads_by (StandsAheadToo s.core.geometry) w (ahead_opened s.core.geometry c.now (omega (arith, (standing.sound).sizes.enough)) image plain)
