-- A first session that told no fault ends with its prepare, and if that was not done it found no room.
use Rattle.std.proofs.Common.{◌≡◌, ◌⊎◌, inl, inr, ℕ, zero, suc, ◌-◌, ◌<◌, ◌≤◌, nat_lt, Bool, true, false, cond, List, [], ◌∷◌, ◌++◌, Option, Some, None, length, refl, sym, ap, ◌∙◌, subst, arith, length-append}
use Rattle.std.specs.Prelude.{slice_get, slice_index_or}
use Rattle.std.specs.List.{All, sum_by}
use Rattle.std.specs.Option.{option_map}
use Rattle.std.proofs.lemmas.Bool.{cases_lt, lt-ltb, ltb-true}
use Rattle.std.proofs.lemmas.List.Sums.{sum_by-append, sum_by-cons}
use Rattle.bow_units.specs.declared.sizes.Geometry.{Geometry}
use Rattle.bow_units.specs.declared.requests.Op.{Op}
use Rattle.bow_units.specs.declared.requests.Op.TheVariants as ops
use Rattle.bow_units.specs.declared.requests.Outcome.{Outcome}
use Rattle.bow_units.specs.declared.requests.Outcome.TheVariants as outcomes
use Rattle.bow_units.specs.declared.requests.Phase.{Phase}
use Rattle.bow_units.specs.declared.requests.Phase.TheVariants.{Trim, Checkpoint, Deciding}
use Rattle.bow_disk.specs.Disk.{Content, IsCrash, IsImage, IsShaped}
use Rattle.bow_flat.specs.Flat.{Flat, Event, after, Allows, count_below, put}
use Rattle.bow_flat.specs.Flat.Event.{Arms, Prepares, Decides, Commits}
use Rattle.bow_core.specs.Standing.{StandsIn}
use Rattle.bow_core.specs.Views.{View}
use Rattle.bow_script.specs.declared.scripts.Line.{Line}
use Rattle.bow_script.specs.declared.scripts.Line.TheVariants as lines
use Rattle.bow_deal.specs.Dealing.{every, opening_part, preparing}
use Rattle.bow_history.specs.declared.items.Item.{Item}
use Rattle.bow_history.specs.declared.items.Item.TheVariants.{Wrote, Got, Answered}
use Rattle.bow_history.specs.Complete.{AreInOrder}
use Rattle.bow_history.specs.Journal.{Buffers, IsGot, IsWrote, ItemStep, Legal, Place, Plan, PrepareRow, Row, beginning}
use Rattle.bow_history.specs.Legality.{StartsUntouched}
use Rattle.bow_history.specs.Prepared.{AnswersPrepare}
use Rattle.bow_history.specs.Promises.{faults_in}
use Rattle.bow_history.specs.Sections.{BySections}
use Rattle.bow_history.proofs.Lists.{one_of}
use Rattle.bow_session.specs.Leads.{MayBeginAnew}
use Rattle.bow_session.specs.Parts.{Account, buffers_in, plan_at}
use Rattle.bow_session.specs.Requests.{lane_lines, plan_of, request_of, section_lines, section_of}
use Rattle.bow_session.proofs.Admitted.{inside_lanes}
use Rattle.bow_session.proofs.Plans.{at_most}
use Rattle.bow_pair.specs.Pairs.{IsPlayed, MayBeDealt}
use Rattle.bow_pair.specs.Playing.{EndsClean, EndsPrepared, HasPlayed}
use Rattle.bow_pair.specs.SessionLaws.{FindsNoRoom, RefusesPrepare}
use Rattle.bow_pair.proofs.InTheEnd.{standing_of}
use Rattle.bow_pair.proofs.Kept.{IsBy, got_keeps, row_keeps, wrote_keeps}
use Rattle.bow_pair.proofs.Phases.{first_lanes, in_section, line_holds}
use Rattle.bow_pair.proofs.Played.{complete_after, goes_after}
use Rattle.bow_pair.proofs.Rows.{element_at, get_before, get_behind}

-- ----------------------------------------------------------------------------------------------------------------
-- Where a plan ends with a prepare.

-- Lane 0 ends with a prepare, request `number`; it alone stands behind the first section, and no other request prepares.
pub record EndsWithPrepare (plan : Plan) (number : ℕ) : Type 0 where
  pub inside : 0 < plan.lanes
  pub prepare : plan.request 0 number ≡ Some ops.Prepare
  pub whole : (n : ℕ) → plan.request 0 n ≡ None → number < n
  pub behind : 1 ≤ plan.section 0 number
  pub alone : (lane n : ℕ) (op : Op) → plan.request lane n ≡ Some op → 1 ≤ plan.section lane n → (lane ≡ 0) × (n ≡ number)
  pub only : (lane n : ℕ) → plan.request lane n ≡ Some ops.Prepare → (lane ≡ 0) × (n ≡ number)

-- only a prepare ends the phase in which nothing was prepared
stays_trim : (n : ℕ) (op : Op) → (op ≡ ops.Prepare → ⊥) → (event : Event) → IsBy op event → (f : Flat) → Allows n event f → f.phase ≡ Trim → (after n event f).phase ≡ Trim
stays_trim n op other (Arms saved) of f may is = absurd (other of)
stays_trim n op other Prepares of f may is = absurd (other of)
stays_trim n op other Decides of f may is = absurd (let clash : Trim ≡ Checkpoint = sym is ∙ may in grind (arith, clash))
stays_trim n op other Commits of f may is = absurd (let clash : Trim ≡ Deciding = sym is ∙ may in grind (arith, clash))
stays_trim n op other event of f may is = is

-- a request prepares, or it does not
is_prepare : (op : Op) → (op ≡ ops.Prepare) ⊎ (op ≡ ops.Prepare → ⊥)
is_prepare ops.Prepare = inl refl
is_prepare (ops.Write e payload) = inr (λ is. grind (arith, is))
is_prepare (ops.Read e payload) = inr (λ is. grind (arith, is))
is_prepare (ops.Discard e) = inr (λ is. grind (arith, is))
is_prepare ops.Flush = inr (λ is. grind (arith, is))
is_prepare ops.Commit = inr (λ is. grind (arith, is))

module _ (plan : Plan) (buffer : Buffers) (number : ℕ) (k : EndsWithPrepare plan number) where
  -- These items end with the answer to that prepare, and up to it they are legal, and nothing is prepared.
  pub record EndsThere (items : List Item) (p : Place) : Type 0 where
    pub front : List Item
    pub outcome : Outcome
    pub items_are : items ≡ front ++ Answered 0 number outcome ∷ []
    pub place : Place
    pub legal : Legal plan buffer front p place
    pub trim : place.flat.phase ≡ Trim
    pub flat : Flat
    pub row : PrepareRow plan place outcome flat

  -- behind that answer comes no item
  no_more : (lane n low : ℕ) (op : Op) (next : ℕ → ℕ) → 1 ≤ low → next 0 ≡ suc number → plan.request lane n ≡ Some op → n ≡ next lane → low ≤ plan.section lane n → ⊥
  no_more lane n low op next behind past asked order section =
      let at = k.alone lane n op asked (omega (arith, behind, section)) in
      let is : n ≡ suc number = order ∙ ap next at.0 ∙ past in
      let was = at.1 in
      omega (arith, is, was)

  none_behind : (items : List Item) (p q : Place) (next last : ℕ → ℕ) (low : ℕ) → 1 ≤ low → next 0 ≡ suc number → Legal plan buffer items p q → AreInOrder next items last → BySections plan low items → items ≡ []
  none_behind [] p q next last low behind past legal order sections = refl
  none_behind (Wrote lane n b ∷ items) p q next last low behind past (mid, (is, op, asked, wrote), rest) order sections = absurd (no_more lane n low op next behind past asked order.0 sections.0)
  none_behind (Got lane n b ∷ items) p q next last low behind past (mid, (is, op, asked, got), rest) order sections = absurd (no_more lane n low op next behind past asked order.0 sections.0)
  none_behind (Answered lane n outcome ∷ items) p q next last low behind past (mid, (is, op, asked, flat, row, to), rest) order sections = absurd (no_more lane n low op next behind past asked order.0 sections.0)

  -- another answer leaves the prepare to go
  to_go : (lane n : ℕ) (op : Op) (next : ℕ → ℕ) → plan.request lane n ≡ Some op → (op ≡ ops.Prepare → ⊥) → n ≡ next lane → next 0 ≤ number → put next lane (suc (next lane)) 0 ≤ number
  to_go zero n op next asked other order few = omega (arith, few, order, not_there)
    where
      not_there : n ≡ number → ⊥
      not_there is = other (one_of (plan.request 0 n) op ops.Prepare asked (ap (plan.request 0) is ∙ k.prepare))
  to_go (suc lane) n op next asked other order few = let same : put next (suc lane) (suc (next (suc lane))) 0 ≡ next 0 = grind arith in omega (arith, same, few)

  -- one item more in front
  before : (item : Item) (items : List Item) (p mid : Place) → ItemStep plan buffer item p mid → EndsThere items mid → EndsThere (item ∷ items) p
  before item items p mid step e = record {
    front = item ∷ e.front;
    outcome = e.outcome;
    items_are = ap (λ l. item ∷ l) e.items_are;
    place = e.place;
    legal = (mid, step, e.legal);
    trim = e.trim;
    flat = e.flat;
    row = e.row;
  }

  abbrev NotPrepare : Op → Type 0
  NotPrepare op = op ≡ ops.Prepare → ⊥

  abbrev InTrim : Flat → Type 0
  InTrim f = f.phase ≡ Trim

  -- the answer to the prepare is the last item
  last_there : (lane n : ℕ) (op : Op) (outcome : Outcome) (items : List Item) (p : Place) (flat : Flat) → InTrim p.flat → plan.request lane n ≡ Some op → op ≡ ops.Prepare → Row plan p op outcome (p.done lane) flat
      → ((lane ≡ 0) × (n ≡ number) → items ≡ []) → EndsThere (Answered lane n outcome ∷ items) p
  last_there lane n op outcome items p flat trim asked is row none =
      let at = k.only lane n (asked ∙ ap Some is) in
      record {
        front = [];
        outcome = outcome;
        items_are = ap (λ l. Answered lane n outcome ∷ l) (none at) ∙ ap (λ m. Answered m n outcome ∷ []) at.0 ∙ ap (λ m. Answered 0 m outcome ∷ []) at.1;
        place = p;
        legal = refl;
        trim = trim;
        flat = flat;
        row = subst (λ (o : Op). Row plan p o outcome (p.done lane) flat) is row;
      }

  -- a legal journal, section by section, that answers that prepare ends with it
  pub ends_there : (items : List Item) (p q : Place) (next last : ℕ → ℕ) (low : ℕ) → InTrim p.flat → next 0 ≤ number → number < last 0 → Legal plan buffer items p q → AreInOrder next items last → BySections plan low items → EndsThere items p
  ends_there [] p q next last low trim few past legal order sections = absurd (let same = order 0 in omega (arith, same, few, past))
  ends_there (Wrote lane n b ∷ items) p q next last low trim few past (mid, (is, op, asked, wrote), rest) order sections =
      let still = wrote_keeps plan InTrim NotPrepare (stays_trim plan.sizes.blocks) lane b op p mid (λ same. subst (λ (o : Op). IsWrote plan lane b o p mid) same wrote) trim wrote in
      before (Wrote lane n b) items p mid (is, op, asked, wrote) (ends_there items mid q next last (plan.section lane n) still few past rest order.1 sections.1)
  ends_there (Got lane n b ∷ items) p q next last low trim few past (mid, (is, op, asked, got), rest) order sections =
      let still = got_keeps plan InTrim NotPrepare (stays_trim plan.sizes.blocks) buffer lane b op p mid (λ same. subst (λ (o : Op). IsGot plan buffer lane b o p mid) same got) trim got in
      before (Got lane n b) items p mid (is, op, asked, got) (ends_there items mid q next last (plan.section lane n) still few past rest order.1 sections.1)
  ends_there (Answered lane n outcome ∷ items) p q next last low trim few past (mid, (is, op, asked, flat, row, to), rest) order sections = elim (is_prepare op) [
    | inl prepares ↦ last_there lane n op outcome items p flat trim asked prepares row (λ at.
        none_behind items mid q (put next lane (suc (next lane))) last (plan.section lane n) (there at) (next_there at) rest order.1 sections.1)
    | inr other ↦
        let still : InTrim mid.flat = ap (λ (x : Place). x.flat.phase) to ∙ row_keeps plan InTrim NotPrepare (stays_trim plan.sizes.blocks) p trim flat op other outcome (p.done lane) row in
        before (Answered lane n outcome) items p mid (is, op, asked, flat, row, to)
        (ends_there items mid q (put next lane (suc (next lane))) last (plan.section lane n) still (to_go lane n op next asked other order.0 few) past rest order.1 sections.1)
  ]
    where
      there : (lane ≡ 0) × (n ≡ number) → 1 ≤ plan.section lane n
      there at = let same : plan.section lane n ≡ plan.section 0 number = ap (λ l. plan.section l n) at.0 ∙ ap (plan.section 0) at.1 in let behind = k.behind in omega (arith, same, behind)

      next_there : (lane ≡ 0) × (n ≡ number) → put next lane (suc (next lane)) 0 ≡ suc number
      next_there at = ap (λ l. put next l (suc (next lane)) 0) at.0 ∙ ap suc (sym order.0 ∙ at.1)

-- ----------------------------------------------------------------------------------------------------------------
-- A device's first part is such a plan.

-- a line that is played asks for no prepare
not_prepare : (size : ℕ) (line : Line) → IsPlayed line → request_of size line ≡ ops.Prepare → ⊥
not_prepare size (lines.Write first count seed) played is = grind (arith, is)
not_prepare size (lines.WriteHex first bytes) played is = grind (arith, is)
not_prepare size (lines.Read first count) played is = grind (arith, is)
not_prepare size (lines.Discard first count) played is = grind (arith, is)
not_prepare size lines.Flush played is = grind (arith, is)
not_prepare size lines.Prepare played is = played
not_prepare size lines.Commit played is = played

module _ (g : Geometry) (first : List (List Line)) where
  abbrev script_with : List (List (List Line))
  script_with = first ∷ preparing ∷ []

  abbrev asked_of : ℕ → ℕ → Option Op
  asked_of = (plan_of g script_with).request

  -- as many lines has lane 0 in the first section
  abbrev number_of : ℕ
  number_of = length (section_lines first 0)

  -- a request is of a line of the first section, or it is the one behind them
  which : (lane n : ℕ) (op : Op) → asked_of lane n ≡ Some op → (n < length (section_lines first lane)) ⊎ ((lane ≡ 0) × (n ≡ number_of))
  which lane n op asked = elim (cases_lt n (length (section_lines first lane))) [
    | inl low ↦ inl low
    | inr high ↦ inr (behind lane (at_most g script_with lane n op asked) high)
  ]
    where
      behind : (lane : ℕ) → n < length (lane_lines script_with lane) → length (section_lines first lane) ≤ n → (lane ≡ 0) × (n ≡ number_of)
      behind zero few high = (refl, omega (arith, few, high, length-append (section_lines first 0) (lines.Prepare ∷ [])))
      behind (suc lane) few high = absurd (let all = length-append (section_lines first (suc lane)) [] in omega (arith, few, high, all))

  -- those of the first section stand in it, and the one behind them does not
  first_section : (lane n : ℕ) → n < length (section_lines first lane) → section_of script_with lane n ≡ 0
  first_section lane n low = ap (λ (t : Bool). cond t 0 (suc (section_of (preparing ∷ []) lane (n - length (section_lines first lane))))) (lt-ltb n (length (section_lines first lane)) low)

  next_section : 1 ≤ section_of script_with 0 number_of
  next_section = by (nat_lt number_of number_of) refl
    where
      by : (t : Bool) → nat_lt number_of number_of ≡ t → 1 ≤ cond t 0 (suc (section_of (preparing ∷ []) 0 (number_of - number_of)))
      by true is = absurd (let low = ltb-true number_of number_of is in omega (arith, low))
      by false is = omega arith

  -- that one prepares, and none of lane 0 is missing up to it
  prepare_there : asked_of 0 number_of ≡ Some ops.Prepare
  prepare_there =
      let none : number_of - number_of ≡ 0 = omega arith in
      ap (option_map (request_of g.block_size)) (get_behind (section_lines first 0) (lines.Prepare ∷ []) number_of (omega arith) ∙ ap (λ n. slice_get (lines.Prepare ∷ []) n) none)

  none_before : (n : ℕ) → asked_of 0 n ≡ None → number_of < n
  none_before n none = elim (cases_lt number_of n) [
    | inl past ↦ past
    | inr low ↦
        let one = element_at (lane_lines script_with 0) n (omega (arith, low, length-append (section_lines first 0) (lines.Prepare ∷ []))) in
        absurd (let clash : None ≡ Some (request_of g.block_size one.0) = sym none ∙ ap (option_map (request_of g.block_size)) one.1 in grind (arith, clash))
  ]

  -- where the lines of the first section neither prepare nor commit, it ends with a prepare
  pub ends_with_prepare : ((lane : ℕ) → All IsPlayed (section_lines first lane)) → EndsWithPrepare (plan_of g script_with) number_of
  ends_with_prepare played = record {
    inside = inside_lanes g script_with 0 number_of ops.Prepare prepare_there;
    prepare = prepare_there;
    whole = none_before;
    behind = next_section;
    alone = λ lane n op asked section. elim (which lane n op asked) [
      | inl low ↦ absurd (let none = first_section lane n low in omega (arith, none, section))
      | inr at ↦ at
    ];
    only = λ lane n asked. elim (which lane n ops.Prepare asked) [ inl low ↦ absurd (other lane n low asked) | inr at ↦ at ];
  }
    where
      other : (lane n : ℕ) → n < length (section_lines first lane) → asked_of lane n ≡ Some ops.Prepare → ⊥
      other lane n low asked =
          let one = element_at (section_lines first lane) n low in
          let is : asked_of lane n ≡ Some (request_of g.block_size one.0) = ap (option_map (request_of g.block_size)) (get_before (section_lines first lane) (lane_lines (preparing ∷ []) lane) n low ∙ one.1) in
          not_prepare g.block_size one.0 (line_holds IsPlayed (section_lines first lane) n one.0 (played lane) one.1) (one_of (asked_of lane n) (request_of g.block_size one.0) ops.Prepare is asked)

-- ----------------------------------------------------------------------------------------------------------------
-- What its prepare is answered.

-- where nothing was prepared and no fault is told, a prepare is done, or finds no room
answers : (plan : Plan) (p : Place) (number : ℕ) (outcome : Outcome) (h : Flat) → plan.request 0 number ≡ Some ops.Prepare → p.flat.phase ≡ Trim → faults_in (Answered 0 number outcome) ≡ 0 → PrepareRow plan p outcome h
    → AnswersPrepare plan (Answered 0 number outcome) ⊎ (RefusesPrepare plan (Answered 0 number outcome) × (count_below p.flat.trim plan.sizes.blocks < 2))
answers plan p number outcomes.Done h asked trim none row = inl asked
answers plan p number (outcomes.NoSpace n) h asked trim none row = inr (asked, row.2)
answers plan p number (outcomes.DiskFault n) h asked trim none row = absurd (omega (arith, none))
answers plan p number (outcomes.WrongPhase phase) h asked trim none row = absurd (row.1 (sym row.0 ∙ trim))
answers plan p number outcomes.Data h asked trim none row = absurd row
answers plan p number outcomes.OutOfRange h asked trim none row = absurd row
answers plan p number outcomes.ReservedMagic h asked trim none row = absurd row
answers plan p number (outcomes.Unsettled phase) h asked trim none row = absurd row

-- the last item of what tells no fault tells none
last_tells_none : (front : List Item) (item : Item) → sum_by faults_in (front ++ item ∷ []) ≡ 0 → faults_in item ≡ 0
last_tells_none front item none = omega (arith, none, sum_by-append faults_in front (item ∷ []), sum_by-cons faults_in item [])

-- where nothing was prepared yet, a session may begin
may_begin : {D : Type 0} (content : D → Option Content) (v : View D) (f : Flat) → StandsIn content v f → f.phase ≡ Trim → MayBeginAnew v
may_begin content v f stands trim plan sizes =
    let phases = ((standing_of v.geometry v.memory (content v.disk) f stands).1).phases in
    subst (λ (phase : Phase). StartsUntouched plan v.memory phase v.memory.log) (sym trim ∙ phases) tt

module _ {D : Type 0} (stated : D → Option Geometry) (content : D → Option Content) (moment : D → ℕ) (left : D → ℕ → List (List ℕ) → Type 0) (faults : D → ℕ)
    (shaped : (d : D) (c : Content) → content d ≡ Some c → (g : Geometry) → stated d ≡ Some g → IsShaped g.block_size g.blocks c)
    (only_now : (d : D) (c : Content) → content d ≡ Some c → (t : ℕ) (image : List (List ℕ)) → moment d ≤ t → left d t image → IsCrash c.candidates image)
    (cuts_shaped : (d : D) (c : Content) → content d ≡ Some c → (g : Geometry) → stated d ≡ Some g → (t : ℕ) (image : List (List ℕ)) → left d t image → IsImage g.block_size g.blocks image) where
  -- a first session that told no fault ends with its prepare, which was done or found no room
  pub prepares_after : (script : List (List (List Line))) (device count : ℕ) (v w : View D) (a : Account) (f : Flat) → MayBeDealt script → HasPlayed stated content moment left faults (opening_part device count script) v w a
      → StandsIn content v f → f.phase ≡ Trim → EndsClean a → EndsPrepared a ⊎ FindsNoRoom f a
  prepares_after script device count v w a f may k stands trim clean =
      let part = opening_part device count script in
      let first = every count device (slice_index_or script 0 []) in
      let goes = goes_after stated content moment left faults shaped only_now cuts_shaped part v w a f k (may_begin content v f stands trim) stands in
      let complete = complete_after stated content moment left faults part v w a k in
      let ends : EndsWithPrepare (plan_at a) (number_of a.sizes first) =
      subst (λ (x : List (List (List Line))). EndsWithPrepare (plan_of a.sizes x) (number_of a.sizes first)) (sym complete.0)
      (ends_with_prepare a.sizes first (λ lane. in_section IsPlayed first lane (first_lanes IsPlayed device count script may.played))) in
      let whole = complete.3 in
      by (number_of a.sizes first) ends (ends_there (plan_at a) (buffers_in a) (number_of a.sizes first) ends a.journal (beginning f) goes.leads.place (λ lane. 0) whole.last 0 trim (omega arith) (ends.whole (whole.last 0) (whole.none_left 0 ends.inside)) goes.legal whole.in_order whole.sections)
    where
      by : (number : ℕ) (ends : EndsWithPrepare (plan_at a) number) → EndsThere (plan_at a) (buffers_in a) number ends a.journal (beginning f) → EndsPrepared a ⊎ FindsNoRoom f a
      by number ends e =
          let none = last_tells_none e.front (Answered 0 number e.outcome) (sym (ap (sum_by faults_in) e.items_are) ∙ clean) in
          elim (answers (plan_at a) e.place number e.outcome e.flat ends.prepare e.trim none e.row) [
            | inl done ↦ inl (clean, (e.front, Answered 0 number e.outcome, e.items_are, done))
            | inr refused ↦ inr (record {
              front = e.front;
              item = Answered 0 number e.outcome;
              journal = e.items_are;
              refused = refused.0;
              place = e.place;
              legal = e.legal;
              few = refused.1;
            })
          ]
