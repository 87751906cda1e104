-- What sessions leave that were played to their ends.
use Rattle.std.proofs.Common.{◌≡◌, inl, inr, ℕ, zero, suc, ◌+◌, ◌*◌, ◌≤◌, List, [], ◌∷◌, ◌++◌, Option, Some, length, sym, ap, ◌∙◌, subst, arith}
use Rattle.std.specs.List.{AllByRecursion as Each, sum_by}
use Rattle.std.proofs.lemmas.Option.{slice_get_within}
use Rattle.bow_units.specs.declared.sizes.Geometry.{Geometry}
use Rattle.bow_units.specs.declared.requests.Phase.TheVariants.{Checkpoint}
use Rattle.bow_disk.specs.Disk.{Content, IsCrash, IsShaped, IsImage}
use Rattle.bow_flat.specs.Flat.{Flat}
use Rattle.bow_guard.specs.Standing.{StandsFor}
use Rattle.bow_core.specs.Further.{LedIn}
use Rattle.bow_core.specs.Standing.{StandsIn}
use Rattle.bow_core.specs.Views.{IsGivenOut, IsOpened, View}
use Rattle.bow_script.specs.declared.scripts.Line.{Line}
use Rattle.bow_script.specs.Scripts.{IsWithinLimits}
use Rattle.bow_deal.proofs.Dealt.{later_within, opening_within}
use Rattle.bow_history.specs.Complete.{IsComplete}
use Rattle.bow_history.specs.declared.items.Item.{Item}
use Rattle.bow_history.specs.Ends.{over_lanes}
use Rattle.bow_history.specs.Histories.{session_after}
use Rattle.bow_history.specs.Journal.{Plan}
use Rattle.bow_history.specs.Prepared.{AnswersPrepare, IsPrepared}
use Rattle.bow_history.specs.Promises.{faults_in, held}
use Rattle.bow_history.specs.Sessions.{Session}
use Rattle.bow_history.specs.SoundSessions.{IsSoundSession}
use Rattle.bow_history.proofs.SoundTurns.{beginning_is_sound}
use Rattle.bow_session.specs.Leads.{LeadsFrom, MayBeginAnew, WasLoaded, requests_of}
use Rattle.bow_session.specs.Parts.{Account, account_of, plan_at}
use Rattle.bow_session.specs.Requests.{lanes_of, plan_of, requests_in}
use Rattle.bow_session.specs.Runs.{begun_over}
use Rattle.bow_session.specs.Sessions.{Run, plan_in, state_in}
use Rattle.bow_session.proofs.Anew.{leads_on}
use Rattle.bow_session.proofs.Cutting.{over_is_complete, over_is_idle}
use Rattle.bow_session.proofs.Leading.{kept_agrees, leads_from}
use Rattle.bow_session.proofs.Loads.{few_lanes, few_requests}
use Rattle.bow_pair.specs.Deciding.{AreAtRest}
use Rattle.bow_pair.specs.Pairs.{AreReady, MayBeDealt, WerePrepared}
use Rattle.bow_pair.specs.Playing.{EndsPrepared, GoesFrom, HasPlayed, HavePlayed, LeadsTo, part_for}
use Rattle.bow_pair.specs.Preparing.{AnswersPrepared, AnswersRan}
use Rattle.bow_pair.specs.declared.pairs.Prepared.TheVariants.{All}
use Rattle.bow_pair.specs.declared.pairs.Ran.TheVariants.{Clean}
use Rattle.bow_pair.specs.declared.playing.Round.{Round}
use Rattle.bow_pair.specs.declared.playing.Round.TheVariants.{Opening, Later}
use Rattle.bow_pair.proofs.Phases.{NoneAsks, part_asks_none, run_prepares, run_stays}
use Rattle.bow_pair.proofs.Rows.{there_too}

-- a device's part of a script is within the limits
pub part_within : (round : Round) (device count : ℕ) (script : List (List (List Line))) → MayBeDealt script → IsWithinLimits (part_for round device count script)
part_within Opening device count script may = opening_within device count script may.limits may.few
part_within Later device count script may = later_within device count script may.limits

-- so many requests at most in so many lanes
few_over : (f : ℕ → ℕ) → ((lane : ℕ) → f lane ≤ 65536) → (lanes : ℕ) → over_lanes f lanes ≤ lanes * 65536
few_over f few zero = omega arith
few_over f few (suc lanes) = let rest = few_over f few lanes in let one = few lanes in omega (arith, rest, one)

pub requests_within : (script : List (List (List Line))) → IsWithinLimits script → requests_of script ≤ 2097152
requests_within script limits =
    let all = few_over (requests_in script) (few_requests script limits) (lanes_of script) in
    let lanes = few_lanes script limits in
    omega (arith, all, lanes)

-- a journal that ends with a prepare that was done
pub ends_prepared : (plan : Plan) (front : List Item) (item : Item) → AnswersPrepare plan item → IsPrepared plan (front ++ item ∷ [])
ends_prepared plan [] item done = inl (done, tt)
ends_prepared plan (other ∷ front) item done = inr (ends_prepared plan front item done)

-- what is said of all accounts is said of so many devices
pub of_all : (P : ℕ → List Account → Type 0) (told accounts : List Account) (many : ℕ) → P (length told) told → told ≡ accounts → length accounts ≡ many → P many accounts
of_all P told accounts many so are as_many = subst (λ (n : ℕ). P n accounts) as_many (subst (λ (l : List Account). P (length l) l) are so)

module _ {D : Type 0} (stated : D → Option Geometry) (content : D → Option Content) (moment : D → ℕ) (left : D → ℕ → List (List ℕ) → Type 0) (faults : D → ℕ) where
  abbrev Played : List (List (List Line)) → View D → View D → Account → Type 0
  Played script v w a = HasPlayed stated content moment left faults script v w a

  -- the session is sound
  sound_run : (first : View D) (s : Run D) → WasLoaded stated content moment left faults first s → IsSoundSession (plan_in s) (state_in s)
  sound_run first s k = subst (IsSoundSession (plan_in s)) k.run.state k.run.session.sound

  -- no request waits
  idle_after : (script : List (List (List Line))) (v w : View D) (a : Account) → Played script v w a → w.memory.requests ≡ []
  idle_after script v w a k = ap (λ (x : View D). x.memory.requests) (sym k.device) ∙ over_is_idle stated content faults v k.loaded.turns k.session k.loaded.run k.over

  -- the device is one that was opened
  pub opened_after : (script : List (List (List Line))) (v w : View D) (a : Account) → Played script v w a → IsOpened stated w
  opened_after script v w a k =
      let idle = over_is_idle stated content faults v k.loaded.turns k.session k.loaded.run k.over in
      let places = k.ended.places in
      subst (IsOpened stated) k.device (record {
        sizes = k.loaded.run.sizes;
        sound = (sound_run v k.session k.loaded).memory;
        few = omega (arith, places);
        given_out = subst (Each (IsGivenOut k.session.core.admitted)) (sym idle) tt;
      })

  -- so many requests were taken in
  admitted_after : (script : List (List (List Line))) (v w : View D) (a : Account) → IsWithinLimits script → Played script v w a → w.admitted ≤ v.admitted + 2097152
  admitted_after script v w a limits k =
      let few = k.ended.admitted v k.loaded in
      let bound = requests_within k.session.script (subst IsWithinLimits (sym k.asked) limits) in
      subst (λ (x : View D). x.admitted ≤ v.admitted + 2097152) k.device (omega (arith, few, bound))

  -- the journal says that the device was prepared
  is_prepared : (a : Account) → EndsPrepared a → IsPrepared (plan_at a) a.journal
  is_prepared a prepared = subst (IsPrepared (plan_at a)) (sym (prepared.1).2) (ends_prepared (plan_at a) (prepared.1).0 (prepared.1).1 (prepared.1).3)

  -- another session may begin where it ended prepared
  pub anew_after : (script : List (List (List Line))) (v w : View D) (a : Account) → Played script v w a → EndsPrepared a → MayBeginAnew w
  anew_after script v w a k prepared =
      subst MayBeginAnew k.device (k.ended.anew v k.loaded k.over (λ at. subst (λ (b : Account). IsPrepared (plan_at b) b.journal) (sym k.account) (is_prepared a prepared)))

  -- the session began soundly, and asks for no commit where its script has none
  module _ (script : List (List (List Line))) (v w : View D) (a : Account) (k : Played script v w a) (none : (g : Geometry) → NoneAsks (plan_of g script)) where
    abbrev s : Run D
    s = k.session

    start_sound : IsSoundSession (plan_in s) (begun_over v)
    start_sound = beginning_is_sound (plan_in s) v.memory v.admitted k.loaded.sound k.loaded.idle

    none_asks : NoneAsks (plan_in s)
    none_asks = subst (λ (x : List (List (List Line))). NoneAsks (plan_of s.core.geometry x)) (sym k.asked) (none s.core.geometry)

    phase_is : w.memory.phase ≡ (session_after (plan_in s) (begun_over v) k.loaded.turns).memory.phase
    phase_is = ap (λ (x : View D). x.memory.phase) (sym k.device) ∙ ap (λ (x : Session). x.memory.phase) (sym k.loaded.run.state)

    -- over a device in the checkpoint it leaves it there, whatever failed
    pub stays_after : v.memory.phase ≡ Checkpoint → w.memory.phase ≡ Checkpoint
    stays_after at = phase_is ∙ run_stays (plan_in s) (begun_over v) k.loaded.turns k.loaded.run.session.rise none_asks start_sound k.loaded.run.session.may at

    -- and where it ended prepared, the device is there
    pub checkpoint_after : EndsPrepared a → w.memory.phase ≡ Checkpoint
    checkpoint_after prepared =
        let journal : IsPrepared (plan_in s) s.journal = subst (λ (b : Account). IsPrepared (plan_at b) b.journal) (sym k.account) (is_prepared a prepared) in
        phase_is ∙ run_prepares (plan_in s) (begun_over v) k.loaded.turns k.loaded.run.session.rise none_asks start_sound k.loaded.run.session.may (subst (IsPrepared (plan_in s)) k.loaded.run.session.journal journal)

  -- devices that are ready for their first session, or were prepared, are ready for one more
  pub ready_once : (cores : List (View D)) → AreReady 0 cores → AreReady 1 cores
  ready_once cores ready k v at = let was = ready k v at in record {
    idle = was.idle;
    places = was.places;
    admitted = let few = was.admitted in omega (arith, few);
    anew = was.anew;
  }

  pub ready_prepared : (cores : List (View D)) → WerePrepared cores → AreReady 1 cores
  ready_prepared cores prepared k v at = (prepared k v at).ready

  -- all devices were prepared
  pub prepared_after : (round : Round) (script : List (List (List Line))) (old new : List (View D)) (accounts : List Account) → MayBeDealt script → AreReady 0 old
      → HavePlayed stated content moment left faults (λ device. part_for round device (length old) script) old new accounts → AnswersPrepared new accounts All → WerePrepared new
  prepared_after round script old new accounts may ready played ends k w at =
      let v = there_too new old k w (sym played.many) at in
      let a = there_too new accounts k w (played.as_many ∙ sym played.many) at in
      let one = played.each k v.0 w a.0 v.1 at a.1 in
      let end = ends k a.0 (slice_get_within new k w at) a.1 in
      let part = part_for round k (length old) script in
      let was = ready k v.0 v.1 in
      let few = admitted_after part v.0 w a.0 (part_within round k (length old) script may) one in
      let none = was.admitted in
      let places = one.ended.places in
      record {
        ready = record {
          idle = idle_after part v.0 w a.0 one;
          places = ap (λ (x : View D). x.places) (sym one.device) ∙ places;
          admitted = omega (arith, few, none);
          anew = anew_after part v.0 w a.0 one end;
        };
        checkpoint = checkpoint_after part v.0 w a.0 one (λ g. part_asks_none g round k (length old) script may) end;
      }

  -- all devices are at rest
  pub at_rest_after : (round : Round) (script : List (List (List Line))) (old new : List (View D)) (accounts : List Account) → MayBeDealt script → WerePrepared old
      → HavePlayed stated content moment left faults (λ device. part_for round device (length old) script) old new accounts → AnswersRan new accounts Clean → AreAtRest stated 2 new
  at_rest_after round script old new accounts may ready played ends k w at =
      let v = there_too new old k w (sym played.many) at in
      let a = there_too new accounts k w (played.as_many ∙ sym played.many) at in
      let one = played.each k v.0 w a.0 v.1 at a.1 in
      let part = part_for round k (length old) script in
      let few = admitted_after part v.0 w a.0 (part_within round k (length old) script may) one in
      let was = ready k v.0 v.1 in
      let none = was.ready.admitted in
      let places : w.places ≡ 16 = ap (λ (x : View D). x.places) (sym one.device) ∙ one.ended.places in
      record {
        opened = opened_after part v.0 w a.0 one;
        checkpoint = stays_after part v.0 w a.0 one (λ g. part_asks_none g round k (length old) script may) was.checkpoint;
        idle = idle_after part v.0 w a.0 one;
        places = omega (arith, places);
        serials = omega (arith, few, none);
      }

  -- the journal is complete
  pub complete_after : (script : List (List (List Line))) (v w : View D) (a : Account) → Played script v w a
      → (a.script ≡ script) × (a.sizes ≡ v.geometry) × (w.geometry ≡ v.geometry) × IsComplete (plan_at a) a.journal
  complete_after script v w a k = (
    ap (λ (b : Account). b.script) (sym k.account) ∙ k.asked,
    ap (λ (b : Account). b.sizes) (sym k.account) ∙ sym k.loaded.sizes,
    ap (λ (x : View D). x.geometry) (sym k.device) ∙ sym k.loaded.sizes,
    subst (λ (b : Account). IsComplete (plan_at b) b.journal) k.account (over_is_complete stated content faults v k.loaded.turns k.session k.loaded.run k.over k.loaded.sound k.loaded.idle),
  )

  -- so many faults were counted
  pub faults_after : (script : List (List (List Line))) (v w : View D) (a : Account) → Played script v w a → held (faults v.disk + sum_by faults_in a.journal) ≤ faults w.disk
  faults_after script v w a k =
      let s = k.session in
      subst (λ (x : View D). held (faults v.disk + sum_by faults_in a.journal) ≤ faults x.disk) k.device
      (subst (λ (b : Account). held (faults v.disk + sum_by faults_in b.journal) ≤ faults s.core.disk) k.account k.loaded.run.session.faults)

  module _ (shaped : (d : D) (c : Content) → content d ≡ Some c → (g : Geometry) → stated d ≡ Some g → IsShaped g.block_size g.blocks c)
      (only_now : (d : D) (c : Content) → content d ≡ Some c → (t : ℕ) (image : List (List ℕ)) → moment d ≤ t → left d t image → IsCrash c.candidates image)
      (cuts_shaped : (d : D) (c : Content) → content d ≡ Some c → (g : Geometry) → stated d ≡ Some g → (t : ℕ) (image : List (List ℕ)) → left d t image → IsImage g.block_size g.blocks image) where
    -- where it goes, whatever failed
    pub goes_after : (script : List (List (List Line))) (v w : View D) (a : Account) (f : Flat) → (k : Played script v w a) → MayBeginAnew v → StandsIn content v f
        → GoesFrom content moment left v f k.session w a
    goes_after script v w a f k anew stands =
        let s = k.session in
        let from : LeadsFrom content moment left (StandsFor v.geometry) v f s =
        subst (λ (g : Geometry). LeadsFrom content moment left (StandsFor g) v f s) (sym k.loaded.sizes)
        (leads_from stated content moment left faults shaped only_now v f s k.loaded (stands, anew (plan_in s) (sym k.loaded.sizes))) in
        let agrees = kept_agrees s (sound_run v s k.loaded) k.over in
        let idle = over_is_idle stated content faults v k.loaded.turns s k.loaded.run k.over in
        subst (λ (b : Account). GoesFrom content moment left v f s w b) k.account (subst (λ (x : View D). GoesFrom content moment left v f s x (account_of s)) k.device (record {
          leads = from;
          buffers = agrees;
          legal = from.legal (state_in s).kept agrees;
          stands = from.stands idle;
        }))

    -- where it leads, if no fault was told
    pub leads_after : (script : List (List (List Line))) (v w : View D) (a : Account) (f : Flat) → Played script v w a → MayBeginAnew v → sum_by faults_in a.journal ≡ 0
        → StandsIn content v f → LedIn content v f → LeadsTo content f w a
    leads_after script v w a f k anew none stands led =
        let s = k.session in
        let told : sum_by faults_in s.journal ≡ 0 = ap (λ (b : Account). sum_by faults_in b.journal) k.account ∙ none in
        let ahead = leads_on stated content moment left faults v s k.loaded shaped only_now cuts_shaped f (stands, anew (plan_in s) (sym k.loaded.sizes)) led told in
        let idle = over_is_idle stated content faults v k.loaded.turns s k.loaded.run k.over in
        subst (λ (b : Account). LeadsTo content f w b) k.account (subst (λ (x : View D). LeadsTo content f x (account_of s)) k.device (record {
          place = ahead.leads.place;
          legal = ahead.leads.legal (state_in s).kept (kept_agrees s (sound_run v s k.loaded) k.over);
          stands = ahead.leads.stands idle;
          led = ahead.led idle;
        }))
