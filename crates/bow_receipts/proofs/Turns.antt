-- What one turn does on the disk, and that a history goes on by it.
use Rattle.std.proofs.Common.{◌≡◌, ℕ, ◌+◌, ◌-◌, ◌^◌, ◌≤◌, ◌++◌, max, List, [], ◌∷◌, Option, Some, None, arith, refl, sym, ap, ◌∙◌, subst}
use Rattle.std.specs.Option.{option_map}
use Rattle.bow_units.specs.Causes.{Rose}
use Rattle.bow_units.specs.declared.sizes.Geometry.{Geometry}
use Rattle.bow_disk.specs.Disk.{Content, IsCrash, IsShaped}
use Rattle.bow_machine.specs.Calls.{Call, Reply, Failed, Succeeded, calls_in}
use Rattle.bow_machine.specs.MemoryLaws.{IsOnDevice}
use Rattle.bow_core.specs.Ports.{Makes}
use Rattle.bow_core.specs.Views.{View}
use Rattle.bow_history.specs.Cuts.{NoneFails}
use Rattle.bow_history.specs.DiskCuts.{disk_of, HasCuts}
use Rattle.bow_history.specs.Histories.{session_after}
use Rattle.bow_history.specs.Journal.{Plan}
use Rattle.bow_history.specs.Sessions.{Session, Turned, after_turn, item_in, call_in, reply_in, IsTurn}
use Rattle.bow_history.specs.Promises.{items, more, held, Did, IsSession}
use Rattle.bow_history.specs.declared.items.Item.{Item}
use Rattle.bow_history.proofs.Sessions.{turns_keep_session}
use Rattle.bow_history.proofs.DiskCuts.{turns_have_cuts}
use Rattle.bow_session.specs.Leads.{StaysBelow}
use Rattle.bow_session.specs.Runs.{begun_over}
use Rattle.bow_session.proofs.Cutting.{DidTold, told_after}
use Rattle.bow_session.proofs.Leading.{no_call, none_fails_push, rose_later, rose_then}
use Rattle.bow_session.proofs.Running.{did_lists, has_fault}
use Rattle.bow_receipts.specs.Served.{view_under}

pub push : (plan : Plan) (s : Session) (turns : List Turned) (turn : Turned) → session_after plan s (turns ++ turn ∷ []) ≡ after_turn plan (session_after plan s turns) turn
push plan s [] turn = refl
push plan s (t ∷ turns) turn = push plan (after_turn plan s t) turns turn

module _ {D : Type 0} (stated : D → Option Geometry) (content : D → Option Content) (moment : D → ℕ) (left : D → ℕ → List (List ℕ) → Type 0) (faults : D → ℕ) where
  -- what a turn's call, if it makes one, did between two devices
  pub record TurnDid (g : Geometry) (call : Option Call) (reply : Reply) (old new : View D) : Type 0 where
    pub counted : new.calls ≡ max old.calls (held (old.calls + calls_in call))
    pub did : Did g call reply (option_map disk_of (content old.disk)) (option_map disk_of (content new.disk))
    pub sizes : stated new.disk ≡ Some g
    pub later : faults old.disk ≤ faults new.disk
    pub fault : reply ≡ Failed → (c : Call) → call ≡ Some c → Rose (faults old.disk) (faults new.disk)
    pub fine : StaysBelow (faults old.disk) (faults new.disk) → reply ≡ Failed → call ≡ None
    pub told : (c : Content) → content old.disk ≡ Some c → DidTold content moment left g call reply c old.disk new.disk

  module _ (shaped : (d : D) (c : Content) → content d ≡ Some c → (g : Geometry) → stated d ≡ Some g → IsShaped g.block_size g.blocks c) where
    pub did_step : (g : Geometry) (call : Option Call) (reply : Reply) (old new : View D) → stated old.disk ≡ Some g → IsOnDevice g call
        → Makes stated content moment left faults g call reply old.disk new.disk old.calls new.calls → TurnDid g call reply old new
    did_step g call reply old new sizes on made = record {
      counted = made.counted;
      did = did_lists stated content moment left faults shaped g call reply old.disk new.disk sizes made.sizes on made.disk;
      sizes = made.sizes;
      later = made.later;
      fault = has_fault call reply (faults old.disk) (faults new.disk) made.cause;
      fine = no_call call reply (faults old.disk) (faults new.disk) made.cause;
      told = λ c is. told_after stated content moment left faults shaped g call reply c old.disk new.disk is sizes made.sizes on made.disk made.time;
    }

    pub did_nothing : (g : Geometry) (old new : View D) → stated old.disk ≡ Some g → old.calls ≤ 2 ^ 64 - 1 → new.disk ≡ old.disk → new.calls ≡ old.calls → TurnDid g None Succeeded old new
    did_nothing g old new sizes few same count = record {
      counted = omega (arith, count, few);
      did = subst (λ d. Did g None Succeeded (option_map disk_of (content old.disk)) (option_map disk_of (content d))) (sym same) (still (content old.disk));
      sizes = ap stated same ∙ sizes;
      later = omega (arith, ap faults same);
      fault = λ failed c is. absurd (let clash : None ≡ Some c = is in grind (arith, clash));
      fine = λ low failed. refl;
      told = λ c is. record {
        told = c;
        tells = ap content same ∙ is;
        listed = (shaped old.disk c is g sizes).listed;
        does = (refl, refl);
        passes = (ap moment same, λ t image later. subst (λ d. left d t image) same later);
      };
    }
      where
        still : (o : Option Content) → Did g None Succeeded (option_map disk_of o) (option_map disk_of o)
        still None = tt
        still (Some c) = (refl, refl)

  module _ (g : Geometry) (first old new : View D) (turns : List Turned) (journal after : List Item) (moments next : List ℕ) (plan : Plan) (turn : Turned)
      (sizes : plan.sizes ≡ g) (may : IsTurn plan (session_after plan (begun_over first) turns) turn)
      (did : TurnDid g (call_in plan (session_after plan (begun_over first) turns) turn) (reply_in turn) old new) where
    -- it is a session still
    pub session_on : IsSession (view_under content faults first old turns journal moments plan)
        → new.geometry ≡ old.geometry
        → new.memory ≡ (after_turn plan (session_after plan (begun_over first) turns) turn).memory
        → new.admitted ≡ (after_turn plan (session_after plan (begun_over first) turns) turn).admitted
        → after ≡ journal ++ items (item_in plan (session_after plan (begun_over first) turns) turn)
        → next ≡ moments ++ more (item_in plan (session_after plan (begun_over first) turns) turn) new.calls
        → IsSession (view_under content faults first new (turns ++ turn ∷ []) after next plan)
    session_on k geometry memory admitted goes on =
        turns_keep_session (view_under content faults first old turns journal moments plan) turn (view_under content faults first new (turns ++ turn ∷ []) after next plan) k (record {
          may = may;
          plan = refl;
          first = refl;
          sizes = geometry;
          memory = memory;
          admitted = admitted;
          turns = refl;
          journal = goes;
          moments = on;
          counted = did.counted;
          did = subst (λ z. Did z (call_in plan (session_after plan (begun_over first) turns) turn) (reply_in turn) (option_map disk_of (content old.disk)) (option_map disk_of (content new.disk))) (sym sizes) did.did;
          later = did.later;
          fault = did.fault;
        })

    -- its cuts are those of its run still
    pub cuts_on : ((d : D) (c : Content) → content d ≡ Some c → (t : ℕ) (image : List (List ℕ)) → moment d ≤ t → left d t image → IsCrash c.candidates image)
        → (c : Content) → HasCuts content moment left first.disk old.disk plan (begun_over first) turns (disk_of c)
        → HasCuts content moment left first.disk new.disk plan (begun_over first) (turns ++ turn ∷ []) (disk_of c)
    cuts_on only_now c has =
        let done = subst (λ z. DidTold content moment left z (call_in plan (session_after plan (begun_over first) turns) turn) (reply_in turn) has.last old.disk new.disk) (sym sizes) (did.told has.last has.tells) in
        turns_have_cuts content moment left only_now first.disk old.disk new.disk has.last done.told plan (begun_over first) turns turn (disk_of c) has has.tells done.tells done.listed may done.does done.passes

    -- and no call failed still
    pub fine_on : faults first.disk ≤ faults old.disk → (StaysBelow (faults first.disk) (faults old.disk) → NoneFails plan (begun_over first) turns)
        → StaysBelow (faults first.disk) (faults new.disk) → NoneFails plan (begun_over first) (turns ++ turn ∷ [])
    fine_on later fine low = none_fails_push plan (begun_over first) turns turn
        (fine (λ rose. low (rose_then (faults first.disk) (faults old.disk) (faults new.disk) did.later rose)))
        (did.fine (λ rose. low (rose_later (faults first.disk) (faults old.disk) (faults new.disk) later rose)))
