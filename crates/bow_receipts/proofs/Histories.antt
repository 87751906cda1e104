-- Histories go on.
use Rattle.std.proofs.Common.{◌∙◌, suc, List, arith, refl, subst, sym}
use Rattle.bow_units.specs.declared.sizes.Geometry.{Geometry}
use Rattle.bow_machine.specs.MemoryIsSound.{MemoryIsSound}
use Rattle.bow_history.specs.Journal.{Plan}
use Rattle.bow_history.specs.Sections.{SectionsRise}
use Rattle.bow_history.specs.Complete.{AreInOrder}
use Rattle.bow_history.specs.Promises.{start_of, state_of}
use Rattle.bow_history.specs.declared.items.Item.{Item}
use Rattle.bow_history.proofs.SoundTurns.{beginning_is_sound, runs_go_in_order}
use Rattle.bow_history.proofs.Sessions.{loaded_is_session, turns_keep_session, sessions_are_legal}
use Rattle.bow_receipts.specs.Asking.{Asked, AsksAtLeast, AskedMore, LoadedIsHistory, TurnsKeepHistory, HistoriesAreLegal, HistoriesGoInOrder, HistoriesCountFaults, plan_of, under}

-- a plan that asks more asks all that was asked before
asks_before : (g : Geometry) (asked more : Asked) (plan : Plan) → AskedMore asked more
    → AsksAtLeast g more plan → AsksAtLeast g asked plan
asks_before g asked more plan m h = record {
  sizes = h.sizes;
  callers = h.callers ∙ m.callers;
  requests = λ caller n op at. h.requests caller n op (m.kept caller n op at);
  section = h.section;
}

-- there is one section
pub one_section : (g : Geometry) (asked : Asked) (plan : Plan) → AsksAtLeast g asked plan → SectionsRise plan
one_section g asked plan h lane n = let a = h.section lane n in let b = h.section lane (suc n) in omega arith

-- a plan asks at least what it asks
asks_itself : (g : Geometry) (asked : Asked) → AsksAtLeast g asked (plan_of g asked)
asks_itself g asked = record { sizes = refl; callers = refl; requests = λ caller n op at. at; section = λ caller n. refl }

pub loaded_is_history : LoadedIsHistory
loaded_is_history g asked core sizes few sound none plan h =
    loaded_is_session plan core (sizes ∙ sym h.sizes) few (one_section g asked plan h) (subst (λ s. MemoryIsSound s core.memory) (sym h.sizes) sound) none

pub turns_keep_history : TurnsKeepHistory
turns_keep_history g asked more old turn new history m goes plan h =
    turns_keep_session (under plan old) turn (under plan new) (history plan (asks_before g asked more plan m h)) (goes plan h)

pub histories_are_legal : HistoriesAreLegal
histories_are_legal g asked v f d history told ready =
    sessions_are_legal (under (plan_of g asked) v) f d (history (plan_of g asked) (asks_itself g asked)) told ready

pub histories_go_in_order : HistoriesGoInOrder
histories_go_in_order g asked v history sound none =
    let plan = plan_of g asked in
    let u = under plan v in
    let asks = asks_itself g asked in
    let h = history plan asks in
    let start = beginning_is_sound plan v.first.memory v.first.admitted sound none in
    let order = (runs_go_in_order plan (start_of u) v.turns 0 (one_section g asked plan asks) start h.may (λ caller op at. omega arith)).0 in
    subst (λ (items : List Item). AreInOrder (λ caller. 0) items (state_of u).number) (sym h.journal) order

pub histories_count_faults : HistoriesCountFaults
histories_count_faults g asked v history = (history (plan_of g asked) (asks_itself g asked)).faults
