-- A call beside the requests leaves what a session keeps.
use Rattle.std.proofs.Common.{◌≡◌, ℕ, sym, subst}
use Rattle.bow_core.specs.Views.{View}
use Rattle.bow_session.specs.declared.desks.Desk.{Desk}
use Rattle.bow_session.specs.Desks.{Fits}

-- the same session over another disk and another count of calls
over_disk : {D R : Type 0} (s : Desk D R) → Fits s → (disk : D) (calls : ℕ)
    → Fits {D = D} {R = R} (record { core = record s.core { disk = disk; calls = calls }; script = s.script; records = s.records })
over_disk s k disk calls = record {
  sound = k.sound;
  places = k.places;
  numbers = k.numbers;
  few = k.few;
  small = k.small;
  lanes = k.lanes;
  seats = k.seats;
  serials = k.serials;
  items = k.items;
  moments = k.moments;
  paired = k.paired;
}

pub fits_beside : {D R : Type 0} (s : Desk D R) → Fits s → (core : View D) → core ≡ record s.core { disk = core.disk; calls = core.calls }
    → Fits {D = D} {R = R} (record { core = core; script = s.script; records = s.records })
fits_beside {D} {R} s k core same = subst (λ (c : View D). Fits {D = D} {R = R} (record { core = c; script = s.script; records = s.records })) (sym same) (over_disk s k core.disk core.calls)
