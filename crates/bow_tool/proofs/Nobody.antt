-- A script without a lane: nobody calls, and the device is as it was opened.
use Rattle.std.proofs.Common.{◌≡◌, ℕ, ◌≤◌, List, [], Option, Some, None, arith, refl, sym, ap, subst}
use mathlib.Core.Option.{some-ne-none}
use Rattle.bow_units.specs.declared.sizes.Geometry.{Geometry}
use Rattle.bow_units.specs.Sizes.{IsValid}
use Rattle.bow_disk.specs.Disk.{Content, IsCrash, IsImage, IsShaped}
use Rattle.bow_chain.specs.Contents.{Contents, contents_of}
use Rattle.bow_flat.specs.Flat.{Flat}
use Rattle.bow_guard.specs.Cuts.{candidates_of}
use Rattle.bow_guard.specs.Standing.{StandsFor}
use Rattle.bow_machine.specs.Ahead.{IsLed}
use Rattle.bow_machine.specs.Memory.{Memory}
use Rattle.bow_machine.specs.MemoryIsSound.{MemoryIsSound}
use Rattle.bow_machine.proofs.SoundOpenings.{opening_is_sound}
use Rattle.bow_core.specs.Further.{LedIn, LedOver}
use Rattle.bow_core.specs.Standing.{StandsIn, StandsOver}
use Rattle.bow_core.specs.Views.{View}
use Rattle.bow_script.specs.declared.scripts.Line.{Line}
use Rattle.bow_history.specs.Complete.{IsComplete}
use Rattle.bow_history.specs.DiskCuts.{DiskLeads, HasCuts, StandsAheadToo, disk_of}
use Rattle.bow_history.specs.Fits.{Agrees}
use Rattle.bow_history.specs.Journal.{Buffers, Place, Plan, beginning}
use Rattle.bow_history.specs.Legality.{IsReadyFor}
use Rattle.bow_history.proofs.DiskCuts.{cuts_of_disk, cuts_of_disk_are_ahead, loaded_has_cuts}
use Rattle.bow_history.proofs.Runs.{beginning_is_at}
use Rattle.bow_session.specs.Leads.{BeginsAt, StaysBelow}
use Rattle.bow_session.specs.Requests.{lanes_of, plan_of}
use Rattle.bow_session.specs.Runs.{begun_over, core_of}
use Rattle.bow_play.specs.Playing.{IsFresh}
use Rattle.bow_receipts.specs.Called.{IsCalled}
use Rattle.bow_receipts.specs.Closing.{CallsLead, asked_by, plan_by}
use Rattle.bow_receipts.specs.Asking.{Asked}
use Rattle.bow_receipts.proofs.Histories.{loaded_is_history}
use Rattle.bow_receipts.proofs.Serving.{asks_itself}
use Rattle.bow_receipts.proofs.Lists.{clash, one_of}

module _ {D : Type 0} (stated : D → Option Geometry) (content : D → Option Content) (moment : D → ℕ) (left : D → ℕ → List (List ℕ) → Type 0) (faults : D → ℕ)
    (shaped : (d : D) (c : Content) → content d ≡ Some c → (z : Geometry) → stated d ≡ Some z → IsShaped z.block_size z.blocks c)
    (only_now : (d : D) (c : Content) → content d ≡ Some c → (t : ℕ) (image : List (List ℕ)) → moment d ≤ t → left d t image → IsCrash c.candidates image)
    (cuts_shaped : (d : D) (c : Content) → content d ≡ Some c → (z : Geometry) → stated d ≡ Some z → (t : ℕ) (image : List (List ℕ)) → left d t image → IsImage z.block_size z.blocks image)
    (script : List (List (List Line))) (none : lanes_of script ≡ 0) (core : View D) (fresh : IsFresh core) (valid : IsValid core.geometry) (sizes : stated core.disk ≡ Some core.geometry) where
  abbrev plan : Plan
  plan = plan_by core.geometry (lanes_of script) []

  abbrev asked : Asked
  asked = asked_by (lanes_of script) []

  sound : MemoryIsSound core.geometry core.memory
  sound = subst (MemoryIsSound core.geometry) (sym fresh.memory) (opening_is_sound core.geometry valid)

  idle : core.memory.requests ≡ []
  idle = ap (λ (m : Memory). m.requests) fresh.memory

  agrees : (buffer : Buffers) → Agrees plan (begun_over core) buffer
  agrees buffer = record { before = λ lane n below. absurd (omega (arith, below)); there = λ lane. tt }

  -- the device leads nowhere else
  leads_by : (says : Flat → Contents → Type 0) (f : Flat) → StandsIn content core f → DiskLeads content moment left says core.disk core.disk plan (begun_over core) [] (beginning f)
      → CallsLead content moment left says plan core f core [] [] []
  leads_by says f stands d = record {
    place = d.place;
    legal = λ buffer holds. d.legal buffer (agrees buffer);
    stands = subst (λ (p : Place). StandsIn content core p.flat) (sym (d.legal (λ lane n. []) (agrees (λ lane n. [])))) stands;
    end = λ c is image crash. (let same : d.last ≡ c = one_of (content core.disk) d.last c d.tells is in d.end idle image (subst (λ (z : Content). IsCrash z.candidates image) (sym same) crash));
    ever = λ buffer holds since image later was. d.ever buffer (agrees buffer) since image later was;
    early = λ buffer holds since image earlier was. d.early buffer (agrees buffer) since image earlier was;
    item = λ buffer holds i image inside was. absurd (omega (arith, inside));
  }

  ready : (f : Flat) → BeginsAt content plan core f → (c : Content) × (content core.disk ≡ Some c) × IsReadyFor plan core.memory (disk_of c) f
  ready f at = by (content core.disk) refl at.0
    where
      by : (o : Option Content) → content core.disk ≡ o → StandsOver core.geometry core.memory o f → (c : Content) × (content core.disk ≡ Some c) × IsReadyFor plan core.memory (disk_of c) f
      by None is stands = absurd stands
      by (Some c) is stands = (c, is, record { stands = stands; none = idle; untouched = at.1 })

  has_cuts : (c : Content) → content core.disk ≡ Some c → HasCuts content moment left core.disk core.disk plan (begun_over core) [] (disk_of c)
  has_cuts c is = loaded_has_cuts content moment left only_now core.disk c plan (begun_over core) is (shaped core.disk c is core.geometry sizes).listed

  leads : (f : Flat) → BeginsAt content plan core f → CallsLead content moment left (StandsFor core.geometry) plan core f core [] [] []
  leads f at =
      let b = ready f at in
      leads_by (StandsFor core.geometry) f at.0 (cuts_of_disk content moment left only_now core.disk core.disk plan (begun_over core) [] (disk_of b.0) (beginning f) (has_cuts b.0 b.1)
      (beginning_is_at plan core.memory core.admitted (disk_of b.0) f b.2).0)

  leads_ahead : (f : Flat) → BeginsAt content plan core f → LedIn content core f → StaysBelow (faults core.disk) (faults core.disk) → CallsLead content moment left (StandsAheadToo core.geometry) plan core f core [] [] []
  leads_ahead f at led low =
      let b = ready f at in
      let start = beginning_is_at plan core.memory core.admitted (disk_of b.0) f b.2 in
      let led_there : IsLed core.geometry core.memory (contents_of (b.0).now) (candidates_of (b.0).candidates) f = subst (λ o. LedOver core.geometry core.memory o f) b.1 led in
      leads_by (StandsAheadToo core.geometry) f at.0 (cuts_of_disk_are_ahead content moment left only_now stated shaped cuts_shaped core.disk core.disk plan (begun_over core) [] (disk_of b.0) (beginning f) (has_cuts b.0 b.1)
      sizes start.0 (subst (IsLed core.geometry core.memory (contents_of (b.0).now) (candidates_of (b.0).candidates)) (sym start.1) led_there) tt)

  pub nobody_called : IsCalled content moment left faults core.geometry (lanes_of script) (λ first. first ≡ core) script core [] []
  nobody_called = record {
    passes = [];
    closed = record {
      first = core;
      is = refl;
      turns = [];
      moments = [];
      session = loaded_is_history core.geometry asked (core_of content faults core) refl (let few = fresh.calls in omega (arith, few)) sound idle plan (asks_itself core.geometry asked);
      of_journal = tt;
      own = λ i p at. clash None p refl at;
      order = λ lane. refl;
      blocks = λ i x at. clash None x refl at;
      sizes = refl;
      idle = idle;
      counted = omega arith;
      leads = leads;
      ahead = leads_ahead;
    };
    many = sym none;
    order = λ i p at. absurd (some-ne-none p (sym at));
    called = λ i d below. absurd (omega (arith, below));
  }

  pub nobody_left : IsComplete (plan_of core.geometry script) []
  nobody_left = record { last = λ lane. 0; in_order = λ lane. refl; none_left = λ lane below. absurd (omega (arith, below, none)); sections = tt }
