-- From a flush that was answered done to the end of a commit a device goes forward.
use Rattle.std.proofs.Common.{ℕ, ◌≡◌, ◌++◌, List, [], ◌∷◌, Option, Some, None, refl, sym, ap, ◌∙◌, subst, arith}
use Rattle.bow_units.specs.declared.sizes.Geometry.{Geometry}
use Rattle.bow_units.specs.declared.requests.Op.TheVariants.{Flush}
use Rattle.bow_units.specs.declared.requests.Outcome.TheVariants.{Done}
use Rattle.bow_units.specs.declared.requests.Phase.TheVariants.{Checkpoint}
use Rattle.bow_disk.specs.Disk.{Content, IsCrash, IsShaped, Goes}
use Rattle.bow_chain.specs.Contents.{contents_of}
use Rattle.bow_chain.proofs.Counting.{some_inj}
use Rattle.bow_flat.specs.Flat.{Flat, after}
use Rattle.bow_flat.specs.Flat.Event.{Flushes}
use Rattle.bow_guard.specs.Cuts.{candidates_of}
use Rattle.bow_guard.specs.Standing.{Forwardable}
use Rattle.bow_guard.proofs.Joined.{crashes_are_cuts}
use Rattle.bow_queue.specs.declared.tickets.Ticket.{Ticket}
use Rattle.bow_machine.specs.Memory.{Memory}
use Rattle.bow_machine.specs.Calls.{Failed, DoesIt}
use Rattle.bow_machine.specs.Tasks.{task_of}
use Rattle.bow_machine.specs.declared.turns.Turn.{Turn as MachineTurn}
use Rattle.bow_machine.specs.declared.turns.Turn.TheVariants.{Map, Command}
use Rattle.bow_machine.specs.Steps.{Answered, call_of, step_of}
use Rattle.bow_machine.specs.Forward.{GoesForward}
use Rattle.bow_machine.proofs.Orders.{disk_by_reply}
use Rattle.bow_machine.proofs.SoundCalls.{calls_are_on_device}
use Rattle.bow_machine.proofs.GoesForward.{flush_goes_forward, admit_goes_forward, command_goes_forward, forward_is_forwardable, command_is_forwardable}
use Rattle.bow_machine.specs.Requests.{Request}
use Rattle.bow_core.specs.Calls.{DoesOne, Passes, calls_in}
use Rattle.bow_core.specs.Standing.{StandsOver, StandsIn}
use Rattle.bow_core.specs.Steps.{IsStep, call_in}
use Rattle.bow_machine.specs.Steps.{unknown}
use Rattle.bow_core.specs.Turns.{told_of}
use Rattle.bow_core.specs.Views.{View, IsOpened}
use Rattle.bow_machine.specs.declared.turns.Turn.{Turn}
use Rattle.bow_core.specs.declared.turns.Step.{Step as OwnStep}
use Rattle.bow_core.specs.Further.{LedIn, LedOver}
use Rattle.bow_core.specs.Forward.{ForwardOver, IsForward, StaysForward}
use Rattle.bow_core.proofs.Leading.{does_it, since_then_so, no_failure}
use Rattle.bow_core.proofs.Listed.{first_bytes}

-- a device that goes forward, over a disk that tells its content
pub goes_over : {D : Type 0} (stated : D → Option Geometry) (content : D → Option Content) → ((d : D) (c : Content) → content d ≡ Some c → (g : Geometry) → stated d ≡ Some g → IsShaped g.block_size g.blocks c)
    → (v : View D) (f : Flat) (d : Content) → stated v.disk ≡ Some v.geometry → content v.disk ≡ Some d → GoesForward v.geometry v.memory (contents_of d.now) (candidates_of d.candidates) f → IsForward content v f
goes_over stated content shaped v f d sizes at goes = record {
  over = subst (λ o. ForwardOver v.geometry v.memory o f) (sym at) goes;
  images = λ e told image crash.
      let own = subst (λ (x : Content). IsCrash x.candidates image) (some_inj (sym told ∙ at)) crash in
      let is = shaped v.disk d at v.geometry sizes in
      forward_is_forwardable v.geometry v.memory (contents_of d.now) (candidates_of d.candidates) f (contents_of image) goes (((crashes_are_cuts v.geometry v.geometry.block_size d image is).0 own).1)
      (first_bytes v.geometry d image (omega (arith, goes.stands.sound.sizes.enough)) is own);
}

module _ {D : Type 0} (stated : D → Option Geometry) (content : D → Option Content) (moment : D → ℕ) (left : D → ℕ → List (List ℕ) → Type 0) (faults : D → ℕ)
    (old : View D) (turn : Turn) (tells_so : OwnStep) (new : View D) (opened : IsOpened stated old) (step : IsStep stated content moment left faults old turn tells_so new)
    (shaped : (d : D) (c : Content) → content d ≡ Some c → (g : Geometry) → stated d ≡ Some g → IsShaped g.block_size g.blocks c) where
  abbrev g : Geometry
  g = old.geometry

  abbrev m : Memory
  m = old.memory

  -- what the machine's step does on the disks that tell their contents
  does : (c d : Content) → content old.disk ≡ Some c → content new.disk ≡ Some d → Goes (DoesOne (call_in old turn) step.reply) (Some c) (Some d)
      → DoesIt g (call_in old turn) step.reply (contents_of c.now) (candidates_of c.candidates) (contents_of d.now) (candidates_of d.candidates)
  does c d is at goes = does_it g c d (shaped old.disk c is g opened.sizes) (shaped new.disk d at g step.made.sizes) (call_in old turn) step.reply (calls_are_on_device g m turn opened.sound) goes

  -- its memory is the device's
  same_memory : (c : Content) → (step_of g (contents_of c.now) m (task_of g m turn) step.reply).memory ≡ new.memory
  same_memory c = (disk_by_reply g m turn step.reply (contents_of c.now) unknown).0 ∙ sym step.memory

  -- the device goes forward where the machine does
  new_goes : (f : Flat) (c d : Content) → content new.disk ≡ Some d → GoesForward g (step_of g (contents_of c.now) m (task_of g m turn) step.reply).memory (contents_of d.now) (candidates_of d.candidates) f → IsForward content new f
  new_goes f c d at goes =
      let own = subst (λ h. GoesForward h new.memory (contents_of d.now) (candidates_of d.candidates) f) (sym step.geometry) (subst (λ n. GoesForward g n (contents_of d.now) (candidates_of d.candidates) f) (same_memory c) goes) in
      goes_over stated content shaped new f d (subst (λ h. stated new.disk ≡ Some h) (sym step.geometry) step.made.sizes) at own

  -- A flush was answered done in Checkpoint.
  pub step_flushes : (f : Flat) (asked t : Ticket) → StandsIn content old f → LedIn content old f → m.phase ≡ Checkpoint → turn ≡ Map asked → told_of tells_so ≡ Answered t Flush Done → IsForward content new (after g.blocks Flushes f)
  step_flushes f asked t stands led phase whose told = go (content old.disk) refl (content new.disk) refl step.made.disk stands led
    where
      go : (o : Option Content) → content old.disk ≡ o → (n : Option Content) → content new.disk ≡ n → Goes (DoesOne (call_in old turn) step.reply) o n → StandsOver g m o f → LedOver g m o f → IsForward content new (after g.blocks Flushes f)
      go None is n at goes stands led = absurd stands
      go (Some c) is None at goes stands led = absurd goes
      go (Some c) is (Some d) at goes stands led =
          let flushed : (turn : MachineTurn) → turn ≡ Map asked → DoesIt g (call_of g m (task_of g m turn)) step.reply (contents_of c.now) (candidates_of c.candidates) (contents_of d.now) (candidates_of d.candidates)
          → (step_of g (contents_of c.now) m (task_of g m turn) step.reply).told ≡ Answered t Flush Done
          → GoesForward g (step_of g (contents_of c.now) m (task_of g m turn) step.reply).memory (contents_of d.now) (candidates_of d.candidates) (after g.blocks Flushes f)
          = λ turn is.
          subst (λ (x : MachineTurn). DoesIt g (call_of g m (task_of g m x)) step.reply (contents_of c.now) (candidates_of c.candidates) (contents_of d.now) (candidates_of d.candidates)
          → (step_of g (contents_of c.now) m (task_of g m x) step.reply).told ≡ Answered t Flush Done
          → GoesForward g (step_of g (contents_of c.now) m (task_of g m x) step.reply).memory (contents_of d.now) (candidates_of d.candidates) (after g.blocks Flushes f)) (sym is)
          (λ does told. flush_goes_forward g m asked t step.reply (contents_of c.now) (contents_of d.now) (candidates_of c.candidates) (candidates_of d.candidates) f stands led phase does told) in
          new_goes (after g.blocks Flushes f) c d at (flushed turn whose (does c d is at goes) ((disk_by_reply g m turn step.reply (contents_of c.now) unknown).1 ∙ sym step.told ∙ told))

  -- A turn of the commands.
  pub step_forward : (f : Flat) → IsForward content old f → turn ≡ Command → StaysForward content moment left old tells_so new f
  step_forward f forward whose = go (content old.disk) refl (content new.disk) refl step.made.disk forward.over
    where
      go : (o : Option Content) → content old.disk ≡ o → (n : Option Content) → content new.disk ≡ n → Goes (DoesOne (call_in old turn) step.reply) o n → ForwardOver g m o f → StaysForward content moment left old tells_so new f
      go None is n at goes over = absurd over
      go (Some c) is None at goes over = absurd goes
      go (Some c) is (Some d) at goes over = record {
        on = λ quiet. new_goes f c d at (on turn whose (no_failure stated content moment left faults old turn tells_so new opened step quiet) (does c d is at goes));
        images = λ e told image crash. subst (λ h. Forwardable h f (contents_of image)) (sym step.geometry) (image_goes image (subst (λ (x : Content). IsCrash x.candidates image) (some_inj (sym told ∙ at)) crash));
        cuts = since_then_so (λ image. Forwardable g f (contents_of image)) (calls_in (call_in old turn)) (moment old.disk) (moment new.disk) (left old.disk) (left new.disk) d
            (subst (λ o. Passes (calls_in (call_in old turn)) o (moment old.disk) (moment new.disk) (left old.disk) (left new.disk)) at step.made.time) image_goes;
      }
        where
          on : (turn : MachineTurn) → turn ≡ Command → (step.reply ≡ Failed → call_of g m (task_of g m turn) ≡ None)
              → DoesIt g (call_of g m (task_of g m turn)) step.reply (contents_of c.now) (candidates_of c.candidates) (contents_of d.now) (candidates_of d.candidates)
              → GoesForward g (step_of g (contents_of c.now) m (task_of g m turn) step.reply).memory (contents_of d.now) (candidates_of d.candidates) f
          on turn is = subst (λ (x : MachineTurn). (step.reply ≡ Failed → call_of g m (task_of g m x) ≡ None)
              → DoesIt g (call_of g m (task_of g m x)) step.reply (contents_of c.now) (candidates_of c.candidates) (contents_of d.now) (candidates_of d.candidates)
              → GoesForward g (step_of g (contents_of c.now) m (task_of g m x) step.reply).memory (contents_of d.now) (candidates_of d.candidates) f) (sym is)
              (λ ok does. command_goes_forward g m step.reply (contents_of c.now) (contents_of d.now) (candidates_of c.candidates) (candidates_of d.candidates) f over ok does)

          image_goes : (image : List (List ℕ)) → IsCrash d.candidates image → Forwardable g f (contents_of image)
          image_goes image crash =
              let is_shaped = shaped new.disk d at g step.made.sizes in
              command_is_forwardable g m step.reply (contents_of c.now) (contents_of d.now) (candidates_of c.candidates) (candidates_of d.candidates) f (contents_of image) over
              (subst (λ (x : MachineTurn). DoesIt g (call_of g m (task_of g m x)) step.reply (contents_of c.now) (candidates_of c.candidates) (contents_of d.now) (candidates_of d.candidates)) whose (does c d is at goes))
              (((crashes_are_cuts g g.block_size d image is_shaped).0 crash).1) (first_bytes g d image (omega (arith, over.stands.sound.sizes.enough)) is_shaped crash)

-- A request more is taken in.
pub admitted_forward : {D : Type 0} (content : D → Option Content) (v w : View D) (r : Request) (f : Flat) → w.geometry ≡ v.geometry → w.disk ≡ v.disk → w.memory ≡ record v.memory { requests = v.memory.requests ++ r ∷ [] }
    → ((state : Flat) → StandsIn content v state → StandsOver v.geometry (record v.memory { requests = v.memory.requests ++ r ∷ [] }) (content v.disk) state) → IsForward content v f → IsForward content w f
admitted_forward content v w r f sizes disk memory stands forward = record {
  over = subst (λ h. ForwardOver h w.memory (content w.disk) f) (sym sizes) (subst (λ n. ForwardOver v.geometry n (content w.disk) f) (sym memory) (subst (λ x. ForwardOver v.geometry (record v.memory { requests = v.memory.requests ++ r ∷ [] }) (content x) f) (sym disk)
      (go (content v.disk) stands forward.over)));
  images = λ c told image crash. subst (λ h. Forwardable h f (contents_of image)) (sym sizes) (forward.images c (ap content (sym disk) ∙ told) image crash);
}
  where
    go : (o : Option Content) → ((state : Flat) → StandsOver v.geometry v.memory o state → StandsOver v.geometry (record v.memory { requests = v.memory.requests ++ r ∷ [] }) o state) → ForwardOver v.geometry v.memory o f
        → ForwardOver v.geometry (record v.memory { requests = v.memory.requests ++ r ∷ [] }) o f
    go None each over = absurd over
    go (Some c) each over = admit_goes_forward v.geometry v.memory (contents_of c.now) (candidates_of c.candidates) f r each over
