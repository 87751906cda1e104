-- A session that was loaded over a device just opened, and then made turns by the draws of a number.
use Rattle.std.proofs.Common.{◌≡◌, ℕ, List, [], Option, Some, sym, ap, ◌∙◌, subst}
use Rattle.bow_units.specs.declared.sizes.Geometry.{Geometry}
use Rattle.bow_disk.specs.Disk.{Content, IsImage, IsShaped}
use Rattle.bow_disk.specs.Shapes.{now_image}
use Rattle.bow_disk.proofs.Moments.{goes_told}
use Rattle.bow_flat.specs.Flat.{opening}
use Rattle.bow_machine.specs.Memory.{Memory}
use Rattle.bow_core.specs.Openings.{KeepsImage}
use Rattle.bow_core.specs.Standing.{StandsIn}
use Rattle.bow_core.specs.Views.{View, IsOpened}
use Rattle.bow_history.specs.Journal.{Plan}
use Rattle.bow_history.specs.Legality.{StartsUntouched}
use Rattle.bow_history.specs.Schedule.{FollowsDraws}
use Rattle.bow_history.specs.Sessions.{Session, Turned}
use Rattle.bow_session.specs.Leads.{BeginsAt}
use Rattle.bow_session.specs.Requests.{plan_of}
use Rattle.bow_session.specs.Runs.{IsRun, begun_over}
use Rattle.bow_session.specs.Sessions.{Run, plan_in, state_in}
use Rattle.bow_play.specs.Playing.{IsFresh}

-- it begins at the opening state
pub begins_at : {D : Type 0} (content : D → Option Content) (plan : Plan) (first : View D) (image : List (List ℕ)) → IsFresh first → StandsIn content first (opening image) → BeginsAt content plan first (opening image)
begins_at content plan first image fresh stands = (stands, subst (λ (m : Memory). StartsUntouched plan m m.phase m.log) (sym fresh.memory) tt)

-- the image before the play is one of bytes
pub bytes_before : {D : Type 0} (stated : D → Option Geometry) (content : D → Option Content) (moment : D → ℕ) (left : D → ℕ → List (List ℕ) → Type 0) (faults : D → ℕ)
    → (shaped : (d : D) (c : Content) → content d ≡ Some c → (g : Geometry) → stated d ≡ Some g → IsShaped g.block_size g.blocks c)
    → (old : D) (first : View D) (c : Content) → content old ≡ Some c → KeepsImage stated content moment left faults old first.disk → IsOpened stated first → IsImage first.geometry.block_size first.geometry.blocks c.now
bytes_before stated content moment left faults shaped old first c is kept device =
    let told = goes_told content (λ c d. d.now ≡ c.now) old first.disk c is kept.image in
    subst (λ i. IsImage first.geometry.block_size first.geometry.blocks i) told.holds
    (now_image first.geometry.block_size first.geometry.blocks told.told (shaped first.disk told.told told.is first.geometry device.sizes))

-- the turns follow the draws from the session's beginning on
pub drawn_from : {D : Type 0} (stated : D → Option Geometry) (content : D → Option Content) (faults : D → ℕ) (number : ℕ) (first : View D) (begun : Run D) (turns : List Turned) (s : Run D) → IsRun stated content faults first [] begun
    → (s.script ≡ begun.script) × (s.core.geometry ≡ begun.core.geometry) → FollowsDraws (plan_in begun) (state_in begun) number turns → FollowsDraws (plan_in s) (begun_over first) number turns
drawn_from stated content faults number first begun turns s run stays drawn =
    let plan_is : plan_in s ≡ plan_in begun = ap (λ g. plan_of g s.script) stays.1 ∙ ap (plan_of begun.core.geometry) stays.0 in
    subst (λ (p : Plan). FollowsDraws p (begun_over first) number turns) (sym plan_is) (subst (λ (x : Session). FollowsDraws (plan_in begun) x number turns) (sym run.state) drawn)
