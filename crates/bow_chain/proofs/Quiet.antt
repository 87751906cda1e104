-- A disk that is only read.
use Rattle.std.proofs.Common.{ℕ, ◌≤◌, ◌≡◌, List, Option, None, Some, arith, refl, sym, ap, ◌∙◌, subst}
use Rattle.std.specs.Prelude.{MatchOption}
use Rattle.bow_units.specs.declared.sizes.Geometry.{Geometry}
use Rattle.bow_disk.specs.Disk.{Content, Goes, Same, ReadsAs, TimeGoes, KeepsSizes, IsCrash}
use Rattle.bow_chain.specs.Contents.{contents_of}
use Rattle.bow_disk.specs.Moments.{AddsNoCut}
use Rattle.bow_disk.proofs.Moments.{no_cut_none, no_cut_read, no_cut_then}

same_refl : (a : Option Content) → Goes Same a a
same_refl None = tt
same_refl (Some c) = (refl, refl)

same_then : (a b c : Option Content) → Goes Same a b → Goes Same b c → Goes Same a c
same_then None None c p q = q
same_then None (Some b) c p q = absurd p
same_then (Some a) None c p q = absurd p
same_then (Some a) (Some b) None p q = absurd q
same_then (Some a) (Some b) (Some c) p q = (q.0 ∙ p.0, q.1 ∙ p.1)

keeps_stated : (g : Geometry) (old new : Option Geometry) → old ≡ Some g → KeepsSizes old new → new ≡ Some g
keeps_stated g None new is keeps = absurd cc
keeps_stated g (Some h) new is keeps = keeps ∙ is

-- a disk of these sizes was only read since then
pub record Quiet {T : Type 0} (g : Geometry) (stated : T → Option Geometry) (content : T → Option Content) (moment : T → ℕ) (since : T → ℕ → List (List ℕ) → Type 0) (faults : T → ℕ) (old new : T) : Type 0 where
  pub sizes : stated new ≡ Some g
  pub step : Goes Same (content old) (content new)
  pub time : AddsNoCut content moment since old new
  pub later : faults old ≤ faults new

module _ {T : Type 0} (g : Geometry) (stated : T → Option Geometry) (content : T → Option Content) (moment : T → ℕ) (since : T → ℕ → List (List ℕ) → Type 0) (faults : T → ℕ) where
  pub quiet : (a : T) → stated a ≡ Some g → Quiet g stated content moment since faults a a
  quiet a is = record { sizes = is; step = same_refl (content a); time = no_cut_none content moment since a; later = omega arith }

  pub quiet_then : (a b d : T) → Quiet g stated content moment since faults a b → stated d ≡ Some g → Goes Same (content b) (content d) → AddsNoCut content moment since b d → faults b ≤ faults d
      → Quiet g stated content moment since faults a d
  quiet_then a b d q is goes time more = record {
    sizes = is;
    step = same_then (content a) (content b) (content d) q.step goes;
    time = no_cut_then content moment since a b d q.step q.time time;
    later = omega (arith, q.later, more);
  }

  -- one read more
  pub quiet_read : (a b d : T) → Quiet g stated content moment since faults a b → KeepsSizes (stated b) (stated d) → Goes Same (content b) (content d) → TimeGoes (content d) (moment b) (moment d) (since b) (since d)
      → ((c : Content) → content b ≡ Some c → (t : ℕ) (image : List (List ℕ)) → t ≤ moment b → IsCrash c.candidates image → since b t image) → faults b ≤ faults d → Quiet g stated content moment since faults a d
  quiet_read a b d q keeps goes time counts more = quiet_then a b d q (keeps_stated g (stated b) (stated d) q.sizes keeps) goes (no_cut_read content moment since b d goes time counts) more

-- what was read is what the disk held at first
pub read_gives : (first now : Option Content) (at : ℕ) (v : List ℕ) → Goes Same first now → MatchOption now (Unit {0}) (ReadsAs at v) → (c : Content) → first ≡ Some c → contents_of c.now at ≡ v
read_gives None now at v goes holds c is = absurd cc
read_gives (Some a) None at v goes holds c is = absurd goes
read_gives (Some a) (Some b) at v goes holds c is =
    let same : a ≡ c = cc in
    ap (λ (x : Content). contents_of x.now at) (sym same) ∙ ap (λ (x : List (List ℕ)). contents_of x at) (sym goes.0) ∙ holds

-- what holds of the image that the disk tells now holds of the one that it told at first
pub as_first : (P : List (List ℕ) → Type 0) (first now : Option Content) → Goes Same first now → ((d : Content) → now ≡ Some d → P d.now) → (c : Content) → first ≡ Some c → P c.now
as_first P None now goes all c is = absurd cc
as_first P (Some a) None goes all c is = absurd goes
as_first P (Some a) (Some b) goes all c is =
    let same : a ≡ c = cc in
    subst (λ (x : Content). P x.now) same (subst P goes.0 (all b refl))

pub read_first : (first : Option Content) (at : ℕ) (v : List ℕ) → MatchOption first (Unit {0}) (ReadsAs at v) → (c : Content) → first ≡ Some c → contents_of c.now at ≡ v
read_first first at v holds c is = read_gives first first at v (same_refl first) holds c is
