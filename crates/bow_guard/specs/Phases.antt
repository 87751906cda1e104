-- What holds of the device in each phase, so that a cut leaves nothing but what stands for the flat state.
use Rattle.std.specs.Prelude.{ℕ, ◌≡◌, ◌<◌, ◌⊎◌, true, List, [], ◌∷◌, Some, Contains}
use Rattle.bow_units.specs.declared.sizes.Geometry.{Geometry}
use Rattle.bow_units.specs.declared.requests.Phase.{Phase}
use Rattle.bow_units.specs.declared.requests.Phase.TheVariants.{Trim, Arming, Checkpoint, Deciding, Committed}
use Rattle.bow_units.specs.declared.statuses.Kind.TheVariants.{Sector0}
use Rattle.bow_flat.specs.Flat.{Flat, May}
use Rattle.bow_chain.specs.Sound.{log_in}
use Rattle.bow_chain.specs.Kept.{IsPlain}
use Rattle.bow_guard.specs.Cuts.{Candidates}
use Rattle.bow_guard.specs.Device.{Device, Steady, Safe}
use Rattle.bow_guard.specs.Guard.{KeptBehind, Guarded}

-- in trim and once committed: each candidate of a block is one of its pending contents
abbrev pub IsPending : Geometry → Flat → Candidates → Type 0
IsPending g f may = (b : ℕ) → b < g.blocks → (v : List ℕ) → Contains (may b) v → May (f.pending b) v

-- in arming: each used block is in place, and all is kept behind the first log, which may stand in block 0 already
pub record IsArming (g : Geometry) (f : Flat) (d : Device) : Type 0 where
  pub log : KeptBehind g (Steady g d) f.used f.saved d.now d.log []
  pub older : d.older ≡ []
  pub in_place : (x : ℕ) → 0 < x → x < g.blocks → f.used x ≡ true → d.may x ≡ f.saved x ∷ []
  pub heads : (v : List ℕ) → Contains (d.may 0) v → (v ≡ f.saved 0) ⊎ (log_in g v ≡ Some d.log)
  pub zeroth : d.kind 0 ≡ Sector0

-- in deciding: block 0 may hold a log, behind which all is kept, or the current content of block 0, with which each
-- block of the device reads as it should
pub record IsDeciding (g : Geometry) (f : Flat) (content : List ℕ) (d : Device) : Type 0 where
  pub log : KeptBehind g (Steady g d) f.used f.saved d.now d.log d.older
  pub clean : KeptBehind g (Safe g d) f.used f.saved d.now d.clean_log d.clean_older
  pub heads : (v : List ℕ) → Contains (d.may 0) v
      → (v ≡ content) ⊎ ((log_in g v ≡ Some d.log) ⊎ (log_in g v ≡ Some d.clean_log))
  pub zeroth : d.kind 0 ≡ Sector0
  pub one : (x : ℕ) → 0 < x → x < g.blocks → d.may x ≡ d.now x ∷ []
  pub plain : IsPlain content
  pub current_0 : May (f.current 0) content
  pub current : (x : ℕ) → 0 < x → x < g.blocks → May (f.current x) (d.now x)

-- what holds in each phase; `content` is what the current block 0 holds
abbrev pub Leaves : Geometry → Phase → Flat → List ℕ → Device → Type 0
Leaves g Trim f content d = IsPending g f d.may
Leaves g Arming f content d = IsArming g f d
Leaves g Checkpoint f content d = Guarded g f.used f.saved d
Leaves g Deciding f content d = IsDeciding g f content d
Leaves g Committed f content d = IsPending g f d.may
