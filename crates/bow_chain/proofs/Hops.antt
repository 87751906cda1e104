-- Where one backup, or several, put a block.
use Rattle.std.proofs.Common.{ℕ, ◌+◌, ◌-◌, ◌<◌, ◌≡◌, ◌⊎◌, List, [], ◌∷◌, ◌++◌, arith, refl, inl, inr}
use Rattle.std.specs.List.{AllByRecursion as Each}
use native.Mathlib.Decide.{dec_le, dec_lt}
use Rattle.bow_units.specs.declared.sizes.Geometry.{Geometry}
use Rattle.bow_log.specs.Generations.{Backup, Generation, IsBackup, StartsWith0, IsGeneration}
use Rattle.bow_chain.specs.Places.{hop, pass, InSource, InDest}

pub hop_in : (e : Backup) (x : ℕ) → InSource e x → hop e x ≡ e.dest + (x - e.source)
unfolding hop
hop_in e x h = grind arith

pub hop_out : (e : Backup) (x : ℕ) → (InSource e x → ⊥) → hop e x ≡ x
unfolding hop
hop_out e x h = grind arith

-- it is one or the other
pub hop_cases : (e : Backup) (x : ℕ) → (InSource e x × (hop e x ≡ e.dest + (x - e.source))) ⊎ ((InSource e x → ⊥) × (hop e x ≡ x))
unfolding hop
hop_cases e x = grind arith

pub hop_in_dest : (e : Backup) (x : ℕ) → InSource e x → InDest e (hop e x)
hop_in_dest e x h = let k = hop_in e x h in record { above = omega arith; below = omega arith }

-- a backup of other blocks leaves block 0
pub hop_zero : (e : Backup) → 0 < e.source → hop e 0 ≡ 0
unfolding hop
hop_zero e h = grind arith

-- the backup of block 0 alone moves it to its dest
pub hop_first : (e : Backup) → e.source ≡ 0 → e.count ≡ 1 → hop e 0 ≡ e.dest
unfolding hop
hop_first e s n = grind arith

-- the backups of two lists, one after the other
pub pass-append : (es fs : List Backup) (x : ℕ) → pass (es ++ fs) x ≡ pass fs (pass es x)
pass-append [] fs x = refl
pass-append (e ∷ es) fs x = pass-append es fs (hop e x)

-- a block is in a source or it is not
pub source_cases : (e : Backup) (x : ℕ) → InSource e x ⊎ (InSource e x → ⊥)
source_cases e x = elim (dec_le e.source x) [
  | yes a ↦ elim (dec_lt x (e.source + e.count)) [ yes b ↦ inl (record { above = a; below = b }) | no b ↦ inr (λ h. b h.below) ]
  | no a ↦ inr (λ h. a h.above)
]

-- a block is in a dest or it is not
pub dest_cases : (e : Backup) (x : ℕ) → InDest e x ⊎ (InDest e x → ⊥)
dest_cases e x = elim (dec_le e.dest x) [
  | yes a ↦ elim (dec_lt x (e.dest + e.count)) [ yes b ↦ inl (record { above = a; below = b }) | no b ↦ inr (λ h. b h.below) ]
  | no a ↦ inr (λ h. a h.above)
]

module _ (g : Geometry) where
  pub hop_not_source : (e : Backup) (x : ℕ) → IsBackup g e → InSource e (hop e x) → ⊥
  unfolding hop
  hop_not_source e x ok h = grind arith

  pub hop_pos : (e : Backup) (x : ℕ) → IsBackup g e → 0 < x → 0 < hop e x
  unfolding hop
  hop_pos e x ok h = grind arith

  pub hop_inside : (e : Backup) (x : ℕ) → IsBackup g e → x < g.blocks → hop e x < g.blocks
  unfolding hop
  hop_inside e x ok h = grind arith

  hop_from_0 : (e : Backup) (x : ℕ) → IsBackup g e → e.source ≡ 0 → 0 < hop e x
  unfolding hop
  hop_from_0 e x ok s = grind arith

  pub dest_pos : (e : Backup) (x : ℕ) → IsBackup g e → InDest e x → 0 < x
  dest_pos e x ok h = omega arith

  pub dest_inside : (e : Backup) (x : ℕ) → IsBackup g e → InDest e x → x < g.blocks
  dest_inside e x ok h = omega arith

  pub pass_pos : (es : List Backup) (x : ℕ) → Each (IsBackup g) es → 0 < x → 0 < pass es x
  pass_pos [] x ok h = h
  pass_pos (e ∷ es) x ok h = pass_pos es (hop e x) ok.1 (hop_pos e x ok.0 h)

  -- a block of the device stays on the device
  pub pass_inside : (es : List Backup) (x : ℕ) → Each (IsBackup g) es → x < g.blocks → pass es x < g.blocks
  pass_inside [] x ok h = h
  pass_inside (e ∷ es) x ok h = pass_inside es (hop e x) ok.1 (hop_inside e x ok.0 h)

  from_start : (es : List Backup) (x : ℕ) → Each (IsBackup g) es → StartsWith0 es → 0 < pass es x
  from_start [] x each start = absurd start
  from_start (e ∷ es) x each start = pass_pos es (hop e x) each.1 (hop_from_0 e x each.0 start.0)

  -- a log moves each block away from 0
  pub log_pos : (log : Generation) (x : ℕ) → IsGeneration g log → 0 < pass log.entries x
  log_pos log x ok = from_start log.entries x ok.each ok.start

  pub log_inside : (log : Generation) (x : ℕ) → IsGeneration g log → x < g.blocks → pass log.entries x < g.blocks
  log_inside log x ok h = pass_inside log.entries x ok.each h
