-- The fields of a log at a depth.
use Rattle.std.proofs.Common.{ℕ, ◌≡◌, ◌&&◌, Bool, true, false, if◌then◌else◌, List, [], ◌∷◌, length, Option, Some, None, arith, refl, sym, ap, ◌∙◌, subst}
use Rattle.std.specs.Prelude.{nat_lt, is_none}
use Rattle.bow_units.specs.declared.sizes.Geometry.{Geometry}
use Rattle.bow_log.specs.declared.logs.Magic.TheVariants.{Restoring}
use Rattle.bow_log.specs.declared.faults.LogFault.{LogFault}
use Rattle.bow_log.specs.declared.faults.LogFault.TheVariants.{NoMagic}
use Rattle.bow_log.specs.Spelling.{Fields}
use Rattle.bow_log.specs.Generations.{Generation, generation_of}
use Rattle.bow_log.specs.Faults.{fault_of, log_of, parts_of, begins_with}
use Rattle.bow_chain.specs.Contents.{Contents}
use Rattle.bow_chain.specs.Places.{base}
use Rattle.bow_chain.specs.Faults.{SpellsAt, fields_fault, IsBehind, IsFaultBehind}
use Rattle.bow_chain.specs.declared.faults.ChainFault.TheVariants.{NoLog}
use Rattle.bow_chain.proofs.Tested.{spells_without_fault, fault_at_0}

pub refused : (g : Geometry) (depth : ℕ) (block : List ℕ) → (nat_lt 0 depth && begins_with Restoring block) ≡ true → fields_fault g depth block ≡ Some NoMagic
unfolding fields_fault
refused g depth block is = ap (λ (b : Bool). if b then Some NoMagic else fault_of g block) is

pub not_refused : (g : Geometry) (depth : ℕ) (block : List ℕ) → (nat_lt 0 depth && begins_with Restoring block) ≡ false → fields_fault g depth block ≡ fault_of g block
unfolding fields_fault
not_refused g depth block is = ap (λ (b : Bool). if b then Some NoMagic else fault_of g block) is

is_log : (o : Option LogFault) (parts log : Fields) → o ≡ None → (if is_none o then Some parts else None) ≡ Some log → parts ≡ log
is_log None parts log none is = cc
is_log (Some f) parts log none is = absurd cc

-- a block whose log was read spells it
pub behind_read : (g : Geometry) (image : Contents) (above : List Generation) (depth : ℕ) (block : List ℕ) (log : Fields) → (nat_lt 0 depth && begins_with Restoring block) ≡ false → fault_of g block ≡ None → log_of g block ≡ Some log → depth ≡ length above → image (base above 0) ≡ block
    → IsBehind g image above depth (generation_of g log)
behind_read g image above depth block log open_ none read at is =
    let parts : parts_of block ≡ log = is_log (fault_of g block) (parts_of block) log none read in
    let spells : SpellsAt g depth block (generation_of g (parts_of block)) = spells_without_fault g depth block (not_refused g depth block open_ ∙ none) in
    record { at_depth = at; spelled = subst (λ b. SpellsAt g depth b (generation_of g log)) (sym is) (subst (λ (l : Fields). SpellsAt g depth block (generation_of g l)) parts spells) }

base_of_none : (ls : List Generation) → length ls ≡ 0 → base ls 0 ≡ 0
base_of_none [] none = refl
base_of_none (l ∷ ls) none = absurd (omega (arith, none))

-- block 0 has no magic
pub no_log : (g : Geometry) (image : Contents) (above : List Generation) (left depth : ℕ) → depth ≡ length above → depth ≡ 0 → fields_fault g depth (image (base above 0)) ≡ Some NoMagic → IsFaultBehind g image above left NoLog
no_log g image above left depth at zeroth is =
    let none : length above ≡ 0 = sym at ∙ zeroth in
    let at_0 : fields_fault g 0 (image (base above 0)) ≡ Some NoMagic = subst (λ d. fields_fault g d (image (base above 0)) ≡ Some NoMagic) zeroth is in
    record { none_above = none; first = ap (λ x. fault_of g (image x)) (sym (base_of_none above none)) ∙ sym (fault_at_0 g (image (base above 0))) ∙ at_0 }
