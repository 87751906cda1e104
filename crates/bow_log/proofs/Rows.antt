-- Entries of a block, one after the other.
use Rattle.std.proofs.Common.{ℕ, suc, ◌+◌, ◌≡◌, Bool, true, false, List, [], ◌∷◌, ◌++◌, Some, refl, sym, ap, ◌∙◌, append_assoc}
use Rattle.std.specs.Prelude.{if◌then◌else◌}
use Rattle.bow_units.specs.declared.sizes.Geometry.{Geometry}
use Rattle.bow_log.specs.declared.entries.Entry.{Entry}
use Rattle.bow_log.specs.declared.faults.LogFault.TheVariants.{Entry as BadEntry}
use Rattle.bow_log.specs.Rules.{keeps_rules, entry_fault}
use Rattle.bow_log.specs.Faults.{entry_at, entries_at}

pub entries_on : (n m at next : ℕ) (block : List ℕ) → n ≡ suc m → next ≡ at + 24 → entries_at n at block ≡ entry_at at block ∷ entries_at m next block
entries_on n m at next block is_n is_next = ap (λ (k : ℕ). entries_at k at block) is_n ∙ ap (λ (k : ℕ). entry_at at block ∷ entries_at m k block) (sym is_next)

pub fault_here : (g : Geometry) (index n m at : ℕ) (block : List ℕ) (e : Entry) → n ≡ suc m → e ≡ entry_at at block → keeps_rules g index e ≡ false
    → Some (BadEntry index) ≡ entry_fault g index (entries_at n at block)
fault_here g index n m at block e is_n is_e breaks =
    sym (ap (entry_fault g index) (entries_on n m at (at + 24) block is_n refl)
    ∙ ap (λ (b : Bool). if b then entry_fault g (index + 1) (entries_at m (at + 24) block) else Some (BadEntry index)) (ap (keeps_rules g index) (sym is_e) ∙ breaks))

pub fault_on : (g : Geometry) (index n m at next : ℕ) (block : List ℕ) (e : Entry) → n ≡ suc m → next ≡ at + 24 → e ≡ entry_at at block → keeps_rules g index e ≡ true
    → entry_fault g (index + 1) (entries_at m next block) ≡ entry_fault g index (entries_at n at block)
fault_on g index n m at next block e is_n is_next is_e keeps =
    sym (ap (entry_fault g index) (entries_on n m at next block is_n is_next)
    ∙ ap (λ (b : Bool). if b then entry_fault g (index + 1) (entries_at m next block) else Some (BadEntry index)) (ap (keeps_rules g index) (sym is_e) ∙ keeps))

pub pushed : (n m at next : ℕ) (block : List ℕ) (items more whole : List Entry) (e : Entry) → n ≡ suc m → next ≡ at + 24 → e ≡ entry_at at block → more ≡ items ++ e ∷ []
    → items ++ entries_at n at block ≡ whole → more ++ entries_at m next block ≡ whole
pushed n m at next block items more whole e is_n is_next is_e is_more so =
    ap (λ (l : List Entry). l ++ entries_at m next block) is_more ∙ append_assoc items (e ∷ []) (entries_at m next block)
    ∙ ap (λ (x : Entry). items ++ (x ∷ entries_at m next block)) is_e ∙ ap (λ (l : List Entry). items ++ l) (sym (entries_on n m at next block is_n is_next)) ∙ so
