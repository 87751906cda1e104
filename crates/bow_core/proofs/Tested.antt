-- The tests of requests.
use Rattle.std.proofs.Common.{ℕ, ◌≡◌, ◌⊎◌, Bool, true, false, List, refl, sym, ◌∙◌, inl, inr}
use Rattle.std.specs.Prelude.{IsTrue}
use Rattle.std.proofs.lemmas.Bool.{cases_Bool, false≢true}
use Rattle.bow_units.specs.Magics.{HasMagic}
use Rattle.bow_machine.specs.Requests.{has_magic}
use Rattle.bow_machine.proofs.MappedTests.{magic_is, is_magic}

-- the two tests for a magic are one
pub same_magic : (b : Bool) (bytes : List ℕ) → (IsTrue b → HasMagic bytes) → (HasMagic bytes → IsTrue b) → b ≡ has_magic bytes
same_magic b bytes one other = go b (cases_Bool (has_magic bytes)) one other
  where
    go : (b : Bool) → (has_magic bytes ≡ true) ⊎ (has_magic bytes ≡ false) → (IsTrue b → HasMagic bytes) → (HasMagic bytes → IsTrue b) → b ≡ has_magic bytes
    go true (inl is) one other = sym is
    go true (inr is) one other = absurd (false≢true (sym is ∙ is_magic bytes (one refl)))
    go false (inl is) one other = absurd (false≢true (other (magic_is bytes is)))
    go false (inr is) one other = sym is
