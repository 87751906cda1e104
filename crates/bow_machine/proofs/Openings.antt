-- A machine that was opened stands for the opening state; and one that takes in a request, for the same state as before.
use Rattle.std.proofs.Common.{ℕ, zero, suc, ◌-◌, ◌<◌, ◌≡◌, List, [], ◌∷◌, ◌++◌, None, replicate, arith, refl, sym, ◌∙◌, inr}
use Rattle.std.proofs.lemmas.List.{length-replicate, get_or-replicate}
use Rattle.bow_units.specs.declared.sizes.Geometry.{Geometry}
use Rattle.bow_units.specs.Sizes.{IsValid}
use Rattle.bow_units.specs.declared.statuses.Kind.{Kind}
use Rattle.bow_units.specs.declared.statuses.Kind.TheVariants.{Sector0, Unchanged}
use Rattle.bow_chain.specs.Contents.{Contents, contents_of}
use Rattle.bow_flat.specs.Flat.{Flat, opening}
use Rattle.bow_units.specs.Magics.{IsPlain}
use Rattle.bow_flat.proofs.Valid.{opening_valid}
use Rattle.bow_guard.specs.Cuts.{Candidates}
use Rattle.bow_ranges.specs.Kinds.{kind_at}
use Rattle.bow_machine.specs.MemoryIsSound.{IsTable}
use Rattle.bow_machine.specs.Requests.{Request, request_of}
use Rattle.bow_machine.specs.Memory.{Memory}
use Rattle.bow_machine.specs.Laws.{opened}
use Rattle.bow_machine.proofs.Held.{IsHeld}
use Rattle.bow_machine.proofs.Mapped.{standing_push}

abbrev first_table : ℕ → List Kind
first_table blocks = Sector0 ∷ replicate (blocks - 1) Unchanged

pub unchanged_at : (blocks b : ℕ) → 0 < b → b < blocks → kind_at (first_table blocks) b ≡ Unchanged
unchanged_at blocks zero above on = absurd (omega arith)
unchanged_at blocks (suc b) above on = get_or-replicate (blocks - 1) b Unchanged Unchanged (omega arith)

pub opened_table : (g : Geometry) → IsValid g → IsTable g (first_table g.blocks)
opened_table g sizes = record {
  size = let long = length-replicate (g.blocks - 1) Unchanged in omega (arith, long, sizes.enough);
  zeroth = refl;
  only_0 = λ b on is. only b on is;
}
  where
    only : (b : ℕ) → b < g.blocks → kind_at (first_table g.blocks) b ≡ Sector0 → b ≡ 0
    only zero on is = refl
    only (suc b) on is = absurd (let n : Unchanged ≡ Sector0 = sym (unchanged_at g.blocks (suc b) (omega arith) on) ∙ is in grind arith)

pub opening_held : (g : Geometry) (image : List (List ℕ)) → IsValid g → IsPlain (contents_of image 0)
    → IsHeld g (opened g.blocks) (contents_of image) (λ b. contents_of image b ∷ []) (opening image)
opening_held g image sizes plain = record {
  memory = record { sizes = sizes; table = opened_table g sizes; requests = tt; tickets = tt };
  state = opening_valid image plain;
  phases = refl;
  held = λ b on. (0, omega arith, refl);
  shown = λ b on. (0, omega arith, refl);
  kept = (λ b on v h. h, λ b above on. inr (refl, unchanged_at g.blocks b above on));
  in_hand = tt;
}

pub admit_held : (g : Geometry) (m : Memory) (now : Contents) (may : Candidates) (f : Flat) (r : Request) → r.done ≡ 0
    → request_of r.ticket m.requests ≡ None → IsHeld g m now may f
    → IsHeld g (record m { requests = m.requests ++ r ∷ [] }) now may f
admit_held g m now may f r fresh new s = standing_push g m r now may f new (omega (arith, fresh)) s
