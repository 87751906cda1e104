-- A disk of blocks gives replies that its calls can have, and stays one.
use Rattle.std.proofs.Common.{ℕ, ◌≡◌, List, length, Option, Some, None, sym, ap, ◌∙◌, subst, inl, inr}
use Rattle.std.proofs.lemmas.Bool.{cases_eq}
use Rattle.bow_units.specs.declared.sizes.Geometry.{Geometry}
use Rattle.bow_chain.specs.Contents.{Contents}
use Rattle.bow_guard.specs.Cuts.{Candidates}
use Rattle.bow_machine.specs.Calls.{Call, ReadCall, WriteCall, FlushCall, Reply, Failed, Succeeded, Gave, WriteTried, DoesIt}
use Rattle.bow_machine.specs.Tasks.{task_of}
use Rattle.bow_machine.specs.Steps.{call_of}
use Rattle.bow_machine.specs.MemoryLaws.{CanHaveIt, IsOnDevice}
use Rattle.bow_machine.specs.Blocks.{BlocksReply}
use Rattle.bow_machine.specs.Standing.{HasBlocks}
use Rattle.bow_machine.proofs.SoundCalls.{calls_are_on_device}

same_blocks : (g : Geometry) (now new_now : Contents) → new_now ≡ now → HasBlocks g now → HasBlocks g new_now
same_blocks g now new_now same has = subst (HasBlocks g) (sym same) has

tried_blocks : (g : Geometry) (b : ℕ) (v : List ℕ) (now new_now : Contents) (may new_may : Candidates) → length v ≡ g.block_size → WriteTried b v now new_now may new_may → HasBlocks g now → HasBlocks g new_now
tried_blocks g b v now new_now may new_may long tried has x on = elim (cases_eq x b) [
  | inl is ↦ elim tried.given.block_now [
    | inl old ↦ ap (λ y. length (new_now y)) is ∙ ap length old ∙ ap (λ y. length (now y)) (sym is) ∙ has x on
    | inr new ↦ ap (λ y. length (new_now y)) is ∙ ap length new ∙ long
  ]
  | inr ne ↦ ap length (tried.given.others_now x ne) ∙ has x on
]

replies : (g : Geometry) (call : Option Call) (reply : Reply) (now new_now : Contents) (may new_may : Candidates) → IsOnDevice g call → HasBlocks g now → DoesIt g call reply now may new_now new_may
    → CanHaveIt g call reply × HasBlocks g new_now
replies g None reply now new_now may new_may on has does = (tt, same_blocks g now new_now does.0 has)
replies g (Some (ReadCall b)) (Gave v) now new_now may new_may on has does = (ap length does.0 ∙ has b on, same_blocks g now new_now does.1 has)
replies g (Some (ReadCall b)) Failed now new_now may new_may on has does = (tt, same_blocks g now new_now does.0 has)
replies g (Some (ReadCall b)) Succeeded now new_now may new_may on has does = absurd does
replies g (Some (WriteCall b v)) Succeeded now new_now may new_may on has does = (tt, tried_blocks g b v now new_now may new_may on.1 does.0 has)
replies g (Some (WriteCall b v)) Failed now new_now may new_may on has does = (tt, tried_blocks g b v now new_now may new_may on.1 does has)
replies g (Some (WriteCall b v)) (Gave w) now new_now may new_may on has does = absurd does
replies g (Some FlushCall) Succeeded now new_now may new_may on has does = (tt, same_blocks g now new_now does.0 has)
replies g (Some FlushCall) Failed now new_now may new_may on has does = (tt, same_blocks g now new_now does.0 has)
replies g (Some FlushCall) (Gave w) now new_now may new_may on has does = absurd does

pub blocks_reply : BlocksReply
blocks_reply g m turn reply now new_now may new_may s has does = replies g (call_of g m (task_of g m turn)) reply now new_now may new_may (calls_are_on_device g m turn s) has does
