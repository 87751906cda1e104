-- What the last restoration of a drill brings back.
use Rattle.std.proofs.Common.{◌≡◌, inl, inr, ℕ, zero, suc, ◌+◌, ◌*◌, ◌-◌, ◌<◌, ◌≤◌, ◌==◌, Bool, true, false, List, [], ◌∷◌, ◌++◌, length, get_or, take, drop, Option, None, Some, Result, Ok, Err, IfOk, Vec, refl, sym, ap, ◌∙◌, subst, subst₂, arith, length-append}
use Rattle.std.proofs.lemmas.List.{get_or_append_left, get_or-append_right}
use Rattle.std.specs.declared.alloc.Global.{Global}
use Rattle.bow_units.specs.declared.sizes.Geometry.{Geometry}
use Rattle.bow_units.specs.Magics.{HasMagic}
use Rattle.bow_units.specs.Pattern.{pattern}
use Rattle.bow_disk.specs.Bytes.{IsBytesOf, image_of}
use Rattle.bow_disk.specs.Disk.{Content, IsCrash, IsSettledOn}
use Rattle.bow_disk.specs.Memory.{Memory, content}
use Rattle.bow_disk.specs.Moments.{Tells}
use Rattle.bow_disk.proofs.Blocks.{get_or-blocks_of}
use Rattle.bow_disk.proofs.Settling.{cut_settled}
use Rattle.bow_log.specs.Generations.{Generation}
use Rattle.bow_chain.specs.Contents.{Contents, contents_of}
use Rattle.bow_chain.specs.Kept.{Holds}
use Rattle.bow_chain.specs.Sound.{IsSound}
use Rattle.bow_restore.specs.Answers.{EndsBack, FromHeld, FromSound, IsBack, TellsHead, TellsSound}
use Rattle.bow_restore.specs.declared.answers.Restored.{Restored}
use Rattle.bow_restore.specs.declared.answers.Restored.TheVariants as restored
use Rattle.bow_tool.specs.Drills.{AreBack, HasEnded, HoldsPattern, IsHeldIn, drill_sizes, memory_view, pattern_blocks}
use Rattle.bow_tool.proofs.Patterns.{drill_sizes_are}

-- Of an image that holds a checkpoint a restoration ends well, unless memory is wanting or a call fails.
pub ends_well : (g : Geometry) (used : ℕ → Bool) (saved : Contents) (image : List (List ℕ)) (answer : Restored) → 0 < g.blocks → IsHeldIn g used saved image → TellsHead (contents_of image 0) answer
    → ((log : Generation) (older : List Generation) → IsSound g (contents_of image) log older → TellsSound None (log ∷ older) answer) → (answer ≡ restored.NoMemory → ⊥) → (answer ≡ restored.DiskFault → ⊥) → HasEnded answer
ends_well g used saved image restored.Nothing some held head counts memory fine = tt
ends_well g used saved image (restored.Done entries marks) some held head counts memory fine = tt
ends_well g used saved image (restored.Stopped writes) some held head counts memory fine = elim held.1 [
  | inl keeps ↦ absurd (let clash : None ≡ Some writes = (counts keeps.log keeps.older keeps.sound).0 in cc clash)
  | inr there ↦ absurd (held.0 (subst HasMagic (there 0 some (inl refl)) head))
]
ends_well g used saved image (restored.BadChain fault) some held head counts memory fine = elim held.1 [
  | inl keeps ↦ absurd (counts keeps.log keeps.older keeps.sound)
  | inr there ↦ absurd (held.0 (subst HasMagic (there 0 some (inl refl)) head))
]
ends_well g used saved image restored.DiskFault some held head counts memory fine = absurd (fine refl)
ends_well g used saved image restored.NoMemory some held head counts memory fine = absurd (memory refl)

told_back : (g : Geometry) (used : ℕ → Bool) (saved : Contents) (new : Memory) (answer : Restored) → HasEnded answer → EndsBack g used saved memory_view.content new answer → Tells memory_view.content (IsBack g used saved) new
told_back g used saved new restored.Nothing ended back = back
told_back g used saved new (restored.Done entries marks) ended back = back
told_back g used saved new (restored.Stopped writes) ended back = absurd ended
told_back g used saved new (restored.BadChain fault) ended back = absurd ended
told_back g used saved new restored.DiskFault ended back = absurd ended
told_back g used saved new restored.NoMemory ended back = absurd ended

-- Then the disk has what the image held.
module _ (g h : Geometry) (same : h ≡ g) (old new : Memory) (image : List (List ℕ)) (answer : Restored) (settled : IsSettledOn image (content old.state))
    (held : FromHeld h memory_view.content old (λ used saved. EndsBack h used saved memory_view.content new answer)) (sizes : Some new.state.geometry ≡ Some h) (ended : HasEnded answer) where
  now_back : (used : ℕ → Bool) (saved : Contents) → IsHeldIn g used saved image → AreBack g used saved (content new.state).now
  now_back used saved keeps b below is =
      let told = told_back h used saved new answer ended (held (content old.state) refl used saved keeps.0 (λ cut crash. subst (λ i. Holds h used saved (contents_of i)) (sym (cut_settled image (content old.state) settled cut crash))
      (subst (λ x. Holds x used saved (contents_of image)) (sym same) keeps.1))) in
      let it : told.told ≡ content new.state = (let both : Some (content new.state) ≡ Some told.told = told.is in cc both) in
      ap (λ (c : Content). contents_of c.now b) (sym it) ∙ (told.holds).blocks b (subst (λ (x : Geometry). b < x.blocks) (sym same) below) (inr is)

  its_sizes : new.state.geometry ≡ g
  its_sizes = (let both : Some new.state.geometry ≡ Some h = sizes in let one : new.state.geometry ≡ h = cc both in one) ∙ same

  bytes_back : (bytes : List ℕ) → IsBytesOf new.state.geometry (content new.state).now bytes → (used : ℕ → Bool) (saved : Contents) → IsHeldIn g used saved image → AreBack g used saved (image_of g bytes)
  bytes_back bytes of used saved keeps b below is =
      ap (λ i. contents_of i b) (ap (λ x. image_of x bytes) (sym its_sizes) ∙ of.blocks) ∙ now_back used saved keeps b below is

-- what a restoration of an image without a limit tells and leaves, where it ends well
pub record IsRestored (g : Geometry) (image : List (List ℕ)) (answer : Restored) (bytes : List ℕ) : Type 0 where
  pub head : TellsHead (contents_of image 0) answer
  pub counts : (log : Generation) (older : List Generation) → IsSound g (contents_of image) log older → TellsSound None (log ∷ older) answer
  pub well : HasEnded answer
  pub back : (used : ℕ → Bool) (saved : Contents) → IsHeldIn g used saved image → AreBack g used saved (image_of g bytes)

pub restored_last : (g h : Geometry) → h ≡ g → 0 < g.blocks → (old new : Memory) (first image : List (List ℕ)) (answer : Restored) (bytes : List ℕ) → IsSettledOn first (content old.state) → first ≡ image
    → ((c : Content) → memory_view.content old ≡ Some c → TellsHead (contents_of c.now 0) answer) → FromSound h memory_view.content old (λ c log older. TellsSound None (log ∷ older) answer)
    → FromHeld h memory_view.content old (λ used saved. EndsBack h used saved memory_view.content new answer) → Some new.state.geometry ≡ Some h → IsBytesOf new.state.geometry (content new.state).now bytes
    → (used : ℕ → Bool) (saved : Contents) → IsHeldIn g used saved image → (answer ≡ restored.NoMemory → ⊥) → (answer ≡ restored.DiskFault → ⊥) → IsRestored g image answer bytes
restored_last g h same some old new first image answer bytes on is head sound held sizes of used saved keeps memory fine =
    let settled : IsSettledOn image (content old.state) = subst (λ i. IsSettledOn i (content old.state)) is on in
    let told = subst (λ i. TellsHead (contents_of i 0) answer) settled.now (head (content old.state) refl) in
    let counted : (log : Generation) (older : List Generation) → IsSound g (contents_of image) log older → TellsSound None (log ∷ older) answer =
    λ log older there. sound (content old.state) refl log older (subst₂ (λ x i. IsSound x (contents_of i) log older) (sym same) (sym settled.now) there) in
    let ended = ends_well g used saved image answer some keeps told counted memory fine in
    record { head = told; counts = counted; well = ended; back = bytes_back g h same old new image answer settled held sizes ended bytes of }

-- ----------------------------------------------------------------------------------------------------------------
-- The patterns.

length-pattern_blocks : (n : ℕ) → length (pattern_blocks n) ≡ n
unfolding pattern_blocks
length-pattern_blocks zero = refl
length-pattern_blocks (suc n) = let front = length-pattern_blocks n in length-append (pattern_blocks n) (pattern n 0 512 ∷ []) ∙ omega (arith, front)

pub pattern_at : (n b : ℕ) → b < n → get_or (pattern_blocks n) b [] ≡ pattern b 0 512
unfolding pattern_blocks
pattern_at zero b below = absurd (omega (arith, below))
pattern_at (suc n) b below = by (b == n) refl (λ less. pattern_at n b less)
  where
    long : length (pattern_blocks n) ≡ n
    long = length-pattern_blocks n

    by : (t : Bool) → (b == n) ≡ t → (b < n → get_or (pattern_blocks n) b [] ≡ pattern b 0 512) → get_or (pattern_blocks n ++ pattern n 0 512 ∷ []) b [] ≡ pattern b 0 512
    by true is front =
        let here : b ≡ n = grind (arith, is) in
        let none : b - n ≡ 0 = omega (arith, here) in
        get_or-append_right (pattern_blocks n) (pattern n 0 512 ∷ []) n b [] long (omega (arith, here)) ∙ ap (λ i. get_or (pattern n 0 512 ∷ []) i []) none ∙ ap (λ x. pattern x 0 512) (sym here)
    by false other front = let less : b < n = grind (arith, other, below) in get_or_append_left (pattern_blocks n) (pattern n 0 512 ∷ []) [] b (omega (arith, less, long)) ∙ front less

-- a block that is back holds its pattern
pub holds_pattern : (bytes : List ℕ) (used : ℕ → Bool) (saved : Contents) (b : ℕ) → b < 1024 → used b ≡ true → saved b ≡ pattern b 0 512 → AreBack drill_sizes used saved (image_of drill_sizes bytes) → HoldsPattern bytes b
holds_pattern bytes used saved b below in_use was back =
    let size = drill_sizes_are.0 in
    let blocks = drill_sizes_are.1 in
    let inside : b < drill_sizes.blocks = omega (arith, below, blocks) in
    ap (λ s. take s (drop (b * s) bytes)) (sym size) ∙ sym (get_or-blocks_of drill_sizes.block_size drill_sizes.blocks b bytes inside) ∙ back b inside in_use ∙ was
