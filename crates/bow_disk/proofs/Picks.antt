-- How a cut is taken, write after write.
use Rattle.std.proofs.Common.{◌≡◌, inl, inr, ℕ, zero, suc, ◌+◌, ◌*◌, ◌<◌, ◌≤◌, true, false, List, [], ◌∷◌, ◌++◌, length, set, get_or, take, drop, Option, None, Some, refl, sym, ap, ◌∙◌, subst, arith, length-append, length-take, length-drop, drop-cons, Vec, Global}
use Rattle.std.specs.Prelude.{◌==◌, ◌&&◌, Bool, Result, Ok, Err, IfOk, nat_le, nat_lt, Contains, is_some, if◌then◌else◌}
use Rattle.std.specs.List.{All}
use Rattle.std.proofs.lemmas.Bool.{le-leb, cases_eq, cases_Bool}
use Rattle.std.proofs.lemmas.Bool.Decides.{nat_tests}
use Rattle.std.proofs.lemmas.List.{drop-drop, drop_all, ext_get_or, length-map, length-set, get_or-set_same, get_or-set_other, get_or_append_left}
use Rattle.std.proofs.lemmas.List.Elements.{All-head, All-tail, Contains-get_or}
use Rattle.std.proofs.Math.Seq.{get_or-append_seam}
use Rattle.std.proofs.Math.Nat.{mod-lt}
use Rattle.bow_units.specs.declared.sizes.Geometry.{Geometry}
use Rattle.bow_disk.specs.declared.history.Mark.{Mark}
use Rattle.bow_disk.specs.declared.cuts.Pick.{Pick}
use Rattle.bow_disk.specs.declared.cuts.Pick.TheVariants.{Oldest, Newest, Seeded}
use Rattle.bow_disk.specs.Disk.{IsCrash}
use Rattle.bow_disk.specs.Memory.{Change, State, IsFit, content, is_flushed_by, change_at, candidates_at, alone, IsPast}
use Rattle.bow_disk.specs.MemoryLaws.{get_or-alone, content_shaped}
use Rattle.bow_disk.specs.Bytes.{blocks_of, image_of, IsBytesOf}
use Rattle.bow_disk.specs.Layout.{Past, changes}
use Rattle.bow_disk.proofs.Blocks.{length-blocks_of, blocks_of-put, block_end}
use Rattle.bow_disk.specs.Cuts.{choice, after_choice, choices, picked}
use Rattle.bow_disk.specs.Picking.{with_change, with_changes, candidates_after, next_number, last_number, with_picked, taken, at_block, block_candidates}

-- the candidates of all blocks, of those that calls tell
flag_now : (c : ℕ) (f : Option ℕ) → ((g : ℕ) → f ≡ Some g → g ≤ c) → is_flushed_by c f ≡ is_some f
flag_now c None past = refl
flag_now c (Some g) past = le-leb g c (past g refl)

change_now : (c n size : ℕ) (cs : List (List (List ℕ))) (w : Change) → IsPast c n size w → change_at c cs w ≡ with_change cs w
change_now c n size cs w past =
    let called : nat_le w.call c ≡ true = le-leb w.call c past.call in
    rw (called, flag_now c w.flushed past.flushed) refl

changes_now : (c n size : ℕ) (cs : List (List (List ℕ))) (ws : List Change) → All (IsPast c n size) ws → candidates_at c cs ws ≡ with_changes cs ws
changes_now c n size cs [] past = refl
changes_now c n size cs (w ∷ ws) past =
    changes_now c n size (change_at c cs w) ws (All-tail (IsPast c n size) w ws past)
    ∙ ap (λ (l : List (List (List ℕ))). with_changes l ws) (change_now c n size cs w (All-head (IsPast c n size) w ws past))

-- those of a disk in memory
pub candidates_now : (s : State) → IsFit s → (content s).candidates ≡ candidates_after s.first s.writes
candidates_now s fit = changes_now s.calls s.geometry.blocks s.geometry.block_size (alone s.first) s.writes fit.past

-- the candidates of one block, of those of all
block_change : (b : ℕ) (cs : List (List (List ℕ))) (w : Change) → b < length cs
    → get_or (with_change cs w) b [] ≡ (if w.block == b then (if is_some w.flushed then w.value ∷ [] else get_or cs b [] ++ w.value ∷ []) else get_or cs b [])
block_change b cs w within = elim (cases_eq w.block b) [
  | inl same ↦
      let here : (w.block == b) ≡ true = grind (arith, nat_tests) in
      rw here (elim (cases_Bool (is_some w.flushed)) [
        | inl flushed ↦ rw flushed (ap (λ i. get_or (set cs i (w.value ∷ [])) b []) same ∙ get_or-set_same cs b (w.value ∷ []) [] within)
        | inr open_yet ↦ rw open_yet (ap (λ i. get_or (set cs i (get_or cs i [] ++ w.value ∷ [])) b []) same ∙ get_or-set_same cs b (get_or cs b [] ++ w.value ∷ []) [] within)
      ])
  | inr apart ↦
      let other : (w.block == b) ≡ false = grind (arith, nat_tests) in
      let turned : (b ≡ w.block) → ⊥ = λ e. apart (sym e) in
      rw other (elim (cases_Bool (is_some w.flushed)) [
        | inl flushed ↦ rw flushed (get_or-set_other cs w.block b (w.value ∷ []) [] turned)
        | inr open_yet ↦ rw open_yet (get_or-set_other cs w.block b (get_or cs w.block [] ++ w.value ∷ []) [] turned)
      ])
]

length-with_change : (cs : List (List (List ℕ))) (w : Change) → length (with_change cs w) ≡ length cs
length-with_change cs w = elim (cases_Bool (is_some w.flushed)) [
  | inl flushed ↦ rw flushed (length-set cs w.block (w.value ∷ []))
  | inr open_yet ↦ rw open_yet (length-set cs w.block (get_or cs w.block [] ++ w.value ∷ []))
]

length-with_changes : (cs : List (List (List ℕ))) (ws : List Change) → length (with_changes cs ws) ≡ length cs
length-with_changes cs [] = refl
length-with_changes cs (w ∷ ws) = length-with_changes (with_change cs w) ws ∙ length-with_change cs w

get_or-with_changes : (b : ℕ) (cs : List (List (List ℕ))) (ws : List Change) → b < length cs → get_or (with_changes cs ws) b [] ≡ at_block b (get_or cs b []) ws
get_or-with_changes b cs [] within = refl
get_or-with_changes b cs (w ∷ ws) within =
    get_or-with_changes b (with_change cs w) ws (omega (arith, length-with_change cs w))
    ∙ ap (λ l. at_block b l ws) (block_change b cs w within)

pub length-candidates_after : (first : List (List ℕ)) (ws : List Change) → length (candidates_after first ws) ≡ length first
length-candidates_after first ws = length-with_changes (alone first) ws ∙ length-map first (λ (x : List ℕ). x ∷ [])

get_or-candidates_after : (b : ℕ) (first : List (List ℕ)) (ws : List Change) → b < length first → get_or (candidates_after first ws) b [] ≡ block_candidates b first ws
get_or-candidates_after b first ws within =
    get_or-with_changes b (alone first) ws (omega (arith, length-map first (λ (x : List ℕ). x ∷ [])))
    ∙ ap (λ l. at_block b l ws) (get_or-alone first b within)

-- the candidates of a block and the number of the last one after a write of this block or another, flushed or not
after : Bool → Bool → List ℕ → List (List ℕ) → List (List ℕ)
after here flushed v c = if here then (if flushed then v ∷ [] else c ++ v ∷ []) else c

number_after : Bool → Bool → ℕ → ℕ
number_after here flushed k = if here then (if flushed then 0 else k + 1) else k

-- a block has one candidate more than the number of the last one
one_more : (here flushed : Bool) (v : List ℕ) (c : List (List ℕ)) (k : ℕ) → length c ≡ k + 1 → length (after here flushed v c) ≡ number_after here flushed k + 1
unfolding after number_after
one_more false flushed v c k long = long
one_more true true v c k long = refl
one_more true false v c k long = omega (arith, length-append c (v ∷ []))

last_of_block : (size b k : ℕ) (c : List (List ℕ)) (ms : List Mark) (values : List ℕ) → length c ≡ k + 1 → length (at_block b c (changes size ms values)) ≡ last_number b k ms + 1
unfolding after number_after
last_of_block size b k c [] values long = long
last_of_block size b k c (m ∷ ms) values long =
    last_of_block size b (number_after (m.block == b) (is_some m.flushed) k) (after (m.block == b) (is_some m.flushed) (take size values) c) ms (drop size values)
    (one_more (m.block == b) (is_some m.flushed) (take size values) c k long)

-- what is taken of a block is the candidate that is wanted
next_taken : (wanted k : ℕ) (v x : List ℕ) (c : List (List ℕ)) → length c ≡ k + 1 → (wanted ≤ k → x ≡ get_or c wanted []) → wanted ≤ k + 1 → (if k + 1 == wanted then v else x) ≡ get_or (c ++ v ∷ []) wanted []
next_taken wanted k v x c long so_far le = elim (cases_eq (k + 1) wanted) [
  | inl same ↦
      let here : (k + 1 == wanted) ≡ true = grind (arith, nat_tests) in
      let last : wanted ≡ length c = omega arith in
      rw (here, last) (sym (get_or-append_seam c v [] []))
  | inr apart ↦
      let other : (k + 1 == wanted) ≡ false = grind (arith, nat_tests) in
      rw other (so_far (omega arith) ∙ sym (get_or_append_left c (v ∷ []) [] wanted (omega arith)))
]

step_taken : (here flushed : Bool) (wanted k : ℕ) (v x : List ℕ) (c : List (List ℕ)) → length c ≡ k + 1 → (wanted ≤ k → x ≡ get_or c wanted []) → wanted ≤ number_after here flushed k
    → (if here && (if flushed then 0 else k + 1) == wanted then v else x) ≡ get_or (after here flushed v c) wanted []
unfolding after number_after
step_taken false flushed wanted k v x c long so_far le = so_far le
step_taken true true wanted k v x c long so_far le = let none : wanted ≡ 0 = omega arith in rw none refl
step_taken true false wanted k v x c long so_far le = next_taken wanted k v x c long so_far le

taken_is : (size b wanted k : ℕ) (x : List ℕ) (c : List (List ℕ)) (ms : List Mark) (values : List ℕ) → length c ≡ k + 1 → (wanted ≤ k → x ≡ get_or c wanted []) → wanted ≤ last_number b k ms
    → taken b wanted k x (changes size ms values) ≡ get_or (at_block b c (changes size ms values)) wanted []
unfolding after number_after
taken_is size b wanted k x c [] values long so_far within = so_far within
taken_is size b wanted k x c (m ∷ ms) values long so_far within =
    let here = m.block == b in
    let flushed = is_some m.flushed in
    let v = take size values in
    taken_is size b wanted (number_after here flushed k) (if here && (if flushed then 0 else k + 1) == wanted then v else x) (after here flushed v c) ms (drop size values)
    (one_more here flushed v c k long) (step_taken here flushed wanted k v x c long so_far) within

-- of each block a candidate is chosen
chosen : (pick : Pick) (count : ℕ) → 0 < count → choice pick count < count
chosen Oldest count some = some
chosen Newest count some = omega arith
chosen (Seeded number) count some = elim (cases_Bool (nat_lt 1 count)) [
  | inl more ↦ rw more (mod-lt _ some)
  | inr one ↦ rw one some
]

choices_within : (pick : Pick) (lasts : List ℕ) (b : ℕ) → b < length lasts → get_or (choices pick lasts) b 0 ≤ get_or lasts b 0
choices_within pick [] b within = absurd (omega arith)
choices_within pick (last ∷ lasts) zero within = omega (arith, chosen pick (last + 1) (omega arith))
choices_within pick (last ∷ lasts) (suc b) within = choices_within (after_choice pick (last + 1)) lasts b (omega arith)

pub length-choices : (pick : Pick) (lasts : List ℕ) → length (choices pick lasts) ≡ length lasts
length-choices pick [] = refl
length-choices pick (last ∷ lasts) = ap suc (length-choices (after_choice pick (last + 1)) lasts)

length-picked : (pick : Pick) (cs : List (List (List ℕ))) → length (picked pick cs) ≡ length cs
length-picked pick [] = refl
length-picked pick (c ∷ cs) = ap suc (length-picked (after_choice pick (length c)) cs)

picked_at : (pick : Pick) (cs : List (List (List ℕ))) (lasts : List ℕ) → length lasts ≡ length cs → ((b : ℕ) → b < length cs → length (get_or cs b []) ≡ get_or lasts b 0 + 1) → (b : ℕ) → b < length cs
    → get_or (picked pick cs) b [] ≡ get_or (get_or cs b []) (get_or (choices pick lasts) b 0) []
picked_at pick [] lasts long counts b within = absurd (omega arith)
picked_at pick (c ∷ cs) [] long counts b within = absurd (omega arith)
picked_at pick (c ∷ cs) (last ∷ lasts) long counts zero within = ap (λ n. get_or c (choice pick n) []) (counts 0 within)
picked_at pick (c ∷ cs) (last ∷ lasts) long counts (suc b) within =
    let here : length c ≡ last + 1 = counts 0 (omega arith) in
    ap (λ n. get_or (picked (after_choice pick n) cs) b []) here
    ∙ picked_at (after_choice pick (last + 1)) cs lasts (omega arith) (λ k on. counts (suc k) (omega arith)) b (omega arith)

-- an image of which each block is what is taken of it is the one that is picked
module _ (size n : ℕ) (pick : Pick) (first image : List (List ℕ)) (lasts : List ℕ) (ms : List Mark) (values : List ℕ) (whole : length first ≡ n) (long : length image ≡ n) (listed : length lasts ≡ n)
    (numbers : (b : ℕ) → b < n → get_or lasts b 0 ≡ last_number b 0 ms) (takes : (b : ℕ) → b < n → get_or image b [] ≡ taken b (get_or (choices pick lasts) b 0) 0 (get_or first b []) (changes size ms values)) where
  block_is : (b : ℕ) → b < n → get_or image b [] ≡ get_or (picked pick (candidates_after first (changes size ms values))) b []
  block_is b on =
      let ws = changes size ms values in
      let of_block : get_or (candidates_after first ws) b [] ≡ block_candidates b first ws = get_or-candidates_after b first ws (omega arith) in
      let counts : (k : ℕ) → k < length (candidates_after first ws) → length (get_or (candidates_after first ws) k []) ≡ get_or lasts k 0 + 1 = λ k at.
      let within : k < n = omega (arith, length-candidates_after first ws) in
      ap length (get_or-candidates_after k first ws (omega arith)) ∙ last_of_block size k 0 (get_or first k [] ∷ []) ms values refl ∙ ap (λ (i : ℕ). i + 1) (sym (numbers k within)) in
      let small : get_or (choices pick lasts) b 0 ≤ last_number b 0 ms = omega (arith, choices_within pick lasts b (omega arith), numbers b on) in
      takes b on
      ∙ taken_is size b (get_or (choices pick lasts) b 0) 0 (get_or first b []) (get_or first b [] ∷ []) ms values refl (λ le. only (get_or (choices pick lasts) b 0) le) small
      ∙ ap (λ (c : List (List ℕ)). get_or c (get_or (choices pick lasts) b 0) []) (sym of_block)
      ∙ sym (picked_at pick (candidates_after first ws) lasts (omega (arith, length-candidates_after first ws)) counts b (omega (arith, length-candidates_after first ws)))
    where
      only : (k : ℕ) → k ≤ 0 → get_or first b [] ≡ get_or (get_or first b [] ∷ []) k []
      only k le = let none : k ≡ 0 = omega arith in rw none refl

  pub cut_is : image ≡ picked pick (candidates_after first (changes size ms values))
  cut_is = ext_get_or [] image (picked pick (candidates_after first (changes size ms values))) (long ∙ sym (length-picked pick (candidates_after first (changes size ms values)) ∙ length-candidates_after first (changes size ms values) ∙ whole)) (λ b within. block_is b (omega arith))

-- each picked image is a crash image
picked_crash : (pick : Pick) (cs : List (List (List ℕ))) → ((b : ℕ) → b < length cs → 0 < length (get_or cs b [])) → IsCrash cs (picked pick cs)
picked_crash pick [] some = record { size = refl; each = λ b within. absurd (omega arith) }
picked_crash pick (c ∷ cs) some =
    let rest = picked_crash (after_choice pick (length c)) cs (λ b within. some (suc b) (omega arith)) in
    record {
      size = ap suc rest.size;
      each = λ b within. taken_of pick c cs rest.each (some 0 (omega arith)) b within;
    }
  where
    taken_of : (pick : Pick) (c : List (List ℕ)) (cs : List (List (List ℕ))) → ((b : ℕ) → b < length cs → Contains (get_or cs b []) (get_or (picked (after_choice pick (length c)) cs) b []))
        → 0 < length c → (b : ℕ) → b < length (c ∷ cs) → Contains (get_or (c ∷ cs) b []) (get_or (picked pick (c ∷ cs)) b [])
    taken_of pick c cs rest some zero within = Contains-get_or c (choice pick (length c)) [] (chosen pick (length c) some)
    taken_of pick c cs rest some (suc b) within = rest b (omega arith)

pub picked_cut : (s : State) → IsFit s → (pick : Pick) → IsCrash (content s).candidates (picked pick (content s).candidates)
picked_cut s fit pick =
    let shaped = content_shaped s fit in
    picked_crash pick (content s).candidates (λ b within. some_of (get_or (content s).candidates b []) (get_or (content s).now b []) (shaped.held b (omega (arith, shaped.listed))))
  where
    some_of : (c : List (List ℕ)) (v : List ℕ) → Contains c v → 0 < length c
    some_of c v has = let h : has.0 < length c = has.1 in omega arith

-- what is answered for a cut of a disk in memory, whose history is past
pub cut_bytes : {E : Type 0} (s : State) → IsFit s → (past : Past) (pick : Pick) (r : Result (Vec ℕ Global) E) → past.geometry ≡ s.geometry → past.first ≡ s.first → past.writes ≡ s.writes
    → IfOk r (λ v. IsBytesOf past.geometry (picked pick (candidates_after past.first past.writes)) v.items) → IfOk r (λ v. IsBytesOf s.geometry (picked pick (content s).candidates) v.items)
cut_bytes s fit past pick (Err e) is_geometry is_first is_writes bytes = tt
cut_bytes s fit past pick (Ok v) is_geometry is_first is_writes bytes =
    let same : candidates_after past.first past.writes ≡ (content s).candidates = ap (λ l. candidates_after l past.writes) is_first ∙ ap (candidates_after s.first) is_writes ∙ sym (candidates_now s fit) in
    subst (λ (cs : List (List (List ℕ))). IsBytesOf s.geometry (picked pick cs) v.items) same
    (subst (λ (g : Geometry). IsBytesOf g (picked pick (candidates_after past.first past.writes)) v.items) is_geometry bytes)

pub cut_crash : {E : Type 0} (s : State) → IsFit s → (pick : Pick) (r : Result (Vec ℕ Global) E) → IfOk r (λ v. IsBytesOf s.geometry (picked pick (content s).candidates) v.items)
    → IfOk r (λ v. IsCrash (content s).candidates (image_of s.geometry v.items))
cut_crash s fit pick (Err e) bytes = tt
cut_crash s fit pick (Ok v) bytes = subst (IsCrash (content s).candidates) (sym bytes.blocks) (picked_cut s fit pick)

-- a block may be put into an image
put_at : (hit : Bool) (k : ℕ) (v : List ℕ) (blocks : List (List ℕ)) → k < length blocks → get_or (if hit then set blocks k v else blocks) k [] ≡ (if hit then v else get_or blocks k [])
put_at true k v blocks on = get_or-set_same blocks k v [] on
put_at false k v blocks on = refl

put_beside : (hit : Bool) (k b : ℕ) (v : List ℕ) (blocks : List (List ℕ)) → (b ≡ k → ⊥) → get_or (if hit then set blocks k v else blocks) b [] ≡ get_or blocks b []
put_beside true k b v blocks apart = get_or-set_other blocks k b v [] apart
put_beside false k b v blocks apart = refl

put_bytes : (hit : Bool) (size n k : ℕ) (v image : List ℕ) → k < n → length v ≡ size → length image ≡ n * size
    → blocks_of size n (if hit then take (k * length v) image ++ (v ++ drop (k * length v + length v) image) else image) ≡ (if hit then set (blocks_of size n image) k v else blocks_of size n image)
put_bytes false size n k v image on sized long = refl
put_bytes true size n k v image on sized long = ap (λ j. blocks_of size n (take (k * j) image ++ (v ++ drop (k * j + j) image))) sized ∙ blocks_of-put size n k image v on sized long

put_length : (hit : Bool) (size n k : ℕ) (v image : List ℕ) → k < n → length v ≡ size → length image ≡ n * size → length (if hit then take (k * length v) image ++ (v ++ drop (k * length v + length v) image) else image) ≡ n * size
put_length false size n k v image on sized long = long
put_length true size n k v image on sized long =
    let end : k * length v + length v ≤ n * size = omega (arith, ap (λ j. k * j + j) sized, block_end size n k on) in
    simp (length-append, length-take, length-drop) (omega arith)

itself : (k : ℕ) → (k == k) ≡ true
itself k = grind (arith, nat_tests)

-- one more write of a cut
module _ (size n i : ℕ) (marks : List Mark) (values picks numbers image numbers_now image_now v : List ℕ) (m : Mark) (within : i < length marks) (is : m ≡ get_or marks i m) (is_v : v ≡ take size (drop (i * size) values)) (on : m.block < n) (numbered : length numbers ≡ n)
    (long : length image ≡ n * size) (sized : length v ≡ size) (are_numbers : numbers_now ≡ set numbers m.block (next_number m.flushed (get_or numbers m.block 0)))
    (is_image : image_now ≡ with_picked (get_or picks m.block 0) (next_number m.flushed (get_or numbers m.block 0)) m.block v image) where
  numbered_now : (b : ℕ) → get_or numbers_now b 0 ≡ (if m.block == b then next_number m.flushed (get_or numbers b 0) else get_or numbers b 0)
  numbered_now b = elim (cases_eq m.block b) [
    | inl same ↦
        let here : (m.block == b) ≡ true = grind (arith, nat_tests) in
        rw here (ap (λ l. get_or l b 0) are_numbers ∙ ap (λ k. get_or (set numbers k (next_number m.flushed (get_or numbers k 0))) b 0) same ∙ get_or-set_same numbers b (next_number m.flushed (get_or numbers b 0)) 0 (omega arith))
    | inr apart ↦
        let other : (m.block == b) ≡ false = grind (arith, nat_tests) in
        let turned : (b ≡ m.block) → ⊥ = λ e. apart (sym e) in
        rw other (ap (λ l. get_or l b 0) are_numbers ∙ get_or-set_other numbers m.block b (next_number m.flushed (get_or numbers m.block 0)) 0 turned)
  ]

  pub long_now : length image_now ≡ n * size
  long_now = ap length is_image ∙ put_length (next_number m.flushed (get_or numbers m.block 0) == get_or picks m.block 0) size n m.block v image on sized long

  imaged_now : (b : ℕ) → get_or (blocks_of size n image_now) b [] ≡ (if m.block == b && next_number m.flushed (get_or numbers b 0) == get_or picks b 0 then v else get_or (blocks_of size n image) b [])
  imaged_now b =
      let hit : Bool = next_number m.flushed (get_or numbers m.block 0) == get_or picks m.block 0 in
      let blocks : List (List ℕ) = blocks_of size n image in
      ap (λ l. get_or (blocks_of size n l) b []) is_image ∙ ap (λ l. get_or l b []) (put_bytes hit size n m.block v image on sized long)
      ∙ elim (cases_eq m.block b) [
        | inl same ↦ subst (λ (k : ℕ). get_or (if hit then set blocks m.block v else blocks) k [] ≡ (if m.block == k && next_number m.flushed (get_or numbers k 0) == get_or picks k 0 then v else get_or blocks k [])) same
            (rw (itself m.block) (put_at hit m.block v blocks (omega (arith, length-blocks_of size n image))))
        | inr apart ↦
            let other : (m.block == b) ≡ false = grind (arith, nat_tests) in
            let turned : (b ≡ m.block) → ⊥ = λ e. apart (sym e) in
            rw other (put_beside hit m.block b v blocks turned)
      ]

  -- leaves what is still to be taken of each block
  pub still_taken : (b : ℕ) → taken b (get_or picks b 0) (get_or numbers_now b 0) (get_or (blocks_of size n image_now) b []) (changes size (drop (i + 1) marks) (drop ((i + 1) * size) values))
      ≡ taken b (get_or picks b 0) (get_or numbers b 0) (get_or (blocks_of size n image) b []) (changes size (drop i marks) (drop (i * size) values))
  still_taken b =
      let next : drop i marks ≡ m ∷ drop (suc i) marks = drop-cons marks i m within ∙ ap (λ x. x ∷ drop (suc i) marks) (sym is) in
      let one : i + 1 ≡ suc i = omega arith in
      let rest : drop ((i + 1) * size) values ≡ drop size (drop (i * size) values) = ap (λ k. drop k values) (let e : (i + 1) * size ≡ i * size + size = grind arith in e) ∙ sym (drop-drop size (i * size) values) in
      let later : List Change = changes size (drop (suc i) marks) (drop size (drop (i * size) values)) in
      ap (λ l. taken b (get_or picks b 0) (get_or numbers_now b 0) (get_or (blocks_of size n image_now) b []) (changes size l (drop ((i + 1) * size) values))) (ap (λ k. drop k marks) one)
      ∙ ap (λ l. taken b (get_or picks b 0) (get_or numbers_now b 0) (get_or (blocks_of size n image_now) b []) (changes size (drop (suc i) marks) l)) rest
      ∙ ap (λ k. taken b (get_or picks b 0) k (get_or (blocks_of size n image_now) b []) later) (numbered_now b)
      ∙ ap (λ x. taken b (get_or picks b 0) (if m.block == b then next_number m.flushed (get_or numbers b 0) else get_or numbers b 0) x later) (imaged_now b ∙ ap (λ w. if m.block == b && next_number m.flushed (get_or numbers b 0) == get_or picks b 0 then w else get_or (blocks_of size n image) b []) is_v)
      ∙ ap (λ l. taken b (get_or picks b 0) (get_or numbers b 0) (get_or (blocks_of size n image) b []) (changes size l (drop (i * size) values))) (sym next)

-- of the numbers too: each is at most that of the writes so far
pub still_small : (n i at k : ℕ) (flushed : Option ℕ) (numbers numbers_now : List ℕ) → length numbers ≡ n → at < n → k ≡ get_or numbers at 0 → numbers_now ≡ set numbers at (next_number flushed k) → ((b : ℕ) → b < n → get_or numbers b 0 ≤ i) → (b : ℕ) → b < n → get_or numbers_now b 0 ≤ i + 1
still_small n i at k flushed numbers numbers_now numbered on is are small b within = elim (cases_eq b at) [
  | inl same ↦
      let here : get_or numbers_now b 0 ≡ next_number flushed k = ap (λ l. get_or l b 0) are ∙ ap (λ j. get_or (set numbers at (next_number flushed k)) j 0) same ∙ get_or-set_same numbers at (next_number flushed k) 0 (omega arith) in
      omega (arith, at_most flushed k, small at on)
  | inr apart ↦
      let here : get_or numbers_now b 0 ≡ get_or numbers b 0 = ap (λ l. get_or l b 0) are ∙ get_or-set_other numbers at b (next_number flushed k) 0 apart in
      omega (arith, small b within)
]
  where
    at_most : (flushed : Option ℕ) (k : ℕ) → next_number flushed k ≤ k + 1
    at_most None k = omega arith
    at_most (Some f) k = omega arith

-- all writes were gone through
pub cut_done : (g : Geometry) (first values image : List ℕ) (marks : List Mark) (pick : Pick) (lasts picks numbers : List ℕ) (i : ℕ) → length marks ≤ i → length image ≡ g.blocks * g.block_size → length lasts ≡ g.blocks → picks ≡ choices pick lasts
    → ((b : ℕ) → b < g.blocks → get_or lasts b 0 ≡ last_number b 0 marks)
    → ((b : ℕ) → b < g.blocks → taken b (get_or picks b 0) (get_or numbers b 0) (get_or (image_of g image) b []) (changes g.block_size (drop i marks) (drop (i * g.block_size) values)) ≡ taken b (get_or picks b 0) 0 (get_or (image_of g first) b []) (changes g.block_size marks values))
    → IsBytesOf g (picked pick (candidates_after (image_of g first) (changes g.block_size marks values))) image
cut_done g first values image marks pick lasts picks numbers i over long listed are_picks are_lasts rest =
    let size = g.block_size in
    let n = g.blocks in
    let left : List ℕ = drop (i * size) values in
    record {
      whole = long;
      blocks = cut_is size n pick (image_of g first) (image_of g image) lasts marks values (length-blocks_of size n first) (length-blocks_of size n image) listed are_lasts (λ b on.
          sym (ap (λ l. taken b (get_or picks b 0) (get_or numbers b 0) (get_or (image_of g image) b []) (changes size l left)) (drop_all i marks over))
          ∙ rest b on
          ∙ ap (λ l. taken b (get_or l b 0) 0 (get_or (image_of g first) b []) (changes size marks values)) are_picks);
    }
