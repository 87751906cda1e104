-- How the writes that a disk in memory keeps change with a call, and what that makes of the candidates.
use Rattle.std.proofs.Common.{◌≡◌, ℕ, ◌<◌, ◌≤◌, true, List, [], ◌∷◌, ◌++◌, map, set, Option, None, Some, refl, sym, ap, ◌∙◌, arith}
use Rattle.std.specs.Prelude.{nat_le}
use Rattle.std.specs.List.{All}
use Rattle.std.proofs.lemmas.Bool.{le-leb}
use Rattle.std.proofs.lemmas.Bool.Decides.{nat_tests}
use Rattle.std.proofs.lemmas.List.{map-set}
use Rattle.std.proofs.lemmas.List.Elements.{All-head, All-tail}
use Rattle.bow_disk.specs.Memory.{Change, is_flushed_by, latest, alone, change_at, candidates_at, IsPast, flushed_at, flush_change}

pub latest-push : (image : List (List ℕ)) (ws : List Change) (w : Change) → latest image (ws ++ w ∷ []) ≡ set (latest image ws) w.block w.value
latest-push image [] w = refl
latest-push image (x ∷ ws) w = latest-push (set image x.block x.value) ws w

pub latest-flushed : (f : ℕ) (image : List (List ℕ)) (ws : List Change) → latest image (map (flush_change f) ws) ≡ latest image ws
latest-flushed f image [] = refl
latest-flushed f image (w ∷ ws) = latest-flushed f (set image w.block w.value) ws

pub candidates_at-push : (k : ℕ) (cs : List (List (List ℕ))) (ws : List Change) (w : Change) → candidates_at k cs (ws ++ w ∷ []) ≡ change_at k (candidates_at k cs ws) w
candidates_at-push k cs [] w = refl
candidates_at-push k cs (x ∷ ws) w = candidates_at-push k (change_at k cs x) ws w

-- a later call than all changes leaves what the last of them left
flushed_later : (c k : ℕ) (f : Option ℕ) → ((g : ℕ) → f ≡ Some g → g ≤ c) → c ≤ k → is_flushed_by k f ≡ is_flushed_by c f
flushed_later c k None past later = refl
flushed_later c k (Some g) past later = le-leb g k (let h : g ≤ c = past g refl in omega arith) ∙ sym (le-leb g c (past g refl))

change_later : (c k n size : ℕ) (cs : List (List (List ℕ))) (w : Change) → IsPast c n size w → c ≤ k → change_at k cs w ≡ change_at c cs w
change_later c k n size cs w past later =
    let flag = flushed_later c k w.flushed past.flushed later in
    let one : nat_le w.call k ≡ true = le-leb w.call k (let h : w.call ≤ c = past.call in omega arith) in
    let other : nat_le w.call c ≡ true = le-leb w.call c past.call in
    rw (one, other, flag) refl

pub candidates_later : (c k n size : ℕ) (cs : List (List (List ℕ))) (ws : List Change) → All (IsPast c n size) ws → c ≤ k → candidates_at k cs ws ≡ candidates_at c cs ws
candidates_later c k n size cs [] past later = refl
candidates_later c k n size cs (w ∷ ws) past later =
    ap (λ (l : List (List (List ℕ))). candidates_at k l ws) (change_later c k n size cs w (All-head (IsPast c n size) w ws past) later)
    ∙ candidates_later c k n size (change_at c cs w) ws (All-tail (IsPast c n size) w ws past) later

-- a change after call k is not there yet
pub change_not_yet : (k : ℕ) (cs : List (List (List ℕ))) (w : Change) → k < w.call → change_at k cs w ≡ cs
change_not_yet k cs w before = grind (arith, nat_tests)

-- before the flush a change looks as it did
flag_before : (k f : ℕ) (flag : Option ℕ) → k < f → is_flushed_by k (flushed_at f flag) ≡ is_flushed_by k flag
flag_before k f None before = grind (arith, nat_tests)
flag_before k f (Some g) before = refl

change_before : (k f : ℕ) → k < f → (cs : List (List (List ℕ))) (w : Change) → change_at k cs (flush_change f w) ≡ change_at k cs w
change_before k f before cs w = rw (flag_before k f w.flushed before) refl

pub candidates_before : (k f : ℕ) (cs : List (List (List ℕ))) (ws : List Change) → k < f → candidates_at k cs (map (flush_change f) ws) ≡ candidates_at k cs ws
candidates_before k f cs [] before = refl
candidates_before k f cs (w ∷ ws) before =
    ap (λ (l : List (List (List ℕ))). candidates_at k l (map (flush_change f) ws)) (change_before k f before cs w)
    ∙ candidates_before k f (change_at k cs w) ws before

-- after it each block has one candidate
flag_after : (c f : ℕ) (flag : Option ℕ) → ((g : ℕ) → flag ≡ Some g → g ≤ c) → c ≤ f → is_flushed_by f (flushed_at f flag) ≡ true
flag_after c f None past later = le-leb f f (omega arith)
flag_after c f (Some g) past later = le-leb g f (let h : g ≤ c = past g refl in omega arith)

pub candidates_flushed : (c f n size : ℕ) (image : List (List ℕ)) (ws : List Change) → All (IsPast c n size) ws → c ≤ f → candidates_at f (alone image) (map (flush_change f) ws) ≡ alone (latest image ws)
candidates_flushed c f n size image [] past later = refl
candidates_flushed c f n size image (w ∷ ws) past later =
    let here = All-head (IsPast c n size) w ws past in
    let called : nat_le w.call f ≡ true = le-leb w.call f (let h : w.call ≤ c = here.call in omega arith) in
    let flag = flag_after c f w.flushed here.flushed later in
    let step : change_at f (alone image) (flush_change f w) ≡ alone (set image w.block w.value) = rw (called, flag) (sym (map-set (λ (x : List ℕ). x ∷ []) image w.block w.value)) in
    ap (λ (l : List (List (List ℕ))). candidates_at f l (map (flush_change f) ws)) step
    ∙ candidates_flushed c f n size (set image w.block w.value) ws (All-tail (IsPast c n size) w ws past) later
