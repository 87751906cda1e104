-- What a disk in memory keeps of its writes, after one more and after a flush.
use Rattle.std.proofs.Common.{◌≡◌, ℕ, suc, ◌+◌, ◌*◌, ◌<◌, ◌≤◌, List, [], ◌∷◌, ◌++◌, length, map, set, get_or, take, drop, true, Option, None, Some, refl, sym, ap, ◌∙◌, subst, arith, length-append, length-take, length-drop}
use Rattle.std.specs.Prelude.{is_some}
use Rattle.std.specs.List.{All}
use Rattle.std.proofs.lemmas.List.{length-map, map-append, take-append-drop, take-append-le}
use Rattle.std.proofs.lemmas.List.Elements.{All-head, All-tail, All-map, All-push, All-take}
use Rattle.std.proofs.Math.Nat.{mul-le-mul_right}
use Rattle.bow_units.specs.declared.sizes.Geometry.{Geometry}
use Rattle.bow_disk.specs.declared.history.Mark.{Mark}
use Rattle.bow_disk.specs.Bytes.{image_of}
use Rattle.bow_disk.specs.Memory.{Change, latest, flushed_at}
use Rattle.bow_disk.specs.Layout.{Past, changes, flush_mark, IsLaidOut}
use Rattle.bow_disk.proofs.Blocks.{blocks_of-put, block_end, changes-push, changes-flushed, length-changes}
use Rattle.bow_disk.proofs.Candidates.{latest-push, latest-flushed}

past : Geometry → List (List ℕ) → ℕ → List Change → Past
past g first room ws = record { geometry = g; first = first; writes = ws; room = room }

-- other writes
pub with_writes : (g : Geometry) (first : List (List ℕ)) (ws later : List Change) (room : ℕ) (now : Past) (f : List Change → List Change)
    → ◌≡◌ {A = Past} (record { geometry = g; first = first; writes = ws; room = room }) now → later ≡ f ws
    → ◌≡◌ {A = Past} (record { geometry = g; first = first; writes = later; room = room }) (record now { writes = f now.writes })
unfolding past
with_writes g first ws later room now f is same =
    subst (λ (p : Past). ◌≡◌ {A = Past} (record { geometry = g; first = first; writes = later; room = room }) (record p { writes = f p.writes })) is
    (ap (past g first room) same)

-- what was flushed stays as it was
flag_stays : (f : ℕ) (flag : Option ℕ) → is_some flag ≡ true → flushed_at f flag ≡ flag
flag_stays f None some = absurd (cc some)
flag_stays f (Some g) some = refl

marks_stay : (f : ℕ) (ms : List Mark) → All (λ m. is_some m.flushed ≡ true) ms → map (flush_mark f) ms ≡ ms
marks_stay f [] flushed = refl
marks_stay f (m ∷ ms) flushed =
    let P : Mark → Type 0 = λ x. is_some x.flushed ≡ true in
    let same : flush_mark f m ≡ m = ap (λ o. record m { flushed = o }) (flag_stays f m.flushed (All-head P m ms flushed)) in
    ap (λ x. x ∷ map (flush_mark f) ms) same ∙ ap (λ l. m ∷ l) (marks_stay f ms (All-tail P m ms flushed))

-- so only the marks after these need to be looked at
pub flushed_after : (f settled : ℕ) (marks : List Mark) → All (λ m. is_some m.flushed ≡ true) (take settled marks) → take settled marks ++ map (flush_mark f) (drop settled marks) ≡ map (flush_mark f) marks
flushed_after f settled marks flushed =
    ap (λ l. l ++ map (flush_mark f) (drop settled marks)) (sym (marks_stay f (take settled marks) flushed))
    ∙ sym (map-append (flush_mark f) (take settled marks) (drop settled marks))
    ∙ ap (map (flush_mark f)) (take-append-drop settled marks)

flag_flushed : (f : ℕ) (flag : Option ℕ) → is_some (flushed_at f flag) ≡ true
flag_flushed f None = refl
flag_flushed f (Some g) = refl

module _ (g : Geometry) (first bytes : List ℕ) (marks : List Mark) (values : List ℕ) (room settled marks_capacity values_capacity : ℕ) (laid : IsLaidOut g first bytes marks values room settled marks_capacity values_capacity) where
  pub flushed_layout : (f : ℕ) (later : List Mark) (capacity : ℕ) → later ≡ take settled marks ++ map (flush_mark f) (drop settled marks) → capacity ≡ marks_capacity → IsLaidOut g first bytes later values room (length later) capacity values_capacity
  flushed_layout f later capacity parts same =
      let is : later ≡ map (flush_mark f) marks = parts ∙ flushed_after f settled marks laid.flushed in
      let all : All (λ m. is_some m.flushed ≡ true) later = subst (λ (l : List Mark). All (λ m. is_some m.flushed ≡ true) l) (sym is) (All-map (λ m. is_some m.flushed ≡ true) (flush_mark f) marks (λ k d within. flag_flushed f (get_or marks k d).flushed)) in
      let long : length later ≡ length marks = ap length is ∙ length-map marks (flush_mark f) in
      record {
        on = subst (λ (l : List Mark). All (λ m. m.block < g.blocks) l) (sym is) (All-map (λ m. m.block < g.blocks) (flush_mark f) marks laid.on);
        flushed = All-take (λ m. is_some m.flushed ≡ true) (length later) later all;
        settled_fit = omega arith;
        first_len = laid.first_len;
        bytes_len = laid.bytes_len;
        values_len = laid.values_len ∙ ap (λ n. n * g.block_size) (sym long);
        now = laid.now ∙ sym (ap (λ l. latest (image_of g first) (changes g.block_size l values)) is ∙ ap (latest (image_of g first)) (changes-flushed g.block_size f marks values) ∙ latest-flushed f (image_of g first) (changes g.block_size marks values));
        marks_fit = omega (arith, laid.marks_fit);
        marks_room = omega (arith, laid.marks_room);
        values_room = laid.values_room;
      }

  module _ (m : Mark) (v : List ℕ) (within : m.block < g.blocks) (whole : length v ≡ g.block_size) (open_yet : m.flushed ≡ None) where
    pub written_changes : (later : List Mark) (more : List ℕ) → later ≡ marks ++ m ∷ [] → more ≡ values ++ v
        → changes g.block_size later more ≡ changes g.block_size marks values ++ record { call = m.call; block = m.block; value = v; flushed = m.flushed } ∷ []
    written_changes later more is is_more = ap (λ l. changes g.block_size l more) is ∙ ap (changes g.block_size (marks ++ m ∷ [])) is_more ∙ changes-push g.block_size marks m values v laid.values_len whole

    pub written_layout : (later : List Mark) (more now : List ℕ) (capacity values_more : ℕ) → later ≡ marks ++ m ∷ [] → more ≡ values ++ v
        → now ≡ take (m.block * g.block_size) bytes ++ (v ++ drop (m.block * g.block_size + g.block_size) bytes) → length marks < room → capacity ≡ marks_capacity → values_capacity ≤ values_more
        → IsLaidOut g first now later more room settled capacity values_more
    written_layout later more now capacity values_more is is_more is_now spare same grown =
        let size = g.block_size in
        let at = m.block * size in
        let long : length later ≡ suc (length marks) = ap length is ∙ (let e = length-append marks (m ∷ []) in omega arith) in
        let end : at + size ≤ g.blocks * size = block_end size g.blocks m.block within in
        record {
          on = subst (λ (l : List Mark). All (λ x. x.block < g.blocks) l) (sym is) (All-push (λ x. x.block < g.blocks) marks m laid.on within);
          flushed = subst (λ (l : List Mark). All (λ x. is_some x.flushed ≡ true) l) (sym (ap (take settled) is ∙ take-append-le settled marks (m ∷ []) laid.settled_fit)) laid.flushed;
          settled_fit = omega (arith, laid.settled_fit);
          first_len = laid.first_len;
          bytes_len = ap length is_now ∙ omega (arith, laid.bytes_len, length-append (take at bytes) (v ++ drop (at + size) bytes), length-append v (drop (at + size) bytes), length-take at bytes, length-drop (at + size) bytes);
          values_len = let more_len : length more ≡ length values + length v = ap length is_more ∙ length-append values v in
              let total : suc (length marks) * size ≡ length marks * size + size = grind arith in
              rw long (omega (arith, laid.values_len));
          now = ap (image_of g) is_now ∙ blocks_of-put size g.blocks m.block bytes v within whole laid.bytes_len ∙ ap (λ (l : List (List ℕ)). set l m.block v) laid.now
              ∙ sym (ap (latest (image_of g first)) (written_changes later more is is_more) ∙ latest-push (image_of g first) (changes size marks values) (record { call = m.call; block = m.block; value = v; flushed = m.flushed }));
          marks_fit = omega arith;
          marks_room = omega (arith, laid.marks_room);
          values_room = omega (arith, laid.values_room);
        }

-- there is room for one more value
pub room_for_value : (size count room length_values capacity : ℕ) → length_values ≡ count * size → count < room → room * size ≤ capacity → length_values + size ≤ capacity
room_for_value size count room length_values capacity long spare fits =
    let more : suc count * size ≡ count * size + size = grind arith in omega (arith, mul-le-mul_right size (let h : suc count ≤ room = omega arith in h))

-- there is room for one more mark
pub room_for_mark : (g : Geometry) (first : List (List ℕ)) (marks : List Mark) (values : List ℕ) (room : ℕ) (now : Past)
    → ◌≡◌ {A = Past} (record { geometry = g; first = first; writes = changes g.block_size marks values; room = room }) now → length now.writes < now.room → length marks < room
room_for_mark g first marks values room now is spare =
    let long : length (changes g.block_size marks values) ≡ length now.writes = ap (λ (p : Past). length p.writes) is in
    let same : room ≡ now.room = ap (λ (p : Past). p.room) is in
    omega (arith, length-changes g.block_size marks values)
