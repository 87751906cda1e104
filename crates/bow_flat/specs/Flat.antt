-- The device without its machinery: what each block may read as, and what a cut may leave of it.
use Rattle.std.specs.Prelude.{◌≡◌, ℕ, zero, suc, ◌+◌, ◌*◌, ◌<◌, ◌≤◌, ◌==◌, ◌&&◌, ◌||◌, nat_le, nat_lt, Bool, true, false, not, if◌then◌else◌, List, [], ◌∷◌, ◌++◌, take, drop, slice_index_or, Option, None, Some, Contains}
use Rattle.bow_units.specs.declared.requests.Phase.{Phase}
use Rattle.bow_units.specs.declared.requests.Phase.TheVariants.{Trim, Arming, Checkpoint, Deciding, Committed}
use Rattle.bow_units.specs.declared.sizes.Extent.{Extent}

-- what is known of a block's content: one of these, or nothing, and then it may be anything
abbrev pub Known : Type 0
Known = Option (List (List ℕ))

-- the block may have this content
abbrev pub May : Option (List (List ℕ)) → List ℕ → Type 0
May None x = Unit {0}
May (Some xs) x = Contains xs x

-- nothing is known of the block: it may have any content
abbrev pub is_any : Option (List (List ℕ)) → Bool
is_any None = true
is_any (Some xs) = false

-- these contents and one more
abbrev pub added : Option (List (List ℕ)) → List ℕ → Option (List (List ℕ))
added None v = None
added (Some xs) v = Some (xs ++ v ∷ [])

-- this content alone, of a block of which something is known
abbrev pub narrowed : Option (List (List ℕ)) → List ℕ → Option (List (List ℕ))
narrowed None v = None
narrowed (Some xs) v = Some (v ∷ [])

-- f, but v at b
abbrev pub put : {X : Type 0} → (ℕ → X) → ℕ → X → ℕ → X
put f b v k = if k == b then v else f k

-- The state that a user may believe in.
pub record Flat : Type 0 where
  pub phase : Phase
  -- what each block may read as; one content unless a write of it failed
  pub current : ℕ → Option (List (List ℕ))
  -- what a cut may leave of each block's data
  pub pending : ℕ → Option (List (List ℕ))
  -- whether the block was discarded after the last write of it that was tried in Trim
  pub trim : ℕ → Bool
  -- whether the block was in use at the checkpoint, and what it held then
  pub used : ℕ → Bool
  pub saved : ℕ → List ℕ
  -- how many blocks were free at the checkpoint
  pub trimmed : ℕ

-- What one step does to the state.
pub data Event : Type 0 where
  Writes : ℕ → List ℕ → Event
  Fails : ℕ → List ℕ → Event
  Reads : ℕ → List ℕ → Event
  Discards : Extent → Event
  Flushes : Event
  Arms : (ℕ → List ℕ) → Event
  Prepares : Event
  Decides : Event
  Commits : Event
  Rests : Event

-- a block of the extent other than block 0
abbrev pub discards : Extent → ℕ → Bool
discards e b = nat_lt 0 b && (nat_le e.first b && nat_lt b (e.first + e.count))

-- a block that is written in Trim counts as discarded no more
abbrev pub trim_written : Phase → (ℕ → Bool) → ℕ → ℕ → Bool
trim_written Trim trim b = put trim b false
trim_written phase trim b = trim

-- what is discarded in Trim counts as discarded
abbrev pub trim_discarded : Phase → (ℕ → Bool) → Extent → ℕ → Bool
trim_discarded Trim trim e b = trim b || discards e b
trim_discarded phase trim e b = trim b

-- how many of the n blocks from first on are so
abbrev pub count_from : (ℕ → Bool) → ℕ → ℕ → ℕ
count_from p first zero = 0
count_from p first (suc n) = (if p first then 1 else 0) + count_from p (suc first) n

-- how many blocks of a device of n blocks are so
abbrev pub count_below : (ℕ → Bool) → ℕ → ℕ
count_below p n = count_from p 0 n

-- the state after an event, of a device of n blocks
abbrev pub after : ℕ → Event → Flat → Flat
after n (Writes b v) f = record f {
  current = put f.current b (Some (v ∷ []));
  pending = put f.pending b (added (f.pending b) v);
  trim = trim_written f.phase f.trim b;
}
after n (Fails b v) f = record f {
  current = put f.current b (added (f.current b) v);
  pending = put f.pending b (added (f.pending b) v);
  trim = trim_written f.phase f.trim b;
}
after n (Reads b v) f = record f { current = put f.current b (narrowed (f.current b) v) }
after n (Discards e) f = record f {
  current = λ b. if discards e b then None else f.current b;
  pending = λ b. if discards e b then None else f.pending b;
  trim = trim_discarded f.phase f.trim e;
}
after n Flushes f = record f { pending = f.current }
after n (Arms saved) f = record f {
  phase = Arming;
  trimmed = count_below f.trim n;
  used = λ b. not (is_any (f.current b));
  saved = saved;
  current = λ b. narrowed (f.current b) (saved b);
  pending = λ b. narrowed (f.current b) (saved b);
}
after n Prepares f = record f { phase = Checkpoint }
after n Decides f = record f { phase = Deciding; pending = f.current }
after n Commits f = record f { phase = Committed }
after n Rests f = f

-- the event may be, of a device of n blocks
abbrev pub Allows : ℕ → Event → Flat → Type 0
Allows n (Reads b v) f = May (f.current b) v
Allows n (Arms saved) f = (f.phase ≡ Trim) × (2 ≤ count_below f.trim n)
    × ((b : ℕ) → b < n → May (f.current b) (saved b))
Allows n Prepares f = f.phase ≡ Arming
Allows n Decides f = f.phase ≡ Checkpoint
Allows n Commits f = f.phase ≡ Deciding
Allows n event f = Unit {0}

-- the state of a device that is opened on this image
abbrev pub opening : List (List ℕ) → Flat
opening image = record {
  phase = Trim;
  current = λ b. Some (slice_index_or image b [] ∷ []);
  pending = λ b. Some (slice_index_or image b [] ∷ []);
  trim = λ b. false;
  used = λ b. false;
  saved = λ b. [];
  trimmed = 0;
}

-- block i of a run of blocks' bytes
abbrev pub block_at : ℕ → List ℕ → ℕ → List ℕ
block_at size bytes i = take size (drop (i * size) bytes)
