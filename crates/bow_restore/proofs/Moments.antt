-- Calls of a disk that tells its content, one after the other.
use Rattle.std.proofs.Common.{ℕ, ◌<◌, ◌≡◌, List, Option, None, Some, Result, Ok, Err, OnOk, sym, ap, ◌∙◌, subst, ◌⊎◌, inl, inr}
use Rattle.bow_units.specs.declared.sizes.Geometry.{Geometry}
use Rattle.bow_disk.specs.Disk.{Content, Same, Offered, Written, WriteStep, FlushStep, Flushed, KeepsSizes, ReadsAs, HasBlock}
use Rattle.std.specs.Prelude.{MatchOption}
use Rattle.std.specs.Result.{is_err}
use Rattle.std.proofs.Common.{false}
use Rattle.bow_chain.specs.Contents.{contents_of}
use Rattle.bow_disk.proofs.Moments.{some_same}

pub keeps_stated : (g : Geometry) (old new : Option Geometry) → old ≡ Some g → KeepsSizes old new → new ≡ Some g
keeps_stated g None new is keeps = absurd cc
keeps_stated g (Some h) new is keeps = keeps ∙ is

-- a write, done or failed
pub given : {T E : Type 0} (r : Result T E) (b : ℕ) (v : List ℕ) (old new : Content) → WriteStep r b v old new → Same old new ⊎ (Offered b v old new ⊎ Written b v old new)
given (Ok x) b v old new h = inr (inr h)
given (Err e) b v old new h = h

-- what a read gave
pub read_told : (o : Option Content) (at : ℕ) (v : List ℕ) (c : Content) → o ≡ Some c → MatchOption o (Unit {0}) (ReadsAs at v) → v ≡ contents_of c.now at
read_told None at v c is h = absurd cc
read_told (Some o) at v c is h = sym h ∙ ap (λ (k : Content). contents_of k.now at) (some_same o c is)

-- a flush, done or failed
pub flush_cases : {T E : Type 0} (r : Result T E) (old new : Content) → FlushStep r old new → Flushed old new ⊎ Same old new
flush_cases (Ok x) old new h = inl h
flush_cases (Err e) old new h = inr h

-- a block of a device whose sizes are known
pub has_block : (g : Geometry) (s : Option Geometry) (at len : ℕ) → s ≡ Some g → at < g.blocks → len ≡ g.block_size → HasBlock s at len
has_block g None at len is on size = absurd cc
has_block g (Some h) at len is on size =
    let same : g ≡ h = cc in
    (subst (λ (k : Geometry). at < k.blocks) same on, size ∙ ap (λ (k : Geometry). k.block_size) same)

pub on_ok : {A E : Type 0} (P Q : Type 0) (r : Result A E) → (P → Q) → OnOk r P → OnOk r Q
on_ok P Q (Ok x) f h = f h
on_ok P Q (Err e) f h = tt

pub flush_ok : {A E : Type 0} (r : Result A E) (old new : Content) → is_err r ≡ false → FlushStep r old new → Flushed old new
flush_ok (Ok x) old new ok step = step
flush_ok (Err e) old new ok step = absurd cc
