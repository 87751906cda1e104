-- What the trait asks of each call, of a disk in memory whose state a call made so.
use Rattle.std.proofs.Common.{◌≡◌, inl, inr, ℕ, ◌+◌, ◌-◌, ◌^◌, ◌<◌, min, false, List, map, Option, None, Some, sym, ap, ◌∙◌, subst, arith}
use Rattle.std.specs.Prelude.{Result, Ok, Err, is_err, is_some}
use Rattle.bow_units.specs.Causes.{HasCause}
use Rattle.bow_units.specs.Blocks.{IsBlock}
use Rattle.bow_disk.specs.declared.failing.FailMode.{FailMode}
use Rattle.bow_disk.specs.declared.failing.FailMode.TheVariants.{Lost, Kept}
use Rattle.bow_disk.specs.Disk.{IsCrash, Same, WriteStep, FlushStep, Elapses}
use Rattle.bow_disk.specs.Memory.{State, IsFit, content, LeftSince, flush_change, failure, failure_after, write_failure, read_by, written_by, flushed_by}
use Rattle.bow_disk.specs.Layout.{Past, state_of}
use Rattle.bow_disk.proofs.Steps.{HasNumber, number, write_number, counted_fit, faulted_fit, same_content, same_time, written_fit, kept_fit, written_content, written_time, flushed_fit, flushed_content, flushed_time}

-- time goes on from one state to another
abbrev pub Later : State → State → Type 0
Later s new = Elapses s.calls new.calls (LeftSince s) (LeftSince new) (IsCrash (content new).candidates)

steady : {T E : Type 0} (n : ℕ) (r : Result T E) → is_err r ≡ false → HasCause n n r
steady n (Ok x) good = record { later = omega arith; failed = tt }
steady n (Err e) good = absurd (cc good)

risen : {T E : Type 0} (n : ℕ) (r : Result T E) → n < 2 ^ 64 → HasCause n (min (n + 1) (2 ^ 64 - 1)) r
risen n (Ok x) small = record { later = omega arith; failed = tt }
risen n (Err e) small = record { later = omega arith; failed = omega arith }

module _ (s : State) (fit : IsFit s) where
  pub read_fit : (f : Option FailMode) → IsFit (read_by f s)
  read_fit None = counted_fit s fit
  read_fit (Some mode) = faulted_fit s fit

  pub read_content : (f : Option FailMode) (new : State) → new ≡ read_by f s → Same (content s) (content new)
  read_content f new is = subst (λ (x : State). Same (content s) (content x)) (sym is) (by f)
    where
      by : (f : Option FailMode) → Same (content s) (content (read_by f s))
      by None = same_content s fit
      by (Some mode) = same_content s fit

  pub read_time : (f : Option FailMode) (new : State) → new ≡ read_by f s → Later s new
  read_time f new is = subst (Later s) (sym is) (by f)
    where
      by : (f : Option FailMode) → Later s (read_by f s)
      by None = same_time s fit
      by (Some mode) = same_time s fit

  pub read_cause : {T E : Type 0} (r : Result T E) (f : Option FailMode) (new : State) → is_err r ≡ is_some f → new ≡ read_by f s → HasCause s.faults new.faults r
  read_cause r f new fails is = subst (λ (x : State). HasCause s.faults x.faults r) (sym is) (by f fails)
    where
      by : (f : Option FailMode) → is_err r ≡ is_some f → HasCause s.faults (read_by f s).faults r
      by None fails = steady s.faults r fails
      by (Some mode) fails = risen s.faults r fit.faults

  module _ (at : ℕ) (v : List ℕ) (within : at < s.geometry.blocks) (whole : IsBlock s.geometry.block_size v) where
    pub write_fit : (f : Option FailMode) → HasNumber f s.calls → IsFit (written_by f at v s)
    write_fit None small = written_fit s fit small at v within whole
    write_fit (Some Lost) small = faulted_fit s fit
    write_fit (Some Kept) small = kept_fit s fit small at v within whole

    pub write_content : {T E : Type 0} (r : Result T E) (new : State) → is_err r ≡ is_some (write_failure s) → new ≡ written_by (write_failure s) at v s → WriteStep r at v (content s) (content new)
    write_content r new fails is = subst (λ (x : State). WriteStep r at v (content s) (content x)) (sym is) (by r (write_failure s) (write_number s fit) fails)
      where
        by : {T E : Type 0} (r : Result T E) (f : Option FailMode) → HasNumber f s.calls → is_err r ≡ is_some f → WriteStep r at v (content s) (content (written_by f at v s))
        by (Ok x) None small fails = written_content s fit small at v within whole
        by (Ok x) (Some mode) small fails = absurd (cc fails)
        by (Err e) None small fails = absurd (cc fails)
        by (Err e) (Some Lost) small fails = inl (same_content s fit)
        by (Err e) (Some Kept) small fails = inr (inr (written_content s fit small at v within whole))

    pub write_time : (new : State) → new ≡ written_by (write_failure s) at v s → Later s new
    write_time new is = subst (Later s) (sym is) (by (write_failure s) (write_number s fit))
      where
        by : (f : Option FailMode) → HasNumber f s.calls → Later s (written_by f at v s)
        by None small = written_time s fit small at v within whole
        by (Some Lost) small = same_time s fit
        by (Some Kept) small = written_time s fit small at v within whole

    pub write_cause : {T E : Type 0} (r : Result T E) (new : State) → is_err r ≡ is_some (write_failure s) → new ≡ written_by (write_failure s) at v s → HasCause s.faults new.faults r
    write_cause r new fails is = subst (λ (x : State). HasCause s.faults x.faults r) (sym is) (by (write_failure s) fails)
      where
        by : (f : Option FailMode) → is_err r ≡ is_some f → HasCause s.faults (written_by f at v s).faults r
        by None fails = steady s.faults r fails
        by (Some Lost) fails = risen s.faults r fit.faults
        by (Some Kept) fails = risen s.faults r fit.faults

  pub flush_fit : (f : Option FailMode) → HasNumber f s.calls → IsFit (flushed_by f s)
  flush_fit None small = flushed_fit s fit small
  flush_fit (Some mode) small = faulted_fit s fit

  pub flush_content : {T E : Type 0} (r : Result T E) (new : State) → is_err r ≡ is_some (failure s) → new ≡ flushed_by (failure s) s → FlushStep r (content s) (content new)
  flush_content r new fails is = subst (λ (x : State). FlushStep r (content s) (content x)) (sym is) (by r (failure s) (number s fit) fails)
    where
      by : {T E : Type 0} (r : Result T E) (f : Option FailMode) → HasNumber f s.calls → is_err r ≡ is_some f → FlushStep r (content s) (content (flushed_by f s))
      by (Ok x) None small fails = flushed_content s fit small
      by (Ok x) (Some mode) small fails = absurd (cc fails)
      by (Err e) None small fails = absurd (cc fails)
      by (Err e) (Some mode) small fails = same_content s fit

  pub flush_time : (new : State) → new ≡ flushed_by (failure s) s → Later s new
  flush_time new is = subst (Later s) (sym is) (by (failure s) (number s fit))
    where
      by : (f : Option FailMode) → HasNumber f s.calls → Later s (flushed_by f s)
      by None small = flushed_time s fit small
      by (Some mode) small = same_time s fit

  pub flush_cause : {T E : Type 0} (r : Result T E) (new : State) → is_err r ≡ is_some (failure s) → new ≡ flushed_by (failure s) s → HasCause s.faults new.faults r
  flush_cause r new fails is = subst (λ (x : State). HasCause s.faults x.faults r) (sym is) (by (failure s) fails)
    where
      by : (f : Option FailMode) → is_err r ≡ is_some f → HasCause s.faults (flushed_by f s).faults r
      by None fails = steady s.faults r fails
      by (Some mode) fails = risen s.faults r fit.faults

with_flush_at : Past → ℕ → Past
with_flush_at p f = record p { writes = map (flush_change f) p.writes }

-- the parts of a disk in memory after a flush that succeeded
pub flushed_parts : (p later : Past) (calls call : ℕ) (failing : List (ℕ × FailMode)) (stop faults sizeless : ℕ) → IsFit (state_of p calls failing stop faults sizeless)
    → (r : Option FailMode) → r ≡ failure_after failing stop calls → is_some r ≡ false
    → call ≡ min (calls + 1) (2 ^ 64 - 1) → later ≡ record p { writes = map (flush_change call) p.writes } → IsFit (state_of later call failing stop faults sizeless)
unfolding with_flush_at
flushed_parts p later calls call failing stop faults sizeless fit r is none is_call is_later =
    let s : State = state_of p calls failing stop faults sizeless in
    let small : calls < 2 ^ 64 - 1 = small_of r (subst (λ (f : Option FailMode). HasNumber f calls) (sym is) (number s fit)) none in
    let one : call ≡ calls + 1 = omega arith in
    let past : later ≡ with_flush_at p (calls + 1) = is_later ∙ ap (with_flush_at p) one in
    subst (λ (q : Past). IsFit (state_of q call failing stop faults sizeless)) (sym past)
    (subst (λ (k : ℕ). IsFit (state_of (with_flush_at p (calls + 1)) k failing stop faults sizeless)) (sym is_call) (flushed_fit s fit small))
  where
    small_of : (r : Option FailMode) → HasNumber r calls → is_some r ≡ false → calls < 2 ^ 64 - 1
    small_of None small none = small
    small_of (Some mode) small none = absurd (cc none)
