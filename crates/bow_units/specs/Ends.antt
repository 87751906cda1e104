-- What a source and a sink in memory hold.
use Rattle.std.specs.Prelude.{ℕ, ◌+◌, ◌-◌, ◌^◌, min, Bool, nat_eq, List, [], ◌++◌, Option}
use Rattle.std.specs.Io.KnownBytes.{Consumes}
use Rattle.std.proofs.KnownBytes.{Consumes-nil, Consumes-trans}
use Rattle.std.specs.List.{list_any}

-- the bytes left, how many calls were made, how many failed, and the numbers of the calls that fail
pub record SourceState : Type 0 where
  pub left : List ℕ
  pub calls : ℕ
  pub faults : ℕ
  pub failing : List ℕ

-- the bytes put, how many may be put in all, and the same numbers
pub record SinkState : Type 0 where
  pub put : List ℕ
  pub room : ℕ
  pub calls : ℕ
  pub faults : ℕ
  pub failing : List ℕ

-- one more, or the last value of a u64
abbrev pub next_count : ℕ → ℕ
next_count n = min (n + 1) (2 ^ 64 - 1)

-- whether the call of this number is listed
abbrev pub is_listed : List ℕ → ℕ → Bool
is_listed failing call = list_any (λ n. nat_eq n call) failing

-- where nothing is read nothing is consumed
pub consumes_none : (known : Option (List ℕ)) → Consumes known known []
consumes_none known = Consumes-nil known

-- what is consumed first, and then what is consumed after that
pub consumes_more : (first mid last : Option (List ℕ)) (bytes more : List ℕ)
    → Consumes first mid bytes → Consumes mid last more → Consumes first last (bytes ++ more)
consumes_more first mid last bytes more one other = Consumes-trans first mid last bytes more one other
