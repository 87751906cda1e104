-- What is told of the calls of a script's callers.
use Rattle.std.specs.Prelude.{◌≡◌, ℕ, zero, suc, List, [], ◌++◌, codes, length, slice_get, Option, None, Some}
use Rattle.std.specs.Fmt.{decimal}
use Rattle.std.specs.List.{flat_map}
use Rattle.bow_units.specs.declared.requests.Op.{Op}
use Rattle.bow_history.specs.Journal.{Buffers}
use Rattle.bow_tags.specs.declared.view.Entry.{Entry}
use Rattle.bow_receipts.specs.declared.asks.Answer.{Answer}
use Rattle.bow_receipts.specs.declared.asks.Call.{Call}
use Rattle.bow_receipts.specs.Asking.{given_of}

-- the bytes that a call was given
abbrev pub bytes_in : Option (Entry Op Answer) → List ℕ
bytes_in None = []
bytes_in (Some x) = x.answer.bytes

-- what was read: of each lane the bytes that its calls were given
abbrev pub bytes_by : List (Entry Op Answer) → Buffers
bytes_by calls lane n = bytes_in (slice_get (given_of lane calls) n)

-- the calls of each lane are numbered 0, 1, 2 and so on
abbrev pub AreNumbered : List (Entry Op Answer) → Type 0
AreNumbered calls = (lane n : ℕ) (x : Entry Op Answer) → slice_get (given_of lane calls) n ≡ Some x → x.number ≡ n

-- the call is among these, and it is of this request
pub record IsCallIn (calls : List Call) (lane number : ℕ) (call : Call) : Type 0 where
  pub at : ℕ
  pub here : slice_get calls at ≡ Some call
  pub lane_is : call.lane ≡ lane
  pub number_is : call.number ≡ number

-- the receipt of a call: its request, and the place of its answer in the journal
abbrev pub receipt_line : Entry Op Answer → List ℕ
receipt_line x = codes "receipt " ++ (decimal x.lane ++ (codes "." ++ (decimal x.number ++ (codes " at "
    ++ (decimal x.answer.place ++ codes "\n")))))

-- the receipts of the first so many lanes, lane by lane, of each in the order of its calls
abbrev pub receipts_text : ℕ → List (Entry Op Answer) → List ℕ
receipts_text zero calls = []
receipts_text (suc lane) calls = receipts_text lane calls ++ flat_map receipt_line (given_of lane calls)
