use Rattle.std.proofs.Common.{◌≡◌, ◌≤◌, Bool, true, List, [], ◌∷◌, map, Some, suc, inl, inr, arith}
use Rattle.std.specs.List.{All, AllPairs, find}
use Rattle.std.proofs.lemmas.Bool.{both_ways, cases_Bool}
use Rattle.std.proofs.lemmas.List.{get_or-map, length-map}
use Rattle.std.proofs.lemmas.List.Elements.{All-cons}
use Rattle.std.proofs.lemmas.Option.{same_Some}
use Rattle.bow_queue.specs.declared.requests.Request.{Request}
use Rattle.bow_queue.specs.Requests.{Precedes}
use Rattle.bow_queue.proofs.queue.first_law.Goals as goal

-- w is not the first, or comes no earlier than the first
abbrev NotBefore : (Request → Bool) → Request → Request → Type 0
NotBefore passes first w = passes w ≡ true → first.ticket.serial ≤ w.ticket.serial

later_above : (w : Request) (ws : List Request) → AllPairs Precedes (map (λ x. x.ticket) (w ∷ ws)) → All (λ x. w.ticket.serial ≤ x.ticket.serial) ws
later_above w ws apart k d within =
    let above = (apart 0 (suc k) d.ticket (omega arith) (omega (arith, length-map ws (λ x. x.ticket)))).serials in
    omega (arith, rw (get_or-map (λ x. x.ticket) ws k d d.ticket within) at above)

first_smallest : (passes : Request → Bool) (ws : List Request) (first : Request) → AllPairs Precedes (map (λ x. x.ticket) ws) → find passes ws ≡ Some first → All (NotBefore passes first) ws
first_smallest passes [] first apart found = λ k d within. absurd (omega arith)
first_smallest passes (w ∷ ws) first apart found =
    elim (cases_Bool (passes w)) [
      | inl here ↦
          let same : w ≡ first = same_Some w first (rw here at found) in
          rw (← same) (All-cons (NotBefore passes w) w ws (λ _. omega arith) (λ k d within _. later_above w ws apart k d within))
      | inr later ↦ All-cons (NotBefore passes first) w ws (λ passed. absurd (both_ways (passes w) later passed)) (first_smallest passes ws first (λ i j d before within. apart (suc i) (suc j) d (omega arith) (omega arith)) (rw later at found))
    ]

pub returns : goal.returns
returns c requests passes first orderly found = first_smallest passes requests.waiting first orderly.apart found
