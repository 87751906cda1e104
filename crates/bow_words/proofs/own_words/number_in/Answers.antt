use Rattle.std.proofs.Common.{rules, arith, ◌≡◌}
use Rattle.std.specs.Fmt.{decimal}
use Rattle.bow_words.proofs.Numbers.{spells_in_range}
use Rattle.bow_words.proofs.own_words.number_in.Goals as goal
use Rattle.bow_words.proofs.own_words.number_in.Goals.{then-least-number-via-then-least-number, then-least-number-via-else-least-number+then-number-most}

pub returns-then-least-number-clause-refused : goal.returns-then-least-number-clause-refused
returns-then-least-number-clause-refused c = λ n few spells.
    let is : c.in-Some.word.now ≡ decimal c.in-Some-read_number.number = search rules in
    let inside = spells_in_range c.args.least c.args.most c.in-Some-read_number.number n c.in-Some.word.now is
    (search rules) few (rw c.in-Some.is at spells) in
    elim c.then-least-number.branch [
      | then-least-number-via-then-least-number w ↦ omega (arith, inside.0, inside.1, w.if-least-number)
      | then-least-number-via-else-least-number+then-number-most w ↦ omega (arith, inside.0, inside.1, w.if-number-most)
    ]
