use Rattle.std.proofs.Common.{◌∙◌, ◌≡◌, ap, sym, refl, Bool, not, false, true}
use Rattle.std.specs.Option.{option_copied, option_map}
use Rattle.std.proofs.lemmas.Option.{none-some, same_Some}
use Rattle.bow_queue.proofs.RequestLemmas.{found, not_found, same_ticket-true, not_same}
use Rattle.bow_queue.proofs.queue.Queue.request.Goals as goal

-- twice no is yes
not_not : (b : Bool) → not b ≡ false → b ≡ true
not_not true is = refl
not_not false is = sym is

pub returns-in_err-request : goal.returns-in_err-request
returns-in_err-request c =
    let empty = sym c.get.ensures ∙ ap option_copied (c.in_err-request.was) in
    ap option_copied c.from_residual.ensures ∙ sym (not_found _ _ _ _ _ _ c.self.view_is c.self.invariant c.args.ticket (λ has. none-some _ (sym (ap (option_map (λ r. r.ticket)) empty) ∙ has)))

pub returns-then-ne : goal.returns-then-ne
returns-then-ne c =
    let there = sym c.get.ensures ∙ ap option_copied (c.in_ok-request.was) in
    let other = not_same c.in_ok-request.request.now.ticket c.args.ticket (sym (c.if-ne.ensures)) in
    sym (not_found _ _ _ _ _ _ c.self.view_is c.self.invariant c.args.ticket (λ has. other (same_Some _ _ (sym (ap (option_map (λ r. r.ticket)) there) ∙ has))))

pub returns : goal.returns
returns c =
    let there = sym c.get.ensures ∙ ap option_copied (c.in_ok-request.was) in
    let its = same_ticket-true c.in_ok-request.request.now.ticket c.args.ticket (not_not _ (sym c.if-ne.ensures)) in
    sym (found _ _ _ _ _ _ c.self.view_is c.self.invariant c.args.ticket c.in_ok-request.request.now there its)
