use Rattle.std.proofs.Common.{◌≡◌, List, [], sym, subst}
use Rattle.bow_history.specs.declared.items.Item.{Item}
use Rattle.bow_history.specs.Complete.{IsComplete}
use Rattle.bow_session.specs.Requests.{lanes_of, plan_of}
use Rattle.bow_receipts.specs.declared.asks.Call.{Call}
use Rattle.bow_receipts.specs.Called.{IsCalled}
use Rattle.bow_receipts.specs.Closing.{entries_of}
use Rattle.bow_tool.proofs.Nobody.{nobody_called, nobody_left}
use Rattle.bow_tool.proofs.callers.nobody.Goals as goal

pub returns-clause-called : goal.returns-clause-called
returns-clause-called g c =
    let D = g.D.Disk in
    let core = c.args.core in
    let script = c.args.script.now in
    let journal : c.new-journal.result.items ≡ [] = c.new-journal.ensures.items in
    let calls : c.new-calls.result.items ≡ [] = c.new-calls.ensures.items in
    subst (λ (xs : List Item). IsCalled D.content D.moment D.left_since D.faults core.geometry (lanes_of script) (λ first. first ≡ core) script core xs (entries_of c.new-calls.result.items)) (sym journal) (
    subst (λ (xs : List Call). IsCalled D.content D.moment D.left_since D.faults core.geometry (lanes_of script) (λ first. first ≡ core) script core [] (entries_of xs)) (sym calls)
    (nobody_called D.stated D.content D.moment D.left_since D.faults g.met.D.Disk.shaped g.met.D.Disk.only_now g.met.D.Disk.cuts_shaped script c.requires.none core c.requires.fresh c.requires.valid c.requires.sizes))

pub returns-clause-complete : goal.returns-clause-complete
returns-clause-complete g c =
    let core = c.args.core in
    let script = c.args.script.now in
    subst (λ (xs : List Item). IsComplete (plan_of core.geometry script) xs) (sym c.new-journal.ensures.items)
    (nobody_left g.D.Disk.stated g.D.Disk.content g.D.Disk.moment g.D.Disk.left_since g.D.Disk.faults g.met.D.Disk.shaped g.met.D.Disk.only_now g.met.D.Disk.cuts_shaped script c.requires.none core c.requires.fresh c.requires.valid c.requires.sizes)
