use Rattle.std.proofs.Common.{length, refl, sym, subst}
use Rattle.std.proofs.lemmas.List.Elements.{All-get_or}
use Rattle.bow_script.specs.Grammar.{IsFitting}
use Rattle.bow_session.specs.declared.seats.Asked.{Asked}
use Rattle.std.proofs.lemmas.Option.{slice_get_read}
use Rattle.bow_session.proofs.Loads.{first_on, long_on}
use Rattle.bow_session.proofs.loading.add_requests.Goals as goal

pub loop-line-preserved : goal.loop-line-preserved
loop-line-preserved c =
    let old = c.args.pending.now.items in
    let pending = c.loop-line.pending.items in
    let new = c.push_back.new.self.items in
    let lines = c.args.lines.now in
    let k = c.loop-line.line-index in
    let a : Asked = record { section = c.args.section; buffer = c.in_ok-buffer.buffer } in
    let here = slice_get_read lines (length lines) k c.line-item.result refl c.loop-line-test.true c.line-item.is in
    let more = (c.in_ok-push_back.ensures).items in (
      long_on k old pending new a c.loop-line.invariant.0 more,
      λ script lane at first. first_on c.args.geometry script lane c.args.section k old pending new lines c.line-item.result a c.loop-line.invariant.0 more here
          c.in_ok-buffer.ensures c.requires.valid (subst IsFitting (sym c.line-item.is) (All-get_or IsFitting lines k c.line-item.result c.loop-line-test.true c.requires.numbers)) refl at (c.loop-line.invariant.1 script lane at first),
    )
