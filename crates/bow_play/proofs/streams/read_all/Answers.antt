use Rattle.std.proofs.Common.{rules, [], take, subst, append-nil}
use Rattle.std.proofs.KnownBytes.{Consumes-trans}
use Rattle.std.specs.Io.KnownBytes.{Consumes}
use Rattle.bow_play.proofs.streams.read_all.Goals as goal

pub returns-clause-cause : goal.returns-clause-cause
returns-clause-cause g c = (c.loop-buffer.bytes.items, (c.loop-buffer.invariant.bytes, c.loop-buffer.invariant.gave), search rules)

pub returns-then-count-eq0-clause-bytes : goal.returns-then-count-eq0-clause-bytes
returns-then-count-eq0-clause-bytes g c =
    let S = g.S.Source in
    let old = c.args.source.now in
    let mid = c.loop-buffer.source in
    let new = c.take.new.self in
    let items = c.loop-buffer.bytes.items in
    let told = c.in-Ok.ensures in
    let consumed : Consumes (S.left mid) (S.left new) [] = subst (λ n. Consumes (S.left mid) (S.left new) (take n c.take.new.into)) c.if-count-eq0.true told.bytes.0 in
    let given : S.gave mid new [] = subst (λ n. S.gave mid new (take n c.take.new.into)) c.if-count-eq0.true told.gives in (
      (
        subst (Consumes (S.left old) (S.left new)) (append-nil items) (Consumes-trans (S.left old) (S.left mid) (S.left new) items [] c.loop-buffer.invariant.bytes consumed),
        subst (S.gave old new) (append-nil items) (S.gave_more old mid new items [] c.loop-buffer.invariant.gave given),
      ),
      (search rules, told.end c.if-count-eq0.true),
    )
