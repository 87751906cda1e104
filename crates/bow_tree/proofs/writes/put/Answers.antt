use Rattle.std.proofs.Common.{◌≡◌, ◌<◌, length, set, sym, ap, ◌∙◌, arith, add-one}
use Rattle.bow_tree.specs.Rows.{put}
use Rattle.bow_tree.proofs.Puts.{put_none, put_more}
use Rattle.bow_tree.proofs.writes.put.Goals as goal

pub loop-block-init : goal.loop-block-init
loop-block-init c = record {
  from = omega arith;
  to = c.requires.some;
  told = sym (put_none c.args.from c.args.from c.args.kind c.args.kinds.now (omega arith));
}

pub loop-block-preserved : goal.loop-block-preserved
loop-block-preserved c =
    let from = c.args.from in
    let block = c.loop-block.block in
    let kind = c.args.kind in
    let kinds = c.args.kinds.now in
    let inside : block < length kinds = omega (arith, c.loop-block-test.true, c.requires.inside) in
    record {
      from = omega (arith, c.loop-block.invariant.from);
      to = omega (arith, c.loop-block-test.true);
      told = ap (λ l. set l block kind) c.loop-block.invariant.told ∙ put_more from block kind kinds c.loop-block.invariant.from inside ∙ ap (λ n. put from n kind kinds) (sym (add-one block));
    }

pub returns : goal.returns
returns c =
    let all : c.loop-block.block ≡ c.args.to = omega (arith, c.loop-block.invariant.to, c.loop-block-test.false) in
    c.loop-block.invariant.told ∙ ap (λ n. put c.args.from n c.args.kind c.args.kinds.now) all
