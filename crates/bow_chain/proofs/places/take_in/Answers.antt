use Rattle.std.proofs.Common.{◌≤◌, ◌+◌, ◌⊎◌, arith, refl, sym, ap, ◌∙◌, subst₂}
use Rattle.std.proofs.lemmas.List.{length-set}
use Rattle.bow_log.specs.Generations.{backup_of}
use Rattle.bow_chain.specs.Tables.{place_in}
use Rattle.bow_chain.proofs.Tables.{none_in, one_in, all_in, table_on}
use Rattle.bow_chain.proofs.places.take_in.Goals as goal

pub loop-offset-init : goal.loop-offset-init
loop-offset-init c = record {
  long = refl;
  so_far = λ x. ap (place_in c.args.places.now) (sym (none_in c.source_blocks-source.result.first c.dest_blocks-dest.result.first x));
}

pub loop-offset-preserved : goal.loop-offset-preserved
loop-offset-preserved c =
    let b = backup_of c.args.geometry c.args.entry in
    let ok = c.requires.entry.backup in
    let source = c.source_blocks-source in
    let dest = c.dest_blocks-dest in
    record {
      long = length-set _ _ _ ∙ c.loop-offset.invariant.long;
      so_far = λ x. one_in c.args.places.now c.loop-offset.places source.result.first dest.result.first b.count c.loop-offset.offset x (omega (arith, c.loop-offset-test.true, source.ensures.count))
          (omega (arith, source.ensures.first, ok.source_inside, c.requires.table.long, c.loop-offset.invariant.long))
          (subst₂ (λ s d. (s + b.count ≤ d) ⊎ (d + b.count ≤ s)) (sym source.ensures.first) (sym dest.ensures.first) ok.apart) c.loop-offset.invariant.so_far;
    }

pub returns-clause-table : goal.returns-clause-table
returns-clause-table c =
    let b = backup_of c.args.geometry c.args.entry in
    table_on c.args.geometry b c.args.places.now c.loop-offset.places c.requires.entry.backup c.requires.table c.loop-offset.invariant.long
    (all_in b c.args.places.now c.loop-offset.places c.source_blocks-source.result.first c.dest_blocks-dest.result.first c.loop-offset.offset c.source_blocks-source.ensures.first c.dest_blocks-dest.ensures.first
    (omega (arith, c.source_blocks-source.ensures.count)) c.loop-offset.invariant.so_far)

pub returns-clause-moved : goal.returns-clause-moved
returns-clause-moved c x on =
    all_in (backup_of c.args.geometry c.args.entry) c.args.places.now c.loop-offset.places c.source_blocks-source.result.first c.dest_blocks-dest.result.first c.loop-offset.offset c.source_blocks-source.ensures.first
    c.dest_blocks-dest.ensures.first (omega (arith, c.source_blocks-source.ensures.count)) c.loop-offset.invariant.so_far x
