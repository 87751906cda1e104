use Rattle.std.proofs.Common.{sym, ap, subst, ◌∙◌, arith, rules}
use Rattle.bow_log.specs.Spelling.{spell}
use Rattle.bow_log.specs.Rules.{IsLog}
use Rattle.bow_log.proofs.Clean.{clean, room_fits, sized, spelled, log_is, only_reading, no_magic_is, magic_tested}
use Rattle.bow_log.proofs.reading.read_log.Goals as goal

pub returns-in-Some-clause-only : goal.returns-in-Some-clause-only
returns-in-Some-clause-only c = λ log fits v is. let r = only_reading c.args.geometry log c.args.block.now fits v is in absurd cc

pub returns-in-Some-clause-plain : goal.returns-in-Some-clause-plain
returns-in-Some-clause-plain c = no_magic_is c.args.geometry c.args.block.now c.in-Some.fault (λ i. omega (arith, c.type_inv.block i)) (omega (arith, (sized c.args.geometry.block_size c.requires.device.size).least, c.requires.one)) (search rules)

pub read_parts-requires-clause-room : goal.read_parts-requires-clause-room
read_parts-requires-clause-room c =
    let k = clean c.args.geometry c.args.block.now (search rules) in
    omega (arith, (room_fits c.args.geometry c.requires.device).0, k.few, c.requires.one)

pub read_parts-requires-clause-few : goal.read_parts-requires-clause-few
read_parts-requires-clause-few c =
    let k = clean c.args.geometry c.args.block.now (search rules) in
    omega (arith, (room_fits c.args.geometry c.requires.device).1, k.few)

pub returns-clause-found : goal.returns-clause-found
returns-clause-found c =
    let k = clean c.args.geometry c.args.block.now (search rules) in (
      subst (IsLog c.args.geometry) (sym c.read_parts.ensures) (log_is c.args.geometry c.args.block.now c.requires.device k),
      spelled c.args.geometry c.args.block.now c.requires.device (λ i. omega (arith, c.type_inv.block i)) c.requires.one k ∙ ap spell (sym c.read_parts.ensures),
    )

pub returns-clause-only : goal.returns-clause-only
returns-clause-only c = λ log fits v is. (search rules, c.read_parts.ensures ∙ (only_reading c.args.geometry log c.args.block.now fits v is).1)

pub returns-clause-plain : goal.returns-clause-plain
returns-clause-plain c =
    let k = clean c.args.geometry c.args.block.now (search rules) in
    (magic_tested c.args.block.now (λ i. omega (arith, c.type_inv.block i)) (omega (arith, (sized c.args.geometry.block_size c.requires.device.size).least, c.requires.one))).1 k.magic
