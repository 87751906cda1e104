use Rattle.std.proofs.Common.{List, length, sym, ap, ◌∙◌, subst}
use Rattle.bow_units.specs.declared.sizes.Geometry.{Geometry}
use Rattle.bow_pair.specs.Settling.{AreStated, AreValid}
use Rattle.bow_tool.specs.Outside.{DiskView, KeeperView, disk_view, keeper_view}
use Rattle.bow_tool.specs.PairBoots.{WasPairBooted}
use Rattle.bow_tool.proofs.PairBooting.{settled_refusal, settled_text}
use Rattle.bow_tool.proofs.pair_boots.boot_pair.Given.{Over}
use Rattle.bow_tool.proofs.pair_boots.boot_pair.Goals as goal
use Rattle.bow_tool.proofs.pair_boots.boot_pair.Goals.{After-pair_boot-answer}

pub pair_boot-answer-requires-clause-valid : goal.pair_boot-answer-requires-clause-valid
pair_boot-answer-requires-clause-valid g c = subst AreValid (sym c.deref.ensures.value) c.in-Ok.ensures.valid

module _ (g : Over) where
  abbrev disks : DiskView g.row.D.Denot
  disks = disk_view g.D.Disk.stated g.D.Disk.content g.D.Disk.moment g.D.Disk.left_since g.D.Disk.faults

  abbrev keepers : KeeperView g.row.K.Denot
  keepers = keeper_view g.K.Keeper.kept g.K.Keeper.moment g.K.Keeper.left_since g.K.Keeper.faults

  -- what was done, from the first call to the last
  did : (c : After-pair_boot-answer g) → WasPairBooted disks keepers c.args.disks.now c.pair_boot-answer.new.disks c.args.keeper.now c.pair_boot-answer.new.keeper c.pair_boot-answer.result
  did c =
      let E = c.pair_boot-answer.ensures in
      let same = c.deref.ensures.value in
      record {
        read = c.keeps_decision.new.keeper;
        only_read = c.keeps_decision.ensures.read;
        decided = c.in_default.ensures.decided;
        asked = c.all_sizes.new.disks;
        only_asked = c.all_sizes.ensures.asked;
        sizes = c.deref.result.now;
        many = ap (λ (l : List Geometry). length l) same ∙ c.in-Ok.ensures.many;
        valid = subst AreValid (sym same) c.in-Ok.ensures.valid;
        stated = subst (λ (l : List Geometry). AreStated g.D.Disk.stated l c.all_sizes.new.disks) (sym same) c.in-Ok.ensures.stated;
        booted = record { cause = E.cause; ends = E.ends; stops = E.stops; is_cut = E.is_cut; agreed = E.agreed; settles = E.settles; tells = E.tells; stated = E.sizes };
        left = c.pair_boot-answer.auto.disks;
      }

pub returns-clause-done : goal.returns-clause-done
returns-clause-done g c =
    let q = (goal.at.returns-clause-done g c).After-pair_boot-answer in
    settled_text (disks g) (keepers g) c.args.disks.now c.pair_boot-answer.new.disks c.args.keeper.now c.pair_boot-answer.new.keeper (λ text. text.items) c.pair_boot-answer.result c.told_pair_boot.result (did g q) c.told_pair_boot.ensures

pub returns-clause-cause : goal.returns-clause-cause
returns-clause-cause g c =
    let q = (goal.at.returns-clause-cause g c).After-pair_boot-answer in
    settled_refusal (disks g) (keepers g) c.args.disks.now c.pair_boot-answer.new.disks c.args.keeper.now c.pair_boot-answer.new.keeper (λ text. text.items) c.pair_boot-answer.result c.told_pair_boot.result (did g q) c.told_pair_boot.ensures
