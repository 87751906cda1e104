use Rattle.std.proofs.Common.{◌≡◌, inl, inr, ℕ, true, false, List, Option, Some, None, refl, sym, ◌∙◌, subst, arith}
use Rattle.bow_units.specs.Causes.{Rose}
use Rattle.vold_meta.specs.Keeper.{Changes}
use Rattle.vold_meta.specs.Decisions.{commit_text}
use Rattle.bow_pair.specs.Joint.{AgreesOn}
use Rattle.bow_pair.proofs.Booting.{goes_on, goes_told}
use Rattle.bow_pair.proofs.Decisions.{all_current, all_flushed, all_forward, all_held, all_rest, committed_count, err_changes, err_rose, flushed_count, ok_changes, rose_later}
use Rattle.bow_pair.proofs.deciding.decide.Goals as goal

same_text : (a b : Option (List ℕ)) → Some a ≡ Some b → b ≡ a
same_text a b is = cc is

pub returns-in-Some-clause-agreed : goal.returns-in-Some-clause-agreed
returns-in-Some-clause-agreed g c left none is members part images joint =
    let D = g.D.Disk in
    (same_text None left (sym none ∙ is), subst (λ (l : Option (List ℕ)). AgreesOn false l members images) (sym (same_text None left (sym none ∙ is))) (all_held D.stated D.content D.faults (λ d t is geo size. g.met.D.Disk.shaped d t is geo size) c.args.cores.now members part c.flush_each.new.cores c.flush_each.auto.cores c.flush_each.ensures.kept images joint))

pub returns-then-is_err-clause-cause : goal.returns-then-is_err-clause-cause
returns-then-is_err-clause-cause g c =
    let K = g.K.Keeper in
    err_rose c.write_decision.result (K.faults c.args.keeper.now) (K.faults c.write_decision.new.keeper) (sym c.is_err.ensures.value ∙ c.if-is_err.true) c.write_decision.ensures.cause

pub returns-then-is_err-clause-agreed : goal.returns-then-is_err-clause-agreed
returns-then-is_err-clause-agreed g c left none is members part images joint =
    let D = g.D.Disk in
    let K = g.K.Keeper in
    let step = goes_told (Changes c.write_decision.result (Some commit_text)) (K.kept c.args.keeper.now) (K.kept c.write_decision.new.keeper) None left none is c.write_decision.ensures.step in
    elim (err_changes c.write_decision.result (Some commit_text) None left (sym c.is_err.ensures.value ∙ c.if-is_err.true) step) [
      | inl same ↦ (false, subst (λ (l : Option (List ℕ)). AgreesOn false l members images) (sym same) (all_held D.stated D.content D.faults (λ d t is geo size. g.met.D.Disk.shaped d t is geo size) c.args.cores.now members part c.flush_each.new.cores c.flush_each.auto.cores c.flush_each.ensures.kept images joint))
      | inr put ↦ (true, subst (λ (l : Option (List ℕ)). AgreesOn true l members images) (sym put) (refl, all_flushed D.stated D.content D.faults (λ d t is geo size. g.met.D.Disk.shaped d t is geo size) c.args.cores.now members part c.flush_each.new.cores c.flush_each.auto.cores c.flush_each.ensures.kept (c.flush_each.ensures.flushed c.in_default.is) images joint))
    ]

pub commit_each-requires-clause-rests : goal.commit_each-requires-clause-rests
commit_each-requires-clause-rests g c =
    let D = g.D.Disk in
    all_rest D.stated D.content D.faults (λ d t is geo size. g.met.D.Disk.shaped d t is geo size) c.args.cores.now c.flush_each.new.cores c.flush_each.auto.cores c.flush_each.ensures.kept

pub returns-in-Some-commit_each-clause-cause : goal.returns-in-Some-commit_each-clause-cause
returns-in-Some-commit_each-clause-cause g c =
    let D = g.D.Disk in
    rose_later D.stated D.content D.faults (λ d t is geo size. g.met.D.Disk.shaped d t is geo size) c.in-Some-commit_each.device c.args.cores.now c.flush_each.new.cores c.commit_each.new.cores c.flush_each.auto.cores c.flush_each.ensures.kept (c.in-Some-commit_each.ensures.failed).rose

pub returns-in-Some-commit_each-clause-agreed : goal.returns-in-Some-commit_each-clause-agreed
returns-in-Some-commit_each-clause-agreed g c left none is members part images joint =
    let D = g.D.Disk in
    let K = g.K.Keeper in
    let step = goes_told (Changes c.write_decision.result (Some commit_text)) (K.kept c.args.keeper.now) (K.kept c.write_decision.new.keeper) None left none is c.write_decision.ensures.step in
    let put = ok_changes c.write_decision.result (Some commit_text) None left (sym c.is_err.ensures.value ∙ c.if-is_err.false) step in
    (put, subst (λ (l : Option (List ℕ)). AgreesOn true l members images) (sym put) (refl, all_forward D.stated D.content D.faults (λ d t is geo size. g.met.D.Disk.shaped d t is geo size) c.args.cores.now members part c.flush_each.new.cores c.commit_each.new.cores c.flush_each.auto.cores c.commit_each.auto.cores c.flush_each.ensures.kept (c.flush_each.ensures.flushed c.in_default.is) c.commit_each.ensures.kept images joint))

pub returns-then-is_err-2-clause-cause : goal.returns-then-is_err-2-clause-cause
returns-then-is_err-2-clause-cause g c =
    let K = g.K.Keeper in
    let later = c.write_decision.ensures.cause.later in
    let rose : Rose (K.faults c.write_decision.new.keeper) (K.faults c.drop_decision.new.keeper) = err_rose c.drop_decision.result (K.faults c.write_decision.new.keeper) (K.faults c.drop_decision.new.keeper) (sym c.is_err-2.ensures.value ∙ c.if-is_err-2.true) c.drop_decision.ensures.cause in
    omega (arith, later, rose)

pub returns-then-is_err-2-clause-agreed : goal.returns-then-is_err-2-clause-agreed
returns-then-is_err-2-clause-agreed g c left none is members part images joint =
    let D = g.D.Disk in
    let K = g.K.Keeper in
    let mid = goes_on (Changes c.write_decision.result (Some commit_text)) (K.kept c.args.keeper.now) (K.kept c.write_decision.new.keeper) None none c.write_decision.ensures.step in
    let put = ok_changes c.write_decision.result (Some commit_text) None mid.0 (sym c.is_err.ensures.value ∙ c.if-is_err.false) mid.2 in
    let step = goes_told (Changes c.drop_decision.result None) (K.kept c.write_decision.new.keeper) (K.kept c.drop_decision.new.keeper) mid.0 left mid.1 is c.drop_decision.ensures.step in
    elim (err_changes c.drop_decision.result None mid.0 left (sym c.is_err-2.ensures.value ∙ c.if-is_err-2.true) step) [
      | inl same ↦ (true, subst (λ (l : Option (List ℕ)). AgreesOn true l members images) (sym (same ∙ put)) (refl, all_forward D.stated D.content D.faults (λ d t is geo size. g.met.D.Disk.shaped d t is geo size) c.args.cores.now members part c.flush_each.new.cores c.commit_each.new.cores c.flush_each.auto.cores c.commit_each.auto.cores c.flush_each.ensures.kept (c.flush_each.ensures.flushed c.in_default.is) c.commit_each.ensures.kept images joint))
      | inr gone ↦ (true, subst (λ (l : Option (List ℕ)). AgreesOn true l members images) (sym gone) (all_current D.stated D.content D.faults (λ d t is geo size. g.met.D.Disk.shaped d t is geo size) c.args.cores.now members part c.flush_each.new.cores c.commit_each.new.cores c.flush_each.auto.cores c.commit_each.auto.cores c.flush_each.ensures.kept (c.flush_each.ensures.flushed c.in_default.is) c.commit_each.ensures.kept (c.commit_each.ensures.committed c.in_default-commit_each.is) images joint))
    ]

pub returns-clause-agreed : goal.returns-clause-agreed
returns-clause-agreed g c left none is members part images joint =
    let D = g.D.Disk in
    let K = g.K.Keeper in
    let mid = goes_on (Changes c.write_decision.result (Some commit_text)) (K.kept c.args.keeper.now) (K.kept c.write_decision.new.keeper) None none c.write_decision.ensures.step in
    let step = goes_told (Changes c.drop_decision.result None) (K.kept c.write_decision.new.keeper) (K.kept c.drop_decision.new.keeper) mid.0 left mid.1 is c.drop_decision.ensures.step in
    let gone = ok_changes c.drop_decision.result None mid.0 left (sym c.is_err-2.ensures.value ∙ c.if-is_err-2.false) step in
    (gone, subst (λ (l : Option (List ℕ)). AgreesOn true l members images) (sym gone) (all_current D.stated D.content D.faults (λ d t is geo size. g.met.D.Disk.shaped d t is geo size) c.args.cores.now members part c.flush_each.new.cores c.commit_each.new.cores c.flush_each.auto.cores c.commit_each.auto.cores c.flush_each.ensures.kept (c.flush_each.ensures.flushed c.in_default.is) c.commit_each.ensures.kept (c.commit_each.ensures.committed c.in_default-commit_each.is) images joint))

pub returns-in-Some-clause-counts : goal.returns-in-Some-clause-counts
returns-in-Some-clause-counts g c =
    let D = g.D.Disk in
    flushed_count D.stated D.content D.faults (λ d t is geo size. g.met.D.Disk.shaped d t is geo size) c.args.cores.now c.flush_each.new.cores c.flush_each.auto.cores c.flush_each.ensures.kept

pub returns-then-is_err-clause-counts : goal.returns-then-is_err-clause-counts
returns-then-is_err-clause-counts g c =
    let D = g.D.Disk in
    flushed_count D.stated D.content D.faults (λ d t is geo size. g.met.D.Disk.shaped d t is geo size) c.args.cores.now c.flush_each.new.cores c.flush_each.auto.cores c.flush_each.ensures.kept

pub returns-in-Some-commit_each-clause-counts : goal.returns-in-Some-commit_each-clause-counts
returns-in-Some-commit_each-clause-counts g c =
    let D = g.D.Disk in
    committed_count D.stated D.content D.faults (λ d t is geo size. g.met.D.Disk.shaped d t is geo size) c.args.cores.now c.flush_each.new.cores c.commit_each.new.cores c.flush_each.auto.cores c.commit_each.auto.cores c.flush_each.ensures.kept c.commit_each.ensures.kept

pub returns-then-is_err-2-clause-counts : goal.returns-then-is_err-2-clause-counts
returns-then-is_err-2-clause-counts g c =
    let D = g.D.Disk in
    committed_count D.stated D.content D.faults (λ d t is geo size. g.met.D.Disk.shaped d t is geo size) c.args.cores.now c.flush_each.new.cores c.commit_each.new.cores c.flush_each.auto.cores c.commit_each.auto.cores c.flush_each.ensures.kept c.commit_each.ensures.kept

pub returns-clause-counts : goal.returns-clause-counts
returns-clause-counts g c =
    let D = g.D.Disk in
    committed_count D.stated D.content D.faults (λ d t is geo size. g.met.D.Disk.shaped d t is geo size) c.args.cores.now c.flush_each.new.cores c.commit_each.new.cores c.flush_each.auto.cores c.commit_each.auto.cores c.flush_each.ensures.kept c.commit_each.ensures.kept
