use Rattle.std.proofs.Common.{[], map, rules, arith}
use Rattle.bow_log.specs.Generations.{generation_of, backup_of}
use Rattle.bow_chain.specs.Contents.{contents_of}
use Rattle.bow_chain.specs.Sound.{SumsHold}
use Rattle.bow_chain.specs.Answers.{TellsSum}
use Rattle.bow_chain.proofs.Quiet.{as_first}
use Rattle.bow_chain.proofs.Loads.{tells_first, tells_sum}
use Rattle.bow_chain.proofs.loading.first_log.Goals as goal

pub returns-in_err-log-clause-tests : goal.returns-in_err-log-clause-tests
returns-in_err-log-clause-tests g c k is =
    let t = tells_first c.args.geometry (contents_of k.now) [] 0 c.in_err-log.field-0.0 tt (c.in_err-log.ensures.fields k 0 is) in
    search rules

pub returns-in_err-test_sums-clause-tests : goal.returns-in_err-test_sums-clause-tests
returns-in_err-test_sums-clause-tests g c k is =
    let log = c.in_ok-log.log in
    let behind = c.in_ok-log.ensures.fields k 0 is in
    let told = as_first (λ blocks. TellsSum (contents_of blocks) (λ x. x) (map (backup_of c.args.geometry) log.entries) 0 c.in_err-test_sums.field-0.0) (g.D.Disk.content c.args.disk.now) (g.D.Disk.content c.log_behind.new.disk) c.log_behind.ensures.step c.in_err-test_sums.ensures.sums k is in
    let t = tells_sum c.args.geometry (contents_of k.now) [] 0 (generation_of c.args.geometry log) behind tt c.in_err-test_sums.field-0.0 told in
    search rules

pub returns-clause-tests : goal.returns-clause-tests
returns-clause-tests g c k is =
    let log = c.in_ok-log.log in
    let behind = c.in_ok-log.ensures.fields k 0 is in
    let hold = as_first (λ blocks. SumsHold (contents_of blocks) (λ x. x) (map (backup_of c.args.geometry) log.entries)) (g.D.Disk.content c.args.disk.now) (g.D.Disk.content c.log_behind.new.disk) c.log_behind.ensures.step c.in_ok-test_sums.ensures.sums k is in
    (behind.spelled, omega arith, hold, tt)
