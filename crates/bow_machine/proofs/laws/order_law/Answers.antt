use Rattle.bow_machine.proofs.Forward.{deciding_stays_led}
use Rattle.bow_machine.proofs.Orders.{only_reads, reads_before_arms, reads_before_decides, deciding_is_flushed}
use Rattle.bow_machine.proofs.laws.order_law.Goals as goal

pub returns-clause-reads : goal.returns-clause-reads
returns-clause-reads c = only_reads

pub returns-clause-arms : goal.returns-clause-arms
returns-clause-arms c = reads_before_arms

pub returns-clause-decides : goal.returns-clause-decides
returns-clause-decides c = reads_before_decides

pub returns-clause-flushed : goal.returns-clause-flushed
returns-clause-flushed c = deciding_is_flushed

pub returns-clause-led : goal.returns-clause-led
returns-clause-led c = deciding_stays_led
