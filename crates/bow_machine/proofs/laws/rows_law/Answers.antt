use Rattle.bow_machine.proofs.Rows.{prepared_row, calls_row, no_space_row, moved_data, moved_log, backups_row, batch_calls, reclaimed_log, commit_calls, linked_log, failed_log}
use Rattle.bow_machine.proofs.laws.rows_law.Goals as goal

pub returns-clause-prepared : goal.returns-clause-prepared
returns-clause-prepared c = prepared_row

pub returns-clause-calls : goal.returns-clause-calls
returns-clause-calls c = calls_row

pub returns-clause-no_space : goal.returns-clause-no_space
returns-clause-no_space c = no_space_row

pub returns-clause-moved_data : goal.returns-clause-moved_data
returns-clause-moved_data c = moved_data

pub returns-clause-moved_log : goal.returns-clause-moved_log
returns-clause-moved_log c = moved_log

pub returns-clause-backups : goal.returns-clause-backups
returns-clause-backups c = backups_row

pub returns-clause-batch : goal.returns-clause-batch
returns-clause-batch c = batch_calls

pub returns-clause-reclaimed : goal.returns-clause-reclaimed
returns-clause-reclaimed c = reclaimed_log

pub returns-clause-commit : goal.returns-clause-commit
returns-clause-commit c = commit_calls

pub returns-clause-linked : goal.returns-clause-linked
returns-clause-linked c = linked_log

pub returns-clause-failed_log : goal.returns-clause-failed_log
returns-clause-failed_log c = failed_log
