-- The worked rows, computed.
use Rattle.std.proofs.Common.{refl}
use Rattle.bow_machine.specs.Rows.{PreparedRow, CallsRow, NoSpaceRow, MovedData, MovedLog, BackupsRow, BatchCalls, ReclaimedLog, CommitCalls, LinkedLog, FailedLog}

pub prepared_row : PreparedRow
prepared_row = refl

pub calls_row : CallsRow
calls_row = refl

pub no_space_row : NoSpaceRow
no_space_row = refl

pub moved_data : MovedData
moved_data = refl

pub moved_log : MovedLog
moved_log = refl

pub backups_row : BackupsRow
backups_row = refl

pub batch_calls : BatchCalls
batch_calls = refl

pub reclaimed_log : ReclaimedLog
reclaimed_log = refl

pub commit_calls : CommitCalls
commit_calls = refl

pub linked_log : LinkedLog
linked_log = (refl, refl, refl)

pub failed_log : FailedLog
failed_log = (refl, refl, refl)
