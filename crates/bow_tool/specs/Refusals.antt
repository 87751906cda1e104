-- The status and the line of each refusal.
use Rattle.std.specs.Prelude.{ℕ, List, [], ◌∷◌, ◌++◌, codes}
use Rattle.std.specs.Fmt.{decimal}
use Rattle.bow_report.specs.Chains.{chain_fault_text, log_fault_text}
use Rattle.bow_tool.specs.declared.refusals.Refusal.{Refusal}
use Rattle.bow_tool.specs.declared.refusals.Refusal.TheVariants.{BadWords, BadScript, SourceFault, DiskFault, KeeperFault, NeedsRestore, BadChain, BadHeader, Reserved, BadAttempts, NoMemory, Stopped, BadGeometry}

-- the status with which a refusal ends
abbrev pub status_of : Refusal → ℕ
status_of BadWords = 2
status_of (BadScript line) = 3
status_of SourceFault = 4
status_of DiskFault = 6
status_of KeeperFault = 7
status_of NeedsRestore = 8
status_of (BadChain fault) = 9
status_of (BadHeader fault) = 9
status_of Reserved = 9
status_of BadAttempts = 10
status_of NoMemory = 11
status_of (Stopped writes) = 12
status_of (BadGeometry g) = 13

-- what its line says
abbrev pub refusal_text : Refusal → List ℕ
refusal_text BadWords = codes "bad words"
refusal_text (BadScript line) = codes "bad script at line " ++ decimal line
refusal_text SourceFault = codes "source fault"
refusal_text DiskFault = codes "disk fault"
refusal_text KeeperFault = codes "keeper fault"
refusal_text NeedsRestore = codes "needs restore"
refusal_text (BadChain fault) = chain_fault_text fault
refusal_text (BadHeader fault) = codes "bad header: " ++ log_fault_text fault
refusal_text Reserved = codes "bad header: reserved block"
refusal_text BadAttempts = codes "bad attempts"
refusal_text NoMemory = codes "no memory"
refusal_text (Stopped writes) = codes "stopped after " ++ decimal writes ++ codes " writes"
refusal_text (BadGeometry g) = codes "bad geometry " ++ decimal g.block_size ++ codes " " ++ decimal g.blocks

-- the text and a line feed
abbrev pub refusal_line : Refusal → List ℕ
refusal_line refusal = refusal_text refusal ++ 10 ∷ []
