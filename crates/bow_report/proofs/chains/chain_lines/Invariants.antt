use Rattle.std.proofs.Common.{◌≡◌, take}
use Rattle.std.specs.String.{string_bytes}
use Rattle.bow_report.specs.Chains.{chain_text}
use Rattle.bow_report.proofs.chains.chain_lines.Given as goal

abbrev pub invariant-loop-log : goal.invariant-loop-log
invariant-loop-log l = string_bytes l.text ≡ chain_text (take l.log-index l.log-items)
