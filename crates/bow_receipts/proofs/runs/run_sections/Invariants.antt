use Rattle.std.proofs.Common.{◌≡◌, length}
use Rattle.std.specs.Prelude.{All}
use Rattle.bow_receipts.specs.Called.{HasMade, InOrder}
use Rattle.bow_receipts.proofs.runs.run_sections.Given as goal

abbrev pub invariant-loop-section : goal.invariant-loop-section
invariant-loop-section g l = record {
  many : length l.passes ≡ length l.initial.passes;
  order : InOrder l.passes;
  made : All (HasMade g.J.Naming.sizes l.script l.section) l.passes;
}
