use Rattle.std.proofs.Common.{rules}
use Rattle.bow_units.specs.Sizes.{IsValid}
use Rattle.bow_tool.proofs.Checking.{of_image}
use Rattle.bow_tool.proofs.checks.check.Goals as goal

pub returns-clause-text : goal.returns-clause-text
returns-clause-text g c =
    let valid : IsValid c.in-Ok.geometry = search rules in
    of_image (λ text. text.items) c.loaded_text.result (g.D.Disk.stated c.loaded_text.new.disk) (g.D.Disk.content c.args.disk.now) (g.D.Disk.content c.sizes.new.self) c.in-Ok.geometry c.loaded_text.ensures.sizes valid c.sizes.ensures.step c.loaded_text.ensures.text
