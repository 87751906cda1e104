use Rattle.std.proofs.Common.{ap, sym, subst, ◌∙◌}
use Rattle.std.proofs.lemmas.Bool.{false≢true}
use Rattle.bow_units.specs.Magics.{HasMagic}
use Rattle.bow_core.specs.Calls.{read_reply}
use Rattle.bow_core.proofs.Opened.{read_failed, magic_found, all_settled}
use Rattle.bow_core.proofs.device.settle.Goals as goal

pub returns-in_default-read_block-clause-left : goal.returns-in_default-read_block-clause-left
returns-in_default-read_block-clause-left g c =
    read_failed g.D.Disk.stated g.D.Disk.content g.D.Disk.moment g.D.Disk.left_since g.D.Disk.faults g.met.D.Disk.shaped g.met.D.Disk.counts_now c.args.state.now.geometry c.args.port.now.disk c.flush.new.self.disk c.read_block.new.port.disk c.args.port.now.calls c.flush.new.self.calls c.read_block.new.port.calls
    c.flush.result _ c.read_block.result c.read_block.new.buffer.items c.requires.sizes c.in-Ok.is c.flush.ensures c.read_block.ensures.made
    (ap (λ r. read_reply r c.read_block.new.buffer.items) c.in_default-read_block.is)

pub returns-then-has_magic-clause-left : goal.returns-then-has_magic-clause-left
returns-then-has_magic-clause-left g c =
    magic_found g.D.Disk.stated g.D.Disk.content g.D.Disk.moment g.D.Disk.left_since g.D.Disk.faults g.met.D.Disk.shaped g.met.D.Disk.counts_now c.args.state.now.geometry c.args.port.now.disk c.flush.new.self.disk c.read_block.new.port.disk c.args.port.now.calls c.flush.new.self.calls c.read_block.new.port.calls
    c.flush.result _ c.read_block.result c.read_block.new.buffer.items c.requires.sizes c.in-Ok.is c.flush.ensures c.read_block.ensures.made
    (ap (λ r. read_reply r c.read_block.new.buffer.items) c.in-Ok-read_block.is) (subst HasMagic c.deref.ensures.value (c.has_magic.ensures.0 c.if-has_magic.true))

pub returns-clause-left : goal.returns-clause-left
returns-clause-left g c =
    all_settled g.D.Disk.stated g.D.Disk.content g.D.Disk.moment g.D.Disk.left_since g.D.Disk.faults g.met.D.Disk.shaped g.met.D.Disk.counts_now c.args.state.now.geometry c.args.port.now.disk c.flush.new.self.disk c.read_block.new.port.disk c.args.port.now.calls c.flush.new.self.calls c.read_block.new.port.calls
    c.flush.result _ c.read_block.result c.read_block.new.buffer.items c.requires.sizes c.in-Ok.is c.flush.ensures c.read_block.ensures.made
    (ap (λ r. read_reply r c.read_block.new.buffer.items) c.in-Ok-read_block.is) (λ magic. false≢true (sym c.if-has_magic.false ∙ c.has_magic.ensures.1 (subst HasMagic (sym c.deref.ensures.value) magic))) _
