use Rattle.std.proofs.Common.{◌<◌, length, arith, sym, ap, subst, refl}
use Rattle.bow_queue.specs.Requests.{fresh_request}
use Rattle.bow_machine.specs.MemoryIsSound.{IsAdmissible}
use Rattle.bow_machine.specs.Requests.{Request}
use Rattle.bow_core.specs.Held.{Held}
use Rattle.bow_core.specs.Standing.{StandsIn, StandsOver}
use Rattle.bow_core.specs.Views.{View, view_of, IsOpened}
use Rattle.bow_core.specs.Forward.{IsForward}
use Rattle.bow_core.proofs.Beside.{admitted_stands}
use Rattle.bow_core.proofs.Forward.{admitted_forward}
use Rattle.bow_core.proofs.GivenOut.{admitted_opened, all_below}
use Rattle.bow_core.proofs.device.Core.admit.Given.{Over}
use Rattle.bow_core.proofs.device.Core.admit.Goals as goal
use Rattle.bow_core.proofs.device.Core.admit.Goals.{After-admit}

module _ (g : Over) (c : After-admit g) where
  abbrev asked : Request
  asked = fresh_request c.admit.result c.args.op

  place : length c.self.inside.state.memory.requests < c.self.inside.state.places
  place = subst (λ (v : View g.row.D.Denot). length v.memory.requests < v.places) (sym c.self.view_is) c.requires.place

  fits : IsAdmissible c.self.inside.state.geometry c.args.op
  fits = subst (λ (v : View g.row.D.Denot). IsAdmissible v.geometry c.args.op) (sym c.self.view_is) c.requires.whole

  opened : IsOpened g.D.Disk.stated (view_of c.self.inside.port.disk c.admit.new.self c.self.inside.port.calls)
  opened = admitted_opened g.D.Disk.stated c.self.inside.port.disk c.self.inside.state c.admit.new.self asked c.self.inside.port.calls c.self.invariant refl c.admit.ensures.serial fits place c.admit.ensures.waits

pub invariant_of-self : goal.invariant_of-self
invariant_of-self g c = opened g (goal.at.invariant_of-self g c).After-admit

pub returns-clause-opened : goal.returns-clause-opened
returns-clause-opened g c = opened g (goal.at.returns-clause-opened g c).After-admit

pub returns-clause-stands : goal.returns-clause-stands
returns-clause-stands g c f stands =
    let k = (goal.at.returns-clause-stands g c).After-admit in
    let i = c.self.inside in
    let s = i.state in
    let before = subst (λ (v : View g.row.D.Denot). StandsIn g.D.Disk.content v f) (sym c.self.view_is) stands in
    let after = admitted_stands s.geometry s.memory (asked g k) (g.D.Disk.content i.port.disk) f (fits g k) refl (all_below (asked g k) s.admitted s.memory.requests c.admit.ensures.serial c.self.invariant.given_out) (omega (arith, place g k, c.self.invariant.few)) before in
    subst (λ (h : Held). StandsOver h.geometry h.memory (g.D.Disk.content i.port.disk) f) (sym c.admit.ensures.waits) after

pub returns-clause-forward : goal.returns-clause-forward
returns-clause-forward g c f forward =
    let k = (goal.at.returns-clause-forward g c).After-admit in
    let i = c.self.inside in
    let s = i.state in
    let v = view_of i.port.disk s i.port.calls in
    let w = view_of i.port.disk k.admit.new.self i.port.calls in
    let before = subst (λ (v : View g.row.D.Denot). IsForward g.D.Disk.content v f) (sym c.self.view_is) forward in
    admitted_forward g.D.Disk.content v w (asked g k) f (ap (λ (h : Held). h.geometry) k.admit.ensures.waits) refl (ap (λ (h : Held). h.memory) k.admit.ensures.waits)
    (λ state stands. admitted_stands s.geometry s.memory (asked g k) (g.D.Disk.content i.port.disk) state (fits g k) refl (all_below (asked g k) s.admitted s.memory.requests k.admit.ensures.serial c.self.invariant.given_out) (omega (arith, place g k, c.self.invariant.few)) stands) before
