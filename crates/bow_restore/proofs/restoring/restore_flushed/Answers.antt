use Rattle.std.proofs.Common.{ℕ, ◌∙◌, List, ◌∷◌, [], map, sym, ap, subst}
use Rattle.bow_disk.specs.Disk.{Content, Same}
use Rattle.bow_chain.specs.Contents.{contents_of}
use Rattle.bow_chain.specs.Chains.{IsSoundWith}
use Rattle.bow_chain.specs.Kept.{kept, Holds}
use Rattle.bow_restore.specs.Rewinds.{every, PassesOn}
use Rattle.bow_restore.specs.Replaying.{IsFlushed}
use Rattle.bow_restore.proofs.Refusals.{refusal_tells, passes_on}
use Rattle.bow_disk.proofs.Moments.{goes_told, adds_then, adds_map, adds_reads}
use Rattle.bow_restore.proofs.restoring.restore_flushed.Goals as goal

pub returns-in-Ok-clause-each_fault : goal.returns-in-Ok-clause-each_fault
returns-in-Ok-clause-each_fault g c k is first fault = absurd (c.in-Ok.ensures.each_fault k is first fault)

pub returns-in-Ok-clause-untouched : goal.returns-in-Ok-clause-untouched
returns-in-Ok-clause-untouched g c k is flushed first fault = absurd (c.in-Ok.ensures.each_fault k is first fault)

pub returns-in-Err-clause-each_fault : goal.returns-in-Err-clause-each_fault
returns-in-Err-clause-each_fault g c k is first fault = refusal_tells c.in-Err.fault first c.refusal.result c.refusal.ensures (c.in-Err.ensures.each_fault k is first fault)

-- the flushed content is flushed still
still_flushed : (k m : Content) → Same k m → IsFlushed k → IsFlushed m
still_flushed k m same flushed = same.1 ∙ flushed ∙ ap (λ (l : List (List ℕ)). map (λ x. x ∷ []) l) (sym same.0)

pub returns-in-Ok-clause-cuts : goal.returns-in-Ok-clause-cuts
returns-in-Ok-clause-cuts g c k is flushed =
    let geo = c.args.geometry in
    let logs = c.in-Ok.chain.generations in
    let m = goes_told g.D.Disk.content Same c.args.disk.now c.load.new.disk k is c.load.ensures.step in
    let sound = c.in-Ok.ensures.sound k is in
    let sound_now : IsSoundWith geo (contents_of m.told.now) logs = subst (λ (l : List (List ℕ)). IsSoundWith geo (contents_of l) logs) (sym m.holds.0) sound in
    adds_then g.D.Disk.content g.D.Disk.moment g.D.Disk.left_since (PassesOn geo k.now) c.args.disk.now c.load.new.disk c.replay_chain.new.disk
    (adds_reads g.D.Disk.content g.D.Disk.moment g.D.Disk.left_since (PassesOn geo k.now) c.args.disk.now c.load.new.disk k is c.load.ensures.cuts)
    (adds_map g.D.Disk.content g.D.Disk.moment g.D.Disk.left_since (λ image. Holds geo every (kept (contents_of m.told.now) logs) (contents_of image)) (PassesOn geo k.now) c.load.new.disk c.replay_chain.new.disk
    (λ cut holds. passes_on geo k.now cut logs sound (c.in-Ok.ensures.each_sound k is) (subst (λ (l : List (List ℕ)). Holds geo every (kept (contents_of l) logs) (contents_of cut)) m.holds.0 holds))
    (c.replay_chain.ensures.cuts m.told m.is (still_flushed k m.told m.holds flushed) sound_now))
