use Rattle.std.proofs.Common.{ℕ, ◌≡◌, ◌∙◌, List, Option, None, Some, refl, sym, ap, subst}
use Rattle.std.specs.Option.{unwrap_or}
use Rattle.bow_restore.specs.Limits.{StopsWithin}
use Rattle.bow_units.specs.declared.sizes.Geometry.{Geometry}
use Rattle.bow_log.specs.Generations.{Generation}
use Rattle.bow_disk.specs.Disk.{Content}
use Rattle.bow_chain.specs.Contents.{contents_of}
use Rattle.bow_chain.specs.Chains.{IsSoundWith, generations_of}
use Rattle.bow_chain.specs.Kept.{kept, Holds}
use Rattle.bow_restore.specs.Copies.{chain_copies}
use Rattle.bow_restore.specs.Rewinds.{every}
use Rattle.bow_disk.specs.Moments.{AddsCuts, Tells}
use Rattle.bow_restore.specs.Replaying.{IsFlushed, ChainReplayed, AreMade}
use Rattle.bow_restore.proofs.restoring.replay_chain.Given.{Over}
use Rattle.bow_restore.proofs.restoring.replay_chain.Goals as goal
use Rattle.bow_restore.proofs.restoring.replay_chain.Goals.{After-replay}

module _ (g : Over) where
  -- the logs in memory are the generations of the chain
  are : (c : After-replay g) → generations_of c.args.geometry c.generations.result.now ≡ c.args.chain.now.generations
  are c = ap (λ (geo : Geometry). generations_of geo c.generations.result.now) (sym c.requires.chain) ∙ sym c.generations.ensures.generations

  cuts : (c : After-replay g) (k : Content) → g.D.Disk.content c.args.disk.now ≡ Some k → IsFlushed k → IsSoundWith c.args.geometry (contents_of k.now) c.args.chain.now.generations
      → AddsCuts g.D.Disk.moment g.D.Disk.left_since (λ image. Holds c.args.geometry every (kept (contents_of k.now) c.args.chain.now.generations) (contents_of image)) c.args.disk.now c.replay.new.disk
  cuts c k is flushed sound =
      subst (λ (ls : List Generation). IsSoundWith c.args.geometry (contents_of k.now) ls → AddsCuts g.D.Disk.moment g.D.Disk.left_since (λ image. Holds c.args.geometry every (kept (contents_of k.now) ls) (contents_of image)) c.args.disk.now c.replay.new.disk) (are c)
      (c.replay.ensures.cuts k is flushed) sound

pub returns-in-Ok-replay-clause-cuts : goal.returns-in-Ok-replay-clause-cuts
returns-in-Ok-replay-clause-cuts g c k is flushed sound = cuts g (goal.at.returns-in-Ok-replay-clause-cuts g c).After-replay k is flushed sound

pub returns-in-Err-Fault-clause-cuts : goal.returns-in-Err-Fault-clause-cuts
returns-in-Err-Fault-clause-cuts g c k is flushed sound = cuts g (goal.at.returns-in-Err-Fault-clause-cuts g c).After-replay k is flushed sound

pub returns-clause-cuts : goal.returns-clause-cuts
returns-clause-cuts g c k is flushed sound = cuts g (goal.at.returns-clause-cuts g c).After-replay k is flushed sound

pub returns-in-Ok-replay-clause-left : goal.returns-in-Ok-replay-clause-left
returns-in-Ok-replay-clause-left g c k is flushed sound =
    subst (λ (ls : List Generation). IsSoundWith c.args.geometry (contents_of k.now) ls → Tells g.D.Disk.content (ChainReplayed c.args.geometry ls k) c.replay.new.disk) (are g (goal.at.returns-in-Ok-replay-clause-left g c).After-replay)
    (c.in-Ok-replay.ensures.whole k is flushed) sound

limit_is : (limit : Option ℕ) (n : ℕ) → StopsWithin limit n → limit ≡ Some (unwrap_or limit 0)
limit_is None n s = absurd s
limit_is (Some k) n s = refl

pub returns-clause-left : goal.returns-clause-left
returns-clause-left g c k is flushed sound =
    let stops = c.in-Err-Limit.ensures.stops c.in-Err-Limit.field-0-is in
    let limit : c.args.limit ≡ Some c.unwrap_or.result = limit_is c.args.limit _ stops ∙ ap Some (sym c.unwrap_or.ensures) in
    subst (λ (ls : List Generation). IsSoundWith c.args.geometry (contents_of k.now) ls → Tells g.D.Disk.content (AreMade c.args.geometry (chain_copies ls) c.unwrap_or.result k) c.replay.new.disk) (are g (goal.at.returns-clause-left g c).After-replay)
    (λ s. c.in-Err-Limit.ensures.part k is flushed s c.unwrap_or.result limit c.in-Err-Limit.field-0-is) sound
