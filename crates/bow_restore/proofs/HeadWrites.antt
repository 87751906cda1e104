-- What is written to block 0, and flushed.
use Rattle.std.proofs.Common.{ℕ, ◌<◌, ◌≡◌, ◌∙◌, List, ◌∷◌, [], Option, Some, Result, Ok, Err, OnOk, map, take, set, sym, ap, ◌⊎◌, inl, inr}
use Rattle.bow_units.specs.declared.sizes.Geometry.{Geometry}
use Rattle.bow_log.specs.Spelling.{Fields, spell}
use Rattle.bow_log.specs.declared.logs.Magic.TheVariants.{Restoring}
use Rattle.bow_log.specs.Generations.{GenerationFits, backup_of, generation_of, is_restoring}
use Rattle.bow_log.specs.Rules.{IsLog}
use Rattle.bow_log.proofs.InBlocks.{in_blocks}
use Rattle.bow_chain.specs.Sound.{log_in}
use Rattle.bow_disk.specs.Disk.{Content, Goes, FlushStep, Flushed, Same, IsCrash}
use Rattle.bow_restore.specs.Replaying.{IsFlushed, HeadPut, IsHeadCut, IsMark}
use Rattle.bow_restore.proofs.Told.{Fits, head_offered_cut, head_flushed_cut}
use Rattle.bow_restore.proofs.Logs.{spelled}
use Rattle.bow_disk.specs.Moments.{Tells}
use Rattle.bow_disk.proofs.Moments.{goes_told}

pub is_the_mark : (g : Geometry) (log cut : Fields) (n : ℕ) (block : List ℕ) → IsLog g cut → GenerationFits (generation_of g cut) → cut.magic ≡ Restoring → cut.sequence ≡ log.sequence → cut.entries ≡ take n log.entries → block ≡ spell cut
    → IsMark g (map (backup_of g) (take n log.entries)) log.sequence block
is_the_mark g log cut n block ok fits magic sequence entries is = record {
  log = generation_of g cut;
  spelled = ap (log_in g) is ∙ spelled g cut ok fits;
  valid = (in_blocks g cut ok).0;
  restoring = ap is_restoring magic;
  entries_are = ap (map (backup_of g)) entries;
  sequence_is = sequence;
}

-- after a flush
pub head_then_flush : (v : List ℕ) (c m d : Content) → HeadPut v c m → Flushed m d → (d.now ≡ set c.now 0 v) × IsFlushed d
head_then_flush v c m d put flushed = (flushed.0 ∙ put.now, flushed.1 ∙ ap (map (λ x. x ∷ [])) (sym flushed.0))

-- what a cut leaves then, whether the flush was done or failed
pub head_flush_cut : (g : Geometry) (v : List ℕ) (c m d : Content) (cut : List (List ℕ)) → Fits g c → 0 < g.blocks → Fits g d → HeadPut v c m → Flushed m d ⊎ Same m d → IsCrash d.candidates cut → IsHeadCut g v c.now cut
head_flush_cut g v c m d cut fits some fd put (inl flushed) crash = let h = head_then_flush v c m d put flushed in head_flushed_cut g v c fits some d cut fd h.0 h.1 crash
head_flush_cut g v c m d cut fits some fd put (inr same) crash = head_offered_cut g v c fits some d cut fd (same.1 ∙ put.candidates) crash

-- a flush that is done after it
pub flush_made : {T A E : Type 0} (content : T → Option Content) (P : Content → Type 0) (a b : T) (v : List ℕ) (c m : Content) (r : Result A E) → HeadPut v c m → content a ≡ Some m
    → ((d : Content) → d.now ≡ set c.now 0 v → IsFlushed d → P d) → Goes (FlushStep r) (content a) (content b) → OnOk r (Tells content P b)
flush_made content P a b v c m (Err e) put is make goes = tt
flush_made content P a b v c m (Ok x) put is make goes =
    let t = goes_told content Flushed a b m is goes in
    let h = head_then_flush v c m t.told put t.holds in
    record { told = t.told; is = t.is; holds = make t.told h.0 h.1 }
