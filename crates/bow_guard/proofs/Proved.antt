-- The laws.
use Rattle.std.proofs.Common.{ℕ, List, [], ◌∷◌, ◌++◌, ◌≡◌, ◌≢◌, arith, refl, sym, ap, ◌∙◌, subst, inl, inr}
use Rattle.std.specs.List.{AllByRecursion as Each}
use Rattle.bow_units.specs.declared.sizes.Geometry.{Geometry}
use Rattle.bow_log.specs.Generations.{Backup, IsBackup, StartsWith0, IsGeneration}
use Rattle.bow_chain.specs.Contents.{run_of}
use Rattle.bow_chain.specs.Sound.{sum_at}
use Rattle.bow_chain.proofs.Moved.{run_same}
use Rattle.bow_chain.proofs.Counting.{some_inj}
use Rattle.bow_guard.specs.Device.{Steady, Safe, Device, LogGiven, with_backup}
use Rattle.bow_guard.specs.Guard.{KeptBehind}
use Rattle.bow_guard.specs.Laws.{CutsKeep, KeptAtSafePlaces, SafeIsNotLoose, LooseWrites, LooseKinds, FlushKeeps, LastFlush, CopiesLogged, LinkLogged, MoveLogged, LogRewritten, CutsStand, WritesInPlace, WritesToFree, ReadsInPlace, FlushesInPlace, DiscardsInPlace, PrepareArms, FirstLogGiven, ReadsArming, PrepareEnds, CommitDecides, DecidesAgain, FlushesDeciding, ReadsDeciding, CommitEnds, Together, CutsAreAhead}
use Rattle.bow_guard.proofs.Kept.{same_keeps}
use Rattle.bow_guard.proofs.Device.{guarded_cut, steady_safe, safe_tight, not_0, loose_write, kinds_changed, flushed, cleaned, copy_logged, link_logged, move_logged, rewritten}
use Rattle.bow_guard.proofs.Phases.{cut_stands, together}
use Rattle.bow_guard.proofs.PhaseActs.{pending_written, pending_kept, pending_flushed, pending_discarded, arms, arms_written, arms_flushed, arming_read, deciding_written, deciding_again, deciding_flushed, deciding_read, committed_flushed, committed_again, ahead_cut}

pub cuts_keep : CutsKeep
cuts_keep g used saved d image k cut = guarded_cut g used saved d image k cut

pub kept_at_safe_places : KeptAtSafePlaces
kept_at_safe_places g used saved d v log k has spelled = elim (k.heads v has) [
  | inl is ↦ (d.older, subst (λ m. KeptBehind g Q used saved d.now m d.older) (some_inj (sym is ∙ spelled)) (same_keeps g used saved (Steady g d) Q d.now d.now d.log d.older (λ x s. safe x (steady_safe g d x s)) (λ x s. refl) k.log))
  | inr is ↦ (d.clean_older, subst (λ m. KeptBehind g Q used saved d.now m d.clean_older) (some_inj (sym is ∙ spelled)) (same_keeps g used saved (Safe g d) Q d.now d.now d.clean_log d.clean_older safe (λ x s. refl) k.clean))
]
  where
    Q : ℕ → Type 0
    Q x = (x ≢ 0) × Safe g d x

    safe : (x : ℕ) → Safe g d x → (x ≢ 0) × Safe g d x
    safe x s = (not_0 g d x k.zeroth s, s)

pub safe_is_not_loose : SafeIsNotLoose
safe_is_not_loose g d x s l = safe_tight g d x s l

pub loose_writes : LooseWrites
loose_writes g used saved d e b above loose touches logs others k = loose_write g used saved d e b above (λ s. safe_tight g d b s loose) touches logs others k

pub loose_kinds : LooseKinds
loose_kinds g used saved d e now may logs others zeroth k = kinds_changed g used saved d e now may logs (λ x s. others x (safe_tight g d x s)) zeroth k

pub flush_keeps : FlushKeeps
flush_keeps g used saved d e now may has logs kinds picked k = flushed g used saved d e now may has logs kinds picked k

pub last_flush : LastFlush
last_flush g used saved d e now may given log older clean kinds picked k = cleaned g used saved d e now may given log older clean kinds picked k

each_last : (P : Backup → Type 0) (es : List Backup) (b : Backup) → Each P (es ++ b ∷ []) → P b
each_last P [] b all = all.0
each_last P (e ∷ es) b all = each_last P es b all.1

-- the dest holds what it held before the log was given
sum_after : (g : Geometry) (d e : Device) (b : Backup) → IsBackup g b → LogGiven g b d e → sum_at b.source (run_of d.now b.dest b.count) ≡ b.sum → sum_at b.source (run_of e.now b.dest b.count) ≡ b.sum
sum_after g d e b ok given sum = ap (sum_at b.source) (run_same e.now d.now b.dest b.count (λ x low high. given.write.others_now x (λ is. omega (arith, ok.dest_not_0)))) ∙ sum

pub copies_logged : CopiesLogged
copies_logged g used saved d e b given clean log older valid made sum k = copy_logged g used saved d e b ok given clean k log older with_it made (sum_after g d e b ok given sum)
  where
    with_it : IsGeneration g (with_backup d.log b)
    with_it = subst (IsGeneration g) log valid

    ok : IsBackup g b
    ok = each_last (IsBackup g) d.log.entries b with_it.each

pub link_is_logged : LinkLogged
link_is_logged g used saved d e b given clean entries sequence older valid whole spelled sum k = link_logged g used saved d e b ok given clean k starts.0 starts.1 entries sequence older valid whole spelled (sum_after g d e b ok given sum)
  where
    ok : IsBackup g b
    ok = (subst (Each (IsBackup g)) entries valid.each).0

    starts : StartsWith0 (b ∷ [])
    starts = subst StartsWith0 entries valid.start

pub move_is_logged : MoveLogged
move_is_logged g used saved d e from to block write is clean log above inside older clean_log clean_older current picked others zeroth k =
    move_logged g used saved d e from to block write is clean log above inside older clean_log clean_older
    (λ s. safe_tight g d from s (inr (inr current))) (λ s. safe_tight g d to s (inl picked)) others zeroth k

pub log_rewritten : LogRewritten
log_rewritten g used saved d now may block is write k = rewritten g used saved d now may block is write k

pub cuts_stand : CutsStand
cuts_stand g f content d image sizes valid leaves cut = cut_stands g f d image content (omega (arith, sizes.enough)) valid leaves cut

pub writes_in_place : WritesInPlace
writes_in_place g f n b v now new_now may new_may write is = (pending_written g f n b v now new_now may new_may write is, pending_written g f n b v now new_now may new_may write is)

pub writes_to_free : WritesToFree
writes_to_free g f b v now new_now may new_may none write is = pending_kept g f b v now new_now may new_may none write is

pub reads_in_place : ReadsInPlace
reads_in_place g f n b v may is = is

pub flushes_in_place : FlushesInPlace
flushes_in_place g f n now may reads flushed = pending_flushed g f n now may reads flushed

pub discards_in_place : DiscardsInPlace
discards_in_place g f n e may is = pending_discarded g f n e may is

pub prepare_arms : PrepareArms
prepare_arms g f n d b flushed older zeroth valid entries sequence source count sum kind picked same unchanged = arms g f n d b flushed older zeroth valid entries sequence source count sum kind picked same unchanged

pub first_log_given : FirstLogGiven
first_log_given g f d now may block is write a = arms_written g f d now may block is write a

pub reads_arming : ReadsArming
reads_arming g f n b v d a = arming_read g f n b v d a

pub prepare_ends : PrepareEnds
prepare_ends g f d e now may given log older clean kinds picked a = arms_flushed g f d e now may given log older clean kinds picked a

pub commit_decides : CommitDecides
commit_decides g f n d now may content flushed write plain current_0 current k = deciding_written g f n d now may content k flushed write plain current_0 current

pub decides_again : DecidesAgain
decides_again g f d now may content write a = deciding_again g f d now may content write a

pub flushes_deciding : FlushesDeciding
flushes_deciding g f d may content flushed has a = deciding_flushed g f d may content flushed has a

pub reads_deciding : ReadsDeciding
reads_deciding g f n b v content d zeroth there a = deciding_read g f n b v content d zeroth there a

pub commit_ends : CommitEnds
commit_ends g f n d may content valid wrote flushed a = (committed_flushed g f n d content may valid a wrote flushed, committed_again g f n d content may a wrote flushed)

pub held_together : Together
held_together g f image valid has = together g f image valid has

pub cuts_are_ahead : CutsAreAhead
cuts_are_ahead g f may image sizes valid pending current cut = ahead_cut g f may image sizes valid pending current cut
