-- Giving the checkpoint up.
use Rattle.std.proofs.Common.{ℕ, ◌≤◌, ◌≡◌, ◌∙◌, List, Option, Some, set, sym, ap, subst, ◌⊎◌, inl, inr, ⊎_elim}
use Rattle.bow_units.specs.declared.sizes.Geometry.{Geometry}
use Rattle.bow_units.specs.Magics.{HasMagic}
use Rattle.bow_log.specs.Faults.{header_fault, IsOfHeader}
use Rattle.bow_log.specs.declared.faults.LogFault.{LogFault}
use Rattle.bow_log.specs.declared.faults.LogFault.TheVariants.{NoMagic, Version, HeaderSize, BlockSize, Count, Tail, Sector0, Entry}
use Rattle.bow_disk.specs.Disk.{Content, Goes, Same, Flushed, Written, offered}
use Rattle.bow_chain.specs.Contents.{contents_of}
use Rattle.bow_chain.specs.Kept.{IsPlain}
use Rattle.bow_disk.specs.Moments.{AddsCuts, Tells}
use Rattle.bow_restore.specs.Replaying.{HeadPut}
use Rattle.bow_restore.specs.Forwarding.{HasReason, TellsForward, LeftForward, LeftAtForward, IsHeaderRefusal}
use Rattle.bow_restore.specs.declared.answers.Forwarded.{Forwarded}
use Rattle.bow_restore.specs.declared.answers.Forwarded.TheVariants.{Nothing, Done, BadHeader, Reserved, DiskFault, NoMemory}
use Rattle.bow_disk.proofs.Moments.{goes_told}
use Rattle.bow_restore.proofs.Backs.{flushed_is}

-- a read after a flush
pub flushed_read : {T : Type 0} (content : T → Option Content) (a b : T) (k : Content) → Tells content (Flushed k) a → Goes Same (content a) (content b) → Tells content (Flushed k) b
flushed_read content a b k m goes = let n = goes_told content Same a b m.told m.is goes in record { told = n.told; is = n.is; holds = (n.holds.0 ∙ m.holds.0, n.holds.1 ∙ m.holds.1) }

-- a write after that
pub put_after : (v : List ℕ) (k m d : Content) → Flushed k m → Written 0 v m d → HeadPut v k d
put_after v k m d f w = record { now = w.0 ∙ ap (λ (l : List (List ℕ)). set l 0 v) f.0; candidates = w.1 ∙ ap (λ (l : List (List (List ℕ))). offered l 0 v) f.1 }

-- a refusal, whatever it is
pub record Refused (g : Geometry) (before now : ℕ) (k d : Content) (answer : Forwarded) : Type 0 where
  pub reason : HasReason before now answer
  pub memory : answer ≡ NoMemory → ⊥
  pub tells : TellsForward g (contents_of k.now) answer
  pub left : LeftForward g answer k d

bad : (g : Geometry) (before now : ℕ) (k d : Content) (fault : LogFault) (answer : Forwarded) → answer ≡ BadHeader fault → IsOfHeader fault → HasMagic (contents_of k.now 0) → header_fault g (contents_of k.now 0) ≡ Some fault → Flushed k d → Refused g before now k d answer
bad g before now k d fault answer is of magic first flushed =
    subst (Refused g before now k d) (sym is) (record { reason = of; memory = λ e. absurd cc; tells = (magic, first); left = (flushed.0, flushed_is k d flushed) })

none : (g : Geometry) (before now : ℕ) (k d : Content) (answer : Forwarded) → answer ≡ Nothing → IsPlain (contents_of k.now 0) → Flushed k d → Refused g before now k d answer
none g before now k d answer is plain flushed =
    subst (Refused g before now k d) (sym is) (record { reason = tt; memory = λ e. absurd cc; tells = plain; left = (flushed.0, flushed_is k d flushed) })

-- a header's fault but for the want of a magic is told itself
told_itself : (fault : LogFault) (answer : Forwarded) → IsOfHeader fault → IsHeaderRefusal fault answer → answer ≡ BadHeader fault
told_itself NoMagic answer of is = absurd of
told_itself Version answer of is = is
told_itself HeaderSize answer of is = is
told_itself BlockSize answer of is = is
told_itself Count answer of is = is
told_itself Tail answer of is = absurd of
told_itself Sector0 answer of is = is
told_itself (Entry i) answer of is = absurd of

pub refused_is : (g : Geometry) (before now : ℕ) (k d : Content) (fault : LogFault) (answer : Forwarded) → IsHeaderRefusal fault answer → ((fault ≡ NoMagic) × (HasMagic (contents_of k.now 0) → ⊥)) ⊎ (IsOfHeader fault × HasMagic (contents_of k.now 0))
    → header_fault g (contents_of k.now 0) ≡ Some fault → Flushed k d → Refused g before now k d answer
refused_is g before now k d fault answer is (inl h) first flushed = none g before now k d answer (subst (λ f. IsHeaderRefusal f answer) h.0 is) h.1 flushed
refused_is g before now k d fault answer is (inr h) first flushed = bad g before now k d fault answer (told_itself fault answer h.0 is) h.0 h.1 first flushed

pub left_at : {T : Type 0} (g : Geometry) (content : T → Option Content) (disk : T) (k : Content) (answer : Forwarded) → Tells content (LeftForward g answer k) disk → LeftAtForward g content disk k answer
left_at g content disk k Nothing t = t
left_at g content disk k Done t = t
left_at g content disk k (BadHeader fault) t = t
left_at g content disk k Reserved t = t
left_at g content disk k DiskFault t = tt
left_at g content disk k NoMemory t = t

-- what a cut might have left at entry is none that is new
pub adds_past : {T : Type 0} (moment : T → ℕ) (since : T → ℕ → List (List ℕ) → Type 0) (Q P : List (List ℕ) → Type 0) (a b : T) → ((t : ℕ) (image : List (List ℕ)) → t ≤ moment a → Q image → since a t image) → AddsCuts moment since (λ image. Q image ⊎ P image) a b → AddsCuts moment since P a b
adds_past moment since Q P a b counts l = record {
  time = l.time;
  only = λ t image le left. ⊎_elim (λ x. inl x) (λ e. ⊎_elim (λ q. inl (counts t image le q)) (λ p. inr p) e) (l.only t image le left);
  keeps = l.keeps;
}
