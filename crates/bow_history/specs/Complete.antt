-- When a journal is complete: each lane's requests in order, each answered once, and section by section.
use Rattle.std.specs.Prelude.{ℕ, suc, ◌<◌, ◌≡◌, List, [], ◌∷◌, None}
use Rattle.bow_flat.specs.Flat.{put}
use Rattle.bow_machine.specs.Memory.{Memory}
use Rattle.bow_machine.specs.MemoryIsSound.{MemoryIsSound}
use Rattle.bow_history.specs.declared.items.Item.{Item}
use Rattle.bow_history.specs.declared.items.Item.TheVariants.{Wrote, Got, Answered}
use Rattle.bow_history.specs.Journal.{Plan}
use Rattle.bow_history.specs.Sessions.{Session, begun, Turned}
use Rattle.bow_history.specs.Histories.{session_after, journal_of}
use Rattle.bow_history.specs.Sections.{BySections, SectionsRise, IsFrom}
use Rattle.bow_history.specs.SoundSessions.{IsSoundSession, MayRun}

-- each item is of the next request of its lane, which an answer ends: from these next requests of the lanes to those
abbrev pub AreInOrder : (ℕ → ℕ) → List Item → (ℕ → ℕ) → Type 0
AreInOrder next [] last = (lane : ℕ) → next lane ≡ last lane
AreInOrder next (Wrote lane n b ∷ items) last = (n ≡ next lane) × AreInOrder next items last
AreInOrder next (Got lane n b ∷ items) last = (n ≡ next lane) × AreInOrder next items last
AreInOrder next (Answered lane n outcome ∷ items) last =
    (n ≡ next lane) × AreInOrder (put next lane (suc (next lane))) items last

-- The journal of each run goes in order, and section by section.
abbrev pub RunsGoInOrder : Type 0
RunsGoInOrder = (plan : Plan) (s : Session) (turns : List Turned) (low : ℕ) → SectionsRise plan → IsSoundSession plan s
    → MayRun plan s turns → IsFrom plan s low
    → AreInOrder s.number (journal_of plan s turns) (session_after plan s turns).number
    × BySections plan low (journal_of plan s turns)

-- no lane has an unanswered request
abbrev pub IsOver : Plan → Session → Type 0
IsOver plan s = (lane : ℕ) → lane < plan.lanes → plan.request lane (s.number lane) ≡ None

-- Then no request waits.
abbrev pub OverIsEmpty : Type 0
OverIsEmpty = (plan : Plan) (s : Session) → IsSoundSession plan s → IsOver plan s → s.memory.requests ≡ []

-- each request of each lane was answered, in order, and section by section
pub record IsComplete (plan : Plan) (journal : List Item) : Type 0 where
  pub last : ℕ → ℕ
  pub in_order : AreInOrder (λ lane. 0) journal last
  pub none_left : (lane : ℕ) → lane < plan.lanes → plan.request lane (last lane) ≡ None
  pub sections : BySections plan 0 journal

-- The journal of a session that is over is complete.
abbrev pub RunsAreComplete : Type 0
RunsAreComplete = (plan : Plan) (m : Memory) (admitted : ℕ) (turns : List Turned) → SectionsRise plan
    → MemoryIsSound plan.sizes m → m.requests ≡ [] → MayRun plan (begun m admitted) turns
    → IsOver plan (session_after plan (begun m admitted) turns)
    → IsComplete plan (journal_of plan (begun m admitted) turns)
