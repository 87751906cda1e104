-- What a call of the program over several devices did, by what its words asked for.
use Rattle.std.specs.Prelude.{◌≡◌, ℕ, Bool, true, false, List, slice_get, Option, Some, String}
use Rattle.std.specs.declared.alloc.Global.{Global}
use Rattle.bow_units.specs.declared.sizes.Geometry.{Geometry}
use Rattle.bow_units.specs.Sizes.{IsValid}
use Rattle.bow_disk.specs.Disk.{Content}
use Rattle.bow_chain.specs.Contents.{Contents, contents_of}
use Rattle.vold_meta.specs.Decisions.{text_of_decision}
use Rattle.bow_words.specs.PairWords.{AsksPair}
use Rattle.bow_words.specs.declared.pair_words.PairCommand.{PairCommand}
use Rattle.bow_words.specs.declared.pair_words.PairCommand.TheVariants.{Pair, PairBoot}
use Rattle.bow_tool.specs.declared.outcomes.Outcome.{Outcome}
use Rattle.bow_tool.specs.declared.refusals.Refusal.{Refusal}
use Rattle.bow_tool.specs.Check.{IsFine}
use Rattle.bow_tool.specs.Commands.{CanForward, Meaning, TellsAsked}
use Rattle.bow_tool.specs.PairBoots.{PairBootCame, PairBootCause, PairBootText}
use Rattle.bow_tool.specs.PairCalls.{NoneFails, NoneTouched, PairCall}
use Rattle.bow_tool.specs.PairPlays.{PairBehind, PairCame, PairCause, PairInOrder, PairText}

-- how many images a command asks for
abbrev pub images_in : PairCommand → ℕ
images_in (Pair number images) = images
images_in (PairBoot images) = images

-- the words ask for this command, with so many images as there are disks
abbrev pub AsksPairOn : ℕ → List (String Global) → PairCommand → Type 0
AsksPairOn count words command = AsksPair words command × (images_in command ≡ count)

-- the image of a device can be settled by this decision: its checkpoint can be given up, or it is sound or has no log
abbrev pub CanSettle : Bool → Geometry → Contents → Type 0
CanSettle true g image = CanForward g image
CanSettle false g image = IsFine g image

-- Nothing outside stands in the way of settling: the keeper tells a decision or nothing; each disk states valid sizes
-- and tells its content, which can be settled by that; and no call of the keeper or of a disk fails.
pub record PairBootInOrder (c : PairCall) : Type 0 where
  pub committed : Bool
  pub kept : c.keepers.kept c.keeper ≡ Some (text_of_decision committed)
  pub sizes : (k : ℕ) (d : c.Disk) → slice_get c.disks_after k ≡ Some d → (g : Geometry)
      → c.views.stated d ≡ Some g → IsValid g
  pub fine : (k : ℕ) (d e : c.Disk) → slice_get c.disks k ≡ Some d → slice_get c.disks_after k ≡ Some e
      → (content : Content) × (c.views.content d ≡ Some content) × ((g : Geometry)
      → c.views.stated e ≡ Some g → CanSettle committed g (contents_of content.now))
  pub calls : NoneFails c

-- the command was done, with this text
abbrev pub PairDone : PairCall → PairCommand → List ℕ → Type 0
PairDone c (Pair number images) text = PairText c text
PairDone c (PairBoot images) text = PairBootText c text

-- why the command is refused
abbrev pub PairRefused : PairCall → PairCommand → Refusal → Type 0
PairRefused c (Pair number images) refusal = PairCause c refusal
PairRefused c (PairBoot images) refusal = PairBootCause c refusal

-- the command was done but for its end, and this refusal is told behind it
abbrev pub PairEnded : PairCall → PairCommand → Refusal → List ℕ → Type 0
PairEnded c (Pair number images) refusal text = PairBehind c refusal text
PairEnded c (PairBoot images) refusal text = ⊥

-- nothing outside stands in the way of the command
abbrev pub PairOrder : PairCall → PairCommand → Type 0
PairOrder c (Pair number images) = PairInOrder c
PairOrder c (PairBoot images) = PairBootInOrder c

-- what the commands come to in this call
abbrev pub pair_meaning : PairCall → Meaning PairCommand
pair_meaning c = record {
  done = PairDone c;
  cause = PairRefused c;
  behind = PairEnded c;
  in_order = PairOrder c;
  may_stop = λ command. ⊥;
}

-- what a call tells that was given these words, and so many disks
abbrev pub TellsPairWords : ℕ → List (String Global) → PairCall → Option (List ℕ) → Option (List ℕ) → ℕ → ℕ → ℕ
    → Type 0
TellsPairWords count words c had has faults now status =
    TellsAsked (AsksPairOn count words) (NoneTouched c) (pair_meaning c) had has faults now status

-- what a command came to
abbrev pub IsPairOutcome : PairCommand → PairCall → Outcome → Type 0
IsPairOutcome (Pair number images) c o = PairCame c o
IsPairOutcome (PairBoot images) c o = PairBootCame c o
