-- Which words ask for several devices.
use Rattle.std.specs.Prelude.{◌≡◌, ◌≤◌, ◌^◌, ◌-◌, ℕ, suc, List, [], ◌∷◌, length, codes, String}
use Rattle.std.specs.String.{string_bytes}
use Rattle.std.specs.declared.alloc.Global.{Global}
use Rattle.clap.specs.Words.{Text}
use Rattle.bow_words.specs.declared.pair_words.PairCommand.{PairCommand}
use Rattle.bow_words.specs.declared.pair_words.PairCommand.TheVariants.{Pair, PairBoot}
use Rattle.bow_words.specs.Words.{AreNumber, IsBlockWord, texts_of}

-- IMAGE and these further images: so many in all, from 2 to 8
abbrev pub AreImages : List Text → ℕ → Type 0
AreImages further images = (images ≡ suc (length further)) × (2 ≤ images) × (images ≤ 8)

-- a number and the further images
abbrev pub ArePair : List Text → ℕ → ℕ → Type 0
ArePair [] n images = ⊥
ArePair (number ∷ further) n images = AreNumber 0 (2 ^ 64 - 1) (number ∷ []) n × AreImages further images

-- a command's name
abbrev pub pair_name : PairCommand → Text
pair_name (Pair n images) = codes "pair"
pair_name (PairBoot images) = codes "pair-boot"

-- a command's own words
abbrev pub PairOwn : List Text → PairCommand → Type 0
PairOwn own (Pair n images) = ArePair own n images
PairOwn own (PairBoot images) = AreImages own images

-- The words ask for such a command: the image's path, the attempts' path, a block size, the command's name and its own
-- words.
abbrev pub AsksPair : List (String Global) → PairCommand → Type 0
AsksPair (image ∷ attempts ∷ block ∷ name ∷ own) command =
    IsBlockWord (string_bytes block) × (string_bytes name ≡ pair_name command) × PairOwn (texts_of own) command
AsksPair words command = ⊥

-- no words ask for two of these
abbrev pub AskForOnePair : Type 0
AskForOnePair = (words : List (String Global)) (a b : PairCommand) → AsksPair words a → AsksPair words b → a ≡ b
