-- No words ask for two commands on several devices.
use Rattle.std.proofs.Common.{◌≡◌, ◌∙◌, ◌^◌, ◌-◌, ℕ, List, [], ◌∷◌, arith, length, sym, ap, codes}
use Rattle.clap.specs.Words.{Text}
use Rattle.bow_words.specs.Words.{texts_of}
use Rattle.bow_words.specs.PairWords.{AreImages, ArePair, AskForOnePair, PairOwn, pair_name}
use Rattle.bow_words.specs.declared.pair_words.PairCommand.{PairCommand}
use Rattle.bow_words.specs.declared.pair_words.PairCommand.TheVariants.{Pair, PairBoot}
use Rattle.bow_words.proofs.Telling.{spells_one}

-- the two names differ
names_apart : codes "pair" ≡ codes "pair-boot" → ⊥
names_apart is = let long : 4 ≡ 9 = ap (λ (l : Text). length l) is in omega (arith, long)

one_count : (further : List Text) (m n : ℕ) → AreImages further m → AreImages further n → m ≡ n
one_count further m n p q = p.0 ∙ sym q.0

one_pair : (own : List Text) (m n i j : ℕ) → ArePair own m i → ArePair own n j → Pair m i ≡ Pair n j
one_pair [] m n i j p q = absurd p
one_pair (number ∷ further) m n i j p q =
    let same = spells_one 0 (2 ^ 64 - 1) m n _ (omega arith) p.0.1 q.0.1 in
    ap (λ k. Pair k i) same ∙ ap (λ k. Pair n k) (one_count further i j p.1 q.1)

one_own : (own : List Text) (a b : PairCommand) → pair_name a ≡ pair_name b → PairOwn own a → PairOwn own b → a ≡ b
one_own own (Pair m i) (Pair n j) is p q = one_pair own m n i j p q
one_own own (Pair m i) (PairBoot j) is p q = absurd (names_apart is)
one_own own (PairBoot i) (Pair n j) is p q = absurd (names_apart (sym is))
one_own own (PairBoot i) (PairBoot j) is p q = ap PairBoot (one_count own i j p q)

pub ask_for_one_pair : AskForOnePair
ask_for_one_pair [] a b x y = absurd x
ask_for_one_pair (i ∷ []) a b x y = absurd x
ask_for_one_pair (i ∷ j ∷ []) a b x y = absurd x
ask_for_one_pair (i ∷ j ∷ k ∷ []) a b x y = absurd x
ask_for_one_pair (i ∷ j ∷ k ∷ word ∷ own) a b x y = one_own (texts_of own) a b (sym x.1 ∙ y.1) x.2 y.2
