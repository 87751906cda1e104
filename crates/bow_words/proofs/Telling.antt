-- No words ask for two commands.
use Rattle.std.proofs.Common.{◌≡◌, ◌∙◌, ◌<◌, ◌^◌, ◌-◌, ℕ, Bool, true, false, List, [], ◌∷◌, Option, None, Some, refl, sym, ap, subst, arith, get_or}
use Rattle.std.proofs.lemmas.Fmt.{decimal_injective}
use Rattle.clap.specs.Words.{Text}
use Rattle.bow_words.specs.Words.{AreLimit, AreNumber, ArePast, AreRetry, AskForOne, OwnWords, SpellsIn, texts_of, truth_text}
use Rattle.bow_words.specs.declared.names.Name.{Name}
use Rattle.bow_words.specs.declared.names.Name.TheVariants.{Play, Run, Restore, Check, Forward, Start, Mark, NeedsCheckpoint, NeedsRollback, Abort, Boot, Drill, Past, Callers}
use Rattle.bow_words.specs.declared.commands.Command.{Command}
use Rattle.bow_words.specs.declared.commands.Command.TheVariants as command
use Rattle.bow_words.proofs.Naming.{IsNamed, kind_of, named, of_kind, spelled}

some_same : {x y : Text} → Some x ≡ Some y → x ≡ y
some_same is = cc

-- a word spells one number
pub spells_one : (least most m n : ℕ) (word : Option Text) → most < 2 ^ 64 → SpellsIn least most word m
    → SpellsIn least most word n → m ≡ n
spells_one least most m n word small p q =
    let first : m < 2 ^ 64 = omega (arith, small, p.1) in
    let second : n < 2 ^ 64 = omega (arith, small, q.1) in
    decimal_injective m n first second (some_same (sym p.2 ∙ q.2))

no_word : {x : Option Text} {y : Text} → x ≡ None → x ≡ Some y → ⊥
no_word a b = cc

one_limit : (own : List Text) (a b : Option ℕ) → AreLimit own a → AreLimit own b → a ≡ b
one_limit own None None p q = refl
one_limit own None (Some n) p q = absurd (no_word p.1 q.1.2)
one_limit own (Some m) None p q = absurd (no_word q.1 p.1.2)
one_limit own (Some m) (Some n) p q = ap Some (spells_one 1 (2 ^ 32 - 1) m n _ (omega arith) p.1 q.1)

apart : Some (truth_text true) ≡ Some (truth_text false) → ⊥
apart is = let first : 116 ≡ 102 = ap (λ word. get_or word 0 0) (some_same is) in omega (arith, first)

one_wish : (own : List Text) (a b : Bool) → AreRetry own a → AreRetry own b → a ≡ b
one_wish own true true p q = refl
one_wish own true false p q = absurd (apart (sym p.1 ∙ q.1))
one_wish own false true p q = absurd (apart (sym q.1 ∙ p.1))
one_wish own false false p q = refl

-- own words ask for one command of a name
same_own : (own : List Text) (name : Name) (a b : Command) → IsNamed name a → IsNamed name b → OwnWords own a
    → OwnWords own b → a ≡ b
same_own own Play a b x y p q =
    let m : AreNumber 0 (2 ^ 64 - 1) own x.0 = subst (λ c. OwnWords own c) x.1 p in
    let n : AreNumber 0 (2 ^ 64 - 1) own y.0 = subst (λ c. OwnWords own c) y.1 q in
    x.1 ∙ ap command.Play (spells_one 0 (2 ^ 64 - 1) x.0 y.0 _ (omega arith) m.1 n.1) ∙ sym y.1
same_own own Run a b x y p q =
    let m : AreNumber 1 8 own x.0 = subst (λ c. OwnWords own c) x.1 p in
    let n : AreNumber 1 8 own y.0 = subst (λ c. OwnWords own c) y.1 q in
    x.1 ∙ ap command.Run (spells_one 1 8 x.0 y.0 _ (omega arith) m.1 n.1) ∙ sym y.1
same_own own Restore a b x y p q =
    let m : AreLimit own x.0 = subst (λ c. OwnWords own c) x.1 p in
    let n : AreLimit own y.0 = subst (λ c. OwnWords own c) y.1 q in
    x.1 ∙ ap command.Restore (one_limit own x.0 y.0 m n) ∙ sym y.1
same_own own Check a b x y p q = x ∙ sym y
same_own own Forward a b x y p q = x ∙ sym y
same_own own Start a b x y p q =
    let m : AreNumber 0 (2 ^ 31 - 2) own x.0 = subst (λ c. OwnWords own c) x.1 p in
    let n : AreNumber 0 (2 ^ 31 - 2) own y.0 = subst (λ c. OwnWords own c) y.1 q in
    x.1 ∙ ap command.Start (spells_one 0 (2 ^ 31 - 2) x.0 y.0 _ (omega arith) m.1 n.1) ∙ sym y.1
same_own own Mark a b x y p q = x ∙ sym y
same_own own NeedsCheckpoint a b x y p q = x ∙ sym y
same_own own NeedsRollback a b x y p q = x ∙ sym y
same_own own Abort a b x y p q =
    let m : AreRetry own x.0 = subst (λ c. OwnWords own c) x.1 p in
    let n : AreRetry own y.0 = subst (λ c. OwnWords own c) y.1 q in
    x.1 ∙ ap command.Abort (one_wish own x.0 y.0 m n) ∙ sym y.1
same_own own Boot a b x y p q = x ∙ sym y
same_own own Drill a b x y p q =
    let m : AreNumber 0 (2 ^ 64 - 1) own x.0 = subst (λ c. OwnWords own c) x.1 p in
    let n : AreNumber 0 (2 ^ 64 - 1) own y.0 = subst (λ c. OwnWords own c) y.1 q in
    x.1 ∙ ap command.Drill (spells_one 0 (2 ^ 64 - 1) x.0 y.0 _ (omega arith) m.1 n.1) ∙ sym y.1
same_own own Past a b x y p q =
    let m : ArePast own x.0 x.1 x.2 = subst (λ c. OwnWords own c) x.3 p in
    let n : ArePast own y.0 y.1 y.2 = subst (λ c. OwnWords own c) y.3 q in
    let number = spells_one 0 (2 ^ 64 - 1) x.0 y.0 _ (omega arith) m.1 n.1 in
    let first = spells_one 0 (2 ^ 32 - 1) x.1 y.1 _ (omega arith) m.2 n.2 in
    let count = spells_one 1 4096 x.2 y.2 _ (omega arith) m.3 n.3 in
    x.3 ∙ ap (λ n. command.Past n x.1 x.2) number ∙ ap (λ f. command.Past y.0 f x.2) first
    ∙ ap (λ k. command.Past y.0 y.1 k) count ∙ sym y.3
same_own own Callers a b x y p q = x ∙ sym y

pub ask_for_one : AskForOne
ask_for_one [] a b x y = absurd x
ask_for_one (i ∷ []) a b x y = absurd x
ask_for_one (i ∷ j ∷ []) a b x y = absurd x
ask_for_one (i ∷ j ∷ k ∷ []) a b x y = absurd x
ask_for_one (i ∷ j ∷ k ∷ word ∷ own) a b x y =
    same_own (texts_of own) (kind_of b) a b (named (kind_of b) a (sym x.1 ∙ y.1 ∙ spelled b)) (of_kind b) x.2 y.2
