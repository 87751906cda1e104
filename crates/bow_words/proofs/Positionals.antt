-- Words that begin with no hyphen go to the positionals, one to each.
use Rattle.std.proofs.Common.{◌≡◌, ◌∙◌, ◌==◌, ◌≤◌, ℕ, false, List, [], ◌∷◌, None, Some, refl, sym, ap, subst, arith, codes, bytes_eq, is_some}
use Rattle.std.specs.Option.{option_map_or}
use Rattle.clap.specs.Lexer.{long_of, short_of}
use Rattle.clap.specs.Simple.{Shape, built, entered}
use Rattle.clap.specs.Walk.{Held, Rule, Text, Walk, arg_by_index, finished, first_of, idle, nothing_held, settled, to_positional, walk, walk_from, walked}
use Rattle.clap.specs.Faults.{check_fault, entered_fault, defaults_fault, level_fault, positional_fault, settle_fault, stray_fault, turn_fault, walk_fault}
use Rattle.clap.proofs.OnLiterals.{clap_on_literals}
use Rattle.bow_words.specs.Words.{Takes, past_app, word_at}

-- a word that is no flag, and not `--`
abbrev pub IsPlainWord : Text → Type 0
IsPlainWord word = (bytes_eq word (45 ∷ 45 ∷ []) ≡ false) × (long_of word ≡ None) × (short_of word ≡ None)

not_hyphen : (x : ℕ) → 48 ≤ x → (x == 45) ≡ false
not_hyphen x low = grind (arith, low)

pub digit_plain : (x : ℕ) (rest : Text) → 48 ≤ x → IsPlainWord (x ∷ rest)
digit_plain x rest low = rw (not_hyphen x low) (refl, refl, refl)

-- a walk before the positional of this place
abbrev at : ℕ → Held → Walk
at position h = record { held = h; waiting = idle; position = position; is_trailing = false; stopped = None }

-- a plain word goes to the positional
to_place : (c : List Rule) (position : ℕ) (h : Held) (word : Text) → IsPlainWord word
    → walked c [] (at position h) word ≡ to_positional c (arg_by_index c position) word (at position h) h
unfolding walked
to_place c position h word plain = rw plain.0 (rw plain.1 (rw plain.2 refl))

-- and is no fault, where the positional takes it
taken_there : (s : Shape) (position : ℕ) (h : Held) (word : Text) → IsPlainWord word
    → turn_fault s [] (at position h) word ≡ option_map_or (λ a. positional_fault s.rules s.args_override_self a h) (arg_by_index s.rules position) (stray_fault s)
taken_there s position h word plain = rw plain.0 (rw plain.1 (rw plain.2 refl))

one_more : (s : Shape) (w next : Walk) (word : Text) (rest : List Text) → turn_fault s [] w word ≡ []
    → walked s.rules [] w word ≡ next → walk_fault s [] next rest ≡ [] → walk_fault s [] w (word ∷ rest) ≡ []
unfolding walk_fault
one_more s w next word rest none goes further = rw none (rw goes further)

-- a level of which the walk ends there, with no fault
level : (s : Shape) (words : List Text) (end : Walk) → walk s.rules [] nothing_held words ≡ end
    → walk_fault s [] (walk_from nothing_held) words ≡ [] → settle_fault s.rules s.args_override_self end.held ≡ []
    → defaults_fault (settled s.rules end.held).rows s.rules ≡ [] → check_fault s (finished s.rules end.held) false ≡ []
    → level_fault s [] nothing_held words false [] ≡ []
level s words end is none settles defaults checks = rw is (rw none (rw settles (rw defaults (rw checks refl))))

-- three plain words
abbrev rules : List Rule
rules = (built past_app).top.rules

abbrev first_walk : Text → Walk
first_walk a = to_positional rules (arg_by_index rules 1) a (at 1 nothing_held) nothing_held

abbrev second_walk : Text → Text → Walk
second_walk a b = to_positional rules (arg_by_index rules 2) b (first_walk a) (first_walk a).held

abbrev third_walk : Text → Text → Text → Walk
third_walk a b d = to_positional rules (arg_by_index rules 3) d (second_walk a b) (second_walk a b).held

walk_first : (a : Text) → IsPlainWord a → walked rules [] (at 1 nothing_held) a ≡ first_walk a
walk_first a plain = to_place rules 1 nothing_held a plain

walk_second : (a b : Text) → IsPlainWord b → walked rules [] (first_walk a) b ≡ second_walk a b
walk_second a b plain = to_place rules 2 (first_walk a).held b plain

walk_third : (a b d : Text) → IsPlainWord d → walked rules [] (second_walk a b) d ≡ third_walk a b d
walk_third a b d plain = to_place rules 3 (second_walk a b).held d plain

past_walk : (a b d : Text) → IsPlainWord a → IsPlainWord b → IsPlainWord d
    → walk rules [] nothing_held (a ∷ b ∷ d ∷ []) ≡ third_walk a b d
past_walk a b d x y z = ap (λ w. walked rules [] (walked rules [] w b) d) (walk_first a x)
    ∙ ap (λ w. walked rules [] w d) (walk_second a b y) ∙ walk_third a b d z

past_faultless : (a b d : Text) → IsPlainWord a → IsPlainWord b → IsPlainWord d
    → walk_fault (built past_app).top [] (walk_from nothing_held) (a ∷ b ∷ d ∷ []) ≡ []
unfolding clap_on_literals
past_faultless a b d x y z =
    one_more (built past_app).top (at 1 nothing_held) (first_walk a) a (b ∷ d ∷ []) (taken_there (built past_app).top 1 nothing_held a x) (walk_first a x)
    (one_more (built past_app).top (first_walk a) (second_walk a b) b (d ∷ []) (taken_there (built past_app).top 2 (first_walk a).held b y) (walk_second a b y)
    (one_more (built past_app).top (second_walk a b) (third_walk a b d) d [] (taken_there (built past_app).top 3 (second_walk a b).held d z) (walk_third a b d z) refl))

-- clap takes three plain words, and finds each under its name
abbrev pub PastTaken : Text → Text → Text → Type 0
PastTaken a b d = Takes past_app (a ∷ b ∷ d ∷ []) × (word_at past_app (codes "number") (a ∷ b ∷ d ∷ []) ≡ Some a)
    × (word_at past_app (codes "first") (a ∷ b ∷ d ∷ []) ≡ Some b) × (word_at past_app (codes "count") (a ∷ b ∷ d ∷ []) ≡ Some d)

past_level : (a b d : Text) → IsPlainWord a → IsPlainWord b → IsPlainWord d
    → level_fault (built past_app).top [] nothing_held (a ∷ b ∷ d ∷ []) false [] ≡ []
unfolding clap_on_literals
past_level a b d x y z = level (built past_app).top (a ∷ b ∷ d ∷ []) (third_walk a b d) (past_walk a b d x y z) (past_faultless a b d x y z) refl refl refl

past_takes : (a b d : Text) → IsPlainWord a → IsPlainWord b → IsPlainWord d → Takes past_app (a ∷ b ∷ d ∷ [])
past_takes a b d x y z =
    subst (λ stop. level_fault (built past_app).top [] nothing_held (a ∷ b ∷ d ∷ []) (is_some (entered (built past_app) stop)) (entered_fault (built past_app) stop) ≡ [])
    (sym (ap (λ w. w.stopped) (past_walk a b d x y z))) (past_level a b d x y z)

past_found : (a b d : Text) → IsPlainWord a → IsPlainWord b → IsPlainWord d → (name : Text)
    → word_at past_app name (a ∷ b ∷ d ∷ []) ≡ first_of name (finished rules (third_walk a b d).held)
past_found a b d x y z name = ap (λ w. first_of name (finished rules w.held)) (past_walk a b d x y z)

pub past_taken : (a b d : Text) → IsPlainWord a → IsPlainWord b → IsPlainWord d → PastTaken a b d
unfolding clap_on_literals
past_taken a b d x y z = (
  past_takes a b d x y z,
  past_found a b d x y z (codes "number") ∙ refl,
  past_found a b d x y z (codes "first") ∙ refl,
  past_found a b d x y z (codes "count") ∙ refl,
)
