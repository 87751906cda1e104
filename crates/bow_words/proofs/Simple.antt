-- Each command is a simple one of clap, and its arguments have no rule on one another.
use Rattle.std.proofs.Common.{◌≡◌, refl, true}
use Rattle.clap.specs.Words.{App, is_simple, is_simple_and_free}
use Rattle.bow_words.specs.Words.{limit_app, none_app, number_app, past_app, retry_app}

pub none_simple : (a : App) → a ≡ none_app → (is_simple a ≡ true) × (is_simple_and_free a ≡ true)
none_simple a e = rw e (refl, refl)

pub number_simple : (a : App) → a ≡ number_app → (is_simple a ≡ true) × (is_simple_and_free a ≡ true)
number_simple a e = rw e (refl, refl)

pub past_simple : (a : App) → a ≡ past_app → (is_simple a ≡ true) × (is_simple_and_free a ≡ true)
past_simple a e = rw e (refl, refl)

pub limit_simple : (a : App) → a ≡ limit_app → (is_simple a ≡ true) × (is_simple_and_free a ≡ true)
limit_simple a e = rw e (refl, refl)

pub retry_simple : (a : App) → a ≡ retry_app → (is_simple a ≡ true) × (is_simple_and_free a ≡ true)
retry_simple a e = rw e (refl, refl)
