-- What is told of several devices.
use Rattle.std.proofs.Common.{◌≡◌, ℕ, List, ◌++◌, ap, ◌∙◌, append_assoc}
use Rattle.std.specs.Prelude.{codes, slice_get}
use Rattle.std.specs.Fmt.{decimal}
use Rattle.bow_session.specs.Parts.{Account}
use Rattle.bow_tool.specs.PairLines.{device_text, told_in}

joined : (old name number feed one two : List ℕ) → ((old ++ (name ++ (number ++ feed))) ++ one) ++ two ≡ old ++ (name ++ (number ++ (feed ++ (one ++ two))))
joined old name number feed one two =
    append_assoc (old ++ (name ++ (number ++ feed))) one two ∙ append_assoc old (name ++ (number ++ feed)) (one ++ two)
    ∙ ap (λ (t : List ℕ). old ++ t) (append_assoc name (number ++ feed) (one ++ two) ∙ ap (λ (t : List ℕ). name ++ t) (append_assoc number feed (one ++ two)))

-- the lines of a device: its own, and those of both its sessions
pub device_told : (device : ℕ) (first second : List Account) (old line own once now : List ℕ) → line ≡ codes "device " ++ (decimal device ++ codes "\n") → own ≡ old ++ line → once ≡ own ++ told_in (slice_get first device) → now ≡ once ++ told_in (slice_get second device)
    → now ≡ old ++ device_text device first second
device_told device first second old line own once now is begun more last =
    last ∙ ap (λ t. t ++ told_in (slice_get second device)) (more ∙ ap (λ t. t ++ told_in (slice_get first device)) (begun ∙ ap (λ t. old ++ t) is))
    ∙ joined old (codes "device ") (decimal device) (codes "\n") (told_in (slice_get first device)) (told_in (slice_get second device))
