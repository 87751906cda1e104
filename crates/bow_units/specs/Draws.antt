-- How numbers are drawn.
use Rattle.std.specs.Prelude.{ℕ, ◌+◌, ◌*◌, ◌/◌, ◌%◌, ◌^◌}

-- the number that follows x
abbrev pub next_number : ℕ → ℕ
next_number x = (x * 6364136223846793005 + 1442695040888963407) % 2 ^ 64

-- what is drawn at the number x: its upper 31 bits
abbrev pub drawn_value : ℕ → ℕ
drawn_value x = x / 2 ^ 33
