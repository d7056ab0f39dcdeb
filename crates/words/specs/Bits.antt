-- Technical: no rule stands here. The bits of a mask, of any width.
use Rattle.std.specs.Prelude.{Bool, ℕ, ◌/◌, ◌%◌, ◌^◌, eqb}

-- bit k is set
abbrev pub bit : ℕ → ℕ → Bool
bit mask k = eqb (mask / 2 ^ k % 2) 1
