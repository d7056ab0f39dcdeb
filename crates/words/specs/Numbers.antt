-- Technical: no rule stands here. Numbers for no: the table of a call as data, and the number that it gives.
use Rattle.std.specs.Prelude.{Bool, List, [], ◌∷◌, ℕ, if◌then◌else◌}

-- a number, and when it is due
pub record No : Type 0 where
  pub number : ℕ
  pub due : Bool

abbrev pub no : ℕ → Bool → No
no number due = record { number = number; due = due }

-- the number of the first that is due, in the order of the list; 0 where none is
abbrev pub first_of : List No → ℕ
first_of [] = 0
first_of (n ∷ ns) = if n.due then n.number else first_of ns
