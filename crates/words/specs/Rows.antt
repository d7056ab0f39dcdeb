-- Technical: no rule stands here. Bench figures: what the definitions give beside what the rules say, row by row.
use Rattle.std.specs.Prelude.{◌≡◌, List, map, ℕ}

pub record Row : Type 0 where
  pub value : List ℕ
  pub figure : List ℕ

-- every row of a list gives its figure
abbrev pub Shown : List Row → Type 0
Shown rows = map (λ (r : Row). r.value) rows ≡ map (λ (r : Row). r.figure) rows
