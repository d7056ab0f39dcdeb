-- Technical: no rule stands here. What is promised of the functions on plain words.
use Rattle.std.specs.Prelude.{◌≡◌, List, ℕ, ◌*◌, get_or}

-- of `product`: nothing is cut off
abbrev pub ProductSays : ℕ → ℕ → ℕ → Type 0
ProductSays a b r = r ≡ a * b

-- of `word_at`: 0 past the end
abbrev pub WordAtSays : List ℕ → ℕ → ℕ → Type 0
WordAtSays ws place r = r ≡ get_or ws place 0
