-- Technical: no rule stands here. Tests and counts over a list.
use Rattle.std.specs.Prelude.{Bool, true, false, ◌&&◌, List, [], ◌∷◌, ℕ, ◌+◌, ltb, if◌then◌else◌}

-- there is at least one
abbrev pub some : {A : Type 0} → List A → Bool
some [] = false
some (x ∷ xs) = true

-- every one passes the test
abbrev pub every : {A : Type 0} → (A → Bool) → List A → Bool
every test [] = true
every test (x ∷ xs) = test x && every test xs

-- what holds of each one
pub data Each {A : Type 0} (P : A → Type 0) : List A → Type 0 where
  none : Each P []
  this : {x : A} {xs : List A} → P x → Each P xs → Each P (x ∷ xs)

-- how many pass the test
abbrev pub count : {A : Type 0} → (A → Bool) → List A → ℕ
count test [] = 0
count test (x ∷ xs) = (if test x then 1 else 0) + count test xs

-- the sum of a number of each
abbrev pub total : {A : Type 0} → (A → ℕ) → List A → ℕ
total number [] = 0
total number (x ∷ xs) = number x + total number xs

-- each is a word of 16 bits
abbrev pub are_words : List ℕ → Bool
are_words ws = every (λ w. ltb w 65536) ws
