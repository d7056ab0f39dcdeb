-- Technical: no rule stands here. A word that is given, or absent.
use Rattle.std.specs.Prelude.{Bool, true, false, List, [], ◌∷◌, ◌++◌, ℕ, Option, Some, None, unwrap_or}

-- given where it is selected
abbrev pub given_if : Bool → ℕ → Option ℕ
given_if true w = Some w
given_if false w = None

-- its number, 0 where it is absent
abbrev pub number_of : Option ℕ → ℕ
number_of w = unwrap_or w 0

-- given exactly where it is selected
abbrev pub Shaped : Bool → Option ℕ → Type 0
Shaped true None = ⊥
Shaped true (Some w) = Unit {0}
Shaped false None = Unit {0}
Shaped false (Some w) = ⊥

-- the words of each, one after another
abbrev pub laid_all : {F : Type 0} → (F → List ℕ) → List F → List ℕ
laid_all put [] = []
laid_all put (f ∷ fs) = put f ++ laid_all put fs
