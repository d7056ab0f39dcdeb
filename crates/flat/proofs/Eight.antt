-- An array of eight whose element at each place is that of a function.
use mathlib.Core.Path.{◌≡◌, refl, ◌∙◌}
use mathlib.Core.List.{List, [], ◌∷◌}
use Prim.Native.Nat.{ℕ, ◌+◌, ◌<◌}
use native.Mathlib.Omega.{arith}
use lib.ListN.{length, get_or, drop, drop_of_length-le}
use Rattle.words.proofs.Arrays.{from_here}

module _ {X : Type 0} (ys : List X) (f : ℕ → X) (len : length ys ≡ 8) (at : (i : ℕ) → i < 8 → get_or ys i (f i) ≡ f i) where
  next : (i : ℕ) → i < 8 → drop i ys ≡ f i ∷ drop (i + 1) ys
  next i h = from_here ys i (f i) (omega arith) ∙ rw (at i h) refl

  last : drop 8 ys ≡ []
  last = drop_of_length-le ys {i = 8} (omega arith)

  pub eight : ys ≡ f 0 ∷ f 1 ∷ f 2 ∷ f 3 ∷ f 4 ∷ f 5 ∷ f 6 ∷ f 7 ∷ []
  eight =
      next 0 (omega arith)
      ∙ rw (
        next 1 (omega arith),
        next 2 (omega arith),
        next 3 (omega arith),
        next 4 (omega arith),
        next 5 (omega arith),
        next 6 (omega arith),
        next 7 (omega arith),
        last,
      )
      refl
