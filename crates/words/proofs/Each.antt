-- What holds of each element of a list, and of each index.
use mathlib.Core.List.{List, [], ◌∷◌, ◌++◌}
use Prim.Native.Nat.{ℕ, zero, suc, ◌<◌}
use native.Mathlib.Omega.{arith}
use lib.ListN.{length, get_or}
use Rattle.words.specs.Lists.{Each, none, this}

pub each_append : {A : Type 0} {P : A → Type 0} {l m : List A} → Each P l → Each P m → Each P (l ++ m)
each_append none b = b
each_append (this p a) b = this p (each_append a b)

pub each_from : {A : Type 0} (P : A → Type 0) (z : A) (l : List A) → ((i : ℕ) → i < length l → P (get_or l i z)) → Each P l
each_from P z [] h = none
each_from P z (x ∷ xs) h = this (h 0 (omega arith)) (each_from P z xs (λ i k. h (suc i) (omega arith)))

pub each_at : {A : Type 0} {P : A → Type 0} {l : List A} (z : A) (i : ℕ) → Each P l → i < length l → P (get_or l i z)
each_at z i none h = absurd (omega arith)
each_at z zero (this p e) h = p
each_at z (suc i) (this p e) h = each_at z i e (omega arith)

pub each_map : {A : Type 0} {P Q : A → Type 0} {l : List A} → ((x : A) → P x → Q x) → Each P l → Each Q l
each_map f none = none
each_map f (this {x = x} p e) = this (f x p) (each_map f e)
