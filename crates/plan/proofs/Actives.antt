-- The active sectors as the front of the entries, and what the library's methods say of them.
use mathlib.Core.Path.{◌≡◌, refl, sym, ap, ◌∙◌}
use mathlib.Core.Bool.{Bool, true, false, not, ◌&&◌}
use mathlib.Core.List.{List, [], ◌∷◌}
use Prim.Native.Nat.{ℕ, zero, suc, ◌+◌, ◌-◌, ◌<◌}
use native.Mathlib.Omega.{arith}
use borrow.Rule.Slice.PartMut.{mid_of}
use lib.Dec.{eqb, ltb}
use lib.ListN.{length, get_or, take, drop_of_length-le}
use Rattle.std.specs.Prelude.{if◌then◌else◌, unwrap_or, slice_get}
use Rattle.std.specs.Option.{option_map}
use Rattle.std.specs.List.{prefix_len, take_while, list_all, IsAllAdjacentAnswer, AllAdjacentBelow}
use Rattle.words.specs.Lists.{some, every}
use Rattle.plan.specs.declared.Sector.{Sector}
use Rattle.words.proofs.Arrays.{from_here}
use Rattle.plan.specs.Sectors.{unused, stop_of, active}
use Rattle.plan.specs.Validity.{increases_from, increases}
use Rattle.plan.specs.Shots.{last_stop}

-- a sector that is not the end of the active ones
abbrev pub in_use : Sector → Bool
in_use s = not (eqb s.function 0)

front_length : (ss : List Sector) → length (take_while in_use ss) ≡ length (active ss)
front_length [] = refl
front_length (s ∷ ss) = go (eqb s.function 0) (front_length ss)
  where
    go : (b : Bool) → length (take_while in_use ss) ≡ length (active ss)
        → length (take (if not b then 1 + prefix_len in_use ss else 0) (s ∷ ss)) ≡ length (if b then [] else s ∷ active ss)
    go true e = refl
    go false e = let z : 1 + prefix_len in_use ss ≡ suc (prefix_len in_use ss) = omega arith in rw z (ap suc e)

front : (ss : List Sector) → take (length (active ss)) ss ≡ active ss
front [] = refl
front (s ∷ ss) = go (eqb s.function 0) (front ss)
  where
    go : (b : Bool) → take (length (active ss)) ss ≡ active ss
        → take (length (if b then [] else s ∷ active ss)) (s ∷ ss) ≡ (if b then [] else s ∷ active ss)
    go true e = refl
    go false e = ap (λ (l : List Sector). s ∷ l) e

pub counted : (ss : List Sector) (n : ℕ) → n ≡ length (take_while in_use ss) → take n ss ≡ active ss
counted ss n e = rw (e, front_length ss) (front ss)

-- `all`
every_is : {A : Type 0} (test : A → Bool) (xs : List A) → list_all test xs ≡ every test xs
every_is test [] = refl
every_is test (x ∷ xs) = ap (λ b. test x && b) (every_is test xs)

pub every_of : {A : Type 0} (test : A → Bool) (xs : List A) (r : Bool) → r ≡ list_all test xs → r ≡ every test xs
every_of test xs r e = e ∙ every_is test xs

-- entries from the front on, by their number or by both places
pub from_front : (n : ℕ) (l : List Sector) → mid_of 0 (n - 0) l ≡ take n l
from_front n l = let e : n - 0 ≡ n = omega arith in rw e refl

-- the eight entries of a plan, each by its place
pub entries_named : (test : Sector → Bool) (l : List Sector) → length l ≡ 8
    → every test
    (get_or l 0 unused ∷ get_or l 1 unused ∷ get_or l 2 unused ∷ get_or l 3 unused ∷ get_or l 4 unused ∷ get_or l 5 unused ∷ get_or l 6 unused
    ∷ get_or l 7 unused
    ∷ [])
    ≡ every test l
entries_named test l e =
    let named : l
    ≡ get_or l 0 unused ∷ get_or l 1 unused ∷ get_or l 2 unused ∷ get_or l 3 unused ∷ get_or l 4 unused ∷ get_or l 5 unused ∷ get_or l 6 unused
    ∷ get_or l 7 unused
    ∷ [] =
    from_here l 0 unused (omega arith)
    ∙ rw (
      from_here l 1 unused (omega arith),
      from_here l 2 unused (omega arith),
      from_here l 3 unused (omega arith),
      from_here l 4 unused (omega arith),
      from_here l 5 unused (omega arith),
      from_here l 6 unused (omega arith),
      from_here l 7 unused (omega arith),
      drop_of_length-le l {i = 8} (omega arith),
    )
    refl in
    ap (λ (x : List Sector). every test x) (sym named)

-- `last`
pub last_is : (before : ℕ) (ss : List Sector)
    → last_stop before ss ≡ unwrap_or (option_map (λ s. stop_of s) (slice_get ss (length ss - 1))) before
last_is before [] = refl
last_is before (s ∷ []) = refl
last_is before (s ∷ t ∷ ts) =
    let e : length (s ∷ t ∷ ts) - 1 ≡ suc (length (t ∷ ts) - 1) = omega arith in
    rw e (last_later (stop_of s) t ts)
  where
    last_later : (x : ℕ) (t : Sector) (ts : List Sector)
        → last_stop x (t ∷ ts) ≡ unwrap_or (option_map (λ s. stop_of s) (slice_get (t ∷ ts) (length (t ∷ ts) - 1))) before
    last_later x t [] = refl
    last_later x t (u ∷ us) =
        let e : length (t ∷ u ∷ us) - 1 ≡ suc (length (u ∷ us) - 1) = omega arith in
        rw e (last_later (stop_of t) u us)

-- `is_sorted_by`
abbrev pub Below : Sector → Sector → Bool → Type 0
Below s t b = b ≡ ltb (stop_of s) (stop_of t)

all_rise : (s : Sector) (ss : List Sector) → AllAdjacentBelow (λ x y. Below x y true) (s ∷ ss) (length (s ∷ ss))
    → true ≡ increases_from (stop_of s) ss
all_rise s [] h = refl
all_rise s (t ∷ ts) h = rw (← h 0 s (omega arith)) (all_rise t ts (λ k d l. later k d (h (suc k) d (omega arith))))
  where
    later : (k : ℕ) (d : Sector) → Below (get_or (t ∷ ts) k d) (get_or (s ∷ t ∷ ts) (suc k + 1) d) true
        → Below (get_or (t ∷ ts) k d) (get_or (t ∷ ts) (k + 1) d) true
    later k d e = let z : suc k + 1 ≡ suc (k + 1) = omega arith in rw z at e

one_falls : (s : Sector) (ss : List Sector) (k : ℕ) → k + 1 < length (s ∷ ss)
    → ((d : Sector) → Below (get_or (s ∷ ss) k d) (get_or (s ∷ ss) (k + 1) d) false) → false ≡ increases_from (stop_of s) ss
one_falls s [] k l h = absurd (omega arith)
one_falls s (t ∷ ts) zero l h = rw (← h s) refl
one_falls s (t ∷ ts) (suc k) l h = go (ltb (stop_of s) (stop_of t)) (one_falls t ts k (omega arith) (λ d. later d (h d)))
  where
    later : (d : Sector) → Below (get_or (t ∷ ts) k d) (get_or (s ∷ t ∷ ts) (suc k + 1) d) false
        → Below (get_or (t ∷ ts) k d) (get_or (t ∷ ts) (k + 1) d) false
    later d e = let z : suc k + 1 ≡ suc (k + 1) = omega arith in rw z at e

    go : (b : Bool) → false ≡ increases_from (stop_of t) ts → false ≡ (b && increases_from (stop_of t) ts)
    go true e = e
    go false e = refl

sorted_is : (ss : List Sector) (r : Bool) → IsAllAdjacentAnswer Below ss r → r ≡ increases ss
sorted_is [] true h = refl
sorted_is [] false h = absurd (omega (arith, h.1))
sorted_is (s ∷ ss) true h = all_rise s ss h
sorted_is (s ∷ ss) false h = one_falls s ss h.0 h.1 h.2

pub rising_is : (l ss : List Sector) → l ≡ ss → (r : Bool) → IsAllAdjacentAnswer Below l r → eqb (length l) 0 ≡ false
    → r ≡ (some ss && increases ss)
rising_is l [] e r h n = absurd (cc (rw e at n))
rising_is l (s ∷ ss) e r h n = sorted_is (s ∷ ss) r (rw e at h)
