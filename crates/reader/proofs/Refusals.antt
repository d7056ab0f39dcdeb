-- The numbers for no of either reader: by the table of the head, or one of the body's; and of what is asked by a place.
use Prim.Native.Nat.{ℕ, ◌≤◌, ◌<◌}
use mathlib.Core.Path.{◌≡◌, refl, sym, ◌∙◌, subst}
use mathlib.Core.Logic.{◌↔◌}
use mathlib.Core.Bool.{Bool, true, false, not, ◌&&◌}
use mathlib.Core.List.{List, []}
use native.Mathlib.Omega.{arith}
use lib.Dec.{T, eqb, ltb}
use borrow.Author.Tests.{eq-eqb, ne_eqb, lt-ltb, le-ltb, ltb-true}
use Rattle.std.specs.Prelude.{if◌then◌else◌}
use Rattle.words.specs.Lists.{Each}
use Rattle.words.specs.Numbers.{No, first_of}
use Rattle.words.proofs.Each.{each_map}
use Rattle.reader.proofs.Heads.{not_body}

-- neither 0 nor one of the body's
abbrev pub of_head : ℕ → Bool
of_head n = not (eqb n 0) && not_body n

-- the number r is the head's, h; or the head passes, and it is 0 or one of the body's
pub data GivenBy (h : ℕ) : ℕ → Type 0 where
  by_head : (h ≡ 0 → ⊥) → GivenBy h h
  by_body : {r : ℕ} → h ≡ 0 → (T (of_head r) → ⊥) → GivenBy h r

module _ {h : ℕ} where
  given_head : {r : ℕ} → GivenBy h r → (n : ℕ) → T (of_head n) → r ≡ n → h ≡ n
  given_head (by_head z) n t e = e
  given_head (by_body z b) n t e = absurd (b (subst (λ (m : ℕ). T (of_head m)) (sym e) t))

  head_given : {r : ℕ} → GivenBy h r → (n : ℕ) → T (of_head n) → h ≡ n → r ≡ n
  head_given (by_head z) n t e = e
  head_given (by_body z b) n t e = absurd (subst (λ (m : ℕ). T (of_head m)) (sym e ∙ z) t)

  -- each number of the head's table is given exactly where it is the first that is due
  pub by_table : {r : ℕ} → GivenBy h r → (table : List No) → first_of table ≡ h → Each (λ (n : No). T (of_head n.number)) table
      → Each (λ (n : No). (r ≡ n.number) ↔ (first_of table ≡ n.number)) table
  by_table g table is all =
      each_map (λ n t. (λ e. is ∙ given_head g n.number t e, λ e. head_given g n.number t (sym is ∙ e))) all

-- what is asked by a place below many: the words' own number first, 17 where there is none at the place
module _ (number many place : ℕ) where
  abbrev pub place_number : ℕ
  place_number = if eqb number 0 then (if ltb place many then 0 else 17) else number

  pub words_first : (number ≡ 0 → ⊥) → place_number ≡ number
  words_first h = rw (ne_eqb number 0 h)

  pub not_below : number ≡ 0 → many ≤ place → place_number ≡ 17
  not_below e h = rw (eq-eqb number 0 e, le-ltb place many h)

  pub below : number ≡ 0 → place < many → place_number ≡ 0
  below e h = rw (eq-eqb number 0 e, lt-ltb place many h)

  -- with a number for no there are no words, where words that are refused have none of what is asked
  pub none_lent : (0 < many → number ≡ 0) → (place_number ≡ 0 → ⊥) → (lent : List ℕ) → (if ltb place many then lent else []) ≡ []
  none_lent any n lent = go (ltb place many) refl
    where
      go : (t : Bool) → ltb place many ≡ t → (if t then lent else []) ≡ []
      go true e = let here = ltb-true place many e in absurd (n (below (any (omega arith)) here))
      go false e = refl
