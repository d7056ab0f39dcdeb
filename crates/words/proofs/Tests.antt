-- Tests of two parts, tests that hold, and what a `search` is handed where a definition picks by tests.
use mathlib.Core.Path.{◌≡◌, refl, sym, subst, ◌∙◌}
use mathlib.Core.Bool.{Bool, true, false, not, ◌&&◌}
use Prim.Native.Nat.{ℕ}
use lib.Dec.{T, eqb}
use borrow.Author.Rules.{rules}
use borrow.Author.Tests.{not-true, not-false, eq-eqb, ne_eqb, lt-ltb, le-ltb, le-leb, lt-leb}
use Rattle.std.specs.Prelude.{if◌then◌else◌}

-- the parts of a test of two
pub and_l : (a b : Bool) → T (a && b) → T a
and_l true b t = tt
and_l false b t = t

pub and_r : (a b : Bool) → T (a && b) → T b
and_r true b t = t
and_r false b t = absurd t

pub and_both : (a b : Bool) → T a → T b → T (a && b)
and_both true b s t = t
and_both false b s t = s

-- two tests that are two others, joined
pub both_are : (a b x y : Bool) → a ≡ x → b ≡ y → (a && b) ≡ (x && y)
both_are a b x y e f = rw (e, f)

-- a test that holds is true, and the other way round
pub is_true : {b : Bool} → T b → b ≡ true
is_true {b} t = go b t
  where
    go : (x : Bool) → T x → x ≡ true
    go true u = refl
    go false u = absurd u

pub holds : {b : Bool} → b ≡ true → T b
holds e = subst T (sym e) tt

pub eq_holds : (a b : ℕ) → a ≡ b → T (eqb a b)
eq_holds a b e = rw (eq-eqb a b e) tt

-- what holds of two holds of the one that a test picks
pub picked : {A : Type 0} (P : A → Type 0) (b : Bool) (x y : A) → P x → P y → P (if b then x else y)
picked P true x y h k = h
picked P false x y h k = k

-- each test from its fact, beside the usual needs
pub ruleset picks = (eq-eqb, ne_eqb, lt-ltb, le-ltb, le-leb, lt-leb, rules)

-- a call's Bool, and the branch `if !f(..)` on it: what the definition is
pub said_no : {t u : Bool} → t ≡ u → not t ≡ true → u ≡ false
said_no {t} e q = sym e ∙ not-true t q

pub said_yes : {t u : Bool} → t ≡ u → not t ≡ false → u ≡ true
said_yes {t} e q = sym e ∙ not-false t q
