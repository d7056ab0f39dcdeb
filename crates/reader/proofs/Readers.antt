-- What follows of any reader that takes the laid out lists of words alone, gives their fields back, and has a number for words behind them.
use Prim.Native.Nat.{ℕ}
use mathlib.Core.Path.{◌≡◌, sym, ◌∙◌, ap, subst}
use mathlib.Core.Logic.{◌↔◌}
use mathlib.Core.List.{List, [], ◌∷◌, ◌++◌, append_assoc}
use native.Mathlib.Omega.{arith}
use lib.Dec.{T}
use Rattle.words.specs.Lists.{some}

-- good fields, laid out by lay; the number for no of a list of words, and the fields that it has
pub record Reads {F : Type 0} (good : F → Type 0) (lay : F → List ℕ) (number : List ℕ → ℕ) (fields : List ℕ → F) : Type 0 where
  pub taken : (ws : List ℕ) → number ws ≡ 0 → (f : F) × good f × (ws ≡ lay f)
  pub reads : (f : F) → good f → number (lay f) ≡ 0
  pub back : (f : F) → good f → fields (lay f) ≡ f
  pub over : (f : F) → good f → (more : List ℕ) → T (some more) → number (lay f ++ more) ≡ 16

some_behind : {A : Type 0} (xs ys : List A) → T (some ys) → T (some (xs ++ ys))
some_behind [] ys t = t
some_behind (x ∷ xs) ys t = tt

module _ {F : Type 0} {good : F → Type 0} {lay : F → List ℕ} {number : List ℕ → ℕ} {fields : List ℕ → F}
    (r : Reads good lay number fields) where
  pub takes_exactly : (ws : List ℕ) → (number ws ≡ 0) ↔ ((f : F) × good f × (ws ≡ lay f))
  takes_exactly ws = (r.taken ws, λ t. subst (λ (v : List ℕ). number v ≡ 0) (sym t.2) (r.reads t.0 t.1))

  -- fields that were taken are laid out as the words were
  pub loses_none : (ws : List ℕ) → number ws ≡ 0 → lay (fields ws) ≡ ws
  loses_none ws e =
      let t = r.taken ws e in
      ap (λ (v : List ℕ). lay (fields v)) t.2 ∙ ap lay (r.back t.0 t.1) ∙ sym t.2

  pub laid_once : (f g : F) → good f → good g → lay f ≡ lay g → f ≡ g
  laid_once f g v w e = sym (r.back f v) ∙ ap fields e ∙ r.back g w

  pub over_laid : (ws : List ℕ) → (f : F) × (more : List ℕ) × good f × T (some more) × (ws ≡ lay f ++ more) → number ws ≡ 16
  over_laid ws t = subst (λ (v : List ℕ). number v ≡ 16) (sym t.4) (r.over t.0 t.2 t.1 t.3)

  -- what is laid out does not begin with something laid out, and more words behind it
  not_within : (f g : F) → good f → good g → (more : List ℕ) → T (some more) → lay f ≡ lay g ++ more → ⊥
  not_within f g v w more t e =
      let taken : number (lay g ++ more) ≡ 0 = subst (λ (ws : List ℕ). number ws ≡ 0) e (r.reads f v) in
      omega (arith, r.over g w more t)

  -- so words that end early begin with nothing laid out
  pub none_within : (ws : List ℕ) (f : F) (more : List ℕ) → good f → T (some more) → ws ++ more ≡ lay f
      → (g : F) (rest : List ℕ) → good g → ws ≡ lay g ++ rest → ⊥
  none_within ws f more v t is g rest w e =
      not_within f g v w (rest ++ more) (some_behind rest more t) (sym is ∙ ap (λ (l : List ℕ). l ++ more) e ∙ append_assoc (lay g) rest more)
