-- A sector in front of others, by the two ways that `joined` goes, so that a law on it has two clauses.
use mathlib.Core.Path.{◌≡◌, refl, ◌∙◌}
use mathlib.Core.Bool.{Bool, true, false}
use mathlib.Core.List.{List, [], ◌∷◌}
use lib.Dec.{eqb}
use borrow.Author.Tests.{eq-eqb, eqb-true}
use Rattle.std.specs.Prelude.{if◌then◌else◌}
use Rattle.plan.specs.declared.Sector.{Sector}
use Rattle.normal.specs.NormalForm.{joined}

-- the third list is `joined` of the sector and the second: the sector stands before them, or is lost to the first of them
pub data Join (s : Sector) : List Sector → List Sector → Type 0 where
  before : {ss : List Sector} → Join s ss (s ∷ ss)
  onto : {t : Sector} {ts : List Sector} → s.function ≡ t.function → Join s (t ∷ ts) (t ∷ ts)

pub join_view : (s : Sector) (ss : List Sector) → Join s ss (joined s ss)
join_view s [] = before
join_view s (t ∷ ts) = go (eqb s.function t.function) refl
  where
    go : (b : Bool) → eqb s.function t.function ≡ b → Join s (t ∷ ts) (if b then t ∷ ts else s ∷ t ∷ ts)
    go true q = onto (eqb-true _ _ q)
    go false q = before

-- a sector of the function that comes next is lost
loses : (r s : Sector) (ss : List Sector) → r.function ≡ s.function → joined r (s ∷ ss) ≡ s ∷ ss
loses r s ss e = rw (eq-eqb r.function s.function e)

absorbs : (r s : Sector) {ss ts : List Sector} → Join s ss ts → r.function ≡ s.function → joined r ts ≡ ts
absorbs r s before e = loses r s _ e
absorbs r s (onto q) e = loses r _ _ (e ∙ q)

pub absorb : (r s : Sector) (ss : List Sector) → r.function ≡ s.function → joined r (joined s ss) ≡ joined s ss
absorb r s ss e = absorbs r s (join_view s ss) e
