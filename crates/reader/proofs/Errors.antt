-- `map_err` and `?`: the Ok that stands there, and the Err that is made of the one that stands there.
use mathlib.Core.Path.{◌≡◌, refl, sym, ◌∙◌, subst, ap}
use Rattle.std.specs.Prelude.{Result, Ok, Err, ⊤}
use Rattle.std.specs.Result.{MatchResult, IsErrAnd}
use Rattle.std.proofs.lemmas.Result.{err_from_is_err_and}

abbrev value : {T D : Type 0} → T → Result T D → T
value x (Ok y) = y
value x (Err y) = x

-- r is mapped to m, by a function of which Q is so
module _ {T E D : Type 0} (Q : E → D → Type 0) (r : Result T E) {m : Result T D} (mapped : MatchResult r (λ x. m ≡ Ok x) (λ e. IsErrAnd m (Q e))) where
  pub kept : {x : T} → m ≡ Ok x → r ≡ Ok x
  kept {x} e = by_case r mapped
    where
      by_case : (k : Result T E) → MatchResult k (λ y. m ≡ Ok y) (λ y. IsErrAnd m (Q y)) → k ≡ Ok x
      by_case (Ok y) h = ap (λ (k : Result T D). Ok (value x k)) (sym h ∙ e)
      by_case (Err y) h = absurd (subst (λ (k : Result T D). IsErrAnd k (Q y)) e h)

  -- and `?` hands it on as out
  pub made : {U : Type 0} {out : Result U D} {d : D} → m ≡ Err d → IsErrAnd out (λ y. y ≡ d)
      → (e : E) × (r ≡ Err e) × Q e d × (out ≡ Err d)
  made {U} {out} {d} e o = by_case r mapped
    where
      on : out ≡ Err d
      on = let p = err_from_is_err_and out o in p.1 ∙ ap (λ (y : D). Err y) p.2

      by_case : (k : Result T E) → MatchResult k (λ y. m ≡ Ok y) (λ y. IsErrAnd m (Q y)) → (y : E) × (k ≡ Err y) × Q y d × (out ≡ Err d)
      by_case (Ok y) h = absurd (subst (λ (k : Result T D). MatchResult k (λ _. ⊤) (λ _. ⊥)) (sym h ∙ e) tt)
      by_case (Err y) h = (y, refl, subst (λ (k : Result T D). IsErrAnd k (Q y)) e h, on)
