-- The refusals of the normal plan call, as they are tabled, and the plan of zeros beside them.
use mathlib.Core.Path.{◌≡◌, refl}
use mathlib.Core.Bool.{Bool, true, false, not, ◌&&◌, ◌||◌}
use mathlib.Core.List.{List, [], ◌∷◌}
use borrow.Author.Tests.{ne_eqb}
use Rattle.std.specs.Prelude.{if◌then◌else◌}
use Rattle.words.specs.Lists.{some, every}
use Rattle.words.specs.Numbers.{no, first_of}
use Rattle.units.specs.Directions.{on_circle}
use Rattle.plan.specs.declared.Sector.{Sector}
use Rattle.plan.specs.Sectors.{is_step, stop_of, is_function, active_of}
use Rattle.plan.specs.Validity.{increases, multiples}
use Rattle.normal.specs.NormalForm.{plan_refusal, normalised_of}
use Rattle.normal.specs.Demands.{RefusalsExactly, RefusalsGiveZeros}

-- every one passes two tests where every one passes each
every_both : {A : Type 0} (p q : A → Bool) (l : List A) → every (λ x. p x && q x) l ≡ every p l && every q l
every_both p q [] = refl
every_both p q (x ∷ l) = rw (every_both p q l) (swap (p x) (q x) (every p l) (every q l))
  where
    swap : (a b c d : Bool) → (a && b) && (c && d) ≡ (a && c) && (b && d)
    swap true true c d = refl
    swap true false true d = refl
    swap true false false d = refl
    swap false b c d = refl

-- the tests, as the definition has them and as the table has them
in_order : (step one function circle rise whole : Bool)
    → (if not step then 9 else if not (one && (function && circle) && rise) then 10 else if not whole then 11 else 0)
    ≡ first_of (no 9 (not step) ∷ no 10 (not one || not function || not circle || not rise) ∷ no 11 (not whole) ∷ [])
in_order false o f c r w = refl
in_order true false f c r w = refl
in_order true true false c r w = refl
in_order true true true false r w = refl
in_order true true true true false w = refl
in_order true true true true true false = refl
in_order true true true true true true = refl

pub refusals_exactly : RefusalsExactly
unfolding normalised_of plan_refusal
refusals_exactly p step =
    let function : Sector → Bool = λ s. is_function s.function in
    let circle : Sector → Bool = λ s. on_circle (stop_of s) in
    let ss = active_of p in
    rw (every_both function circle ss) (in_order (is_step step) (some ss) (every function ss) (every circle ss) (increases ss) (multiples step ss))

pub refusals_give_zeros : RefusalsGiveZeros
unfolding normalised_of
refusals_give_zeros p step h = rw (ne_eqb (plan_refusal p step) 0 h)
