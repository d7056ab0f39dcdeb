-- A plan in its ranges stays so where an entry in its range is set.
use mathlib.Core.Bool.{Bool}
use mathlib.Core.List.{List, [], ◌∷◌}
use Prim.Native.Nat.{ℕ, zero, suc}
use lib.Dec.{T}
use lib.ListN.{set}
use Rattle.words.specs.Lists.{every}
use Rattle.words.proofs.Tests.{and_l, and_r, and_both}
use Rattle.plan.specs.declared.Sector.{Sector}
use Rattle.plan.specs.declared.Plan.{Plan}
use Rattle.plan.specs.Sectors.{entry_in_range, plan_in_range, with_entry}

every_set : {A : Type 0} (test : A → Bool) (l : List A) (i : ℕ) (x : A) → T (every test l) → T (test x) → T (every test (set l i x))
every_set test [] i x h k = tt
every_set test (y ∷ l) zero x h k = and_both (test x) (every test l) k (and_r (test y) (every test l) h)
every_set test (y ∷ l) (suc i) x h k =
    and_both (test y) (every test (set l i x)) (and_l (test y) (every test l) h) (every_set test l i x (and_r (test y) (every test l) h) k)

pub entry_set : (p : Plan) (place : ℕ) (s : Sector) → T (plan_in_range p) → T (entry_in_range s) → T (plan_in_range (with_entry p place s))
unfolding plan_in_range
entry_set p place s h k = every_set entry_in_range p.sectors place s h k
