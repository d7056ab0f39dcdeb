-- A plan in its ranges whose checks pass is valid for the step.
use mathlib.Core.Path.{◌≡◌, refl}
use mathlib.Core.Bool.{Bool, true, false, not, ◌&&◌}
use mathlib.Core.List.{List, [], ◌∷◌}
use Prim.Native.Nat.{ℕ, ◌*◌, ◌≤◌}
use native.Mathlib.Omega.{arith}
use lib.Dec.{T, ltb, eqb}
use lib.ListN.{length}
use borrow.Author.Tests.{ltb-false}
use Rattle.std.specs.Prelude.{if◌then◌else◌}
use Rattle.words.specs.Lists.{some, every}
use Rattle.words.proofs.Tests.{and_l, and_r, and_both}
use Rattle.units.specs.Directions.{revolution_shots}
use Rattle.plan.specs.declared.Sector.{Sector}
use Rattle.plan.specs.declared.Plan.{Plan}
use Rattle.plan.specs.Sectors.{entry_in_range, plan_in_range, active, active_of}
use Rattle.plan.specs.Validity.{sector_ok, increases, multiples, ValidPlan}
use Rattle.plan.specs.Checks.{lit_shots, measure_error}

-- an entry in its range that is active has a function and a stop that an active sector may have
active_ok : (ss : List Sector) → T (every entry_in_range ss) → T (every sector_ok (active ss))
unfolding entry_in_range
active_ok [] h = tt
active_ok (s ∷ ss) h =
    go (eqb s.function 0) refl (active_ok ss (and_r (entry_in_range s) (every entry_in_range ss) h)) (and_l (entry_in_range s) (every entry_in_range ss) h)
  where
    go : (b : Bool) → eqb s.function 0 ≡ b → T (every sector_ok (active ss)) → T (entry_in_range s)
        → T (every sector_ok (if b then [] else s ∷ active ss))
    go true e r k = tt
    go false e r k = and_both (sector_ok s) (every sector_ok (active ss)) (rw e at k) r

-- what an error of 0 tells
pub record Passes (p : Plan) (step speed : ℕ) : Type 0 where
  pub rising : T (some (active_of p) && increases (active_of p))
  pub whole : T (multiples step (active_of p))
  pub few : speed * revolution_shots step ≤ 14400
  pub lit : speed * lit_shots p step ≤ 10800

tests : (a b c d : Bool) → ◌≡◌ {A = ℕ} (if not a then 3 else if not b then 4 else if c then 1 else if d then 2 else 0) 0
    → T a × T b × (c ≡ false) × (d ≡ false)
tests true true false false e = (tt, tt, refl, refl)
tests true true false true e = absurd (omega arith)
tests true true true d e = absurd (omega arith)
tests true false c d e = absurd (omega arith)
tests false b c d e = absurd (omega arith)

pub passes : (p : Plan) (step speed : ℕ) → measure_error p step speed ≡ 0 → Passes p step speed
unfolding measure_error
passes p step speed e =
    let t =
    tests (some (active_of p) && increases (active_of p)) (multiples step (active_of p))
    (ltb 14400 (speed * revolution_shots step)) (ltb 10800 (speed * lit_shots p step)) e in
    record { rising = t.0; whole = t.1; few = ltb-false _ _ t.2; lit = ltb-false _ _ t.3 }

pub valid_of : (p : Plan) (step speed : ℕ) → length p.sectors ≡ 8 → T (plan_in_range p) → measure_error p step speed ≡ 0 → ValidPlan step p
unfolding plan_in_range
valid_of p step speed eight h e =
    let t = passes p step speed e in
    let r = t.rising in
    record {
      eight = eight;
      valid = record { at_least_one = search and_l; in_range = active_ok p.sectors h; increasing = search and_r; whole_steps = t.whole };
    }
