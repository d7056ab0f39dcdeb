-- The arcs of a revolution: how many there are, how many shots each has, that their numbers fit, and the chain of `lit_shots` that
-- adds them.
use mathlib.Core.Path.{◌≡◌, refl, ap, ◌∙◌}
use mathlib.Core.Bool.{Bool, true, false}
use mathlib.Core.List.{List, [], ◌∷◌}
use Prim.Native.Nat.{ℕ, zero, suc, ◌+◌, ◌*◌, ◌^◌, ◌≤◌, ◌<◌}
use native.Mathlib.Omega.{arith}
use lib.Dec.{eqb}
use lib.ListN.{length, get_or}
use Rattle.units.specs.Directions.{circle, step_after}
use Rattle.units.proofs.ShotCounts.{few}
use Rattle.std.specs.Prelude.{Option, None, Some, if◌then◌else◌, slice_get, sum_by}
use Rattle.std.specs.Option.{option_map, MatchOption}
use Rattle.std.proofs.lemmas.List.Sums.{sum_by-cons}
use Rattle.plan.specs.declared.Sector.{Sector}
use Rattle.plan.specs.declared.Plan.{Plan}
use Rattle.plan.specs.declared.Arc.{Arc}
use Rattle.plan.specs.Sectors.{stop_of, active, active_of}
use Rattle.plan.specs.Shots.{last_stop, shots_of, arcs_from, arcs, no_arc, shots_with}
use Rattle.plan.specs.Checks.{is_lit}

-- no more sectors are active than there are
pub active_length : (l : List Sector) → length (active l) ≤ length l
active_length [] = omega arith
active_length (s ∷ ss) = go (eqb s.function 0) (active_length ss)
  where
    go : (b : Bool) → length (active ss) ≤ length ss → length (if b then [] else s ∷ active ss) ≤ suc (length ss)
    go true h = omega arith
    go false h = omega arith

-- of the eight entries of a plan, no more than eight
pub count_fits : (l : List Sector) (n : ℕ) → length l ≡ 8 → n ≡ length (active l) → n ≤ 8
count_fits l n len e = omega (arith, active_length l)

-- an arc for each sector
pub arcs_length : (step before shot : ℕ) (ss : List Sector) → length (arcs_from step before shot ss) ≡ length ss
arcs_length step before shot [] = refl
arcs_length step before shot (s ∷ ss) = ap suc (arcs_length step (stop_of s) (shot + shots_of step before s) ss)

-- no arc has more shots than there are directions
pub arc_few : (step before shot : ℕ) (ss : List Sector) (k : ℕ) → (get_or (arcs_from step before shot ss) k no_arc).shots ≤ circle
arc_few step before shot [] k = omega arith
arc_few step before shot (s ∷ ss) zero = few step (step_after step before) (stop_of s)
arc_few step before shot (s ∷ ss) (suc k) = arc_few step (stop_of s) (shot + shots_of step before s) ss k

-- the numbers of the first shots, at most 8 times circle, fit 16 bits
pub numbers_fit : (l ss : List Sector) → length l ≡ 8 → ss ≡ active l → 0 + length ss * circle ≤ 8 * circle
numbers_fit l ss len e = omega (arith, rw (← e) at (active_length l))

-- `arc_at`
pub at_place : (as' : List Arc) (place : ℕ) (found : Option Arc) → option_map (λ a. a) found ≡ slice_get as' place
    → (a : Arc) → MatchOption found (a ≡ no_arc) (λ b. a ≡ b) → a ≡ get_or as' place no_arc
at_place [] k None e a m = m
at_place [] k (Some b) e a m = absurd (cc)
at_place (x ∷ xs) zero None e a m = absurd (cc)
at_place (x ∷ xs) zero (Some b) e a m = cc
at_place (x ∷ xs) (suc k) o e a m = at_place xs k o e a m

-- the chain of `lit_shots`
abbrev pub lit_of : Arc → ℕ
lit_of a = if is_lit a.function then a.shots else 0

pub lit_sum : (as' : List Arc) → sum_by lit_of as' ≡ shots_with is_lit as'
lit_sum [] = refl
lit_sum (a ∷ as') = sum_by-cons lit_of a as' ∙ ap (λ n. lit_of a + n) (lit_sum as')

at_most : (b : Bool) (n most : ℕ) → n ≤ most → (if b then n else 0) ≤ most
at_most true n most h = h
at_most false n most h = omega arith

lit_most : (step before shot : ℕ) (ss : List Sector) → shots_with is_lit (arcs_from step before shot ss) ≤ length ss * circle
lit_most step before shot [] = omega arith
lit_most step before shot (s ∷ ss) =
    omega (
      arith,
      lit_most step (stop_of s) (shot + shots_of step before s) ss,
      at_most (is_lit s.function) (shots_of step before s) circle (few step (step_after step before) (stop_of s)),
    )

pub lit_fits : (p : Plan) (step : ℕ) → length p.sectors ≡ 8 → sum_by lit_of (arcs step (active_of p)) < 2 ^ 16
lit_fits p step len = omega (arith, lit_sum (arcs step (active_of p)), lit_most step (last_stop 0 (active_of p)) 0 (active_of p), active_length p.sectors)
