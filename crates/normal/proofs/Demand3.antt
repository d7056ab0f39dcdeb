-- Demand 3, of the normal plan and then of the plan that the call hands back; and when the call answers 0.
use mathlib.Core.Path.{◌≡◌, refl, sym, ap, ◌∙◌}
use mathlib.Core.Logic.{◌↔◌}
use mathlib.Core.Bool.{Bool, true, false, not, ◌&&◌}
use mathlib.Core.List.{List, ◌++◌}
use Prim.Native.Nat.{ℕ, zero, suc, ◌-◌}
use native.Mathlib.Omega.{arith}
use lib.Dec.{T, eqb}
use lib.ListN.{length, replicate, length-append, length-replicate}
use borrow.Author.Tests.{eq-eqb, ne_eqb}
use Rattle.std.specs.Prelude.{if◌then◌else◌}
use Rattle.words.specs.Lists.{some, every}
use Rattle.words.proofs.Tests.{and_l, and_r, is_true}
use Rattle.plan.specs.declared.Sector.{Sector}
use Rattle.plan.specs.declared.Plan.{Plan}
use Rattle.plan.specs.Sectors.{is_step, unused, is_function, filled, active, active_of}
use Rattle.plan.specs.Validity.{sector_ok, increases, multiples, ValidPlan}
use Rattle.normal.specs.NormalForm.{normal, normal_plan, plan_refusal, normalised_of}
use Rattle.normal.specs.Demands.{NormalStands, plan_back, Demand3, AnswersValid}
use Rattle.plan.proofs.ArcSums.{active_length}
use Rattle.plan.proofs.Grids.{Divides, divides}
use Rattle.plan.proofs.FineSectors.{Fine, done, more, fine_of}
use Rattle.normal.proofs.NormalSectors.{normal_valid, normal_normal, normal_length}
use Rattle.normal.proofs.NormalRuns.{normal_runs, same_normal, same_run, fewest}

not_zero : (f : ℕ) → T (is_function f) → eqb f 0 ≡ false
not_zero zero h = absurd h
not_zero (suc f) h = ne_eqb (suc f) 0 (omega arith)

active_filled : (k : ℕ) {step low : ℕ} {ss : List Sector} → Fine step low ss → active (ss ++ replicate k unused) ≡ ss
active_filled zero done = refl
active_filled (suc k) done = refl
active_filled k (more {s = s} f a g r) = rw (not_zero s.function f, active_filled k r)

module _ (step : ℕ) (p : Plan) (v : ValidPlan step p) where
  -- the active sectors of the normal plan
  normal_active : active_of (normal_plan p) ≡ normal (active_of p)
  normal_active = active_filled (8 - length (normal (active_of p))) (fine_of step (normal_valid step (active_of p) v.valid))

  valid_normal : ValidPlan step (normal_plan p)
  valid_normal =
      record {
        eight = let e = v.eight in simp (length-append, length-replicate) (omega (arith, normal_length (active_of p), active_length p.sectors));
        valid = rw normal_active (normal_valid step (active_of p) v.valid);
      }

stands : (step : ℕ) → T (is_step step) → (p : Plan) → ValidPlan step p → NormalStands normal_plan step p
stands step ok p v =
    record {
      alike =
          λ q w. (
            λ e. same_run step o a (active_of q) v.valid w.valid (sym n ∙ ap active_of e ∙ normal_active step q w),
            λ e. ap filled (same_normal step o a (active_of q) v.valid w.valid e),
          );
      valid = valid_normal step p v;
      runs_so = rw n (normal_runs step o a v.valid);
      again = rw (n, normal_normal);
      fewest = λ q w e. rw n (fewest step o a (active_of q) v.valid w.valid e);
    }
  where
    a : List Sector
    a = active_of p

    o : Divides step
    o = divides ok

    n : active_of (normal_plan p) ≡ normal (active_of p)
    n = normal_active step p v

-- the tests of a refusal that is 0
tests : (a b c : Bool) → ◌≡◌ {A = ℕ} (if not a then 9 else if not b then 10 else if not c then 11 else 0) 0 → T a × T b × T c
tests true true true e = (tt, tt, tt)
tests true true false e = absurd (omega arith)
tests true false c e = absurd (omega arith)
tests false b c e = absurd (omega arith)

answers_zero : (step : ℕ) (p : Plan) → length p.sectors ≡ 8 → (plan_refusal p step ≡ 0) ↔ (T (is_step step) × ValidPlan step p)
unfolding plan_refusal
answers_zero step p eight = (
  λ e. (
      let t = tests (is_step step) (some (active_of p) && every sector_ok (active_of p) && increases (active_of p)) (multiples step (active_of p)) e in
      let u = t.1 in
      let w = t.2 in (
        t.0,
        record {
          eight = eight;
          valid = record { at_least_one = search (and_l, and_r); in_range = search (and_l, and_r); increasing = search (and_l, and_r); whole_steps = w };
        },
      )
      ),
  λ h. (
      let v = h.1.valid in
      let a : is_step step ≡ true = is_true h.0 in
      let b : some (active_of p) ≡ true = is_true v.at_least_one in
      let c : every sector_ok (active_of p) ≡ true = is_true v.in_range in
      let d : increases (active_of p) ≡ true = is_true v.increasing in
      let e : multiples step (active_of p) ≡ true = is_true v.whole_steps in
      rw (a, b, c, d, e)
      ),
)

pub answers_valid : AnswersValid
unfolding normalised_of
answers_valid step p eight = record { zero = answers_zero step p eight; normal = λ e. rw (eq-eqb (plan_refusal p step) 0 e) }

-- the plan that the call hands back is the normal plan
back_is : (step : ℕ) → T (is_step step) → (p : Plan) → ValidPlan step p → plan_back step p ≡ normal_plan p
back_is step ok p v = let a = answers_valid step p v.eight in a.normal (a.zero.1 (ok, v))

pub demand3 : Demand3
demand3 step ok p v =
    let s = stands step ok p v in
    let e = back_is step ok p v in
    let again : plan_back step (normal_plan p) ≡ normal_plan p = back_is step ok (normal_plan p) s.valid ∙ s.again in
    record {
      alike = λ q w. rw (e, back_is step ok q w) (s.alike q w);
      valid = rw e s.valid;
      runs_so = rw e s.runs_so;
      again = rw (e, again);
      fewest = λ q w r. rw e (s.fewest q w r);
    }
