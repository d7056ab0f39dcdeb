-- Demand 1 of revolutions: a refusal changes nothing, each is given exactly then, and ranges are kept.
use mathlib.Core.Path.{◌≡◌, refl, ◌∙◌}
use mathlib.Core.Bool.{Bool, true, false, not, ◌&&◌, ◌||◌}
use mathlib.Core.List.{[], ◌∷◌}
use Prim.Native.Nat.{ℕ, ◌+◌, ◌-◌, ◌/◌, ◌%◌, ◌≤◌}
use native.Mathlib.Omega.{arith}
use lib.Dec.{T, leb, ltb, eqb, le→leb, leb→le}
use lib.ListN.{length}
use borrow.Author.Tests.{eqb-false, leb-true, leb-false, lt-ltb, le-ltb}
use Rattle.std.specs.Prelude.{if◌then◌else◌}
use Rattle.words.specs.Numbers.{no, first_of}
use Rattle.words.proofs.Tests.{and_l, and_r, and_both}
use Rattle.layout.specs.MixedMasks.{admitted, reflector_length, most_reflectors}
use Rattle.state.specs.declared.State.{State}
use Rattle.state.specs.declared.Mode.{Mode}
use Rattle.state.specs.declared.Job.{Job}
use Rattle.state.specs.declared.Job.TheVariants.{Absent, Counted, Endless}
use Rattle.state.specs.Fields.{with_drive}
use Rattle.state.specs.Ranges.{is_measure, job_ok, in_range}
use Rattle.state.specs.Replies.{Effect, refused, delivered, Unchanged}
use Rattle.state.proofs.Delivery.{refused_unchanged, done, delivered_by, delivered_number}
use Rattle.state.proofs.Parts.{parts, whole, drive_set, counter_set}
use Rattle.profile.specs.Profiles.{Scan}
use Rattle.profile.specs.Revolutions.{risen, job_after, revolved, lists_fit, reflectors_fit, revolution_refusal, revolution_of}
use Rattle.profile.specs.Demands.{RefusalsChangeNothing, RefusalsExactly, RangesKept}

-- what holds of every refusal and of the outcome holds of the revolution
pub revolution_by : (P : Effect → Type 0) (s : State) (g : Scan) (room : ℕ) → ((n : ℕ) → (n ≡ 0 → ⊥) → P (refused s n))
    → P (done (revolved s g)) → P (revolution_of s g room)
unfolding revolution_of
revolution_by P s g room h k = go (eqb (revolution_refusal s g) 0) refl
  where
    go : (b : Bool) → eqb (revolution_refusal s g) 0 ≡ b → P (if b then delivered s (revolved s g) room else refused s (revolution_refusal s g))
    go true e = delivered_by P s (revolved s g) room (h 6 (λ z. omega arith)) k
    go false e = h (revolution_refusal s g) (eqb-false _ 0 e)

pub refusals_change_nothing : RefusalsChangeNothing
refusals_change_nothing s g d =
    revolution_by (λ x. (x.reply.refusal ≡ 0 → ⊥) → Unchanged s d x) s g (length d) (λ n _ _. refused_unchanged s n d) (λ n. absurd (n refl))

-- the tests one after another, as the definition has them and as the table has them
in_order : (a b c d f : Bool)
    → (if eqb (if a then 1 else if b then 7 else if c then 8 else if d then 27 else 0) 0
    then (if f then 6 else 0)
    else (if a then 1 else if b then 7 else if c then 8 else if d then 27 else 0))
    ≡ first_of (no 1 a ∷ no 7 b ∷ no 8 c ∷ no 27 d ∷ no 6 f ∷ [])
in_order true b c d f = refl
in_order false true c d f = refl
in_order false false true d f = refl
in_order false false false true f = refl
in_order false false false false true = refl
in_order false false false false false = refl

-- too many reflectors, or a part of one: they do not fit
pub unfit : (whole : Bool) (n : ℕ) → (ltb most_reflectors n || not whole) ≡ not (whole && leb n most_reflectors)
unfit whole n = go whole (leb n most_reflectors) refl
  where
    less : (t : Bool) → leb n most_reflectors ≡ t → ltb most_reflectors n ≡ not t
    less true e = le-ltb most_reflectors n (leb-true n most_reflectors e)
    less false e = lt-ltb most_reflectors n (leb-false n most_reflectors e)

    go : (w t : Bool) → leb n most_reflectors ≡ t → (ltb most_reflectors n || not w) ≡ not (w && t)
    go true true e = rw (less true e)
    go true false e = rw (less false e)
    go false true e = rw (less true e)
    go false false e = rw (less false e)

pub refusals_exactly : RefusalsExactly
unfolding revolution_of revolution_refusal
refusals_exactly s g room =
    go (eqb (revolution_refusal s g) 0)
    ∙ rw (unfit (eqb (length g.reflectors % reflector_length) 0) (length g.reflectors / reflector_length))
    (in_order (not (in_range s)) (not (is_measure s.mode)) (not (lists_fit s g)) (not (reflectors_fit g)) (ltb room (length (revolved s g).words)))
  where
    go : (b : Bool)
        → (if b then delivered s (revolved s g) room else refused s (revolution_refusal s g)).reply.refusal
        ≡ (if b then (if ltb room (length (revolved s g).words) then 6 else 0) else revolution_refusal s g)
    go true = delivered_number s (revolved s g) room
    go false = refl

-- a job in its ranges goes on in its ranges, or ends
job_kept : (m : Mode) (j : Job) → T (job_ok m j) → T (job_ok m (job_after j))
job_kept m Absent h = tt
job_kept m (Endless mask sent) h = h
job_kept m (Counted left mask sent) h = go (eqb left 1) refl
  where
    a : T (is_measure m)
    a = search (and_l, and_r)

    b : T (admitted mask)
    b = search (and_l, and_r)

    c : 1 ≤ left
    c = leb→le 1 left (search (and_l, and_r))

    d : left + sent ≤ 65535
    d = leb→le (left + sent) 65535 (search (and_l, and_r))

    go : (x : Bool) → eqb left 1 ≡ x → T (job_ok m (if x then Absent else Counted (left - 1) mask (sent + 1)))
    go true e = tt
    go false e =
        let n = eqb-false left 1 e in
        let i = c in
        let k = d in
        search (and_both, a, b, le→leb 1 (left - 1) (omega arith), le→leb (left - 1 + (sent + 1)) 65535 (omega arith))

pub ranges_kept : RangesKept
unfolding revolved
ranges_kept s g room h =
    revolution_by (λ x. T (in_range x.reply.state)) s g room (λ _ _. h)
    (let p = parts s h in
    let job = job_after s.job in
    let driven = drive_set s p s.mode s.running job p.running p.checks (job_kept s.mode s.job p.job) in
    whole _ (counter_set (with_drive s s.mode s.running job) driven (risen s.counter)))
