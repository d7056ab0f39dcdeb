-- What a profile carries: the run's shots of function 3, fields that the reader takes, and never more than 6544 words.
use mathlib.Core.Path.{◌≡◌, refl, sym, ap, ◌∙◌}
use mathlib.Core.Bool.{Bool, true, false, not, ◌&&◌}
use mathlib.Core.List.{List, [], ◌∷◌}
use Prim.Native.Nat.{ℕ, zero, suc, ◌+◌, ◌*◌, ◌≤◌, ◌<◌}
use native.Mathlib.Nat.{zero-add, add-zero, mul-le-mul_right}
use native.Mathlib.Omega.{arith}
use lib.Dec.{T}
use lib.ListN.{length, get_or}
use Rattle.std.specs.Prelude.{if◌then◌else◌}
use Rattle.words.specs.Bits.{bit}
use Rattle.words.specs.Lists.{some, total}
use Rattle.words.specs.Words.{given_if, number_of}
use Rattle.words.proofs.Puts.{turns_same}
use Rattle.words.proofs.Tests.{and_l}
use Rattle.units.specs.Directions.{steps_past}
use Rattle.layout.specs.Fields.{SectorFields}
use Rattle.layout.specs.Bits as bits
use Rattle.layout.specs.Masks.{mask_ok, uncounted}
use Rattle.layout.specs.declared.Kind.{Kind}
use Rattle.layout.specs.declared.Mask.{Mask}
use Rattle.layout.specs.MixedMasks.{mixed_number, none_of, mixed_ok, most_reflectors}
use Rattle.layout.specs.Layout.{Acceptable}
use Rattle.layout.specs.Lengths.{greatest_length}
use Rattle.layout.specs.Mixed.{greatest_mixed}
use Rattle.layout.proofs.GreatestLength.{greatest}
use Rattle.layout.proofs.MixedLengths.{greatest_mixed_lem}
use Rattle.plan.specs.Sectors.{active_of}
use Rattle.plan.specs.declared.Arc.{Arc}
use Rattle.plan.specs.Shots.{Shot, last_stop, arcs, arc_at, no_arc, run_of}
use Rattle.plan.specs.Checks.{lit_shots}
use Rattle.plan.specs.Demands.{no_shot}
use Rattle.plan.proofs.ArcSums.{active_length, arcs_length}
use Rattle.plan.proofs.Tiling.{tiling, pointed, points_lit}
use Rattle.state.specs.declared.State.{State}
use Rattle.state.specs.declared.Job.{Job}
use Rattle.state.specs.declared.Job.TheVariants.{Absent, Counted, Endless}
use Rattle.state.specs.Jobs.{mask_of, has_kind, is_job}
use Rattle.state.proofs.Measuring.{Measures, measures}
use Rattle.profile.specs.Points.{point_words}
use Rattle.profile.specs.Profiles.{Scan, points_of, sector_of, sectors_of, arcs_of, rate_of, fields_of}
use Rattle.profile.specs.Mixed.{with_layer, reflectors_given}
use Rattle.profile.specs.Revolutions.{risen, profile_of, revolved}
use Rattle.profile.specs.Demands.{length_by, sent_length, SentLength, Turning, NeverLonger, MixedNeverLonger}
use Rattle.profile.specs.Demands.{SentAcceptable, MixedSentAcceptable, PointsAreShots, MixedPointsAreShots}
use Rattle.profile.proofs.Revolved.{revolution_by}
use Rattle.profile.proofs.ProfileLengths.{fields_many, fields_fit}
use Rattle.profile.proofs.MixedLengths.{few_given, mixed_fit}
use Rattle.profile.proofs.Sending.{by_long}

-- the sector at a place is that of the arc there
sector_at : (mask step rate : ℕ) (g : Scan) (number : ℕ) (l : List Arc) (place : ℕ) (other : SectorFields) → place < length l
    → get_or (sectors_of mask step rate g number l) place other ≡ sector_of mask step rate g (number + place) (get_or l place no_arc)
sector_at mask step rate g number [] place other h = absurd (omega arith)
sector_at mask step rate g number (a ∷ l) zero other h = rw (add-zero number) refl
sector_at mask step rate g number (a ∷ l) (suc place) other h =
    sector_at mask step rate g (suc number) l place other (omega arith)
    ∙ ap (λ (n : ℕ). sector_of mask step rate g n (get_or l place no_arc)) (omega arith)

module _ (s : State) (place : ℕ) where
  abbrev arc : Arc
  arc = get_or (arcs s.step.0 (active_of s.working)) place no_arc

  -- the run's shot at a point's place
  shot_there : (i : ℕ) → i < arc.points
      → get_or (run_of s.step.0 s.working) (arc.shot + i) no_shot ≡ record { direction = steps_past s.step.0 i arc.first.0; function = 3 }
  shot_there i h =
      let r = pointed s.step.0 (last_stop 0 (active_of s.working)) 0 (active_of s.working) place i h in
      let a = (tiling s.step.0 s.working).arc place r.0 in
      a.shot i (omega (arith, r.1.points))
      ∙ ap (λ (f : ℕ). record { direction = steps_past s.step.0 i arc.first.0; function = f }) r.1.function

pub points_are_shots : PointsAreShots
unfolding arc_at points_of
points_are_shots s g mask sent counter place h other =
    let step = s.step.0 in
    let is =
    sector_at mask step (rate_of s) g 0 (arcs step (active_of s.working)) place other
    (omega (arith, arcs_length step (last_stop 0 (active_of s.working)) 0 (active_of s.working)))
    ∙ ap (λ (n : ℕ). sector_of mask step (rate_of s) g n (arc s place)) (zero-add place) in
    record {
      is = is;
      step = ap (λ (f : SectorFields). f.step) is;
      body = ap (λ (f : SectorFields). f.body) is
          ∙ turns_same _ _ (arc s place).points
          (λ i l. let k = (arc s place).shot + i in
          ap (λ (x : Shot). point_words mask (get_or g.distances k 0) x.direction (get_or g.echoes k 0)) (sym (shot_there s place i l)));
      measured = λ i l. ap (λ (x : Shot). x.function) (shot_there s place i l);
    }

-- how many words a job's profile has
job_long : (s : State) (g : Scan) (job : Job)
    → length (profile_of s g job) ≡ (if is_job job then length_by s g.reflectors (mask_of job) else 0)
job_long s g Absent = refl
job_long s g (Counted left mask sent) = by_long s g mask (sent + 1) (risen s.counter)
job_long s g (Endless mask sent) = by_long s g mask (risen sent) (risen s.counter)

pub sent_length_lem : SentLength
unfolding revolved
sent_length_lem s g =
    record {
      words = job_long s g s.job;
      counted =
          λ room. revolution_by (λ x. x.reply.refusal ≡ 0 → x.reply.count ≡ sent_length s g) s g room (λ n z e. absurd (z e))
          (λ _. job_long s g s.job);
    }

some_one : {A : Type 0} (l : List A) → T (some l) → 1 ≤ length l
some_one [] h = absurd h
some_one (x ∷ xs) h = omega arith

module _ (s : State) (g : Scan) (t : Turning s g) where
  measuring : Measures s
  measuring = measures s t.range t.measures t.eight

  eight_most : length (active_of s.working) ≤ 8
  eight_most = let e = t.eight in omega (arith, active_length s.working.sectors)

  -- at 5 Hz or more, 10800 lit shots a second are 2160 a revolution
  points_most : total (λ a. a.points) (arcs_of s) ≤ 2160
  unfolding lit_shots
  points_most =
      let m = measuring in
      let most = points_lit s.step.0 (last_stop 0 (active_of s.working)) 0 (active_of s.working) in
      let lit = lit_shots s.working s.step.0 in
      let five : 5 * lit ≤ s.running * lit = mul-le-mul_right lit m.turning in
      omega (arith, most, five, m.checks.lit)

-- the greatest length of a plain profile, and of one of either kind
module _ (s : State) (g : Scan) (t : Turning s g) where
  plain_most : (word : ℕ) → length_by s g.reflectors (Mask.Plain word) ≤ greatest_length
  plain_most word = greatest word _ _ (eight_most s g t) (points_most s g t)

  either_most : (mask : Mask) → length_by s g.reflectors mask ≤ greatest_mixed
  either_most (Mask.Plain word) = omega (arith, plain_most word)
  either_most (Mask.Mixed high low) =
      greatest_mixed_lem (mixed_number high low) _ _ _ (eight_most s g t) (points_most s g t) (few_given g t.reflectors)

  plain_job : (j : Job) → T (not (has_kind Kind.Mixed j)) → (if is_job j then length_by s g.reflectors (mask_of j) else 0) ≤ greatest_length
  plain_job Absent h = omega arith
  plain_job (Counted left (Mask.Plain word) sent) h = plain_most word
  plain_job (Counted left (Mask.Mixed high low) sent) h = absurd h
  plain_job (Endless (Mask.Plain word) sent) h = plain_most word
  plain_job (Endless (Mask.Mixed high low) sent) h = absurd h

  either_job : (b : Bool) (mask : Mask) → (if b then length_by s g.reflectors mask else 0) ≤ greatest_mixed
  either_job true mask = either_most mask
  either_job false mask = omega arith

pub never_longer : NeverLonger
never_longer s g t h = rw (sent_length_lem s g).words (plain_job s g t s.job h)

pub mixed_never_longer : MixedNeverLonger
mixed_never_longer s g t = rw (sent_length_lem s g).words (either_job s g t (is_job s.job) (mask_of s.job))

-- a contour with any layer is such as the reader takes
contour_acceptable : (s : State) (g : Scan) → Turning s g → (mask layer sent counter : ℕ) → T (mask_ok mask) → T (not (uncounted mask))
    → Acceptable (with_layer layer (fields_of s g mask sent counter))
contour_acceptable s g t mask layer sent counter ok counted =
    let n = fields_many s g mask sent counter in
    record {
      mask = ok;
      some_sector = omega (arith, n, some_one (active_of s.working) (measuring s g t).plan.valid.at_least_one);
      few = omega (arith, n, eight_most s g t);
      counted = counted;
      fits = fields_fit s g mask layer sent counter counted;
    }

pub sent_acceptable : SentAcceptable
sent_acceptable s g t mask sent counter ok counted = contour_acceptable s g t mask 0 sent counter ok counted

-- a mixed mask is such as a plain one may be
plain_ok : (mask : ℕ) → T (mixed_ok mask) → T (mask_ok mask)
unfolding mixed_ok
plain_ok mask h = and_l (mask_ok mask) (none_of bits.reserved_mixed mask) (and_l (mask_ok mask && none_of bits.reserved_mixed mask) _ h)

-- no more are said than are given
said_few : (b : Bool) (n : ℕ) → n ≤ most_reflectors → number_of (given_if b n) ≤ most_reflectors
said_few true n h = h
said_few false n h = omega arith

pub mixed_sent_acceptable : MixedSentAcceptable
mixed_sent_acceptable s g t high low sent counter ok counted =
    let m = mixed_number high low in
    record {
      contour = contour_acceptable s g t m 1 sent counter (plain_ok m ok) counted;
      mask = ok;
      few = said_few (bit m bits.reflectors) (reflectors_given g.reflectors) (few_given g t.reflectors);
      fits = mixed_fit s g high low sent counter ok counted;
    }

pub mixed_points_are_shots : MixedPointsAreShots
mixed_points_are_shots s g high low sent counter = points_are_shots s g (mixed_number high low) sent counter
