-- `send` and `revolution`: what a state in its ranges that measures gives the writer, and the ways out.
use mathlib.Core.Path.{◌≡◌, sym, ap, ◌∙◌}
use mathlib.Core.Bool.{Bool, true, false, not}
use mathlib.Core.List.{List, [], ◌∷◌}
use Prim.Native.Nat.{ℕ, ◌+◌, ◌≤◌, ◌<◌}
use native.Mathlib.Nat.{div-le_self}
use native.Mathlib.Omega.{arith}
use lib.Dec.{T, eqb, leb, leb→le, eqb→eq}
use lib.ListN.{length}
use Rattle.std.specs.Prelude.{if◌then◌else◌, Result, Err}
use Rattle.words.specs.Lists.{Each, none, this, total}
use Rattle.words.specs.Buffers.{Wrote}
use Rattle.words.proofs.Overs.{over_none}
use Rattle.words.proofs.Tests.{and_l, and_r}
use Rattle.units.specs.Directions.{circle, revolution_shots}
use Rattle.layout.specs.declared.Mask.{Mask}
use Rattle.plan.specs.declared.Sector.{Sector}
use Rattle.plan.specs.Sectors.{stop_of, active_of}
use Rattle.plan.specs.Shots.{last_stop, shots_of, arc_of, arcs_from}
use Rattle.plan.proofs.Rounds.{revolution}
use Rattle.state.specs.declared.State.{State}
use Rattle.state.specs.declared.Mode.{Mode}
use Rattle.state.specs.declared.Job.{Job}
use Rattle.state.specs.declared.Job.TheVariants.{Absent, Counted, Endless}
use Rattle.state.specs.declared.Reply.{Reply}
use Rattle.state.specs.declared.Refusal.{Refusal}
use Rattle.state.specs.declared.Refusal.TheVariants.{NoRoom}
use Rattle.state.specs.Jobs.{mask_of, is_job}
use Rattle.state.specs.Ranges.{is_measure, job_ok, in_range}
use Rattle.state.specs.Replies.{refusal_number, delivered, Answered}
use Rattle.state.proofs.Parts.{parts}
use Rattle.state.proofs.Measuring.{measures}
use Rattle.state.proofs.HandedLaws.{refuses as is_number}
use Rattle.state.proofs.Delivery.{served, is_refused_lem, no_room, has_room}
use Rattle.profile.specs.Profiles.{Scan}
use Rattle.profile.specs.Revolutions.{risen, sent_after, turned, profile_by, profile_of, revolved, lists_fit, reflectors_fit}
use Rattle.profile.specs.Revolutions.{revolution_refusal, revolution_of}
use Rattle.profile.specs.Demands.{length_by}
use Rattle.profile.specs.Asked.{ArcAsked, ProfileAsked, SendAsked, send_outcome, JobAsked}
use Rattle.profile.proofs.PointSums.{if_most}
use Rattle.profile.proofs.ProfileLengths.{profile_long}
use Rattle.profile.proofs.MixedLengths.{mixed_long, few_words}

-- a job in its ranges can go on
pub job_asked : (m : Mode) (j : Job) → T (job_ok m j) → JobAsked j
job_asked m Absent h = tt
job_asked m (Counted left mask sent) h =
    let l : T (leb 1 left) = search (and_l, and_r) in
    let r : T (leb (left + sent) 65535) = search (and_l, and_r) in
    (leb→le 1 left l, omega (arith, leb→le 1 left l, leb→le (left + sent) 65535 r))
job_asked m (Endless mask sent) h = tt

-- the shots of arcs are among those of lists that are as long as all of them
arcs_asked : (g : Scan) (step before shot n : ℕ) (ss : List Sector) → shot + total (λ a. a.shots) (arcs_from step before shot ss) ≡ n
    → n ≤ circle → length g.distances ≡ n → length g.echoes ≡ n → Each (ArcAsked g) (arcs_from step before shot ss)
arcs_asked g step before shot n [] e few d h = none
arcs_asked g step before shot n (s ∷ ss) e few d h =
    this {x = arc_of step before shot s}
    record {
      points = if_most (eqb s.function 3) (shots_of step before s);
      some_shot = omega arith;
      numbered = omega arith;
      distances = omega arith;
      echoes = omega arith;
    }
    (arcs_asked g step (stop_of s) (shot + shots_of step before s) n ss (omega arith) few d h)

-- how many words the profile has that a mask asks for
pub by_long : (s : State) (g : Scan) (mask : Mask) (sent counter : ℕ) → length (profile_by s g mask sent counter) ≡ length_by s g.reflectors mask
by_long s g (Mask.Plain word) sent counter = profile_long s g word sent counter
by_long s g (Mask.Mixed high low) sent counter = mixed_long s g high low sent counter

-- `send`
module _ {s : State} {g : Scan} (asked : SendAsked s g) where
  pub send_turn : JobAsked s.job
  send_turn = job_asked s.mode s.job (parts s asked.range).job

  pub few_reflectors : length g.reflectors ≤ 704
  few_reflectors = few_words g asked.reflectors

  pub profile_asked : (mask : Mask) (sent counter n : ℕ) (d : List ℕ) → n ≡ length_by s g.reflectors mask → n ≤ length d
      → ProfileAsked s g mask sent counter d
  profile_asked mask sent counter n d en h =
      let m = measures s asked.range asked.measures asked.eight in
      let step = s.step.0 in
      let ss = active_of s.working in
      let shots = revolution_shots step in
      let all = (revolution step m.step s.working m.plan).shots in
      let ds = and_l (eqb (length g.distances) shots) (eqb (length g.echoes) shots) asked.lists in
      let es = and_r (eqb (length g.distances) shots) (eqb (length g.echoes) shots) asked.lists in
      record {
        eight = asked.eight;
        arcs_in =
            arcs_asked g step (last_stop 0 ss) 0 shots ss (omega (arith, all)) (div-le_self circle step) (eqb→eq _ shots ds) (eqb→eq _ shots es);
        few = few_reflectors;
        room = rw (by_long s g mask sent counter, ← en) h;
      }

  module _ (mask : Mask) (sent n : ℕ) (en : n ≡ length_by s g.reflectors mask) where
    long : length (send_outcome s g mask sent).words ≡ n
    long = by_long s g mask sent (risen s.counter) ∙ sym en

    pub sends_none : {d : List ℕ} → length d < n → Answered s (Err NoRoom) d d (delivered s (send_outcome s g mask sent) (length d))
    sends_none {d} h = no_room s (send_outcome s g mask sent) d n long h

    pub sends : {next : State} {counter r : ℕ} {d d' : List ℕ} → next ≡ turned s → counter ≡ risen s.counter → n ≤ length d
        → Wrote (profile_by s g mask sent counter) d d' r
        → Answered s (served next r) d d' (delivered s (send_outcome s g mask sent) (length d))
    sends {counter = counter} {r = r} {d = d} {d' = d'} e ec h w =
        let v : Wrote (profile_by s g mask sent (risen s.counter)) d d' r = rw ec at w in
        let l : r ≡ n = v.counted ∙ long in
        rw (e, l) (has_room s (send_outcome s g mask sent) d n long h d' v.words)

-- `revolution`
module _ (s : State) (g : Scan) where
  pub refuses : (e : Refusal) {d : List ℕ} → refusal_number e ≡ revolution_refusal s g
      → Answered s (Err e) d d (revolution_of s g (length d))
  unfolding revolution_of
  refuses e {d} en = rw (← en, is_number e) (is_refused_lem s e d)

  module _ (z : 0 ≡ revolution_refusal s g) where
    goes_on : (room : ℕ) → revolution_of s g room ≡ delivered s (revolved s g) room
    unfolding revolution_of
    goes_on room = rw (← z)

    pub accepted : length s.working.sectors ≡ 8 → SendAsked s g
    unfolding revolution_refusal
    accepted eight =
        let t = tests (in_range s) (is_measure s.mode) (lists_fit s g) (reflectors_fit g) (sym z) in
        record { eight = eight; range = t.0; measures = t.1; lists = t.2; reflectors = t.3 }
      where
        tests : (a b c d : Bool) → ◌≡◌ {A = ℕ} (if not a then 1 else if not b then 7 else if not c then 8 else if not d then 27 else 0) 0
            → T a × T b × T c × T d
        tests true true true true e = (tt, tt, tt, tt)
        tests true true true false e = absurd (omega arith)
        tests true true false d e = absurd (omega arith)
        tests true false c d e = absurd (omega arith)
        tests false b c d e = absurd (omega arith)

    -- without a job, and with one
    module _ {d : List ℕ} {b : Bool} (eb : b ≡ is_job s.job) where
      pub no_profile : b ≡ false → {next : State} → next ≡ turned s → Answered s (served next 0) d d (revolution_of s g (length d))
      unfolding revolved
      no_profile q e =
          let w : profile_of s g s.job ≡ [] = rw (sym eb ∙ q) in
          rw (goes_on, e) (has_room s (revolved s g) d 0 (ap length w) (omega arith) d (rw w (sym (over_none d))))

      pub with_profile : b ≡ true → {mask : Mask} {sent : ℕ} {r : Result Reply Refusal} {d' : List ℕ}
          → mask ≡ mask_of s.job → sent ≡ sent_after s.job
          → Answered s r d d' (delivered s (send_outcome s g mask sent) (length d))
          → Answered s r d d' (revolution_of s g (length d))
      unfolding revolved
      with_profile q em en sends = rw (goes_on, sym eb ∙ q) (rw (em, en) at sends)
