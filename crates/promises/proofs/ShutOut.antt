-- None of the named stand-ins meets the contracts: each is held against one or two calls whose answers are computed.
use mathlib.Core.Path.{◌≡◌, refl, sym, ap, ◌∙◌}
use mathlib.Core.List.{List, [], ◌∷◌}
use Prim.Native.Nat.{ℕ}
use native.Mathlib.Omega.{arith}
use lib.Dec.{T}
use lib.ListN.{length, get_or, replicate}
use Rattle.std.specs.Prelude.{Result}
use Rattle.words.specs.Buffers.{over, in_turn}
use Rattle.plan.specs.declared.Plan.{Plan}
use Rattle.plan.specs.Sectors.{sector, is_step, entry_in_range, plan_in_range, filled}
use Rattle.plan.specs.Validity.{ValidPlan}
use Rattle.plan.specs.Shots.{Shot}
use Rattle.plan.specs.Checks.{lit_shots, measure_error}
use Rattle.plan.specs.Demands.{no_shot}
use Rattle.normal.specs.NormalForm.{plan_refusal, normalised_of}
use Rattle.normal.specs.Demands.{Normalises, plan_back}
use Rattle.normal.proofs.Demand3.{demand3, answers_valid}
use Rattle.layout.specs.Masks.{mask_ok}
use Rattle.state.specs.declared.State.{State}
use Rattle.state.specs.declared.Reply.{Reply}
use Rattle.state.specs.declared.Refusal.{Refusal}
use Rattle.state.specs.Ranges.{config_ok, in_range}
use Rattle.state.specs.Replies.{Handed, handed, delivered, Effect}
use Rattle.state.proofs.HandedLaws.{said_is}
use Rattle.state.specs.Fields.{with_plans, with_port}
use Rattle.state.specs.Fresh.{fresh_plan, fresh_state, measuring}
use Rattle.sensor.specs.Table.{service_of}
use Rattle.sensor.specs.Requests.{service_refusal, request_refusal, outcome, request_of}
use Rattle.profile.specs.Points.{point_words}
use Rattle.profile.specs.Profiles.{Scan, scan, points_of}
use Rattle.profile.specs.Revolutions.{revolved, revolution_refusal, revolution_of}
use Rattle.profile.specs.Figures.{still}
use Rattle.reader.specs.Said.{Said, MixedSaid}
use Rattle.reader.specs.Readings.{head_refusal, body_of, read_of, ReadAnswer, said, ReadSays}
use Rattle.layout.specs.declared.Mask.{Mask}
use Rattle.layout.specs.MixedMasks.{mixed_ok, reflector_width}
use Rattle.reader.specs.Mixed.{mixed_head_refusal, mixed_body_of, read_mixed_of, MixedAnswer, mixed_said, ReadMixedSays}
use Rattle.promises.specs.StandIns.{Call, Answering, OnlyTheFirstSector, ShutOut, StandInsShutOut}

-- what a caller finds of an effect, and of a call's answer: what is handed back, and the buffer afterwards
abbrev found : Effect → List ℕ → (Handed × List ℕ)
found x d = (x.reply, over x.written d)

abbrev told : State → (Result Reply Refusal × List ℕ) → (Handed × List ℕ)
told s a = (handed s a.0, a.1)

abbrev word_at : ℕ → (Handed × List ℕ) → ℕ
word_at k a = get_or a.1 k 0

-- calls whose results tell the stand-ins from the contract: input i to a state s, in a buffer d, against another input j, another
-- state, and nothing done
record Witness {In : Type 0} (result : State → In → ℕ → Effect) (s : State) (i j : In) (d : List ℕ) (k : ℕ) : Type 0 where
  served : (result s i (length d)).reply.refusal ≡ 0
  other_input : word_at k (found (result s i (length d)) d) ≡ word_at k (found (result s j (length d)) d) → ⊥
  written : word_at k (found (result s i (length d)) d) ≡ get_or d k 0 → ⊥
  moved : (result s i (length d)).reply.state ≡ s → ⊥
  other_state : word_at k (found (result s i (length d)) d) ≡ word_at k (found (result fresh_state i (length d)) d) → ⊥
  other_count : (result s i (length d)).reply.count ≡ (result fresh_state j (length d)).reply.count → ⊥

module _ {In : Type 0} (result : State → In → ℕ → Effect) (f : Call In) (h : Answering result f) where
  finds : (s : State) (i : In) (d : List ℕ) → told s (f s i d) ≡ found (result s i (length d)) d
  finds s i d = λ n. ((h s i d).reply n, (h s i d).buffer n)

  -- where two calls agree, their results do
  agree : (view : (Handed × List ℕ) → ℕ) (s t : State) (i j : In) (d : List ℕ) → view (told s (f s i d)) ≡ view (told t (f t j d))
      → view (found (result s i (length d)) d) ≡ view (found (result t j (length d)) d)
  agree view s t i j d e = ap view (sym (finds s i d)) ∙ e ∙ ap view (finds t j d)

shut_out : {In : Type 0} (result : State → In → ℕ → Effect) (s : State) (i j : In) (d : List ℕ) (k : ℕ)
    → Witness result s i j d k
    → ShutOut result
shut_out result s i j d k w =
    record {
      refuses_all = λ f h all. all s i d (said_is s (f s i d).0 ∙ ap (λ (r : Handed). r.refusal) (h s i d).reply ∙ w.served);
      constant_reply = λ f h same. w.other_input (agree result f h (word_at k) s s i j d (ap (λ a. word_at k (told s a)) (same s i j d)));
      writes_nothing = λ f h none. w.written (ap (word_at k) (sym (finds result f h s i d)) ∙ ap (λ (l : List ℕ). get_or l k 0) (none s i d));
      keeps_the_state = λ f h keeps. w.moved (ap (λ (r : Handed). r.state) (sym (h s i d).reply) ∙ keeps s i d);
      only_the_first = λ f h same. w.other_state (agree result f h (word_at k) s fresh_state i i d (ap (λ (l : List ℕ). get_or l k 0) (same s i d)));
      constant_count = λ f h same. w.other_count (agree result f h (λ a. a.0.count) s fresh_state i j d (same s fresh_state i j d));
    }

-- SET_SIGNAL to a sensor whose bit 2 of the port is set, and GET_STATUS
requests : ShutOut request_of
unfolding
    over request_of delivered request_refusal service_refusal outcome service_of in_range config_ok is_step entry_in_range plan_in_range
    lit_shots measure_error mask_ok
requests =
    shut_out request_of (with_port fresh_state 4) (0x0105 ∷ 1 ∷ []) (0x0102 ∷ []) (replicate 5 0) 1
    (record {
      served = refl;
      other_input = λ e. omega (arith, e);
      written = λ e. omega (arith, e);
      moved = λ e. omega (arith, ap (λ (s : State). s.port) e);
      other_state = λ e. omega (arith, e);
      other_count = λ e. omega (arith, e);
    })

-- a revolution of 90 shots whose profile carries the time of its first one, from start times 7 and 0
abbrev late_start : Scan
late_start = scan 7 (replicate 90 0) (replicate 90 0)

revolutions : ShutOut revolution_of
unfolding over revolution_of delivered revolution_refusal revolved in_range config_ok is_step entry_in_range
    plan_in_range lit_shots measure_error mask_ok points_of point_words in_turn
revolutions =
    shut_out revolution_of (measuring (filled (sector 3 5696 ∷ [])) 64 10 (Mask.Plain 0x0040)) late_start (still 90) (replicate 5 0) 3
    (record {
      served = refl;
      other_input = λ e. omega (arith, e);
      written = λ e. omega (arith, e);
      moved = λ e. omega (arith, ap (λ (s : State). s.counter) e);
      other_state = λ e. omega (arith, e);
      other_count = λ e. omega (arith, e);
    })

-- two plans that differ in what their second sector does: its points are 67 or none
abbrev two_sectors : ℕ → Plan
two_sectors second = filled (sector 1 1408 ∷ sector second 5696 ∷ [])

only_the_first_sector : (f : Call Scan) → Answering revolution_of f → OnlyTheFirstSector f → ⊥
unfolding over revolution_of delivered revolution_refusal revolved in_range config_ok is_step entry_in_range
    plan_in_range lit_shots measure_error mask_ok points_of point_words in_turn
only_the_first_sector f h same =
    let s = measuring fresh_plan 64 10 (Mask.Plain 0x0020) in
    let d : List ℕ = replicate 5 0 in
    let e = agree revolution_of f h (word_at 4) (with_plans s (two_sectors 3) s.stored) (with_plans s (two_sectors 1) s.stored) (still 90) (still 90) d
    (ap (λ (l : List ℕ). get_or l 4 0) (same s (two_sectors 3) (two_sectors 1) (still 90) d refl refl)) in
    omega (arith, e)

-- a profile that carries its number sent
abbrev just_the_number : List ℕ
just_the_number = 0x8301 ∷ 1 ∷ 0x0101 ∷ 1 ∷ []

-- that profile, and no word at all

reader_refuses_all :
    (f : List ℕ → ReadAnswer) → ((ws : List ℕ) → ReadSays ws (f ws)) → ((ws : List ℕ) → (said (f ws)).refusal ≡ 0 → ⊥) → ⊥
unfolding mask_ok head_refusal body_of read_of
reader_refuses_all f h all = all just_the_number (ap (λ (r : Said). r.refusal) (h just_the_number))

one_reading_for_all : (f : List ℕ → ReadAnswer) → ((ws : List ℕ) → ReadSays ws (f ws)) → ((vs ws : List ℕ) → f vs ≡ f ws) → ⊥
unfolding mask_ok head_refusal body_of read_of
one_reading_for_all f h same =
    omega (arith, ap (λ (r : Said). r.refusal) (sym (h []) ∙ ap said (same [] just_the_number) ∙ h just_the_number))

-- a mixed profile with the number sent alone
abbrev mixed_number_alone : List ℕ
mixed_number_alone = 0x9301 ∷ 0 ∷ 1 ∷ 0x0101 ∷ 5 ∷ []

mixed_reader_refuses_all :
    (f : List ℕ → MixedAnswer) → ((ws : List ℕ) → ReadMixedSays ws (f ws)) → ((ws : List ℕ) → (mixed_said (f ws)).refusal ≡ 0 → ⊥) → ⊥
unfolding mask_ok mixed_ok reflector_width mixed_head_refusal mixed_body_of read_mixed_of
mixed_reader_refuses_all f h all = all mixed_number_alone (ap (λ (r : MixedSaid). r.refusal) (h mixed_number_alone))

one_mixed_reading_for_all :
    (f : List ℕ → MixedAnswer) → ((ws : List ℕ) → ReadMixedSays ws (f ws)) → ((vs ws : List ℕ) → f vs ≡ f ws) → ⊥
unfolding mask_ok mixed_ok reflector_width mixed_head_refusal mixed_body_of read_mixed_of
one_mixed_reading_for_all f h same =
    omega (arith, ap (λ (r : MixedSaid). r.refusal) (sym (h []) ∙ ap mixed_said (same [] mixed_number_alone) ∙ h mixed_number_alone))

-- two neighbours with one function, whose normal plan has a sector less
abbrev joinable : Plan
joinable = filled (sector 3 1000 ∷ sector 3 2000 ∷ sector 1 3000 ∷ [])

step_8 : (p : Plan) → length p.sectors ≡ 8 → (normalised_of p 8).refusal ≡ 0 → T (is_step 8) × ValidPlan 8 p
step_8 p eight e = (answers_valid 8 p eight).zero.0 e

plan_handed_back : Normalises (λ step p. p) → ⊥
unfolding normalised_of plan_refusal is_step
plan_handed_back h =
    let v = step_8 joinable refl refl in
    let n = demand3 8 v.0 joinable v.1 in
    omega (arith, (h 8 v.0 joinable v.1).fewest (plan_back 8 joinable) n.valid n.runs_so)

-- the fresh plan begins at 0, and one with stop 0 at 8
one_fixed_plan : (q : Plan) → Normalises (λ step p. q) → ⊥
unfolding normalised_of plan_refusal is_step
one_fixed_plan q h =
    let v = step_8 fresh_plan refl refl in
    let w = step_8 (filled (sector 3 0 ∷ [])) refl refl in
    let first : List Shot → ℕ = λ run. (get_or run 0 no_shot).direction in
    omega (arith, ap first (sym (h 8 v.0 fresh_plan v.1).runs_so ∙ (h 8 w.0 (filled (sector 3 0 ∷ [])) w.1).runs_so))

pub stand_ins_shut_out : StandInsShutOut
stand_ins_shut_out =
    record {
      requests = requests;
      revolutions = revolutions;
      only_the_first_sector = only_the_first_sector;
      reader_refuses_all = reader_refuses_all;
      one_reading_for_all = one_reading_for_all;
      mixed_reader_refuses_all = mixed_reader_refuses_all;
      one_mixed_reading_for_all = one_mixed_reading_for_all;
      plan_handed_back = plan_handed_back;
      one_fixed_plan = one_fixed_plan;
    }
