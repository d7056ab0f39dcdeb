-- What holds of every service, and the laws from which it is shown: one for each way to set the state, and one for a test. A new service
-- cites them.
use mathlib.Core.Path.{◌≡◌, refl, sym, ap}
use mathlib.Core.Bool.{Bool, true, false, ◌||◌}
use mathlib.Core.List.{List, [], ◌∷◌, ◌++◌}
use Prim.Native.Nat.{ℕ, zero, suc, ◌+◌, ◌%◌, ◌≤◌}
use native.Mathlib.Omega.{arith}
use lib.Dec.{T, ltb, leb, eqb, leb→le, le→leb, eqb→eq}
use lib.ListN.{length, take, length-set}
use borrow.Author.Tests.{ne_eqb, lt-ltb, eqb-false, not-true}
use Rattle.units.specs.Directions.{circle}
use Rattle.std.specs.Prelude.{if◌then◌else◌}
use Rattle.words.proofs.Tests.{and_l, and_r, and_both, holds}
use Rattle.layout.specs.declared.Kind.{Kind}
use Rattle.layout.specs.declared.Mask.{Mask}
use Rattle.layout.specs.Masks.{cleared}
use Rattle.layout.specs.MixedMasks.{admitted}
use Rattle.layout.proofs.MaskTests.{cleared_ok}
use Rattle.plan.specs.declared.Plan.{Plan}
use Rattle.plan.specs.Sectors.{sector, is_function, entry_in_range, plan_in_range}
use Rattle.plan.specs.Checks.{measure_error}
use Rattle.plan.proofs.EntrySet.{entry_set}
use Rattle.state.specs.declared.State.{State}
use Rattle.state.specs.declared.Mode.{Mode}
use Rattle.state.specs.declared.Mode.TheVariants.{Idle, Rotate, Measure}
use Rattle.state.specs.declared.Job.{Job}
use Rattle.state.specs.declared.Job.TheVariants.{Absent, Counted, Endless}
use Rattle.state.specs.Jobs.{has_kind}
use Rattle.state.specs.Changes.{Part, only_in}
use Rattle.state.specs.Changes as part
use Rattle.state.specs.Nav300.{restored}
use Rattle.state.specs.Fields.{with_config, with_plans, with_drive, with_port, with_counter}
use Rattle.state.specs.Ranges.{speed_ok, config_ok, running_ok, checks_ok, job_ok}
use Rattle.state.specs.Replies.{Outcome}
use Rattle.state.proofs.SettingsParts.{InRanges}
use Rattle.state.proofs.Parts.{Parts, stored_of, settings_of_lem, config_set, plans_set, drive_set, port_set, counter_set, settings_set}
use Rattle.services.specs.Answers.{answer, answer_status, senstat, longest}
use Rattle.services.specs.Configuration.{config_item, config_taken, set_config, sector_set, function_set, stop_set, working_set, set_function}
use Rattle.services.specs.Measurement.{new_job, starts_job, get_profile, cancelled, cancel_profile}
use Rattle.services.specs.Status.{set_signal}
use Rattle.services.specs.Working.{drive_parts, reset_parts, idle_of, cold_of, stop_measure, do_reset, trans_idle, trans_rotate, trans_measure}

-- the response code is the first word, or there is none at all where none is due
abbrev pub Responds : Bool → ℕ → List ℕ → Type 0
Responds true code ws = ws ≡ []
Responds false code ws = take 1 ws ≡ code ∷ []

-- both plans have eight entries
abbrev pub Eight : State → Type 0
Eight s = (length s.working.sectors ≡ 8) × (length s.stored.sectors ≡ 8)

-- of a service's outcome: its code, its length; that it changes some parts and no other, of a state in its ranges; the plans' entries; and
-- the ranges, where what is asked holds.
pub record Fine (silent : Bool) (code : ℕ) (changes : List Part) (Asked : Type 0) (s : State) (o : Outcome) : Type 0 where
  pub responds : Responds silent code o.words
  pub short : length o.words ≤ longest
  pub only : Parts s → o.after ≡ only_in changes s o.after
  pub eight : Eight s → Eight o.after
  pub kept : Asked → Parts s → Parts o.after

-- by a test
pub chosen : {A B : Type 0} (P : B → Type 0) (f : A → B) (b : Bool) (x y : A)
    → (b ≡ true → P (f x)) → (b ≡ false → P (f y)) → P (f (if b then x else y))
chosen P f true x y h k = h refl
chosen P f false x y h k = k refl

-- by the way in which the state is set
module _ {silent : Bool} {changes : List Part} {Asked : Type 0} (code : ℕ) (s : State) (ws : List ℕ)
    (first : Responds silent code ws) (few : T (leb (length ws) longest)) where
  pub sets : (t : State) → (Parts s → t ≡ only_in changes s t) → (Eight s → Eight t) → (Asked → Parts s → Parts t)
      → Fine silent code changes Asked s (answer t ws)
  sets t o e p = record { responds = first; short = leb→le (length ws) longest few; only = o; eight = e; kept = p }

  pub stays : s ≡ only_in changes s s → Fine silent code changes Asked s (answer s ws)
  stays o = sets s (λ _. o) (λ h. h) (λ _ p. p)

  pub sets_port : (port : ℕ) → with_port s port ≡ only_in changes s (with_port s port) → Fine silent code changes Asked s (answer (with_port s port) ws)
  sets_port port o = sets (with_port s port) (λ _. o) (λ h. h) (λ _ p. port_set s p port)

  pub sets_drive : (m : Mode) (r : ℕ) (j : Job) → (Parts s → with_drive s m r j ≡ only_in changes s (with_drive s m r j))
      → (Asked → Parts s → T (running_ok m r) × T (checks_ok m s.working s.step.0 r) × T (job_ok m j))
      → Fine silent code changes Asked s (answer (with_drive s m r j) ws)
  sets_drive m r j o h = sets (with_drive s m r j) o (λ h. h) (λ q p. drive_set s p m r j (h q p).0 (h q p).1 (h q p).2)

-- the function that SET_FUNCTION sets is one that an entry may have
function_ok : (f : ℕ) → T (eqb (function_set f) 0 || is_function (function_set f))
function_ok zero = tt
function_ok (suc zero) = tt
function_ok (suc (suc zero)) = tt
function_ok (suc (suc (suc zero))) = tt
function_ok (suc (suc (suc (suc zero)))) = tt
function_ok (suc (suc (suc (suc (suc n))))) =
    rw (ne_eqb (suc (suc (suc (suc (suc n))))) 2 (λ e. omega arith), lt-ltb 4 (suc (suc (suc (suc (suc n))))) (omega arith)) tt

entry_ok : (function stop : ℕ) → T (entry_in_range (sector (function_set function) (stop_set stop)))
unfolding entry_in_range
entry_ok function stop = search (and_both, function_ok function, holds (lt-ltb (stop % circle) circle (omega arith)))

-- a job that may stand in a mode may stand in MEASURE, and in another mode there is none
job_measures : (m : Mode) (j : Job) → T (job_ok m j) → T (job_ok Measure j)
job_measures m Absent h = tt
job_measures Idle (Counted left mask sent) h = absurd h
job_measures Idle (Endless mask sent) h = absurd h
job_measures Rotate (Counted left mask sent) h = absurd h
job_measures Rotate (Endless mask sent) h = absurd h
job_measures Measure (Counted left mask sent) h = h
job_measures Measure (Endless mask sent) h = h

no_job : (m : Mode) (j : Job) → T (job_ok m j) → (m ≡ Measure → ⊥) → j ≡ Absent
no_job m Absent h n = refl
no_job Idle (Counted left mask sent) h n = absurd h
no_job Idle (Endless mask sent) h n = absurd h
no_job Rotate (Counted left mask sent) h n = absurd h
no_job Rotate (Endless mask sent) h n = absurd h
no_job Measure (Counted left mask sent) h n = absurd (n refl)
no_job Measure (Endless mask sent) h n = absurd (n refl)

-- a new job may stand in MEASURE, where its mask is one that a job may have
new_job_ok : (number : ℕ) (mask : Mask) → number ≤ 65535 → T (admitted mask) → T (job_ok Measure (new_job number mask))
new_job_ok number mask l k = go (eqb number 0) refl
  where
    go : (b : Bool) → eqb number 0 ≡ b → T (job_ok Measure (if b then Endless mask 0 else Counted number mask 0))
    go true e = k
    go false e =
        let some = le→leb 1 number (omega (arith, eqb-false number 0 e)) in
        let most = le→leb (number + 0) 65535 (omega arith) in
        search and_both

-- the running speed of a mode that turns
turning : (m : Mode) (running : ℕ) → (m ≡ Idle → ⊥) → T (running_ok m running) → T (speed_ok running)
turning Idle running n h = absurd (n refl)
turning Rotate running n h = h
turning Measure running n h = h

speed_of : (id speed step : ℕ) → T (config_ok id speed step) → T (speed_ok speed)
unfolding config_ok
speed_of id speed step h = search (and_l, and_r)

-- outside MEASURE no check of the plan is asked, and in it all are passed
unchecked : (m : Mode) (working : Plan) (step running : ℕ) → (m ≡ Measure → ⊥) → T (checks_ok m working step running)
unchecked Idle working step running n = tt
unchecked Rotate working step running n = tt
unchecked Measure working step running n = absurd (n refl)

checked : (m : Mode) (working : Plan) (step running : ℕ) → m ≡ Measure
    → T (checks_ok m working step running) → measure_error working step running ≡ 0
checked m working step running e h =
    let c : T (eqb (measure_error working step running) 0) = rw e at h in
    eqb→eq (measure_error working step running) 0 c

-- The services that change the state

module _ {Asked : Type 0} (s : State) (code : ℕ) where
  pub signal_fine : (word : ℕ) → Fine false code (part.port ∷ []) Asked s (set_signal s code word)
  signal_fine word = sets_port code s _ refl tt _ refl

  pub config_fine : (Asked → s.mode ≡ Measure → ⊥) → (item id speed step : ℕ)
      → Fine false code (part.config ∷ []) Asked s (set_config s code item id speed step)
  config_fine m item id speed step =
      chosen (Fine false code (part.config ∷ []) Asked s) (λ o. o) (config_taken item id speed step) _ _
      (λ e. sets code s _ refl tt (with_config s id speed step) (λ _. refl) (λ h. h)
      (λ q p. config_set s p id speed step (ranges e) (unchecked s.mode s.working step s.running (m q))))
      (λ _. stays code s _ refl tt refl)
    where
      ranges : config_taken item id speed step ≡ true → T (config_ok id speed step)
      ranges e = and_r (eqb item config_item) (config_ok id speed step) (holds e)

  pub function_fine : (Asked → s.mode ≡ Measure → ⊥) → (number function stop flash : ℕ)
      → Fine false code (part.working ∷ part.stored ∷ []) Asked s (set_function s code number function stop flash)
  function_fine m number function stop flash =
      chosen (Fine false code (part.working ∷ part.stored ∷ []) Asked s) (λ t. answer (with_plans s w t) words) (eqb flash 1) w s.stored
      (λ _. set w (λ h. long h.0) (λ p. ok p)) (λ _. set s.stored (λ h. h.1) (λ p. stored_of s p))
    where
      w : Plan
      w = working_set s number function stop

      words : List ℕ
      words = code ∷ sector_set number ∷ function_set function ∷ stop_set stop ∷ []

      long : length s.working.sectors ≡ 8 → length w.sectors ≡ 8
      long h = rw length-set h

      ok : Parts s → T (plan_in_range w)
      ok p = entry_set s.working (sector_set number) (sector (function_set function) (stop_set stop)) p.working (entry_ok function stop)

      set : (t : Plan) → (Eight s → length t.sectors ≡ 8) → (Parts s → T (plan_in_range t))
          → Fine false code (part.working ∷ part.stored ∷ []) Asked s (answer (with_plans s w t) words)
      set t l k =
          sets code s words refl tt (with_plans s w t) (λ _. refl) (λ h. (long h.0, l h))
          (λ q p. plans_set s p w t (ok p) (k p) (unchecked s.mode w s.step.0 s.running (m q)))

  -- a job starts, or words are answered: whatever the mask's kind, where it is one that a job may have
  pub starts_fine : (starts : Bool) (number : ℕ) (mask : Mask) (ws : List ℕ) → Responds false code ws → T (leb (length ws) longest)
      → (starts ≡ true → T (admitted mask)) → (Asked → number ≤ 65535) → (Asked → s.mode ≡ Measure)
      → Fine starts code (part.job ∷ []) Asked s
      (if starts then answer (with_drive s s.mode s.running (new_job number mask)) [] else answer s ws)
  starts_fine true number mask ws first few k l m =
      sets_drive code s [] refl tt s.mode s.running (new_job number mask) (λ _. refl)
      (λ q p. (p.running, p.checks, rw (m q) (new_job_ok number mask (l q) (k refl))))
  starts_fine false number mask ws first few k l m = stays code s ws first few refl

  pub profile_fine : (number mask : ℕ) → (Asked → number ≤ 65535) → (Asked → s.mode ≡ Measure)
      → Fine (starts_job mask) code (part.job ∷ []) Asked s (get_profile s code number mask)
  profile_fine number mask =
      starts_fine (starts_job mask) number (Mask.Plain (cleared mask)) (code ∷ []) refl tt (λ e. cleared_ok mask (not-true (eqb (cleared mask) 0) e))

  -- a job of the kind ends, and words are answered of the state behind
  pub cancelled_fine : (kind : Kind) (ws : State → List ℕ) → ((t : State) → Responds false code (ws t))
      → ((t : State) → T (leb (length (ws t)) longest))
      → Fine false code (part.job ∷ []) Asked s (answer (cancelled kind s) (ws (cancelled kind s)))
  cancelled_fine kind ws first few =
      chosen (Fine false code (part.job ∷ []) Asked s) (λ t. answer t (ws t)) (has_kind kind s.job) _ _
      (λ _. sets_drive code s _ (first _) (few _) s.mode s.running Absent (λ _. refl) (λ _ p. (p.running, p.checks, tt)))
      (λ _. stays code s _ (first s) (few s) refl)

  pub cancel_fine : Fine false code (part.job ∷ []) Asked s (cancel_profile s code)
  cancel_fine = cancelled_fine Kind.Plain (λ t. code ∷ senstat t) (λ _. refl) (λ _. tt)

  pub reset_fine : (level : ℕ) → Fine false code reset_parts Asked s (do_reset s code level)
  reset_fine level =
      chosen (Fine false code reset_parts Asked s) (λ t. answer t words) (ltb level 2) _ _ (λ _. cold)
      (λ _. chosen (Fine false code reset_parts Asked s) (λ t. answer t words) (eqb level 2) _ _
      (λ _. stop s.mode refl) (λ _. stays code s words refl tt refl))
    where
      words : List ℕ
      words = code ∷ level ∷ []

      idle : Parts s → Parts (idle_of s)
      idle p = drive_set s p Idle 0 Absent tt tt tt

      planned : State
      planned = with_plans (idle_of s) s.stored s.stored

      plans : Parts s → Parts planned
      plans p = plans_set (idle_of s) (idle p) s.stored s.stored (stored_of s p) (stored_of s p) tt

      cleared : State
      cleared = with_counter (with_port planned 0) 0

      taken_back : Parts s → InRanges (restored s.settings)
      taken_back p = let n = settings_of_lem s p in record { rotation = n.rotation; working = n.stored; stored = n.stored }

      cold : Fine false code reset_parts Asked s (answer (cold_of s) words)
      cold =
          sets code s words refl tt (cold_of s) (λ _. refl) (λ h. (h.1, h.1))
          (λ _ p. settings_set cleared (counter_set (with_port planned 0) (port_set planned (plans p) 0) 0) _ (taken_back p))

      stop : (m : Mode) → s.mode ≡ m → Fine false code reset_parts Asked s (answer (stop_measure s m) words)
      stop Idle e = stays code s words refl tt refl
      stop Rotate e = stays code s words refl tt refl
      stop Measure e = sets_drive code s words refl tt Rotate s.running Absent (λ _. refl) (λ _ p. (rw e at p.running, tt, tt))

  pub idle_fine : Fine false code drive_parts Asked s (trans_idle s code)
  idle_fine = sets_drive code s _ refl tt Idle 0 Absent (λ _. refl) (λ _ _. (tt, tt, tt))

  pub rotate_fine : (speed : ℕ) → Fine false code drive_parts Asked s (trans_rotate s code speed)
  rotate_fine speed =
      chosen (Fine false code drive_parts Asked s) (λ t. answer_status code t) (eqb speed 0) _ _
      (λ _. turn s.speed (λ p. speed_of s.id s.speed s.step.0 p.config))
      (λ _. chosen (Fine false code drive_parts Asked s) (λ t. answer_status code t) (speed_ok speed) _ _ (λ e. turn speed (λ _. holds e))
      (λ _. sets_drive code s _ refl tt Idle 0 Absent (λ _. refl) (λ _ _. (tt, tt, tt))))
    where
      turn : (r : ℕ) → (Parts s → T (speed_ok r)) → Fine false code drive_parts Asked s (answer_status code (with_drive s Rotate r Absent))
      turn r h = sets_drive code s _ refl tt Rotate r Absent (λ _. refl) (λ _ p. (h p, tt, tt))

  -- only the mode: where it fails there was no job to end
  pub measure_fine : (Asked → s.mode ≡ Idle → ⊥) → Fine false code (part.mode ∷ []) Asked s (trans_measure s code)
  measure_fine n =
      chosen (Fine false code (part.mode ∷ []) Asked s) (λ t. answer t ((code ∷ senstat t) ++ (error ∷ []))) (eqb error 0) _ _
      (λ e. sets_drive code s _ refl tt Measure s.running s.job (λ _. refl) (λ q p. (speed q p, holds e, job_measures s.mode s.job p.job)))
      (λ e. sets_drive code s _ refl tt Rotate s.running Absent (λ p. none p e) (λ q p. (speed q p, tt, tt)))
    where
      error : ℕ
      error = measure_error s.working s.step.0 s.running

      speed : Asked → Parts s → T (speed_ok s.running)
      speed q p = turning s.mode s.running (n q) p.running

      none : Parts s → eqb error 0 ≡ false → with_drive s Rotate s.running Absent ≡ with_drive s Rotate s.running s.job
      none p e =
          ap (λ (j : Job). with_drive s Rotate s.running j)
          (sym (no_job s.mode s.job p.job (λ m. eqb-false error 0 e (checked s.mode s.working s.step.0 s.running m p.checks))))
