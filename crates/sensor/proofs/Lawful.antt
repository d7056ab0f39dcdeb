-- The table's services, one by one: each is found by its code, and is fine. Every theorem of the table rests on this alone.
use mathlib.Core.Path.{◌≡◌, refl, subst}
use mathlib.Core.Bool.{Bool, true, false, or-false}
use mathlib.Core.List.{List, []}
use Prim.Native.Nat.{ℕ, ◌≤◌}
use lib.Dec.{T, ltb, leb, eqb}
use lib.ListN.{length, get_or}
use Rattle.std.specs.Prelude.{if◌then◌else◌}
use Rattle.words.proofs.Tests.{picked}
use Rattle.state.specs.declared.State.{State}
use Rattle.state.specs.declared.Mode.{Mode}
use Rattle.state.specs.declared.Mode.TheVariants.{Idle, Rotate, Measure}
use Rattle.state.specs.Changes.{Part}
use Rattle.state.specs.Replies.{Outcome}
use Rattle.state.proofs.SameParts.{same_in}
use Rattle.services.specs.Answers.{answer, longest}
use Rattle.services.specs.Configuration.{config_item}
use Rattle.services.proofs.Lawful.{Fine, stays}
use Rattle.services.proofs.Lawful as law
use Rattle.services.proofs.SettingsLawful as settings
use Rattle.services.proofs.MixedLawful as mixed
use Rattle.sensor.specs.declared.Service.{Service}
use Rattle.sensor.specs.declared.Miscount.{Miscount}
use Rattle.sensor.specs.declared.Miscount.TheVariants.{Refused, NoValues}
use Rattle.sensor.specs.Table.{row_of, response, service_of, allowed, outcome_of, silent, miscounted, is_refused, said_of}
use Rattle.sensor.specs.Requests.{outcome}
use Rattle.sensor.proofs.WrongCounts.{said_short}

-- the first word after the code has 16 bits, and the mode is listed
abbrev pub Asked : Service → State → ℕ → Type 0
Asked v s a = (a ≤ 65535) × T (allowed v s.mode)

-- what holds of a service's outcome, by its row and whichever response code it is told
abbrev pub FineRow : Service → State → ℕ → ℕ → ℕ → ℕ → ℕ → Outcome → Type 0
FineRow v s code a b c d o = Fine (silent v a b c d) code (row_of v).changes (Asked v s a) s o

pub record Lawful (v : Service) : Type 0 where
  pub found : service_of (row_of v).code ≡ v
  pub fine : (s : State) (code a b c d : ℕ) → FineRow v s code a b c d ((row_of v).does s code a b c d)

-- a mode that is not listed
unlisted : (v : Service) (s : State) (a : ℕ) (m : Mode) → (T (allowed v m) → ⊥) → Asked v s a → s.mode ≡ m → ⊥
unlisted v s a m n q e = n (subst (λ (m : Mode). T (allowed v m)) e q.1)

-- a profile is asked for in MEASURE only, plain or mixed
only_measure : (m : Mode) → T (allowed Service.GetProfile m) → m ≡ Measure
only_measure Idle h = absurd h
only_measure Rotate h = absurd h
only_measure Measure h = refl

pub lawful : (v : Service) → Lawful v
unfolding service_of
lawful Service.GetStatus = record { found = refl; fine = λ s r a b c d. stays r s _ refl tt refl }
lawful Service.GetSignal = record { found = refl; fine = λ s r a b c d. stays r s _ refl tt refl }
lawful Service.SetSignal = record { found = refl; fine = λ s r a b c d. law.signal_fine s r a }
lawful Service.SetConfig =
    record { found = refl; fine = λ s r a b c d. law.config_fine s r (unlisted Service.SetConfig s a Measure (λ h. h)) a b c d }
lawful Service.GetConfig =
    record {
      found = refl;
      fine = λ s r a b c d. picked (FineRow Service.GetConfig s r a b c d) (eqb a config_item) _ _ (stays r s _ refl tt refl) (stays r s _ refl tt refl);
    }
lawful Service.SetFunction =
    record { found = refl; fine = λ s r a b c d. law.function_fine s r (unlisted Service.SetFunction s a Measure (λ h. h)) a b c d }
lawful Service.GetFunction =
    record {
      found = refl;
      fine = λ s r a b c d. picked (FineRow Service.GetFunction s r a b c d) (ltb 7 a) _ _ (stays r s _ refl tt refl) (stays r s _ refl tt refl);
    }
lawful Service.GetProfile =
    record { found = refl; fine = λ s r a b c d. rw or-false (law.profile_fine s r a b (λ q. q.0) (λ q. only_measure s.mode q.1)) }
lawful Service.CancelProfile = record { found = refl; fine = λ s r a b c d. law.cancel_fine s r }
lawful Service.DoReset = record { found = refl; fine = λ s r a b c d. law.reset_fine s r a }
lawful Service.TransIdle = record { found = refl; fine = λ s r a b c d. law.idle_fine s r }
lawful Service.TransRotate = record { found = refl; fine = λ s r a b c d. law.rotate_fine s r a }
lawful Service.TransMeasure =
    record { found = refl; fine = λ s r a b c d. law.measure_fine s r (unlisted Service.TransMeasure s a Idle (λ h. h)) }
lawful Service.SetRotateDirection = record { found = refl; fine = λ s r a b c d. settings.rotation_fine s r a }
lawful Service.SetReflectorConfig = record { found = refl; fine = λ s r a b c d. settings.reflector_fine s r a b }
lawful Service.GetRotateDirection = record { found = refl; fine = λ s r a b c d. stays r s _ refl tt refl }
lawful Service.GetReflectorConfig = record { found = refl; fine = λ s r a b c d. stays r s _ refl tt refl }
lawful Service.GetMixedProfile =
    record { found = refl; fine = λ s r a b c d. mixed.mixed_profile_fine s r a b c (λ q. q.0) (λ q. only_measure s.mode q.1) }
lawful Service.CancelMixedProfile = record { found = refl; fine = λ s r a b c d. mixed.cancel_mixed_fine s r }
lawful Service.SavePermanent = record { found = refl; fine = λ s r a b c d. settings.save_fine s r }
lawful Service.Unknown = record { found = refl; fine = λ s r a b c d. stays r s [] refl tt refl }

-- an answer to a wrong number of words is fine in every row: it leaves the state
said_fine : (k : Miscount) (s : State) (code : ℕ) (changes : List Part) (Asked : Type 0) → T (leb (length (said_of k code)) longest)
    → Fine (is_refused k) code changes Asked s (answer s (said_of k code))
said_fine Refused s code changes Asked few = stays code s [] refl few (same_in changes s)
said_fine (NoValues times) s code changes Asked few = stays code s _ refl few (same_in changes s)

-- a request: its service, the response code, the row's answer to a wrong number of words, and what the service does with the right one
module _ (s : State) (ws : List ℕ) where
  abbrev v : Service
  v = service_of (get_or ws 0 0)

  abbrev code : ℕ
  code = response (row_of v).code

  abbrev said : Outcome
  said = answer s (said_of (row_of v).miscount code)

  abbrev done : Outcome
  done = outcome_of v s (get_or ws 1 0) (get_or ws 2 0) (get_or ws 3 0) (get_or ws 4 0)

  -- what holds of both holds of the outcome
  pub outcome_by : (P : Outcome → Type 0) → P said → P done → P (outcome s ws)
  unfolding outcome
  outcome_by P = picked P (miscounted v (length ws)) said done

  -- no word is due: the number of words is wrong and refused, or right and the service gives none
  abbrev unanswered : Bool → Bool
  unanswered wrong = if wrong then is_refused (row_of v).miscount else silent v (get_or ws 1 0) (get_or ws 2 0) (get_or ws 3 0) (get_or ws 4 0)

  abbrev FineSo : Bool → Outcome → Type 0
  FineSo wrong = Fine (unanswered wrong) code (row_of v).changes (Asked v s (get_or ws 1 0)) s

  -- so every outcome of a request is fine
  pub outcome_fine : FineSo (miscounted v (length ws)) (outcome s ws)
  unfolding outcome
  outcome_fine = go (miscounted v (length ws))
    where
      go : (wrong : Bool) → FineSo wrong (if wrong then said else done)
      go true = said_fine (row_of v).miscount s code (row_of v).changes (Asked v s (get_or ws 1 0)) (said_short (get_or ws 0 0) code)
      go false = (lawful v).fine s code (get_or ws 1 0) (get_or ws 2 0) (get_or ws 3 0) (get_or ws 4 0)
