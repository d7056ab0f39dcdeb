-- Technical: no rule stands here. Slips of a mixed profile that no edit says which keeps the form of the code: no call that makes one of them
-- meets the contract of `revolution`. Proved in proofs/MixedRefuted.antt.
use Rattle.std.specs.Prelude.{◌≡◌, List, [], ◌∷◌, ◌++◌, ℕ, drop, replicate, Result}
use Rattle.layout.specs.declared.Mask.{Mask}
use Rattle.state.specs.declared.State.{State}
use Rattle.state.specs.declared.Reply.{Reply}
use Rattle.state.specs.declared.Refusal.{Refusal}
use Rattle.state.specs.declared.Job.TheVariants.{Absent}
use Rattle.state.specs.Replies.{said}
use Rattle.state.specs.Fields.{with_drive}
use Rattle.state.specs.Fresh.{fresh_plan, measuring}
use Rattle.profile.specs.Profiles.{Scan, scan_with}
use Rattle.profile.specs.Revolutions.{RevolutionSays}

-- a reflector of which only time and mean echo are not 0; and two
abbrev pub timed : ℕ → ℕ → List ℕ
timed time echo = replicate 8 0 ++ (time ∷ echo ∷ 0 ∷ [])

abbrev pub two_timed : List ℕ
two_timed = timed 7 8 ++ timed 9 10

-- the fresh plan's shots, with these reflectors
abbrev pub shots_with : List ℕ → Scan
shots_with reflectors = scan_with 0 (replicate 720 0) (replicate 720 0) reflectors

-- the contract of a revolution by a mixed mask, with two reflectors, into a buffer of so many words
abbrev pub Mixed : ℕ → ℕ → ℕ → List ℕ → Result Reply Refusal → Type 0
Mixed high low room after r = RevolutionSays (measuring fresh_plan 8 10 (Mask.Mixed high low)) (shots_with two_timed) (replicate room 0) after r

-- a sensor that measures with a plain job, and one without a job
abbrev pub with_plain : State
with_plain = measuring fresh_plan 8 10 (Mask.Plain 1)

abbrev pub with_none : State
with_none = with_drive with_plain with_plain.mode with_plain.running Absent

pub record MixedSlips : Type 0 where
  -- the count behind the reflectors, which have their times: 2, 7, 9 is right
  pub count_behind : (r : Result Reply Refusal) (after : List ℕ) → Mixed 0x0011 0 7 after r → drop 4 after ≡ 7 ∷ 9 ∷ 2 ∷ [] → ⊥
  -- SENSTAT behind the count: 0, 3, 2 is right
  pub senstat_behind : (r : Result Reply Refusal) (after : List ℕ) → Mixed 0x0001 0x2000 7 after r → drop 4 after ≡ 2 ∷ 0 ∷ 3 ∷ [] → ⊥
  -- both times, then both mean echoes: 2, 7, 8, 9, 10 is right
  pub field_by_field : (r : Result Reply Refusal) (after : List ℕ) → Mixed 0x0031 0 9 after r → drop 4 after ≡ 2 ∷ 7 ∷ 9 ∷ 8 ∷ 10 ∷ [] → ⊥
  -- each reflector taken ten words behind the one before, so that the second's time is the word in front of it: 2, 7, 9 is right
  pub ten_words_apart : (r : Result Reply Refusal) (after : List ℕ) → Mixed 0x0011 0 7 after r → drop 4 after ≡ 2 ∷ 7 ∷ 0 ∷ [] → ⊥
  -- reflectors tested with a mixed job alone: a list of ten words taken with a plain job, and without a job
  pub untested_with_plain :
      (r : Result Reply Refusal) (after : List ℕ) → RevolutionSays with_plain (shots_with (replicate 10 0)) (replicate 4 0) after r → said r ≡ 0 → ⊥
  pub untested_without :
      (r : Result Reply Refusal) (after : List ℕ) → RevolutionSays with_none (shots_with (replicate 10 0)) [] after r → said r ≡ 0 → ⊥
