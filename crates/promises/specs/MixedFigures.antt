-- Rules, section 7: the P rows of mixed profiles. They stand here and not in `profile`, since the words of whole profiles take seconds to compute,
-- which each of its edits would pay. Proved in proofs/MixedRows.antt.
use Rattle.std.specs.Prelude.{List, [], ◌∷◌, ◌++◌, ℕ, zero, suc, take, drop}
use Rattle.words.specs.Rows.{Row, Shown}
use Rattle.layout.specs.declared.Mask.{Mask}
use Rattle.state.specs.declared.Job.TheVariants.{Absent}
use Rattle.state.specs.Fields.{with_drive}
use Rattle.state.specs.Fresh.{fresh_plan, measuring}
use Rattle.state.specs.Replies.{Effect}
use Rattle.profile.specs.Profiles.{Scan, scan_with}
use Rattle.profile.specs.Revolutions.{revolution_of}

-- so many numbers, each one more than the one before it (rule 7.15)
abbrev pub rising : ℕ → ℕ → List ℕ
rising first zero = []
rising first (suc n) = first ∷ rising (suc first) n

-- the fresh plan from start time 1000, with these reflectors (rule 7.15)
abbrev pub seen : List ℕ → Scan
seen reflectors = scan_with 1000 (rising 2000 720) (rising 3000 720) reflectors

abbrev pub two_reflectors : List ℕ
two_reflectors = rising 101 11 ++ rising 201 11

abbrev pub mixed_revolution : ℕ → ℕ → List ℕ → Effect
mixed_revolution high low reflectors = revolution_of (measuring fresh_plan 8 10 (Mask.Mixed high low)) (seen reflectors) 2199

-- a revolution's number for no with a mixed job, with a plain one, and without a job (rule 7.16)
abbrev pub by_jobs : List ℕ → List ℕ
by_jobs reflectors =
    let idle = measuring fresh_plan 8 10 (Mask.Plain 1) in
    (mixed_revolution 1 0 reflectors).reply.refusal
    ∷ (revolution_of idle (seen reflectors) 2199).reply.refusal
    ∷ (revolution_of (with_drive idle idle.mode idle.running Absent) (seen reflectors) 2199).reply.refusal
    ∷ []

abbrev pub mixed_rows : List Row
mixed_rows =
    -- a mixed profile with all its bits and two reflectors: how many words it has, its first ones, and its last ones (rule 7.15)
    record { value = (mixed_revolution 0x007D 0x3FFF two_reflectors).reply.count ∷ []; figure = 2199 ∷ [] }
    ∷ record {
      value = take 18 (mixed_revolution 0x007D 0x3FFF two_reflectors).written;
      figure =
          0x9301 ∷ 0x007D ∷ 0x3FFF ∷ 0x0101
          ∷ 1 ∷ 1 ∷ 1
          ∷ 0 ∷ 8 ∷ 720 ∷ 1000 ∷ 0
          ∷ 2000 ∷ 0 ∷ 3000
          ∷ 2001 ∷ 8 ∷ 3001 ∷ [];
    }
    ∷ record {
      value = drop 2169 (mixed_revolution 0x007D 0x3FFF two_reflectors).written;
      figure =
          2719 ∷ 5752 ∷ 3719
          ∷ 1100 ∷ 5752
          ∷ 0 ∷ 3
          ∷ 2
          ∷ 101 ∷ 102 ∷ 103 ∷ 104 ∷ 105 ∷ 106 ∷ 107 ∷ 108 ∷ 109 ∷ 110 ∷ 111
          ∷ 201 ∷ 202 ∷ 203 ∷ 204 ∷ 205 ∷ 206 ∷ 207 ∷ 208 ∷ 209 ∷ 210 ∷ 211 ∷ [];
    }
    -- bit 16 alone: with two reflectors, and with 64 (rule 7.16)
    ∷ record { value = (mixed_revolution 1 0 two_reflectors).written; figure = 0x9301 ∷ 1 ∷ 0 ∷ 0x0101 ∷ 2 ∷ [] }
    ∷ record { value = (mixed_revolution 1 0 (rising 0 704)).written; figure = 0x9301 ∷ 1 ∷ 0 ∷ 0x0101 ∷ 64 ∷ [] }
    -- 65 reflectors, and a list of 10 words: refused by 27, with a mixed job, with a plain one, and without a job (rule 7.16)
    ∷ record { value = by_jobs (rising 0 715); figure = 27 ∷ 27 ∷ 27 ∷ [] }
    ∷ record { value = by_jobs (rising 0 10); figure = 27 ∷ 27 ∷ 27 ∷ [] }
    ∷ []

abbrev pub MixedFigures : Type 0
MixedFigures = Shown mixed_rows
