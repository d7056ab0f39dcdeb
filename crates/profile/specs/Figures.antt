-- Rules, section 7: the P rows of profiles; and the rows of a listing of real heads. Proved in proofs/ProfileRows.antt.
use Rattle.std.specs.Prelude.{List, [], ◌∷◌, ℕ, ◌-◌, ◌*◌, replicate}
use Rattle.words.specs.Lists.{total}
use Rattle.words.specs.Rows.{Row, Shown}
use Rattle.units.specs.Directions.{circle, revolution_shots}
use Rattle.layout.specs.declared.Mask.{Mask}
use Rattle.layout.specs.Masks.{point_width}
use Rattle.layout.specs.Lengths.{profile_length}
use Rattle.plan.specs.declared.Plan.{Plan}
use Rattle.plan.specs.Sectors.{sector, filled, active_of}
use Rattle.plan.specs.Shots.{arcs}
use Rattle.plan.specs.Checks.{lit_shots, measure_error}
use Rattle.plan.specs.Figures.{two_sectors}
use Rattle.state.specs.Fresh.{fresh_plan, measuring}
use Rattle.profile.specs.Profiles.{Scan, scan}
use Rattle.profile.specs.Revolutions.{revolution_of}

-- so many shots, from start time 0, each of distance 0 and echo 0 (rule 7.5)
abbrev pub still : ℕ → Scan
still shots = scan 0 (replicate shots 0) (replicate shots 0)

abbrev pub profile_rows : List Row
profile_rows =
    -- the fresh plan's profile of mask 0120h: 724 words (rule 7.5)
    record {
      value = (revolution_of (measuring fresh_plan 8 10 (Mask.Plain 0x0120)) (still 720) 724).reply.count ∷ profile_length 0x0120 1 720 ∷ [];
      figure = 724 ∷ 724 ∷ [];
    }
    -- the two sectors at step 4 and 10 Hz, from start time 0: number, step, points, time and direction of the first shot and of the last,
    -- sector by sector (rule 7.6)
    ∷ record {
      value = (revolution_of (measuring two_sectors 4 10 (Mask.Plain 0x18F8)) (still 1440) 17).written;
      figure =
          0x8301 ∷ 0x18F8 ∷ 0x0102
          ∷ 0 ∷ 4 ∷ 0 ∷ 0 ∷ 3364 ∷ 67 ∷ 1436
          ∷ 1 ∷ 4 ∷ 481 ∷ 67 ∷ 1440 ∷ 100 ∷ 3360 ∷ [];
    }
    ∷ []

-- The listing's own configurations, document 002, 8.2.1, which real heads run. A scanned area of so many sixteenths of a degree, up to the
-- last direction: the whole circle is one sector, less of it comes behind one without measurement (rule 4.18)
abbrev pub whole_circle : ℕ → Plan
whole_circle step = filled (sector 3 (circle - step) ∷ [])

abbrev pub last_part : ℕ → ℕ → Plan
last_part area step = filled (sector 1 (circle - area - step) ∷ sector 3 (circle - step) ∷ [])

-- the first check that fails, words of points in a profile, lit shots a second, and shots a second (rule 4.18)
abbrev pub throughput : Plan → ℕ → ℕ → ℕ → List ℕ
throughput p step speed mask =
    measure_error p step speed
    ∷ total (λ a. a.points) (arcs step (active_of p)) * point_width mask
    ∷ speed * lit_shots p step
    ∷ speed * revolution_shots step
    ∷ []

-- 180, 270 and 360 degrees are 2880, 4320 and 5760 sixteenths, and 1/8, 3/16, 1/4, 3/8, 1/2 and 3/4 degree are steps 2, 3, 4, 6, 8 and 12
-- (rule 4.18)
abbrev pub listing_rows : List Row
listing_rows =
    record { value = throughput (last_part 2880 2) 2 5 0x3DFF; figure = 0 ∷ 2880 ∷ 7200 ∷ 14400 ∷ [] }
    ∷ record { value = throughput (last_part 4320 2) 2 5 0x39FF; figure = 0 ∷ 2160 ∷ 10800 ∷ 14400 ∷ [] }
    ∷ record { value = throughput (whole_circle 3) 3 5 0x39FF; figure = 0 ∷ 1920 ∷ 9600 ∷ 9600 ∷ [] }
    ∷ record { value = throughput (whole_circle 4) 4 7 0x3DFF; figure = 0 ∷ 2880 ∷ 10080 ∷ 10080 ∷ [] }
    ∷ record { value = throughput (whole_circle 6) 6 10 0x3DFF; figure = 0 ∷ 1920 ∷ 9600 ∷ 9600 ∷ [] }
    ∷ record { value = throughput (last_part 2880 4) 4 10 0x3DFF; figure = 0 ∷ 1440 ∷ 7200 ∷ 14400 ∷ [] }
    ∷ record { value = throughput (last_part 4320 4) 4 10 0x3DFF; figure = 0 ∷ 2160 ∷ 10800 ∷ 14400 ∷ [] }
    ∷ record { value = throughput (whole_circle 6) 6 11 0x3DFF; figure = 0 ∷ 1920 ∷ 10560 ∷ 10560 ∷ [] }
    ∷ record { value = throughput (last_part 2880 8) 8 20 0x3DFF; figure = 0 ∷ 720 ∷ 7200 ∷ 14400 ∷ [] }
    ∷ record { value = throughput (last_part 4320 8) 8 20 0x3DFF; figure = 0 ∷ 1080 ∷ 10800 ∷ 14400 ∷ [] }
    ∷ record { value = throughput (whole_circle 12) 12 20 0x3DFF; figure = 0 ∷ 960 ∷ 9600 ∷ 9600 ∷ [] }
    ∷ []

abbrev pub ProfileFigures : Type 0
ProfileFigures = Shown profile_rows

abbrev pub ListingFigures : Type 0
ListingFigures = Shown listing_rows
