-- The writers of points and of a sector: room for each part, and what stands in the buffer when it is written.
use mathlib.Core.Path.{◌≡◌}
use mathlib.Core.List.{List, ◌++◌}
use Prim.Native.Nat.{ℕ, ◌+◌, ◌-◌, ◌≤◌, ◌<◌}
use native.Mathlib.Omega.{arith}
use lib.ListN.{length, get_or, take, drop}
use Rattle.words.specs.Buffers.{in_turn, Wrote, Put}
use Rattle.words.proofs.Puts.{and_put, and_lent, turn_fits, turns_all, put_first}
use Rattle.units.specs.declared.Time.{Time}
use Rattle.units.specs.Directions.{steps_past}
use Rattle.units.specs.Times.{shot_time}
use Rattle.plan.specs.declared.Arc.{Arc}
use Rattle.layout.specs.Layout.{layout_sector}
use Rattle.profile.specs.Points.{point_words}
use Rattle.profile.specs.Profiles.{Scan, point_at, points_of, sector_of}
use Rattle.profile.specs.Asked.{opening_words, closing_words, PointsAsked, SectorAsked}

-- `write_points`
module _ (mask step : ℕ) (g : Scan) (a : Arc) (i to : ℕ) {d₀ d : List ℕ} (asked : PointsAsked mask step g a d₀)
    (so_far : Put (in_turn (point_at mask step g a) i) d₀ 0 d to) where
  all_room : 0 + length (in_turn (point_at mask step g a) a.points) ≤ length d₀
  unfolding points_of
  all_room = omega (arith, asked.room)

  pub point_room : i < a.points → (dir : ℕ) → dir ≡ steps_past step i a.first.0
      → to + length (point_words mask (get_or g.distances (a.shot + i) 0) dir (get_or g.echoes (a.shot + i) 0)) ≤ length d
  point_room h dir e = rw e (turn_fits (point_at mask step g a) a.points all_room so_far h)

  pub points_done : i ≤ a.points → a.points ≤ i → Wrote (points_of mask step g a) d₀ d to
  unfolding points_of
  points_done h k = put_first (turns_all (point_at mask step g a) a.points all_room so_far h k)

-- `write_sector`: what is asked, with the times of its first shot and of its last
module _ {mask step rate : ℕ} {g : Scan} {number : ℕ} {a : Arc} {d₀ : List ℕ} {t u : Time} (asked : SectorAsked mask step rate g number a d₀)
    (first : t.0 ≡ shot_time g.start rate a.shot) (last : u.0 ≡ shot_time g.start rate (a.shot + a.shots - 1)) where
  abbrev opens : List ℕ
  opens = opening_words mask number step a.points t.0 a.first.0

  abbrev closes : List ℕ
  closes = closing_words mask u.0 a.last.0

  module _ {d part : List ℕ} {at n : ℕ} (put : Put opens d₀ 0 d at)
      (filled : Wrote (points_of mask step g a) (take (length d - at) (drop at d)) part n) where
    -- the buffer when the part is back
    abbrev back : List ℕ
    back = take at d ++ (part ++ drop (length d - at) (drop at d))

    both : Wrote (opens ++ points_of mask step g a) d₀ back (at + n)
    unfolding points_of
    both = and_lent (put_first put) filled

    pub sector_done : {d' : List ℕ} {r : ℕ} → Put closes back (at + n) d' r → Wrote (layout_sector (sector_of mask step rate g number a)) d₀ d' r
    sector_done p = rw (first, last) at (and_put both p)
