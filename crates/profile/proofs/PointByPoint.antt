-- A block of distances in front of one of directions makes other words than the layout, and so does the next shot's echo.
use mathlib.Core.Path.{◌≡◌, sym, ap, ◌∙◌}
use mathlib.Core.List.{List}
use Prim.Native.Nat.{ℕ}
use native.Mathlib.Omega.{arith}
use lib.ListN.{get_or}
use Rattle.words.specs.Buffers.{over, in_turn}
use Rattle.profile.specs.Points.{point_words}
use Rattle.profile.specs.Profiles.{points_of}
use Rattle.profile.specs.Demands.{NotAsBlocks, NotLaterEchoes}

-- behind the first distance: the second one, and not the first direction
pub not_as_blocks : NotAsBlocks
unfolding over in_turn points_of point_words
not_as_blocks before after count blocks points =
    let second : ◌≡◌ {A = ℕ} 2 16 = ap (λ (l : List ℕ). get_or l 1 0) (sym blocks.words ∙ points.words) in
    absurd (omega (arith, second))

-- the first point's echo
pub not_later_echoes : NotLaterEchoes
unfolding over in_turn points_of point_words
not_later_echoes before after count later points =
    let first : ◌≡◌ {A = ℕ} 4 3 = ap (λ (l : List ℕ). get_or l 2 0) (sym later.words ∙ points.words) in
    absurd (omega (arith, first))
