-- What goes by shots alone is so of a scan without its reflectors too.
use mathlib.Core.Path.{◌≡◌, refl}
use mathlib.Core.List.{List, [], ◌∷◌}
use Prim.Native.Nat.{ℕ, suc}
use Rattle.words.specs.Lists.{Each, none, this}
use Rattle.plan.specs.declared.Arc.{Arc}
use Rattle.state.specs.declared.State.{State}
use Rattle.profile.specs.Profiles.{Scan, scan, points_of, sector_of, sectors_of, arcs_of, rate_of, fields_of}
use Rattle.profile.specs.Asked.{ArcAsked}

-- the scan without its reflectors
abbrev pub alone : Scan → Scan
alone g = scan g.start g.distances g.echoes

sector_alone : (mask step rate : ℕ) (g : Scan) (number : ℕ) (a : Arc)
    → sector_of mask step rate g number a ≡ sector_of mask step rate (alone g) number a
unfolding points_of
sector_alone mask step rate g number a = refl

sectors_alone : (mask step rate : ℕ) (g : Scan) (number : ℕ) (l : List Arc)
    → sectors_of mask step rate g number l ≡ sectors_of mask step rate (alone g) number l
sectors_alone mask step rate g number [] = refl
sectors_alone mask step rate g number (a ∷ l) =
    (λ j. sector_alone mask step rate g number a j ∷ sectors_alone mask step rate g (suc number) l j)

pub fields_alone : (s : State) (g : Scan) (mask sent counter : ℕ) → fields_of s g mask sent counter ≡ fields_of s (alone g) mask sent counter
fields_alone s g mask sent counter = rw (sectors_alone mask s.step.0 (rate_of s) g 0 (arcs_of s))

pub arcs_alone : (g : Scan) {l : List Arc} → Each (ArcAsked g) l → Each (ArcAsked (alone g)) l
arcs_alone g none = none
arcs_alone g (this h e) =
    this
    record { points = h.points; some_shot = h.some_shot; numbered = h.numbered; distances = h.distances; echoes = h.echoes }
    (arcs_alone g e)
