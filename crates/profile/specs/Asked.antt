-- Technical: no rule stands here. What the inner writers ask of their callers, and the words that each puts. No outside caller meets these.
use Rattle.std.specs.Prelude.{◌≡◌, List, [], ◌++◌, ℕ, ◌+◌, ◌≤◌, ◌<◌, T, length, if◌then◌else◌}
use Rattle.words.specs.Lists.{Each}
use Rattle.words.specs.Bits.{bit}
use Rattle.words.specs.Words.{laid_all}
use Rattle.layout.specs.Bits as bits
use Rattle.layout.specs.declared.Mask.{Mask}
use Rattle.layout.specs.Fields.{Fields}
use Rattle.layout.specs.MixedMasks.{mixed_number, kind_of}
use Rattle.layout.specs.Layout.{layout_sector, head, contour}
use Rattle.layout.specs.Mixed.{kind_numbers, mixed_head}
use Rattle.plan.specs.declared.Arc.{Arc}
use Rattle.plan.specs.declared.Plan.{Plan}
use Rattle.plan.specs.Sectors.{active_of}
use Rattle.plan.specs.Shots.{arcs}
use Rattle.state.specs.declared.State.{State}
use Rattle.state.specs.declared.Job.{Job}
use Rattle.state.specs.declared.Job.TheVariants.{Absent, Counted, Endless}
use Rattle.state.specs.Ranges.{is_measure, in_range}
use Rattle.state.specs.Replies.{Outcome}
use Rattle.profile.specs.Points.{selected}
use Rattle.profile.specs.Profiles.{Scan, points_of, sector_of, sectors_of, arcs_of, fields_of}
use Rattle.profile.specs.Mixed.{with_layer, reflectors_given, reflectors_of}
use Rattle.profile.specs.Revolutions.{risen, profile_by, turned, lists_fit, reflectors_fit}

-- words where their bit of the mask is set
abbrev pub chosen : ℕ → ℕ → List ℕ → List ℕ
chosen mask k ws = if bit mask k then ws else []

-- the words of a sector before its points, and behind them
abbrev pub opening_words : ℕ → ℕ → ℕ → ℕ → ℕ → ℕ → List ℕ
opening_words mask number step points tstart startdir =
    selected mask bits.number number
    ++ selected mask bits.step step
    ++ selected mask bits.points points
    ++ selected mask bits.tstart tstart
    ++ selected mask bits.startdir startdir

abbrev pub closing_words : ℕ → ℕ → ℕ → List ℕ
closing_words mask tend enddir = selected mask bits.tend tend ++ selected mask bits.enddir enddir

-- the words of a profile between its head and its sectors, and behind them
abbrev pub front_words : ℕ → ℕ → ℕ → ℕ → List ℕ
front_words mask sent counter layer = selected mask bits.sent sent ++ selected mask bits.counter counter ++ selected mask bits.layer layer

abbrev pub status_words : ℕ → ℕ → List ℕ
status_words mask status = selected mask bits.senstat 0 ++ selected mask bits.senstat status

-- an arc of at least one shot, whose shots are among those of the lists and have numbers of 16 bits
pub record ArcAsked (g : Scan) (a : Arc) : Type 0 where
  pub points : a.points ≤ a.shots
  pub some_shot : 1 ≤ a.shots
  pub numbered : a.shot + a.shots < 65536
  pub distances : a.shot + a.shots ≤ length g.distances
  pub echoes : a.shot + a.shots ≤ length g.echoes

pub record PointsAsked (mask step : ℕ) (g : Scan) (a : Arc) (out : List ℕ) : Type 0 where
  pub arc : ArcAsked g a
  pub room : length (points_of mask step g a) ≤ length out

pub record SectorAsked (mask step rate : ℕ) (g : Scan) (number : ℕ) (a : Arc) (out : List ℕ) : Type 0 where
  pub arc : ArcAsked g a
  pub room : length (layout_sector (sector_of mask step rate g number a)) ≤ length out

-- the words of a plan's sectors
abbrev pub sectors_words : ℕ → ℕ → ℕ → Scan → Plan → List ℕ
sectors_words mask step rate g p = laid_all layout_sector (sectors_of mask step rate g 0 (arcs step (active_of p)))

-- the arcs of a plan, each with its shots in the lists, and room for all sectors from a place on
pub record SectorsAsked (mask step rate : ℕ) (g : Scan) (p : Plan) (from : ℕ) (out : List ℕ) : Type 0 where
  pub eight : length p.sectors ≡ 8
  pub arcs_in : Each (ArcAsked g) (arcs step (active_of p))
  pub room : from + length (sectors_words mask step rate g p) ≤ length out

-- the contour of a profile of either kind: its fields, its words, and what is asked for it from a place on
abbrev pub contour_fields : State → Scan → ℕ → ℕ → ℕ → ℕ → Fields
contour_fields s g mask layer sent counter = with_layer layer (fields_of s g mask sent counter)

pub record ContourAsked (s : State) (g : Scan) (mask layer sent counter from : ℕ) (out : List ℕ) : Type 0 where
  pub eight : length s.working.sectors ≡ 8
  pub arcs_in : Each (ArcAsked g) (arcs_of s)
  pub room : from + length (contour (contour_fields s g mask layer sent counter)) ≤ length out

-- the reflectors of a list, and the words behind a contour: how many there are, and theirs
abbrev pub reflector_part_of : ℕ → List ℕ → List ℕ
reflector_part_of mask l = selected mask bits.reflectors (reflectors_given l) ++ reflectors_of mask l

-- by a mask: the words that depend on no bit, the layer, and the words behind the contour
abbrev pub head_by : Mask → ℕ → List ℕ
head_by (Mask.Plain word) sectors = head word sectors
head_by (Mask.Mixed high low) sectors = mixed_head high low sectors

abbrev pub layer_by : Mask → ℕ
layer_by mask = (kind_numbers (kind_of mask)).layer

abbrev pub end_by : Mask → List ℕ → List ℕ
end_by (Mask.Plain word) l = []
end_by (Mask.Mixed high low) l = reflector_part_of (mixed_number high low) l

-- a profile by a mask, of which each arc's shots are in the lists
pub record ProfileAsked (s : State) (g : Scan) (mask : Mask) (sent counter : ℕ) (out : List ℕ) : Type 0 where
  pub eight : length s.working.sectors ≡ 8
  pub arcs_in : Each (ArcAsked g) (arcs_of s)
  pub few : length g.reflectors ≤ 704
  pub room : length (profile_by s g mask sent counter) ≤ length out

-- a state in its ranges and in MEASURE, and lists that fit
pub record SendAsked (s : State) (g : Scan) : Type 0 where
  pub eight : length s.working.sectors ≡ 8
  pub range : T (in_range s)
  pub measures : T (is_measure s.mode)
  pub lists : T (lists_fit s g)
  pub reflectors : T (reflectors_fit g)

-- what a job's profile does
abbrev pub send_outcome : State → Scan → Mask → ℕ → Outcome
send_outcome s g mask sent = record { after = turned s; words = profile_by s g mask sent (risen s.counter) }

-- a counted job that can go on: some left, and its number sent can rise
abbrev pub JobAsked : Job → Type 0
JobAsked Absent = Unit {0}
JobAsked (Counted left mask sent) = (1 ≤ left) × (sent < 65535)
JobAsked (Endless mask sent) = Unit {0}
