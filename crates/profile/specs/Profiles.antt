-- Rules, section 5: the fields of a revolution's profile, kept where the mask selects them.
use Rattle.std.specs.Prelude.{List, [], ◌∷◌, ℕ, suc, ◌+◌, ◌-◌, ◌*◌, get_or}
use Rattle.words.specs.Bits.{bit}
use Rattle.words.specs.Words.{given_if}
use Rattle.words.specs.Buffers.{in_turn}
use Rattle.units.specs.Directions.{steps_past, revolution_shots}
use Rattle.units.specs.Times.{shot_time}
use Rattle.layout.specs.Bits as bits
use Rattle.layout.specs.Fields.{SectorFields, Fields}
use Rattle.plan.specs.declared.Arc.{Arc}
use Rattle.plan.specs.Sectors.{active_of}
use Rattle.plan.specs.Shots.{arcs}
use Rattle.state.specs.declared.State.{State}
use Rattle.state.specs.Modes.{mode_number}
use Rattle.profile.specs.declared.scans.Scan.{Scan as Lent}
use Rattle.profile.specs.Points.{point_words}

-- a scan, what a revolution's caller hands in: the start time, the words of distance and echo by shot, and those of the reflectors (rule 5.1)
pub record Scan : Type 0 where
  pub start : ℕ
  pub distances : List ℕ
  pub echoes : List ℕ
  pub reflectors : List ℕ

-- the scan that the code's struct stands for (rule 5.1)
abbrev pub scan_of : Lent → Scan
scan_of g = record { start = g.start.0; distances = g.distances.now; echoes = g.echoes.now; reflectors = g.reflectors.now }

-- the scan of these; and one without reflectors, for what goes by shots alone (rule 5.1)
abbrev pub scan_with : ℕ → List ℕ → List ℕ → List ℕ → Scan
scan_with start distances echoes reflectors =
    record { start = start; distances = distances; echoes = echoes; reflectors = reflectors }

abbrev pub scan : ℕ → List ℕ → List ℕ → Scan
scan start distances echoes = scan_with start distances echoes []

-- point i of an arc, i steps past its first direction: the lists' words at that shot (rule 5.6)
abbrev pub point_at : ℕ → ℕ → Scan → Arc → ℕ → List ℕ
point_at mask step g a i =
    point_words mask (get_or g.distances (a.shot + i) 0) (steps_past step i a.first.0) (get_or g.echoes (a.shot + i) 0)

-- the words of an arc's points (rule 5.6)
unfoldable pub points_of : ℕ → ℕ → Scan → Arc → List ℕ
points_of mask step g a = in_turn (point_at mask step g a) a.points

-- a sector: number, step, points, time of its first shot, first direction; the points; time of its last shot, last direction (rule 5.5)
abbrev pub sector_of : ℕ → ℕ → ℕ → Scan → ℕ → Arc → SectorFields
sector_of mask step rate g number a =
    record {
      number = given_if (bit mask bits.number) number;
      step = given_if (bit mask bits.step) step;
      points = given_if (bit mask bits.points) a.points;
      tstart = given_if (bit mask bits.tstart) (shot_time g.start rate a.shot);
      startdir = given_if (bit mask bits.startdir) a.first.0;
      body = points_of mask step g a;
      tend = given_if (bit mask bits.tend) (shot_time g.start rate (a.shot + a.shots - 1));
      enddir = given_if (bit mask bits.enddir) a.last.0;
    }

-- the sectors, numbered from a number on (rule 5.7)
abbrev pub sectors_of : ℕ → ℕ → ℕ → Scan → ℕ → List Arc → List SectorFields
sectors_of mask step rate g number [] = []
sectors_of mask step rate g number (a ∷ l) = sector_of mask step rate g number a ∷ sectors_of mask step rate g (suc number) l

-- the arcs of a state's revolution, and the rate of its shots (rule 3.5)
abbrev pub arcs_of : State → List Arc
arcs_of s = arcs s.step.0 (active_of s.working)

abbrev pub rate_of : State → ℕ
rate_of s = s.running * revolution_shots s.step.0

-- number sent, counter, layer 0; the sectors; SENSTAT (rule 5.5)
abbrev pub fields_of : State → Scan → ℕ → ℕ → ℕ → Fields
fields_of s g mask sent counter =
    record {
      mask = mask;
      sent = given_if (bit mask bits.sent) sent;
      counter = given_if (bit mask bits.counter) counter;
      layer = given_if (bit mask bits.layer) 0;
      sectors = sectors_of mask s.step.0 (rate_of s) g 0 (arcs_of s);
      high = given_if (bit mask bits.senstat) 0;
      low = given_if (bit mask bits.senstat) (mode_number s.mode);
    }
