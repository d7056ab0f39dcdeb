-- What is promised of revolutions, as statements. The proofs stand in proofs/Revolved.antt, Carried.antt, AllShots.antt, Timed.antt and
-- PointByPoint.antt.
use Rattle.std.specs.Prelude.{◌≡◌, not, ◌||◌, List, [], ◌∷◌, ◌++◌, ℕ, suc, ◌+◌, ◌/◌, ◌%◌, ◌≤◌}
use Rattle.std.specs.Prelude.{◌<◌, T, ltb, eqb, length, get_or, drop, if◌then◌else◌}
use Rattle.words.specs.Bits.{bit}
use Rattle.words.specs.Lists.{total}
use Rattle.words.specs.Words.{given_if, laid_all}
use Rattle.words.specs.Buffers.{Wrote, in_turn}
use Rattle.words.specs.Numbers.{No, no, first_of}
use Rattle.units.specs.Directions.{steps_past}
use Rattle.units.specs.Demands.{Rounded}
use Rattle.layout.specs.Bits as bits
use Rattle.layout.specs.Masks.{mask_ok, uncounted}
use Rattle.layout.specs.declared.Kind.{Kind}
use Rattle.layout.specs.declared.Mask.{Mask}
use Rattle.layout.specs.MixedMasks.{mixed_number, mixed_ok}
use Rattle.layout.specs.Fields.{SectorFields}
use Rattle.layout.specs.Layout.{Acceptable}
use Rattle.layout.specs.Lengths.{greatest_length}
use Rattle.layout.specs.Mixed.{MixedAcceptable, length_of, greatest_mixed}
use Rattle.plan.specs.declared.Arc.{Arc}
use Rattle.plan.specs.Sectors.{active_of}
use Rattle.plan.specs.Shots.{Shot, arc_at, run_of}
use Rattle.plan.specs.Demands.{no_shot}
use Rattle.state.specs.declared.State.{State}
use Rattle.state.specs.Jobs.{mask_of, has_kind, is_job}
use Rattle.state.specs.Ranges.{is_measure, in_range}
use Rattle.state.specs.Replies.{Unchanged}
use Rattle.profile.specs.Points.{selected, point_words}
use Rattle.profile.specs.Profiles.{Scan, scan_with, scan, points_of, sector_of, arcs_of, rate_of, fields_of}
use Rattle.profile.specs.Mixed.{reflectors_given, mixed_of}
use Rattle.profile.specs.Revolutions.{revolved, lists_fit, reflectors_fit, revolution_of}

-- Demand 1: a refusal changes nothing (rule 6.2)
abbrev pub RefusalsChangeNothing : Type 0
RefusalsChangeNothing =
    (s : State) (g : Scan) (before : List ℕ) → ((revolution_of s g (length before)).reply.refusal ≡ 0 → ⊥)
    → Unchanged s before (revolution_of s g (length before))

-- a revolution's numbers in their order, each beside what it is due for: a field of the state is out of its range; the head does not
-- measure; a list is not one word a shot; there are too many reflectors, or a part of one; the room is less than the profile (rule 6.1)
abbrev pub numbers_for_no : State → Scan → ℕ → List No
numbers_for_no s g room =
    no 1 (not (in_range s))
    ∷ no 7 (not (is_measure s.mode))
    ∷ no 8 (not (lists_fit s g))
    ∷ no 27 (ltb 64 (length g.reflectors / 11) || not (eqb (length g.reflectors % 11) 0))
    ∷ no 6 (ltb room (length (revolved s g).words))
    ∷ []

-- the first that is due is given, and no other (rule 6.1)
abbrev pub RefusalsExactly : Type 0
RefusalsExactly = (s : State) (g : Scan) (room : ℕ) → (revolution_of s g room).reply.refusal ≡ first_of (numbers_for_no s g room)

-- a state in its ranges is in its ranges after every revolution (rule 2.8)
abbrev pub RangesKept : Type 0
RangesKept = (s : State) (g : Scan) (room : ℕ) → T (in_range s) → T (in_range (revolution_of s g room).reply.state)

-- what the formula of its kind says of a mask, the active sectors, the points and the reflectors (rules 5.8 and 5.20)
abbrev pub length_by : State → List ℕ → Mask → ℕ
length_by s reflectors mask = length_of mask (length (active_of s.working)) (total (λ a. a.points) (arcs_of s)) (reflectors_given reflectors)

-- how many words a revolution sends: none without a job, else what the formula says of the job's mask (rules 5.8 and 5.20)
abbrev pub sent_length : State → Scan → ℕ
sent_length s g = if is_job s.job then length_by s g.reflectors (mask_of s.job) else 0

-- it is so for every mask; and where a revolution is not refused, it is what is counted (rule 5.8)
pub record Sends (s : State) (g : Scan) : Type 0 where
  pub words : length (revolved s g).words ≡ sent_length s g
  pub counted : (room : ℕ) → (revolution_of s g room).reply.refusal ≡ 0 → (revolution_of s g room).reply.count ≡ sent_length s g

abbrev pub SentLength : Type 0
SentLength = (s : State) (g : Scan) → Sends s g

-- a state and lists that a revolution takes (rules 5.1 and 5.2)
pub record Turning (s : State) (g : Scan) : Type 0 where
  pub eight : length s.working.sectors ≡ 8
  pub range : T (in_range s)
  pub measures : T (is_measure s.mode)
  pub lists : T (lists_fit s g)
  pub reflectors : T (reflectors_fit g)

-- no plain profile is longer than the longest plain one (rule 5.8)
abbrev pub NeverLonger : Type 0
NeverLonger = (s : State) (g : Scan) → Turning s g → T (not (has_kind Kind.Mixed s.job)) → length (revolved s g).words ≤ greatest_length

-- and none of either kind longer than the longest mixed one (rule 5.20)
abbrev pub MixedNeverLonger : Type 0
MixedNeverLonger = (s : State) (g : Scan) → Turning s g → length (revolved s g).words ≤ greatest_mixed

-- the fields of a profile are such as the reader takes, where the mask carries what it needs (rule 5.10)
abbrev pub SentAcceptable : Type 0
SentAcceptable =
    (s : State) (g : Scan) → Turning s g → (mask sent counter : ℕ) → T (mask_ok mask) → T (not (uncounted mask))
    → Acceptable (fields_of s g mask sent counter)

-- and so are those of a mixed profile (rule 5.22)
abbrev pub MixedSentAcceptable : Type 0
MixedSentAcceptable =
    (s : State) (g : Scan) → Turning s g → (high low sent counter : ℕ) → T (mixed_ok (mixed_number high low))
    → T (not (uncounted (mixed_number high low))) → MixedAcceptable (mixed_of s g high low sent counter)

-- the words of the run's shot k: its direction, and the lists' words at that shot (rule 5.6)
abbrev pub shot_words : ℕ → State → Scan → ℕ → List ℕ
shot_words mask s g k =
    point_words mask (get_or g.distances k 0) (get_or (run_of s.step.0 s.working) k no_shot).direction (get_or g.echoes k 0)

-- a sector of a profile: it is that of the plan's arc, with the step that the shots were taken at, and its points are the run's shots from
-- the arc's first one on, in order, each of function 3 (rule 5.6)
pub record CarriesShots (s : State) (g : Scan) (mask number : ℕ) (a : Arc) (f : SectorFields) : Type 0 where
  pub is : f ≡ sector_of mask s.step.0 (rate_of s) g number a
  pub step : f.step ≡ given_if (bit mask bits.step) s.step.0
  pub body : f.body ≡ in_turn (λ i. shot_words mask s g (a.shot + i)) a.points
  pub measured : (i : ℕ) → i < a.points → (get_or (run_of s.step.0 s.working) (a.shot + i) no_shot).function ≡ 3

-- the points of a profile's sector are the run's shots of function 3: for every state, every mask and every active sector (rule 5.6)
abbrev pub PointsAreShots : Type 0
PointsAreShots =
    (s : State) (g : Scan) (mask sent counter place : ℕ) → place < length (active_of s.working)
    → (other : SectorFields)
    → CarriesShots s g mask place (arc_at s.working s.step.0 place) (get_or (fields_of s g mask sent counter).sectors place other)

-- the words of those of some shots that have function 3, in order; k is the number of the first shot (rule 3.8)
abbrev pub measured_from : ℕ → Scan → ℕ → List Shot → List ℕ
measured_from mask g k [] = []
measured_from mask g k (x ∷ xs) =
    (if eqb x.function 3 then point_words mask (get_or g.distances k 0) x.direction (get_or g.echoes k 0) else [])
    ++ measured_from mask g (suc k) xs

-- and the other way round: the points of a whole profile, sector after sector, are exactly the run's shots of function 3, none left out and
-- none invented (rule 3.8)
abbrev pub AllPoints : Type 0
AllPoints =
    (s : State) (g : Scan) (mask sent counter : ℕ)
    → laid_all (λ f. f.body) (fields_of s g mask sent counter).sectors ≡ measured_from mask g 0 (run_of s.step.0 s.working)

-- the same of a mixed profile, by its mask's number (rule 5.19)
abbrev pub MixedPointsAreShots : Type 0
MixedPointsAreShots =
    (s : State) (g : Scan) (high low sent counter place : ℕ) → place < length (active_of s.working)
    → (other : SectorFields)
    → CarriesShots s g (mixed_number high low) place (arc_at s.working s.step.0 place)
    (get_or (mixed_of s g high low sent counter).contour.sectors place other)

abbrev pub MixedAllPoints : Type 0
MixedAllPoints =
    (s : State) (g : Scan) (high low sent counter : ℕ)
    → laid_all (λ f. f.body) (mixed_of s g high low sent counter).contour.sectors
    ≡ measured_from (mixed_number high low) g 0 (run_of s.step.0 s.working)

-- every shot of a revolution that is taken has the time of its nearest millisecond (rule 3.7)
abbrev pub NearestTimes : Type 0
NearestTimes = (s : State) (g : Scan) → Turning s g → Rounded (rate_of s)

-- the same points with all distances first, then all directions, then all echoes (rule 5.6)
abbrev pub as_blocks : ℕ → ℕ → Scan → Arc → List ℕ
as_blocks mask step g a =
    in_turn (λ i. selected mask bits.distance (get_or g.distances (a.shot + i) 0)) a.points
    ++ (in_turn (λ i. selected mask bits.direction (steps_past step i a.first.0)) a.points
    ++ in_turn (λ i. selected mask bits.echo (get_or g.echoes (a.shot + i) 0)) a.points)

-- two points of step 8 from direction 16, at distances 1 and 2 (rule 5.6)
abbrev pub two_points : Arc
two_points = record { function = 3; first = record { 0 = 16 }; last = record { 0 = 24 }; shot = 0; shots = 2; points = 2 }

abbrev pub two_shots : Scan
two_shots = scan 0 (1 ∷ 2 ∷ []) (3 ∷ 4 ∷ [])

-- the same shots, each with the echo of the one behind it (rule 5.6)
abbrev pub later_echoes : Scan → Scan
later_echoes g = scan_with g.start g.distances (drop 1 g.echoes) g.reflectors

-- no writer of blocks meets the contract of the writer of points (rule 5.6)
abbrev pub NotAsBlocks : Type 0
NotAsBlocks =
    (before after : List ℕ) (count : ℕ) → Wrote (as_blocks 0x0700 8 two_shots two_points) before after count
    → Wrote (points_of 0x0700 8 two_shots two_points) before after count
    → ⊥

-- nor does one that takes the echo of the next shot (rule 5.6)
abbrev pub NotLaterEchoes : Type 0
NotLaterEchoes =
    (before after : List ℕ) (count : ℕ) → Wrote (points_of 0x0700 8 (later_echoes two_shots) two_points) before after count
    → Wrote (points_of 0x0700 8 two_shots two_points) before after count
    → ⊥
