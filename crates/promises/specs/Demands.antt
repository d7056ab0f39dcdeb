-- The three demands, each as the statements that show it. They stand in the crates that they speak of; this cites them. Proved in
-- proofs/Demanded.antt.
use Rattle.normal.specs.Demands.{Demand3 as NormalPlans, AnswersValid, RefusalsExactly as PlanNumbers, RefusalsGiveZeros}
use Rattle.layout.specs.Lengths.{LayoutLength}
use Rattle.layout.specs.Mixed.{MixedLayoutLength}
use Rattle.plan.specs.Demands.{Tiling, Counting, Revolution}
use Rattle.sensor.specs.Demands.{RefusalsExactly as RequestNumbers, RefusalsChangeNothing as RequestUnchanged, RoomForAll}
use Rattle.sensor.specs.Demands.{TableHolds, OnlyThese, SettingsKept}
use Rattle.sensor.specs.WrongCounts.{FourExactly, NeverFour, WrongCountsSaid, WrongCountsLeave, WordsUnread}
use Rattle.profile.specs.Demands.{RefusalsExactly as RevolutionNumbers, RefusalsChangeNothing as RevolutionUnchanged}
use Rattle.profile.specs.Demands.{NearestTimes, SentLength, NeverLonger, PointsAreShots, AllPoints}
use Rattle.profile.specs.Demands.{MixedNeverLonger, MixedPointsAreShots, MixedAllPoints}
use Rattle.reader.specs.Demands.{AcceptsExactly, PutTogether, ReadsBack, OneReading, NoPoints, StandsAtPlace}
use Rattle.reader.specs.Demands.{RefusalsExactly as ReaderNumbers, EndsPlaced, PartsTile, StretchNumbers, RefusalsGiveNothing}
use Rattle.reader.specs.MixedDemands.{MixedAcceptsExactly, MixedPutTogether, MixedReadsBack, MixedOneReading, OneKind, MixedNoPoints}
use Rattle.reader.specs.MixedDemands.{MixedStandsAtPlace, ReflectorsInTurn, MixedRefusalsExactly, MixedEndsPlaced, MixedPartsTile}
use Rattle.reader.specs.MixedDemands.{MixedStretchNumbers, ReflectorNumbers, MixedRefusalsGiveNothing}
use Rattle.promises.specs.Determined.{Determined}
use Rattle.promises.specs.Exchange.{SentIsRead}
use Rattle.promises.specs.Life.{Life}
use Rattle.promises.specs.Unsent.{SettingsUnsent}

-- 1. Whatever words, buffer and state a call is handed, it answers and ends. What it refuses by number leaves every word and the whole
-- state as they were, and no caller has to test anything before (rules 1.5, 6.1 and 6.2)
pub record Demand1 : Type 1 where
  -- an answer to everything, and only one: the contracts ask nothing of the caller. That each call ends is in its own proof
  pub answered : Determined
  -- the numbers, each given exactly then
  pub request_numbers : RequestNumbers
  -- of them 4: what it is given for, and four services never give it
  pub four_exactly : FourExactly
  pub never_four : NeverFour
  pub revolution_numbers : RevolutionNumbers
  pub plan_numbers : PlanNumbers
  pub reader_numbers : ReaderNumbers
  -- with 15 its place, and the parts of a profile that it is said with
  pub ends_placed : EndsPlaced
  pub parts_tile : PartsTile
  pub stretch_numbers : StretchNumbers
  -- the same of mixed profiles, and the numbers of their reflectors
  pub mixed_reader_numbers : MixedRefusalsExactly
  pub mixed_ends_placed : MixedEndsPlaced
  pub mixed_parts_tile : MixedPartsTile
  pub mixed_stretch_numbers : MixedStretchNumbers
  pub reflector_numbers : ReflectorNumbers
  -- room for the longest answer is room for every one
  pub room_for_all : RoomForAll
  -- what a refusal leaves
  pub request_unchanged : RequestUnchanged
  pub revolution_unchanged : RevolutionUnchanged
  pub plan_of_zeros : RefusalsGiveZeros
  pub reader_gives_nothing : RefusalsGiveNothing
  pub mixed_reader_gives_nothing : MixedRefusalsGiveNothing
  -- a sensor that was switched on never comes to refusal 1, with jobs of both kinds
  pub life : Life

-- 2. What is answered, what the state becomes and how a profile is laid out are as the rules say. The reader accepts the profiles that
-- carry what it needs, and no other list of words; and from what it reads the same words can be put together (rules 4.3, 4.4, 4.25, 5.5,
-- 5.10, 5.15, 5.19 and 5.22)
pub record Demand2 : Type 0 where
  -- the table and its answers, and that a service changes no part of the state but its own
  pub tabled : TableHolds
  pub only_these : OnlyThese
  -- a wrong number of words: what is answered, behind the mode's test; that the state stays, and that no word behind the code is looked at
  pub wrong_counts_said : WrongCountsSaid
  pub wrong_counts_leave : WrongCountsLeave
  pub words_unread : WordsUnread
  -- the settings of the NAV300: which requests leave them; revolutions do, and do not depend on them
  pub settings_kept : SettingsKept
  pub settings_unsent : SettingsUnsent
  -- a revolution: the directions and functions of its shots, how the sectors share them, and how many of them count
  pub runs_round : Revolution
  pub tiling : Tiling
  pub counting : Counting
  -- and the times at which they are fired
  pub nearest_times : NearestTimes
  -- the profile: its points are the run's measured shots, each one and no other; its length is the formula's, and never above the greatest
  pub points : PointsAreShots
  pub all_points : AllPoints
  pub sent_length : SentLength
  pub never_longer : NeverLonger
  -- and so of a mixed profile
  pub mixed_points : MixedPointsAreShots
  pub mixed_all_points : MixedAllPoints
  pub mixed_never_longer : MixedNeverLonger
  -- the reader
  pub accepts_exactly : AcceptsExactly
  pub put_together : PutTogether
  pub reads_back : ReadsBack
  pub one_reading : OneReading
  pub no_points : NoPoints
  pub stands_at_place : StandsAtPlace
  pub laid_length : LayoutLength
  -- the reader of mixed profiles; no list of words is taken by both readers
  pub mixed_accepts_exactly : MixedAcceptsExactly
  pub mixed_put_together : MixedPutTogether
  pub mixed_reads_back : MixedReadsBack
  pub mixed_one_reading : MixedOneReading
  pub one_kind : OneKind
  pub mixed_no_points : MixedNoPoints
  pub mixed_stands_at_place : MixedStandsAtPlace
  pub reflectors_in_turn : ReflectorsInTurn
  pub mixed_laid_length : MixedLayoutLength
  -- writer and reader together, of both kinds
  pub sent_is_read : SentIsRead

-- 3. Plans that are valid for a step are made the same normal plan where they run alike, and only there. It runs as they do, is its own
-- normal plan, and no valid plan that runs so has fewer active sectors (rules 3.9 and 3.10)
pub record Demand3 : Type 0 where
  -- of the plan that `normal_plan` hands back
  pub normal_plans : NormalPlans
  -- it does so, with refusal 0, exactly for the valid plans
  pub answers_valid : AnswersValid
