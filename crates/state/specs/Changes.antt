-- The parts of a state, and a state that differs from another in some of them alone.
use Rattle.std.specs.Prelude.{Bool, false, ◌||◌, List, [], ◌∷◌, ℕ, eqb, if◌then◌else◌}
use Rattle.state.specs.declared.State.{State}
use Rattle.state.specs.Nav300.{settings_of}

-- the configuration is id, configured speed and step; of the settings, the direction of rotation, the working pair of threshold and radius,
-- and the stored pair are a part each (rule 4.4)
pub data Part : Type 0 where
  config : Part
  working : Part
  stored : Part
  mode : Part
  running : Part
  port : Part
  counter : Part
  job : Part
  rotation : Part
  reflector : Part
  saved : Part

-- a number for each, by which they are told apart (rule 4.4)
abbrev pub part_number : Part → ℕ
part_number config = 0
part_number working = 1
part_number stored = 2
part_number mode = 3
part_number running = 4
part_number port = 5
part_number counter = 6
part_number job = 7
part_number rotation = 8
part_number reflector = 9
part_number saved = 10

-- the part is one of these (rule 4.4)
abbrev pub is_one_of : Part → List Part → Bool
is_one_of one [] = false
is_one_of one (p ∷ ps) = eqb (part_number one) (part_number p) || is_one_of one ps

-- the state s, but that these parts of it are as t has them (rule 4.4)
abbrev pub only_in : List Part → State → State → State
only_in parts s t =
    record {
      id = if is_one_of config parts then t.id else s.id;
      speed = if is_one_of config parts then t.speed else s.speed;
      step = if is_one_of config parts then t.step else s.step;
      working = if is_one_of working parts then t.working else s.working;
      stored = if is_one_of stored parts then t.stored else s.stored;
      mode = if is_one_of mode parts then t.mode else s.mode;
      running = if is_one_of running parts then t.running else s.running;
      port = if is_one_of port parts then t.port else s.port;
      counter = if is_one_of counter parts then t.counter else s.counter;
      job = if is_one_of job parts then t.job else s.job;
      settings =
          settings_of
          (if is_one_of rotation parts then t.settings.rotation else s.settings.rotation)
          (if is_one_of reflector parts then t.settings.working else s.settings.working)
          (if is_one_of saved parts then t.settings.stored else s.settings.stored);
    }
