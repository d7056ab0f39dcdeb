-- Rules, section 7: the P rows of the fresh state. Proved in proofs/StateRows.antt.
use Rattle.std.specs.Prelude.{List, [], ◌∷◌}
use Rattle.words.specs.Rows.{Row, Shown}
use Rattle.plan.specs.Figures.{shots_first_last}
use Rattle.state.specs.Fresh.{fresh_state}

-- rule 7.4
abbrev pub state_rows : List Row
state_rows =
    -- the fresh plan and step, at the configured speed of 10: 720 shots, from 0 to 5752 (rule 7.4)
    record {
      value = fresh_state.speed ∷ shots_first_last fresh_state.working fresh_state.step.0;
      figure = 10 ∷ 720 ∷ 0 ∷ 5752 ∷ [];
    }
    ∷ []

abbrev pub StateFigures : Type 0
StateFigures = Shown state_rows
