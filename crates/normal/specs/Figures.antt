-- Rules, section 7: the P rows of the normal plan. Proved in proofs/NormalRows.antt.
use Rattle.std.specs.Prelude.{List, [], ◌∷◌, ℕ}
use Rattle.words.specs.Rows.{Row, Shown}
use Rattle.plan.specs.declared.Sector.{Sector}
use Rattle.plan.specs.declared.Plan.{Plan}
use Rattle.plan.specs.Sectors.{sector, stop_of, filled}
use Rattle.normal.specs.NormalForm.{normalised_of}

-- the entries of a plan, function and stop of each (rule 7.9)
abbrev pub entries : List Sector → List ℕ
entries [] = []
entries (s ∷ ss) = s.function ∷ stop_of s ∷ entries ss

-- the number for no of the call, and with it the entries of the plan that it hands back (rule 7.1)
abbrev pub refusal_of : Plan → ℕ → ℕ
refusal_of p step = (normalised_of p step).refusal

abbrev pub answer_of : List Sector → ℕ → List ℕ
answer_of ss step = refusal_of (filled ss) step ∷ entries (normalised_of (filled ss) step).plan.sectors

-- the rows, for any plan p (rules 7.1 and 7.9)
abbrev pub normal_rows : Plan → List Row
normal_rows p =
    -- steps 7 and 72 get 9; 64 and 1 do not (rule 7.1)
    record {
      value =
          refusal_of p 7
          ∷ refusal_of p 72
          ∷ refusal_of (filled (sector 3 5696 ∷ [])) 64
          ∷ refusal_of (filled (sector 3 5696 ∷ [])) 1
          ∷ [];
      figure = 9 ∷ 9 ∷ 0 ∷ 0 ∷ [];
    }
    -- at step 8: two neighbours of function 3 become one, with the later stop; functions 1, 3, 1 stay three (rule 7.9)
    ∷ record {
      value = answer_of (sector 3 1000 ∷ sector 3 2000 ∷ sector 1 3000 ∷ []) 8;
      figure = 0 ∷ 3 ∷ 2000 ∷ 1 ∷ 3000 ∷ 0 ∷ 0 ∷ 0 ∷ 0 ∷ 0 ∷ 0 ∷ 0 ∷ 0 ∷ 0 ∷ 0 ∷ 0 ∷ 0 ∷ [];
    }
    ∷ record {
      value = answer_of (sector 1 1000 ∷ sector 3 2000 ∷ sector 1 3000 ∷ []) 8;
      figure = 0 ∷ 1 ∷ 1000 ∷ 3 ∷ 2000 ∷ 1 ∷ 3000 ∷ 0 ∷ 0 ∷ 0 ∷ 0 ∷ 0 ∷ 0 ∷ 0 ∷ 0 ∷ 0 ∷ 0 ∷ [];
    }
    ∷ []

abbrev pub NormalFigures : Type 0
NormalFigures = (p : Plan) → Shown (normal_rows p)
