-- Technical: no rule stands here. Answers that the contracts of the smaller public functions refuse, where no edit of the code says so.
-- Proved in proofs/Refuted.antt.
use Rattle.std.specs.Prelude.{◌≡◌, true, List, [], ◌∷◌, ℕ, length, get_or, Some, Ok, Err, Result}
use Rattle.std.specs.Borrow.{Bor}
use Rattle.words.specs.Plain.{ProductSays, WordAtSays}
use Rattle.plan.specs.declared.Plan.{Plan}
use Rattle.plan.specs.Sectors.{sector, entry_at, with_entry, filled}
use Rattle.plan.specs.Validity.{multiples}
use Rattle.normal.specs.declared.normal.PlanRefusal.{PlanRefusal}
use Rattle.normal.specs.NormalForm.{said as NormalForm·said, NormalPlanSays}
use Rattle.layout.specs.declared.Mask.{Mask}
use Rattle.layout.specs.Masks.{point_width}
use Rattle.state.specs.declared.State.{State}
use Rattle.state.specs.declared.Mode.TheVariants.{Rotate, Measure}
use Rattle.state.specs.Modes.{mode_number}
use Rattle.state.specs.declared.Job.TheVariants.{Absent}
use Rattle.state.specs.Fields.{with_plans, with_drive}
use Rattle.state.specs.declared.Reply.{Reply}
use Rattle.state.specs.declared.Refusal.{Refusal}
use Rattle.state.specs.Fresh.{fresh_plan, fresh_state, FreshSays, measuring}
use Rattle.services.specs.declared.Served.{Served}
use Rattle.services.specs.Answers.{Gives, unpacked}
use Rattle.services.specs.Configuration.{set_function}
use Rattle.profile.specs.Figures.{still}
use Rattle.profile.specs.Revolutions.{RevolutionSays}
use Rattle.flat.specs.Sent.{ProfileSays}
use Rattle.reader.specs.declared.ReadRefusal.TheVariants.{NoSuchPlace}
use Rattle.reader.specs.Demands.{turned_round}
use Rattle.reader.specs.Stretches.{StretchRefusalSays, StretchSays}
use Rattle.dialogue.specs.declared.Record.TheVariants.{Whole}
use Rattle.dialogue.specs.Records.{TakeRecordSays}
use Rattle.dialogue.specs.Lines.{WriteLineSays}
use Rattle.dialogue.specs.Talks.{AnswerSays}

abbrev pub two_words : List ℕ
two_words = 1 ∷ 2 ∷ []

abbrev pub two_entries : Plan
two_entries = filled (sector 3 1000 ∷ sector 1 3000 ∷ [])

-- two sectors of one function with another between, and two of one function side by side
abbrev pub last_like_first : Plan
last_like_first = filled (sector 3 1000 ∷ sector 1 3000 ∷ sector 3 5000 ∷ [])

abbrev pub neighbours : Plan
neighbours = filled (sector 3 1000 ∷ sector 3 3000 ∷ sector 1 5000 ∷ [])

pub record WrongAnswers : Type 0 where
  -- `product`: cut to 16 bits
  pub product_cut : ProductSays 256 256 0 → ⊥
  -- `word_at`: the first word for every place; the last word past the end
  pub first_word : WordAtSays two_words 1 1 → ⊥
  pub word_past_the_end : WordAtSays two_words 2 2 → ⊥
  -- `entry_at`: the first entry for every place; the last active one past it
  pub first_entry : sector 3 1000 ≡ entry_at two_entries 1 → ⊥
  pub entry_past_the_last : sector 1 3000 ≡ entry_at two_entries 2 → ⊥
  -- `with_entry`: the first entry set for every place
  pub first_entry_set : with_entry two_entries 0 (sector 4 2000) ≡ with_entry two_entries 1 (sector 4 2000) → ⊥
  -- `whole_steps`: every stop taken
  pub every_stop : true ≡ multiples 8 (sector 3 4 ∷ []) → ⊥
  -- `normal_plan`, each at step 8: the last sector joined to the first; of two joined ones the earlier stop
  pub last_joined :
      (r : Result Plan PlanRefusal) → NormalPlanSays last_like_first 8 r
      → (NormalForm·said r).plan ≡ filled (sector 1 3000 ∷ sector 3 1000 ∷ [])
      → ⊥
  pub earlier_stop :
      (r : Result Plan PlanRefusal) → NormalPlanSays neighbours 8 r
      → (NormalForm·said r).plan ≡ filled (sector 3 1000 ∷ sector 1 5000 ∷ [])
      → ⊥
  -- SET_FUNCTION, stop 1004 at step 8, which is no multiple: answered by a word for no; the sector put out of use
  pub multiples_tested :
      (r : Served) → Gives r (set_function fresh_state 0x820A 0 3 1004 0) → get_or (unpacked r).words 3 0 ≡ 0xFFFF → ⊥
  pub sector_out_of_use :
      (r : Served) → Gives r (set_function fresh_state 0x820A 0 3 1004 0)
      → (entry_at r.state.working 0).function ≡ 0
      → ⊥
  -- `point_width`: three words whatever the mask is
  pub three_words : 3 ≡ point_width 0x0100 → ⊥
  -- `mode_number`: IDLE's for every mode
  pub idle_number : 1 ≡ mode_number Measure → ⊥
  -- `fresh`: a sensor that turns already; sector 0 up to the last direction of all
  pub fresh_turning : FreshSays (with_drive fresh_state Rotate 10 Absent) → ⊥
  pub fresh_stop : FreshSays (with_plans fresh_state (filled (sector 3 5759 ∷ [])) fresh_state.stored) → ⊥
  -- `revolution`: another step than the one that the points were taken at, 8, in a profile of that word alone
  pub step_from_elsewhere :
      (r : Result Reply Refusal) (after : List ℕ)
      → RevolutionSays (measuring fresh_plan 8 10 (Mask.Plain 0x0010)) (still 720) (0 ∷ 0 ∷ 0 ∷ 0 ∷ []) after r
      → get_or after 3 0 ≡ 4
      → ⊥
  -- `stretch`: at the front of the words, and not where the sector's points are
  pub stretch_at_front :
      (words : Bor (List ℕ)) (part : List ℕ) → words.now ≡ turned_round
      → StretchSays words 0 (record { ref_ptr = words.ref_ptr; now = part })
      → ⊥
  -- `stretch_refusal`: 17 where the words are refused; a place of S taken, of two sectors
  pub place_first : StretchRefusalSays [] 8 (Err NoSuchPlace) → ⊥
  pub place_s : StretchRefusalSays turned_round 2 (Ok tt) → ⊥
  -- `slackjib_profile`: the number for no in the place of the count, at mask 0
  pub number_for_count : (after : List ℕ) → ProfileSays [] 8 10 0 (still 720) (7 ∷ []) after 1 → ⊥
  -- `take_record`: the low byte first; a record that its end cuts taken for whole
  pub low_byte_first : TakeRecordSays (Whole 1) (1 ∷ 1 ∷ 2 ∷ []) (7 ∷ []) (0x0201 ∷ []) → ⊥
  pub cut_for_whole : (after : List ℕ) → TakeRecordSays (Whole 1) (1 ∷ 1 ∷ []) (7 ∷ []) after → ⊥
  -- `write_line`: small hex digits, "1 0 1 abcd"; as much of a line as there is room for
  pub small_digits :
      (before : List ℕ) → length before ≡ 11
      → WriteLineSays 1 0 (0xABCD ∷ []) before (49 ∷ 32 ∷ 48 ∷ 32 ∷ 49 ∷ 32 ∷ 97 ∷ 98 ∷ 99 ∷ 100 ∷ 10 ∷ []) (Some 11)
      → ⊥
  pub line_cut : WriteLineSays 1 0 [] (0 ∷ 0 ∷ 0 ∷ []) (49 ∷ 32 ∷ 48 ∷ []) (Some 3) → ⊥
  -- `answer`: the bytes of a record taken that its end cuts
  pub cut_record_taken :
      (s : State) (text : List ℕ) → AnswerSays s 1 (1 ∷ 1 ∷ []) text text (Some (record { state = s; taken = 2; length = 0 }))
      → ⊥
  -- and a byte of a record, one without a word, whose line has no room
  pub byte_without_room : AnswerSays fresh_state 1 (0 ∷ []) [] [] (Some (record { state = fresh_state; taken = 1; length = 0 })) → ⊥
