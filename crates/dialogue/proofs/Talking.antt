-- A request and its line: what the text holds, and what became of the record, with room and without.
use mathlib.Core.Path.{◌≡◌, refl, sym, ◌∙◌}
use mathlib.Core.Bool.{Bool, true, false}
use mathlib.Core.Logic.{◌⊎◌, inl, inr}
use mathlib.Core.List.{List, [], ◌∷◌, ◌++◌}
use Prim.Native.Nat.{ℕ, ◌+◌, ◌-◌, ◌*◌, ◌≤◌}
use native.Mathlib.Omega.{arith}
use lib.Dec.{leb}
use lib.ListN.{length, take, drop, length-take, length-drop}
use lib.Seq.{length-take-le, take-append_seam}
use Rattle.std.specs.Prelude.{if◌then◌else◌, Option, Some, None, Result}
use Rattle.words.specs.Lists.{some}
use Rattle.words.specs.Buffers.{over}
use Rattle.words.proofs.Overs.{over_none, over_length}
use Rattle.state.specs.declared.State.{State}
use Rattle.state.specs.declared.Reply.{Reply}
use Rattle.state.specs.declared.Refusal.{Refusal}
use Rattle.state.specs.Replies.{handed, Answered}
use Rattle.services.specs.Answers.{longest}
use Rattle.sensor.specs.Requests.{request_of}
use Rattle.sensor.proofs.Demand1.{answer_words}
use Rattle.dialogue.specs.declared.Said.{Said}
use Rattle.dialogue.specs.Lines.{line_of, fitting, WriteLineSays}
use Rattle.dialogue.specs.declared.Record.{Record}
use Rattle.dialogue.specs.declared.Record.TheVariants.{End, Cut, Whole}
use Rattle.dialogue.specs.Records.{record_of, record_words, TakeRecordSays}
use Rattle.dialogue.specs.Talks.{line_for, size_of, line_picked, line_at, said_of, AnswerSays}
use Rattle.dialogue.specs.Asked.{Replied}
use Rattle.dialogue.proofs.Rooms.{size_within, words_long, line_within, line_taken}

-- a line has its end at least
ended : (l : List ℕ) (d : ℕ) → some (l ++ (d ∷ [])) ≡ true
ended [] d = refl
ended (x ∷ l) d = refl

line_some : (number refusal : ℕ) (ws : List ℕ) → some (line_of number refusal ws) ≡ true
unfolding line_of
line_some number refusal ws = ended _ 10

-- a line's length or none, and what became of the record
module _ (next : State) (taken : ℕ) (line : List ℕ) (room : ℕ) (o : Option ℕ)
    (e : o ≡ (if leb (length line) room then Some (length line) else None)) where
  unsaid : o ≡ None → None ≡ said_of next taken (fitting line room)
  unfolding fitting
  unsaid q = go (leb (length line) room) e
    where
      go : (b : Bool) → o ≡ (if b then Some (length line) else None) → None ≡ said_of next taken (if b then line else [])
      go true f = cc
      go false f = refl

  said : some line ≡ true → (n : ℕ) → o ≡ Some n
      → Some (record { state = next; taken = taken; length = n }) ≡ said_of next taken (fitting line room)
  unfolding fitting
  said there n q = go (leb (length line) room) e
    where
      go : (b : Bool) → o ≡ (if b then Some (length line) else None)
          → Some (record { state = next; taken = taken; length = n }) ≡ said_of next taken (if b then line else [])
      go true f =
          let long : n ≡ length line = cc in
          rw (there, long)
      go false f = cc

-- `answer_words`
module _ (s : State) (number : ℕ) (ws before after : List ℕ) (r : Result Reply Refusal) (d d' : List ℕ)
    (long : length d ≡ longest) (a : Answered s r d d' (request_of s ws (length d)))
    (refusal : ℕ) (er : refusal ≡ (handed s r).refusal) (answer : List ℕ) (ea : answer ≡ take (handed s r).count d')
    (o : Option ℕ) (w : WriteLineSays number refusal answer before after o) where
  line_is : line_of number refusal answer ≡ line_for s number ws
  unfolding line_for
  line_is = rw (er, ea, answer_words r d d' s ws a, a.reply, long)

  text_is : after ≡ over (fitting (line_for s number ws) (length before)) before
  text_is = rw line_is at w.text

  said_is : o ≡ (if leb (length (line_for s number ws)) (length before) then Some (length (line_for s number ws)) else None)
  said_is = rw line_is at w.said

  pub unreplied : o ≡ None → Replied s number ws before after None
  unreplied q = record { text = text_is; said = unsaid _ _ _ _ o said_is q }

  pub replied : (n : ℕ) → o ≡ Some n
      → Replied s number ws before after (Some (record { state = (handed s r).state; taken = 1 + 2 * length ws; length = n }))
  replied n q =
      record {
        text = text_is;
        said = rw (a.reply, long) (said _ _ _ _ o said_is (rw (← line_is) (line_some number refusal answer)) n q);
      }

-- the line of the record at the front, by what the record is
line_at_lem : (s : State) (number : ℕ) (bytes : List ℕ) (room : ℕ) (r : Record) → r ≡ record_of bytes
    → line_at s number bytes room ≡ line_picked r (line_for s number (record_words bytes)) room
unfolding line_at
line_at_lem s number bytes room r e = rw (← e)

-- a whole record's words in the array that they were taken into
pub whole_said : (r : Record) (bytes w w' : List ℕ) → TakeRecordSays r bytes w w' → (m : ℕ) → r ≡ Whole m → (n : ℕ) → n ≡ m
    → length w ≡ 255 → n ≤ 255
    → (s : State) (number : ℕ) (before after : List ℕ) (o : Option Said) → Replied s number (take n w') before after o
    → AnswerSays s number bytes before after o
unfolding over
whole_said r bytes w w' t m whole n same long few s number before after o l =
    let many : length (record_words bytes) ≡ n = words_long bytes m (rw whole at t.is) ∙ sym same in
    let words_are : take n w' ≡ record_words bytes = rw (t.words, ← many) (take-append_seam _ _) in
    let line = line_at_lem s number bytes (length before) (Whole m) (sym whole ∙ t.is) in
    let size : size_of (record_of bytes) ≡ 1 + 2 * length (record_words bytes) = rw (← t.is, whole, many, same) in
    record { text = rw (line, ← words_are) l.text; said = rw (line, size, ← words_are) l.said }

-- no record, or a cut one
module _ (s : State) (number : ℕ) (bytes text w w' : List ℕ) (r : Record) (t : TakeRecordSays r bytes w w') where
  none_said : line_at s number bytes (length text) ≡ [] → AnswerSays s number bytes text text None
  none_said is = record { text = rw is (sym (over_none text)); said = rw is }

  pub not_whole : (r ≡ End) ⊎ (r ≡ Cut) → AnswerSays s number bytes text text None
  not_whole (inl q) = none_said (line_at_lem s number bytes (length text) End (sym q ∙ t.is))
  not_whole (inr q) = none_said (line_at_lem s number bytes (length text) Cut (sym q ∙ t.is))

-- what became of a record that has a line
module _ (next : State) (taken : ℕ) (line : List ℕ) (r : Said) (e : Some r ≡ said_of next taken line) where
  is_there : 1 ≤ length line
  is_there = go line e
    where
      go : (l : List ℕ) → Some r ≡ said_of next taken l → 1 ≤ length l
      go [] f = absurd (let z : ◌≡◌ {A = ℕ} 0 1 = cc in omega arith)
      go (x ∷ l) f = omega arith

  is_long : r.length ≡ length line
  is_long = go line e
    where
      go : (l : List ℕ) → Some r ≡ said_of next taken l → r.length ≡ length l
      go [] f = cc
      go (x ∷ l) f = cc

  is_taken : r.taken ≡ taken
  is_taken = go line e
    where
      go : (l : List ℕ) → Some r ≡ said_of next taken l → r.taken ≡ taken
      go [] f = cc
      go (x ∷ l) f = cc

-- what a caller learns of the sizes
module _ (s : State) (number : ℕ) (bytes before after : List ℕ) (r : Said) (a : AnswerSays s number bytes before after (Some r)) where
  pub said_within : r.length ≤ length before
  unfolding line_at
  said_within = rw (is_long _ _ _ r a.said) (line_within (record_of bytes) _ (length before))

  pub taken_within : r.taken ≤ length bytes
  taken_within = rw (is_taken _ _ _ r a.said) (size_within bytes)

  pub taken_some : 1 ≤ r.taken
  unfolding line_at
  taken_some =
      let there : 1 ≤ length (line_at s number bytes (length before)) = is_there _ _ _ r a.said in
      rw (is_taken _ _ _ r a.said) (line_taken (record_of bytes) (line_for s number (record_words bytes)) (length before) (λ q. omega arith))

  -- the line as a part of the text afterwards
  pub said_part : r.length ≤ length after
  said_part =
      let kept = over_length (line_at s number bytes (length before)) before (rw (is_long _ _ _ r a.said) at said_within) in
      rw (a.text, kept) said_within

  pub said_lent : r.length ≡ length (take r.length after)
  said_lent = sym (length-take-le r.length after said_part)

-- of a caller that lends the rest of its bytes from a place on, `&bytes[at..]`, and of its text, `&mut text[at..]`
rest_long : (l : List ℕ) (at : ℕ) → length (take (length l - at) (drop at l)) ≡ length l - at
rest_long l at = rw (length-take, length-drop) (omega arith)

pub taken_rest : (s : State) (number : ℕ) (bytes : List ℕ) (at : ℕ) (before after : List ℕ) (r : Said)
    → AnswerSays s number (take (length bytes - at) (drop at bytes)) before after (Some r) → at ≤ length bytes → at + r.taken ≤ length bytes
taken_rest s number bytes at before after r a h =
    let n = rest_long bytes at in
    let k = taken_within s number (take (length bytes - at) (drop at bytes)) before after r a in
    omega arith

pub said_rest : (s : State) (number : ℕ) (bytes text : List ℕ) (at : ℕ) (after : List ℕ) (r : Said)
    → AnswerSays s number bytes (take (length text - at) (drop at text)) after (Some r) → at ≤ length text → at + r.length ≤ length text
said_rest s number bytes text at after r a h =
    let n = rest_long text at in
    let k = said_within s number bytes (take (length text - at) (drop at text)) after r a in
    omega arith
