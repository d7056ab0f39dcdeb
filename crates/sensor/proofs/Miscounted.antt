-- What a wrong number of words gets: one law of its result, and what 4 is given for.
use mathlib.Core.Path.{◌≡◌, refl, sym, subst, ◌∙◌}
use mathlib.Core.Logic.{◌↔◌, inl, inr}
use mathlib.Core.Bool.{Bool, true, false, not, ◌&&◌, and_comm}
use mathlib.Core.List.{List, [], ◌∷◌}
use Prim.Native.Nat.{ℕ, suc}
use native.Mathlib.Omega.{arith}
use lib.Dec.{T, ltb, eqb}
use lib.ListN.{length, get_or}
use borrow.Author.Tests.{ne_eqb}
use Rattle.std.specs.Prelude.{if◌then◌else◌}
use Rattle.words.specs.Lists.{some}
use Rattle.words.specs.Numbers.{no, first_of}
use Rattle.words.proofs.Tests.{and_l, and_r, is_true}
use Rattle.state.specs.declared.State.{State}
use Rattle.state.specs.Ranges.{in_range}
use Rattle.state.specs.Replies.{Effect, refused, delivered}
use Rattle.services.specs.Answers.{answer}
use Rattle.sensor.specs.declared.Service.{Service}
use Rattle.sensor.specs.Table.{row_of, response, services, service_of, allowed, is_listed, is_refused, said_of}
use Rattle.sensor.specs.Requests.{service_refusal, request_refusal, outcome, request_of}
use Rattle.sensor.specs.Demands.{asks_none}
use Rattle.sensor.specs.WrongCounts.{answering, is_wrong_count, NeverFour, FourExactly}
use Rattle.sensor.specs.WrongCounts.{WrongCountsLeave, AnswersWith, WrongCountsSaid, WordsUnread}
use Rattle.sensor.proofs.Codes.{Has, service_has, found_by}
use Rattle.sensor.proofs.Lawful.{lawful}
use Rattle.sensor.proofs.Demand1.{requested_by, code_listed, refusals_exactly}

-- the number and the result of a code whose words are of a wrong number: nothing of them but the code is in it
abbrev number_of : State → Service → ℕ
number_of s v =
    if not (in_range s) then 1 else
    if not (is_listed v) then 3 else
    if is_refused (row_of v).miscount then 4 else
    if not (allowed v s.mode) then 5 else 0

abbrev result_of : State → Service → ℕ → Effect
result_of s v room =
    if eqb (number_of s v) 0 then delivered s (answer s (said_of (row_of v).miscount (response (row_of v).code))) room
    else refused s (number_of s v)

wrong_count : (s : State) (code : ℕ) (rest : List ℕ) (room : ℕ) → T (is_wrong_count (code ∷ rest))
    → request_of s (code ∷ rest) room ≡ result_of s (service_of code) room
unfolding request_of request_refusal service_refusal outcome
wrong_count s code rest room h =
    let wrong : is_wrong_count (code ∷ rest) ≡ true = is_true h in
    rw (wrong, ne_eqb (suc (length rest)) 0 (λ e. omega arith))

pub words_unread : WordsUnread
words_unread s code xs ys room h k = wrong_count s code xs room h ∙ sym (wrong_count s code ys room k)

-- a service that does not refuse it answers it in its modes
said_by : (v : Service) → T (is_listed v) → is_refused (row_of v).miscount ≡ false
    → AnswersWith v (said_of (row_of v).miscount (response (row_of v).code))
said_by v l r s rest room i h =
    wrong_count s (row_of v).code rest room h
    ∙ rw ((lawful v).found, in_range_lem, there, r) (go (allowed v s.mode))
  where
    in_range_lem : in_range s ≡ true
    in_range_lem = is_true i

    there : is_listed v ≡ true
    there = is_true l

    words : List ℕ
    words = said_of (row_of v).miscount (response (row_of v).code)

    go : (a : Bool)
        → (if eqb (if not a then 5 else 0) 0 then delivered s (answer s words) room else refused s (if not a then 5 else 0))
        ≡ (if a then delivered s (answer s words) room else refused s 5)
    go true = refl
    go false = refl

pub wrong_counts_said : WrongCountsSaid
wrong_counts_said =
    record {
      set_signal = said_by Service.SetSignal tt refl;
      set_function = said_by Service.SetFunction tt refl;
      get_function = said_by Service.GetFunction tt refl;
      get_profile = said_by Service.GetProfile tt refl;
    }

pub wrong_counts_leave : WrongCountsLeave
unfolding outcome
wrong_counts_leave s ws room h =
    let wrong : is_wrong_count ws ≡ true = is_true h in
    requested_by (λ x. x.reply.state ≡ s) s ws room (λ _. refl) (λ _. rw wrong)

-- the column: of the services of the table, those that refuse it are all but the four
alike : Bool → Bool → Bool
alike true y = y
alike false y = not y

are_alike : (x y : Bool) → T (alike x y) → x ≡ y
unfolding alike
are_alike true y h = sym (is_true h)
are_alike false true h = absurd h
are_alike false false h = refl

module _ (ws : List ℕ) where
  abbrev v : Service
  v = service_of (get_or ws 0 0)

  abbrev refuses : Bool
  refuses = is_refused (row_of v).miscount

  column : T (not (asks_none ws services)) → refuses ≡ asks_none ws answering
  unfolding alike
  column l =
      go v (service_has (get_or ws 0 0)) (rw (← code_listed (get_or ws 0 0)) at l)
      (found_by (λ w. alike (is_refused (row_of w).miscount) (asks_none ((row_of w).code ∷ []) answering)) (get_or ws 0 0) tt tt)
    where
      go : (w : Service) → Has (get_or ws 0 0) w → T (not (not (is_listed w)))
          → T (alike (is_refused (row_of w).miscount) (asks_none ((row_of w).code ∷ []) answering))
          → is_refused (row_of w).miscount ≡ asks_none ws answering
      go w (inl h) l k = are_alike _ _ (rw h.1 at k)
      go w (inr e) l k = absurd (rw e at l)

-- 4 among the numbers of a request: it is due, and none before it is
four : (a b c d e f : Bool)
    → (first_of (no 1 (not a) ∷ no 2 (not b) ∷ no 3 c ∷ no 4 d ∷ no 5 e ∷ no 6 f ∷ []) ≡ 4) ↔ T (a && (b && (not c && d)))
four true true false true e f = (λ _. tt, λ _. refl)
four true true false false true f = (λ q. absurd (omega arith), λ h. absurd h)
four true true false false false true = (λ q. absurd (omega arith), λ h. absurd h)
four true true false false false false = (λ q. absurd (omega arith), λ h. absurd h)
four true true true d e f = (λ q. absurd (omega arith), λ h. absurd h)
four true false c d e f = (λ q. absurd (omega arith), λ h. absurd h)
four false b c d e f = (λ q. absurd (omega arith), λ h. absurd h)

-- a request for a service has a word
has_word : (ws : List ℕ) → T (not (asks_none ws services)) → some ws ≡ true
has_word [] h = absurd h
has_word (w ∷ ws) h = refl

in_words : (a b n w r x : Bool) → (T n → b ≡ true) → (T n → r ≡ x) → (a && (b && (n && (w && r)))) ≡ (a && (n && (x && w)))
in_words false b n w r x h k = refl
in_words true true false w r x h k = refl
in_words true false false w r x h k = refl
in_words true b true w r x h k = rw (h tt, k tt) (and_comm w x)

pub four_exactly : FourExactly
four_exactly s ws room =
    subst (λ (b : Bool). ((request_of s ws room).reply.refusal ≡ 4) ↔ T b)
    (in_words (in_range s) (some ws) (not (asks_none ws services)) (is_wrong_count ws) (refuses ws) (asks_none ws answering) (has_word ws) (column ws))
    (rw (refusals_exactly s ws room)
    (four (in_range s) (some ws) (asks_none ws services) (is_wrong_count ws && refuses ws) (not (allowed (v ws) s.mode))
    (ltb room (length (outcome s ws).words))))

pub never_four : NeverFour
never_four s ws room a q =
    let h = and_r (in_range s) _ ((four_exactly s ws room).0 q) in
    go (asks_none ws answering) (and_l (asks_none ws answering) (is_wrong_count ws) (and_r (not (asks_none ws services)) _ h)) a
  where
    go : (b : Bool) → T b → T (not b) → ⊥
    go true h k = k
    go false h k = h
