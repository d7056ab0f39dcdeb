-- From the words to the outcome, and from the outcome to what is handed back.
use mathlib.Core.Path.{◌≡◌, ap}
use mathlib.Core.Logic.{inl, inr}
use mathlib.Core.List.{List, ◌++◌}
use Prim.Native.Nat.{ℕ, ◌%◌, ◌≤◌, ◌<◌}
use lib.ListN.{length, get_or, take, drop}
use borrow.Author.Tests.{eq-eqb, ne_eqb}
use Rattle.std.specs.Prelude.{Result, Err}
use Rattle.words.specs.Buffers.{over}
use Rattle.state.specs.declared.State.{State}
use Rattle.state.specs.declared.Reply.{Reply}
use Rattle.state.specs.declared.Refusal.{Refusal}
use Rattle.state.specs.declared.Refusal.TheVariants.{NoRoom}
use Rattle.state.specs.Replies.{refusal_number, delivered, Answered}
use Rattle.state.proofs.Delivery.{served, is_refused_lem, no_room, has_room}
use Rattle.state.proofs.HandedLaws.{refuses}
use Rattle.services.specs.declared.Served.{Served}
use Rattle.services.specs.Answers.{answer, longest, Gives, unpacked}
use Rattle.services.proofs.Packing.{unpacked_long, unpacks}
use Rattle.sensor.specs.declared.Service.{Service}
use Rattle.sensor.specs.declared.Miscount.{Miscount}
use Rattle.sensor.specs.Table.{row_of, response, service_of, outcome_of, said_of}
use Rattle.sensor.specs.Requests.{request_refusal, outcome, request_of}
use Rattle.sensor.proofs.Codes.{Has, service_has, response_is}

-- `serve_words`: the code is answered by the service's response code
answered_so : (code : ℕ) (v : Service) → Has code v → (s : State) (a b c d : ℕ)
    → (row_of v).does s (response code % 65536) a b c d ≡ outcome_of v s a b c d
answered_so code v (inl h) s a b c d = ap (λ (n : ℕ). (row_of v).does s n a b c d) (response_is code v h.0 h.1)
answered_so code v (inr e) s a b c d = rw e

said_of_lem : (code : ℕ) (v : Service) → Has code v
    → said_of (row_of v).miscount (response code % 65536) ≡ said_of (row_of v).miscount (response (row_of v).code)
said_of_lem code v (inl h) = ap (said_of (row_of v).miscount) (response_is code v h.0 h.1)
said_of_lem code v (inr e) = rw e

module _ (r : Served) (s : State) (ws : List ℕ) (v : Service) (want code n : ℕ) (e0 : code ≡ get_or ws 0 0) (en : n ≡ response code % 65536)
    (ev : v ≡ service_of code) (ew : want ≡ (row_of v).words_in) where
  pub miscount_said : (k : Miscount) → k ≡ (row_of v).miscount → (length ws ≡ want → ⊥)
      → Gives r (answer s (said_of k n)) → Gives r (outcome s ws)
  unfolding outcome
  miscount_said k ek h g =
      rw (← e0, ← ev, ← ew, ne_eqb _ _ h, ← said_of_lem code v (rw ev (service_has code))) (rw (ek, en) at g)

  pub words_served : (a b c d : ℕ) → Gives r ((row_of v).does s n a b c d) → length ws ≡ want
      → a ≡ get_or ws 1 0 → b ≡ get_or ws 2 0 → c ≡ get_or ws 3 0 → d ≡ get_or ws 4 0 → Gives r (outcome s ws)
  unfolding outcome
  words_served a b c d g h e1 e2 e3 e4 =
      rw (← e0, ← e1, ← e2, ← e3, ← e4, ← ev, ← ew, eq-eqb _ _ h, ← answered_so code v (rw ev (service_has code)) s a b c d) (rw en at g)

-- `deliver`
module _ (v : Served) (s : State) (d : List ℕ) (long : length v.words ≡ longest) (short : v.count ≤ longest) where
  pub too_long : length d < v.count → Answered s (Err NoRoom) d d (delivered s (unpacked v) (length d))
  too_long h = no_room s (unpacked v) d v.count (unpacked_long v long short) h

  pub written : v.count ≤ length d → (front : List ℕ) → front ≡ take v.count v.words
      → Answered s (served v.state v.count) d (front ++ drop v.count d) (delivered s (unpacked v) (length d))
  unfolding over
  written h front e =
      has_room s (unpacked v) d v.count (unpacked_long v long short) h _ (rw (e, unpacked_long v long short))

-- `request`
module _ (s : State) (ws d : List ℕ) where
  pub turned_down : (e : Refusal) → refusal_number e ≡ request_refusal s ws → Answered s (Err e) d d (request_of s ws (length d))
  unfolding request_of
  turned_down e q = rw (← q, refuses e) (is_refused_lem s e d)

  pub answered : 0 ≡ request_refusal s ws → (v : Served) → Gives v (outcome s ws) → (r : Result Reply Refusal) (after : List ℕ)
      → Answered s r d after (delivered s (unpacked v) (length d)) → Answered s r d after (request_of s ws (length d))
  unfolding request_of
  answered q v g r after x = rw (← q, ← unpacks v _ g) x
