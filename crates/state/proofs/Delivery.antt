-- What a call that is lent a buffer hands back, way out by way out: a refusal, an answer that the buffer has no room for, and an answer
-- that it has room for. The count is what the code has for the answer's length.
use mathlib.Core.Path.{◌≡◌, refl, sym}
use mathlib.Core.Bool.{Bool, true, false}
use mathlib.Core.List.{List}
use Prim.Native.Nat.{ℕ, ◌≤◌, ◌<◌}
use lib.Dec.{ltb}
use lib.ListN.{length}
use native.Mathlib.Omega.{arith}
use borrow.Author.Tests.{lt-ltb, le-ltb, ltb-false}
use Rattle.std.specs.Prelude.{Result, Ok, Err, if◌then◌else◌}
use Rattle.words.specs.Buffers.{over}
use Rattle.words.proofs.Overs.{over_none}
use Rattle.words.proofs.Tests.{picked}
use Rattle.state.specs.declared.State.{State}
use Rattle.state.specs.declared.Reply.{Reply}
use Rattle.state.specs.declared.Refusal.{Refusal}
use Rattle.state.specs.declared.Refusal.TheVariants.{NoRoom}
use Rattle.state.specs.Replies.{refusal_number, Outcome, Effect, refused, delivered, Answered, Unchanged}

abbrev pub served : State → ℕ → Result Reply Refusal
served s count = Ok (record { state = s; count = count })

pub is_refused_lem : (s : State) (e : Refusal) (d : List ℕ) → Answered s (Err e) d d (refused s (refusal_number e))
is_refused_lem s e d = record { reply = refl; buffer = sym (over_none d) }

module _ (s : State) (o : Outcome) (d : List ℕ) (n : ℕ) (long : length o.words ≡ n) where
  pub no_room : length d < n → Answered s (Err NoRoom) d d (delivered s o (length d))
  unfolding delivered
  no_room h = rw (long, lt-ltb _ _ h) (is_refused_lem s NoRoom d)

  pub has_room : n ≤ length d → (after : List ℕ) → after ≡ over o.words d
      → Answered s (served o.after n) d after (delivered s o (length d))
  unfolding delivered
  has_room h after e = rw (long, le-ltb _ _ h) (record { reply = refl; buffer = e })

-- a refusal changes nothing
pub refused_unchanged : (s : State) (n : ℕ) (d : List ℕ) → Unchanged s d (refused s n)
refused_unchanged s n d = record { state = refl; count = refl; buffer = over_none d }

-- an outcome that has room
abbrev pub done : Outcome → Effect
done o = record { reply = record { state = o.after; refusal = 0; count = length o.words }; written = o.words }

-- what holds of refusal 6 and of the outcome holds of the delivery
pub delivered_by : (P : Effect → Type 0) (s : State) (o : Outcome) (room : ℕ) → P (refused s 6) → P (done o) → P (delivered s o room)
unfolding delivered
delivered_by P s o room h k = picked P (ltb room (length o.words)) (refused s 6) (done o) h k

-- the number of a delivery: 6 or none
pub delivered_number : (s : State) (o : Outcome) (room : ℕ) → (delivered s o room).reply.refusal ≡ (if ltb room (length o.words) then 6 else 0)
unfolding delivered
delivered_number s o room = go (ltb room (length o.words))
  where
    go : (b : Bool) → (if b then refused s 6 else done o).reply.refusal ≡ (if b then 6 else 0)
    go true = refl
    go false = refl

-- no more words than the buffer has are counted
pub delivered_room : (s : State) (o : Outcome) (room : ℕ) → (delivered s o room).reply.count ≤ room
unfolding delivered
delivered_room s o room = go (ltb room (length o.words)) refl
  where
    go : (b : Bool) → ltb room (length o.words) ≡ b → (if b then refused s 6 else done o).reply.count ≤ room
    go true e = omega arith
    go false e = ltb-false room (length o.words) e
