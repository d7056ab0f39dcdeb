-- An answer by number and values: no two answers to a call at one state are the same, and there is one for each refusal and each delivery.
use mathlib.Core.Path.{◌≡◌, refl, sym, ap, ◌∙◌}
use mathlib.Core.Bool.{Bool, true, false}
use mathlib.Core.List.{List}
use Prim.Native.Nat.{ℕ}
use lib.Dec.{ltb, eqb}
use lib.ListN.{length}
use Rattle.std.specs.Prelude.{Result, Ok, Err, if◌then◌else◌}
use Rattle.words.specs.Buffers.{over}
use Rattle.state.specs.declared.State.{State}
use Rattle.state.specs.declared.Reply.{Reply}
use Rattle.state.specs.declared.Refusal.{Refusal}
use Rattle.state.specs.declared.Refusal.TheVariants.{OutOfRange, NoWord, UnknownCode, WrongCount, NotInMode, NoRoom, NotMeasuring}
use Rattle.state.specs.declared.Refusal.TheVariants.{ListLength, ReflectorList}
use Rattle.state.specs.Replies.{refusal_number, Handed, handed, said, Outcome, Effect, refused, delivered, Answered}
use Rattle.state.proofs.Delivery.{done}

-- no refusal has the number for none
pub refuses : (e : Refusal) → eqb (refusal_number e) 0 ≡ false
refuses OutOfRange = refl
refuses NoWord = refl
refuses UnknownCode = refl
refuses WrongCount = refl
refuses NotInMode = refl
refuses NoRoom = refl
refuses NotMeasuring = refl
refuses ListLength = refl
refuses ReflectorList = refl

-- the refusal of a number, and the answer of a number and values
abbrev refusal_of : ℕ → Refusal
refusal_of n =
    if eqb n 1 then OutOfRange else
    if eqb n 2 then NoWord else
    if eqb n 3 then UnknownCode else
    if eqb n 4 then WrongCount else
    if eqb n 5 then NotInMode else
    if eqb n 6 then NoRoom else
    if eqb n 7 then NotMeasuring else
    if eqb n 8 then ListLength else ReflectorList

abbrev pub unhanded : Handed → Result Reply Refusal
unhanded h = if eqb h.refusal 0 then Ok (record { state = h.state; count = h.count }) else Err (refusal_of h.refusal)

-- each answer is read off what it hands back
pub unhands : (s : State) (r : Result Reply Refusal) → unhanded (handed s r) ≡ r
unhands s (Ok r) = refl
unhands s (Err OutOfRange) = refl
unhands s (Err NoWord) = refl
unhands s (Err UnknownCode) = refl
unhands s (Err WrongCount) = refl
unhands s (Err NotInMode) = refl
unhands s (Err NoRoom) = refl
unhands s (Err NotMeasuring) = refl
unhands s (Err ListLength) = refl
unhands s (Err ReflectorList) = refl

-- an answer hands this back: the one that is read off it
abbrev pub IsHanded : State → Handed → Type 0
IsHanded s h = handed s (unhanded h) ≡ h

-- a delivery
pub delivered_handed : (s : State) (o : Outcome) (room : ℕ) → IsHanded s (delivered s o room).reply
unfolding delivered
delivered_handed s o room = go (ltb room (length o.words))
  where
    go : (b : Bool) → IsHanded s (if b then refused s 6 else done o).reply
    go true = refl
    go false = refl

-- the number alone is the one that is handed back
pub said_is : (s : State) (r : Result Reply Refusal) → said r ≡ (handed s r).refusal
said_is s (Ok r) = refl
said_is s (Err e) = refl

-- what answers with an effect is read off it, and there is such an answer
pub answered_read : (s : State) (r : Result Reply Refusal) (before after : List ℕ) (x : Effect) → Answered s r before after x → r ≡ unhanded x.reply
answered_read s r before after x a = sym (unhands s r) ∙ ap unhanded a.reply

pub answered_given : (s : State) (before : List ℕ) (x : Effect) → IsHanded s x.reply
    → Answered s (unhanded x.reply) before (over x.written before) x
answered_given s before x h = record { reply = h; buffer = refl }
