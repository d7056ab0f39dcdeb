-- What `revolution` hands back is an answer's: its numbers are those of refusals.
use mathlib.Core.Path.{refl}
use mathlib.Core.Bool.{Bool, true, false, not}
use Prim.Native.Nat.{ℕ}
use lib.Dec.{eqb}
use Rattle.std.specs.Prelude.{if◌then◌else◌}
use Rattle.state.specs.declared.State.{State}
use Rattle.state.specs.Replies.{Outcome, refused, delivered}
use Rattle.state.proofs.HandedLaws.{IsHanded, delivered_handed}
use Rattle.profile.specs.Profiles.{Scan}
use Rattle.profile.specs.Revolutions.{revolved, revolution_refusal, revolution_of}

module _ (s : State) (o : Outcome) (room : ℕ) where
  -- a number for no, or with 0 the delivery of an outcome
  abbrev Fine : ℕ → Type 0
  Fine n = IsHanded s (if eqb n 0 then delivered s o room else refused s n).reply

  revolution_by : (a b c d : Bool) → Fine (if not a then 1 else if not b then 7 else if not c then 8 else if not d then 27 else 0)
  revolution_by false b c d = refl
  revolution_by true false c d = refl
  revolution_by true true false d = refl
  revolution_by true true true false = refl
  revolution_by true true true true = delivered_handed s o room

pub revolution_handed : (s : State) (g : Scan) (room : ℕ) → IsHanded s (revolution_of s g room).reply
unfolding revolution_of revolution_refusal
revolution_handed s g room = revolution_by s (revolved s g) room _ _ _ _
