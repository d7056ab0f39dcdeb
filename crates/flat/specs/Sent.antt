-- Rules 5.9 and 5.21: what the calls hand back: the count of the result's reply, and its words over the buffer that was lent.
use Rattle.std.specs.Prelude.{◌≡◌, List, ℕ, length}
use Rattle.words.specs.Buffers.{over}
use Rattle.layout.specs.declared.Mask.{Mask}
use Rattle.state.specs.Fresh.{measuring}
use Rattle.state.specs.Replies.{Effect}
use Rattle.profile.specs.Profiles.{Scan}
use Rattle.profile.specs.Revolutions.{revolution_of}
use Rattle.flat.specs.Plans.{plan_of}

pub record Sent (count : ℕ) (before after : List ℕ) (x : Effect) : Type 0 where
  pub counted : count ≡ x.reply.count
  pub buffer : after ≡ over x.written before

-- a revolution of a sensor that measures with the plan of these words, by a mask of either kind (rules 5.9 and 5.21)
abbrev pub SentBy : List ℕ → ℕ → ℕ → Mask → Scan → List ℕ → List ℕ → ℕ → Type 0
SentBy plan step running mask g before after count =
    Sent count before after (revolution_of (measuring (plan_of plan) step running mask) g (length before))

-- the contract of `slackjib_profile` (rule 5.9)
abbrev pub ProfileSays : List ℕ → ℕ → ℕ → ℕ → Scan → List ℕ → List ℕ → ℕ → Type 0
ProfileSays plan step running mask g before after count = SentBy plan step running (Mask.Plain mask) g before after count

-- the contract of `slackjib_mixed_profile`: the same with the two words of a mixed mask (rule 5.21)
abbrev pub MixedSays : List ℕ → ℕ → ℕ → ℕ → ℕ → Scan → List ℕ → List ℕ → ℕ → Type 0
MixedSays plan step running high low g before after count = SentBy plan step running (Mask.Mixed high low) g before after count
