-- Rule 5.17: no revolution depends on the settings of the NAV300, and none changes them. Proved in proofs/Untouched.antt.
use Rattle.std.specs.Prelude.{◌≡◌, ℕ, T}
use Rattle.state.specs.declared.State.{State}
use Rattle.state.specs.declared.Settings.{Settings}
use Rattle.state.specs.Fields.{with_settings}
use Rattle.state.specs.Ranges.{in_range}
use Rattle.state.specs.Replies.{Effect}
use Rattle.profile.specs.Profiles.{Scan}
use Rattle.profile.specs.Revolutions.{revolution_of}

-- two results with the same words, the same count and the same number for no; the second's state is the first's, but that it has these
-- settings (rule 5.17)
pub record Alike (n : Settings) (x y : Effect) : Type 0 where
  pub written : y.written ≡ x.written
  pub count : y.reply.count ≡ x.reply.count
  pub refusal : y.reply.refusal ≡ x.reply.refusal
  pub state : y.reply.state ≡ with_settings x.reply.state n

-- what a revolution does with the settings (rule 5.17)
pub record SettingsUnsent : Type 0 where
  -- it leaves those of every state
  pub kept : (s : State) (g : Scan) (room : ℕ) → (revolution_of s g room).reply.state.settings ≡ s.settings
  -- it does the same with two states in their ranges that differ in the settings alone
  pub alike : (s t : State) (g : Scan) (room : ℕ) → T (in_range s) → T (in_range t) → t ≡ with_settings s t.settings
      → Alike t.settings (revolution_of s g room) (revolution_of t g room)
