-- A revolution neither looks at the settings of the NAV300 nor changes them.
use mathlib.Core.Path.{◌≡◌, refl, sym, ap, subst}
use mathlib.Core.Bool.{Bool, true, false, not}
use mathlib.Core.List.{List, []}
use Prim.Native.Nat.{ℕ}
use lib.Dec.{T, ltb, eqb}
use lib.ListN.{length}
use Rattle.std.specs.Prelude.{if◌then◌else◌}
use Rattle.words.proofs.Tests.{is_true}
use Rattle.layout.specs.declared.Mask.{Mask}
use Rattle.state.specs.declared.State.{State}
use Rattle.state.specs.declared.Settings.{Settings}
use Rattle.state.specs.Fields.{with_settings}
use Rattle.state.specs.Jobs.{mask_of, is_job}
use Rattle.state.specs.Ranges.{is_measure, in_range}
use Rattle.state.specs.Replies.{refused, delivered}
use Rattle.state.proofs.Delivery.{done}
use Rattle.profile.specs.Profiles.{Scan}
use Rattle.profile.specs.Revolutions.{risen, sent_after, profile_by, profile_of, turned, revolved, lists_fit, reflectors_fit, revolution_refusal, revolution_of}
use Rattle.profile.proofs.Revolved.{revolution_by}
use Rattle.promises.specs.Unsent.{Alike, SettingsUnsent}

kept : (s : State) (g : Scan) (room : ℕ) → (revolution_of s g room).reply.state.settings ≡ s.settings
unfolding revolved
kept s g room = revolution_by (λ x. x.reply.state.settings ≡ s.settings) s g room (λ _ _. refl) refl

module _ (s : State) (n : Settings) (g : Scan) (room : ℕ) where
  abbrev t : State
  t = with_settings s n

  refused_alike : (number : ℕ) → Alike n (refused s number) (refused t number)
  refused_alike number = record { written = refl; count = refl; refusal = refl; state = refl }

  -- the profile of each kind is the same
  same_by : (mask : Mask) (sent counter : ℕ) → profile_by s g mask sent counter ≡ profile_by t g mask sent counter
  same_by (Mask.Plain word) sent counter = refl
  same_by (Mask.Mixed high low) sent counter = refl

  same_words : profile_of s g s.job ≡ profile_of t g s.job
  same_words = ap (λ (l : List ℕ). if is_job s.job then l else []) (same_by (mask_of s.job) (sent_after s.job) (risen s.counter))

  -- of any words, the same of both states
  words_alike : (ws : List ℕ)
      → Alike n (delivered s (record { after = turned s; words = ws }) room) (delivered t (record { after = turned t; words = ws }) room)
  unfolding delivered
  words_alike ws = go (ltb room (length ws))
    where
      go : (b : Bool)
          → Alike n (if b then refused s 6 else done (record { after = turned s; words = ws }))
          (if b then refused t 6 else done (record { after = turned t; words = ws }))
      go true = refused_alike 6
      go false = record { written = refl; count = refl; refusal = refl; state = refl }

  delivered_alike : Alike n (delivered s (revolved s g) room) (delivered t (revolved t g) room)
  unfolding revolved
  delivered_alike =
      subst (λ (l : List ℕ). Alike n (delivered s (revolved s g) room) (delivered t (record { after = turned t; words = l }) room)) same_words
      (words_alike (profile_of s g s.job))

  -- what refuses a state in its ranges
  abbrev number : ℕ
  number = if not (is_measure s.mode) then 7 else if not (lists_fit s g) then 8 else if not (reflectors_fit g) then 27 else 0

  with_settings_lem : T (in_range s) → T (in_range t) → Alike n (revolution_of s g room) (revolution_of t g room)
  unfolding revolution_of revolution_refusal
  with_settings_lem h k = rw (is_true {b = in_range s} h, is_true {b = in_range t} k) (go (eqb number 0))
    where
      go : (b : Bool)
          → Alike n (if b then delivered s (revolved s g) room else refused s number) (if b then delivered t (revolved t g) room else refused t number)
      go true = delivered_alike
      go false = refused_alike number

alike : (s t : State) (g : Scan) (room : ℕ) → T (in_range s) → T (in_range t) → t ≡ with_settings s t.settings
    → Alike t.settings (revolution_of s g room) (revolution_of t g room)
alike s t g room h k e =
    subst (λ (x : State). Alike t.settings (revolution_of s g room) (revolution_of x g room)) (sym e)
    (with_settings_lem s t.settings g room h (subst (λ (x : State). T (in_range x)) e k))

pub settings_unsent : SettingsUnsent
settings_unsent = record { kept = kept; alike = alike }
