-- What holds of every service, of those that set some of the NAV300's settings: each leaves them in their ranges.
use mathlib.Core.Path.{◌≡◌, refl}
use mathlib.Core.Bool.{false, ◌&&◌}
use mathlib.Core.List.{List, [], ◌∷◌}
use Prim.Native.Nat.{ℕ}
use lib.Dec.{T, leb}
use lib.ListN.{length}
use Rattle.words.proofs.Tests.{holds}
use Rattle.state.specs.declared.State.{State}
use Rattle.state.specs.declared.Settings.{Settings}
use Rattle.state.specs.Nav300.{reflector, with_rotation, with_reflector, saved, rotation_ok, threshold_ok, radius_ok}
use Rattle.state.specs.Changes.{Part, only_in}
use Rattle.state.specs.Changes as part
use Rattle.state.specs.Fields.{with_settings}
use Rattle.state.proofs.SettingsParts.{InRanges}
use Rattle.state.proofs.Parts.{settings_of_lem, settings_set}
use Rattle.services.specs.Answers.{answer, longest}
use Rattle.services.specs.Nav300.{value_said, set_rotate_direction, set_reflector_config, save_permanent}
use Rattle.services.proofs.Lawful.{Responds, Fine, chosen, sets, stays}

module _ {Asked : Type 0} (s : State) (code : ℕ) where
  sets_settings : {changes : List Part} (ws : List ℕ) → Responds false code ws → T (leb (length ws) longest) → (n : Settings)
      → with_settings s n ≡ only_in changes s (with_settings s n)
      → (InRanges s.settings → InRanges n)
      → Fine false code changes Asked s (answer (with_settings s n) ws)
  sets_settings ws first few n o k =
      sets code s ws first few (with_settings s n) (λ _. o) (λ h. h) (λ _ p. settings_set s p n (k (settings_of_lem s p)))

  pub rotation_fine : (rotation : ℕ) → Fine false code (part.rotation ∷ []) Asked s (set_rotate_direction s code rotation)
  rotation_fine rotation =
      chosen (Fine false code (part.rotation ∷ []) Asked s) (λ o. o) (rotation_ok rotation) _ _
      (λ e. sets_settings _ refl tt (with_rotation s.settings rotation) refl
      (λ n. record { rotation = holds e; working = n.working; stored = n.stored }))
      (λ _. stays code s _ refl tt refl)

  pub reflector_fine : (threshold radius : ℕ) → Fine false code (part.reflector ∷ []) Asked s (set_reflector_config s code threshold radius)
  reflector_fine threshold radius =
      chosen (Fine false code (part.reflector ∷ []) Asked s) (λ t. answer t words) (threshold_ok threshold && radius_ok radius) _ _
      (λ e. sets_settings words refl tt (with_reflector s.settings (reflector threshold radius)) refl
      (λ n. record { rotation = n.rotation; working = holds e; stored = n.stored }))
      (λ _. stays code s words refl tt refl)
    where
      words : List ℕ
      words = code ∷ value_said (threshold_ok threshold) threshold ∷ value_said (radius_ok radius) radius ∷ []

  pub save_fine : Fine false code (part.saved ∷ []) Asked s (save_permanent s code)
  save_fine =
      sets_settings _ refl tt (saved s.settings) refl (λ n. record { rotation = n.rotation; working = n.working; stored = n.working })
