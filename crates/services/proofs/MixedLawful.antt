-- What holds of every service, of those of mixed profiles: by the laws of a job that starts and of one that is cancelled.
use mathlib.Core.Path.{◌≡◌, refl}
use mathlib.Core.Bool.{false}
use mathlib.Core.List.{[], ◌∷◌}
use Prim.Native.Nat.{ℕ, ◌≤◌}
use Rattle.words.proofs.Tests.{holds}
use Rattle.layout.specs.declared.Kind.{Kind}
use Rattle.layout.specs.declared.Mask.{Mask}
use Rattle.state.specs.declared.State.{State}
use Rattle.state.specs.declared.Mode.TheVariants.{Measure}
use Rattle.state.specs.Changes as part
use Rattle.services.specs.Mixed.{starts_mixed, get_mixed_profile, cancel_mixed_profile}
use Rattle.services.specs.Nav300.{bad_value}
use Rattle.services.proofs.Lawful.{Fine, starts_fine, cancelled_fine}

module _ {Asked : Type 0} (s : State) (code : ℕ) where
  pub mixed_profile_fine : (number high low : ℕ) → (Asked → number ≤ 65535) → (Asked → s.mode ≡ Measure)
      → Fine (starts_mixed high low) code (part.job ∷ []) Asked s (get_mixed_profile s code number high low)
  mixed_profile_fine number high low =
      starts_fine s code (starts_mixed high low) number (Mask.Mixed high low) (code ∷ high ∷ low ∷ bad_value ∷ []) refl tt (λ e. holds e)

  pub cancel_mixed_fine : Fine false code (part.job ∷ []) Asked s (cancel_mixed_profile s code)
  cancel_mixed_fine = cancelled_fine s code Kind.Mixed (λ _. code ∷ 0 ∷ []) (λ _. refl) (λ _. tt)
