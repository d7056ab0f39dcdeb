-- A job of one kind goes on where one of the other kind is cancelled.
use mathlib.Core.Path.{◌≡◌, refl, ap, ◌∙◌}
use mathlib.Core.Bool.{false}
use mathlib.Core.List.{List}
use Prim.Native.Nat.{ℕ}
use lib.Dec.{T}
use lib.ListN.{get_or}
use Rattle.layout.specs.declared.Kind.{Kind}
use Rattle.layout.specs.declared.Mask.{Mask}
use Rattle.layout.specs.MixedMasks.{is_of}
use Rattle.state.specs.declared.State.{State}
use Rattle.state.specs.declared.Job.{Job}
use Rattle.state.specs.declared.Job.TheVariants.{Absent, Counted, Endless}
use Rattle.state.specs.Jobs.{has_kind}
use Rattle.services.specs.Measurement.{cancelled}
use Rattle.sensor.specs.declared.Service.{Service}
use Rattle.sensor.specs.Table.{row_of, service_of, outcome_of}
use Rattle.sensor.specs.Requests.{request_of}
use Rattle.sensor.proofs.Lawful.{lawful, outcome_by}
use Rattle.sensor.proofs.Demand1.{requested_by}

abbrev pub other : Kind → Kind
other Kind.Plain = Kind.Mixed
other Kind.Mixed = Kind.Plain

-- a mask is of one kind only, and so is a job
one_kind : (kind : Kind) (mask : Mask) → T (is_of (other kind) mask) → is_of kind mask ≡ false
one_kind Kind.Plain (Mask.Plain word) h = absurd h
one_kind Kind.Plain (Mask.Mixed high low) h = refl
one_kind Kind.Mixed (Mask.Plain word) h = refl
one_kind Kind.Mixed (Mask.Mixed high low) h = absurd h

not_its_kind : (kind : Kind) (job : Job) → T (has_kind (other kind) job) → has_kind kind job ≡ false
not_its_kind kind Absent h = absurd h
not_its_kind kind (Counted left mask sent) h = one_kind kind mask h
not_its_kind kind (Endless mask sent) h = one_kind kind mask h

not_cancelled : (kind : Kind) (s : State) → T (has_kind (other kind) s.job) → cancelled kind s ≡ s
not_cancelled kind s h = rw (not_its_kind kind s.job h)

-- a request for a service that leaves the state, whatever words come behind its code, leaves it
left_by : (w : Service) (s : State) → ((a b c d : ℕ) → (outcome_of w s a b c d).after ≡ s) → (ws : List ℕ) (room : ℕ)
    → get_or ws 0 0 ≡ (row_of w).code → (request_of s ws room).reply.state ≡ s
left_by w s h ws room e =
    requested_by (λ x. x.reply.state ≡ s) s ws room (λ _. refl)
    (λ _. outcome_by s ws (λ o. o.after ≡ s) refl (rw (ap service_of e ∙ (lawful w).found) (h _ _ _ _)))

module _ (s : State) (ws : List ℕ) (room : ℕ) where
  pub mixed_left : T (has_kind Kind.Mixed s.job) → get_or ws 0 0 ≡ (row_of Service.CancelProfile).code → (request_of s ws room).reply.state ≡ s
  mixed_left h = left_by Service.CancelProfile s (λ a b c d. not_cancelled Kind.Plain s h) ws room

  pub plain_left : T (has_kind Kind.Plain s.job) → get_or ws 0 0 ≡ (row_of Service.CancelMixedProfile).code → (request_of s ws room).reply.state ≡ s
  plain_left h = left_by Service.CancelMixedProfile s (λ a b c d. not_cancelled Kind.Mixed s h) ws room
