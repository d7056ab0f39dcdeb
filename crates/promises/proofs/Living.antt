-- A life of the sensor: ranges, and the plans' eight entries, are kept from moment to moment.
use mathlib.Core.Path.{◌≡◌, refl, sym, ◌∙◌}
use mathlib.Core.Bool.{Bool, true, false, not}
use mathlib.Core.List.{List, [], ◌∷◌}
use Prim.Native.Nat.{ℕ, ◌≤◌}
use native.Mathlib.Omega.{arith}
use lib.Dec.{T, leb, leb→le}
use lib.ListN.{drop}
use Rattle.std.specs.Prelude.{if◌then◌else◌}
use Rattle.words.specs.Lists.{every, Each, none, this}
use Rattle.words.specs.Numbers.{No, no, first_of}
use Rattle.words.proofs.Tests.{and_l, and_r}
use Rattle.plan.specs.Sectors.{is_step, entry_in_range, plan_in_range}
use Rattle.state.specs.declared.State.{State}
use Rattle.state.specs.Fresh.{fresh_state}
use Rattle.state.specs.Ranges.{config_ok, in_range}
use Rattle.services.proofs.Lawful.{Eight}
use Rattle.sensor.specs.Requests.{request_of}
use Rattle.sensor.specs.Demands.{numbers_for_no as requestNumbers}
use Rattle.sensor.proofs.Lawful.{outcome_fine}
use Rattle.sensor.proofs.Demand1.{requested_by, refusals_exactly as request-number, ranges_kept as request-kept}
use Rattle.profile.specs.Profiles.{Scan}
use Rattle.profile.specs.Revolutions.{revolved, revolution_of}
use Rattle.profile.specs.Demands.{numbers_for_no as revolutionNumbers}
use Rattle.profile.proofs.Revolved.{revolution_by, refusals_exactly as revolution-number, ranges_kept as revolution-kept}
use Rattle.promises.specs.Life.{Event, asks, turns, result_of, life, is_event, Lives, Life}
use Rattle.promises.proofs.Exchanged.{sent_is_read}

request_eight : (s : State) (ws : List ℕ) (room : ℕ) → Eight s → Eight (request_of s ws room).reply.state
request_eight s ws room h = requested_by (λ x. Eight x.reply.state) s ws room (λ _. h) (λ _. (outcome_fine s ws).eight h)

revolution_eight : (s : State) (g : Scan) (room : ℕ) → Eight s → Eight (revolution_of s g room).reply.state
unfolding revolved
revolution_eight s g room h = revolution_by (λ x. Eight x.reply.state) s g room (λ _ _. h) h

-- refusal 1 is for states outside their ranges alone: no other number is below 2

later : (ns : List No) → T (every (λ n. leb 2 n.number) ns) → first_of ns ≡ 1 → ⊥
later [] h q = omega arith
later (n ∷ ns) h q = go n.due (later ns (and_r (leb 2 n.number) _ h)) q
  where
    high : 2 ≤ n.number
    high = leb→le 2 n.number (and_l (leb 2 n.number) _ h)

    go : (b : Bool) → (first_of ns ≡ 1 → ⊥) → (if b then n.number else first_of ns) ≡ 1 → ⊥
    go true rest e = omega (arith, high)
    go false rest e = rest e

not_1 : (a : Bool) (ns : List No) → T a → T (every (λ n. leb 2 n.number) ns) → first_of (no 1 (not a) ∷ ns) ≡ 1 → ⊥
not_1 false ns h l q = h
not_1 true ns h l q = later ns l q

-- one moment, and what it hands on

lives : (s : State) (e : Event) → T (is_event e) → T (in_range s) → Eight s → Lives (record { state = s; event = e })
lives s (asks ws room) w h k =
    record {
      before = h;
      after = request-kept s ws room w h;
      never_1 = λ q. not_1 (in_range s) (drop 1 (requestNumbers s ws room)) h tt (sym (request-number s ws room) ∙ q);
      read = tt;
    }
lives s (turns g room) w h k =
    record {
      before = h;
      after = revolution-kept s g room h;
      never_1 = λ q. not_1 (in_range s) (drop 1 (revolutionNumbers s g room)) h tt (sym (revolution-number s g room) ∙ q);
      read = sent_is_read s g room k.0;
    }

eight_after : (s : State) (e : Event) → Eight s → Eight (result_of s e).reply.state
eight_after s (asks ws room) = request_eight s ws room
eight_after s (turns g room) = revolution_eight s g room

lives_on : (s : State) (es : List Event) → T (every is_event es) → T (in_range s) → Eight s → Each Lives (life s es)
lives_on s [] w h k = none
lives_on s (e ∷ es) w h k =
    let m = lives s e (and_l (is_event e) (every is_event es) w) h k in
    this m (lives_on (result_of s e).reply.state es (and_r (is_event e) (every is_event es) w) m.after (eight_after s e k))

fresh_in_range : T (in_range fresh_state)
unfolding in_range config_ok is_step entry_in_range plan_in_range
fresh_in_range = tt

pub living : Life
living es w = lives_on fresh_state es w fresh_in_range (refl, refl)
