-- Demand 1 for requests: a refusal changes nothing, each is given exactly then, 6 never with room for all, and ranges are kept.
use mathlib.Core.Path.{◌≡◌, refl, sym, ◌∙◌}
use mathlib.Core.Bool.{Bool, true, false, not, ◌&&◌}
use mathlib.Core.List.{List, [], ◌∷◌}
use Prim.Native.Nat.{ℕ, zero, suc, ◌≤◌}
use native.Mathlib.Omega.{arith}
use lib.Dec.{T, ltb, eqb}
use lib.ListN.{length, get_or, take}
use lib.Seq.{length-take-le, take-append_seam}
use borrow.Author.Tests.{ne_eqb, eqb-true, ltb-true, le-ltb}
use Rattle.std.specs.Prelude.{if◌then◌else◌, Result}
use Rattle.words.specs.Lists.{some, every, are_words}
use Rattle.words.specs.Numbers.{no, first_of}
use Rattle.words.specs.Buffers.{over}
use Rattle.words.proofs.Overs.{over_length}
use Rattle.words.proofs.Tests.{and_l, and_r, is_true}
use Rattle.state.specs.declared.State.{State}
use Rattle.state.specs.Ranges.{in_range}
use Rattle.state.specs.declared.Reply.{Reply}
use Rattle.state.specs.declared.Refusal.{Refusal}
use Rattle.state.specs.Replies.{handed, Effect, refused, delivered, Answered, Unchanged}
use Rattle.state.proofs.Delivery.{refused_unchanged, done, delivered_by, delivered_number, delivered_room}
use Rattle.state.proofs.HandedLaws.{IsHanded, delivered_handed}
use Rattle.state.proofs.Parts.{parts, whole}
use Rattle.sensor.specs.declared.Service.{Service}
use Rattle.sensor.specs.Table.{row_of, services, named, service_of, allowed, is_listed, count_refused}
use Rattle.sensor.specs.Requests.{service_refusal, request_refusal, outcome, request_of}
use Rattle.sensor.specs.Demands.{RefusalsChangeNothing, RefusalsExactly, RoomForAll, RangesKept}
use Rattle.sensor.proofs.Lawful.{outcome_fine}

-- what holds of every refusal, and of the outcome of a request that none of 1 to 5 refuses, holds of the request
pub requested_by : (P : Effect → Type 0) (s : State) (ws : List ℕ) (room : ℕ) → ((n : ℕ) → P (refused s n))
    → (request_refusal s ws ≡ 0 → P (done (outcome s ws))) → P (request_of s ws room)
unfolding request_of
requested_by P s ws room h k = go (eqb (request_refusal s ws) 0) refl
  where
    go : (b : Bool) → eqb (request_refusal s ws) 0 ≡ b → P (if b then delivered s (outcome s ws) room else refused s (request_refusal s ws))
    go true e = delivered_by P s (outcome s ws) room (h 6) (k (eqb-true _ 0 e))
    go false e = h (request_refusal s ws)

-- no more words than the buffer has are counted
pub requested_room : (s : State) (ws : List ℕ) (room : ℕ) → (request_of s ws room).reply.count ≤ room
unfolding request_of
requested_room s ws room = go (eqb (request_refusal s ws) 0)
  where
    go : (b : Bool) → (if b then delivered s (outcome s ws) room else refused s (request_refusal s ws)).reply.count ≤ room
    go true = delivered_room s (outcome s ws) room
    go false = omega arith

-- the words written are counted
requested_count : (s : State) (ws : List ℕ) (room : ℕ) → (request_of s ws room).reply.count ≡ length (request_of s ws room).written
requested_count s ws room = requested_by (λ x. x.reply.count ≡ length x.written) s ws room (λ _. refl) (λ _. refl)

-- what a caller finds in its buffer: the answer's words, as many as are counted, and no more than it has
module _ (r : Result Reply Refusal) (d d' : List ℕ) (s : State) (ws : List ℕ) (a : Answered s r d d' (request_of s ws (length d))) where
  fits : length (request_of s ws (length d)).written ≤ length d
  fits = rw (← requested_count s ws (length d)) (requested_room s ws (length d))

  pub answer_within : (handed s r).count ≤ length d'
  answer_within = rw (a.reply, a.buffer, over_length _ d fits) (requested_room s ws (length d))

  pub answer_counted : (handed s r).count ≡ length (take (handed s r).count d')
  answer_counted = sym (length-take-le (handed s r).count d' answer_within)

  pub answer_words : take (handed s r).count d' ≡ (request_of s ws (length d)).written
  unfolding over
  answer_words = rw (a.reply, a.buffer, requested_count s ws (length d)) (take-append_seam _ _)

-- what holds of each of the numbers holds of the one that tests one after another find
of_each : (P : ℕ → Type 0) (a b c d e : Bool) → P 0 → P 1 → P 2 → P 3 → P 4 → P 5
    → P (if a then 1 else if b then 2 else if c then 3 else if d then 4 else if e then 5 else 0)
of_each P true b c d e p0 p1 p2 p3 p4 p5 = p1
of_each P false true c d e p0 p1 p2 p3 p4 p5 = p2
of_each P false false true d e p0 p1 p2 p3 p4 p5 = p3
of_each P false false false true e p0 p1 p2 p3 p4 p5 = p4
of_each P false false false false true p0 p1 p2 p3 p4 p5 = p5
of_each P false false false false false p0 p1 p2 p3 p4 p5 = p0

-- there is an answer that hands back what the definition has
pub requested_handed : (s : State) (ws : List ℕ) (room : ℕ) → IsHanded s (request_of s ws room).reply
unfolding request_of request_refusal service_refusal
requested_handed s ws room =
    let v = service_of (get_or ws 0 0) in
    of_each (λ n. IsHanded s (if eqb n 0 then delivered s (outcome s ws) room else refused s n).reply)
    (not (in_range s)) (eqb (length ws) 0) (not (is_listed v)) (count_refused v (length ws)) (not (allowed v s.mode))
    (delivered_handed s (outcome s ws) room) refl refl refl refl refl

pub refusals_change_nothing : RefusalsChangeNothing
refusals_change_nothing s ws d =
    requested_by (λ x. (x.reply.refusal ≡ 0 → ⊥) → Unchanged s d x) s ws (length d) (λ n _. refused_unchanged s n d) (λ _ n. absurd (n refl))

-- a code is in the table where one of the services has it
listed : (code : ℕ) (vs : List Service) → T (every is_listed vs)
    → not (is_listed (named code vs)) ≡ every (λ v. not (eqb code (row_of v).code)) vs
listed code [] h = refl
listed code (v ∷ vs) h = go (eqb code (row_of v).code) (listed code vs (and_r (is_listed v) (every is_listed vs) h))
  where
    yes : is_listed v ≡ true
    yes = is_true (and_l (is_listed v) (every is_listed vs) h)

    go : (b : Bool) → not (is_listed (named code vs)) ≡ every (λ v. not (eqb code (row_of v).code)) vs
        → not (is_listed (if b then v else named code vs)) ≡ (not b && every (λ v. not (eqb code (row_of v).code)) vs)
    go true e = rw yes
    go false e = e

no_word : (ws : List ℕ) → eqb (length ws) 0 ≡ not (some ws)
no_word [] = refl
no_word (w ∷ ws) = ne_eqb (suc (length ws)) 0 (λ e. omega arith)

pub code_listed : (code : ℕ) → not (is_listed (service_of code)) ≡ every (λ v. not (eqb code (row_of v).code)) services
unfolding service_of
code_listed code = listed code services tt

-- the tests one after another, as the definition has them and as the table has them
in_order : (a b c d e f : Bool)
    → (if eqb (if a then 1 else if b then 2 else if c then 3 else if d then 4 else if e then 5 else 0) 0
    then (if f then 6 else 0)
    else (if a then 1 else if b then 2 else if c then 3 else if d then 4 else if e then 5 else 0))
    ≡ first_of (no 1 a ∷ no 2 b ∷ no 3 c ∷ no 4 d ∷ no 5 e ∷ no 6 f ∷ [])
in_order true b c d e f = refl
in_order false true c d e f = refl
in_order false false true d e f = refl
in_order false false false true e f = refl
in_order false false false false true f = refl
in_order false false false false false true = refl
in_order false false false false false false = refl

module _ (s : State) (ws : List ℕ) where
  refusal_is : request_refusal s ws
      ≡ (if not (in_range s) then 1
      else if not (some ws) then 2
      else if every (λ v. not (eqb (get_or ws 0 0) (row_of v).code)) services then 3
      else if count_refused (service_of (get_or ws 0 0)) (length ws) then 4
      else if not (allowed (service_of (get_or ws 0 0)) s.mode) then 5 else 0)
  unfolding request_refusal service_refusal
  refusal_is = rw (no_word ws, code_listed (get_or ws 0 0))

  number_is : (room : ℕ) → (request_of s ws room).reply.refusal
      ≡ (if eqb (request_refusal s ws) 0 then (if ltb room (length (outcome s ws).words) then 6 else 0) else request_refusal s ws)
  unfolding request_of
  number_is room = go (eqb (request_refusal s ws) 0)
    where
      go : (b : Bool)
          → (if b then delivered s (outcome s ws) room else refused s (request_refusal s ws)).reply.refusal
          ≡ (if b then (if ltb room (length (outcome s ws).words) then 6 else 0) else request_refusal s ws)
      go true = delivered_number s (outcome s ws) room
      go false = refl

pub refusals_exactly : RefusalsExactly
refusals_exactly s ws room =
    number_is s ws room ∙
    rw (refusal_is s ws)
    (in_order (not (in_range s)) (not (some ws)) (every (λ v. not (eqb (get_or ws 0 0) (row_of v).code)) services)
    (count_refused (service_of (get_or ws 0 0)) (length ws)) (not (allowed (service_of (get_or ws 0 0)) s.mode))
    (ltb room (length (outcome s ws).words)))

-- a request that none of 1 to 5 refuses finds a state in its ranges, and a mode that is listed
passes : (a b c d e : Bool)
    → ◌≡◌ {A = ℕ} (if not a then 1 else if b then 2 else if not c then 3 else if d then 4 else if not e then 5 else 0) 0 → T a × T e
passes true false true false true q = (tt, tt)
passes true false true false false q = absurd (omega arith)
passes true false true true e q = absurd (omega arith)
passes true false false d e q = absurd (omega arith)
passes true true c d e q = absurd (omega arith)
passes false b c d e q = absurd (omega arith)

pub served_so : (s : State) (ws : List ℕ) → request_refusal s ws ≡ 0 → T (in_range s) × T (allowed (service_of (get_or ws 0 0)) s.mode)
unfolding request_refusal service_refusal
served_so s ws e =
    let v = service_of (get_or ws 0 0) in
    passes (in_range s) (eqb (length ws) 0) (is_listed v) (count_refused v (length ws)) (allowed v s.mode) e

word_fits : (ws : List ℕ) (i : ℕ) → T (are_words ws) → get_or ws i 0 ≤ 65535
word_fits [] i h = omega arith
word_fits (w ∷ ws) zero h = omega (arith, ltb-true w 65536 (is_true (and_l (ltb w 65536) (are_words ws) h)))
word_fits (w ∷ ws) (suc i) h = word_fits ws i (and_r (ltb w 65536) (are_words ws) h)

pub ranges_kept : RangesKept
ranges_kept s ws room w h =
    requested_by (λ x. T (in_range x.reply.state)) s ws room (λ _. h)
    (λ e. whole _ ((outcome_fine s ws).kept (word_fits ws 1 w, (served_so s ws e).1) (parts s h)))

-- with room for the longest answer 6 is not given
not_six : (b : Bool) (n : ℕ) → n ≤ 5 → ◌≡◌ {A = ℕ} (if b then 0 else n) 6 → ⊥
not_six true n h q = omega arith
not_six false n h q = omega arith

at_most : (a b c d e : Bool) → (if a then 1 else if b then 2 else if c then 3 else if d then 4 else if e then 5 else 0) ≤ 5
at_most true b c d e = omega arith
at_most false true c d e = omega arith
at_most false false true d e = omega arith
at_most false false false true e = omega arith
at_most false false false false true = omega arith
at_most false false false false false = omega arith

below : (s : State) (ws : List ℕ) → request_refusal s ws ≤ 5
unfolding request_refusal service_refusal
below s ws =
    let v = service_of (get_or ws 0 0) in
    at_most (not (in_range s)) (eqb (length ws) 0) (not (is_listed v)) (count_refused v (length ws)) (not (allowed v s.mode))

pub room_for_all : RoomForAll
room_for_all s ws room h q =
    let short = (outcome_fine s ws).short in
    let fits = le-ltb room (length (outcome s ws).words) (omega arith) in
    not_six (eqb (request_refusal s ws) 0) (request_refusal s ws) (below s ws) (rw fits at (sym (number_is s ws room) ∙ q))
