-- What the services of the table answer, and what no other part of the state becomes: each theorem by the one law of a service.
use mathlib.Core.Path.{◌≡◌, refl, sym, ap, ◌∙◌}
use mathlib.Core.Logic.{◌↔◌, ◌⊎◌, inl, inr, ⊎_elim}
use mathlib.Core.Bool.{Bool, true, false, not, ◌&&◌, ◌||◌}
use mathlib.Core.List.{List, [], ◌∷◌}
use Prim.Native.Nat.{ℕ, suc, ◌≤◌, ◌<◌}
use native.Mathlib.Omega.{arith}
use lib.Dec.{T, leb, eqb, leb→le, eqb→eq}
use lib.ListN.{length, get_or, take}
use borrow.Author.Tests.{eqb-true}
use Rattle.std.specs.Prelude.{if◌then◌else◌}
use Rattle.words.proofs.Tests.{and_l, and_r, is_true, holds}
use Rattle.state.specs.declared.State.{State}
use Rattle.state.specs.Nav300.{reflector, with_rotation, with_reflector, rotation_ok, threshold_ok, radius_ok}
use Rattle.state.specs.Fields.{with_config, with_settings}
use Rattle.state.specs.Changes.{Part, only_in}
use Rattle.state.specs.Ranges.{config_ok}
use Rattle.state.proofs.Parts.{parts}
use Rattle.state.proofs.SameParts.{same_in}
use Rattle.services.specs.Answers.{answer, no_value}
use Rattle.services.specs.Configuration.{config_item, config_taken}
use Rattle.services.specs.Mixed.{starts_mixed}
use Rattle.services.specs.Nav300.{bad_value, value_said}
use Rattle.services.proofs.Lawful.{Responds}
use Rattle.sensor.specs.declared.Service.{Service}
use Rattle.sensor.specs.Table.{row_of, response, service_of, outcome_of, silent}
use Rattle.sensor.specs.Requests.{request_of}
use Rattle.sensor.specs.Demands.{TableHolds, OnlyThese}
use Rattle.sensor.proofs.Lawful.{lawful, outcome_by, outcome_fine}
use Rattle.sensor.proofs.Demand1.{requested_by, served_so}
use Rattle.sensor.proofs.OtherKind.{mixed_left, plain_left}

-- the first word, and whether there is one
first_word : (b : Bool) (code : ℕ) (ws : List ℕ) → Responds b code ws → T (not b) → take 1 ws ≡ code ∷ []
first_word true code ws r h = absurd h
first_word false code ws r h = r

no_word : (b : Bool) (code : ℕ) (ws : List ℕ) → Responds b code ws → (ws ≡ []) ↔ T b
no_word true code ws r = (λ _. tt, λ _. r)
no_word false code ws r =
    (λ e. (let z : ◌≡◌ {A = ℕ} 0 1 = ap (λ (l : List ℕ). length (take 1 l)) (sym e) ∙ ap length r in omega arith), λ h. absurd h)

pub table_holds : TableHolds
table_holds v h =
    record {
      found = (lawful v).found;
      short = λ s a b c d. ((lawful v).fine s _ a b c d).short;
      first = λ s a b c d. first_word (silent v a b c d) _ _ ((lawful v).fine s _ a b c d).responds;
      none = λ s a b c d. no_word (silent v a b c d) _ _ ((lawful v).fine s _ a b c d).responds;
    }

-- a service that says no by these words behind its response code leaves the state as it came
abbrev SaysNoBy : Service → List ℕ → Type 0
SaysNoBy w words =
    (s : State) (a b c d : ℕ) → (outcome_of w s a b c d).words ≡ response (row_of w).code ∷ words → (outcome_of w s a b c d).after ≡ s

-- by a test: a value is answered and something stored, or the word for no is answered and nothing stored; no value that is taken is that word
by_one_word : (taken : Bool) (s t : State) (code value bad : ℕ) → (taken ≡ true → value ≡ bad → ⊥)
    → (if taken then answer t (code ∷ value ∷ []) else answer s (code ∷ bad ∷ [])).words ≡ code ∷ bad ∷ []
    → (if taken then answer t (code ∷ value ∷ []) else answer s (code ∷ bad ∷ [])).after ≡ s
by_one_word true s t code value bad n q = absurd (n refl (ap (λ (l : List ℕ). get_or l 1 0) q))
by_one_word false s t code value bad n q = refl

set_config_no : SaysNoBy Service.SetConfig (no_value ∷ [])
set_config_no s a b c d =
    by_one_word (config_taken a b c d) s (with_config s b c d) _ a no_value
    (λ e z. (let i : a ≡ config_item = eqb-true a config_item (is_true (and_l (eqb a config_item) (config_ok b c d) (holds e))) in omega arith))

rotation_no : SaysNoBy Service.SetRotateDirection (bad_value ∷ [])
rotation_no s a b c d =
    by_one_word (rotation_ok a) s (with_settings s (with_rotation s.settings a)) _ a bad_value (λ e z. omega (arith, leb→le a 1 (holds e)))

either : (x y : Bool) → T (x || y) → T x ⊎ T y
either true y h = inl tt
either false y h = inr h

-- a value that is good is not the word for a bad one
not_bad : (value most : ℕ) → value ≤ most → most < bad_value → T (eqb value bad_value) → ⊥
not_bad value most h l e = omega (arith, eqb→eq value bad_value e)

reflector_no : (threshold radius : ℕ) → T (eqb threshold bad_value || eqb radius bad_value)
    → SaysNoBy Service.SetReflectorConfig (threshold ∷ radius ∷ [])
reflector_no threshold radius bad s a b c d q =
    go (threshold_ok a) (radius_ok b) refl refl (ap (λ (l : List ℕ). get_or l 1 0) q) (ap (λ (l : List ℕ). get_or l 2 0) q)
  where
    set : State
    set = with_settings s (with_reflector s.settings (reflector a b))

    go : (x y : Bool) → threshold_ok a ≡ x → radius_ok b ≡ y → value_said x a ≡ threshold → value_said y b ≡ radius
        → (if x && y then set else s) ≡ s
    go false y e f i j = refl
    go true false e f i j = refl
    go true true e f i j =
        absurd
        (⊎_elim (λ h. not_bad a 100 (leb→le a 100 (and_r (leb 1 a) (leb a 100) (holds e))) (omega arith) (rw i h))
        (λ h. not_bad b 127 (leb→le b 127 (holds f)) (omega arith) (rw j h)) (either (eqb threshold bad_value) (eqb radius bad_value) bad))

-- by a test: nothing is answered and something stored, or words are answered and nothing stored
by_no_word : (starts : Bool) (s t : State) (said : List ℕ) (code : ℕ) (words : List ℕ)
    → (if starts then answer t [] else answer s said).words ≡ code ∷ words → (if starts then answer t [] else answer s said).after ≡ s
by_no_word true s t said code words q = absurd (let z : ◌≡◌ {A = ℕ} 0 (suc (length words)) = ap length q in omega arith)
by_no_word false s t said code words q = refl

mask_no : (high low : ℕ) → SaysNoBy Service.GetMixedProfile (high ∷ low ∷ bad_value ∷ [])
mask_no high low s a b c d = by_no_word (starts_mixed b c) s _ _ _ _

-- which service answered, by the first word
code_is : (b : Bool) (code k : ℕ) (ws rest : List ℕ) → Responds b (response code) ws → ws ≡ response k ∷ rest → code ≡ k
code_is true code k ws rest r q = absurd (let z : ◌≡◌ {A = ℕ} (suc (length rest)) 0 = ap length (sym q ∙ r) in omega arith)
code_is false code k ws rest r q =
    let z : response code ≡ response k = ap (λ (l : List ℕ). get_or l 0 0) (sym r ∙ ap (take 1) q) in
    omega arith

answered_by : (v w : Service) (s : State) (a b c d : ℕ) (rest : List ℕ) → (outcome_of v s a b c d).words ≡ response (row_of w).code ∷ rest → v ≡ w
answered_by v w s a b c d rest q =
    sym (lawful v).found ∙ ap service_of (code_is (silent v a b c d) _ _ _ rest ((lawful v).fine s _ a b c d).responds q) ∙ (lawful w).found

-- so every request that is answered so left the state
said_no_by : (w : Service) (words : List ℕ) → SaysNoBy w words → (s : State) (v : Service) (a b c d : ℕ)
    → (outcome_of v s a b c d).words ≡ response (row_of w).code ∷ words → (outcome_of v s a b c d).after ≡ s
said_no_by w words h s v a b c d q =
    let e = answered_by v w s a b c d words q in
    rw e (h s a b c d (rw e at q))

request_no : (w : Service) (words : List ℕ) → SaysNoBy w words → (s : State) (ws : List ℕ) (room : ℕ)
    → (request_of s ws room).written ≡ response (row_of w).code ∷ words → (request_of s ws room).reply.state ≡ s
request_no w words h s ws room =
    requested_by (λ x. x.written ≡ response (row_of w).code ∷ words → x.reply.state ≡ s) s ws room (λ _ _. refl)
    (λ _. outcome_by s ws (λ o. o.words ≡ response (row_of w).code ∷ words → o.after ≡ s) (λ _. refl)
    (said_no_by w words h s (service_of (get_or ws 0 0)) _ _ _ _))

pub only_these : OnlyThese
only_these s ws room =
    record {
      only =
          requested_by (λ x. x.reply.state ≡ only_in changes s x.reply.state) s ws room (λ _. same_in changes s)
          (λ e. (outcome_fine s ws).only (parts s (served_so s ws e).0));
      no_config = request_no Service.SetConfig (no_value ∷ []) set_config_no s ws room;
      no_rotation = request_no Service.SetRotateDirection (bad_value ∷ []) rotation_no s ws room;
      no_reflector = λ a b bad. request_no Service.SetReflectorConfig (a ∷ b ∷ []) (reflector_no a b bad) s ws room;
      no_mask = λ high low. request_no Service.GetMixedProfile (high ∷ low ∷ bad_value ∷ []) (mask_no high low) s ws room;
      mixed_goes_on = mixed_left s ws room;
      plain_goes_on = plain_left s ws room;
    }
  where
    changes : List Part
    changes = (row_of (service_of (get_or ws 0 0))).changes
