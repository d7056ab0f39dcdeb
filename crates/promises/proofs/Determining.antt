-- Every public call is determined by its contract: the contract gives the answer as a value.
use mathlib.Core.Path.{◌≡◌, refl, sym, ap, ◌∙◌}
use mathlib.Core.List.{List}
use Prim.Native.Nat.{ℕ}
use lib.ListN.{length}
use denote.Bor.{Bor}
use Rattle.std.specs.Prelude.{Result}
use Rattle.words.specs.Buffers.{over}
use Rattle.state.specs.declared.State.{State}
use Rattle.state.specs.declared.Reply.{Reply}
use Rattle.state.specs.declared.Refusal.{Refusal}
use Rattle.state.specs.Replies.{Effect, Answered}
use Rattle.state.proofs.HandedLaws.{unhanded, IsHanded, answered_read, answered_given}
use Rattle.plan.specs.Checks.{measure_error}
use Rattle.plan.proofs.Erring.{error_of, error_read, some_error}
use Rattle.normal.proofs.Saying.{said_one as plan_said_one, says_some}
use Rattle.sensor.proofs.Lawful.{lawful}
use Rattle.sensor.proofs.Demand1.{requested_handed}
use Rattle.reader.specs.MixedStretches.{Lends}
use Rattle.reader.proofs.OneAnswer.{said_one, mixed_said_one, one_why, some_reading, some_mixed_reading}
use Rattle.reader.proofs.OneAnswer.{some_stretch_refusal, some_mixed_stretch_refusal, some_reflector_refusal}
use Rattle.promises.specs.Determined.{OneAnswer, Determined, OneDetermines}
use Rattle.promises.proofs.Handed.{revolution_handed}

-- the law: two answers that equal the one are equal
pub one_determines : OneDetermines
one_determines A Contract o a b h k = o.only a h ∙ sym (o.only b k)

-- a contract that says which value the answer is
by_value : {A : Type 0} {Contract : A → Type 0} (x : A) → Contract x → ((a : A) → Contract a → a ≡ x) → OneAnswer Contract
by_value x h k = record { answer = x; meets = h; only = k }

is_value : {A : Type 0} (x : A) → OneAnswer (λ (a : A). a ≡ x)
is_value x = by_value x refl (λ a h. h)

-- an answer that hands this back, and its buffer
answered : (s : State) (before : List ℕ) (x : Effect) → IsHanded s x.reply
    → OneAnswer (λ (a : Result Reply Refusal × List ℕ). Answered s a.0 before a.1 x)
answered s before x is =
    by_value (unhanded x.reply, over x.written before) (answered_given s before x is)
    (λ a h i. (answered_read s a.0 before a.1 x h i, h.buffer i))

-- a part of the words handed in
lent : (words : Bor (List ℕ)) (part : List ℕ) (start : ℕ)
    → OneAnswer (λ (a : List ℕ × (ℕ × ℕ)). Lends words part start (record { ref_ptr = a.1; now = a.0 }))
lent words part start = by_value (_, _) (record { lends = refl; stands = refl }) (λ a h i. (h.lends i, h.stands i))

pub determined : Determined
determined =
    record {
      request = λ s ws before. answered s before _ (requested_handed s ws (length before));
      revolution = λ s g before. answered s before _ (revolution_handed s g (length before));
      normal_plan = λ p step. let some = says_some p step in by_value some.0 some.1 (λ a h. plan_said_one a some.0 (h ∙ sym some.1));
      check_measure =
          λ p step speed. by_value (error_of (measure_error p step speed)) (some_error p step speed) (λ r h. sym (error_read r) ∙ ap error_of h);
      read = λ ws. let t = some_reading ws in by_value t.0 t.1 (λ a h. said_one a t.0 (h ∙ sym t.1));
      stretch = λ words place. by_value (_, _) (record { lends = refl; stands = refl }) (λ a h i. (h.lends i, h.stands i));
      stretch_refusal = λ ws place. let t = some_stretch_refusal ws place in by_value t.0 t.1 (λ a h. one_why a t.0 h t.1);
      read_mixed = λ ws. let t = some_mixed_reading ws in by_value t.0 t.1 (λ a h. mixed_said_one a t.0 (h ∙ sym t.1));
      stretch_mixed = λ words place. lent words _ _;
      stretch_mixed_refusal = λ ws place. let t = some_mixed_stretch_refusal ws place in by_value t.0 t.1 (λ a h. one_why a t.0 h t.1);
      reflector = λ words place. lent words _ _;
      reflector_refusal = λ ws place. let t = some_reflector_refusal ws place in by_value t.0 t.1 (λ a h. one_why a t.0 h t.1);
      all_reflectors = λ words. lent words _ _;
      fresh = is_value _;
      profile =
          λ plan step running mask g before. by_value (_, _) (record { counted = refl; buffer = refl }) (λ a h i. (h.counted i, h.buffer i));
      mixed_profile =
          λ plan step running high low g before. by_value (_, _) (record { counted = refl; buffer = refl }) (λ a h i. (h.counted i, h.buffer i));
      take_record = λ bytes before. by_value (_, _) (record { is = refl; words = refl }) (λ a h i. (h.is i, h.words i));
      write_line = λ nr refusal ws before. by_value (_, _) (record { text = refl; said = refl }) (λ a h i. (h.said i, h.text i));
      answer = λ s number bytes before. by_value (_, _) (record { text = refl; said = refl }) (λ a h i. (h.said i, h.text i));
      service =
          λ v s code a b c d. by_value _ (record { same = refl; short = ((lawful v).fine s code a b c d).short }) (λ r h. h.same);
      by_value = λ A x. is_value x;
      by_angle = λ n. by_value (record { 0 = n }) refl (λ a h i. record { 0 = h i });
      by_time = λ n. by_value (record { 0 = n }) refl (λ a h i. record { 0 = h i });
    }
