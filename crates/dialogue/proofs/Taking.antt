-- The words of a record as they are taken, and the ways out of `take_record`.
use mathlib.Core.Path.{◌≡◌, refl, sym, ap, ◌∙◌}
use mathlib.Core.List.{List, [], ◌∷◌, ◌++◌}
use Prim.Native.Nat.{ℕ, ◌+◌, ◌*◌, ◌≤◌, ◌<◌}
use native.Mathlib.Nat.{add-zero, mul-one}
use native.Mathlib.Omega.{arith}
use lib.ListN.{length, get_or, take, drop, set, length-append, length-drop}
use lib.Seq.{get_or-drop, drop-drop, drop-append_seam}
use borrow.Author.Tests.{le-leb, lt-leb}
use Rattle.std.proofs.lemmas.List.{get_or-take, get_or_append_left}
use Rattle.words.specs.Buffers.{Put, over, in_turn}
use Rattle.words.proofs.Overs.{over_none}
use Rattle.words.proofs.Puts.{put_first, put_one, turn_put, turns_all, turns_long, turns_same}
use Rattle.dialogue.specs.declared.Record.TheVariants.{End, Cut, Whole}
use Rattle.dialogue.specs.Records.{record_word, record_of, record_words, TakeRecordSays}

-- `take_words`
module _ (bytes words₀ words rest : List ℕ) (k n : ℕ) (even : length bytes ≡ 2 * n) (room : n ≤ length words₀)
    (same : length words ≡ length words₀) (inside : k ≤ n) (left : rest ≡ drop (2 * k) bytes)
    (so_far : Put (in_turn (record_word bytes) k) words₀ 0 words k) where
  fits : 0 + length (in_turn (record_word bytes) n) ≤ length words₀
  fits = rw (turns_long (record_word bytes) 1 (λ i. refl), mul-one) (omega arith)

  module _ (pair more : List ℕ) (next : rest ≡ pair ++ more) (two : length pair ≡ 2) where
    pub within : k + 1 ≤ n
    within = omega (arith, ap length next, ap length left, length-append pair more, length-drop (2 * k) bytes)

    pub rest_left : more ≡ drop (2 * (k + 1)) bytes
    rest_left =
        let after : drop 2 (pair ++ more) ≡ more = rw two at (drop-append_seam pair more) in
        let on : 2 + 2 * k ≡ 2 * (k + 1) = omega arith in
        let on_other : 2 * k + 2 ≡ 2 * (k + 1) = omega arith in
        sym after ∙ ap (drop 2) (sym next ∙ left) ∙ (rw (drop-drop, on_other))

    byte : (i : ℕ) → i < 2 → get_or bytes (2 * k + i) 0 ≡ get_or pair i 0
    byte i h = sym (get_or-drop (2 * k) bytes i 0) ∙ ap (λ l. get_or l i 0) (sym left ∙ next) ∙ get_or_append_left pair more 0 i (omega arith)

    pub word_taken : (w : ℕ) → w ≡ get_or pair 0 0 * 256 + get_or pair 1 0
        → Put (in_turn (record_word bytes) (k + 1)) words₀ 0 (set words k w) (k + 1)
    word_taken w e =
        let high : get_or bytes (2 * k) 0 ≡ get_or pair 0 0 = rw add-zero at (byte 0 (omega arith)) in
        turn_put (record_word bytes) n fits so_far (rw (high, byte 1 (omega arith), ← e) (put_one words k w (omega (arith, within))))

  pub words_taken : length rest < 2 → words ≡ over (in_turn (record_word bytes) n) words₀
  words_taken l =
      let all : k ≡ n = omega (arith, ap length left, length-drop (2 * k) bytes) in
      (put_first (turns_all (record_word bytes) n fits so_far (omega arith) (omega arith))).words

-- `take_record`
pub no_record : (bytes words : List ℕ) → length bytes ≡ 0 → TakeRecordSays End bytes words words
unfolding record_of record_words
no_record [] words h = record { is = refl; words = sym (over_none words) }
no_record (n ∷ bytes) words h = absurd (omega arith)

pub cut_record : (b n : ℕ) (bytes words : List ℕ) → n ≡ b → length bytes < 2 * n → TakeRecordSays Cut (b ∷ bytes) words words
unfolding record_of record_words
cut_record b n bytes words e k =
    let cut : length bytes < 2 * b = omega arith in
    record { is = rw (lt-leb _ _ cut); words = rw (lt-leb _ _ cut) (sym (over_none words)) }

same_word : (bytes : List ℕ) (n i : ℕ) → i < n → record_word (take (2 * n) bytes) i ≡ record_word bytes i
same_word bytes n i h = rw (get_or-take (2 * n) bytes (2 * i) 0 (omega arith), get_or-take (2 * n) bytes (2 * i + 1) 0 (omega arith))

pub whole_record : (b n : ℕ) (bytes words₀ words : List ℕ) → n ≡ b → 2 * n ≤ length bytes
    → words ≡ over (in_turn (record_word (take (2 * n) bytes)) n) words₀ → TakeRecordSays (Whole b) (b ∷ bytes) words₀ words
unfolding record_of record_words
whole_record b n bytes words₀ words e k w =
    let all : 2 * b ≤ length bytes = omega arith in
    let same : in_turn (record_word (take (2 * n) bytes)) n ≡ in_turn (record_word bytes) b =
    rw (← e) (turns_same (record_word (take (2 * n) bytes)) (record_word bytes) n (same_word bytes n)) in
    record { is = rw (le-leb _ _ all); words = rw (le-leb _ _ all) (rw same at w) }
