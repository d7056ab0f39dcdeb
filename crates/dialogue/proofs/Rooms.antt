-- What a caller learns of the sizes: a whole record is within its bytes and has the words that it says, and a line is within its text.
use mathlib.Core.Path.{◌≡◌, refl, ◌∙◌}
use mathlib.Core.Bool.{Bool, true, false}
use mathlib.Core.List.{List, [], ◌∷◌}
use Prim.Native.Nat.{ℕ, ◌*◌, ◌≤◌}
use native.Mathlib.Nat.{mul-one}
use native.Mathlib.Omega.{arith}
use lib.Dec.{leb}
use lib.ListN.{length}
use borrow.Author.Tests.{leb-true}
use Rattle.std.specs.Prelude.{if◌then◌else◌}
use Rattle.words.specs.Buffers.{in_turn}
use Rattle.words.proofs.Puts.{turns_long}
use Rattle.dialogue.specs.declared.Record.{Record}
use Rattle.dialogue.specs.declared.Record.TheVariants.{End, Cut, Whole}
use Rattle.dialogue.specs.Records.{record_word, record_of, record_words}
use Rattle.dialogue.specs.Lines.{fitting}
use Rattle.dialogue.specs.Talks.{size_of, line_picked}

-- no more bytes than there are
pub size_within : (bytes : List ℕ) → size_of (record_of bytes) ≤ length bytes
unfolding record_of
size_within [] = omega arith
size_within (b ∷ bytes) = go (leb (2 * b) (length bytes)) refl
  where
    go : (x : Bool) → leb (2 * b) (length bytes) ≡ x → size_of (if x then Whole b else Cut) ≤ length (b ∷ bytes)
    go true q = omega (arith, leb-true (2 * b) (length bytes) q)
    go false q = omega arith

-- a whole record has as many words as it says
pub words_long : (bytes : List ℕ) (n : ℕ) → Whole n ≡ record_of bytes → length (record_words bytes) ≡ n
unfolding record_of record_words
words_long [] n e = absurd (let z : ◌≡◌ {A = ℕ} 0 1 = cc in omega arith)
words_long (b ∷ bytes) n e = go (leb (2 * b) (length bytes)) e
  where
    go : (x : Bool) → Whole n ≡ (if x then Whole b else Cut) → length (if x then in_turn (record_word bytes) b else []) ≡ n
    go true w = let z : n ≡ b = cc in rw z (turns_long (record_word bytes) 1 (λ i. refl) b ∙ mul-one b)
    go false w = absurd (let z : ◌≡◌ {A = ℕ} 0 1 = cc in omega arith)

-- no more text than there is room for, and none without a whole record
fitting_within : (line : List ℕ) (room : ℕ) → length (fitting line room) ≤ room
unfolding fitting
fitting_within line room = go (leb (length line) room) refl
  where
    go : (x : Bool) → leb (length line) room ≡ x → length (if x then line else []) ≤ room
    go true q = leb-true (length line) room q
    go false q = omega arith

pub line_within : (r : Record) (line : List ℕ) (room : ℕ) → length (line_picked r line room) ≤ room
line_within End line room = omega arith
line_within Cut line room = omega arith
line_within (Whole n) line room = fitting_within line room

pub line_taken : (r : Record) (line : List ℕ) (room : ℕ) → (length (line_picked r line room) ≡ 0 → ⊥) → 1 ≤ size_of r
line_taken End line room h = absurd (h refl)
line_taken Cut line room h = absurd (h refl)
line_taken (Whole n) line room h = omega arith
