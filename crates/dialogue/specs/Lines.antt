-- Rules 7.10 and 7.11, the program: the line of a record, in ASCII. The running number, the number for no and how many words there are, in
-- decimal; then each word in hex.
use Rattle.std.specs.Prelude.{◌≡◌, List, [], ◌∷◌, ◌++◌, ℕ, zero, suc, ◌+◌, ◌/◌, ◌%◌, length, get_or}
use Rattle.std.specs.Prelude.{leb, ltb, eqb, if◌then◌else◌, Option, Some, None}
use Rattle.words.specs.Buffers.{over, in_turn}

-- the character of a digit, 0 to 9 and A to F (rule 7.11)
abbrev pub glyph : ℕ → ℕ
glyph d = if ltb d 10 then 48 + d else 55 + d

-- the last k digits of a number (rule 7.11)
unfoldable pub digits : ℕ → ℕ → ℕ → List ℕ
digits base zero n = []
digits base (suc k) n = digits base k (n / base) ++ (glyph (n % base) ∷ [])

-- without the zeros in front, but for the last digit (rule 7.11)
unfoldable pub stripped : List ℕ → List ℕ
stripped [] = []
stripped (d ∷ []) = d ∷ []
stripped (d ∷ e ∷ ds) = if eqb d 48 then stripped (e ∷ ds) else d ∷ e ∷ ds

-- a number of up to 64 bits, which twenty digits hold (rule 7.11)
unfoldable pub decimal : ℕ → List ℕ
decimal n = stripped (digits 10 20 n)

-- a word, behind a space (rule 7.11)
unfoldable pub spaced_hex : ℕ → List ℕ
spaced_hex w = 32 ∷ digits 16 4 w

-- the first n words (rule 7.11)
abbrev pub hexes : List ℕ → ℕ → List ℕ
hexes ws n = in_turn (λ k. spaced_hex (get_or ws k 0)) n

-- a line, with its end (rule 7.11)
unfoldable pub line_of : ℕ → ℕ → List ℕ → List ℕ
line_of nr refusal ws =
    decimal nr
    ++ (32 ∷ decimal refusal)
    ++ (32 ∷ decimal (length ws))
    ++ hexes ws (length ws)
    ++ (10 ∷ [])

-- the line where the buffer has room for it, else nothing (rule 7.11)
unfoldable pub fitting : List ℕ → ℕ → List ℕ
fitting line room = if leb (length line) room then line else []

-- what is promised of `write_line`: the line over the front of the buffer, and its length, where the buffer has room for it; else nothing is
-- written and nothing said (rule 7.11)
pub record WriteLineSays (nr refusal : ℕ) (ws before after : List ℕ) (r : Option ℕ) : Type 0 where
  pub text : after ≡ over (fitting (line_of nr refusal ws) (length before)) before
  pub said : r ≡ (if leb (length (line_of nr refusal ws)) (length before) then Some (length (line_of nr refusal ws)) else None)
