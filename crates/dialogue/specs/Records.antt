-- Rule 7.10, the program: a record of its input, which is a count of words in one byte, and so many words of two bytes each.
use Rattle.std.specs.Prelude.{◌≡◌, Bool, true, false, List, [], ◌∷◌, ℕ, ◌+◌, ◌*◌, leb, length, get_or, if◌then◌else◌}
use Rattle.words.specs.Buffers.{over, in_turn}
use Rattle.dialogue.specs.declared.Record.{Record}
use Rattle.dialogue.specs.declared.Record.TheVariants.{End, Cut, Whole}

-- word k of the bytes behind the count (rule 7.10)
abbrev pub record_word : List ℕ → ℕ → List ℕ
record_word bytes k = (get_or bytes (2 * k) 0 * 256 + get_or bytes (2 * k + 1) 0) ∷ []

-- whether it is whole, and how many words it has then (rule 7.10)
pub record RecordNumbers : Type 0 where
  pub whole : Bool
  pub count : ℕ

abbrev pub record_numbers : Record → RecordNumbers
record_numbers End = record { whole = false; count = 0 }
record_numbers Cut = record { whole = false; count = 0 }
record_numbers (Whole n) = record { whole = true; count = n }

-- what stands at the front of the bytes: nothing; a record cut by their end; a whole record of so many words (rule 7.10)
unfoldable pub record_of : List ℕ → Record
record_of [] = End
record_of (n ∷ bytes) = if leb (2 * n) (length bytes) then Whole n else Cut

-- the words of a whole record, else none (rule 7.10)
unfoldable pub record_words : List ℕ → List ℕ
record_words [] = []
record_words (n ∷ bytes) = if leb (2 * n) (length bytes) then in_turn (record_word bytes) n else []

-- what is promised of `take_record`: the record, and its words over the front of the buffer (rule 7.10)
pub record TakeRecordSays (r : Record) (bytes before after : List ℕ) : Type 0 where
  pub is : r ≡ record_of bytes
  pub words : after ≡ over (record_words bytes) before
