-- Rules, section 5: the words of a point.
use Rattle.std.specs.Prelude.{List, ◌++◌, ℕ, option_to_list}
use Rattle.words.specs.Bits.{bit}
use Rattle.words.specs.Words.{given_if}
use Rattle.layout.specs.Bits as bits

-- the word, where its bit of the mask is set (rule 5.5)
abbrev pub selected : ℕ → ℕ → ℕ → List ℕ
selected mask k w = option_to_list (given_if (bit mask k) w)

-- one point: distance, direction, echo (rule 5.6)
unfoldable pub point_words : ℕ → ℕ → ℕ → ℕ → List ℕ
point_words mask distance direction echo =
    selected mask bits.distance distance ++ selected mask bits.direction direction ++ selected mask bits.echo echo
