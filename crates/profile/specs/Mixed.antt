-- Rules 5.18 to 5.20: the fields of a revolution's mixed profile. The contour is that of a plain profile, but for its layer.
use Rattle.std.specs.Prelude.{List, ◌++◌, ℕ, ◌+◌, ◌*◌, ◌/◌, length, get_or}
use Rattle.words.specs.Bits.{bit}
use Rattle.words.specs.Words.{given_if}
use Rattle.words.specs.Buffers.{in_turn}
use Rattle.layout.specs.Bits as bits
use Rattle.layout.specs.Fields.{Fields}
use Rattle.layout.specs.MixedMasks.{mixed_number, reflector_length}
use Rattle.layout.specs.Mixed.{MixedFields, kind_numbers}
use Rattle.layout.specs.declared.Kind.{Kind}
use Rattle.state.specs.declared.State.{State}
use Rattle.profile.specs.Points.{selected}
use Rattle.profile.specs.Profiles.{Scan, fields_of}

-- a contour with another layer (rule 5.19)
abbrev pub with_layer : ℕ → Fields → Fields
with_layer layer f =
    record {
      mask = f.mask;
      sent = f.sent;
      counter = f.counter;
      layer = given_if (bit f.mask bits.layer) layer;
      sectors = f.sectors;
      high = f.high;
      low = f.low;
    }

-- a number of two words, and two such numbers, of a list from a place on, where their bit of the mask is set (rules 5.18 and 5.19)
abbrev pub dword : ℕ → ℕ → List ℕ → ℕ → List ℕ
dword mask k l from = selected mask k (get_or l from 0) ++ selected mask k (get_or l (from + 1) 0)

abbrev pub dwords : ℕ → ℕ → List ℕ → ℕ → List ℕ
dwords mask k l from = dword mask k l from ++ dword mask k l (from + 2)

-- a reflector whose words stand in a list from a place on: x, y; distance, angle; time; mean echo; spots (rules 5.18 and 5.19)
abbrev pub reflector_words : ℕ → List ℕ → ℕ → List ℕ
reflector_words mask l from =
    dwords mask bits.cartesian l from
    ++ dwords mask bits.polar l (from + 4)
    ++ selected mask bits.time (get_or l (from + 8) 0)
    ++ selected mask bits.mean_echo (get_or l (from + 9) 0)
    ++ selected mask bits.spots (get_or l (from + 10) 0)

-- how many reflectors a list has, and the words of all of them, each whole before the next (rule 5.19)
abbrev pub reflectors_given : List ℕ → ℕ
reflectors_given l = length l / reflector_length

unfoldable pub reflectors_of : ℕ → List ℕ → List ℕ
reflectors_of mask l = in_turn (λ r. reflector_words mask l (r * reflector_length)) (reflectors_given l)

-- the two words of the mask, the contour by their number, and the reflectors (rule 5.19)
abbrev pub mixed_of : State → Scan → ℕ → ℕ → ℕ → ℕ → MixedFields
mixed_of s g high low sent counter =
    let mask = mixed_number high low in
    record {
      high = high;
      low = low;
      contour = with_layer (kind_numbers Kind.Mixed).layer (fields_of s g mask sent counter);
      count = given_if (bit mask bits.reflectors) (reflectors_given g.reflectors);
      reflectors = reflectors_of mask g.reflectors;
    }
