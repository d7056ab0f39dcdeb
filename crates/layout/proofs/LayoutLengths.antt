-- The layout of fields that fit their mask is as long as the formula says; and `profile_length`, which adds it up.
use mathlib.Core.Path.{◌≡◌, refl}
use mathlib.Core.Bool.{Bool, true, false}
use mathlib.Core.List.{List}
use Prim.Native.Nat.{ℕ, ◌+◌, ◌*◌}
use native.Mathlib.Nat.{zero-mul, suc-mul, add-mul}
use native.Mathlib.Omega.{arith}
use lib.ListN.{length, length-append}
use Rattle.std.specs.Prelude.{if◌then◌else◌, Option, Some, None, option_to_list}
use Rattle.words.specs.Bits.{bit}
use Rattle.words.specs.Lists.{Each, none, this, count, total}
use Rattle.words.specs.Words.{number_of, Shaped, laid_all}
use Rattle.layout.specs.Bits as bits
use Rattle.layout.specs.Masks.{point_width}
use Rattle.layout.specs.Fields.{SectorFields}
use Rattle.layout.specs.Layout.{head_length, layout_sector, SectorFits}
use Rattle.layout.specs.Lengths.{profile_length, LayoutLength}

-- a word that is there exactly where it is selected
pub word_length : (on : Bool) (w : Option ℕ) → Shaped on w → length (option_to_list w) ≡ (if on then 1 else 0)
word_length true None h = absurd h
word_length true (Some w) h = refl
word_length false None h = refl
word_length false (Some w) h = absurd h

-- lists that are a fixed number long, and so many times a width more
all_length : {F : Type 0} (put : F → List ℕ) (points : F → ℕ) (fixed width : ℕ) {P : F → Type 0} {fs : List F}
    → ((f : F) → P f → length (put f) ≡ fixed + points f * width) → Each P fs
    → length (laid_all put fs) ≡ length fs * fixed + total points fs * width
all_length put points fixed width h none = simp zero-mul
all_length put points fixed width h (this {x = f} {xs = fs} p e) =
    simp (length-append, suc-mul, add-mul) (omega (arith, h f p, all_length put points fixed width h e))

sector_length : (mask : ℕ) (s : SectorFields) → SectorFits mask s
    → length (layout_sector s) ≡ count (bit mask) bits.of_sector + number_of s.points * point_width mask
sector_length mask s h =
    simp length-append (omega (
      arith,
      h.body,
      word_length (bit mask bits.number) s.number h.number,
      word_length (bit mask bits.step) s.step h.step,
      word_length (bit mask bits.points) s.points h.points,
      word_length (bit mask bits.tstart) s.tstart h.tstart,
      word_length (bit mask bits.startdir) s.startdir h.startdir,
      word_length (bit mask bits.tend) s.tend h.tend,
      word_length (bit mask bits.enddir) s.enddir h.enddir,
    ))

twice : (on : Bool) → (if on then 2 else 0) ≡ (if on then 1 else 0) + (if on then 1 else 0)
twice true = refl
twice false = refl

pub layout_length : LayoutLength
unfolding profile_length
layout_length f h =
    let m = f.mask in
    simp length-append (omega (
      arith,
      twice (bit m bits.senstat),
      word_length (bit m bits.sent) f.sent h.sent,
      word_length (bit m bits.counter) f.counter h.counter,
      word_length (bit m bits.layer) f.layer h.layer,
      all_length layout_sector (λ s. number_of s.points) _ (point_width m) (sector_length m) h.sectors,
      word_length (bit m bits.senstat) f.high h.high,
      word_length (bit m bits.senstat) f.low h.low,
    ))

-- one where the bit is set, else none
abbrev one_if : ℕ → ℕ → ℕ
one_if mask k = if bit mask k then 1 else 0

-- `profile_length`
pub length_is : (m s p a b c d e f g h i j k : ℕ)
    → a ≡ one_if m bits.sent → b ≡ one_if m bits.counter → c ≡ one_if m bits.layer
    → d ≡ one_if m bits.number → e ≡ one_if m bits.step → f ≡ one_if m bits.points → g ≡ one_if m bits.tstart → h ≡ one_if m bits.startdir
    → i ≡ one_if m bits.tend → j ≡ one_if m bits.enddir → k ≡ one_if m bits.senstat
    → (n : ℕ) → n ≡ s * (d + e + f + g + h + (i + j)) → (w q : ℕ) → w ≡ point_width m → q ≡ p * w
    → head_length + (a + b + c) + n + q + 2 * k ≡ profile_length m s p
unfolding profile_length
length_is m s p a b c d e f g h i j k ea eb ec ed ee ef eg eh ei ej ek n en w q ew eq =
    let all : d + e + f + g + h + (i + j) ≡ count (bit m) bits.of_sector = rw (ed, ee, ef, eg, eh, ei, ej) (omega arith) in
    let blocks : n ≡ s * count (bit m) bits.of_sector = rw all at en in
    let body : q ≡ p * point_width m = rw ew at eq in
    rw (ea, eb, ec, ek, blocks, body) (omega (arith, twice (bit m bits.senstat)))
