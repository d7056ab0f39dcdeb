-- The numbers 12, 13, 22, 23, 24 and 14 as they are tabled, and as the reader's tests give them.
use Prim.Native.Nat.{ℕ, suc, ◌+◌}
use mathlib.Core.Path.{◌≡◌, refl, sym, ap, ◌∙◌}
use mathlib.Core.Bool.{Bool, true, false, not, ◌&&◌, ◌||◌, and-true, and_assoc, or_assoc}
use mathlib.Core.List.{List, [], ◌∷◌}
use native.Mathlib.Omega.{arith}
use lib.Dec.{eqb, leb, ltb}
use lib.ListN.{length, get_or}
use borrow.Author.Tests.{ne_eqb, leb-true, leb-false, le-ltb, lt-ltb}
use Rattle.std.specs.Prelude.{if◌then◌else◌}
use Rattle.words.specs.Bits.{bit}
use Rattle.words.specs.Numbers.{first_of}
use Rattle.layout.specs.Masks.{mask_ok}
use Rattle.layout.specs.Layout.{profile_code, head_length}
use Rattle.reader.specs.Readings.{mask_in, count_in, begins, head_refusal}
use Rattle.layout.specs.Bits as bits
use Rattle.layout.specs.MixedMasks.{none_of, mixed_ok}
use Rattle.layout.specs.Mixed.{mixed_code, mixed_head_length}
use Rattle.reader.specs.Demands.{head_numbers}
use Rattle.reader.specs.Mixed.{mixed_mask_in, mixed_count_in, mixed_begins, mixed_head_refusal}
use Rattle.reader.specs.MixedDemands.{no_mixed_mask, mixed_numbers}

-- at least is not less, and less is not at least
not_less : (a b : ℕ) → leb a b ≡ not (ltb b a)
not_less a b = go (leb a b) refl
  where
    go : (t : Bool) → leb a b ≡ t → t ≡ not (ltb b a)
    go true e = rw (le-ltb b a (leb-true a b e))
    go false e = rw (lt-ltb b a (leb-false a b e))

less_not : (a b : ℕ) → ltb a b ≡ not (leb b a)
less_not a b = go (leb b a) refl
  where
    go : (t : Bool) → leb b a ≡ t → ltb a b ≡ not t
    go true e = le-ltb a b (leb-true b a e)
    go false e = lt-ltb a b (leb-false b a e)

-- 12
begins_not : (ws : List ℕ) → (eqb (length ws) 0 || not (eqb (get_or ws 0 0) profile_code)) ≡ not (begins ws)
begins_not [] = refl
begins_not (w ∷ ws) = rw (ne_eqb (suc (length ws)) 0 (λ z. omega arith))

-- 22
mask_not : (zero low high : Bool) → (zero || low || high) ≡ not (not zero && (not low && (not high && true)))
mask_not true l h = refl
mask_not false true h = refl
mask_not false false true = refl
mask_not false false false = refl

-- 24
sectors_not : (few many : Bool) → (few || many) ≡ not (not few && not many)
sectors_not true m = refl
sectors_not false true = refl
sectors_not false false = refl

-- 14
pointed : (a b c : Bool) → (a || b || c) ≡ not (eqb ((if a then 1 else 0) + ((if b then 1 else 0) + ((if c then 1 else 0) + 0))) 0)
pointed true true true = refl
pointed true true false = refl
pointed true false true = refl
pointed true false false = refl
pointed false true true = refl
pointed false true false = refl
pointed false false true = refl
pointed false false false = refl

pub head_table : (ws : List ℕ) → first_of (head_numbers ws) ≡ head_refusal ws
unfolding head_refusal mask_ok
head_table ws =
    let m = mask_in ws in
    rw (
      begins_not ws,
      mask_not (eqb m 0) (bit m 14) (bit m 15),
      sectors_not (ltb (count_in ws) 1) (ltb 8 (count_in ws)),
      pointed (bit m 8) (bit m 9) (bit m 10),
      ← not_less 1 (count_in ws),
      ← not_less (count_in ws) 8,
      less_not (length ws) head_length,
    )

-- 22 of a mixed mask: one of some bits, or else r
abbrev one_of : List ℕ → ℕ → Bool → Bool
one_of [] mask r = r
one_of (k ∷ ks) mask r = bit mask k || one_of ks mask r

none_not : (ks : List ℕ) (mask : ℕ) (r : Bool) → not (none_of ks mask && r) ≡ one_of ks mask (not r)
none_not [] mask r = refl
none_not (k ∷ ks) mask r = go (bit mask k) (none_not ks mask r)
  where
    go : (b : Bool) → not (none_of ks mask && r) ≡ one_of ks mask (not r) → not ((not b && none_of ks mask) && r) ≡ (b || one_of ks mask (not r))
    go true h = refl
    go false h = h

plain_not : (zero low high r : Bool) → not ((not zero && (not low && (not high && true))) && r) ≡ (zero || (low || (high || not r)))
plain_not true l h r = refl
plain_not false true h r = refl
plain_not false false true r = refl
plain_not false false false r = refl

bare_not : (some b : Bool) → not (some || not b) ≡ (b && not some)
bare_not true true = refl
bare_not true false = refl
bare_not false true = refl
bare_not false false = refl

last_of : (b : Bool) → (b || false) ≡ b
last_of true = refl
last_of false = refl

pub no_mixed_mask_lem : (mask : ℕ) → no_mixed_mask mask ≡ not (mixed_ok mask)
unfolding mixed_ok mask_ok
no_mixed_mask_lem mask =
    let fields : none_of bits.of_reflector mask ≡ not (one_of bits.of_reflector mask false) =
    twice (none_of bits.of_reflector mask) ∙ ap not (ap not (sym (and-true (none_of bits.of_reflector mask))) ∙ none_not bits.of_reflector mask true) in
    simp or_assoc
    (sym
    (ap not (and_assoc (mask_ok mask) (none_of bits.reserved_mixed mask) (bit mask 16 || none_of bits.of_reflector mask))
    ∙ plain_not (eqb mask 0) (bit mask 14) (bit mask 15) (none_of bits.reserved_mixed mask && (bit mask 16 || none_of bits.of_reflector mask))
    ∙ rw (
      none_not bits.reserved_mixed mask (bit mask 16 || none_of bits.of_reflector mask),
      fields,
      bare_not (bit mask 16) (one_of bits.of_reflector mask false),
      last_of (bit mask 22),
    )))
  where
    twice : (b : Bool) → b ≡ not (not b)
    twice true = refl
    twice false = refl

mixed_begins_not : (ws : List ℕ) → (eqb (length ws) 0 || not (eqb (get_or ws 0 0) mixed_code)) ≡ not (mixed_begins ws)
mixed_begins_not [] = refl
mixed_begins_not (w ∷ ws) = rw (ne_eqb (suc (length ws)) 0 (λ z. omega arith))

pub mixed_table : (ws : List ℕ) → first_of (mixed_numbers ws) ≡ mixed_head_refusal ws
unfolding mixed_head_refusal
mixed_table ws =
    let m = mixed_mask_in ws in
    rw (
      mixed_begins_not ws,
      no_mixed_mask_lem m,
      sectors_not (ltb (mixed_count_in ws) 1) (ltb 8 (mixed_count_in ws)),
      pointed (bit m 8) (bit m 9) (bit m 10),
      ← not_less 1 (mixed_count_in ws),
      ← not_less (mixed_count_in ws) 8,
      less_not (length ws) mixed_head_length,
    )
