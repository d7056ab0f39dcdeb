-- The ways out of the tests of a mixed mask. A run of bits that are all clear is a bound on the mask's number.
use mathlib.Core.Path.{◌≡◌, refl, sym}
use mathlib.Core.Bool.{Bool, true, false, not, ◌&&◌, and-true}
use mathlib.Core.List.{List, [], ◌∷◌}
use Prim.Native.Nat.{ℕ, zero, suc, ◌+◌, ◌*◌, ◌/◌, ◌%◌, ◌^◌, ◌≤◌, ◌<◌}
use native.Mathlib.Nat.{add-zero, add-suc, suc-add, pow-suc, div-lt_iff_lt-mul}
use native.Mathlib.Omega.{arith}
use lib.Dec.{ltb}
use lib.Pow.{pow_pos}
use borrow.Author.Tests.{eq-eqb, ne_eqb, lt-ltb, le-ltb, ltb-true, ltb-false}
use Rattle.words.specs.Bits.{bit}
use Rattle.words.proofs.Tests.{said_no, said_yes}
use Rattle.layout.specs.Masks.{mask_ok}
use Rattle.layout.specs.MixedMasks.{none_of, mixed_ok}

-- n bits from k on
abbrev run : ℕ → ℕ → List ℕ
run k zero = []
run k (suc n) = k ∷ run (suc k) n

module _ (mask k : ℕ) where
  quotient : (n : ℕ) → mask < n * 2 ^ k → mask / 2 ^ k < n
  quotient n h = (div-lt_iff_lt-mul (pow_pos k)).1 h

  -- below a bit's value the bit is clear; from there on, up to twice as much, it is set
  below_clear : mask < 2 ^ k → bit mask k ≡ false
  below_clear h =
      let q = quotient 1 (omega arith) in
      ne_eqb (mask / 2 ^ k % 2) 1 (λ e. omega arith)

  above_set : 2 ^ k ≤ mask → mask < 2 ^ suc k → bit mask k ≡ true
  above_set l h = go (ltb (mask / 2 ^ k) 1) refl
    where
      go : (t : Bool) → ltb (mask / 2 ^ k) 1 ≡ t → bit mask k ≡ true
      go true e = absurd (omega (arith, (div-lt_iff_lt-mul (pow_pos k)).0 (ltb-true (mask / 2 ^ k) 1 e)))
      go false e =
          let q = quotient 2 (omega (arith, pow-suc 2 k)) in
          eq-eqb (mask / 2 ^ k % 2) 1 (omega (arith, ltb-false (mask / 2 ^ k) 1 e))

-- all clear, up to the mask's last bit: the mask is below the first of them
run_clear : (n k mask : ℕ) → mask < 2 ^ (k + n) → none_of (run k n) mask ≡ ltb mask (2 ^ k)
run_clear zero k mask h = sym (lt-ltb mask (2 ^ k) (rw add-zero at h))
run_clear (suc n) k mask h =
    rw (run_clear n (suc k) mask (rw (add-suc, ← suc-add) at h)) (go (ltb mask (2 ^ k)) refl)
  where
    go : (t : Bool) → ltb mask (2 ^ k) ≡ t → not (bit mask k) && ltb mask (2 ^ suc k) ≡ t
    go true e =
        let less = ltb-true mask (2 ^ k) e in
        rw (below_clear mask k less, lt-ltb mask (2 ^ suc k) (omega (arith, pow-suc 2 k)))
    go false e = higher (ltb mask (2 ^ suc k)) refl
      where
        higher : (u : Bool) → ltb mask (2 ^ suc k) ≡ u → not (bit mask k) && u ≡ false
        higher true d = rw (above_set mask k (ltb-false mask (2 ^ k) e) (ltb-true mask (2 ^ suc k) d))
        higher false d = off (not (bit mask k))
          where
            off : (b : Bool) → b && false ≡ false
            off true = refl
            off false = refl

-- `mixed_ok`
module _ (mask : ℕ) (plain : Bool) (ep : plain ≡ mask_ok mask) where
  pub not_plain : not plain ≡ true → false ≡ mixed_ok mask
  unfolding mixed_ok
  not_plain q = rw (said_no ep q)

  module _ (q : not plain ≡ false) (r : Bool) (er : r ≡ bit mask 17) where
    pub reserved_set : r ≡ true → false ≡ mixed_ok mask
    unfolding mixed_ok
    reserved_set s = rw (said_yes ep q, ← er, s)

    module _ (c : r ≡ false) (many : Bool) (em : many ≡ bit mask 16) (word : mask < 4294967296) where
      past : none_of (run 23 9) mask ≡ ltb mask 8388608
      past = run_clear 9 23 mask word

      pub with_number : many ≡ true → ltb mask 8388608 ≡ mixed_ok mask
      unfolding mixed_ok
      with_number m = rw (said_yes ep q, ← er, c, past, ← em, m, and-true)

      pub without_number : many ≡ false → ltb mask 262144 ≡ mixed_ok mask
      unfolding mixed_ok
      without_number m = rw (said_yes ep q, ← er, c, past, ← em, m) (go (ltb mask 8388608) refl)
        where
          go : (t : Bool) → ltb mask 8388608 ≡ t → ltb mask 262144 ≡ t && none_of (run 18 5) mask
          go true e = sym (run_clear 5 18 mask (ltb-true mask 8388608 e))
          go false e = le-ltb mask 262144 (let past = ltb-false mask 8388608 e in omega arith)
