-- `put_reflector` and `put_reflectors`: the words of one, and a reflector a turn.
use mathlib.Core.Path.{◌≡◌, refl, sym, ap, ◌∙◌}
use mathlib.Core.Bool.{Bool, true, false}
use mathlib.Core.List.{List, ◌++◌, [], ◌∷◌}
use Prim.Native.Nat.{ℕ, ◌+◌, ◌-◌, ◌*◌, ◌≤◌, ◌<◌}
use native.Mathlib.Omega.{arith}
use lib.ListN.{length, get_or, drop, length-drop, length-append, get_or-append}
use Rattle.std.proofs.lemmas.List.{get_or-drop, drop-drop}
use lib.Seq.{drop-append_seam}
use Rattle.std.specs.Prelude.{if◌then◌else◌, option_to_list}
use Rattle.words.specs.Bits.{bit}
use Rattle.words.specs.Words.{given_if}
use Rattle.words.specs.Buffers.{Put, in_turn}
use Rattle.words.proofs.Puts.{turn_fits, turn_put, turns_all}
use Rattle.layout.specs.Bits as bits
use Rattle.layout.specs.MixedMasks.{reflector_length}
use Rattle.profile.specs.Points.{selected}
use Rattle.profile.specs.Mixed.{reflector_words, reflectors_given, reflectors_of}
use Rattle.profile.specs.Asked.{chosen}

-- the words of one of a list
abbrev pub one_of : ℕ → List ℕ → ℕ → List ℕ
one_of mask l r = reflector_words mask l (r * reflector_length)

-- four words are two numbers of two words each
two_numbers : (mask k p q r s : ℕ) → chosen mask k (p ∷ q ∷ r ∷ s ∷ [])
    ≡ selected mask k p ++ selected mask k q ++ (selected mask k r ++ selected mask k s)
two_numbers mask k p q r s = go (bit mask k)
  where
    go : (b : Bool) → (if b then p ∷ q ∷ r ∷ s ∷ [] else [])
        ≡ option_to_list (given_if b p) ++ option_to_list (given_if b q) ++ (option_to_list (given_if b r) ++ option_to_list (given_if b s))
    go true = refl
    go false = refl

-- the parts of the eleven words of one
pub by_parts : (mask : ℕ) (l : List ℕ)
    → chosen mask bits.cartesian (get_or l 0 0 ∷ get_or l 1 0 ∷ get_or l 2 0 ∷ get_or l 3 0 ∷ [])
    ++ chosen mask bits.polar (get_or l 4 0 ∷ get_or l 5 0 ∷ get_or l 6 0 ∷ get_or l 7 0 ∷ [])
    ++ selected mask bits.time (get_or l 8 0)
    ++ selected mask bits.mean_echo (get_or l 9 0)
    ++ selected mask bits.spots (get_or l 10 0)
    ≡ reflector_words mask l 0
by_parts mask l =
    rw (
      two_numbers mask bits.cartesian (get_or l 0 0) (get_or l 1 0) (get_or l 2 0) (get_or l 3 0),
      two_numbers mask bits.polar (get_or l 4 0) (get_or l 5 0) (get_or l 6 0) (get_or l 7 0),
    )
    refl

module _ (mask : ℕ) (l d₀ : List ℕ) (from : ℕ) (room : from + length (reflectors_of mask l) ≤ length d₀) where
  all_room : from + length (in_turn (one_of mask l) (reflectors_given l)) ≤ length d₀
  unfolding reflectors_of
  all_room = room

  module _ (r : ℕ) {d : List ℕ} {at : ℕ} (so_far : Put (in_turn (one_of mask l) r) d₀ from d at) where
    module _ (x rest : List ℕ) (cut : drop (r * reflector_length) l ≡ x ++ rest) (eleven : length x ≡ reflector_length) where
      left : length l - r * reflector_length ≡ reflector_length + length rest
      left = sym (length-drop (r * reflector_length) l) ∙ ap length cut ∙ length-append x rest ∙ rw eleven refl

      pub one_there : r < reflectors_given l
      one_there = omega (arith, left)

      word : (k n : ℕ) → k < reflector_length → n ≡ r * reflector_length + k → get_or x k 0 ≡ get_or l n 0
      word k n h e = sym (get_or-append x rest 0 k (omega (arith, eleven))) ∙ rw (← cut) (rw e (get_or-drop (r * reflector_length) l k 0))

      same : reflector_words mask x 0 ≡ one_of mask l r
      same =
          rw (
            word 0 (r * reflector_length) (omega arith) (omega arith),
            word 1 (r * reflector_length + 1) (omega arith) refl,
            word 2 (r * reflector_length + 2) (omega arith) refl,
            word 3 (r * reflector_length + 2 + 1) (omega arith) (omega arith),
            word 4 (r * reflector_length + 4) (omega arith) refl,
            word 5 (r * reflector_length + 4 + 1) (omega arith) (omega arith),
            word 6 (r * reflector_length + 4 + 2) (omega arith) (omega arith),
            word 7 (r * reflector_length + 4 + 2 + 1) (omega arith) (omega arith),
            word 8 (r * reflector_length + 8) (omega arith) refl,
            word 9 (r * reflector_length + 9) (omega arith) refl,
            word 10 (r * reflector_length + 10) (omega arith) refl,
          )
          refl

      pub one_fits : at + length (reflector_words mask x 0) ≤ length d
      one_fits = rw same (turn_fits (one_of mask l) (reflectors_given l) all_room so_far one_there)

      pub one_more : {d' : List ℕ} {q : ℕ} → Put (reflector_words mask x 0) d at d' q → Put (in_turn (one_of mask l) (r + 1)) d₀ from d' q
      one_more p = turn_put (one_of mask l) (reflectors_given l) all_room so_far (rw same at p)

      pub rest_on : rest ≡ drop ((r + 1) * reflector_length) l
      rest_on =
          let e : r * reflector_length + reflector_length ≡ (r + 1) * reflector_length = omega arith in
          sym (drop-append_seam x rest) ∙ rw (eleven, ← cut, drop-drop, e) refl

    pub all_put : r ≤ reflectors_given l → length (drop (r * reflector_length) l) < reflector_length → Put (reflectors_of mask l) d₀ from d at
    unfolding reflectors_of
    all_put h k =
        let e = length-drop (r * reflector_length) l in
        turns_all (one_of mask l) (reflectors_given l) all_room so_far h (omega (arith, rw e at k))
