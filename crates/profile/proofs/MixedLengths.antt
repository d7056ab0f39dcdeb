-- How long a revolution's mixed profile is, for every mask; and that its fields fit the mask.
use mathlib.Core.Path.{◌≡◌, refl, sym, ◌∙◌}
use mathlib.Core.Bool.{Bool, true, false, not, ◌&&◌, ◌||◌}
use mathlib.Core.List.{List, ◌++◌}
use Prim.Native.Nat.{ℕ, ◌+◌, ◌*◌, ◌%◌, ◌≤◌}
use native.Mathlib.Nat.{mul-zero}
use native.Mathlib.Omega.{arith}
use lib.Dec.{T, eqb, leb, leb→le, eqb→eq}
use lib.ListN.{length, get_or, length-append}
use Rattle.std.specs.Prelude.{if◌then◌else◌}
use Rattle.words.specs.Bits.{bit}
use Rattle.words.specs.Lists.{total}
use Rattle.words.specs.Words.{given_if, number_of}
use Rattle.words.proofs.Puts.{turns_long}
use Rattle.words.proofs.Tests.{and_l, and_r}
use Rattle.layout.specs.Bits as bits
use Rattle.layout.specs.Masks.{mask_ok, uncounted}
use Rattle.layout.specs.MixedMasks.{mixed_number, none_of, mixed_ok, reflector_width, reflector_length, most_reflectors}
use Rattle.layout.specs.Mixed.{layout_mixed, reflector_part, MixedFits, mixed_length}
use Rattle.layout.specs.Layout.{contour}
use Rattle.plan.specs.Sectors.{active_of}
use Rattle.state.specs.declared.State.{State}
use Rattle.profile.specs.Points.{selected}
use Rattle.profile.specs.Profiles.{Scan, arcs_of}
use Rattle.profile.specs.Mixed.{dwords, reflector_words, reflectors_given, reflectors_of, mixed_of}
use Rattle.profile.specs.Revolutions.{reflectors_fit}
use Rattle.profile.proofs.ProfileLengths.{one_word, shaped, contour_long, fields_fit}

-- the words of four, of a reflector, and of all of them
four_long : (mask k : ℕ) (l : List ℕ) (from : ℕ) → length (dwords mask k l from) ≡ 4 * (if bit mask k then 1 else 0)
four_long mask k l from = simp (length-append, one_word (bit mask k)) (omega arith)

reflector_long : (mask : ℕ) (l : List ℕ) (from : ℕ) → length (reflector_words mask l from) ≡ reflector_width mask
unfolding reflector_width
reflector_long mask l from =
    let a = four_long mask bits.cartesian l from in
    let b = four_long mask bits.polar l (from + 4) in
    let c = one_word (bit mask bits.time) (get_or l (from + 8) 0) in
    let d = one_word (bit mask bits.mean_echo) (get_or l (from + 9) 0) in
    let e = one_word (bit mask bits.spots) (get_or l (from + 10) 0) in
    rw (
      length-append _ (selected mask bits.spots (get_or l (from + 10) 0)),
      length-append _ (selected mask bits.mean_echo (get_or l (from + 9) 0)),
      length-append _ (selected mask bits.time (get_or l (from + 8) 0)),
      length-append (dwords mask bits.cartesian l from) (dwords mask bits.polar l (from + 4)),
    )
    (omega (arith, a, b, c, d, e))

pub reflectors_long : (mask : ℕ) (l : List ℕ) → length (reflectors_of mask l) ≡ reflectors_given l * reflector_width mask
unfolding reflectors_of
reflectors_long mask l =
    turns_long (λ r. reflector_words mask l (r * reflector_length)) (reflector_width mask) (λ r. reflector_long mask l (r * reflector_length))
    (reflectors_given l)

pub mixed_long : (s : State) (g : Scan) (high low sent counter : ℕ)
    → length (layout_mixed (mixed_of s g high low sent counter))
    ≡ mixed_length (mixed_number high low) (length (active_of s.working)) (total (λ a. a.points) (arcs_of s)) (reflectors_given g.reflectors)
unfolding mixed_length
mixed_long s g high low sent counter =
    let m = mixed_number high low in
    let f = mixed_of s g high low sent counter in
    let c = contour f.contour in
    let all : length (c ++ reflector_part f) ≡ length c + (length (selected m bits.reflectors (reflectors_given g.reflectors)) + length f.reflectors) =
    length-append c (reflector_part f) ∙ rw (length-append (selected m bits.reflectors (reflectors_given g.reflectors)) f.reflectors) in
    omega (
      arith,
      all,
      contour_long s g m sent counter 1,
      one_word (bit m bits.reflectors) (reflectors_given g.reflectors),
      reflectors_long m g.reflectors,
    )

-- at most 64 of them
pub few_given : (g : Scan) → T (reflectors_fit g) → reflectors_given g.reflectors ≤ most_reflectors
few_given g h = leb→le _ most_reflectors (and_r (eqb (length g.reflectors % reflector_length) 0) (leb (reflectors_given g.reflectors) most_reflectors) h)

pub few_words : (g : Scan) → T (reflectors_fit g) → length g.reflectors ≤ 704
few_words g h =
    let n = eqb→eq (length g.reflectors % reflector_length) 0
    (and_l (eqb (length g.reflectors % reflector_length) 0) (leb (reflectors_given g.reflectors) most_reflectors) h) in
    omega (arith, few_given g h)

-- without its number no reflector has a word
no_fields : (mask : ℕ) → T (none_of bits.of_reflector mask) → reflector_width mask ≡ 0
unfolding reflector_width
no_fields mask h = go (bit mask 18) (bit mask 19) (bit mask 20) (bit mask 21) (bit mask 22) h
  where
    go : (a b c d e : Bool) → T (not a && (not b && (not c && (not d && (not e && true)))))
        → 4 * ((if a then 1 else 0) + ((if b then 1 else 0) + 0)) + ((if c then 1 else 0) + ((if d then 1 else 0) + ((if e then 1 else 0) + 0))) ≡ 0
    go true b c d e h = absurd h
    go false true c d e h = absurd h
    go false false true d e h = absurd h
    go false false false true e h = absurd h
    go false false false false true h = absurd h
    go false false false false false h = refl

-- the number goes with the words, where it is given or there are none
numbered : (mask n : ℕ) → T (mixed_ok mask) → n * reflector_width mask ≡ number_of (given_if (bit mask bits.reflectors) n) * reflector_width mask
unfolding mixed_ok
numbered mask n h = go (bit mask bits.reflectors) (and_r (mask_ok mask && none_of bits.reserved_mixed mask) _ h)
  where
    go : (b : Bool) → T (b || none_of bits.of_reflector mask) → n * reflector_width mask ≡ number_of (given_if b n) * reflector_width mask
    go true k = refl
    go false k = rw (no_fields mask k) (mul-zero n ∙ sym (mul-zero 0))

pub mixed_fit : (s : State) (g : Scan) (high low sent counter : ℕ) → T (mixed_ok (mixed_number high low)) → T (not (uncounted (mixed_number high low)))
    → MixedFits (mixed_of s g high low sent counter)
mixed_fit s g high low sent counter ok counted =
    let m = mixed_number high low in
    record {
      mask = refl;
      contour = fields_fit s g m 1 sent counter counted;
      count = shaped (bit m bits.reflectors) _;
      reflectors = reflectors_long m g.reflectors ∙ numbered m (reflectors_given g.reflectors) ok;
    }
