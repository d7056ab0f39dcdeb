-- The parts of a mixed profile: each word belongs to one of them. Those of the contour are the plain profile's, one word further on.
use Prim.Native.Nat.{ℕ, zero, suc, ◌+◌, ◌-◌, ◌*◌, ◌/◌, ◌≤◌, ◌<◌}
use mathlib.Core.Path.{◌≡◌, refl, sym, ◌∙◌, ap}
use mathlib.Core.Bool.{Bool, true, false}
use native.Mathlib.Nat.{mul-zero, add-mul, one-mul, div-mul-le_self, lt-div-mul-add, div-eq_of_lt-le}
use native.Mathlib.Omega.{arith}
use lib.Dec.{ltb}
use lib.ListN.{length, take, drop, length-take, length-drop, length-append}
use borrow.Author.Tests.{ltb-true, ltb-false}
use Rattle.std.specs.Prelude.{option_to_list}
use Rattle.words.specs.Words.{number_of}
use Rattle.layout.specs.Fields.{Fields}
use Rattle.layout.specs.Layout.{layout}
use Rattle.layout.specs.Mixed.{MixedFields, layout_mixed}
use Rattle.reader.specs.declared.Part.{Part}
use Rattle.reader.specs.declared.Part.TheVariants.{Head, Sector, Senstat}
use Rattle.reader.specs.declared.MixedPart.{MixedPart}
use Rattle.reader.specs.declared.MixedPart.TheVariants.{Contour, Count, Reflector}
use Rattle.reader.specs.Parts.{Belongs}
use Rattle.reader.specs.MixedParts.{width_of, in_front_of, MixedBelongs}
use Rattle.reader.specs.MixedDemands.{MixedPartsTile}
use Rattle.reader.proofs.PartsTile.{parts_tile, one_part, no_further}

-- an index within blocks of one width belongs to the one that division names
module _ (width j : ℕ) where
  some_width : (n : ℕ) → j < n * width → 0 < width
  some_width n h = go width refl
    where
      go : (w : ℕ) → width ≡ w → 0 < width
      go zero e = let none : n * width ≡ 0 = rw e (mul-zero n) in absurd (omega arith)
      go (suc w) e = omega arith

  one_block : (r : ℕ) → r * width ≤ j → j < r * width + width → j / width ≡ r
  one_block r from below = div-eq_of_lt-le width from (rw (add-mul, one-mul) below)

module _ (f : MixedFields) where
  abbrev c : Fields
  c = f.contour

  -- the words in front of the count; in front of the reflectors
  abbrev pub to_count : ℕ
  to_count = suc (length (layout c))

  abbrev pub to_reflectors : ℕ
  to_reflectors = to_count + length (option_to_list f.count)

  before_reflector : (r : ℕ) → length (in_front_of f (Reflector r)) ≡ to_reflectors + length (take (r * width_of f) f.reflectors)
  before_reflector r = simp length-append (omega arith)

  whole_mixed : length (layout_mixed f) ≡ to_reflectors + length f.reflectors
  whole_mixed = simp length-append (omega arith)

  module _ (i : ℕ) where
    -- the head has one word more than a plain one
    pub contour_has : (p : Part) → Belongs c i p → MixedBelongs f (suc i) (Contour p)
    contour_has Head b = record { from = omega arith; below = omega arith }
    contour_has (Sector k) b = record { from = omega arith; below = omega arith }
    contour_has Senstat b = record { from = omega arith; below = omega arith }

    in_contour : (p : Part) → MixedBelongs f (suc i) (Contour p) → Belongs c i p
    in_contour Head b = record { from = omega arith; below = omega arith }
    in_contour (Sector k) b = record { from = omega arith; below = omega arith }
    in_contour Senstat b = record { from = omega arith; below = omega arith }

    pub count_has : to_count ≤ i → i < to_reflectors → MixedBelongs f i Count
    count_has from below = record { from = omega arith; below = omega arith }

    in_reflector : (r : ℕ) → MixedBelongs f i (Reflector r)
        → (to_reflectors ≤ i) × (r * width_of f ≤ i - to_reflectors) × (i - to_reflectors < r * width_of f + width_of f)
    in_reflector r b =
        let before = length-take (r * width_of f) f.reflectors in
        let own = length-take (width_of f) (drop (r * width_of f) f.reflectors) in
        let left = length-drop (r * width_of f) f.reflectors in
        let from = rw (before_reflector r) at b.from in
        let below = rw (before_reflector r) at b.below in
        (omega arith, omega arith, omega arith)

  -- the word of the reflectors at an index is of the one that division names
  pub reflector_has : (n j : ℕ) → length f.reflectors ≡ n * width_of f → j < length f.reflectors
      → MixedBelongs f (to_reflectors + j) (Reflector (j / width_of f))
  reflector_has n j whole h =
      let w = width_of f in
      let before = length-take (j / w * w) f.reflectors in
      let own = length-take w (drop (j / w * w) f.reflectors) in
      let left = length-drop (j / w * w) f.reflectors in
      let from = div-mul-le_self j w in
      let below : j < j / w * w + w = lt-div-mul-add (some_width w j n (omega arith)) in
      record { from = rw (before_reflector (j / w)) (omega arith); below = rw (before_reflector (j / w)) (omega arith) }

  -- the first word is the head's
  first : (p : Part) → MixedBelongs f 0 (Contour p) → p ≡ Head
  first Head b = refl
  first (Sector k) b = absurd (omega arith)
  first Senstat b = absurd (omega arith)

  in_front : (i : ℕ) (p : Part) → MixedBelongs f i (Contour p) → i < to_count
  in_front zero p b = omega arith
  in_front (suc i) p b = omega (arith, no_further c i p (in_contour i p b))

  -- no word belongs to two parts
  one_contour : (i : ℕ) (p q : Part) → MixedBelongs f i (Contour p) → MixedBelongs f i (Contour q) → p ≡ q
  one_contour zero p q s t = first p s ∙ sym (first q t)
  one_contour (suc i) p q s t = one_part c i p q (in_contour i p s) (in_contour i q t)

  one_reflector : (i r : ℕ) → MixedBelongs f i (Reflector r) → (i - to_reflectors) / width_of f ≡ r
  one_reflector i r s = let at = in_reflector i r s in one_block (width_of f) (i - to_reflectors) r at.1 at.2

  one_mixed : (i : ℕ) (p q : MixedPart) → MixedBelongs f i p → MixedBelongs f i q → p ≡ q
  one_mixed i (Contour p) (Contour q) s t = ap Contour (one_contour i p q s t)
  one_mixed i (Contour p) Count s t = absurd (omega (arith, in_front i p s, t.from))
  one_mixed i (Contour p) (Reflector r) s t = absurd (omega (arith, in_front i p s, (in_reflector i r t).0))
  one_mixed i Count (Contour q) s t = absurd (omega (arith, in_front i q t, s.from))
  one_mixed i Count Count s t = refl
  one_mixed i Count (Reflector r) s t = absurd (omega (arith, s.below, (in_reflector i r t).0))
  one_mixed i (Reflector r) (Contour q) s t = absurd (omega (arith, in_front i q t, (in_reflector i r s).0))
  one_mixed i (Reflector r) Count s t = absurd (omega (arith, t.below, (in_reflector i r s).0))
  one_mixed i (Reflector r) (Reflector l) s t = ap Reflector (sym (one_reflector i r s) ∙ one_reflector i l t)

  -- and each belongs to one
  some_mixed : (n : ℕ) → length f.reflectors ≡ n * width_of f → (i : ℕ) → i < length (layout_mixed f) → (p : MixedPart) × MixedBelongs f i p
  some_mixed n whole zero h = (Contour Head, record { from = omega arith; below = omega arith })
  some_mixed n whole (suc i) h = go (ltb i (length (layout c))) refl (ltb (suc i) to_reflectors) refl
    where
      go : (t : Bool) → ltb i (length (layout c)) ≡ t → (u : Bool) → ltb (suc i) to_reflectors ≡ u → (p : MixedPart) × MixedBelongs f (suc i) p
      go true d u e = let there = parts_tile c i (ltb-true i _ d) in (Contour there.part, contour_has i there.part there.belongs)
      go false d true e = let past = ltb-false i _ d in (Count, count_has (suc i) (omega arith) (ltb-true (suc i) to_reflectors e))
      go false d false e =
          let past = ltb-false (suc i) to_reflectors e in
          let j = suc i - to_reflectors in
          let same : to_reflectors + j ≡ suc i = omega arith in
          (Reflector (j / width_of f), rw same at (reflector_has n j whole (omega (arith, whole_mixed))))

pub mixed_parts_tile : MixedPartsTile
mixed_parts_tile f a i h =
    let p = some_mixed f (number_of f.count) a.fits.reflectors i h in
    record { part = p.0; belongs = p.1; only = λ q b. one_mixed f i q p.0 b p.1 }
