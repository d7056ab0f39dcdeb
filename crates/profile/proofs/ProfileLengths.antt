-- How long a revolution's profile is, for every mask; and that its fields fit the mask where points come with their number.
use mathlib.Core.Path.{◌≡◌, refl, sym, ap, ◌∙◌}
use mathlib.Core.Bool.{Bool, true, false, not, ◌&&◌}
use mathlib.Core.List.{List, [], ◌∷◌}
use Prim.Native.Nat.{ℕ, suc, ◌+◌, ◌*◌}
use native.Mathlib.Nat.{zero-mul, suc-mul, add-mul, mul-zero}
use native.Mathlib.Omega.{arith}
use lib.Dec.{T, eqb}
use lib.ListN.{length, length-append}
use borrow.Author.Tests.{eqb-true}
use Rattle.std.specs.Prelude.{if◌then◌else◌, option_to_list}
use Rattle.words.specs.Bits.{bit}
use Rattle.words.specs.Lists.{Each, none, this, count, total}
use Rattle.words.specs.Words.{given_if, number_of, Shaped, laid_all}
use Rattle.words.proofs.Puts.{turns_long}
use Rattle.layout.specs.Bits as bits
use Rattle.layout.specs.Masks.{point_width, uncounted}
use Rattle.layout.specs.Layout.{head_length, head, layout_sector, contour, layout, SectorFits, Fits}
use Rattle.layout.specs.Lengths.{profile_length}
use Rattle.plan.specs.declared.Arc.{Arc}
use Rattle.plan.specs.Sectors.{active_of}
use Rattle.plan.specs.Shots.{last_stop}
use Rattle.plan.proofs.ArcSums.{arcs_length}
use Rattle.state.specs.declared.State.{State}
use Rattle.state.specs.Modes.{mode_number}
use Rattle.profile.specs.Points.{point_words}
use Rattle.profile.specs.Profiles.{Scan, point_at, points_of, sector_of, sectors_of, arcs_of, rate_of, fields_of}
use Rattle.profile.specs.Mixed.{with_layer}

-- a word that is selected is one, another none
pub one_word : (b : Bool) (w : ℕ) → length (option_to_list (given_if b w)) ≡ (if b then 1 else 0)
one_word true w = refl
one_word false w = refl

pub shaped : (b : Bool) (w : ℕ) → Shaped b (given_if b w)
shaped true w = tt
shaped false w = tt

points_long : (mask step : ℕ) (g : Scan) (a : Arc) → length (points_of mask step g a) ≡ a.points * point_width mask
unfolding points_of point_words
points_long mask step g a = turns_long (point_at mask step g a) (point_width mask) (λ i. simp (length-append, one_word) (omega arith)) a.points

-- the words of a sector aside from its points
abbrev block_width : ℕ → ℕ
block_width mask = count (bit mask) bits.of_sector

sector_long : (mask step rate : ℕ) (g : Scan) (number : ℕ) (a : Arc)
    → length (layout_sector (sector_of mask step rate g number a)) ≡ block_width mask + a.points * point_width mask
sector_long mask step rate g number a = simp (length-append, one_word, points_long) (omega arith)

sectors_long : (mask step rate : ℕ) (g : Scan) (number : ℕ) (l : List Arc)
    → length (laid_all layout_sector (sectors_of mask step rate g number l))
    ≡ length l * block_width mask + total (λ a. a.points) l * point_width mask
sectors_long mask step rate g number [] = simp zero-mul
sectors_long mask step rate g number (a ∷ l) =
    length-append (layout_sector (sector_of mask step rate g number a)) _
    ∙ rw (sector_long mask step rate g number a, sectors_long mask step rate g (suc number) l, suc-mul, add-mul) (omega arith)

sectors_many : (mask step rate : ℕ) (g : Scan) (number : ℕ) (l : List Arc) → length (sectors_of mask step rate g number l) ≡ length l
sectors_many mask step rate g number [] = refl
sectors_many mask step rate g number (a ∷ l) = ap suc (sectors_many mask step rate g (suc number) l)

two_words : (b : Bool) (v w : ℕ) → length (option_to_list (given_if b v)) + length (option_to_list (given_if b w)) ≡ (if b then 2 else 0)
two_words true v w = refl
two_words false v w = refl

module _ (s : State) (g : Scan) (mask sent counter : ℕ) where
  -- an arc for each active sector, and a sector of the profile for each arc
  arcs_many : length (arcs_of s) ≡ length (active_of s.working)
  arcs_many = arcs_length s.step.0 (last_stop 0 (active_of s.working)) 0 (active_of s.working)

  pub fields_many : length (fields_of s g mask sent counter).sectors ≡ length (active_of s.working)
  fields_many = sectors_many mask s.step.0 (rate_of s) g 0 (arcs_of s) ∙ arcs_many

  -- the contour, whichever its layer
  pub contour_long : (layer : ℕ)
      → head_length + length (contour (with_layer layer (fields_of s g mask sent counter)))
      ≡ profile_length mask (length (active_of s.working)) (total (λ a. a.points) (arcs_of s))
  unfolding profile_length
  contour_long layer =
      let n = arcs_many in
      let e = sectors_long mask s.step.0 (rate_of s) g 0 (arcs_of s) in
      let t = two_words (bit mask bits.senstat) 0 (mode_number s.mode) in
      simp (length-append, one_word (bit mask bits.sent) sent, one_word (bit mask bits.counter) counter, one_word (bit mask bits.layer) layer, e, n)
      (omega (arith, t))

  pub profile_long : length (layout (fields_of s g mask sent counter))
      ≡ profile_length mask (length (active_of s.working)) (total (λ a. a.points) (arcs_of s))
  profile_long = length-append (head mask (length (fields_of s g mask sent counter).sectors)) (contour (fields_of s g mask sent counter)) ∙ contour_long 0

-- the number of points goes with the words of points, where it is given or there are none
counted_body : (mask points : ℕ) → T (not (uncounted mask))
    → points * point_width mask ≡ number_of (given_if (bit mask bits.points) points) * point_width mask
counted_body mask points h = go (bit mask bits.points) (eqb (point_width mask) 0) refl h
  where
    go : (b z : Bool) → eqb (point_width mask) 0 ≡ z → T (not (not z && not b))
        → points * point_width mask ≡ number_of (given_if b points) * point_width mask
    go true z e k = refl
    go false true e k = rw (eqb-true (point_width mask) 0 e) (mul-zero points ∙ sym (mul-zero 0))
    go false false e k = absurd k

sector_fits : (mask step rate : ℕ) (g : Scan) (number : ℕ) (a : Arc) → T (not (uncounted mask))
    → SectorFits mask (sector_of mask step rate g number a)
sector_fits mask step rate g number a h =
    record {
      number = shaped (bit mask bits.number) _;
      step = shaped (bit mask bits.step) _;
      points = shaped (bit mask bits.points) _;
      tstart = shaped (bit mask bits.tstart) _;
      startdir = shaped (bit mask bits.startdir) _;
      body = points_long mask step g a ∙ counted_body mask a.points h;
      tend = shaped (bit mask bits.tend) _;
      enddir = shaped (bit mask bits.enddir) _;
    }

sectors_fit : (mask step rate : ℕ) (g : Scan) (number : ℕ) (l : List Arc) → T (not (uncounted mask))
    → Each (SectorFits mask) (sectors_of mask step rate g number l)
sectors_fit mask step rate g number [] h = none
sectors_fit mask step rate g number (a ∷ l) h = this (sector_fits mask step rate g number a h) (sectors_fit mask step rate g (suc number) l h)

pub fields_fit : (s : State) (g : Scan) (mask layer sent counter : ℕ) → T (not (uncounted mask))
    → Fits (with_layer layer (fields_of s g mask sent counter))
fields_fit s g mask layer sent counter h =
    record {
      sent = shaped (bit mask bits.sent) _;
      counter = shaped (bit mask bits.counter) _;
      layer = shaped (bit mask bits.layer) _;
      sectors = sectors_fit mask s.step.0 (rate_of s) g 0 (arcs_of s) h;
      high = shaped (bit mask bits.senstat) _;
      low = shaped (bit mask bits.senstat) _;
    }
