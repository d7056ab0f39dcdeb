-- The points of a sector of a mixed profile: within the words given, and what is lent of them.
use Prim.Native.Nat.{ℕ, ◌+◌, ◌*◌, ◌≤◌, ◌<◌, zero-le}
use mathlib.Core.Path.{◌≡◌, refl, ◌∙◌, ap}
use mathlib.Core.List.{List, []}
use native.Mathlib.Omega.{arith}
use lib.ListN.{length, get_or}
use denote.Ref.{Bor}
use borrow.Author.Tests.{le-ltb}
use Rattle.std.specs.Prelude.{Result, Ok, Err, IsErrAnd}
use Rattle.std.proofs.lemmas.Result.{err_from_is_err_and}
use Rattle.layout.specs.declared.Kind.{Kind}
use Rattle.layout.specs.Mixed.{mixed_head_length}
use Rattle.reader.specs.declared.MixedPart.{MixedPart}
use Rattle.reader.specs.declared.MixedReading.{MixedReading}
use Rattle.reader.specs.declared.ReadRefusal.{ReadRefusal}
use Rattle.reader.specs.Said.{MixedSaid}
use Rattle.reader.specs.Sectors.{blank_sector}
use Rattle.reader.specs.Mixed.{mixed_mask_in, mixed_count_in, read_mixed_of, mixed_said, ReadMixedSays}
use Rattle.reader.specs.MixedStretches.{mixed_stretch_refusal_of, mixed_stretch_of, mixed_stretch_start, MixedStretchRefusalSays, MixedStretchSays}
use Rattle.reader.specs.Lent.{found_below, StretchesWithin, PointsSay}
use Rattle.reader.proofs.Heads.{GoodHead, good_head}
use Rattle.reader.proofs.MixedAccepted.{MixedAccepted, mixed_accepted}
use Rattle.reader.proofs.MixedStanding.{mixed_whole}
use Rattle.reader.proofs.PointPlaces.{points_inside}
use Rattle.reader.proofs.Lent.{reader_first, place_next}

-- the reading has a sector at the place
module _ (ws : List ℕ) (place : ℕ) (here : place < (read_mixed_of ws).count) where
  s : MixedAccepted ws
  s = mixed_whole ws (omega arith)

  below : place < mixed_count_in ws
  below = rw s.reading at here

  head : GoodHead Kind.Mixed ws
  head = good_head Kind.Mixed ws s.count.contour.head

  in_eight : place < 8
  in_eight = omega (arith, below, head.few)

  in_words : (let s = get_or (read_mixed_of ws).sectors place blank_sector in s.start + s.len ≤ length ws)
  in_words =
      rw s.reading
      (points_inside ws (mixed_mask_in ws) (mixed_count_in ws) mixed_head_length s.count.contour.parsed head.long place below)

-- what a reader holds: its sectors' points are within the words
module _ (ws : List ℕ) (r : MixedSaid) (is : r ≡ read_mixed_of ws) where
  eight : r.refusal ≡ 0 → r.count ≤ 8
  eight e =
      let w = mixed_accepted ws (rw is at e) in
      omega (arith, ap (λ (s : MixedSaid). s.count) (is ∙ w.reading), (good_head Kind.Mixed ws w.count.contour.head).few)

  ends : (place : ℕ) → place < r.count → (let s = get_or r.sectors place blank_sector in s.start + s.len ≤ length ws)
  ends place h = rw is (in_words ws place (rw is at h))

module _ (ws : List ℕ) (r : MixedReading) (is : ReadMixedSays ws (Ok r)) where
  pub mixed_points_within : StretchesWithin ws r.contour
  mixed_points_within = (eight ws (mixed_said (Ok r)) is refl, ends ws (mixed_said (Ok r)) is)

-- why `stretch_mixed` hands nothing back
module _ (ws : List ℕ) (place : ℕ) where
  pub mixed_stretch_first : (e : ReadRefusal MixedPart) → ReadMixedSays ws (Err e) → MixedStretchRefusalSays ws place (Err e)
  unfolding mixed_stretch_refusal_of
  mixed_stretch_first e is = rw (← is) (reader_first 0 place e)

  pub mixed_stretch_next : (r : MixedReading) → ReadMixedSays ws (Ok r) → MixedStretchRefusalSays ws place (found_below place r.contour.count)
  unfolding mixed_stretch_refusal_of
  mixed_stretch_next r is = rw (← is) (place_next r.contour.count place)

  module _ {read : Result MixedReading (ReadRefusal MixedPart)} (is : ReadMixedSays ws read) {x : Result (Unit {0}) (ReadRefusal MixedPart)} where
    pub mixed_stretch_refused : {e : ReadRefusal MixedPart} → read ≡ Err e → IsErrAnd x (λ d. d ≡ e) → MixedStretchRefusalSays ws place x
    mixed_stretch_refused {e} was err = let p = err_from_is_err_and x err in rw (p.1, p.2) (mixed_stretch_first e (rw was at is))

    pub mixed_stretch_asked : {r : MixedReading} → read ≡ Ok r → x ≡ found_below place r.contour.count → MixedStretchRefusalSays ws place x
    mixed_stretch_asked {r} was e = rw e (mixed_stretch_next r (rw was at is))

-- the part of the words that it lends
module _ (words : Bor (List ℕ)) (place : ℕ) (part : Bor (List ℕ)) where
  pub mixed_stretch_lent : (r : MixedReading) → ReadMixedSays words.now (Ok r) → PointsSay words r.contour place part
      → MixedStretchSays words place part
  unfolding mixed_stretch_of mixed_stretch_start
  mixed_stretch_lent r is l = rw (← is) l

  pub mixed_nothing_lent : (e : ReadRefusal MixedPart) → ReadMixedSays words.now (Err e) → part.now ≡ []
      → part.ref_ptr ≡ (words.ref_ptr.0, 0 * 2 + words.ref_ptr.1)
      → MixedStretchSays words place part
  unfolding mixed_stretch_of mixed_stretch_start
  mixed_nothing_lent e is n p = rw (← is, le-ltb place 0 zero-le) (record { lends = n; stands = p })
