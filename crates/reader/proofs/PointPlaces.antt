-- Where the points of a sector stand: within the words given, and nowhere where the mask leaves them out.
use Prim.Native.Nat.{ℕ, ◌+◌, ◌*◌, ◌≤◌, ◌<◌, zero-le}
use mathlib.Core.Path.{◌≡◌, refl, ◌∙◌, ap, subst}
use mathlib.Core.List.{List, []}
use native.Mathlib.Omega.{arith}
use lib.ListN.{length, get_or, drop, length-drop}
use denote.Ref.{Bor}
use borrow.Author.Tests.{le-ltb}
use Rattle.std.specs.Prelude.{Result, Ok, Err, IsErrAnd}
use Rattle.std.proofs.lemmas.Result.{err_from_is_err_and}
use Rattle.words.specs.Parse.{got}
use Rattle.words.proofs.Each.{each_at}
use Rattle.words.proofs.Lawful.{InsideOf}
use Rattle.layout.specs.Layout.{head_length}
use Rattle.reader.specs.declared.SectorReading.{SectorReading}
use Rattle.reader.specs.declared.Part.{Part}
use Rattle.reader.specs.declared.Reading.{Reading}
use Rattle.reader.specs.declared.ReadRefusal.{ReadRefusal}
use Rattle.reader.specs.Said.{Said}
use Rattle.reader.specs.Sectors.{blank_sector}
use Rattle.reader.specs.Readings.{mask_in, count_in, Body, sectors_in, body, padded, read_of, said, ReadSays}
use Rattle.reader.specs.Stretches.{stretch_refusal_of, stretch_of, stretch_start, StretchRefusalSays, StretchSays}
use Rattle.reader.specs.Lent.{found_below, StretchesWithin, PointsSay}
use Rattle.reader.proofs.Bodies.{body_lawful, sectors_inside}
use Rattle.reader.proofs.Accepted.{Accepted, accepted, has_sector}
use Rattle.reader.proofs.FoundSectors.{found_many, found_at}
use Rattle.reader.proofs.Lent.{reader_first, place_next}

-- of a body that is read from some place on: a sector's points end within the words
pub points_inside : (ws : List ℕ) (mask count first : ℕ) {value : Body SectorReading} {end : ℕ} {rest : List ℕ}
    → (body mask count).parse first (drop first ws) ≡ got value end rest → first ≤ length ws → (place : ℕ) → place < count
    → (let s = get_or (padded (sectors_in value)) place blank_sector in s.start + s.len ≤ length ws)
points_inside ws mask count first {value} parsed long place here =
    let n = first + length (drop first ws) in
    let all : (body mask count).inside n value =
    subst (InsideOf (body mask count) n) parsed ((body_lawful mask count).within first (drop first ws)) in
    let there : place < length (sectors_in value) = omega (arith, found_many ws mask count first parsed) in
    let s = get_or (sectors_in value) place blank_sector in
    let e : s.start + s.len ≤ n = (each_at blank_sector place (sectors_inside mask count n value all) there).1.1.1.1.1.0 in
    rw (found_at ws mask count first parsed place here) (omega (arith, length-drop first ws))

-- the reading has a sector at the place
module _ (ws : List ℕ) (place : ℕ) (here : place < (read_of ws).count) where
  pub whole : Accepted ws
  whole = accepted ws (has_sector ws (omega arith))

  below : place < count_in ws
  below = rw whole.reading at here

  in_eight : place < 8
  in_eight = omega (arith, below, whole.head.few)

  in_words : (let s = get_or (read_of ws).sectors place blank_sector in s.start + s.len ≤ length ws)
  in_words = rw whole.reading (points_inside ws (mask_in ws) (count_in ws) head_length whole.parsed whole.head.long place below)

-- what a reader holds: its sectors' points are within the words
module _ (ws : List ℕ) (r : Said) (is : r ≡ read_of ws) where
  eight : r.refusal ≡ 0 → r.count ≤ 8
  eight e = let w = accepted ws (rw is at e) in omega (arith, ap (λ (s : Said). s.count) (is ∙ w.reading), w.head.few)

  ends : (place : ℕ) → place < r.count → (let s = get_or r.sectors place blank_sector in s.start + s.len ≤ length ws)
  ends place h = rw is (in_words ws place (rw is at h))

module _ (ws : List ℕ) (r : Reading) (is : ReadSays ws (Ok r)) where
  pub points_within : StretchesWithin ws r.contour
  points_within = (eight ws (said (Ok r)) is refl, ends ws (said (Ok r)) is)

-- why `stretch` hands nothing back
module _ (ws : List ℕ) (place : ℕ) where
  pub stretch_first : (e : ReadRefusal Part) → ReadSays ws (Err e) → StretchRefusalSays ws place (Err e)
  unfolding stretch_refusal_of
  stretch_first e is = rw (← is) (reader_first 0 place e)

  pub stretch_next : (r : Reading) → ReadSays ws (Ok r) → StretchRefusalSays ws place (found_below place r.contour.count)
  unfolding stretch_refusal_of
  stretch_next r is = rw (← is) (place_next r.contour.count place)

  module _ {read : Result Reading (ReadRefusal Part)} (is : ReadSays ws read) {x : Result (Unit {0}) (ReadRefusal Part)} where
    pub stretch_refused : {e : ReadRefusal Part} → read ≡ Err e → IsErrAnd x (λ d. d ≡ e) → StretchRefusalSays ws place x
    stretch_refused {e} was err = let p = err_from_is_err_and x err in rw (p.1, p.2) (stretch_first e (rw was at is))

    pub stretch_asked : {r : Reading} → read ≡ Ok r → x ≡ found_below place r.contour.count → StretchRefusalSays ws place x
    stretch_asked {r} was e = rw e (stretch_next r (rw was at is))

-- the part of the words that it lends
module _ (words : Bor (List ℕ)) (place : ℕ) (part : Bor (List ℕ)) where
  pub stretch_lent : (r : Reading) → ReadSays words.now (Ok r) → PointsSay words r.contour place part → StretchSays words place part
  unfolding stretch_of stretch_start
  stretch_lent r is l = record { lends = rw (← is) l.lends; stands = rw (← is) l.stands }

  pub nothing_lent : (e : ReadRefusal Part) → ReadSays words.now (Err e) → part.now ≡ []
      → part.ref_ptr ≡ (words.ref_ptr.0, 0 * 2 + words.ref_ptr.1)
      → StretchSays words place part
  unfolding stretch_of stretch_start
  nothing_lent e is n p = record { lends = rw (← is, le-ltb place 0 zero-le) n; stands = rw (← is, le-ltb place 0 zero-le) p }
