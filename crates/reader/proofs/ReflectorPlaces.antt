-- The reflectors of a mixed profile: within the words given, and what is lent of them.
use Prim.Native.Nat.{ℕ, suc, ◌+◌, ◌-◌, ◌*◌, ◌≤◌, ◌<◌, zero-le}
use mathlib.Core.Path.{◌≡◌, ◌∙◌, subst}
use mathlib.Core.List.{List, []}
use native.Mathlib.Nat.{add-sub_cancel_left, suc-mul, mul-le-mul_right}
use native.Mathlib.Omega.{arith}
use lib.ListN.{length, take, drop, length-drop}
use denote.Ref.{Bor}
use borrow.Author.Tests.{le-ltb}
use Rattle.std.specs.Prelude.{Result, Ok, Err, IsErrAnd}
use Rattle.std.proofs.lemmas.Result.{err_from_is_err_and}
use Rattle.words.specs.Bits.{bit}
use Rattle.words.specs.Words.{number_of}
use Rattle.words.proofs.Lawful.{KeptOf, one_lawful}
use Rattle.layout.specs.Bits as bits
use Rattle.layout.specs.declared.Kind.{Kind}
use Rattle.layout.specs.Mixed.{mixed_head_length}
use Rattle.reader.specs.declared.MixedPart.{MixedPart}
use Rattle.reader.specs.declared.MixedReading.{MixedReading}
use Rattle.reader.specs.declared.ReadRefusal.{ReadRefusal}
use Rattle.reader.specs.Said.{MixedSaid}
use Rattle.reader.specs.Mixed.{mixed_mask_in, mixed_count_in, read_mixed_of, ReadMixedSays}
use Rattle.reader.specs.MixedStretches.{reflectors_read, start_at, reflector_refusal_of, reflector_of, reflector_start, reflectors_of}
use Rattle.reader.specs.MixedStretches.{ReflectorRefusalSays, ReflectorSays, ReflectorsSays}
use Rattle.reader.specs.Lent.{found_below}
use Rattle.reader.proofs.Heads.{head_long}
use Rattle.reader.proofs.FoundSectors.{found_kept}
use Rattle.reader.proofs.MixedAccepted.{CountParsed, MixedOutcome, mixed_outcome}
use Rattle.reader.proofs.MixedAccepted.{refused, cut_contour, cut_count, too_many, cut_reflectors, over, whole}
use Rattle.reader.proofs.Lent.{reader_first, place_next, part_lent, none_lent}

-- up to the reflectors, and from there on, there are all the words
start_kept : {ws rest : List ℕ} (s : CountParsed ws rest) → s.start + length rest ≡ length ws
start_kept {ws} s =
    let on = bit (mixed_mask_in ws) bits.reflectors in
    let count = subst (KeptOf s.contour.place s.behind) s.parsed ((one_lawful on).kept s.contour.place s.behind) in
    let contour = found_kept ws (mixed_mask_in ws) (mixed_count_in ws) mixed_head_length s.contour.parsed in
    omega (arith, length-drop mixed_head_length ws, head_long Kind.Mixed ws s.contour.head)

-- all of them end within the words; a refused reading has none
all_inside : (ws : List ℕ) → (let r = read_mixed_of ws in r.start + reflectors_read r * r.width ≤ length ws)
all_inside ws = go (mixed_outcome ws)
  where
    go : {r : MixedSaid} → MixedOutcome ws r → r.start + reflectors_read r * r.width ≤ length ws
    go (refused h) = omega arith
    go (cut_contour h p) = omega arith
    go (cut_count s p) = omega arith
    go (too_many s h) = omega arith
    go (cut_reflectors s few h) = omega arith
    go (over s) = omega arith
    go (whole s) = omega (arith, s.there, start_kept s.count)

-- of what a reader holds, with the number of reflectors
module _ (ws : List ℕ) (r : MixedSaid) (is : r ≡ read_mixed_of ws) (n : ℕ) (en : n ≡ number_of r.reflectors) where
  pub reflectors_inside : r.start + n * r.width ≤ length ws
  reflectors_inside = rw (en, is) (all_inside ws)

  module _ (place : ℕ) where
    pub reflector_inside : place < n → r.start + place * r.width + r.width ≤ length ws
    reflector_inside h =
        let next : place * r.width + r.width ≤ n * r.width = rw suc-mul at (mul-le-mul_right {m = suc place} {n = n} r.width (omega arith)) in
        omega (arith, reflectors_inside)

-- why `reflector` hands nothing back
module _ (ws : List ℕ) (place : ℕ) where
  pub reflector_first : (e : ReadRefusal MixedPart) → ReadMixedSays ws (Err e) → ReflectorRefusalSays ws place (Err e)
  unfolding reflector_refusal_of
  reflector_first e is = rw (← is) (reader_first 0 place e)

  pub reflector_next : (r : MixedReading) → ReadMixedSays ws (Ok r) → ReflectorRefusalSays ws place (found_below place (number_of r.reflectors))
  unfolding reflector_refusal_of
  reflector_next r is = rw (← is) (place_next (number_of r.reflectors) place)

  module _ {read : Result MixedReading (ReadRefusal MixedPart)} (is : ReadMixedSays ws read) {x : Result (Unit {0}) (ReadRefusal MixedPart)} where
    pub reflector_refused : {e : ReadRefusal MixedPart} → read ≡ Err e → IsErrAnd x (λ d. d ≡ e) → ReflectorRefusalSays ws place x
    reflector_refused {e} was err = let p = err_from_is_err_and x err in rw (p.1, p.2) (reflector_first e (rw was at is))

    pub reflector_asked : {r : MixedReading} → read ≡ Ok r → {n : ℕ} → n ≡ number_of r.reflectors → x ≡ found_below place n
        → ReflectorRefusalSays ws place x
    reflector_asked {r} was en e = rw (e, en) (reflector_next r (rw was at is))

-- the part of the words that `reflector` and `all_reflectors` lend, by each way out
module _ (words : Bor (List ℕ)) (r : MixedSaid) (is : r ≡ read_mixed_of words.now) (n : ℕ) (en : n ≡ number_of r.reflectors)
    (part : Bor (List ℕ)) where
  module _ (place : ℕ) where
    pub reflector_lent : place < n → {at : ℕ} → part.now ≡ take (at + r.width - at) (drop at words.now)
        → part.ref_ptr ≡ (words.ref_ptr.0, at * 2 + words.ref_ptr.1) → at ≡ start_at r place → ReflectorSays words place part
    unfolding reflector_of reflector_start
    reflector_lent h e p ea =
        rw (← is) (part_lent words (reflectors_read r) place (start_at r place) r.width part (rw en at h) (rw ea at e) (rw ea at p))

    pub no_reflector_lent : n ≤ place → part.now ≡ [] → part.ref_ptr ≡ (words.ref_ptr.0, 0 * 2 + words.ref_ptr.1) → ReflectorSays words place part
    unfolding reflector_of reflector_start
    no_reflector_lent h e p = rw (← is) (none_lent words (reflectors_read r) place (start_at r place) r.width part (rw en at h) e p)

  pub reflectors_lent : part.now ≡ take (r.start + n * r.width - r.start) (drop r.start words.now)
      → part.ref_ptr ≡ (words.ref_ptr.0, r.start * 2 + words.ref_ptr.1) → ReflectorsSays words part
  unfolding reflectors_of
  reflectors_lent e p = rw (← is) (record { lends = e ∙ rw (add-sub_cancel_left, en); stands = p })

-- where the reading is refused, nothing is lent
module _ (words : Bor (List ℕ)) (e : ReadRefusal MixedPart) (is : ReadMixedSays words.now (Err e)) (part : Bor (List ℕ)) (none : part.now ≡ [])
    (front : part.ref_ptr ≡ (words.ref_ptr.0, 0 * 2 + words.ref_ptr.1)) where
  pub no_reading_lent : (place : ℕ) → ReflectorSays words place part
  unfolding reflector_of reflector_start
  no_reading_lent place = rw (← is, le-ltb place 0 zero-le) (record { lends = none; stands = front })

  pub no_readings_lent : ReflectorsSays words part
  unfolding reflectors_of
  no_readings_lent = rw (← is) (record { lends = none; stands = front })
