-- Each number for no of the reader of mixed profiles is given exactly then, and with it nothing else.
use Prim.Native.Nat.{ℕ, ◌*◌, ◌≤◌, ◌<◌}
use mathlib.Core.Path.{◌≡◌, refl, sym, ◌∙◌, ap, subst}
use mathlib.Core.Bool.{Bool, true, false}
use mathlib.Core.List.{List, [], ◌∷◌, ◌++◌, append_assoc, append-nil}
use native.Mathlib.Nat.{zero-mul}
use native.Mathlib.Omega.{arith}
use lib.Dec.{T, eqb}
use lib.ListN.{length, drop}
use borrow.Author.Tests.{lt-leb, eqb-true, eqb-false}
use Rattle.std.specs.Prelude.{Option, Some, None, option_to_list}
use Rattle.words.specs.Bits.{bit}
use Rattle.words.specs.Lists.{some, none, this}
use Rattle.words.specs.Words.{number_of, given_if, Shaped}
use Rattle.words.specs.Parse.{short, word}
use Rattle.words.specs.Format.{many}
use Rattle.words.proofs.Extends.{Extended, ExtendedOf, many_extends}
use Rattle.layout.specs.Bits as bits
use Rattle.layout.specs.declared.Kind.{Kind}
use Rattle.layout.specs.MixedMasks.{most_reflectors}
use Rattle.layout.specs.Fields.{SectorFields}
use Rattle.layout.specs.Layout.{contour}
use Rattle.layout.specs.Mixed.{MixedFields, layout_mixed, MixedAcceptable, mixed_head_length}
use Rattle.reader.specs.declared.MixedPart.{MixedPart}
use Rattle.reader.specs.Said.{Place, MixedSaid}
use Rattle.reader.specs.Readings.{Body, body}
use Rattle.reader.specs.Mixed.{mixed_mask_in, mixed_count_in, mixed_head_refusal, refused_mixed, read_mixed_of}
use Rattle.reader.specs.MixedParts.{head_of}
use Rattle.reader.specs.MixedStretches.{number_at, mixed_stretch_refusal_of, mixed_stretch_of, reflectors_read, reflector_refusal_of, reflector_of}
use Rattle.reader.specs.MixedStretches.{reflectors_in, reflectors_of}
use Rattle.reader.specs.MixedDemands.{MixedEndEarly, MixedLeftOver, TooMany, mixed_numbers, MixedRefusalsExactly, MixedRefusalsGiveNothing}
use Rattle.reader.specs.MixedDemands.{PlacedBelow, MixedStretchNumbers, ReflectorNumbers}
use Rattle.reader.proofs.Heads.{GoodHead, good_head, head_other, head_front}
use Rattle.reader.proofs.HeadNumbers.{mixed_table}
use Rattle.reader.proofs.Bodies.{body_extends}
use Rattle.reader.proofs.Prefixes.{not_both}
use Rattle.reader.proofs.MixedAccepted.{ContourParsed, CountParsed, MixedParsed, MixedOutcome, refused, cut_contour, cut_count, too_many}
use Rattle.reader.proofs.MixedAccepted.{cut_reflectors, over, whole, count_found, reflector_words, by_many, mixed_outcome}
use Rattle.reader.proofs.Laid.{laid}
use Rattle.reader.proofs.Readers.{over_laid, none_within}
use Rattle.reader.proofs.Refusals.{GivenBy, by_head, by_body, by_table, words_first, not_below, below, none_lent}
use Rattle.reader.proofs.MixedLaid.{mixed_of, mixed_acceptable, mixed_laid, contour_head, contour_sound, contour_read, count_sound, behind_words}
use Rattle.reader.proofs.MixedLaid.{mixed_fields, mixed_fit, mixed_laid_out}
use Rattle.reader.proofs.MixedRoundTrip.{count_read, mixed_passes, mixed_reads}

-- the word of bit 16, with a number that is not 0, is there
number_there : (on : Bool) (n : Option ℕ) → Shaped on n → 0 < number_of n → T on × (option_to_list n ≡ number_of n ∷ [])
number_there true (Some n) s h = (tt, refl)
number_there true None s h = absurd s
number_there false None s h = absurd (omega arith)
number_there false (Some n) s h = absurd s

-- it is missing where the words end
number_missing : (on : Bool) (b : ℕ) (ws : List ℕ) → word on b ws ≡ short → T on × (ws ≡ [])
number_missing true b [] e = (tt, refl)
number_missing true b (w ∷ ws) e = absurd (not_both (sym e))
number_missing false b ws e = absurd (not_both (sym e))

given_on : (on : Bool) (n : ℕ) → T on → Shaped on (Some n)
given_on true n t = tt
given_on false n t = absurd t

-- no reflector, where their number is on or not
none_shaped : (on : Bool) → Shaped on (given_if on 0)
none_shaped true = tt
none_shaped false = tt

none_number : (on : Bool) → number_of (given_if on 0) ≡ 0
none_number true = refl
none_number false = refl

none_long : (on : Bool) (width : ℕ) → 0 ≡ number_of (given_if on 0) * width
none_long on width = rw (none_number on, zero-mul)

none_few : (on : Bool) → number_of (given_if on 0) ≤ most_reflectors
none_few on = rw (none_number on) (omega arith)

module _ (ws : List ℕ) where
  abbrev on : Bool
  on = bit (mixed_mask_in ws) bits.reflectors

  -- behind a head that passes, a contour and no reflector
  no_reflectors : GoodHead Kind.Mixed ws → (b : Body SectorFields) → (body (mixed_mask_in ws) (mixed_count_in ws)).ok b
      → MixedAcceptable (mixed_of ws b (given_if on 0) [])
  no_reflectors head b ok =
      mixed_acceptable ws head b ok (given_if on 0) (none_shaped on) (none_few on) [] (none_long on _)

  -- words that go on so, to the end of a mixed profile, end early
  ends_early : (head : GoodHead Kind.Mixed ws) (b : Body SectorFields) → (body (mixed_mask_in ws) (mixed_count_in ws)).ok b
      → (n : Option ℕ) → Shaped on n → number_of n ≤ most_reflectors → (xs : List ℕ) → length xs ≡ reflector_words ws n
      → (more : List ℕ) → T (some more)
      → drop mixed_head_length ws ++ more ≡ (body (mixed_mask_in ws) (mixed_count_in ws)).put b ++ (option_to_list n ++ xs)
      → MixedEndEarly ws
  ends_early head b ok n shaped few xs long more t e =
      let put = (body (mixed_mask_in ws) (mixed_count_in ws)).put b in
      let words = mixed_laid ws head b ok n shaped few xs long more []
      (e ∙ ap (λ (l : List ℕ). put ++ (option_to_list n ++ l)) (sym (append-nil xs))) ∙ append-nil _ in
      (head.long, (mixed_of ws b n xs, more, mixed_acceptable ws head b ok n shaped few xs long, t, words))

  -- a contour that more words make whole, with no reflector
  contour_cut : GoodHead Kind.Mixed ws → Extended (body (mixed_mask_in ws) (mixed_count_in ws)) (drop mixed_head_length ws) → MixedEndEarly ws
  contour_cut head t =
      let none = given_if on 0 in
      ends_early head t.fields t.fits none (none_shaped on) (none_few on) [] (none_long on _)
      (t.more ++ (option_to_list none ++ [])) (some_front t.more _ t.some_more)
      (sym (append_assoc (drop mixed_head_length ws) t.more _) ∙ ap (λ (l : List ℕ). l ++ (option_to_list none ++ [])) t.words)
    where
      some_front : {A : Type 0} (xs ys : List A) → T (some xs) → T (some (xs ++ ys))
      some_front [] ys t = absurd t
      some_front (x ∷ xs) ys t = tt

  -- a whole contour, and the word of bit 16 missing: no reflector
  count_cut : {rest : List ℕ} (s : ContourParsed ws rest) → count_found ws s.place rest ≡ short → MixedEndEarly ws
  count_cut {rest} s e =
      let c = contour_sound s in
      let t = number_missing on s.place rest e in
      let put = (body (mixed_mask_in ws) (mixed_count_in ws)).put (contour_read s) in
      ends_early (contour_head s) (contour_read s) c.fits (Some 0) (given_on on 0 t.0) (omega arith) [] (sym (zero-mul _)) (0 ∷ []) tt
      (ap (λ (l : List ℕ). l ++ (0 ∷ [])) (c.words ∙ ap (λ (l : List ℕ). put ++ l) t.1 ∙ append-nil put))

  -- all but some words of reflectors: 0 for each
  reflectors_cut : {rest : List ℕ} (s : CountParsed ws rest) → number_of s.number ≤ most_reflectors → length rest < reflector_words ws s.number
      → MixedEndEarly ws
  reflectors_cut {rest} s few h =
      let k = reflector_words ws s.number in
      let t : Extended (many k) rest = rw (lt-leb k (length rest) h) at ((many_extends k).extend rest 0) in
      let put = (body (mixed_mask_in ws) (mixed_count_in ws)).put (contour_read s.contour) in
      ends_early (contour_head s.contour) (contour_read s.contour) (contour_sound s.contour).fits s.number (count_sound s).fits few
      t.fields t.fits t.more t.some_more
      (ap (λ (l : List ℕ). l ++ t.more) (behind_words s) ∙ append_assoc put (option_to_list s.number ++ rest) t.more
      ∙ ap (λ (l : List ℕ). put ++ l)
      (append_assoc (option_to_list s.number) rest t.more ∙ ap (λ (l : List ℕ). option_to_list s.number ++ l) t.words))

  -- a count that says too many stands behind a contour
  many_there : {rest : List ℕ} (s : CountParsed ws rest) → most_reflectors < number_of s.number → TooMany ws
  many_there {rest} s h =
      let head = contour_head s.contour in
      let b = contour_read s.contour in
      let ok = (contour_sound s.contour).fits in
      let n = number_of s.number in
      let there = number_there on s.number (count_sound s).fits (omega arith) in
      let put = (body (mixed_mask_in ws) (mixed_count_in ws)).put b in
      let words = sym (append-nil ws) ∙ laid Kind.Mixed ws head b ok [] (n ∷ rest)
      (append-nil _ ∙ behind_words s ∙ ap (λ (l : List ℕ). put ++ (l ++ rest)) there.1) in (
        mixed_of ws b (given_if on 0) [],
        n,
        rest,
        no_reflectors head b ok,
        there.0,
        h,
        words,
      )

  -- the number by the head, or by the body
  given : {r : MixedSaid} → MixedOutcome ws r → GivenBy (mixed_head_refusal ws) r.refusal
  given (refused h) = by_head h
  given (cut_contour h p) = by_body h (λ t. t)
  given (cut_count s p) = by_body s.head (λ t. t)
  given (too_many s h) = by_body s.contour.head (λ t. t)
  given (cut_reflectors s few h) = by_body s.contour.head (λ t. t)
  given (over s) = by_body s.count.contour.head (λ t. t)
  given (whole s) = by_body s.count.contour.head (λ t. t)

  -- 15 says that the words end early
  is_early : {r : MixedSaid} → MixedOutcome ws r → r.refusal ≡ 15 → MixedEndEarly ws
  is_early (refused h) e = absurd (head_other Kind.Mixed ws e)
  is_early (cut_contour h p) e =
      let c = body (mixed_mask_in ws) (mixed_count_in ws) in
      contour_cut (good_head Kind.Mixed ws h)
      (subst (ExtendedOf c (drop mixed_head_length ws)) p ((body_extends (mixed_mask_in ws) (mixed_count_in ws)).extend ws mixed_head_length))
  is_early (cut_count s p) e = count_cut s p
  is_early (too_many s h) e = absurd (omega arith)
  is_early (cut_reflectors s few h) e = reflectors_cut s few h
  is_early (over s) e = absurd (omega arith)
  is_early (whole s) e = absurd (omega arith)

  -- 27 says that there are too many
  is_many : {r : MixedSaid} → MixedOutcome ws r → r.refusal ≡ 27 → TooMany ws
  is_many (refused h) e = absurd (head_other Kind.Mixed ws e)
  is_many (cut_contour h p) e = absurd (omega arith)
  is_many (cut_count s p) e = absurd (omega arith)
  is_many (too_many s h) e = many_there s h
  is_many (cut_reflectors s few h) e = absurd (omega arith)
  is_many (over s) e = absurd (omega arith)
  is_many (whole s) e = absurd (omega arith)

  -- 16 says that words are left over
  is_over : {r : MixedSaid} → MixedOutcome ws r → r.refusal ≡ 16 → MixedLeftOver ws
  is_over (refused h) e = absurd (head_other Kind.Mixed ws e)
  is_over (cut_contour h p) e = absurd (omega arith)
  is_over (cut_count s p) e = absurd (omega arith)
  is_over (too_many s h) e = absurd (omega arith)
  is_over (cut_reflectors s few h) e = absurd (omega arith)
  is_over (over {w} {rest} s) e = (mixed_fields s, w ∷ rest, mixed_fit s, tt, mixed_laid_out s)
  is_over (whole s) e = absurd (omega arith)

  -- a refused reading has nothing but its number and its place
  is_blank : {r : MixedSaid} → MixedOutcome ws r → (r.refusal ≡ 0 → ⊥) → r ≡ refused_mixed r.refusal r.place
  is_blank (refused h) n = refl
  is_blank (cut_contour h p) n = refl
  is_blank (cut_count s p) n = refl
  is_blank (too_many s h) n = refl
  is_blank (cut_reflectors s few h) n = refl
  is_blank (over s) n = refl
  is_blank (whole s) n = absurd (n refl)

-- a count that says too many is refused by 27, whatever stands behind it
many_is : (ws : List ℕ) → TooMany ws → (read_mixed_of ws).refusal ≡ 27
many_is ws t =
    let f = t.0 in
    let n = t.1 in
    let s = count_read f t.3 (n ∷ t.2) (Some n) (given_on (bit f.contour.mask bits.reflectors) n t.4) t.2 refl in
    ap (λ (v : List ℕ). (read_mixed_of v).refusal) t.6 ∙ ap (λ (r : MixedSaid). r.refusal) (by_many _ s t.5)

more_behind : (ws more : List ℕ) → TooMany ws → TooMany (ws ++ more)
more_behind ws more t =
    let f = t.0 in (
      f,
      t.1,
      t.2 ++ more,
      t.3,
      t.4,
      t.5,
      ap (λ (l : List ℕ). l ++ more) t.6 ∙ append_assoc (head_of f ++ contour f.contour) (t.1 ∷ t.2) more,
    )

module _ (ws : List ℕ) (early : MixedEndEarly ws) where
  abbrev f : MixedFields
  f = early.1.0

  abbrev more : List ℕ
  more = early.1.1

  abbrev is : ws ++ more ≡ layout_mixed f
  is = early.1.4

  -- the first four words are a mixed profile's
  passes : mixed_head_refusal ws ≡ 0
  passes =
      sym (head_front Kind.Mixed ws more early.0) ∙ ap mixed_head_refusal is ∙ mixed_passes f early.1.2 (option_to_list f.count ++ f.reflectors)

  -- what was read would be a mixed profile within a mixed profile
  not_read : {rest : List ℕ} → MixedParsed ws rest → ⊥
  not_read {rest} s =
      none_within mixed_reads ws f more early.1.2 early.1.3 is (mixed_fields s) rest (mixed_fit s) (mixed_laid_out s)

  -- its count would be over 64
  not_many : {rest : List ℕ} (s : CountParsed ws rest) → most_reflectors < number_of s.number → ⊥
  not_many s h =
      let many : (read_mixed_of (ws ++ more)).refusal ≡ 27 = many_is (ws ++ more) (more_behind ws more (many_there ws s h)) in
      let taken : (read_mixed_of (ws ++ more)).refusal ≡ 0 = ap (λ (v : List ℕ). (read_mixed_of v).refusal) is ∙ mixed_reads.reads f early.1.2 in
      omega arith

  -- words that end early are refused by 15
  early_is : {r : MixedSaid} → MixedOutcome ws r → r.refusal ≡ 15
  early_is (refused h) = absurd (h passes)
  early_is (cut_contour h p) = refl
  early_is (cut_count s p) = refl
  early_is (too_many s h) = absurd (not_many s h)
  early_is (cut_reflectors s few h) = refl
  early_is (over s) = absurd (not_read s)
  early_is (whole s) = absurd (not_read s)

pub mixed_refusals_exactly : MixedRefusalsExactly
mixed_refusals_exactly ws =
    let o = mixed_outcome ws in
    record {
      by_head = by_table (given ws o) (mixed_numbers ws) (mixed_table ws) (this tt (this tt (this tt (this tt (this tt (this tt none))))));
      many = (is_many ws o, many_is ws);
      early = (is_early ws o, λ t. early_is ws t o);
      over = (is_over ws o, over_laid mixed_reads ws);
    }

module _ (ws : List ℕ) where
  blank : ((read_mixed_of ws).refusal ≡ 0 → ⊥) → read_mixed_of ws ≡ refused_mixed (read_mixed_of ws).refusal (read_mixed_of ws).place
  blank = is_blank ws (mixed_outcome ws)

  -- what a refused reading has none of is found in accepted ones alone
  has_some : (part : MixedSaid → ℕ) → ((n : ℕ) (p : Place MixedPart) → part (refused_mixed n p) ≡ 0) → 0 < part (read_mixed_of ws)
      → (read_mixed_of ws).refusal ≡ 0
  has_some part zero-there h = go (eqb (read_mixed_of ws).refusal 0) refl
    where
      go : (t : Bool) → eqb (read_mixed_of ws).refusal 0 ≡ t → (read_mixed_of ws).refusal ≡ 0
      go true e = eqb-true (read_mixed_of ws).refusal 0 e
      go false e =
          let nothing = ap part (blank (eqb-false (read_mixed_of ws).refusal 0 e)) ∙ zero-there (read_mixed_of ws).refusal (read_mixed_of ws).place in
          absurd (omega arith)

  no_stretch : (place : ℕ) → (mixed_stretch_refusal_of ws place ≡ 0 → ⊥) → mixed_stretch_of ws place ≡ []
  unfolding mixed_stretch_refusal_of mixed_stretch_of
  no_stretch place n =
      none_lent (read_mixed_of ws).refusal (read_mixed_of ws).count place (has_some (λ r. r.count) (λ n p. refl)) n _

  no_reflector : (place : ℕ) → (reflector_refusal_of ws place ≡ 0 → ⊥) → reflector_of ws place ≡ []
  unfolding reflector_refusal_of reflector_of
  no_reflector place n =
      none_lent (read_mixed_of ws).refusal (reflectors_read (read_mixed_of ws)) place (has_some reflectors_read (λ n p. refl)) n _

  none_of_them : ((read_mixed_of ws).refusal ≡ 0 → ⊥) → reflectors_of ws ≡ []
  unfolding reflectors_of
  none_of_them n = ap (reflectors_in ws) (blank n)

  -- a place below a number of a reading
  placed : (many place : ℕ) → PlacedBelow ws (number_at ws many place) many place
  placed many place =
      let number = (read_mixed_of ws).refusal in
      record {
        words_first = words_first number many place;
        not_below = not_below number many place;
        below = below number many place;
      }

pub mixed_refusals_give_nothing : MixedRefusalsGiveNothing
mixed_refusals_give_nothing ws =
    record { reading = blank ws; stretch = no_stretch ws; reflector = no_reflector ws; reflectors = none_of_them ws }

pub mixed_stretch_numbers : MixedStretchNumbers
unfolding mixed_stretch_refusal_of
mixed_stretch_numbers ws place = placed ws (read_mixed_of ws).count place

pub reflector_numbers : ReflectorNumbers
unfolding reflector_refusal_of
reflector_numbers ws place = placed ws (reflectors_read (read_mixed_of ws)) place
