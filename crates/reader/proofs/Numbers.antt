-- Demand 1 of the reader: each number for no is given exactly then, and with it nothing else.
use Prim.Native.Nat.{ℕ, ◌≤◌}
use mathlib.Core.Path.{◌≡◌, refl, sym, ◌∙◌, ap, subst}
use mathlib.Core.List.{List, [], ◌∷◌, ◌++◌, append-nil}
use native.Mathlib.Omega.{arith}
use lib.Dec.{T}
use lib.ListN.{length, drop}
use Rattle.words.specs.Lists.{some, none, this}
use Rattle.words.proofs.Extends.{Extended, ExtendedOf}
use Rattle.layout.specs.declared.Kind.{Kind}
use Rattle.layout.specs.Fields.{Fields}
use Rattle.layout.specs.Layout.{layout, Acceptable, head_length}
use Rattle.reader.specs.Said.{Said}
use Rattle.reader.specs.Readings.{mask_in, count_in, head_refusal, body, refused_reading, read_of}
use Rattle.reader.specs.Stretches.{stretch_refusal_of, stretch_of}
use Rattle.reader.specs.Demands.{head_numbers, EndEarly, LeftOver, RefusalsExactly, RefusalsGiveNothing, StretchNumbers}
use Rattle.reader.proofs.Heads.{GoodHead, good_passes, head_other, head_front}
use Rattle.reader.proofs.HeadNumbers.{head_table}
use Rattle.reader.proofs.Bodies.{body_extends}
use Rattle.reader.proofs.Accepted.{Parsed, Outcome, refused, cut, over, whole, outcome, has_sector}
use Rattle.reader.proofs.Laid.{fields_of, acceptable, laid}
use Rattle.reader.proofs.Readers.{over_laid, none_within}
use Rattle.reader.proofs.Refusals.{GivenBy, by_head, by_body, by_table, words_first, not_below, below, none_lent}
use Rattle.reader.proofs.RoundTrip.{fields, fields_fit, laid_out, head_passes, plain_reads}

module _ (ws : List ℕ) where
  -- where the body's words end early, more of them make a profile
  early_laid : GoodHead Kind.Plain ws → Extended (body (mask_in ws) (count_in ws)) (drop head_length ws) → EndEarly ws
  early_laid h t =
      let words = laid Kind.Plain ws h t.fields t.fits t.more [] (t.words ∙ sym (append-nil _)) ∙ append-nil _ in
      (h.long, (fields_of (mask_in ws) t.fields, t.more, acceptable Kind.Plain ws h t.fields t.fits, t.some_more, words))

  -- every number but 0, 15 and 16 is the head's
  given : {r : Said} → Outcome ws r → GivenBy (head_refusal ws) r.refusal
  given (refused h) = by_head h
  given (cut h p) = by_body (good_passes Kind.Plain ws h) (λ t. t)
  given (over s) = by_body (good_passes Kind.Plain ws s.head) (λ t. t)
  given (whole s) = by_body (good_passes Kind.Plain ws s.head) (λ t. t)

  -- 15 says that the words end early
  is_early : {r : Said} → Outcome ws r → r.refusal ≡ 15 → EndEarly ws
  is_early (refused h) e = absurd (head_other Kind.Plain ws e)
  is_early (cut h p) e =
      early_laid h (subst (ExtendedOf (body (mask_in ws) (count_in ws)) (drop head_length ws)) p
      ((body_extends (mask_in ws) (count_in ws)).extend ws head_length))
  is_early (over s) e = absurd (omega arith)
  is_early (whole s) e = absurd (omega arith)

  module _ (long : head_length ≤ length ws) (f : Fields) (more : List ℕ) (w : Acceptable f) (t : T (some more)) (is : ws ++ more ≡ layout f) where
    -- the first three words are a profile's
    passes : head_refusal ws ≡ 0
    passes = sym (head_front Kind.Plain ws more long) ∙ ap head_refusal (is ∙ sym (append-nil _)) ∙ head_passes f w []

    -- what was read would be a profile within a profile
    not_read : {rest : List ℕ} → Parsed ws rest → ⊥
    not_read {rest} s = none_within plain_reads ws f more w t is (fields s) rest (fields_fit s) (laid_out s)

    -- words that end early are refused by 15
    early_is : {r : Said} → Outcome ws r → r.refusal ≡ 15
    early_is (refused h) = absurd (h passes)
    early_is (cut h p) = refl
    early_is (over s) = absurd (not_read s)
    early_is (whole s) = absurd (not_read s)

  -- 16 says that words are left over
  is_over : {r : Said} → Outcome ws r → r.refusal ≡ 16 → LeftOver ws
  is_over (refused h) e = absurd (head_other Kind.Plain ws e)
  is_over (cut h p) e = absurd (omega arith)
  is_over (over {w} {rest} s) e = (fields s, w ∷ rest, fields_fit s, tt, laid_out s)
  is_over (whole s) e = absurd (omega arith)

  -- a refused reading has nothing but its number and its place
  is_blank : {r : Said} → Outcome ws r → (r.refusal ≡ 0 → ⊥) → r ≡ refused_reading r.refusal r.place
  is_blank (refused h) n = refl
  is_blank (cut h p) n = refl
  is_blank (over s) n = refl
  is_blank (whole s) n = absurd (n refl)

  -- a refused stretch is empty
  is_empty : (place : ℕ) → (stretch_refusal_of ws place ≡ 0 → ⊥) → stretch_of ws place ≡ []
  unfolding stretch_refusal_of stretch_of
  is_empty place n = none_lent (read_of ws).refusal (read_of ws).count place (has_sector ws) n _

pub refusals_exactly : RefusalsExactly
refusals_exactly ws =
    record {
      by_head = by_table (given ws (outcome ws)) (head_numbers ws) (head_table ws) (this tt (this tt (this tt (this tt (this tt (this tt none))))));
      early = (is_early ws (outcome ws), λ t. early_is ws t.0 t.1.0 t.1.1 t.1.2 t.1.3 t.1.4 (outcome ws));
      over = (is_over ws (outcome ws), over_laid plain_reads ws);
    }

pub refusals_give_nothing : RefusalsGiveNothing
refusals_give_nothing ws = record { reading = is_blank ws (outcome ws); stretch = is_empty ws }

pub stretch_numbers : StretchNumbers
unfolding stretch_refusal_of
stretch_numbers ws place =
    let number = (read_of ws).refusal in
    let many = (read_of ws).count in
    record {
      words_first = words_first number many place;
      not_below = not_below number many place;
      below = below number many place;
    }
