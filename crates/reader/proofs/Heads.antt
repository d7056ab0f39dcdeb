-- The words that depend on no bit, of either kind: what each way out of their tests gives, and what holds where they pass.
use Prim.Native.Nat.{ℕ, suc, ◌+◌, ◌/◌, ◌%◌, ◌≤◌, ◌<◌}
use mathlib.Core.Path.{◌≡◌, refl, sym, ◌∙◌, subst, ap}
use mathlib.Core.List.{List, [], ◌∷◌, ◌++◌}
use mathlib.Core.Bool.{Bool, true, false, not, ◌&&◌}
use native.Mathlib.Omega.{arith}
use lib.Dec.{T, eqb, leb}
use lib.ListN.{length, get_or, drop}
use borrow.Author.Tests.{eq-eqb, le-leb, lt-leb, eqb-true, leb-true, not-true}
use Rattle.std.specs.Prelude.{if◌then◌else◌, Option, Some, None, ⊤}
use Rattle.std.specs.Borrow.{Bor}
use Rattle.std.specs.Option.{MatchOption, option_copied, option_eq, unwrap_or}
use Rattle.std.specs.List.{slice_get}
use Rattle.words.specs.Lists.{some}
use Rattle.words.proofs.Tests.{is_true, holds, said_no, said_yes}
use Rattle.layout.specs.Masks.{uncounted}
use Rattle.layout.specs.declared.Kind.{Kind}
use Rattle.layout.specs.MixedMasks.{kind_ok}
use Rattle.layout.specs.Layout.{one_layer, head_length}
use Rattle.layout.specs.Mixed.{kind_numbers, mixed_head_length}
use Rattle.reader.specs.declared.ReadRefusal.{ReadRefusal}
use Rattle.reader.specs.declared.ReadRefusal.TheVariants.{NoProfile, ShortHead, Mask, Layers, SectorCount, Uncounted, EndsEarly, LeftOver}
use Rattle.reader.specs.declared.ReadRefusal.TheVariants.{ManyReflectors, NoSuchPlace}
use Rattle.reader.specs.Said.{Nowhere, refusal_number, refusal_place}
use Rattle.reader.specs.Readings.{mask_in, info_in, layers_ok, sectors_ok, head_refusal}
use Rattle.reader.specs.Mixed.{mixed_info_in, mixed_head_refusal, head_refusal_for}
use Rattle.reader.specs.Places.{mask_for, info_for}

no_words : (ws : List ℕ) → length ws ≡ 0 → some ws ≡ false
no_words [] h = refl
no_words (w ∷ ws) h = absurd (omega arith)

some_words : (ws : List ℕ) → (length ws ≡ 0 → ⊥) → some ws ≡ true
some_words [] h = absurd (h refl)
some_words (w ∷ ws) h = refl

-- what `first` lends, against what is lent of a code
abbrev pub is_first : Option (Bor ℕ) → Bor ℕ → Bool
is_first r x = option_eq (λ (a b : Bor ℕ). eqb a.now b.now) r (Some x)

by_first : (ws : List ℕ) (r : Option (Bor ℕ)) (x : Bor ℕ) → option_copied r ≡ slice_get ws 0
    → is_first r x ≡ (some ws && eqb (get_or ws 0 0) x.now)
by_first [] None x e = refl
by_first [] (Some y) x e = absurd (subst (λ (o : Option ℕ). MatchOption o ⊥ (λ _. ⊤)) e tt)
by_first (w ∷ ws) None x e = absurd (subst (λ (o : Option ℕ). MatchOption o ⊤ (λ _. ⊥)) e tt)
by_first (w ∷ ws) (Some y) x e = ap (λ (o : Option ℕ). eqb (unwrap_or o 0) x.now) e

-- the number of the first test that fails, in the order of the rules
abbrev firsts : Bool → Bool → Bool → Bool → Bool → Bool → ℕ
firsts begun long mask layers sectors bare =
    if not begun then 12 else if not long then 13 else if not mask then 22 else if not layers then 23 else if not sectors then 24 else if bare then 14 else 0

-- the words begin with the code of the kind
abbrev pub begins_for : Kind → List ℕ → Bool
begins_for kind ws = some ws && eqb (get_or ws 0 0) (kind_numbers kind).code

-- the refusal by its six tests: all that is said of either kind comes from here
by_tests : (kind : Kind) (ws : List ℕ)
    → head_refusal_for kind ws
    ≡ firsts (begins_for kind ws) (leb (kind_numbers kind).first (length ws)) (kind_ok kind (mask_for kind ws)) (layers_ok (info_for kind ws))
    (sectors_ok (info_for kind ws)) (uncounted (mask_for kind ws))
unfolding head_refusal mixed_head_refusal
by_tests Kind.Plain ws = refl
by_tests Kind.Mixed ws = refl

module _ (kind : Kind) (ws : List ℕ) where
  abbrev enough_for : Bool
  enough_for = leb (kind_numbers kind).first (length ws)

  -- the ways out, in the order of the tests
  pub another : (r : Option (Bor ℕ)) (x : Bor ℕ) → option_copied r ≡ slice_get ws 0 → x.now ≡ (kind_numbers kind).code
      → {t : Bool} → t ≡ not (is_first r x) → t ≡ true → 12 ≡ head_refusal_for kind ws
  another r x e ec n h = sym (by_tests kind ws ∙ rw (← ec, said_no (by_first ws r x e) (sym n ∙ h)))

  pub begins : (r : Option (Bor ℕ)) (x : Bor ℕ) → option_copied r ≡ slice_get ws 0 → x.now ≡ (kind_numbers kind).code
      → {t : Bool} → t ≡ not (is_first r x) → t ≡ false → begins_for kind ws ≡ true
  begins r x e ec n h = rw (← ec) (said_yes (by_first ws r x e) (sym n ∙ h))

  module _ (begun : begins_for kind ws ≡ true) (head : ℕ) (eh : head ≡ (kind_numbers kind).first) where
    pub too_few : length ws < head → 13 ≡ head_refusal_for kind ws
    too_few h = sym (by_tests kind ws ∙ rw (begun, ← eh, lt-leb head (length ws) h))

    module _ (long : head ≤ length ws) (mask : ℕ) (em : mask ≡ mask_for kind ws) where
      enough : enough_for ≡ true
      enough = rw (← eh, le-leb head (length ws) long)

      pub bad_mask : kind_ok kind mask ≡ false → 22 ≡ head_refusal_for kind ws
      bad_mask h = sym (by_tests kind ws ∙ rw (begun, enough, ← em, h))

      module _ (good : kind_ok kind mask ≡ true) (info : ℕ) (ei : info ≡ info_for kind ws) where
        pub bad_layers : layers_ok info ≡ false → 23 ≡ head_refusal_for kind ws
        bad_layers h = sym (by_tests kind ws ∙ rw (begun, enough, ← em, good, ← ei, h))

        module _ (layers : layers_ok info ≡ true) where
          pub bad_sectors : sectors_ok info ≡ false → 24 ≡ head_refusal_for kind ws
          bad_sectors h = sym (by_tests kind ws ∙ rw (begun, enough, ← em, good, ← ei, layers, h))

          module _ (sectors : sectors_ok info ≡ true) where
            last_test : {t : Bool} → t ≡ uncounted mask → (if t then 14 else 0) ≡ head_refusal_for kind ws
            last_test {t} e = sym (by_tests kind ws ∙ rw (begun, enough, ← em, good, ← ei, layers, sectors, ← e))

            pub no_number : {t : Bool} → t ≡ uncounted mask → t ≡ true → 14 ≡ head_refusal_for kind ws
            no_number e h = last_test (sym h ∙ e)

            pub passed : {t : Bool} → t ≡ uncounted mask → t ≡ false → 0 ≡ head_refusal_for kind ws
            passed e h = last_test (sym h ∙ e)

-- `check_head`, whichever later test a way out comes from
pub ruleset ways = (begins, too_few, bad_mask, bad_layers, bad_sectors, no_number, passed, said_no, said_yes)

-- `mask_in` and `info_in`: what is so of the kind that the match finds
module _ (kind k : Kind) (ws : List ℕ) (e : kind ≡ k) where
  pub kind_has : (i : ℕ) → (kind_numbers kind).first ≤ length ws → i < (kind_numbers k).first → i < length ws
  kind_has i h l = let long = rw e at h in omega arith

  pub mask_there : (r : ℕ) → r ≡ mask_for k ws → r ≡ mask_for kind ws
  mask_there r h = rw e h

  pub info_there : (r : ℕ) → r ≡ info_for k ws → r ≡ info_for kind ws
  info_there r h = rw e h

-- what a head that passes has
pub record GoodHead (kind : Kind) (ws : List ℕ) : Type 0 where
  pub long : (kind_numbers kind).first ≤ length ws
  pub first : get_or ws 0 0 ≡ (kind_numbers kind).code
  pub mask : T (kind_ok kind (mask_for kind ws))
  pub third : info_for kind ws ≡ one_layer + info_for kind ws % 256
  pub some_sector : 1 ≤ info_for kind ws % 256
  pub few : info_for kind ws % 256 ≤ 8
  pub counted : T (not (uncounted (mask_for kind ws)))

through : (t : Bool) (n x : ℕ) → (if not t then suc n else x) ≡ 0 → (t ≡ true) × (x ≡ 0)
through true n x e = (refl, e)
through false n x e = absurd (omega arith)

left : (t : Bool) (n : ℕ) → (if t then suc n else 0) ≡ 0 → T (not t)
left true n e = absurd (omega arith)
left false n e = tt

parts : (a b : Bool) → a && b ≡ true → (a ≡ true) × (b ≡ true)
parts true b e = (refl, e)
parts false b e = absurd (holds {b = false} e)

pub good_head : (kind : Kind) (ws : List ℕ) → head_refusal_for kind ws ≡ 0 → GoodHead kind ws
good_head kind ws z =
    let e = sym (by_tests kind ws) ∙ z in
    let i = info_for kind ws in
    let first = through (begins_for kind ws) 11 _ e in
    let enough = through (leb (kind_numbers kind).first (length ws)) 12 _ first.1 in
    let mask = through (kind_ok kind (mask_for kind ws)) 21 _ enough.1 in
    let layers = through (layers_ok i) 22 _ mask.1 in
    let sectors = through (sectors_ok i) 23 _ layers.1 in
    let number = parts (leb 1 (i % 256)) (leb (i % 256) 8) sectors.0 in
    let high : i / 256 ≡ 1 = eqb-true (i / 256) 1 layers.0 in
    record {
      long = leb-true (kind_numbers kind).first (length ws) enough.0;
      first = eqb-true (get_or ws 0 0) (kind_numbers kind).code (parts (some ws) (eqb (get_or ws 0 0) (kind_numbers kind).code) first.0).1;
      mask = holds mask.0;
      third = omega arith;
      some_sector = leb-true 1 (i % 256) number.0;
      few = leb-true (i % 256) 8 number.1;
      counted = left (uncounted (mask_for kind ws)) 13 sectors.1;
    }

-- and what has it passes
pub good_passes : (kind : Kind) (ws : List ℕ) → GoodHead kind ws → head_refusal_for kind ws ≡ 0
good_passes kind ws g =
    let i = info_for kind ws in
    let there : length ws ≡ 0 → ⊥ = λ z. omega (arith, g.long, some_first kind) in
    let begun : begins_for kind ws ≡ true = rw (some_words ws there, eq-eqb (get_or ws 0 0) (kind_numbers kind).code g.first) in
    let layers : layers_ok i ≡ true = eq-eqb (i / 256) 1 (omega (arith, g.third, g.few)) in
    let sectors : sectors_ok i ≡ true = rw (le-leb 1 (i % 256) g.some_sector, le-leb (i % 256) 8 g.few) in
    sym
    (passed kind ws begun _ refl g.long _ refl (is_true g.mask) _ refl layers sectors refl
    (not-true (uncounted (mask_for kind ws)) (is_true g.counted)))
  where
    some_first : (k : Kind) → 1 ≤ (kind_numbers k).first
    some_first Kind.Plain = omega arith
    some_first Kind.Mixed = omega arith

module _ (kind : Kind) (ws : List ℕ) (e : head_refusal_for kind ws ≡ 0) where
  pub head_long : (kind_numbers kind).first ≤ length ws
  head_long = (good_head kind ws e).long

  pub head_few : info_for kind ws % 256 ≤ 8
  head_few = (good_head kind ws e).few

  pub head_has : (i : ℕ) → i < (kind_numbers kind).first → i < length ws
  head_has i h = omega (arith, head_long)

-- the head gives no number of the body's
abbrev pub not_body : ℕ → Bool
not_body n = not (eqb n 15) && not (eqb n 16) && not (eqb n 27)

pub head_other : (kind : Kind) (ws : List ℕ) {n : ℕ} → head_refusal_for kind ws ≡ n → T (not_body n)
head_other kind ws e =
    subst (λ (n : ℕ). T (not_body n)) (sym (by_tests kind ws) ∙ e)
    (other (begins_for kind ws) (leb (kind_numbers kind).first (length ws)) (kind_ok kind (mask_for kind ws)) (layers_ok (info_for kind ws))
    (sectors_ok (info_for kind ws)) (uncounted (mask_for kind ws)))
  where
    other : (a l m y s c : Bool) → T (not_body (firsts a l m y s c))
    other false l m y s c = tt
    other true false m y s c = tt
    other true true false y s c = tt
    other true true true false s c = tt
    other true true true true false c = tt
    other true true true true true true = tt
    other true true true true true false = tt

-- each refusal has a number, and those of a head have no place
pub some_number : {P : Type 0} (e : ReadRefusal P) → refusal_number e ≡ 0 → ⊥
some_number NoProfile h = omega (arith, h)
some_number ShortHead h = omega (arith, h)
some_number Uncounted h = omega (arith, h)
some_number (EndsEarly at part) h = omega (arith, h)
some_number LeftOver h = omega (arith, h)
some_number NoSuchPlace h = omega (arith, h)
some_number Mask h = omega (arith, h)
some_number Layers h = omega (arith, h)
some_number SectorCount h = omega (arith, h)
some_number ManyReflectors h = omega (arith, h)

pub head_placeless : {P : Type 0} (kind : Kind) (ws : List ℕ) (e : ReadRefusal P) → refusal_number e ≡ head_refusal_for kind ws
    → refusal_place e ≡ Nowhere
head_placeless kind ws e h = placeless e (head_other kind ws (sym h))
  where
    placeless : {P : Type 0} (e : ReadRefusal P) → T (not_body (refusal_number e)) → refusal_place e ≡ Nowhere
    placeless NoProfile t = refl
    placeless ShortHead t = refl
    placeless Uncounted t = refl
    placeless (EndsEarly at part) t = absurd t
    placeless LeftOver t = refl
    placeless NoSuchPlace t = refl
    placeless Mask t = refl
    placeless Layers t = refl
    placeless SectorCount t = refl
    placeless ManyReflectors t = refl

-- a head that does not pass has one of the refusals
pub head_named : {P : Type 0} (kind : Kind) (ws : List ℕ) → (head_refusal_for kind ws ≡ 0 → ⊥)
    → (e : ReadRefusal P) × (refusal_number e ≡ head_refusal_for kind ws)
head_named {P} kind ws z =
    let tests = by_tests kind ws in
    let n = named _ _ _ _ _ _ (λ (e : _ ≡ 0). z (tests ∙ e)) in
    (n.0, n.1 ∙ sym tests)
  where
    named : (a l m y s c : Bool) → (firsts a l m y s c ≡ 0 → ⊥) → (e : ReadRefusal P) × (refusal_number e ≡ firsts a l m y s c)
    named false l m y s c z = (NoProfile, refl)
    named true false m y s c z = (ShortHead, refl)
    named true true false y s c z = (Mask, refl)
    named true true true false s c z = (Layers, refl)
    named true true true true false c z = (SectorCount, refl)
    named true true true true true true z = (Uncounted, refl)
    named true true true true true false z = absurd (z refl)

-- the words of the head, and those behind them, which change nothing for the head
pub three : (ws : List ℕ) → head_length ≤ length ws → ws ≡ get_or ws 0 0 ∷ mask_in ws ∷ info_in ws ∷ drop head_length ws
three [] h = absurd (omega arith)
three (x ∷ []) h = absurd (omega arith)
three (x ∷ y ∷ []) h = absurd (omega arith)
three (x ∷ y ∷ z ∷ ws) h = refl

pub four : (ws : List ℕ) → mixed_head_length ≤ length ws
    → ws ≡ get_or ws 0 0 ∷ get_or ws 1 0 ∷ get_or ws 2 0 ∷ mixed_info_in ws ∷ drop mixed_head_length ws
four [] h = absurd (omega arith)
four (x ∷ []) h = absurd (omega arith)
four (x ∷ y ∷ []) h = absurd (omega arith)
four (x ∷ y ∷ z ∷ []) h = absurd (omega arith)
four (x ∷ y ∷ z ∷ v ∷ ws) h = refl

pub head_front : (kind : Kind) (ws more : List ℕ) → (kind_numbers kind).first ≤ length ws
    → head_refusal_for kind (ws ++ more) ≡ head_refusal_for kind ws
unfolding head_refusal mixed_head_refusal
head_front Kind.Plain ws more h = rw (three ws h) (simp three_long)
  where
    three_long : (n : ℕ) → leb head_length (suc (suc (suc n))) ≡ true
    three_long n = le-leb head_length (suc (suc (suc n))) (omega arith)
head_front Kind.Mixed ws more h = rw (four ws h) (simp four_long)
  where
    four_long : (n : ℕ) → leb mixed_head_length (suc (suc (suc (suc n)))) ≡ true
    four_long n = le-leb mixed_head_length (suc (suc (suc (suc n)))) (omega arith)
