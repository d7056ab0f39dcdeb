-- The ways a reading goes, and what a list of words has whose body is read: a head that passes, and the words that are left.
use Prim.Native.Nat.{ℕ, zero, suc, ◌<◌}
use mathlib.Core.Path.{◌≡◌, refl, sym, ◌∙◌, ap, subst}
use mathlib.Core.List.{List, [], ◌∷◌}
use mathlib.Core.Bool.{Bool, true, false}
use native.Mathlib.Omega.{arith}
use lib.Dec.{eqb}
use lib.ListN.{length, drop, length-map}
use borrow.Author.Tests.{eq-eqb, ne_eqb, eqb-true, eqb-false}
use Rattle.words.specs.Parse.{Got, short, got}
use Rattle.words.specs.Format.{Format, AllOk}
use Rattle.words.proofs.Lawful.{Lawful, Sound, SoundOf}
use Rattle.layout.specs.declared.Kind.{Kind}
use Rattle.layout.specs.Layout.{head_length}
use Rattle.reader.specs.declared.SectorReading.{SectorReading}
use Rattle.reader.specs.Said.{Nowhere, Said}
use Rattle.reader.specs.Sectors.{sector}
use Rattle.reader.specs.Readings.{mask_in, count_in, head_refusal, Body, sectors_in, body}
use Rattle.reader.specs.Readings.{refused_reading, accepted_reading, with_left, end_of, ended, body_of, read_of}
use Rattle.reader.proofs.Heads.{GoodHead, good_head}
use Rattle.reader.proofs.Bodies.{body_lawful, sectors_ok_lem}

-- what the body's format finds behind the first three words
abbrev pub found_in : List ℕ → Got (Body SectorReading)
found_in ws = (body (mask_in ws) (count_in ws)).parse head_length (drop head_length ws)

-- a body that is read, with some words left, and what the reader gives then
pub record Parsed (ws rest : List ℕ) : Type 0 where
  pub head : GoodHead Kind.Plain ws
  pub value : Body SectorReading
  pub place : ℕ
  pub parsed : found_in ws ≡ got value place rest
  pub reading : read_of ws ≡ with_left (mask_in ws) (count_in ws) value rest

-- none is left
abbrev pub Accepted : List ℕ → Type 0
Accepted ws = Parsed ws []

-- the ways a reading goes: its head is refused, its words end early, some are left over, or it is accepted
pub data Outcome (ws : List ℕ) : Said → Type 0 where
  refused : (head_refusal ws ≡ 0 → ⊥) → Outcome ws (refused_reading (head_refusal ws) Nowhere)
  cut : GoodHead Kind.Plain ws → found_in ws ≡ short → Outcome ws (refused_reading 15 (end_of ws))
  over : {w : ℕ} {rest : List ℕ} → Parsed ws (w ∷ rest) → Outcome ws (refused_reading 16 Nowhere)
  whole : (s : Accepted ws) → Outcome ws (accepted_reading (mask_in ws) (count_in ws) s.value)

module _ (ws : List ℕ) where
  -- the reader refuses by the head, or gives what the body's format finds
  pub by_head : (head_refusal ws ≡ 0 → ⊥) → read_of ws ≡ refused_reading (head_refusal ws) Nowhere
  unfolding read_of
  by_head h = rw (ne_eqb (head_refusal ws) 0 h)

  pub by_body : head_refusal ws ≡ 0 → {g : Got (Body SectorReading)} → found_in ws ≡ g → read_of ws ≡ ended (mask_in ws) (count_in ws) (end_of ws) g
  unfolding read_of body_of
  by_body h e = rw (eq-eqb (head_refusal ws) 0 h) (ap (ended (mask_in ws) (count_in ws) (end_of ws)) e)

  abbrev with_left_lem : head_refusal ws ≡ 0 → {a : Body SectorReading} {b : ℕ} {rest : List ℕ} → found_in ws ≡ got a b rest → Parsed ws rest
  with_left_lem h {a} {b} e = record { head = good_head Kind.Plain ws h; value = a; place = b; parsed = e; reading = by_body h e }

  pub outcome : Outcome ws (read_of ws)
  outcome = go (eqb (head_refusal ws) 0) refl
    where
      found : head_refusal ws ≡ 0 → (g : Got (Body SectorReading)) → found_in ws ≡ g → Outcome ws (ended (mask_in ws) (count_in ws) (end_of ws) g)
      found h short e = cut (good_head Kind.Plain ws h) e
      found h (got a b []) e = whole (with_left_lem h e)
      found h (got a b (w ∷ rest)) e = over (with_left_lem h e)

      go : (t : Bool) → eqb (head_refusal ws) 0 ≡ t → Outcome ws (read_of ws)
      go false p = let h = eqb-false (head_refusal ws) 0 p in rw (by_head h) (refused h)
      go true p = let h = eqb-true (head_refusal ws) 0 p in rw (by_body h refl) (found h (found_in ws) refl)

  pub accepted : (read_of ws).refusal ≡ 0 → Accepted ws
  accepted = go outcome
    where
      go : {r : Said} → Outcome ws r → r.refusal ≡ 0 → Accepted ws
      go (refused h) e = absurd (h e)
      go (cut h p) e = absurd (omega arith)
      go (over s) e = absurd (omega arith)
      go (whole s) e = s

  -- a reading that has a sector is not refused
  pub has_sector : 0 < (read_of ws).count → (read_of ws).refusal ≡ 0
  has_sector = go outcome
    where
      go : {r : Said} → Outcome ws r → 0 < r.count → r.refusal ≡ 0
      go (refused h) e = absurd (omega arith)
      go (cut h p) e = absurd (omega arith)
      go (over s) e = absurd (omega arith)
      go (whole s) e = refl

pub all_length : {F : Type 0} (ok : F → Type 0) (n : ℕ) (fs : List F) → AllOk ok n fs → length fs ≡ n
all_length ok zero [] o = refl
all_length ok zero (f ∷ fs) o = absurd o
all_length ok (suc n) [] o = absurd o
all_length ok (suc n) (f ∷ fs) o = ap suc (all_length ok n fs o.1)

-- what a lawful format reads is sound
pub sound_of : {A F : Type 0} (c : Format A F) → Lawful c → (W : List ℕ) (b : ℕ) {a : A} {b' : ℕ} {rest : List ℕ}
    → c.parse b (drop b W) ≡ got a b' rest → Sound c W b a b' rest
sound_of c lawful W b e = subst (SoundOf c W b) e (lawful.sound W b)

-- a contour that is read has as many sectors as were asked
pub many_read : (mask count : ℕ) (W : List ℕ) (a : Body SectorReading) → (body mask count).ok ((body mask count).strip W a)
    → length (sectors_in a) ≡ count
many_read mask count W a o =
    sym (length-map (sectors_in a) ((sector mask).strip W)) ∙ all_length (sector mask).ok count _ (sectors_ok_lem mask count _ o)

module _ {ws rest : List ℕ} (s : Parsed ws rest) where
  pub body_sound : Sound (body (mask_in ws) (count_in ws)) ws head_length s.value s.place rest
  body_sound = sound_of (body (mask_in ws) (count_in ws)) (body_lawful (mask_in ws) (count_in ws)) ws head_length s.parsed

  -- as many sectors as the third word says
  pub many_sectors : length (sectors_in s.value) ≡ count_in ws
  many_sectors = many_read (mask_in ws) (count_in ws) ws s.value body_sound.fits
