-- The parts of a profile: each word belongs to one of them.
use Prim.Native.Nat.{ℕ, zero, suc, ◌+◌, ◌-◌, ◌≤◌, ◌<◌}
use mathlib.Core.Path.{◌≡◌, refl, ap}
use mathlib.Core.List.{List, [], ◌∷◌, append-nil}
use mathlib.Core.Bool.{Bool, true, false}
use native.Mathlib.Omega.{arith}
use lib.Dec.{ltb}
use lib.ListN.{length, take, drop, length-append}
use borrow.Author.Tests.{ltb-true, ltb-false}
use Rattle.words.specs.Words.{laid_all}
use Rattle.layout.specs.Fields.{Fields}
use Rattle.layout.specs.Layout.{layout_sector, status, layout}
use Rattle.reader.specs.declared.Part.{Part}
use Rattle.reader.specs.declared.Part.TheVariants.{Head, Sector, Senstat}
use Rattle.reader.specs.Parts.{in_front, words_of_part, Belongs}
use Rattle.reader.specs.Demands.{PartsTile}

-- of several laid out one after another, how many words the first k have, and the one behind them
module _ {F : Type 0} (put : F → List ℕ) where
  abbrev pub long : List F → ℕ → ℕ
  long fs k = length (laid_all put (take k fs))

  abbrev pub next : List F → ℕ → ℕ
  next fs k = length (laid_all put (take 1 (drop k fs)))

  behind_first : (f : F) (fs : List F) (k : ℕ) → long (f ∷ fs) (suc k) ≡ length (put f) + long fs k
  behind_first f fs k = length-append (put f) (laid_all put (take k fs))

  -- one more
  one_longer : (fs : List F) (k : ℕ) → long fs (suc k) ≡ long fs k + next fs k
  one_longer [] zero = refl
  one_longer [] (suc k) = refl
  one_longer (f ∷ fs) zero = omega arith
  one_longer (f ∷ fs) (suc k) = rw (behind_first f fs (suc k), behind_first f fs k) (omega (arith, one_longer fs k))

  -- and more of them
  longer : (fs : List F) (k d : ℕ) → long fs k ≤ long fs (k + d)
  longer fs k zero = let same : k + 0 ≡ k = omega arith in rw same (omega arith)
  longer fs k (suc d) =
      let same : k + suc d ≡ suc (k + d) = omega arith in
      rw same (omega (arith, longer fs k d, one_longer fs (k + d)))

  at_most_all : (fs : List F) (k : ℕ) → long fs k ≤ length (laid_all put fs)
  at_most_all [] zero = omega arith
  at_most_all [] (suc k) = omega arith
  at_most_all (f ∷ fs) zero = omega arith
  at_most_all (f ∷ fs) (suc k) =
      let all : length (laid_all put (f ∷ fs)) ≡ length (put f) + length (laid_all put fs) = length-append (put f) (laid_all put fs) in
      omega (arith, at_most_all fs k, behind_first f fs k)

  -- a word behind k of them, and not behind one more, is behind no other number of them
  one_place : (fs : List F) (i k l : ℕ) → long fs k ≤ i → i < long fs l + next fs l → k ≤ l
  one_place fs i k l from below = go (ltb l k) refl
    where
      go : (t : Bool) → ltb l k ≡ t → k ≤ l
      go true e =
          let less = ltb-true l k e in
          let same : suc l + (k - suc l) ≡ k = omega arith in
          absurd (omega (arith, one_longer fs l, rw same at (longer fs (suc l) (k - suc l))))
      go false e = ltb-false l k e

  pub record Found (fs : List F) (i : ℕ) : Type 0 where
    pub place : ℕ
    pub from : long fs place ≤ i
    pub below : i < long fs place + next fs place

  first_or : (f : F) (fs : List F) (i : ℕ) → (length (put f) ≤ i → Found fs (i - length (put f))) → (t : Bool) → ltb i (length (put f)) ≡ t
      → Found (f ∷ fs) i
  first_or f fs i others true e =
      let less = ltb-true i (length (put f)) e in
      let own : next (f ∷ fs) 0 ≡ length (put f) = ap length (append-nil (put f)) in
      record { place = 0; from = omega arith; below = omega arith }
  first_or f fs i others false e =
      let past = ltb-false i (length (put f)) e in
      let there = others past in
      let from = there.from in
      let below = there.below in
      let front = behind_first f fs there.place in
      record { place = suc there.place; from = omega arith; below = omega arith }

  found : (fs : List F) (i : ℕ) → i < length (laid_all put fs) → Found fs i
  found [] i h = absurd (omega arith)
  found (f ∷ fs) i h =
      let all : length (laid_all put (f ∷ fs)) ≡ length (put f) + length (laid_all put fs) = length-append (put f) (laid_all put fs) in
      first_or f fs i (λ past. found fs (i - length (put f)) (omega arith)) (ltb i (length (put f))) refl

module _ (f : Fields) where
  -- the words of the head; of all sectors
  abbrev heads : ℕ
  heads = length (words_of_part f Head)

  abbrev all : ℕ
  all = length (laid_all layout_sector f.sectors)

  pub before_sector : (k : ℕ) → length (in_front f (Sector k)) ≡ heads + long layout_sector f.sectors k
  before_sector k = length-append (words_of_part f Head) (laid_all layout_sector (take k f.sectors))

  pub before_senstat : length (in_front f Senstat) ≡ heads + all
  before_senstat = length-append (words_of_part f Head) (laid_all layout_sector f.sectors)

  pub whole_length : length (layout f) ≡ heads + all + length (status f)
  whole_length = simp length-append (omega arith)

  -- a word of a sector, and one of SENSTAT, by these numbers
  module _ (i : ℕ) where
    in_sector : (k : ℕ) → Belongs f i (Sector k)
        → (heads + long layout_sector f.sectors k ≤ i)
        × (i < heads + long layout_sector f.sectors k + next layout_sector f.sectors k)
    in_sector k b = (rw (before_sector k) at b.from, rw (before_sector k) at b.below)

    pub sector_has : (k : ℕ) → heads + long layout_sector f.sectors k ≤ i
        → i < heads + long layout_sector f.sectors k + next layout_sector f.sectors k
        → Belongs f i (Sector k)
    sector_has k from below = record { from = rw (before_sector k) from; below = rw (before_sector k) below }

    in_senstat : Belongs f i Senstat → heads + all ≤ i
    in_senstat b = rw before_senstat at b.from

    pub senstat_has : heads + all ≤ i → i < length (layout f) → Belongs f i Senstat
    senstat_has from below = record { from = rw before_senstat from; below = rw before_senstat (rw whole_length at below) }

    pub head_has : i < heads → Belongs f i Head
    head_has h = record { from = omega arith; below = omega arith }

    -- no word belongs to two parts
    no_later : (k l : ℕ) → Belongs f i (Sector k) → Belongs f i (Sector l) → k ≤ l
    no_later k l s t =
        let a = in_sector k s in
        let b = in_sector l t in
        one_place layout_sector f.sectors (i - heads) k l (omega (arith, a.0)) (omega (arith, a.0, b.1))

    before_end : (k : ℕ) → Belongs f i (Sector k) → i < heads + all
    before_end k s =
        omega (arith, (in_sector k s).1, one_longer layout_sector f.sectors k, at_most_all layout_sector f.sectors (suc k))

    pub one_part : (p q : Part) → Belongs f i p → Belongs f i q → p ≡ q
    one_part Head Head s t = refl
    one_part Head (Sector l) s t = absurd (omega (arith, s.below, (in_sector l t).0))
    one_part Head Senstat s t = absurd (omega (arith, s.below, in_senstat t))
    one_part (Sector k) Head s t = absurd (omega (arith, t.below, (in_sector k s).0))
    one_part (Sector k) (Sector l) s t = ap Sector (omega (arith, no_later k l s t, no_later l k t s))
    one_part (Sector k) Senstat s t = absurd (omega (arith, before_end k s, in_senstat t))
    one_part Senstat Head s t = absurd (omega (arith, t.below, in_senstat s))
    one_part Senstat (Sector l) s t = absurd (omega (arith, before_end l t, in_senstat s))
    one_part Senstat Senstat s t = refl

    -- and none is past the end
    pub no_further : (p : Part) → Belongs f i p → i < length (layout f)
    no_further Head s = omega (arith, s.below, whole_length)
    no_further (Sector k) s = omega (arith, before_end k s, whole_length)
    no_further Senstat s = rw whole_length (rw before_senstat at s.below)

    -- and each belongs to one
    some_part : i < length (layout f) → (p : Part) × Belongs f i p
    some_part h = go (ltb i heads) refl (ltb i (heads + all)) refl
      where
        go : (t : Bool) → ltb i heads ≡ t → (u : Bool) → ltb i (heads + all) ≡ u → (p : Part) × Belongs f i p
        go true d u e = (Head, head_has (ltb-true i heads d))
        go false d true e =
            let past = ltb-false i heads d in
            let there = found layout_sector f.sectors (i - heads) (omega (arith, ltb-true i (heads + all) e)) in
            (Sector there.place, sector_has there.place (omega (arith, there.from)) (omega (arith, there.below)))
        go false d false e = (Senstat, senstat_has (ltb-false i (heads + all) e) h)

pub parts_tile : PartsTile
parts_tile f i h =
    let p = some_part f i h in
    record { part = p.0; belongs = p.1; only = λ q b. one_part f i q p.0 b p.1 }
