-- Where the points of a sector stand: behind the words of all that is laid out in front of them.
use Prim.Native.Nat.{ℕ, zero, suc, ◌+◌, ◌<◌}
use mathlib.Core.Path.{◌≡◌, refl, ap, subst}
use mathlib.Core.List.{List, [], ◌∷◌, ◌++◌, map}
use native.Mathlib.Omega.{arith}
use native.Mathlib.Nat.{add-zero, add_assoc}
use lib.ListN.{length, get_or, take, drop, length-append}
use borrow.Author.Tests.{lt-ltb}
use Rattle.std.specs.Prelude.{Option, option_to_list}
use Rattle.words.specs.Words.{laid_all}
use Rattle.words.specs.Parse.{got}
use Rattle.words.specs.Format.{Format, AllStand}
use Rattle.words.proofs.Lawful.{StandsOf}
use Rattle.layout.specs.Fields.{SectorFields}
use Rattle.layout.specs.Layout.{head_length, opening, layout_sector}
use Rattle.reader.specs.declared.SectorReading.{SectorReading}
use Rattle.reader.specs.Sectors.{sector, blank_sector}
use Rattle.reader.specs.Readings.{mask_in, count_in, Body, sectors_in, body, padded, read_of}
use Rattle.reader.specs.Stretches.{sector_in, stretch_start}
use Rattle.reader.specs.Demands.{StandsAtPlace}
use Rattle.reader.proofs.Bodies.{body_lawful}
use Rattle.reader.proofs.FoundSectors.{found_many, found_all, found_at}
use Rattle.reader.proofs.PointPlaces.{whole}
use Rattle.reader.proofs.Laid.{sectors_laid}

-- of several that stand one after another, each stands behind those before it
stand_at : {A F : Type 0} (k : Format A F) (W : List ℕ) (b : ℕ) (xs : List A) (d : A) (i : ℕ) → AllStand k W b xs → i < length xs
    → k.stands W (b + length (laid_all k.put (map (k.strip W) (take i xs)))) (get_or xs i d)
stand_at k W b [] d i s h = absurd (omega arith)
stand_at k W b (x ∷ xs) d zero s h = rw (add-zero b) s.0
stand_at k W b (x ∷ xs) d (suc i) s h =
    let n = length (k.put (k.strip W x)) in
    let rest = length (laid_all k.put (map (k.strip W) (take i xs))) in
    let there = stand_at k W (b + n) xs d i s.1 (omega arith) in
    rw (length-append (k.put (k.strip W x)) (laid_all k.put (map (k.strip W) (take i xs))), ← add_assoc b n rest) there

take_map : {A B : Type 0} (f : A → B) (n : ℕ) (xs : List A) → take n (map f xs) ≡ map f (take n xs)
take_map f zero xs = refl
take_map f (suc n) [] = refl
take_map f (suc n) (x ∷ xs) = ap (λ ys. f x ∷ ys) (take_map f n xs)

-- the words in front, counted
long : (a b c : Option ℕ) (behind : List ℕ) (s : SectorFields)
    → length ((option_to_list a ++ option_to_list b ++ option_to_list c) ++ behind ++ opening s)
    ≡ length (option_to_list a)
    + length (option_to_list b)
    + length (option_to_list c)
    + length behind
    + length (option_to_list s.number)
    + length (option_to_list s.step)
    + length (option_to_list s.points)
    + length (option_to_list s.tstart)
    + length (option_to_list s.startdir)
long a b c behind s = simp length-append (omega arith)

-- of a body that is read from some place on: behind the words up to there, and those of the body
module _ (ws : List ℕ) (mask count first : ℕ) {value : Body SectorReading} {end : ℕ} {rest : List ℕ}
    (parsed : (body mask count).parse first (drop first ws) ≡ got value end rest) (place : ℕ) (here : place < count) where
  abbrev sectors : List SectorReading
  sectors = sectors_in value

  pub stands_behind : (get_or (padded sectors) place blank_sector).start
      ≡ first + length (
      (option_to_list value.0 ++ option_to_list value.1.0 ++ option_to_list value.1.1.0)
      ++ laid_all layout_sector (take place (map (sector_in ws) (take count (padded sectors))))
      ++ opening (sector_in ws (get_or (padded sectors) place blank_sector)))
  stands_behind =
      let all = subst (StandsOf (body mask count) ws first) parsed ((body_lawful mask count).located ws first) in
      let there : place < length sectors = omega (arith, found_many ws mask count first parsed) in
      let this = (stand_at (sector mask) ws _ sectors blank_sector place all.1.1.1.0 there).1.1.1.1.1.0 in
      let behind = laid_all (sector mask).put (map (sector_in ws) (take place sectors)) in
      rw (
        found_at ws mask count first parsed place here,
        found_all ws mask count first parsed,
        take_map (sector_in ws) place sectors,
        ← sectors_laid mask (map (sector_in ws) (take place sectors)),
      )
      (omega (arith, this, long value.0 value.1.0 value.1.1.0 behind (sector_in ws (get_or sectors place blank_sector))))

pub stands_at_place : StandsAtPlace
unfolding stretch_start
stands_at_place ws place here =
    let s = whole ws place here in
    rw (lt-ltb place (read_of ws).count here, s.reading)
    (omega (arith, stands_behind ws (mask_in ws) (count_in ws) head_length s.parsed place (rw s.reading at here)))
