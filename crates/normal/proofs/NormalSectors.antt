-- The normal form of active sectors, by itself: normalising again changes nothing, and it is valid where they are.
use mathlib.Core.Path.{◌≡◌, refl, sym, ap, ◌∙◌}
use mathlib.Core.List.{List, [], ◌∷◌}
use Prim.Native.Nat.{ℕ, suc, ◌%◌, ◌≤◌}
use native.Mathlib.Nat.{mod-eq-zero_of_dvd}
use native.Mathlib.Omega.{arith}
use lib.Dec.{T, le→leb}
use lib.ListN.{length}
use Rattle.words.specs.Lists.{some, every}
use borrow.Author.Tests.{lt-ltb}
use Rattle.units.specs.Directions.{circle}
use Rattle.words.proofs.Tests.{and_both, holds, eq_holds}
use Rattle.plan.specs.declared.Sector.{Sector}
use Rattle.plan.specs.Sectors.{stop_of}
use Rattle.plan.specs.Validity.{sector_ok, increases_from, increases, multiples, Valid}
use Rattle.plan.specs.Shots.{last_stop}
use Rattle.normal.specs.NormalForm.{joined, normal}
use Rattle.plan.proofs.FineSectors.{Fine, done, more, fine_of}
use Rattle.normal.proofs.Joins.{Join, before, onto, join_view, absorb}

normal_joined : (s : Sector) {ss r : List Sector} → Join s ss r → normal r ≡ joined s (normal ss)
normal_joined s before = refl
normal_joined s (onto {t = t} {ts = ts} q) = sym (absorb s t (normal ts) q)

-- normalising again changes nothing
pub normal_normal : (ss : List Sector) → normal (normal ss) ≡ normal ss
normal_normal [] = refl
normal_normal (s ∷ ss) = normal_joined s (join_view s (normal ss)) ∙ ap (joined s) (normal_normal ss)

joined_length : {s : Sector} {ss r : List Sector} → Join s ss r → length r ≤ suc (length ss)
joined_length before = omega arith
joined_length (onto q) = omega arith

pub normal_length : (ss : List Sector) → length (normal ss) ≤ length ss
normal_length [] = omega arith
normal_length (s ∷ ss) = omega (arith, joined_length (join_view s (normal ss)), normal_length ss)

last_joined : (d : ℕ) {s : Sector} {ss r : List Sector} → Join s ss r → last_stop d r ≡ last_stop (stop_of s) ss
last_joined d before = refl
last_joined d (onto q) = refl

pub last_normal : (d : ℕ) (ss : List Sector) → last_stop d (normal ss) ≡ last_stop d ss
last_normal d [] = refl
last_normal d (s ∷ ss) = last_joined d (join_view s (normal ss)) ∙ last_normal (stop_of s) ss

module _ (step : ℕ) where
  fine_increases : {b : ℕ} {ss : List Sector} → Fine step (suc b) ss → T (increases_from b ss)
  fine_increases done = tt
  fine_increases {b} (more {s = s} f a g r) = search (and_both, le→leb (suc b) (stop_of s) a, fine_increases r)

  pub fine_valid : {low : ℕ} {ss : List Sector} → Fine step low ss → T (some ss) → Valid step ss
  fine_valid {ss = ss} h t = record { at_least_one = t; in_range = ranges h; increasing = rising h; whole_steps = wholes h }
    where
      ranges : {low : ℕ} {ss : List Sector} → Fine step low ss → T (every sector_ok ss)
      ranges done = tt
      ranges (more {s = s} f a g r) = search (and_both, holds (lt-ltb (stop_of s) circle g.below), ranges r)

      rising : {low : ℕ} {ss : List Sector} → Fine step low ss → T (increases ss)
      rising done = tt
      rising (more f a g r) = fine_increases r

      wholes : {low : ℕ} {ss : List Sector} → Fine step low ss → T (multiples step ss)
      wholes done = tt
      wholes (more {s = s} f a g r) = search (and_both, eq_holds (stop_of s % step) 0 (mod-eq-zero_of_dvd step g.whole), wholes r)

  lower : {low low' : ℕ} {ss : List Sector} → low' ≤ low → Fine step low ss → Fine step low' ss
  lower l done = done
  lower {low'} l (more {s = s} f a g r) = more {low = low'} {s = s} f (omega arith) g r

  joined_fine : {low : ℕ} {s : Sector} {ss r : List Sector} → Join s ss r → Fine step low (s ∷ ss) → Fine step low r
  joined_fine before h = h
  joined_fine (onto q) (more {low = low} {s = s} f a g r) = lower {low = suc (stop_of s)} (omega arith) r

  pub normal_fine : {low : ℕ} {ss : List Sector} → Fine step low ss → Fine step low (normal ss)
  normal_fine done = done
  normal_fine (more {s = s} {ss = ss} f a g r) = joined_fine (join_view s (normal ss)) (more f a g (normal_fine r))

  some_joined : {s : Sector} {ss r : List Sector} → Join s ss r → T (some r)
  some_joined before = tt
  some_joined (onto q) = tt

  some_normal : (ss : List Sector) → T (some ss) → T (some (normal ss))
  some_normal [] h = h
  some_normal (s ∷ ss) h = some_joined (join_view s (normal ss))

  pub normal_valid : (ss : List Sector) → Valid step ss → Valid step (normal ss)
  normal_valid ss v = fine_valid (normal_fine (fine_of step v)) (some_normal ss v.at_least_one)
