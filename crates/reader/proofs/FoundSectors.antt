-- The sectors of a body that is read from some place on: as many as asked, and each as the mask has it.
use Prim.Native.Nat.{ℕ, zero, suc, ◌+◌, ◌-◌, ◌<◌}
use mathlib.Core.Path.{◌≡◌, subst}
use mathlib.Core.List.{List, [], ◌∷◌, map}
use native.Mathlib.Omega.{arith}
use lib.ListN.{length, get_or, take, drop, replicate, get_or-append}
use Rattle.words.specs.Lists.{Each, none, this}
use Rattle.words.specs.Parse.{got}
use Rattle.words.specs.Format.{AllOk}
use Rattle.words.proofs.Each.{each_at}
use Rattle.words.proofs.Lawful.{Sound, KeptOf}
use Rattle.reader.specs.declared.SectorReading.{SectorReading}
use Rattle.reader.specs.Sectors.{sector, blank_sector}
use Rattle.reader.specs.Readings.{Body, sectors_in, body, padded}
use Rattle.reader.proofs.Bodies.{body_lawful, sectors_ok_lem}
use Rattle.reader.proofs.Accepted.{sound_of, many_read}
use Rattle.reader.proofs.Laid.{entries_read}

all_mapped : {A F : Type 0} (ok : F → Type 0) (f : A → F) (n : ℕ) (xs : List A) → AllOk ok n (map f xs) → Each (λ x. ok (f x)) xs
all_mapped ok f n [] o = none
all_mapped ok f zero (x ∷ xs) o = absurd o
all_mapped ok f (suc n) (x ∷ xs) o = this o.0 (all_mapped ok f n xs o.1)

module _ (ws : List ℕ) (mask count first : ℕ) {value : Body SectorReading} {end : ℕ} {rest : List ℕ}
    (parsed : (body mask count).parse first (drop first ws) ≡ got value end rest) where
  pub found_sound : Sound (body mask count) ws first value end rest
  found_sound = sound_of (body mask count) (body_lawful mask count) ws first parsed

  pub found_kept : end + length rest ≡ first + length (drop first ws)
  found_kept = subst (KeptOf first (drop first ws)) parsed ((body_lawful mask count).kept first (drop first ws))

  pub found_many : length (sectors_in value) ≡ count
  found_many = many_read mask count ws value found_sound.fits

  -- the entries of a reading are the sectors found
  pub found_all : take count (padded (sectors_in value)) ≡ sectors_in value
  found_all = entries_read (sectors_in value) count found_many

  pub found_at : (place : ℕ) → place < count → get_or (padded (sectors_in value)) place blank_sector ≡ get_or (sectors_in value) place blank_sector
  found_at place here =
      get_or-append (sectors_in value) (replicate (8 - length (sectors_in value)) blank_sector) blank_sector place (omega (arith, found_many))

  pub found_ok : (place : ℕ) → place < count → (sector mask).ok ((sector mask).strip ws (get_or (padded (sectors_in value)) place blank_sector))
  found_ok place here =
      rw (found_at place here)
      (each_at blank_sector place (all_mapped (sector mask).ok ((sector mask).strip ws) count (sectors_in value) (sectors_ok_lem mask count _ found_sound.fits))
      (omega (arith, found_many)))
