-- Technical: no rule stands here. What is asked of a contour by a place.
use Rattle.std.specs.Prelude.{ℕ, List, [], ◌+◌, ◌≤◌, ◌<◌, ltb, length, get_or, if◌then◌else◌, Result, Ok, Err}
use Rattle.std.specs.Borrow.{Bor}
use Rattle.reader.specs.declared.ContourReading.{ContourReading}
use Rattle.reader.specs.declared.ReadRefusal.{ReadRefusal}
use Rattle.reader.specs.declared.ReadRefusal.TheVariants.{NoSuchPlace}
use Rattle.reader.specs.Sectors.{blank_sector}
use Rattle.reader.specs.Stretches.{stretch_in}
use Rattle.reader.specs.MixedStretches.{Lends}

-- refused where the place is not below the number
abbrev pub found_below : {P : Type 0} → ℕ → ℕ → Result (Unit {0}) (ReadRefusal P)
found_below place many = if ltb place many then Ok tt else Err NoSuchPlace

-- the points of each sector stand in the words
abbrev pub StretchesWithin : List ℕ → ContourReading → Type 0
StretchesWithin ws c =
    (c.count ≤ 8) × ((place : ℕ) → place < c.count → (let s = get_or c.sectors place blank_sector in s.start + s.len ≤ length ws))

-- the points of the sector at a place, and where they begin; none, and 0, where there is no such sector
abbrev pub PointsSay : Bor (List ℕ) → ContourReading → ℕ → Bor (List ℕ) → Type 0
PointsSay words c place r =
    let s = get_or c.sectors place blank_sector in
    Lends words (if ltb place c.count then stretch_in words.now s else []) (if ltb place c.count then s.start else 0) r
