-- A number in its unit.
use Rattle.std.specs.Prelude.{ℕ}
use Rattle.units.specs.declared.Angle.{Angle}
use Rattle.units.specs.declared.Percent.{Percent}
use Rattle.units.specs.declared.Millimetres.{Millimetres}

-- so many sixteenths of a degree (rule 1.3)
abbrev pub angle : ℕ → Angle
angle n = record { 0 = n }

-- so many percent (rule 1.3)
abbrev pub percent : ℕ → Percent
percent n = record { 0 = n }

-- so many millimetres (rule 1.3)
abbrev pub millimetres : ℕ → Millimetres
millimetres n = record { 0 = n }
