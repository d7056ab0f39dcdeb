-- Rules, section 3: directions and steps, in sixteenths of a degree.
-- A quotient by a step of 0 is 0 and a remainder by it the number itself, as everywhere in the library.
use Rattle.std.specs.Prelude.{Bool, ℕ, suc, ◌+◌, ◌-◌, ◌*◌, ◌/◌, ◌%◌, eqb, ltb}

-- the directions of a revolution; `CIRCLE` in the code (rule 1.3)
abbrev pub circle : ℕ
circle = 5760

-- a direction is one of the circle's (rule 2.2)
abbrev pub on_circle : ℕ → Bool
on_circle direction = ltb direction circle

-- one step after a direction (rule 3.5)
abbrev pub step_after : ℕ → ℕ → ℕ
step_after step direction = (direction + step) % circle

-- so many steps past a direction (rule 3.5)
abbrev pub steps_past : ℕ → ℕ → ℕ → ℕ
steps_past step steps direction = (direction + steps * step) % circle

-- the shots from a first direction on, a step apart, to a stop, included (rules 1.4 and 3.5)
abbrev pub shots_to : ℕ → ℕ → ℕ → ℕ
shots_to step first stop = suc ((stop + circle - first) % circle / step)

-- N, the shots of one revolution (rule 3.4)
abbrev pub revolution_shots : ℕ → ℕ
revolution_shots step = circle / step

-- a direction is a multiple of the step (rule 3.3)
abbrev pub is_multiple : ℕ → ℕ → Bool
is_multiple step direction = eqb (direction % step) 0

-- the one step divides the circle (rule 2.1)
abbrev pub divides_circle : ℕ → Bool
divides_circle step = eqb (circle % step) 0
