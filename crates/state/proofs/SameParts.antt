-- A state differs from itself in none of its parts.
use mathlib.Core.Path.{◌≡◌, refl}
use mathlib.Core.Bool.{Bool, true, false}
use mathlib.Core.List.{List}
use Rattle.std.specs.Prelude.{if◌then◌else◌}
use Rattle.state.specs.declared.State.{State}
use Rattle.state.specs.Changes.{Part, only_in}

either_way : {A : Type 0} (b : Bool) (x : A) → (if b then x else x) ≡ x
either_way true x = refl
either_way false x = refl

pub same_in : (parts : List Part) (s : State) → s ≡ only_in parts s s
same_in parts s = simp either_way
