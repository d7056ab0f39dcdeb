-- Technical: no rule stands here. Words by their places in a list. A place one past the end says that the words have ended early, and stays
-- so.
use Rattle.std.specs.Prelude.{Bool, List, ℕ, ◌+◌, ◌-◌, ltb, length, get_or, if◌then◌else◌, Some, None}
use Rattle.words.specs.declared.Took.{Took}

-- the word at a place, where it is on
unfoldable pub take_at : Bool → List ℕ → ℕ → Took
take_at on ws at =
    if on
    then (if ltb at (length ws) then record { word = Some (get_or ws at 0); at = at + 1 } else record { word = None; at = length ws + 1 })
    else record { word = None; at = at }

-- the place behind n words
unfoldable pub skip_at : ℕ → List ℕ → ℕ → ℕ
skip_at n ws at =
    if ltb (length ws) at then length ws + 1 else
    if ltb (length ws - at) n then length ws + 1 else at + n
