-- A word taken from a place, and words passed over: what each way out gives, and that the place stays within one past the end.
use mathlib.Core.Path.{◌≡◌, refl}
use mathlib.Core.Bool.{Bool, true, false}
use mathlib.Core.List.{List}
use Prim.Native.Nat.{ℕ, ◌+◌, ◌≤◌, ◌<◌}
use native.Mathlib.Omega.{arith}
use lib.Dec.{ltb}
use lib.ListN.{length, get_or}
use borrow.Author.Tests.{lt-ltb, le-ltb, ltb-true}
use Rattle.std.specs.Prelude.{if◌then◌else◌, Some, None}
use Rattle.words.specs.declared.Took.{Took}
use Rattle.words.specs.Places.{take_at}

-- by the answer of the test whether the word is on
module _ {t : Bool} (on : Bool) (is : t ≡ on) (ws : List ℕ) (at : ℕ) where
  pub take_there : t ≡ true → at < length ws → record { word = Some (get_or ws at 0); at = at + 1 } ≡ take_at on ws at
  unfolding take_at
  take_there e h = rw (← is, e, lt-ltb at (length ws) h)

  pub take_ended : t ≡ true → length ws ≤ at → record { word = None; at = length ws + 1 } ≡ take_at on ws at
  unfolding take_at
  take_ended e h = rw (← is, e, le-ltb at (length ws) h)

  pub take_off : t ≡ false → record { word = None; at = at } ≡ take_at on ws at
  unfolding take_at
  take_off e = rw (← is, e)

-- the place behind a word, and behind n words
pub take_within : (on : Bool) (ws : List ℕ) (at : ℕ) → at ≤ length ws + 1 → (take_at on ws at).at ≤ length ws + 1
unfolding take_at
take_within false ws at h = h
take_within true ws at h = go (ltb at (length ws)) refl
  where
    go : (t : Bool) → ltb at (length ws) ≡ t
        → (if◌then◌else◌ {A = Took} t (record { word = Some (get_or ws at 0); at = at + 1 }) (record { word = None; at = length ws + 1 })).at
        ≤ length ws + 1
    go true e = omega (arith, ltb-true at (length ws) e)
    go false e = omega arith

-- the same of what a reader holds
pub took_within : (on : Bool) (ws : List ℕ) (at : ℕ) (r : Took) → r ≡ take_at on ws at → at ≤ length ws + 1 → r.at ≤ length ws + 1
took_within on ws at r e h = rw e (take_within on ws at h)
