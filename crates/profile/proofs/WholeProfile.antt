-- `write_contour`: its parts, and what stands in the buffer when they are written.
use mathlib.Core.Path.{◌≡◌}
use mathlib.Core.List.{List, ◌++◌}
use Prim.Native.Nat.{ℕ, ◌+◌, ◌*◌, ◌≤◌}
use lib.ListN.{length}
use Rattle.words.specs.Buffers.{Put}
use Rattle.words.proofs.Puts.{room_first, put_both}
use Rattle.units.specs.Directions.{revolution_shots}
use Rattle.layout.specs.Layout.{contour}
use Rattle.state.specs.declared.State.{State}
use Rattle.state.specs.Modes.{mode_number}
use Rattle.profile.specs.Profiles.{Scan}
use Rattle.profile.specs.Asked.{ContourAsked, contour_fields, sectors_words, front_words, status_words}

-- what is asked of `write_contour`, with the rate of shots and the number of the mode as the code has them
module _ {s : State} {g : Scan} {mask layer sent counter from : ℕ} {d₀ : List ℕ} {m rate status : ℕ}
    (asked : ContourAsked s g mask layer sent counter from d₀) (shots : m ≡ revolution_shots s.step.0) (product : rate ≡ s.running * m)
    (mode : status ≡ mode_number s.mode) where
  abbrev front : List ℕ
  front = front_words mask sent counter layer

  abbrev middle : List ℕ
  middle = sectors_words mask s.step.0 rate g s.working

  abbrev end : List ℕ
  end = status_words mask status

  parts : contour (contour_fields s g mask layer sent counter) ≡ front ++ middle ++ end
  parts = rw (product, shots, mode)

  all : from + length (front ++ middle ++ end) ≤ length d₀
  all = rw parts at asked.room

  two : from + length (front ++ middle) ≤ length d₀
  two = room_first d₀ from (front ++ middle) end all

  pub contour_done : {d₁ d₂ d₃ : List ℕ} {at₁ at₂ r : ℕ} → Put front d₀ from d₁ at₁ → Put middle d₁ at₁ d₂ at₂
      → Put end d₂ at₂ d₃ r
      → Put (contour (contour_fields s g mask layer sent counter)) d₀ from d₃ r
  contour_done fronted filled p =
      let both = put_both d₀ from front middle two fronted filled in
      rw parts (put_both d₀ from (front ++ middle) end all both p)
