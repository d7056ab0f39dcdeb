-- Words laid over the front of a buffer: how a loop lays them, one word a turn, and what it leaves as it was.
use mathlib.Core.Path.{◌≡◌, refl, sym}
use mathlib.Core.List.{List, [], ◌∷◌, ◌++◌}
use Prim.Native.Nat.{ℕ, suc, ◌+◌, ◌≤◌, ◌<◌}
use native.Mathlib.Omega.{arith}
use native.Mathlib.Numerals.{add-one}
use lib.ListN.{length, take, drop, get_or, set, length-append, length-drop}
use lib.Seq.{drop-cons, set-append_seam, append_snoc, take-suc, length-take-le}
use Rattle.words.specs.Buffers.{over}

-- no word leaves the buffer as it was
pub over_none : (d : List ℕ) → over [] d ≡ d
unfolding over
over_none d = refl

pub over_start : (ws d : List ℕ) → d ≡ over (take 0 ws) d
over_start ws d = sym (over_none d)

pub over_length : (ws d : List ℕ) → length ws ≤ length d → length (over ws d) ≡ length d
unfolding over
over_length ws d h = simp (length-append, length-drop) (omega arith)

-- one word more, behind those that are laid
pub over_next : (ws d : List ℕ) (w : ℕ) → length ws < length d → set (over ws d) (length ws) w ≡ over (ws ++ (w ∷ [])) d
unfolding over
over_next ws d w h =
    let n : length (ws ++ (w ∷ [])) ≡ suc (length ws) = simp length-append (omega arith) in
    rw (drop-cons d (length ws) 0 h, set-append_seam, n) (sym (append_snoc ws w (drop (suc (length ws)) d)))

-- the first words of a list: so many as the loop has laid, of those that it lays
module _ (ws d out : List ℕ) (i n : ℕ) (laid : out ≡ over (take i ws) d) where
  pub over_more : i < n → n ≤ length ws → n ≤ length d → set out i (get_or ws i 0) ≡ over (take (i + 1) ws) d
  over_more h k l =
      let long : length (take i ws) ≡ i = length-take-le i ws (omega arith) in
      let room : length (take i ws) < length d = omega arith in
      rw (laid, add-one, take-suc ws i 0 (omega arith)) (rw long at (over_next (take i ws) d (get_or ws i 0) room))

  pub over_done : i ≤ n → n ≤ i → out ≡ over (take n ws) d
  over_done h k =
      let same : n ≡ i = omega arith in
      rw same laid
