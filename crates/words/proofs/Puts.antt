-- A buffer that holds words over its front, with one write more: at a place, or by a writer that is lent the rest of it.
use mathlib.Core.Path.{◌≡◌, refl, sym, ◌∙◌}
use mathlib.Core.List.{List, [], ◌∷◌, ◌++◌, append_assoc, append-nil}
use Prim.Native.Nat.{ℕ, zero, suc, ◌+◌, ◌-◌, ◌*◌, ◌≤◌, ◌<◌}
use native.Mathlib.Nat.{add-zero, add-suc, zero-mul, suc-mul}
use native.Mathlib.Numerals.{add-one}
use native.Mathlib.Omega.{arith}
use lib.ListN.{length, take, drop, get_or, set, length-append, length-drop, length-take, take-append-drop, drop_of_length-le}
use lib.Seq.{take_all, take-suc, length-take-le, take_at, drop_at, drop-drop, set_split}
use Rattle.words.specs.Buffers.{over, Wrote, Put, in_turn}

-- nothing is written yet
pub none_yet : (d : List ℕ) → Wrote [] d d 0
unfolding over
none_yet d = record { words = refl; counted = refl }

module _ {ps d₀ d : List ℕ} {at : ℕ} (w : Wrote ps d₀ d at) where
  -- what stands behind the words, and in front of it
  rest : drop at d ≡ drop (length ps) d₀
  unfolding over
  rest = rw (w.words, w.counted) (drop_at ps _ _ refl)

  front : take at d ≡ ps
  unfolding over
  front = rw (w.words, w.counted) (take_at ps _ _ refl)

  -- the buffer keeps its length
  pub as_long : length ps ≤ length d₀ → length d ≡ length d₀
  unfolding over
  as_long h = rw (w.words, length-append, length-drop) (omega arith)

  -- room for what is written next
  pub room : (ws : List ℕ) → length ps + length ws ≤ length d₀ → at + length ws ≤ length d
  room ws h = omega (arith, as_long (omega arith), w.counted)

  -- one write more, at a place
  pub and_put : {ws d' : List ℕ} {r : ℕ} → Put ws d at d' r → Wrote (ps ++ ws) d₀ d' r
  unfolding over
  and_put {ws} {d'} {r} p =
      record {
        words = p.words ∙ rw (front, ← drop-drop, rest, drop-drop, append_assoc, length-append) refl;
        counted = p.place ∙ rw (w.counted, length-append);
      }

  -- one write more, by a writer that was lent the rest
  and_wrote : {ws part : List ℕ} {n : ℕ} → Wrote ws (drop at d) part n → Wrote (ps ++ ws) d₀ (take at d ++ part) (at + n)
  unfolding over
  and_wrote {ws} {part} {n} p =
      record {
        words = rw (front, p.words, rest, drop-drop, append_assoc, length-append) refl;
        counted = rw (w.counted, p.counted, length-append);
      }

  -- the part of d from at on, as `&mut d[at..]` lends it
  pub lent_room : length (take (length d - at) (drop at d)) ≡ length d - at
  lent_room = rw (length-take, length-drop) (omega arith)

  -- what is in the buffer when the part is back
  pub and_lent : {ws part : List ℕ} {n : ℕ} → Wrote ws (take (length d - at) (drop at d)) part n
      → Wrote (ps ++ ws) d₀ (take at d ++ (part ++ drop (length d - at) (drop at d))) (at + n)
  and_lent {ws} {part} {n} p =
      let all : take (length d - at) (drop at d) ≡ drop at d = take_all (length d - at) (drop at d) (rw length-drop (omega arith)) in
      let none : drop (length d - at) (drop at d) ≡ [] = drop_of_length-le (drop at d) {i = length d - at} (rw length-drop (omega arith)) in
      rw (none, append-nil part) (and_wrote (rw all at p))

-- one word, or none
pub put_one : (d : List ℕ) (at w : ℕ) → at < length d → Put (w ∷ []) d at (set d at w) (at + 1)
put_one d at w h = record { words = rw (set_split d at w, add-one); place = refl }

pub put_none : (d : List ℕ) (at : ℕ) → Put [] d at d at
put_none d at = record { words = rw (add-zero, take-append-drop); place = rw add-zero }

-- writes at a place, one after another
module _ {d : List ℕ} {at : ℕ} (inside : at ≤ length d) where
  at_place : Wrote (take at d) d d at
  unfolding over
  at_place =
      let e : length (take at d) ≡ at = length-take-le at d inside in
      record { words = rw (e, take-append-drop); counted = sym e }

  as_put : {ws d' : List ℕ} {r : ℕ} → Wrote (take at d ++ ws) d d' r → Put ws d at d' r
  unfolding over
  as_put w =
      let e : length (take at d) ≡ at = length-take-le at d inside in
      record { words = w.words ∙ rw (append_assoc, length-append, e) refl; place = w.counted ∙ rw (length-append, e) }

  pub put_then : {ws vs d' d'' : List ℕ} {r r' : ℕ} → Put ws d at d' r → Put vs d' r d'' r' → Put (ws ++ vs) d at d'' r'
  put_then p q = as_put (rw append_assoc at (and_put (and_put at_place p) q))

  pub put_room : {ws d' : List ℕ} {r : ℕ} → Put ws d at d' r
      → (vs : List ℕ) → at + length ws + length vs ≤ length d → r + length vs ≤ length d'
  put_room {ws} p vs h =
      let e : length (take at d) ≡ at = length-take-le at d inside in
      room (and_put at_place p) vs (rw (length-append, e) h)

  -- a write by a writer that was lent the rest, from a place on
  pub lent_put : {ws part : List ℕ} {n : ℕ} → Wrote ws (take (length d - at) (drop at d)) part n
      → Put ws d at (take at d ++ (part ++ drop (length d - at) (drop at d))) (at + n)
  lent_put w = as_put (and_lent at_place w)

-- words that are put in two parts: room for the first, for the second behind it, and what both put
module _ (d : List ℕ) (at : ℕ) (ws vs : List ℕ) (all : at + length (ws ++ vs) ≤ length d) where
  pub room_first : at + length ws ≤ length d
  room_first = let h = rw length-append at all in omega arith

  module _ {d' : List ℕ} {r : ℕ} (p : Put ws d at d' r) where
    pub room_second : r + length vs ≤ length d'
    room_second = let h = rw length-append at all in put_room (omega arith) p vs (omega arith)

    pub put_both : {d'' : List ℕ} {r' : ℕ} → Put vs d' r d'' r' → Put (ws ++ vs) d at d'' r'
    put_both q = let h = rw length-append at all in put_then (omega arith) p q

-- in five parts, one after another
module _ (d : List ℕ) (at : ℕ) (a b c e f : List ℕ) (all : at + length (a ++ b ++ c ++ e ++ f) ≤ length d) where
  four : at + length (a ++ b ++ c ++ e) ≤ length d
  four = room_first d at (a ++ b ++ c ++ e) f all

  three : at + length (a ++ b ++ c) ≤ length d
  three = room_first d at (a ++ b ++ c) e four

  two : at + length (a ++ b) ≤ length d
  two = room_first d at (a ++ b) c three

  pub room_of_1 : at + length a ≤ length d
  room_of_1 = room_first d at a b two

  module _ {d₁ : List ℕ} {r₁ : ℕ} (p : Put a d at d₁ r₁) where
    pub room_of_2 : r₁ + length b ≤ length d₁
    room_of_2 = room_second d at a b two p

    module _ {d₂ : List ℕ} {r₂ : ℕ} (q : Put b d₁ r₁ d₂ r₂) where
      put_2 : Put (a ++ b) d at d₂ r₂
      put_2 = put_both d at a b two p q

      pub room_of_3 : r₂ + length c ≤ length d₂
      room_of_3 = room_second d at (a ++ b) c three put_2

      module _ {d₃ : List ℕ} {r₃ : ℕ} (r : Put c d₂ r₂ d₃ r₃) where
        put_3 : Put (a ++ b ++ c) d at d₃ r₃
        put_3 = put_both d at (a ++ b) c three put_2 r

        pub room_of_4 : r₃ + length e ≤ length d₃
        room_of_4 = room_second d at (a ++ b ++ c) e four put_3

        module _ {d₄ : List ℕ} {r₄ : ℕ} (s : Put e d₃ r₃ d₄ r₄) where
          put_4 : Put (a ++ b ++ c ++ e) d at d₄ r₄
          put_4 = put_both d at (a ++ b ++ c) e four put_3 s

          pub room_of_5 : r₄ + length f ≤ length d₄
          room_of_5 = room_second d at (a ++ b ++ c ++ e) f all put_4

          pub put_5 : {d₅ : List ℕ} {r₅ : ℕ} → Put f d₄ r₄ d₅ r₅ → Put (a ++ b ++ c ++ e ++ f) d at d₅ r₅
          put_5 t = put_both d at (a ++ b ++ c ++ e) f all put_4 t

-- a put at the start is a write of the front
pub put_first : {ws d d' : List ℕ} {r : ℕ} → Put ws d 0 d' r → Wrote ws d d' r
put_first p = and_put (none_yet _) p

-- and ends within the buffer
pub put_ends : {ws d d' : List ℕ} {r : ℕ} → Put ws d 0 d' r → r ≤ length d'
unfolding over
put_ends p = let w = put_first p in rw (w.words, w.counted, length-append) (omega arith)

-- blocks in turn: one more, and no more than all
pub turn_more : (f : ℕ → List ℕ) (i : ℕ) → in_turn f (i + 1) ≡ in_turn f i ++ f i
unfolding in_turn
turn_more f i = rw add-one

-- the first one taken off
pub turn_first : (f : ℕ → List ℕ) (n : ℕ) → in_turn f (suc n) ≡ f 0 ++ in_turn (λ j. f (suc j)) n
unfolding in_turn
turn_first f zero = sym (append-nil (f 0))
turn_first f (suc n) = rw (turn_first f n, append_assoc)

-- blocks that are equal one by one are equal in turn
pub turns_same : (f h : ℕ → List ℕ) (n : ℕ) → ((i : ℕ) → i < n → f i ≡ h i) → in_turn f n ≡ in_turn h n
unfolding in_turn
turns_same f h zero e = refl
turns_same f h (suc n) e = rw (turns_same f h n (λ i l. e i (omega arith)), e n (omega arith)) refl

turns_grow : (f : ℕ → List ℕ) (i k : ℕ) → length (in_turn f i) ≤ length (in_turn f (i + k))
unfolding in_turn
turns_grow f i zero = rw add-zero (omega arith)
turns_grow f i (suc k) = rw (add-suc, length-append) (omega (arith, turns_grow f i k))

pub turn_room : (f : ℕ → List ℕ) (i n : ℕ) → i < n → length (in_turn f i) + length (f i) ≤ length (in_turn f n)
turn_room f i n h =
    let e : i + 1 + (n - (i + 1)) ≡ n = omega arith in
    let m : length (in_turn f i ++ f i) ≤ length (in_turn f n) = rw (e, turn_more) at (turns_grow f (i + 1) (n - (i + 1))) in
    rw length-append at m

-- blocks of one length
pub turns_long : (f : ℕ → List ℕ) (m : ℕ) → ((k : ℕ) → length (f k) ≡ m) → (n : ℕ) → length (in_turn f n) ≡ n * m
unfolding in_turn
turns_long f m same zero = rw zero-mul
turns_long f m same (suc n) = rw (length-append, turns_long f m same n, same n, suc-mul)

-- a loop that puts blocks in turn, from a place on
pub turns_none : (f : ℕ → List ℕ) (d : List ℕ) (at : ℕ) → Put (in_turn f 0) d at d at
unfolding in_turn
turns_none f d at = put_none d at

module _ (f : ℕ → List ℕ) (n : ℕ) {d₀ d : List ℕ} {at i to : ℕ}
    (all : at + length (in_turn f n) ≤ length d₀) (so_far : Put (in_turn f i) d₀ at d to) where
  pub turn_fits : i < n → to + length (f i) ≤ length d
  turn_fits h = put_room (omega arith) so_far (f i) (omega (arith, turn_room f i n h))

  pub turn_put : {d' : List ℕ} {r : ℕ} → Put (f i) d to d' r → Put (in_turn f (i + 1)) d₀ at d' r
  turn_put p = rw turn_more (put_then (omega arith) so_far p)

  pub turns_all : i ≤ n → n ≤ i → Put (in_turn f n) d₀ at d to
  turns_all h k =
      let same : n ≡ i = omega arith in
      rw same so_far

-- a loop that puts the elements of a list, from a place on
pub list_none : (l d : List ℕ) (at : ℕ) → Put (take 0 l) d at d at
list_none l d at = put_none d at

module _ (l : List ℕ) (i : ℕ) {d₀ d : List ℕ} {at to : ℕ} (all : at + length l ≤ length d₀) (so_far : Put (take i l) d₀ at d to) where
  pub list_fits : i < length l → to < length d
  list_fits h =
      let n : length (take i l) ≡ i = length-take-le i l (omega arith) in
      omega (arith, put_room (omega arith) so_far (0 ∷ []) (omega arith))

  pub list_put : i < length l → {d' : List ℕ} {r : ℕ} → Put (get_or l i 0 ∷ []) d to d' r → Put (take (i + 1) l) d₀ at d' r
  list_put h p = rw (add-one, take-suc l i 0 h) (put_then (omega arith) so_far p)

  pub list_all : length l ≤ i → Put l d₀ at d to
  list_all h = rw (take_all i l h) at so_far
