-- A format read by places, as the code reads it: the place is past the end once the words have ended early.
use Prim.Native.Nat.{ℕ, ◌+◌, ◌-◌, ◌≤◌, ◌<◌}
use mathlib.Core.Path.{◌≡◌, refl, sym, ◌∙◌, ap}
use mathlib.Core.List.{List}
use mathlib.Core.Bool.{Bool, true, false}
use native.Mathlib.Nat.{add_assoc}
use native.Mathlib.Omega.{arith}
use native.Mathlib.Numerals.{add-one}
use lib.ListN.{length, drop, length-drop, drop_of_length-le}
use lib.Seq.{drop-drop, drop-cons}
use lib.Dec.{leb, ltb}
use borrow.Author.Tests.{leb-true, leb-false, ltb-true, ltb-false, le-leb, lt-leb, lt-ltb, le-ltb}
use Rattle.std.specs.Prelude.{if◌then◌else◌, Option, None}
use Rattle.words.specs.Parse.{Got, short, got, map_got, word, span}
use Rattle.words.specs.Format.{Format, nothing, one, many, chain, optional, join, recast}
use Rattle.words.specs.Places.{take_at, skip_at}
use Rattle.words.proofs.Formats.{both}

-- a found up to place j, unless that is past the end
abbrev pub out_at : {A : Type 0} → List ℕ → ℕ → A → ℕ → Got A
out_at ws base a j = if leb j (length ws) then got a (base + j) (drop j ws) else short

pub record Tracks {A F : Type 0} (c : Format A F) (ws : List ℕ) (base i : ℕ) (a : A) (j : ℕ) : Type 0 where
  pub reads : i ≤ length ws → c.parse (base + i) (drop i ws) ≡ out_at ws base a j
  pub sticks : length ws < i → length ws < j

-- a place within, and one past the end
pub in_out : {A : Type 0} (ws : List ℕ) (base : ℕ) (a : A) (j : ℕ) → j ≤ length ws → out_at ws base a j ≡ got a (base + j) (drop j ws)
in_out ws base a j h = rw (le-leb j (length ws) h)

pub past_out : {A : Type 0} (ws : List ℕ) (base : ℕ) (a : A) (j : ℕ) → length ws < j → out_at ws base a j ≡ short
past_out ws base a j h = rw (lt-leb j (length ws) h)

map_out : {A B : Type 0} (f : A → B) (ws : List ℕ) (base : ℕ) (a : A) (j : ℕ) (t : Bool)
    → map_got f (if t then got a (base + j) (drop j ws) else short) ≡ (if t then got (f a) (base + j) (drop j ws) else short)
map_out f ws base a j true = refl
map_out f ws base a j false = refl

pub nothing_tracks : (ws : List ℕ) (base i : ℕ) → Tracks nothing ws base i tt i
nothing_tracks ws base i = record { reads = λ h. sym (in_out ws base tt i h); sticks = λ h. h }

one_reads : (on : Bool) (ws : List ℕ) (base i : ℕ) → i ≤ length ws → (t : Bool) → ltb i (length ws) ≡ t
    → word on (base + i) (drop i ws) ≡ out_at ws base (take_at on ws i).word (take_at on ws i).at
unfolding take_at
one_reads false ws base i h t e = sym (in_out ws base None i h)
one_reads true ws base i h true e =
    let lt : i < length ws = ltb-true i (length ws) e in
    rw (e, drop-cons ws i 0 lt, le-leb (i + 1) (length ws) (omega arith)) (cc (add_assoc base i 1, add-one i))
one_reads true ws base i h false e =
    rw (e, drop_of_length-le ws (ltb-false _ _ e), lt-leb (length ws + 1) (length ws) (omega arith))

one_sticks : (on : Bool) (ws : List ℕ) (i : ℕ) → length ws < i → length ws < (take_at on ws i).at
unfolding take_at
one_sticks false ws i h = h
one_sticks true ws i h = rw (le-ltb i (length ws) (omega arith)) (omega arith)

pub one_tracks : (on : Bool) (ws : List ℕ) (base i : ℕ) → Tracks (one on) ws base i (take_at on ws i).word (take_at on ws i).at
one_tracks on ws base i = record { reads = λ h. one_reads on ws base i h (ltb i (length ws)) refl; sticks = one_sticks on ws i }

many_reads : (n : ℕ) (ws : List ℕ) (base i : ℕ) → i ≤ length ws → (t : Bool) → ltb (length ws - i) n ≡ t
    → span n (base + i) (drop i ws) ≡ out_at ws base (record { start = base + i; len = n }) (skip_at n ws i)
unfolding skip_at
many_reads n ws base i h false e =
    let le : n ≤ length ws - i = ltb-false (length ws - i) n e in
    rw (le-ltb (length ws) i h, e, length-drop, le-leb n (length ws - i) le, le-leb (i + n) (length ws) (omega arith))
    (cc (add_assoc base i n, drop-drop n i ws))
many_reads n ws base i h true e =
    rw (le-ltb (length ws) i h, e, length-drop, lt-leb n (length ws - i) (ltb-true _ _ e), lt-leb (length ws + 1) (length ws) (omega arith))

many_sticks : (n : ℕ) (ws : List ℕ) (i : ℕ) → length ws < i → length ws < skip_at n ws i
unfolding skip_at
many_sticks n ws i h = rw (lt-ltb (length ws) i h) (omega arith)

pub many_tracks : (n : ℕ) (ws : List ℕ) (base i : ℕ) → Tracks (many n) ws base i (record { start = base + i; len = n }) (skip_at n ws i)
many_tracks n ws base i = record { reads = λ h. many_reads n ws base i h (ltb (length ws - i) n) refl; sticks = many_sticks n ws i }

module _ {K A F B G : Type 0} (k : Format A F) (key : A → K) (keyF : F → K) (l : K → Format B G)
    (ws : List ℕ) (base i : ℕ) (a : A) (j : ℕ) (c : B) (j' : ℕ)
    (s : Tracks k ws base i a j) (t : Tracks (l (key a)) ws base j c j') where
  chain_reads : (u : Bool) → leb j (length ws) ≡ u
      → both {C = A × B} (if u then got a (base + j) (drop j ws) else short) (λ x. (l (key x)).parse) (λ x y. (x, y)) ≡ out_at ws base (a, c) j'
  chain_reads true e = ap (map_got (λ y. (a, y))) (t.reads (leb-true j (length ws) e)) ∙ map_out (λ y. (a, y)) ws base c j' (leb j' (length ws))
  chain_reads false e = sym (past_out ws base (a, c) j' (t.sticks (leb-false j (length ws) e)))

  pub chain_tracks : Tracks (chain k key keyF l) ws base i (a, c) j'
  chain_tracks = record { reads = λ h. rw (s.reads h) (chain_reads (leb j (length ws)) refl); sticks = λ h. t.sticks (s.sticks h) }

-- the rest goes by the word and the place behind it, whatever they are
pub optional_tracks : {B G : Type 0} (on : Bool) (l : Option ℕ → Format B G) (ws : List ℕ) (base i : ℕ)
    (c : Option ℕ → ℕ → B) (j : Option ℕ → ℕ → ℕ)
    → ((w : Option ℕ) (i' : ℕ) → Tracks (l w) ws base i' (c w i') (j w i'))
    → Tracks (optional on l) ws base i ((take_at on ws i).word, c (take_at on ws i).word (take_at on ws i).at) (j (take_at on ws i).word (take_at on ws i).at)
optional_tracks on l ws base i c j t = chain_tracks (one on) (λ w. w) (λ w. w) l ws base i _ _ _ _ (one_tracks on ws base i) (t _ _)

pub join_tracks : {A F B G : Type 0} (k : Format A F) (l : Format B G) {ws : List ℕ} {base i : ℕ} {a : A} {j : ℕ} {c : B} {j' : ℕ}
    → Tracks k ws base i a j → Tracks l ws base j c j' → Tracks (join k l) ws base i (a, c) j'
join_tracks k l {ws} {base} {i} {a} {j} {c} {j'} s t = chain_tracks k (λ _. tt {0}) (λ _. tt {0}) (λ _. l) ws base i a j c j' s t

pub recast_tracks : {A F B G : Type 0} (to : A → B) (from : B → A) (toF : F → G) (fromF : G → F) (k : Format A F)
    {ws : List ℕ} {base i : ℕ} {a : A} {j : ℕ}
    → Tracks k ws base i a j → Tracks (recast to from toF fromF k) ws base i (to a) j
recast_tracks to from toF fromF k {ws} {base} {i} {a} {j} s =
    record { reads = λ h. ap (map_got to) (s.reads h) ∙ map_out to ws base a j (leb j (length ws)); sticks = s.sticks }
