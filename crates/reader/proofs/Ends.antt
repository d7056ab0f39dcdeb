-- Where the words end early: the place that the walk reaches, and the part by its places.
use Prim.Native.Nat.{ℕ, zero, suc, ◌+◌, ◌-◌, ◌≤◌, ◌<◌}
use mathlib.Core.Path.{◌≡◌, refl, ap, subst}
use mathlib.Core.List.{List, ◌∷◌}
use mathlib.Core.Bool.{Bool, true, false}
use native.Mathlib.Omega.{arith}
use lib.Dec.{ltb}
use lib.ListN.{length, drop}
use borrow.Author.Tests.{le-leb, lt-leb, lt-ltb, le-ltb, ltb-true, ltb-false}
use Rattle.words.specs.declared.Took.{Took}
use Rattle.std.specs.Prelude.{if◌then◌else◌, Result, Ok, Err}
use Rattle.words.specs.Bits.{bit}
use Rattle.words.specs.Parse.{Got, short, got, Parser, after, map_got, times_parse}
use Rattle.words.specs.Places.{take_at}
use Rattle.words.specs.Format.{times}
use Rattle.words.proofs.Tracks.{one_tracks}
use Rattle.layout.specs.Bits as bits
use Rattle.reader.specs.declared.SectorReading.{SectorReading}
use Rattle.reader.specs.declared.Part.TheVariants.{Head, Sector, Senstat}
use Rattle.reader.specs.Sectors.{sector}
use Rattle.reader.specs.Endings.{one_more_of, wholes}
use Rattle.reader.specs.Readings.{body}
use Rattle.reader.specs.Places.{SectorsWhole, SectorsCut, SectorsRead, head_from, whole_from, part_from, ContourWhole, ContourCut}
use Rattle.reader.proofs.Bodies.{place_of, from_place, BodyWalk, walked, found_short, found_whole}

-- all are whole, or one of them is not
abbrev Counted : {A : Type 0} → ℕ → ℕ → Got (List A) → Type 0
Counted n k short = k < n
Counted n k (got xs b ws) = k ≡ n

module _ {A : Type 0} (p : Parser A) where
  one_counted : (n k : ℕ) (a : A) (g : Got (List A)) → Counted n k g → Counted (suc n) (suc k) (map_got (λ xs. a ∷ xs) g)
  one_counted n k a short h = omega arith
  one_counted n k a (got xs b ws) h = ap suc h

  more_counted : (n : ℕ) → ((b : ℕ) (ws : List ℕ) → Counted n (wholes n p b ws) (times_parse n p b ws)) → (g : Got A)
      → Counted (suc n) (one_more_of g (wholes n p)) (after g (λ a b ws. map_got (λ xs. a ∷ xs) (times_parse n p b ws)))
  more_counted n h short = omega arith
  more_counted n h (got a b ws) = one_counted n (wholes n p b ws) a (times_parse n p b ws) (h b ws)

  pub counted : (n b : ℕ) (ws : List ℕ) → Counted n (wholes n p b ws) (times_parse n p b ws)
  counted zero b ws = refl
  counted (suc n) b ws = more_counted n (counted n) (p b ws)

-- a place that is n, or one past the end where n is further
abbrev Reaches : List ℕ → ℕ → ℕ → Type 0
Reaches ws n at = at ≡ n - (n - (length ws + 1))

-- the place behind a word is one further where it is on
lands : (on : Bool) (ws : List ℕ) (n at : ℕ) (r : Took) → r ≡ take_at on ws at → Reaches ws n at → Reaches ws (n + (if on then 1 else 0)) r.at
unfolding take_at
lands false ws n at r e h = rw e (omega arith)
lands true ws n at r e h = go (ltb at (length ws)) refl
  where
    go : (t : Bool) → ltb at (length ws) ≡ t → Reaches ws (n + 1) r.at
    go true q = rw (e, q) (omega (arith, ltb-true at (length ws) q))
    go false q = rw (e, q) (omega (arith, ltb-false at (length ws) q))

-- a place past the end stays past it over a word
sticks : (on : Bool) (ws : List ℕ) (at : ℕ) → length ws < at → length ws < (take_at on ws at).at
sticks on ws at h = (one_tracks on ws 0 at).sticks h

-- the words in front of the sectors, taken from the first word that depends on a bit
module _ (first mask count : ℕ) (ws : List ℕ) (long : first ≤ length ws) {sent counter layer : Took}
    (is_sent : sent ≡ take_at (bit mask bits.sent) ws first) (is_counter : counter ≡ take_at (bit mask bits.counter) ws sent.at)
    (is_layer : layer ≡ take_at (bit mask bits.layer) ws counter.at) where
  -- behind the head, or one past the end
  behind_head : Reaches ws (head_from first mask) layer.at
  behind_head =
      let one = lands (bit mask bits.sent) ws first first _ is_sent (omega arith) in
      let two = lands (bit mask bits.counter) ws _ _ _ is_counter one in
      let three = lands (bit mask bits.layer) ws _ _ _ is_layer two in
      subst (λ (n : ℕ). Reaches ws n layer.at) (omega arith) three

  -- the walk from there on, as it goes where the words do not end
  abbrev on_from : (found : ℕ) → found ≡ place_of ws (from_place (times count (sector mask)) ws layer.at) → BodyWalk first mask count ws
  on_from found is_found =
      record {
        sent = sent;
        counter = counter;
        layer = layer;
        found = found;
        high = take_at (bit mask bits.senstat) ws found;
        low = take_at (bit mask bits.senstat) ws (take_at (bit mask bits.senstat) ws found).at;
        is_sent = is_sent;
        is_counter = is_counter;
        is_layer = is_layer;
        is_found = is_found;
        is_high = refl;
        is_low = refl;
      }

  -- where there are not all sectors there is no contour
  no_contour : (found : ℕ) → found ≡ place_of ws (from_place (times count (sector mask)) ws layer.at) → length ws < found
      → (body mask count).parse first (drop first ws) ≡ short
  no_contour found is h =
      found_short first mask count ws long (on_from found is) (sticks (bit mask bits.senstat) ws _ (sticks (bit mask bits.senstat) ws found h))

  -- the words end in the head
  pub cut_in_head : length ws < layer.at → ContourCut ws first mask count Head
  unfolding part_from
  cut_in_head h =
      record {
        found = no_contour (length ws + 1) (rw (lt-leb layer.at (length ws) h)) (omega arith);
        is = rw (lt-ltb (length ws) (head_from first mask) (omega (arith, behind_head)));
      }

  module _ (inside : layer.at ≤ length ws) where
    head_place : layer.at ≡ head_from first mask
    head_place = omega (arith, behind_head)

    head_inside : head_from first mask ≤ length ws
    head_inside = omega (arith, behind_head)

    -- how many sectors are whole, by what reading them finds
    by_found : {g : Got (List SectorReading)} → times_parse count (sector mask).parse layer.at (drop layer.at ws) ≡ g
        → Counted count (whole_from first mask count ws) g
    by_found e = subst (Counted count (whole_from first mask count ws)) (rw head_place at e) (counted (sector mask).parse count _ _)

    in_sector : {k : ℕ} → SectorsCut ws mask count layer.at k → ContourCut ws first mask count (Sector k)
    unfolding part_from
    in_sector {k} c =
        let less : whole_from first mask count ws < count = by_found c.found in
        let begun : k ≡ whole_from first mask count ws = rw head_place at c.begun in
        record {
          found = no_contour (length ws + 1) (rw (le-leb layer.at (length ws) inside, c.found)) (omega arith);
          is = rw (le-ltb (length ws) (head_from first mask) head_inside, lt-ltb (whole_from first mask count ws) count less, begun);
        }

    -- the words end in a sector
    pub cut_in_sector : {r : Result (List SectorReading × ℕ) ℕ} → SectorsRead ws mask count layer.at r → {k : ℕ} → r ≡ Err k
        → ContourCut ws first mask count (Sector k)
    cut_in_sector h e = in_sector (rw e at h)

    -- all sectors are whole
    module _ {r : Result (List SectorReading × ℕ) ℕ} (found : SectorsRead ws mask count layer.at r) {entries : List SectorReading} {next : ℕ}
        (e : r ≡ Ok (entries, next)) {high : Took} (is_high : high ≡ take_at (bit mask bits.senstat) ws next) where
      s : SectorsWhole ws mask count layer.at entries next
      s = rw e at found

      abbrev walk : (low : Took) → low ≡ take_at (bit mask bits.senstat) ws high.at → BodyWalk first mask count ws
      walk low is_low =
          record {
            sent = sent;
            counter = counter;
            layer = layer;
            found = next;
            high = high;
            low = low;
            is_sent = is_sent;
            is_counter = is_counter;
            is_layer = is_layer;
            is_found = rw (le-leb layer.at (length ws) inside, s.found);
            is_high = is_high;
            is_low = is_low;
          }

      -- the words end in SENSTAT
      pub cut_in_senstat : {low : Took} → low ≡ take_at (bit mask bits.senstat) ws high.at → length ws < low.at
          → ContourCut ws first mask count Senstat
      unfolding part_from
      cut_in_senstat {low} is_low h =
          let all : whole_from first mask count ws ≡ count = by_found s.found in
          record {
            found = found_short first mask count ws long (walk low is_low) h;
            is = rw (le-ltb (length ws) (head_from first mask) head_inside, le-ltb (whole_from first mask count ws) count (omega arith));
          }

      -- the contour is whole
      pub contour_whole : {low : Took} → low ≡ take_at (bit mask bits.senstat) ws high.at → low.at ≤ length ws
          → ContourWhole ws first mask count
          (record {
            sent = sent.word;
            counter = counter.word;
            layer = layer.word;
            count = count;
            sectors = entries;
            high = high.word;
            low = low.word;
          })
          low.at
      contour_whole {low} is_low h =
          record {
            value = walked first mask count ws long (walk low is_low);
            found = found_whole first mask count ws long (walk low is_low) h;
            inside = h;
            sent = refl;
            counter = refl;
            layer = refl;
            count = refl;
            entries = rw (le-leb layer.at (length ws) inside, s.found) s.padded_out;
            high = refl;
            low = refl;
          }
