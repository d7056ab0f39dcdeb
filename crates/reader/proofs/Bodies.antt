-- What stands behind the words that depend on no bit: its format has the laws, and reading it by places is reading it.
use Prim.Native.Nat.{ℕ, ◌+◌, ◌≤◌, ◌<◌}
use mathlib.Core.Path.{◌≡◌, sym, ◌∙◌}
use mathlib.Core.List.{List, []}
use native.Mathlib.Nat.{zero-add}
use native.Mathlib.Omega.{arith}
use lib.Dec.{leb}
use lib.ListN.{length, drop, length-drop}
use borrow.Author.Tests.{le-leb, lt-leb}
use Rattle.std.specs.Prelude.{if◌then◌else◌}
use Rattle.words.specs.declared.Took.{Took}
use Rattle.words.specs.Bits.{bit}
use Rattle.words.specs.Lists.{Each}
use Rattle.words.specs.Parse.{Got, short, got}
use Rattle.words.specs.Places.{take_at}
use Rattle.words.specs.Format.{Format, AllOk, times}
use Rattle.words.proofs.Lawful.{Lawful, SoundOf, KeptOf}
use Rattle.words.proofs.Extends.{Extends, nothing_extends, optional_extends, join_extends, times_extends}
use Rattle.words.proofs.Tracks.{Tracks, out_at, in_out, past_out, nothing_tracks, optional_tracks, join_tracks}
use Rattle.layout.specs.Bits as bits
use Rattle.layout.specs.Fields.{SectorFields}
use Rattle.reader.specs.declared.SectorReading.{SectorReading}
use Rattle.reader.specs.Sectors.{sector}
use Rattle.reader.specs.Readings.{Body, sectors_in, body}
use Rattle.reader.proofs.SectorPlaces.{sector_extends}

pub sectors_extends : (mask count : ℕ) → Extends (times count (sector mask))
sectors_extends mask count = times_extends (sector mask) (sector_extends mask) count

pub body_extends : (mask count : ℕ) → Extends (body mask count)
body_extends mask count =
    optional_extends (bit mask bits.sent) _ λ sent.
    optional_extends (bit mask bits.counter) _ λ counter.
    optional_extends (bit mask bits.layer) _ λ layer.
    join_extends _ _ (sectors_extends mask count) (
    optional_extends (bit mask bits.senstat) _ λ high.
    optional_extends (bit mask bits.senstat) _ λ low.
    nothing_extends)

pub body_lawful : (mask count : ℕ) → Lawful (body mask count)
body_lawful mask count = (body_extends mask count).lawful

-- what was found, and the place behind it, which is one past the end where nothing was
abbrev pub value_of : {A : Type 0} → A → Got A → A
value_of d short = d
value_of d (got a place ws) = a

abbrev pub place_of : {A : Type 0} → List ℕ → Got A → ℕ
place_of ws short = length ws + 1
place_of ws (got a place ws') = place

abbrev pub from_place : {A F : Type 0} → Format A F → List ℕ → ℕ → Got A
from_place format ws at = if leb at (length ws) then format.parse at (drop at ws) else short

-- any lawful format, read from a place
module _ {A F : Type 0} (c : Format A F) (lawful : Lawful c) (d : A) (ws : List ℕ) (i : ℕ) where
  found_out : i ≤ length ws → (g : Got A) → SoundOf c ws i g → KeptOf i (drop i ws) g → g ≡ out_at ws 0 (value_of d g) (place_of ws g)
  found_out h short s k = sym (past_out ws 0 d (length ws + 1) (omega arith))
  found_out h (got a b ws') s k = sym (in_out ws 0 a b (omega (arith, length-drop i ws)) ∙ rw (zero-add b, s.rest))

  found_tracks : Tracks c ws 0 i (value_of d (from_place c ws i)) (place_of ws (from_place c ws i))
  found_tracks =
      record {
        reads = λ h. rw (zero-add i, le-leb i (length ws) h) (found_out h (c.parse i (drop i ws)) (lawful.sound ws i) (lawful.kept i (drop i ws)));
        sticks = λ h. rw (lt-leb i (length ws) h) (omega arith);
      }

-- the steps of the reader, from the place of the first word that depends on a bit, each from the place behind the one before
pub record BodyWalk (first mask count : ℕ) (ws : List ℕ) : Type 0 where
  pub sent : Took
  pub counter : Took
  pub layer : Took
  pub found : ℕ
  pub high : Took
  pub low : Took
  pub is_sent : sent ≡ take_at (bit mask bits.sent) ws first
  pub is_counter : counter ≡ take_at (bit mask bits.counter) ws sent.at
  pub is_layer : layer ≡ take_at (bit mask bits.layer) ws counter.at
  pub is_found : found ≡ place_of ws (from_place (times count (sector mask)) ws layer.at)
  pub is_high : high ≡ take_at (bit mask bits.senstat) ws found
  pub is_low : low ≡ take_at (bit mask bits.senstat) ws high.at

-- of the whole body, what is so of its sectors
pub sectors_ok_lem : (mask count : ℕ) (b : Body SectorFields) → (body mask count).ok b → AllOk (sector mask).ok count (sectors_in b)
sectors_ok_lem mask count b o = o.1.1.1.0

pub sectors_inside : (mask count n : ℕ) (a : Body SectorReading) → (body mask count).inside n a → Each ((sector mask).inside n) (sectors_in a)
sectors_inside mask count n a i = i.1.1.1.0

module _ (first mask count : ℕ) (ws : List ℕ) (long : first ≤ length ws) where
  -- the body by places, and the place behind it
  unfoldable by_places : (a : Body SectorReading) × (j : ℕ) × Tracks (body mask count) ws 0 first a j
  by_places = (
    _,
    _,
    optional_tracks (bit mask bits.sent) _ _ _ _ _ _ λ sent i₁.
        optional_tracks (bit mask bits.counter) _ _ _ _ _ _ λ counter i₂.
        optional_tracks (bit mask bits.layer) _ _ _ _ _ _ λ layer i₃.
        join_tracks _ _ (found_tracks (times count (sector mask)) (sectors_extends mask count).lawful [] ws i₃) (
        optional_tracks (bit mask bits.senstat) _ _ _ _ _ _ λ high i₄.
        optional_tracks (bit mask bits.senstat) _ _ _ _ _ _ λ low i₅.
        nothing_tracks _ _ i₅),
  )

  read_by_places : (body mask count).parse first (drop first ws) ≡ out_at ws 0 by_places.0 by_places.1
  read_by_places = rw zero-add at (by_places.2.reads long)

  module _ (w : BodyWalk first mask count ws) where
    abbrev pub walked : Body SectorReading
    walked =
        let list = value_of [] (from_place (times count (sector mask)) ws w.layer.at) in
        (w.sent.word, (w.counter.word, (w.layer.word, (list, (w.high.word, (w.low.word, tt))))))

    found : (body mask count).parse first (drop first ws) ≡ out_at ws 0 walked w.low.at
    unfolding by_places
    found =
        rw (
          read_by_places,
          ← w.is_sent,
          ← w.is_counter,
          ← w.is_layer,
          ← w.is_found,
          ← w.is_high,
          ← w.is_low,
        )

    -- by the place behind the last word
    pub found_short : length ws < w.low.at → (body mask count).parse first (drop first ws) ≡ short
    found_short h = found ∙ past_out ws 0 walked w.low.at h

    pub found_whole : w.low.at ≤ length ws → (body mask count).parse first (drop first ws) ≡ got walked w.low.at (drop w.low.at ws)
    found_whole h = found ∙ in_out ws 0 walked w.low.at h ∙ rw zero-add
