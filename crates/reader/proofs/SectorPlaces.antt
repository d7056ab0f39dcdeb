-- The sector: its format has the laws, and reading it by places is reading it.
use Prim.Native.Nat.{ℕ, ◌+◌, ◌*◌, ◌≤◌, ◌<◌, zero-le}
use mathlib.Core.Path.{◌≡◌, refl, sym, ◌∙◌, ap}
use mathlib.Core.List.{List}
use native.Mathlib.Nat.{add-zero}
use lib.ListN.{length}
use Rattle.std.specs.Prelude.{Some, None}
use Rattle.words.specs.declared.Took.{Took}
use Rattle.words.specs.Bits.{bit}
use Rattle.words.specs.Words.{number_of}
use Rattle.words.specs.Places.{take_at, skip_at}
use Rattle.words.proofs.Takes.{took_within}
use Rattle.words.proofs.Lawful.{Lawful}
use Rattle.words.proofs.Extends.{Extends, nothing_extends, many_extends, optional_extends, join_extends, recast_extends}
use Rattle.words.proofs.Tracks.{Tracks, out_at, in_out, past_out, nothing_tracks, many_tracks, optional_tracks, join_tracks, recast_tracks}
use Rattle.layout.specs.Bits as bits
use Rattle.layout.specs.Masks.{point_width}
use Rattle.reader.specs.declared.SectorReading.{SectorReading}
use Rattle.reader.specs.Sectors.{to_reading, from_reading, to_fields, from_fields, raw_sector, sector, found_of}

pub sector_extends : (mask : ℕ) → Extends (sector mask)
sector_extends mask =
    recast_extends to_reading from_reading to_fields from_fields (raw_sector mask)
    (optional_extends (bit mask bits.number) _ λ number.
    optional_extends (bit mask bits.step) _ λ step.
    optional_extends (bit mask bits.points) _ λ points.
    optional_extends (bit mask bits.tstart) _ λ tstart.
    optional_extends (bit mask bits.startdir) _ λ startdir.
    join_extends _ _ (many_extends (number_of points * point_width mask)) (
    optional_extends (bit mask bits.tend) _ λ tend.
    optional_extends (bit mask bits.enddir) _ λ enddir.
    nothing_extends))
    (λ a. refl) (λ g. refl) (λ f. refl)

pub sector_lawful : (mask : ℕ) → Lawful (sector mask)
sector_lawful mask = (sector_extends mask).lawful

module _ (mask base : ℕ) (ws : List ℕ) where
  -- the sector by places, and the place behind it
  unfoldable by_places : (a : SectorReading) × (j : ℕ) × Tracks (sector mask) ws base 0 a j
  by_places = (
    _,
    _,
    recast_tracks to_reading from_reading to_fields from_fields (raw_sector mask) {ws = ws} {base = base} {i = 0}
        (optional_tracks (bit mask bits.number) _ _ _ _ _ _ λ number i₁.
        optional_tracks (bit mask bits.step) _ _ _ _ _ _ λ step i₂.
        optional_tracks (bit mask bits.points) _ _ _ _ _ _ λ points i₃.
        optional_tracks (bit mask bits.tstart) _ _ _ _ _ _ λ tstart i₄.
        optional_tracks (bit mask bits.startdir) _ _ _ _ _ _ λ startdir i₅.
        join_tracks _ _ (many_tracks (number_of points * point_width mask) _ _ i₅) (
        optional_tracks (bit mask bits.tend) _ _ _ _ _ _ λ tend i₆.
        optional_tracks (bit mask bits.enddir) _ _ _ _ _ _ λ enddir i₇.
        nothing_tracks _ _ i₇)),
  )

  read_by_places : (sector mask).parse base ws ≡ out_at ws base by_places.0 by_places.1
  read_by_places = rw add-zero at (by_places.2.reads zero-le)

  -- the steps of the reader, each from the place behind the one before
  module _ {number step points tstart startdir : Took} (is_number : number ≡ take_at (bit mask bits.number) ws 0)
      (is_step : step ≡ take_at (bit mask bits.step) ws number.at) (is_points : points ≡ take_at (bit mask bits.points) ws step.at)
      (is_tstart : tstart ≡ take_at (bit mask bits.tstart) ws points.at)
      (is_startdir : startdir ≡ take_at (bit mask bits.startdir) ws tstart.at) where
    -- where the points start
    pub start_within : startdir.at ≤ length ws + 1
    start_within =
        took_within _ ws _ _ is_startdir
        (took_within _ ws _ _ is_tstart
        (took_within _ ws _ _ is_points (took_within _ ws _ _ is_step (took_within _ ws _ _ is_number zero-le))))

    module _ {count width len behind : ℕ} (is_count : count ≡ number_of points.word) (is_width : width ≡ point_width mask)
        (is_len : len ≡ count * width) (is_behind : behind ≡ skip_at len ws startdir.at) {tend enddir : Took}
        (is_tend : tend ≡ take_at (bit mask bits.tend) ws behind) (is_enddir : enddir ≡ take_at (bit mask bits.enddir) ws tend.at) where
      abbrev pub walked : SectorReading
      walked =
          record {
            number = number.word;
            step = step.word;
            points = points.word;
            tstart = tstart.word;
            startdir = startdir.word;
            start = base + startdir.at;
            len = len;
            tend = tend.word;
            enddir = enddir.word;
          }

      found : (sector mask).parse base ws ≡ out_at ws base walked enddir.at
      unfolding by_places
      found =
          rw (
            read_by_places,
            ← is_number,
            ← is_step,
            ← is_points,
            ← is_tstart,
            ← is_startdir,
            ← is_count,
            ← is_width,
            ← is_len,
            ← is_behind,
            ← is_tend,
            ← is_enddir,
          )

      pub sector_cut : length ws < enddir.at → None ≡ found_of ((sector mask).parse base ws)
      sector_cut h = sym (ap found_of (found ∙ past_out ws base walked enddir.at h))

      pub sector_whole : enddir.at ≤ length ws
          → Some (walked, base + enddir.at) ≡ found_of ((sector mask).parse base ws)
      sector_whole h = sym (ap found_of (found ∙ in_out ws base walked enddir.at h))
