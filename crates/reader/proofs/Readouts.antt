-- A whole reading: its head, and what its contour gives.
use mathlib.Core.Path.{◌≡◌, sym, ◌∙◌, ap}
use mathlib.Core.List.{List}
use Prim.Native.Nat.{ℕ, ◌≤◌, ◌<◌}
use lib.ListN.{length, drop, drop_of_length-le}
use lib.Seq.{drop-cons}
use Rattle.std.specs.Prelude.{Ok, Err}
use Rattle.words.specs.Parse.{Got}
use Rattle.layout.specs.declared.Kind.{Kind}
use Rattle.layout.specs.Layout.{head_length}
use Rattle.reader.specs.declared.ContourReading.{ContourReading}
use Rattle.reader.specs.declared.SectorReading.{SectorReading}
use Rattle.reader.specs.declared.Part.{Part}
use Rattle.reader.specs.declared.ReadRefusal.{ReadRefusal}
use Rattle.reader.specs.declared.ReadRefusal.TheVariants.{EndsEarly, LeftOver}
use Rattle.reader.specs.Said.{Nowhere, At, refusal_number}
use Rattle.reader.specs.Endings.{part_missing}
use Rattle.reader.specs.Readings.{mask_in, count_in, head_refusal, refused_reading, with_left, end_of, ended, read_of, ReadSays, Body, body}
use Rattle.reader.specs.Places.{part_from, ContourWhole, ContourCut}
use Rattle.reader.proofs.Heads.{head_placeless, some_number}
use Rattle.reader.proofs.Accepted.{by_head, by_body}

-- the head is refused
pub refused_head : (ws : List ℕ) (e : ReadRefusal Part) → refusal_number e ≡ head_refusal ws → ReadSays ws (Err e)
refused_head ws e h =
    rw (head_placeless Kind.Plain ws e h)
    (ap (λ (n : ℕ). refused_reading n Nowhere) h ∙ sym (by_head ws (λ z. some_number e (h ∙ z))))

-- the ways out behind a head that passes
module _ (ws : List ℕ) (head : 0 ≡ head_refusal ws) where
  behind : {g : Got (Body SectorReading)} → (body (mask_in ws) (count_in ws)).parse head_length (drop head_length ws) ≡ g
      → read_of ws ≡ ended (mask_in ws) (count_in ws) (end_of ws) g
  behind = by_body ws (sym head)

  pub body_cut : (part : Part) → ContourCut ws head_length (mask_in ws) (count_in ws) part → ReadSays ws (Err (EndsEarly (length ws) part))
  unfolding part_missing part_from
  body_cut part cut = ap (λ (p : Part). refused_reading 15 (At (length ws) p)) cut.is ∙ sym (behind cut.found)

  module _ {c : ContourReading} {next : ℕ} (whole : ContourWhole ws head_length (mask_in ws) (count_in ws) c next) where
    pub body_over : next < length ws → ReadSays ws (Err LeftOver)
    body_over h =
        let left : refused_reading 16 Nowhere ≡ with_left (mask_in ws) (count_in ws) whole.value (drop next ws) = rw (drop-cons ws next 0 h) in
        left ∙ sym (behind whole.found)

    pub body_whole : length ws ≤ next → ReadSays ws (Ok (record { mask = mask_in ws; contour = c }))
    body_whole h =
        rw (
          whole.sent,
          whole.counter,
          whole.layer,
          whole.count,
          whole.entries,
          whole.high,
          whole.low,
        ) (sym (behind whole.found ∙ rw (drop_of_length-le ws h)))
