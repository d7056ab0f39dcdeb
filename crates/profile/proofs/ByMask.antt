-- A profile of either kind: `put_head_by` by the kind of the mask; `write_by`, its head, its contour and its end, and what
-- stands in the buffer when they are written.
use mathlib.Core.Path.{◌≡◌, sym, ap, ◌∙◌}
use mathlib.Core.List.{List, ◌++◌, append-nil}
use Prim.Native.Nat.{ℕ, ◌+◌, ◌≤◌}
use native.Mathlib.Omega.{arith}
use lib.ListN.{length, length-append}
use Rattle.words.specs.Buffers.{Wrote, Put}
use Rattle.words.proofs.Puts.{room, and_put}
use Rattle.layout.specs.declared.Mask.{Mask}
use Rattle.layout.specs.MixedMasks.{mixed_number, mask_number}
use Rattle.layout.specs.Layout.{head, contour}
use Rattle.layout.specs.Mixed.{mixed_head}
use Rattle.plan.specs.Sectors.{active_of}
use Rattle.profile.proofs.PointSums.{count_fits}
use Rattle.state.specs.declared.State.{State}
use Rattle.profile.specs.Profiles.{Scan, fields_of}
use Rattle.profile.specs.Revolutions.{profile_by}
use Rattle.profile.specs.Asked.{ContourAsked, ProfileAsked, contour_fields, reflector_part_of, head_by, layer_by, end_by}
use Rattle.profile.proofs.ProfileLengths.{fields_many}

-- `put_head_by`
module _ (mask : Mask) (n : ℕ) {d₀ d : List ℕ} {r : ℕ} where
  pub plain_head : {word : ℕ} → mask ≡ Mask.Plain word → Wrote (head word n) d₀ d r → Wrote (head_by mask n) d₀ d r
  plain_head e w = rw e w

  pub mixed_head_lem : {high low : ℕ} → mask ≡ Mask.Mixed high low → Wrote (mixed_head high low n) d₀ d r → Wrote (head_by mask n) d₀ d r
  mixed_head_lem e w = rw e w

-- a profile is its head, its contour and its end
by_parts : (s : State) (g : Scan) (mask : Mask) (sent counter n : ℕ) → n ≡ length (active_of s.working)
    → profile_by s g mask sent counter
    ≡ head_by mask n ++ contour (contour_fields s g (mask_number mask) (layer_by mask) sent counter) ++ end_by mask g.reflectors
by_parts s g (Mask.Plain word) sent counter n count =
    let many : length (fields_of s g word sent counter).sectors ≡ n = fields_many s g word sent counter ∙ sym count in
    (λ j. head word (many j) ++ contour (fields_of s g word sent counter)) ∙ sym (append-nil _)
by_parts s g (Mask.Mixed high low) sent counter n count =
    let k = mixed_number high low in
    let many : length (fields_of s g k sent counter).sectors ≡ n = fields_many s g k sent counter ∙ sym count in
    (λ j. mixed_head high low (many j) ++ contour (contour_fields s g k 1 sent counter) ++ reflector_part_of k g.reflectors)

-- `write_by`, with the number of sectors, the mask's number and the layer as the code has them
module _ {s : State} {g : Scan} {mask : Mask} {sent counter : ℕ} {d₀ : List ℕ} {n m : ℕ}
    (asked : ProfileAsked s g mask sent counter d₀) (count : n ≡ length (active_of s.working)) (em : m ≡ mask_number mask) where
  abbrev end : List ℕ
  end = end_by mask g.reflectors

  abbrev middle : ℕ → List ℕ
  middle layer = contour (contour_fields s g m layer sent counter)

  pub few_sectors : n ≤ 8
  few_sectors = count_fits s.working.sectors n asked.eight count

  words : profile_by s g mask sent counter ≡ head_by mask n ++ middle (layer_by mask) ++ end
  words = rw em (by_parts s g mask sent counter n count)

  fits : length (head_by mask n) + length (middle (layer_by mask)) + length end ≤ length d₀
  fits =
      let h : length (profile_by s g mask sent counter) ≡ length (head_by mask n) + length (middle (layer_by mask)) + length end =
      ap length words ∙ length-append (head_by mask n ++ middle (layer_by mask)) end ∙ rw (length-append (head_by mask n) (middle (layer_by mask))) in
      omega (arith, asked.room)

  pub head_asked : (n ≤ 8) × (length (head_by mask n) ≤ length d₀)
  head_asked = (few_sectors, omega (arith, fits))

  module _ {d₁ : List ℕ} {at₁ : ℕ} (begun : Wrote (head_by mask n) d₀ d₁ at₁) where
    pub contour_asked : (layer : ℕ) → layer ≡ layer_by mask → ContourAsked s g m layer sent counter at₁ d₁
    contour_asked layer el =
        record {
          eight = asked.eight;
          arcs_in = asked.arcs_in;
          room = rw el (room begun (middle (layer_by mask)) (omega (arith, fits)));
        }

    module _ {d₂ : List ℕ} {at₂ : ℕ} {layer : ℕ} (el : layer ≡ layer_by mask) (filled : Put (middle layer) d₁ at₁ d₂ at₂) where
      two : Wrote (head_by mask n ++ middle (layer_by mask)) d₀ d₂ at₂
      two = and_put begun (rw el at filled)

      pub end_asked : (at₂ + length end ≤ length d₂) × (length g.reflectors ≤ 704)
      end_asked = (room two end (rw length-append fits), asked.few)

      pub by_done : {d₃ : List ℕ} {r : ℕ} → Put end d₂ at₂ d₃ r → Wrote (profile_by s g mask sent counter) d₀ d₃ r
      by_done p = rw words (and_put two p)
