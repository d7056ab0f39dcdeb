-- The loop of `write_sectors`: a sector a turn, each into the rest of the buffer.
use mathlib.Core.Path.{◌≡◌, refl, sym, ap, ◌∙◌}
use mathlib.Core.List.{List, [], ◌∷◌, ◌++◌}
use Prim.Native.Nat.{ℕ, suc, ◌+◌, ◌-◌, ◌≤◌, ◌<◌}
use native.Mathlib.Nat.{add-zero, zero-add, add-suc, suc-add}
use native.Mathlib.Omega.{arith}
use lib.ListN.{length, get_or, take, drop, length-take, length-drop}
use Rattle.words.specs.Words.{laid_all}
use Rattle.words.specs.Buffers.{in_turn, Wrote, Put}
use Rattle.words.proofs.Arrays.{from_here}
use Rattle.words.proofs.Each.{each_at}
use Rattle.words.proofs.Puts.{turn_first, turn_fits, turn_put, turns_all, lent_put}
use Rattle.layout.specs.Layout.{layout_sector}
use Rattle.plan.specs.declared.Arc.{Arc}
use Rattle.plan.specs.declared.Plan.{Plan}
use Rattle.plan.specs.Sectors.{active_of}
use Rattle.plan.specs.Shots.{last_stop, arcs, no_arc, arc_at}
use Rattle.plan.proofs.ArcSums.{active_length, arcs_length}
use Rattle.profile.specs.Profiles.{Scan, sector_of, sectors_of}
use Rattle.profile.specs.Asked.{sectors_words, SectorAsked, SectorsAsked}

laid_turns : (mask step rate : ℕ) (g : Scan) (f : ℕ → List ℕ) (n : ℕ) (l : List Arc)
    → ((j : ℕ) → f j ≡ layout_sector (sector_of mask step rate g (n + j) (get_or l j no_arc)))
    → laid_all layout_sector (sectors_of mask step rate g n l) ≡ in_turn f (length l)
unfolding in_turn
laid_turns mask step rate g f n [] h = refl
laid_turns mask step rate g f n (a ∷ l) h =
    let one : f 0 ≡ layout_sector (sector_of mask step rate g n a) = rw add-zero at (h 0) in
    let rest = laid_turns mask step rate g (λ j. f (suc j)) (suc n) l (λ j. h (suc j) ∙ rw (add-suc, suc-add)) in
    rw (turn_first, one, rest)

-- the words of the sector at a place
abbrev pub sector_words : ℕ → ℕ → ℕ → Scan → Plan → ℕ → List ℕ
sector_words mask step rate g p j = layout_sector (sector_of mask step rate g j (arc_at p step j))

-- there are at most eight arcs
pub few_arcs : (p : Plan) (step : ℕ) → length p.sectors ≡ 8 → length (arcs step (active_of p)) ≤ 8
few_arcs p step len = omega (arith, arcs_length step (last_stop 0 (active_of p)) 0 (active_of p), active_length p.sectors)

-- the arc of a place, and the others behind it, where the arcs from that place on are these
pub record ArcHere (p : Plan) (step k : ℕ) (a : Arc) (rest : List Arc) : Type 0 where
  pub active : k < length (active_of p)
  pub here : a ≡ arc_at p step k
  pub behind : drop (k + 1) (arcs step (active_of p)) ≡ rest

pub arc_found : (p : Plan) (step k : ℕ) {a : Arc} {rest : List Arc} → drop k (arcs step (active_of p)) ≡ a ∷ rest → ArcHere p step k a rest
unfolding arc_at
arc_found p step k {a} {rest} cut =
    let left : k < length (arcs step (active_of p)) =
    let e = sym (length-drop k (arcs step (active_of p))) ∙ ap length cut in omega arith in
    let same : a ∷ rest ≡ get_or (arcs step (active_of p)) k no_arc ∷ drop (k + 1) (arcs step (active_of p)) =
    sym cut ∙ from_here (arcs step (active_of p)) k no_arc left in
    record {
      active = rw (← arcs_length step (last_stop 0 (active_of p)) 0 (active_of p)) left;
      here = ap (λ (l : List Arc). get_or l 0 no_arc) same;
      behind = sym (ap (λ (l : List Arc). drop 1 l) same);
    }

module _ {mask step rate : ℕ} {g : Scan} {p : Plan} {from : ℕ} {d₀ : List ℕ} (asked : SectorsAsked mask step rate g p from d₀)
    {n : ℕ} (en : n ≡ length (active_of p)) where
  many : length (arcs step (active_of p)) ≡ n
  many = arcs_length step (last_stop 0 (active_of p)) 0 (active_of p) ∙ sym en

  laid : sectors_words mask step rate g p ≡ in_turn (sector_words mask step rate g p) n
  unfolding arc_at
  laid = rw (← many) (laid_turns mask step rate g (sector_words mask step rate g p) 0 (arcs step (active_of p)) (λ j. rw zero-add))

  all_room : from + length (in_turn (sector_words mask step rate g p) n) ≤ length d₀
  all_room = rw laid at asked.room

  module _ {d : List ℕ} {k to : ℕ} (so_far : Put (in_turn (sector_words mask step rate g p) k) d₀ from d to) (h : k < n) where
    next_room : to + length (sector_words mask step rate g p k) ≤ length d
    next_room = turn_fits (sector_words mask step rate g p) n all_room so_far h

    pub behind_sectors : to ≤ length d
    behind_sectors = omega (arith, next_room)

    module _ {a : Arc} (ea : a ≡ arc_at p step k) where
      pub sector_asked : SectorAsked mask step rate g k a (take (length d - to) (drop to d))
      unfolding arc_at
      sector_asked =
          let r = next_room in
          rw ea
          record {
            arc = each_at no_arc k asked.arcs_in (omega (arith, many));
            room = rw (length-take, length-drop) (omega arith);
          }

      module _ {part : List ℕ} {m : ℕ}
          (w : Wrote (layout_sector (sector_of mask step rate g k a)) (take (length d - to) (drop to d)) part m) where
        pub sector_fits : to + m ≤ length d
        sector_fits = let r = rw (← ea) at next_room in omega (arith, w.counted)

        pub sector_more : Put (in_turn (sector_words mask step rate g p) (k + 1)) d₀ from
            (take to d ++ (part ++ drop (length d - to) (drop to d))) (to + m)
        sector_more = turn_put (sector_words mask step rate g p) n all_room so_far (lent_put behind_sectors (rw ea at w))

  pub sectors_done : {d : List ℕ} {k to : ℕ} → Put (in_turn (sector_words mask step rate g p) k) d₀ from d to → k ≤ n
      → drop k (arcs step (active_of p)) ≡ []
      → Put (sectors_words mask step rate g p) d₀ from d to
  sectors_done {k = k} so_far h none_left =
      let l : length (arcs step (active_of p)) - k ≡ 0 = sym (length-drop k (arcs step (active_of p))) ∙ ap length none_left in
      rw laid (turns_all (sector_words mask step rate g p) n all_room so_far h (omega (arith, many, l)))
