-- The loop of `join`: what it has kept of the active sectors, and what is left of them.
use mathlib.Core.Path.{◌≡◌, refl, sym, ap, ◌∙◌}
use mathlib.Core.List.{List, [], ◌∷◌, ◌++◌, append-nil}
use Prim.Native.Nat.{ℕ, suc, ◌+◌, ◌-◌, ◌≤◌, ◌<◌}
use native.Mathlib.Omega.{arith}
use lib.ListN.{length, get_or, drop, set, replicate, length-append, length-set, drop_of_length-le}
use lib.Seq.{set_at, append_snoc}
use borrow.Author.Tests.{ne_eqb}
use Rattle.words.proofs.Arrays.{from_here}
use Rattle.plan.specs.declared.Sector.{Sector}
use Rattle.plan.specs.declared.Plan.{Plan}
use Rattle.plan.specs.Sectors.{unused, filled, active, active_of}
use Rattle.plan.proofs.ArcSums.{active_length}
use Rattle.normal.specs.NormalForm.{joined, normal, normal_plan}
use Rattle.normal.proofs.Joins.{Join, before, onto, join_view, absorb}

differs : (s t : Sector) (ss : List Sector) → (s.function ≡ t.function → ⊥) → joined s (t ∷ ss) ≡ s ∷ t ∷ ss
differs s t ss n = rw (ne_eqb s.function t.function n)

keeps_it : (s t : Sector) {ss r : List Sector} → Join t ss r → (s.function ≡ t.function → ⊥) → joined s r ≡ s ∷ r
keeps_it s t before n = differs s t _ n
keeps_it s t (onto q) n = differs s _ _ (λ e. n (e ∙ sym q))

-- a sector is kept at the end and before one of another function, and lost to one of its own
keep : (s t : Sector) (ss : List Sector) → (s.function ≡ t.function → ⊥) → normal (s ∷ t ∷ ss) ≡ s ∷ normal (t ∷ ss)
keep s t ss n = keeps_it s t (join_view t (normal ss)) n

-- a store behind what is kept
store : (a : List Sector) (s : Sector) (n : ℕ) → length a ≡ n → n < 8 → set (filled a).sectors n s ≡ (filled (a ++ (s ∷ []))).sectors
store a s n e h =
    let p : 8 - length a ≡ suc (7 - n) = omega arith in
    let q : 8 - length (a ++ (s ∷ [])) ≡ 7 - n = omega (arith, length-append a (s ∷ [])) in
    ap (λ (k : ℕ). set (a ++ replicate k unused) n s) p
    ∙ set_at a unused (replicate (7 - n) unused) s n e
    ∙ sym (append_snoc a s (replicate (7 - n) unused))
    ∙ ap (λ (k : ℕ). a ++ (s ∷ []) ++ replicate k unused) (sym q)

pub record Joining (ss out : List Sector) (n i : ℕ) : Type 0 where
  pub few : length ss ≤ 8
  pub eight : length out ≡ 8
  pub behind : n ≤ i
  pub kept : List Sector
  pub count : length kept ≡ n
  pub out_is : out ≡ (filled kept).sectors
  pub rest : kept ++ normal (drop i ss) ≡ normal ss

pub starts : (l ss out : List Sector) → ss ≡ active l → length l ≡ 8 → out ≡ (filled []).sectors → Joining ss out 0 0
starts l ss out e len o =
    record {
      few = omega (arith, rw (← e) at (active_length l));
      eight = ap length o;
      behind = omega arith;
      kept = [];
      count = refl;
      out_is = o;
      rest = refl;
    }

module _ (ss out : List Sector) (n i : ℕ) (j : Joining ss out n i) where
  pub ends : (p : Plan) → ss ≡ active_of p → length ss ≤ i → record { sectors = out } ≡ normal_plan p
  ends p e h =
      ap (λ (a : List Sector). record { sectors = a }) j.out_is
      ∙ ap filled
      (sym (append-nil j.kept) ∙ ap (λ (a : List Sector). j.kept ++ normal a) (sym (drop_of_length-le ss {i = i} h)) ∙ j.rest ∙ ap normal e)

  module _ (h : i < length ss) where
    pub place : n < 8
    place = omega (arith, j.behind, j.few)

    goes_on : (r : List Sector) → normal (get_or ss i unused ∷ drop (i + 1) ss) ≡ r → j.kept ++ r ≡ normal ss
    goes_on r e = ap (λ (a : List Sector). j.kept ++ a) (sym (ap normal (from_here ss i unused h) ∙ e)) ∙ j.rest

    -- what the loop has at its next turn
    module _ (out' : List Sector) (n' : ℕ) where
      kept_here : out' ≡ set out n (get_or ss i unused) → n' ≡ n + 1
          → normal (get_or ss i unused ∷ drop (i + 1) ss) ≡ get_or ss i unused ∷ normal (drop (i + 1) ss) → Joining ss out' n' (i + 1)
      kept_here o m e =
          record {
            few = j.few;
            eight = rw (o, length-set) j.eight;
            behind = omega (arith, j.behind);
            kept = j.kept ++ (get_or ss i unused ∷ []);
            count = omega (arith, length-append j.kept (get_or ss i unused ∷ []), j.count);
            out_is = o ∙ ap (λ (a : List Sector). set a n (get_or ss i unused)) j.out_is ∙ store j.kept _ n j.count place;
            rest = append_snoc j.kept _ _ ∙ goes_on _ e;
          }

      pub at_end : i + 1 ≡ length ss → out' ≡ set out n (get_or ss i unused) → n' ≡ n + 1 → Joining ss out' n' (i + 1)
      at_end k o m = kept_here o m (rw (drop_of_length-le ss {i = i + 1} (omega arith)) refl)

      module _ (k : i + 1 ≡ length ss → ⊥) where
        next : drop (i + 1) ss ≡ get_or ss (i + 1) unused ∷ drop (i + 1 + 1) ss
        next = from_here ss (i + 1) unused (omega arith)

        pub keeps : ((get_or ss i unused).function ≡ (get_or ss (i + 1) unused).function → ⊥)
            → out' ≡ set out n (get_or ss i unused) → n' ≡ n + 1 → Joining ss out' n' (i + 1)
        keeps e o m = kept_here o m (rw next (keep (get_or ss i unused) (get_or ss (i + 1) unused) (drop (i + 1 + 1) ss) e))

        pub skips : (get_or ss i unused).function ≡ (get_or ss (i + 1) unused).function → out' ≡ out → n' ≡ n → Joining ss out' n' (i + 1)
        skips e o m =
            record {
              few = j.few;
              eight = rw o j.eight;
              behind = omega (arith, j.behind);
              kept = j.kept;
              count = j.count ∙ sym m;
              out_is = o ∙ j.out_is;
              rest = goes_on _ (rw next (absorb (get_or ss i unused) (get_or ss (i + 1) unused) _ e));
            }
