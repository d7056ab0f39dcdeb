-- An answer as the code holds it, words filled up with zeros: how it is filled, and that the outcome can be read off it.
use mathlib.Core.Path.{◌≡◌, refl, sym, ap, ◌∙◌}
use mathlib.Core.List.{List, [], ◌∷◌, ◌++◌}
use Prim.Native.Nat.{ℕ, zero, suc, ◌≤◌}
use native.Mathlib.Omega.{arith}
use lib.ListN.{length, take, drop, replicate}
use lib.Seq.{take-take, take-append_seam, length-take-le}
use Rattle.state.specs.declared.State.{State}
use Rattle.state.specs.Replies.{Outcome}
use Rattle.services.specs.declared.Served.{Served}
use Rattle.services.specs.Answers.{answer, longest, Gives, unpacked}

-- zeros behind words are those of a list of zeros, or as many as fill it up
zeros : (n m : ℕ) → n ≤ m → take {A = ℕ} n (replicate m 0) ≡ replicate n 0
zeros zero m h = refl
zeros (suc n) zero h = absurd (omega arith)
zeros (suc n) (suc m) h = ap (λ (l : List ℕ). 0 ∷ l) (zeros n m (omega arith))

pub filled_up : (ws : List ℕ) (n m : ℕ) → length ws ≤ n → n ≤ m → ws ++ drop (length ws) (replicate n 0) ≡ take n (ws ++ replicate m 0)
filled_up [] n m h k = sym (zeros n m k)
filled_up (w ∷ ws) zero m h k = absurd (omega arith)
filled_up (w ∷ ws) (suc n) m h k = ap (λ (l : List ℕ). w ∷ l) (filled_up ws n m (omega arith) (omega arith))

-- `say`: the words over zeros
pub is_said : (s : State) (ws front : List ℕ) → length ws ≤ longest → front ≡ ws
    → Gives (record { state = s; words = front ++ drop (length ws) (replicate longest 0); count = length ws }) (answer s ws)
is_said s ws front h e =
    record {
      same =
          ap (λ (l : List ℕ). record { state = s; words = l; count = length ws })
          (rw e (filled_up ws longest longest h (omega arith)));
      short = h;
    }

pub unpacked_long : (v : Served) → length v.words ≡ longest → v.count ≤ longest → length (unpacked v).words ≡ v.count
unpacked_long v e h = length-take-le _ _ (omega arith)

pub unpacks : (v : Served) (o : Outcome) → Gives v o → unpacked v ≡ o
unpacks v o g =
    let short : length o.words ≤ longest = rw g.same at g.short in
    ap unpacked g.same
    ∙ rw (take-take (length o.words) longest (o.words ++ replicate longest 0) short, take-append_seam o.words (replicate longest 0))
