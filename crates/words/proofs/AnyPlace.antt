-- What a format finds goes by the words, not by the place it is told to stand at: from every place it leaves the same words, or ends early.
use Prim.Native.Nat.{ℕ}
use mathlib.Core.Path.{◌≡◌, refl, sym, ◌∙◌, ap, subst}
use mathlib.Core.List.{List, ◌++◌}
use lib.ListN.{drop, replicate, length-replicate}
use lib.Seq.{drop_at}
use Rattle.words.specs.Parse.{Got, short, got}
use Rattle.words.specs.Format.{Format}
use Rattle.words.proofs.Lawful.{Sound, SoundOf, Complete, Lawful}

-- both end early, or leave the same words
abbrev pub SameLeft : {A : Type 0} → Got A → Got A → Type 0
SameLeft short short = Unit {0}
SameLeft short (got a b ws) = ⊥
SameLeft (got a b ws) short = ⊥
SameLeft (got a b ws) (got a' b' ws') = ws ≡ ws'

-- a list that has these words at a place: zeros stand in front of them
abbrev standing : ℕ → List ℕ → List ℕ
standing b ws = replicate b 0 ++ ws

stands_there : (b : ℕ) (ws : List ℕ) → drop b (standing b ws) ≡ ws
stands_there b ws = drop_at (replicate b 0) ws b (length-replicate b 0)

module _ {A F : Type 0} (c : Format A F) (lawful : Lawful c) (b b' : ℕ) (ws : List ℕ) where
  -- what is read at one place was laid out there, so that it is read at the other
  read_too : {a : A} {n : ℕ} {rest : List ℕ} → c.parse b ws ≡ got a n rest → (a' : A) × (n' : ℕ) × (c.parse b' ws ≡ got a' n' rest)
  read_too {a} {n} {rest} e =
      let W = standing b ws in
      let s : Sound c W b a n rest = subst (SoundOf c W b) (ap (c.parse b) (stands_there b ws) ∙ e) (lawful.sound W b) in
      let laid : drop b' (standing b' ws) ≡ c.put (c.strip W a) ++ rest = stands_there b' ws ∙ sym (stands_there b ws) ∙ s.words in
      let t : Complete c (standing b' ws) b' (c.strip W a) rest = lawful.complete (standing b' ws) b' (c.strip W a) rest s.fits laid in
      (t.value, t.place, sym (ap (c.parse b') (stands_there b' ws)) ∙ t.reads)

pub any_place : {A F : Type 0} (c : Format A F) → Lawful c → (b b' : ℕ) (ws : List ℕ) → SameLeft (c.parse b ws) (c.parse b' ws)
any_place {A} c lawful b b' ws = go (c.parse b ws) refl (c.parse b' ws) refl
  where
    go : (g : Got A) → c.parse b ws ≡ g → (g' : Got A) → c.parse b' ws ≡ g' → SameLeft g g'
    go short e short e' = tt
    go short e (got a n rest) e' =
        let r = read_too c lawful b' b ws e' in
        subst (λ (g : Got A). SameLeft g (got a n rest)) (sym r.2 ∙ e) refl
    go (got a n rest) e g' e' =
        let r = read_too c lawful b b' ws e in
        subst (SameLeft (got a n rest)) (sym r.2 ∙ e') refl
