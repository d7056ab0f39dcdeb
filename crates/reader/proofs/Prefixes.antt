-- Words of which only the front is given: what is there whole is read as in the whole, and what is not is longer than they are.
use Prim.Native.Nat.{ℕ, suc, ◌+◌, ◌≤◌, ◌<◌}
use mathlib.Core.Path.{◌≡◌, refl, sym, ◌∙◌, ap, subst}
use mathlib.Core.Logic.{◌⊎◌, inl, inr}
use mathlib.Core.List.{List, [], ◌∷◌, ◌++◌, append_assoc, append-nil}
use mathlib.Core.Bool.{Bool, true, false}
use native.Mathlib.Omega.{arith}
use lib.Dec.{ltb}
use lib.ListN.{length, get_or, take, drop, length-append}
use borrow.Author.Tests.{ltb-true, ltb-false}
use Rattle.words.specs.Words.{laid_all}
use Rattle.words.specs.Parse.{Got, short, got}
use Rattle.words.specs.Format.{Format, AllOk}
use Rattle.words.proofs.Lawful.{Sound, SoundOf, Complete, Lawful}
use Rattle.reader.specs.Endings.{one_more_of, wholes}
use Rattle.reader.proofs.Bodies.{value_of}

-- what is behind a front that is shorter
pub front_of : {A : Type 0} (xs ys us vs : List A) → xs ++ us ≡ ys ++ vs → length ys ≤ length xs → xs ≡ ys ++ drop (length ys) xs
front_of xs [] us vs e h = refl
front_of [] (y ∷ ys) us vs e h = absurd (omega arith)
front_of (x ∷ xs) (y ∷ ys) us vs e h =
    let same = ap (λ zs. get_or zs 0 x) e in
    (λ j. same j ∷ front_of xs ys us vs (ap (drop 1) e) (omega arith) j)

abbrev rest_of : {A : Type 0} → Got A → List ℕ
rest_of short = []
rest_of (got a b ws) = ws

-- nothing found is not something found
pub not_both : {A : Type 0} {a : A} {b : ℕ} {ws : List ℕ} → ◌≡◌ {A = Got A} short (got a b ws) → ⊥
not_both e = absurd (let z : ◌≡◌ {A = ℕ} 0 1 = ap (λ g. one_more_of g (λ _ _. 0)) e in omega arith)

module _ {A F : Type 0} (c : Format A F) (lawful : Lawful c) where
  -- words are laid out in one way, whatever stands behind them
  one_way : (f g : F) (us vs : List ℕ) → c.ok f → c.ok g → c.put f ++ us ≡ c.put g ++ vs → (f ≡ g) × (us ≡ vs)
  one_way f g us vs ok_f ok-g e =
      let W = c.put f ++ us in
      let first : Complete c W 0 f us = lawful.complete W 0 f us ok_f refl in
      let second : Complete c W 0 g vs = lawful.complete W 0 g vs ok-g e in
      let same : got first.value first.place us ≡ got second.value second.place vs = sym first.reads ∙ second.reads in
      (sym first.same ∙ ap (λ g. c.strip W (value_of first.value g)) same ∙ second.same, ap rest_of same)

  -- what is found whole is what was laid out, and what is left goes on as what stands behind it
  pub found_same : (W : List ℕ) (b : ℕ) (f : F) (us vs : List ℕ) → c.ok f → drop b W ++ us ≡ c.put f ++ vs
      → {a : A} {b' : ℕ} {ws' : List ℕ} → Sound c W b a b' ws'
      → (c.strip W a ≡ f) × (ws' ++ us ≡ vs) × (length (drop b W) ≡ length (c.put f) + length ws')
  found_same W b f us vs ok is {a} {b'} {ws'} s =
      let word-by-word = sym (append_assoc (c.put (c.strip W a)) ws' us) ∙ ap (λ ws. ws ++ us) (sym s.words) ∙ is in
      let both = one_way (c.strip W a) f (ws' ++ us) vs s.fits ok word-by-word in
      let long = ap length s.words ∙ length-append (c.put (c.strip W a)) ws' ∙ ap (λ g. length (c.put g) + length ws') both.0 in
      (both.0, both.1, long)

  -- where nothing whole is found, the words end within it
  pub ends_within : (W : List ℕ) (b : ℕ) (f : F) (us vs : List ℕ) → c.ok f → c.parse b (drop b W) ≡ short → drop b W ++ us ≡ c.put f ++ vs
      → length (drop b W) < length (c.put f)
  ends_within W b f us vs ok e is = go (ltb (length (drop b W)) (length (c.put f))) refl
    where
      go : (t : Bool) → ltb (length (drop b W)) (length (c.put f)) ≡ t → length (drop b W) < length (c.put f)
      go true q = ltb-true _ _ q
      go false q =
          let whole = front_of (drop b W) (c.put f) us vs is (ltb-false _ _ q) in
          absurd (not_both (sym e ∙ (lawful.complete W b f _ ok whole).reads))

  -- so many words end behind all of them; or behind k of them, within the next
  abbrev pub Stops : List F → ℕ → ℕ → Type 0
  Stops fs k len =
      ((k ≡ length fs) × (length (laid_all c.put fs) ≤ len))
      ⊎ ((k < length fs)
      × (length (laid_all c.put (take k fs)) ≤ len)
      × (len < length (laid_all c.put (take k fs)) + length (laid_all c.put (take 1 (drop k fs)))))

  one_further : (f : F) (fs : List F) (k len : ℕ) → Stops fs k len → Stops (f ∷ fs) (suc k) (length (c.put f) + len)
  one_further f fs k len (inl s) = inl (ap suc s.0, rw length-append (let h = s.1 in omega arith))
  one_further f fs k len (inr s) =
      let less = s.0 in
      let from = s.1 in
      let below = s.2 in
      inr (omega arith, rw length-append (omega arith), rw length-append (omega arith))

  -- the first of them, and then the others by what is said of them
  one_stops : (f : F) (fs : List F) (W : List ℕ) (b : ℕ) (us vs : List ℕ) → c.ok f → drop b W ++ us ≡ c.put f ++ (laid_all c.put fs ++ vs)
      → ((b' : ℕ) → drop b' W ++ us ≡ laid_all c.put fs ++ vs
      → Stops fs (wholes (length fs) c.parse b' (drop b' W)) (length (drop b' W)))
      → (g : Got A) → c.parse b (drop b W) ≡ g → SoundOf c W b g
      → Stops (f ∷ fs) (one_more_of g (wholes (length fs) c.parse)) (length (drop b W))
  one_stops f fs W b us vs ok is others short e s =
      let within = ends_within W b f us _ ok e is in
      inr (omega arith, omega arith, rw (append-nil (c.put f)) (omega arith))
  one_stops f fs W b us vs ok is others (got a b' ws') e s =
      let same = found_same W b f us _ ok is s in
      let there = subst (λ ws. Stops fs (wholes (length fs) c.parse b' ws) (length ws)) s.rest
      (others b' (ap (λ ws. ws ++ us) s.rest ∙ same.1)) in
      rw same.2 (one_further f fs _ (length ws') there)

  pub stops : (fs : List F) (W : List ℕ) (b : ℕ) (us vs : List ℕ) → AllOk c.ok (length fs) fs → drop b W ++ us ≡ laid_all c.put fs ++ vs
      → Stops fs (wholes (length fs) c.parse b (drop b W)) (length (drop b W))
  stops [] W b us vs ok is = inl (refl, omega arith)
  stops (f ∷ fs) W b us vs ok is =
      one_stops f fs W b us vs ok.0 (is ∙ append_assoc (c.put f) (laid_all c.put fs) vs) (λ b' is'. stops fs W b' us vs ok.1 is')
      (c.parse b (drop b W)) refl (lawful.sound W b)
