-- One format and then another is lawful where both are, and so is a format n times.
use Prim.Native.Nat.{ℕ, zero, suc, ◌+◌}
use mathlib.Core.Path.{◌≡◌, refl, sym, ◌∙◌, ap, subst}
use mathlib.Core.List.{List, [], ◌∷◌, ◌++◌, append_assoc}
use native.Mathlib.Omega.{arith}
use lib.ListN.{length, drop, length-append}
use Rattle.words.specs.Lists.{none, this}
use Rattle.words.specs.Words.{laid_all}
use Rattle.words.specs.Parse.{Got, short, got, Parser, after, map_got, times_parse}
use Rattle.words.specs.Format.{Format, chain, AllOk, times}
use Rattle.words.proofs.Lawful.{Sound, SoundOf, KeptOf, InsideOf, StandsOf, Complete, Lawful}

-- m is k and then l, which may go by what k read; make puts what both read together
pub record Makes {A F B G C H : Type 0} (k : Format A F) (l : A → Format B G) (m : Format C H) (make : A → B → C) : Type 0 where
  pub put : (W : List ℕ) (a : A) (c : B) → m.put (m.strip W (make a c)) ≡ k.put (k.strip W a) ++ (l a).put ((l a).strip W c)
  pub ok : (W : List ℕ) (a : A) (c : B) → k.ok (k.strip W a) → (l a).ok ((l a).strip W c) → m.ok (m.strip W (make a c))
  pub inside : (n : ℕ) (a : A) (c : B) → k.inside n a → (l a).inside n c → m.inside n (make a c)
  pub stands : (W : List ℕ) (b : ℕ) (a : A) (c : B)
      → k.stands W b a → (l a).stands W (b + length (k.put (k.strip W a))) c → m.stands W b (make a c)

-- k and then l
abbrev pub both : {A B C : Type 0} → Got A → (A → Parser B) → (A → B → C) → Got C
both g p make = after g (λ a b ws. map_got (make a) (p a b ws))

module _ {A F B G C H : Type 0} (k : Format A F) (l : A → Format B G) (m : Format C H) (make : A → B → C) (made : Makes k l m make) where
  second_sound : (W : List ℕ) (b : ℕ) (a : A) (b₁ : ℕ) (ws₁ : List ℕ) → Sound k W b a b₁ ws₁ → (g : Got B) → SoundOf (l a) W b₁ g
      → SoundOf m W b (map_got (make a) g)
  second_sound W b a b₁ ws₁ s short t = tt
  second_sound W b a b₁ ws₁ s (got c b₂ ws₂) t =
      record {
        rest = t.rest;
        words = rw (made.put W a c, append_assoc) (s.words ∙ ap (λ (ws : List ℕ). k.put (k.strip W a) ++ ws) (sym s.rest ∙ t.words));
        fits = made.ok W a c s.fits t.fits;
      }

  pub both_sound : (W : List ℕ) (b : ℕ) (g : Got A) → SoundOf k W b g → ((a : A) (b₁ : ℕ) → SoundOf (l a) W b₁ ((l a).parse b₁ (drop b₁ W)))
      → SoundOf m W b (both g (λ a. (l a).parse) make)
  both_sound W b short s t = tt
  both_sound W b (got a b₁ ws₁) s t = rw (← s.rest) (second_sound W b a b₁ ws₁ s ((l a).parse b₁ (drop b₁ W)) (t a b₁))

  second_within : (n : ℕ) (a : A) → k.inside n a → (g : Got B) → InsideOf (l a) n g → InsideOf m n (map_got (make a) g)
  second_within n a s short t = tt
  second_within n a s (got c b₂ ws₂) t = made.inside n a c s t

  pub both_within : (b : ℕ) (ws : List ℕ) (g : Got A) → KeptOf b ws g → InsideOf k (b + length ws) g
      → ((a : A) (b₁ : ℕ) (ws₁ : List ℕ) → InsideOf (l a) (b₁ + length ws₁) ((l a).parse b₁ ws₁))
      → InsideOf m (b + length ws) (both g (λ a. (l a).parse) make)
  both_within b ws short e s t = tt
  both_within b ws (got a b₁ ws₁) e s t =
      second_within (b + length ws) a s ((l a).parse b₁ ws₁) (subst (λ (n : ℕ). InsideOf (l a) n ((l a).parse b₁ ws₁)) e (t a b₁ ws₁))

  second_kept : (b : ℕ) (ws : List ℕ) (a : A) (b₁ : ℕ) (ws₁ : List ℕ)
      → b₁ + length ws₁ ≡ b + length ws → (g : Got B) → KeptOf b₁ ws₁ g → KeptOf b ws (map_got (make a) g)
  second_kept b ws a b₁ ws₁ s short t = tt
  second_kept b ws a b₁ ws₁ s (got c b₂ ws₂) t = t ∙ s

  pub both_kept : (b : ℕ) (ws : List ℕ) (g : Got A) → KeptOf b ws g
      → ((a : A) (b₁ : ℕ) (ws₁ : List ℕ) → KeptOf b₁ ws₁ ((l a).parse b₁ ws₁))
      → KeptOf b ws (both g (λ a. (l a).parse) make)
  both_kept b ws short s t = tt
  both_kept b ws (got a b₁ ws₁) s t = second_kept b ws a b₁ ws₁ s ((l a).parse b₁ ws₁) (t a b₁ ws₁)

  second_located : (W : List ℕ) (b : ℕ) (a : A) → k.stands W b a → (b₁ : ℕ) → b₁ ≡ b + length (k.put (k.strip W a)) → (g : Got B)
      → StandsOf (l a) W b₁ g → StandsOf m W b (map_got (make a) g)
  second_located W b a s b₁ e short t = tt
  second_located W b a s b₁ e (got c b₂ ws₂) t = made.stands W b a c s (rw e at t)

  pub both_located : (W : List ℕ) (b : ℕ) (g : Got A) → SoundOf k W b g → KeptOf b (drop b W) g → StandsOf k W b g
      → ((a : A) (b₁ : ℕ) → StandsOf (l a) W b₁ ((l a).parse b₁ (drop b₁ W))) → StandsOf m W b (both g (λ a. (l a).parse) make)
  both_located W b short s e h t = tt
  both_located W b (got a b₁ ws₁) s e h t =
      let long = ap length s.words ∙ length-append (k.put (k.strip W a)) ws₁ in
      rw (← s.rest) (second_located W b a h b₁ (omega arith) ((l a).parse b₁ (drop b₁ W)) (t a b₁))

pub both_read : {A F B G C : Type 0} (k : Format A F) (l : A → Format B G) (make : A → B → C)
    (W : List ℕ) (b : ℕ) (f : F) (g : G) (mid post : List ℕ)
    → (s : Complete k W b f mid) (t : Complete (l s.value) W s.place g post)
    → both (k.parse b (drop b W)) (λ a. (l a).parse) make ≡ got (make s.value t.value) t.place post
both_read k l make W b f g mid post s t = rw (s.reads, ← s.behind, t.reads)

-- a chain: what is laid out second goes by the same key
module _ {K A F B G : Type 0} (k : Format A F) (key : A → K) (keyF : F → K) (l : K → Format B G)
    (k-lawful : Lawful k) (l-lawful : (x : K) → Lawful (l x)) (keys : (W : List ℕ) (a : A) → keyF (k.strip W a) ≡ key a) where
  chain_makes : Makes k (λ a. l (key a)) (chain k key keyF l) (λ a c. (a, c))
  chain_makes =
      record {
        put = λ W a c. rw (keys W a);
        ok = λ W a c s t. (s, rw (keys W a) t);
        inside = λ n a c s t. (s, t);
        stands = λ W b a c s t. (s, t);
      }

  chain_complete : (W : List ℕ) (b : ℕ) (f : F × G) (post : List ℕ) → (chain k key keyF l).ok f
      → Complete k W b f.0 ((l (keyF f.0)).put f.1 ++ post) → Complete (chain k key keyF l) W b f post
  chain_complete W b f post o s =
      let same_key : key s.value ≡ keyF f.0 = sym (keys W s.value) ∙ ap keyF s.same in
      let t : Complete (l (key s.value)) W s.place f.1 post =
      (l-lawful (key s.value)).complete W s.place f.1 post (rw same_key o.1) (rw same_key s.behind) in
      record {
        value = (s.value, t.value);
        place = t.place;
        reads = both_read k (λ a. l (key a)) (λ a c. (a, c)) W b f.0 f.1 _ post s t;
        same = λ i. (s.same i, t.same i);
        behind = t.behind;
      }

  pub chain_lawful : Lawful (chain k key keyF l)
  chain_lawful =
      record {
        sound = λ W b. both_sound k _ _ _ chain_makes W b (k.parse b (drop b W)) (k-lawful.sound W b) (λ a. (l-lawful (key a)).sound W);
        complete =
            λ W b f post o e. chain_complete W b f post o (k-lawful.complete W b f.0 ((l (keyF f.0)).put f.1 ++ post) o.0 (rw append_assoc at e));
        kept = λ b ws. both_kept k _ _ _ chain_makes b ws (k.parse b ws) (k-lawful.kept b ws) (λ a. (l-lawful (key a)).kept);
        within = λ b ws. both_within k _ _ _ chain_makes b ws (k.parse b ws) (k-lawful.kept b ws) (k-lawful.within b ws) (λ a. (l-lawful (key a)).within);
        located =
            λ W b. both_located k _ _ _ chain_makes W b (k.parse b (drop b W)) (k-lawful.sound W b) (k-lawful.kept b (drop b W)) (k-lawful.located W b)
            (λ a. (l-lawful (key a)).located W);
      }

-- n times
module _ {A F : Type 0} (k : Format A F) (k-lawful : Lawful k) where
  times_makes : (n : ℕ) → Makes k (λ _. times n k) (times (suc n) k) (λ x xs. x ∷ xs)
  times_makes n =
      record { put = λ W a c. refl; ok = λ W a c s t. (s, t); inside = λ n a c s t. this s t; stands = λ W b a c s t. (s, t) }

  times_sound : (n : ℕ) (W : List ℕ) (b : ℕ) → SoundOf (times n k) W b (times_parse n k.parse b (drop b W))
  times_sound zero W b = record { rest = refl; words = refl; fits = tt }
  times_sound (suc n) W b = both_sound k _ _ _ (times_makes n) W b (k.parse b (drop b W)) (k-lawful.sound W b) (λ a. times_sound n W)

  times_complete : (n : ℕ) (W : List ℕ) (b : ℕ) (fs : List F) (post : List ℕ)
      → AllOk k.ok n fs → drop b W ≡ laid_all k.put fs ++ post → Complete (times n k) W b fs post
  times_complete zero W b [] post o e = record { value = []; place = b; reads = ap (got [] b) e; same = refl; behind = e }
  times_complete zero W b (f ∷ fs) post o e = absurd o
  times_complete (suc n) W b [] post o e = absurd o
  times_complete (suc n) W b (f ∷ fs) post o e =
      let s : Complete k W b f (laid_all k.put fs ++ post) = k-lawful.complete W b f (laid_all k.put fs ++ post) o.0 (rw append_assoc at e) in
      let t : Complete (times n k) W s.place fs post = times_complete n W s.place fs post o.1 s.behind in
      record {
        value = s.value ∷ t.value;
        place = t.place;
        reads = both_read k (λ _. times n k) (λ x xs. x ∷ xs) W b f fs _ post s t;
        same = λ i. s.same i ∷ t.same i;
        behind = t.behind;
      }

  times_kept : (n b : ℕ) (ws : List ℕ) → KeptOf b ws (times_parse n k.parse b ws)
  times_kept zero b ws = refl
  times_kept (suc n) b ws = both_kept k _ _ _ (times_makes n) b ws (k.parse b ws) (k-lawful.kept b ws) (λ a. times_kept n)

  times_within : (n b : ℕ) (ws : List ℕ) → InsideOf (times n k) (b + length ws) (times_parse n k.parse b ws)
  times_within zero b ws = none
  times_within (suc n) b ws = both_within k _ _ _ (times_makes n) b ws (k.parse b ws) (k-lawful.kept b ws) (k-lawful.within b ws) (λ a. times_within n)

  times_located : (n : ℕ) (W : List ℕ) (b : ℕ) → StandsOf (times n k) W b (times_parse n k.parse b (drop b W))
  times_located zero W b = tt
  times_located (suc n) W b =
      both_located k _ _ _ (times_makes n) W b (k.parse b (drop b W)) (k-lawful.sound W b) (k-lawful.kept b (drop b W)) (k-lawful.located W b)
      (λ a. times_located n W)

  pub times_lawful : (n : ℕ) → Lawful (times n k)
  times_lawful n = record { sound = times_sound n; complete = times_complete n; kept = times_kept n; within = times_within n; located = times_located n }
