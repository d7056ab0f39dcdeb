-- Where the words end before a format is read, more words would have it laid out.
use Prim.Native.Nat.{ℕ, zero, suc, ◌-◌, ◌<◌}
use mathlib.Core.Path.{◌≡◌, refl, sym, ◌∙◌, ap}
use mathlib.Core.List.{List, [], ◌∷◌, ◌++◌, append_assoc}
use mathlib.Core.Bool.{Bool, true, false}
use native.Mathlib.Omega.{arith}
use lib.Dec.{T}
use lib.ListN.{length, drop, replicate, length-append, length-replicate}
use Rattle.std.specs.Prelude.{Option, Some}
use Rattle.words.specs.Lists.{some}
use Rattle.words.specs.Words.{given_if, Shaped}
use Rattle.words.specs.Parse.{Got, short, got, map_got, word}
use Rattle.words.specs.Format.{Format, nothing, one, many, chain, optional, join, times, recast}
use Rattle.words.proofs.Lawful.{Sound, SoundOf, Lawful, nothing_lawful, one_lawful, by_span, many_lawful, recast_lawful}
use Rattle.words.proofs.Formats.{both, chain_lawful, times_lawful}

-- words that are laid out up to where they end
pub record Extended {A F : Type 0} (c : Format A F) (ws : List ℕ) : Type 0 where
  pub fields : F
  pub more : List ℕ
  pub fits : c.ok fields
  pub some_more : T (some more)
  pub words : ws ++ more ≡ c.put fields

abbrev pub ExtendedOf : {A F : Type 0} → Format A F → List ℕ → Got A → Type 0
ExtendedOf c ws short = Extended c ws
ExtendedOf c ws (got a b' ws') = Unit {0}

-- a lawful format with something to lay out, that more words complete where they end early
pub record Extends {A F : Type 0} (c : Format A F) : Type 0 where
  pub lawful : Lawful c
  pub any : F
  pub any_fits : c.ok any
  pub extend : (W : List ℕ) (b : ℕ) → ExtendedOf c (drop b W) (c.parse b (drop b W))

-- there is a word among more of them
some_append : {A : Type 0} (xs ys : List A) → T (some xs) → T (some (xs ++ ys))
some_append [] ys t = absurd t
some_append (x ∷ xs) ys t = tt

some_zeros : (n : ℕ) → 0 < n → T (some {A = ℕ} (replicate n 0))
some_zeros zero h = absurd (omega arith)
some_zeros (suc n) h = tt

pub nothing_extends : Extends nothing
nothing_extends = record { lawful = nothing_lawful; any = tt; any_fits = tt; extend = λ W b. tt }

-- one word: a 0 where it is on
one_any : (on : Bool) → Shaped on (given_if on 0)
one_any true = tt
one_any false = tt

one_extend : (on : Bool) (b : ℕ) (ws : List ℕ) → ExtendedOf (one on) ws (word on b ws)
one_extend false b ws = tt
one_extend true b [] = record { fields = Some 0; more = 0 ∷ []; fits = tt; some_more = tt; words = refl }
one_extend true b (w ∷ ws) = tt

pub one_extends : (on : Bool) → Extends (one on)
one_extends on = record { lawful = one_lawful on; any = given_if on 0; any_fits = one_any on; extend = λ W b. one_extend on b (drop b W) }

-- n words: 0 for each that is not there
many_short : (n : ℕ) (ws : List ℕ) → length ws < n → Extended (many n) ws
many_short n ws h =
    let zeros : List ℕ = replicate (n - length ws) 0 in
    record {
      fields = ws ++ zeros;
      more = zeros;
      fits = rw (length-append, length-replicate) (omega arith);
      some_more = some_zeros (n - length ws) (omega arith);
      words = refl;
    }

pub many_extends : (n : ℕ) → Extends (many n)
many_extends n =
    record {
      lawful = many_lawful n;
      any = replicate n 0;
      any_fits = length-replicate n 0;
      extend = λ W b. by_span (ExtendedOf (many n) (drop b W)) n b (drop b W) (λ _. tt) (many_short n (drop b W));
    }

-- m is k and then l, which goes by the key of what k has; make puts together what both read, and pair what both lay out
module _ {K A F B G C H : Type 0} (k : Format A F) (key : A → K) (keyF : F → K) (l : K → Format B G) (m : Format C H)
    (make : A → B → C) (pair : F → G → H)
    (keys : (W : List ℕ) (a : A) → keyF (k.strip W a) ≡ key a)
    (laid : (f : F) (g : G) → m.put (pair f g) ≡ k.put f ++ (l (keyF f)).put g)
    (fit : (f : F) (g : G) → k.ok f → (l (keyF f)).ok g → m.ok (pair f g)) (l-extends : (x : K) → Extends (l x)) where
  -- the words end in k: anything may stand behind it
  first_short : (ws : List ℕ) → Extended k ws → Extended m ws
  first_short ws s =
      let behind = l-extends (keyF s.fields) in
      record {
        fields = pair s.fields behind.any;
        more = s.more ++ (l (keyF s.fields)).put behind.any;
        fits = fit s.fields behind.any s.fits behind.any_fits;
        some_more = some_append s.more _ s.some_more;
        words = rw (laid s.fields behind.any, ← s.words, append_assoc);
      }

  -- they end in l, behind what k read
  second_short : (W : List ℕ) (b : ℕ) (a : A) (b₁ : ℕ) (ws₁ : List ℕ)
      → Sound k W b a b₁ ws₁ → (g : Got B) → ExtendedOf (l (key a)) (drop b₁ W) g
      → ExtendedOf m (drop b W) (map_got (make a) g)
  second_short W b a b₁ ws₁ s (got c b₂ ws₂) t = tt
  second_short W b a b₁ ws₁ s short t =
      record {
        fields = pair (k.strip W a) t.fields;
        more = t.more;
        fits = fit (k.strip W a) t.fields s.fits (rw (keys W a) t.fits);
        some_more = t.some_more;
        words = rw (laid (k.strip W a) t.fields, keys W a, s.words, append_assoc, ← s.rest, t.words);
      }

  both_extend : (W : List ℕ) (b : ℕ) (g : Got A) → SoundOf k W b g → ExtendedOf k (drop b W) g
      → ExtendedOf m (drop b W) (both g (λ a. (l (key a)).parse) make)
  both_extend W b short s t = first_short (drop b W) t
  both_extend W b (got a b₁ ws₁) s t =
      rw (← s.rest) (second_short W b a b₁ ws₁ s ((l (key a)).parse b₁ (drop b₁ W)) ((l-extends (key a)).extend W b₁))

pub chain_extends : {K A F B G : Type 0} (k : Format A F) (key : A → K) (keyF : F → K) (l : K → Format B G) → Extends k → ((x : K) → Extends (l x))
    → ((W : List ℕ) (a : A) → keyF (k.strip W a) ≡ key a) → Extends (chain k key keyF l)
chain_extends k key keyF l h i keys =
    record {
      lawful = chain_lawful k key keyF l h.lawful (λ x. (i x).lawful) keys;
      any = (h.any, (i (keyF h.any)).any);
      any_fits = (h.any_fits, (i (keyF h.any)).any_fits);
      extend =
          λ W b. both_extend k key keyF l (chain k key keyF l) (λ a c. (a, c)) (λ f g. (f, g)) keys (λ f g. refl) (λ f g s t. (s, t)) i W b
          (k.parse b (drop b W)) (h.lawful.sound W b) (h.extend W b);
    }

pub optional_extends : {B G : Type 0} (on : Bool) (l : Option ℕ → Format B G) → ((w : Option ℕ) → Extends (l w)) → Extends (optional on l)
optional_extends on l h = chain_extends (one on) (λ w. w) (λ w. w) l (one_extends on) h (λ W a. refl)

pub join_extends : {A F B G : Type 0} (k : Format A F) (l : Format B G) → Extends k → Extends l → Extends (join k l)
join_extends k l h i = chain_extends k (λ _. tt {0}) (λ _. tt {0}) (λ _. l) h (λ _. i) (λ W a. refl)

-- n times
pub times_extends : {A F : Type 0} (k : Format A F) → Extends k → (n : ℕ) → Extends (times n k)
times_extends k h zero = record { lawful = times_lawful k h.lawful zero; any = []; any_fits = tt; extend = λ W b. tt }
times_extends k h (suc n) =
    let fewer = times_extends k h n in
    record {
      lawful = times_lawful k h.lawful (suc n);
      any = h.any ∷ fewer.any;
      any_fits = (h.any_fits, fewer.any_fits);
      extend =
          λ W b. both_extend k (λ _. tt {0}) (λ _. tt {0}) (λ _. times n k) (times (suc n) k) (λ x xs. x ∷ xs) (λ f fs. f ∷ fs)
          (λ W a. refl) (λ f fs. refl)
          (λ f fs s t. (s, t)) (λ _. fewer) W b (k.parse b (drop b W)) (h.lawful.sound W b) (h.extend W b);
    }

-- the same under other types
module _ {A F B G : Type 0} (to : A → B) (from : B → A) (toF : F → G) (fromF : G → F) (k : Format A F) (k-extends : Extends k)
    (back : (a : A) → from (to a) ≡ a) (thereF : (g : G) → toF (fromF g) ≡ g) (back_f : (f : F) → fromF (toF f) ≡ f) where
  there_fits : (f : F) → k.ok f → k.ok (fromF (toF f))
  there_fits f o = rw (back_f f) o

  recast_extend : (ws : List ℕ) (g : Got A) → ExtendedOf k ws g → ExtendedOf (recast to from toF fromF k) ws (map_got to g)
  recast_extend ws (got a b' ws') s = tt
  recast_extend ws short s =
      record {
        fields = toF s.fields;
        more = s.more;
        fits = there_fits s.fields s.fits;
        some_more = s.some_more;
        words = s.words ∙ ap k.put (sym (back_f s.fields));
      }

  pub recast_extends : Extends (recast to from toF fromF k)
  recast_extends =
      record {
        lawful = recast_lawful to from toF fromF k k-extends.lawful back thereF back_f;
        any = toF k-extends.any;
        any_fits = there_fits k-extends.any k-extends.any_fits;
        extend = λ W b. recast_extend (drop b W) (k.parse b (drop b W)) (k-extends.extend W b);
      }
