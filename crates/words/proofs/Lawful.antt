-- What a format's reader and layout have to do with each other, for the formats of which the others are made.
use Prim.Native.Nat.{ℕ, ◌+◌, ◌≤◌, ◌<◌}
use mathlib.Core.Path.{◌≡◌, refl, sym, ◌∙◌, ap, subst}
use mathlib.Core.List.{List, [], ◌∷◌, ◌++◌}
use mathlib.Core.Bool.{Bool, true, false}
use native.Mathlib.Omega.{arith}
use lib.ListN.{length, drop, length-drop, length-append, take-append-drop}
use lib.Seq.{length-take-le, drop-drop, take_at, drop_at}
use lib.Dec.{leb}
use borrow.Author.Tests.{leb-true, leb-false, le-leb}
use Rattle.std.specs.Prelude.{if◌then◌else◌, Option, Some, None, option_to_list}
use Rattle.words.specs.Words.{Shaped}
use Rattle.words.specs.Parse.{Got, short, got, Span, map_got, word, span}
use Rattle.words.specs.Format.{Format, nothing, one, many, recast}

-- a, read from place b of W up to place b', with ws' left
pub record Sound {A F : Type 0} (c : Format A F) (W : List ℕ) (b : ℕ) (a : A) (b' : ℕ) (ws' : List ℕ) : Type 0 where
  pub rest : drop b' W ≡ ws'
  pub words : drop b W ≡ c.put (c.strip W a) ++ ws'
  pub fits : c.ok (c.strip W a)

abbrev pub SoundOf : {A F : Type 0} → Format A F → List ℕ → ℕ → Got A → Type 0
SoundOf c W b short = Unit {0}
SoundOf c W b (got a b' ws') = Sound c W b a b' ws'

-- what is passed and what is left make up what there was
abbrev pub KeptOf : {A : Type 0} → ℕ → List ℕ → Got A → Type 0
KeptOf b ws short = Unit {0}
KeptOf b ws (got a b' ws') = b' + length ws' ≡ b + length ws

abbrev pub InsideOf : {A F : Type 0} → Format A F → ℕ → Got A → Type 0
InsideOf c n short = Unit {0}
InsideOf c n (got a b' ws') = c.inside n a

abbrev pub StandsOf : {A F : Type 0} → Format A F → List ℕ → ℕ → Got A → Type 0
StandsOf c W b short = Unit {0}
StandsOf c W b (got a b' ws') = c.stands W b a

-- what was laid out at place b is read back
pub record Complete {A F : Type 0} (c : Format A F) (W : List ℕ) (b : ℕ) (f : F) (post : List ℕ) : Type 0 where
  pub value : A
  pub place : ℕ
  pub reads : c.parse b (drop b W) ≡ got value place post
  pub same : c.strip W value ≡ f
  pub behind : drop place W ≡ post

pub record Lawful {A F : Type 0} (c : Format A F) : Type 0 where
  pub sound : (W : List ℕ) (b : ℕ) → SoundOf c W b (c.parse b (drop b W))
  pub complete : (W : List ℕ) (b : ℕ) (f : F) (post : List ℕ) → c.ok f → drop b W ≡ c.put f ++ post → Complete c W b f post
  pub kept : (b : ℕ) (ws : List ℕ) → KeptOf b ws (c.parse b ws)
  pub within : (b : ℕ) (ws : List ℕ) → InsideOf c (b + length ws) (c.parse b ws)
  pub located : (W : List ℕ) (b : ℕ) → StandsOf c W b (c.parse b (drop b W))

pub nothing_lawful : Lawful nothing
nothing_lawful =
    record {
      sound = λ W b. record { rest = refl; words = refl; fits = tt };
      complete = λ W b f post o e. record { value = tt; place = b; reads = ap (got tt b) e; same = refl; behind = e };
      kept = λ b ws. refl;
      within = λ b ws. tt;
      located = λ W b. tt;
    }

-- one word

-- behind the first of the words at b
next : (W : List ℕ) (b w : ℕ) (ws : List ℕ) → drop b W ≡ w ∷ ws → drop (b + 1) W ≡ ws
next W b w ws h = sym (drop-drop 1 b W) ∙ ap (drop 1) h

one_sound : (on : Bool) (W : List ℕ) (b : ℕ) (ws : List ℕ) → drop b W ≡ ws → SoundOf (one on) W b (word on b ws)
one_sound false W b ws h = record { rest = h; words = h; fits = tt }
one_sound true W b [] h = tt
one_sound true W b (w ∷ ws) h = record { rest = next W b w ws h; words = h; fits = tt }

one_complete : (on : Bool) (W : List ℕ) (b : ℕ) (w : Option ℕ) (post : List ℕ) → Shaped on w → drop b W ≡ option_to_list w ++ post
    → Complete (one on) W b w post
one_complete false W b None post o e = record { value = None; place = b; reads = ap (got None b) e; same = refl; behind = e }
one_complete false W b (Some w) post o e = absurd o
one_complete true W b None post o e = absurd o
one_complete true W b (Some w) post o e =
    record { value = Some w; place = b + 1; reads = ap (word true b) e; same = refl; behind = next W b w post e }

one_kept : (on : Bool) (b : ℕ) (ws : List ℕ) → KeptOf b ws (word on b ws)
one_kept false b ws = refl
one_kept true b [] = tt
one_kept true b (w ∷ ws) = omega arith

one_within : (on : Bool) (b : ℕ) (ws : List ℕ) → InsideOf (one on) (b + length ws) (word on b ws)
one_within false b ws = tt
one_within true b [] = tt
one_within true b (w ∷ ws) = tt

one_located : (on : Bool) (W : List ℕ) (b : ℕ) (ws : List ℕ) → StandsOf (one on) W b (word on b ws)
one_located false W b ws = tt
one_located true W b [] = tt
one_located true W b (w ∷ ws) = tt

pub one_lawful : (on : Bool) → Lawful (one on)
one_lawful on =
    record {
      sound = λ W b. one_sound on W b (drop b W) refl;
      complete = one_complete on;
      kept = one_kept on;
      within = one_within on;
      located = λ W b. one_located on W b (drop b W);
    }

-- n words

many_complete : (n : ℕ) (W : List ℕ) (b : ℕ) (f : List ℕ) (post : List ℕ)
    → length f ≡ n → drop b W ≡ f ++ post → Complete (many n) W b f post
many_complete n W b f post o e =
    let long : n ≤ length (f ++ post) = omega (arith, length-append f post) in
    record {
      value = record { start = b; len = n };
      place = b + n;
      reads = rw (e, le-leb n (length (f ++ post)) long, drop_at f post n o);
      same = rw (e, take_at f post n o);
      behind = sym (drop-drop n b W) ∙ ap (drop n) e ∙ drop_at f post n o;
    }

-- what holds where the n words are there, and where they are not
pub by_span : (P : Got Span → Type 0) (n b : ℕ) (ws : List ℕ) → (n ≤ length ws → P (got (record { start = b; len = n }) (b + n) (drop n ws)))
    → (length ws < n → P short) → P (span n b ws)
by_span P n b ws h s = go (leb n (length ws)) refl
  where
    go : (t : Bool) → leb n (length ws) ≡ t → P (if t then got (record { start = b; len = n }) (b + n) (drop n ws) else short)
    go true e = h (leb-true n (length ws) e)
    go false e = s (leb-false n (length ws) e)

many_sound : (n : ℕ) (W : List ℕ) (b : ℕ) → n ≤ length (drop b W) → Sound (many n) W b (record { start = b; len = n }) (b + n) (drop n (drop b W))
many_sound n W b h = record { rest = sym (drop-drop n b W); words = sym (take-append-drop n (drop b W)); fits = length-take-le n (drop b W) h }

pub many_lawful : (n : ℕ) → Lawful (many n)
many_lawful n =
    record {
      sound = λ W b. by_span (SoundOf (many n) W b) n b (drop b W) (many_sound n W b) (λ _. tt);
      complete = many_complete n;
      kept = λ b ws. by_span (KeptOf b ws) n b ws (λ h. omega (arith, length-drop n ws)) (λ _. tt);
      within = λ b ws. by_span (InsideOf (many n) (b + length ws)) n b ws (λ h. omega arith) (λ _. tt);
      located = λ W b. by_span (StandsOf (many n) W b) n b (drop b W) (λ _. refl) (λ _. tt);
    }

-- the same under other types

module _ {A F B G : Type 0} (to : A → B) (from : B → A) (toF : F → G) (fromF : G → F) (k : Format A F) (k-lawful : Lawful k)
    (back : (a : A) → from (to a) ≡ a) (thereF : (g : G) → toF (fromF g) ≡ g) (back_f : (f : F) → fromF (toF f) ≡ f) where
  recast_sound : (W : List ℕ) (b : ℕ) (g : Got A) → SoundOf k W b g → SoundOf (recast to from toF fromF k) W b (map_got to g)
  recast_sound W b short s = tt
  recast_sound W b (got a b' ws') s =
      let q : k.strip W a ≡ fromF (toF (k.strip W (from (to a)))) = sym (back_f (k.strip W (from (to a))) ∙ ap (k.strip W) (back a)) in
      record { rest = s.rest; words = s.words ∙ ap (λ (f : F). k.put f ++ ws') q; fits = subst k.ok q s.fits }

  recast_complete : (W : List ℕ) (b : ℕ) (f : G) (post : List ℕ) → Complete k W b (fromF f) post → Complete (recast to from toF fromF k) W b f post
  recast_complete W b f post s =
      record {
        value = to s.value;
        place = s.place;
        reads = ap (map_got to) s.reads;
        same = rw (back s.value, s.same, thereF f);
        behind = s.behind;
      }

  recast_kept : (b : ℕ) (ws : List ℕ) (g : Got A) → KeptOf b ws g → KeptOf b ws (map_got to g)
  recast_kept b ws short s = tt
  recast_kept b ws (got a b' ws') s = s

  recast_within : (n : ℕ) (g : Got A) → InsideOf k n g → InsideOf (recast to from toF fromF k) n (map_got to g)
  recast_within n short s = tt
  recast_within n (got a b' ws') s = subst (k.inside n) (sym (back a)) s

  recast_located : (W : List ℕ) (b : ℕ) (g : Got A) → StandsOf k W b g → StandsOf (recast to from toF fromF k) W b (map_got to g)
  recast_located W b short s = tt
  recast_located W b (got a b' ws') s = subst (k.stands W b) (sym (back a)) s

  pub recast_lawful : Lawful (recast to from toF fromF k)
  recast_lawful =
      record {
        sound = λ W b. recast_sound W b (k.parse b (drop b W)) (k-lawful.sound W b);
        complete = λ W b f post o e. recast_complete W b f post (k-lawful.complete W b (fromF f) post o e);
        kept = λ b ws. recast_kept b ws (k.parse b ws) (k-lawful.kept b ws);
        within = λ b ws. recast_within (b + length ws) (k.parse b ws) (k-lawful.within b ws);
        located = λ W b. recast_located W b (k.parse b (drop b W)) (k-lawful.located W b);
      }
