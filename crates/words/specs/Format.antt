-- Technical: no rule stands here. Formats: one description that says how fields are laid out and how they are read back.
-- A is what a reader finds, with a run of words as its place and length; F is what is laid out, with the words themselves.
use Rattle.std.specs.Prelude.{ℕ, zero, suc, ◌+◌, ◌≤◌, ◌≡◌, List, [], ◌∷◌, ◌++◌, map, Bool, length, take, drop, Option}
use Rattle.std.specs.Prelude.{option_to_list}
use Rattle.words.specs.Lists.{Each}
use Rattle.words.specs.Words.{Shaped, laid_all}
use Rattle.words.specs.Parse.{got, Parser, Span, after, map_got, word, span, times_parse}

pub record Format (A F : Type 0) : Type 1 where
  -- reads it
  pub parse : Parser A
  -- lays it out
  pub put : F → List ℕ
  -- what was read, with each run's own words, which stand in the whole list of words
  pub strip : List ℕ → A → F
  -- what may be laid out
  pub ok : F → Type 0
  -- each run that was found ends within so many words
  pub inside : ℕ → A → Type 0
  -- each run that was found, read from a place of the whole list on, begins where the words in front of it end
  pub stands : List ℕ → ℕ → A → Type 0

abbrev pub nothing : Format (Unit {0}) (Unit {0})
nothing =
    record {
      parse = λ b ws. got tt b ws;
      put = λ _. [];
      strip = λ _ _. tt;
      ok = λ _. Unit {0};
      inside = λ _ _. Unit {0};
      stands = λ _ _ _. Unit {0};
    }

-- a word that is there where it is on
abbrev pub one : Bool → Format (Option ℕ) (Option ℕ)
one on =
    record {
      parse = word on;
      put = option_to_list;
      strip = λ _ w. w;
      ok = Shaped on;
      inside = λ _ _. Unit {0};
      stands = λ _ _ _. Unit {0};
    }

-- n words
abbrev pub many : ℕ → Format Span (List ℕ)
many n =
    record {
      parse = span n;
      put = λ f. f;
      strip = λ W s. take s.len (drop s.start W);
      ok = λ f. length f ≡ n;
      inside = λ n s. s.start + s.len ≤ n;
      stands = λ W b s. s.start ≡ b;
    }

-- k and then l, which may go by what was read first
abbrev pub chain : {K A F B G : Type 0} → Format A F → (A → K) → (F → K) → (K → Format B G) → Format (A × B) (F × G)
chain k key keyF l =
    record {
      parse = λ b ws. after (k.parse b ws) (λ a b' ws'. map_got (λ c. (a, c)) ((l (key a)).parse b' ws'));
      put = λ f. k.put f.0 ++ (l (keyF f.0)).put f.1;
      strip = λ W a. (k.strip W a.0, (l (key a.0)).strip W a.1);
      ok = λ f. k.ok f.0 × (l (keyF f.0)).ok f.1;
      inside = λ n a. k.inside n a.0 × (l (key a.0)).inside n a.1;
      stands = λ W b a. k.stands W b a.0 × (l (key a.0)).stands W (b + length (k.put (k.strip W a.0))) a.1;
    }

abbrev pub optional : {B G : Type 0} → Bool → (Option ℕ → Format B G) → Format (Option ℕ × B) (Option ℕ × G)
optional on l = chain (one on) (λ w. w) (λ w. w) l

abbrev pub join : {A F B G : Type 0} → Format A F → Format B G → Format (A × B) (F × G)
join k l = chain k (λ _. tt {0}) (λ _. tt {0}) (λ _. l)

abbrev pub AllOk : {F : Type 0} → (F → Type 0) → ℕ → List F → Type 0
AllOk ok zero [] = Unit {0}
AllOk ok zero (f ∷ fs) = ⊥
AllOk ok (suc n) [] = ⊥
AllOk ok (suc n) (f ∷ fs) = ok f × AllOk ok n fs

-- one after another, each from where the one before it ends
abbrev pub AllStand : {A F : Type 0} → Format A F → List ℕ → ℕ → List A → Type 0
AllStand k W b [] = Unit {0}
AllStand k W b (a ∷ as') = k.stands W b a × AllStand k W (b + length (k.put (k.strip W a))) as'

abbrev pub times : {A F : Type 0} → ℕ → Format A F → Format (List A) (List F)
times n k =
    record {
      parse = times_parse n k.parse;
      put = laid_all k.put;
      strip = λ W. map (k.strip W);
      ok = AllOk k.ok n;
      inside = λ n. Each (k.inside n);
      stands = AllStand k;
    }

-- the same under other types
abbrev pub recast : {A F B G : Type 0} → (A → B) → (B → A) → (F → G) → (G → F) → Format A F → Format B G
recast to from toF fromF k =
    record {
      parse = λ b ws. map_got to (k.parse b ws);
      put = λ g. k.put (fromF g);
      strip = λ W a. toF (k.strip W (from a));
      ok = λ g. k.ok (fromF g);
      inside = λ n a. k.inside n (from a);
      stands = λ W b a. k.stands W b (from a);
    }
