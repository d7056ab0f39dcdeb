-- Technical: no rule stands here. Parsers over lists of words. A parser is handed the place it stands at and the words from there on, and
-- finds that the words end early, or a value with the place and the words behind it.
use Rattle.std.specs.Prelude.{ℕ, zero, suc, ◌+◌, List, [], ◌∷◌, Bool, true, false, length, drop, leb, if◌then◌else◌, Option, Some, None}

pub data Got (A : Type 0) : Type 0 where
  short : Got A
  got : A → ℕ → List ℕ → Got A

abbrev pub Parser : Type 0 → Type 0
Parser A = ℕ → List ℕ → Got A

-- a run of words: where it starts and how many it has
pub record Span : Type 0 where
  pub start : ℕ
  pub len : ℕ

abbrev pub after : {A B : Type 0} → Got A → (A → Parser B) → Got B
after short f = short
after (got a b ws) f = f a b ws

abbrev pub map_got : {A B : Type 0} → (A → B) → Got A → Got B
map_got f short = short
map_got f (got a b ws) = got (f a) b ws

-- one word where it is on
abbrev pub word : Bool → Parser (Option ℕ)
word false b ws = got None b ws
word true b [] = short
word true b (w ∷ ws) = got (Some w) (b + 1) ws

-- n words
abbrev pub span : ℕ → Parser Span
span n b ws = if leb n (length ws) then got (record { start = b; len = n }) (b + n) (drop n ws) else short

-- n times p
abbrev pub times_parse : {A : Type 0} → ℕ → Parser A → Parser (List A)
times_parse zero p b ws = got [] b ws
times_parse (suc n) p b ws = after (p b ws) (λ a b' ws'. map_got (λ xs. a ∷ xs) (times_parse n p b' ws'))
