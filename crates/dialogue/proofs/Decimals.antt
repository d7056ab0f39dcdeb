-- The decimal digits of a number: as the library writes them, and as the rules say.
use mathlib.Core.Path.{◌≡◌, refl, sym, ap, ◌∙◌}
use mathlib.Core.Bool.{Bool, true, false}
use mathlib.Core.List.{List, [], ◌∷◌, ◌++◌}
use Prim.Native.Nat.{ℕ, zero, suc, ◌+◌, ◌/◌, ◌%◌, ◌^◌, ◌≤◌, ◌<◌}
use native.Mathlib.Omega.{arith}
use lib.Dec.{eqb, ltb}
use lib.ListN.{length, get_or, length-append}
use borrow.Author.Tests.{ne_eqb, lt-ltb, ltb-true, ltb-false}
use Rattle.std.specs.Prelude.{if◌then◌else◌}
use Rattle.std.specs.Fmt.{decimal as plain}
use Rattle.std.proofs.lemmas.Fmt.{decimal_digit, decimal_step, first_decimal}
use Rattle.dialogue.specs.Lines.{glyph, digits, stripped, decimal}

-- one digit more behind digits that do not begin with a zero
behind : (ds : List ℕ) (d : ℕ) → (get_or (stripped ds) 0 0 ≡ 48 → ⊥) → stripped (ds ++ (d ∷ [])) ≡ stripped ds ++ (d ∷ [])
unfolding stripped
behind [] d n = refl
behind (x ∷ []) d n = rw (ne_eqb x 48 n)
behind (x ∷ y ∷ ds) d n = go (eqb x 48) (behind (y ∷ ds) d) n
  where
    go : (b : Bool) → ((get_or (stripped (y ∷ ds)) 0 0 ≡ 48 → ⊥) → stripped (y ∷ ds ++ (d ∷ [])) ≡ stripped (y ∷ ds) ++ (d ∷ []))
        → (get_or (if b then stripped (y ∷ ds) else x ∷ y ∷ ds) 0 0 ≡ 48 → ⊥)
        → (if b then stripped (y ∷ ds ++ (d ∷ [])) else x ∷ y ∷ ds ++ (d ∷ []))
        ≡ (if b then stripped (y ∷ ds) else x ∷ y ∷ ds) ++ (d ∷ [])
    go true further m = further m
    go false further m = refl

-- zeros in front of a last digit
zero_front : (k : ℕ) → digits 10 (suc k) 0 ≡ 48 ∷ digits 10 k 0
unfolding digits
zero_front zero = refl
zero_front (suc k) = ap (λ ds. ds ++ (48 ∷ [])) (zero_front k)

zero_off : (ds : List ℕ) → 1 ≤ length ds → stripped (48 ∷ ds) ≡ stripped ds
unfolding stripped
zero_off [] h = absurd (omega arith)
zero_off (x ∷ ds) h = refl

zeros : (k d : ℕ) → stripped (digits 10 k 0 ++ (d ∷ [])) ≡ d ∷ []
unfolding digits stripped
zeros zero d = refl
zeros (suc k) d = rw (zero_front k) (zero_off (digits 10 k 0 ++ (d ∷ [])) (rw length-append (omega arith)) ∙ zeros k d)

digit : (n : ℕ) → glyph (n % 10) ≡ 48 + n % 10
digit n = rw (lt-ltb (n % 10) 10 (omega arith))

-- so many digits that the number has no more
enough : (k n : ℕ) → n < 10 ^ suc k → n < 2 ^ 64 → plain n ≡ stripped (digits 10 (suc k) n)
unfolding digits stripped
enough zero n h l =
    let same : n % 10 ≡ n = omega arith in
    decimal_digit n (omega arith) ∙ rw (digit n, same)
enough (suc k) n h l = go (ltb n 10) refl (enough k (n / 10))
  where
    go : (b : Bool) → ltb n 10 ≡ b → (n / 10 < 10 ^ suc k → n / 10 < 2 ^ 64 → plain (n / 10) ≡ stripped (digits 10 (suc k) (n / 10)))
        → plain n ≡ stripped (digits 10 (suc k) (n / 10) ++ (glyph (n % 10) ∷ []))
    go true e further =
        let few : n < 10 = ltb-true n 10 e in
        let none : n / 10 ≡ 0 = omega arith in
        let same : n % 10 ≡ n = omega arith in
        decimal_digit n few ∙ rw (digit n, none, same) (sym (zeros (suc k) (48 + n)))
    go false e further =
        let many : 10 ≤ n = ltb-false n 10 e in
        let before : plain (n / 10) ≡ stripped (digits 10 (suc k) (n / 10)) = further (omega arith) (omega arith) in
        let first : 48 < get_or (plain (n / 10)) 0 0 = first_decimal (n / 10) (omega arith) (omega arith) in
        decimal_step n many l
        ∙ ap (λ ds. ds ++ ((48 + n % 10) ∷ [])) before
        ∙ sym (behind (digits 10 (suc k) (n / 10)) (48 + n % 10) (rw (← before) (λ q. omega arith)))
        ∙ ap (λ d. stripped (digits 10 (suc k) (n / 10) ++ (d ∷ []))) (sym (digit n))

pub decimal_is : (n : ℕ) → n < 2 ^ 64 → plain n ≡ decimal n
unfolding decimal
decimal_is n h = enough 19 n (omega arith) h
