-- The parts of a line: each as it is put, and its length.
use mathlib.Core.Path.{◌≡◌, refl, sym}
use mathlib.Core.Bool.{Bool, true, false, not}
use mathlib.Core.List.{List, [], ◌∷◌, ◌++◌}
use Prim.Native.Nat.{ℕ, ◌+◌, ◌-◌, ◌*◌, ◌/◌, ◌≤◌, ◌<◌}
use native.Mathlib.Omega.{arith}
use lib.Dec.{leb}
use lib.ListN.{length, get_or, length-append}
use borrow.Author.Tests.{leb-true, leb-false, le-leb, lt-leb}
use Rattle.std.specs.Prelude.{Some, None}
use Rattle.words.specs.Buffers.{Wrote, Put}
use Rattle.words.proofs.Tests.{said_no, said_yes}
use Rattle.words.proofs.Overs.{over_none}
use Rattle.words.proofs.Puts.{room, and_put, put_first, put_then, turn_fits, turn_put, turns_long}
use Rattle.dialogue.specs.Lines.{digits, decimal, spaced_hex, hexes, line_of, fitting, WriteLineSays}

-- `put_words`
hex_long : (w : ℕ) → length (spaced_hex w) ≡ 5
unfolding spaced_hex digits
hex_long w = refl

module _ (words : List ℕ) (k : ℕ) {d₀ d : List ℕ} {at to : ℕ} (all : at + length (hexes words (length words)) ≤ length d₀)
    (so_far : Put (hexes words k) d₀ at d to) (text : List ℕ) (e : text ≡ spaced_hex (get_or words k 0)) where
  pub hex_fits : k < length words → to + length text ≤ length d
  hex_fits h = rw e (turn_fits (λ i. spaced_hex (get_or words i 0)) (length words) all so_far h)

  pub hex_put : {d' : List ℕ} {r : ℕ} → Put text d to d' r → Put (hexes words (k + 1)) d₀ at d' r
  hex_put p = turn_put (λ i. spaced_hex (get_or words i 0)) (length words) all so_far (rw e at p)

-- `put_spaced`
pub spaced_put : {w : ℕ} {ws d₀ d₁ d₂ : List ℕ} {at r₁ r₂ : ℕ}
    → at + length (w ∷ ws) ≤ length d₀ → Put (w ∷ []) d₀ at d₁ r₁ → Put ws d₁ r₁ d₂ r₂
    → Put (w ∷ ws) d₀ at d₂ r₂
spaced_put {d₀ = d₀} {at = at} h p q =
    let inside : at ≤ length d₀ = omega arith in
    put_then inside p q

-- `fits`
module _ (nr refusal : ℕ) (ws : List ℕ) where
  abbrev line : ℕ
  line = length (line_of nr refusal ws)

  words_long : length (hexes ws (length ws)) ≡ length ws * 5
  words_long = turns_long (λ k. spaced_hex (get_or ws k 0)) 5 (λ k. hex_long (get_or ws k 0)) (length ws)

  sums : line ≡ length (decimal nr) + length (decimal refusal) + length (decimal (length ws)) + 3 + length ws * 5
  unfolding line_of
  sums = simp (length-append, words_long) (omega arith)

  module _ (n a b c r : ℕ) (er : r ≡ refusal)
      (ea : a ≡ length (decimal nr)) (eb : b ≡ length (decimal r)) (ec : c ≡ length (decimal (length ws))) where
    fixed : line ≡ a + b + c + 3 + length ws * 5
    fixed =
        let same : length (decimal r) ≡ length (decimal refusal) = rw er in
        omega (arith, sums)

    pub too_short : n < a + b + c + 3 → leb line n ≡ false
    too_short h = lt-leb line n (omega (arith, fixed))

    pub long_enough : a + b + c + 3 ≤ n → leb (length ws) ((n - (a + b + c + 3)) / 5) ≡ leb line n
    long_enough h = go (leb (length ws) ((n - (a + b + c + 3)) / 5)) refl
      where
        go : (x : Bool) → leb (length ws) ((n - (a + b + c + 3)) / 5) ≡ x → x ≡ leb line n
        go true e = let few = leb-true (length ws) _ e in sym (le-leb line n (omega (arith, fixed)))
        go false e = let many = leb-false (length ws) _ e in sym (lt-leb line n (omega (arith, fixed)))

  -- `write_line`: no line; or each part in its place, and the line whole
  module _ (d₀ : List ℕ) (b : Bool) (e : b ≡ leb line (length d₀)) where
    pub no_line : not b ≡ true → WriteLineSays nr refusal ws d₀ d₀ None
    unfolding fitting
    no_line q = record { text = rw (said_no e q) (sym (over_none d₀)); said = rw (said_no e q) }

    module _ (q : not b ≡ false) where
      long : length (decimal nr) + length (decimal refusal) + length (decimal (length ws)) + 3 + length ws * 5 ≤ length d₀
      long = omega (arith, sums, leb-true line (length d₀) (said_yes e q))

      pub number_fits : 0 + length (decimal nr) ≤ length d₀
      number_fits = omega (arith, long)

      module _ {d₁ : List ℕ} {r₁ : ℕ} (p₁ : Put (decimal nr) d₀ 0 d₁ r₁) {r : ℕ} (er : r ≡ refusal) where
        pub refusal_fits : r₁ + length (32 ∷ decimal r) ≤ length d₁
        refusal_fits = rw er (room (put_first p₁) (32 ∷ decimal refusal) (omega (arith, long)))

        module _ {d₂ : List ℕ} {r₂ : ℕ} (put₂ : Put (32 ∷ decimal r) d₁ r₁ d₂ r₂) where
          p₂ : Put (32 ∷ decimal refusal) d₁ r₁ d₂ r₂
          p₂ = rw er at put₂

          pub count_fits : r₂ + length (32 ∷ decimal (length ws)) ≤ length d₂
          count_fits = room (and_put (put_first p₁) p₂) (32 ∷ decimal (length ws)) (rw length-append (omega (arith, long)))

          module _ {d₃ : List ℕ} {r₃ : ℕ} (p₃ : Put (32 ∷ decimal (length ws)) d₂ r₂ d₃ r₃) where
            counted : Wrote (decimal nr ++ (32 ∷ decimal refusal) ++ (32 ∷ decimal (length ws))) d₀ d₃ r₃
            counted = and_put (and_put (put_first p₁) p₂) p₃

            pub words_fit : r₃ + length (hexes ws (length ws)) ≤ length d₃
            words_fit = room counted (hexes ws (length ws)) (simp (length-append, words_long) (omega (arith, long)))

            module _ {d₄ : List ℕ} {r₄ : ℕ} (p₄ : Put (hexes ws (length ws)) d₃ r₃ d₄ r₄) where
              pub end_fits : r₄ + 1 ≤ length d₄
              end_fits = omega (arith, room (and_put counted p₄) (10 ∷ []) (simp (length-append, words_long) (omega (arith, long))))

              pub line_put : {d₅ : List ℕ} {r₅ : ℕ} → Put (10 ∷ []) d₄ r₄ d₅ r₅ → WriteLineSays nr refusal ws d₀ d₅ (Some r₅)
              unfolding fitting line_of
              line_put {r₅ = r₅} p₅ =
                  let all = and_put (and_put counted p₄) p₅ in
                  record { text = rw (said_yes e q) all.words; said = rw (said_yes e q, all.counted) }
