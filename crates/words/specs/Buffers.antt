-- Technical: no rule stands here. A lent buffer: words laid over its front or at a place, while all else in it keeps its contents.
use Rattle.std.specs.Prelude.{◌≡◌, List, [], ◌++◌, ℕ, zero, suc, ◌+◌, length, take, drop}

-- the buffer with the words over its front
unfoldable pub over : List ℕ → List ℕ → List ℕ
over ws buffer = ws ++ drop (length ws) buffer

-- a writer that was lent the buffer left it with the words over its front, and says how many there are
pub record Wrote (ws before after : List ℕ) (count : ℕ) : Type 0 where
  pub words : after ≡ over ws before
  pub counted : count ≡ length ws

-- a writer that was lent the buffer and a place in it left the words there, and says the place behind them
pub record Put (ws before : List ℕ) (at : ℕ) (after : List ℕ) (next : ℕ) : Type 0 where
  pub words : after ≡ take at before ++ (ws ++ drop (at + length ws) before)
  pub place : next ≡ at + length ws

-- the blocks f 0, f 1, .. f (n - 1), one after another
unfoldable pub in_turn : (ℕ → List ℕ) → ℕ → List ℕ
in_turn f zero = []
in_turn f (suc n) = in_turn f n ++ f n
