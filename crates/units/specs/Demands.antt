-- What the rule of times comes to, as statements. The proof stands in proofs/Rounding.antt.
use Rattle.std.specs.Prelude.{ℕ, ◌+◌, ◌-◌, ◌*◌, ◌/◌, ◌≤◌, ◌<◌}
use Rattle.units.specs.Times.{clock, after_start, shot_time}

-- how far two numbers lie apart (rule 3.7)
abbrev pub apart : ℕ → ℕ → ℕ
apart a b = (a - b) + (b - a)

-- how far a number of milliseconds is off the exact time of shot k, 1000 × k ÷ rate; a millisecond is counted as 2 × rate (rule 3.7)
abbrev pub off_by : ℕ → ℕ → ℕ → ℕ
off_by rate k ms = apart (2 * rate * ms) (2000 * k)

-- the times of shots at a rate (rule 3.7)
pub record Rounded (rate : ℕ) : Type 0 where
  -- at most half a millisecond off
  pub half : (k : ℕ) → off_by rate k (after_start rate k) ≤ rate
  -- no millisecond is nearer, and of two that are as near it is the later
  pub nearest : (k ms : ℕ) → off_by rate k (after_start rate k) ≤ off_by rate k ms
  pub later : (k ms : ℕ) → off_by rate k ms ≤ off_by rate k (after_start rate k) → ms ≤ after_start rate k
  -- from shot to shot they never fall, until the clock wraps
  pub never_falls : (start j k : ℕ) → j ≤ k → start + after_start rate k < clock → shot_time start rate j ≤ shot_time start rate k
  -- what cutting off gives, or one more
  pub cut_off : (k : ℕ) → 1000 * k / rate ≤ after_start rate k
  pub or_one_more : (k : ℕ) → after_start rate k ≤ 1000 * k / rate + 1

-- they are so at every rate but 0 (rule 3.7)
abbrev pub TimesRounded : Type 0
TimesRounded = (rate : ℕ) → 0 < rate → Rounded rate
