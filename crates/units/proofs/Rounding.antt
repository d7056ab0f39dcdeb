-- Times to the nearest millisecond: by half milliseconds, and what the rule comes to.
use mathlib.Core.Path.{◌≡◌, sym, ap, ◌∙◌}
use mathlib.Core.Logic.{◌⊎◌, inl, inr}
use Prim.Native.Nat.{ℕ, ◌+◌, ◌-◌, ◌*◌, ◌/◌, ◌^◌, ◌≤◌, ◌<◌}
use native.Mathlib.Nat.{eq-zero-or-pos, mul_comm, mul-le-mul_left}
use native.Mathlib.Nat.{div-le_self, mul-div-le, lt-mul-div-succ, div-mul-le_self, le-div_iff_mul-le, add-div_right, div-div-eq-div-mul, mul-div-mul_left}
use native.Mathlib.Omega.{arith}
use Rattle.units.specs.Times.{after_start}
use Rattle.units.specs.Demands.{off_by, TimesRounded}

-- the bound that keeps a time within 32 bits, whatever the rate is
pub few_halves : (rate k : ℕ) → k < 2 ^ 16 → 2000 * k / rate < 2 ^ 27
few_halves rate k h = omega (arith, div-le_self (2000 * k) rate)

-- by twice the rate: by the rate, and then by 2
by_two : (rate n : ℕ) → n / (2 * rate) ≡ n / rate / 2
by_two rate n = ap (λ (d : ℕ). n / d) (mul_comm 2 rate) ∙ sym (div-div-eq-div-mul n rate 2)

module _ (rate k : ℕ) (some : 0 < rate) where
  abbrev ms : ℕ
  ms = after_start rate k

  -- the rule by half milliseconds: one more, and two make one
  pub by_halves : ms ≡ (2000 * k / rate + 1) / 2
  by_halves = by_two rate (2000 * k + rate) ∙ ap (λ (n : ℕ). n / 2) (add-div_right (2000 * k) some)

  -- cutting off by half milliseconds
  cut_halves : 1000 * k / rate ≡ 2000 * k / rate / 2
  cut_halves =
      sym (mul-div-mul_left {m = 2} (1000 * k) rate (omega arith))
      ∙ ap (λ (n : ℕ). n / (2 * rate)) (omega arith)
      ∙ by_two rate (2000 * k)

  -- half a millisecond behind the exact time at the most, and less than that before it
  not_above : 2 * rate * ms ≤ 2000 * k + rate
  not_above = mul-div-le (2000 * k + rate) (2 * rate)

  below : 2000 * k < 2 * rate * ms + rate
  below = omega (arith, lt-mul-div-succ (2000 * k + rate) {b = 2 * rate} (omega arith))

  -- a millisecond before it is off by half a one or more, and one behind it by more
  before : (m : ℕ) → m < ms → rate ≤ off_by rate k m
  before m h = omega (arith, not_above, mul-le-mul_left (2 * rate) h)

  behind : (m : ℕ) → ms < m → rate < off_by rate k m
  behind m h = omega (arith, below, mul-le-mul_left (2 * rate) h)

  -- no millisecond is nearer, and none behind it is as near
  close : (m : ℕ) → (m - ms ≡ 0) ⊎ (0 < m - ms) → (ms - m ≡ 0) ⊎ (0 < ms - m) → off_by rate k ms ≤ off_by rate k m
  close m (inr h) e = omega (arith, not_above, below, behind m (omega arith))
  close m (inl h) (inr e) = omega (arith, not_above, below, before m (omega arith))
  close m (inl h) (inl e) = let same : m ≡ ms = omega arith in rw same (omega arith)

  last : (m : ℕ) → (m - ms ≡ 0) ⊎ (0 < m - ms) → off_by rate k m ≤ off_by rate k ms → m ≤ ms
  last m (inl h) o = omega arith
  last m (inr h) o = absurd (omega (arith, not_above, below, behind m (omega arith)))

-- a later shot has no earlier time, before the start is added
rises : (rate j k : ℕ) → 0 < rate → j ≤ k → after_start rate j ≤ after_start rate k
rises rate j k some h =
    (le-div_iff_mul-le {k = 2 * rate} {x = after_start rate j} {y = 2000 * k + rate} (omega arith)).1
    (omega (arith, div-mul-le_self (2000 * j + rate) (2 * rate)))

pub times_rounded : TimesRounded
times_rounded rate some =
    record {
      half = λ k. omega (arith, not_above rate k some, below rate k some);
      nearest = λ k m. close rate k some m (eq-zero-or-pos (m - after_start rate k)) (eq-zero-or-pos (after_start rate k - m));
      later = λ k m. last rate k some m (eq-zero-or-pos (m - after_start rate k));
      never_falls = λ start j k h w. omega (arith, rises rate j k some h);
      cut_off = λ k. omega (arith, by_halves rate k some, cut_halves rate k some);
      or_one_more = λ k. omega (arith, by_halves rate k some, cut_halves rate k some);
    }
