-- Rule 3.7: when a shot is fired.
use Rattle.std.specs.Prelude.{ℕ, ◌+◌, ◌*◌, ◌/◌, ◌%◌}

-- a clock of 16 bits (rule 3.7)
abbrev pub clock : ℕ
clock = 65536

-- the milliseconds from the start of a revolution to its shot k, counted from 0; the rate is the running speed times N (rule 3.7)
abbrev pub after_start : ℕ → ℕ → ℕ
after_start rate k = (2000 * k + rate) / (2 * rate)

-- the time of shot k of a revolution that begins at a start time (rule 3.7)
abbrev pub shot_time : ℕ → ℕ → ℕ → ℕ
shot_time start rate k = (start + after_start rate k) % clock
