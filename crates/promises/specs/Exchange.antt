-- Demand 2, of a revolution and the reader together: what is sent is read. Proved in proofs/Exchanged.antt.
use Rattle.std.specs.Prelude.{◌≡◌, not, List, ℕ, T, length}
use Rattle.layout.specs.Masks.{uncounted}
use Rattle.layout.specs.declared.Mask.{Mask}
use Rattle.state.specs.declared.State.{State}
use Rattle.state.specs.Jobs.{job_numbers, mask_of, is_job}
use Rattle.profile.specs.Profiles.{Scan, fields_of}
use Rattle.profile.specs.Mixed.{mixed_of}
use Rattle.profile.specs.Revolutions.{risen, sent_after, revolution_of}
use Rattle.reader.specs.Readings.{read_of}
use Rattle.reader.specs.Stretches.{fields_in}
use Rattle.reader.specs.Mixed.{read_mixed_of}
use Rattle.reader.specs.MixedStretches.{mixed_fields_in}

-- words that the reader accepts, and whose reading gives the fields of the revolution: sectors with their numbers, steps, points,
-- directions and times, and SENSTAT, with the number sent and the counter after their rise (rule 5.11)
pub record Reads (ws : List ℕ) (s : State) (g : Scan) : Type 0 where
  pub accepted : (read_of ws).refusal ≡ 0
  pub fields : fields_in ws (read_of ws) ≡ fields_of s g (job_numbers s.job).mask (sent_after s.job) (risen s.counter)

-- the same of a mixed profile: both words of the mask, the contour, how many reflectors there are, and their words (rule 5.23)
pub record MixedReads (ws : List ℕ) (s : State) (g : Scan) (high low : ℕ) : Type 0 where
  pub accepted : (read_mixed_of ws).refusal ≡ 0
  pub fields : mixed_fields_in ws (read_mixed_of ws) ≡ mixed_of s g high low (sent_after s.job) (risen s.counter)

-- each kind by its own reader (rule 5.22)
abbrev pub ReadsBy : List ℕ → State → Scan → Mask → Type 0
ReadsBy ws s g (Mask.Plain word) = Reads ws s g
ReadsBy ws s g (Mask.Mixed high low) = MixedReads ws s g high low

-- what a revolution writes, where its job's mask carries what the reader needs (rule 5.12)
abbrev pub ProfileRead : State → Scan → ℕ → Type 0
ProfileRead s g room =
    (revolution_of s g room).reply.refusal ≡ 0
    → T (is_job s.job)
    → T (not (uncounted (job_numbers s.job).mask))
    → ReadsBy (revolution_of s g room).written s g (mask_of s.job)

abbrev pub SentIsRead : Type 0
SentIsRead = (s : State) (g : Scan) (room : ℕ) → length s.working.sectors ≡ 8 → ProfileRead s g room
