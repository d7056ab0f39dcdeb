-- Rule 2.7: a profile job by numbers: its kind, 0 absent, 1 counted, 2 endless; how many are left; its mask's number, and 1 where that is
-- a mixed mask; how many were sent. What a job does not have is 0.
use Rattle.std.specs.Prelude.{Bool, false, not, ℕ, eqb}
use Rattle.layout.specs.declared.Kind.{Kind}
use Rattle.layout.specs.declared.Mask.{Mask}
use Rattle.layout.specs.MixedMasks.{is_of, mask_number}
use Rattle.state.specs.declared.Job.{Job}
use Rattle.state.specs.declared.Job.TheVariants.{Absent, Counted, Endless}

pub record JobNumbers : Type 0 where
  pub kind : ℕ
  pub left : ℕ
  pub mask : ℕ
  pub mixed : ℕ
  pub sent : ℕ

-- 1 for a mixed mask, 0 for a plain one (rule 2.7)
abbrev pub mixed_one : Mask → ℕ
mixed_one (Mask.Plain word) = 0
mixed_one (Mask.Mixed high low) = 1

abbrev pub job_numbers : Job → JobNumbers
job_numbers Absent = record { kind = 0; left = 0; mask = 0; mixed = 0; sent = 0 }
job_numbers (Counted left mask sent) = record { kind = 1; left = left; mask = mask_number mask; mixed = mixed_one mask; sent = sent }
job_numbers (Endless mask sent) = record { kind = 2; left = 0; mask = mask_number mask; mixed = mixed_one mask; sent = sent }

-- its mask; where there is no job, a plain one of no bit stands for it (rule 2.7)
abbrev pub mask_of : Job → Mask
mask_of Absent = Mask.Plain 0
mask_of (Counted left mask sent) = mask
mask_of (Endless mask sent) = mask

-- there is one with a mask of the kind (rules 4.11 and 4.24)
abbrev pub has_kind : Kind → Job → Bool
has_kind kind Absent = false
has_kind kind (Counted left mask sent) = is_of kind mask
has_kind kind (Endless mask sent) = is_of kind mask

-- there is one (rule 2.7)
abbrev pub is_job : Job → Bool
is_job job = not (eqb (job_numbers job).kind 0)
