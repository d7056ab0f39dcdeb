-- What is sent is read.
use mathlib.Core.Path.{◌≡◌, refl, sym, ◌∙◌}
use mathlib.Core.Bool.{Bool, true, false, not}
use mathlib.Core.List.{List}
use Prim.Native.Nat.{ℕ, ◌/◌, ◌%◌}
use native.Mathlib.Omega.{arith}
use lib.Dec.{T, eqb, ltb}
use lib.ListN.{length}
use Rattle.std.specs.Prelude.{if◌then◌else◌}
use Rattle.words.proofs.Tests.{and_l, and_r, is_true}
use Rattle.layout.specs.Masks.{uncounted}
use Rattle.layout.specs.declared.Mask.{Mask}
use Rattle.layout.specs.MixedMasks.{mask_number, admitted, reflector_length}
use Rattle.state.specs.declared.State.{State}
use Rattle.state.specs.declared.Mode.{Mode}
use Rattle.state.specs.declared.Job.{Job}
use Rattle.state.specs.declared.Job.TheVariants.{Absent, Counted, Endless}
use Rattle.state.specs.Jobs.{job_numbers, mask_of, is_job}
use Rattle.state.specs.Ranges.{is_measure, job_ok, in_range}
use Rattle.state.proofs.Parts.{parts}
use Rattle.profile.specs.Profiles.{Scan, fields_of}
use Rattle.profile.specs.Mixed.{mixed_of}
use Rattle.profile.specs.Revolutions.{risen, sent_after, profile_by, lists_fit, reflectors_fit, revolved, revolution_of}
use Rattle.profile.specs.Demands.{Turning}
use Rattle.profile.proofs.Revolved.{revolution_by, unfit, refusals_exactly}
use Rattle.profile.proofs.Carried.{sent_acceptable, mixed_sent_acceptable}
use Rattle.reader.proofs.RoundTrip.{reads_back}
use Rattle.reader.proofs.MixedRoundTrip.{mixed_reads_back}
use Rattle.promises.specs.Exchange.{ReadsBy, SentIsRead}

-- a revolution that is not refused takes its state and lists, and writes the words of its outcome

tests : (a b c r d : Bool)
    → ◌≡◌ {A = ℕ} (if not a then 1 else if not b then 7 else if not c then 8 else if not r then 27 else if d then 6 else 0) 0
    → T a × T b × T c × T r
tests true true true true d e = (tt, tt, tt, tt)
tests true true true false d e = absurd (omega arith)
tests true true false r d e = absurd (omega arith)
tests true false c r d e = absurd (omega arith)
tests false b c r d e = absurd (omega arith)

turning : (s : State) (g : Scan) (room : ℕ) → length s.working.sectors ≡ 8 → (revolution_of s g room).reply.refusal ≡ 0 → Turning s g
turning s g room eight e =
    let e' = rw (unfit (eqb (length g.reflectors % reflector_length) 0) (length g.reflectors / reflector_length)) at
    (sym (refusals_exactly s g room) ∙ e) in
    let t = tests (in_range s) (is_measure s.mode) (lists_fit s g) (reflectors_fit g) (ltb room (length (revolved s g).words)) e' in
    record { eight = eight; range = t.0; measures = t.1; lists = t.2; reflectors = t.3 }

writes : (s : State) (g : Scan) (room : ℕ) → (revolution_of s g room).reply.refusal ≡ 0 → (revolution_of s g room).written ≡ (revolved s g).words
writes s g room = revolution_by (λ x. x.reply.refusal ≡ 0 → x.written ≡ (revolved s g).words) s g room (λ n z e. absurd (z e)) (λ _. refl)

-- the mask of a job in its ranges, and its number

mask_of_lem : (m : Mode) (j : Job) → T (job_ok m j) → T (is_job j) → T (admitted (mask_of j))
mask_of_lem m Absent h there = absurd there
mask_of_lem m (Counted left mask sent) h there = search (and_l, and_r)
mask_of_lem m (Endless mask sent) h there = search (and_l, and_r)

number_of : (j : Job) → (job_numbers j).mask ≡ mask_number (mask_of j)
number_of Absent = refl
number_of (Counted left mask sent) = refl
number_of (Endless mask sent) = refl

-- by the kind of the mask
module _ (s : State) (g : Scan) (t : Turning s g) (ws : List ℕ) where
  reads_by : (mask : Mask) → (job_numbers s.job).mask ≡ mask_number mask → T (admitted mask) → T (not (uncounted (job_numbers s.job).mask))
      → ws ≡ profile_by s g mask (sent_after s.job) (risen s.counter) → ReadsBy ws s g mask
  reads_by (Mask.Plain word) e ok c p =
      let sent = sent_after s.job in
      let counter = risen s.counter in
      let r = reads_back (fields_of s g word sent counter) (sent_acceptable s g t word sent counter ok (rw e at c)) in
      record { accepted = rw p r.0; fields = rw (p, e) r.1 }
  reads_by (Mask.Mixed high low) e ok c p =
      let sent = sent_after s.job in
      let counter = risen s.counter in
      let r = mixed_reads_back (mixed_of s g high low sent counter) (mixed_sent_acceptable s g t high low sent counter ok (rw e at c)) in
      record { accepted = rw p r.0; fields = rw p r.1 }

pub sent_is_read : SentIsRead
unfolding revolved
sent_is_read s g room eight z there c =
    let t = turning s g room eight z in
    let mask = mask_of s.job in
    let p : (revolution_of s g room).written ≡ profile_by s g mask (sent_after s.job) (risen s.counter) =
    writes s g room z ∙ rw (is_true {b = is_job s.job} there) in
    reads_by s g t _ mask (number_of s.job) (mask_of_lem s.mode s.job (parts s t.range).job there) c p
