-- A wrong number of words: its answer is never longer than the longest.
use Prim.Native.Nat.{ℕ}
use lib.Dec.{T, leb}
use lib.ListN.{length}
use Rattle.services.specs.Answers.{longest}
use Rattle.sensor.specs.Table.{row_of, service_of, said_of}
use Rattle.sensor.proofs.Codes.{found_by}

-- no row's answer to a wrong number of words is too long
pub said_short : (code n : ℕ) → T (leb (length (said_of (row_of (service_of code)).miscount n)) longest)
said_short code n = found_by (λ v. leb (length (said_of (row_of v).miscount n)) longest) code tt tt
