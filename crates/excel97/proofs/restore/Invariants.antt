-- `excel97::restore` meets its contract: the records up to where the walker stands have their own headers and clear parts.
-- Assumes nothing.
use Prim.Native.Nat.{ℕ}
use lib.ListN.{get_or}
use Rattle.laws.proofs.Written.{Written}
use Rattle.binary_office.specs.declared.BiffRecord.{BiffRecord}
use Rattle.excel97.specs.Steps.{through_at}
use Rattle.excel97.proofs.Records.{Stands}
use Rattle.excel97.proofs.restore.Given as goal

abbrev pub invariant-loop-record : goal.invariant-loop-record
invariant-loop-record l =
    Stands l.stream l.record-iterator l.rest
    × Written (through_at l.stream (λ (r : BiffRecord) (o x : ℕ). get_or l.initial.output o 0)) 0 l.rest l.initial.output l.output
