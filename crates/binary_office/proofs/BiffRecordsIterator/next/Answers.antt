-- `next` of `BiffRecords` meets its contract: what stands at the position is the next item of the walk.
-- Assumes nothing.
use Rattle.std.proofs.Common.{arith, rules, sym}
use Rattle.binary_office.proofs.Walks.{record_within}
use Rattle.binary_office.proofs.Records.{gives_no_more, gives_record, gives_fault, gives_nothing, fewer_records, fewer_faults}
use Rattle.binary_office.proofs.BiffRecordsIterator.next.Goals as goal

pub returns-then-self-clause-steps : goal.returns-then-self-clause-steps
returns-then-self-clause-steps c = gives_no_more _ c.if-self.true

pub overflow_add-self : goal.overflow_add-self
overflow_add-self c = let h = record_within _ _ _ _ (sym c.in-Record.ensures) in
    record { fits = omega arith }

pub overflow_add-self-in-Record : goal.overflow_add-self-in-Record
overflow_add-self-in-Record c = let h = record_within _ _ _ _ (sym c.in-Record.ensures) in
    record { fits = omega arith }

pub returns-in-Record-clause-steps : goal.returns-in-Record-clause-steps
returns-in-Record-clause-steps c = gives_record _ c.if-self.false _ _ (sym c.in-Record.ensures)

pub returns-in-Record-clause-goes : goal.returns-in-Record-clause-goes
returns-in-Record-clause-goes c = let fewer = fewer_records _ _ _ (gives_record c.args.self.now c.if-self.false _ _ (sym c.in-Record.ensures)) in search rules

pub returns-in-Fault-clause-steps : goal.returns-in-Fault-clause-steps
returns-in-Fault-clause-steps c = gives_fault _ c.if-self.false _ (sym c.in-Fault.ensures)

pub returns-in-Fault-clause-goes : goal.returns-in-Fault-clause-goes
returns-in-Fault-clause-goes c = let fewer = fewer_faults _ _ _ (gives_fault c.args.self.now c.if-self.false _ (sym c.in-Fault.ensures)) in search rules

pub returns-in-End-clause-steps : goal.returns-in-End-clause-steps
returns-in-End-clause-steps c = gives_nothing _ c.if-self.false (sym c.in-End.ensures)
