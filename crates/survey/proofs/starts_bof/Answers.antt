-- `survey::starts_bof` meets its contract: the first record is what stands at offset 0.
-- Assumes nothing.
use mathlib.Core.Path.{sym}
use Rattle.binary_office.specs.Walk.{walk}
use Rattle.binary_office.proofs.Along.{records_end_lem, records_fault}
use Rattle.survey.proofs.First.{starts, not_bof}
use Rattle.survey.proofs.starts_bof.Goals as goal

pub returns-in-Record : goal.returns-in-Record
returns-in-Record c = sym (starts c.args.stream.now 0 _ _ (sym c.in-Record.ensures))

pub returns-in-Fault : goal.returns-in-Fault
returns-in-Fault c = sym (not_bof (walk c.args.stream.now).records (records_fault c.args.stream.now 0 _ (sym c.in-Fault.ensures)))

pub returns-in-End : goal.returns-in-End
returns-in-End c = sym (not_bof (walk c.args.stream.now).records (records_end_lem c.args.stream.now 0 (sym c.in-End.ensures)))
