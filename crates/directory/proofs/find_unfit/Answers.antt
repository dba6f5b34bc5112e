-- `directory::find_unfit` meets its contract: the records judged, and those from the offset on, decide what all of them do.
-- Assumes nothing.
use mathlib.Core.Path.{sym, ◌∙◌}
use Rattle.std.proofs.Common.{arith}
use Rattle.directory.proofs.Search.{sheet_told, judged_all, judged_short, judged_unfit, judged_on}
use Rattle.directory.proofs.find_unfit.Goals as goal

pub returns-then-sheet-lt4 : goal.returns-then-sheet-lt4
returns-then-sheet-lt4 c =
    let follows = sheet_told c.args.stream.now _ _ c.next_sheet.ensures _ c.in_ok-sheet.was in
    judged_short c.args.stream.now _ _ _ c.loop.invariant _ follows c.if-sheet-lt4.true

pub returns-then-not-bof_at : goal.returns-then-not-bof_at
returns-then-not-bof_at c =
    let follows = sheet_told c.args.stream.now _ _ c.next_sheet.ensures _ c.in_ok-sheet.was in
    judged_unfit c.args.stream.now _ _ _ c.loop.invariant _ follows _ c.if-sheet-lt4.false
    c.start_of-start.ensures (sym c.bof_at.ensures ∙ c.if-not-bof_at.true)

pub loop-preserved : goal.loop-preserved
loop-preserved c =
    let follows = sheet_told c.args.stream.now _ _ c.next_sheet.ensures _ c.in_ok-sheet.was in
    judged_on c.args.stream.now _ _ _ c.loop.invariant _ follows _ c.if-sheet-lt4.false
    c.start_of-start.ensures (sym c.bof_at.ensures ∙ c.if-not-bof_at.false) _ (omega (arith, c.loop-test.true))

pub returns : goal.returns
returns c = judged_all c.args.stream.now _ _ _ c.loop.invariant (omega (arith, c.loop-test.false))
