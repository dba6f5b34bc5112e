-- `directory::start_at` meets its contract: the start at the place is that of the records from the offset on, with those before it counted off.
-- Assumes nothing.
use Rattle.std.proofs.Common.{arith}
use Rattle.std.proofs.lemmas.Grind.{common_steps}
use Rattle.directory.proofs.Search.{sheet_told, none_told, from_count, sought_nothing, four_there, sought_here, sought_on}
use Rattle.directory.proofs.start_at.Goals as goal

pub returns-then-sheets-place : goal.returns-then-sheets-place
returns-then-sheets-place c = from_count c.args.stream.now _ _ c.requires.counted c.if-sheets-place.true

pub returns-in_err-before : goal.returns-in_err-before
returns-in_err-before c =
    let none = sought_nothing c.args.stream.now _ _ _ c.loop.invariant (none_told c.args.stream.now _ _ c.next_sheet.ensures c.in_err-before.was) in
    grind (arith, common_steps, none)

pub loop-preserved : goal.loop-preserved
loop-preserved c =
    let follows = sheet_told c.args.stream.now _ _ c.next_sheet.ensures _ c.in_ok-before.was in
    sought_on c.args.stream.now _ _ _ c.loop.invariant _ follows _ (omega (arith, c.loop-test.true))

pub returns-in_err-sheet : goal.returns-in_err-sheet
returns-in_err-sheet c =
    let none = sought_nothing c.args.stream.now _ _ _ c.loop.invariant (none_told c.args.stream.now _ _ c.next_sheet-2.ensures c.in_err-sheet.was) in
    grind (arith, common_steps, none)

pub start_of-requires : goal.start_of-requires
start_of-requires c =
    four_there c.args.stream.now _ _ _ c.loop.invariant _ (sheet_told c.args.stream.now _ _ c.next_sheet-2.ensures _ c.in_ok-sheet.was)

pub returns : goal.returns
returns c =
    let follows = sheet_told c.args.stream.now _ _ c.next_sheet-2.ensures _ c.in_ok-sheet.was in
    sought_here c.args.stream.now _ _ _ c.loop.invariant _ follows _ (omega (arith, c.loop-test.false)) c.start_of.ensures
