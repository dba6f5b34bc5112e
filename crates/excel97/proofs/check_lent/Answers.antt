-- `excel97::check_lent` meets its contract: each way out is one question of the table. What the tests before it told is stated at each, and not cited, so that a
-- test in another place leaves a fact unproved.
-- Assumes nothing.
use mathlib.Core.Path.{◌≡◌, refl, ap}
use Prim.Native.Nat.{◌≤◌, ◌<◌}
use native.Mathlib.Omega.{arith}
use mathlib.Core.Bool.{true, false}
use lib.ListN.{length}
use borrow.Author.Tests.{le-leb, lt-leb}
use Rattle.sensitive.specs.Utf8.{well_formed}
use Rattle.file_params.specs.Questions.{asked, lent, unless}
use Rattle.file_params.proofs.Laws.{past, refused}
use Rattle.excel97.proofs.check_lent.Goals as goal

pub returns-then-password-gt-PASSWORD_MAX_LEN : goal.returns-then-password-gt-PASSWORD_MAX_LEN
unfolding asked lent
returns-then-password-gt-PASSWORD_MAX_LEN c =
    let long : 1024 < length c.args.password.now = omega arith in
    ap (unless tt) (refused _ (lt-leb _ _ long))

pub returns-then-not-well_formed : goal.returns-then-not-well_formed
unfolding asked lent
returns-then-not-well_formed c =
    let short : length c.args.password.now ≤ 1024 = omega arith in
    let malformed : well_formed c.args.password.now ≡ false = cc in
    ap (unless tt) (past _ (le-leb _ _ short) (refused _ malformed))

pub returns-then-scratch-lt-SCRATCH_LEN : goal.returns-then-scratch-lt-SCRATCH_LEN
unfolding asked lent
returns-then-scratch-lt-SCRATCH_LEN c =
    let short : length c.args.password.now ≤ 1024 = omega arith in
    let formed : well_formed c.args.password.now ≡ true = cc in
    let less : c.args.scratch < 64 = omega arith in
    ap (unless tt) (past _ (le-leb _ _ short) (past _ formed (refused _ (lt-leb _ _ less))))

pub returns-then-stream-gt-LEGACY_STREAM_READ_CAP : goal.returns-then-stream-gt-LEGACY_STREAM_READ_CAP
unfolding asked lent
returns-then-stream-gt-LEGACY_STREAM_READ_CAP c =
    let short : length c.args.password.now ≤ 1024 = omega arith in
    let formed : well_formed c.args.password.now ≡ true = cc in
    let enough : 64 ≤ c.args.scratch = omega arith in
    let large : 1073741824 < c.args.stream = omega arith in
    ap (unless tt) (past _ (le-leb _ _ short) (past _ formed (past _ (le-leb _ _ enough) (refused _ (lt-leb _ _ large)))))

pub returns-then-output-stream : goal.returns-then-output-stream
unfolding asked lent
returns-then-output-stream c =
    let short : length c.args.password.now ≤ 1024 = omega arith in
    let formed : well_formed c.args.password.now ≡ true = cc in
    let enough : 64 ≤ c.args.scratch = omega arith in
    let small : c.args.stream ≤ 1073741824 = omega arith in
    let none : c.args.output < c.args.stream = omega arith in
    ap (unless tt) (past _ (le-leb _ _ short) (past _ formed (past _ (le-leb _ _ enough) (past _ (le-leb _ _ small) (refused _ (lt-leb _ _ none))))))

pub returns : goal.returns
unfolding asked lent
returns c =
    let short : length c.args.password.now ≤ 1024 = omega arith in
    let formed : well_formed c.args.password.now ≡ true = cc in
    let enough : 64 ≤ c.args.scratch = omega arith in
    let small : c.args.stream ≤ 1073741824 = omega arith in
    let room : c.args.stream ≤ c.args.output = omega arith in
    ap (unless tt) (past _ (le-leb _ _ short) (past _ formed (past _ (le-leb _ _ enough) (past _ (le-leb _ _ small) (past _ (le-leb _ _ room) refl)))))
