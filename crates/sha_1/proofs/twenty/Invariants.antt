-- `sha_1::twenty` meets its contract: each turn is one round more, with the function and the constant of these twenty.
-- Assumes nothing.
use Rattle.std.proofs.Common.{◌≡◌}
use Rattle.sha_1.specs.declared.State.{State}
use Rattle.sha_1.specs.Sha1.{rounds}
use Rattle.sha_1.proofs.twenty.Given as goal

abbrev pub invariant-loop-t : goal.invariant-loop-t
invariant-loop-t g l = (u : State) → l.initial.v ≡ rounds l.w u l.from → l.v ≡ rounds l.w u l.t
