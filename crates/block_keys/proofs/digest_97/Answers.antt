-- `block_keys::digest_97` meets its contract: the five bytes made from H0, where there is one.
-- Assumes nothing.
use mathlib.Core.Path.{sym, ap, ◌∙◌}
use mathlib.Core.List.{List, ◌++◌}
use Prim.Native.Nat.{ℕ}
use lib.ListN.{replicate}
use Rattle.std.specs.Prelude.{Some}
use Rattle.rc4_office97.specs.Keys.{truncated}
use Rattle.block_keys.proofs.Schedules.{made_of_none, made_of_some}
use Rattle.block_keys.proofs.digest_97.Goals as goal

pub returns-in_err-h0 : goal.returns-in_err-h0
returns-in_err-h0 c = let h = c.md5_password.ensures in
    record { digested = c.from_residual.ensures ∙ made_of_none _ _ _ (sym c.in_err-h0.was ∙ h.digested); wiped = h.wiped }

pub returns : goal.returns
returns c =
    let h = c.md5_password.ensures in
    let widened : List ℕ → List ℕ = λ (l : List ℕ). truncated l c.args.salt ++ replicate 15 0 in
    record {
      digested =
          ap Some (c.widened.ensures ∙ ap (λ (l : List ℕ). l ++ replicate 15 0) c.truncated_h1.ensures)
          ∙ made_of_some _ _ _ widened (sym c.in_ok-h0.was ∙ h.digested);
      wiped = h.wiped;
    }
