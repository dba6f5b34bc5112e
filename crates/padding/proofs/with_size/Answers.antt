-- `padding::with_size` meets its contract: nothing of the block is left behind the length.
-- Assumes nothing.
use Rattle.std.proofs.Common.{◌≡◌, ℕ, List, ◌++◌, [], length, take, drop, ap, ◌∙◌, append-nil, drop_of_length-le, arith, rules}
use Rattle.std.proofs.lemmas.List.{drop-drop}
use Rattle.padding.proofs.with_size.Goals as goal

pub returns : goal.returns
returns c =
    let block = c.args.block in
    let all : length block ≡ 64 = search rules in
    let none : drop 8 (drop 56 block) ≡ [] = drop-drop 8 56 block ∙ drop_of_length-le block {i = 64} (omega arith) in
    ap (λ (s : List ℕ). take 56 block ++ (c.copy_from_slice.new.self ++ s)) none
    ∙ ap (λ (s : List ℕ). take 56 block ++ s) (append-nil c.copy_from_slice.new.self ∙ c.copy_from_slice.ensures.after)
