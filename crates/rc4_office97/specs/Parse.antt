-- A 1.1 structure, read: MS-OFFCRYPTO 2.3.6.1, as document 01's question 14 has it.
-- Assumes nothing.
use Rattle.std.specs.Prelude.{ℕ, List, Result, ⊤}
use Rattle.file_params.specs.declared.Refusal.{Refusal}
use Rattle.file_params.specs.Questions.{asked, unless, office97}

unfoldable pub parsed : List ℕ → Result ⊤ Refusal
parsed structure = unless tt (asked (office97 structure))
