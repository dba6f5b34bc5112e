-- From what the survey told to the forecast.
-- Assumes nothing.
use Rattle.std.specs.Prelude.{Ok, Err}
use mathlib.Core.Path.{◌≡◌, refl, ap}
use mathlib.Core.Bool.{Bool, true, false}
use mathlib.Core.List.{List}
use Prim.Native.Nat.{ℕ, ◌+◌}
use lib.Dec.{eqb}
use lib.ListN.{length}
use Rattle.laws.specs.Choice.{pick}
use Rattle.file_params.specs.declared.Refusal.{Refusal}
use Rattle.file_params.specs.Questions.{asked, unless, type_of, structure_of, filepass_body}
use Rattle.file_params.proofs.Laws.{unless_refused, unless_passed, unless_told}
use Rattle.block_keys.specs.BlockKeys.{started_blocks}
use Rattle.block_keys.specs.Lock.{lock_of}
use Rattle.survey.specs.declared.Book.{Book}
use Rattle.survey.specs.declared.Scheme.TheVariants as scheme
use Rattle.survey.specs.Survey.{block_keys, scheme_by, book_of, alone, surveyed}
use Rattle.forecast.specs.Forecast.{counts_of, forecast}
use Rattle.forecast.specs.Steps.{keys_of}

-- the keys of the lock that was read
by_scheme : (body : List ℕ) (n : ℕ) → keys_of (scheme_by body) n ≡ block_keys body n
unfolding scheme_by block_keys pick
by_scheme body n = go (eqb (type_of body) 0)
  where
    go : (t : Bool) → keys_of (pick t scheme.Xor (scheme.Rc4 (lock_of (structure_of body)))) n ≡ pick t 0 (1 + started_blocks 1024 n)
    go true = refl
    go false = refl

module _ (s : List ℕ) where
  pub foretold_refused : (r : Refusal) → surveyed s ≡ Err r → Err r ≡ forecast s
  unfolding surveyed forecast
  foretold_refused r e = ap (unless (counts_of s)) (unless_refused (book_of s) (asked (alone s)) r e)

  pub foretold : (b : Book) → surveyed s ≡ Ok b
      → Ok (record { output_bytes = length s; records = b.records; enciphered_body_bytes = b.enciphered; block_keys = keys_of b.scheme (length s) }) ≡ forecast s
  unfolding surveyed forecast counts_of book_of
  foretold b e =
      rw (unless_told (book_of s) b (asked (alone s)) e, by_scheme (filepass_body s) (length s))
      (ap (unless (counts_of s)) (unless_passed (book_of s) b (asked (alone s)) e))
