-- The key size in C, from `key_sizes`: no refusal has the number 0, so an answer of 0 is a book that was opened, and its facts are those of the report.
-- Assumes nothing.
use Rattle.std.specs.Option.{unwrap_or}
use Rattle.std.specs.Prelude.{Option, Ok, Err, Result}
use Rattle.file_params.specs.declared.Refusal.{Refusal}
use Rattle.excel97.specs.declared.Report.{Report}
use mathlib.Core.Path.{◌≡◌, refl, sym, ap, ◌∙◌}
use mathlib.Core.List.{List}
use Prim.Native.Nat.{ℕ, ◌+◌}
use lib.ListN.{get_or}
use Rattle.laws.proofs.Choice.{either}
use Rattle.binary_office.specs.declared.Verdict.{Verdict}
use Rattle.binary_office.specs.declared.Verdict.TheVariants.{Yes, No, Unknown}
use Rattle.binary_office.specs.Look.{look}
use Rattle.excel97.specs.declared.Lock.{Lock}
use Rattle.excel97.specs.declared.Lock.TheVariants.{Xor, Office97, CryptoApi}
use Rattle.excel97.specs.Open.{outcome, Opens}
use Rattle.binary_office.specs.KeySizes.{reported}
use Rattle.key_sizes.proofs.KeySizes.{same_key_size}
use Rattle.sheet.specs.Facts.{look_facts, lock_number, number_of, open_facts, OpensInC}
use Rattle.sheet.specs.KeySizes.{SameInC, OfAnyRunInC}
use Rattle.sheet.proofs.Numbers.{not_refused}

-- the number of a lock tells it
lock_is : (l : Lock) → lock_number l ≡ 2 → l ≡ CryptoApi
lock_is Xor e = cc
lock_is Office97 e = cc
lock_is CryptoApi e = refl

-- the fifth fact of a verdict is the key size that it reports
size_told : (v : Verdict) → get_or (look_facts v) 4 0 ≡ unwrap_or (reported v) 0
size_told Unknown = refl
size_told No = refl
size_told (Yes f) = refl

module _ (stream password scratch output looked : List ℕ) (number' : ℕ) (scratch' output' told : List ℕ) (l : looked ≡ look_facts (look stream))
    (run : OpensInC stream password scratch output number' scratch' output' told) where
  size_looked : (k : Option ℕ) → reported (look stream) ≡ k → get_or looked 4 0 ≡ unwrap_or k 0
  size_looked k e = ap (λ (f : List ℕ). get_or f 4 0) l ∙ size_told (look stream) ∙ ap (λ (o : Option ℕ). unwrap_or o 0) e

  runs : (a : Result Report Refusal) → (outcome stream password scratch output).answer ≡ a → Opens stream password scratch output a scratch' output'
  runs a e = record { answered = sym e; scratch_left = run.scratch_left; output_left = run.output_left }

  by_answer : (a : Result Report Refusal) → (outcome stream password scratch output).answer ≡ a → number_of a ≡ 0 → get_or (open_facts a) 1 0 ≡ 2 → SameInC stream looked told
  by_answer (Err r) e z t = not_refused r z
  by_answer (Ok x) e z t =
      let h = same_key_size stream password scratch output (look stream) (Ok x) scratch' output' x refl (runs (Ok x) e) refl (lock_is x.lock t) in
      let its : get_or told 2 0 ≡ x.key_bits = ap (λ (f : List ℕ). get_or f 2 0) (run.told ∙ ap open_facts e) in
      record {
        first = h.first;
        found = h.found;
        same = λ k. size_looked _ (h.same k) ∙ sym its;
        only = λ g. either (h.first.at + 38) 1048576 (λ k. k) (λ k. absurd (h.sized (sym its ∙ sym g ∙ size_looked _ (h.none_behind k))));
        none_behind = λ k. size_looked _ (h.none_behind k);
      }

pub same_in_c : OfAnyRunInC
same_in_c stream password scratch output looked answer scratch' output' told l run z t =
    by_answer stream password scratch output looked answer scratch' output' told l run (outcome stream password scratch output).answer refl (sym run.answered ∙ z)
    (sym (ap (λ (f : List ℕ). get_or f 1 0) run.told) ∙ t)
