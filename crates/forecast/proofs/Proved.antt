-- What request T-04 says of the forecast: the four are counts in the definition of opening, any run that opens tells the same, and any run that is lent enough
-- is refused as the stream alone decides, or by the check.
-- Assumes nothing.
use Rattle.std.specs.Prelude.{Option, None, Some, Ok, Result}
use mathlib.Core.Path.{◌≡◌, refl, sym, ap, ◌∙◌}
use mathlib.Core.Bool.{Bool, true, false}
use mathlib.Core.List.{List, [], ◌∷◌, ◌++◌}
use Prim.Native.Nat.{ℕ, ◌+◌, ◌≤◌}
use native.Mathlib.Omega.{arith}
use borrow.Author.Tests.{le-leb, leb-true}
use lib.Dec.{eqb, leb}
use lib.ListN.{length}
use Rattle.laws.specs.Choice.{pick}
use Rattle.sensitive.specs.Utf8.{well_formed}
use Rattle.binary_office.specs.Walk.{zero_bytes, walk, remainder}
use Rattle.binary_office.proofs.Remainder.{padded_length}
use Rattle.file_params.specs.declared.Refusal.{Refusal}
use Rattle.file_params.specs.Refusal.{number}
use Rattle.file_params.specs.Questions.{scratch_need, asked, unless, only, lent, in_order, locked, book, encryption_type, version, office97, crypto_api, rc4, lock, of_stream, stream_fits, filepass_body, structure_of, type_of, is_office97, is_crypto_api}
use Rattle.file_params.specs.Numbers.{numbers}
use Rattle.file_params.proofs.Laws.{from_either, unless_refused, unless_told}
use Rattle.file_params.proofs.Tables.{given_passes, stream_number}
use Rattle.survey.specs.Survey.{enciphered_bytes, block_keys, alone}
use Rattle.survey.proofs.Tallied.{within_stream}
use Rattle.survey.proofs.Told.{fitting}
use Rattle.excel97.specs.declared.Report.{Report}
use Rattle.excel97.specs.Open.{passes, xor_report, rc4_report, report, Opens}
use Rattle.excel97.proofs.Answers.{earlier, empty_fine, decided, Ran, ran, refusing, not_last}
use Rattle.excel97.proofs.Padded.{walked, same_body, same_questions}
use Rattle.excel97.proofs.PlainBytes.{length_plain}
use Rattle.excel97.proofs.Settled.{has_opened}
use Rattle.forecast.specs.declared.Counts.{Counts}
use Rattle.forecast.specs.Forecast.{counts_of, forecast}
use Rattle.forecast.specs.Theorems.{AreCounts, SameCounts, SameRefusals, padded_forecast, expected, Forecasts}
use Rattle.forecast.proofs.Counted.{all_counted}
use Rattle.forecast.proofs.Keys.{by_place_lem, no_keys_used, keys_counted, keys_used}

-- the counts of the definition
are_counts : (s : List ℕ) → AreCounts s (counts_of s)
unfolding counts_of block_keys
are_counts s =
    record {
      output = λ password. sym (length_plain s password);
      records = refl;
      enciphered = sym (all_counted s);
      summed = refl;
      keys = sym (keys_counted s);
      within = let h = within_stream s in omega arith;
    }

-- the report tells the same
same_counts : (s : List ℕ) → SameCounts (counts_of s) (report s)
unfolding counts_of report pick
same_counts s = go (eqb (type_of (filepass_body s)) 0)
  where
    go : (t : Bool)
        → SameCounts (counts_of s)
        (pick t xor_report (rc4_report (structure_of (filepass_body s))) (length (walk s).records) (length s) (enciphered_bytes (walk s).records)
        (block_keys (filepass_body s) (length s)))
    go true = record { output = refl; records = refl; enciphered = refl; keys = refl }
    go false = record { output = refl; records = refl; enciphered = refl; keys = refl }

of_any_run : (s password scratch output : List ℕ) (x : Report) (scratch' output' : List ℕ)
    → Opens s password scratch output (Ok x) scratch' output'
    → (c : Counts) × (forecast s ≡ Ok c) × SameCounts c x
unfolding forecast
of_any_run s password scratch output x scratch' output' run =
    let o = has_opened s password scratch output x scratch' output' run in
    let passed : asked (alone s) ≡ None = fitting s o.fits ∙ sym o.alone in
    (counts_of s, ap (unless (counts_of s)) passed, rw o.told (same_counts s))

-- a refusal of the stream alone is not 27
alone_number : (s : List ℕ) (r : Refusal) → asked (alone s) ≡ Some r → number r ≡ 27 → ⊥
unfolding alone
alone_number s r e n =
    let h : number r ≤ 26 =
    from_either (stream_fits (length s) ∷ []) (of_stream s) r (number r ≤ 26)
    (λ g. leb-true (number r) 26 (given_passes (λ (q : Refusal). leb (number q) 26) (stream_fits (length s) ∷ []) r refl g))
    (λ g. (stream_number s r g).1)
    e in
    omega arith

-- where enough is lent, the questions before 27 are those of the stream alone
module _ (s scratch output : List ℕ) (room : 64 ≤ length scratch) (fits : length s ≤ length output) where
  lent_enough : asked (earlier s scratch output) ≡ asked (alone s)
  unfolding asked lent alone pick
  lent_enough =
      rw (le-leb 64 (length scratch) room, le-leb (length s) (length output) fits, empty_fine)

  module _ (password : List ℕ) (a : Result Report Refusal) (scratch' output' : List ℕ) (short : length password ≤ 1024) (fine : well_formed password ≡ true)
      (run : Opens s password scratch output a scratch' output') where
    this : Ran scratch_need s password scratch output (decided (asked (alone s)) (passes (filepass_body s) password)) a scratch' output'
    this = rw lent_enough at (ran s password scratch output a scratch' output' short fine run)

    same_refusals : SameRefusals (forecast s) a
    unfolding forecast
    same_refusals =
        record {
          to = λ r e. let g = sym (unless_refused (counts_of s) (asked (alone s)) r e) in (rw g at this.answered, alone_number s r g);
          from = λ r e n.
              ap (unless (counts_of s))
              (not_last (asked (alone s)) (passes (filepass_body s) password) r (λ q. n (ap number q))
              (refusing s password scratch output a scratch' output' (decided (asked (alone s)) (passes (filepass_body s) password)) this r e).given);
        }

-- the numbers, by the choices of the table
numbered : (s : List ℕ)
    → let body = filepass_body s in
    let structure = structure_of body in
    numbers (alone s) ≡ expected (eqb (type_of body) 1) (is_office97 structure) (is_crypto_api structure)
unfolding alone of_stream book in_order locked lock encryption_type only pick rc4 version office97 crypto_api
numbered s = go (eqb (type_of (filepass_body s)) 1) (is_office97 (structure_of (filepass_body s))) (is_crypto_api (structure_of (filepass_body s)))
  where
    go : (t u v : Bool)
        → numbers
        (stream_fits (length s)
        ∷ (book s ++ (encryption_type (filepass_body s) ++ only t (version (structure_of (filepass_body s)) ++ (only u (office97 (structure_of (filepass_body s)))
        ++ only v (crypto_api (structure_of (filepass_body s)))))))) ≡ expected t u v
    go true true true = refl
    go true true false = refl
    go true false true = refl
    go true false false = refl
    go false u v = refl

-- a book with padding behind it
of_padded : (s : List ℕ) (n : ℕ) → remainder s ≡ [] → n ≤ 3 → length s + n ≤ 1073741824 → forecast (s ++ zero_bytes n) ≡ padded_forecast s n (forecast s)
unfolding forecast counts_of
of_padded s n filled most fits = ap (unless (counts_of (s ++ zero_bytes n))) same_alone ∙ by (asked (alone s))
  where
    same_alone : asked (alone (s ++ zero_bytes n)) ≡ asked (alone s)
    same_alone =
        let size = padded_length s n in
        fitting (s ++ zero_bytes n) (omega arith) ∙ ap asked (same_questions s n filled most) ∙ sym (fitting s (omega arith))

    by : (d : Option Refusal) → unless (counts_of (s ++ zero_bytes n)) d ≡ padded_forecast s n (unless (counts_of s) d)
    by None = rw ((walked s n filled most).records, same_body s n filled most, padded_length s n)
    by (Some r) = refl

pub forecasts : Forecasts
unfolding forecast
forecasts =
    record {
      places = by_place_lem;
      counts = λ s c e. rw (unless_told (counts_of s) c (asked (alone s)) e) (are_counts s);
      under_xor = no_keys_used;
      under_rc4 = keys_used;
      of_any_run = of_any_run;
      refused = λ s password scratch output a scratch' output' short fine room fits run. same_refusals s scratch output room fits password a scratch' output' short fine run;
      of_padded = of_padded;
      numbered = numbered;
    }
