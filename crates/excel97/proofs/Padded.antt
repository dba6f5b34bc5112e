-- A padded book has the records and the FILEPASS body of the book without its padding, so the questions have the same answers, each byte of a record is
-- deciphered alike, and what lies behind the records stays.
-- Assumes nothing.
use Rattle.excel97.specs.declared.Report.{Report}
use Rattle.std.specs.Prelude.{Option, None, Some, Ok, Err, Result}
use mathlib.Core.Path.{◌≡◌, refl, sym, ap, ◌∙◌}
use mathlib.Core.Bool.{Bool, true, false}
use mathlib.Core.List.{List, [], ◌++◌, append_assoc}
use Prim.Native.Nat.{ℕ, ◌+◌, ◌-◌, ◌≤◌, ◌<◌}
use native.Mathlib.Omega.{arith}
use borrow.Author.Tests.{le-leb}
use lib.Dec.{eqb}
use lib.ListN.{length, get_or, take, drop, length-append, get_or-append}
use lib.Seq.{get_or-append-add, get_or-take, get_or-drop, ext_get_or, take_at}
use Rattle.laws.specs.Choice.{pick}
use Rattle.laws.proofs.Choice.{either}
use Rattle.binary_office.specs.declared.BiffRecord.{BiffRecord}
use Rattle.binary_office.specs.Walk.{zero_bytes, walk, remainder}
use Rattle.binary_office.specs.Remainder.{PaddedBy}
use Rattle.binary_office.proofs.Walks.{record_within}
use Rattle.binary_office.proofs.Along.{end_within}
use Rattle.binary_office.proofs.Remainder.{padded_length, remainders}
use Rattle.file_params.specs.declared.Refusal.{Refusal}
use Rattle.file_params.specs.Questions.{scratch_need, asked, lent, book, of_stream, questions, filepass, body_of, filepass_body, structure_of, type_of}
use Rattle.block_keys.proofs.Parts.{part_size}
use Rattle.survey.specs.Survey.{enciphered_bytes, block_keys}
use Rattle.survey.proofs.Records.{located}
use Rattle.excel97.specs.Open.{passes, plain_at, plain, xor_report, rc4_report, report, outcome_by, outcome_with}
use Rattle.excel97.specs.Padded.{padded_report, Padded, OfAnyPaddedBook}
use Rattle.excel97.proofs.PlainBytes.{length_plain, plain_at_lem, behind_byte}

-- a part of a list is a part of a longer one
part_kept : (s t : List ℕ) (start n : ℕ) → start + n ≤ length s → take n (drop start (s ++ t)) ≡ take n (drop start s)
part_kept s t start n h =
    let longer = length-append s t in
    ext_get_or 0 (take n (drop start (s ++ t))) (take n (drop start s)) (part_size (s ++ t) start n (omega arith) ∙ sym (part_size s start n h))
    (λ i k.
    let m : i < n = rw (part_size (s ++ t) start n (omega arith)) at k in
    get_or-take n (drop start (s ++ t)) i 0 m
    ∙ get_or-drop start (s ++ t) i 0
    ∙ get_or-append s t 0 (start + i) (omega arith)
    ∙ sym (get_or-take n (drop start s) i 0 m ∙ get_or-drop start s i 0))

-- questions 4 and 5 where the stream fits
lent_same : (p : List ℕ) (n m scratch output : ℕ) → n ≤ 1073741824 → n ≤ output → m ≤ 1073741824 → m ≤ output
    → lent scratch_need p n scratch output ≡ lent scratch_need p m scratch output
unfolding lent
lent_same p n m scratch output a b c d = rw (le-leb n 1073741824 a, le-leb n output b, le-leb m 1073741824 c, le-leb m output d)

module _ (s : List ℕ) (n : ℕ) (filled : remainder s ≡ []) (most : n ≤ 3) where
  abbrev longer : List ℕ
  longer = s ++ zero_bytes n

  size : length longer ≡ length s + n
  size = padded_length s n

  pub walked : PaddedBy s (zero_bytes n)
  walked = remainders.padding s n filled most

  pub same_body : filepass_body longer ≡ filepass_body s
  unfolding filepass_body
  same_body = ap (λ (rs : List BiffRecord). body_of longer (filepass rs)) walked.records ∙ by (filepass (walk s).records) refl
    where
      by : (f : Option BiffRecord) → filepass (walk s).records ≡ f → body_of longer f ≡ body_of s f
      by None e = refl
      by (Some r) e = part_kept s (zero_bytes n) (r.at + 4) r.len (record_within s r.at 0x002F r.len (located s 0 (omega arith) r e).stands)

  pub same_questions : of_stream longer ≡ of_stream s
  unfolding of_stream book
  same_questions = rw (walked.records, walked.ends, same_body)

  same_byte : (p : List ℕ) (o x : ℕ) → plain_at longer p o x ≡ plain_at s p o x
  unfolding plain_at
  same_byte p o x = rw (walked.records, same_body)

  same_plain : (p : List ℕ) → plain longer p ≡ plain s p ++ zero_bytes n
  same_plain p =
      let k = size in
      let here = length_plain s p in
      let lengths : length (plain s p ++ zero_bytes n) ≡ length s + n = padded_length (plain s p) n ∙ ap (λ (k : ℕ). k + n) here in
      ext_get_or 0 (plain longer p) (plain s p ++ zero_bytes n) (length_plain longer p ∙ size ∙ sym lengths)
      (λ i h.
      let inside : i < length longer = rw (length_plain longer p) at h in
      plain_at_lem longer p i inside ∙ same_byte p i (get_or longer i 0) ∙ either (length s) i (behind i) (within i))
    where
      within : (i : ℕ) → i < length s → plain_at s p i (get_or longer i 0) ≡ get_or (plain s p ++ zero_bytes n) i 0
      within i k =
          ap (plain_at s p i) (get_or-append s (zero_bytes n) 0 i k)
          ∙ sym (plain_at_lem s p i k)
          ∙ sym (get_or-append (plain s p) (zero_bytes n) 0 i (rw (length_plain s p) k))

      at_place : (i : ℕ) (front : List ℕ) → length front ≡ length s → length s ≤ i → get_or (front ++ zero_bytes n) i 0 ≡ get_or (zero_bytes n) (i - length s) 0
      at_place i front e k =
          let place : length front + (i - length s) ≡ i = omega arith in
          ap (λ (j : ℕ). get_or (front ++ zero_bytes n) j 0) (sym place) ∙ get_or-append-add front (zero_bytes n) (i - length s) 0

      behind : (i : ℕ) → length s ≤ i → plain_at s p i (get_or longer i 0) ≡ get_or (plain s p ++ zero_bytes n) i 0
      behind i k =
          let ends = end_within s in
          behind_byte s p i (get_or longer i 0) (omega arith) ∙ at_place i s refl k ∙ sym (at_place i (plain s p) (length_plain s p) k)

  same_report : report longer ≡ padded_report s n (report s)
  unfolding report pick
  same_report = rw (walked.records, same_body, size) (by (eqb (type_of (filepass_body s)) 0))
    where
      by : (t : Bool)
          → pick t xor_report (rc4_report (structure_of (filepass_body s))) (length (walk s).records) (length s + n) (enciphered_bytes (walk s).records)
          (block_keys (filepass_body s) (length s + n))
          ≡ padded_report s n
          (pick t xor_report (rc4_report (structure_of (filepass_body s))) (length (walk s).records) (length s) (enciphered_bytes (walk s).records)
          (block_keys (filepass_body s) (length s)))
      by true = refl
      by false = refl

  module _ (p scratch output : List ℕ) (fits : length s + n ≤ 1073741824) (room : length s + n ≤ length output) where
    abbrev answer : Option Refusal
    answer = asked (questions scratch_need s p scratch output (passes (filepass_body s) p))

    same_answer : asked (questions scratch_need longer p scratch output (passes (filepass_body longer) p)) ≡ answer
    unfolding questions
    same_answer =
        let k = size in
        let lending = lent_same p (length longer) (length s) (length scratch) (length output) (omega arith) (omega arith) (omega arith) (omega arith) in
        rw (lending, same_questions, same_body)

    by_answer : (d : Option Refusal) (a b : (Result Report Refusal)) (scratch₁ output₁ scratch₂ output₂ : List ℕ)
        → a ≡ (outcome_by scratch_need s p scratch output d).answer → scratch₁ ≡ (outcome_by scratch_need s p scratch output d).scratch
        → output₁ ≡ (outcome_by scratch_need s p scratch output d).output
        → b ≡ (outcome_by scratch_need longer p scratch output d).answer → scratch₂ ≡ (outcome_by scratch_need longer p scratch output d).scratch
        → output₂ ≡ (outcome_by scratch_need longer p scratch output d).output → Padded s output n a b scratch₁ output₁ scratch₂ output₂
    by_answer None a b scratch₁ output₁ scratch₂ output₂ ea es eo eb et eq =
        record {
          refused_to = λ r e. let z : Ok (report s) ≡ Err r = sym ea ∙ e in cc;
          refused_from = λ r e. let z : Ok (report longer) ≡ Err r = sym eb ∙ e in cc;
          told = λ x e. let z : report s ≡ x = cc in eb ∙ ap Ok (same_report ∙ ap (padded_report s n) z);
          copied = λ x e. eq ∙ both;
          scratch_alike = et ∙ sym es;
        }
      where
        both : plain longer p ++ drop (length longer) output ≡ take (length s) output₁ ++ (zero_bytes n ++ drop (length s + n) output)
        both =
            let front : take (length s) output₁ ≡ plain s p = rw eo (take_at (plain s p) (drop (length s) output) (length s) (length_plain s p)) in
            rw (same_plain p, size, front) (append_assoc (plain s p) (zero_bytes n) (drop (length s + n) output))
    by_answer (Some q) a b scratch₁ output₁ scratch₂ output₂ ea es eo eb et eq =
        record {
          refused_to = λ r e. eb ∙ sym ea ∙ e;
          refused_from = λ r e. ea ∙ sym eb ∙ e;
          told = λ x e. let z : Err q ≡ Ok x = sym ea ∙ e in cc;
          copied = λ x e. let z : Err q ≡ Ok x = sym ea ∙ e in cc;
          scratch_alike = et ∙ sym es;
        }

pub padded_book : OfAnyPaddedBook
unfolding outcome_with
padded_book s p scratch output n a b scratch₁ output₁ scratch₂ output₂ filled most fits room run₁ run₂ =
    let same = same_answer s n filled most p scratch output fits room in
    by_answer s n filled most p scratch output fits room (answer s n filled most p scratch output fits room) a b scratch₁ output₁ scratch₂ output₂
    run₁.answered run₁.scratch_left run₁.output_left
    (run₂.answered ∙ ap (λ (d : Option Refusal). (outcome_by scratch_need (s ++ zero_bytes n) p scratch output d).answer) same)
    (run₂.scratch_left ∙ ap (λ (d : Option Refusal). (outcome_by scratch_need (s ++ zero_bytes n) p scratch output d).scratch) same)
    (run₂.output_left ∙ ap (λ (d : Option Refusal). (outcome_by scratch_need (s ++ zero_bytes n) p scratch output d).output) same)
