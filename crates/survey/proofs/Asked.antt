-- What the tally of a stream and the reading of its FILEPASS body come to, as answers to questions 4 and 6 to 26.
-- Assumes nothing.
use Rattle.std.specs.Prelude.{None, Some, Ok, Err, is_some}
use mathlib.Core.Path.{◌≡◌, refl, sym, ap, ◌∙◌}
use mathlib.Core.Bool.{true}
use mathlib.Core.List.{List, ◌++◌, append_assoc}
use Prim.Native.Nat.{ℕ, ◌+◌, ◌-◌, ◌≤◌, ◌<◌}
use native.Mathlib.Omega.{arith}
use borrow.Author.Tests.{le-leb, lt-leb}
use lib.ListN.{length, take, drop}
use Rattle.binary_office.specs.declared.BiffRecord.{BiffRecord}
use Rattle.binary_office.specs.Walk.{walk}
use Rattle.binary_office.proofs.Walks.{record_within}
use Rattle.file_params.specs.declared.Refusal.{Refusal}
use Rattle.file_params.specs.declared.Refusal.TheVariants.{StreamTooLarge, NotEncrypted, FilepassOutOfOrder}
use Rattle.file_params.specs.Questions.{asked, unless, in_order, locked, book, lock, of_stream, filepass, filepass_body, body_of, other_id}
use Rattle.file_params.proofs.Laws.{past, refused, asked_on, asked_stop, unless_refused, unless_passed, unless_told}
use Rattle.survey.specs.declared.Scheme.{Scheme}
use Rattle.survey.specs.declared.Tally.{Tally}
use Rattle.survey.specs.Survey.{scheme_by, book_of, alone, surveyed}
use Rattle.survey.specs.Steps.{tally_of, locked_by}
use Rattle.survey.proofs.Records.{located}

-- the body of the first FILEPASS lies in the stream
module _ (s : List ℕ) (r : BiffRecord) (e : filepass (walk s).records ≡ Some r) where
  pub body_inside : r.at + 4 + r.len ≤ length s
  body_inside = record_within s r.at 0x002F r.len (located s 0 (omega arith) r e).stands

  pub body_found_lem : filepass_body s ≡ take r.len (drop (r.at + 4) s)
  unfolding filepass_body
  body_found_lem = ap (body_of s) e

  -- as the code cuts it out
  pub body_slice : take (r.at + 4 + r.len - (r.at + 4)) (drop (r.at + 4) s) ≡ filepass_body s
  body_slice = let n : r.at + 4 + r.len - (r.at + 4) ≡ r.len = omega arith in rw n (sym body_found_lem)

-- questions 8 and 9, and behind them 10 to 26, by what was tallied
module _ (s : List ℕ) (t : Tally) (et : t ≡ tally_of s) where
  filepass_is : t.filepass ≡ filepass (walk s).records
  unfolding tally_of
  filepass_is = ap (λ (u : Tally). u.filepass) et

  other_is : t.other ≡ other_id (walk s).records
  unfolding tally_of
  other_is = ap (λ (u : Tally). u.other) et

  stopped : (r : Refusal) → Some r ≡ asked (locked (walk s).records) → Err r ≡ locked_by s
  unfolding locked_by
  stopped r e = ap (unless (book_of s)) (asked_stop (locked (walk s).records) (lock (filepass_body s)) r e)

  pub not_encrypted : t.filepass ≡ None → Err NotEncrypted ≡ locked_by s
  unfolding asked locked
  not_encrypted g = stopped _ (refused _ (rw (sym filepass_is ∙ g) refl))

  module _ (r : BiffRecord) (g : t.filepass ≡ Some r) where
    pub place : filepass (walk s).records ≡ Some r
    place = sym filepass_is ∙ g

    there : is_some (filepass (walk s).records) ≡ true
    there = rw place refl

    pub out_of_order : (id : ℕ) → t.other ≡ Some id → Err (FilepassOutOfOrder id) ≡ locked_by s
    unfolding asked locked
    out_of_order id h =
        let k : other_id (walk s).records ≡ Some id = sym other_is ∙ h in
        stopped _ (past _ there (rw k (refused _ refl)))

    module _ (h : t.other ≡ None) where
      in_lock : asked (locked (walk s).records ++ lock (filepass_body s)) ≡ asked (lock (filepass_body s))
      unfolding asked locked
      in_lock =
          let k : other_id (walk s).records ≡ None = sym other_is ∙ h in
          asked_on (locked (walk s).records) (lock (filepass_body s)) (past _ there (past _ (rw k refl) refl))

      -- what the questions of the body answer, whatever is told where they are passed
      module _ (b : List ℕ) (eb : b ≡ filepass_body s) where
        pub lock_refused : (r : Refusal) → unless (scheme_by b) (asked (lock b)) ≡ Err r → Err r ≡ locked_by s
        unfolding locked_by
        lock_refused r k =
            ap (unless (book_of s)) (unless_refused (scheme_by (filepass_body s)) (asked (lock (filepass_body s))) r (rw eb at k) ∙ sym in_lock)

        pub lock_read : (x : Scheme) → unless (scheme_by b) (asked (lock b)) ≡ Ok x
            → Ok (record { records = t.records; enciphered = t.enciphered; filepass = r; scheme = x }) ≡ locked_by s
        unfolding locked_by book_of tally_of
        lock_read x k =
            let u : unless (scheme_by (filepass_body s)) (asked (lock (filepass_body s))) ≡ Ok x = rw eb at k in
            ap Ok (survey_is x (unless_told (scheme_by (filepass_body s)) x (asked (lock (filepass_body s))) u))
            ∙ ap (unless (book_of s)) (unless_passed (scheme_by (filepass_body s)) x (asked (lock (filepass_body s))) u ∙ sym in_lock)
          where
            survey_is : (x : Scheme) → x ≡ scheme_by (filepass_body s)
                → record { records = t.records; enciphered = t.enciphered; filepass = r; scheme = x } ≡ book_of s
            survey_is x ex = rw (et, ex, place) refl

-- questions 4, 6 and 7
module _ (s : List ℕ) where
  pub too_large : 1073741824 < length s → Err StreamTooLarge ≡ surveyed s
  unfolding surveyed asked alone
  too_large h = ap (unless (book_of s)) (refused _ (lt-leb (length s) 1073741824 h))

  module _ (h : length s ≤ 1073741824) where
    fits : asked (alone s) ≡ asked (of_stream s)
    unfolding asked alone
    fits = sym (past _ (le-leb (length s) 1073741824 h) refl)

    pub out_of_walk : (r : Refusal) → Some r ≡ asked (in_order (walk s).fault (walk s).records) → Err r ≡ surveyed s
    unfolding surveyed of_stream book
    out_of_walk r e =
        ap (unless (book_of s))
        (asked_stop (in_order (walk s).fault (walk s).records ++ locked (walk s).records) (lock (filepass_body s)) r
        (asked_stop (in_order (walk s).fault (walk s).records) (locked (walk s).records) r e)
        ∙ sym fits)

    pub walked : None ≡ asked (in_order (walk s).fault (walk s).records) → locked_by s ≡ surveyed s
    unfolding surveyed locked_by of_stream book
    walked e =
        ap (unless (book_of s))
        (sym (fits ∙ ap asked (append_assoc (in_order (walk s).fault (walk s).records) (locked (walk s).records) (lock (filepass_body s)))
        ∙ asked_on (in_order (walk s).fault (walk s).records) (locked (walk s).records ++ lock (filepass_body s)) e))
