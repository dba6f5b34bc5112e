-- What a survey tells those who asked for it: its refusal is the first of the questions', and a stream that it takes was walked to its end, has a FILEPASS in
-- place and a lock that can be read.
-- Assumes nothing.
use Rattle.std.specs.Prelude.{Option, None, Some, is_none, is_some}
use mathlib.Core.Path.{◌≡◌, refl, sym}
use mathlib.Core.Bool.{true}
use mathlib.Core.List.{List}
use Prim.Native.Nat.{ℕ, ◌≤◌}
use borrow.Author.Tests.{le-leb}
use lib.ListN.{length, drop}
use Rattle.binary_office.specs.declared.BiffRecord.{BiffRecord}
use Rattle.binary_office.specs.Walk.{walk}
use Rattle.file_params.specs.Questions.{asked, in_order, locked, book, lock, of_stream, filepass, filepass_body}
use Rattle.file_params.proofs.Laws.{past, none_of_both, first_yes, rest_yes}
use Rattle.std.specs.Option.{unwrap_or}
use Rattle.survey.specs.Survey.{alone, book_of}

module _ (s : List ℕ) where
  -- of a stream that is not too large, the questions behind its length decide
  pub fitting : length s ≤ 1073741824 → asked (alone s) ≡ asked (of_stream s)
  unfolding asked alone
  fitting h = sym (past _ (le-leb (length s) 1073741824 h) refl)

  module _ (e : None ≡ asked (of_stream s)) where
    of_book : asked (book s) ≡ None
    unfolding of_stream
    of_book = (none_of_both (book s) (lock (filepass_body s)) (sym e)).0

    pub lock_passed : None ≡ asked (lock (filepass_body s))
    unfolding of_stream
    lock_passed = sym (none_of_both (book s) (lock (filepass_body s)) (sym e)).1

    pub ends_clean : (walk s).fault ≡ None
    unfolding book in_order
    ends_clean = by_end (walk s).fault (first_yes _ (drop 1 (book s)) of_book)
      where
        by_end : (w : Option ℕ) → is_none w ≡ true → w ≡ None
        by_end None g = refl
        by_end (Some at) g = cc

    there : is_some (filepass (walk s).records) ≡ true
    unfolding book in_order locked
    there = first_yes _ (drop 3 (book s)) (rest_yes _ (drop 2 (book s)) (rest_yes _ (drop 1 (book s)) of_book))

    pub placed : filepass (walk s).records ≡ Some (book_of s).filepass
    unfolding book_of
    placed = is_there (filepass (walk s).records) _ there
      where
        is_there : (o : Option BiffRecord) (d : BiffRecord) → is_some o ≡ true → o ≡ Some (unwrap_or o d)
        is_there None d g = cc
        is_there (Some r) d g = refl
