-- The numbers of the questions: each group's by computing, and all of them by the choices of `questions`, which are few. A test over each of the lists that
-- they leave is computed, and says that the numbers never fall.
-- Assumes nothing.
use mathlib.Core.Path.{◌≡◌, refl, ap, ◌∙◌}
use mathlib.Core.Bool.{Bool, true, false, ◌&&◌}
use mathlib.Core.List.{List, [], ◌∷◌, ◌++◌}
use Prim.Native.Nat.{ℕ, zero, suc, ◌≤◌, ◌<◌}
use native.Mathlib.Omega.{arith}
use borrow.Author.Tests.{leb-true}
use lib.Dec.{eqb, leb}
use lib.ListN.{length, get_or}
use Rattle.laws.specs.Choice.{pick}
use Rattle.file_params.specs.declared.Refusal.TheVariants.{WrongPassword}
use Rattle.file_params.specs.Questions.{Question, ask, only, lent, in_order, locked, book, encryption_type, version, office97, crypto_api, rc4, lock, of_stream, questions, filepass_body, structure_of, type_of, is_office97, is_crypto_api}
use Rattle.file_params.specs.Numbers.{numbers, expected, Numbered, Rising}

-- a test that a list never falls, from a number on
abbrev rising_from : ℕ → List ℕ → Bool
rising_from m [] = true
rising_from m (n ∷ ns) = leb m n && rising_from n ns

both : (t u : Bool) → (t && u) ≡ true → (t ≡ true) × (u ≡ true)
both true u e = (refl, e)
both false true e = (e, refl)
both false false e = (e, e)

-- and what it says of each element, and of any two
above : (m : ℕ) (ns : List ℕ) → rising_from m ns ≡ true → (i : ℕ) → i < length ns → m ≤ get_or ns i 0
above m [] e i h = omega arith
above m (n ∷ ns) e zero h = leb-true m n (both (leb m n) (rising_from n ns) e).0
above m (n ∷ ns) e (suc i) h =
    let parts = both (leb m n) (rising_from n ns) e in
    let first = leb-true m n parts.0 in
    let rest = above n ns parts.1 i (omega arith) in
    omega arith

never_falls : (m : ℕ) (ns : List ℕ) → rising_from m ns ≡ true → (i j : ℕ) → i ≤ j → j < length ns → get_or ns i 0 ≤ get_or ns j 0
never_falls m [] e i j h k = omega arith
never_falls m (n ∷ ns) e zero zero h k = omega arith
never_falls m (n ∷ ns) e zero (suc j) h k = above n ns (both (leb m n) (rising_from n ns) e).1 j (omega arith)
never_falls m (n ∷ ns) e (suc i) zero h k = omega arith
never_falls m (n ∷ ns) e (suc i) (suc j) h k = never_falls n ns (both (leb m n) (rising_from n ns) e).1 i j (omega arith) (omega arith)

-- the choices of `questions`: whether the type is 1, and which family the version names
as_joined : (need : ℕ) (stream password scratch output : List ℕ) (passes : Bool)
    → let body = filepass_body stream in
    let structure = structure_of body in
    numbers (questions need stream password scratch output passes) ≡ expected (eqb (type_of body) 1) (is_office97 structure) (is_crypto_api structure)
unfolding questions of_stream lent book in_order locked lock encryption_type only pick rc4 version office97 crypto_api
as_joined need stream password scratch output passes = go (eqb (type_of body) 1) (is_office97 structure) (is_crypto_api structure)
  where
    body : List ℕ
    body = filepass_body stream

    structure : List ℕ
    structure = structure_of body

    families : Bool → Bool → List Question
    families u v = version structure ++ (only u (office97 structure) ++ only v (crypto_api structure))

    go : (t u v : Bool)
        → numbers
        (lent need password (length stream) (length scratch) (length output)
        ++ (book stream ++ ((encryption_type body ++ only t (families u v)) ++ (ask passes WrongPassword ∷ []))))
        ≡ expected t u v
    go false u v = refl
    go true true true = refl
    go true true false = refl
    go true false true = refl
    go true false false = refl

pub numbered : Numbered
unfolding lent book in_order locked encryption_type version office97 crypto_api
numbered =
    record {
      of_lent = λ need password stream scratch output. refl;
      of_book = λ stream. refl;
      of_type = λ body. refl;
      of_version = λ structure. refl;
      of_office97 = λ structure. refl;
      of_crypto_api = λ structure. refl;
      of_all = as_joined;
    }

rising_expected : (t u v : Bool) → rising_from 0 (expected t u v) ≡ true
unfolding pick
rising_expected false u v = refl
rising_expected true true true = refl
rising_expected true true false = refl
rising_expected true false true = refl
rising_expected true false false = refl

pub rising : Rising
rising =
    record {
      rises = λ need stream password scratch output passes.
          never_falls 0 (numbers (questions need stream password scratch output passes))
          (ap (rising_from 0) (as_joined need stream password scratch output passes) ∙ rising_expected _ _ _);
    }
