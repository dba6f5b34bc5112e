-- Document 01's numbers of the questions: those of each group that `questions` joins, in the document's order, and that they never fall.
-- Assumes nothing.
use Rattle.std.specs.Prelude.{◌≡◌, ℕ, ◌≤◌, ◌<◌, Bool, List, [], ◌∷◌, ◌++◌, eqb, length, get_or}
use Rattle.laws.specs.Choice.{pick}
use Rattle.file_params.specs.Refusal.{number}
use Rattle.file_params.specs.Questions.{Question, lent, book, encryption_type, version, office97, crypto_api, questions, filepass_body, structure_of, type_of, is_office97, is_crypto_api}

-- the number of each question of a table
abbrev pub numbers : List Question → List ℕ
numbers [] = []
numbers (q ∷ qs) = number q.no ∷ numbers qs

-- document 01's numbers, in its order: 12 and 13 for type 1 only, 14 for version 1.1 only, 15 to 26 for CryptoAPI only
abbrev pub expected : (type_1 is_1_1 is_api : Bool) → List ℕ
expected type_1 is_1_1 is_api =
    1 ∷ 2 ∷ 3 ∷ 4 ∷ 5 ∷ 6 ∷ 7 ∷ 8 ∷ 9 ∷ 10 ∷ 10 ∷ 11
    ∷ (pick type_1 (12 ∷ 13 ∷ (pick is_1_1 (14 ∷ []) [] ++ pick is_api (15 ∷ 16 ∷ 17 ∷ 18 ∷ 19 ∷ 20 ∷ 21 ∷ 22 ∷ 23 ∷ 24 ∷ 25 ∷ 26 ∷ []) [])) []
    ++ (27 ∷ []))

-- the groups, in the order in which `questions` joins them, and all of them as it joins them
pub record Numbered : Type 0 where
  pub of_lent : (need : ℕ) (password : List ℕ) (stream scratch output : ℕ) → numbers (lent need password stream scratch output) ≡ 1 ∷ 2 ∷ 3 ∷ 4 ∷ 5 ∷ []
  pub of_book : (stream : List ℕ) → numbers (book stream) ≡ 6 ∷ 7 ∷ 8 ∷ 9 ∷ []
  pub of_type : (body : List ℕ) → numbers (encryption_type body) ≡ 10 ∷ 10 ∷ 11 ∷ []
  pub of_version : (structure : List ℕ) → numbers (version structure) ≡ 12 ∷ 13 ∷ []
  pub of_office97 : (structure : List ℕ) → numbers (office97 structure) ≡ 14 ∷ []
  pub of_crypto_api : (structure : List ℕ) → numbers (crypto_api structure) ≡ 15 ∷ 16 ∷ 17 ∷ 18 ∷ 19 ∷ 20 ∷ 21 ∷ 22 ∷ 23 ∷ 24 ∷ 25 ∷ 26 ∷ []
  pub of_all : (need : ℕ) (stream password scratch output : List ℕ) (passes : Bool)
      → let body = filepass_body stream in
      let structure = structure_of body in
      numbers (questions need stream password scratch output passes) ≡ expected (eqb (type_of body) 1) (is_office97 structure) (is_crypto_api structure)

-- the numbers of all questions never fall, whatever is lent
pub record Rising : Type 0 where
  pub rises : (need : ℕ) (stream password scratch output : List ℕ) (passes : Bool) (i j : ℕ) → i ≤ j
      → let ns = numbers (questions need stream password scratch output passes) in
      j < length ns → get_or ns i 0 ≤ get_or ns j 0
