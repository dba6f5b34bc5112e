-- What the questions of the walk and of an RC4 lock tell where each has a "yes".
-- Assumes nothing.
use Rattle.std.specs.Prelude.{Option, None, Some, is_some}
use mathlib.Core.Path.{◌≡◌, refl, sym, ap, ◌∙◌}
use mathlib.Core.Bool.{Bool, true, false, not, ◌||◌}
use mathlib.Core.List.{List, [], ◌∷◌, ◌++◌}
use Prim.Native.Nat.{ℕ, zero, suc, ◌≤◌}
use borrow.Author.Tests.{eq-eqb, leb-true}
use lib.Dec.{eqb}
use lib.ListN.{length, drop}
use Rattle.binary_office.specs.declared.BiffRecord.{BiffRecord}
use Rattle.binary_office.specs.Walk.{walk}
use Rattle.binary_office.proofs.Bodies.{impossible}
use Rattle.file_params.specs.Questions.{Question, asked, only, in_order, locked, book, lock, rc4, version, office97, crypto_api, encryption_type, filepass, other_id, starts_bof, type_of, structure_of, is_office97, is_crypto_api}
use Rattle.file_params.proofs.Laws.{none_of_both, first_yes, rest_yes, only_yes}

pub second_true : (t u : Bool) → t ≡ false → (t || u) ≡ true → u ≡ true
second_true true u e g = let z : true ≡ false = e in impossible (cc)
second_true false u e g = g

-- where no question of a table has a "no", none behind has
pub behind : (n : ℕ) (qs : List Question) → asked qs ≡ None → asked (drop n qs) ≡ None
behind zero qs e = e
behind (suc n) [] e = e
behind (suc n) (q ∷ qs) e = behind n qs (rest_yes q qs e)

-- what questions 7 to 9 tell: the first record is a BOF, there is a FILEPASS, and only the seven are before it
module _ (s : List ℕ) (walked : asked (book s) ≡ None) where
  pub bof : starts_bof (walk s).records ≡ true
  unfolding book in_order locked
  bof = first_yes _ (drop 2 (book s)) (behind 1 (book s) walked)

  pub in_order_lem : other_id (walk s).records ≡ None
  unfolding book in_order locked
  in_order_lem = go (other_id (walk s).records) (first_yes _ (drop 4 (book s)) (behind 3 (book s) walked))
    where
      go : (o : Option ℕ) → not (is_some o) ≡ true → o ≡ None
      go None g = refl
      go (Some id) g = let z : false ≡ true = g in impossible (cc)

  pub first_found : (r : BiffRecord) × (filepass (walk s).records ≡ Some r)
  unfolding book in_order locked
  first_found = go (filepass (walk s).records) refl (first_yes _ (drop 3 (book s)) (behind 2 (book s) walked))
    where
      go : (o : Option BiffRecord) → filepass (walk s).records ≡ o → is_some o ≡ true → (r : BiffRecord) × (filepass (walk s).records ≡ Some r)
      go None f g = let z : false ≡ true = g in impossible (cc)
      go (Some r) f g = (r, f)

-- a FILEPASS body of type 1, past questions 10 to 26
pub rc4_passed : (body : List ℕ) → asked (lock body) ≡ None → type_of body ≡ 1 → asked (rc4 (structure_of body)) ≡ None
unfolding lock
rc4_passed body e one =
    ap asked (sym (only_yes (rc4 (structure_of body)) (eq-eqb (type_of body) 1 one)))
    ∙ (none_of_both (encryption_type body) (only (eqb (type_of body) 1) (rc4 (structure_of body))) e).1

-- its structure: the version is one of two families, and that family's questions are passed
module _ (structure : List ℕ) (e : asked (rc4 structure) ≡ None) where
  version_passed : asked (version structure) ≡ None
  unfolding rc4
  version_passed = (none_of_both (version structure) (only (is_office97 structure) (office97 structure) ++ only (is_crypto_api structure) (crypto_api structure)) e).0

  families_passed : (asked (only (is_office97 structure) (office97 structure)) ≡ None) × (asked (only (is_crypto_api structure) (crypto_api structure)) ≡ None)
  unfolding rc4
  families_passed =
      none_of_both (only (is_office97 structure) (office97 structure)) (only (is_crypto_api structure) (crypto_api structure))
      (none_of_both (version structure) (only (is_office97 structure) (office97 structure) ++ only (is_crypto_api structure) (crypto_api structure)) e).1

  pub version_there : 4 ≤ length structure
  unfolding version
  version_there = leb-true 4 (length structure) (first_yes _ (drop 1 (version structure)) version_passed)

  pub office97_passed : is_office97 structure ≡ true → asked (office97 structure) ≡ None
  office97_passed is = ap asked (sym (only_yes (office97 structure) is)) ∙ families_passed.0

  module _ (other : is_office97 structure ≡ false) where
    pub is_cryptoapi : is_crypto_api structure ≡ true
    unfolding version
    is_cryptoapi = second_true (is_office97 structure) (is_crypto_api structure) other (first_yes _ (drop 2 (version structure)) (behind 1 (version structure) version_passed))

    pub cryptoapi_passed : asked (crypto_api structure) ≡ None
    cryptoapi_passed = ap asked (sym (only_yes (crypto_api structure) is_cryptoapi)) ∙ families_passed.1
