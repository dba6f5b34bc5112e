-- A test of every refusal that a table of questions can give; and with it the numbers of those that a stream alone can give.
-- Assumes nothing.
use Rattle.std.specs.Prelude.{Some}
use mathlib.Core.Path.{◌≡◌, refl}
use mathlib.Core.Bool.{Bool, true, false, ◌&&◌}
use mathlib.Core.List.{List, [], ◌∷◌, ◌++◌}
use Prim.Native.Nat.{ℕ, ◌≤◌}
use lib.Dec.{eqb}
use Rattle.laws.specs.Choice.{pick, within}
use Rattle.laws.proofs.Choice.{within_from, within_to}
use Rattle.file_params.specs.declared.Refusal.{Refusal}
use Rattle.file_params.specs.Refusal.{number}
use Rattle.file_params.specs.Questions.{Question, asked, only, in_order, locked, book, lock, of_stream, encryption_type, version, office97, crypto_api, rc4, filepass_body, structure_of, type_of, is_office97, is_crypto_api}

module _ (f : Refusal → Bool) where
  abbrev every : List Question → Bool
  every [] = true
  every (q ∷ qs) = f q.no && every qs

  joined : (ps qs : List Question) → every ps ≡ true → every qs ≡ true → every (ps ++ qs) ≡ true
  joined [] qs e g = g
  joined (q ∷ ps) qs e g = go (f q.no) e (λ h. joined ps qs h g)
    where
      go : (t : Bool) → (t && every ps) ≡ true → (every ps ≡ true → every (ps ++ qs) ≡ true) → (t && every (ps ++ qs)) ≡ true
      go true e h = h e
      go false e h = e

  where_asked : (t : Bool) (qs : List Question) → every qs ≡ true → every (only t qs) ≡ true
  unfolding only pick
  where_asked true qs e = e
  where_asked false qs e = refl

  -- the tables of a FILEPASS body, from its parts
  of_lock : ((b : List ℕ) → every (encryption_type b) ≡ true) → ((s : List ℕ) → every (version s) ≡ true) → ((s : List ℕ) → every (office97 s) ≡ true)
      → ((s : List ℕ) → every (crypto_api s) ≡ true)
      → (body : List ℕ) → every (lock body) ≡ true
  unfolding lock rc4
  of_lock t v o c body =
      joined (encryption_type body) (only (eqb (type_of body) 1) (rc4 (structure_of body))) (t body)
      (where_asked (eqb (type_of body) 1) (rc4 (structure_of body)) (by_version (structure_of body)))
    where
      by_version : (structure : List ℕ) → every (rc4 structure) ≡ true
      by_version structure =
          joined (version structure) (only (is_office97 structure) (office97 structure) ++ only (is_crypto_api structure) (crypto_api structure)) (v structure)
          (joined (only (is_office97 structure) (office97 structure)) (only (is_crypto_api structure) (crypto_api structure))
          (where_asked (is_office97 structure) (office97 structure) (o structure))
          (where_asked (is_crypto_api structure) (crypto_api structure) (c structure)))

  pub given_passes : (qs : List Question) (r : Refusal) → every qs ≡ true → asked qs ≡ Some r → f r ≡ true
  unfolding asked pick
  given_passes [] r e g = cc
  given_passes (q ∷ qs) r e g = go q.yes (f q.no) refl e g (given_passes qs r)
    where
      go : (t u : Bool) → f q.no ≡ u → (u && every qs) ≡ true → pick t (asked qs) (Some q.no) ≡ Some r → (every qs ≡ true → asked qs ≡ Some r → f r ≡ true)
          → f r ≡ true
      go true true k e g h = h e g
      go false true k e g h = let z : q.no ≡ r = cc in rw (← z) k
      go t false k e g h = cc

-- questions 6 to 26
pub stream_number : (stream : List ℕ) (r : Refusal) → asked (of_stream stream) ≡ Some r → (6 ≤ number r) × (number r ≤ 26)
unfolding of_stream book in_order locked encryption_type version office97 crypto_api
stream_number stream r e =
    let test : Refusal → Bool = λ q. within 6 26 (number q) in
    let passed = given_passes test (of_stream stream) r
    (joined test (book stream) (lock (filepass_body stream)) refl (of_lock test (λ b. refl) (λ s. refl) (λ s. refl) (λ s. refl) (filepass_body stream)))
    e in
    (within_from 6 26 (number r) passed, within_to 6 26 (number r) passed)
