-- The lock of a FILEPASS body, as answers to questions 10 to 26; and what those questions, once passed, tell of the body.
-- Assumes nothing.
use Rattle.std.specs.Prelude.{Option, None, Some, Ok, Err}
use mathlib.Core.Path.{◌≡◌, refl, sym, ap, ◌∙◌}
use mathlib.Core.List.{List, []}
use Prim.Native.Nat.{ℕ, ◌-◌, ◌≤◌, ◌<◌}
use native.Mathlib.Omega.{arith}
use borrow.Author.Tests.{le-leb, lt-leb, eq-eqb, ne_eqb, leb-true}
use lib.Dec.{eqb}
use lib.ListN.{length, drop}
use Rattle.laws.proofs.Choice.{taken, left, same_or}
use Rattle.binary_office.specs.Fields.{le16_at}
use Rattle.binary_office.proofs.Headers.{le16_is, le16_cut, le16_within}
use Rattle.file_params.specs.declared.Refusal.{Refusal}
use Rattle.file_params.specs.declared.Refusal.TheVariants.{FilepassTruncated, FilepassEncryptionType}
use Rattle.file_params.specs.Questions.{asked, unless, only, lock, rc4, encryption_type, type_of, structure_of}
use Rattle.file_params.proofs.Laws.{past, refused, asked_on, asked_stop, only_yes, only_no, none_of_both, first_yes, rest_yes}
use Rattle.block_keys.specs.declared.Rc4Lock.{Rc4Lock}
use Rattle.block_keys.specs.Lock.{lock_of}
use Rattle.survey.specs.declared.Scheme.{Scheme}
use Rattle.survey.specs.declared.Scheme.TheVariants as scheme
use Rattle.survey.specs.Survey.{scheme_by}

-- questions 10 and 11, and those of a structure of type 1
module _ (body : List ℕ) where
  stopped : (r : Refusal) → Some r ≡ asked (encryption_type body) → Err r ≡ unless (scheme_by body) (asked (lock body))
  unfolding lock
  stopped r e = ap (unless (scheme_by body)) (asked_stop (encryption_type body) (only (eqb (type_of body) 1) (rc4 (structure_of body))) r e)

  pub no_type : None ≡ le16_at body 0 → Err (FilepassTruncated (length body) 2) ≡ unless (scheme_by body) (asked (lock body))
  unfolding asked encryption_type
  no_type e = stopped _ (refused _ (lt-leb _ _ (le16_cut body 0 e)))

  module _ (t : ℕ) (e : Some t ≡ le16_at body 0) where
    there : 2 ≤ length body
    there = le16_within body 0 t e

    type_is : t ≡ type_of body
    type_is = le16_is body 0 t e

    pub xor_cut : t ≡ 0 → length body < 6 → Err (FilepassTruncated (length body - 2) 4) ≡ unless (scheme_by body) (asked (lock body))
    unfolding asked encryption_type
    xor_cut z h = stopped _ (past _ (le-leb _ _ there) (refused _ (rw (← type_is, z) (lt-leb 6 (length body) h))))

    pub xor_lock : t ≡ 0 → 6 ≤ length body → Ok scheme.Xor ≡ unless (scheme_by body) (asked (lock body))
    unfolding asked encryption_type lock scheme_by
    xor_lock z h =
        let y : type_of body ≡ 0 = sym type_is ∙ z in
        sym
        (ap (unless (scheme_by body))
        (asked_on (encryption_type body) (only (eqb (type_of body) 1) (rc4 (structure_of body)))
        (past _ (le-leb _ _ there) (past _ (rw y (le-leb 6 (length body) h)) (past _ (rw y refl) refl)))
        ∙ ap asked (only_no (rc4 (structure_of body)) (rw y refl)))
        ∙ ap Ok (taken scheme.Xor (scheme.Rc4 (lock_of (structure_of body))) (rw y refl)))

    pub other_type : 1 < t → Err (FilepassEncryptionType t) ≡ unless (scheme_by body) (asked (lock body))
    unfolding asked encryption_type
    other_type h =
        ap (λ (v : ℕ). Err (FilepassEncryptionType v)) type_is
        ∙ stopped _ (past _ (le-leb _ _ there) (past _ (rw (← type_is, ne_eqb t 0 (not_zero h))) (refused _ (rw (← type_is) (lt-leb t 1 h)))))
      where
        not_zero : 1 < t → t ≡ 0 → ⊥
        not_zero h z = omega arith

    module _ (y : t ≡ 1) where
      rc4_asked : asked (lock body) ≡ asked (rc4 (structure_of body))
      unfolding asked encryption_type lock
      rc4_asked =
          let z : type_of body ≡ 1 = sym type_is ∙ y in
          asked_on (encryption_type body) (only (eqb (type_of body) 1) (rc4 (structure_of body))) (past _ (le-leb _ _ there) (past _ (rw z refl) (past _ (rw z refl) refl)))
          ∙ ap asked (only_yes (rc4 (structure_of body)) (rw z refl))

      by_refused : (l : Rc4Lock) (a : Option Refusal) (r : Refusal) (x : Scheme) → unless l a ≡ Err r → Err r ≡ unless x a
      by_refused l None r x g = cc
      by_refused l (Some q) r x g = cc

      by_locked : (l : Rc4Lock) (a : Option Refusal) (k : Rc4Lock) → unless l a ≡ Ok k → Ok (scheme.Rc4 k) ≡ unless (scheme.Rc4 l) a
      by_locked l None k g = cc
      by_locked l (Some q) k g = cc

      pub rc4_refused : (r : Refusal) → unless (lock_of (structure_of body)) (asked (rc4 (structure_of body))) ≡ Err r
          → Err r ≡ unless (scheme_by body) (asked (lock body))
      rc4_refused r g = by_refused (lock_of (structure_of body)) (asked (rc4 (structure_of body))) r (scheme_by body) g ∙ ap (unless (scheme_by body)) (sym rc4_asked)

      pub rc4_locked : (k : Rc4Lock) → unless (lock_of (structure_of body)) (asked (rc4 (structure_of body))) ≡ Ok k
          → Ok (scheme.Rc4 k) ≡ unless (scheme_by body) (asked (lock body))
      unfolding scheme_by
      rc4_locked k g =
          let z : type_of body ≡ 1 = sym type_is ∙ y in
          by_locked (lock_of (structure_of body)) (asked (rc4 (structure_of body))) k g
          ∙ ap (λ (a : Option Refusal). unless (scheme.Rc4 (lock_of (structure_of body))) a) (sym rc4_asked)
          ∙ ap (λ (x : Scheme). unless x (asked (lock body))) (sym (left scheme.Xor (scheme.Rc4 (lock_of (structure_of body))) (rw z refl)))

-- what they tell, where none of them refuses
module _ (body : List ℕ) (e : None ≡ asked (lock body)) where
  types : asked (encryption_type body) ≡ None
  unfolding lock
  types = (none_of_both (encryption_type body) (only (eqb (type_of body) 1) (rc4 (structure_of body))) (sym e)).0

  pub two_there : 2 ≤ length body
  unfolding encryption_type
  two_there = leb-true 2 (length body) (first_yes _ (drop 1 (encryption_type body)) types)

  pub six_there : type_of body ≡ 0 → 6 ≤ length body
  unfolding encryption_type
  six_there z = leb-true 6 (length body) (rw (z, eq-eqb 0 0 refl) at (first_yes _ (drop 2 (encryption_type body)) (rest_yes _ (drop 1 (encryption_type body)) types)))

  pub at_most_one : type_of body ≤ 1
  unfolding encryption_type
  at_most_one = leb-true (type_of body) 1 (first_yes _ [] (rest_yes _ (drop 2 (encryption_type body)) (rest_yes _ (drop 1 (encryption_type body)) types)))

-- the type that a lock stands for
module _ (body : List ℕ) where
  pub xor_type : scheme_by body ≡ scheme.Xor → type_of body ≡ 0
  unfolding scheme_by
  xor_type e =
      same_or (type_of body) 0 (λ z. z) (λ z. no (sym (left scheme.Xor (scheme.Rc4 (lock_of (structure_of body))) (ne_eqb (type_of body) 0 z)) ∙ e))
    where
      no : scheme.Rc4 (lock_of (structure_of body)) ≡ scheme.Xor → type_of body ≡ 0
      no e = let z : ◌≡◌ {A = ℕ} 0 1 = cc in omega arith

  pub rc4_type : None ≡ asked (lock body) → (l : Rc4Lock) → scheme_by body ≡ scheme.Rc4 l → (type_of body ≡ 1) × (l ≡ lock_of (structure_of body))
  unfolding scheme_by
  rc4_type e l g =
      let h = at_most_one body e in
      same_or (type_of body) 0
      (λ z. let k : scheme.Xor ≡ scheme.Rc4 l = sym (taken scheme.Xor (scheme.Rc4 (lock_of (structure_of body))) (eq-eqb (type_of body) 0 z)) ∙ g in (cc, cc))
      (λ z. let k : scheme.Rc4 (lock_of (structure_of body)) ≡ scheme.Rc4 l =
      sym (left scheme.Xor (scheme.Rc4 (lock_of (structure_of body))) (ne_eqb (type_of body) 0 z)) ∙ g in (one (type_of body) z h, cc))
    where
      one : (t : ℕ) → (t ≡ 0 → ⊥) → t ≤ 1 → t ≡ 1
      one t z h = omega arith
