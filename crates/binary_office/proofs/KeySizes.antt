-- The key size that a look tells, and whether the facts of two agree. What a look tells of a body is opened into the body's facts: with a version that has a key size it is that of
-- the four bytes, and else there is none.
-- Assumes nothing.
use Rattle.std.specs.Prelude.{Some, None, Option}
use mathlib.Core.Path.{◌≡◌, refl, sym, ap, ◌∙◌}
use mathlib.Core.Bool.{Bool, true, false, ◌&&◌}
use mathlib.Core.List.{List}
use Prim.Native.Nat.{ℕ, ◌≤◌, ◌<◌}
use native.Mathlib.Omega.{arith}
use lib.Dec.{eqb}
use borrow.Author.Tests.{eq-eqb, eqb-true}
use Rattle.laws.specs.Choice.{pick, within}
use Rattle.laws.proofs.Choice.{within_yes, within_from, within_to, taken}
use Rattle.binary_office.specs.declared.Version.{Version}
use Rattle.binary_office.specs.declared.Facts.{Facts}
use Rattle.binary_office.specs.Fields.{le16_at, le32_at}
use Rattle.binary_office.specs.Look.{pair_of, version_of, bits_of, bits_in, size_of, by_type, facts_of, look}
use Rattle.binary_office.specs.SameLock.{same_size, facts_agree}
use Rattle.binary_office.specs.KeySizes.{reported, LooksAt, Versioned, Told, TwoSizes, KeySizes}
use Rattle.binary_office.proofs.Bodies.{one_body}
use Rattle.binary_office.proofs.Locks.{bits_zero, bits_stated, bits_above, facts_xor, facts_other}
use Rattle.binary_office.proofs.SameLock.{agree_sym}

-- the facts of a body with a version that has a key size
module _ (body : List ℕ) (major : ℕ) (v : Versioned body major) where
  version_is : Some (record { major = major; minor = 2 }) ≡ version_of body
  unfolding version_of
  version_is = rw (v.major_there, v.minor_there)

  family : (within 2 4 major && eqb 2 2) ≡ true
  family = rw (within_yes 2 4 major v.least v.most)

  size_is : bits_in (le32_at body 30) ≡ size_of body (Some (record { major = major; minor = 2 }))
  size_is = sym (taken _ _ family)

  pub facts_are : facts_of body ≡ record { xor = false; version = Some (record { major = major; minor = 2 }); key_size = bits_in (le32_at body 30) }
  facts_are = sym (facts_other body v.type (Some (record { major = major; minor = 2 })) (bits_in (le32_at body 30)) (sym v.typed) v.not_xor version_is size_is)

-- the key size of the four bytes
positive : (k : ℕ) → 1 ≤ k → k ≡ 0 → ⊥
positive k h z = omega arith

large : (k : ℕ) → 4096 < k → k ≡ 0 → ⊥
large k h z = omega arith

none_above : (k : ℕ) → 4096 < k → bits_of k ≡ None
none_above k h = sym (bits_above k (large k h) h)

-- a body whose version or whose four bytes tell none tells none, whatever its type
module _ (body : List ℕ) where
  by_size : size_of body (version_of body) ≡ None → (facts_of body).key_size ≡ None
  unfolding facts_of pick
  by_size e = by_type_lem (le16_at body 0)
    where
      by_zero : (t : Bool) (f g : Facts) → f.key_size ≡ None → g.key_size ≡ None → (pick {X = Facts} t f g).key_size ≡ None
      by_zero true f g h k = h
      by_zero false f g h k = k

      by_type_lem : (w : (Option ℕ)) → (by_type body w).key_size ≡ None
      by_type_lem None = refl
      by_type_lem (Some t) = by_zero (eqb t 0) _ _ refl e

  pub no_size : bits_in (le32_at body 30) ≡ None → (facts_of body).key_size ≡ None
  unfolding pick
  no_size e = by_size (by_version (version_of body))
    where
      either_way : (t : Bool) (k : (Option ℕ)) → k ≡ None → pick t k None ≡ None
      either_way true k g = g
      either_way false k g = refl

      by_version : (v : (Option Version)) → size_of body v ≡ None
      by_version None = refl
      by_version (Some version) = either_way (within 2 4 version.major && eqb version.minor 2) (bits_in (le32_at body 30)) e

  -- a version pair that is not one of those with a key size, or of which a half is not there
  abbrev Other : Option ℕ → Option ℕ → Type 0
  Other None w = Unit
  Other (Some major) None = Unit
  Other (Some major) (Some minor) = 2 ≤ major → major ≤ 4 → minor ≡ 2 → ⊥

  other_version : Other (le16_at body 2) (le16_at body 4) → (facts_of body).key_size ≡ None
  unfolding version_of pick
  other_version f = by_size (go (le16_at body 2) (le16_at body 4) f)
    where
      by_tests : (major minor : ℕ) → (2 ≤ major → major ≤ 4 → minor ≡ 2 → ⊥) → (t u : Bool) → within 2 4 major ≡ t → eqb minor 2 ≡ u
          → pick (t && u) (bits_in (le32_at body 30)) None ≡ None
      by_tests major minor f true true g h = absurd (f (within_from 2 4 major g) (within_to 2 4 major g) (eqb-true minor 2 h))
      by_tests major minor f true false g h = refl
      by_tests major minor f false u g h = refl

      go : (v w : (Option ℕ)) → Other v w → size_of body (pair_of v w) ≡ None
      go None w f = refl
      go (Some major) None f = refl
      go (Some major) (Some minor) f = by_tests major minor f (within 2 4 major) (eqb minor 2) refl refl

  other_major : (major : ℕ) → le16_at body 2 ≡ Some major → (2 ≤ major → major ≤ 4 → ⊥) → (facts_of body).key_size ≡ None
  other_major major e f = other_version (rw e (go (le16_at body 4)))
    where
      go : (w : (Option ℕ)) → Other (Some major) w
      go None = tt
      go (Some minor) = λ a b c. f a b

  other_minor : (minor : ℕ) → le16_at body 4 ≡ Some minor → (minor ≡ 2 → ⊥) → (facts_of body).key_size ≡ None
  other_minor minor e f = other_version (rw e (go (le16_at body 2)))
    where
      go : (v : (Option ℕ)) → Other v (Some minor)
      go None = tt
      go (Some major) = λ a b c. f c

module _ (s b : List ℕ) (l : LooksAt s b) where
  of_body : (k : (Option ℕ)) → (facts_of b).key_size ≡ k → reported (look s) ≡ k
  of_body k e = ap reported l.yes ∙ e

  of_bytes : (major : ℕ) → Versioned b major → (k : (Option ℕ)) → bits_in (le32_at b 30) ≡ k → reported (look s) ≡ k
  of_bytes major v k e = of_body k (ap (λ (f : Facts). f.key_size) (facts_are b major v) ∙ e)

  told_of : Told s b
  told_of =
      record {
        zero = λ major v e. of_bytes major v (Some 40) (ap bits_in e ∙ sym (bits_zero 0 refl));
        stated = λ major k v e h m. of_bytes major v (Some k) (ap bits_in e ∙ sym (bits_stated k (positive k h) m));
        above = λ k e h. of_body None (no_size b (ap bits_in e ∙ none_above k h));
        cut = λ e. of_body None (no_size b (ap bits_in e));
        xor = λ e. of_body None (ap (λ (f : Facts). f.key_size) (sym (facts_xor b 0 (sym e) refl)));
        other_major = λ major e f. of_body None (other_major b major e f);
        other_minor = λ minor e f. of_body None (other_minor b minor e f);
      }

-- the facts of two looks at bodies of one version agree where their key sizes are the same
module _ (s t b c : List ℕ) (p : LooksAt s b) (q : LooksAt t c) where
  module _ (major : ℕ) (v : Versioned b major) (w : Versioned c major) (zero_there : le32_at b 30 ≡ Some 0) where
    by_sizes : facts_agree s t ≡ same_size (bits_in (le32_at b 30)) (bits_in (le32_at c 30))
    unfolding facts_agree
    by_sizes = rw (p.yes, q.yes, facts_are b major v, facts_are c major w, eq-eqb major major refl)

    sized : bits_in (le32_at b 30) ≡ Some 40
    sized = ap bits_in zero_there ∙ sym (bits_zero 0 refl)

    with_size : (k : (Option ℕ)) → bits_in (le32_at c 30) ≡ k → facts_agree s t ≡ same_size (Some 40) k
    with_size k e = by_sizes ∙ rw (sized, e)

  two_of : TwoSizes s t b c
  two_of =
      record {
        agree = λ major v w e f. with_size major v w e (Some 40) (ap bits_in f ∙ sym (bits_stated 40 (positive 40 (omega arith)) (omega arith)));
        above = λ major k v w e f h. with_size major v w e None (ap bits_in f ∙ none_above k h);
        cut = λ major v w e f. with_size major v w e None (ap bits_in f);
      }

pub key_sizes : KeySizes
key_sizes = record { one_body = one_body; told = told_of; two_sizes = two_of; symmetric = agree_sym }
