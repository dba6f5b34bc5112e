-- Same lock. Equal bytes are one list, whose facts are the same, so that of two books with a FILEPASS the bodies alone decide; and what is true of equality is true of it.
-- Assumes nothing.
use Rattle.std.specs.Prelude.{Some, None, Option}
use mathlib.Core.Path.{ap₂, ◌≡◌, refl, sym, ap, ◌∙◌}
use mathlib.Core.Bool.{Bool, true, false, ◌&&◌, beq}
use mathlib.Core.List.{List, [], ◌∷◌}
use Prim.Native.Nat.{ℕ, ◌+◌}
use native.Mathlib.Omega.{arith}
use lib.Dec.{eqb}
use lib.ListN.{take, drop, length-take}
use lib.Seq.{take_all}
use borrow.Author.Tests.{eq-eqb, ne_eqb, eqb-true}
use Rattle.laws.proofs.Choice.{same_or, and_left, and_right}
use Rattle.binary_office.specs.declared.Version.{Version}
use Rattle.binary_office.specs.declared.Facts.{Facts}
use Rattle.binary_office.specs.declared.Finding.{Finding}
use Rattle.binary_office.specs.declared.Finding.TheVariants.{Filepass, Other, Unreadable}
use Rattle.binary_office.specs.declared.Verdict.{Verdict}
use Rattle.binary_office.specs.declared.Verdict.TheVariants.{Yes, No, Unknown}
use Rattle.binary_office.specs.Fields.{le32_at}
use Rattle.binary_office.specs.Look.{facts_of, found, capped, look}
use Rattle.binary_office.specs.KeySizes.{LooksAt}
use Rattle.binary_office.specs.SharedLocks.{TwoBodies, SharedLocks}
use Rattle.binary_office.specs.SameLock.{same_version, same_size, same_facts, same_verdict, facts_agree, body_found, capped_body, same_bytes, same_lock}
use Rattle.binary_office.proofs.Bodies.{impossible, finds, yes_finds, yes_starts}
use Rattle.binary_office.proofs.Locks.{look_found}

-- equal bytes are one list
pub bytes_equal : (x y : List ℕ) → same_bytes x y ≡ true → x ≡ y
unfolding same_bytes
bytes_equal [] [] e = refl
bytes_equal [] (b ∷ y) e = let z : false ≡ true = e in impossible (cc)
bytes_equal (a ∷ x) [] e = let z : false ≡ true = e in impossible (cc)
bytes_equal (a ∷ x) (b ∷ y) e = rw (eqb-true a b (and_left (eqb a b) (same_bytes x y) e), bytes_equal x y (and_right (eqb a b) (same_bytes x y) e))

bytes_self : (x : List ℕ) → same_bytes x x ≡ true
unfolding same_bytes
bytes_self [] = refl
bytes_self (a ∷ x) = rw (eq-eqb a a refl, bytes_self x)

pub equal_bytes : (x y : List ℕ) → x ≡ y → same_bytes x y ≡ true
equal_bytes x y e = ap (same_bytes x) (sym e) ∙ bytes_self x

-- a test that does not hold fails
refuted : (t : Bool) → (t ≡ true → ⊥) → t ≡ false
refuted true f = absurd (f refl)
refuted false f = refl

pub other_bytes : (x y : List ℕ) → (x ≡ y → ⊥) → same_bytes x y ≡ false
other_bytes x y f = refuted (same_bytes x y) (λ e. f (bytes_equal x y e))

-- the facts: in either order, and of one stream
beq_sym : (a b : Bool) → beq a b ≡ beq b a
beq_sym true true = refl
beq_sym true false = refl
beq_sym false true = refl
beq_sym false false = refl

eqb_sym : (a b : ℕ) → eqb a b ≡ eqb b a
eqb_sym a b = same_or a b (λ e. rw e) (λ e. ne_eqb a b e ∙ sym (ne_eqb b a (λ g. e (sym g))))

version_sym : (v w : (Option Version)) → same_version v w ≡ same_version w v
version_sym None None = refl
version_sym None (Some w) = refl
version_sym (Some v) None = refl
version_sym (Some v) (Some w) = rw (eqb_sym v.major w.major, eqb_sym v.minor w.minor)

size_sym : (v w : (Option ℕ)) → same_size v w ≡ same_size w v
size_sym None None = refl
size_sym None (Some b) = refl
size_sym (Some a) None = refl
size_sym (Some a) (Some b) = eqb_sym a b

facts_sym : (f g : Facts) → same_facts f g ≡ same_facts g f
facts_sym f g = rw (beq_sym f.xor g.xor, version_sym f.version g.version, size_sym f.key_size g.key_size)

verdict_sym : (v w : Verdict) → same_verdict v w ≡ same_verdict w v
verdict_sym Unknown Unknown = refl
verdict_sym Unknown No = refl
verdict_sym Unknown (Yes g) = refl
verdict_sym No Unknown = refl
verdict_sym No No = refl
verdict_sym No (Yes g) = refl
verdict_sym (Yes f) Unknown = refl
verdict_sym (Yes f) No = refl
verdict_sym (Yes f) (Yes g) = facts_sym f g

pub agree_sym : (s t : List ℕ) → facts_agree s t ≡ facts_agree t s
unfolding facts_agree
agree_sym s t = verdict_sym (look s) (look t)

beq_self : (a : Bool) → beq a a ≡ true
beq_self true = refl
beq_self false = refl

version_self : (v : (Option Version)) → same_version v v ≡ true
version_self None = refl
version_self (Some v) = rw (eq-eqb v.major v.major refl, eq-eqb v.minor v.minor refl)

size_self : (k : (Option ℕ)) → same_size k k ≡ true
size_self None = refl
size_self (Some a) = eq-eqb a a refl

facts_self : (f : Facts) → same_facts f f ≡ true
facts_self f = rw (beq_self f.xor, version_self f.version, size_self f.key_size)

agree_yes : (s t : List ℕ) → facts_agree s t ≡ true → (f : Facts) × (look s ≡ Yes f)
unfolding facts_agree
agree_yes s t e = go (look s) refl e
  where
    go : (v : Verdict) → look s ≡ v → same_verdict v (look t) ≡ true → (f : Facts) × (look s ≡ Yes f)
    go Unknown g h = let z : false ≡ true = h in impossible (cc)
    go No g h = let z : false ≡ true = h in impossible (cc)
    go (Yes f) g h = (f, g)

-- facts that agree are equal
beq_equal : (a b : Bool) → beq a b ≡ true → a ≡ b
beq_equal true true e = refl
beq_equal true false e = let z : false ≡ true = e in impossible (cc)
beq_equal false true e = let z : false ≡ true = e in impossible (cc)
beq_equal false false e = refl

version_equal : (v w : (Option Version)) → same_version v w ≡ true → v ≡ w
version_equal None None e = refl
version_equal None (Some w) e = let z : false ≡ true = e in impossible (cc)
version_equal (Some v) None e = let z : false ≡ true = e in impossible (cc)
version_equal (Some v) (Some w) e = let majors = eqb-true v.major w.major (and_left (eqb v.major w.major) (eqb v.minor w.minor) e) in
    let minors = eqb-true v.minor w.minor (and_right (eqb v.major w.major) (eqb v.minor w.minor) e) in
    ap₂ (λ (a b : ℕ). Some (record { major = a; minor = b })) majors minors

size_equal : (v w : (Option ℕ)) → same_size v w ≡ true → v ≡ w
size_equal None None e = refl
size_equal None (Some b) e = let z : false ≡ true = e in impossible (cc)
size_equal (Some a) None e = let z : false ≡ true = e in impossible (cc)
size_equal (Some a) (Some b) e = rw (eqb-true a b e)

facts_equal : (f g : Facts) → same_facts f g ≡ true → f ≡ g
facts_equal f g e =
    let marks = beq f.xor g.xor in
    let versions = same_version f.version g.version in
    let sizes = same_size f.key_size g.key_size in
    let both = and_left (marks && versions) sizes e in
    let x = beq_equal f.xor g.xor (and_left marks versions both) in
    let v = version_equal f.version g.version (and_right marks versions both) in
    let k = size_equal f.key_size g.key_size (and_right (marks && versions) sizes e) in
    ap (λ (b : Bool). record { xor = b; version = f.version; key_size = f.key_size }) x
    ∙ ap (λ (w : (Option Version)). record { xor = g.xor; version = w; key_size = f.key_size }) v
    ∙ ap (λ (n : (Option ℕ)). record { xor = g.xor; version = g.version; key_size = n }) k

agree_both : (s t : List ℕ) → facts_agree s t ≡ true → (f : Facts) × (look s ≡ Yes f) × (look t ≡ Yes f)
unfolding facts_agree
agree_both s t e =
    let first = agree_yes s t e in
    let last = agree_yes t s (agree_sym t s ∙ e) in
    let same : same_facts first.0 last.0 ≡ true = sym (ap (λ (v : Verdict). same_verdict v (look t)) first.1 ∙ ap (same_verdict (Yes first.0)) last.1) ∙ e in
    (first.0, first.1, last.1 ∙ ap Yes (sym (facts_equal first.0 last.0 same)))

both_agree : (s t : List ℕ) (f : Facts) → look s ≡ Yes f → look t ≡ Yes f → facts_agree s t ≡ true
unfolding facts_agree
both_agree s t f e g = rw (e, g) (facts_self f)

-- equal bodies have equal facts, so that the bodies of two looks that say yes decide
pub facts_follow : (x y : List ℕ) → (same_facts (facts_of x) (facts_of y) && same_bytes x y) ≡ same_bytes x y
facts_follow x y = go (same_bytes x y) refl
  where
    and-false : (t : Bool) → (t && false) ≡ false
    and-false true = refl
    and-false false = refl

    go : (t : Bool) → same_bytes x y ≡ t → (same_facts (facts_of x) (facts_of y) && same_bytes x y) ≡ same_bytes x y
    go true e =
        let facts : same_facts (facts_of x) (facts_of y) ≡ true = ap (λ (l : List ℕ). same_facts (facts_of x) (facts_of l)) (sym (bytes_equal x y e)) ∙ facts_self (facts_of x) in
        rw facts
    go false e = rw e (and-false (same_facts (facts_of x) (facts_of y)))

module _ (s : List ℕ) where
  pub body_found_lem : (f : Finding) → f ≡ found (capped s) → body_found (capped s) f ≡ capped_body s
  unfolding capped_body
  body_found_lem f e = ap (body_found (capped s)) e

  pub yes_told : (f : Facts) → look s ≡ Yes f → look s ≡ Yes (facts_of (capped_body s))
  yes_told f e =
      let w = yes_finds s f e in
      e ∙ ap Yes (w.told ∙ ap facts_of (body_found_lem (Filepass w.start w.len) (sym w.found)))

  pub look_told : (start len : ℕ) → Filepass start len ≡ found (capped s) → look s ≡ Yes (facts_of (capped_body s))
  look_told start len e = yes_told (facts_of (take len (drop start (capped s)))) (sym (look_found s _ (Filepass start len) e refl))

module _ (s t : List ℕ) where
  -- two looks that say yes
  pub by_bodies : look s ≡ Yes (facts_of (capped_body s)) → look t ≡ Yes (facts_of (capped_body t)) → same_lock s t ≡ same_bytes (capped_body s) (capped_body t)
  unfolding same_lock facts_agree
  by_bodies p q = rw (p, q) (facts_follow (capped_body s) (capped_body t))

  pub shared_facts : same_lock s t ≡ true → facts_agree s t ≡ true
  unfolding same_lock
  shared_facts e = and_left (facts_agree s t) (same_bytes (capped_body s) (capped_body t)) e

  pub shared_body : same_lock s t ≡ true → capped_body s ≡ capped_body t
  unfolding same_lock
  shared_body e = bytes_equal (capped_body s) (capped_body t) (and_right (facts_agree s t) (same_bytes (capped_body s) (capped_body t)) e)

  pub shared_yes : same_lock s t ≡ true → (f : Facts) × (look s ≡ Yes f)
  shared_yes e = agree_yes s t (shared_facts e)

  pub shares : (f g : Facts) → look s ≡ Yes f → look t ≡ Yes g → capped_body s ≡ capped_body t → same_lock s t ≡ true
  shares f g p q e = by_bodies (yes_told s f p) (yes_told t g q) ∙ equal_bytes (capped_body s) (capped_body t) e

  pub not_shared : ((f : Facts) → look s ≡ Yes f → ⊥) → same_lock s t ≡ false
  not_shared n = refuted (same_lock s t) (λ e. let y = shared_yes e in n y.0 y.1)

pub same_lock_sym : (s t : List ℕ) → same_lock s t ≡ same_lock t s
unfolding same_lock
same_lock_sym s t = rw (agree_sym s t, bytes_sym (capped_body s) (capped_body t))
  where
    bytes_sym : (x y : List ℕ) → same_bytes x y ≡ same_bytes y x
    bytes_sym x y = go (same_bytes x y) refl
      where
        go : (t : Bool) → same_bytes x y ≡ t → same_bytes x y ≡ same_bytes y x
        go true e = e ∙ sym (equal_bytes y x (sym (bytes_equal x y e)))
        go false e = e ∙ sym (other_bytes y x (λ g. let z : true ≡ false = sym (equal_bytes x y (sym g)) ∙ e in impossible (cc)))

same_lock_trans : (s t u : List ℕ) → same_lock s t ≡ true → same_lock t u ≡ true → same_lock s u ≡ true
same_lock_trans s t u e g =
    let first = shared_yes s t e in
    let last = shared_yes u t (same_lock_sym u t ∙ g) in
    shares s u first.0 last.0 first.1 last.1 (shared_body s t e ∙ shared_body t u g)

body_read : (s b : List ℕ) → LooksAt s b → capped_body s ≡ b
body_read s b p =
    let bof = yes_starts s (facts_of b) p.yes in
    sym (body_found_lem s (Filepass (p.at + 4) p.len) (finds (capped s) p.at p.len bof p.reached p.id p.stated)) ∙ sym p.bytes

module _ (s t b c : List ℕ) (p : LooksAt s b) (q : LooksAt t c) where
  only_equal : same_lock s t ≡ true → b ≡ c
  only_equal e = sym (body_read s b p) ∙ shared_body s t e ∙ body_read t c q

  zero_not_forty : le32_at b 30 ≡ Some 0 → le32_at c 30 ≡ Some 40 → same_lock s t ≡ false
  zero_not_forty e g = refuted (same_lock s t) (λ h. no (sym e ∙ ap (λ (l : List ℕ). le32_at l 30) (only_equal h) ∙ g))
    where
      no : ◌≡◌ {A = Option ℕ} (Some 0) (Some 40) → ⊥
      no h = let z : ◌≡◌ {A = ℕ} 0 40 = cc in omega arith

  two_of : TwoBodies s t b c
  two_of =
      record {
        equal = λ e. shares s t (facts_of b) (facts_of c) p.yes q.yes (body_read s b p ∙ e ∙ sym (body_read t c q));
        only_equal = only_equal;
        sizes_part = λ f g major minor other_major other_minor y v z w e h. (zero_not_forty e h, same_lock_sym t s ∙ zero_not_forty e h);
      }

-- where one of the two has no FILEPASS, and where both have one
abbrev NoFilepass : Finding → Type 0
NoFilepass f = (start len : ℕ) → f ≡ Filepass start len → ⊥

pub unreadable_none : NoFilepass Unreadable
unreadable_none start len e = impossible (cc)

pub other_none : NoFilepass Other
other_none start len e = impossible (cc)

module _ (s t : List ℕ) where
  pub first_none : (f : Finding) → f ≡ found (capped s) → NoFilepass f → false ≡ same_lock s t
  first_none f e absent = sym (not_shared s t (λ g y. let w = yes_finds s g y in absent w.start w.len (e ∙ w.found)))

  pub second_none : (f : Finding) → f ≡ found (capped t) → NoFilepass f → false ≡ same_lock s t
  second_none f e absent = sym (same_lock_sym s t ∙ not_shared t s (λ g y. let w = yes_finds t g y in absent w.start w.len (e ∙ w.found)))

  pub both_found : (start len place size : ℕ) → Filepass start len ≡ found (capped s) → Filepass place size ≡ found (capped t)
      → same_bytes (take len (drop start (capped s))) (take size (drop place (capped t))) ≡ same_lock s t
  both_found start len place size e g =
      rw (body_found_lem s (Filepass start len) e, body_found_lem t (Filepass place size) g) (sym (by_bodies s t (look_told s start len e) (look_told t place size g)))

-- the bytes past the cap
module _ (l : List ℕ) where
  twice : take 1048576 (take 1048576 l) ≡ take 1048576 l
  twice = let size = length-take 1048576 l in take_all 1048576 (take 1048576 l) (omega arith)

  same_look : look (take 1048576 l) ≡ look l
  unfolding look
  same_look = rw twice

  same_body : capped_body (take 1048576 l) ≡ capped_body l
  unfolding capped_body
  same_body = rw twice

same_capped : (s t : List ℕ) → same_lock (take 1048576 s) (take 1048576 t) ≡ same_lock s t
unfolding same_lock facts_agree
same_capped s t = rw (same_look s, same_look t, same_body s, same_body t)

pub shared_locks : SharedLocks
shared_locks =
    record {
      agree = both_agree;
      agree_only = agree_both;
      before = shared_facts;
      symmetric = same_lock_sym;
      transitive = same_lock_trans;
      itself = λ s f e. shares s s f f e e refl;
      itself_only = λ s e. shared_yes s s e;
      body = body_read;
      two_bodies = two_of;
      capped = same_capped;
    }
