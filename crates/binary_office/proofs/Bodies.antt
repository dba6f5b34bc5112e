-- The FILEPASS body that a look reads. Each yes has one: the scan is followed from header to header up to the FILEPASS that it stops at. It has no other: the way
-- from a header is one record's, and ends at a FILEPASS. And where there is a way to one, the scan goes it.
-- Assumes nothing.
use Rattle.std.specs.Prelude.{Some, None, Option}
use mathlib.Core.Path.{◌≡◌, refl, sym, ap, ◌∙◌}
use mathlib.Core.Bool.{Bool, true, false, not, ◌&&◌, ◌||◌}
use mathlib.Core.List.{List}
use Prim.Native.Nat.{ℕ, zero, suc, ◌+◌, ◌≤◌}
use native.Mathlib.Omega.{arith}
use lib.Dec.{eqb, leb}
use lib.ListN.{length, take, drop}
use borrow.Author.Tests.{eq-eqb, ne_eqb, eqb-true, eqb-false, leb-true, not-false}
use Rattle.laws.specs.Choice.{pick}
use Rattle.laws.proofs.Choice.{same_or}
use Rattle.binary_office.specs.declared.Step.{Step}
use Rattle.binary_office.specs.declared.Step.TheVariants as step
use Rattle.binary_office.specs.declared.Facts.{Facts}
use Rattle.binary_office.specs.declared.Verdict.TheVariants.{Yes, No, Unknown}
use Rattle.binary_office.specs.declared.Finding.{Finding}
use Rattle.binary_office.specs.declared.Finding.TheVariants.{Filepass, Other, Unreadable}
use Rattle.binary_office.specs.Fields.{le16_at}
use Rattle.binary_office.specs.Walk.{step_at, never_encrypted}
use Rattle.binary_office.specs.Look.{facts_of, scan_by_length, scan_by_id, scan_from, scan_at, from_bof, found, verdict_of, look}
use Rattle.binary_office.specs.KeySizes.{comes_from, LooksAt, OneBody}
use Rattle.binary_office.proofs.Headers.{le16_within, step_record}
use Rattle.binary_office.proofs.Walks.{record_there}
use Rattle.binary_office.proofs.Locks.{scan_found, scan_on, found_scan, look_found}

-- 0 is not 1
pub impossible : {X : Type 0} → ◌≡◌ {A = ℕ} 0 1 → X
impossible z = absurd (no z)
  where
    no : ◌≡◌ {A = ℕ} 0 1 → ⊥
    no z = omega arith

-- one header on: to the same offset, or over a record of the seven other than FILEPASS
module _ (n : ℕ) (book : List ℕ) (from at : ℕ) where
  pub comes_here : from ≡ at → comes_from (suc n) book from at ≡ true
  unfolding comes_from
  comes_here e = rw (eq-eqb from at e)

  pub comes_over : (id len : ℕ) → step_at book from ≡ step.Record id len → eqb id 0x002F ≡ false → never_encrypted id ≡ true
      → comes_from n book (from + 4 + len) at ≡ true
      → comes_from (suc n) book from at ≡ true
  unfolding comes_from
  comes_over id len e f g h = rw e (joined (eqb from at) (eqb id 0x002F) (never_encrypted id) (comes_from n book (from + 4 + len) at) f g h)
    where
      joined : (a t u v : Bool) → t ≡ false → u ≡ true → v ≡ true → (a || (not t && u && v)) ≡ true
      joined true t u v f g h = refl
      joined false t u v f g h = rw (f, g, h)

  pub record Over : Type 0 where
    pub id : ℕ
    pub len : ℕ
    pub stands : step_at book from ≡ step.Record id len
    pub other : eqb id 0x002F ≡ false
    pub seven : never_encrypted id ≡ true
    pub rest : comes_from n book (from + 4 + len) at ≡ true

  pub over : comes_from (suc n) book from at ≡ true → (from ≡ at → ⊥) → Over
  unfolding comes_from
  over e f = by_step (step_at book from) refl (rw (ne_eqb from at f) at e)
    where
      by_tests : (id len : ℕ) → step_at book from ≡ step.Record id len → (t u v : Bool) → eqb id 0x002F ≡ t → never_encrypted id ≡ u
          → comes_from n book (from + 4 + len) at ≡ v
          → (not t && u && v) ≡ true → Over
      by_tests id len s true u v a b c h = let z : false ≡ true = h in impossible (cc)
      by_tests id len s false true true a b c h = record { id = id; len = len; stands = s; other = a; seven = b; rest = c }
      by_tests id len s false true false a b c h = let z : false ≡ true = h in impossible (cc)
      by_tests id len s false false v a b c h = let z : false ≡ true = h in impossible (cc)

      by_step : (w : Step) → step_at book from ≡ w
          → elim w [
            | step.End ↦ false
            | step.Fault p ↦ false
            | step.Record id len ↦ not (eqb id 0x002F) && never_encrypted id && comes_from n book (from + 4 + len) at
          ]
          ≡ true
          → Over
      by_step step.End s h = let z : false ≡ true = h in impossible (cc)
      by_step (step.Fault p) s h = let z : false ≡ true = h in impossible (cc)
      by_step (step.Record id len) s h = by_tests id len s (eqb id 0x002F) (never_encrypted id) (comes_from n book (from + 4 + len) at) refl refl refl h

-- no way goes on from a FILEPASS, so that of two FILEPASS headers that are come to both are one
module _ (book : List ℕ) where
  stays : (n from at : ℕ) → le16_at book from ≡ Some 0x002F → comes_from (suc n) book from at ≡ true → from ≡ at
  stays n from at i e = same_or from at (λ z. z) (λ f. let o = over n book from at e f in no o.id o.other ((record_there book from o.id o.len o.stands).id_there ∙ i))
    where
      no : (id : ℕ) → eqb id 0x002F ≡ false → Some id ≡ Some 0x002F → from ≡ at
      no id f g = let z : id ≡ 0x002F = cc in absurd (eqb-false id 0x002F f z)

  pub one_place : (n from a b : ℕ) → le16_at book a ≡ Some 0x002F → le16_at book b ≡ Some 0x002F → comes_from n book from a ≡ true → comes_from n book from b ≡ true
      → a ≡ b
  unfolding comes_from
  one_place zero from a b i j e g = sym (eqb-true from a e) ∙ eqb-true from b g
  one_place (suc n) from a b i j e g =
      same_or from a
      (λ z. sym z ∙ stays n from b (ap (le16_at book) z ∙ i) g)
      (λ f. same_or from b
      (λ z. sym (stays n from a (ap (le16_at book) z ∙ j) e) ∙ z)
      (λ h. both (over n book from a e f) (over n book from b g h) (λ next p q. one_place n next a b i j p q)))
    where
      both : Over n book from a → Over n book from b → ((next : ℕ) → comes_from n book next a ≡ true → comes_from n book next b ≡ true → a ≡ b) → a ≡ b
      both o p again =
          let s : step.Record o.id o.len ≡ step.Record p.id p.len = sym o.stands ∙ p.stands in
          let l : p.len ≡ o.len = cc in
          again (from + 4 + o.len) o.rest (ap (λ (k : ℕ). comes_from n book (from + 4 + k) b) (sym l) ∙ p.rest)

  -- a scan goes the way to a header
  pub same_scan : (n from at : ℕ) → comes_from n book from at ≡ true → scan_at book at ≡ scan_at book from
  unfolding comes_from
  same_scan zero from at e = ap (scan_at book) (sym (eqb-true from at e))
  same_scan (suc n) from at e =
      same_or from at
      (λ z. ap (scan_at book) (sym z))
      (λ f. on (over n book from at e f) (same_scan n))
    where
      on : Over n book from at → ((from at : ℕ) → comes_from n book from at ≡ true → scan_at book at ≡ scan_at book from) → scan_at book at ≡ scan_at book from
      on o again =
          let there = record_there book from o.id o.len o.stands in
          again (from + 4 + o.len) at o.rest
          ∙ scan_on book from o.id o.len there.id_there there.len_there (eqb-false o.id 0x002F o.other) o.seven there.within

-- the body of a FILEPASS that there is a way to is found
pub finds : (book : List ℕ) (at len : ℕ) → le16_at book 0 ≡ Some 0x0809 → comes_from (suc (length book)) book 0 at ≡ true → le16_at book at ≡ Some 0x002F
    → le16_at book (at + 2) ≡ Some len
    → Filepass (at + 4) len ≡ found book
finds book at len b e i l =
    found_scan book 0x0809 (sym b) (Filepass (at + 4) len) refl (scan_found book at 0x002F len (sym i) (sym l) refl ∙ same_scan book (suc (length book)) 0 at e)

says_yes : (s : List ℕ) (at len : ℕ)
    → let book = take 1048576 s in
    le16_at book 0 ≡ Some 0x0809
    → comes_from (suc (length book)) book 0 at ≡ true → le16_at book at ≡ Some 0x002F → le16_at book (at + 2) ≡ Some len
    → look s ≡ Yes (facts_of (take len (drop (at + 4) book)))
says_yes s at len b e i l = sym (look_found s _ (Filepass (at + 4) len) (finds (take 1048576 s) at len b e i l) refl)

-- the header that a scan stops at with a FILEPASS
record Stops (n : ℕ) (book : List ℕ) (from start len : ℕ) : Type 0 where
  at : ℕ
  reached : comes_from n book from at ≡ true
  id : le16_at book at ≡ Some 0x002F
  stated : le16_at book (at + 2) ≡ Some len
  body : start ≡ at + 4

module _ (start len : ℕ) where
  abbrev it : Finding
  it = Filepass start len

  -- a FILEPASS by a test
  by_test : {X : Type 0} (t : Bool) (x y : Finding) → pick t x y ≡ it → (t ≡ true → x ≡ it → X) → (t ≡ false → y ≡ it → X) → X
  unfolding pick
  by_test true x y e g h = g refl e
  by_test false x y e g h = h refl e

  never : {X : Type 0} (v : Finding) → v ≡ it → (v ≡ it → ◌≡◌ {A = ℕ} 0 1) → X
  never v e g = impossible (g e)

  stops : (n : ℕ) (book : List ℕ) (at : ℕ) → scan_from n book at ≡ it → Stops n book at start len
  unfolding scan_from
  stops zero book at e = never Unreadable e (λ k. cc)
  stops (suc n) book at e = by_id_lem (le16_at book at) refl e (stops n book)
    where
      here : (id own : ℕ) → le16_at book at ≡ Some id → le16_at book (at + 2) ≡ Some own → eqb id 0x002F ≡ true
          → Filepass (at + 4) own ≡ it → Stops (suc n) book at start len
      here id own i l t k =
          let p : start ≡ at + 4 = cc in
          let q : own ≡ len = cc in
          record { at = at; reached = comes_here n book at at refl; id = i ∙ ap Some (eqb-true id 0x002F t); stated = l ∙ ap Some q; body = p }

      on : (id own : ℕ) → le16_at book at ≡ Some id → le16_at book (at + 2) ≡ Some own → eqb id 0x002F ≡ false → not (never_encrypted id) ≡ false
          → leb (at + 4 + own) (length book) ≡ true
          → Stops n book (at + 4 + own) start len → Stops (suc n) book at start len
      on id own i l other seven fits h =
          let m = leb-true (at + 4 + own) (length book) fits in
          let stands = sym (step_record book at id own (sym i) (sym l) m) in
          record {
            at = h.at;
            reached = comes_over n book at h.at id own stands other (not-false (never_encrypted id) seven) h.reached;
            id = h.id;
            stated = h.stated;
            body = h.body;
          }

      by_len : (id : ℕ) → le16_at book at ≡ Some id → (w : (Option ℕ)) → le16_at book (at + 2) ≡ w → scan_by_length book at id (scan_from n book) w ≡ it
          → ((m : ℕ) → scan_from n book m ≡ it → Stops n book m start len) → Stops (suc n) book at start len
      by_len id i None l k again = never Unreadable k (λ z. cc)
      by_len id i (Some own) l k again =
          by_test (eqb id 0x002F) _ _ k (here id own i l)
          (λ other past-id.
          by_test (not (never_encrypted id)) _ _ past-id (λ t z. never Other z (λ y. cc))
          (λ seven past-other.
          by_test (leb (at + 4 + own) (length book)) _ _ past-other
          (λ fits z. on id own i l other seven fits (again (at + 4 + own) z))
          (λ t z. never Unreadable z (λ y. cc))))

      by_id_lem : (w : (Option ℕ)) → le16_at book at ≡ w → scan_by_id book at (scan_from n book) w ≡ it
          → ((m : ℕ) → scan_from n book m ≡ it → Stops n book m start len) → Stops (suc n) book at start len
      by_id_lem None i k again = never Unreadable k (λ z. cc)
      by_id_lem (Some id) i k again = by_len id i (le16_at book (at + 2)) refl k again

  module _ (book : List ℕ) (e : found book ≡ it) where
    scanned : (w : (Option ℕ)) → from_bof book w ≡ it → (w ≡ Some 0x0809) × (scan_at book 0 ≡ it)
    scanned None k = never Unreadable k (λ z. cc)
    scanned (Some id) k = by_test (eqb id 0x0809) _ _ k (λ t z. (ap Some (eqb-true id 0x0809 t), z)) (λ t z. never Unreadable z (λ y. cc))

    pub starts : le16_at book 0 ≡ Some 0x0809
    unfolding found
    starts = (scanned (le16_at book 0) e).0

    stopped : Stops (suc (length book)) book 0 start len
    unfolding found scan_at
    stopped = stops (suc (length book)) book 0 (scanned (le16_at book 0) e).1

    -- the body starts within the book
    pub starts_within : start ≤ length book
    starts_within =
        let h = stopped in
        let there = le16_within book (h.at + 2) len (sym h.stated) in
        let place = h.body in
        omega arith

-- the finding of a look that says yes
pub record Finds (s : List ℕ) (f : Facts) : Type 0 where
  pub start : ℕ
  pub len : ℕ
  pub found : found (take 1048576 s) ≡ Filepass start len
  pub told : f ≡ facts_of (take len (drop start (take 1048576 s)))

pub yes_finds : (s : List ℕ) (f : Facts) → look s ≡ Yes f → Finds s f
unfolding look
yes_finds s f e = go (found (take 1048576 s)) refl e
  where
    go : (w : Finding) → found (take 1048576 s) ≡ w → verdict_of (take 1048576 s) w ≡ Yes f → Finds s f
    go Unreadable g h = let z : Unknown ≡ Yes f = h in impossible (cc)
    go Other g h = let z : No ≡ Yes f = h in impossible (cc)
    go (Filepass start len) g h =
        let z : Yes (facts_of (take len (drop start (take 1048576 s)))) ≡ Yes f = h in
        let told : f ≡ facts_of (take len (drop start (take 1048576 s))) = cc in
        record { start = start; len = len; found = g; told = told }

has_body : (s : List ℕ) (f : Facts) → look s ≡ Yes f → (body : List ℕ) × LooksAt s body
has_body s f e =
    let book = take 1048576 s in
    let w = yes_finds s f e in
    let h = stopped w.start w.len book w.found in (
      take w.len (drop (h.at + 4) book),
      record {
        at = h.at;
        len = w.len;
        reached = h.reached;
        id = h.id;
        stated = h.stated;
        bytes = refl;
        yes = e ∙ ap Yes (w.told ∙ ap (λ (n : ℕ). facts_of (take w.len (drop n book))) h.body);
      },
    )

pub yes_starts : (s : List ℕ) (f : Facts) → look s ≡ Yes f → le16_at (take 1048576 s) 0 ≡ Some 0x0809
yes_starts s f e = let w = yes_finds s f e in starts w.start w.len (take 1048576 s) w.found

same_body : (s b c : List ℕ) → LooksAt s b → LooksAt s c → b ≡ c
same_body s b c p q =
    let place : p.at ≡ q.at = one_place (take 1048576 s) (suc (length (take 1048576 s))) 0 p.at q.at p.id q.id p.reached q.reached in
    let lengths : Some p.len ≡ Some q.len = sym p.stated ∙ ap (λ (at : ℕ). le16_at (take 1048576 s) (at + 2)) place ∙ q.stated in
    let len : p.len ≡ q.len = cc in
    let bodies : take p.len (drop (p.at + 4) (take 1048576 s)) ≡ take q.len (drop (q.at + 4) (take 1048576 s)) = rw (place, len) in
    p.bytes ∙ bodies ∙ sym q.bytes

pub one_body : OneBody
one_body = record { says_yes = says_yes; starts = yes_starts; looked = has_body; same = same_body }
