-- The lock's facts, the scan and what a look finds, by the tests on the way.
-- Assumes nothing.
use Rattle.std.specs.Prelude.{Some, None, Option}
use mathlib.Core.Path.{◌≡◌, refl, sym, ap, ◌∙◌}
use mathlib.Core.Bool.{true, false, not, ◌&&◌}
use mathlib.Core.List.{List}
use Prim.Native.Nat.{ℕ, zero, suc, ◌+◌, ◌-◌, ◌≤◌, ◌<◌, min}
use native.Mathlib.Nat.{le_refl}
use native.Mathlib.Omega.{arith}
use lib.Dec.{eqb}
use lib.ListN.{length, get_or, take, drop, length-take, length-drop}
use lib.Seq.{take_all, get_or-take, get_or-drop, ext_get_or}
use borrow.Author.Tests.{eq-eqb, ne_eqb, le-leb, lt-leb}
use Rattle.laws.specs.Choice.{pick, within}
use Rattle.laws.proofs.Choice.{stop, skip, either, within_yes, within_high}
use Rattle.binary_office.specs.declared.Version.{Version}
use Rattle.binary_office.specs.Fields.{le16_at, le32_at}
use Rattle.binary_office.specs.Walk.{never_encrypted}
use Rattle.binary_office.specs.declared.Finding.{Finding}
use Rattle.binary_office.specs.declared.Finding.TheVariants.{Filepass, Other, Unreadable}
use Rattle.binary_office.specs.declared.Verdict.{Verdict}
use Rattle.binary_office.specs.Look.{version_of, bits_of, bits_in, size_of, facts_of, judged, scan_by_length, scan_by_id, scan_from, scan_at, found, capped, verdict_of, look}

-- the key size that a header states: 0 is 40, 1 to 4096 is itself, above there is none
module _ (k : ℕ) where
  pub bits_zero : k ≡ 0 → Some 40 ≡ bits_of k
  unfolding bits_of
  bits_zero z = stop _ (eq-eqb k 0 z)

  module _ (other : k ≡ 0 → ⊥) where
    least_one : (n : ℕ) → (n ≡ 0 → ⊥) → 1 ≤ n
    least_one n f = omega arith

    pub bits_stated : k ≤ 4096 → Some k ≡ bits_of k
    unfolding bits_of
    bits_stated h = skip _ (ne_eqb k 0 other) (stop _ (within_yes 1 4096 k (least_one k other) h))

    pub bits_above : 4096 < k → None ≡ bits_of k
    unfolding bits_of
    bits_above h = skip _ (ne_eqb k 0 other) (skip _ (within_high 1 4096 k h) refl)

module _ (body : List ℕ) where
  -- the key size of a version
  module _ (v : (Option Version)) (major minor : ℕ) (e : v ≡ Some (record { major = major; minor = minor })) where
    pub size_other : (within 2 4 major && eqb minor 2) ≡ false → None ≡ size_of body v
    size_other t = rw e (skip _ t refl)

    pub size_in : (b : (Option ℕ)) → (within 2 4 major && eqb minor 2) ≡ true → b ≡ bits_in (le32_at body 30) → b ≡ size_of body v
    size_in b t h = rw e (h ∙ stop _ t)

  -- the facts, by the body's type
  pub facts_short : None ≡ le16_at body 0 → record { xor = false; version = None; key_size = None } ≡ facts_of body
  unfolding facts_of
  facts_short g = rw (← g)

  pub facts_xor : (t : ℕ) → Some t ≡ le16_at body 0 → t ≡ 0 → record { xor = true; version = None; key_size = None } ≡ facts_of body
  unfolding facts_of
  facts_xor t g h = rw (← g) (stop _ (eq-eqb t 0 h))

  pub facts_other : (t : ℕ) (v : (Option Version)) (k : (Option ℕ)) → Some t ≡ le16_at body 0 → (t ≡ 0 → ⊥) → v ≡ version_of body → k ≡ size_of body v
      → record { xor = false; version = v; key_size = k } ≡ facts_of body
  unfolding facts_of
  facts_other t v k g h e d = rw (← g) (skip _ (ne_eqb t 0 h) (rw (d, e)))

-- the scan, header by header
module _ (s : List ℕ) where
  no_fuel : (at : ℕ) → at ≤ length s → length s < 0 + at → ⊥
  no_fuel at h k = omega arith

  -- any fuel that is enough gives the same: the next scan is asked only within the stream
  enough : (f g at : ℕ) → at ≤ length s → length s < f + at → length s < g + at → scan_from f s at ≡ scan_from g s at
  unfolding scan_from pick
  enough zero g at h k l = absurd (no_fuel at h k)
  enough (suc f) zero at h k l = absurd (no_fuel at h l)
  enough (suc f) (suc g) at h k l = by_id_lem (le16_at s at) (λ n m p q. enough f g n m p q)
    where
      by_len : (id : ℕ) (w : (Option ℕ)) → ((n : ℕ) → n ≤ length s → length s < f + n → length s < g + n → scan_from f s n ≡ scan_from g s n)
          → scan_by_length s at id (scan_from f s) w ≡ scan_by_length s at id (scan_from g s) w
      by_len id None again = refl
      by_len id (Some len) again =
          either (at + 4 + len) (length s)
          (λ m. ap (λ (v : Finding). judged s at id len (λ (n : ℕ). v)) (again (at + 4 + len) m (omega arith) (omega arith)))
          (λ m. rw (lt-leb (at + 4 + len) (length s) m, pick))

      by_id_lem : (w : (Option ℕ)) → ((n : ℕ) → n ≤ length s → length s < f + n → length s < g + n → scan_from f s n ≡ scan_from g s n)
          → scan_by_id s at (scan_from f s) w ≡ scan_by_id s at (scan_from g s) w
      by_id_lem None again = refl
      by_id_lem (Some id) again = by_len id (le16_at s (at + 2)) again

  module _ (at : ℕ) where
    pub scan_no_id : None ≡ le16_at s at → Unreadable ≡ scan_at s at
    unfolding scan_at scan_from
    scan_no_id e = rw (← e)

    pub scan_no_len : (id : ℕ) → Some id ≡ le16_at s at → None ≡ le16_at s (at + 2) → Unreadable ≡ scan_at s at
    unfolding scan_at scan_from
    scan_no_len id e g = rw (← e, ← g)

    module _ (id len : ℕ) (e : Some id ≡ le16_at s at) (g : Some len ≡ le16_at s (at + 2)) where
      as_judged : (v : Finding) → v ≡ judged s at id len (scan_from (length s) s) → v ≡ scan_at s at
      unfolding scan_at scan_from
      as_judged v h = rw (← e, ← g) h

      pub scan_found : id ≡ 0x002F → Filepass (at + 4) len ≡ scan_at s at
      scan_found h = as_judged _ (stop _ (eq-eqb id 0x002F h))

      module _ (other : id ≡ 0x002F → ⊥) where
        pub scan_absent : never_encrypted id ≡ false → Other ≡ scan_at s at
        scan_absent h = as_judged Other (skip _ (ne_eqb id 0x002F other) (stop _ (ap not h)))

        pub scan_past : never_encrypted id ≡ true → length s < at + 4 + len → Unreadable ≡ scan_at s at
        scan_past h k = as_judged Unreadable (skip _ (ne_eqb id 0x002F other) (skip _ (ap not h) (skip _ (lt-leb (at + 4 + len) (length s) k) refl)))

        pub scan_on : never_encrypted id ≡ true → at + 4 + len ≤ length s → scan_at s (at + 4 + len) ≡ scan_at s at
        unfolding scan_at
        scan_on h k =
            enough (suc (length s)) (length s) (at + 4 + len) k (omega arith) (omega arith)
            ∙ as_judged (scan_from (length s) s (at + 4 + len)) (skip _ (ne_eqb id 0x002F other) (skip _ (ap not h) (stop _ (le-leb (at + 4 + len) (length s) k))))

-- a body that is cut at the end of the book
pub body_cut : (l : List ℕ) (start len n e : ℕ) → n ≡ min (length l - start) len → e ≡ start + n → take (e - start) (drop start l) ≡ take len (drop start l)
body_cut l start len n e h g =
    let d = drop start l in
    let k : length d ≡ length l - start = length-drop start l in
    either len (length d)
    (λ m. let q : e - start ≡ len = omega arith in ap (λ (i : ℕ). take i d) q)
    (λ m. let q : e - start ≡ length d = omega arith in ap (λ (i : ℕ). take i d) q ∙ take_all (length d) d (le_refl (length d)) ∙ sym (take_all len d (omega arith)))

pub take_least : (l : List ℕ) (cap n : ℕ) → n ≡ min (length l) cap → take n l ≡ take cap l
take_least l cap n h =
    either cap (length l)
    (λ m. let q : n ≡ cap = omega arith in ap (λ (i : ℕ). take i l) q)
    (λ m. let q : n ≡ length l = omega arith in ap (λ (i : ℕ). take i l) q ∙ take_all (length l) l (le_refl (length l)) ∙ sym (take_all cap l (omega arith)))

-- the part of a book that is cut itself, as the first bytes of the part of the whole
pub part_cut : (l : List ℕ) (most start len : ℕ) → take len (drop start (take most l)) ≡ take (most - start) (take len (drop start l))
part_cut l most start len = ext_get_or 0 (take len (drop start (take most l))) (take (most - start) (take len (drop start l))) lengths bytes
  where
    cut_length : length (take len (drop start (take most l))) ≡ min len (min most (length l) - start)
    cut_length = length-take len (drop start (take most l)) ∙ ap (min len) (length-drop start (take most l) ∙ ap (λ (n : ℕ). n - start) (length-take most l))

    less : (c n k : ℕ) → min c n - k ≡ min (c - k) (n - k)
    less c n k = omega arith

    least : (a b c : ℕ) → min a (min b c) ≡ min b (min a c)
    least a b c = omega arith

    lengths : length (take len (drop start (take most l))) ≡ length (take (most - start) (take len (drop start l)))
    lengths =
        cut_length
        ∙ ap (min len) (less most (length l) start)
        ∙ least len (most - start) (length l - start)
        ∙ sym (length-take (most - start) (take len (drop start l)) ∙ ap (min (most - start)) (length-take len (drop start l) ∙ ap (min len) (length-drop start l)))

    bytes : (i : ℕ) → i < length (take len (drop start (take most l))) → get_or (take len (drop start (take most l))) i 0 ≡ get_or (take (most - start) (take len (drop start l))) i 0
    bytes i h =
        let a = cut_length in
        get_or-take len (drop start (take most l)) i 0 (omega arith)
        ∙ get_or-drop start (take most l) i 0
        ∙ get_or-take most l (start + i) 0 (omega arith)
        ∙ sym (get_or-drop start l i 0)
        ∙ sym (get_or-take len (drop start l) i 0 (omega arith))
        ∙ sym (get_or-take (most - start) (take len (drop start l)) i 0 (omega arith))

-- what a book that starts with BOF has
module _ (book : List ℕ) where
  pub found_short : None ≡ le16_at book 0 → Unreadable ≡ found book
  unfolding found
  found_short e = rw (← e)

  module _ (id : ℕ) (e : Some id ≡ le16_at book 0) where
    pub found_scan : (v : Finding) → id ≡ 0x0809 → v ≡ scan_at book 0 → v ≡ found book
    unfolding found
    found_scan v h g = rw (← e) (g ∙ stop _ (eq-eqb id 0x0809 h))

    pub found_other : (id ≡ 0x0809 → ⊥) → Unreadable ≡ found book
    unfolding found
    found_other h = rw (← e) (skip _ (ne_eqb id 0x0809 h) refl)

-- the verdict, by what is found
pub look_found : (s : List ℕ) (v : Verdict) (f : Finding) → f ≡ found (capped s) → v ≡ verdict_of (capped s) f → v ≡ look s
unfolding look
look_found s v f e h = h ∙ ap (verdict_of (capped s)) e
