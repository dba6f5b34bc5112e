-- The zero record of a walk, taken record after record: where it is found it stands there, and the records before it are of the seven ids, none of them a FILEPASS.
-- With id 002F it is the first FILEPASS, with no other id before it, and its body is not counted as enciphered.
-- Assumes nothing.
use Rattle.std.specs.Prelude.{Option, None, Some}
use mathlib.Core.Path.{◌≡◌, refl, sym, ap, ◌∙◌}
use mathlib.Core.Bool.{Bool, true, false, ◌&&◌}
use mathlib.Core.List.{List, [], ◌∷◌}
use Prim.Native.Nat.{ℕ, ◌+◌, ◌-◌, ◌≤◌, ◌<◌}
use native.Mathlib.Nat.{le_refl}
use native.Mathlib.Omega.{arith}
use borrow.Author.Tests.{eq-eqb, ne_eqb, eqb-true}
use lib.Dec.{eqb}
use lib.ListN.{length}
use Rattle.laws.specs.Choice.{pick}
use Rattle.laws.proofs.Choice.{taken, left, same_or}
use Rattle.binary_office.specs.declared.Step.TheVariants as step
use Rattle.binary_office.specs.declared.BiffRecord.{BiffRecord}
use Rattle.binary_office.specs.Walk.{step_at, walk_at, never_encrypted, all_zero, clear_len}
use Rattle.binary_office.proofs.Along.{records_on, records_end_lem, records_fault, along}
use Rattle.binary_office.proofs.Renamed.{renamed}
use Rattle.binary_office.proofs.Walks.{record_within}
use Rattle.file_params.specs.Questions.{filepass, other_id, body_of}
use Rattle.survey.specs.Survey.{enciphered_len, enciphered_bytes}
use Rattle.survey.proofs.Records.{filepass_here, filepass_on, other_here, other_on_lem, no_filepass}
use Rattle.excel97.proofs.Records.{Reached, reached_on}
use Rattle.excel97.proofs.OneRecord.{with_id, id_given, id_kept}
use Rattle.sealing.specs.Seal.{zero_record}

-- no case
pub nothing_is : {A : Type 0} {X : Type 0} (x : A) → None ≡ Some x → X
nothing_is x e = let z : ◌≡◌ {A = ℕ} 0 1 = cc in absurd (no z)
  where
    no : ◌≡◌ {A = ℕ} 0 1 → ⊥
    no z = omega arith

module _ (s : List ℕ) where
  module _ (at id len : ℕ) (e : step_at s at ≡ step.Record id len) where
    abbrev here : BiffRecord
    here = record { at = at; id = id; len = len }

    abbrev blank_here : Option BiffRecord
    blank_here = pick (eqb id 0 && all_zero (body_of s (Some here))) (Some here) None

    abbrev behind : Option BiffRecord
    behind = zero_record s (walk_at s (at + 4 + len)).records

    opened : zero_record s (walk_at s at).records ≡ pick (eqb id 0x002F) None (pick (never_encrypted id) behind blank_here)
    unfolding zero_record
    opened = ap (zero_record s) (records_on s at id len e)

    pub zero_filepass : id ≡ 0x002F → zero_record s (walk_at s at).records ≡ None
    zero_filepass g = opened ∙ taken None (pick (never_encrypted id) behind blank_here) (eq-eqb id 0x002F g)

    module _ (g : id ≡ 0x002F → ⊥) where
      pub zero_on : never_encrypted id ≡ true → zero_record s (walk_at s at).records ≡ zero_record s (walk_at s (at + 4 + len)).records
      zero_on h = opened ∙ left None (pick (never_encrypted id) behind blank_here) (ne_eqb id 0x002F g) ∙ taken behind blank_here h

      pub zero_here : never_encrypted id ≡ false
          → zero_record s (walk_at s at).records
          ≡ pick (eqb id 0 && all_zero (body_of s (Some (record { at = at; id = id; len = len })))) (Some (record { at = at; id = id; len = len })) None
      zero_here h = opened ∙ left None (pick (never_encrypted id) behind blank_here) (ne_eqb id 0x002F g) ∙ left behind blank_here h

  pub no_zero : (rs : List BiffRecord) → rs ≡ [] → zero_record s rs ≡ None
  unfolding zero_record
  no_zero rs e = rw e

  -- the zero record of the walk from an offset on
  pub record ZeroAt (at : ℕ) (r : BiffRecord) : Type 0 where
    pub from : at ≤ r.at
    pub stands : step_at s r.at ≡ step.Record r.id r.len
    pub id_zero : r.id ≡ 0
    pub blank : all_zero (body_of s (Some r)) ≡ true
    pub reached : Reached s at → Reached s r.at

  -- a record, by what it is: a FILEPASS, another of the seven, or any other
  by_id_lem : {X : Type 0} (id : ℕ) → (id ≡ 0x002F → X) → ((id ≡ 0x002F → ⊥) → never_encrypted id ≡ true → X) → ((id ≡ 0x002F → ⊥) → never_encrypted id ≡ false → X) → X
  by_id_lem {X = X} id f g h = same_or id 0x002F f (λ n. go (never_encrypted id) refl n)
    where
      go : (t : Bool) → never_encrypted id ≡ t → (id ≡ 0x002F → ⊥) → X
      go true e n = g n e
      go false e n = h n e

  -- the record that is found here
  it_is : (at id len : ℕ) (r : BiffRecord) → step_at s at ≡ step.Record id len
      → pick (eqb id 0 && all_zero (body_of s (Some (record { at = at; id = id; len = len })))) (Some (record { at = at; id = id; len = len })) None ≡ Some r
      → (r ≡ record { at = at; id = id; len = len }) × (id ≡ 0) × (all_zero (body_of s (Some (record { at = at; id = id; len = len }))) ≡ true)
  unfolding pick
  it_is at id len r e g = go (eqb id 0) (all_zero (body_of s (Some (record { at = at; id = id; len = len })))) refl refl g
    where
      go : (t u : Bool) → eqb id 0 ≡ t → all_zero (body_of s (Some (record { at = at; id = id; len = len }))) ≡ u
          → pick (t && u) (Some (record { at = at; id = id; len = len })) None ≡ Some r
          → (r ≡ record { at = at; id = id; len = len }) × (id ≡ 0) × (all_zero (body_of s (Some (record { at = at; id = id; len = len }))) ≡ true)
      go true true a b g = (cc, eqb-true id 0 a, b)
      go true false a b g = nothing_is r g
      go false u a b g = nothing_is r g

  pub zero_located : (at : ℕ) → at ≤ length s → (r : BiffRecord) → zero_record s (walk_at s at).records ≡ Some r → ZeroAt at r
  zero_located =
      along s (λ (at : ℕ). (r : BiffRecord) → zero_record s (walk_at s at).records ≡ Some r → ZeroAt at r)
      (λ at e r g. nothing_is r (sym (no_zero (walk_at s at).records (records_end_lem s at e)) ∙ g))
      (λ at p e r g. nothing_is r (sym (no_zero (walk_at s at).records (records_fault s at p e)) ∙ g))
      (λ at id len e again r g.
      by_id_lem id
      (λ q. nothing_is r (sym (zero_filepass at id len e q) ∙ g))
      (λ n q.
      let h = again r (sym (zero_on at id len e n q) ∙ g) in
      let f = h.from in
      record { from = omega arith; stands = h.stands; id_zero = h.id_zero; blank = h.blank; reached = λ w. h.reached (reached_on s at id len w e) })
      (λ n q. found at id len r e (it_is at id len r e (sym (zero_here at id len e n q) ∙ g))))
    where
      found : (at id len : ℕ) (r : BiffRecord) → step_at s at ≡ step.Record id len
          → (r ≡ record { at = at; id = id; len = len }) × (id ≡ 0) × (all_zero (body_of s (Some (record { at = at; id = id; len = len }))) ≡ true) → ZeroAt at r
      found at id len r e g =
          rw g.0 (record { from = le_refl at; stands = e; id_zero = g.1; blank = g.2; reached = λ w. w })

  -- behind the record no id changes
  pub same_behind : (place new at : ℕ) → at ≤ length s → place < at → renamed (with_id place new) (walk_at s at).records ≡ (walk_at s at).records
  same_behind place new =
      along s (λ (at : ℕ). place < at → renamed (with_id place new) (walk_at s at).records ≡ (walk_at s at).records)
      (λ at e h. rw (records_end_lem s at e))
      (λ at p e h. rw (records_fault s at p e))
      (λ at id len e again h.
      let other : at ≡ place → ⊥ = apart at h in
      rw (records_on s at id len e, again (omega arith), id_kept place new at id other))
    where
      apart : (at : ℕ) → place < at → at ≡ place → ⊥
      apart at h e = omega arith

  -- the records in which the zero record has id 002F
  pub record Refiled (r : BiffRecord) (rs : List BiffRecord) : Type 0 where
    pub first : filepass (renamed (with_id r.at 0x002F) rs) ≡ Some (record { at = r.at; id = 0x002F; len = r.len })
    pub others : other_id (renamed (with_id r.at 0x002F) rs) ≡ None
    pub counted : enciphered_bytes (renamed (with_id r.at 0x002F) rs) + r.len ≡ enciphered_bytes rs

  -- the zero record itself
  at_head : (at len : ℕ) → (rs : List BiffRecord) → renamed (with_id at 0x002F) rs ≡ rs
      → Refiled (record { at = at; id = 0; len = len }) (record { at = at; id = 0; len = len } ∷ rs)
  unfolding filepass other_id enciphered_bytes clear_len pick
  at_head at len rs e =
      let i = id_given at 0x002F at 0 refl in
      record { first = rw i; others = rw i; counted = rw (i, e) (sums len (enciphered_bytes rs)) }
    where
      sums : (len n : ℕ) → len - len + n + len ≡ len - 0 + n
      sums len n = omega arith

  -- a record of the seven ids before it
  before : (r t : BiffRecord) (rs : List BiffRecord) → (t.at ≡ r.at → ⊥) → (t.id ≡ 0x002F → ⊥) → never_encrypted t.id ≡ true → Refiled r rs → Refiled r (t ∷ rs)
  unfolding filepass other_id enciphered_bytes
  before r t rs n m q w =
      let i = id_kept r.at 0x002F t.at t.id n in
      let f = ne_eqb t.id 0x002F m in
      let new = renamed (with_id r.at 0x002F) rs in
      let c = w.counted in
      record {
        first = rw i (left (Some t) (filepass new) f ∙ w.first);
        others = rw i (left None (pick (never_encrypted t.id) (other_id new) (Some t.id)) f ∙ taken (other_id new) (Some t.id) q ∙ w.others);
        counted = rw i (sums (enciphered_len t.id t.len) (enciphered_bytes new) r.len (enciphered_bytes rs) c);
      }
    where
      sums : (a b c d : ℕ) → b + c ≡ d → a + b + c ≡ a + d
      sums a b c d e = omega arith

  pub refiled : (at : ℕ) → at ≤ length s → (r : BiffRecord) → zero_record s (walk_at s at).records ≡ Some r → Refiled r (walk_at s at).records
  refiled =
      along s (λ (at : ℕ). (r : BiffRecord) → zero_record s (walk_at s at).records ≡ Some r → Refiled r (walk_at s at).records)
      (λ at e r g. nothing_is r (sym (no_zero (walk_at s at).records (records_end_lem s at e)) ∙ g))
      (λ at p e r g. nothing_is r (sym (no_zero (walk_at s at).records (records_fault s at p e)) ∙ g))
      (λ at id len e again r g.
      by_id_lem id
      (λ q. nothing_is r (sym (zero_filepass at id len e q) ∙ g))
      (λ n q.
      let g' = sym (zero_on at id len e n q) ∙ g in
      rw (records_on s at id len e) (before r (record { at = at; id = id; len = len }) (walk_at s (at + 4 + len)).records (further at id len e r g') n q (again r g')))
      (λ n q.
      let t = it_is at id len r e (sym (zero_here at id len e n q) ∙ g) in
      let z : r ≡ record { at = at; id = 0; len = len } = t.0 ∙ ap (λ (i : ℕ). record { at = at; id = i; len = len }) t.1 in
      rw (records_on s at id len e, t.1, z) (at_head at len (walk_at s (at + 4 + len)).records (same_behind at 0x002F (at + 4 + len) (record_within s at id len e) (omega arith)))))
    where
      further : (at id len : ℕ) → step_at s at ≡ step.Record id len → (r : BiffRecord) → zero_record s (walk_at s (at + 4 + len)).records ≡ Some r → at ≡ r.at → ⊥
      further at id len e r g q = let f = (zero_located (at + 4 + len) (record_within s at id len e) r g).from in omega arith

-- the first FILEPASS of a walk: it stands there, and where no other id is before it, it becomes the zero record once it has id 0000 and a zero body
module _ (s : List ℕ) where
  pub record FirstFilepass (at : ℕ) (r : BiffRecord) : Type 0 where
    pub from : at ≤ r.at
    pub stands : step_at s r.at ≡ step.Record r.id r.len
    pub is_filepass : r.id ≡ 0x002F
    pub reached : Reached s at → Reached s r.at

  pub first_located : (at : ℕ) → at ≤ length s → (r : BiffRecord) → filepass (walk_at s at).records ≡ Some r → FirstFilepass at r
  first_located =
      along s (λ (at : ℕ). (r : BiffRecord) → filepass (walk_at s at).records ≡ Some r → FirstFilepass at r)
      (λ at e r g. nothing_is r (sym (no_filepass (walk_at s at).records (records_end_lem s at e)) ∙ g))
      (λ at p e r g. nothing_is r (sym (no_filepass (walk_at s at).records (records_fault s at p e)) ∙ g))
      (λ at id len e again r g.
      same_or id 0x002F
      (λ q.
      let z : Some (record { at = at; id = id; len = len }) ≡ Some r = sym (filepass_here s at id len e q) ∙ g in
      let y : record { at = at; id = id; len = len } ≡ r = cc in
      rw (← y) (record { from = le_refl at; stands = e; is_filepass = q; reached = λ w. w }))
      (λ q.
      let h = again r (sym (filepass_on s at id len e q) ∙ g) in
      let f = h.from in
      record { from = omega arith; stands = h.stands; is_filepass = h.is_filepass; reached = λ w. h.reached (reached_on s at id len w e) }))

  module _ (d : List ℕ) (r : BiffRecord) (blank : all_zero (body_of d (Some (record { at = r.at; id = 0; len = r.len }))) ≡ true) where
    abbrev the_zero : BiffRecord
    the_zero = record { at = r.at; id = 0; len = r.len }

    head_zero : (rs : List BiffRecord) → zero_record d (the_zero ∷ rs) ≡ Some the_zero
    unfolding zero_record pick
    head_zero rs = rw blank

    past_seven : (t : BiffRecord) (rs : List BiffRecord) → (t.id ≡ 0x002F → ⊥) → never_encrypted t.id ≡ true → zero_record d (t ∷ rs) ≡ zero_record d rs
    unfolding zero_record
    past_seven t rs n q =
        left None (pick (never_encrypted t.id) (zero_record d rs) (pick (eqb t.id 0 && all_zero (body_of d (Some t))) (Some t) None)) (ne_eqb t.id 0x002F n)
        ∙ taken (zero_record d rs) (pick (eqb t.id 0 && all_zero (body_of d (Some t))) (Some t) None) q

    pub unfiled : (at : ℕ) → at ≤ length s → filepass (walk_at s at).records ≡ Some r → other_id (walk_at s at).records ≡ None
        → zero_record d (renamed (with_id r.at 0) (walk_at s at).records) ≡ Some (record { at = r.at; id = 0; len = r.len })
    unfiled =
        along s
        (λ (at : ℕ). filepass (walk_at s at).records ≡ Some r → other_id (walk_at s at).records ≡ None
        → zero_record d (renamed (with_id r.at 0) (walk_at s at).records) ≡ Some the_zero)
        (λ at e g k. nothing_is r (sym (no_filepass (walk_at s at).records (records_end_lem s at e)) ∙ g))
        (λ at p e g k. nothing_is r (sym (no_filepass (walk_at s at).records (records_fault s at p e)) ∙ g))
        (λ at id len e again g k.
        by_id_lem s id
        (λ q.
        let z : Some (record { at = at; id = id; len = len }) ≡ Some r = sym (filepass_here s at id len e q) ∙ g in
        let y : record { at = at; id = id; len = len } ≡ r = cc in
        let a : at ≡ r.at = ap (λ (t : BiffRecord). t.at) y in
        let l : len ≡ r.len = ap (λ (t : BiffRecord). t.len) y in
        let rest = renamed (with_id r.at 0) (walk_at s (at + 4 + len)).records in
        ap (λ (rs : List BiffRecord). zero_record d (renamed (with_id r.at 0) rs)) (records_on s at id len e)
        ∙ ap (λ (t : BiffRecord). zero_record d (t ∷ rest)) (is_zero at id len a l)
        ∙ head_zero rest)
        (λ n q.
        let g' = sym (filepass_on s at id len e n) ∙ g in
        let k' = sym (other_on_lem s at id len e n q) ∙ k in
        let f = (first_located (at + 4 + len) (record_within s at id len e) r g').from in
        let rest = renamed (with_id r.at 0) (walk_at s (at + 4 + len)).records in
        ap (λ (rs : List BiffRecord). zero_record d (renamed (with_id r.at 0) rs)) (records_on s at id len e)
        ∙ ap (λ (i : ℕ). zero_record d (record { at = at; id = i; len = len } ∷ rest)) (id_kept r.at 0 at id (further at len f))
        ∙ past_seven (record { at = at; id = id; len = len }) rest n q
        ∙ again g' k')
        (λ n q. nothing_is id (sym k ∙ other_here s at id len e n q)))
      where
        is_zero : (at id len : ℕ) → at ≡ r.at → len ≡ r.len → record { at = at; id = with_id r.at 0 at id; len = len } ≡ the_zero
        is_zero at id len a l = rw (id_given r.at 0 at id a, a, l)

        further : (at len : ℕ) → at + 4 + len ≤ r.at → at ≡ r.at → ⊥
        further at len h e = omega arith
