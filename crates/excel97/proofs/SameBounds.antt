-- The walk of the plain stream is that of the stream's own, in which the first FILEPASS has id 0000: at each header that the walk reaches, the plain stream
-- has the same length and, save there, the same id. So it has the same record bounds.
-- Assumes nothing.
use Rattle.std.specs.Prelude.{Option, None, Some}
use mathlib.Core.Path.{◌≡◌, refl, sym, ap, ◌∙◌}
use mathlib.Core.Bool.{Bool, true, false, ◌&&◌}
use mathlib.Core.List.Memᴰ
use mathlib.Core.List.{List, [], ◌∷◌, Memᴰ}
use mathlib.Core.Logic.{inl, inr}
use Prim.Native.Nat.{ℕ, ◌+◌, ◌≤◌, ◌<◌}
use native.Mathlib.Omega.{arith}
use borrow.Author.Tests.{eq-eqb, ne_eqb}
use lib.Dec.{eqb}
use lib.ListN.{length, get_or, get_or-eq_default}
use Rattle.laws.specs.Choice.{pick}
use Rattle.laws.proofs.Choice.{taken, left, either, same_or}
use Rattle.binary_office.specs.declared.Step.TheVariants as step
use Rattle.binary_office.specs.Fields.{le16_at}
use Rattle.binary_office.specs.declared.BiffRecord.{BiffRecord}
use Rattle.binary_office.specs.Walk.{step_at, walk_at, walk, records_end, clear_len}
use Rattle.binary_office.proofs.Headers.{le16_is, le16_value}
use Rattle.binary_office.proofs.Walks.{record_there, record_within}
use Rattle.binary_office.proofs.Along.{records_on, records_end_lem, records_fault, along}
use Rattle.binary_office.proofs.Renamed.{renamed, walk_renamed}
use Rattle.file_params.specs.Questions.{filepass, le16}
use Rattle.excel97.specs.Open.{record_at, blanked}
use Rattle.excel97.specs.Demand3.{Bounds, bounds_of}
use Rattle.survey.proofs.Records.{filepass_here, filepass_on, located, clear_within}
use Rattle.excel97.proofs.Records.{Reached, reached_none, reached_on, reached_fault, reached_end, in_none, record_here}
use Rattle.excel97.proofs.Blanked.{blank_before, blank_id, blank_length, blank_behind}

-- the id that a header has in the plain stream, by its offset and its id in the stream
unfoldable pub unlocked : (first : Option BiffRecord) → (at id : ℕ) → ℕ
unlocked first at id = pick (eqb id 0x002F && blanked first at) 0 id

-- other ids leave the bounds as they are
bounds_kept : (new : ℕ → ℕ → ℕ) (rs : List BiffRecord) → bounds_of (renamed new rs) ≡ bounds_of rs
bounds_kept new [] = refl
bounds_kept new (r ∷ rs) = ap (λ (bs : List Bounds). record { header = r.at; end = r.at + 4 + r.len } ∷ bs) (bounds_kept new rs)

module _ (s : List ℕ) where
  -- the id and the length of a record are its header's two fields
  header_fields_lem : (at id len : ℕ) → step_at s at ≡ step.Record id len → (id ≡ le16 s at) × (len ≡ le16 s (at + 2))
  header_fields_lem at id len e =
      let there = record_there s at id len e in (le16_is s at id there.id_there, le16_is s (at + 2) len there.len_there)

  -- the first FILEPASS is the first from an offset on, or no offset from there on is zeroed
  pub data Sits (f : Option BiffRecord) (at : ℕ) : Type 0 where
    ahead : f ≡ filepass (walk_at s at).records → Sits f at
    passed : ((o : ℕ) → at ≤ o → blanked f o ≡ false) → Sits f at

  module _ (f : Option BiffRecord) (at id len : ℕ) (e : step_at s at ≡ step.Record id len) where
    abbrev here : BiffRecord
    here = record { at = at; id = id; len = len }

    pub sits_on : Sits f at → Sits f (at + 4 + len)
    sits_on (ahead g) =
        same_or id 0x002F
        (λ q. passed (λ o h. rw (g ∙ filepass_here s at id len e q) (blank_behind here o h)))
        (λ q. ahead (g ∙ filepass_on s at id len e q))
    sits_on (passed g) = passed (λ o h. g o (omega arith))

    before_next : (w : Option BiffRecord) → filepass (walk_at s (at + 4 + len)).records ≡ w → (o : ℕ) → o < at + 4 + len → blanked w o ≡ false
    before_next None g o k = refl
    before_next (Some r) g o k = let h = (located s (at + 4 + len) (record_within s at id len e) r g).from in blank_before r o (omega arith)

    -- the length of a record is not zeroed
    length_kept : Sits f at → (o : ℕ) → at + 2 ≤ o → o < at + 4 → blanked f o ≡ false
    length_kept (ahead g) o h k =
        same_or id 0x002F
        (λ q. rw (g ∙ filepass_here s at id len e q) (blank_length here o h k))
        (λ q. rw (g ∙ filepass_on s at id len e q) (before_next (filepass (walk_at s (at + 4 + len)).records) refl o (omega arith)))
    length_kept (passed g) o h k = g o (omega arith)

    -- nor is any byte of a record other than FILEPASS
    pub record_kept : (id ≡ 0x002F → ⊥) → Sits f at → (o : ℕ) → at ≤ o → o < at + 4 + len → blanked f o ≡ false
    record_kept n (ahead g) o h k = rw (g ∙ filepass_on s at id len e n) (before_next (filepass (walk_at s (at + 4 + len)).records) refl o k)
    record_kept n (passed g) o h k = g o h

  -- behind the records no offset lies in one, and none is zeroed
  none_zeroed : (f : Option BiffRecord) (at : ℕ) → (walk_at s at).records ≡ [] → Sits f at → (o : ℕ) → at ≤ o → blanked f o ≡ false
  unfolding filepass
  none_zeroed f at e (ahead g) o h = rw (g ∙ ap filepass e)
  none_zeroed f at e (passed g) o h = g o h

  abbrev Behind : ℕ → Type 0
  Behind o = (record_at (walk s).records o ≡ None) × (blanked (filepass (walk s).records) o ≡ false)

  nothing_left : (at : ℕ) → (walk_at s at).records ≡ [] → Reached s at → Sits (filepass (walk s).records) at → (o : ℕ) → records_end s ≤ o → Behind o
  nothing_left at e w f o h =
      let here = reached_end s at w e in
      (in_none s at w e o (omega arith), none_zeroed (filepass (walk s).records) at e f o (omega arith))

  pub behind_records : (o : ℕ) → records_end s ≤ o → Behind o
  behind_records =
      along s (λ (at : ℕ). Reached s at → Sits (filepass (walk s).records) at → (o : ℕ) → records_end s ≤ o → Behind o)
      (λ at e. nothing_left at (records_end_lem s at e))
      (λ at p e. nothing_left at (records_fault s at p e))
      (λ at id len e again w f. again (reached_on s at id len w e) (sits_on (filepass (walk s).records) at id len e f))
      0
      (omega arith)
      (reached_none s)
      (ahead refl)

  -- any bytes that keep headers, clear parts and padding, and are zero where a FILEPASS is zeroed
  module _ (d : List ℕ) (size : length d ≡ length s) (clean : (walk s).fault ≡ None)
      (own : (r : BiffRecord) (o : ℕ) → record_at (walk s).records o ≡ Some r → o < r.at + 4 + clear_len r.id r.len → blanked (filepass (walk s).records) o ≡ false
      → get_or d o 0 ≡ get_or s o 0)
      (zeroed : (o : ℕ) → o < length s → blanked (filepass (walk s).records) o ≡ true → get_or d o 0 ≡ 0)
      (kept : (o : ℕ) → records_end s ≤ o → o < length s → get_or d o 0 ≡ get_or s o 0) where
    abbrev first : Option BiffRecord
    first = filepass (walk s).records

    -- at a record
    module _ (at id len : ℕ) (w : Reached s at) (f : Sits first at) (e : step_at s at ≡ step.Record id len) where
      header_byte : (o : ℕ) → at ≤ o → o < at + 4 → blanked first o ≡ false → get_or d o 0 ≡ get_or s o 0
      header_byte o h k b = own (record { at = at; id = id; len = len }) o (record_here s at id len w e o h (omega arith)) (omega arith) b

      -- a field whose two bytes are the stream's own
      own_field : (o : ℕ) → at ≤ o → o + 1 < at + 4 → blanked first o ≡ false → blanked first (o + 1) ≡ false → le16 d o ≡ le16 s o
      own_field o h k b c = rw (header_byte o h (omega arith) b, header_byte (o + 1) (omega arith) k c)

      same_length : len ≡ le16 d (at + 2)
      same_length =
          (header_fields_lem at id len e).1
          ∙ sym (own_field (at + 2) (omega arith) (omega arith)
          (length_kept first at id len e f (at + 2) (omega arith) (omega arith))
          (length_kept first at id len e f (at + 2 + 1) (omega arith) (omega arith)))

      own_id : blanked first at ≡ false → blanked first (at + 1) ≡ false → id ≡ le16 d at
      own_id b c = (header_fields_lem at id len e).0 ∙ sym (own_field at (omega arith) (omega arith) b c)

      zero_id : id ≡ 0x002F → first ≡ filepass (walk_at s at).records → (blanked first at ≡ true) × (0 ≡ le16 d at)
      zero_id q g =
          let m = record_within s at id len e in
          let i : first ≡ Some (record { at = at; id = id; len = len }) = g ∙ filepass_here s at id len e q in
          let a : blanked first at ≡ true = rw i (blank_id (record { at = at; id = id; len = len }) at (omega arith) (omega arith)) in
          let b : blanked first (at + 1) ≡ true = rw i (blank_id (record { at = at; id = id; len = len }) (at + 1) (omega arith) (omega arith)) in
          (a, sym (rw (zeroed at (omega arith) a, zeroed (at + 1) (omega arith) b)))

      -- the id there: 0 for the first FILEPASS, else the stream's own
      same_id : Sits first at → unlocked first at id ≡ le16 d at
      unfolding unlocked
      same_id (ahead g) =
          same_or id 0x002F
          (λ q. let z = zero_id q g in taken 0 id (rw (eq-eqb id 0x002F q, z.0)) ∙ z.1)
          (λ n. left 0 id (rw (ne_eqb id 0x002F n)) ∙ own_id (record_kept first at id len e n f at (omega arith) (omega arith))
          (record_kept first at id len e n f (at + 1) (omega arith) (omega arith)))
      same_id (passed g) =
          left 0 id (rw (g at (omega arith)) (neither (eqb id 0x002F))) ∙ own_id (g at (omega arith)) (g (at + 1) (omega arith))
        where
          neither : (t : Bool) → (t && false) ≡ false
          neither true = refl
          neither false = refl

      header_there : (Some (unlocked first at id) ≡ le16_at d at) × (Some len ≡ le16_at d (at + 2))
      header_there =
          let m = record_within s at id len e in
          (le16_value d at (unlocked first at id) (omega arith) (same_id f), le16_value d (at + 2) len (omega arith) same_length)

    -- a record other than FILEPASS has its own bytes in its header and clear part
    abbrev Own : BiffRecord → Type 0
    Own r = (r.id ≡ 0x002F → ⊥) → (o : ℕ) → r.at ≤ o → o < r.at + 4 + clear_len r.id r.len → get_or d o 0 ≡ get_or s o 0

    own_here : (at id len : ℕ) → Reached s at → Sits first at → step_at s at ≡ step.Record id len → Own (record { at = at; id = id; len = len })
    own_here at id len w f e n o h k =
        let m = clear_within id len in
        own (record { at = at; id = id; len = len }) o (record_here s at id len w e o h (omega arith)) k
        (record_kept first at id len e n f o h (omega arith))

    pub own_bytes : (r : BiffRecord) → Memᴰ r (walk s).records → Own r
    own_bytes =
        along s (λ (at : ℕ). Reached s at → Sits first at → (r : BiffRecord) → Memᴰ r (walk_at s at).records → Own r)
        (λ at e w f r i. absurd (none_there r (records_end_lem s at e) i))
        (λ at p e w f r i. absurd (none_there r (records_fault s at p e) i))
        (λ at id len e again w f r i.
        elim (Memᴰ.cases_cons (rw (records_on s at id len e) at i)) [
          | inl q ↦ rw q (own_here at id len w f e)
          | inr j ↦ again (reached_on s at id len w e) (sits_on first at id len e f) r j
        ])
        0
        (omega arith)
        (reached_none s)
        (ahead refl)
      where
        none_there : (r : BiffRecord) {rs : List BiffRecord} → rs ≡ [] → Memᴰ r rs → ⊥
        none_there r e i = Memᴰ.not-nil (rw e at i)

    from_end : (o : ℕ) → records_end s ≤ o → get_or d o 0 ≡ get_or s o 0
    from_end o h = either (length s) o (λ k. get_or-eq_default d 0 (omega arith) ∙ sym (get_or-eq_default s 0 k)) (kept o h)

    -- the walk of those bytes is the stream's own, in which the first FILEPASS has id 0000
    pub same_records : ((walk d).records ≡ renamed (unlocked first) (walk s).records) × ((walk d).fault ≡ (walk s).fault)
    same_records =
        walk_renamed s d size (unlocked first) (λ (at : ℕ). Reached s at × Sits first at)
        (λ at id len k e. (reached_on s at id len k.0 e, sits_on first at id len e k.1))
        (λ at p k e. reached_fault s at k.0 p e clean)
        (λ at id len k e. header_there at id len k.0 k.1 e)
        (λ at k e o h. let here = reached_end s at k.0 (records_end_lem s at e) in from_end o (omega arith))
        (reached_none s, ahead refl)

    pub same_bounds : (bounds_of (walk d).records ≡ bounds_of (walk s).records) × ((walk d).fault ≡ (walk s).fault)
    same_bounds = (ap bounds_of same_records.0 ∙ bounds_kept (unlocked first) (walk s).records, same_records.1)
