-- The sealed stream: its bytes by place, its walk, which is the plain stream's with a FILEPASS where the zero record stood, and so what Open's questions find in it and
-- what Open reports of it.
-- Assumes nothing.
use Rattle.std.specs.Prelude.{Option, None, Some}
use mathlib.Core.Path.{◌≡◌, refl, sym, ap, ◌∙◌}
use mathlib.Core.Bool.{true, false}
use mathlib.Core.List.{List, [], ◌∷◌, ◌++◌}
use Prim.Native.Nat.{ℕ, suc, ◌+◌, ◌-◌, ◌≤◌, ◌<◌}
use native.Mathlib.Nat.{zero-add, add-zero}
use native.Mathlib.Omega.{arith}
use borrow.Author.Tests.{lt-ltb, le-ltb, eqb-true}
use lib.Dec.{eqb}
use lib.ListN.{length, get_or, take, drop, get_or-eq_default, length-take, length-drop}
use lib.Seq.{ext_get_or, get_or-take, get_or-drop}
use Rattle.laws.specs.Choice.{pick}
use Rattle.laws.proofs.Choice.{taken, left, either, same_or}
use Rattle.laws.proofs.Offsets.{length_map_at, get_d_map_at}
use Rattle.binary_office.specs.declared.Step.{Step}
use Rattle.binary_office.specs.declared.Step.TheVariants as step
use Rattle.binary_office.specs.declared.BiffRecord.{BiffRecord}
use Rattle.binary_office.specs.Walk.{step_at, walk, records_end}
use Rattle.binary_office.proofs.Along.{records_on, records_end_lem, records_fault, end_from_lem}
use Rattle.binary_office.proofs.Renamed.{renamed}
use Rattle.binary_office.proofs.Walks.{record_within}
use Rattle.file_params.specs.Questions.{asked, in_order, locked, book, lock, of_stream, starts_bof, filepass, other_id, filepass_body, body_of, le16}
use Rattle.file_params.proofs.Laws.{past, asked_on}
use Rattle.survey.specs.Survey.{enciphered_bytes}
use Rattle.survey.proofs.First.{starts}
use Rattle.excel97.specs.Open.{record_at, in_record, blanked, report}
use Rattle.excel97.proofs.Blanked.{never, blank_id, blank_body, blank_behind}
use Rattle.excel97.proofs.Records.{Reached, reached_none, reached_on, record_here}
use Rattle.excel97.proofs.SameBounds.{behind_records}
use Rattle.excel97.proofs.Through.{own_byte}
use Rattle.excel97.proofs.OneRecord.{with_id, id_kept, walk_with_id}
use Rattle.sealing.specs.declared.Choice.{Choice}
use Rattle.sealing.specs.Filepass.{two, filepass_for}
use Rattle.sealing.specs.Seal.{zero_of, sealed_byte, filepass_byte, sealed_at, sealed}
use Rattle.sealing.proofs.ZeroRecords.{ZeroAt, zero_located, Refiled, refiled}
use Rattle.sealing.proofs.Bodies.{ReadBack, report_for}

-- another id takes no record away
pub length_renamed : (new : ℕ → ℕ → ℕ) (rs : List BiffRecord) → length (renamed new rs) ≡ length rs
length_renamed new [] = refl
length_renamed new (r ∷ rs) = ap suc (length_renamed new rs)

-- where the record that gets another id is no BOF, a stream that starts with BOF still does
module _ (s : List ℕ) (r : BiffRecord) (stands : step_at s r.at ≡ step.Record r.id r.len) (other : r.id ≡ 0x0809 → ⊥) (new : ℕ) where
  pub starts_kept : starts_bof (walk s).records ≡ true → starts_bof (renamed (with_id r.at new) (walk s).records) ≡ true
  starts_kept h = go (step_at s 0) refl
    where
      nothing : (rs : List BiffRecord) → rs ≡ [] → starts_bof rs ≡ true → ⊥
      nothing rs e g = never (sym g ∙ ap starts_bof e)

      here : (id len : ℕ) → step_at s 0 ≡ step.Record id len → starts_bof (renamed (with_id r.at new) (walk s).records) ≡ eqb (with_id r.at new 0 id) 0x0809
      here id len e = ap (λ (rs : List BiffRecord). starts_bof (renamed (with_id r.at new) rs)) (records_on s 0 id len e)

      bof : (id len : ℕ) → step_at s 0 ≡ step.Record id len → eqb id 0x0809 ≡ true
      bof id len e = sym (starts s 0 id len e) ∙ h

      same_id : (id len : ℕ) → step_at s 0 ≡ step.Record id len → 0 ≡ r.at → r.id ≡ id
      same_id id len e q = let z : step.Record r.id r.len ≡ step.Record id len = sym stands ∙ ap (step_at s) (sym q) ∙ e in cc

      go : (w : Step) → step_at s 0 ≡ w → starts_bof (renamed (with_id r.at new) (walk s).records) ≡ true
      go step.End e = absurd (nothing (walk s).records (records_end_lem s 0 e) h)
      go (step.Fault p) e = absurd (nothing (walk s).records (records_fault s 0 p e) h)
      go (step.Record id len) e =
          same_or 0 r.at
          (λ q. absurd (other (same_id id len e q ∙ eqb-true id 0x0809 (bof id len e))))
          (λ n. here id len e ∙ ap (λ (i : ℕ). eqb i 0x0809) (id_kept r.at new 0 id n) ∙ bof id len e)

-- a record of the walk ends where the records do, or before
pub record_ends : (s : List ℕ) (r : BiffRecord) → Reached s r.at → step_at s r.at ≡ step.Record r.id r.len → r.at + 4 + r.len ≤ records_end s
record_ends s r w e =
    let n = reached_on s r.at r.id r.len w e in
    let f = end_from_lem s (r.at + 4 + r.len) n.inside in
    rw (← n.end) f

module _ (plain password : List ℕ) (choice : Choice) (salt verifier : List ℕ) where
  pub length_sealed : length (sealed plain password choice salt verifier) ≡ length plain
  unfolding sealed
  length_sealed = length_map_at (sealed_at plain password choice salt verifier) 0 plain

  pub sealed_at_lem : (o : ℕ) → o < length plain → get_or (sealed plain password choice salt verifier) o 0 ≡ sealed_at plain password choice salt verifier o (get_or plain o 0)
  unfolding sealed
  sealed_at_lem o h =
      get_d_map_at (sealed_at plain password choice salt verifier) 0 plain o 0 h
      ∙ ap (λ (i : ℕ). sealed_at plain password choice salt verifier i (get_or plain o 0)) (zero-add o)

  -- where there is a zero record
  module _ (z : BiffRecord) (found : zero_of plain ≡ Some z) where
    abbrev body : List ℕ
    body = filepass_for choice password salt verifier z.len

    abbrev whole : List ℕ
    whole = sealed plain password choice salt verifier

    abbrev through : (o x : ℕ) → ℕ
    through o x = in_record (sealed_byte choice password salt) (record_at (walk plain).records o) o x

    pub located : ZeroAt plain 0 z
    located = zero_located plain 0 (omega arith) z found

    pub reached : Reached plain z.at
    reached = located.reached (reached_none plain)

    pub inside : z.at + 4 + z.len ≤ length plain
    inside = record_within plain z.at z.id z.len located.stands

    pub by_found : (o x : ℕ) → sealed_at plain password choice salt verifier o x ≡ pick (blanked (Some z) o) (filepass_byte body (Some z) o) (through o x)
    unfolding sealed_at
    by_found o x = rw found

    -- a byte of the new FILEPASS, and any other byte
    pub new_byte : (o x : ℕ) → blanked (Some z) o ≡ true → sealed_at plain password choice salt verifier o x ≡ filepass_byte body (Some z) o
    new_byte o x e = by_found o x ∙ taken (filepass_byte body (Some z) o) (through o x) e

    pub old_byte : (o x : ℕ) → blanked (Some z) o ≡ false → sealed_at plain password choice salt verifier o x ≡ through o x
    old_byte o x e = by_found o x ∙ left (filepass_byte body (Some z) o) (through o x) e

    id_byte : (i : ℕ) → i < 2 → get_or whole (z.at + i) 0 ≡ get_or (two 0x002F) i 0
    id_byte i h =
        let m = inside in
        let n : z.at + i - z.at ≡ i = omega arith in
        sealed_at_lem (z.at + i) (omega arith)
        ∙ new_byte (z.at + i) (get_or plain (z.at + i) 0) (blank_id z (z.at + i) (omega arith) (omega arith))
        ∙ taken (get_or (two 0x002F) (z.at + i - z.at) 0) (get_or body (z.at + i - (z.at + 4)) 0) (lt-ltb (z.at + i) (z.at + 2) (omega arith))
        ∙ ap (λ (k : ℕ). get_or (two 0x002F) k 0) n

    pub body_byte : (o : ℕ) → z.at + 4 ≤ o → o < z.at + 4 + z.len → get_or whole o 0 ≡ get_or body (o - (z.at + 4)) 0
    body_byte o h k =
        let m = inside in
        sealed_at_lem o (omega arith)
        ∙ new_byte o (get_or plain o 0) (blank_body z o h k)
        ∙ left (get_or (two 0x002F) (o - z.at) 0) (get_or body (o - (z.at + 4)) 0) (le-ltb o (z.at + 2) (omega arith))

    new_id : le16 whole z.at ≡ 0x002F
    new_id =
        let a : get_or whole z.at 0 ≡ 0x2F = ap (λ (k : ℕ). get_or whole k 0) (sym (add-zero z.at)) ∙ id_byte 0 (omega arith) in
        rw (a, id_byte 1 (omega arith))

    header_byte : (at id len : ℕ) → Reached plain at → step_at plain at ≡ step.Record id len → (o : ℕ) → at ≤ o → o < at + 4 → blanked (Some z) o ≡ false
        → get_or whole o 0 ≡ get_or plain o 0
    header_byte at id len w e o h k b =
        let m = record_within plain at id len e in
        sealed_at_lem o (omega arith)
        ∙ old_byte o (get_or plain o 0) b
        ∙ ap (λ (r : Option BiffRecord). in_record (sealed_byte choice password salt) r o (get_or plain o 0)) (record_here plain at id len w e o h (omega arith))
        ∙ own_byte (sealed_byte choice password salt) (record { at = at; id = id; len = len }) o (get_or plain o 0) (omega arith)

    behind_byte : (o : ℕ) → records_end plain ≤ o → get_or whole o 0 ≡ get_or plain o 0
    behind_byte o h =
        let l = length_sealed in
        let ends = record_ends plain z reached located.stands in
        either (length plain) o
        (λ k. get_or-eq_default whole 0 (omega arith) ∙ sym (get_or-eq_default plain 0 k))
        (λ k.
        sealed_at_lem o k
        ∙ old_byte o (get_or plain o 0) (blank_behind z o (omega arith))
        ∙ ap (λ (r : Option BiffRecord). in_record (sealed_byte choice password salt) r o (get_or plain o 0)) (behind_records plain o h).0)

    -- the walk
    module _ (clean : (walk plain).fault ≡ None) where
      pub walk_sealed : ((walk whole).records ≡ renamed (with_id z.at 0x002F) (walk plain).records) × ((walk whole).fault ≡ (walk plain).fault)
      walk_sealed = walk_with_id plain z reached located.stands whole length_sealed 0x002F clean new_id header_byte behind_byte

      filed : Refiled plain z (walk plain).records
      filed = refiled plain 0 (omega arith) z found

      abbrev the_filepass : BiffRecord
      the_filepass = record { at = z.at; id = 0x002F; len = z.len }

      pub first_filepass : filepass (walk whole).records ≡ Some the_filepass
      first_filepass = ap filepass walk_sealed.0 ∙ filed.first

      no_others : other_id (walk whole).records ≡ None
      no_others = ap other_id walk_sealed.0 ∙ filed.others

      booked : starts_bof (walk whole).records ≡ true → None ≡ asked (in_order (walk whole).fault (walk whole).records ++ locked (walk whole).records)
      unfolding asked in_order locked
      booked g =
          past _ (rw (walk_sealed.1, clean) refl) (past _ g (past _ (rw first_filepass refl) (past _ (rw no_others refl) refl)))

      module _ (back : ReadBack choice password salt z.len body) where
        pub body_is : filepass_body whole ≡ body
        unfolding filepass_body
        body_is =
            let l = length_sealed in
            let m = inside in
            let n = back.long in
            let sized : length (take z.len (drop (z.at + 4) whole)) ≡ z.len = simp (length-take, length-drop) (omega arith) in
            ap (body_of whole) first_filepass
            ∙ ext_get_or 0 (take z.len (drop (z.at + 4) whole)) body (sized ∙ sym n)
            (λ i h.
            let k : i < z.len = rw sized at h in
            let c : z.at + 4 + i - (z.at + 4) ≡ i = omega arith in
            get_or-take z.len (drop (z.at + 4) whole) i 0 k ∙ get_or-drop (z.at + 4) whole i 0 ∙ body_byte (z.at + 4 + i) (omega arith) (omega arith)
            ∙ ap (λ (j : ℕ). get_or body j 0) c)

        pub sealed_passes : starts_bof (walk plain).records ≡ true → None ≡ asked (of_stream whole)
        unfolding of_stream book
        sealed_passes h =
            let starting : starts_bof (walk whole).records ≡ true =
            ap starts_bof walk_sealed.0 ∙ starts_kept plain z located.stands (λ q. no_bof (sym located.id_zero ∙ q)) 0x002F h in
            back.passed ∙ ap (λ (b : List ℕ). asked (lock b)) (sym body_is)
            ∙ sym (asked_on (in_order (walk whole).fault (walk whole).records ++ locked (walk whole).records) (lock (filepass_body whole)) (booked starting))
          where
            no_bof : ◌≡◌ {A = ℕ} 0 0x0809 → ⊥
            no_bof e = omega arith

        -- the report
        pub reported : report whole ≡ report_for choice (length (walk plain).records) (length plain) (enciphered_bytes (walk plain).records - z.len)
        unfolding report
        reported =
            let c = filed.counted in
            let bytes : enciphered_bytes (walk whole).records ≡ enciphered_bytes (walk plain).records - z.len = ap enciphered_bytes walk_sealed.0 ∙ omega arith in
            rw (body_is, bytes, length_sealed, ap length walk_sealed.0 ∙ length_renamed (with_id z.at 0x002F) (walk plain).records)
            (back.report (length (walk plain).records) (length plain) (enciphered_bytes (walk plain).records - z.len))
