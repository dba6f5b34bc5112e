-- Both round trips, by the three places of an offset. In the zero record's id and body the one side has zeros and the other the FILEPASS; in headers, clear parts and
-- padding both have the same byte; anywhere else the byte goes through a function and its inverse.
-- Assumes nothing.
use Rattle.std.specs.Prelude.{Option, None, Some}
use mathlib.Core.Path.{◌≡◌, refl, sym, ap, ◌∙◌}
use mathlib.Core.Bool.{true, false}
use mathlib.Core.List.{List}
use Prim.Native.Nat.{ℕ, ◌+◌, ◌-◌, ◌≤◌, ◌<◌}
use native.Mathlib.Nat.{mod-eq_of_lt, div-eq_of_lt}
use native.Mathlib.Omega.{arith}
use borrow.Author.Tests.{lt-ltb, le-ltb}
use lib.ListN.{length, get_or, take, drop, length-take, length-drop, get_or-eq_default}
use lib.Seq.{ext_get_or, get_or-take, get_or-drop}
use Rattle.laws.specs.Choice.{pick}
use Rattle.laws.proofs.Choice.{taken, left, either}
use Rattle.binary_office.specs.declared.Step.TheVariants as step
use Rattle.binary_office.specs.declared.BiffRecord.{BiffRecord}
use Rattle.binary_office.specs.Walk.{step_at, walk, records_end, all_zero}
use Rattle.binary_office.proofs.Headers.{le16_is}
use Rattle.binary_office.proofs.Renamed.{renamed}
use Rattle.binary_office.proofs.Walks.{record_there, record_within}
use Rattle.file_params.specs.Questions.{starts_bof, filepass, other_id, filepass_body, body_of, le16}
use Rattle.excel97.specs.Open.{plain_byte, record_at, in_record, blanked, plain_at, plain}
use Rattle.excel97.proofs.Blanked.{by_place_lem, blank_before, blank_id, blank_length, blank_body, blank_behind}
use Rattle.excel97.proofs.PlainBytes.{length_plain, plain_at_lem, behind_byte}
use Rattle.excel97.proofs.Records.{Reached, reached_none, record_here}
use Rattle.excel97.proofs.Through.{own_byte}
use Rattle.excel97.proofs.OneRecord.{with_id, walk_with_id}
use Rattle.sealing.specs.declared.Choice.{Choice}
use Rattle.sealing.specs.Filepass.{two, filepass_for}
use Rattle.sealing.specs.Seal.{zero_record, zero_of, sealed_byte, sealed_at, sealed}
use Rattle.sealing.specs.Theorems.{Bytes}
use Rattle.sealing.proofs.ZeroRecords.{FirstFilepass, first_located, unfiled}
use Rattle.sealing.proofs.Places.{same_place, undone_back}
use Rattle.sealing.proofs.Bodies.{ReadBack}
use Rattle.sealing.proofs.Sealed.{starts_kept, length_sealed, sealed_at_lem, located, reached, new_byte, old_byte, walk_sealed, first_filepass, body_is}
use Rattle.sealing.proofs.Undone.{opened_sealed, sealed_opened, zero_at, all_zero_lem, low_byte}

-- the id and the body of a record, or neither
by_blank : {X : Type 0} (r : BiffRecord) (o : ℕ) → (r.at ≤ o → o < r.at + 2 → X) → (r.at + 4 ≤ o → o < r.at + 4 + r.len → X) → (blanked (Some r) o ≡ false → X) → X
by_blank r o f g h =
    by_place_lem r.at r.len o (λ p. h (blank_before r o p)) f (λ p q. h (blank_length r o p q)) g (λ p. h (blank_behind r o p))

-- a byte of a field of two that holds a number below 256
field_byte : (s : List ℕ) (at n o : ℕ) → Bytes s → n < 256 → le16 s at ≡ n → at ≤ o → o < at + 2 → get_or s o 0 ≡ get_or (two n) (o - at) 0
field_byte s at n o b h e p q =
    let v = low_byte (get_or s at 0) (get_or s (at + 1) 0) n (b at) h e in
    either (at + 1) o
    (λ m. let k : o ≡ at + 1 = omega arith in let j : at + 1 - at ≡ 1 = omega arith in rw (k, j) (v.1 ∙ sym (high n h)))
    (λ m. let k : o ≡ at = omega arith in let j : at - at ≡ 0 = omega arith in rw (k, j) (v.0 ∙ sym (low n h)))
  where
    low : (n : ℕ) → n < 256 → get_or (two n) 0 0 ≡ n
    low n h = mod-eq_of_lt h

    high : (n : ℕ) → n < 256 → get_or (two n) 1 0 ≡ 0
    high n h = rw (div-eq_of_lt h)

-- what was sealed is opened
module _ (plain_stream password : List ℕ) (choice : Choice) (salt verifier : List ℕ) (z : BiffRecord) (found : zero_of plain_stream ≡ Some z)
    (clean : (walk plain_stream).fault ≡ None) (back : ReadBack choice password salt z.len (filepass_for choice password salt verifier z.len)) (bytes : Bytes plain_stream) where
  abbrev whole : List ℕ
  whole = sealed plain_stream password choice salt verifier

  -- the zero record's bytes are zero
  zero_id : (o : ℕ) → z.at ≤ o → o < z.at + 2 → get_or plain_stream o 0 ≡ 0
  zero_id o p q =
      let at = located plain_stream password choice salt verifier z found in
      let e : le16 plain_stream z.at ≡ 0 = sym (le16_is plain_stream z.at z.id (record_there plain_stream z.at z.id z.len at.stands).id_there) ∙ at.id_zero in
      field_byte plain_stream z.at 0 o bytes (omega arith) e p q ∙ zeros (o - z.at)
    where
      zeros : (i : ℕ) → get_or (two 0) i 0 ≡ 0
      zeros i = zero_at (two 0) refl i

  zero_body : (o : ℕ) → z.at + 4 ≤ o → o < z.at + 4 + z.len → get_or plain_stream o 0 ≡ 0
  zero_body o p q =
      let at = located plain_stream password choice salt verifier z found in
      let i : z.at + 4 + (o - (z.at + 4)) ≡ o = omega arith in
      let n : o - (z.at + 4) < z.len = omega arith in
      ap (λ (k : ℕ). get_or plain_stream k 0) (sym i)
      ∙ sym (get_or-take z.len (drop (z.at + 4) plain_stream) (o - (z.at + 4)) 0 n ∙ get_or-drop (z.at + 4) plain_stream (o - (z.at + 4)) 0)
      ∙ zero_at (take z.len (drop (z.at + 4) plain_stream)) at.blank (o - (z.at + 4))

  abbrev opening : (o y : ℕ) → ℕ
  opening o y = in_record (plain_byte (filepass_body whole) password) (record_at (walk whole).records o) o y

  opened_at : (o y : ℕ) → plain_at whole password o y ≡ pick (blanked (Some z) o) 0 (opening o y)
  unfolding plain_at
  opened_at o y = ap (λ (f : Option BiffRecord). pick (blanked f o) 0 (opening o y)) (first_filepass plain_stream password choice salt verifier z found clean)

  back_at : (o : ℕ) → o < length plain_stream → plain_at whole password o (get_or whole o 0) ≡ get_or plain_stream o 0
  back_at o h =
      by_blank z o
      (λ p q. opened_at o (get_or whole o 0) ∙ taken 0 (opening o (get_or whole o 0)) (blank_id z o p q) ∙ sym (zero_id o p q))
      (λ p q. opened_at o (get_or whole o 0) ∙ taken 0 (opening o (get_or whole o 0)) (blank_body z o p q) ∙ sym (zero_body o p q))
      (λ b.
      let x = get_or plain_stream o 0 in
      let was = sealed_at_lem plain_stream password choice salt verifier o h ∙ old_byte plain_stream password choice salt verifier z found o x b in
      opened_at o (get_or whole o 0)
      ∙ left 0 (opening o (get_or whole o 0)) b
      ∙ ap (opening o) was
      ∙ undone_back (plain_byte (filepass_body whole) password) (sealed_byte choice password salt) o x (undone o) (record_at (walk whole).records o)
      (record_at (walk plain_stream).records o)
      (same_place plain_stream whole z 0x002F (reached plain_stream password choice salt verifier z found) (located plain_stream password choice salt verifier z found).stands
      (walk_sealed plain_stream password choice salt verifier z found clean).0 o b))
    where
      undone : (o : ℕ) (r : BiffRecord) → plain_byte (filepass_body whole) password r o (sealed_byte choice password salt r o (get_or plain_stream o 0)) ≡ get_or plain_stream o 0
      undone o r =
          let y = sealed_byte choice password salt r o (get_or plain_stream o 0) in
          ap (λ (b : List ℕ). plain_byte b password r o y) (body_is plain_stream password choice salt verifier z found clean back)
          ∙ back.byte r o y
          ∙ opened_sealed choice password salt r o (get_or plain_stream o 0) (bytes o)

  pub opened_again : plain whole password ≡ plain_stream
  opened_again =
      let l = length_sealed plain_stream password choice salt verifier in
      ext_get_or 0 (plain whole password) plain_stream (length_plain whole password ∙ l)
      (λ o h.
      let k : o < length whole = rw (length_plain whole password) at h in
      plain_at_lem whole password o k ∙ back_at o (rw l at k))

-- what was opened is sealed
module _ (stream password : List ℕ) (choice : Choice) (salt verifier : List ℕ) (f : BiffRecord) (first : filepass (walk stream).records ≡ Some f)
    (others : other_id (walk stream).records ≡ None) (clean : (walk stream).fault ≡ None) (bytes : Bytes stream)
    (as_written : filepass_body stream ≡ filepass_for choice password salt verifier f.len)
    (back : ReadBack choice password salt f.len (filepass_for choice password salt verifier f.len)) where
  abbrev opened : List ℕ
  opened = plain stream password

  here : FirstFilepass stream 0 f
  here = first_located stream 0 (omega arith) f first

  there : Reached stream f.at
  there = here.reached (reached_none stream)

  within : f.at + 4 + f.len ≤ length stream
  within = record_within stream f.at f.id f.len here.stands

  by_first : (o x : ℕ) → plain_at stream password o x ≡ pick (blanked (Some f) o) 0 (in_record (plain_byte (filepass_body stream) password) (record_at (walk stream).records o) o x)
  unfolding plain_at
  by_first o x = rw first

  zeroed_byte : (o : ℕ) → o < length stream → blanked (Some f) o ≡ true → get_or opened o 0 ≡ 0
  zeroed_byte o h b =
      plain_at_lem stream password o h ∙ by_first o (get_or stream o 0)
      ∙ taken 0 (in_record (plain_byte (filepass_body stream) password) (record_at (walk stream).records o) o (get_or stream o 0)) b

  kept_byte : (o : ℕ) → o < length stream → blanked (Some f) o ≡ false
      → get_or opened o 0 ≡ in_record (plain_byte (filepass_body stream) password) (record_at (walk stream).records o) o (get_or stream o 0)
  kept_byte o h b =
      plain_at_lem stream password o h ∙ by_first o (get_or stream o 0)
      ∙ left 0 (in_record (plain_byte (filepass_body stream) password) (record_at (walk stream).records o) o (get_or stream o 0)) b

  header_byte : (at id len : ℕ) → Reached stream at → step_at stream at ≡ step.Record id len → (o : ℕ) → at ≤ o → o < at + 4 → blanked (Some f) o ≡ false
      → get_or opened o 0 ≡ get_or stream o 0
  header_byte at id len w e o h k b =
      let m = record_within stream at id len e in
      kept_byte o (omega arith) b
      ∙ ap (λ (r : Option BiffRecord). in_record (plain_byte (filepass_body stream) password) r o (get_or stream o 0)) (record_here stream at id len w e o h (omega arith))
      ∙ own_byte (plain_byte (filepass_body stream) password) (record { at = at; id = id; len = len }) o (get_or stream o 0) (omega arith)

  behind : (o : ℕ) → records_end stream ≤ o → get_or opened o 0 ≡ get_or stream o 0
  behind o h =
      let l = length_plain stream password in
      either (length stream) o
      (λ k. get_or-eq_default opened 0 (omega arith) ∙ sym (get_or-eq_default stream 0 k))
      (λ k. plain_at_lem stream password o k ∙ behind_byte stream password o (get_or stream o 0) h)

  zero_there : le16 opened f.at ≡ 0
  zero_there =
      let m = within in
      rw (zeroed_byte f.at (omega arith) (blank_id f f.at (omega arith) (omega arith)), zeroed_byte (f.at + 1) (omega arith) (blank_id f (f.at + 1) (omega arith) (omega arith)))

  pub walk_opened : ((walk opened).records ≡ renamed (with_id f.at 0) (walk stream).records) × ((walk opened).fault ≡ (walk stream).fault)
  walk_opened = walk_with_id stream f there here.stands opened (length_plain stream password) 0 clean zero_there header_byte behind

  abbrev the_zero : BiffRecord
  the_zero = record { at = f.at; id = 0; len = f.len }

  blank_there : all_zero (body_of opened (Some the_zero)) ≡ true
  blank_there =
      let m = within in
      let l = length_plain stream password in
      let sized : length (take f.len (drop (f.at + 4) opened)) ≡ f.len = simp (length-take, length-drop) (omega arith) in
      all_zero_lem (take f.len (drop (f.at + 4) opened))
      (λ i h.
      let k : i < f.len = rw sized at h in
      get_or-take f.len (drop (f.at + 4) opened) i 0 k ∙ get_or-drop (f.at + 4) opened i 0
      ∙ zeroed_byte (f.at + 4 + i) (omega arith) (blank_body f (f.at + 4 + i) (omega arith) (omega arith)))

  pub zero_found : zero_of opened ≡ Some the_zero
  zero_found = ap (zero_record opened) walk_opened.0 ∙ unfiled stream opened f blank_there 0 (omega arith) first others

  pub starts_opened : starts_bof (walk stream).records ≡ true → starts_bof (walk opened).records ≡ true
  starts_opened h = ap starts_bof walk_opened.0 ∙ starts_kept stream f here.stands (λ q. no_bof (sym here.is_filepass ∙ q)) 0 h
    where
      no_bof : ◌≡◌ {A = ℕ} 0x002F 0x0809 → ⊥
      no_bof e = omega arith

  body_there : (o : ℕ) → f.at + 4 ≤ o → o < f.at + 4 + f.len → get_or (filepass_for choice password salt verifier f.len) (o - (f.at + 4)) 0 ≡ get_or stream o 0
  unfolding filepass_body
  body_there o p q =
      let i : f.at + 4 + (o - (f.at + 4)) ≡ o = omega arith in
      let n : o - (f.at + 4) < f.len = omega arith in
      ap (λ (l : List ℕ). get_or l (o - (f.at + 4)) 0) (sym as_written ∙ ap (body_of stream) first)
      ∙ get_or-take f.len (drop (f.at + 4) stream) (o - (f.at + 4)) 0 n
      ∙ get_or-drop (f.at + 4) stream (o - (f.at + 4)) 0
      ∙ ap (λ (k : ℕ). get_or stream k 0) i

  id_there : (o : ℕ) → f.at ≤ o → o < f.at + 2 → get_or (two 0x002F) (o - f.at) 0 ≡ get_or stream o 0
  id_there o p q =
      let e : le16 stream f.at ≡ 0x002F = sym (le16_is stream f.at f.id (record_there stream f.at f.id f.len here.stands).id_there) ∙ here.is_filepass in
      sym (field_byte stream f.at 0x002F o bytes (omega arith) e p q)

  sealed_byte_lem : (o : ℕ) → o < length stream → sealed_at opened password choice salt verifier o (get_or opened o 0) ≡ get_or stream o 0
  sealed_byte_lem o h =
      by_blank the_zero o
      (λ p q. new_byte opened password choice salt verifier the_zero zero_found o (get_or opened o 0) (blank_id the_zero o p q)
      ∙ taken (get_or (two 0x002F) (o - f.at) 0) (get_or (filepass_for choice password salt verifier f.len) (o - (f.at + 4)) 0) (lt-ltb o (f.at + 2) q)
      ∙ id_there o p q)
      (λ p q. new_byte opened password choice salt verifier the_zero zero_found o (get_or opened o 0) (blank_body the_zero o p q)
      ∙ left (get_or (two 0x002F) (o - f.at) 0) (get_or (filepass_for choice password salt verifier f.len) (o - (f.at + 4)) 0) (le-ltb o (f.at + 2) (omega arith))
      ∙ body_there o p q)
      (λ b.
      old_byte opened password choice salt verifier the_zero zero_found o (get_or opened o 0) b
      ∙ ap (λ (y : ℕ). in_record (sealed_byte choice password salt) (record_at (walk opened).records o) o y) (kept_byte o h b)
      ∙ undone_back (sealed_byte choice password salt) (plain_byte (filepass_body stream) password) o (get_or stream o 0) (undone o) (record_at (walk opened).records o)
      (record_at (walk stream).records o) (same_place stream opened f 0 there here.stands walk_opened.0 o b))
    where
      undone : (o : ℕ) (r : BiffRecord) → sealed_byte choice password salt r o (plain_byte (filepass_body stream) password r o (get_or stream o 0)) ≡ get_or stream o 0
      undone o r =
          ap (sealed_byte choice password salt r o) (ap (λ (b : List ℕ). plain_byte b password r o (get_or stream o 0)) as_written ∙ back.byte r o (get_or stream o 0))
          ∙ sealed_opened choice password salt r o (get_or stream o 0) (bytes o)

  pub sealed_again : sealed opened password choice salt verifier ≡ stream
  sealed_again =
      let l = length_plain stream password in
      ext_get_or 0 (sealed opened password choice salt verifier) stream (length_sealed opened password choice salt verifier ∙ l)
      (λ o h.
      let k : o < length opened = rw (length_sealed opened password choice salt verifier) at h in
      sealed_at_lem opened password choice salt verifier o k ∙ sealed_byte_lem o (rw l at k))
