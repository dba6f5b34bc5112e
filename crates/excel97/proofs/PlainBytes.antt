-- What a run leaves that opened a stream: the plain stream at the start of the output, which has the stream's bounds, its own bytes in headers, clear parts and
-- padding, the zeroed FILEPASS, and under RC4 the stream's bytes with the keystream everywhere else.
-- Assumes nothing.
use Rattle.std.specs.Prelude.{Option, Some, None}
use mathlib.Core.Path.{◌≡◌, refl, ap, ◌∙◌}
use mathlib.Core.Bool.{Bool, true, false, ◌&&◌}
use mathlib.Core.List.{List, [], ◌∷◌, ◌++◌}
use Prim.Native.Nat.{ℕ, ◌+◌, ◌≤◌, ◌<◌}
use native.Mathlib.Nat.{zero-add}
use native.Mathlib.Omega.{arith}
use borrow.Author.Tests.{ltb-true}
use lib.Dec.{eqb, leb, ltb}
use lib.ListN.{length, get_or, take, drop, get_or-append}
use lib.Seq.{take_at}
use Rattle.laws.specs.Choice.{pick}
use Rattle.laws.proofs.Choice.{taken, left, either}
use Rattle.laws.proofs.Offsets.{length_map_at, get_d_map_at}
use Rattle.sensitive.specs.Ansi.{ansi}
use Rattle.binary_office.specs.declared.Step.TheVariants as step
use Rattle.binary_office.specs.declared.BiffRecord.{BiffRecord}
use Rattle.binary_office.specs.Walk.{step_at, walk_at, walk, records_end, clear_len}
use Rattle.binary_office.proofs.Along.{records_on, records_end_lem, records_fault, end_there, along}
use Rattle.binary_office.proofs.Walks.{record_within}
use Rattle.file_params.specs.Questions.{filepass, filepass_body, structure_of, type_of}
use Rattle.survey.specs.Survey.{enciphered_bytes, block_keys}
use Rattle.xor_obfuscation.specs.declared.Way.TheVariants.{Decrypt}
use Rattle.excel97.specs.declared.Lock.TheVariants.{Xor}
use Rattle.excel97.specs.declared.Report.{Report}
use Rattle.excel97.specs.Open.{array_of, xor_byte, rc4_byte, plain_byte, record_at, in_record, blanked, plain_at, plain, xor_report, rc4_report, report}
use Rattle.excel97.specs.Demand3.{Place, within_record, in_padding, Plain}
use Rattle.excel97.proofs.Records.{Reached, reached_none, reached_on, reached_fault, reached_end, record_here}
use Rattle.excel97.proofs.SameBounds.{behind_records, same_bounds}
use Rattle.excel97.proofs.Through.{own_byte, other_byte}

-- an offset that a record covers lies in the stream
module _ (s : List ℕ) where
  nowhere : (rs : List BiffRecord) → rs ≡ [] → (r : BiffRecord) (o : ℕ) → record_at rs o ≡ Some r → o < length s
  unfolding record_at
  nowhere rs e r o g = let h = ap (λ (ts : List BiffRecord). record_at ts o) e in let z : ◌≡◌ {A = ℕ} 0 1 = cc in omega arith

  in_first : (t r : BiffRecord) (rs : List BiffRecord) (o : ℕ) → t.at + 4 + t.len ≤ length s → (record_at rs o ≡ Some r → o < length s)
      → record_at (t ∷ rs) o ≡ Some r → o < length s
  unfolding record_at pick
  in_first t r rs o h f g = go (leb t.at o) (ltb o (t.at + 4 + t.len)) refl g
    where
      go : (a b : Bool) → ltb o (t.at + 4 + t.len) ≡ b → pick (a && b) (Some t) (record_at rs o) ≡ Some r → o < length s
      go true true e g = let k = ltb-true o (t.at + 4 + t.len) e in omega arith
      go true false e g = f g
      go false b e g = f g

  pub in_stream : (r : BiffRecord) (o : ℕ) → record_at (walk s).records o ≡ Some r → o < length s
  in_stream =
      along s (λ (at : ℕ). (r : BiffRecord) (o : ℕ) → record_at (walk_at s at).records o ≡ Some r → o < length s)
      (λ at e. nowhere (walk_at s at).records (records_end_lem s at e))
      (λ at p e. nowhere (walk_at s at).records (records_fault s at p e))
      (λ at id len e again r o g.
      in_first (record { at = at; id = id; len = len }) r (walk_at s (at + 4 + len)).records o (record_within s at id len e) (again r o)
      (rw (records_on s at id len e) at g))
      0
      (omega arith)

  -- and every offset of a stream that is walked to its end lies in a record or in the padding
  pub covered : (walk s).fault ≡ None → (o : ℕ) → o < length s → Place s o
  covered clean o h =
      along s (λ (at : ℕ). Reached s at → at ≤ o → Place s o)
      (λ at e w k. at_end at e k (reached_end s at w (records_end_lem s at e)))
      (λ at p e w k. absurd (reached_fault s at w p e clean))
      (λ at id len e again w k.
      either (at + 4 + len) o (λ m. again (reached_on s at id len w e) m)
      (λ m. within_record (record { at = at; id = id; len = len }) (record_here s at id len w e o k m)))
      0
      (omega arith)
      (reached_none s)
      (omega arith)
    where
      at_end : (at : ℕ) → step_at s at ≡ step.End → at ≤ o → at ≡ records_end s → Place s o
      at_end at e k q =
          let end = end_there s at e in
          let few = end.few in
          in_padding (omega arith) (omega arith) (end.zeros o k)

module _ (s p : List ℕ) where
  pub length_plain : length (plain s p) ≡ length s
  unfolding plain
  length_plain = length_map_at (plain_at s p) 0 s

  pub plain_at_lem : (o : ℕ) → o < length s → get_or (plain s p) o 0 ≡ plain_at s p o (get_or s o 0)
  unfolding plain
  plain_at_lem o h = get_d_map_at (plain_at s p) 0 s o 0 h ∙ ap (λ (i : ℕ). plain_at s p i (get_or s o 0)) (zero-add o)

  zeroed_byte : (o : ℕ) → o < length s → blanked (filepass (walk s).records) o ≡ true → get_or (plain s p) o 0 ≡ 0
  unfolding plain_at
  zeroed_byte o h e =
      plain_at_lem o h ∙ taken 0 (in_record (plain_byte (filepass_body s) p) (record_at (walk s).records o) o (get_or s o 0)) e

  -- a byte behind the records
  pub behind_byte : (o x : ℕ) → records_end s ≤ o → plain_at s p o x ≡ x
  unfolding plain_at
  behind_byte o x h =
      let b = behind_records s o h in
      left 0 (in_record (plain_byte (filepass_body s) p) (record_at (walk s).records o) o x) b.1
      ∙ ap (λ (q : Option BiffRecord). in_record (plain_byte (filepass_body s) p) q o x) b.0

  padding_byte : (o : ℕ) → records_end s ≤ o → o < length s → get_or (plain s p) o 0 ≡ get_or s o 0
  padding_byte o h k = plain_at_lem o k ∙ behind_byte o (get_or s o 0) h

  -- a byte of a record that is not zeroed
  module _ (r : BiffRecord) (o : ℕ) (e : record_at (walk s).records o ≡ Some r) (g : blanked (filepass (walk s).records) o ≡ false) where
    record_byte : get_or (plain s p) o 0 ≡ in_record (plain_byte (filepass_body s) p) (Some r) o (get_or s o 0)
    unfolding plain_at
    record_byte =
        plain_at_lem o (in_stream s r o e)
        ∙ left 0 (in_record (plain_byte (filepass_body s) p) (record_at (walk s).records o) o (get_or s o 0)) g
        ∙ ap (λ (q : Option BiffRecord). in_record (plain_byte (filepass_body s) p) q o (get_or s o 0)) e

    kept_byte : o < r.at + 4 + clear_len r.id r.len → get_or (plain s p) o 0 ≡ get_or s o 0
    kept_byte h = record_byte ∙ own_byte (plain_byte (filepass_body s) p) r o (get_or s o 0) h

    rc4_byte_lem : eqb (type_of (filepass_body s)) 0 ≡ false → r.at + 4 + clear_len r.id r.len ≤ o
        → get_or (plain s p) o 0 ≡ rc4_byte (structure_of (filepass_body s)) p o (get_or s o 0)
    unfolding plain_byte
    rc4_byte_lem h k =
        record_byte
        ∙ other_byte (plain_byte (filepass_body s) p) r o (get_or s o 0) k
        ∙ left (xor_byte Decrypt (array_of (ansi p)) r o (get_or s o 0)) (rc4_byte (structure_of (filepass_body s)) p o (get_or s o 0)) h

  -- a lock other than XOR has a type other than 0
  not_xor : ((report s).lock ≡ Xor → ⊥) → eqb (type_of (filepass_body s)) 0 ≡ false
  unfolding report pick
  not_xor f = go (eqb (type_of (filepass_body s)) 0) f
    where
      go : (t : Bool)
          → ((pick t xor_report (rc4_report (structure_of (filepass_body s))) (length (walk s).records) (length s) (enciphered_bytes (walk s).records) (block_keys (filepass_body s) (length s))).lock ≡ Xor → ⊥)
          → t ≡ false
      go true f = absurd (f refl)
      go false f = refl

  module _ (output output' : List ℕ) (x : Report) (clean : (walk s).fault ≡ None) (told : x ≡ report s) (written : output' ≡ plain s p ++ drop (length s) output) where
    at_start : take (length s) output' ≡ plain s p
    at_start = rw written (take_at (plain s p) (drop (length s) output) (length s) length_plain)

    byte_is : (o : ℕ) → o < length s → get_or output' o 0 ≡ get_or (plain s p) o 0
    byte_is o h = rw written (get_or-append (plain s p) (drop (length s) output) 0 o (rw length_plain h))

    pub plain_left : Plain s p output' x
    plain_left =
        let b = same_bounds s (plain s p) length_plain clean (λ r o e h g. kept_byte r o e g h) zeroed_byte padding_byte in
        record {
          bounds = rw at_start b.0;
          ends = rw at_start b.1;
          covered = covered s clean;
          padded = λ o h k. byte_is o k ∙ padding_byte o h k;
          own = λ r o e h g. byte_is o (in_stream s r o e) ∙ kept_byte r o e g h;
          zeroed = λ o h e. byte_is o h ∙ zeroed_byte o h e;
          deciphered = λ f r o e h g. byte_is o (in_stream s r o e) ∙ rc4_byte_lem r o e g (not_xor (λ q. f (ap (λ (y : Report). y.lock) told ∙ q))) h;
        }
