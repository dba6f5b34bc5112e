-- How a walk ends is decided where its records end. A stream that has another's bytes up to there has the same records, and goes on from there as its own bytes
-- say: at padding it ends, at four zeros it has one record more, and without its padding it is filled.
-- Assumes nothing.
use Rattle.std.specs.Prelude.{Some, None, Option}
use mathlib.Core.Path.{◌≡◌, refl, sym, ap, ◌∙◌}
use mathlib.Core.Bool.{Bool, true, false}
use mathlib.Core.List.{List, [], ◌∷◌, ◌++◌, append-nil}
use Prim.Native.Nat.{ℕ, ◌+◌, ◌-◌, ◌≤◌, ◌<◌}
use native.Mathlib.Omega.{arith}
use lib.ListN.{length, get_or, take, drop, take-append-drop, length-drop, length-replicate, length-append, get_or-replicate, get_or-append, get_or-eq_default}
use lib.Seq.{get_or-append-add, get_or-take, get_or-drop, length-take-le, drop_at, drop-length, ext_get_or}
use Rattle.laws.specs.Choice.{pick}
use Rattle.laws.proofs.Choice.{taken, left, either}
use Rattle.binary_office.specs.declared.Step.TheVariants as step
use Rattle.binary_office.specs.Fields.{le16_at}
use Rattle.binary_office.specs.declared.BiffRecord.{BiffRecord}
use Rattle.binary_office.specs.Walk.{Walk, behind, zero_bytes, ended, step_at, walk_at, walk, end_from, records_end, remainder}
use Rattle.binary_office.specs.Remainder.{Ends, PaddedBy, Parts, Remainders}
use Rattle.binary_office.proofs.Ends.{AtEnd, ended_means, means_ended, not_ended, nothing_ends, padding_ends, zeros_padding}
use Rattle.binary_office.proofs.Headers.{le16_is, le16_value, step_end, step_record}
use Rattle.binary_office.proofs.Walks.{record_there, record_within, fault_place, walk_end, walk_fault, walk_record}
use Rattle.binary_office.proofs.Along.{records_on, ends_on, records_end_lem, records_fault, end_there, end_on, end_from_lem, end_within, along}

module _ (s : List ℕ) where
  -- the end, by the test where the records end
  abbrev by : ℕ → Option ℕ
  by at = pick (ended s at) None (Some at)

  at_fault : (at p : ℕ) → step_at s at ≡ step.Fault p → AtEnd s at → ⊥
  at_fault at p e a = let g = step_end s at a in let z : ◌≡◌ {A = ℕ} 0 1 = cc in no z
    where
      no : ◌≡◌ {A = ℕ} 0 1 → ⊥
      no z = omega arith

  -- where the walk is at its end or at a fault
  stopped : (at : ℕ) (w : (Option ℕ)) → w ≡ by at → (walk_at s at).fault ≡ w → (walk_at s at).records ≡ [] → (walk_at s at).fault ≡ by (end_from at (walk_at s at).records)
  stopped at w q e r = e ∙ q ∙ sym (ap (λ (rs : List BiffRecord). by (end_from at rs)) r)

  decided : (walk s).fault ≡ by (records_end s)
  decided =
      along s (λ (at : ℕ). (walk_at s at).fault ≡ by (end_from at (walk_at s at).records))
      (λ at e.
      stopped at None (sym (taken None (Some at) (means_ended s at (end_there s at e))))
      (ap (λ (w : Walk). w.fault) (walk_end s at e)) (records_end_lem s at e))
      (λ at p e.
      stopped at (Some p) (ap Some (fault_place s at p e) ∙ sym (left None (Some at) (not_ended s at (at_fault at p e))))
      (ap (λ (w : Walk). w.fault) (walk_fault s at p e)) (records_fault s at p e))
      (λ at id len e again. ends_on s at id len e ∙ again ∙ sym (ap by (end_on s at id len e)))
      0
      (omega arith)

  ends_clean : AtEnd s (records_end s) → (walk s).fault ≡ None
  ends_clean a = decided ∙ taken None (Some (records_end s)) (means_ended s (records_end s) a)

  ends_faulty : (AtEnd s (records_end s) → ⊥) → (walk s).fault ≡ Some (records_end s)
  ends_faulty f = decided ∙ left None (Some (records_end s)) (not_ended s (records_end s) f)

  ends : Ends s
  ends =
      record {
        whole = λ e. ends_clean (nothing_ends s (records_end s) e);
        padded = λ n some few e. ends_clean (padding_ends s (records_end s) (rw e (zeros_padding n some few)));
        other = λ o h f. ends_faulty (λ a. f (a.zeros o h));
        longer = λ h. ends_faulty (λ a. let few = a.few in omega arith);
      }

-- zeros behind a stream: its bytes are the same at every offset, as past the end there is 0
module _ (s : List ℕ) (n : ℕ) where
  abbrev longer : List ℕ
  longer = s ++ zero_bytes n

  pub padded_length : length longer ≡ length s + n
  padded_length = length-append s (zero_bytes n) ∙ ap (λ (k : ℕ). length s + k) (length-replicate {A = ℕ} n 0)

  zero_there : (i : ℕ) → get_or (zero_bytes n) i 0 ≡ 0
  zero_there i =
      let size = length-replicate {A = ℕ} n 0 in
      either n i (λ h. get_or-eq_default (zero_bytes n) 0 (omega arith)) (get_or-replicate {A = ℕ} n i 0 0)

  pub padded_byte : (o : ℕ) → get_or longer o 0 ≡ get_or s o 0
  padded_byte o =
      either (length s) o
      (λ h.
      let place : length s + (o - length s) ≡ o = omega arith in
      ap (λ (i : ℕ). get_or longer i 0) (sym place)
      ∙ get_or-append-add s (zero_bytes n) (o - length s) 0
      ∙ zero_there (o - length s)
      ∙ sym (get_or-eq_default s 0 h))
      (get_or-append s (zero_bytes n) 0 o)

-- a stream that has another's bytes up to where its records end: the walk goes over the same records, and then as it goes on from there
module _ (s t : List ℕ) (room : records_end s ≤ length t) (agree : (o : ℕ) → o < records_end s → get_or t o 0 ≡ get_or s o 0) where
  abbrev joined : List BiffRecord → Walk
  joined rs = record { records = rs ++ (walk_at t (records_end s)).records; fault = (walk_at t (records_end s)).fault }

  field : (o v : ℕ) → o + 2 ≤ records_end s → Some v ≡ le16_at s o → Some v ≡ le16_at t o
  field o v h e = le16_value t o v (omega arith) (rw (agree o (omega arith), agree (o + 1) (omega arith)) (le16_is s o v e))

  same_step : (at id len : ℕ) → at + 4 + len ≤ records_end s → step_at s at ≡ step.Record id len → step_at t at ≡ step.Record id len
  same_step at id len h e =
      let there = record_there s at id len e in
      sym (step_record t at id len (field at id (omega arith) there.id_there) (field (at + 2) len (omega arith) there.len_there) (omega arith))

  -- both walks from an offset on, where the first one's records end as the whole walk's do
  abbrev Same : ℕ → Type 0
  Same at = end_from at (walk_at s at).records ≡ records_end s → walk_at t at ≡ joined (walk_at s at).records

  stops : (at : ℕ) → (walk_at s at).records ≡ [] → Same at
  stops at none_left h =
      let here : at ≡ records_end s = sym (ap (end_from at) none_left) ∙ h in
      ap (walk_at t) here ∙ sym (ap joined none_left)

  same_walk : walk t ≡ joined (walk s).records
  same_walk =
      along s Same
      (λ at e. stops at (records_end_lem s at e))
      (λ at p e. stops at (records_fault s at p e))
      (λ at id len e again h.
      let rest = sym (end_on s at id len e) ∙ h in
      let inside = end_from_lem s (at + 4 + len) (record_within s at id len e) in
      walk_record t at id len (same_step at id len (omega arith) e)
      ∙ ap (behind (record { at = at; id = id; len = len })) (again rest)
      ∙ ap joined (sym (records_on s at id len e)))
      0
      (omega arith)
      refl

  -- where that is the end too
  module _ (stop : AtEnd t (records_end s)) where
    rest_ends : walk_at t (records_end s) ≡ record { records = []; fault = None }
    rest_ends = walk_end t (records_end s) (sym (step_end t (records_end s) stop))

    same_records : (walk t).records ≡ (walk s).records
    same_records =
        ap (λ (w : Walk). w.records) same_walk
        ∙ ap (λ (w : Walk). (walk s).records ++ w.records) rest_ends
        ∙ append-nil (walk s).records

    same_end : (walk t).fault ≡ None
    same_end = ap (λ (w : Walk). w.fault) same_walk ∙ ap (λ (w : Walk). w.fault) rest_ends

-- zeros behind a stream that its records fill
module _ (s : List ℕ) (n : ℕ) (filled : remainder s ≡ []) where
  at_length : records_end s ≡ length s
  at_length =
      let left_over = length-drop (records_end s) s in
      let none_left = ap (λ (bs : List ℕ). length bs) filled in
      let inside = end_within s in
      omega arith

  room : records_end s ≤ length (longer s n)
  room = let here = at_length in let size = padded_length s n in omega arith

  -- at most three of them
  module _ (most : n ≤ 3) where
    at_padding : AtEnd (longer s n) (records_end s)
    at_padding =
        let here = at_length in
        let size = padded_length s n in
        record { few = omega arith; zeros = λ o h. padded_byte s n o ∙ get_or-eq_default s 0 (omega arith) }

    padded_by : PaddedBy s (zero_bytes n)
    padded_by =
        let records = same_records s (longer s n) room (λ o h. padded_byte s n o) at_padding in
        record {
          records = records;
          ends = same_end s (longer s n) room (λ o h. padded_byte s n o) at_padding ∙ sym ((ends s).whole filled);
          left = ap (λ (k : ℕ). drop k (longer s n)) (ap (end_from 0) records ∙ at_length) ∙ drop_at s (zero_bytes n) (length s) refl;
        }

-- four of them: a header, and then nothing is left
four_zeros : (s : List ℕ) → remainder s ≡ [] → (walk (s ++ zero_bytes 4)).records ≡ (walk s).records ++ (record { at = length s; id = 0; len = 0 } ∷ [])
four_zeros s filled =
    ap (λ (w : Walk). w.records) (same_walk s t (room s 4 filled) (λ o h. padded_byte s 4 o))
    ∙ ap (λ (rs : List BiffRecord). (walk s).records ++ rs)
    (ap (λ (k : ℕ). (walk_at t k).records) here ∙ records_on t (length s) 0 0 one ∙ ap (λ (rs : List BiffRecord). last ∷ rs) none_left)
  where
    t : List ℕ
    t = s ++ zero_bytes 4

    last : BiffRecord
    last = record { at = length s; id = 0; len = 0 }

    here : records_end s ≡ length s
    here = at_length s 4 filled

    zero_field : (o : ℕ) → length s ≤ o → o + 2 ≤ length s + 4 → Some 0 ≡ le16_at t o
    zero_field o h k =
        let size = padded_length s 4 in
        le16_value t o 0 (omega arith)
        (rw (padded_byte s 4 o, padded_byte s 4 (o + 1), get_or-eq_default s 0 h, get_or-eq_default s 0 {n = o + 1} (omega arith)) refl)

    one : step_at t (length s) ≡ step.Record 0 0
    one =
        let size = padded_length s 4 in
        sym (step_record t (length s) 0 0 (zero_field (length s) (omega arith) (omega arith)) (zero_field (length s + 2) (omega arith) (omega arith)) (omega arith))

    none_left : (walk_at t (length s + 4 + 0)).records ≡ []
    none_left =
        let size = padded_length s 4 in
        records_end_lem t (length s + 4 + 0)
        (sym (step_end t (length s + 4 + 0) (record { few = omega arith; zeros = λ o h. get_or-eq_default t 0 (omega arith) })))

-- a stream that is walked to its end
module _ (s : List ℕ) (clean : (walk s).fault ≡ None) where
  at_end : AtEnd s (records_end s)
  at_end = by_test (ended s (records_end s)) refl
    where
      by_test : (t : Bool) → ended s (records_end s) ≡ t → AtEnd s (records_end s)
      by_test true e = ended_means s (records_end s) e
      by_test false e = let z : None ≡ Some (records_end s) = sym clean ∙ decided s ∙ left None (Some (records_end s)) e in absurd (no (cc))
        where
          no : ◌≡◌ {A = ℕ} 0 1 → ⊥
          no z = omega arith

  abbrev front : List ℕ
  front = take (records_end s) s

  front_length : length front ≡ records_end s
  front_length = length-take-le (records_end s) s (end_within s)

  front_records : (walk front).records ≡ (walk s).records
  front_records =
      let size = front_length in
      same_records s front (omega arith) (λ o h. get_or-take (records_end s) s o 0 h)
      (record { few = omega arith; zeros = λ o h. get_or-eq_default front 0 (omega arith) })

  left_zero : remainder s ≡ zero_bytes (length (remainder s))
  left_zero =
      let size = length-replicate {A = ℕ} (length (remainder s)) 0 in
      ext_get_or 0 (remainder s) (zero_bytes (length (remainder s))) (sym size)
      (λ i h. get_or-drop (records_end s) s i 0 ∙ at_end.zeros (records_end s + i) (omega arith) ∙ sym (zero_there s (length (remainder s)) i))

  parts : Parts s
  parts =
      let few = at_end.few in
      let left_over = length-drop (records_end s) s in
      record {
        book = front;
        zeros = length (remainder s);
        whole = sym (take-append-drop (records_end s) s) ∙ ap (λ (bs : List ℕ). front ++ bs) left_zero;
        filled = ap (λ (k : ℕ). drop k front) (ap (end_from 0) front_records ∙ sym front_length) ∙ drop-length front;
        most = omega arith;
      }

pub remainders : Remainders
remainders = record { ends = ends; padding = padded_by; four = four_zeros; parts = parts }
