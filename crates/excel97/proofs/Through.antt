-- The loops that write the output record by record: what is written up to a record, and the record itself, is what is written up to the next one.
-- Assumes nothing.
use Rattle.std.specs.Prelude.{Option, Some}
use mathlib.Core.Path.{◌≡◌, refl, sym, ap, ◌∙◌}
use mathlib.Core.List.{List, [], ◌++◌}
use Prim.Native.Nat.{ℕ, ◌+◌, ◌-◌, ◌≤◌, ◌<◌, min}
use native.Mathlib.Nat.{not-suc-le-zero}
use native.Mathlib.Omega.{arith}
use borrow.Author.Tests.{lt-ltb, le-ltb}
use lib.ListN.{length, get_or, take, drop}
use Rattle.laws.proofs.Choice.{taken, left, either}
use Rattle.laws.proofs.Written.{Written, written_join}
use Rattle.binary_office.specs.declared.Step.TheVariants as step
use Rattle.binary_office.specs.declared.BiffRecord.{BiffRecord}
use Rattle.binary_office.specs.Walk.{step_at, walk_at, clear_len}
use Rattle.xor_obfuscation.specs.declared.Way.{Way}
use Rattle.xor_obfuscation.specs.Xor.{transformed, Transforms}
use Rattle.block_keys.proofs.Parts.{written_by, lent_part, part_size}
use Rattle.excel97.specs.Open.{in_record, xor_byte}
use Rattle.excel97.specs.Steps.{through_at, Through}
use Rattle.survey.proofs.Records.{clear_within}
use Rattle.excel97.proofs.Records.{Reached, in_none, record_here}

-- a byte of a record: its own in header and clear part, else deciphered
module _ (f : BiffRecord → ℕ → ℕ → ℕ) (r : BiffRecord) (o x : ℕ) where
  pub own_byte : o < r.at + 4 + clear_len r.id r.len → in_record f (Some r) o x ≡ x
  own_byte h = taken x (f r o x) (lt-ltb o (r.at + 4 + clear_len r.id r.len) h)

  pub other_byte : r.at + 4 + clear_len r.id r.len ≤ o → in_record f (Some r) o x ≡ f r o x
  other_byte h = left x (f r o x) (le-ltb o (r.at + 4 + clear_len r.id r.len) h)

module _ (s : List ℕ) (f : BiffRecord → ℕ → ℕ → ℕ) (at id len : ℕ) (w : Reached s at) (e : step_at s at ≡ step.Record id len) (d d₁ d₂ : List ℕ)
    (before : Written (through_at s f) 0 at d d₁) where
  here : (o : ℕ) → at ≤ o → o < at + 4 + len → through_at s f o ≡ in_record f (Some (record { at = at; id = id; len = len })) o (get_or s o 0)
  here o h k = ap (λ (r : Option BiffRecord). in_record f r o (get_or s o 0)) (record_here s at id len w e o h k)

  -- a record that is written whole
  through_record : Written (λ (o : ℕ). in_record f (Some (record { at = at; id = id; len = len })) o (get_or s o 0)) at (at + 4 + len) d₁ d₂
      → Written (through_at s f) 0 (at + 4 + len) d d₂
  through_record v =
      written_join (through_at s f) 0 at (at + 4 + len) d d₁ d₂ (omega arith) (omega arith) before
      (written_by (λ (o : ℕ). in_record f (Some (record { at = at; id = id; len = len })) o (get_or s o 0)) (through_at s f) at (at + 4 + len) d₁ d₂
      (λ o h k. sym (here o h k)) v)

-- an output that is too short, and one that has room
pub through_short : (s : List ℕ) (f : BiffRecord → ℕ → ℕ → ℕ) (d : List ℕ) → length d < length s → Through s f d d
through_short s f d h = record { written = λ k. absurd (no (length s) (length d) h k); short = λ k. refl }
  where
    no : (a b : ℕ) → b < a → a ≤ b → ⊥
    no a b h k = omega arith

pub through_room : (s : List ℕ) (f : BiffRecord → ℕ → ℕ → ℕ) (d d' : List ℕ) → length s ≤ length d → Written (through_at s f) 0 (length s) d d' → Through s f d d'
through_room s f d d' h w = record { written = λ k. w; short = λ k. absurd (no (length s) (length d) h k) }
  where
    no : (a b : ℕ) → a ≤ b → b < a → ⊥
    no a b h k = omega arith

-- a record of which only header and clear part are written, over what the output held
module _ (s : List ℕ) (at id len : ℕ) (w : Reached s at) (e : step_at s at ≡ step.Record id len) (d d₁ d₂ : List ℕ) (n : ℕ) (en : n ≡ at + 4 + clear_len id len) where
  abbrev held : BiffRecord → ℕ → ℕ → ℕ
  held r o x = get_or d o 0

  pub through_kept : Written (through_at s held) 0 at d d₁ → Written (λ (o : ℕ). get_or s o 0) at n d₁ d₂ → Written (through_at s held) 0 (at + 4 + len) d d₂
  through_kept before v =
      let c = clear_within id len in
      through_record s held at id len w e d d₁ d₂ before
      (record {
        same = v.same;
        before = v.before;
        inside = λ o h k.
            either n o
            (λ m. v.after o m ∙ before.after o h ∙ sym (other_byte held (record { at = at; id = id; len = len }) o (get_or s o 0) (rw (← en) m)))
            (λ m. v.inside o h m ∙ sym (own_byte held (record { at = at; id = id; len = len }) o (get_or s o 0) (rw (← en) m)));
        after = λ o h. v.after o (omega arith);
      })

-- an output that is written up to an offset, while what lies behind that and ahead of n may hold anything
pub record WrittenUpTo (f : ℕ → ℕ) (at n : ℕ) (d d' : List ℕ) : Type 0 where
  pub same : length d' ≡ length d
  pub inside : (o : ℕ) → o < at → get_or d' o 0 ≡ f o
  pub after : (o : ℕ) → n ≤ o → get_or d' o 0 ≡ get_or d o 0

pub up_to_none : (f : ℕ → ℕ) (n : ℕ) (d : List ℕ) → WrittenUpTo f 0 n d d
up_to_none f n d = record { same = refl; inside = λ o h. absurd (not-suc-le-zero h); after = λ o h. refl }

-- a record that is written whole, and some bytes behind it
module _ (s : List ℕ) (f : BiffRecord → ℕ → ℕ → ℕ) (at id len : ℕ) (w : Reached s at) (e : step_at s at ≡ step.Record id len) (d d₁ d₂ : List ℕ) where
  pub up_to_record : (to : ℕ) → at + 4 + len ≤ to → to ≤ length s → WrittenUpTo (through_at s f) at (length s) d d₁
      → Written (λ (o : ℕ). in_record f (Some (record { at = at; id = id; len = len })) o (get_or s o 0)) at to d₁ d₂
      → WrittenUpTo (through_at s f) (at + 4 + len) (length s) d d₂
  up_to_record to far within p v =
      record {
        same = v.same ∙ p.same;
        inside = λ o h.
            either at o
            (λ m. v.inside o m (omega arith) ∙ sym (ap (λ (r : Option BiffRecord). in_record f r o (get_or s o 0)) (record_here s at id len w e o m h)))
            (λ m. v.before o m ∙ p.inside o m);
        after = λ o h. v.after o (omega arith) ∙ p.after o h;
      }

-- behind the records the stream's own bytes are written, and then all is
pub up_to_rest : (s : List ℕ) (f : BiffRecord → ℕ → ℕ → ℕ) (at : ℕ) → Reached s at → (walk_at s at).records ≡ [] → (d d₁ d₂ : List ℕ)
    → WrittenUpTo (through_at s f) at (length s) d d₁ → Written (λ (o : ℕ). get_or s o 0) at (length s) d₁ d₂ → Written (through_at s f) 0 (length s) d d₂
up_to_rest s f at w none_left d d₁ d₂ p v =
    record {
      same = v.same ∙ p.same;
      before = λ o h. absurd (not-suc-le-zero h);
      inside = λ o h k.
          either at o
          (λ m. v.inside o m k ∙ sym (ap (λ (r : Option BiffRecord). in_record f r o (get_or s o 0)) (in_none s at w none_left o m)))
          (λ m. v.before o m ∙ p.inside o m);
      after = λ o h. v.after o h ∙ p.after o h;
    }

-- the same of an output of which nothing behind the offset was written
pub through_rest : (s : List ℕ) (f : BiffRecord → ℕ → ℕ → ℕ) (at : ℕ) → Reached s at → (walk_at s at).records ≡ [] → (d d₁ d₂ : List ℕ)
    → Written (through_at s f) 0 at d d₁ → Written (λ (o : ℕ). get_or s o 0) at (length s) d₁ d₂ → Written (through_at s f) 0 (length s) d d₂
through_rest s f at w none_left d d₁ d₂ before v =
    let i = w.inside in
    up_to_rest s f at w none_left d d₁ d₂
    (record { same = before.same; inside = λ o h. before.inside o (omega arith) h; after = λ o h. before.after o (omega arith) }) v

-- a record under XOR: header and clear part are copied, and what is behind them is put through it in its place
module _ (way : Way) (s array d d₁ ys : List ℕ) (at id len : ℕ) (clear start end stop : ℕ) (inside : stop ≤ length s) (room : length s ≤ length d) (ec : clear ≡ clear_len id len)
    (es : start ≡ at + 4 + clear) (et : end ≡ at + 4 + len) (far : end ≤ stop) (front : Written (λ (o : ℕ). get_or s o 0) at start d d₁)
    (part : Transforms way array (end + clear) (take (stop - start) (drop start s)) (take (stop - start) (drop start d₁)) ys) where
  abbrev it : BiffRecord
  it = record { at = at; id = id; len = len }

  abbrev target : ℕ → ℕ
  target o = in_record (xor_byte way array) (Some it) o (get_or s o 0)

  least : clear ≤ len
  least = rw ec (clear_within id len)

  fits_s : start + (stop - start) ≤ length s
  fits_s = let c = least in omega arith

  fits_d : start + (stop - start) ≤ length d₁
  fits_d = let c = least in let l = front.same in omega arith

  -- a byte behind the clear part
  byte_is : (o : ℕ) → start ≤ o → transformed way array (end + clear) (o - start) (get_or s o 0) ≡ target o
  unfolding xor_byte
  byte_is o h =
      let past : at + 4 + clear_len id len ≤ o = rw (← ec, ← es) h in
      rw (et, es, ec) (sym (other_byte (xor_byte way array) it o (get_or s o 0) past))

  behind : Written target start (start + (stop - start)) d₁ (take start d₁ ++ (ys ++ drop (stop - start) (drop start d₁)))
  behind =
      let n : min (length (take (stop - start) (drop start s))) (length (take (stop - start) (drop start d₁))) ≡ stop - start =
      rw (part_size s start (stop - start) fits_s, part_size d₁ start (stop - start) fits_d) (same (stop - start)) in
      written_by (λ (o : ℕ). transformed way array (end + clear) (o - start) (get_or s o 0)) target start (start + (stop - start)) d₁
      (take start d₁ ++ (ys ++ drop (stop - start) (drop start d₁))) (λ o h k. byte_is o h)
      (lent_part (λ (i x : ℕ). transformed way array (end + clear) i x) s d₁ ys start (stop - start) fits_s fits_d (rw n at part.bytes))
    where
      same : (n : ℕ) → min n n ≡ n
      same n = omega arith

  pub xor_record : Written target at stop d (take start d₁ ++ (ys ++ drop (stop - start) (drop start d₁)))
  xor_record =
      let l = front.same in
      let c = least in
      let e : start + (stop - start) ≡ stop = omega arith in
      rw e at
      (written_join target at start (start + (stop - start)) d d₁ (take start d₁ ++ (ys ++ drop (stop - start) (drop start d₁))) (omega arith) (omega arith)
      (written_by (λ (o : ℕ). get_or s o 0) target at start d d₁ (λ o h k. sym (own_byte (xor_byte way array) it o (get_or s o 0) (rw (← ec, ← es) k))) front)
      behind)
