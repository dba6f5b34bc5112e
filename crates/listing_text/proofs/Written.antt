-- Bytes behind bytes: two writes, one behind the other, are one of both. And the text of a walk, record by record.
-- Assumes nothing.
use Rattle.std.specs.Prelude.{Option, None, Some}
use Rattle.binary_office.specs.declared.BiffRecord.{BiffRecord}
use Rattle.binary_office.specs.Walk.{Walk, behind, walk}
use Rattle.listing_text.specs.Text.{ending}
use native.Mathlib.Omega.{arith}
use mathlib.Core.Path.{◌≡◌, refl, sym, ap, ◌∙◌}
use mathlib.Core.List.{List, [], ◌∷◌, ◌++◌, append_assoc, append-nil}
use Prim.Native.Nat.{ℕ, suc, ◌+◌, ◌≤◌, ◌<◌}
use native.Mathlib.Nat.{add-zero, add-suc, suc-add, add_assoc}
use native.Mathlib.Numerals.{add-one}
use lib.ListN.{length, set, get_or, take, length-append}
use lib.Seq.{sets, set_out, take-suc}
use Rattle.laws.proofs.Choice.{stop, skip}
use borrow.Author.Tests.{le-leb, lt-leb}
use Rattle.binary_office.specs.Records.{fault_count}
use Rattle.binary_office.proofs.Walks.{few_records}
use Rattle.listing_text.specs.Text.{decimal, line, lines, unreadable, header, too_long, of_walk, text, Puts}

sets_join : (d : List ℕ) (n : ℕ) (xs bs : List ℕ) → sets (sets d n xs) (n + length xs) bs ≡ sets d n (xs ++ bs)
sets_join d n [] bs = ap (λ (k : ℕ). sets d k bs) (add-zero n)
sets_join d n (a ∷ xs) bs = ap (λ (k : ℕ). sets (sets (set d n a) (suc n) xs) k bs) (add-suc n (length xs) ∙ sym (suc-add n (length xs)))
    ∙ sets_join (set d n a) (suc n) xs bs

pub puts_none : (n : ℕ) (d : List ℕ) → Puts [] n d n d
puts_none n d = record { behind = sym (add-zero n); written = refl }

pub puts_join : {n r r' : ℕ} {d d' d'' : List ℕ} (xs bs : List ℕ) → Puts xs n d r d' → Puts bs r d' r' d'' → Puts (xs ++ bs) n d r' d''
puts_join {n} {d = d} xs bs p q =
    let e = p.behind in
    let f = q.behind in
    record {
      behind = f ∙ rw (e, length-append xs bs) (add_assoc n (length xs) (length bs));
      written = q.written ∙ rw (p.written, e) (sets_join d n xs bs);
    }

-- one byte, where there is no room for it
pub puts_out : (d : List ℕ) (n b : ℕ) → length d ≤ n → Puts (b ∷ []) n d (n + 1) d
puts_out d n b h = record { behind = refl; written = sym (set_out d n b h) }

-- bytes one after the other
pub puts_more : {n r r' : ℕ} {d d' d'' : List ℕ} (bytes : List ℕ) (i : ℕ) → i < length bytes → Puts (take i bytes) n d r d' → Puts (get_or bytes i 0 ∷ []) r d' r' d''
    → Puts (take (i + 1) bytes) n d r' d''
puts_more bytes i h p q = rw (add-one i, take-suc bytes i 0 h) (puts_join (take i bytes) (get_or bytes i 0 ∷ []) p q)

-- the whole listing
pub text_short : (s : List ℕ) → length s ≤ 32768 → header ++ of_walk (walk s) ≡ text s
unfolding text
text_short s h = stop _ (le-leb (length s) 32768 h)

pub text_long : (s : List ℕ) → 32768 < length s → too_long ≡ text s
unfolding text
text_long s h = skip _ (lt-leb (length s) 32768 h) refl

-- what the loop over the records keeps: the text so far, behind which what is left makes the whole
pub record Listed (s : List ℕ) (n : ℕ) (w : Walk) (d : List ℕ) (n' : ℕ) (d' : List ℕ) : Type 0 where
  pub sofar : List ℕ
  pub whole : sofar ++ of_walk w ≡ of_walk (walk s)
  pub puts : Puts sofar n d n' d'

pub listed_none : (s : List ℕ) (n : ℕ) (d : List ℕ) → Listed s n (walk s) d n d
listed_none s n d = record { sofar = []; whole = refl; puts = puts_none n d }

module _ (s : List ℕ) (n n' : ℕ) (w : Walk) (d d' : List ℕ) (l : Listed s n w d n' d') where
  pub listed_on : {n'' : ℕ} {d'' : List ℕ} (r : BiffRecord) (left : Walk) → w ≡ behind r left → Puts (line r) n' d' n'' d'' → Listed s n left d n'' d''
  unfolding lines
  listed_on r left e p =
      let tail : line r ++ of_walk left ≡ of_walk w = sym (ap of_walk e ∙ append_assoc (line r) (lines left.records) (ending left.fault)) in
      record {
        sofar = l.sofar ++ line r;
        whole = append_assoc l.sofar (line r) (of_walk left) ∙ ap (λ (t : List ℕ). l.sofar ++ t) tail ∙ l.whole;
        puts = puts_join l.sofar (line r) l.puts p;
      }

  pub listed_fault : {n'' : ℕ} {d'' : List ℕ} (p : ℕ) → w ≡ record { records = []; fault = Some p }
      → Puts (unreadable ++ decimal p ++ (10 ∷ [])) n' d' n'' d'' → Listed s n (record { records = []; fault = None }) d n'' d''
  unfolding lines
  listed_fault p e q =
      let told = unreadable ++ decimal p ++ (10 ∷ []) in
      record {
        sofar = l.sofar ++ told;
        whole = append-nil (l.sofar ++ told) ∙ ap (λ (t : List ℕ). l.sofar ++ t) (sym (ap of_walk e)) ∙ l.whole;
        puts = puts_join l.sofar told l.puts q;
      }

  pub listed_all : w ≡ record { records = []; fault = None } → Puts (of_walk (walk s)) n d n' d'
  unfolding lines
  listed_all e = rw (sym l.whole ∙ ap (λ (t : List ℕ). l.sofar ++ t) (ap of_walk e) ∙ append-nil l.sofar) l.puts

-- a walk has no more items than its stream has bytes, and one
pub few_items : (s : List ℕ) (w : Walk) → w ≡ walk s → length w.records + fault_count w.fault ≤ length s + 1
few_items s w e = rw e (let few = few_records s 0 (omega arith) in let one = at_most_one (walk s).fault in omega arith)
  where
    at_most_one : (o : Option ℕ) → fault_count o ≤ 1
    at_most_one None = omega arith
    at_most_one (Some p) = omega arith
