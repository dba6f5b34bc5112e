-- Counting the open BOF tests that BOF and EOF pair up like brackets. Ids that pair up leave the count as it was; and where the count ends at 0, the ids are
-- taken apart into paired parts, one EOF between two of them for each BOF that was open.
-- Assumes nothing.
use Rattle.std.specs.Prelude.{Option, None, Some}
use mathlib.Core.Path.{◌≡◌, refl, sym, ap, ◌∙◌}
use mathlib.Core.Bool.{Bool, true, false}
use mathlib.Core.List.{List, [], ◌∷◌, ◌++◌, append_assoc, append-nil}
use Prim.Native.Nat.{ℕ, zero, suc, ◌+◌, ◌-◌}
use native.Mathlib.Numerals.{add-one}
use native.Mathlib.Omega.{arith}
use borrow.Author.Tests.{eq-eqb, ne_eqb, eqb-true}
use lib.Dec.{eqb}
use Rattle.std.proofs.lemmas.Bool.{false≢true}
use Rattle.laws.specs.Choice.{pick}
use Rattle.laws.proofs.Choice.{taken, left, same_or}
use Rattle.binary_office.specs.declared.BiffRecord.{BiffRecord}
use Rattle.directory.specs.Directory.{is_bof, is_eof, unpaired}
use Rattle.directory.specs.Brackets.{bof, eof, ids_of, Paired, nothing, other, around, Counted}

-- the count over ids alone: n are open
unfoldable closed : ℕ → List ℕ → Bool
closed n [] = eqb n 0
closed n (id ∷ ids) = pick (eqb id 0x0809) (closed (n + 1) ids) (pick (eqb id 0x000A) (pick (eqb n 0) false (closed (n - 1) ids)) (closed n ids))

-- one id more
module _ (n : ℕ) (id : ℕ) (ids : List ℕ) where
  closed_bof : id ≡ bof → closed n (id ∷ ids) ≡ closed (suc n) ids
  unfolding closed
  closed_bof e = taken (closed (n + 1) ids) _ (eq-eqb id 0x0809 e) ∙ ap (λ (m : ℕ). closed m ids) (add-one n)

  not_bof : (id ≡ bof → ⊥) → closed n (id ∷ ids) ≡ pick (eqb id 0x000A) (pick (eqb n 0) false (closed (n - 1) ids)) (closed n ids)
  unfolding closed
  not_bof f = left (closed (n + 1) ids) _ (ne_eqb id 0x0809 f)

  closed_other : (id ≡ bof → ⊥) → (id ≡ eof → ⊥) → closed n (id ∷ ids) ≡ closed n ids
  closed_other f g = not_bof f ∙ left (pick (eqb n 0) false (closed (n - 1) ids)) (closed n ids) (ne_eqb id 0x000A g)

not_both : (id : ℕ) → id ≡ eof → id ≡ bof → ⊥
not_both id e g = omega arith

some_open : (n : ℕ) → eqb (suc n) 0 ≡ false
some_open n = ne_eqb (suc n) 0 (no n)
  where
    no : (n : ℕ) → suc n ≡ 0 → ⊥
    no n e = omega arith

one_less : (n : ℕ) → suc n - 1 ≡ n
one_less n = omega arith

closed_eof : (n id : ℕ) (ids : List ℕ) → id ≡ eof → closed (suc n) (id ∷ ids) ≡ closed n ids
closed_eof n id ids e =
    not_bof (suc n) id ids (not_both id e)
    ∙ taken (pick (eqb (suc n) 0) false (closed (suc n - 1) ids)) (closed (suc n) ids) (eq-eqb id 0x000A e)
    ∙ left false (closed (suc n - 1) ids) (some_open n)
    ∙ ap (λ (m : ℕ). closed m ids) (one_less n)

closed_stray : (id : ℕ) (ids : List ℕ) → id ≡ eof → closed 0 (id ∷ ids) ≡ false
unfolding pick
closed_stray id ids e = not_bof 0 id ids (not_both id e) ∙ taken false (closed 0 ids) (eq-eqb id 0x000A e)

-- ids that pair up leave the count as it was
balanced : {ids : List ℕ} → Paired ids → (n : ℕ) (rest : List ℕ) → closed n (ids ++ rest) ≡ closed n rest
balanced nothing n rest = refl
balanced (other {id} {ids} f g p) n rest = closed_other n id (ids ++ rest) f g ∙ balanced p n rest
balanced (around {inner} {behind} p q) n rest =
    closed_bof n bof ((inner ++ (eof ∷ behind)) ++ rest) refl
    ∙ ap (closed (suc n)) (append_assoc inner (eof ∷ behind) rest)
    ∙ balanced p (suc n) (eof ∷ (behind ++ rest))
    ∙ closed_eof n eof (behind ++ rest) refl
    ∙ balanced q n rest

-- n paired parts, an EOF behind each, and one paired part behind them
data Closes : ℕ → List ℕ → Type 0 where
  done : {ids : List ℕ} → Paired ids → Closes zero ids
  close : {n : ℕ} {ids rest : List ℕ} → Paired ids → Closes n rest → Closes (suc n) (ids ++ (eof ∷ rest))

joined : (p q x : List ℕ) → bof ∷ (p ++ (eof ∷ (q ++ x))) ≡ (bof ∷ (p ++ (eof ∷ q))) ++ x
joined p q x = ap (λ (l : List ℕ). bof ∷ l) (sym (append_assoc p (eof ∷ q) x))

-- a BOF and what it closes with
wrap : {n : ℕ} {p rest : List ℕ} → Paired p → Closes n rest → Closes n (bof ∷ (p ++ (eof ∷ rest)))
wrap p (done q) = done (around p q)
wrap {p = inner} p (close {ids = ids} {rest = rest} q c) = rw (joined inner ids (eof ∷ rest)) (close (around p q) c)

opens : {n : ℕ} {ids : List ℕ} → Closes (suc n) ids → Closes n (bof ∷ ids)
opens (close p c) = wrap p c

passes : {n id : ℕ} {ids : List ℕ} → (id ≡ bof → ⊥) → (id ≡ eof → ⊥) → Closes n ids → Closes n (id ∷ ids)
passes f g (done p) = done (other f g p)
passes f g (close p c) = close (other f g p) c

none_open : (n : ℕ) → eqb n 0 ≡ true → Closes n []
none_open zero e = done nothing
none_open (suc n) e = absurd (false≢true (sym (some_open n) ∙ e))

counted_down : (n : ℕ) (ids : List ℕ) → closed n ids ≡ true → Closes n ids
unfolding closed
counted_down n [] e = none_open n e
counted_down n (id ∷ ids) e =
    same_or id bof
    (λ q. rw q (opens (counted_down (suc n) ids (sym (closed_bof n id ids q) ∙ e))))
    (λ f.
    same_or id eof
    (λ q. rw q (by_open n (rw q at e) (λ m h. counted_down m ids h)))
    (λ g. passes f g (counted_down n ids (sym (closed_other n id ids f g) ∙ e))))
  where
    by_open : (n : ℕ) → closed n (eof ∷ ids) ≡ true → ((m : ℕ) → closed m ids ≡ true → Closes m ids) → Closes n (eof ∷ ids)
    by_open zero e again = absurd (false≢true (sym (closed_stray eof ids refl) ∙ e))
    by_open (suc m) e again = close nothing (again m (sym (closed_eof m eof ids refl) ∙ e))

all_closed : {ids : List ℕ} → Closes zero ids → Paired ids
all_closed (done p) = p

-- the count over records is the count over their ids
tested : (size n : ℕ) (rs : List BiffRecord) → (closed n (ids_of rs) ≡ true → unpaired size n rs ≡ None) × (unpaired size n rs ≡ None → closed n (ids_of rs) ≡ true)
unfolding closed unpaired pick
tested size n [] = go (eqb n 0)
  where
    go : (t : Bool) → (t ≡ true → pick t None (Some size) ≡ None) × (pick t None (Some size) ≡ None → t ≡ true)
    go true = (λ e. refl, λ e. refl)
    go false = (λ e. absurd (false≢true e), λ e. cc)
tested size n (r ∷ rs) = go (is_bof r) (is_eof r) (eqb n 0) (tested size (n + 1) rs) (tested size (n - 1) rs) (tested size n rs)
  where
    Same : ℕ → Type 0
    Same m = (closed m (ids_of rs) ≡ true → unpaired size m rs ≡ None) × (unpaired size m rs ≡ None → closed m (ids_of rs) ≡ true)

    of_ids : Bool → Bool → Bool → Bool
    of_ids t u v = pick t (closed (n + 1) (ids_of rs)) (pick u (pick v false (closed (n - 1) (ids_of rs))) (closed n (ids_of rs)))

    of_records : Bool → Bool → Bool → Option ℕ
    of_records t u v = pick t (unpaired size (n + 1) rs) (pick u (pick v (Some r.at) (unpaired size (n - 1) rs)) (unpaired size n rs))

    go : (t u v : Bool) → Same (n + 1) → Same (n - 1) → Same n → (of_ids t u v ≡ true → of_records t u v ≡ None) × (of_records t u v ≡ None → of_ids t u v ≡ true)
    go true u v a b c = a
    go false true true a b c = (λ e. absurd (false≢true e), λ e. cc)
    go false true false a b c = b
    go false false v a b c = c

-- records that leave none open, and others behind them
behind_closed : (size n : ℕ) (before rest : List BiffRecord) → unpaired size n before ≡ None → unpaired size n (before ++ rest) ≡ unpaired size 0 rest
unfolding unpaired pick
behind_closed size n [] rest e = none_left n e
  where
    none_left : (n : ℕ) → pick (eqb n 0) None (Some size) ≡ None → unpaired size n rest ≡ unpaired size 0 rest
    none_left zero e = refl
    none_left (suc n) e = let z : Some size ≡ None = sym (left None (Some size) (some_open n)) ∙ e in cc
behind_closed size n (r ∷ before) rest e =
    go (is_bof r) (is_eof r) (eqb n 0) e (behind_closed size (n + 1) before rest) (behind_closed size (n - 1) before rest) (behind_closed size n before rest)
  where
    Same : ℕ → Type 0
    Same m = unpaired size m before ≡ None → unpaired size m (before ++ rest) ≡ unpaired size 0 rest

    go : (t u v : Bool) → pick t (unpaired size (n + 1) before) (pick u (pick v (Some r.at) (unpaired size (n - 1) before)) (unpaired size n before)) ≡ None
        → Same (n + 1) → Same (n - 1) → Same n
        → pick t (unpaired size (n + 1) (before ++ rest))
        (pick u (pick v (Some r.at) (unpaired size (n - 1) (before ++ rest))) (unpaired size n (before ++ rest))) ≡ unpaired size 0 rest
    go true u v e a b c = a e
    go false true true e a b c = cc
    go false true false e a b c = b e
    go false false v e a b c = c e

-- an EOF with none open
at_stray : (size : ℕ) (r : BiffRecord) (behind : List BiffRecord) → r.id ≡ eof → unpaired size 0 (r ∷ behind) ≡ Some r.at
unfolding unpaired
at_stray size r behind e =
    left (unpaired size (0 + 1) behind) _ (ne_eqb r.id 0x0809 (not_both r.id e))
    ∙ taken _ (unpaired size 0 behind) (eq-eqb r.id 0x000A e)
    ∙ taken (Some r.at) (unpaired size (0 - 1) behind) refl

-- where the count does not end at 0, it stopped at such an EOF, or told the length
record Stray (size n : ℕ) (rs : List BiffRecord) : Type 0 where
  before : List BiffRecord
  this : BiffRecord
  behind : List BiffRecord
  split : rs ≡ before ++ (this ∷ behind)
  closes : unpaired size n before ≡ None
  ends : this.id ≡ eof

data Where (size n : ℕ) (rs : List BiffRecord) (p : ℕ) : Type 0 where
  stopped : Stray size n rs → Where size n rs p
  at_end : p ≡ size → Where size n rs p

stopped_at : (size n : ℕ) (rs : List BiffRecord) (p : ℕ) → unpaired size n rs ≡ Some p → Where size n rs p
unfolding unpaired pick
stopped_at size n [] p e = go (eqb n 0) e
  where
    go : (t : Bool) → pick t None (Some size) ≡ Some p → Where size n [] p
    go true e = at_end (cc)
    go false e = at_end (cc)
stopped_at size n (r ∷ rs) p e =
    go (is_bof r) (is_eof r) (eqb n 0) refl refl refl e (stopped_at size (n + 1) rs p) (stopped_at size (n - 1) rs p) (stopped_at size n rs p)
  where
    -- the same records behind one more, which is counted as given
    more : (m : ℕ) → ((before : List BiffRecord) → unpaired size m before ≡ None → unpaired size n (r ∷ before) ≡ None) → Where size m rs p → Where size n (r ∷ rs) p
    more m f (stopped w) =
        stopped
        (record {
          before = r ∷ w.before;
          this = w.this;
          behind = w.behind;
          split = ap (λ (l : List BiffRecord). r ∷ l) w.split;
          closes = f w.before w.closes;
          ends = w.ends;
        })
    more m f (at_end g) = at_end g

    opened : Bool → Bool → Bool → List BiffRecord → Option ℕ
    opened t u v before = pick t (unpaired size (n + 1) before) (pick u (pick v (Some r.at) (unpaired size (n - 1) before)) (unpaired size n before))

    go : (t u v : Bool) → is_bof r ≡ t → is_eof r ≡ u → eqb n 0 ≡ v → opened t u v rs ≡ Some p
        → (unpaired size (n + 1) rs ≡ Some p → Where size (n + 1) rs p) → (unpaired size (n - 1) rs ≡ Some p → Where size (n - 1) rs p)
        → (unpaired size n rs ≡ Some p → Where size n rs p)
        → Where size n (r ∷ rs) p
    go true u v f g h e a b c = more (n + 1) (λ before k. rw f k) (a e)
    go false true true f g h e a b c =
        stopped (record { before = []; this = r; behind = rs; split = refl; closes = rw h refl; ends = eqb-true r.id 0x000A g })
    go false true false f g h e a b c = more (n - 1) (λ before k. rw (f, g, h) k) (b e)
    go false false v f g h e a b c = more n (λ before k. rw (f, g) k) (c e)

pub counted : Counted
unfolding closed
counted =
    record {
      passes = all_paired;
      passed = none_left;
      stray = λ size before r behind p e. behind_closed size 0 before (r ∷ behind) (none_left size before p) ∙ at_stray size r behind e;
      left_open = λ size rs f g. by_answer size rs f g (unpaired size 0 rs) refl;
    }
  where
    none_left : (size : ℕ) (rs : List BiffRecord) → Paired (ids_of rs) → unpaired size 0 rs ≡ None
    none_left size rs p = (tested size 0 rs).0 (ap (closed 0) (sym (append-nil (ids_of rs))) ∙ balanced p 0 [])

    all_paired : (size : ℕ) (rs : List BiffRecord) → unpaired size 0 rs ≡ None → Paired (ids_of rs)
    all_paired size rs e = all_closed (counted_down 0 (ids_of rs) ((tested size 0 rs).1 e))

    by_answer : (size : ℕ) (rs : List BiffRecord) → (Paired (ids_of rs) → ⊥)
        → ((before : List BiffRecord) (r : BiffRecord) (behind : List BiffRecord) → rs ≡ before ++ (r ∷ behind) → Paired (ids_of before) → r.id ≡ eof → ⊥)
        → (o : Option ℕ) → unpaired size 0 rs ≡ o → unpaired size 0 rs ≡ Some size
    by_answer size rs f g None e = absurd (f (all_paired size rs e))
    by_answer size rs f g (Some p) e = by_place_lem (stopped_at size 0 rs p e)
      where
        by_place_lem : Where size 0 rs p → unpaired size 0 rs ≡ Some size
        by_place_lem (stopped w) = absurd (g w.before w.this w.behind w.split (all_paired size w.before w.closes) w.ends)
        by_place_lem (at_end h) = e ∙ ap Some h
