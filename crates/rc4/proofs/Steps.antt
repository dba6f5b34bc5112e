-- What the key mixing and a keystream keep from step to step: that it holds at the start, and after a step; the carried index lies within the key, and the
-- byte of a step is the keystream's.
-- Assumes nothing.
use mathlib.Core.Path.{◌≡◌, refl, sym, ◌∙◌}
use mathlib.Core.List.{List}
use Prim.Native.Nat.{ℕ, ◌+◌, ◌%◌, ◌≤◌, ◌<◌}
use native.Mathlib.Nat.{mod-lt, mod-eq_of_lt}
use native.Mathlib.Omega.{arith}
use lib.Dec.{lit<}
use lib.ListN.{length, get_or}
use Rattle.laws.proofs.Offsets.{get_d_tabulate}
use Rattle.rc4.specs.declared.Keystream.{Keystream}
use Rattle.rc4.specs.declared.Mixed.{Mixed}
use Rattle.rc4.specs.declared.Stepped.{Stepped}
use Rattle.rc4.specs.KeyIndex.{carried_index}
use Rattle.rc4.specs.Rc4.{identity, swap, after, byte_from, Rearranged}
use Rattle.rc4.specs.Steps.{MixedTo, StepsTo}
use Rattle.rc4.proofs.Carried.{carried_is_remainder}
use Rattle.rc4.proofs.Rearranged.{swap_rearranged, rearranged_small, rearranged_length}
use Rattle.rc4.proofs.Table.{mixing_none, after_none, after_more, byte_more}

pub mixed_none : (key t : List ℕ) (at : Mixed) → 1 ≤ length key → t ≡ identity → at ≡ record { j = 0; index = 0; entry = 0 } → MixedTo key 0 at t
unfolding carried_index identity
mixed_none key t at some e g =
    rw g record {
      some = some;
      small = omega arith;
      index = refl;
      entry = rw e (sym (get_d_tabulate (λ (n : ℕ). n) 256 0 0 (lit< tt)));
      mixed = rw e (mixing_none key);
    }

-- the same where no entry is loaded ahead
pub mixed_start : (key t : List ℕ) → 1 ≤ length key → t ≡ identity → MixedTo key 0 (record { j = 0; index = 0; entry = get_or t 0 0 }) t
unfolding carried_index
mixed_start key t some e = record { some = some; small = omega arith; index = refl; entry = refl; mixed = rw e (mixing_none key) }

pub index_within : {key t : List ℕ} {n : ℕ} {at : Mixed} → MixedTo key n at t → at.index < length key
index_within {key} {n = n} m = rw (m.index, carried_is_remainder (length key) n m.some) (mod-lt n m.some)

-- a keystream's table after n bytes, with the entry at the next i carried along; the keystream starts with i at 0
pub record SteppedTo (k : Keystream) (n : ℕ) (at : Stepped) (t : List ℕ) : Type 0 where
  pub small : at.j < 256
  pub entry : at.entry ≡ get_or t ((n + 1) % 256) 0
  pub state : record { table = t; i = n % 256; j = at.j } ≡ after k n

pub stepped_none : (t : List ℕ) (at : Stepped) → at ≡ record { j = 0; entry = get_or t 1 0; byte = 0 } → SteppedTo (record { table = t; i = 0; j = 0 }) 0 at t
stepped_none t at e = rw e (record { small = omega arith; entry = refl; state = after_none _ })

-- one step: the same one byte on, and the byte itself
module _ (k : Keystream) (n : ℕ) (at r : Stepped) (t t' : List ℕ) (s : SteppedTo k n at t) (w : StepsTo t ((n + 1) % 256) at r t') where
  hj : r.j < 256
  hj = rw w.j (mod-lt _ (lit< tt))

  next_i : (n + 1) % 256 ≡ (n % 256 + 1) % 256
  next_i = omega arith

  pub stepped_more : SteppedTo k (n + 1) r t'
  unfolding swap
  stepped_more =
      let f : ((n + 1) % 256 + 1) % 256 ≡ (n + 1 + 1) % 256 = omega arith in
      record {
        small = hj;
        entry = rw f at w.entry;
        state = rw w.table (after_more k t (n % 256) at.j n ((n + 1) % 256) r.j s.state next_i w.j);
      }

  pub stepped_byte : Rearranged t → r.byte ≡ byte_from k n
  unfolding swap
  stepped_byte v =
      let entries = rearranged_length t v in
      let hi : (n + 1) % 256 < 256 = mod-lt _ (lit< tt) in
      w.byte
      ∙ mod-eq_of_lt (rearranged_small t' _ (rw w.table (swap_rearranged t ((n + 1) % 256) r.j hi hj v)))
      ∙ rw w.table (byte_more k t (n % 256) at.j n ((n + 1) % 256) r.j s.state next_i w.j (rw entries hi) (rw entries hj))
