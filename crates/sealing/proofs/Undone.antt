-- Sealing a byte and opening it undo each other: exclusive-or with one keystream byte twice, and under XOR the rotation and the array back and forth. An array of an XOR
-- password is of bytes, and so is its exclusive-or with a byte.
-- Assumes nothing.
use Rattle.std.specs.Prelude.{Option, None, Some}
use mathlib.Core.Path.{◌≡◌, refl}
use mathlib.Core.Bool.{true}
use mathlib.Core.List.{List, [], ◌∷◌}
use Prim.Native.Nat.{ℕ, zero, suc, ◌+◌, ◌-◌, ◌*◌, ◌<◌}
use native.Mathlib.Omega.{arith}
use borrow.Author.Tests.{eq-eqb, eqb-true}
use lib.Dec.{eqb}
use lib.ListN.{length, get_or, replicate}
use Rattle.laws.proofs.Choice.{and_left, and_right}
use Rattle.laws.proofs.Xor.{xor_twice}
use Rattle.sensitive.specs.Ansi.{ansi}
use Rattle.xor_obfuscation.specs.Xor.{xor_key}
use Rattle.xor_obfuscation.proofs.Inverse.{deciphered_enciphered, enciphered_deciphered, array_fits}
use Rattle.binary_office.specs.declared.BiffRecord.{BiffRecord}
use Rattle.binary_office.specs.Walk.{clear_len, all_zero}
use Rattle.block_keys.specs.declared.Kind.TheVariants as kind
use Rattle.excel97.specs.Open.{keystream, array_of, xor_byte}
use Rattle.sealing.specs.declared.Choice.{Choice}
use Rattle.sealing.specs.declared.Choice.TheVariants.{Xor, Office97, CryptoApi}
use Rattle.sealing.specs.Seal.{sealed_byte}
use Rattle.sealing.proofs.Bodies.{opened_byte, ansi_fits}

zeros_fit : (n i : ℕ) → get_or (replicate n 0) i 0 < 256
zeros_fit zero i = omega arith
zeros_fit (suc n) zero = omega arith
zeros_fit (suc n) (suc i) = zeros_fit n i

-- the array of a password
array_bytes : (password : List ℕ) (i : ℕ) → get_or (array_of (ansi password)) i 0 < 256
array_bytes password i = go (ansi password) refl
  where
    go : (o : Option (List ℕ)) → ansi password ≡ o → get_or (array_of o) i 0 < 256
    go None e = zeros_fit 16 i
    go (Some p) e = array_fits p (xor_key p) i (ansi_fits password p e)

module _ (choice : Choice) (password salt : List ℕ) (r : BiffRecord) (o x : ℕ) (h : x < 256) where
  pub opened_sealed : opened_byte choice password salt r o (sealed_byte choice password salt r o x) ≡ x
  unfolding sealed_byte xor_byte
  opened_sealed = go choice
    where
      clear : ℕ
      clear = clear_len r.id r.len

      go : (c : Choice) → opened_byte c password salt r o (sealed_byte c password salt r o x) ≡ x
      go Xor = deciphered_enciphered (array_of (ansi password)) (r.at + 4 + r.len + clear) (o - (r.at + 4 + clear)) x h
      go Office97 = xor_twice x (keystream password salt kind.Office97 40 o)
      go (CryptoApi major bits) = xor_twice x (keystream password salt kind.CryptoApi bits o)

  pub sealed_opened : sealed_byte choice password salt r o (opened_byte choice password salt r o x) ≡ x
  unfolding sealed_byte xor_byte
  sealed_opened = go choice
    where
      clear : ℕ
      clear = clear_len r.id r.len

      go : (c : Choice) → sealed_byte c password salt r o (opened_byte c password salt r o x) ≡ x
      go Xor = enciphered_deciphered (array_of (ansi password)) (r.at + 4 + r.len + clear) (o - (r.at + 4 + clear)) x (array_bytes password) h
      go Office97 = xor_twice x (keystream password salt kind.Office97 40 o)
      go (CryptoApi major bits) = xor_twice x (keystream password salt kind.CryptoApi bits o)

-- bytes that are all zero, byte by byte
pub zero_at : (l : List ℕ) → all_zero l ≡ true → (i : ℕ) → get_or l i 0 ≡ 0
zero_at [] e i = refl
zero_at (b ∷ bs) e zero = eqb-true b 0 (and_left (eqb b 0) (all_zero bs) e)
zero_at (b ∷ bs) e (suc i) = zero_at bs (and_right (eqb b 0) (all_zero bs) e) i

pub all_zero_lem : (l : List ℕ) → ((i : ℕ) → i < length l → get_or l i 0 ≡ 0) → all_zero l ≡ true
all_zero_lem [] f = refl
all_zero_lem (b ∷ bs) f = rw (eq-eqb b 0 (f zero (omega arith)), all_zero_lem bs (λ i h. f (suc i) (omega arith)))

-- a field of two bytes that are bytes
pub low_byte : (a b n : ℕ) → a < 256 → n < 256 → a + b * 256 ≡ n → (a ≡ n) × (b ≡ 0)
low_byte a b n h k e = (omega arith, omega arith)
