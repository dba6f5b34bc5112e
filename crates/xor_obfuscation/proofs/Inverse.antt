-- Enciphering and deciphering undo each other: each rotation undoes the other one, and an exclusive-or undoes itself. Both take bytes to bytes where
-- the array is one of bytes, as the array of a password is. Key and verifier fit 16 bits.
-- Assumes nothing.
use mathlib.Core.Path.{◌≡◌, ap, ◌∙◌}
use mathlib.Core.Bool.{Bool, true, false}
use mathlib.Core.List.{List, [], ◌∷◌, ◌++◌}
use Prim.Native.Nat.{ℕ, zero, suc, ◌+◌, ◌-◌, ◌*◌, ◌/◌, ◌%◌, ◌^◌, ◌≤◌, ◌<◌, min}
use native.Mathlib.Nat.{mod-lt}
use native.Mathlib.Omega.{arith}
use lib.Bits.{bit_or, bit_xor, or_lt, xor_lt}
use lib.Dec.{T, eqb, ltb, ltb→lt}
use lib.ListN.{length, get_or, get_or-eq_default}
use lib.Pow.{shr_le}
use Rattle.laws.specs.Choice.{pick}
use Rattle.laws.proofs.Choice.{either}
use Rattle.laws.proofs.Offsets.{length_tabulate, get_d_tabulate}
use Rattle.laws.proofs.Table.{every, at}
use Rattle.laws.proofs.Xor.{xor_twice}
use Rattle.word.specs.Word.{rotl, rotr}
use Rattle.word.proofs.Rotation.{byte_back, byte_forth}
use Rattle.xor_obfuscation.specs.Xor.{pad_array, initial_code, xor_matrix, verifier_step, walked, password_verifier, char_bits, key_from, xor_key}
use Rattle.xor_obfuscation.specs.Xor.{xor_array_at, xor_array, deciphered, enciphered}
use Rattle.xor_obfuscation.proofs.Derived.{source_low, source_high}

-- a byte rotated is a byte
rotr_fits : (n x : ℕ) → x < 256 → rotr 8 n x < 256
unfolding rotr
rotr_fits n x h = or_lt 8 (x / 2 ^ n) ((x * 2 ^ (8 - n)) % 2 ^ 8) (omega (arith, shr_le x n)) (mod-lt (x * 2 ^ (8 - n)) (omega arith))

rotl_fits : (n x : ℕ) → x < 256 → rotl 8 n x < 256
unfolding rotl
rotl_fits n x h = or_lt 8 ((x * 2 ^ n) % 2 ^ 8) (x / 2 ^ (8 - n)) (mod-lt (x * 2 ^ n) (omega arith)) (omega (arith, shr_le x (8 - n)))

pub deciphered_enciphered : (array : List ℕ) (index o x : ℕ) → x < 256 → deciphered array index o (enciphered array index o x) ≡ x
deciphered_enciphered array index o x h = ap (rotr 8 5) (xor_twice (rotl 8 5 x) (get_or array ((index + o) % 16) 0)) ∙ byte_back 5 x (omega arith) h

module _ (array : List ℕ) (index o x : ℕ) (bytes : (i : ℕ) → get_or array i 0 < 256) (h : x < 256) where
  pub enciphered_fits : enciphered array index o x < 256
  enciphered_fits = xor_lt 8 (rotl 8 5 x) (get_or array ((index + o) % 16) 0) (rotl_fits 5 x h) (bytes ((index + o) % 16))

  mixed_fits : bit_xor x (get_or array ((index + o) % 16) 0) < 256
  mixed_fits = xor_lt 8 x (get_or array ((index + o) % 16) 0) h (bytes ((index + o) % 16))

  pub deciphered_fits : deciphered array index o x < 256
  deciphered_fits = rotr_fits 5 (bit_xor x (get_or array ((index + o) % 16) 0)) mixed_fits

  pub enciphered_deciphered : enciphered array index o (deciphered array index o x) ≡ x
  enciphered_deciphered =
      let k = get_or array ((index + o) % 16) 0 in
      ap (λ (y : ℕ). bit_xor y k) (byte_forth 5 (bit_xor x k) (omega arith) mixed_fits) ∙ xor_twice x k

-- both of a choice below a bound
pick_lt : (t : Bool) (x y b : ℕ) → x < b → y < b → pick t x y < b
unfolding pick
pick_lt true x y b h k = h
pick_lt false x y b h k = k

-- a table whose entries are below a bound, by a test that antt computes; past its end it counts as 0
below : ℕ → ℕ → ℕ → Bool
below b i x = ltb x b

table_fits : (b : ℕ) (xs : List ℕ) → T (every (below b) 0 xs) → 0 < b → (i : ℕ) → get_or xs i 0 < b
unfolding below
table_fits b xs t z i = either (length xs) i (λ h. rw (get_or-eq_default xs 0 h) z) (λ h. ltb→lt (get_or xs i 0) b (at (below b) xs t i h))

pad_fits : (i : ℕ) → get_or pad_array i 0 < 256
unfolding below
pad_fits = table_fits 256 pad_array tt (omega arith)

code_fits : (i : ℕ) → get_or initial_code i 0 < 65536
unfolding below
code_fits = table_fits 65536 initial_code tt (omega arith)

matrix_fits : (i : ℕ) → get_or xor_matrix i 0 < 65536
unfolding below
matrix_fits = table_fits 65536 xor_matrix tt (omega arith)

-- the array of a password of bytes
source_fits : (p : List ℕ) (i : ℕ) → ((j : ℕ) → get_or p j 0 < 256) → get_or (p ++ pad_array) i 0 < 256
source_fits p i h =
    either (length p) i (λ k. rw (← source_high p pad_array i k) (pad_fits (i - length p))) (λ k. rw (← source_low p pad_array i k) (h i))

pub array_fits : (p : List ℕ) (key i : ℕ) → ((j : ℕ) → get_or p j 0 < 256) → get_or (xor_array p key) i 0 < 256
unfolding xor_array
array_fits p key i h = either 16 i past inside
  where
    past : 16 ≤ i → get_or (xor_array p key) i 0 < 256
    past k = rw (get_or-eq_default (xor_array p key) 0 {n = i} (rw (length_tabulate (xor_array_at p key) 16) k)) (omega arith)

    inside : i < 16 → get_or (xor_array p key) i 0 < 256
    inside k =
        let s = get_or (p ++ pad_array) i 0 in
        let half = pick (eqb (i % 2) 1) (key / 2 ^ 8 % 2 ^ 8) (key % 2 ^ 8) in
        rw (get_d_tabulate (xor_array_at p key) 16 i 0 k)
        (rotr_fits 1 (bit_xor s half)
        (xor_lt 8 s half (source_fits p i h) (pick_lt (eqb (i % 2) 1) (key / 2 ^ 8 % 2 ^ 8) (key % 2 ^ 8) 256 (omega arith) (omega arith))))

-- the key: codes and entries of the matrix, exclusive-or'd
bits_fit : (c element key n : ℕ) → key < 65536 → char_bits c element key n < 65536
unfolding char_bits
bits_fit c element key zero h = h
bits_fit c element key (suc n) h =
    let k = char_bits c element key n in
    let m = get_or xor_matrix (element - n) 0 in
    let fits : k < 65536 = bits_fit c element key n h in
    pick_lt (eqb (c / 2 ^ (6 - n) % 2) 1) (bit_xor k m) k 65536 (xor_lt 16 k m fits (matrix_fits (element - n))) fits

from_fits : (code : ℕ) (p : List ℕ) → code < 65536 → key_from code p < 65536
unfolding key_from
from_fits code [] h = h
from_fits code (c ∷ cs) h = bits_fit c (0x68 - length cs * 7) (key_from code cs) 7 (from_fits code cs h)

pub key_fits : (p : List ℕ) → xor_key p < 65536
key_fits p = from_fits (get_or initial_code (length p - 1) 0) p (code_fits (length p - 1))

-- the verifier
step_fits : (v b : ℕ) → b < 256 → verifier_step v b < 65536
step_fits v b h =
    let low = v / 2 ^ 14 % 2 in
    let high = (v * 2) % 2 ^ 15 in
    xor_lt 16 (bit_or low high) b (or_lt 16 low high (omega arith) (omega arith)) (omega arith)

pub verifier_fits : (p : List ℕ) → password_verifier p < 65536
unfolding password_verifier walked
verifier_fits p =
    let n = min (length p) 255 in
    xor_lt 16 (verifier_step (walked p) n) 0xCE4B (step_fits (walked p) n (omega arith)) (omega arith)
