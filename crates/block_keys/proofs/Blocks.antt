-- A stream in blocks: an offset within a block has that block's number and its place there, so a block that is written by its own keystream is written
-- by the stream's definition.
-- Assumes nothing.
use mathlib.Core.Path.{◌≡◌, sym, ap, ◌∙◌}
use mathlib.Core.List.{List, ◌++◌}
use Prim.Native.Nat.{ℕ, zero, suc, ◌+◌, ◌-◌, ◌*◌, ◌/◌, ◌%◌, ◌^◌, ◌≤◌, ◌<◌, min}
use native.Mathlib.Nat.{suc-mul, mod-lt, mul-le-mul_right, div-add-mod'}
use native.Mathlib.Numerals.{add-one}
use native.Mathlib.Omega.{arith}
use borrow.Author.Tests.{lt-ltb, le-ltb, ne_eqb, eq-eqb}
use lib.Arith.{digits_div, digits_mod}
use lib.Bits.{bit_xor}
use lib.Dec.{ltb, lit<}
use lib.Pow.{mod-pow-add, mod-mod-pow}
use lib.ListN.{length, get_or, take, drop}
use Rattle.laws.specs.Choice.{pick}
use Rattle.laws.proofs.Choice.{taken, left, either, stop, skip}
use Rattle.laws.proofs.Written.{Written, written_join, written_all}
use Rattle.word.specs.Word.{le_bytes}
use Rattle.rc4.specs.Rc4.{keyed, keystream_byte, enciphered, half, enciphered_halves}
use Rattle.rc4_office97.specs.Keys as office97
use Rattle.rc4_cryptoapi.specs.Keys as cryptoapi
use Rattle.block_keys.specs.declared.Kind.{Kind}
use Rattle.block_keys.specs.declared.Kind.TheVariants.{Office97, CryptoApi}
use Rattle.block_keys.specs.declared.Schedule.{Schedule}
use Rattle.block_keys.specs.BlockKeys.{key_by, block_key, keystream_at, deciphered_at, started_blocks, Decrypts}
use Rattle.block_keys.proofs.Parts.{written_by, lent_part, part_size}

-- the key takes a block's number by its four low bytes
low_byte : (n i k : ℕ) → 0 < 2 ^ k → n % 2 ^ (i + 8 + k) / 2 ^ k % 2 ^ 8 ≡ n / 2 ^ k % 2 ^ 8
low_byte n i k pos =
    ap (λ (m : ℕ). m / 2 ^ k % 2 ^ 8) (mod-pow-add n (i + 8) k)
    ∙ ap (λ (m : ℕ). m % 2 ^ 8) (digits_div (n / 2 ^ k % 2 ^ (i + 8)) (mod-lt n pos))
    ∙ mod-mod-pow (n / 2 ^ k) i 8

four_bytes : (n : ℕ) → le_bytes (n % 4294967296) ≡ le_bytes n
four_bytes n = rw (mod-mod-pow n 24 8, low_byte n 16 8 (lit< tt), low_byte n 8 16 (lit< tt), low_byte n 0 24 (lit< tt))

pub block_number : (s : Schedule) (n : ℕ) → block_key s (n % 4294967296) ≡ block_key s n
unfolding block_key office97.block_key cryptoapi.block_key
block_number s n = by_kind s.kind
  where
    by_kind : (k : Kind) → key_by k s.key_bits s.digest (n % 4294967296) ≡ key_by k s.key_bits s.digest n
    by_kind Office97 = rw (four_bytes n)
    by_kind CryptoApi = rw (four_bytes n)

-- an offset in a block
module _ (size : ℕ) (key_of : ℕ → List ℕ) (s : List ℕ) (block at o : ℕ) (e : at ≡ block * size) (h : at ≤ o) (k : o < at + size) where
  place : o ≡ block * size + (o - at)
  place = omega arith

  in_block : o - at < size
  in_block = omega arith

  pub block_byte : bit_xor (get_or s o 0) (keystream_byte (key_of block) (o - at)) ≡ deciphered_at size key_of s o
  unfolding keystream_at
  block_byte =
      let q : o / size ≡ block = ap (λ (n : ℕ). n / size) place ∙ digits_div block in_block in
      let r : o % size ≡ o - at = ap (λ (n : ℕ). n % size) place ∙ digits_mod block in_block in
      rw (q, r)

-- one block
module _ (key s d ys : List ℕ) (at end : ℕ) (le : at ≤ end) (hs : end ≤ length s) (hd : end ≤ length d)
    (a : ys ≡ enciphered (keyed key) (take (end - at) (drop at s)) (take (end - at) (drop at d))) where
  pub one_block : Written (λ (o : ℕ). bit_xor (get_or s o 0) (keystream_byte key (o - at))) at end d (take at d ++ (ys ++ drop (end - at) (drop at d)))
  one_block =
      let fs : at + (end - at) ≤ length s = omega arith in
      let fd : at + (end - at) ≤ length d = omega arith in
      let n : min (length (take (end - at) (drop at s))) (length (take (end - at) (drop at d))) ≡ end - at =
      rw (part_size s at (end - at) fs, part_size d at (end - at) fd) (least (end - at)) in
      let back : at + (end - at) ≡ end = omega arith in
      rw back at (lent_part (λ (i x : ℕ). bit_xor x (keystream_byte key i)) s d ys at (end - at) fs fd (rw n at a))
    where
      least : (n : ℕ) → min n n ≡ n
      least n = omega arith

-- two blocks side by side
module _ (key key' s d ys : List ℕ) (at size : ℕ) (hs : at + (size + size) ≤ length s) (hd : at + (size + size) ≤ length d)
    (a : ys ≡ enciphered_halves (keyed key) (keyed key') (take (at + (size + size) - at) (drop at s)) (take (at + (size + size) - at) (drop at d))) where
  pub two_blocks : Written (λ (o : ℕ). pick (ltb (o - at) size) (bit_xor (get_or s o 0) (keystream_byte key (o - at)))
      (bit_xor (get_or s o 0) (keystream_byte key' (o - at - size)))) at (at + (size + size)) d
      (take at d ++ (ys ++ drop (at + (size + size) - at) (drop at d)))
  two_blocks =
      let w : at + (size + size) - at ≡ size + size = omega arith in
      let h : half (take (size + size) (drop at s)) (take (size + size) (drop at d)) ≡ size =
      rw (part_size s at (size + size) hs, part_size d at (size + size) hd) (halved size) in
      rw w
      (lent_part (λ (i x : ℕ). pick (ltb i size) (bit_xor x (keystream_byte key i)) (bit_xor x (keystream_byte key' (i - size)))) s d ys at (size + size) hs hd
      (rw h at (rw w at a)))
    where
      halved : (n : ℕ) → min (n + n) (n + n) / 2 ≡ n
      halved n = omega arith

-- numbers of blocks
pub one_more : (b s : ℕ) → (b + 1) * s ≡ b * s + s
one_more b s = ap (λ (n : ℕ). n * s) (add-one b) ∙ suc-mul b s

pub two_more : (b s : ℕ) → (b + 2) * s ≡ b * s + (s + s)
two_more b s =
    let e : b + 2 ≡ b + 1 + 1 = omega arith in
    let h = one_more b s in
    ap (λ (n : ℕ). n * s) e ∙ one_more (b + 1) s ∙ (omega arith)

pub fewer : (b s : ℕ) → 1 ≤ s → b ≤ b * s
fewer zero s h = omega arith
fewer (suc b) s h = let k = fewer b s h in rw (suc-mul b s) (omega arith)

-- the blocks that n bytes start: as many as reach them, and no block more
module _ (size n : ℕ) (some : 1 ≤ size) where
  parts : n + (size - 1) ≡ started_blocks size n * size + (n + (size - 1)) % size
  unfolding started_blocks
  parts = sym (div-add-mod' (n + (size - 1)) size)

  rest : (n + (size - 1)) % size < size
  rest = mod-lt (n + (size - 1)) some

  -- a block is one of them exactly if it begins before the n-th byte
  pub begins : (i : ℕ) → i < started_blocks size n → i * size < n
  begins i h =
      let p = parts in
      let r = rest in
      let s : (i + 1) * size ≤ started_blocks size n * size = mul-le-mul_right size (omega arith) in
      let o = one_more i size in
      omega arith

  pub begun : (i : ℕ) → i * size < n → i < started_blocks size n
  begun i h =
      either (started_blocks size n) i
      (λ k. let p = parts in let r = rest in let s : started_blocks size n * size ≤ i * size = mul-le-mul_right size k in absurd (no p r s))
      (λ k. k)
    where
      no : n + (size - 1) ≡ started_blocks size n * size + (n + (size - 1)) % size → (n + (size - 1)) % size < size → started_blocks size n * size ≤ i * size → ⊥
      no p r s = omega arith

pub started_are : (size n b : ℕ) → n ≤ b * size → b * size < n + size → b ≡ started_blocks size n
unfolding started_blocks
started_are size n b h k =
    let r : ℕ = n + (size - 1) - b * size in
    let short : r < size = omega arith in
    let parts : n + (size - 1) ≡ b * size + r = omega arith in
    sym (ap (λ (m : ℕ). m / size) parts ∙ digits_div b short)

module _ (size : ℕ) (key_of : ℕ → List ℕ) (s d d₁ d₂ : List ℕ) (block at : ℕ) (e : at ≡ block * size) where
  -- what two blocks side by side wrote is the stream's
  pub pair_more : Written (deciphered_at size key_of s) 0 at d d₁
      → Written (λ (o : ℕ). pick (ltb (o - at) size) (bit_xor (get_or s o 0) (keystream_byte (key_of block) (o - at)))
      (bit_xor (get_or s o 0) (keystream_byte (key_of (block + 1)) (o - at - size)))) at (at + (size + size)) d₁ d₂
      → Written (deciphered_at size key_of s) 0 (at + (size + size)) d d₂
  pair_more v w =
      written_join (deciphered_at size key_of s) 0 at (at + (size + size)) d d₁ d₂ (omega arith) (omega arith) v
      (written_by (λ (o : ℕ). pick (ltb (o - at) size) (bit_xor (get_or s o 0) (keystream_byte (key_of block) (o - at)))
      (bit_xor (get_or s o 0) (keystream_byte (key_of (block + 1)) (o - at - size)))) (deciphered_at size key_of s) at (at + (size + size)) d₁ d₂
      (λ o h k.
      either size (o - at)
      (λ m. left _ _ (le-ltb (o - at) size m) ∙ second o (omega arith) (omega arith))
      (λ m. taken _ _ (lt-ltb (o - at) size m) ∙ block_byte size key_of s block at o e h (omega arith)))
      w)
    where
      second : (o : ℕ) → at + size ≤ o → o < at + size + size → bit_xor (get_or s o 0) (keystream_byte (key_of (block + 1)) (o - at - size)) ≡ deciphered_at size key_of s o
      second o h k =
          let g : at + size ≡ (block + 1) * size = ap (λ (n : ℕ). n + size) e ∙ sym (one_more block size) in
          let f : o - at - size ≡ o - (at + size) = omega arith in
          ap (λ (n : ℕ). bit_xor (get_or s o 0) (keystream_byte (key_of (block + 1)) n)) f ∙ block_byte size key_of s (block + 1) (at + size) o g h k

  -- what one block wrote is the stream's
  pub block_more : (from end : ℕ) → from ≤ at → at ≤ end → end ≤ at + size → Written (deciphered_at size key_of s) from at d d₁
      → Written (λ (o : ℕ). bit_xor (get_or s o 0) (keystream_byte (key_of block) (o - at))) at end d₁ d₂ → Written (deciphered_at size key_of s) from end d d₂
  block_more from end h k l v w =
      written_join (deciphered_at size key_of s) from at end d d₁ d₂ h k v
      (written_by (λ (o : ℕ). bit_xor (get_or s o 0) (keystream_byte (key_of block) (o - at))) (deciphered_at size key_of s) at end d₁ d₂
      (λ o p q. block_byte size key_of s block at o e p (omega arith)) w)

-- the whole
module _ (size : ℕ) (key_of : ℕ → List ℕ) (s d : List ℕ) where
  pub no_blocks : size ≡ 0 → Decrypts size key_of s d 0 d
  no_blocks e = record { bytes = stop _ (eq-eqb size 0 e); counted = stop _ (eq-eqb size 0 e) }

  pub all_blocks : (size ≡ 0 → ⊥) → (n b keys : ℕ) (d₁ d₂ : List ℕ) → n ≡ min (length s) (length d) → b * size ≤ n
      → Written (deciphered_at size key_of s) 0 (b * size) d d₁ → keys ≡ started_blocks size n → Written (deciphered_at size key_of s) (b * size) n d₁ d₂
      → Decrypts size key_of s d keys d₂
  all_blocks z n b keys d₁ d₂ e h v c w =
      let l : n ≤ length d = omega arith in
      record {
        bytes = skip d (ne_eqb size 0 z)
            (written_all (deciphered_at size key_of s) n d d₂ l (written_join (deciphered_at size key_of s) 0 (b * size) n d d₁ d₂ (omega arith) h v w) ∙ rw e);
        counted = skip 0 (ne_eqb size 0 z) (c ∙ ap (started_blocks size) e);
      }
