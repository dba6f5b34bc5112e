-- Verifier, key and array, one step more of each: a byte of the password from its end, a bit of a character, a place of the array.
-- And the worked values of document 01 for the password `A`.
-- Assumes nothing.
use mathlib.Core.Path.{◌≡◌, refl, sym, ap, ◌∙◌}
use mathlib.Core.List.{List, [], ◌∷◌, ◌++◌, reverse}
use Rattle.std.specs.Prelude.{Some, None, true, false}
use Rattle.std.specs.List.{fold}
use Rattle.std.proofs.lemmas.List.{reverse-append}
use Rattle.std.proofs.lemmas.List.Sums.{fold-append}
use Prim.Native.Nat.{ℕ, ◌+◌, ◌-◌, ◌*◌, ◌/◌, ◌%◌, ◌^◌, ◌≤◌, ◌<◌, min}
use native.Mathlib.Numerals.{add-one}
use native.Mathlib.Omega.{arith}
use lib.Bits.{bit_xor}
use lib.Dec.{eqb}
use lib.ListN.{length, get_or, drop, length-drop, get_or-append}
use lib.Seq.{drop-cons, get_or-append-add, drop-length}
use Rattle.laws.specs.Choice.{pick, within}
use Rattle.laws.proofs.Choice.{stop, skip}
use Rattle.word.specs.Word.{rotr}
use Rattle.xor_obfuscation.specs.Xor.{initial_code, xor_matrix, verifier_step, walked, password_verifier, char_bits, key_from, xor_key, key_of, xor_array}

-- what is left of a list from n on starts with the element at n
from_here : (p : List ℕ) (n m : ℕ) → n + 1 ≡ m → m ≤ length p → drop n p ≡ get_or p n 0 ∷ drop m p
from_here p n m e h = drop-cons p n 0 (omega arith) ∙ ap (λ (k : ℕ). get_or p n 0 ∷ drop k p) (sym (add-one n) ∙ e)

-- the bytes of a list folded from the last to the first
fold_back : (p : List ℕ) → fold verifier_step 0 (reverse p) ≡ walked p
unfolding walked
fold_back [] = refl
fold_back (b ∷ bs) =
    ap (fold verifier_step 0) (reverse-append (b ∷ []) bs) ∙ fold-append verifier_step 0 (reverse bs) (b ∷ []) ∙ ap (λ (n : ℕ). verifier_step n b) (fold_back bs)

pub walked_back : (p : List ℕ) (v : ℕ) → v ≡ fold verifier_step 0 (reverse p) → v ≡ walked p
walked_back p v e = e ∙ fold_back p

pub verifier_whole : (p : List ℕ) (v b r : ℕ) → v ≡ walked p → b ≡ min (length p) 255 → r ≡ verifier_step v b → bit_xor r 0xCE4B ≡ password_verifier p
unfolding password_verifier walked
verifier_whole p v b r e g h = rw (h, e, g)

pub bits_more : (c element key k r n b : ℕ) → k ≡ char_bits c element key n → b ≡ c / 2 ^ (6 - n) % 2 → r ≡ pick (eqb b 1) (bit_xor k (get_or xor_matrix (element - n) 0)) k
    → r ≡ char_bits c element key (n + 1)
unfolding char_bits
bits_more c element key k r n b e g h = rw (add-one n) (h ∙ rw (g, e))

pub bits_none : (c element key : ℕ) → key ≡ char_bits c element key 0
unfolding char_bits
bits_none c element key = refl

pub key_more : (code : ℕ) (p : List ℕ) (n m key r element : ℕ) → n + 1 ≡ m → m ≤ length p → key ≡ key_from code (drop m p) → element ≡ 0x68 - (length p - m) * 7
    → r ≡ char_bits (get_or p n 0) element key 7 → r ≡ key_from code (drop n p)
unfolding key_from
key_more code p n m key r element e h q g d = d ∙ rw (from_here p n m e h, q, g, length-drop m p)

pub key_none : (code : ℕ) (p : List ℕ) → code ≡ key_from code (drop (length p) p)
unfolding key_from
key_none code p = rw (drop-length p)

-- the password and the padding behind it
pub source_low : (p q : List ℕ) (i : ℕ) → i < length p → get_or p i 0 ≡ get_or (p ++ q) i 0
source_low p q i h = sym (get_or-append p q 0 i h)

pub source_high : (p q : List ℕ) (i : ℕ) → length p ≤ i → get_or q (i - length p) 0 ≡ get_or (p ++ q) i 0
source_high p q i h =
    let e : i ≡ length p + (i - length p) = omega arith in
    sym (ap (λ (n : ℕ). get_or (p ++ q) n 0) e ∙ get_or-append-add p q (i - length p) 0)

-- document 01: the password `A`, whose array starts 2A 01 and ends DC
pub key_of_A : xor_key (0x41 ∷ []) ≡ 0xB915
unfolding key_from pick
key_of_A = refl

pub verifier_of_A : password_verifier (0x41 ∷ []) ≡ 0xCEC8
unfolding password_verifier
verifier_of_A = refl

pub array_of_A :
    xor_array (0x41 ∷ []) 0xB915
    ≡ 0x2A ∷ 0x01 ∷ 0x75 ∷ 0x23 ∷ 0xD7 ∷ 0x23 ∷ 0x75 ∷ 0x00 ∷ 0xCA ∷ 0xDC ∷ 0xD5 ∷ 0x5B ∷ 0x8A ∷ 0x03 ∷ 0x0D ∷ 0xDC ∷ []
unfolding xor_array rotr pick
array_of_A = refl

-- which passwords have a key
pub key_no : (p : List ℕ) → within 1 15 (length p) ≡ false → None ≡ key_of p
unfolding key_of
key_no p e = skip _ e refl

pub key_whole : (p : List ℕ) (r : ℕ) → within 1 15 (length p) ≡ true → r ≡ key_from (get_or initial_code (length p - 1) 0) p → Some r ≡ key_of p
unfolding key_of
key_whole p r e q = rw q (stop _ e)
