-- XOR obfuscation, Method 1: MS-OFFCRYPTO 2.3.7.1 to 2.3.7.3, with the tables and steps that document 01 takes from xor_obfuscation.rs.
-- Assumes nothing.
use Rattle.std.specs.Prelude.{◌≡◌, ℕ, zero, suc, ◌+◌, ◌-◌, ◌*◌, ◌/◌, ◌%◌, ◌^◌, min, List, [], ◌∷◌, ◌++◌, Option, Some, None, eqb, leb, length, get_or, drop}
use Rattle.std.specs.Int.Bits.{bit_or, bit_xor}
use Rattle.laws.specs.Choice.{pick, within}
use Rattle.laws.specs.Offsets.{tabulate}
use Rattle.word.specs.Word.{rotl, rotr}
use Rattle.xor_obfuscation.specs.declared.Way.{Way}
use Rattle.xor_obfuscation.specs.declared.Way.TheVariants.{Decrypt, Encrypt}

-- 2.3.7.2: PadArray, InitialCode and XorMatrix, the matrix a row for each of 15 characters
abbrev pub pad_array : List ℕ
pad_array =
    0xBB ∷ 0xFF ∷ 0xFF ∷ 0xBA ∷ 0xFF ∷ 0xFF ∷ 0xB9 ∷ 0x80 ∷ 0x00 ∷ 0xBE ∷ 0x0F ∷ 0x00 ∷ 0xBF ∷ 0x0F ∷ 0x00 ∷ []

abbrev pub initial_code : List ℕ
initial_code =
    0xE1F0 ∷ 0x1D0F ∷ 0xCC9C ∷ 0x84C0 ∷ 0x110C ∷ 0x0E10 ∷ 0xF1CE ∷ 0x313E
    ∷ 0x1872 ∷ 0xE139 ∷ 0xD40F ∷ 0x84F9 ∷ 0x280C ∷ 0xA96A ∷ 0x4EC3 ∷ []

abbrev pub xor_matrix : List ℕ
xor_matrix =
    0xAEFC ∷ 0x4DD9 ∷ 0x9BB2 ∷ 0x2745 ∷ 0x4E8A ∷ 0x9D14 ∷ 0x2A09
    ∷ 0x7B61 ∷ 0xF6C2 ∷ 0xFDA5 ∷ 0xEB6B ∷ 0xC6F7 ∷ 0x9DCF ∷ 0x2BBF
    ∷ 0x4563 ∷ 0x8AC6 ∷ 0x05AD ∷ 0x0B5A ∷ 0x16B4 ∷ 0x2D68 ∷ 0x5AD0
    ∷ 0x0375 ∷ 0x06EA ∷ 0x0DD4 ∷ 0x1BA8 ∷ 0x3750 ∷ 0x6EA0 ∷ 0xDD40
    ∷ 0xD849 ∷ 0xA0B3 ∷ 0x5147 ∷ 0xA28E ∷ 0x553D ∷ 0xAA7A ∷ 0x44D5
    ∷ 0x6F45 ∷ 0xDE8A ∷ 0xAD35 ∷ 0x4A4B ∷ 0x9496 ∷ 0x390D ∷ 0x721A
    ∷ 0xEB23 ∷ 0xC667 ∷ 0x9CEF ∷ 0x29FF ∷ 0x53FE ∷ 0xA7FC ∷ 0x5FD9
    ∷ 0x47D3 ∷ 0x8FA6 ∷ 0x0F6D ∷ 0x1EDA ∷ 0x3DB4 ∷ 0x7B68 ∷ 0xF6D0
    ∷ 0xB861 ∷ 0x60E3 ∷ 0xC1C6 ∷ 0x93AD ∷ 0x377B ∷ 0x6EF6 ∷ 0xDDEC
    ∷ 0x45A0 ∷ 0x8B40 ∷ 0x06A1 ∷ 0x0D42 ∷ 0x1A84 ∷ 0x3508 ∷ 0x6A10
    ∷ 0xAA51 ∷ 0x4483 ∷ 0x8906 ∷ 0x022D ∷ 0x045A ∷ 0x08B4 ∷ 0x1168
    ∷ 0x76B4 ∷ 0xED68 ∷ 0xCAF1 ∷ 0x85C3 ∷ 0x1BA7 ∷ 0x374E ∷ 0x6E9C
    ∷ 0x3730 ∷ 0x6E60 ∷ 0xDCC0 ∷ 0xA9A1 ∷ 0x4363 ∷ 0x86C6 ∷ 0x1DAD
    ∷ 0x3331 ∷ 0x6662 ∷ 0xCCC4 ∷ 0x89A9 ∷ 0x0373 ∷ 0x06E6 ∷ 0x0DCC
    ∷ 0x1021 ∷ 0x2042 ∷ 0x4084 ∷ 0x8108 ∷ 0x1231 ∷ 0x2462 ∷ 0x48C4 ∷ []

-- document 01: within each row of seven, every entry follows from the one before: doubled in 16 bits, then exclusive-or 1021 if the top bit fell off
abbrev pub doubled : ℕ → ℕ
doubled x = bit_xor ((x * 2) % 2 ^ 16) (pick (leb 0x8000 x) 0x1021 0)

-- 2.3.7.1: a byte of the password array, taken in reverse order. Intermediate1 is the bit 4000, Intermediate2 twice the verifier with its top bit cleared.
abbrev pub verifier_step : ℕ → ℕ → ℕ
verifier_step v b = bit_xor (bit_or (v / 2 ^ 14 % 2) ((v * 2) % 2 ^ 15)) b

unfoldable pub walked : List ℕ → ℕ
walked [] = 0
walked (b ∷ bs) = verifier_step (walked bs) b

-- the password array is the password behind its length in one byte, which is 255 for any greater length
unfoldable pub password_verifier : List ℕ → ℕ
unfolding walked
password_verifier p = bit_xor (walked (min (length p) 255 ∷ p)) 0xCE4B

-- 2.3.7.2: the first n of a character's seven bits, from bit 40 down, and of the matrix from an element down
unfoldable pub char_bits : ℕ → ℕ → ℕ → ℕ → ℕ
unfolding pick
char_bits c element key zero = key
char_bits c element key (suc n) =
    let k = char_bits c element key n in
    pick (eqb (c / 2 ^ (6 - n) % 2) 1) (bit_xor k (get_or xor_matrix (element - n) 0)) k

-- the characters in reverse order, the elements from 68 down, seven for each
unfoldable pub key_from : ℕ → List ℕ → ℕ
unfolding char_bits
key_from code [] = code
key_from code (c ∷ cs) = char_bits c (0x68 - length cs * 7) (key_from code cs) 7

abbrev pub xor_key : List ℕ → ℕ
xor_key p = key_from (get_or initial_code (length p - 1) 0) p

-- a password of 1 to 15 bytes has a key
unfoldable pub key_of : List ℕ → Option ℕ
unfolding pick
key_of p = pick (within 1 15 (length p)) (Some (xor_key p)) None

-- 2.3.7.2: the password and then PadArray, exclusive-or the key's low byte at even and its high byte at odd places, rotated right by one bit
abbrev pub xor_array_at : List ℕ → ℕ → ℕ → ℕ
xor_array_at p key i = rotr 8 1 (bit_xor (get_or (p ++ pad_array) i 0) (pick (eqb (i % 2) 1) (key / 2 ^ 8 % 2 ^ 8) (key % 2 ^ 8)))

unfoldable pub xor_array : List ℕ → ℕ → List ℕ
unfolding tabulate
xor_array p key = tabulate (xor_array_at p key) 16

-- 2.3.7.3, DecryptData_Method1: a byte is exclusive-or'd with the array, then rotated right by five bits; the first uses the array's index, each later one the
-- next, modulo 16
abbrev pub deciphered : List ℕ → ℕ → ℕ → ℕ → ℕ
deciphered array index o x = rotr 8 5 (bit_xor x (get_or array ((index + o) % 16) 0))

-- 2.3.7.3, EncryptData_Method1: a byte is rotated left by five bits, then exclusive-or'd with the array, at the same places of it
abbrev pub enciphered : List ℕ → ℕ → ℕ → ℕ → ℕ
enciphered array index o x = bit_xor (rotl 8 5 x) (get_or array ((index + o) % 16) 0)

-- a byte put through the one or the other
abbrev pub transformed : Way → List ℕ → ℕ → ℕ → ℕ → ℕ
transformed Decrypt array index o x = deciphered array index o x
transformed Encrypt array index o x = enciphered array index o x

-- the byte of s at an offset
abbrev pub transformed_at : Way → List ℕ → ℕ → List ℕ → ℕ → ℕ
transformed_at way array index s o = transformed way array index o (get_or s o 0)

-- the same for a byte and the array's byte for it
abbrev pub ciphered : Way → ℕ → ℕ → ℕ
ciphered Decrypt x k = rotr 8 5 (bit_xor x k)
ciphered Encrypt x k = bit_xor (rotl 8 5 x) k

-- the array twice over: from each of its places on there are 16 bytes of it in order
abbrev pub twice_over : List ℕ → List ℕ
twice_over array = tabulate (λ (n : ℕ). get_or array (n % 16) 0) 32

-- what putting s through into d leaves: as many bytes as both have room for
pub record Transforms (way : Way) (array : List ℕ) (index : ℕ) (s d d' : List ℕ) : Type 0 where
  pub bytes : d' ≡ tabulate (λ (o : ℕ). transformed way array index o (get_or s o 0)) (min (length s) (length d)) ++ drop (min (length s) (length d)) d
