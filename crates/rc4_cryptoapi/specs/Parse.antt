-- A CryptoAPI structure, read: MS-OFFCRYPTO 2.3.5.1 with 2.3.2 and 2.3.3, as document 01's questions 15 to 26 have it.
-- Assumes nothing.
use Rattle.std.specs.Prelude.{ℕ, ◌+◌, List, eqb, Result}
use Rattle.laws.specs.Choice.{pick}
use Rattle.file_params.specs.declared.Refusal.{Refusal}
use Rattle.file_params.specs.Questions.{asked, unless, crypto_api, header_flags, key_size, verifier_at}
use Rattle.rc4_cryptoapi.specs.declared.CryptoApiHeader.{CryptoApiHeader}

-- the key size in bits; zero means 40
abbrev pub key_bits : List ℕ → ℕ
key_bits structure = pick (eqb (key_size structure) 0) 40 (key_size structure)

-- what a structure tells: the key size, the flags, and the places of the salt at verifier byte 4, the verifier at 20 and its hash at 40
abbrev pub header : List ℕ → CryptoApiHeader
header structure =
    record {
      key_bits = key_bits structure;
      flags = header_flags structure;
      salt = verifier_at structure + 4;
      encrypted_verifier = verifier_at structure + 20;
      encrypted_verifier_hash = verifier_at structure + 40;
    }

-- that, or the first refusal
unfoldable pub parsed : List ℕ → Result CryptoApiHeader Refusal
parsed structure = unless (header structure) (asked (crypto_api structure))
