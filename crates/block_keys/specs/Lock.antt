-- The lock that a structure of type 1 tells: its family, key size and the places of its fields, or the first refusal of questions 12 to 26.
-- Assumes nothing.
use Rattle.std.specs.Prelude.{◌≡◌, ℕ, ◌+◌, false, List, ◌++◌, eqb, length, get_or, drop, replicate, nat_le, Option, None, Some, Result}
use Rattle.std.specs.Int.Bits.{bit_and}
use Rattle.laws.specs.Choice.{pick}
use Rattle.laws.specs.Offsets.{tabulate}
use Rattle.file_params.specs.declared.Refusal.{Refusal}
use Rattle.file_params.specs.Questions.{asked, unless, rc4, is_office97, header_flags, verifier_at}
use Rattle.password_digest.specs.Digest.{fits}
use Rattle.rc4_cryptoapi.specs.Parse.{key_bits}
use Rattle.block_keys.specs.declared.Kind.{Kind}
use Rattle.block_keys.specs.declared.Kind.TheVariants.{Office97, CryptoApi}
use Rattle.block_keys.specs.declared.Rc4Lock.{Rc4Lock}
use Rattle.block_keys.specs.declared.Schedule.{Schedule}
use Rattle.block_keys.specs.BlockKeys.{schedule_of}

-- document 01: the 1.1 structure is version, then salt, verifier and verifier hash of 16 each; in CryptoAPI, salt is at verifier byte 4, verifier at 20,
-- hash at 40. The summary is sealed under CryptoAPI with flag 08 clear.
abbrev pub office97_lock : Rc4Lock
office97_lock = record { kind = Office97; key_bits = 40; summary_sealed = false; salt = 4; verifier = 20; hash = 36 }

abbrev pub crypto_api_lock : List ℕ → Rc4Lock
crypto_api_lock structure =
    record {
      kind = CryptoApi;
      key_bits = key_bits structure;
      summary_sealed = eqb (bit_and (header_flags structure) 0x08) 0;
      salt = verifier_at structure + 4;
      verifier = verifier_at structure + 20;
      hash = verifier_at structure + 40;
    }

unfoldable pub lock_of : List ℕ → Rc4Lock
lock_of structure = pick (is_office97 structure) office97_lock (crypto_api_lock structure)

unfoldable pub scheme_of : List ℕ → Result Rc4Lock Refusal
scheme_of structure = unless (lock_of structure) (asked (rc4 structure))

-- the n bytes of a structure at an offset; 0 past its end
abbrev pub part : List ℕ → ℕ → ℕ → List ℕ
part structure at n = tabulate (λ (i : ℕ). get_or structure (at + i) 0) n

abbrev pub salt_of : List ℕ → List ℕ
salt_of structure = part structure (lock_of structure).salt 16

-- what making a schedule answers and leaves: a schedule where the scratch has 64 bytes and the text is well formed; those 64 bytes end zero
pub record Schedules (kind : Kind) (key_bits : ℕ) (salt password scratch : List ℕ) (made : Option Schedule) (scratch' : List ℕ) : Type 0 where
  pub scheduled : made ≡ pick (fits password scratch) (Some (schedule_of kind key_bits salt password)) None
  pub wiped : scratch' ≡ pick (nat_le 64 (length scratch)) (replicate 64 0 ++ drop 64 scratch) scratch
