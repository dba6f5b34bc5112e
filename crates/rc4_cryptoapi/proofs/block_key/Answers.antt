-- `rc4_cryptoapi::block_key` meets its contract: the two kinds of key go by the key size.
-- Assumes nothing.
use mathlib.Core.Path.{◌≡◌, sym, ◌∙◌}
use mathlib.Core.Bool.{true, false}
use mathlib.Core.List.{List, ◌++◌, append-nil}
use Prim.Native.Nat.{ℕ, ◌-◌, ◌/◌}
use lib.ListN.{take, replicate}
use Rattle.laws.specs.Choice.{within}
use Rattle.sensitive.specs.Derived.{derived}
use Rattle.rc4_cryptoapi.specs.Keys.{hfinal, block_key}
use Rattle.rc4_cryptoapi.proofs.Laws.{key_long, key_forty, length_long, length_forty}
use Rattle.rc4_cryptoapi.proofs.block_key.Goals as goal

module _ (h0 : List ℕ) (bits block : ℕ) (hash bytes : List ℕ) (g : hash ≡ hfinal h0 block) where
  long : within 48 128 bits ≡ true → bytes ≡ take (bits / 8) hash ++ replicate (16 - bits / 8) 0
      → record { bytes = bytes; len = bits / 8 } ≡ derived (block_key h0 bits block)
  long e f = rw (key_long h0 bits block e, length_long h0 bits block e, f, g)

  forty : within 48 128 bits ≡ false → bytes ≡ take 5 hash ++ replicate 11 0 → record { bytes = bytes; len = 16 } ≡ derived (block_key h0 bits block)
  forty e f = rw (key_forty h0 bits block e, length_forty h0 bits block, append-nil (take 5 (hfinal h0 block) ++ replicate 11 0), f, g)

pub returns-then-long_key : goal.returns-then-long_key
returns-then-long_key c = long c.args.h0 c.args.key_bits c.args.block c.final_hash-hash.result c.head-bytes.result c.final_hash-hash.ensures (sym c.long_key.ensures ∙ c.if-long_key.true) c.head-bytes.ensures

pub returns : goal.returns
returns c = forty c.args.h0 c.args.key_bits c.args.block c.final_hash-hash.result c.head-bytes-2.result c.final_hash-hash.ensures (sym c.long_key.ensures ∙ c.if-long_key.false) c.head-bytes-2.ensures
