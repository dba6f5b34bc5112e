-- The blocks whose key opening derives: the list by its places, and that no other key matters. A byte of the stream lies in a block that the stream starts, and
-- the check uses block 0.
-- Assumes nothing.
use Rattle.std.specs.Prelude.{Option, None, Some}
use mathlib.Core.Path.{◌≡◌, refl, sym, ap, ◌∙◌}
use mathlib.Core.Bool.{Bool, true, false}
use mathlib.Core.List.{List, [], ◌∷◌}
use Prim.Native.Nat.{ℕ, suc, ◌+◌, ◌/◌, ◌%◌, ◌<◌}
use native.Mathlib.Numerals.{add-one}
use native.Mathlib.Omega.{arith}
use borrow.Author.Tests.{eq-eqb, ne_eqb}
use lib.Bits.{bit_xor}
use lib.Dec.{eqb}
use lib.ListN.{length, get_or}
use Rattle.laws.specs.Choice.{pick}
use Rattle.laws.specs.Offsets.{tabulate, map_at}
use Rattle.laws.proofs.Choice.{taken, left}
use Rattle.laws.proofs.Offsets.{length_tabulate, get_d_tabulate}
use Rattle.sensitive.specs.Ansi.{ansi}
use Rattle.rc4.specs.Rc4.{keystream_byte}
use Rattle.binary_office.specs.declared.BiffRecord.{BiffRecord}
use Rattle.binary_office.specs.Walk.{walk}
use Rattle.file_params.specs.Questions.{filepass, filepass_body, type_of, structure_of}
use Rattle.block_keys.specs.declared.Kind.{Kind}
use Rattle.block_keys.specs.declared.Kind.TheVariants.{Office97, CryptoApi}
use Rattle.block_keys.specs.BlockKeys.{schedule_of, block_key, keystream_at, started_blocks, digest_by, digest_len, agree, under, verified}
use Rattle.block_keys.specs.Lock.{lock_of, part, salt_of}
use Rattle.block_keys.proofs.Blocks.{begins, begun}
use Rattle.xor_obfuscation.specs.declared.Way.TheVariants.{Decrypt}
use Rattle.excel97.specs.Open.{xor_matches, rc4_matches, array_of, xor_byte, rc4_byte, keystream, passes, plain_byte, record_at, in_record, blanked, plain_at, plain}
use Rattle.forecast.specs.Theorems.{own_or, by_place, keyed, passes_by, plain_by, keys_by, NoKeysUsed, KeysUsed}

-- the plain byte by its place
pub by_place_lem : (stream password : List ℕ) (offset x : ℕ)
    → plain_at stream password offset x ≡ by_place stream offset 0 x (λ (r : BiffRecord). plain_byte (filepass_body stream) password r offset x)
unfolding plain_at
by_place_lem stream password offset x =
    ap (λ (n : ℕ). pick (blanked (filepass (walk stream).records) offset) 0 n) (go (record_at (walk stream).records offset))
  where
    go : (o : Option BiffRecord)
        → in_record (plain_byte (filepass_body stream) password) o offset x ≡ own_or o offset x (λ (r : BiffRecord). plain_byte (filepass_body stream) password r offset x)
    go None = refl
    go (Some r) = refl

-- two ways of deciphering that agree
same_place : (stream : List ℕ) (offset x : ℕ) (f g : BiffRecord → ℕ) → ((r : BiffRecord) → f r ≡ g r) → by_place stream offset 0 x f ≡ by_place stream offset 0 x g
same_place stream offset x f g h =
    ap (λ (n : ℕ). pick (blanked (filepass (walk stream).records) offset) 0 n) (go (record_at (walk stream).records offset))
  where
    go : (o : Option BiffRecord) → own_or o offset x f ≡ own_or o offset x g
    go None = refl
    go (Some r) = rw (h r)

-- two functions that agree on the offsets of a list
same_map : (f g : ℕ → ℕ → ℕ) (i : ℕ) (xs : List ℕ) → ((o x : ℕ) → o < i + length xs → f o x ≡ g o x) → map_at f i xs ≡ map_at g i xs
unfolding map_at
same_map f g i [] h = refl
same_map f g i (x ∷ xs) h =
    let here : f i x ≡ g i x = h i x (more i (length xs)) in
    let rest = same_map f g (suc i) xs (λ o y k. h o y (below o i (length xs) k)) in
    rw (here, rest)
  where
    more : (i n : ℕ) → i < i + suc n
    more i n = omega arith

    below : (o i n : ℕ) → o < suc i + n → o < i + suc n
    below o i n k = omega arith

-- the check, by its family
check_by : (k : Kind) (bits : ℕ) (salt password v h : List ℕ)
    → let key = block_key (schedule_of k bits salt password) 0 in
    verified (schedule_of k bits salt password) v h ≡ agree (digest_by k (under key 0 v 16)) (under key 16 h (digest_len k)) (digest_len k)
unfolding verified
check_by Office97 bits salt password v h = refl
check_by CryptoApi bits salt password v h = refl

module _ (s : List ℕ) where
  abbrev body : List ℕ
  body = filepass_body s

  abbrev blocks : ℕ
  blocks = started_blocks 1024 (length s)

  pub keys_counted : length (keyed s) ≡ pick (eqb (type_of body) 0) 0 (1 + blocks)
  unfolding keyed pick
  keys_counted = go (eqb (type_of body) 0)
    where
      go : (t : Bool) → length (pick t [] (0 ∷ tabulate (λ (b : ℕ). b) blocks)) ≡ pick t 0 (1 + blocks)
      go true = refl
      go false = ap suc (length_tabulate (λ (b : ℕ). b) blocks) ∙ sym (add-one blocks) ∙ swap blocks
        where
          swap : (n : ℕ) → n + 1 ≡ 1 + n
          swap n = omega arith

  -- under XOR
  module _ (z : type_of body ≡ 0) where
    xor_byte_lem : (password : List ℕ) (r : BiffRecord) (o x : ℕ) → plain_byte body password r o x ≡ xor_byte Decrypt (array_of (ansi password)) r o x
    unfolding plain_byte
    xor_byte_lem password r o x = taken (xor_byte Decrypt (array_of (ansi password)) r o x) (rc4_byte (structure_of body) password o x) (eq-eqb (type_of body) 0 z)

    xor_check : (password : List ℕ) → passes body password ≡ xor_matches body (ansi password)
    unfolding passes
    xor_check password = taken (xor_matches body (ansi password)) (rc4_matches (structure_of body) password) (eq-eqb (type_of body) 0 z)

    xor_plain : (password : List ℕ)
        → plain s password ≡ map_at (λ (o x : ℕ). by_place s o 0 x (λ (r : BiffRecord). xor_byte Decrypt (array_of (ansi password)) r o x)) 0 s
    unfolding plain
    xor_plain password =
        same_map (plain_at s password) _ 0 s
        (λ o x k. by_place_lem s password o x ∙ same_place s o x _ (λ (r : BiffRecord). xor_byte Decrypt (array_of (ansi password)) r o x) (λ r. xor_byte_lem password r o x))

    none_listed : keyed s ≡ []
    unfolding keyed
    none_listed = taken [] (0 ∷ tabulate (λ (b : ℕ). b) blocks) (eq-eqb (type_of body) 0 z)

    pub no_keys_used : NoKeysUsed s
    no_keys_used = record { none_derived = none_listed; passes_is = xor_check; plain_is = xor_plain }

  module _ (f : type_of body ≡ 0 → ⊥) where
    listed : keyed s ≡ 0 ∷ tabulate (λ (b : ℕ). b) blocks
    unfolding keyed
    listed = left [] (0 ∷ tabulate (λ (b : ℕ). b) blocks) (ne_eqb (type_of body) 0 f)

    many : length (keyed s) ≡ blocks + 1
    many = ap length listed ∙ ap suc (length_tabulate (λ (b : ℕ). b) blocks) ∙ sym (add-one blocks)

    placed : (i : ℕ) → i < blocks → get_or (keyed s) (i + 1) 0 ≡ i
    placed i h = rw (listed, add-one i) (get_d_tabulate (λ (b : ℕ). b) blocks i 0 h)

    by_check : (password : List ℕ) → passes body password ≡ passes_by (keys_by (structure_of body) password) (structure_of body)
    unfolding passes
    by_check password =
        let l = lock_of (structure_of body) in
        left (xor_matches body (ansi password)) (rc4_matches (structure_of body) password) (ne_eqb (type_of body) 0 f)
        ∙ check_by l.kind l.key_bits (salt_of (structure_of body)) password (part (structure_of body) l.verifier 16) (part (structure_of body) l.hash 20)

    byte_by : (password : List ℕ) (r : BiffRecord) (o x : ℕ)
        → plain_byte body password r o x ≡ bit_xor x (keystream_byte (keys_by (structure_of body) password (o / 1024)) (o % 1024))
    unfolding plain_byte keystream keystream_at
    byte_by password r o x = left (xor_byte Decrypt (array_of (ansi password)) r o x) (rc4_byte (structure_of body) password o x) (ne_eqb (type_of body) 0 f)

    by_keys : (password : List ℕ) → plain s password ≡ plain_by (keys_by (structure_of body) password) s
    unfolding plain
    by_keys password =
        same_map (plain_at s password) _ 0 s
        (λ o x k. by_place_lem s password o x
        ∙ same_place s o x _ (λ (r : BiffRecord). bit_xor x (keystream_byte (keys_by (structure_of body) password (o / 1024)) (o % 1024)))
        (λ r. byte_by password r o x))

    module _ (j k : ℕ → List ℕ) (agreed : (i : ℕ) → i < length (keyed s) → j (get_or (keyed s) i 0) ≡ k (get_or (keyed s) i 0)) where
      first_key : j 0 ≡ k 0
      first_key = rw listed at (agreed 0 (rw many (positive blocks)))
        where
          positive : (n : ℕ) → 0 < n + 1
          positive n = omega arith

      block_key_lem : (b : ℕ) → b < blocks → j b ≡ k b
      block_key_lem b h = rw (placed b h) at (agreed (b + 1) (rw many (omega arith)))

      same_plain : plain_by j s ≡ plain_by k s
      same_plain =
          same_map _ _ 0 s
          (λ o x h. let in_block : o / 1024 < blocks = begun 1024 (length s) (omega arith) (o / 1024) (omega arith) in
          same_place s o x _ _ (λ r. ap (λ (key : List ℕ). bit_xor x (keystream_byte key (o % 1024))) (block_key_lem (o / 1024) in_block)))

    pub keys_used : KeysUsed s
    keys_used =
        record {
          check = rw listed refl;
          started = λ i h. let m = many in let n : i < blocks = omega arith in (placed i n, begins 1024 (length s) (omega arith) i n);
          all_started = λ b h. let n = begun 1024 (length s) (omega arith) b h in rw many (omega arith);
          passes_is = by_check;
          plain_is = by_keys;
          only = λ j k agreed. (rw (first_key j k agreed) refl, same_plain j k agreed);
        }
