-- What requests T-04 and T-05 of document 02 say of the forecast, sentence by sentence: of the definition, and of any run that the contract of Open allows.
-- Assumes nothing.
use Rattle.std.specs.Prelude.{◌≡◌, ℕ, zero, suc, ◌+◌, ◌*◌, ◌/◌, ◌%◌, ◌≤◌, ◌<◌, Bool, true, false, List, [], ◌∷◌, ◌++◌, eqb, length, get_or, Option, None, Some, Ok, Err, Result}
use Rattle.std.specs.Int.Bits.{bit_xor}
use Rattle.laws.specs.Choice.{pick}
use Rattle.laws.specs.Offsets.{tabulate, map_at}
use Rattle.sensitive.specs.Utf8.{well_formed}
use Rattle.sensitive.specs.Ansi.{ansi}
use Rattle.rc4.specs.Rc4.{keystream_byte}
use Rattle.binary_office.specs.declared.BiffRecord.{BiffRecord}
use Rattle.binary_office.specs.Walk.{zero_bytes, walk, remainder}
use Rattle.file_params.specs.declared.Refusal.{Refusal}
use Rattle.file_params.specs.Refusal.{number}
use Rattle.file_params.specs.Questions.{filepass, filepass_body, type_of, structure_of, is_office97, is_crypto_api}
use Rattle.file_params.specs.Numbers.{numbers}
use Rattle.block_keys.specs.BlockKeys.{schedule_of, block_key, started_blocks, digest_by, digest_len, agree, under}
use Rattle.block_keys.specs.Lock.{lock_of, part, salt_of}
use Rattle.survey.specs.Survey.{enciphered_bytes, block_keys, alone}
use Rattle.xor_obfuscation.specs.declared.Way.TheVariants.{Decrypt}
use Rattle.excel97.specs.declared.Report.{Report}
use Rattle.excel97.specs.Open.{xor_matches, array_of, xor_byte, passes, plain_byte, record_at, in_header_or_clear, blanked, plain_at, plain, Opens}
use Rattle.forecast.specs.declared.Counts.{Counts}
use Rattle.forecast.specs.Forecast.{forecast}

-- Where a byte of the plain stream comes from: the definition of the plain byte, with its three answers left open. An offset is zeroed, or it keeps the
-- stream's own byte, or its byte is deciphered as one of the record there.
abbrev pub own_or : {A : Type 0} → Option BiffRecord → (offset : ℕ) → (own : A) → (deciphered : BiffRecord → A) → A
own_or None offset own deciphered = own
own_or (Some r) offset own deciphered = pick (in_header_or_clear r offset) own (deciphered r)

abbrev pub by_place : {A : Type 0} → (stream : List ℕ) → (offset : ℕ) → (zeroed own : A) → (deciphered : BiffRecord → A) → A
by_place stream offset zeroed own deciphered =
    let records = (walk stream).records in
    pick (blanked (filepass records) offset) zeroed (own_or (record_at records offset) offset own deciphered)

-- whether it is deciphered
unfoldable pub deciphers : (stream : List ℕ) → (offset : ℕ) → Bool
deciphers stream offset = by_place stream offset false false (λ (r : BiffRecord). true)

-- how many offsets below n pass a test
unfoldable pub count : (ℕ → Bool) → (n : ℕ) → ℕ
count p zero = 0
count p (suc n) = count p n + pick (p n) 1 0

-- the blocks whose key opening derives: none under XOR; under RC4 block 0 for the check, then each block that the stream starts
unfoldable pub keyed : (stream : List ℕ) → List ℕ
keyed stream = pick (eqb (type_of (filepass_body stream)) 0) [] (0 ∷ tabulate (λ (block : ℕ). block) (started_blocks 1024 (length stream)))

-- the check and the plain stream under RC4, with the keys of the blocks left open
abbrev pub passes_by : (key_of : ℕ → List ℕ) → (structure : List ℕ) → Bool
passes_by key_of structure =
    let l = lock_of structure in
    let n = digest_len l.kind in
    agree (digest_by l.kind (under (key_of 0) 0 (part structure l.verifier 16) 16)) (under (key_of 0) 16 (part structure l.hash 20) n) n

abbrev pub plain_by : (key_of : ℕ → List ℕ) → (stream : List ℕ) → List ℕ
plain_by key_of stream =
    map_at (λ (offset x : ℕ). by_place stream offset 0 x (λ (r : BiffRecord). bit_xor x (keystream_byte (key_of (offset / 1024)) (offset % 1024)))) 0 stream

-- the keys that opening derives from a password
abbrev pub keys_by : (structure password : List ℕ) → (block : ℕ) → List ℕ
keys_by structure password = let l = lock_of structure in block_key (schedule_of l.kind l.key_bits (salt_of structure) password)

-- the four, as counts in the definition of opening
pub record AreCounts (stream : List ℕ) (c : Counts) : Type 0 where
  -- "output bytes": the length of the plain stream
  pub output : (password : List ℕ) → c.output_bytes ≡ length (plain stream password)
  -- "records": those of the walk
  pub records : c.records ≡ length (walk stream).records
  -- "enciphered body bytes (body lengths less clear parts, summed)": the offsets at which the definition of the plain stream deciphers
  pub enciphered : c.enciphered_body_bytes ≡ count (deciphers stream) (length stream)
  pub summed : c.enciphered_body_bytes ≡ enciphered_bytes (walk stream).records
  -- "block keys derived": the length of the list of blocks whose key opening derives
  pub keys : c.block_keys ≡ length (keyed stream)
  -- "the enciphered bytes and four for each record, together, are proved never to pass the stream's length"; with the padding too (T-05)
  pub within : c.enciphered_body_bytes + 4 * c.records + length (remainder stream) ≤ length stream

-- "Open on success reports the same four"
pub record SameCounts (c : Counts) (x : Report) : Type 0 where
  pub output : c.output_bytes ≡ x.output_bytes
  pub records : c.records ≡ x.records
  pub enciphered : c.enciphered_body_bytes ≡ x.enciphered_body_bytes
  pub keys : c.block_keys ≡ x.block_keys

-- "Keys are 0 under XOR": the list is empty, and in the check and the plain stream of the definition no key of a block occurs
pub record NoKeysUsed (stream : List ℕ) : Type 0 where
  pub none_derived : keyed stream ≡ []
  pub passes_is : (password : List ℕ) → passes (filepass_body stream) password ≡ xor_matches (filepass_body stream) (ansi password)
  pub plain_is : (password : List ℕ)
      → plain stream password ≡ map_at (λ (offset x : ℕ). by_place stream offset 0 x (λ (r : BiffRecord). xor_byte Decrypt (array_of (ansi password)) r offset x)) 0 stream

-- "under RC4 they are one for the check and one for each started 1,024 bytes": what the list of blocks has to do with opening
pub record KeysUsed (stream : List ℕ) : Type 0 where
  -- block 0 for the check, then each block that the stream starts and no other, in order
  pub check : get_or (keyed stream) 0 1 ≡ 0
  pub started : (i : ℕ) → i + 1 < length (keyed stream) → (get_or (keyed stream) (i + 1) 0 ≡ i) × (i * 1024 < length stream)
  pub all_started : (block : ℕ) → block * 1024 < length stream → block + 1 < length (keyed stream)
  -- the definition of opening, by the keys of the blocks
  pub passes_is : (password : List ℕ) → passes (filepass_body stream) password ≡ passes_by (keys_by (structure_of (filepass_body stream)) password) (structure_of (filepass_body stream))
  pub plain_is : (password : List ℕ) → plain stream password ≡ plain_by (keys_by (structure_of (filepass_body stream)) password) stream
  -- every keystream byte that it uses comes from the key of a block in the list: keys that agree on those blocks give the same check and the same plain stream
  pub only : (j k : ℕ → List ℕ) → ((i : ℕ) → i < length (keyed stream) → j (get_or (keyed stream) i 0) ≡ k (get_or (keyed stream) i 0))
      → let structure = structure_of (filepass_body stream) in
      (passes_by j structure ≡ passes_by k structure) × (plain_by j stream ≡ plain_by k stream)

-- "Streams refused by questions 4 and 6 to 26 are refused likewise": a forecast beside the answer of Open
pub record SameRefusals (f : Result Counts Refusal) (a : Result Report Refusal) : Type 0 where
  pub to : (r : Refusal) → f ≡ Err r → (a ≡ Err r) × (number r ≡ 27 → ⊥)
  pub from : (r : Refusal) → a ≡ Err r → (number r ≡ 27 → ⊥) → f ≡ Err r

-- the numbers of the questions that are asked: 12 and 13 for type 1 only, 14 for version 1.1 only, 15 to 26 for CryptoAPI only
abbrev pub expected : (type_1 is_1_1 is_api : Bool) → List ℕ
expected type_1 is_1_1 is_api =
    4 ∷ 6 ∷ 7 ∷ 8 ∷ 9 ∷ 10 ∷ 10 ∷ 11
    ∷ pick type_1 (12 ∷ 13 ∷ (pick is_1_1 (14 ∷ []) [] ++ pick is_api (15 ∷ 16 ∷ 17 ∷ 18 ∷ 19 ∷ 20 ∷ 21 ∷ 22 ∷ 23 ∷ 24 ∷ 25 ∷ 26 ∷ []) [])) []

-- document 02, T-05: "the directory and forecast accept it; output bytes and block keys count it": the forecast of a book with n bytes of padding behind it, by
-- the forecast of the book
abbrev pub padded_forecast : (stream : List ℕ) → (n : ℕ) → Result Counts Refusal → Result Counts Refusal
padded_forecast stream n (Ok c) =
    Ok
    (record {
      output_bytes = c.output_bytes + n;
      records = c.records;
      enciphered_body_bytes = c.enciphered_body_bytes;
      block_keys = block_keys (filepass_body stream) (c.output_bytes + n);
    })
padded_forecast stream n (Err r) = Err r

pub record Forecasts : Type 0 where
  -- `by_place` is the definition of the plain byte
  pub places : (stream password : List ℕ) (offset x : ℕ)
      → plain_at stream password offset x ≡ by_place stream offset 0 x (λ (r : BiffRecord). plain_byte (filepass_body stream) password r offset x)
  pub counts : (stream : List ℕ) (c : Counts) → forecast stream ≡ Ok c → AreCounts stream c
  pub under_xor : (stream : List ℕ) → type_of (filepass_body stream) ≡ 0 → NoKeysUsed stream
  pub under_rc4 : (stream : List ℕ) → (type_of (filepass_body stream) ≡ 0 → ⊥) → KeysUsed stream
  -- of any run that opens the stream
  pub of_any_run : (stream password scratch output : List ℕ) (x : Report) (scratch' output' : List ℕ)
      → Opens stream password scratch output (Ok x) scratch' output'
      → (c : Counts) × (forecast stream ≡ Ok c) × SameCounts c x
  -- of any run that is lent enough and given a well-formed password of at most 1,024 bytes
  pub refused : (stream password scratch output : List ℕ) (a : Result Report Refusal) (scratch' output' : List ℕ)
      → length password ≤ 1024 → well_formed password ≡ true → 64 ≤ length scratch → length stream ≤ length output
      → Opens stream password scratch output a scratch' output' → SameRefusals (forecast stream) a
  -- of a book that its records fill, up to 1 GiB with the padding
  pub of_padded : (stream : List ℕ) (n : ℕ) → remainder stream ≡ [] → n ≤ 3 → length stream + n ≤ 1073741824
      → forecast (stream ++ zero_bytes n) ≡ padded_forecast stream n (forecast stream)
  -- "the other questions don't arise"
  pub numbered : (stream : List ℕ)
      → let body = filepass_body stream in
      let structure = structure_of body in
      numbers (alone stream) ≡ expected (eqb (type_of body) 1) (is_office97 structure) (is_crypto_api structure)
