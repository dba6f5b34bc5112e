-- Demand 3, with document 02's T-05: trying two passwords can only reveal whether each one is correct. Over any two runs that the contract of `open` allows.
-- Assumes nothing.
use Rattle.std.specs.Prelude.{◌≡◌, ℕ, ◌+◌, ◌≤◌, ◌<◌, true, false, List, [], ◌∷◌, length, get_or, take, drop, Some, Ok, Err, Result}
use Rattle.std.specs.Int.Bits.{bit_xor}
use Rattle.sensitive.specs.Utf8.{well_formed}
use Rattle.binary_office.specs.declared.BiffRecord.{BiffRecord}
use Rattle.binary_office.specs.Walk.{walk, records_end, clear_len}
use Rattle.file_params.specs.declared.Refusal.{Refusal}
use Rattle.file_params.specs.Refusal.{number}
use Rattle.file_params.specs.Questions.{filepass, filepass_body, structure_of}
use Rattle.block_keys.specs.Lock.{lock_of, salt_of}
use Rattle.excel97.specs.declared.Lock.TheVariants.{Xor}
use Rattle.excel97.specs.declared.Report.{Report}
use Rattle.excel97.specs.Open.{passes, keystream, record_at, blanked, Opens}

-- the record bounds: header offsets and body ends, in order
pub record Bounds : Type 0 where
  pub header : ℕ
  pub end : ℕ

abbrev pub bounds_of : List BiffRecord → List Bounds
bounds_of [] = []
bounds_of (r ∷ rs) = record { header = r.at; end = r.at + 4 + r.len } ∷ bounds_of rs

-- where an offset of a stream lies: in a record or, as one of at most three zero bytes behind the records, in the padding (document 02, T-05)
pub data Place (stream : List ℕ) (o : ℕ) : Type 0 where
  within_record : (r : BiffRecord) → record_at (walk stream).records o ≡ Some r → Place stream o
  in_padding : records_end stream ≤ o → length stream ≤ records_end stream + 3 → get_or stream o 0 ≡ 0 → Place stream o

-- what one run leaves, where it opened the stream under a password with a report
pub record Plain (stream password output' : List ℕ) (told : Report) : Type 0 where
  -- "Up to there each output has the stream's record bounds,"
  pub bounds : bounds_of (walk (take (length stream) output')).records ≡ bounds_of (walk stream).records
  pub ends : (walk (take (length stream) output')).fault ≡ (walk stream).fault
  -- every byte up to there lies in a record or in the padding, so that what follows speaks of each of them
  pub covered : (o : ℕ) → o < length stream → Place stream o
  -- "and the stream's own bytes in every header and clear part,"
  pub own : (r : BiffRecord) (o : ℕ) → record_at (walk stream).records o ≡ Some r → o < r.at + 4 + clear_len r.id r.len
      → blanked (filepass (walk stream).records) o ≡ false → get_or output' o 0 ≡ get_or stream o 0
  -- document 02, T-05: the padding "stands with the bytes that stay the stream's own, under RC4 too"
  pub padded : (o : ℕ) → records_end stream ≤ o → o < length stream → get_or output' o 0 ≡ get_or stream o 0
  -- "save that the first FILEPASS has its id and body zeroed."
  pub zeroed : (o : ℕ) → o < length stream → blanked (filepass (walk stream).records) o ≡ true → get_or output' o 0 ≡ 0
  -- "Under RC4 each other byte up to there equals the stream's byte exclusive-or the keystream byte for its offset, which password, salt, lock, key size and
  -- offset alone determine."
  pub deciphered : (told.lock ≡ Xor → ⊥) → (r : BiffRecord) (o : ℕ) → record_at (walk stream).records o ≡ Some r → r.at + 4 + clear_len r.id r.len ≤ o
      → blanked (filepass (walk stream).records) o ≡ false
      → let structure = structure_of (filepass_body stream) in
      get_or output' o 0 ≡ bit_xor (get_or stream o 0) (keystream password (salt_of structure) (lock_of structure).kind (lock_of structure).key_bits o)

-- what the check decides of one run, where no other refusal was given
pub record Decided (stream password : List ℕ) (answer : (Result Report Refusal)) : Type 0 where
  pub fails : (r : Refusal) → number r ≡ 27 → answer ≡ Err r → passes (filepass_body stream) password ≡ false
  pub failed : passes (filepass_body stream) password ≡ false → (r : Refusal) × (number r ≡ 27) × (answer ≡ Err r)
  pub succeeds : (told : Report) → answer ≡ Ok told → passes (filepass_body stream) password ≡ true
  pub succeeded : passes (filepass_body stream) password ≡ true → (told : Report) × (answer ≡ Ok told)

-- "Whatever stream, scratch and output are lent, and whichever two passwords are tried on equal copies of them, both valid UTF-8 within 1,024 bytes, one fact
-- alone can part their refusals and reports: whether demand 2's password check passes."
pub record Demand3 (stream scratch output p q : List ℕ) (a b : (Result Report Refusal)) (scratch₁ output₁ scratch₂ output₂ : List ℕ) : Type 0 where
  -- "One gets a refusal other than 27 exactly when the other gets the same, details included;"
  pub refusal_to : (r : Refusal) → (number r ≡ 27 → ⊥) → a ≡ Err r → b ≡ Err r
  pub refusal_from : (r : Refusal) → (number r ≡ 27 → ⊥) → b ≡ Err r → a ≡ Err r
  -- "else each gets 27 exactly when its check fails, and a report when it passes."
  pub else_first : ((r : Refusal) → a ≡ Err r → number r ≡ 27) → Decided stream p a
  pub else_second : ((r : Refusal) → b ≡ Err r → number r ≡ 27) → Decided stream q b
  -- "Two refused leave scratch and output alike in every byte."
  pub refused_scratch : (r s : Refusal) → a ≡ Err r → b ≡ Err s → scratch₁ ≡ scratch₂
  pub refused_output : (r s : Refusal) → a ≡ Err r → b ≡ Err s → output₁ ≡ output₂
  -- "Two that pass give the same report, scratch and output past the stream's length."
  pub passed_report : (x y : Report) → a ≡ Ok x → b ≡ Ok y → x ≡ y
  pub passed_scratch : (x y : Report) → a ≡ Ok x → b ≡ Ok y → scratch₁ ≡ scratch₂
  pub passed_rest : (x y : Report) → a ≡ Ok x → b ≡ Ok y → drop (length stream) output₁ ≡ drop (length stream) output₂
  -- document 02, T-05: "a reader with two passwords may still rely on the padding coming out equal"
  pub passed_padding : (x y : Report) → a ≡ Ok x → b ≡ Ok y → (o : ℕ) → records_end stream ≤ o → o < length stream
      → get_or output₁ o 0 ≡ get_or output₂ o 0
  -- the last two sentences, of each
  pub plain_first : (x : Report) → a ≡ Ok x → Plain stream p output₁ x
  pub plain_second : (x : Report) → b ≡ Ok x → Plain stream q output₂ x

-- the demand: of any two runs that the contract of `open` allows, on equal copies of what is lent, with passwords of valid UTF-8 within 1,024 bytes
abbrev pub OfAnyTwoRuns : Type 0
OfAnyTwoRuns =
    (stream scratch output p q : List ℕ) (a b : (Result Report Refusal)) (scratch₁ output₁ scratch₂ output₂ : List ℕ)
    → length p ≤ 1024 → well_formed p ≡ true → length q ≤ 1024 → well_formed q ≡ true
    → Opens stream p scratch output a scratch₁ output₁ → Opens stream q scratch output b scratch₂ output₂
    → Demand3 stream scratch output p q a b scratch₁ output₁ scratch₂ output₂
