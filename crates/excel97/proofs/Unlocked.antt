-- From what the loops wrote to the plain stream: every byte but the blanked ones went through the lock, and the list of the plain bytes is what stands at
-- the start of the output.
-- Assumes nothing.
use Rattle.std.specs.Prelude.{Option, None, Some, Ok, Err}
use Rattle.file_params.specs.declared.Refusal.TheVariants.{WrongPassword}
use mathlib.Core.Path.{◌≡◌, refl, sym, ap, ◌∙◌}
use mathlib.Core.Bool.{Bool, true, false}
use mathlib.Core.List.{List, ◌++◌}
use Prim.Native.Nat.{ℕ, ◌+◌, ◌-◌, ◌≤◌, ◌<◌, min}
use native.Mathlib.Nat.{zero-add, le_of_eq}
use native.Mathlib.Omega.{arith}
use lib.Bits.{bit_xor}
use lib.Dec.{eqb}
use lib.ListN.{length, get_or, take, drop, length-append, length-drop, get_or-append}
use lib.Seq.{ext_get_or, get_or-append-add, get_or-drop, take_all}
use borrow.Author.Tests.{eq-eqb}
use Rattle.laws.specs.Choice.{pick}
use Rattle.laws.specs.Offsets.{tabulate, map_at}
use Rattle.laws.proofs.Choice.{taken, left, stop, skip}
use Rattle.laws.proofs.Offsets.{length_tabulate, get_d_tabulate, length_map_at, get_d_map_at}
use Rattle.laws.proofs.Written.{Written, written_all}
use Rattle.sensitive.specs.Ansi.{ansi}
use Rattle.binary_office.specs.declared.BiffRecord.{BiffRecord}
use Rattle.binary_office.specs.Walk.{walk}
use Rattle.file_params.specs.Questions.{filepass, filepass_body, type_of, structure_of}
use Rattle.block_keys.specs.BlockKeys.{schedule_of, block_key, keystream_at, deciphered_at, started_blocks, verified, Decrypts}
use Rattle.block_keys.specs.Lock.{lock_of, part, salt_of}
use Rattle.block_keys.specs.declared.Rc4Lock.{Rc4Lock}
use Rattle.block_keys.specs.declared.Schedule.{Schedule}
use Rattle.survey.specs.Survey.{block_keys}
use Rattle.xor_obfuscation.specs.declared.Way.TheVariants.{Decrypt}
use Rattle.excel97.specs.Open.{xor_matches, rc4_matches, array_of, xor_byte, rc4_byte, keystream, plain_byte, record_at, in_record, blanked, plain_at, plain, passes}
use Rattle.excel97.specs.Steps.{through_at, Blanks, Unlocks}
use Rattle.excel97.proofs.Blanked.{blank_behind}

-- two ways of deciphering that agree on a byte
same_in_record : (f g : BiffRecord → ℕ → ℕ → ℕ) (r : Option BiffRecord) (o x : ℕ) → ((q : BiffRecord) → f q o x ≡ g q o x) → in_record f r o x ≡ in_record g r o x
same_in_record f g None o x h = refl
same_in_record f g (Some q) o x h = rw (h q)

-- a list by its offsets, from another list's bytes
listed : (f : ℕ → ℕ → ℕ) (s : List ℕ) → tabulate (λ (o : ℕ). f o (get_or s o 0)) (length s) ≡ map_at f 0 s
listed f s =
    let g : ℕ → ℕ = λ o. f o (get_or s o 0) in
    ext_get_or 0 (tabulate g (length s)) (map_at f 0 s) (length_tabulate g (length s) ∙ sym (length_map_at f 0 s))
    (λ i h. let k : i < length s = rw (length_tabulate g (length s)) at h in get_d_tabulate g (length s) i 0 k
    ∙ sym (get_d_map_at f 0 s i 0 k ∙ ap (λ (n : ℕ). f n (get_or s i 0)) (zero-add i)))

-- under RC4: the whole stream deciphered, then headers and clear parts put back
module _ (s d d₁ d₂ : List ℕ) (key_of : ℕ → List ℕ) (keys : ℕ) (room : length s ≤ length d) (a : Decrypts 1024 key_of s d keys d₁)
    (b : Written (through_at s (λ (r : BiffRecord) (o x : ℕ). get_or d₁ o 0)) 0 (length s) d₁ d₂) where
  pub all_keys : keys ≡ started_blocks 1024 (length s)
  all_keys =
      let n : min (length s) (length d) ≡ length s = omega arith in
      a.counted ∙ left 0 (started_blocks 1024 (min (length s) (length d))) refl ∙ ap (started_blocks 1024) n

  first : d₁ ≡ tabulate (deciphered_at 1024 key_of s) (length s) ++ drop (length s) d
  first =
      let n : min (length s) (length d) ≡ length s = omega arith in
      a.bytes ∙ left d (tabulate (deciphered_at 1024 key_of s) (min (length s) (length d)) ++ drop (min (length s) (length d)) d) refl ∙ rw n

  at_first : (o : ℕ) → o < length s → get_or d₁ o 0 ≡ deciphered_at 1024 key_of s o
  at_first o h =
      ap (λ (l : List ℕ). get_or l o 0) first
      ∙ get_or-append (tabulate (deciphered_at 1024 key_of s) (length s)) (drop (length s) d) 0 o (rw (length_tabulate (deciphered_at 1024 key_of s) (length s)) h)
      ∙ get_d_tabulate (deciphered_at 1024 key_of s) (length s) o 0 h

  past_first : (o : ℕ) → length s ≤ o → get_or d₁ o 0 ≡ get_or d o 0
  past_first o h =
      let e : o ≡ length s + (o - length s) = omega arith in
      ap (λ (l : List ℕ). get_or l o 0) first
      ∙ ap (λ (n : ℕ). get_or (tabulate (deciphered_at 1024 key_of s) (length s) ++ drop (length s) d) n 0)
      (e ∙ ap (λ (n : ℕ). n + (o - length s)) (sym (length_tabulate (deciphered_at 1024 key_of s) (length s))))
      ∙ get_or-append-add (tabulate (deciphered_at 1024 key_of s) (length s)) (drop (length s) d) (o - length s) 0
      ∙ get_or-drop (length s) d (o - length s) 0
      ∙ ap (λ (n : ℕ). get_or d n 0) (sym e)

  kept_length : length d₁ ≡ length d
  kept_length = ap length first ∙ length-append (tabulate (deciphered_at 1024 key_of s) (length s)) (drop (length s) d) ∙ simp (length_tabulate, length-drop) (omega arith)

  pub restored : Written (through_at s (λ (r : BiffRecord) (o x : ℕ). bit_xor x (keystream_at 1024 key_of o))) 0 (length s) d d₂
  restored =
      record {
        same = b.same ∙ kept_length;
        before = λ o h. b.before o h ∙ absurd (never o h);
        inside = λ o h k.
            b.inside o h k
            ∙ same_in_record (λ (r : BiffRecord) (q x : ℕ). get_or d₁ q 0) (λ (r : BiffRecord) (q x : ℕ). bit_xor x (keystream_at 1024 key_of q))
            (record_at (walk s).records o) o (get_or s o 0) (λ r. at_first o k);
        after = λ o h. b.after o h ∙ past_first o h;
      }
    where
      never : (o : ℕ) → o < 0 → ⊥
      never o h = omega arith

-- the FILEPASS that was found
module _ (s : List ℕ) (first : BiffRecord) (e : filepass (walk s).records ≡ Some first) where
  same_blanked : (o : ℕ) → blanked (filepass (walk s).records) o ≡ blanked (Some first) o
  same_blanked o = rw e refl

  -- the plain stream, from the stream that went through the lock and the FILEPASS that was blanked
  module _ (p d d₁ d₂ : List ℕ) (f : BiffRecord → ℕ → ℕ → ℕ) (inside : first.at + 4 + first.len ≤ length s) (room : length s ≤ length d)
      (w : Written (through_at s f) 0 (length s) d d₁)
      (g : (r : BiffRecord) (o x : ℕ) → f r o x ≡ plain_byte (filepass_body s) p r o x) (b : Blanks first d₁ d₂) where
    through : (o : ℕ) → through_at s f o ≡ through_at s (plain_byte (filepass_body s) p) o
    through o = same_in_record f (plain_byte (filepass_body s) p) (record_at (walk s).records o) o (get_or s o 0) (λ r. g r o (get_or s o 0))

    byte_left : (o : ℕ) → o < length s → get_or d₂ o 0 ≡ plain_at s p o (get_or s o 0)
    unfolding plain_at
    byte_left o h = by_test (blanked (Some first) o) refl
      where
        by_test : (t : Bool) → blanked (Some first) o ≡ t → get_or d₂ o 0 ≡ pick (blanked (filepass (walk s).records) o) 0 (through_at s (plain_byte (filepass_body s) p) o)
        by_test true q = b.zeroed o q ∙ stop (through_at s (plain_byte (filepass_body s) p) o) (same_blanked o ∙ q)
        by_test false q = skip 0 (same_blanked o ∙ q) (b.kept o q ∙ w.inside o (omega arith) h ∙ through o)

    pub plain_left : d₂ ≡ plain s p ++ drop (length s) d
    unfolding plain
    plain_left =
        written_all (λ (o : ℕ). plain_at s p o (get_or s o 0)) (length s) d d₂ room
        (record {
          same = b.same ∙ w.same;
          before = λ o h. absurd (never o h);
          inside = λ o h k. byte_left o k;
          after = λ o h. b.kept o (blank_behind first o (omega arith)) ∙ w.after o h;
        })
        ∙ ap (λ (l : List ℕ). l ++ drop (length s) d) (listed (plain_at s p) s)
      where
        never : (o : ℕ) → o < 0 → ⊥
        never o h = omega arith

-- the structure, as the code cuts it out of the body
pub structure_slice : (s b : List ℕ) → b ≡ filepass_body s → take (length b - 2) (drop 2 b) ≡ structure_of (filepass_body s)
structure_slice s b eb = take_all (length b - 2) (drop 2 b) (le_of_eq (length-drop 2 b)) ∙ ap (drop 2) eb

-- a password that fails leaves the output, and one that passes opens it
module _ {A : Type 0} (s p d : List ℕ) (told : A) where
  pub unlocks_no : passes (filepass_body s) p ≡ false → Unlocks s p d told (Err WrongPassword) d
  unlocks_no e = record { answered = skip _ e refl; left = skip (plain s p ++ drop (length s) d) e refl }

  pub unlocks_yes : (d₂ : List ℕ) → passes (filepass_body s) p ≡ true → d₂ ≡ plain s p ++ drop (length s) d → Unlocks s p d told (Ok told) d₂
  unlocks_yes d₂ e g = record { answered = stop _ e; left = g ∙ stop d e }

-- XOR
module _ (body p : List ℕ) (z : type_of body ≡ 0) where
  pub xor_passes : passes body p ≡ xor_matches body (ansi p)
  unfolding passes
  xor_passes = taken (xor_matches body (ansi p)) (rc4_matches (structure_of body) p) (eq-eqb (type_of body) 0 z)

  pub xor_bytes : (array : List ℕ) → array ≡ array_of (ansi p) → (r : BiffRecord) (o x : ℕ) → xor_byte Decrypt array r o x ≡ plain_byte body p r o x
  unfolding plain_byte
  xor_bytes array e r o x = rw e (stop (rc4_byte (structure_of body) p o x) (eq-eqb (type_of body) 0 z))

-- RC4
module _ (body p : List ℕ) (z : type_of body ≡ 1) where
  not_xor : eqb (type_of body) 0 ≡ false
  not_xor = rw z refl

  pub rc4_passes : passes body p ≡ rc4_matches (structure_of body) p
  unfolding passes
  rc4_passes = left (xor_matches body (ansi p)) (rc4_matches (structure_of body) p) not_xor

  pub rc4_bytes : (schedule : Schedule) → schedule ≡ schedule_of (lock_of (structure_of body)).kind (lock_of (structure_of body)).key_bits (salt_of (structure_of body)) p
      → (r : BiffRecord) (o x : ℕ) → bit_xor x (keystream_at 1024 (block_key schedule) o) ≡ plain_byte body p r o x
  unfolding plain_byte keystream
  rc4_bytes schedule e r o x = rw e (skip (xor_byte Decrypt (array_of (ansi p)) r o x) not_xor refl)

  -- one key for the check, and those of the blocks
  pub keys_in_all : (n : ℕ) → 1 + started_blocks 1024 n ≡ block_keys body n
  unfolding block_keys
  keys_in_all n = skip 0 not_xor refl

-- the check and the bytes, by the structure that the code cut out and the lock that it read
module _ (body p st : List ℕ) (lock : Rc4Lock) (q : Schedule) (z : type_of body ≡ 1) (e : st ≡ structure_of body) (l : lock ≡ lock_of (structure_of body))
    (g : q ≡ schedule_of lock.kind lock.key_bits (part st lock.salt 16) p) where
  same_schedule : q ≡ schedule_of (lock_of (structure_of body)).kind (lock_of (structure_of body)).key_bits (salt_of (structure_of body)) p
  same_schedule = g ∙ rw (e, l)

  pub rc4_told : (r : Bool) → r ≡ verified q (part st lock.verifier 16) (part st lock.hash 20) → passes body p ≡ r
  rc4_told r h = rc4_passes body p z ∙ sym (h ∙ rw (same_schedule, e, l))

  pub rc4_plain : (r : BiffRecord) (o x : ℕ) → bit_xor x (keystream_at 1024 (block_key q) o) ≡ plain_byte body p r o x
  rc4_plain = rc4_bytes body p z q same_schedule
