-- The body of a FILEPASS that sealing writes, whatever the choice, as Open reads it: its length, its questions, the check, the bytes and the report.
-- Assumes nothing.
use Rattle.std.specs.Prelude.{Option, None, Some, is_some}
use mathlib.Core.Path.{◌≡◌, refl, sym, ap, ◌∙◌}
use mathlib.Core.Bool.{Bool, true, false, ◌&&◌}
use mathlib.Core.List.{List, [], ◌∷◌}
use Prim.Native.Nat.{ℕ, zero, suc, ◌+◌, ◌%◌, ◌≤◌, ◌<◌}
use native.Mathlib.Omega.{arith}
use borrow.Author.Tests.{eq-eqb, eqb-true, le-leb, leb-true}
use lib.Bits.{bit_xor}
use lib.Dec.{eqb, leb}
use lib.ListN.{length, get_or}
use Rattle.laws.specs.Choice.{pick, within}
use Rattle.laws.proofs.Choice.{taken, left, and_left, and_right, within_from, within_to}
use Rattle.sensitive.specs.Utf8.{points}
use Rattle.sensitive.specs.Ansi.{ansi, narrow}
use Rattle.xor_obfuscation.specs.declared.Way.TheVariants.{Decrypt}
use Rattle.xor_obfuscation.specs.Xor.{password_verifier, xor_key}
use Rattle.xor_obfuscation.proofs.Inverse.{key_fits, verifier_fits}
use Rattle.binary_office.specs.declared.BiffRecord.{BiffRecord}
use Rattle.file_params.specs.Questions.{asked, only, lock, rc4, encryption_type, le16, type_of, structure_of}
use Rattle.file_params.proofs.Laws.{past, asked_on, only_yes, first_yes, rest_yes}
use Rattle.block_keys.specs.declared.Kind.{Kind}
use Rattle.block_keys.specs.declared.Kind.TheVariants as kind
use Rattle.block_keys.specs.BlockKeys.{schedule_of, started_blocks, encrypted_verifier, encrypted_verifier_hash}
use Rattle.block_keys.specs.Lock.{lock_of, part}
use Rattle.block_keys.proofs.Encrypted.{verified_encrypted}
use Rattle.survey.specs.Survey.{block_keys}
use Rattle.excel97.specs.declared.Lock.{Lock}
use Rattle.excel97.specs.declared.Lock.TheVariants as lock
use Rattle.excel97.specs.declared.Report.{Report}
use Rattle.excel97.specs.Open.{xor_matches, rc4_matches, passes, keystream, array_of, xor_byte, rc4_byte, plain_byte, by_kind, xor_report, rc4_report}
use Rattle.sealing.specs.declared.Choice.{Choice}
use Rattle.sealing.specs.declared.Choice.TheVariants.{Xor, Office97, CryptoApi}
use Rattle.sealing.specs.Filepass.{characters, xor_body, office97_body, crypto_api_body, filepass_for}
use Rattle.sealing.specs.Seal.{admitted, fits, takes}
use Rattle.excel97.proofs.Blanked.{never}
use Rattle.sealing.proofs.ZeroRecords.{nothing_is}
use Rattle.sealing.proofs.Reading.{two_read}
use Rattle.sealing.proofs.Rc4Fields.{Tells, length_97, tells_97, length_api, tells_api}

-- a byte opened, by the choice that it was sealed with
abbrev pub opened_byte : Choice → (password salt : List ℕ) → BiffRecord → (offset x : ℕ) → ℕ
opened_byte Xor password salt r offset x = xor_byte Decrypt (array_of (ansi password)) r offset x
opened_byte Office97 password salt r offset x = bit_xor x (keystream password salt kind.Office97 40 offset)
opened_byte (CryptoApi major bits) password salt r offset x = bit_xor x (keystream password salt kind.CryptoApi bits offset)

-- the report, by the choice
abbrev pub lock_for : Choice → Lock
lock_for Xor = lock.Xor
lock_for Office97 = lock.Office97
lock_for (CryptoApi major bits) = lock.CryptoApi

abbrev pub bits_for : Choice → ℕ
bits_for Xor = 0
bits_for Office97 = 40
bits_for (CryptoApi major bits) = bits

abbrev pub keys_for : Choice → (bytes : ℕ) → ℕ
keys_for Xor bytes = 0
keys_for Office97 bytes = 1 + started_blocks 1024 bytes
keys_for (CryptoApi major bits) bytes = 1 + started_blocks 1024 bytes

abbrev pub report_for : Choice → (records bytes enciphered : ℕ) → Report
report_for choice records bytes enciphered =
    record {
      records = records;
      lock = lock_for choice;
      key_bits = bits_for choice;
      summary_sealed = false;
      output_bytes = bytes;
      enciphered_body_bytes = enciphered;
      block_keys = keys_for choice bytes;
    }

-- what a body tells
pub record ReadBack (choice : Choice) (password salt : List ℕ) (len : ℕ) (body : List ℕ) : Type 0 where
  pub long : length body ≡ len
  pub passed : None ≡ asked (lock body)
  pub opens : passes body password ≡ true
  pub byte : (r : BiffRecord) (o x : ℕ) → plain_byte body password r o x ≡ opened_byte choice password salt r o x
  pub report : (records bytes enciphered : ℕ)
      → pick (eqb (type_of body) 0) xor_report (rc4_report (structure_of body)) records bytes enciphered (block_keys body bytes) ≡ report_for choice records bytes enciphered

-- the bytes of an XOR password are bytes
narrow_fits : (ps : List ℕ) → narrow ps ≡ true → (j : ℕ) → get_or ps j 0 < 256
narrow_fits [] e j = omega arith
narrow_fits (p ∷ ps) e zero = let h = leb-true p 0xFF (and_left (leb p 0xFF) (narrow ps) e) in omega arith
narrow_fits (p ∷ ps) e (suc j) = narrow_fits ps (and_right (leb p 0xFF) (narrow ps) e) j

pub ansi_fits : (password p : List ℕ) → ansi password ≡ Some p → (j : ℕ) → get_or p j 0 < 256
unfolding ansi pick
ansi_fits password p e = by_points (points password) e
  where
    go : (ps : List ℕ) (t u : Bool) → narrow ps ≡ u → pick (t && u) (Some ps) None ≡ Some p → (j : ℕ) → get_or p j 0 < 256
    go ps true true g h = let z : ps ≡ p = cc in rw (← z) (narrow_fits ps g)
    go ps true false g h = nothing_is p h
    go ps false u g h = nothing_is p h

    by_points : (o : Option (List ℕ)) → elim o [ None ↦ None | Some ps ↦ pick (within 1 15 (length ps) && narrow ps) (Some ps) None ] ≡ Some p → (j : ℕ) → get_or p j 0 < 256
    by_points None h = nothing_is p h
    by_points (Some ps) h = go ps (within 1 15 (length ps)) (narrow ps) refl h

-- XOR
module _ (password p : List ℕ) (e : ansi password ≡ Some p) where
  xor_type : type_of (xor_body p) ≡ 0
  unfolding xor_body
  xor_type = refl

  xor_length : length (xor_body p) ≡ 6
  unfolding xor_body
  xor_length = refl

  xor_passed : None ≡ asked (lock (xor_body p))
  unfolding xor_body lock encryption_type asked only pick
  xor_passed = refl

  key_read : le16 (xor_body p) 2 ≡ xor_key p
  unfolding xor_body
  key_read = two_read (xor_key p) (key_fits p)

  verifier_read : le16 (xor_body p) 4 ≡ password_verifier p
  unfolding xor_body
  verifier_read = two_read (password_verifier p) (verifier_fits p)

  xor_opens : passes (xor_body p) password ≡ true
  unfolding passes
  xor_opens =
      taken (xor_matches (xor_body p) (ansi password)) (rc4_matches (structure_of (xor_body p)) password) (eq-eqb (type_of (xor_body p)) 0 xor_type)
      ∙ ap (xor_matches (xor_body p)) e
      ∙ rw (key_read, verifier_read, eq-eqb (xor_key p) (xor_key p) refl, eq-eqb (password_verifier p) (password_verifier p) refl)

  pub back_xor : (salt : List ℕ) → ReadBack Xor password salt 6 (xor_body p)
  unfolding plain_byte block_keys
  back_xor salt =
      let t = eq-eqb (type_of (xor_body p)) 0 xor_type in
      record {
        long = xor_length;
        passed = xor_passed;
        opens = xor_opens;
        byte = λ r o x. taken (xor_byte Decrypt (array_of (ansi password)) r o x) (rc4_byte (structure_of (xor_body p)) password o x) t;
        report = λ records bytes enciphered.
            rw (taken 0 (1 + started_blocks 1024 bytes) t, taken xor_report (rc4_report (structure_of (xor_body p))) t);
      }

-- RC4
module _ (choice : Choice) (k : Kind) (bits : ℕ) (password salt verifier body : List ℕ) (hv : length verifier ≡ 16) (type : type_of body ≡ 1) (there : 2 ≤ length body)
    (t : Tells (structure_of body) k bits salt (encrypted_verifier (schedule_of k bits salt password) verifier) (encrypted_verifier_hash (schedule_of k bits salt password) verifier))
    (of_kind : (schedule_of k bits salt password).kind ≡ k) (byte_by : (r : BiffRecord) (o x : ℕ) → bit_xor x (keystream password salt k bits o) ≡ opened_byte choice password salt r o x)
    (lock_by : by_kind k ≡ lock_for choice) (bits_by : bits ≡ bits_for choice) (keys_are : (n : ℕ) → 1 + started_blocks 1024 n ≡ keys_for choice n) where
  not_xor : eqb (type_of body) 0 ≡ false
  not_xor = rw type

  types_passed : None ≡ asked (encryption_type body)
  unfolding asked encryption_type
  types_passed = past _ (le-leb 2 (length body) there) (past _ (rw type refl) (past _ (rw type refl) refl))

  rc4_passed : None ≡ asked (lock body)
  unfolding lock
  rc4_passed =
      t.passed
      ∙ sym (asked_on (encryption_type body) (only (eqb (type_of body) 1) (rc4 (structure_of body))) types_passed
      ∙ ap asked (only_yes (rc4 (structure_of body)) (eq-eqb (type_of body) 1 type)))

  rc4_opens : passes body password ≡ true
  unfolding passes
  rc4_opens =
      left (xor_matches body (ansi password)) (rc4_matches (structure_of body) password) not_xor
      ∙ rw (t.kind_is, t.bits_are, t.salt_is, t.verifier_is)
      (verified_encrypted (schedule_of k bits salt password) verifier (part (structure_of body) (lock_of (structure_of body)).hash 20) hv
      (λ i h. t.hash_is i (rw (← of_kind) h)))

  rc4_byte_lem : (r : BiffRecord) (o x : ℕ) → plain_byte body password r o x ≡ opened_byte choice password salt r o x
  unfolding plain_byte
  rc4_byte_lem r o x =
      left (xor_byte Decrypt (array_of (ansi password)) r o x) (rc4_byte (structure_of body) password o x) not_xor
      ∙ rw (t.kind_is, t.bits_are, t.salt_is) (byte_by r o x)

  pub back_rc4 : (len : ℕ) → length body ≡ len → ReadBack choice password salt len body
  unfolding block_keys
  back_rc4 len h =
      record {
        long = h;
        passed = rc4_passed;
        opens = rc4_opens;
        byte = rc4_byte_lem;
        report = λ records bytes enciphered.
            rw (left 0 (1 + started_blocks 1024 bytes) not_xor, left xor_report (rc4_report (structure_of body)) not_xor, t.kind_is, t.bits_are, t.unsealed, lock_by, ← bits_by, ← (keys_are bytes));
      }

-- every choice that sealing admits
module _ (password salt verifier : List ℕ) (hs : length salt ≡ 16) (hv : length verifier ≡ 16) where
  with_xor : (len : ℕ) → fits Xor len ≡ true → takes Xor password ≡ true → ReadBack Xor password salt len (filepass_for Xor password salt verifier len)
  with_xor len h g =
      let six = eqb-true len 6 h in
      rw six (go (ansi password) refl g)
    where
      go : (o : Option (List ℕ)) → ansi password ≡ o → is_some o ≡ true → ReadBack Xor password salt 6 (xor_body (characters (ansi password)))
      go None e g = absurd (never (sym g))
      go (Some p) e g = rw e (back_xor password p e salt)

  with_97 : (len : ℕ) → fits Office97 len ≡ true → ReadBack Office97 password salt len (filepass_for Office97 password salt verifier len)
  unfolding office97_body
  with_97 len h =
      let s = schedule_of kind.Office97 40 salt password in
      let body = office97_body s salt verifier in
      let l = length_97 s salt verifier refl hs in
      let n = eqb-true len 54 h in
      back_rc4 Office97 kind.Office97 40 password salt verifier body hv refl (omega arith) (tells_97 s salt verifier refl hs) refl (λ r o x. refl) refl refl (λ n. refl) len
      (l ∙ sym n)

  with_api : (major bits len : ℕ) → asked (admitted (CryptoApi major bits)) ≡ None → fits (CryptoApi major bits) len ≡ true
      → ReadBack (CryptoApi major bits) password salt len (filepass_for (CryptoApi major bits) password salt verifier len)
  unfolding crypto_api_body admitted
  with_api major bits len a h =
      let s = schedule_of kind.CryptoApi bits salt password in
      let body = crypto_api_body s major bits len salt verifier in
      let m = first_yes _ _ a in
      let b = first_yes _ [] (rest_yes _ _ a) in
      let size = and_left (within 40 128 bits) (eqb (bits % 8) 0) b in
      let low = within_from 106 1098 len h in
      let high = within_to 106 1098 len h in
      let first = within_from 2 4 major m in
      let last = within_to 2 4 major m in
      let least = within_from 40 128 bits size in
      let most = within_to 40 128 bits size in
      let eighths = and_right (within 40 128 bits) (eqb (bits % 8) 0) b in
      let l = length_api s major bits len salt verifier refl hs low in
      back_rc4 (CryptoApi major bits) kind.CryptoApi bits password salt verifier body hv refl (omega arith)
      (tells_api s major bits len salt verifier refl hs low high first last least most eighths) refl (λ r o x. refl) refl refl (λ n. refl) len l

  pub read_back : (choice : Choice) (len : ℕ) → asked (admitted choice) ≡ None → fits choice len ≡ true → takes choice password ≡ true
      → ReadBack choice password salt len (filepass_for choice password salt verifier len)
  read_back Xor len a h g = with_xor len h g
  read_back Office97 len a h g = with_97 len h
  read_back (CryptoApi major bits) len a h g = with_api major bits len a h
