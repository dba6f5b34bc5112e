-- What the questions that were passed tell of a plain stream, and how its refusals and its sealing settle the outcome.
-- Assumes nothing.
use Rattle.file_params.specs.declared.Refusal.{Refusal}
use Rattle.std.specs.Prelude.{Option, None, Some, Ok, Err, Result, is_none, is_some}
use mathlib.Core.Path.{◌≡◌, refl, sym, ap, ◌∙◌}
use mathlib.Core.Bool.{Bool, true, false}
use mathlib.Core.List.{List, [], ◌∷◌, ◌++◌}
use Prim.Native.Nat.{ℕ, ◌+◌, ◌-◌, ◌≤◌, ◌<◌}
use native.Mathlib.Omega.{arith}
use borrow.Author.Tests.{eqb-true, lt-ltb, le-ltb}
use lib.ListN.{length, get_or, drop}
use Rattle.laws.specs.Choice.{pick}
use Rattle.laws.proofs.Choice.{taken, left, within_from}
use Rattle.laws.proofs.Offsets.{listed}
use Rattle.laws.proofs.Written.{written_all}
use Rattle.sensitive.specs.Ansi.{ansi}
use Rattle.xor_obfuscation.specs.declared.Way.TheVariants.{Encrypt}
use Rattle.binary_office.specs.declared.BiffRecord.{BiffRecord}
use Rattle.binary_office.specs.Walk.{walk}
use Rattle.file_params.specs.declared.Refusal.TheVariants.{XorPasswordUnfit}
use Rattle.file_params.specs.Questions.{ask, asked, in_order, starts_bof}
use Rattle.file_params.proofs.Laws.{asked_on, none_of_both, first_yes, rest_yes}
use Rattle.block_keys.specs.declared.Kind.TheVariants as kind
use Rattle.block_keys.specs.declared.Schedule.{Schedule}
use Rattle.block_keys.specs.BlockKeys.{schedule_of}
use Rattle.excel97.specs.declared.Lock.{Lock}
use Rattle.excel97.specs.declared.Lock.TheVariants as lock
use Rattle.excel97.specs.declared.Report.{Report}
use Rattle.excel97.specs.declared.XorLock.{XorLock}
use Rattle.excel97.specs.Open.{keystream, array_of, xor_byte, blanked}
use Rattle.excel97.specs.Steps.{xor_lock_of, through_at, rc4_at}
use Rattle.excel97.proofs.Settled.{same_size_lem}
use Rattle.excel97.proofs.Blanked.{by_place_lem, blank_before, blank_id, blank_length, blank_body, blank_behind}
use Rattle.survey.specs.declared.Counts.{Counts}
use Rattle.survey.specs.Survey.{enciphered_bytes}
use Rattle.sealing.specs.declared.Choice.{Choice}
use Rattle.sealing.specs.declared.Choice.TheVariants.{Xor, Office97, CryptoApi}
use Rattle.sealing.specs.Filepass.{two, characters, xor_body, office97_body, crypto_api_body, filepass_for}
use Rattle.sealing.specs.Seal.{zero_of, admitted, fits, zeroed, takes, of_plain, sealed_byte, filepass_byte, sealed, len_of}
use Rattle.sealing.specs.Steps.{xor_fields, Room, Locks, LocksRc4, Ready, later_refusal, Settles}
use Rattle.sealing.proofs.ZeroRecords.{refiled}
use Rattle.sealing.proofs.Bodies.{report_for, read_back}
use Rattle.sealing.proofs.Sealed.{length_sealed, sealed_at_lem, new_byte, old_byte, inside, reported}

-- what the questions of a plain stream and a choice tell, once they are passed
pub record Passed (plain : List ℕ) (choice : Choice) : Type 0 where
  pub clean_end : (walk plain).fault ≡ None
  pub starts_bof_lem : starts_bof (walk plain).records ≡ true
  pub admits : asked (admitted choice) ≡ None
  pub there : is_some (zero_of plain) ≡ true
  pub fitting : fits choice (len_of (zero_of plain)) ≡ true

pub passed_all : (plain : List ℕ) (choice : Choice) → asked (of_plain plain choice) ≡ None → Passed plain choice
unfolding of_plain in_order zeroed
passed_all plain choice e =
    let first = in_order (walk plain).fault (walk plain).records in
    let last = zeroed choice (zero_of plain) in
    let a = none_of_both first (admitted choice ++ last) e in
    let b = none_of_both (admitted choice) last a.1 in
    record {
      clean_end = by_end (walk plain).fault (first_yes _ (drop 1 first) a.0);
      starts_bof_lem = first_yes _ [] (rest_yes _ (drop 1 first) a.0);
      admits = b.0;
      there = first_yes _ (drop 1 last) b.1;
      fitting = first_yes _ [] (rest_yes _ (drop 1 last) b.1);
    }
  where
    by_end : (w : Option ℕ) → is_none w ≡ true → w ≡ None
    by_end None g = refl
    by_end (Some at) g = cc

-- a stream that is ready to be sealed
module _ (plain : List ℕ) (choice : Choice) (password scratch output : List ℕ) (counts : Counts) (zero : BiffRecord)
    (ready : Ready plain choice password scratch output counts zero) where
  all_passed : Passed plain choice
  all_passed = passed_all plain choice (sym ready.passed)

  pub length_fits : fits choice zero.len ≡ true
  length_fits = ap (λ (z : Option BiffRecord). fits choice (len_of z)) (sym ready.found) ∙ all_passed.fitting

  pub place_inside : zero.at + 4 + zero.len ≤ length plain
  place_inside = inside plain password choice [] [] zero ready.found

  pub counted_in : zero.len ≤ counts.enciphered
  counted_in =
      let c = (refiled plain 0 (omega arith) zero ready.found).counted in
      let s : counts.enciphered ≡ enciphered_bytes (walk plain).records = ap (λ (c : Counts). c.enciphered) ready.counted in
      omega arith

  -- the output that the sealing left
  module _ (salt verifier : List ℕ) where
    abbrev whole : List ℕ
    whole = sealed plain password choice salt verifier

    abbrev body : List ℕ
    body = filepass_for choice password salt verifier zero.len

    pub sealed_left : (output' : List ℕ) → Locks plain zero.at zero.len (sealed_byte choice password salt) body output output' → output' ≡ whole ++ drop (length plain) output
    sealed_left output' w =
        written_all (λ (o : ℕ). get_or whole o 0) (length plain) output output' ready.room
        (record { same = w.same; before = λ o h. absurd (none_before o h); inside = λ o h k. here o k; after = w.after })
        ∙ ap (λ (l : List ℕ). l ++ drop (length plain) output) (listed whole (length plain) (length_sealed plain password choice salt verifier))
      where
        none_before : (o : ℕ) → o < 0 → ⊥
        none_before o h = omega arith

        new_there : (o : ℕ) → o < length plain → blanked (Some zero) o ≡ true
            → get_or whole o 0 ≡ filepass_byte body (Some zero) o
        new_there o k b =
            sealed_at_lem plain password choice salt verifier o k
            ∙ new_byte plain password choice salt verifier zero ready.found o (get_or plain o 0) b

        old_there : (o : ℕ) → o < length plain → blanked (Some zero) o ≡ false
            → get_or whole o 0 ≡ through_at plain (sealed_byte choice password salt) o
        old_there o k b =
            sealed_at_lem plain password choice salt verifier o k
            ∙ old_byte plain password choice salt verifier zero ready.found o (get_or plain o 0) b

        here : (o : ℕ) → o < length plain → get_or output' o 0 ≡ get_or whole o 0
        here o k =
            by_place_lem zero.at zero.len o
            (λ p. kept (blank_before zero o p))
            (λ p q. w.id o p q ∙ sym (new_there o k (blank_id zero o p q)
            ∙ taken (get_or (two 0x002F) (o - zero.at) 0) (get_or body (o - (zero.at + 4)) 0) (lt-ltb o (zero.at + 2) q)))
            (λ p q. kept (blank_length zero o p q))
            (λ p q. w.written o p q ∙ sym (new_there o k (blank_body zero o p q)
            ∙ left (get_or (two 0x002F) (o - zero.at) 0) (get_or body (o - (zero.at + 4)) 0) (le-ltb o (zero.at + 2) (omega arith))))
            (λ p. kept (blank_behind zero o p))
          where
            kept : blanked (Some zero) o ≡ false → get_or output' o 0 ≡ get_or whole o 0
            kept b = w.through o k b ∙ sym (old_there o k b)

    -- sealed, or refused by 32
    questions_left : (t : Bool) → takes choice password ≡ t → later_refusal plain password choice ≡ pick t None (Some XorPasswordUnfit)
    unfolding asked
    questions_left t e = asked_on (of_plain plain choice) (ask (takes choice password) XorPasswordUnfit ∷ []) ready.passed ∙ rw e

    pub refused_32 : takes choice password ≡ false → Settles plain password choice salt verifier scratch output (Err XorPasswordUnfit) scratch output
    refused_32 e =
        let g = questions_left false e ∙ left None (Some XorPasswordUnfit) refl in
        record {
          answered = rw g;
          same = refl;
          kept = refl;
          output_left = rw g;
        }

    pub settled_sealed : takes choice password ≡ true → length salt ≡ 16 → length verifier ≡ 16 → (a : Result Report Refusal) (scratch' output' : List ℕ)
        → a ≡ Ok (report_for choice counts.records (length plain) (counts.enciphered - zero.len)) → length scratch' ≡ length scratch → drop 64 scratch' ≡ drop 64 scratch
        → Locks plain zero.at zero.len (sealed_byte choice password salt) body output output'
        → Settles plain password choice salt verifier scratch output a scratch' output'
    settled_sealed e hs hv a scratch' output' ea same kept w =
        let g = questions_left true e ∙ taken None (Some XorPasswordUnfit) refl in
        let back = read_back password salt verifier hs hv choice zero.len all_passed.admits length_fits e in
        let told = reported plain password choice salt verifier zero ready.found all_passed.clean_end back in
        record {
          answered = ea ∙ rw (g, ready.counted) (ap Ok (sym told));
          same = same;
          kept = kept;
          output_left = sealed_left output' w ∙ rw g;
        }

-- the fields of an XOR body
fields_are : (p : List ℕ) → xor_fields (xor_lock_of p).key (xor_lock_of p).verifier ≡ xor_body (characters (Some p))
unfolding xor_body
fields_are p = refl

-- what was locked, by equal parts
locks_as : (plain : List ℕ) (at n m : ℕ) (f g : BiffRecord → ℕ → ℕ → ℕ) (b c d d' : List ℕ) → n ≡ m → f ≡ g → b ≡ c → Locks plain at n f b d d' → Locks plain at m g c d d'
locks_as plain at n m f g b c d d' e h k w = rw (← e, ← h, ← k) w

-- each choice
module _ (plain password salt verifier scratch output : List ℕ) (counts : Counts) (zero : BiffRecord) where
  abbrev told : (lock : Lock) → (bits rest keys : ℕ) → Report
  told lock bits rest keys =
      record {
        records = counts.records;
        lock = lock;
        key_bits = bits;
        summary_sealed = false;
        output_bytes = length plain;
        enciphered_body_bytes = rest;
        block_keys = keys;
      }

  module _ (ready : Ready plain Xor password scratch output counts zero) where
    xor_no : ansi password ≡ None → Settles plain password Xor salt verifier scratch output (Err XorPasswordUnfit) scratch output
    xor_no g = refused_32 plain Xor password scratch output counts zero ready salt verifier (rw g refl)

    xor_yes : length salt ≡ 16 → length verifier ≡ 16 → (p : List ℕ) → ansi password ≡ Some p → (l : XorLock) → l ≡ xor_lock_of p → (output' : List ℕ) → Locks plain zero.at 6 (xor_byte Encrypt l.array) (xor_fields l.key l.verifier) output output'
        → (r : Report) → r ≡ told lock.Xor 0 (counts.enciphered - zero.len) 0 → Settles plain password Xor salt verifier scratch output (Ok r) scratch output'
    unfolding sealed_byte
    xor_yes hs hv p g l el output' w r er =
        let takes_it : is_some (ansi password) ≡ true = rw g refl in
        let six = eqb-true zero.len 6 (length_fits plain Xor password scratch output counts zero ready) in
        let array = ap (λ (x : XorLock). x.array) el ∙ ap array_of (sym g) in
        let fields = ap (λ (x : XorLock). xor_fields x.key x.verifier) el ∙ fields_are p ∙ ap (λ (o : Option (List ℕ)). xor_body (characters o)) (sym g) in
        settled_sealed plain Xor password scratch output counts zero ready salt verifier takes_it hs hv (Ok r) scratch output' (ap Ok er) refl refl
        (locks_as plain zero.at 6 zero.len (xor_byte Encrypt l.array) (sealed_byte Xor password salt) (xor_fields l.key l.verifier) (xor_body (characters (ansi password))) output output'
        (sym six) (ap (xor_byte Encrypt) array) fields w)

  abbrev s97 : Schedule
  s97 = schedule_of kind.Office97 40 salt password

  module _ (ready : Ready plain Office97 password scratch output counts zero) where
    office97_yes : length salt ≡ 16 → length verifier ≡ 16 → (keys : ℕ) (scratch' output' : List ℕ) → LocksRc4 plain zero.at 54 s97 (office97_body s97 salt verifier) scratch output keys scratch' output'
        → (r : Report) → r ≡ told lock.Office97 40 (counts.enciphered - zero.len) keys → Settles plain password Office97 salt verifier scratch output (Ok r) scratch' output'
    unfolding sealed_byte keystream
    office97_yes hs hv keys scratch' output' w r er =
        let len_is = eqb-true zero.len 54 (length_fits plain Office97 password scratch output counts zero ready) in
        settled_sealed plain Office97 password scratch output counts zero ready salt verifier refl hs hv (Ok r) scratch' output'
        (ap Ok (er ∙ ap (told lock.Office97 40 (counts.enciphered - zero.len)) w.counted)) (rw w.scratch_left (same_size_lem scratch ready.enough)) (rw w.scratch_left refl)
        (locks_as plain zero.at 54 zero.len (rc4_at s97) (sealed_byte Office97 password salt) (office97_body s97 salt verifier) (office97_body s97 salt verifier) output output' (sym len_is) refl refl w.locks)

  module _ (major bits : ℕ) (ready : Ready plain (CryptoApi major bits) password scratch output counts zero) where
    abbrev sapi : Schedule
    sapi = schedule_of kind.CryptoApi bits salt password

    api_yes : length salt ≡ 16 → length verifier ≡ 16 → (keys : ℕ) (scratch' output' : List ℕ) → LocksRc4 plain zero.at zero.len sapi (crypto_api_body sapi major bits zero.len salt verifier) scratch output keys scratch' output'
        → (r : Report) → r ≡ told lock.CryptoApi bits (counts.enciphered - zero.len) keys
        → Settles plain password (CryptoApi major bits) salt verifier scratch output (Ok r) scratch' output'
    unfolding sealed_byte keystream
    api_yes hs hv keys scratch' output' w r er =
        settled_sealed plain (CryptoApi major bits) password scratch output counts zero ready salt verifier refl hs hv (Ok r) scratch' output'
        (ap Ok (er ∙ ap (told lock.CryptoApi bits (counts.enciphered - zero.len)) w.counted)) (rw w.scratch_left (same_size_lem scratch ready.enough)) (rw w.scratch_left refl)
        w.locks

  -- by the choice that was matched
  module _ (choice : Choice) (ready : Ready plain choice password scratch output counts zero) where
    module _ (e : choice ≡ Xor) where
      pub room_xor : Room plain output zero.at 6
      room_xor =
          let six = eqb-true zero.len 6 (rw e at (length_fits plain choice password scratch output counts zero ready)) in
          let h = place_inside plain choice password scratch output counts zero ready in
          record { inside = omega arith; room = ready.room }

      pub no_xor : ansi password ≡ None → Settles plain password choice salt verifier scratch output (Err XorPasswordUnfit) scratch output
      no_xor g = rw e (xor_no (rw e at ready) g)

      pub by_xor : length salt ≡ 16 → length verifier ≡ 16 → (p : List ℕ) → ansi password ≡ Some p → (l : XorLock) → l ≡ xor_lock_of p → (output' : List ℕ)
          → Locks plain zero.at 6 (xor_byte Encrypt l.array) (xor_fields l.key l.verifier) output output'
          → (r : Report) → r ≡ told lock.Xor 0 (counts.enciphered - zero.len) 0 → Settles plain password choice salt verifier scratch output (Ok r) scratch output'
      by_xor hs hv p g l el output' w r er = rw e (xor_yes (rw e at ready) hs hv p g l el output' w r er)

    module _ (e : choice ≡ Office97) where
      pub room_97 : Room plain output zero.at 54
      room_97 =
          let n = eqb-true zero.len 54 (rw e at (length_fits plain choice password scratch output counts zero ready)) in
          let h = place_inside plain choice password scratch output counts zero ready in
          record { inside = omega arith; room = ready.room }

      pub by_97 : length salt ≡ 16 → length verifier ≡ 16 → (keys : ℕ) (scratch' output' : List ℕ) → LocksRc4 plain zero.at 54 s97 (office97_body s97 salt verifier) scratch output keys scratch' output'
          → (r : Report) → r ≡ told lock.Office97 40 (counts.enciphered - zero.len) keys → Settles plain password choice salt verifier scratch output (Ok r) scratch' output'
      by_97 hs hv keys scratch' output' w r er = rw e (office97_yes (rw e at ready) hs hv keys scratch' output' w r er)

    module _ (major bits : ℕ) (e : choice ≡ CryptoApi major bits) where
      pub room_api : Room plain output zero.at zero.len × (106 ≤ zero.len)
      room_api =
          let f = rw e at (length_fits plain choice password scratch output counts zero ready) in
          (record { inside = place_inside plain choice password scratch output counts zero ready; room = ready.room }, within_from 106 1098 zero.len f)

      pub by_api : length salt ≡ 16 → length verifier ≡ 16 → (keys : ℕ) (scratch' output' : List ℕ)
          → LocksRc4 plain zero.at zero.len (schedule_of kind.CryptoApi bits salt password) (crypto_api_body (schedule_of kind.CryptoApi bits salt password) major bits zero.len salt verifier) scratch output keys scratch' output'
          → (r : Report) → r ≡ told lock.CryptoApi bits (counts.enciphered - zero.len) keys → Settles plain password choice salt verifier scratch output (Ok r) scratch' output'
      by_api hs hv keys scratch' output' w r er = rw e (api_yes major bits (rw e at ready) hs hv keys scratch' output' w r er)
