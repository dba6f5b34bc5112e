-- A stream that was put through a function and got a new FILEPASS is the sealed stream: the id and the body were put over the zero record, and every other byte is as the
-- loops wrote it.
-- Assumes nothing.
use mathlib.Core.Path.{◌≡◌, refl, sym, ap, subst, ◌∙◌}
use mathlib.Core.List.{List, ◌++◌, append-nil}
use Prim.Native.Nat.{ℕ, ◌+◌, ◌-◌, ◌≤◌}
use native.Mathlib.Omega.{arith}
use lib.ListN.{length, replicate}
use lib.Seq.{take_at}
use Rattle.laws.proofs.Written.{Written}
use Rattle.binary_office.specs.declared.BiffRecord.{BiffRecord}
use Rattle.block_keys.specs.declared.Kind.{Kind}
use Rattle.block_keys.specs.declared.Kind.TheVariants as kind
use Rattle.block_keys.specs.declared.Schedule.{Schedule}
use Rattle.block_keys.specs.BlockKeys.{encrypted_verifier, encrypted_verifier_hash, digest_len}
use Rattle.block_keys.proofs.Encrypted.{length_encrypted_hash}
use Rattle.excel97.specs.Steps.{through_at, rc4_at}
use Rattle.excel97.proofs.Blanked.{never, by_place_lem, blank_id, blank_body}
use Rattle.sealing.specs.Filepass.{two, header_len, office97_body, crypto_api_body}
use Rattle.sealing.specs.Steps.{Put, office97_fields, crypto_api_fields, Locks}

-- the loops, then the id, then the body
pub locks : (plain : List ℕ) (at len : ℕ) (f : BiffRecord → ℕ → ℕ → ℕ) (body d d₁ d₂ d₃ : List ℕ) → at + 4 + len ≤ length plain → length body ≡ len
    → Written (through_at plain f) 0 (length plain) d d₁ → Put (two 0x002F) at d₁ d₂ → Put body (at + 4) d₂ d₃ → Locks plain at len f body d d₃
locks plain at len f body d d₁ d₂ d₃ h n w v u =
    record {
      same = u.same ∙ v.same ∙ w.same;
      id = λ o k m. u.before o (omega arith) ∙ v.inside o k m;
      written = λ o k m. u.inside o k (omega arith);
      through = λ o k b.
          by_place_lem at len o
          (λ p. u.before o (omega arith) ∙ v.before o p ∙ w.inside o (omega arith) k)
          (λ p q. absurd (never (sym (blank_id r o p q) ∙ b)))
          (λ p q. u.before o q ∙ v.after o p ∙ w.inside o (omega arith) k)
          (λ p q. absurd (never (sym (blank_body r o p q) ∙ b)))
          (λ p. u.after o (omega arith) ∙ v.after o (omega arith) ∙ w.inside o (omega arith) k);
      after = λ o k. u.after o (omega arith) ∙ v.after o (omega arith) ∙ w.after o k;
    }
  where
    r : BiffRecord
    r = record { at = at; id = 0; len = len }

-- a stream that was put through RC4, by an equal schedule
pub by_schedule : (plain d d' : List ℕ) (s t : Schedule) → s ≡ t → Written (through_at plain (rc4_at s)) 0 (length plain) d d' → Written (through_at plain (rc4_at t)) 0 (length plain) d d'
by_schedule plain d d' s t e w = subst (λ (u : Schedule). Written (through_at plain (rc4_at u)) 0 (length plain) d d') e w

-- the bodies, by what was made for their fields
module _ (s : Schedule) (salt verifier : List ℕ) (v h : List ℕ) (ev : v ≡ encrypted_verifier s verifier)
    (eh : h ≡ encrypted_verifier_hash s verifier ++ replicate (20 - digest_len s.kind) 0) where
  pub fields_97 : s.kind ≡ kind.Office97 → office97_fields salt v h ≡ office97_body s salt verifier
  unfolding office97_body
  fields_97 k =
      let l : length (encrypted_verifier_hash s verifier) ≡ 16 = length_encrypted_hash s verifier ∙ ap digest_len k in
      rw (ev, eh) (ap (λ (x : List ℕ). two 1 ++ (two 1 ++ (two 1 ++ (salt ++ (encrypted_verifier s verifier ++ x)))))
      (take_at (encrypted_verifier_hash s verifier) (replicate (20 - digest_len s.kind) 0) 16 l))

  pub fields_api : s.kind ≡ kind.CryptoApi → (major bits len : ℕ) → 106 ≤ len → crypto_api_fields major bits len salt v h ≡ crypto_api_body s major bits len salt verifier
  unfolding crypto_api_body
  fields_api k major bits len m =
      let none_left : encrypted_verifier_hash s verifier ++ replicate (20 - digest_len s.kind) 0 ≡ encrypted_verifier_hash s verifier =
      ap (λ (q : Kind). encrypted_verifier_hash s verifier ++ replicate (20 - digest_len q) 0) k ∙ append-nil (encrypted_verifier_hash s verifier) in
      let zeros : len - 106 ≡ header_len len - 32 = omega arith in
      rw (ev, eh, none_left, zeros) refl
