-- The three answers: too little scratch, a text that is not well formed, and a digest. A text is well formed exactly where its encoding has a length.
-- Assumes nothing.
use Rattle.std.specs.Prelude.{Option, None, Some}
use Rattle.std.proofs.Common.{◌≡◌, ℕ, ◌*◌, ◌%◌, ◌^◌, Some, None, ◌<◌, ◌≤◌, Bool, true, false, leb, List, ◌++◌, length, take, drop, replicate, sym, refl, ap, ◌∙◌, arith, length-append, length-take-le, drop_at, le-leb}
use borrow.Author.Tests.{lt-leb}
use Rattle.laws.specs.Choice.{pick}
use Rattle.padding.specs.Padding.{hash_end, hash}
use Rattle.laws.proofs.Choice.{taken, left}
use Rattle.sensitive.specs.Utf8.{points, well_formed}
use Rattle.sensitive.specs.Utf16.{utf16les, encoded, length_of}
use Rattle.std.proofs.lemmas.Option.{none-some, same_Some}
use Rattle.password_digest.specs.Digest.{spelt, fits}
use Rattle.password_digest.specs.Filling.{Answers}

-- what a text's length says
module _ (s : List ℕ) where
  pub record Spelt (n : ℕ) : Type 0 where
    pub formed : well_formed s ≡ true
    pub bytes : encoded s ≡ Some (spelt s)
    pub count : length (spelt s) ≡ n

  pub is_spelt : (n : ℕ) → Some n ≡ length_of (encoded s) → Spelt n
  unfolding well_formed spelt
  is_spelt n = go (points s) refl
    where
      go : (o : Option (List ℕ)) → points s ≡ o → Some n ≡ length_of (encoded s) → Spelt n
      go None e h = absurd (none-some n (sym (rw e at h)))
      go (Some ps) e h = record { formed = rw (e, well_formed); bytes = rw (e, spelt); count = rw (e, spelt) (same_Some (length (utf16les ps)) n (sym (rw e at h))) }

  pub not_spelt : None ≡ length_of (encoded s) → well_formed s ≡ false
  unfolding well_formed
  not_spelt = go (points s) refl
    where
      go : (o : Option (List ℕ)) → points s ≡ o → None ≡ length_of (encoded s) → well_formed s ≡ false
      go None e h = rw (e, well_formed)
      go (Some ps) e h = absurd (none-some (length (utf16les ps)) (rw e at h))

-- the answers
module _ {D : Type 0} (digest : D) (password scratch : List ℕ) where
  pub too_short : length scratch < 64 → Answers digest password scratch None scratch
  too_short h =
      let e = lt-leb 64 (length scratch) h in
      let f : fits password scratch ≡ false = rw e in
      record { digested = sym (left _ _ f); wiped = sym (left _ _ e) }

  module _ (h : 64 ≤ length scratch) where
    fits_as : {t : Bool} → well_formed password ≡ t → fits password scratch ≡ t
    fits_as e = rw (le-leb 64 (length scratch) h) e

    pub malformed : (scratch' : List ℕ) → well_formed password ≡ false → scratch' ≡ pick (leb 64 (length scratch)) (replicate 64 0 ++ drop 64 scratch) scratch
        → Answers digest password scratch None scratch'
    malformed scratch' e g = record { digested = sym (left _ _ (fits_as e)); wiped = g }

    -- the part that was lent comes back in front of the rest, and is wiped
    pub digested : (told : D) (part scratch' : List ℕ) → well_formed password ≡ true → told ≡ digest → length part ≡ length (take 64 scratch)
        → scratch' ≡ pick (leb 64 (length (part ++ drop 64 scratch))) (replicate 64 0 ++ drop 64 (part ++ drop 64 scratch)) (part ++ drop 64 scratch)
        → Answers digest password scratch (Some told) scratch'
    digested told part scratch' e b l g =
        let n : length part ≡ 64 = l ∙ length-take-le 64 scratch h in
        let m : 64 ≤ length (part ++ drop 64 scratch) = rw length-append (omega arith) in
        record {
          digested = ap Some b ∙ sym (taken _ _ (fits_as e));
          wiped = g ∙ taken _ _ (le-leb _ _ m) ∙ ap (λ (d : List ℕ). replicate 64 0 ++ d) (drop_at part (drop 64 scratch) 64 n) ∙ sym (taken _ _ (le-leb _ _ h));
        }

-- the hash of some bytes and a text: its length may be told modulo 2^64
pub told_low : {S : Type 0} (f : S → List ℕ → S) (order : ℕ → List ℕ) → ((b n : ℕ) → b ≡ n % 2 ^ 64 → order b ≡ order n)
    → (h : S) (m : List ℕ) (total : ℕ) → total ≡ length m % 2 ^ 64 → hash_end f order h m total ≡ hash f order h m
unfolding hash_end
told_low f order low h m total e =
    let n = length m in
    let b = 8 * n % 2 ^ 64 in
    let s : order (8 * total) ≡ order (8 * n) = sym (low b (8 * total) (omega arith)) ∙ low b (8 * n) (omega arith) in
    rw s
