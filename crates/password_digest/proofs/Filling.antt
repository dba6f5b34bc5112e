-- Filling the block, and hashing by it: a byte that is to come and is put behind those in the block leaves what both make, so a full block is hashed,
-- and the hash goes on with what is to come. The hash is any function on a value and a block, with any order of the length's bytes.
-- Assumes nothing.
use Rattle.std.specs.Prelude.{Some}
use Rattle.std.proofs.Common.{◌≡◌, ℕ, ◌+◌, ◌/◌, ◌<◌, List, ◌++◌, length, take, set, sym, refl, ap, ◌∙◌, append-nil, le_of_eq, add-one, take_all, take-suc-set}
use lib.Seq.{append_snoc}
use Rattle.padding.specs.Padding.{blocks, hash_end}
use Rattle.padding.proofs.Blocks.{hash_end_on}
use Rattle.sensitive.specs.Utf16.{encoded}
use Rattle.password_digest.specs.Filling.{Byte, Ends, Goes, Fills}
use Rattle.password_digest.proofs.Steps.{comes_all}

-- at the start: all of the encoding is to come, behind what goes before it
pub goes_start : (s e before block : List ℕ) → encoded s ≡ Some e → take (length before) block ≡ before → Goes s block 0 0 (length before) (before ++ e)
goes_start s e before block h g = record { rest = e; comes = comes_all s e h; parts = ap (λ (x : List ℕ). x ++ e) (sym g) }

module _ (s block : List ℕ) (at skip n : ℕ) where
  -- one byte more
  pub goes_more : (b at' skip' : ℕ) → n < length block → Byte s at skip b at' skip' → (m : List ℕ) → Goes s block at skip n m
      → Goes s (set block n b) at' skip' (n + 1) m
  goes_more b at' skip' h t m w =
      let q = t.first w.rest w.comes in
      record {
        rest = q.0;
        comes = q.2;
        parts =
            w.parts
            ∙ ap (λ (l : List ℕ). take n block ++ l) q.1
            ∙ sym (append_snoc (take n block) b q.0)
            ∙ ap (λ (l : List ℕ). l ++ q.0) (sym (take-suc-set block n b h))
            ∙ ap (λ (k : ℕ). take k (set block n b) ++ q.0) (sym (add-one n));
      }

  -- nothing is to come
  pub goes_all : Ends s at skip → (m : List ℕ) → Goes s block at skip n m → m ≡ take n block
  goes_all t m w = w.parts ∙ ap (λ (l : List ℕ). take n block ++ l) (t w.rest w.comes) ∙ append-nil (take n block)

module _ {S : Type 0} (f : S → List ℕ → S) (order : ℕ → List ℕ) (total : ℕ) (s : List ℕ) (h₀ : S) (m₀ : List ℕ) where
  -- the hash of m₀ from h₀ on is that of what is in the block and to come from h on
  pub record Hashes (h : S) (block : List ℕ) (at skip n : ℕ) : Type 0 where
    pub rest : List ℕ
    pub goes : Goes s block at skip n rest
    pub same : hash_end f order h rest total ≡ hash_end f order h₀ m₀ total
    pub all : n < 64 → rest ≡ take n block

  -- the first block is filled
  pub hashes_first : {block block' : List ℕ} {at skip n at' skip' n' : ℕ} → Fills s block at skip n block' at' skip' n' → Goes s block at skip n m₀
      → Hashes h₀ block' at' skip' n'
  hashes_first w g = record { rest = m₀; goes = w.goes m₀ g; same = refl; all = λ k. w.all k m₀ g }

  -- a full block is hashed, and filled again
  pub hashes_more : {h v : S} {block block' : List ℕ} {at skip n at' skip' n' : ℕ} → length block ≡ 64 → n ≡ 64
      → Hashes h block at skip n
      → v ≡ blocks f h block (length block / 64) → Fills s block at skip 0 block' at' skip' n' → Hashes v block' at' skip' n'
  hashes_more {h} {v} {block} {at = at} {skip = skip} {n = n} l e w g k =
      let r = w.goes.rest in
      let o : Goes s block at skip 0 r = record { rest = r; comes = w.goes.comes; parts = refl } in
      record {
        rest = r;
        goes = k.goes r o;
        same =
            let whole : w.rest ≡ block ++ r = w.goes.parts ∙ ap (λ (x : List ℕ). x ++ r) (take_all n block (le_of_eq (l ∙ sym e))) in
            rw (g, l) (sym (hash_end_on f order h block r 1 total l)) ∙ ap (λ (x : List ℕ). hash_end f order h x total) (sym whole) ∙ w.same;
        all = λ q. k.all q r o;
      }

  -- nothing is to come, and what is in the block is the end
  pub hashes_end : {h : S} {block : List ℕ} {at skip n : ℕ} → n < 64 → Hashes h block at skip n → hash_end f order h (take n block) total ≡ hash_end f order h₀ m₀ total
  hashes_end {h} k w = ap (λ (m : List ℕ). hash_end f order h m total) (sym (w.all k)) ∙ w.same
