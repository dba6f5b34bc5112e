-- The password's digest H0: MS-OFFCRYPTO 2.3.5.2 (SHA-1 of salt and password) and 2.3.6.2 (MD5 of the password), the password in UTF-16LE.
-- Assumes nothing.
use Rattle.std.specs.Prelude.{◌≡◌, ℕ, Bool, ◌&&◌, List, [], ◌++◌, length, drop, replicate, nat_le, Option, Some, None}
use Rattle.laws.specs.Choice.{pick}
use Rattle.sensitive.specs.Utf8.{well_formed}
use Rattle.sensitive.specs.Utf16.{encoded}
use Rattle.sha_1.specs.Sha1.{sha1}
use Rattle.md_5.specs.Md5.{md5}

-- the password in UTF-16LE; a text that is not well formed has no bytes
unfoldable pub spelt : List ℕ → List ℕ
spelt password = elim (encoded password) [ None ↦ [] | Some bytes ↦ bytes ]

-- 2.3.5.2: H0 = H(salt + password)
abbrev pub sha1_of : List ℕ → List ℕ → List ℕ
sha1_of salt password = sha1 (salt ++ spelt password)

-- 2.3.6.2: H0 = H(password)
abbrev pub md5_of : List ℕ → List ℕ
md5_of password = md5 (spelt password)

-- what the functions answer and leave: the digest where the scratch has 64 bytes and the text is well formed, else none; those 64 bytes end zero
abbrev pub fits : List ℕ → List ℕ → Bool
fits password scratch = nat_le 64 (length scratch) && well_formed password

pub record Digests (digest : List ℕ) (password scratch : List ℕ) (told : Option (List ℕ)) (scratch' : List ℕ) : Type 0 where
  pub digested : told ≡ pick (fits password scratch) (Some digest) None
  pub wiped : scratch' ≡ pick (nat_le 64 (length scratch)) (replicate 64 0 ++ drop 64 scratch) scratch
