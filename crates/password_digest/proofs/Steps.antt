-- A step through the text: the byte found is the first of those to come, and the place behind it has the rest. A character's bytes are taken one after the other,
-- and the last of them moves on to the next character.
-- Assumes nothing.
use Rattle.laws.proofs.Results.{made_of}
use Rattle.std.proofs.lemmas.Option.{none-some, same_Some}
use Rattle.std.specs.Prelude.{Some}
use Rattle.std.proofs.Common.{◌≡◌, ℕ, zero, suc, ◌+◌, ◌-◌, ◌<◌, ◌≤◌, List, [], ◌∷◌, ◌++◌, length, get_or, drop, sym, refl, ap, ◌∙◌, le_of_lt, add-one, arith, length-append, length-drop, drop_of_length-le, drop-cons, get_or-take}
use lib.Seq.{drop-nil, drop-append-le}
use Rattle.laws.proofs.Choice.{either}
use Rattle.sensitive.specs.Utf8.{char_at, points_from, points, utf8}
use Rattle.sensitive.specs.Utf16.{utf16le, utf16les, encoded}
use Rattle.sensitive.specs.declared.Units.{Units}
use Rattle.sensitive.specs.declared.Char.TheVariants.{Point, Malformed, End}
use Rattle.sensitive.proofs.Characters.{char_stands, utf8_some}
use Rattle.sensitive.proofs.Utf16.{one_unit, two_units, Spells}
use Rattle.password_digest.specs.Filling.{Comes, Byte, Ends}

-- a character has bytes
some_bytes : (p : ℕ) → 0 < length (utf16le p)
some_bytes p = either 0x10000 p (λ h. rw (two_units p h) (omega arith)) (λ h. rw (one_unit p h) (omega arith))

-- at the start of a text all of its encoding is to come
pub comes_all : (s e : List ℕ) → encoded s ≡ Some e → Comes s 0 0 e
unfolding points
comes_all s e h =
    let q = made_of utf16les (points s) e h in
    record { fuel = suc (length s); points = q.0; ahead = q.1; inside = λ p ps g. some_bytes p; bytes = sym q.2 }

-- the text behind a character is shorter
nearer : (s : List ℕ) (at p next : ℕ) → char_at s at ≡ Point p next → length s - next < length s - at
nearer s at p next e =
    let w = char_stands s at p next e in
    let l = sym (length-drop at s) ∙ ap length w.bytes ∙ length-append (utf8 p) (drop next s) ∙ ap (λ (n : ℕ). length (utf8 p) + n) (length-drop next s) in
    let h = utf8_some p in
    omega arith

module _ (s : List ℕ) (at skip : ℕ) where
  -- nothing is to come at the end, nor where no character stands
  pub ends : char_at s at ≡ End → Ends s at skip
  unfolding points_from utf16les
  ends e rest w = go w.fuel w.ahead
    where
      go : (f : ℕ) → points_from f s at ≡ Some w.points → rest ≡ []
      go zero h = absurd (none-some w.points h)
      go (suc f) h =
          let q = same_Some [] w.points (sym (rw (e, points_from)) ∙ h) in
          w.bytes ∙ ap (λ (ps : List ℕ). drop skip (utf16les ps)) (sym q) ∙ drop-nil skip

  pub breaks : char_at s at ≡ Malformed → Ends s at skip
  unfolding points_from
  breaks e rest w = go w.fuel w.ahead
    where
      go : (f : ℕ) → points_from f s at ≡ Some w.points → rest ≡ []
      go zero h = absurd (none-some w.points h)
      go (suc f) h = absurd (none-some w.points (sym (rw (e, points_from)) ∙ h))

  module _ (p next : ℕ) (e : char_at s at ≡ Point p next) where
    -- the character and those behind it
    record Behind (ps : List ℕ) : Type 0 where
      fuel : ℕ
      points : List ℕ
      ahead : points_from fuel s next ≡ Some points
      first : ps ≡ p ∷ points

    behind : (rest : List ℕ) (w : Comes s at skip rest) → Behind w.points
    unfolding points_from
    behind rest w = go w.fuel w.ahead
      where
        go : (f : ℕ) → points_from f s at ≡ Some w.points → Behind w.points
        go zero h = absurd (none-some w.points h)
        go (suc f) h =
            let q = made_of (λ (l : List ℕ). p ∷ l) (points_from f s next) w.points (sym (rw (e, points_from)) ∙ h) in
            record { fuel = f; points = q.0; ahead = q.1; first = sym q.2 }

    module _ (u : Units) (k : Spells u p) (small : skip < 4) where
      byte : skip < u.len → get_or (utf16le p) skip 0 ≡ get_or u.bytes skip 0
      byte h = rw (← k.bytes) (get_or-take u.len u.bytes skip 0 h)

      module _ (rest : List ℕ) (w : Comes s at skip rest) where
        in_it : skip < length (utf16le p)
        in_it = w.inside p (behind rest w).points (behind rest w).first

        taken : rest ≡ get_or u.bytes skip 0 ∷ (drop (suc skip) (utf16le p) ++ utf16les (behind rest w).points)
        unfolding utf16les
        taken =
            let b = behind rest w in
            let h = in_it in
            let l = k.len in
            w.bytes
            ∙ ap (λ (ps : List ℕ). drop skip (utf16les ps)) b.first
            ∙ drop-append-le skip (utf16le p) (utf16les b.points) (le_of_lt h)
            ∙ ap (λ (l : List ℕ). l ++ utf16les b.points) (drop-cons (utf16le p) skip 0 h)
            ∙ ap (λ (x : ℕ). x ∷ (drop (suc skip) (utf16le p) ++ utf16les b.points)) (byte (omega arith))

      -- a byte, and the character has more
      pub stays : skip + 1 < u.len → Byte s at skip (get_or u.bytes skip 0) at (skip + 1)
      unfolding utf16les
      stays h =
          let four = k.small in
          record {
            nearer = omega arith;
            first = λ rest w. (
              _,
              taken rest w,
              record {
                fuel = w.fuel;
                points = w.points;
                ahead = w.ahead;
                inside = λ q ps g. let f = (behind rest w).first in let same : p ≡ q = cc in rw (← same) (within k.len);
                bytes =
                    sym
                    (ap (λ (ps : List ℕ). drop (skip + 1) (utf16les ps)) (behind rest w).first
                    ∙ ap (λ (n : ℕ). drop n (utf16le p ++ utf16les (behind rest w).points)) (add-one skip)
                    ∙ drop-append-le (suc skip) (utf16le p) (utf16les (behind rest w).points) (in_it rest w));
              },
            );
          }
        where
          within : u.len ≡ length (utf16le p) → skip + 1 < length (utf16le p)
          within e = rw (← e) h

      -- the last byte of the character
      pub moves : u.len ≤ skip + 1 → Byte s at skip (get_or u.bytes skip 0) next 0
      unfolding utf16les
      moves h =
          let n = nearer s at p next e in
          record {
            nearer = omega arith;
            first = λ rest w. (
              utf16les (behind rest w).points,
              taken rest w ∙ rw (drop_of_length-le (utf16le p) past),
              record {
                fuel = (behind rest w).fuel;
                points = (behind rest w).points;
                ahead = (behind rest w).ahead;
                inside = λ q ps g. some_bytes q;
                bytes = refl;
              },
            );
          }
        where
          past : length (utf16le p) ≤ suc skip
          past = let l = k.len in omega arith
