-- `sensitive::utf16le_password` meets its contract: the three outcomes go by what `utf16le_len` answers and by the buffer's length; the part that is lent for writing is as long as
-- the encoding, and comes back in front of the rest.
-- Assumes nothing.
use Prim.Native.Nat.{ℕ, ◌≤◌, ◌<◌}
use mathlib.Core.Path.{◌≡◌, refl, sym, ◌∙◌}
use mathlib.Core.List.{List, ◌++◌}
use borrow.Author.Rules.{rules}
use lib.ListN.{length, take, drop}
use lib.Seq.{length-take-le}
use borrow.Author.Tests.{le-leb, lt-leb}
use Rattle.laws.proofs.Choice.{taken, left}
use Rattle.sensitive.specs.Utf16.{encoded, length_of, into}
use Rattle.std.specs.Prelude.{Option as Answer, Some, None, Ok, Err, ok_or, Option}
use Rattle.sensitive.specs.declared.EncodeError.{EncodeError}
use Rattle.sensitive.specs.declared.EncodeError.TheVariants.{Malformed, Short}
use Rattle.sensitive.proofs.utf16le_password.Goals as goal

-- the three outcomes
module _ (o : Option (List ℕ)) (out : List ℕ) where
  bad : length_of o ≡ None → into o out ≡ record { answer = Err Malformed; out = out }
  unfolding into
  bad = go o
    where
      go : (o : Option (List ℕ)) → length_of o ≡ None → into o out ≡ record { answer = Err Malformed; out = out }
      go None e = refl
      go (Some bs) e = cc

  module _ (bs : List ℕ) (e : o ≡ Some bs) where
    short : length out < length bs → into o out ≡ record { answer = Err (Short (length bs)); out = out }
    unfolding into
    short h = rw e (left _ _ (lt-leb (length bs) (length out) h))

    whole : length bs ≤ length out → into o out ≡ record { answer = Ok (length bs); out = bs ++ drop (length bs) out }
    unfolding into
    whole h = rw e (taken _ _ (le-leb (length bs) (length out) h))

sized : (o : Option (List ℕ)) (n : ℕ) → length_of o ≡ Some n → (bs : List ℕ) × (o ≡ Some bs) × (length bs ≡ n)
sized None n e = cc
sized (Some bs) n e = (bs, refl, cc)

no_len : (o : Answer ℕ) (e : EncodeError) → Err e ≡ ok_or o Malformed → (o ≡ None) × (e ≡ Malformed)
no_len None e f = (refl, cc)
no_len (Some n) e f = cc

has_len : (o : Answer ℕ) (n : ℕ) → Ok n ≡ ok_or o Malformed → o ≡ Some n
has_len None n f = cc
has_len (Some m) n f = cc

pub returns-in_err-n : goal.returns-in_err-n
returns-in_err-n c =
    let n = no_len _ _ c.in_err-n.ensures.value in
    rw (bad (encoded c.args.text.now) c.args.out.now (sym c.utf16le_len.ensures ∙ n.0)) (record { answer = search rules; out = refl })

pub returns-then-out-n : goal.returns-then-out-n
returns-then-out-n c =
    let b = sized (encoded c.args.text.now) _ (sym c.utf16le_len.ensures ∙ has_len _ _ c.in_ok-n.ensures.value) in
    rw (← b.2, short (encoded c.args.text.now) c.args.out.now b.0 b.1 (rw b.2 c.if-out-n.true)) (record { answer = refl; out = refl })

pub returns : goal.returns
returns c =
    let e = sym c.utf16le_len.ensures ∙ has_len _ _ c.in_ok-n.ensures.value in
    let fits : c.in_ok-n.n ≡ length (take c.in_ok-n.n c.args.out.now) = sym (length-take-le c.in_ok-n.n c.args.out.now c.if-out-n.false) in
    let l = fits ∙ sym c.put_text.auto.out in
    rw (l, whole (encoded c.args.text.now) c.args.out.now c.put_text.new.out c.put_text.ensures (rw (← l) c.if-out-n.false)) (record { answer = refl; out = refl })
