-- The questions, asked from the top: past a "yes" the next one counts, a "no" answers, and a list behind another counts where that one has no "no".
-- Assumes nothing.
use Rattle.std.specs.Prelude.{Option, None, Some, Ok, Err}
use mathlib.Core.Path.{◌≡◌, refl, sym, ◌∙◌}
use mathlib.Core.Bool.{Bool, true, false}
use mathlib.Core.List.{List, [], ◌∷◌, ◌++◌}
use Rattle.laws.specs.Choice.{pick}
use Rattle.laws.proofs.Choice.{taken, left}
use Rattle.file_params.specs.declared.Refusal.{Refusal}
use Rattle.file_params.specs.Questions.{unless, Question, asked, only}

-- past a "yes"; a "no". A table of questions opens into these choices.
pub past : {t : Bool} {y z : Option Refusal} (x : Option Refusal) → t ≡ true → z ≡ y → z ≡ pick t y x
past {y = y} x e g = g ∙ sym (taken y x e)

pub refused : {t : Bool} {x : Option Refusal} (y : Option Refusal) → t ≡ false → x ≡ pick t y x
refused {x = x} y e = sym (left y x e)

-- a list of questions and another behind it
abbrev by : Option Refusal → Option Refusal → Option Refusal
by None b = b
by (Some r) b = Some r

pub asked_append : (ps qs : List Question) → asked (ps ++ qs) ≡ by (asked ps) (asked qs)
unfolding asked pick
asked_append [] qs = refl
asked_append (q ∷ ps) qs = go q.yes (asked_append ps qs)
  where
    go : (t : Bool) → asked (ps ++ qs) ≡ by (asked ps) (asked qs) → pick t (asked (ps ++ qs)) (Some q.no) ≡ by (pick t (asked ps) (Some q.no)) (asked qs)
    go true e = e
    go false e = refl

pub asked_on : (ps qs : List Question) → None ≡ asked ps → asked (ps ++ qs) ≡ asked qs
asked_on ps qs e = asked_append ps qs ∙ rw (← e)

pub asked_stop : (ps qs : List Question) (r : Refusal) → Some r ≡ asked ps → Some r ≡ asked (ps ++ qs)
asked_stop ps qs r e = sym (asked_append ps qs ∙ rw (← e))

-- a refusal of both together is one's or the other's
pub from_either : (ps qs : List Question) (r : Refusal) (P : Type 0) → (asked ps ≡ Some r → P) → (asked qs ≡ Some r → P) → asked (ps ++ qs) ≡ Some r → P
from_either ps qs r P f g e = go (asked ps) refl
  where
    go : (o : Option Refusal) → o ≡ asked ps → P
    go None h = g (sym (asked_on ps qs h) ∙ e)
    go (Some q) h = f (sym h ∙ asked_stop ps qs q h ∙ e)

module _ {t : Bool} (qs : List Question) where
  pub only_yes : t ≡ true → only t qs ≡ qs
  unfolding only
  only_yes e = taken qs [] e

  pub only_no : t ≡ false → only t qs ≡ []
  unfolding only
  only_no e = left qs [] e

-- where no question has a "no"
pub none_of_both : (ps qs : List Question) → asked (ps ++ qs) ≡ None → (asked ps ≡ None) × (asked qs ≡ None)
none_of_both ps qs e = go (asked ps) refl
  where
    go : (o : Option Refusal) → o ≡ asked ps → (asked ps ≡ None) × (asked qs ≡ None)
    go None g = (sym g, sym (asked_on ps qs g) ∙ e)
    go (Some r) g = let h = asked_stop ps qs r g in (cc, cc)

pub first_yes : (q : Question) (qs : List Question) → asked (q ∷ qs) ≡ None → q.yes ≡ true
unfolding asked pick
first_yes q qs e = go q.yes e
  where
    go : (t : Bool) → pick t (asked qs) (Some q.no) ≡ None → t ≡ true
    go true e = refl
    go false e = cc

pub rest_yes : (q : Question) (qs : List Question) → asked (q ∷ qs) ≡ None → asked qs ≡ None
unfolding asked pick
rest_yes q qs e = go q.yes e
  where
    go : (t : Bool) → pick t (asked qs) (Some q.no) ≡ None → asked qs ≡ None
    go true e = e
    go false e = cc

-- what an answer tells of the questions
module _ {A : Type 0} (told : A) where
  pub unless_refused : (a : Option Refusal) (r : Refusal) → unless told a ≡ Err r → Some r ≡ a
  unless_refused None r e = cc
  unless_refused (Some q) r e = cc

  module _ (x : A) where
    pub unless_passed : (a : Option Refusal) → unless told a ≡ Ok x → None ≡ a
    unless_passed None e = refl
    unless_passed (Some q) e = cc

    pub unless_told : (a : Option Refusal) → unless told a ≡ Ok x → x ≡ told
    unless_told None e = cc
    unless_told (Some q) e = cc
