-- One token of a type at a time: what completes the state before it begins with it, and goes on as what completes the
-- state after it.
use Rattle.std.proofs.Common.{ℕ, true, false, List, [], ◌∷◌, ◌++◌, ◌≡◌, ◌≢◌, ◌↔◌, Ok, Err, refl, sym, subst}
use Rattle.sn_ast.specs.Labels.{Labels, Types, variant, set, named, last_part, more_parts, types}
use Rattle.sn_ast.specs.declared.label.Ident.{Ident}
use Rattle.sn_ast.specs.declared.label.LabelAt.{LabelAt}
use Rattle.sn_ast.specs.declared.label.TypePart.{TypePart}
use Rattle.sn_ast.specs.declared.label.TypePart.TheVariants.{Set, Named}
use Rattle.sn_ast.specs.declared.terminal.Bracket.TheVariants.{Brace}
use Rattle.sn_ast.specs.declared.terminal.Symbol.{Symbol as SomeSymbol}
use Rattle.sn_ast.specs.declared.terminal.Symbol.TheVariants.{OpenBrace, Bar}
use Rattle.sn_ast.specs.declared.terminal.Terminal.{Terminal}
use Rattle.sn_ast.specs.declared.terminal.Terminal.TheVariants.{Name, Symbol}
use Rattle.sn_type_parser.specs.LabelResidual.{Completes as CompletesLabels, Steps as LabelSteps}
use Rattle.sn_type_parser.specs.Reads.{Read, read}
use Rattle.sn_type_parser.specs.TypeResidual.{can_follow_type, EndsType, AfterPart, NextPart, InLabels, after_part, next_part, in_labels, StepsIn}
use Rattle.sn_type_parser.specs.declared.labels.LabelParser.{LabelParser}
use Rattle.sn_type_parser.specs.declared.labels.LabelStep.TheVariants.{More, Done}
use Rattle.sn_type_parser.specs.declared.types.Mode.TheVariants.{After}
use Rattle.sn_type_parser.specs.declared.types.TypeStop.TheVariants.{Ended}

pub start_from : {w us : List Terminal} {all : List TypePart} → Types w all us → EndsType us → NextPart [] w (read all us)
start_from (types p m) e = next_part p (after_part m e)

pub start_to : {w : List Terminal} {t : Read (List TypePart)} → NextPart [] w t → Types w t.part t.rest × EndsType t.rest
start_to (next_part p (after_part m e)) = (types p m, e)

name_from : {so_far : List TypePart} {n : Ident} {w : List Terminal} {t : Read (List TypePart)} →
    NextPart so_far (Name n ∷ w) t → AfterPart (so_far ++ (Named n ∷ [])) w t
name_from (next_part named a) = a
name_from (next_part (set v) a) = elim v [ ]

pub name_step : (so_far next : List TypePart) (x : Terminal) (n : Ident) → x ≡ Name n → next ≡ so_far ++ (Named n ∷ []) →
    (w : List Terminal) (t : Read (List TypePart)) → NextPart so_far (x ∷ w) t ↔ AfterPart next w t
name_step so_far next x n e f w t = rw (e, f) (name_from, λ a. next_part named a)

open_from : {so_far : List TypePart} {at : ℕ} {s : LabelParser} {w : List Terminal} {t : Read (List TypePart)} →
    ((w us : List Terminal) (all : List LabelAt) → Labels Brace w all us → CompletesLabels s w (read all us)) →
    NextPart so_far (Symbol OpenBrace at ∷ w) t → InLabels so_far at s w t
open_from {w = w} f (next_part {us = us} (set (variant {all = all} l)) a) = in_labels all us (f w us all l) a

open_to : {so_far : List TypePart} {at : ℕ} {s : LabelParser} {w : List Terminal} {t : Read (List TypePart)} →
    ((w : List Terminal) (t : Read (List LabelAt)) → CompletesLabels s w t → Labels Brace w t.part t.rest) →
    InLabels so_far at s w t → NextPart so_far (Symbol OpenBrace at ∷ w) t
open_to {w = w} g (in_labels labels us c a) = next_part (set (variant (g w (read labels us) c))) a

pub open_step : (so_far : List TypePart) (b : SomeSymbol) (at : ℕ) (s : LabelParser) → b ≡ OpenBrace →
    ((w us : List Terminal) (all : List LabelAt) → Labels Brace w all us → CompletesLabels s w (read all us)) →
    ((w : List Terminal) (t : Read (List LabelAt)) → CompletesLabels s w t → Labels Brace w t.part t.rest) →
    (w : List Terminal) (t : Read (List TypePart)) → NextPart so_far (Symbol b at ∷ w) t ↔ InLabels so_far at s w t
open_step so_far b at s e f g w t = rw e (open_from f, open_to g)

-- What begins no part completes nothing where a part comes next.
pub no_opening : (so_far : List TypePart) (b : SomeSymbol) (at : ℕ) → b ≢ OpenBrace → (w : List Terminal) (t : Read (List TypePart)) →
    NextPart so_far (Symbol b at ∷ w) t → ⊥
no_opening so_far b at n w t (next_part (set (variant l)) a) = n refl

pub no_part : (so_far : List TypePart) (x : Terminal) → ((n : Ident) → x ≡ Name n → ⊥) → ((s : SomeSymbol) (at : ℕ) → x ≡ Symbol s at → ⊥) →
    (w : List Terminal) (t : Read (List TypePart)) → NextPart so_far (x ∷ w) t → ⊥
no_part so_far x n k w t (next_part (set (variant {at} l)) a) = k OpenBrace at refl
no_part so_far x n k w t (next_part (named {name}) a) = n name refl

-- The parser of labels takes a token of a variant.
pub labels_more : (so_far : List TypePart) (at : ℕ) (s next : LabelParser) (x : Terminal) → LabelSteps s x (Ok (More next)) →
    (w : List Terminal) (t : Read (List TypePart)) → InLabels so_far at s (x ∷ w) t ↔ InLabels so_far at next w t
labels_more so_far at s next x k w t = (
  λ i. elim i [ in_labels labels us c a ↦ in_labels labels us ((k w (read labels us)).0 c) a ],
  λ i. elim i [ in_labels labels us c a ↦ in_labels labels us ((k w (read labels us)).1 c) a ],
)

done_from : {so_far : List TypePart} {at : ℕ} {s : LabelParser} {x : Terminal} {all : List LabelAt} {w : List Terminal} {t : Read (List TypePart)} →
    ((t : Read (List LabelAt)) → CompletesLabels s (x ∷ w) t → read all w ≡ t) →
    InLabels so_far at s (x ∷ w) t → AfterPart (so_far ++ (Set (record { labels = all; at = at }) ∷ [])) w t
done_from {so_far} {at} {t = t} k (in_labels labels us c a) =
    let P : Read (List LabelAt) → Type 0 = λ r. AfterPart (so_far ++ (Set (record { labels = r.part; at = at }) ∷ [])) r.rest t in
    subst P (sym (k (read labels us) c)) a

pub labels_done : (so_far next : List TypePart) (at : ℕ) (s : LabelParser) (x : Terminal) (all : List LabelAt) → LabelSteps s x (Ok (Done all)) →
    next ≡ so_far ++ (Set (record { labels = all; at = at }) ∷ []) →
    (w : List Terminal) (t : Read (List TypePart)) → InLabels so_far at s (x ∷ w) t ↔ AfterPart next w t
labels_done so_far next at s x all k e w t =
    rw e (done_from (λ r. (k w r).0), λ a. in_labels all w ((k w (read all w)).1 refl) a)

bar_from : {so_far : List TypePart} {at : ℕ} {w : List Terminal} {t : Read (List TypePart)} → AfterPart so_far (Symbol Bar at ∷ w) t → NextPart so_far w t
bar_from (after_part last_part e) = absurd cc
bar_from (after_part (more_parts p m) e) = next_part p (after_part m e)

bar_to : {so_far : List TypePart} {at : ℕ} {w : List Terminal} {t : Read (List TypePart)} → NextPart so_far w t → AfterPart so_far (Symbol Bar at ∷ w) t
bar_to (next_part p (after_part m e)) = after_part (more_parts p m) e

pub bar_step : (so_far : List TypePart) (x : Terminal) (s : SomeSymbol) (at : ℕ) → x ≡ Symbol s at → s ≡ Bar →
    (w : List Terminal) (t : Read (List TypePart)) → AfterPart so_far (x ∷ w) t ↔ NextPart so_far w t
bar_step so_far x s at e f w t = rw (e, f) (bar_from, bar_to)

-- The type ends before a token that may follow it.
ended_from : {so_far : List TypePart} {s : SomeSymbol} {at : ℕ} {w : List Terminal} {t : Read (List TypePart)} → s ≢ Bar →
    AfterPart so_far (Symbol s at ∷ w) t → read so_far (Symbol s at ∷ w) ≡ t
ended_from n (after_part last_part e) = refl
ended_from n (after_part (more_parts p m) e) = absurd (n refl)

ended_to : {so_far : List TypePart} {s : SomeSymbol} {at : ℕ} {w : List Terminal} {t : Read (List TypePart)} → can_follow_type s ≡ true →
    read so_far (Symbol s at ∷ w) ≡ t → AfterPart so_far (Symbol s at ∷ w) t
ended_to {so_far} {s} {at} {w} h e =
    let P : Read (List TypePart) → Type 0 = λ r. AfterPart so_far (Symbol s at ∷ w) r in subst P e (after_part last_part h)

pub ended : (so_far : List TypePart) (s : SomeSymbol) (at : ℕ) → s ≢ Bar → can_follow_type s ≡ true →
    StepsIn so_far After (Symbol s at) (Err (Ended so_far s at))
ended so_far s at n h = (refl, λ w t. (ended_from n, ended_to h))

pub not_ended : (so_far : List TypePart) (s : SomeSymbol) (at : ℕ) → s ≢ Bar → can_follow_type s ≡ false →
    (w : List Terminal) (t : Read (List TypePart)) → AfterPart so_far (Symbol s at ∷ w) t → ⊥
not_ended so_far s at n h w t (after_part last_part e) = cc
not_ended so_far s at n h w t (after_part (more_parts p m) e) = n refl

no_type_ends : (x : Terminal) (w : List Terminal) → ((s : SomeSymbol) (at : ℕ) → x ≡ Symbol s at → ⊥) → EndsType (x ∷ w) → ⊥
no_type_ends (Symbol s at) w n e = n s at refl
no_type_ends x w n e = e

pub no_symbol : (so_far : List TypePart) (x : Terminal) → ((s : SomeSymbol) (at : ℕ) → x ≡ Symbol s at → ⊥) →
    (w : List Terminal) (t : Read (List TypePart)) → AfterPart so_far (x ∷ w) t → ⊥
no_symbol so_far x n w t (after_part last_part e) = no_type_ends x w n e
no_symbol so_far x n w t (after_part (more_parts {at} p m) e) = n Bar at refl
