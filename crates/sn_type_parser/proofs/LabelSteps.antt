-- One token of labels at a time: what completes the state before it begins with it, and goes on as what completes the
-- state after it.
use Rattle.std.proofs.Common.{ℕ, Bool, true, false, Result, Ok, Err, List, [], ◌∷◌, ◌++◌, ◌≡◌, ◌↔◌, Some, None, refl, subst}
use Rattle.sn_ast.specs.Labels.{Labels, MoreLabels, no_labels, labels, last_label, more_labels}
use Rattle.sn_ast.specs.Terminals.{label_of}
use Rattle.sn_ast.specs.declared.label.LabelAt.{LabelAt}
use Rattle.sn_ast.specs.declared.terminal.Bracket.{Bracket}
use Rattle.sn_ast.specs.declared.terminal.Bracket.TheVariants.{Paren, Brace, Square}
use Rattle.sn_ast.specs.declared.terminal.Symbol.{Symbol as SomeSymbol}
use Rattle.sn_ast.specs.declared.terminal.Symbol.TheVariants.{Comma}
use Rattle.sn_ast.specs.declared.terminal.Terminal.{Terminal}
use Rattle.sn_ast.specs.declared.terminal.Terminal.TheVariants.{Symbol}
use Rattle.sn_type_parser.specs.LabelResidual.{closes, NextLabel, FirstLabel, next_label, no_label, some_label, CompletesIn, StepsIn}
use Rattle.sn_type_parser.specs.Reads.{Read, read}
use Rattle.sn_type_parser.specs.declared.labels.LabelStep.{LabelStep}
use Rattle.sn_type_parser.specs.declared.labels.LabelStep.TheVariants.{More, Done}
use Rattle.sn_type_parser.specs.declared.labels.LabelStop.{LabelStop}
use Rattle.sn_type_parser.specs.declared.labels.LabelStop.TheVariants.{Memory, Refused}
use Rattle.sn_type_parser.specs.declared.labels.Mode.{Mode}

-- what closes a bracket is no label
not_both : (b : Bracket) (x : Terminal) (l : LabelAt) → closes b x → label_of x ≡ Some l → ⊥
not_both b (Symbol s at) l h e = cc
not_both b x l h e = h

done_first_from : {b : Bracket} {so_far : List LabelAt} {x : Terminal} {w : List Terminal} {t : Read (List LabelAt)} →
    closes b x → FirstLabel b so_far (x ∷ w) t → read so_far w ≡ t
done_first_from h (no_label k) = refl
done_first_from {b} {so_far} {x} h (some_label (next_label {l = l} e m)) = absurd (not_both b x l h e)

done_first_to : {b : Bracket} {so_far : List LabelAt} {x : Terminal} {w : List Terminal} {t : Read (List LabelAt)} →
    closes b x → read so_far w ≡ t → FirstLabel b so_far (x ∷ w) t
done_first_to {b} {so_far} {x} {w} h e = let P : Read (List LabelAt) → Type 0 = λ r. FirstLabel b so_far (x ∷ w) r in subst P e (no_label h)

pub done_first : (b : Bracket) (so_far : List LabelAt) (x : Terminal) → closes b x → (w : List Terminal) (t : Read (List LabelAt)) →
    FirstLabel b so_far (x ∷ w) t ↔ (read so_far w ≡ t)
done_first b so_far x h w t = (done_first_from h, done_first_to h)

first_from : {b : Bracket} {so_far : List LabelAt} {x : Terminal} {w : List Terminal} {t : Read (List LabelAt)} →
    (closes b x → ⊥) → FirstLabel b so_far (x ∷ w) t → NextLabel b so_far (x ∷ w) t
first_from n (no_label k) = absurd (n k)
first_from n (some_label l) = l

pub first_is_next : (b : Bracket) (so_far : List LabelAt) (x : Terminal) → (closes b x → ⊥) → (w : List Terminal) (t : Read (List LabelAt)) →
    FirstLabel b so_far (x ∷ w) t ↔ NextLabel b so_far (x ∷ w) t
first_is_next b so_far x n w t = (first_from n, some_label)

pub start_from : {b : Bracket} {w us : List Terminal} {all : List LabelAt} → Labels b w all us → FirstLabel b [] w (read all us)
start_from (no_labels e) = no_label e
start_from (labels e m) = some_label (next_label e m)

pub start_to : {b : Bracket} {w : List Terminal} {t : Read (List LabelAt)} → FirstLabel b [] w t → Labels b w t.part t.rest
start_to {b} (no_label {x = Symbol s at} h) = no_labels h
start_to {b} (no_label {x} h) = absurd h
start_to (some_label (next_label e m)) = labels e m

label_from : {b : Bracket} {so_far : List LabelAt} {x : Terminal} {l : LabelAt} {w : List Terminal} {t : Read (List LabelAt)} →
    label_of x ≡ Some l → NextLabel b so_far (x ∷ w) t → MoreLabels b (so_far ++ (l ∷ [])) w t.part t.rest
label_from {b} {so_far} {x} {l} {w} h (next_label {l = k} {all = all} {vs = vs} e m) =
    let i : k ≡ l = cc in
    let P : LabelAt → Type 0 = λ y. MoreLabels b (so_far ++ (y ∷ [])) w all vs in
    subst P i m

pub label_step : (b : Bracket) (so_far next : List LabelAt) (x : Terminal) (l : LabelAt) → label_of x ≡ Some l → next ≡ so_far ++ (l ∷ []) →
    (w : List Terminal) (t : Read (List LabelAt)) → NextLabel b so_far (x ∷ w) t ↔ MoreLabels b next w t.part t.rest
label_step b so_far next x l h e w t = rw e (label_from h, λ m. next_label h m)

pub no_label_step : (b : Bracket) (so_far : List LabelAt) (x : Terminal) → label_of x ≡ None → (w : List Terminal) (t : Read (List LabelAt)) →
    NextLabel b so_far (x ∷ w) t → ⊥
no_label_step b so_far x h w t (next_label e m) = absurd cc

done_after_from : {b : Bracket} {so_far all : List LabelAt} {x : Terminal} {w us : List Terminal} →
    closes b x → MoreLabels b so_far (x ∷ w) all us → read so_far w ≡ read all us
done_after_from h (last_label e) = refl
done_after_from {b = Paren} h (more_labels e m) = absurd cc
done_after_from {b = Brace} h (more_labels e m) = absurd cc
done_after_from {b = Square} h (more_labels e m) = absurd cc

done_after_to : {b : Bracket} {so_far : List LabelAt} {x : Terminal} {w : List Terminal} {t : Read (List LabelAt)} →
    closes b x → read so_far w ≡ t → MoreLabels b so_far (x ∷ w) t.part t.rest
done_after_to {b} {so_far} {x = Symbol s at} {w} h e =
    let P : Read (List LabelAt) → Type 0 = λ r. MoreLabels b so_far (Symbol s at ∷ w) r.part r.rest in subst P e (last_label h)
done_after_to {b} {so_far} {x} {w} h e = absurd h

pub done_after : (b : Bracket) (so_far : List LabelAt) (x : Terminal) → closes b x → (w : List Terminal) (t : Read (List LabelAt)) →
    MoreLabels b so_far (x ∷ w) t.part t.rest ↔ (read so_far w ≡ t)
done_after b so_far x h w t = (done_after_from h, done_after_to h)

comma_from : {b : Bracket} {so_far all : List LabelAt} {at : ℕ} {w us : List Terminal} →
    MoreLabels b so_far (Symbol Comma at ∷ w) all us → NextLabel b so_far w (read all us)
comma_from {b = Paren} (last_label e) = absurd cc
comma_from {b = Brace} (last_label e) = absurd cc
comma_from {b = Square} (last_label e) = absurd cc
comma_from (more_labels e m) = next_label e m

comma_to : {b : Bracket} {so_far : List LabelAt} {at : ℕ} {w : List Terminal} {t : Read (List LabelAt)} →
    NextLabel b so_far w t → MoreLabels b so_far (Symbol Comma at ∷ w) t.part t.rest
comma_to (next_label e m) = more_labels e m

pub comma_step : (b : Bracket) (so_far : List LabelAt) (x : Terminal) (s : SomeSymbol) (at : ℕ) → x ≡ Symbol s at → s ≡ Comma →
    (w : List Terminal) (t : Read (List LabelAt)) → MoreLabels b so_far (x ∷ w) t.part t.rest ↔ NextLabel b so_far w t
comma_step b so_far x s at e f w t = rw (e, f) (comma_from, comma_to)

-- A token that is neither a comma nor the closing bracket completes nothing after a label.
pub no_more : (b : Bracket) (so_far : List LabelAt) (x : Terminal) → (closes b x → ⊥) → ((at : ℕ) → x ≡ Symbol Comma at → ⊥) →
    (w : List Terminal) (t : Read (List LabelAt)) → MoreLabels b so_far (x ∷ w) t.part t.rest → ⊥
no_more b so_far x n k w t m = refused n k m
  where
    refused : {b : Bracket} {so_far all : List LabelAt} {x : Terminal} {w us : List Terminal} → (closes b x → ⊥) → ((at : ℕ) → x ≡ Symbol Comma at → ⊥) →
        MoreLabels b so_far (x ∷ w) all us → ⊥
    refused n k (last_label e) = n e
    refused n k (more_labels {at} e m) = k at refl

-- What one state takes another takes, where the same completes both from this token on.
pub steps_through : (b : Bracket) (so_far : List LabelAt) (m n : Mode) (x : Terminal) (r : Result LabelStep LabelStop) →
    ((w : List Terminal) (t : Read (List LabelAt)) → CompletesIn b so_far m (x ∷ w) t ↔ CompletesIn b so_far n (x ∷ w) t) →
    StepsIn b so_far n x r → StepsIn b so_far m x r
steps_through b so_far m n x (Ok (More s)) k h = λ w t. (λ y. (h w t).0 ((k w t).0 y), λ y. (k w t).1 ((h w t).1 y))
steps_through b so_far m n x (Ok (Done all)) k h = λ w t. (λ y. (h w t).0 ((k w t).0 y), λ y. (k w t).1 ((h w t).1 y))
steps_through b so_far m n x (Err Memory) k h = tt
steps_through b so_far m n x (Err Refused) k h = λ w t y. h w t ((k w t).0 y)

-- what a test that failed says
pub is_not : {b : Bool} {P : Type 0} → b ≡ false → (b ≡ true) ↔ P → P → ⊥
is_not e h p = let f = h.1 p in absurd cc
