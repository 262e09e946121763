-- One token of a filter at a time: what completes the state before it begins with it, and goes on as what completes the
-- state after it.
use Rattle.std.proofs.Common.{ℕ, List, [], ◌∷◌, ◌≡◌, ◌↔◌, Ok, Err, refl, sym, ap, subst, ◌∙◌}
use Rattle.std.specs.Prelude.{Result}
use Rattle.sn_ast.specs.Kept.{Kept, kept}
use Rattle.sn_ast.specs.Labels.{Labels, variant}
use Rattle.sn_ast.specs.Networks.{Filter, Items as AreItems, arm, arm_ends, arm_goes_on, arms, filter, filter_at, last_arm, last_template, last_templates, more_arms, more_templates, no_arms, template}
use Rattle.sn_ast.specs.Rows.{no_parts}
use Rattle.sn_ast.specs.TagExprs.{TagExpr}
use Rattle.sn_ast.specs.declared.label.LabelAt.{LabelAt}
use Rattle.sn_ast.specs.declared.label.Variant.{Variant}
use Rattle.sn_ast.specs.declared.network.ItemAt.{ItemAt}
use Rattle.sn_ast.specs.declared.network.NetExpr.{NetExpr}
use Rattle.sn_ast.specs.declared.tag_expr.TExpr.{TExpr}
use Rattle.sn_ast.specs.declared.terminal.Bracket.TheVariants.{Brace}
use Rattle.sn_ast.specs.declared.terminal.Keyword.TheVariants.{If, Else}
use Rattle.sn_ast.specs.declared.terminal.Symbol.{Symbol as SomeSymbol}
use Rattle.sn_ast.specs.declared.terminal.Symbol.TheVariants.{OpenBrace, CloseBracket, CloseParen, OpenParen, Semicolon, Arrow as ArrowSign}
use Rattle.sn_ast.specs.declared.terminal.Terminal.{Terminal}
use Rattle.sn_ast.specs.declared.terminal.Terminal.TheVariants.{Keyword, Symbol}
use Rattle.sn_expr_parser.specs.TagResidual.{Completes as GuardCompletes, Read as GuardRead, read as read_guard, ends as ends_guard}
use Rattle.sn_expr_parser.specs.declared.tags.TagParser.{TagParser}
use Rattle.sn_filter_parser.specs.FilterResidual.{Row, with_template, with_arm, begun_with, AfterPattern, AfterTemplate, InItems, InPattern, InsideGuard, NextArrow, NextGuard, NextTemplate, GuardCloses, StepsFrom, after_arm, after_last, after_one, after_pattern, in_items, in_pattern, inside_guard, next_arrow, next_guard, next_template}
use Rattle.sn_filter_parser.specs.ItemResidual.{Completes as CompletesItems, Steps as ItemSteps}
use Rattle.sn_filter_parser.specs.declared.filter.Begun.{Begun}
use Rattle.sn_filter_parser.specs.declared.filter.FilterStep.{FilterStep}
use Rattle.sn_filter_parser.specs.declared.filter.FilterStep.TheVariants.{More, Done}
use Rattle.sn_filter_parser.specs.declared.filter.FilterStop.{FilterStop}
use Rattle.sn_filter_parser.specs.declared.filter.FilterStop.TheVariants.{Memory, Refused}
use Rattle.sn_filter_parser.specs.declared.filter.Listed.{Listed}
use Rattle.sn_filter_parser.specs.declared.filter.Listed.TheVariants.{OfArm, Last}
use Rattle.sn_filter_parser.specs.declared.items.ItemParser.{ItemParser}
use Rattle.sn_filter_parser.specs.declared.items.ItemStep.TheVariants.{More as ItemMore, Done as ItemDone}
use Rattle.sn_type_parser.specs.LabelResidual.{Completes as CompletesLabels, Steps as LabelSteps}
use Rattle.sn_type_parser.specs.Reads.{Read, read}
use Rattle.sn_type_parser.specs.declared.labels.LabelParser.{LabelParser}
use Rattle.sn_type_parser.specs.declared.labels.LabelStep.TheVariants.{More as LabelMore, Done as LabelDone}

-- The pattern begins.
open_from : {at opening : ℕ} {s : LabelParser} {n : Kept NetExpr} {w us : List Terminal} →
    ((w us : List Terminal) (all : List LabelAt) → Labels Brace w all us → CompletesLabels s w (read all us)) →
    Filter kept at (Symbol OpenBrace opening ∷ w) n us → InPattern at opening s w (read n us)
open_from {w = w} f (filter {us = us} (variant {all = labels} l) a d) = in_pattern labels us (f w us labels l) (after_pattern a d)

open_to : {at opening : ℕ} {s : LabelParser} {w : List Terminal} {t : Read (Kept NetExpr)} →
    ((w : List Terminal) (t : Read (List LabelAt)) → CompletesLabels s w t → Labels Brace w t.part t.rest) →
    InPattern at opening s w t → Filter kept at (Symbol OpenBrace opening ∷ w) t.part t.rest
open_to {w = w} g (in_pattern labels us c (after_pattern a d)) = filter (variant (g w (read labels us) c)) a d

pub open_step : (at opening : ℕ) (s : LabelParser) (x : Terminal) → x ≡ Symbol OpenBrace opening →
    ((w us : List Terminal) (all : List LabelAt) → Labels Brace w all us → CompletesLabels s w (read all us)) →
    ((w : List Terminal) (t : Read (List LabelAt)) → CompletesLabels s w t → Labels Brace w t.part t.rest) →
    (w : List Terminal) (t : Read (Kept NetExpr)) → Filter kept at (x ∷ w) t.part t.rest ↔ InPattern at opening s w t
open_step at opening s x e f g w t = rw e (open_from f, open_to g)

no_filter : {at : ℕ} {x : Terminal} {n : Kept NetExpr} {w us : List Terminal} → ((opening : ℕ) → x ≡ Symbol OpenBrace opening → ⊥) → Filter kept at (x ∷ w) n us → ⊥
no_filter h (filter (variant {at = opening} l) a d) = h opening refl

pub no_pattern : (at : ℕ) (x : Terminal) → ((opening : ℕ) → x ≡ Symbol OpenBrace opening → ⊥) → (w : List Terminal) (t : Read (Kept NetExpr)) →
    Filter kept at (x ∷ w) t.part t.rest → ⊥
no_pattern at x h w t f = no_filter h f

-- The parser of labels takes a token of the pattern.
pub labels_more : (at opening : ℕ) (s next : LabelParser) (x : Terminal) → LabelSteps s x (Ok (LabelMore next)) →
    (w : List Terminal) (t : Read (Kept NetExpr)) → InPattern at opening s (x ∷ w) t ↔ InPattern at opening next w t
labels_more at opening s next x k w t = (
  λ i. elim i [ in_pattern labels us c a ↦ in_pattern labels us ((k w (read labels us)).0 c) a ],
  λ i. elim i [ in_pattern labels us c a ↦ in_pattern labels us ((k w (read labels us)).1 c) a ],
)

labels_from : {at opening : ℕ} {s : LabelParser} {x : Terminal} {all : List LabelAt} {w : List Terminal} {t : Read (Kept NetExpr)} →
    ((t : Read (List LabelAt)) → CompletesLabels s (x ∷ w) t → read all w ≡ t) →
    InPattern at opening s (x ∷ w) t → AfterPattern at (record { labels = all; at = opening }) w t
labels_from {at} {opening} {t = t} k (in_pattern labels us c a) =
    let P : Read (List LabelAt) → Type 0 = λ r. AfterPattern at (record { labels = r.part; at = opening }) r.rest t in
    subst P (sym (k (read labels us) c)) a

pub labels_done : (at opening : ℕ) (s : LabelParser) (x : Terminal) (all : List LabelAt) → LabelSteps s x (Ok (LabelDone all)) →
    (w : List Terminal) (t : Read (Kept NetExpr)) → InPattern at opening s (x ∷ w) t ↔ AfterPattern at (record { labels = all; at = opening }) w t
labels_done at opening s x all k w t = (labels_from (λ r. (k w r).0), λ a. in_pattern all w ((k w (read all w)).1 refl) a)

-- The `if` of the first arm, or the arrow of the one list.
first_from : {at i : ℕ} {pattern : Variant} {w : List Terminal} {t : Read (Kept NetExpr)} →
    AfterPattern at pattern (Keyword If i ∷ w) t → NextGuard at (begun_with pattern) w t
first_from (after_pattern (arms (arm g e a) m) l) = next_guard g (next_arrow (next_template e (after_one a (after_arm m l))))

first_to : {at i : ℕ} {pattern : Variant} {w : List Terminal} {t : Read (Kept NetExpr)} →
    NextGuard at (begun_with pattern) w t → AfterPattern at pattern (Keyword If i ∷ w) t
first_to (next_guard g (next_arrow (next_template e (after_one a (after_arm m l))))) = after_pattern (arms (arm g e a) m) l

pub first_step : (at i : ℕ) (pattern : Variant) (b : Begun) (x : Terminal) → x ≡ Keyword If i → b ≡ begun_with pattern →
    (w : List Terminal) (t : Read (Kept NetExpr)) → AfterPattern at pattern (x ∷ w) t ↔ NextGuard at b w t
first_step at i pattern b x e f w t = rw (e, f) (first_from, first_to)

plain_from : {at : ℕ} {pattern : Variant} {x : Terminal} {w : List Terminal} {t : Read (Kept NetExpr)} → ((i : ℕ) → x ≡ Keyword If i → ⊥) →
    AfterPattern at pattern (x ∷ w) t → NextArrow at (begun_with pattern) Last (x ∷ w) t
plain_from h (after_pattern no_arms (last_templates e m)) = next_arrow (next_template e (after_last m))
plain_from h (after_pattern (arms (arm {at = i} g e a) m) l) = absurd (h i refl)

plain_to : {at : ℕ} {pattern : Variant} {w : List Terminal} {t : Read (Kept NetExpr)} →
    NextArrow at (begun_with pattern) Last w t → AfterPattern at pattern w t
plain_to (next_arrow (next_template e (after_last m))) = after_pattern no_arms (last_templates e m)

-- what a state completes that begins with the token is as good as what another completes
as_good : (before other : List Terminal → Read (Kept NetExpr) → Type 0) (x : Terminal) → ((w : List Terminal) (t : Read (Kept NetExpr)) → before (x ∷ w) t ↔ other (x ∷ w) t) →
    (r : Result FilterStep FilterStop) → StepsFrom other x r → StepsFrom before x r
as_good before other x same (Ok (More next)) k = λ w t. (λ z. (k w t).0 ((same w t).0 z), λ z. (same w t).1 ((k w t).1 z))
as_good before other x same (Ok (Done n)) k = λ w t. (λ z. (k w t).0 ((same w t).0 z), λ z. (same w t).1 ((k w t).1 z))
as_good before other x same (Err Memory) k = tt
as_good before other x same (Err Refused) k = λ w t z. k w t ((same w t).0 z)

pub plain_step : (at : ℕ) (pattern : Variant) (b : Begun) (x : Terminal) → ((i : ℕ) → x ≡ Keyword If i → ⊥) → b ≡ begun_with pattern →
    (r : Result FilterStep FilterStop) → StepsFrom (NextArrow at b Last) x r → StepsFrom (AfterPattern at pattern) x r
plain_step at pattern b x h f r k =
    as_good (AfterPattern at pattern) (NextArrow at (begun_with pattern) Last) x (λ w t. (plain_from h, plain_to)) r
    (subst (λ (c : Begun). StepsFrom (NextArrow at c Last) x r) f k)

-- A guard.
pub guard_step : (at opening : ℕ) (b : Begun) (s : TagParser) (x : Terminal) → x ≡ Symbol OpenParen opening →
    ((w us : List Terminal) (e : Kept TExpr) → TagExpr kept w e us → ends_guard us → GuardCompletes s w (read_guard e us)) →
    ((w : List Terminal) (r : GuardRead) → GuardCompletes s w r → TagExpr kept w r.part r.rest × ends_guard r.rest) → (w : List Terminal) (t : Read (Kept NetExpr)) →
    NextGuard at b (x ∷ w) t ↔ InsideGuard at b s w t
guard_step at opening b s x e from to w t = rw e (go, back)
  where
    go : NextGuard at b (Symbol OpenParen opening ∷ w) t → InsideGuard at b s w t
    go (next_guard {close} {g = g} {us = us} e d) = inside_guard close g us (from w (Symbol CloseParen close ∷ us) g e refl) d

    back : InsideGuard at b s w t → NextGuard at b (Symbol OpenParen opening ∷ w) t
    back (inside_guard close g us c d) = next_guard (to w (read_guard g (Symbol CloseParen close ∷ us)) c).0 d

pub no_guard : (at : ℕ) (b : Begun) (x : Terminal) → ((opening : ℕ) → x ≡ Symbol OpenParen opening → ⊥) → (w : List Terminal) (t : Read (Kept NetExpr)) →
    NextGuard at b (x ∷ w) t → ⊥
no_guard at b x h w t (next_guard {opening} e d) = h opening refl

pub guard_more : (at : ℕ) (b : Begun) (s next : TagParser) (x : Terminal) →
    ((w : List Terminal) (r : GuardRead) → GuardCompletes s (x ∷ w) r ↔ GuardCompletes next w r) → (w : List Terminal) (t : Read (Kept NetExpr)) →
    InsideGuard at b s (x ∷ w) t ↔ InsideGuard at b next w t
guard_more at b s next x h w t = (go, back)
  where
    go : InsideGuard at b s (x ∷ w) t → InsideGuard at b next w t
    go (inside_guard close g us c d) = inside_guard close g us ((h w (read_guard g (Symbol CloseParen close ∷ us))).0 c) d

    back : InsideGuard at b next w t → InsideGuard at b s (x ∷ w) t
    back (inside_guard close g us c d) = inside_guard close g us ((h w (read_guard g (Symbol CloseParen close ∷ us))).1 c) d

pub guard_refused : (at : ℕ) (b : Begun) (s : TagParser) (x : Terminal) → ((w : List Terminal) (r : GuardRead) → GuardCompletes s (x ∷ w) r → ⊥) →
    (w : List Terminal) (t : Read (Kept NetExpr)) → InsideGuard at b s (x ∷ w) t → ⊥
guard_refused at b s x h w t (inside_guard close g us c d) = h w (read_guard g (Symbol CloseParen close ∷ us)) c

-- where the guard ended at the symbol y
module _ (at : ℕ) (b : Begun) (s : TagParser) (g : Kept TExpr) (y : SomeSymbol) (place : ℕ) (x : Terminal)
    (h : (x ≡ Symbol y place) × ((w : List Terminal) (r : GuardRead) → GuardCompletes s (x ∷ w) r ↔ (read_guard g (x ∷ w) ≡ r))) where
  head : List Terminal → Terminal
  head [] = x
  head (z ∷ zs) = z

  tail : List Terminal → List Terminal
  tail [] = []
  tail (z ∷ zs) = zs

  ended_from : (w : List Terminal) (t : Read (Kept NetExpr)) → InsideGuard at b s (x ∷ w) t → (y ≡ CloseParen) × NextArrow at b (OfArm g) w t
  unfolding head tail
  ended_from w t (inside_guard close p us c d) =
      let e = (h.1 w (read_guard p (Symbol CloseParen close ∷ us))).0 c in
      let i : x ≡ Symbol CloseParen close = ap (λ r. head r.rest) e in
      let j : Symbol y place ≡ Symbol CloseParen close = sym h.0 ∙ i in
      let P : GuardRead → Type 0 = λ r. NextArrow at b (OfArm r.part) (tail r.rest) t in
      (cc, subst P (sym e) d)

  ended_to : y ≡ CloseParen → (w : List Terminal) (t : Read (Kept NetExpr)) → NextArrow at b (OfArm g) w t → InsideGuard at b s (x ∷ w) t
  ended_to k w t d =
      let i : x ≡ Symbol CloseParen place = h.0 ∙ ap (λ z. Symbol z place) k in
      inside_guard place g w ((h.1 w (read_guard g (Symbol CloseParen place ∷ w))).1 (ap (λ z. read_guard g (z ∷ w)) i)) d

  pub guard_ended : (r : Result FilterStep FilterStop) → GuardCloses at b g y r → StepsFrom (InsideGuard at b s) x r
  guard_ended (Ok (More next)) k = λ w t. (λ z. (k.1 w t).0 (ended_from w t z).1, λ z. ended_to k.0 w t ((k.1 w t).1 z))
  guard_ended (Ok (Done n)) k = absurd k
  guard_ended (Err Memory) k = tt
  guard_ended (Err Refused) k = λ w t z. k (ended_from w t z).0

-- The arrow before a list.
arrow_from : {at arrow : ℕ} {b : Begun} {l : Listed} {w : List Terminal} {t : Read (Kept NetExpr)} →
    NextArrow at b l (Symbol ArrowSign arrow ∷ w) t → NextTemplate at b l (no_parts kept) w t
arrow_from (next_arrow n) = n

pub arrow_step : (at arrow : ℕ) (b : Begun) (l : Listed) (first : Row) (x : Terminal) → x ≡ Symbol ArrowSign arrow → first ≡ no_parts kept →
    (w : List Terminal) (t : Read (Kept NetExpr)) → NextArrow at b l (x ∷ w) t ↔ NextTemplate at b l first w t
arrow_step at arrow b l first x e f w t = rw (e, f) (arrow_from, λ n. next_arrow n)

pub no_arrow : (at : ℕ) (b : Begun) (l : Listed) (x : Terminal) → ((arrow : ℕ) → x ≡ Symbol ArrowSign arrow → ⊥) → (w : List Terminal) (t : Read (Kept NetExpr)) →
    NextArrow at b l (x ∷ w) t → ⊥
no_arrow at b l x h w t (next_arrow {arrow} n) = h arrow refl

-- A template begins.
template_from : {at opening : ℕ} {b : Begun} {l : Listed} {so_far : Row} {s : ItemParser} {w : List Terminal} {t : Read (Kept NetExpr)} →
    ((w us : List Terminal) (all : Kept (List ItemAt)) → AreItems kept w all us → CompletesItems s w (read all us)) →
    NextTemplate at b l so_far (Symbol OpenBrace opening ∷ w) t → InItems at b l so_far opening s w t
template_from {w = w} f (next_template (template {all = items} {us = us} i) a) = in_items items us (f w us items i) a

template_to : {at opening : ℕ} {b : Begun} {l : Listed} {so_far : Row} {s : ItemParser} {w : List Terminal} {t : Read (Kept NetExpr)} →
    ((w : List Terminal) (t : Read (Kept (List ItemAt))) → CompletesItems s w t → AreItems kept w t.part t.rest) →
    InItems at b l so_far opening s w t → NextTemplate at b l so_far (Symbol OpenBrace opening ∷ w) t
template_to {w = w} g (in_items items us c a) = next_template (template (g w (read items us) c)) a

pub template_step : (at opening : ℕ) (b : Begun) (l : Listed) (so_far : Row) (s : ItemParser) (x : Terminal) → x ≡ Symbol OpenBrace opening →
    ((w us : List Terminal) (all : Kept (List ItemAt)) → AreItems kept w all us → CompletesItems s w (read all us)) →
    ((w : List Terminal) (t : Read (Kept (List ItemAt))) → CompletesItems s w t → AreItems kept w t.part t.rest) →
    (w : List Terminal) (t : Read (Kept NetExpr)) → NextTemplate at b l so_far (x ∷ w) t ↔ InItems at b l so_far opening s w t
template_step at opening b l so_far s x e f g w t = rw e (template_from f, template_to g)

pub no_template : (at : ℕ) (b : Begun) (l : Listed) (so_far : Row) (x : Terminal) → ((opening : ℕ) → x ≡ Symbol OpenBrace opening → ⊥) →
    (w : List Terminal) (t : Read (Kept NetExpr)) → NextTemplate at b l so_far (x ∷ w) t → ⊥
no_template at b l so_far x h w t (next_template (template {at = opening} i) a) = h opening refl

-- The parser of items takes a token of a template.
pub items_more : (at opening : ℕ) (b : Begun) (l : Listed) (so_far : Row) (s next : ItemParser) (x : Terminal) → ItemSteps s x (Ok (ItemMore next)) →
    (w : List Terminal) (t : Read (Kept NetExpr)) → InItems at b l so_far opening s (x ∷ w) t ↔ InItems at b l so_far opening next w t
items_more at opening b l so_far s next x k w t = (
  λ i. elim i [ in_items items us c a ↦ in_items items us ((k w (read items us)).0 c) a ],
  λ i. elim i [ in_items items us c a ↦ in_items items us ((k w (read items us)).1 c) a ],
)

items_from : {at opening : ℕ} {b : Begun} {l : Listed} {so_far : Row} {s : ItemParser} {x : Terminal} {all : Kept (List ItemAt)} {w : List Terminal} {t : Read (Kept NetExpr)} →
    ((t : Read (Kept (List ItemAt))) → CompletesItems s (x ∷ w) t → read all w ≡ t) →
    InItems at b l so_far opening s (x ∷ w) t → AfterTemplate at b l (with_template so_far opening all) w t
items_from {at} {opening} {b} {l} {so_far} {t = t} k (in_items items us c a) =
    let P : Read (Kept (List ItemAt)) → Type 0 = λ r. AfterTemplate at b l (with_template so_far opening r.part) r.rest t in
    subst P (sym (k (read items us) c)) a

pub items_done : (at opening : ℕ) (b : Begun) (l : Listed) (so_far next : Row) (s : ItemParser) (x : Terminal) (all : Kept (List ItemAt)) →
    ItemSteps s x (Ok (ItemDone all)) → next ≡ with_template so_far opening all →
    (w : List Terminal) (t : Read (Kept NetExpr)) → InItems at b l so_far opening s (x ∷ w) t ↔ AfterTemplate at b l next w t
items_done at opening b l so_far next s x all k e w t =
    rw e (items_from (λ r. (k w r).0), λ a. in_items all w ((k w (read all w)).1 refl) a)

-- After a template.
semicolon_from : {at semicolon : ℕ} {b : Begun} {l : Listed} {so_far : Row} {w : List Terminal} {t : Read (Kept NetExpr)} →
    AfterTemplate at b l so_far (Symbol Semicolon semicolon ∷ w) t → NextTemplate at b l so_far w t
semicolon_from (after_last (more_templates e m)) = next_template e (after_last m)
semicolon_from (after_one (arm_goes_on e m) d) = next_template e (after_one m d)
semicolon_from (after_one arm_ends (after_arm (more_arms a m) d)) = elim a [ ]

semicolon_to : {at semicolon : ℕ} {b : Begun} {l : Listed} {so_far : Row} {w : List Terminal} {t : Read (Kept NetExpr)} →
    NextTemplate at b l so_far w t → AfterTemplate at b l so_far (Symbol Semicolon semicolon ∷ w) t
semicolon_to (next_template e (after_last m)) = after_last (more_templates e m)
semicolon_to (next_template e (after_one m d)) = after_one (arm_goes_on e m) d

pub semicolon_step : (at semicolon : ℕ) (b : Begun) (l : Listed) (so_far : Row) (x : Terminal) → x ≡ Symbol Semicolon semicolon →
    (w : List Terminal) (t : Read (Kept NetExpr)) → AfterTemplate at b l so_far (x ∷ w) t ↔ NextTemplate at b l so_far w t
semicolon_step at semicolon b l so_far x e w t = rw e (semicolon_from, semicolon_to)

-- The bracket after the last list.
close_from : {at close : ℕ} {b : Begun} {all : Row} {w : List Terminal} {t : Read (Kept NetExpr)} →
    AfterTemplate at b Last all (Symbol CloseBracket close ∷ w) t → read (kept.join (filter_at at b.pattern) b.arms all) w ≡ t
close_from (after_last last_template) = refl

close_to : {at close : ℕ} {b : Begun} {all : Row} {w : List Terminal} {t : Read (Kept NetExpr)} →
    read (kept.join (filter_at at b.pattern) b.arms all) w ≡ t → AfterTemplate at b Last all (Symbol CloseBracket close ∷ w) t
close_to {at} {close} {b} {all} {w} e =
    let P : Read (Kept NetExpr) → Type 0 = λ r. AfterTemplate at b Last all (Symbol CloseBracket close ∷ w) r in
    subst P e (after_last last_template)

pub close_step : (at close : ℕ) (b : Begun) (all : Row) (n : Kept NetExpr) (x : Terminal) → x ≡ Symbol CloseBracket close →
    n ≡ kept.join (filter_at at b.pattern) b.arms all →
    (w : List Terminal) (t : Read (Kept NetExpr)) → AfterTemplate at b Last all (x ∷ w) t ↔ (read n w ≡ t)
close_step at close b all n x e f w t = rw (e, f) (close_from, close_to)

pub no_close : (at : ℕ) (b : Begun) (all : Row) (x : Terminal) → ((close : ℕ) → x ≡ Symbol CloseBracket close → ⊥) →
    ((semicolon : ℕ) → x ≡ Symbol Semicolon semicolon → ⊥) → (w : List Terminal) (t : Read (Kept NetExpr)) → AfterTemplate at b Last all (x ∷ w) t → ⊥
no_close at b all x h k w t (after_last (last_template {at = close})) = h close refl
no_close at b all x h k w t (after_last (more_templates {at = semicolon} e m)) = k semicolon refl

-- The `if` of another arm, or the `else` of the last list.
if_from : {at i : ℕ} {b : Begun} {g : Kept TExpr} {all : Row} {w : List Terminal} {t : Read (Kept NetExpr)} →
    AfterTemplate at b (OfArm g) all (Keyword If i ∷ w) t → NextGuard at (with_arm b g all) w t
if_from (after_one arm_ends (after_arm (more_arms (arm g e a) m) l)) = next_guard g (next_arrow (next_template e (after_one a (after_arm m l))))

if_to : {at i : ℕ} {b : Begun} {g : Kept TExpr} {all : Row} {w : List Terminal} {t : Read (Kept NetExpr)} →
    NextGuard at (with_arm b g all) w t → AfterTemplate at b (OfArm g) all (Keyword If i ∷ w) t
if_to (next_guard g (next_arrow (next_template e (after_one a (after_arm m l))))) = after_one arm_ends (after_arm (more_arms (arm g e a) m) l)

pub if_step : (at i : ℕ) (b next : Begun) (g : Kept TExpr) (all : Row) (x : Terminal) → x ≡ Keyword If i → next ≡ with_arm b g all →
    (w : List Terminal) (t : Read (Kept NetExpr)) → AfterTemplate at b (OfArm g) all (x ∷ w) t ↔ NextGuard at next w t
if_step at i b next g all x e f w t = rw (e, f) (if_from, if_to)

else_from : {at i : ℕ} {b : Begun} {g : Kept TExpr} {all : Row} {w : List Terminal} {t : Read (Kept NetExpr)} →
    AfterTemplate at b (OfArm g) all (Keyword Else i ∷ w) t → NextArrow at (with_arm b g all) Last w t
else_from (after_one arm_ends (after_arm last_arm (last_templates e m))) = next_arrow (next_template e (after_last m))
else_from (after_one arm_ends (after_arm (more_arms a m) l)) = elim a [ ]

else_to : {at i : ℕ} {b : Begun} {g : Kept TExpr} {all : Row} {w : List Terminal} {t : Read (Kept NetExpr)} →
    NextArrow at (with_arm b g all) Last w t → AfterTemplate at b (OfArm g) all (Keyword Else i ∷ w) t
else_to (next_arrow (next_template e (after_last m))) = after_one arm_ends (after_arm last_arm (last_templates e m))

pub else_step : (at i : ℕ) (b next : Begun) (g : Kept TExpr) (all : Row) (x : Terminal) → x ≡ Keyword Else i → next ≡ with_arm b g all →
    (w : List Terminal) (t : Read (Kept NetExpr)) → AfterTemplate at b (OfArm g) all (x ∷ w) t ↔ NextArrow at next Last w t
else_step at i b next g all x e f w t = rw (e, f) (else_from, else_to)

pub no_arm_end : (at : ℕ) (b : Begun) (g : Kept TExpr) (all : Row) (x : Terminal) → ((i : ℕ) → x ≡ Keyword If i → ⊥) → ((i : ℕ) → x ≡ Keyword Else i → ⊥) →
    ((semicolon : ℕ) → x ≡ Symbol Semicolon semicolon → ⊥) → (w : List Terminal) (t : Read (Kept NetExpr)) → AfterTemplate at b (OfArm g) all (x ∷ w) t → ⊥
no_arm_end at b g all x h j k w t (after_one (arm_goes_on {at = semicolon} e m) d) = k semicolon refl
no_arm_end at b g all x h j k w t (after_one arm_ends (after_arm (last_arm {at = i}) l)) = j i refl
no_arm_end at b g all x h j k w t (after_one arm_ends (after_arm (more_arms (arm {at = i} f e a) m) l)) = h i refl
