-- One token of items at a time: what completes the state before it begins with it, and goes on as what completes the
-- state after it.
use Rattle.std.proofs.Common.{ℕ, true, false, List, ◌∷◌, ◌≡◌, ◌↔◌, Some, Result, Ok, Err, refl, sym, subst}
use Rattle.sn_ast.specs.Kept.{Kept, kept}
use Rattle.sn_ast.specs.Networks.{MoreItems, Items, same, renamed, computed, last_item, more_items, no_items, items, same_item}
use Rattle.sn_ast.specs.Rows.{no_parts, with_part}
use Rattle.sn_ast.specs.TagExprs.{TagExpr}
use Rattle.sn_ast.specs.Terminals.{label_of}
use Rattle.sn_ast.specs.declared.label.Ident.{Ident}
use Rattle.sn_ast.specs.declared.label.LabelAt.{LabelAt}
use Rattle.sn_ast.specs.declared.tag_expr.TExpr.{TExpr}
use Rattle.sn_ast.specs.declared.terminal.Symbol.{Symbol as SomeSymbol}
use Rattle.sn_ast.specs.declared.terminal.Symbol.TheVariants.{Assign, CloseBrace, Comma}
use Rattle.sn_ast.specs.declared.terminal.Terminal.{Terminal}
use Rattle.sn_ast.specs.declared.terminal.Terminal.TheVariants.{Name, Tag, Symbol}
use Rattle.sn_expr_parser.specs.TagResidual.{Completes as CompletesTag, Read as ReadTag, read as read_tag, ends, Steps as TagSteps}
use Rattle.sn_expr_parser.specs.declared.tags.TagParser.{TagParser}
use Rattle.sn_expr_parser.specs.declared.tags.TagStop.TheVariants.{Refused as TagRefused, Ended as TagEnded}
use Rattle.sn_filter_parser.specs.ItemResidual.{Row, with_same, with_renamed, with_computed, NextItem, FirstItem, AfterNew, AfterName, AfterTag, InExpr, next_item, no_item, some_item, old_name, name_alone, name_assigned, tag_alone, tag_assigned, in_expr, CompletesIn, StepsIn}
use Rattle.sn_filter_parser.specs.declared.items.ItemStep.{ItemStep}
use Rattle.sn_filter_parser.specs.declared.items.ItemStep.TheVariants.{More, Done}
use Rattle.sn_filter_parser.specs.declared.items.ItemStop.{ItemStop}
use Rattle.sn_filter_parser.specs.declared.items.ItemStop.TheVariants.{Memory, Refused}
use Rattle.sn_filter_parser.specs.declared.items.Mode.{Mode}
use Rattle.sn_filter_parser.specs.declared.items.Mode.TheVariants.{Computed, After}
use Rattle.sn_type_parser.specs.Reads.{Read, read}

pub start_from : {w us : List Terminal} {all : Row} → Items kept w all us → FirstItem (no_parts kept) w (read all us)
start_from no_items = no_item
start_from (items i m) = some_item (next_item i m)

pub start_to : {w : List Terminal} {t : Read Row} → FirstItem (no_parts kept) w t → Items kept w t.part t.rest
start_to no_item = no_items
start_to (some_item (next_item i m)) = items i m

-- The first item, or none.
none_from : {so_far : Row} {at : ℕ} {w : List Terminal} {t : Read Row} → FirstItem so_far (Symbol CloseBrace at ∷ w) t → read so_far w ≡ t
none_from no_item = refl
none_from (some_item (next_item (same e) m)) = absurd cc

none_to : {so_far : Row} {at : ℕ} {w : List Terminal} {t : Read Row} → read so_far w ≡ t → FirstItem so_far (Symbol CloseBrace at ∷ w) t
none_to {so_far} {at} {w} e = let P : Read Row → Type 0 = λ r. FirstItem so_far (Symbol CloseBrace at ∷ w) r in subst P e no_item

pub none_step : (so_far : Row) (x : Terminal) (at : ℕ) → x ≡ Symbol CloseBrace at → (w : List Terminal) (t : Read Row) →
    FirstItem so_far (x ∷ w) t ↔ (read so_far w ≡ t)
none_step so_far x at e w t = rw e (none_from, none_to)

first_from : {so_far : Row} {x : Terminal} {w : List Terminal} {t : Read Row} → ((at : ℕ) → x ≡ Symbol CloseBrace at → ⊥) →
    FirstItem so_far (x ∷ w) t → NextItem so_far (x ∷ w) t
first_from n (no_item {at}) = absurd (n at refl)
first_from n (some_item i) = i

pub first_is_next : (so_far : Row) (x : Terminal) → ((at : ℕ) → x ≡ Symbol CloseBrace at → ⊥) → (w : List Terminal) (t : Read Row) →
    FirstItem so_far (x ∷ w) t ↔ NextItem so_far (x ∷ w) t
first_is_next so_far x n w t = (first_from n, some_item)

-- An item begins.
same_label : (so_far : Row) (l k : LabelAt) {all : Row} {us vs : List Terminal} → Some k ≡ Some l →
    MoreItems kept (with_part kept so_far (kept.leaf (same_item l))) us all vs → MoreItems kept (with_part kept so_far (kept.leaf (same_item k))) us all vs
same_label so_far l k {all} {us} {vs} e m =
    let i : l ≡ k = cc in
    let P : LabelAt → Type 0 = λ y. MoreItems kept (with_part kept so_far (kept.leaf (same_item y))) us all vs in
    subst P i m

name_from : {so_far : Row} {n : Ident} {w : List Terminal} {t : Read Row} → NextItem so_far (Name n ∷ w) t → AfterName so_far n w t
name_from {so_far} {n} (next_item (same {l = l} e) m) = name_alone (same_label so_far l (record { tag = false; name = n }) e m)
name_from (next_item renamed m) = name_assigned (old_name m)

name_to : {so_far : Row} {n : Ident} {w : List Terminal} {t : Read Row} → AfterName so_far n w t → NextItem so_far (Name n ∷ w) t
name_to (name_alone m) = next_item (same refl) m
name_to (name_assigned (old_name m)) = next_item renamed m

pub name_step : (so_far : Row) (x : Terminal) (n : Ident) → x ≡ Name n → (w : List Terminal) (t : Read Row) →
    NextItem so_far (x ∷ w) t ↔ AfterName so_far n w t
name_step so_far x n e w t = rw e (name_from, name_to)

tag_from : {so_far : Row} {n : Ident} {w : List Terminal} {t : Read Row} → NextItem so_far (Tag n ∷ w) t → AfterTag so_far n w t
tag_from {so_far} {n} (next_item (same {l = l} e) m) = tag_alone (same_label so_far l (record { tag = true; name = n }) e m)
tag_from (next_item (computed e) m) = tag_assigned e m

tag_to : {so_far : Row} {n : Ident} {w : List Terminal} {t : Read Row} → AfterTag so_far n w t → NextItem so_far (Tag n ∷ w) t
tag_to (tag_alone m) = next_item (same refl) m
tag_to (tag_assigned e m) = next_item (computed e) m

pub tag_step : (so_far : Row) (x : Terminal) (n : Ident) → x ≡ Tag n → (w : List Terminal) (t : Read Row) →
    NextItem so_far (x ∷ w) t ↔ AfterTag so_far n w t
tag_step so_far x n e w t = rw e (tag_from, tag_to)

no_label : (x : Terminal) (l : LabelAt) → ((n : Ident) → x ≡ Name n → ⊥) → ((n : Ident) → x ≡ Tag n → ⊥) → label_of x ≡ Some l → ⊥
no_label (Name n) l h k e = h n refl
no_label (Tag n) l h k e = k n refl
no_label x l h k e = absurd cc

pub no_opening : (so_far : Row) (x : Terminal) → ((n : Ident) → x ≡ Name n → ⊥) → ((n : Ident) → x ≡ Tag n → ⊥) →
    (w : List Terminal) (t : Read Row) → NextItem so_far (x ∷ w) t → ⊥
no_opening so_far x h k w t (next_item (same {l = l} e) m) = no_label x l h k e
no_opening so_far x h k w t (next_item (renamed {new = new}) m) = h new refl
no_opening so_far x h k w t (next_item (computed {tag = tag} e) m) = k tag refl

-- After a name that begins an item.
assign_from : {so_far : Row} {n : Ident} {at : ℕ} {w : List Terminal} {t : Read Row} → AfterName so_far n (Symbol Assign at ∷ w) t → AfterNew so_far n w t
assign_from (name_alone m) = elim m [ ]
assign_from (name_assigned a) = a

pub assign_step : (so_far : Row) (n : Ident) (x : Terminal) (at : ℕ) → x ≡ Symbol Assign at → (w : List Terminal) (t : Read Row) →
    AfterName so_far n (x ∷ w) t ↔ AfterNew so_far n w t
assign_step so_far n x at e w t = rw e (assign_from, λ a. name_assigned a)

alone_from : {so_far : Row} {n : Ident} {x : Terminal} {w : List Terminal} {t : Read Row} → ((at : ℕ) → x ≡ Symbol Assign at → ⊥) →
    AfterName so_far n (x ∷ w) t → MoreItems kept (with_same false so_far n) (x ∷ w) t.part t.rest
alone_from h (name_alone m) = m
alone_from h (name_assigned {at} a) = absurd (h at refl)

pub name_ends : (so_far next : Row) (n : Ident) (x : Terminal) → ((at : ℕ) → x ≡ Symbol Assign at → ⊥) → next ≡ with_same false so_far n →
    (w : List Terminal) (t : Read Row) → AfterName so_far n (x ∷ w) t ↔ MoreItems kept next (x ∷ w) t.part t.rest
name_ends so_far next n x h e w t = rw e (alone_from h, λ m. name_alone m)

pub old_step : (so_far next : Row) (new old : Ident) (x : Terminal) → x ≡ Name old → next ≡ with_renamed so_far new old →
    (w : List Terminal) (t : Read Row) → AfterNew so_far new (x ∷ w) t ↔ MoreItems kept next w t.part t.rest
old_step so_far next new old x e f w t = rw (e, f) (old_from, λ m. old_name m)
  where
    old_from : {so_far : Row} {new old : Ident} {w : List Terminal} {t : Read Row} →
        AfterNew so_far new (Name old ∷ w) t → MoreItems kept (with_renamed so_far new old) w t.part t.rest
    old_from (old_name m) = m

pub no_old : (so_far : Row) (new : Ident) (x : Terminal) → ((n : Ident) → x ≡ Name n → ⊥) → (w : List Terminal) (t : Read Row) →
    AfterNew so_far new (x ∷ w) t → ⊥
no_old so_far new x h w t (old_name {old = old} m) = h old refl

-- After a tag that begins an item. What follows an item may follow an expression.
item_ends : {so_far all : Row} {us vs : List Terminal} → MoreItems kept so_far us all vs → ends us
item_ends last_item = refl
item_ends (more_items i m) = refl

expr_from : {so_far : Row} {tag : Ident} {s : TagParser} {at : ℕ} {w : List Terminal} {t : Read Row} →
    ((w us : List Terminal) (e : Kept TExpr) → TagExpr kept w e us → ends us → CompletesTag s w (read_tag e us)) →
    AfterTag so_far tag (Symbol Assign at ∷ w) t → InExpr so_far tag s w t
expr_from f (tag_alone m) = elim m [ ]
expr_from {w = w} f (tag_assigned {e = e} {us = us} x m) = in_expr e us (f w us e x (item_ends m)) m

expr_to : {so_far : Row} {tag : Ident} {s : TagParser} {at : ℕ} {w : List Terminal} {t : Read Row} →
    ((w : List Terminal) (t : ReadTag) → CompletesTag s w t → TagExpr kept w t.part t.rest × ends t.rest) →
    InExpr so_far tag s w t → AfterTag so_far tag (Symbol Assign at ∷ w) t
expr_to {w = w} g (in_expr e us c m) = tag_assigned (g w (read_tag e us) c).0 m

pub expr_step : (so_far : Row) (tag : Ident) (s : TagParser) (x : Terminal) (at : ℕ) → x ≡ Symbol Assign at →
    ((w us : List Terminal) (e : Kept TExpr) → TagExpr kept w e us → ends us → CompletesTag s w (read_tag e us)) →
    ((w : List Terminal) (t : ReadTag) → CompletesTag s w t → TagExpr kept w t.part t.rest × ends t.rest) →
    (w : List Terminal) (t : Read Row) → AfterTag so_far tag (x ∷ w) t ↔ InExpr so_far tag s w t
expr_step so_far tag s x at e f g w t = rw e (expr_from f, expr_to g)

tag_alone_from : {so_far : Row} {n : Ident} {x : Terminal} {w : List Terminal} {t : Read Row} → ((at : ℕ) → x ≡ Symbol Assign at → ⊥) →
    AfterTag so_far n (x ∷ w) t → MoreItems kept (with_same true so_far n) (x ∷ w) t.part t.rest
tag_alone_from h (tag_alone m) = m
tag_alone_from h (tag_assigned {at} e m) = absurd (h at refl)

pub tag_ends : (so_far next : Row) (n : Ident) (x : Terminal) → ((at : ℕ) → x ≡ Symbol Assign at → ⊥) → next ≡ with_same true so_far n →
    (w : List Terminal) (t : Read Row) → AfterTag so_far n (x ∷ w) t ↔ MoreItems kept next (x ∷ w) t.part t.rest
tag_ends so_far next n x h e w t = rw e (tag_alone_from h, λ m. tag_alone m)

-- The parser of expressions takes a token.
pub expr_more : (so_far : Row) (tag : Ident) (s next : TagParser) (x : Terminal) → TagSteps s x (Ok next) → (w : List Terminal) (t : Read Row) →
    InExpr so_far tag s (x ∷ w) t ↔ InExpr so_far tag next w t
expr_more so_far tag s next x k w t = (
  λ i. elim i [ in_expr e us c m ↦ in_expr e us ((k w (read_tag e us)).0 c) m ],
  λ i. elim i [ in_expr e us c m ↦ in_expr e us ((k w (read_tag e us)).1 c) m ],
)

pub expr_refused : (so_far : Row) (tag : Ident) (s : TagParser) (x : Terminal) → TagSteps s x (Err TagRefused) → (w : List Terminal) (t : Read Row) →
    InExpr so_far tag s (x ∷ w) t → ⊥
expr_refused so_far tag s x k w t (in_expr e us c m) = k w (read_tag e us) c

ended_from : {so_far : Row} {tag : Ident} {s : TagParser} {e : Kept TExpr} {ts : List Terminal} {t : Read Row} →
    ((t : ReadTag) → CompletesTag s ts t → read_tag e ts ≡ t) → InExpr so_far tag s ts t → MoreItems kept (with_computed so_far tag e) ts t.part t.rest
ended_from {so_far} {tag} k (in_expr {all = all} {vs = vs} f us c m) =
    let P : ReadTag → Type 0 = λ r. MoreItems kept (with_computed so_far tag r.part) r.rest all vs in
    subst P (sym (k (read_tag f us) c)) m

ended_to : {so_far : Row} {tag : Ident} {s : TagParser} (e : Kept TExpr) {ts : List Terminal} {t : Read Row} →
    CompletesTag s ts (read_tag e ts) → MoreItems kept (with_computed so_far tag e) ts t.part t.rest → InExpr so_far tag s ts t
ended_to e {ts} c m = in_expr e ts c m

-- What one state takes another takes, where the same completes both from this token on.
pub steps_through : (so_far next : Row) (m n : Mode) (x : Terminal) (r : Result ItemStep ItemStop) →
    ((w : List Terminal) (t : Read Row) → CompletesIn so_far m (x ∷ w) t ↔ CompletesIn next n (x ∷ w) t) → StepsIn next n x r → StepsIn so_far m x r
steps_through so_far next m n x (Ok (More s)) k h = λ w t. (λ y. (h w t).0 ((k w t).0 y), λ y. (k w t).1 ((h w t).1 y))
steps_through so_far next m n x (Ok (Done all)) k h = λ w t. (λ y. (h w t).0 ((k w t).0 y), λ y. (k w t).1 ((h w t).1 y))
steps_through so_far next m n x (Err Memory) k h = tt
steps_through so_far next m n x (Err Refused) k h = λ w t y. h w t ((k w t).0 y)

-- It has ended before this token, which the items then take.
pub expr_ended : (so_far next : Row) (tag : Ident) (s : TagParser) (x : Terminal) (e : Kept TExpr) (b : SomeSymbol) (at : ℕ) (r : Result ItemStep ItemStop) →
    TagSteps s x (Err (TagEnded e b at)) → next ≡ with_computed so_far tag e → StepsIn next After (Symbol b at) r → StepsIn so_far (Computed tag s) x r
expr_ended so_far next tag s x e b at r k f h =
    let g : StepsIn next After x r = rw k.0 h in
    let j : StepsIn (with_computed so_far tag e) After x r = rw f at g in
    steps_through so_far (with_computed so_far tag e) (Computed tag s) After x r
    (λ w t. (ended_from (λ u. (k.1 w u).0), ended_to e ((k.1 w (read_tag e (x ∷ w))).1 refl))) j

-- After an item.
done_from : {so_far all : Row} {at : ℕ} {w us : List Terminal} → MoreItems kept so_far (Symbol CloseBrace at ∷ w) all us → read so_far w ≡ read all us
done_from last_item = refl

done_to : {so_far : Row} {at : ℕ} {w : List Terminal} {t : Read Row} → read so_far w ≡ t → MoreItems kept so_far (Symbol CloseBrace at ∷ w) t.part t.rest
done_to {so_far} {at} {w} e = let P : Read Row → Type 0 = λ r. MoreItems kept so_far (Symbol CloseBrace at ∷ w) r.part r.rest in subst P e last_item

pub done_step : (so_far : Row) (x : Terminal) (at : ℕ) → x ≡ Symbol CloseBrace at → (w : List Terminal) (t : Read Row) →
    MoreItems kept so_far (x ∷ w) t.part t.rest ↔ (read so_far w ≡ t)
done_step so_far x at e w t = rw e (done_from, done_to)

comma_from : {so_far all : Row} {at : ℕ} {w us : List Terminal} → MoreItems kept so_far (Symbol Comma at ∷ w) all us → NextItem so_far w (read all us)
comma_from (more_items i m) = next_item i m

comma_to : {so_far : Row} {at : ℕ} {w : List Terminal} {t : Read Row} → NextItem so_far w t → MoreItems kept so_far (Symbol Comma at ∷ w) t.part t.rest
comma_to (next_item i m) = more_items i m

pub comma_step : (so_far : Row) (x : Terminal) (at : ℕ) → x ≡ Symbol Comma at → (w : List Terminal) (t : Read Row) →
    MoreItems kept so_far (x ∷ w) t.part t.rest ↔ NextItem so_far w t
comma_step so_far x at e w t = rw e (comma_from, comma_to)

nothing_more : {so_far all : Row} {x : Terminal} {w us : List Terminal} → ((at : ℕ) → x ≡ Symbol CloseBrace at → ⊥) → ((at : ℕ) → x ≡ Symbol Comma at → ⊥) →
    MoreItems kept so_far (x ∷ w) all us → ⊥
nothing_more h k (last_item {at}) = h at refl
nothing_more h k (more_items {at} i m) = k at refl

pub no_more : (so_far : Row) (x : Terminal) → ((at : ℕ) → x ≡ Symbol CloseBrace at → ⊥) → ((at : ℕ) → x ≡ Symbol Comma at → ⊥) →
    (w : List Terminal) (t : Read Row) → MoreItems kept so_far (x ∷ w) t.part t.rest → ⊥
no_more so_far x h k w t m = nothing_more h k m
