-- Networks read back.
use Rattle.std.proofs.Common.{◌≡◌, ◌≢◌, ◌≤◌, ℕ, true, false, Bool, ◌+◌, ◌++◌, List, [], ◌∷◌, map, append-nil, codes, Option, Some, None, refl, sym, ap, ◌∙◌}
use Rattle.std.specs.Fmt.{decimal}
use Rattle.std.specs.List.{flat_map}
use Rattle.std.proofs.lemmas.Grind.{flat_map-append}
use Rattle.sn_ast.specs.Labels.{IsVariant}
use Rattle.sn_ast.specs.Measures.{measured}
use Rattle.sn_ast.specs.Networks.{same_item, renamed_item, computed_item, arm_of, filter_at, sync_at, serial_at, choice_at, star_at, split_at, placed_at, with_star, with_guarded_star, with_split, with_place, Item, same, renamed, computed, MoreItems, last_item, more_items, Items, no_items, items, Template, template, MoreTemplates, last_template, more_templates, ArmTemplates, arm_ends, arm_goes_on, Arm, arm, MoreArms, last_arm, more_arms, Arms, no_arms, arms as armed, last_templates, filter, MorePatterns, last_pattern, more_patterns, Patterns, patterns, Atom, name as named, identity, filtered, sync, parens, Post, post, Posts, bare, star, guarded_star, split, spread_split, placed, Serial, serial, MoreSerial, last, dots, Network, network, MoreBranches, final, branch}
use Rattle.sn_ast.specs.Rows.{append, no_parts, with_part}
use Rattle.sn_ast.specs.TagExprs.{TagExpr}
use Rattle.sn_ast.specs.Terminals.{link_of}
use Rattle.sn_ast.specs.declared.label.Ident.{Ident}
use Rattle.sn_ast.specs.declared.label.LabelAt.{LabelAt}
use Rattle.sn_ast.specs.declared.label.Variant.{Variant}
use Rattle.sn_ast.specs.declared.measure.Measured.{Measured}
use Rattle.sn_ast.specs.declared.network.ArmAt.{ArmAt}
use Rattle.sn_ast.specs.declared.network.ItemAt.{ItemAt}
use Rattle.sn_ast.specs.declared.network.ItemSource.TheVariants.{Same}
use Rattle.sn_ast.specs.declared.network.NetExpr.{NetExpr, NetExpr-F, fold-NetExpr, fold-roll-NetExpr}
use Rattle.sn_ast.specs.declared.network.NetForm.{NetForm, fold-NetForm}
use Rattle.sn_ast.specs.declared.network.NetForm.TheOpen.{NetForm-F}
use Rattle.sn_ast.specs.declared.network.NetForm.TheFolds.{fold-roll-NetForm}
use Rattle.sn_ast.specs.declared.network.NetForm.TheVariants as form
use Rattle.sn_ast.specs.declared.network.TemplateAt.{TemplateAt}
use Rattle.sn_ast.specs.declared.tag_expr.TExpr.{TExpr}
use Rattle.sn_ast.specs.declared.terminal.Keyword.TheVariants as keyword
use Rattle.sn_ast.specs.declared.terminal.Link.TheVariants.{Branch as BranchLink, Star as StarLink, Split as SplitLink}
use Rattle.sn_ast.specs.declared.terminal.Symbol.{Symbol as SomeSymbol}
use Rattle.sn_ast.specs.declared.terminal.Symbol.TheVariants as symbol
use Rattle.sn_ast.specs.declared.terminal.Terminal.{Terminal}
use Rattle.sn_ast.specs.declared.terminal.Terminal.TheVariants.{Keyword, Symbol}
use Rattle.sn_print.specs.Expressions.{Rank, Alone, Compound, Sequence as SequenceRank, Shown, alone, compound, operand, by_rank}
use Rattle.sn_print.specs.Labels.{label_text, variant_text}
use Rattle.sn_print.specs.Networks.{net_shown, net_step, arm_text, else_text, item_text, split_operator, template_text}
use Rattle.sn_print.specs.Words.{chosen, in_angles, in_parentheses, joined}
use Rattle.sn_terminal.specs.Words.{symbol_word}
use Rattle.sn_roundtrip.specs.Unplaced.{unplaced_ident, unplaced_variant, unplaced_tag, unplaced_item, unplaced_template, unplaced_arm, unplaced_net, unplaced_net_form, at_no_net_place}
use Rattle.sn_roundtrip.proofs.Boxes.{spaced_key}
use Rattle.sn_roundtrip.proofs.Joins.{before, calmly, mildly, wholly}
use Rattle.sn_roundtrip.proofs.Labels.{IsLabel, one_label, GoodLabel, good_label, GoodVariant, good_variant, SameRow, same_more, same_first}
use Rattle.sn_roundtrip.proofs.Rereads.{Readable, reread, Shows, Like, like_leaf, like_inside, like_parens, like_loose, like_each, like_raise, like_join, like_row}
use Rattle.sn_roundtrip.proofs.Rows.{GoodRow, RowOf, not_nil, row_begins, row_goes_on, calm_head}
use Rattle.sn_roundtrip.proofs.Singles.{gap, keyword_span, number_span, symbol_end, symbol_span, tag_span, name_span, spaced_text, spaced}
use Rattle.sn_roundtrip.proofs.Spans.{HeadAt, Span, Calm, Exactly, Free, Whole, adjoin}
use Rattle.sn_roundtrip.proofs.Tags.{GoodTag, good_tag_expr, tag_whole, parens_span}
use Rattle.sn_roundtrip.specs.Words.{IsIdentifier, IsTagName, AreWords}

-- a fold of a network is one step over the folds of its parts
module _ {A B : Type 0} (s : NetForm-F A B → A) (t : NetExpr-F A B → B) (at : ℕ) where
  abbrev fold : NetExpr → B
  fold = fold-NetExpr A B s t

  of_form : (f : NetForm) (x : NetForm-F A B) → fold-NetForm A B s t f ≡ s x → fold (record { at = at; form = f }) ≡ t (record { at = at; form = s x })
  of_form f x is = fold-roll-NetExpr A B s t (record { at = at; form = f }) ∙ ap (λ a. t (record { at = at; form = a })) is

  pub fold_identity : fold (record { at = at; form = form.Identity }) ≡ t (record { at = at; form = s NetForm-F.Identity })
  fold_identity = of_form form.Identity NetForm-F.Identity (ap (fold-NetForm A B s t) (sym form.rolls-Identity) ∙ fold-roll-NetForm A B s t NetForm-F.Identity)

  pub fold_name : (n : Ident) → fold (record { at = at; form = form.Name n }) ≡ t (record { at = at; form = s (NetForm-F.Name n) })
  fold_name n = of_form (form.Name n) (NetForm-F.Name n) (ap (fold-NetForm A B s t) (sym (form.rolls-Name n)) ∙ fold-roll-NetForm A B s t (NetForm-F.Name n))

  pub fold_filter : (pattern : Variant) (arms : List ArmAt) (templates : List TemplateAt)
      → fold (record { at = at; form = form.Filter pattern arms templates }) ≡ t (record { at = at; form = s (NetForm-F.Filter pattern arms templates) })
  fold_filter pattern arms templates = of_form (form.Filter pattern arms templates) (NetForm-F.Filter pattern arms templates)
      (ap (fold-NetForm A B s t) (sym (form.rolls-Filter pattern arms templates)) ∙ fold-roll-NetForm A B s t (NetForm-F.Filter pattern arms templates))

  pub fold_sync : (vs : List Variant) → fold (record { at = at; form = form.Sync vs }) ≡ t (record { at = at; form = s (NetForm-F.Sync vs) })
  fold_sync vs = of_form (form.Sync vs) (NetForm-F.Sync vs) (ap (fold-NetForm A B s t) (sym (form.rolls-Sync vs)) ∙ fold-roll-NetForm A B s t (NetForm-F.Sync vs))

  pub fold_serial : (parts : List NetExpr) → fold (record { at = at; form = form.Serial parts }) ≡ t (record { at = at; form = s (NetForm-F.Serial (map fold parts)) })
  fold_serial parts = of_form (form.Serial parts) (NetForm-F.Serial (map fold parts)) (ap (fold-NetForm A B s t) (sym (form.rolls-Serial parts)) ∙ fold-roll-NetForm A B s t (NetForm-F.Serial parts))

  pub fold_choice : (det : Bool) (branches : List NetExpr) → fold (record { at = at; form = form.Choice det branches }) ≡ t (record { at = at; form = s (NetForm-F.Choice det (map fold branches)) })
  fold_choice det branches = of_form (form.Choice det branches) (NetForm-F.Choice det (map fold branches)) (ap (fold-NetForm A B s t) (sym (form.rolls-Choice det branches)) ∙ fold-roll-NetForm A B s t (NetForm-F.Choice det branches))

  pub fold_star : (det : Bool) (body : NetExpr) (exit : Variant) (guard : Option TExpr) → fold (record { at = at; form = form.Star det body exit guard }) ≡ t (record { at = at; form = s (NetForm-F.Star det (fold body) exit guard) })
  fold_star det body exit guard = of_form (form.Star det body exit guard) (NetForm-F.Star det (fold body) exit guard) (ap (fold-NetForm A B s t) (sym (form.rolls-Star det body exit guard)) ∙ fold-roll-NetForm A B s t (NetForm-F.Star det body exit guard))

  pub fold_split : (det spread : Bool) (body : NetExpr) (tag : Ident) → fold (record { at = at; form = form.Split det spread body tag }) ≡ t (record { at = at; form = s (NetForm-F.Split det spread (fold body) tag) })
  fold_split det spread body tag = of_form (form.Split det spread body tag) (NetForm-F.Split det spread (fold body) tag)
      (ap (fold-NetForm A B s t) (sym (form.rolls-Split det spread body tag)) ∙ fold-roll-NetForm A B s t (NetForm-F.Split det spread body tag))

  pub fold_placed : (body : NetExpr) (node : ℕ) → fold (record { at = at; form = form.Placed body node }) ≡ t (record { at = at; form = s (NetForm-F.Placed (fold body) node) })
  fold_placed body node = of_form (form.Placed body node) (NetForm-F.Placed (fold body) node) (ap (fold-NetForm A B s t) (sym (form.rolls-Placed body node)) ∙ fold-roll-NetForm A B s t (NetForm-F.Placed body node))

-- items
abbrev GoodItem : Measured ItemAt → Type 0
GoodItem i = Shows Calm Whole (item_text i.value) (Item measured) (Like unplaced_item 0 i)

same_by : {ts us : List Terminal} {l : LabelAt} → IsLabel ts l us → Item measured ts (measured.leaf (same_item l)) us
same_by (one_label is) = same is

item_of_label : (l : LabelAt) → GoodLabel l → GoodItem (measured.leaf (same_item l))
item_of_label l x = record {
  text = x.text;
  is = append-nil (label_text l) ∙ x.is;
  reads = record {
    span = x.reads.span;
    rereads = λ p. reread _ (λ us. same_by ((x.reads.rereads p).reads us)) (like_leaf unplaced_item _ _ (ap (λ k. record { target = k; source = Same }) (x.reads.rereads p).good));
  };
}

item_renamed : (new old : Ident) → IsIdentifier new.text → IsIdentifier old.text → GoodItem (measured.leaf (renamed_item new old))
item_renamed new old v w = record {
  text = new.text ++ (codes "=" ++ old.text);
  is = refl;
  reads = record {
    span = before (name_span v) (before (symbol_span symbol.Assign) (name_span w) refl) refl;
    rereads = λ p. reread _ (λ us. renamed) (like_leaf unplaced_item _ _ refl);
  };
}

like_computed : (tag other : Ident) {e again : Measured TExpr} → unplaced_ident other ≡ unplaced_ident tag → Like unplaced_tag 0 e again →
    Like unplaced_item 0 (measured.each (computed_item tag) e) (measured.each (computed_item other) again)
like_computed tag other is l = like_each unplaced_tag unplaced_item (λ a. computed_item (unplaced_ident tag) a) (computed_item tag) (computed_item other) (λ a. refl) (λ a. ap (λ n. computed_item n (unplaced_tag a)) is) l

item_computed : (tag : Ident) (e : Measured TExpr) → IsTagName tag.text → GoodTag e → GoodItem (measured.each (computed_item tag) e)
item_computed tag e w x = record {
  text = in_angles tag.text ++ (codes "=" ++ x.shown.text);
  is = ap (λ s. in_angles tag.text ++ (codes "=" ++ s.text)) x.is;
  reads = record {
    span = before (tag_span w) (before (symbol_span symbol.Assign) (tag_whole x).span refl) refl;
    rereads = λ p. reread _ (λ us. computed (((tag_whole x).rereads _).reads us))
        (like_computed tag _ refl ((tag_whole x).rereads _).good);
  };
}

good_item : {i : Measured ItemAt} {ts us : List Terminal} → Item measured ts i us → AreWords ts → GoodItem i × AreWords us
good_item (same {x} {l} is) w = (item_of_label l (good_label x l is w.0), w.1)
good_item (renamed {new = new} {old = old}) w = (item_renamed new old w.0 w.1.1.0, w.1.1.1)
good_item (computed {tag = tag} {e = e} a) w = let x = good_tag_expr a w.1.1 in (item_computed tag e w.0 x.0, x.1)

abbrev GoodItems : Measured (List ItemAt) → Type 0
GoodItems row = GoodRow Calm Whole (codes ",") item_text (Items measured) (MoreItems measured) row.value (Like (map unplaced_item) 0 row)

items_begin : (p : ℕ) (i : Measured ItemAt) (ts us : List Terminal) (w : Measured (List ItemAt)) (vs : List Terminal) → HeadAt p ts → Item measured ts i us →
    MoreItems measured (with_part measured (no_parts measured) i) us w vs → Items measured ts w vs
items_begin p i ts us w vs h d k = items d k

items_go_on : (q : ℕ) (row : Measured (List ItemAt)) (i : Measured ItemAt) (ts us : List Terminal) (w : Measured (List ItemAt)) (vs : List Terminal) → Item measured ts i us →
    MoreItems measured (with_part measured row i) us w vs → MoreItems measured row (Symbol symbol.Comma q ∷ ts) w vs
items_go_on q row i ts us w vs d k = more_items d k

first_item : (i : Measured ItemAt) → GoodItem i → GoodItems (with_part measured (no_parts measured) i)
first_item i x = row_begins (codes ",") item_text (Items measured) (MoreItems measured) (λ p y. with_part measured (no_parts measured) y) items_begin
    (λ p y l. like_row unplaced_item (like_leaf (map unplaced_item) [] [] refl) l) calm_head x

next_item : (row : Measured (List ItemAt)) (i : Measured ItemAt) → GoodItems row → GoodItem i → GoodItems (with_part measured row i)
next_item row i r x = row_goes_on (codes ",") item_text (Items measured) (MoreItems measured) (MoreItems measured) (symbol_span symbol.Comma) refl
    (λ q. with_part measured) items_go_on (λ q so_far y l m. like_row unplaced_item l m) r x

good_more_items : {row all : Measured (List ItemAt)} {ts us : List Terminal} → MoreItems measured row ts all us → GoodItems row → AreWords ts → GoodItems all × AreWords us
good_more_items last_item r w = (r, w.1)
good_more_items (more_items {i = i} {so_far = row} a d) r w = let x = good_item a w.1 in good_more_items d (next_item row i r x.0) x.1

-- templates
abbrev GoodTemplate : Measured TemplateAt → Type 0
GoodTemplate t = Shows Calm Free (template_text t.value) (Template measured) (Like unplaced_template 0 t)

abbrev template_at : ℕ → List ItemAt → TemplateAt
template_at at all = record { items = all; at = at }

empty_template : (at : ℕ) → GoodTemplate (measured.each (template_at at) (no_parts measured))
empty_template at = record {
  text = codes "{}";
  is = refl;
  reads = record {
    span = calmly refl (before (symbol_span symbol.OpenBrace) (symbol_span symbol.CloseBrace) refl);
    rereads = λ p. reread (measured.each (template_at p) (no_parts measured)) (λ us. template no_items)
        (like_each (map unplaced_item) unplaced_template (template_at 0) (template_at at) (template_at p) (λ a. refl) (λ a. refl) (like_leaf (map unplaced_item) [] [] refl));
  };
}

template_of : (at : ℕ) (all : Measured (List ItemAt)) → GoodItems all → GoodTemplate (measured.each (template_at at) all)
template_of at all r = record {
  text = codes "{" ++ (r.shows.text ++ codes "}");
  is = ap (λ t. codes "{" ++ (t ++ codes "}")) r.shows.is;
  reads = record {
    span = calmly refl (before (symbol_span symbol.OpenBrace) (before r.shows.reads.span (symbol_span symbol.CloseBrace) refl) refl);
    rereads = λ p. reread (measured.each (template_at p) (r.shows.reads.rereads _).again) (λ us. template ((r.shows.reads.rereads _).reads _ _ us last_item))
        (like_each (map unplaced_item) unplaced_template (template_at 0) (template_at at) (template_at p) (λ a. refl) (λ a. refl) (r.shows.reads.rereads _).good);
  };
}

good_template : {t : Measured TemplateAt} {ts us : List Terminal} → Template measured ts t us → AreWords ts → GoodTemplate t × AreWords us
good_template (template {at} no_items) w = (empty_template at, w.1.1)
good_template (template {at} {all} (items {i = i} a d)) w = let x = good_item a w.1 in let r = good_more_items d (first_item i x.0) x.1 in (template_of at all r.0, r.1)

-- how templates go on after those so far: to the end of an arm's list, or of the last one
abbrev Going : Type 1
Going = Measured (List TemplateAt) → List Terminal → Measured (List TemplateAt) → List Terminal → Type 0

-- one template, and others after it
data TemplateRow (More : Going) : List Terminal → Measured (List TemplateAt) → List Terminal → Type 0 where
  template_row : {t : Measured TemplateAt} {all : Measured (List TemplateAt)} {ts us vs : List Terminal} → Template measured ts t us →
      More (with_part measured (no_parts measured) t) us all vs → TemplateRow More ts all vs

abbrev GoodTemplates : Going → Measured (List TemplateAt) → Type 0
GoodTemplates More row = GoodRow Calm Free (codes ";") template_text (TemplateRow More) More row.value (Like (map unplaced_template) 0 row)

module _ (More : Going) where
  templates_begin : (p : ℕ) (t : Measured TemplateAt) (ts us : List Terminal) (w : Measured (List TemplateAt)) (vs : List Terminal) → HeadAt p ts → Template measured ts t us →
      More (with_part measured (no_parts measured) t) us w vs → TemplateRow More ts w vs
  templates_begin p t ts us w vs h d k = template_row d k

  first_template : (t : Measured TemplateAt) → GoodTemplate t → GoodTemplates More (with_part measured (no_parts measured) t)
  first_template t x = row_begins (codes ";") template_text (TemplateRow More) More (λ p y. with_part measured (no_parts measured) y) templates_begin
      (λ p y l. like_row unplaced_template (like_leaf (map unplaced_template) [] [] refl) l) calm_head x

  next_template : ((q : ℕ) (row : Measured (List TemplateAt)) (t : Measured TemplateAt) (ts us : List Terminal) (w : Measured (List TemplateAt)) (vs : List Terminal) →
      Template measured ts t us → More (with_part measured row t) us w vs → More row (Symbol symbol.Semicolon q ∷ ts) w vs) →
      (row : Measured (List TemplateAt)) (t : Measured TemplateAt) → GoodTemplates More row → GoodTemplate t → GoodTemplates More (with_part measured row t)
  next_template go_on row t r x = row_goes_on (codes ";") template_text (TemplateRow More) More More (symbol_span symbol.Semicolon) refl
      (λ q. with_part measured) go_on (λ q so_far y l m. like_row unplaced_template l m) r x

abbrev Last : Going
Last = MoreTemplates measured

abbrev OfArm : Going
OfArm = ArmTemplates measured

good_more_templates : {row all : Measured (List TemplateAt)} {ts us : List Terminal} → Last row ts all us → GoodTemplates Last row → AreWords ts → GoodTemplates Last all × AreWords us
good_more_templates last_template r w = (r, w.1)
good_more_templates (more_templates {t = t} {so_far = row} a d) r w =
    let x = good_template a w.1 in good_more_templates d (next_template Last (λ q row t ts us w vs d k. more_templates d k) row t r x.0) x.1

good_arm_templates : {row all : Measured (List TemplateAt)} {ts us : List Terminal} → OfArm row ts all us → GoodTemplates OfArm row → AreWords ts → GoodTemplates OfArm all × AreWords us
good_arm_templates arm_ends r w = (r, w)
good_arm_templates (arm_goes_on {t = t} {so_far = row} a d) r w =
    let x = good_template a w.1 in good_arm_templates d (next_template OfArm (λ q row t ts us w vs d k. arm_goes_on d k) row t r x.0) x.1

-- arms
abbrev GoodArm : Measured ArmAt → Type 0
GoodArm a = Shows (Exactly 32) Free (arm_text a.value) (Arm measured) (Like unplaced_arm 0 a)

armed_by : {ts us vs : List Terminal} {at opening close arrow : ℕ} {g : Measured TExpr} {all : Measured (List TemplateAt)} →
    TagExpr measured ts g (Symbol symbol.CloseParen close ∷ Symbol symbol.Arrow arrow ∷ us) → TemplateRow OfArm us all vs →
    Arm measured (Keyword keyword.If at ∷ Symbol symbol.OpenParen opening ∷ ts) (measured.join arm_of g all) vs
armed_by a (template_row t d) = arm a t d

arm_made : (g : Measured TExpr) (all : Measured (List TemplateAt)) → GoodTag g → GoodTemplates OfArm all → GoodArm (measured.join arm_of g all)
arm_made g all z r = record {
  text = codes " if " ++ (in_parentheses z.shown.text ++ (codes " -> " ++ r.shows.text));
  is = λ i. codes " if " ++ (in_parentheses (z.is i).text ++ (codes " -> " ++ r.shows.is i));
  reads = record {
    span = before (spaced_key keyword.If) (before (before (symbol_span symbol.OpenParen) (before (tag_whole z).span (symbol_span symbol.CloseParen) refl) refl)
        (before (spaced symbol.Arrow) r.shows.reads.span refl) refl) refl;
    rereads = λ p. reread _ (λ us. armed_by (((tag_whole z).rereads _).reads _) ((r.shows.reads.rereads _).reads _ _ us arm_ends))
        (like_join unplaced_tag (map unplaced_template) unplaced_arm arm_of arm_of arm_of (λ a b. refl) (λ a b. refl) ((tag_whole z).rereads _).good (r.shows.reads.rereads _).good);
  };
}

good_arm : {a : Measured ArmAt} {ts us : List Terminal} → Arm measured ts a us → AreWords ts → GoodArm a × AreWords us
good_arm (arm {g = g} {t = t} {all = all} a b d) w =
    let z = good_tag_expr a w.1.1 in let y = good_template b z.1.1.1 in let r = good_arm_templates d (first_template OfArm t y.0) y.1 in (arm_made g all z.0 r.0, r.1)

-- Arms in a row, with nothing between them.
abbrev GoodArms : Measured (List ArmAt) → Type 0
GoodArms row = Shows (Exactly 32) Free (flat_map arm_text row.value) (RowOf (Arms measured) (MoreArms measured)) (Like (map unplaced_arm) 0 row)

first_arm : (a : Measured ArmAt) → GoodArm a → GoodArms (with_part measured (no_parts measured) a)
first_arm a s = record {
  text = s.text;
  is = append-nil (arm_text a.value) ∙ s.is;
  reads = record {
    span = s.reads.span;
    rereads = λ p. reread (with_part measured (no_parts measured) (s.reads.rereads p).again) (λ us w vs k. armed ((s.reads.rereads p).reads us) k)
        (like_row unplaced_arm (like_leaf (map unplaced_arm) [] [] refl) (s.reads.rereads p).good);
  };
}

next_arm : (row : Measured (List ArmAt)) (a : Measured ArmAt) → GoodArms row → GoodArm a → GoodArms (with_part measured row a)
next_arm row a r s = record {
  text = r.text ++ s.text;
  is = flat_map-append arm_text row.value (a.value ∷ []) ∙ (λ i. r.is i ++ (append-nil (arm_text a.value) ∙ s.is) i);
  reads = record {
    span = before r.reads.span s.reads.span refl;
    rereads = λ p. reread (with_part measured (r.reads.rereads p).again (s.reads.rereads _).again)
        (λ us w vs k. (r.reads.rereads p).reads _ w vs (more_arms ((s.reads.rereads _).reads us) k))
        (like_row unplaced_arm (r.reads.rereads p).good (s.reads.rereads _).good);
  };
}

record GoodArmed (row : Measured (List ArmAt)) : Type 0 where
  pub filled : row.value ≢ []
  pub shows : GoodArms row

good_more_arms : {row all : Measured (List ArmAt)} {ts us : List Terminal} → MoreArms measured row ts all us → GoodArmed row → AreWords ts → GoodArmed all × AreWords us
good_more_arms last_arm r w = (r, w.1.1)
good_more_arms (more_arms {a = a} {so_far = row} b d) r w =
    let x = good_arm b w in good_more_arms d (record { filled = not_nil row.value a.value; shows = next_arm row a r.shows x.0 }) x.1

-- patterns of a synchrocell
abbrev GoodPatterns : List Variant → Type 0
GoodPatterns row = GoodRow Calm Free (codes ",") variant_text Patterns MorePatterns row (SameRow unplaced_variant row)

patterns_begin : (p : ℕ) (v : Variant) (ts us : List Terminal) (w : List Variant) (vs : List Terminal) → HeadAt p ts → IsVariant ts v us → MorePatterns (v ∷ []) us w vs → Patterns ts w vs
patterns_begin p v ts us w vs h d k = patterns d k

patterns_go_on : (q : ℕ) (row : List Variant) (v : Variant) (ts us : List Terminal) (w : List Variant) (vs : List Terminal) → IsVariant ts v us →
    MorePatterns (append row v) us w vs → MorePatterns row (Symbol symbol.Comma q ∷ ts) w vs
patterns_go_on q row v ts us w vs d k = more_patterns d k

first_pattern : (v : Variant) → GoodVariant v → GoodPatterns (v ∷ [])
first_pattern v x = row_begins (codes ",") variant_text Patterns MorePatterns (λ p v. v ∷ []) patterns_begin (λ p. same_first unplaced_variant v) calm_head x

next_pattern : (row : List Variant) (v : Variant) → GoodPatterns row → GoodVariant v → GoodPatterns (row ++ (v ∷ []))
next_pattern row v r x = row_goes_on (codes ",") variant_text Patterns MorePatterns MorePatterns (symbol_span symbol.Comma) refl (λ q. append) patterns_go_on
    (λ q acc y. same_more unplaced_variant row acc v y) r x

good_more_patterns : {row all : List Variant} {ts us : List Terminal} → MorePatterns row ts all us → GoodPatterns row → AreWords ts → GoodPatterns all × AreWords us
good_more_patterns last_pattern r w = (r, w.1)
good_more_patterns (more_patterns {v = v} {so_far = row} a d) r w = let x = good_variant a w.1 in good_more_patterns d (next_pattern row v r x.0) x.1

-- what is read of a text by its rank
abbrev pub ReadsNet : Rank → Measured NetExpr → List ℕ → Type 0
ReadsNet Alone n text = Readable Calm Whole text (Atom measured) (Like unplaced_net 0 n)
ReadsNet Compound n text = Readable Calm Whole text (Network measured) (Like unplaced_net 1 n)
ReadsNet SequenceRank n text = ⊥

-- A network whose text reads back.
pub record GoodNet (n : Measured NetExpr) : Type 0 where
  pub shown : Shown
  pub is : net_shown n.value ≡ shown
  pub reads : ReadsNet shown.rank n shown.text

abbrev pub NetOperand : Measured NetExpr → List ℕ → Type 0
NetOperand n text = Readable Calm Whole text (Atom measured) (Like unplaced_net 0 n)

as_serial : {ts us : List Terminal} {n : Measured NetExpr} → Atom measured ts n us → Serial measured ts n us
as_serial a = serial (post a bare) last

of_atom : {ts us : List Terminal} {n : Measured NetExpr} → Atom measured ts n us → Network measured ts n us
of_atom a = network (as_serial a) final

of_posts : {ts us vs : List Terminal} {p n : Measured NetExpr} → Atom measured ts p us → Posts measured p us n vs → Network measured ts n vs
of_posts a d = network (serial (post a d) last) final

operand_by : {n : Measured NetExpr} (r : Rank) (text : List ℕ) → ReadsNet r n text → NetOperand n (by_rank r text)
operand_by Alone text a = a
operand_by Compound text a = record {
  span = parens_span (mildly a.span);
  rereads = λ p. reread _ (λ us. parens ((a.rereads _).reads (Symbol symbol.CloseParen _ ∷ us))) (like_parens unplaced_net (a.rereads _).good);
}
operand_by SequenceRank text a = absurd a

whole_by : {n : Measured NetExpr} (r : Rank) (text : List ℕ) → ReadsNet r n text → Readable Calm Whole text (Network measured) (Like unplaced_net 0 n)
whole_by Alone text a = record { span = a.span; rereads = λ p. reread _ (λ us. of_atom ((a.rereads p).reads us)) (a.rereads p).good }
whole_by Compound text a = record { span = a.span; rereads = λ p. reread _ (λ us. (a.rereads p).reads us) (like_loose unplaced_net (a.rereads p).good) }
whole_by SequenceRank text a = absurd a

pub net_operand : {n : Measured NetExpr} (x : GoodNet n) → NetOperand n (operand x.shown)
net_operand x = operand_by x.shown.rank x.shown.text x.reads

pub net_whole : {n : Measured NetExpr} (x : GoodNet n) → Readable Calm Whole x.shown.text (Network measured) (Like unplaced_net 0 n)
net_whole x = whole_by x.shown.rank x.shown.text x.reads

-- each form of a network whose parts read back
good_name : (n : Ident) → IsIdentifier n.text → GoodNet (measured.leaf (record { at = n.at; form = form.Name n }))
good_name n w = record {
  shown = alone n.text;
  is = fold_name net_step (λ n. n.form) n.at n;
  reads = record {
    span = name_span w;
    rereads = λ p. reread _ (λ us. named) (like_leaf unplaced_net _ _
        (fold_name unplaced_net_form at_no_net_place p (record { text = n.text; at = p }) ∙ sym (fold_name unplaced_net_form at_no_net_place n.at n)));
  };
}

good_identity : (at : ℕ) → GoodNet (measured.leaf (record { at = at; form = form.Identity }))
good_identity at = record {
  shown = alone (codes "[]");
  is = fold_identity net_step (λ n. n.form) at;
  reads = record {
    span = wholly (calmly refl (before (symbol_span symbol.OpenBracket) (symbol_span symbol.CloseBracket) refl));
    rereads = λ p. reread _ (λ us. identity) (like_leaf unplaced_net _ _ (fold_identity unplaced_net_form at_no_net_place p ∙ sym (fold_identity unplaced_net_form at_no_net_place at)));
  };
}

filtered_by : {ts us vs ws : List Terminal} {at : ℕ} {pattern : Variant} {arms : Measured (List ArmAt)} {all : Measured (List TemplateAt)} →
    IsVariant ts pattern us → Arms measured us arms vs → TemplateRow Last vs all ws → Atom measured (Symbol symbol.OpenBracket at ∷ ts) (measured.join (filter_at at pattern) arms all) ws
filtered_by v a (template_row t d) = filtered (filter v a (last_templates t d))

abbrev plain_filter : Variant → List ArmAt → List TemplateAt → NetExpr
plain_filter pattern arms templates = record { at = 0; form = form.Filter pattern arms templates }

like_filter : (at other : ℕ) (pattern again : Variant) {arms again_arms : Measured (List ArmAt)} {row again_row : Measured (List TemplateAt)} →
    unplaced_variant again ≡ unplaced_variant pattern → Like (map unplaced_arm) 0 arms again_arms → Like (map unplaced_template) 0 row again_row →
    Like unplaced_net 0 (measured.join (filter_at at pattern) arms row) (measured.join (filter_at other again) again_arms again_row)
like_filter at other pattern again is k l =
    like_join (map unplaced_arm) (map unplaced_template) unplaced_net (plain_filter (unplaced_variant pattern)) (filter_at at pattern) (filter_at other again)
    (fold_filter unplaced_net_form at_no_net_place at pattern)
    (λ arms ts. fold_filter unplaced_net_form at_no_net_place other again arms ts ∙ ap (λ v. plain_filter v (map unplaced_arm arms) (map unplaced_template ts)) is) k l

good_filter : (at : ℕ) (pattern : Variant) (all : Measured (List TemplateAt)) → GoodVariant pattern → GoodTemplates Last all →
    GoodNet (measured.join (filter_at at pattern) (no_parts measured) all)
good_filter at pattern all x r = record {
  shown = alone (codes "[" ++ (x.text ++ (codes " -> " ++ (r.shows.text ++ codes "]"))));
  is = fold_filter net_step (λ n. n.form) at pattern [] all.value ∙ (λ i. alone (codes "[" ++ (x.is i ++ (codes " -> " ++ (r.shows.is i ++ codes "]")))));
  reads = record {
    span = wholly (calmly refl (before (symbol_span symbol.OpenBracket) (before x.reads.span (before (spaced symbol.Arrow) (before r.shows.reads.span (symbol_span symbol.CloseBracket) refl) refl) refl) refl));
    rereads = λ p. reread _ (λ us. filtered_by ((x.reads.rereads _).reads _) no_arms ((r.shows.reads.rereads _).reads _ _ us last_template))
        (like_filter at _ pattern _ (x.reads.rereads _).good (like_leaf (map unplaced_arm) [] [] refl) (r.shows.reads.rereads _).good);
  };
}

else_filled : (arms : List ArmAt) → arms ≢ [] → else_text arms ≡ codes " else"
else_filled [] filled = absurd (filled refl)
else_filled (one ∷ more) filled = refl

good_armed : (at : ℕ) (pattern : Variant) (some : Measured (List ArmAt)) (all : Measured (List TemplateAt)) → GoodVariant pattern → GoodArmed some → GoodTemplates Last all →
    GoodNet (measured.join (filter_at at pattern) some all)
good_armed at pattern some all x a r = record {
  shown = alone (codes "[" ++ (x.text ++ ((a.shows.text ++ codes " else") ++ (codes " -> " ++ (r.shows.text ++ codes "]")))));
  is = fold_filter net_step (λ n. n.form) at pattern some.value all.value
      ∙ (λ i. alone (codes "[" ++ (x.is i ++ ((a.shows.is i ++ else_filled some.value a.filled i) ++ (codes " -> " ++ (r.shows.is i ++ codes "]"))))));
  reads = record {
    span = wholly (calmly refl (before (symbol_span symbol.OpenBracket) (before x.reads.span (before (before a.shows.reads.span (before (gap 32 refl) (keyword_span keyword.Else) refl) refl)
        (before (spaced symbol.Arrow) (before r.shows.reads.span (symbol_span symbol.CloseBracket) refl) refl) refl) refl) refl));
    rereads = λ p. reread _ (λ us. filtered_by ((x.reads.rereads _).reads _) ((a.shows.reads.rereads _).reads _ _ _ last_arm) ((r.shows.reads.rereads _).reads _ _ us last_template))
        (like_filter at _ pattern _ (x.reads.rereads _).good (a.shows.reads.rereads _).good (r.shows.reads.rereads _).good);
  };
}

good_sync : (at : ℕ) (all : List Variant) → GoodPatterns all → GoodNet (measured.leaf (sync_at at all))
good_sync at all r = record {
  shown = alone (codes "[|" ++ (r.shows.text ++ codes "|]"));
  is = fold_sync net_step (λ n. n.form) at all ∙ ap (λ t. alone (codes "[|" ++ (t ++ codes "|]"))) r.shows.is;
  reads = record {
    span = wholly (calmly refl (before (symbol_span symbol.OpenSync) (before r.shows.reads.span (symbol_span symbol.CloseSync) refl) refl));
    rereads = λ p. reread _ (λ us. sync ((r.shows.reads.rereads _).reads _ _ us last_pattern)) (like_leaf unplaced_net _ _
        (fold_sync unplaced_net_form at_no_net_place p _ ∙ ap (λ vs. record { at = 0; form = form.Sync vs }) (r.shows.reads.rereads _).good ∙ sym (fold_sync unplaced_net_form at_no_net_place at all)));
  };
}

abbrev star_symbol : Bool → SomeSymbol
star_symbol true = symbol.StarStar
star_symbol false = symbol.Star

star_link : (det : Bool) → link_of (star_symbol det) ≡ Some (StarLink det)
star_link true = refl
star_link false = refl

star_text : (det : Bool) → chosen det (codes " ** ") (codes " * ") ≡ spaced_text (star_symbol det)
star_text true = refl
star_text false = refl

abbrev plain_star : Bool → Variant → Option TExpr → NetExpr → NetExpr
plain_star det exit guard body = record { at = 0; form = form.Star det body exit guard }

like_star : (det : Bool) (at other : ℕ) (exit again : Variant) {n again_n : Measured NetExpr} → unplaced_variant again ≡ unplaced_variant exit → Like unplaced_net 0 n again_n →
    Like unplaced_net 1 (with_star measured det at n exit) (with_star measured det other again_n again)
like_star det at other exit again is l = like_raise unplaced_net (like_each unplaced_net unplaced_net (plain_star det (unplaced_variant exit) None) (star_at det at exit None) (star_at det other again None)
    (λ b. fold_star unplaced_net_form at_no_net_place at det b exit None)
    (λ b. fold_star unplaced_net_form at_no_net_place other det b again None ∙ ap (λ v. plain_star det v None (unplaced_net b)) is) l)

like_guarded : (det : Bool) (at other : ℕ) (exit again : Variant) {n again_n : Measured NetExpr} {g again_g : Measured TExpr} → unplaced_variant again ≡ unplaced_variant exit →
    Like unplaced_net 0 n again_n → Like unplaced_tag 0 g again_g → Like unplaced_net 1 (with_guarded_star measured det at n exit g) (with_guarded_star measured det other again_n again again_g)
like_guarded det at other exit again is l m = like_raise unplaced_net (like_join unplaced_net unplaced_tag unplaced_net (λ b h. plain_star det (unplaced_variant exit) (Some h) b)
    (λ b h. star_at det at exit (Some h) b) (λ b h. star_at det other again (Some h) b)
    (λ b h. fold_star unplaced_net_form at_no_net_place at det b exit (Some h))
    (λ b h. fold_star unplaced_net_form at_no_net_place other det b again (Some h) ∙ ap (λ v. plain_star det v (Some (unplaced_tag h)) (unplaced_net b)) is) l m)

good_star : (det : Bool) (at : ℕ) {n : Measured NetExpr} (exit : Variant) → GoodNet n → GoodVariant exit → GoodNet (with_star measured det at n exit)
good_star det at {n} exit x y = record {
  shown = compound (operand x.shown ++ (spaced_text (star_symbol det) ++ y.text));
  is = fold_star net_step (λ n. n.form) at det n.value exit None ∙ (λ i. compound (operand (x.is i) ++ (star_text det i ++ (append-nil (variant_text exit) ∙ y.is) i)));
  reads = record {
    span = wholly (before (net_operand x).span (before (spaced (star_symbol det)) y.reads.span refl) refl);
    rereads = λ p. reread _ (λ us. of_posts (((net_operand x).rereads p).reads _) (star (star_link det) ((y.reads.rereads _).reads us) bare))
        (like_star det at _ exit _ (y.reads.rereads _).good ((net_operand x).rereads p).good);
  };
}

good_guarded : (det : Bool) (at : ℕ) {n : Measured NetExpr} (exit : Variant) {g : Measured TExpr} → GoodNet n → GoodVariant exit → GoodTag g → GoodNet (with_guarded_star measured det at n exit g)
good_guarded det at {n} exit {g} x y z = record {
  shown = compound (operand x.shown ++ (spaced_text (star_symbol det) ++ (y.text ++ (codes " if " ++ in_parentheses z.shown.text))));
  is = fold_star net_step (λ n. n.form) at det n.value exit (Some g.value) ∙ (λ i. compound (operand (x.is i) ++ (star_text det i ++ (y.is i ++ (codes " if " ++ in_parentheses (z.is i).text)))));
  reads = record {
    span = wholly (before (net_operand x).span (before (spaced (star_symbol det)) (before y.reads.span (before (spaced_key keyword.If)
        (before (symbol_span symbol.OpenParen) (before (tag_whole z).span (symbol_span symbol.CloseParen) refl) refl) refl) refl) refl) refl);
    rereads = λ p. reread _ (λ us. of_posts (((net_operand x).rereads p).reads _) (guarded_star (star_link det) ((y.reads.rereads _).reads _) (((tag_whole z).rereads _).reads _) bare))
        (like_guarded det at _ exit _ (y.reads.rereads _).good ((net_operand x).rereads p).good ((tag_whole z).rereads _).good);
  };
}

abbrev split_symbol : Bool → SomeSymbol
split_symbol true = symbol.BangBang
split_symbol false = symbol.Bang

split_link : (det : Bool) → link_of (split_symbol det) ≡ Some (SplitLink det)
split_link true = refl
split_link false = refl

split_text : (det : Bool) → split_operator det false ≡ spaced_text (split_symbol det)
split_text true = refl
split_text false = refl

-- the operator of a split whose replicas are spread
abbrev marked_text : Bool → List ℕ
marked_text det = 32 ∷ (symbol_word (split_symbol det) ++ (symbol_word symbol.At ++ 32 ∷ []))

spread_text : (det : Bool) → split_operator det true ≡ marked_text det
spread_text true = refl
spread_text false = refl

mark_fits : (det : Bool) → adjoin (symbol_end (split_symbol det)) (Exactly 64) ≡ true
mark_fits true = refl
mark_fits false = refl

abbrev marked : (det : Bool) → Span (Exactly 32) Free (marked_text det)
marked det = before (gap 32 refl) (before (symbol_span (split_symbol det)) (before (symbol_span symbol.At) (gap 32 refl) refl) (mark_fits det)) refl

like_split : (det spread : Bool) (at other : ℕ) (tag again : Ident) {n again_n : Measured NetExpr} → unplaced_ident again ≡ unplaced_ident tag → Like unplaced_net 0 n again_n →
    Like unplaced_net 1 (with_split measured det spread at n tag) (with_split measured det spread other again_n again)
like_split det spread at other tag again is l = like_raise unplaced_net (like_each unplaced_net unplaced_net (λ b. record { at = 0; form = form.Split det spread b (unplaced_ident tag) })
    (split_at det spread at tag) (split_at det spread other again)
    (λ b. fold_split unplaced_net_form at_no_net_place at det spread b tag)
    (λ b. fold_split unplaced_net_form at_no_net_place other det spread b again ∙ ap (λ v. record { at = 0; form = form.Split det spread (unplaced_net b) v }) is) l)

good_split : (det : Bool) (at : ℕ) {n : Measured NetExpr} (tag : Ident) → GoodNet n → IsTagName tag.text → GoodNet (with_split measured det false at n tag)
good_split det at {n} tag x w = record {
  shown = compound (operand x.shown ++ (spaced_text (split_symbol det) ++ in_angles tag.text));
  is = fold_split net_step (λ n. n.form) at det false n.value tag ∙ (λ i. compound (operand (x.is i) ++ (split_text det i ++ in_angles tag.text)));
  reads = record {
    span = wholly (before (net_operand x).span (before (spaced (split_symbol det)) (tag_span w) refl) refl);
    rereads = λ p. reread _ (λ us. of_posts (((net_operand x).rereads p).reads _) (split (split_link det) bare))
        (like_split det false at _ tag _ refl ((net_operand x).rereads p).good);
  };
}

good_spread : (det : Bool) (at : ℕ) {n : Measured NetExpr} (tag : Ident) → GoodNet n → IsTagName tag.text → GoodNet (with_split measured det true at n tag)
good_spread det at {n} tag x w = record {
  shown = compound (operand x.shown ++ (marked_text det ++ in_angles tag.text));
  is = fold_split net_step (λ n. n.form) at det true n.value tag ∙ (λ i. compound (operand (x.is i) ++ (spread_text det i ++ in_angles tag.text)));
  reads = record {
    span = wholly (before (net_operand x).span (before (marked det) (tag_span w) refl) refl);
    rereads = λ p. reread _ (λ us. of_posts (((net_operand x).rereads p).reads _) (spread_split (split_link det) bare))
        (like_split det true at _ tag _ refl ((net_operand x).rereads p).good);
  };
}

like_placed : (at other node : ℕ) {n again_n : Measured NetExpr} → Like unplaced_net 0 n again_n → Like unplaced_net 1 (with_place measured at n node) (with_place measured other again_n node)
like_placed at other node l = like_raise unplaced_net (like_each unplaced_net unplaced_net (λ b. record { at = 0; form = form.Placed b node }) (placed_at at node) (placed_at other node)
    (λ b. fold_placed unplaced_net_form at_no_net_place at b node) (λ b. fold_placed unplaced_net_form at_no_net_place other b node) l)

good_placed : (at node : ℕ) {n : Measured NetExpr} → GoodNet n → node ≤ 9223372036854775807 → GoodNet (with_place measured at n node)
good_placed at node {n} x h = record {
  shown = compound (operand x.shown ++ (codes "@" ++ decimal node));
  is = fold_placed net_step (λ n. n.form) at n.value node ∙ ap (λ s. compound (operand s ++ (codes "@" ++ decimal node))) x.is;
  reads = record {
    span = before (net_operand x).span (before (symbol_span symbol.At) (number_span node h) refl) refl;
    rereads = λ p. reread _ (λ us. of_posts (((net_operand x).rereads p).reads _) (placed refl bare)) (like_placed at _ node ((net_operand x).rereads p).good);
  };
}

-- operands in a row
abbrev operand_text : NetExpr → List ℕ
operand_text n = operand (net_shown n)

good_operand : {n : Measured NetExpr} → GoodNet n → Shows Calm Whole (operand_text n.value) (Atom measured) (Like unplaced_net 0 n)
good_operand x = record { text = operand x.shown; is = ap operand x.is; reads = net_operand x }

map_operands : (ns : List NetExpr) → map operand (map net_shown ns) ≡ map operand_text ns
map_operands [] = refl
map_operands (n ∷ ns) = ap (λ ts. operand (net_shown n) ∷ ts) (map_operands ns)

like_none : Like (map unplaced_net) 0 (no_parts measured) (no_parts measured)
like_none = like_leaf (map unplaced_net) [] [] refl

-- after some parts and then one more: a place, the parts before, and the last
abbrev AfterMore : Type 0
AfterMore = ℕ × Measured (List NetExpr) × Measured NetExpr

abbrev all_parts : AfterMore → Measured (List NetExpr)
all_parts c = with_part measured c.1 c.2

-- serial lists
abbrev SerialOne : Measured NetExpr → List Terminal → Measured NetExpr → List Terminal → Type 0
SerialOne n ts w vs = MoreSerial measured None n ts w vs

abbrev SerialMore : AfterMore → List Terminal → Measured NetExpr → List Terminal → Type 0
SerialMore c ts w vs = MoreSerial measured (Some (c.0, c.1)) c.2 ts w vs

abbrev dots_text : List ℕ
dots_text = spaced_text symbol.Dots

abbrev GoodFirst : Measured NetExpr → Type 0
GoodFirst n = GoodRow Calm Whole dots_text operand_text (Serial measured) SerialOne (n.value ∷ []) (Like unplaced_net 0 n)

abbrev GoodSerial : Measured (List NetExpr) → Type 0
GoodSerial row = GoodRow Calm Whole dots_text operand_text (Serial measured) SerialMore row.value (λ c. Like (map unplaced_net) 0 row (all_parts c))

serial_begins : (p : ℕ) (n : Measured NetExpr) (ts us : List Terminal) (w : Measured NetExpr) (vs : List Terminal) → HeadAt p ts → Atom measured ts n us → SerialOne n us w vs → Serial measured ts w vs
serial_begins p n ts us w vs h d k = serial (post d bare) k

second_part : (q : ℕ) (n m : Measured NetExpr) (ts us : List Terminal) (w : Measured NetExpr) (vs : List Terminal) → Atom measured ts m us →
    SerialMore (q + 1, with_part measured (no_parts measured) n, m) us w vs → SerialOne n (Symbol symbol.Dots (q + 1) ∷ ts) w vs
second_part q n m ts us w vs d k = dots (post d bare) k

later_part : (q : ℕ) (c : AfterMore) (m : Measured NetExpr) (ts us : List Terminal) (w : Measured NetExpr) (vs : List Terminal) → Atom measured ts m us →
    SerialMore (c.0, with_part measured c.1 c.2, m) us w vs → SerialMore c (Symbol symbol.Dots (q + 1) ∷ ts) w vs
later_part q c m ts us w vs d k = dots (post d bare) k

one_part : (n : Measured NetExpr) → GoodNet n → GoodFirst n
one_part n x = row_begins dots_text operand_text (Serial measured) SerialOne (λ p y. y) serial_begins (λ p y l. l) calm_head (good_operand x)

two_parts : (n m : Measured NetExpr) → GoodFirst n → GoodNet m → GoodSerial (with_part measured (with_part measured (no_parts measured) n) m)
two_parts n m r x = row_goes_on dots_text operand_text (Serial measured) SerialOne SerialMore (spaced symbol.Dots) refl (λ q c y. (q + 1, with_part measured (no_parts measured) c, y)) second_part
    (λ q c y l k. like_row unplaced_net (like_row unplaced_net like_none l) k) r (good_operand x)

next_part : (row : Measured (List NetExpr)) (m : Measured NetExpr) → GoodSerial row → GoodNet m → GoodSerial (with_part measured row m)
next_part row m r x = row_goes_on dots_text operand_text (Serial measured) SerialMore SerialMore (spaced symbol.Dots) refl (λ q c y. (c.0, with_part measured c.1 c.2, y)) later_part
    (λ q c y l k. like_row unplaced_net l k) r (good_operand x)

good_series : (at : ℕ) (row : Measured (List NetExpr)) → GoodSerial row → GoodNet (measured.raise (measured.each (serial_at at) row))
good_series at row r = record {
  shown = compound r.shows.text;
  is = fold_serial net_step (λ n. n.form) at row.value ∙ ap compound (ap (joined dots_text) (map_operands row.value) ∙ r.shows.is);
  reads = record {
    span = r.shows.reads.span;
    rereads = λ p. reread _ (λ us. network ((r.shows.reads.rereads p).reads us _ us last) final)
        (like_raise unplaced_net (like_each (map unplaced_net) unplaced_net (serial_at 0) _ _ (fold_serial unplaced_net_form at_no_net_place at) (fold_serial unplaced_net_form at_no_net_place _) (r.shows.reads.rereads p).good));
  };
}

-- choices
abbrev branch_symbol : Bool → SomeSymbol
branch_symbol true = symbol.BarBar
branch_symbol false = symbol.Bar

branch_link : (det : Bool) → link_of (branch_symbol det) ≡ Some (BranchLink det)
branch_link true = refl
branch_link false = refl

branch_text : (det : Bool) → chosen det (codes " || ") (codes " | ") ≡ spaced_text (branch_symbol det)
branch_text true = refl
branch_text false = refl

abbrev BranchesOne : Measured NetExpr → List Terminal → Measured NetExpr → List Terminal → Type 0
BranchesOne n ts w vs = MoreBranches measured None n ts w vs

abbrev BranchesMore : Bool → AfterMore → List Terminal → Measured NetExpr → List Terminal → Type 0
BranchesMore det c ts w vs = MoreBranches measured (Some (det, c.0, c.1)) c.2 ts w vs

abbrev GoodFirstBranch : Bool → Measured NetExpr → Type 0
GoodFirstBranch det n = GoodRow Calm Whole (spaced_text (branch_symbol det)) operand_text (Network measured) BranchesOne (n.value ∷ []) (Like unplaced_net 0 n)

abbrev GoodBranches : Bool → Measured (List NetExpr) → Type 0
GoodBranches det row = GoodRow Calm Whole (spaced_text (branch_symbol det)) operand_text (Network measured) (BranchesMore det) row.value (λ c. Like (map unplaced_net) 0 row (all_parts c))

branches_begin : (p : ℕ) (n : Measured NetExpr) (ts us : List Terminal) (w : Measured NetExpr) (vs : List Terminal) → HeadAt p ts → Atom measured ts n us → BranchesOne n us w vs → Network measured ts w vs
branches_begin p n ts us w vs h d k = network (as_serial d) k

second_branch : (det : Bool) (q : ℕ) (n m : Measured NetExpr) (ts us : List Terminal) (w : Measured NetExpr) (vs : List Terminal) → Atom measured ts m us →
    BranchesMore det (q + 1, with_part measured (no_parts measured) n, m) us w vs → BranchesOne n (Symbol (branch_symbol det) (q + 1) ∷ ts) w vs
second_branch det q n m ts us w vs d k = branch (branch_link det) tt (as_serial d) k

later_branch : (det : Bool) (q : ℕ) (c : AfterMore) (m : Measured NetExpr) (ts us : List Terminal) (w : Measured NetExpr) (vs : List Terminal) → Atom measured ts m us →
    BranchesMore det (c.0, with_part measured c.1 c.2, m) us w vs → BranchesMore det c (Symbol (branch_symbol det) (q + 1) ∷ ts) w vs
later_branch det q c m ts us w vs d k = branch (branch_link det) refl (as_serial d) k

one_branch : (det : Bool) (n : Measured NetExpr) → GoodNet n → GoodFirstBranch det n
one_branch det n x = row_begins (spaced_text (branch_symbol det)) operand_text (Network measured) BranchesOne (λ p y. y) branches_begin (λ p y l. l) calm_head (good_operand x)

two_branches : (det : Bool) (n m : Measured NetExpr) → GoodFirstBranch det n → GoodNet m → GoodBranches det (with_part measured (with_part measured (no_parts measured) n) m)
two_branches det n m r x = row_goes_on (spaced_text (branch_symbol det)) operand_text (Network measured) BranchesOne (BranchesMore det) (spaced (branch_symbol det)) refl
    (λ q c y. (q + 1, with_part measured (no_parts measured) c, y)) (second_branch det) (λ q c y l k. like_row unplaced_net (like_row unplaced_net like_none l) k) r (good_operand x)

next_branch : (det : Bool) (row : Measured (List NetExpr)) (m : Measured NetExpr) → GoodBranches det row → GoodNet m → GoodBranches det (with_part measured row m)
next_branch det row m r x = row_goes_on (spaced_text (branch_symbol det)) operand_text (Network measured) (BranchesMore det) (BranchesMore det) (spaced (branch_symbol det)) refl
    (λ q c y. (c.0, with_part measured c.1 c.2, y)) (later_branch det) (λ q c y l k. like_row unplaced_net l k) r (good_operand x)

good_choice : (det : Bool) (at : ℕ) (row : Measured (List NetExpr)) → GoodBranches det row → GoodNet (measured.raise (measured.each (choice_at det at) row))
good_choice det at row r = record {
  shown = compound r.shows.text;
  is = fold_choice net_step (λ n. n.form) at det row.value ∙ ap compound ((λ i. joined (branch_text det i) (map_operands row.value i)) ∙ r.shows.is);
  reads = record {
    span = r.shows.reads.span;
    rereads = λ p. reread _ (λ us. (r.shows.reads.rereads p).reads us _ us final)
        (like_raise unplaced_net (like_each (map unplaced_net) unplaced_net (choice_at det 0) _ _ (fold_choice unplaced_net_form at_no_net_place at det) (fold_choice unplaced_net_form at_no_net_place _ det) (r.shows.reads.rereads p).good));
  };
}

-- parentheses leave no node of their own
inside : (n : Measured NetExpr) (r : Rank) (text : List ℕ) → ReadsNet r n text → ReadsNet r (measured.parens n) text
inside n Alone text a = record { span = a.span; rereads = λ p. reread _ (λ us. (a.rereads p).reads us) (like_inside unplaced_net (a.rereads p).good) }
inside n Compound text a = record { span = a.span; rereads = λ p. reread _ (λ us. (a.rereads p).reads us) (like_inside unplaced_net (a.rereads p).good) }
inside n SequenceRank text a = absurd a

good_parens : {n : Measured NetExpr} → GoodNet n → GoodNet (measured.parens n)
good_parens x = record { shown = x.shown; is = x.is; reads = inside _ x.shown.rank x.shown.text x.reads }

-- each network that words spell reads back
mutual
  good_atom : {n : Measured NetExpr} {ts us : List Terminal} → Atom measured ts n us → AreWords ts → GoodNet n × AreWords us
  good_atom (named {name = n}) w = (good_name n w.0, w.1)
  good_atom (identity {at}) w = (good_identity at, w.1.1)
  good_atom (filtered {at} (filter {pattern = pattern} a no_arms (last_templates {t = t} {all = all} b d))) w =
      let x = good_variant a w.1 in let y = good_template b x.1.1 in let r = good_more_templates d (first_template Last t y.0) y.1 in (good_filter at pattern all x.0 r.0, r.1)
  good_atom (filtered {at} (filter {pattern = pattern} a (armed {a = first} {all = some} e f) (last_templates {t = t} {all = all} b d))) w =
      let x = good_variant a w.1 in
      let z = good_arm e x.1 in
      let k = good_more_arms f (record { filled = not_nil [] first.value; shows = first_arm first z.0 }) z.1 in
      let y = good_template b k.1 in
      let r = good_more_templates d (first_template Last t y.0) y.1 in
      (good_armed at pattern some all x.0 k.0 r.0, r.1)
  good_atom (sync {at} {all} (patterns {v = v} a d)) w = let x = good_variant a w.1 in let r = good_more_patterns d (first_pattern v x.0) x.1 in (good_sync at all r.0, r.1)
  good_atom (parens a) w = let x = good_network a w.1 in (good_parens x.0, x.1.1)

  good_post : {n : Measured NetExpr} {ts us : List Terminal} → Post measured ts n us → AreWords ts → GoodNet n × AreWords us
  good_post (post a d) w = let x = good_atom a w in good_posts d x.0 x.1

  good_posts : {p n : Measured NetExpr} {ts us : List Terminal} → Posts measured p ts n us → GoodNet p → AreWords ts → GoodNet n × AreWords us
  good_posts bare x w = (x, w)
  good_posts (star {at} {det = det} {exit = exit} i a d) x w = let y = good_variant a w.1 in good_posts d (good_star det at exit x y.0) y.1
  good_posts (guarded_star {at} {det = det} {exit = exit} i a b d) x w =
      let y = good_variant a w.1 in let z = good_tag_expr b y.1.1.1 in good_posts d (good_guarded det at exit x y.0 z.0) z.1.1
  good_posts (split {at} {det = det} {tag = tag} i d) x w = good_posts d (good_split det at tag x w.1.0) w.1.1
  good_posts (spread_split {at} {det = det} {tag = tag} i d) x w = good_posts d (good_spread det at tag x w.1.1.0) w.1.1.1
  good_posts (placed {at} {node = node} i d) x w =
      let number = w.1.0 in let same : node ≡ number.0 = cc in good_posts d (good_placed at node x (rw (← same) at number.2)) w.1.1

  good_serial : {n : Measured NetExpr} {ts us : List Terminal} → Serial measured ts n us → AreWords ts → GoodNet n × AreWords us
  good_serial (serial a d) w = let x = good_post a w in good_serial_one d x.0 x.1

  good_serial_one : {p n : Measured NetExpr} {ts us : List Terminal} → MoreSerial measured None p ts n us → GoodNet p → AreWords ts → GoodNet n × AreWords us
  good_serial_one last x w = (x, w)
  good_serial_one (dots {at} {p = p} {q = q} a d) x w = let y = good_post a w.1 in good_serial_more (at, with_part measured (no_parts measured) p) d (two_parts p q (one_part p x) y.0) y.1

  good_serial_more : (c : ℕ × Measured (List NetExpr)) {p n : Measured NetExpr} {ts us : List Terminal} → MoreSerial measured (Some c) p ts n us → GoodSerial (with_part measured c.1 p) → AreWords ts → GoodNet n × AreWords us
  good_serial_more c {p} last r w = (good_series c.0 (with_part measured c.1 p) r, w)
  good_serial_more c {p} (dots {q = q} a d) r w = let y = good_post a w.1 in good_serial_more (c.0, with_part measured c.1 p) d (next_part (with_part measured c.1 p) q r y.0) y.1

  pub good_network : {n : Measured NetExpr} {ts us : List Terminal} → Network measured ts n us → AreWords ts → GoodNet n × AreWords us
  good_network (network a d) w = let x = good_serial a w in good_branches_one d x.0 x.1

  good_branches_one : {p n : Measured NetExpr} {ts us : List Terminal} → MoreBranches measured None p ts n us → GoodNet p → AreWords ts → GoodNet n × AreWords us
  good_branches_one final x w = (x, w)
  good_branches_one (branch {at} {det = det} {s = p} {q = q} i g a d) x w =
      let y = good_serial a w.1 in good_branches_more (det, at, with_part measured (no_parts measured) p) d (two_branches det p q (one_branch det p x) y.0) y.1

  good_branches_more : (c : Bool × ℕ × Measured (List NetExpr)) {p n : Measured NetExpr} {ts us : List Terminal} → MoreBranches measured (Some c) p ts n us → GoodBranches c.0 (with_part measured c.2 p) → AreWords ts → GoodNet n × AreWords us
  good_branches_more c {p} final r w = (good_choice c.0 c.1 (with_part measured c.2 p) r, w)
  good_branches_more c {p} (branch {q = q} i g a d) r w = let y = good_serial a w.1 in good_branches_more (c.0, c.1, with_part measured c.2 p) d (next_branch c.0 (with_part measured c.2 p) q r y.0) y.1
