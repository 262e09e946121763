-- The names of a source hold those of all its labels.
use Rattle.std.proofs.Common.{◌≡◌, ℕ, Bool, true, false, ◌||◌, List, [], ◌∷◌, ◌++◌, map as each, Option, Some, None, bytes_eq, fold, ◌⊎◌, inl, inr, refl, sym, ◌∙◌, subst, subst₂, map-id}
use Rattle.sn_ast.specs.declared.declaration.BoxDecl.{BoxDecl}
use Rattle.sn_ast.specs.declared.declaration.Decl.{Decl}
use Rattle.sn_ast.specs.declared.declaration.Decl.TheFolds.{fold-roll-Decl, fold-roll-NetDecl, ind-Decl, map-Decl}
use Rattle.sn_ast.specs.declared.declaration.Decl.TheOpen.{Decl-F}
use Rattle.sn_ast.specs.declared.declaration.Decl.TheViews.{out-NetDecl, out-roll-Decl, out-roll-NetDecl, roll-Decl, roll-NetDecl}
use Rattle.sn_ast.specs.declared.declaration.NetDecl.{NetDecl, NetDecl-F}
use Rattle.sn_ast.specs.declared.declaration.Program.{Program}
use Rattle.sn_ast.specs.declared.label.Ident.{Ident}
use Rattle.sn_ast.specs.declared.label.LabelAt.{LabelAt}
use Rattle.sn_ast.specs.declared.label.Sig.{Sig}
use Rattle.sn_ast.specs.declared.label.Sig.TheVariants.{Arrow, Named as NamedSig}
use Rattle.sn_ast.specs.declared.label.TypePart.{TypePart}
use Rattle.sn_ast.specs.declared.label.TypePart.TheVariants.{Set, Named as NamedType}
use Rattle.sn_ast.specs.declared.label.Variant.{Variant}
use Rattle.sn_ast.specs.declared.network.ArmAt.{ArmAt}
use Rattle.sn_ast.specs.declared.network.ItemAt.{ItemAt}
use Rattle.sn_ast.specs.declared.network.ItemSource.{ItemSource}
use Rattle.sn_ast.specs.declared.network.ItemSource.TheVariants.{Same, Field, Expr}
use Rattle.sn_ast.specs.declared.network.NetExpr.{NetExpr, fold-roll-NetExpr}
use Rattle.sn_ast.specs.declared.network.NetForm.{NetForm, fold-NetForm}
use Rattle.sn_ast.specs.declared.network.NetForm.TheFolds.{fold-roll-NetForm, ind-NetExpr, map-NetForm}
use Rattle.sn_ast.specs.declared.network.NetForm.TheOpen.{NetForm-F}
use Rattle.sn_ast.specs.declared.network.NetForm.TheViews.{out-NetForm, out-roll-NetForm, out-roll-NetExpr, roll-NetForm, roll-NetExpr}
use Rattle.sn_ast.specs.declared.network.TemplateAt.{TemplateAt}
use Rattle.sn_ast.specs.declared.tag_expr.TExpr.{TExpr, fold-roll-TExpr}
use Rattle.sn_ast.specs.declared.tag_expr.TForm.{TForm, fold-TForm}
use Rattle.sn_ast.specs.declared.tag_expr.TForm.TheFolds.{fold-roll-TForm, ind-TExpr, map-TForm}
use Rattle.sn_ast.specs.declared.tag_expr.TForm.TheOpen.{TForm-F}
use Rattle.sn_ast.specs.declared.tag_expr.TForm.TheViews.{roll-TForm, roll-TExpr}
use Rattle.sn_names.specs.Names.{entered, is_held}
use Rattle.sn_names.proofs.NamesLaws.{is_held-entered}
use Rattle.sn_scope.specs.Numbering.{Entry, after_arm, after_box, after_decl, after_guard, after_item, after_label, after_labels, after_net, after_network, after_part, after_sig, after_signature, after_source, after_tags, after_template, after_tuple, after_types, after_variant, all_after, decl_step, names_of, net_step, network_step, tags_step as entry_step}
use Rattle.sn_scope_rules.specs.Filters.{tags_in, tags_step}
use Rattle.sn_scope_rules.specs.Standing.{StandsIn}
use Rattle.sn_scope_rules.proofs.Held.{Each, HeldArm, HeldBox, HeldDecl, HeldDeclLevel, HeldGuard, HeldIdent, HeldItem, HeldLabel, HeldLabels, HeldLevel, HeldNet, HeldNetDecl, HeldNetSig, HeldPart, HeldSig, HeldSource, HeldTags, HeldTemplate, HeldTuple, HeldType, HeldVariant, Names, each_cons, each_nil, level_decl, level_net}
use Rattle.sn_scope_rules.proofs.Idents.{held_entered}
use Rattle.sn_scope_rules.proofs.Standing.{in_either}

-- what one has, the other has
abbrev Within : Names → Names → Type 0
Within some all = (n : List ℕ) → is_held some n ≡ true → is_held all n ≡ true

-- an entry keeps what is held, and names that have all that it leaves hold a part
pub record Enters (entry : Entry) (P : Names → Type 0) : Type 0 where
  pub keeps : (names : Names) → Within names (entry names)
  pub holds : (names all : Names) → Within (entry names) all → P all

enters_nothing : (P : Names → Type 0) → ((all : Names) → P all) → Enters (λ names. names) P
enters_nothing P known = record { keeps = λ names n held. held; holds = λ names all within. known all }

enters_both : (one other : Entry) (P Q : Names → Type 0) → Enters one P → Enters other Q → Enters (λ names. other (one names)) (λ all. P all × Q all)
enters_both one other P Q first second = record {
  keeps = λ names n held. second.keeps (one names) n (first.keeps names n held);
  holds = λ names all within. (first.holds names all (λ n held. within n (second.keeps (one names) n held)), second.holds (one names) all within);
}

enters_so : (entry : Entry) (P Q : Names → Type 0) → Enters entry P → ((all : Names) → P all → Q all) → Enters entry Q
enters_so entry P Q entered so = record { keeps = entered.keeps; holds = λ names all within. so all (entered.holds names all within) }

or_left : (a b : Bool) → a ≡ true → (a || b) ≡ true
or_left true b held = refl
or_left false b held = cc

enters_name : (name : Ident) → Enters (λ names. entered names name.text) (λ all. HeldIdent all name)
enters_name name = record {
  keeps = λ names n held. held_entered names name.text n ∙ or_left (is_held names n) (bytes_eq name.text n) held;
  holds = λ names all within. within name.text (is_held-entered names name.text);
}

each_append : {A : Type 0} (P : A → Type 0) (xs ys : List A) → Each P xs → Each P ys → Each P (xs ++ ys)
each_append P xs ys one other x at = side (in_either x xs ys at)
  where
    side : StandsIn x xs ⊎ StandsIn x ys → P x
    side (inl at) = one x at
    side (inr at) = other x at

enters_each : {A : Type 0} (step : Names → A → Names) (P : Names → A → Type 0) → ((x : A) → Enters (λ names. step names x) (λ all. P all x)) → (xs : List A) → Enters (λ names. fold step names xs) (λ all. Each (P all) xs)
enters_each step P one [] = enters_nothing (λ all. Each (P all) []) (λ all. each_nil (P all))
enters_each step P one (x ∷ xs) = enters_so (λ names. fold step (step names x) xs) (λ all. P all x × Each (P all) xs) (λ all. Each (P all) (x ∷ xs))
    (enters_both (λ names. step names x) (λ names. fold step names xs) (λ all. P all x) (λ all. Each (P all) xs) (one x) (enters_each step P one xs)) (λ all both. each_cons (P all) x xs both.0 both.1)

labels_enter : (labels : List LabelAt) → Enters (λ names. after_labels names labels) (λ all. HeldLabels all labels)
labels_enter labels = enters_each after_label HeldLabel (λ label. enters_name label.name) labels

variant_enters : (variant : Variant) → Enters (λ names. after_variant names variant) (λ all. HeldVariant all variant)
variant_enters variant = labels_enter variant.labels

part_enters : (part : TypePart) → Enters (λ names. after_part names part) (λ all. HeldPart all part)
part_enters (Set variant) = variant_enters variant
part_enters (NamedType name) = enters_nothing (λ all. Unit {0}) (λ all. tt)

type_enters : (parts : List TypePart) → Enters (λ names. after_types names parts) (λ all. HeldType all parts)
type_enters parts = enters_each after_part HeldPart part_enters parts

sig_enters : (sig : Sig) → Enters (after_sig sig) (λ all. HeldSig all sig)
sig_enters (Arrow input output) = enters_both (λ names. after_types names input) (λ names. after_types names output) (λ all. HeldType all input) (λ all. HeldType all output) (type_enters input) (type_enters output)
sig_enters (NamedSig name) = enters_nothing (λ all. Unit {0}) (λ all. tt)

net_sig_enters : (sig : Option Sig) → Enters (after_signature sig) (λ all. HeldNetSig all sig)
net_sig_enters None = enters_nothing (λ all. Unit {0}) (λ all. tt)
net_sig_enters (Some sig) = sig_enters sig

-- the tags of an expression
form_entry : TForm → Entry
form_entry = fold-TForm Entry Entry entry_step (λ e. e.form)

form_tags : TForm → List Ident
form_tags = fold-TForm (List Ident) (List Ident) tags_step (λ e. e.form)

abbrev TagsEnter : Entry → List Ident → Type 0
TagsEnter entry tags = Enters entry (λ all. Each (HeldIdent all) tags)

tags_level : (x : TForm-F TForm TExpr) → TagsEnter (entry_step (map-TForm TForm TExpr Entry Entry form_entry after_tags x)) (tags_step (map-TForm TForm TExpr (List Ident) (List Ident) form_tags tags_in x))
    → TagsEnter (form_entry (roll-TForm x)) (form_tags (roll-TForm x))
unfolding form_entry form_tags
tags_level x entered = subst₂ TagsEnter (sym (fold-roll-TForm Entry Entry entry_step (λ e. e.form) x)) (sym (fold-roll-TForm (List Ident) (List Ident) tags_step (λ e. e.form) x)) entered

two_tags : (one other : Entry) (xs ys : List Ident) → TagsEnter one xs → TagsEnter other ys → TagsEnter (λ names. other (one names)) (xs ++ ys)
two_tags one other xs ys first second = enters_so (λ names. other (one names)) (λ all. Each (HeldIdent all) xs × Each (HeldIdent all) ys) (λ all. Each (HeldIdent all) (xs ++ ys))
    (enters_both one other (λ all. Each (HeldIdent all) xs) (λ all. Each (HeldIdent all) ys) first second) (λ all both. each_append (HeldIdent all) xs ys both.0 both.1)

tags_enter : (e : TExpr) → TagsEnter (after_tags e) (tags_in e)
unfolding form_entry form_tags
tags_enter = ind-TExpr (λ form. TagsEnter (form_entry form) (form_tags form)) (λ e. TagsEnter (after_tags e) (tags_in e))
    (λ x y is. subst (λ z. TagsEnter (form_entry (roll-TForm z)) (form_tags (roll-TForm z))) is (tags_level (map-TForm _ _ TForm TExpr (λ e. e.0) (λ e. e.0) y) (elim y as (λ z. TagsEnter
    (entry_step (map-TForm TForm TExpr Entry Entry form_entry after_tags (map-TForm _ _ TForm TExpr (λ e. e.0) (λ e. e.0) z)))
    (tags_step (map-TForm TForm TExpr (List Ident) (List Ident) form_tags tags_in (map-TForm _ _ TForm TExpr (λ e. e.0) (λ e. e.0) z)))) [
      | TForm-F.Number n ↦ enters_nothing (λ all. Each (HeldIdent all) []) (λ all. each_nil (HeldIdent all))
      | TForm-F.Tag name ↦ enters_so (λ names. entered names name.text) (λ all. HeldIdent all name) (λ all. Each (HeldIdent all) (name ∷ [])) (enters_name name) (λ all held. each_cons (HeldIdent all) name [] held (each_nil (HeldIdent all)))
      | TForm-F.Neg e ↦ e.1
      | TForm-F.Not e ↦ e.1
      | TForm-F.Op o e f ↦ two_tags (after_tags e.0) (after_tags f.0) (tags_in e.0) (tags_in f.0) e.1 f.1
      | TForm-F.And e f ↦ two_tags (after_tags e.0) (after_tags f.0) (tags_in e.0) (tags_in f.0) e.1 f.1
      | TForm-F.Or e f ↦ two_tags (after_tags e.0) (after_tags f.0) (tags_in e.0) (tags_in f.0) e.1 f.1
      | TForm-F.Cond c e f ↦ two_tags (after_tags c.0) (λ names. after_tags f.0 (after_tags e.0 names)) (tags_in c.0) (tags_in e.0 ++ tags_in f.0) c.1 (two_tags (after_tags e.0) (after_tags f.0) (tags_in e.0) (tags_in f.0) e.1 f.1)
    ])))
    (λ x y is. subst (λ z. TagsEnter (after_tags (roll-TExpr z)) (tags_in (roll-TExpr z))) is
    (subst₂ TagsEnter
    (sym (fold-roll-TExpr Entry Entry entry_step (λ e. e.form) (record { at = y.at; form = y.form.0 })))
    (sym (fold-roll-TExpr (List Ident) (List Ident) tags_step (λ e. e.form) (record { at = y.at; form = y.form.0 }))) y.form.1))

source_enters : (source : ItemSource) → Enters (after_source source) (λ all. HeldSource all source)
source_enters Same = enters_nothing (λ all. Unit {0}) (λ all. tt)
source_enters (Field name) = enters_name name
source_enters (Expr e) = tags_enter e

item_enters : (item : ItemAt) → Enters (λ names. after_item names item) (λ all. HeldItem all item)
item_enters item = enters_both (λ names. after_label names item.target) (after_source item.source) (λ all. HeldLabel all item.target) (λ all. HeldSource all item.source) (enters_name item.target.name) (source_enters item.source)

template_enters : (template : TemplateAt) → Enters (λ names. after_template names template) (λ all. HeldTemplate all template)
template_enters template = enters_each after_item HeldItem item_enters template.items

templates_enter : (templates : List TemplateAt) → Enters (λ names. fold after_template names templates) (λ all. Each (HeldTemplate all) templates)
templates_enter templates = enters_each after_template HeldTemplate template_enters templates

arm_enters : (arm : ArmAt) → Enters (λ names. after_arm names arm) (λ all. HeldArm all arm)
arm_enters arm = enters_both (after_tags arm.guard) (λ names. fold after_template names arm.templates) (λ all. HeldTags all arm.guard) (λ all. Each (HeldTemplate all) arm.templates)
    (tags_enter arm.guard) (templates_enter arm.templates)

guard_enters : (guard : Option TExpr) → Enters (after_guard guard) (λ all. HeldGuard all guard)
guard_enters None = enters_nothing (λ all. Unit {0}) (λ all. tt)
guard_enters (Some e) = tags_enter e

-- networks
net_entry : NetForm → Entry
net_entry = fold-NetForm Entry Entry network_step (λ n. n.form)

abbrev FormEnters : NetForm → Type 0
FormEnters form = Enters (net_entry form) (λ all. HeldLevel all (out-NetForm form))

abbrev NetEnters : NetExpr → Type 0
NetEnters net = Enters (after_network net) (λ all. HeldNet all net)

net_form_level : (x : NetForm-F NetForm NetExpr) → Enters (network_step (map-NetForm NetForm NetExpr Entry Entry net_entry after_network x)) (λ all. HeldLevel all x) → FormEnters (roll-NetForm x)
unfolding net_entry
net_form_level x entered = subst₂ (λ (entry : Entry) (form : NetForm-F NetForm NetExpr). Enters entry (λ all. HeldLevel all form))
    (sym (fold-roll-NetForm Entry Entry network_step (λ n. n.form) x)) (sym (out-roll-NetForm x)) entered

whole_net : (place : ℕ) (form : NetForm) → FormEnters form → NetEnters (roll-NetExpr (record { at = place; form = form }))
unfolding net_entry
whole_net place form known = enters_so (after_network (roll-NetExpr (record { at = place; form = form }))) (λ all. HeldLevel all (out-NetForm form)) (λ all. HeldNet all (roll-NetExpr (record { at = place; form = form })))
    (subst (λ (entry : Entry). Enters entry (λ all. HeldLevel all (out-NetForm form))) (sym (fold-roll-NetExpr Entry Entry network_step (λ n. n.form) (record { at = place; form = form }))) known)
    (λ all held. level_net all (roll-NetExpr (record { at = place; form = form })) (subst (λ n. HeldLevel all (out-NetForm n.form)) (sym (out-roll-NetExpr (record { at = place; form = form }))) held))

abbrev Entered : Type 0
Entered = (n : NetExpr) × NetEnters n

abbrev exprs : List Entered → List NetExpr
exprs parts = each (λ (e : Entered). e.0) parts

nets_enter : (parts : List Entered) → Enters (all_after (each after_network (exprs parts))) (λ all. Each (HeldNet all) (exprs parts))
nets_enter [] = enters_nothing (λ all. Each (HeldNet all) []) (λ all. each_nil (HeldNet all))
nets_enter (part ∷ parts) = enters_so (λ names. all_after (each after_network (exprs parts)) (after_network part.0 names)) (λ all. HeldNet all part.0 × Each (HeldNet all) (exprs parts)) (λ all. Each (HeldNet all) (part.0 ∷ exprs parts))
    (enters_both (after_network part.0) (all_after (each after_network (exprs parts))) (λ all. HeldNet all part.0) (λ all. Each (HeldNet all) (exprs parts)) part.1 (nets_enter parts)) (λ all both. each_cons (HeldNet all) part.0 (exprs parts) both.0 both.1)

-- a form without networks
leaf : (entry : Entry) (P : Names → Type 0) → Enters entry P → Enters entry (λ all. P all × Each (HeldNet all) [])
leaf entry P entered = enters_so entry P (λ all. P all × Each (HeldNet all) []) entered (λ all held. (held, each_nil (HeldNet all)))

star_enters : (det : Bool) (body : Entered) (exit : Variant) (guard : Option TExpr)
    → Enters (λ names. after_guard guard (after_variant (after_network body.0 names) exit)) (λ all. HeldLevel all (NetForm-F.Star det body.0 exit guard))
star_enters det body exit guard = enters_so (λ names. after_guard guard (after_variant (after_network body.0 names) exit)) (λ all. HeldNet all body.0 × (HeldVariant all exit × HeldGuard all guard)) (λ all. HeldLevel all (NetForm-F.Star det body.0 exit guard))
    (enters_both (after_network body.0) (λ names. after_guard guard (after_variant names exit)) (λ all. HeldNet all body.0) (λ all. HeldVariant all exit × HeldGuard all guard) body.1
    (enters_both (λ names. after_variant names exit) (after_guard guard) (λ all. HeldVariant all exit) (λ all. HeldGuard all guard) (variant_enters exit) (guard_enters guard)))
    (λ all held. (held.1, each_cons (HeldNet all) body.0 [] held.0 (each_nil (HeldNet all))))

split_enters : (det spread : Bool) (body : Entered) (tag : Ident) → Enters (λ names. entered (after_network body.0 names) tag.text) (λ all. HeldLevel all (NetForm-F.Split det spread body.0 tag))
split_enters det spread body tag = enters_so (λ names. entered (after_network body.0 names) tag.text) (λ all. HeldNet all body.0 × HeldIdent all tag) (λ all. HeldLevel all (NetForm-F.Split det spread body.0 tag))
    (enters_both (after_network body.0) (λ names. entered names tag.text) (λ all. HeldNet all body.0) (λ all. HeldIdent all tag) body.1 (enters_name tag)) (λ all held. (held.1, each_cons (HeldNet all) body.0 [] held.0 (each_nil (HeldNet all))))

network_enters : (net : NetExpr) → NetEnters net
unfolding net_entry
network_enters = ind-NetExpr FormEnters NetEnters
    (λ x y is. subst (λ z. FormEnters (roll-NetForm z)) is (net_form_level (map-NetForm _ _ NetForm NetExpr (λ e. e.0) (λ e. e.0) y) (elim y as (λ z. Enters
    (network_step (map-NetForm NetForm NetExpr Entry Entry net_entry after_network (map-NetForm _ _ NetForm NetExpr (λ e. e.0) (λ e. e.0) z)))
    (λ all. HeldLevel all (map-NetForm _ _ NetForm NetExpr (λ e. e.0) (λ e. e.0) z))) [
      | NetForm-F.Name name ↦ leaf (λ names. names) (λ all. Unit {0}) (enters_nothing (λ all. Unit {0}) (λ all. tt))
      | NetForm-F.Identity ↦ leaf (λ names. names) (λ all. Unit {0}) (enters_nothing (λ all. Unit {0}) (λ all. tt))
      | NetForm-F.Filter pattern arms templates ↦ leaf (λ names. fold after_template (fold after_arm (after_variant names pattern) arms) templates)
          (λ all. HeldVariant all pattern × (Each (HeldArm all) arms × Each (HeldTemplate all) templates))
          (enters_both (λ names. after_variant names pattern) (λ names. fold after_template (fold after_arm names arms) templates) (λ all. HeldVariant all pattern)
          (λ all. Each (HeldArm all) arms × Each (HeldTemplate all) templates) (variant_enters pattern)
          (enters_both (λ names. fold after_arm names arms) (λ names. fold after_template names templates) (λ all. Each (HeldArm all) arms) (λ all. Each (HeldTemplate all) templates)
          (enters_each after_arm HeldArm arm_enters arms) (templates_enter templates)))
      | NetForm-F.Sync patterns ↦ leaf (λ names. fold after_variant names patterns) (λ all. Each (HeldVariant all) patterns) (enters_each after_variant HeldVariant variant_enters patterns)
      | NetForm-F.Serial parts ↦ enters_so (all_after (each after_network (exprs parts))) (λ all. Each (HeldNet all) (exprs parts)) (λ all. HeldLevel all (NetForm-F.Serial (exprs parts))) (nets_enter parts) (λ all held. (tt, held))
      | NetForm-F.Choice det branches ↦ enters_so (all_after (each after_network (exprs branches))) (λ all. Each (HeldNet all) (exprs branches)) (λ all. HeldLevel all (NetForm-F.Choice det (exprs branches))) (nets_enter branches) (λ all held. (tt, held))
      | NetForm-F.Star det body exit guard ↦ star_enters det body exit guard
      | NetForm-F.Split det spread body tag ↦ split_enters det spread body tag
      | NetForm-F.Placed body node ↦ enters_so (after_network body.0) (λ all. HeldNet all body.0) (λ all. HeldLevel all (NetForm-F.Placed body.0 node)) body.1
          (λ all held. (tt, each_cons (HeldNet all) body.0 [] held (each_nil (HeldNet all))))
    ])))
    (λ x y is. subst (λ z. NetEnters (roll-NetExpr z)) is (whole_net y.at y.form.0 y.form.1))

-- declarations
box_enters : (declaration : BoxDecl) → Enters (after_box declaration) (λ all. HeldBox all declaration)
box_enters declaration = enters_both (λ names. after_tuple names declaration.input) (λ names. fold after_tuple names declaration.outputs) (λ all. HeldTuple all declaration.input) (λ all. Each (HeldTuple all) declaration.outputs)
    (labels_enter declaration.input.labels) (enters_each after_tuple HeldTuple (λ tuple. labels_enter tuple.labels) declaration.outputs)

abbrev DeclEnters : Decl → Type 0
DeclEnters d = Enters (after_decl d) (λ all. HeldDecl all d)

abbrev NetDeclEnters : NetDecl → Type 0
NetDeclEnters net = Enters (after_net net) (λ all. HeldNetDecl all (out-NetDecl net) × Each (HeldDecl all) (out-NetDecl net).decls)

decl_enters : (x : Decl-F Decl NetDecl) (entry : Entry) → after_decl (roll-Decl x) ≡ entry → Enters entry (λ all. HeldDeclLevel all x) → DeclEnters (roll-Decl x)
decl_enters x entry is entered = enters_so (after_decl (roll-Decl x)) (λ all. HeldDeclLevel all x) (λ all. HeldDecl all (roll-Decl x))
    (subst (λ (entry : Entry). Enters entry (λ all. HeldDeclLevel all x)) (sym is) entered) (λ all held. level_decl all (roll-Decl x) (subst (HeldDeclLevel all) (sym (out-roll-Decl x)) held))

-- a declaration without others
alone : (entry : Entry) (P : Names → Type 0) → Enters entry P → Enters entry (λ all. P all × Each (HeldDecl all) [])
alone entry P entered = enters_so entry P (λ all. P all × Each (HeldDecl all) []) entered (λ all held. (held, each_nil (HeldDecl all)))

decls_enter : {A : Type 0} (decl : A → Decl) → ((x : A) → DeclEnters (decl x)) → (xs : List A) → Enters (all_after (each after_decl (each decl xs))) (λ all. Each (HeldDecl all) (each decl xs))
decls_enter decl one [] = enters_nothing (λ all. Each (HeldDecl all) []) (λ all. each_nil (HeldDecl all))
decls_enter decl one (x ∷ xs) = enters_so (λ names. all_after (each after_decl (each decl xs)) (after_decl (decl x) names)) (λ all. HeldDecl all (decl x) × Each (HeldDecl all) (each decl xs)) (λ all. Each (HeldDecl all) (decl x ∷ each decl xs))
    (enters_both (after_decl (decl x)) (all_after (each after_decl (each decl xs))) (λ all. HeldDecl all (decl x)) (λ all. Each (HeldDecl all) (each decl xs)) (one x) (decls_enter decl one xs)) (λ all both. each_cons (HeldDecl all) (decl x) (each decl xs) both.0 both.1)

abbrev EnteredDecl : Type 0
EnteredDecl = (d : Decl) × DeclEnters d

net_enters : (name : Ident) (sig : Option Sig) (decls : List EnteredDecl) (connect : NetExpr) → NetDeclEnters (roll-NetDecl (record { name = name; sig = sig; decls = each (λ (e : EnteredDecl). e.0) decls; connect = connect }))
net_enters name sig decls connect = subst₂ (λ (entry : Entry) (form : NetDecl-F Decl NetDecl). Enters entry (λ all. HeldNetDecl all form × Each (HeldDecl all) form.decls))
    (sym (fold-roll-NetDecl Entry Entry decl_step net_step (record { name = name; sig = sig; decls = each (λ (e : EnteredDecl). e.0) decls; connect = connect })))
    (sym (out-roll-NetDecl (record { name = name; sig = sig; decls = each (λ (e : EnteredDecl). e.0) decls; connect = connect })))
    (enters_so (λ names. after_network connect (all_after (each after_decl (each (λ (e : EnteredDecl). e.0) decls)) (after_signature sig names)))
    (λ all. HeldNetSig all sig × (Each (HeldDecl all) (each (λ (e : EnteredDecl). e.0) decls) × HeldNet all connect))
    (λ all. HeldNetDecl all (record { name = name; sig = sig; decls = each (λ (e : EnteredDecl). e.0) decls; connect = connect }) × Each (HeldDecl all) (each (λ (e : EnteredDecl). e.0) decls))
    (enters_both (after_signature sig) (λ names. after_network connect (all_after (each after_decl (each (λ (e : EnteredDecl). e.0) decls)) names)) (λ all. HeldNetSig all sig)
    (λ all. Each (HeldDecl all) (each (λ (e : EnteredDecl). e.0) decls) × HeldNet all connect) (net_sig_enters sig)
    (enters_both (all_after (each after_decl (each (λ (e : EnteredDecl). e.0) decls))) (after_network connect) (λ all. Each (HeldDecl all) (each (λ (e : EnteredDecl). e.0) decls)) (λ all. HeldNet all connect)
    (decls_enter (λ (e : EnteredDecl). e.0) (λ e. e.1) decls) (network_enters connect)))
    (λ all held. ((held.0, held.1.1), held.1.0)))

each_decl_enters : (d : Decl) → DeclEnters d
each_decl_enters = ind-Decl DeclEnters NetDeclEnters
    (λ x y is. subst (λ z. DeclEnters (roll-Decl z)) is
    (elim y as (λ z. DeclEnters (roll-Decl (map-Decl _ _ Decl NetDecl (λ e. e.0) (λ e. e.0) z))) [
      | Decl-F.BoxDecl b ↦ decl_enters (Decl-F.BoxDecl b) (after_box b) (fold-roll-Decl Entry Entry decl_step net_step (Decl-F.BoxDecl b)) (alone (after_box b) (λ all. HeldBox all b) (box_enters b))
      | Decl-F.NetDecl net ↦ decl_enters (Decl-F.NetDecl net.0) (after_net net.0) (fold-roll-Decl Entry Entry decl_step net_step (Decl-F.NetDecl net.0)) net.1
      | Decl-F.TypeDecl name parts ↦ decl_enters (Decl-F.TypeDecl name parts) (λ names. after_types names parts) (fold-roll-Decl Entry Entry decl_step net_step (Decl-F.TypeDecl name parts))
          (alone (λ names. after_types names parts) (λ all. HeldType all parts) (type_enters parts))
      | Decl-F.SigDecl name sig ↦ decl_enters (Decl-F.SigDecl name sig) (after_sig sig) (fold-roll-Decl Entry Entry decl_step net_step (Decl-F.SigDecl name sig)) (alone (after_sig sig) (λ all. HeldSig all sig) (sig_enters sig))
    ]))
    (λ x y is. subst (λ z. NetDeclEnters (roll-NetDecl z)) is (net_enters y.name y.sig y.decls y.connect))

-- the names of a program hold those of the labels of each declaration
pub program_held : (program : Program) → Each (HeldDecl (names_of program)) program.decls
program_held program =
    let entered = subst (λ (ds : List Decl). Enters (all_after (each after_decl ds)) (λ all. Each (HeldDecl all) ds)) (map-id program.decls) (decls_enter (λ d. d) each_decl_enters program.decls) in
    entered.holds [] (names_of program) (λ n held. held)
