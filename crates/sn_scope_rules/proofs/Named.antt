-- The names of a program are those of its labels, entered from the first place to the last.
use Rattle.std.proofs.Common.{◌≡◌, List, [], ◌∷◌, ◌++◌, map as each, Option, Some, None, fold, refl, sym, ap, ◌∙◌, subst, subst₂, map-id}
use Rattle.std.specs.List.{flat_map}
use Rattle.std.proofs.lemmas.List.{map-append}
use Rattle.sn_ast.specs.declared.declaration.BoxDecl.{BoxDecl}
use Rattle.sn_ast.specs.declared.declaration.Decl.{Decl}
use Rattle.sn_ast.specs.declared.declaration.Decl.TheFolds.{fold-roll-Decl, fold-roll-NetDecl, ind-Decl, map-Decl}
use Rattle.sn_ast.specs.declared.declaration.Decl.TheOpen.{Decl-F}
use Rattle.sn_ast.specs.declared.declaration.Decl.TheViews.{roll-Decl, roll-NetDecl}
use Rattle.sn_ast.specs.declared.declaration.NetDecl.{NetDecl}
use Rattle.sn_ast.specs.declared.declaration.Program.{Program}
use Rattle.sn_ast.specs.declared.label.Ident.{Ident}
use Rattle.sn_ast.specs.declared.label.LabelAt.{LabelAt}
use Rattle.sn_ast.specs.declared.label.Sig.{Sig}
use Rattle.sn_ast.specs.declared.label.Sig.TheVariants.{Arrow, Named as NamedSig}
use Rattle.sn_ast.specs.declared.label.TypePart.{TypePart}
use Rattle.sn_ast.specs.declared.label.TypePart.TheVariants.{Set, Named as NamedType}
use Rattle.sn_ast.specs.declared.network.ArmAt.{ArmAt}
use Rattle.sn_ast.specs.declared.network.ItemAt.{ItemAt}
use Rattle.sn_ast.specs.declared.network.ItemSource.{ItemSource}
use Rattle.sn_ast.specs.declared.network.ItemSource.TheVariants.{Same, Field, Expr}
use Rattle.sn_ast.specs.declared.network.NetExpr.{NetExpr, fold-roll-NetExpr}
use Rattle.sn_ast.specs.declared.network.NetForm.{NetForm, fold-NetForm}
use Rattle.sn_ast.specs.declared.network.NetForm.TheFolds.{fold-roll-NetForm, ind-NetExpr, map-NetForm}
use Rattle.sn_ast.specs.declared.network.NetForm.TheOpen.{NetForm-F}
use Rattle.sn_ast.specs.declared.network.NetForm.TheViews.{roll-NetForm, roll-NetExpr}
use Rattle.sn_ast.specs.declared.network.TemplateAt.{TemplateAt}
use Rattle.sn_ast.specs.declared.tag_expr.TExpr.{TExpr, fold-roll-TExpr}
use Rattle.sn_ast.specs.declared.tag_expr.TForm.{TForm, fold-TForm}
use Rattle.sn_ast.specs.declared.tag_expr.TForm.TheFolds.{fold-roll-TForm, ind-TExpr, map-TForm}
use Rattle.sn_ast.specs.declared.tag_expr.TForm.TheOpen.{TForm-F}
use Rattle.sn_ast.specs.declared.tag_expr.TForm.TheViews.{roll-TForm, roll-TExpr}
use Rattle.sn_names.specs.Names.{all_entered, entered}
use Rattle.sn_names.proofs.NamesLaws.{all_entered-append}
use Rattle.sn_scope.specs.Numbering.{Entry, Names, after_arm, after_box, after_decl, after_guard, after_item, after_label, after_labels, after_net, after_network, after_part, after_sig, after_signature, after_source, after_tags, after_template, after_tuple, after_types, after_variant, all_after, decl_step, names_of, net_step, network_step, tags_step as entry_step}
use Rattle.sn_scope_rules.specs.Filters.{tags_in, tags_step}
use Rattle.sn_scope_rules.specs.Named.{in_arm, in_box, in_decl, in_guard, in_item, in_labels, in_net, in_network, in_part, in_program, in_sig, in_signature, in_source, in_template, in_tuple, in_type, in_variant, together, Named, decl_step as named_decl, net_step as named_net, network_step as named_network}
use Rattle.sn_scope_rules.proofs.Standing.{together_map}

abbrev texts : Named → Names
texts names = each (λ (name : Ident). name.text) names

-- what an entry enters
abbrev Lists : Entry → Named → Type 0
Lists entry named = (names : Names) → entry names ≡ all_entered names (texts named)

lists_both : (one other : Entry) (xs ys : Named) → Lists one xs → Lists other ys → Lists (λ names. other (one names)) (xs ++ ys)
lists_both one other xs ys first second names =
    second (one names) ∙ ap (λ ns. all_entered ns (texts ys)) (first names) ∙ sym (all_entered-append names (texts xs) (texts ys)) ∙ ap (all_entered names) (sym (map-append (λ (name : Ident). name.text) xs ys))

lists_each : {A : Type 0} (enter : Names → A → Names) (named : A → Named) → ((x : A) → Lists (λ names. enter names x) (named x)) → (xs : List A)
    → Lists (λ names. fold enter names xs) (flat_map named xs)
lists_each enter named one [] = λ names. refl
lists_each enter named one (x ∷ xs) = lists_both (λ names. enter names x) (λ names. fold enter names xs) (named x) (flat_map named xs) (one x) (lists_each enter named one xs)

labels_list : (labels : List LabelAt) → Lists (λ names. after_labels names labels) (in_labels labels)
labels_list [] = λ names. refl
labels_list (label ∷ labels) = λ names. labels_list labels (after_label names label)

part_lists : (part : TypePart) → Lists (λ names. after_part names part) (in_part part)
part_lists (Set variant) = labels_list variant.labels
part_lists (NamedType name) = λ names. refl

type_lists : (parts : List TypePart) → Lists (λ names. after_types names parts) (in_type parts)
type_lists parts = lists_each after_part in_part part_lists parts

sig_lists : (sig : Sig) → Lists (after_sig sig) (in_sig sig)
sig_lists (Arrow input output) = lists_both (λ names. after_types names input) (λ names. after_types names output) (in_type input) (in_type output) (type_lists input)
    (type_lists output)
sig_lists (NamedSig name) = λ names. refl

signature_lists : (sig : Option Sig) → Lists (after_signature sig) (in_signature sig)
signature_lists None = λ names. refl
signature_lists (Some sig) = sig_lists sig

-- the tags of an expression
form_entry : TForm → Entry
form_entry = fold-TForm Entry Entry entry_step (λ e. e.form)

form_tags : TForm → Named
form_tags = fold-TForm Named Named tags_step (λ e. e.form)

tags_level : (x : TForm-F TForm TExpr) → Lists (entry_step (map-TForm TForm TExpr Entry Entry form_entry after_tags x)) (tags_step
    (map-TForm TForm TExpr Named Named form_tags tags_in x))
    → Lists (form_entry (roll-TForm x)) (form_tags (roll-TForm x))
unfolding form_entry form_tags
tags_level x known = subst₂ Lists (sym (fold-roll-TForm Entry Entry entry_step (λ e. e.form) x)) (sym (fold-roll-TForm Named Named tags_step (λ e. e.form) x)) known

tags_list : (e : TExpr) → Lists (after_tags e) (tags_in e)
unfolding form_entry form_tags
tags_list = ind-TExpr (λ form. Lists (form_entry form) (form_tags form)) (λ e. Lists (after_tags e) (tags_in e))
    (λ x y is. subst (λ z. Lists (form_entry (roll-TForm z)) (form_tags (roll-TForm z))) is (tags_level (map-TForm _ _ TForm TExpr (λ e. e.0) (λ e. e.0) y) (elim y as (λ z. Lists
    (entry_step (map-TForm TForm TExpr Entry Entry form_entry after_tags (map-TForm _ _ TForm TExpr (λ e. e.0) (λ e. e.0) z)))
    (tags_step (map-TForm TForm TExpr Named Named form_tags tags_in (map-TForm _ _ TForm TExpr (λ e. e.0) (λ e. e.0) z)))) [
      | TForm-F.Number n ↦ λ names. refl
      | TForm-F.Tag name ↦ λ names. refl
      | TForm-F.Neg e ↦ e.1
      | TForm-F.Not e ↦ e.1
      | TForm-F.Op o e f ↦ lists_both (after_tags e.0) (after_tags f.0) (tags_in e.0) (tags_in f.0) e.1 f.1
      | TForm-F.And e f ↦ lists_both (after_tags e.0) (after_tags f.0) (tags_in e.0) (tags_in f.0) e.1 f.1
      | TForm-F.Or e f ↦ lists_both (after_tags e.0) (after_tags f.0) (tags_in e.0) (tags_in f.0) e.1 f.1
      | TForm-F.Cond c e f ↦ lists_both (after_tags c.0) (λ names. after_tags f.0 (after_tags e.0 names)) (tags_in c.0) (tags_in e.0 ++ tags_in f.0) c.1 (lists_both
          (after_tags e.0) (after_tags f.0) (tags_in e.0) (tags_in f.0) e.1 f.1)
    ])))
    (λ x y is. subst (λ z. Lists (after_tags (roll-TExpr z)) (tags_in (roll-TExpr z))) is
    (subst₂ Lists
    (sym (fold-roll-TExpr Entry Entry entry_step (λ e. e.form) (record { at = y.at; form = y.form.0 })))
    (sym (fold-roll-TExpr Named Named tags_step (λ e. e.form) (record { at = y.at; form = y.form.0 }))) y.form.1))

source_lists : (source : ItemSource) → Lists (after_source source) (in_source source)
source_lists Same = λ names. refl
source_lists (Field name) = λ names. refl
source_lists (Expr e) = tags_list e

item_lists : (item : ItemAt) → Lists (λ names. after_item names item) (in_item item)
item_lists item = λ names. source_lists item.source (after_label names item.target)

template_lists : (template : TemplateAt) → Lists (λ names. after_template names template) (in_template template)
template_lists template = lists_each after_item in_item item_lists template.items

templates_list : (templates : List TemplateAt) → Lists (λ names. fold after_template names templates) (flat_map in_template templates)
templates_list templates = lists_each after_template in_template template_lists templates

arm_lists : (arm : ArmAt) → Lists (λ names. after_arm names arm) (in_arm arm)
arm_lists arm = lists_both (after_tags arm.guard) (λ names. fold after_template names arm.templates) (tags_in arm.guard) (flat_map in_template arm.templates)
    (tags_list arm.guard) (templates_list arm.templates)

guard_lists : (guard : Option TExpr) → Lists (after_guard guard) (in_guard guard)
guard_lists None = λ names. refl
guard_lists (Some e) = tags_list e

-- networks
net_entry : NetForm → Entry
net_entry = fold-NetForm Entry Entry network_step (λ n. n.form)

net_named : NetForm → Named
net_named = fold-NetForm Named Named named_network (λ n. n.form)

abbrev NetLists : NetExpr → Type 0
NetLists net = Lists (after_network net) (in_network net)

net_level : (x : NetForm-F NetForm NetExpr) → Lists (network_step (map-NetForm NetForm NetExpr Entry Entry net_entry after_network x)) (named_network
    (map-NetForm NetForm NetExpr Named Named net_named in_network x))
    → Lists (net_entry (roll-NetForm x)) (net_named (roll-NetForm x))
unfolding net_entry net_named
net_level x known = subst₂ Lists (sym (fold-roll-NetForm Entry Entry network_step (λ n. n.form) x)) (sym (fold-roll-NetForm Named Named named_network (λ n. n.form) x)) known

abbrev Listed : Type 0
Listed = (n : NetExpr) × NetLists n

abbrev exprs : List Listed → List NetExpr
exprs parts = each (λ (e : Listed). e.0) parts

nets_list : (parts : List Listed) → Lists (all_after (each after_network (exprs parts))) (together (each in_network (exprs parts)))
nets_list [] = λ names. refl
nets_list (part ∷ parts) = lists_both (after_network part.0) (all_after (each after_network (exprs parts))) (in_network part.0) (together (each in_network
    (exprs parts))) part.1 (nets_list parts)

network_lists : (net : NetExpr) → NetLists net
unfolding net_entry net_named
network_lists = ind-NetExpr (λ form. Lists (net_entry form) (net_named form)) NetLists
    (λ x y is. subst (λ z. Lists (net_entry (roll-NetForm z)) (net_named (roll-NetForm z))) is (net_level (map-NetForm _ _ NetForm NetExpr (λ e. e.0) (λ e. e.0) y) (elim y as
    (λ z. Lists
    (network_step (map-NetForm NetForm NetExpr Entry Entry net_entry after_network (map-NetForm _ _ NetForm NetExpr (λ e. e.0) (λ e. e.0) z)))
    (named_network (map-NetForm NetForm NetExpr Named Named net_named in_network (map-NetForm _ _ NetForm NetExpr (λ e. e.0) (λ e. e.0) z)))) [
      | NetForm-F.Name name ↦ λ names. refl
      | NetForm-F.Identity ↦ λ names. refl
      | NetForm-F.Filter pattern arms templates ↦ lists_both (λ names. after_variant names pattern) (λ names. fold after_template (fold after_arm names arms) templates)
          (in_variant pattern) (flat_map in_arm arms ++ flat_map in_template templates) (labels_list pattern.labels)
          (lists_both (λ names. fold after_arm names arms) (λ names. fold after_template names templates) (flat_map in_arm arms) (flat_map in_template templates)
          (lists_each after_arm in_arm arm_lists arms) (templates_list templates))
      | NetForm-F.Sync patterns ↦ lists_each after_variant in_variant (λ pattern. labels_list pattern.labels) patterns
      | NetForm-F.Serial parts ↦ nets_list parts
      | NetForm-F.Choice det branches ↦ nets_list branches
      | NetForm-F.Star det body exit guard ↦ lists_both (after_network body.0) (λ names. after_guard guard (after_variant names exit)) (in_network body.0)
          (in_variant exit ++ in_guard guard) body.1
          (lists_both (λ names. after_variant names exit) (after_guard guard) (in_variant exit) (in_guard guard) (labels_list exit.labels) (guard_lists guard))
      | NetForm-F.Split det spread body tag ↦ lists_both (after_network body.0) (λ names. entered names tag.text) (in_network body.0) (tag ∷ []) body.1 (λ names. refl)
      | NetForm-F.Placed body node ↦ body.1
    ])))
    (λ x y is. subst (λ z. NetLists (roll-NetExpr z)) is
    (subst₂ Lists
    (sym (fold-roll-NetExpr Entry Entry network_step (λ n. n.form) (record { at = y.at; form = y.form.0 })))
    (sym (fold-roll-NetExpr Named Named named_network (λ n. n.form) (record { at = y.at; form = y.form.0 }))) y.form.1))

-- declarations
box_lists : (declaration : BoxDecl) → Lists (after_box declaration) (in_box declaration)
box_lists declaration = lists_both (λ names. after_tuple names declaration.input) (λ names. fold after_tuple names declaration.outputs) (in_tuple declaration.input)
    (flat_map in_tuple declaration.outputs)
    (labels_list declaration.input.labels) (lists_each after_tuple in_tuple (λ tuple. labels_list tuple.labels) declaration.outputs)

abbrev DeclLists : Decl → Type 0
DeclLists d = Lists (after_decl d) (in_decl d)

abbrev NetDeclLists : NetDecl → Type 0
NetDeclLists net = Lists (after_net net) (in_net net)

decls_list : {A : Type 0} (decl : A → Decl) → ((x : A) → DeclLists (decl x)) → (xs : List A)
    → Lists (all_after (each after_decl (each decl xs))) (together (each in_decl (each decl xs)))
decls_list decl one [] = λ names. refl
decls_list decl one (x ∷ xs) = lists_both (after_decl (decl x)) (all_after (each after_decl (each decl xs))) (in_decl (decl x)) (together (each in_decl (each decl xs))) (one x)
    (decls_list decl one xs)

abbrev ListedDecl : Type 0
ListedDecl = (d : Decl) × DeclLists d

net_lists : (name : Ident) (sig : Option Sig) (decls : List ListedDecl) (connect : NetExpr)
    → NetDeclLists (roll-NetDecl (record { name = name; sig = sig; decls = each (λ (e : ListedDecl). e.0) decls; connect = connect }))
net_lists name sig decls connect = subst₂ Lists
    (sym (fold-roll-NetDecl Entry Entry decl_step net_step (record { name = name; sig = sig; decls = each (λ (e : ListedDecl). e.0) decls; connect = connect })))
    (sym (fold-roll-NetDecl Named Named named_decl named_net (record { name = name; sig = sig; decls = each (λ (e : ListedDecl). e.0) decls; connect = connect })))
    (lists_both (after_signature sig) (λ names. after_network connect (all_after (each after_decl (each (λ (e : ListedDecl). e.0) decls)) names)) (in_signature sig)
    (together (each in_decl (each (λ (e : ListedDecl). e.0) decls)) ++ in_network connect) (signature_lists sig)
    (lists_both (all_after (each after_decl (each (λ (e : ListedDecl). e.0) decls))) (after_network connect) (together (each in_decl (each (λ (e : ListedDecl). e.0) decls)))
    (in_network connect)
    (decls_list (λ (e : ListedDecl). e.0) (λ e. e.1) decls) (network_lists connect)))

decl_is : (x : Decl-F Decl NetDecl) → Lists (decl_step (map-Decl Decl NetDecl Entry Entry after_decl after_net x)) (named_decl
    (map-Decl Decl NetDecl Named Named in_decl in_net x)) → DeclLists (roll-Decl x)
decl_is x known = subst₂ Lists (sym (fold-roll-Decl Entry Entry decl_step net_step x)) (sym (fold-roll-Decl Named Named named_decl named_net x)) known

decl_lists : (d : Decl) → DeclLists d
decl_lists = ind-Decl DeclLists NetDeclLists
    (λ x y is. subst (λ z. DeclLists (roll-Decl z)) is
    (elim y as (λ z. DeclLists (roll-Decl (map-Decl _ _ Decl NetDecl (λ e. e.0) (λ e. e.0) z))) [
      | Decl-F.BoxDecl b ↦ decl_is (Decl-F.BoxDecl b) (box_lists b)
      | Decl-F.NetDecl net ↦ decl_is (Decl-F.NetDecl net.0) net.1
      | Decl-F.TypeDecl name parts ↦ decl_is (Decl-F.TypeDecl name parts) (type_lists parts)
      | Decl-F.SigDecl name sig ↦ decl_is (Decl-F.SigDecl name sig) (sig_lists sig)
    ]))
    (λ x y is. subst (λ z. NetDeclLists (roll-NetDecl z)) is (net_lists y.name y.sig y.decls y.connect))

-- the names of a program
pub program_names : (program : Program) → names_of program ≡ all_entered [] (in_program program)
program_names program =
    subst (λ (ds : List Decl). Lists (all_after (each after_decl ds)) (together (each in_decl ds))) (map-id program.decls) (decls_list (λ d. d) decl_lists program.decls) []
    ∙ ap (λ named. all_entered [] (texts named)) (together_map in_decl program.decls)
