-- The names of the labels of a source, entered one after another in the order in which they stand.
use Rattle.std.specs.Prelude.{ℕ, List, [], map as each, Option, Some, None}
use Rattle.std.specs.List.{fold}
use Rattle.sn_ast.specs.declared.declaration.BoxDecl.{BoxDecl}
use Rattle.sn_ast.specs.declared.declaration.Decl.{Decl, fold-Decl}
use Rattle.sn_ast.specs.declared.declaration.Decl.TheOpen.{Decl-F}
use Rattle.sn_ast.specs.declared.declaration.NetDecl.{NetDecl, NetDecl-F, fold-NetDecl}
use Rattle.sn_ast.specs.declared.declaration.Program.{Program}
use Rattle.sn_ast.specs.declared.label.LabelAt.{LabelAt}
use Rattle.sn_ast.specs.declared.label.Sig.{Sig}
use Rattle.sn_ast.specs.declared.label.Sig.TheVariants.{Arrow, Named as NamedSig}
use Rattle.sn_ast.specs.declared.label.Tuple.{Tuple}
use Rattle.sn_ast.specs.declared.label.TypePart.{TypePart}
use Rattle.sn_ast.specs.declared.label.TypePart.TheVariants.{Set, Named}
use Rattle.sn_ast.specs.declared.label.Variant.{Variant}
use Rattle.sn_ast.specs.declared.network.ArmAt.{ArmAt}
use Rattle.sn_ast.specs.declared.network.ItemAt.{ItemAt}
use Rattle.sn_ast.specs.declared.network.ItemSource.{ItemSource}
use Rattle.sn_ast.specs.declared.network.ItemSource.TheVariants.{Same, Field, Expr}
use Rattle.sn_ast.specs.declared.network.NetExpr.{NetExpr, fold-NetExpr}
use Rattle.sn_ast.specs.declared.network.NetForm.TheOpen.{NetForm-F}
use Rattle.sn_ast.specs.declared.network.TemplateAt.{TemplateAt}
use Rattle.sn_ast.specs.declared.tag_expr.TExpr.{TExpr, fold-TExpr}
use Rattle.sn_ast.specs.declared.tag_expr.TForm.TheOpen.{TForm-F}
use Rattle.sn_names.specs.Names.{entered}

-- the names that are entered before and after a part of a source
abbrev pub Names : Type 0
Names = List (List ℕ)

abbrev pub Entry : Type 0
Entry = Names → Names

-- several parts, from left to right
abbrev pub all_after : List Entry → Entry
all_after entries names = fold (λ so_far entry. entry so_far) names entries

abbrev pub after_label : Names → LabelAt → Names
after_label names label = entered names label.name.text

abbrev pub after_labels : Names → List LabelAt → Names
after_labels names labels = fold after_label names labels

abbrev pub after_variant : Names → Variant → Names
after_variant names variant = after_labels names variant.labels

abbrev pub after_part : Names → TypePart → Names
after_part names (Set variant) = after_variant names variant
after_part names (Named name) = names

abbrev pub after_types : Names → List TypePart → Names
after_types names parts = fold after_part names parts

abbrev pub after_sig : Sig → Entry
after_sig (Arrow input output) names = after_types (after_types names input) output
after_sig (NamedSig name) names = names

-- one level, with the entry of each part in its place
abbrev pub tags_step : TForm-F Entry Entry → Entry
tags_step (TForm-F.Number n) names = names
tags_step (TForm-F.Tag name) names = entered names name.text
tags_step (TForm-F.Neg e) names = e names
tags_step (TForm-F.Not e) names = e names
tags_step (TForm-F.Op o e f) names = f (e names)
tags_step (TForm-F.And e f) names = f (e names)
tags_step (TForm-F.Or e f) names = f (e names)
tags_step (TForm-F.Cond c e f) names = f (e (c names))

-- the tags of an expression
abbrev pub after_tags : TExpr → Entry
after_tags = fold-TExpr Entry Entry tags_step (λ e. e.form)

abbrev pub after_source : ItemSource → Entry
after_source Same names = names
after_source (Field name) names = entered names name.text
after_source (Expr e) names = after_tags e names

-- an item's label, and then what it comes from
abbrev pub after_item : Names → ItemAt → Names
after_item names item = after_source item.source (after_label names item.target)

abbrev pub after_template : Names → TemplateAt → Names
after_template names template = fold after_item names template.items

-- the tags of a guard, and then what its templates name
abbrev pub after_arm : Names → ArmAt → Names
after_arm names arm = fold after_template (after_tags arm.guard names) arm.templates

abbrev pub after_guard : Option TExpr → Entry
after_guard None names = names
after_guard (Some e) names = after_tags e names

-- one level, with the entry of each part in its place
abbrev pub network_step : NetForm-F Entry Entry → Entry
network_step (NetForm-F.Name name) names = names
network_step NetForm-F.Identity names = names
network_step (NetForm-F.Filter pattern arms templates) names = fold after_template (fold after_arm (after_variant names pattern) arms) templates
network_step (NetForm-F.Sync patterns) names = fold after_variant names patterns
network_step (NetForm-F.Serial parts) names = all_after parts names
network_step (NetForm-F.Choice det branches) names = all_after branches names
network_step (NetForm-F.Star det body exit guard) names = after_guard guard (after_variant (body names) exit)
network_step (NetForm-F.Split det spread body tag) names = entered (body names) tag.text
network_step (NetForm-F.Placed body node) names = body names

-- the labels of a network
abbrev pub after_network : NetExpr → Entry
after_network = fold-NetExpr Entry Entry network_step (λ n. n.form)

abbrev pub after_signature : Option Sig → Entry
after_signature None names = names
after_signature (Some sig) names = after_sig sig names

abbrev pub after_tuple : Names → Tuple → Names
after_tuple names tuple = after_labels names tuple.labels

-- the labels that a box takes, and then those of each output; its functions and its body name no others
abbrev pub after_box : BoxDecl → Entry
after_box declaration names = fold after_tuple (after_tuple names declaration.input) declaration.outputs

-- a net's signature, its inner declarations, and then its network
abbrev pub net_step : NetDecl-F Entry Entry → Entry
net_step net names = after_network net.connect (all_after net.decls (after_signature net.sig names))

abbrev pub decl_step : Decl-F Entry Entry → Entry
decl_step (Decl-F.BoxDecl declaration) names = after_box declaration names
decl_step (Decl-F.NetDecl net) names = net names
decl_step (Decl-F.TypeDecl name parts) names = after_types names parts
decl_step (Decl-F.SigDecl name sig) names = after_sig sig names

-- the labels of a declaration
abbrev pub after_decl : Decl → Entry
after_decl = fold-Decl Entry Entry decl_step net_step

abbrev pub after_net : NetDecl → Entry
after_net = fold-NetDecl Entry Entry decl_step net_step

-- the different names of the labels of a program, in the order of their first places
abbrev pub names_of : Program → Names
names_of program = all_after (each after_decl program.decls) []
