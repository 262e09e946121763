-- The names of the labels of a program, in the order in which they stand.
use Rattle.std.specs.Prelude.{ℕ, List, [], ◌∷◌, ◌++◌, map as each, Option, Some, None}
use Rattle.std.specs.List.{flat_map}
use Rattle.sn_ast.specs.declared.declaration.BoxDecl.{BoxDecl}
use Rattle.sn_ast.specs.declared.declaration.Decl.{Decl, fold-Decl}
use Rattle.sn_ast.specs.declared.declaration.Decl.TheOpen.{Decl-F}
use Rattle.sn_ast.specs.declared.declaration.NetDecl.{NetDecl, NetDecl-F, fold-NetDecl}
use Rattle.sn_ast.specs.declared.declaration.Program.{Program}
use Rattle.sn_ast.specs.declared.label.Ident.{Ident}
use Rattle.sn_ast.specs.declared.label.LabelAt.{LabelAt}
use Rattle.sn_ast.specs.declared.label.Sig.{Sig}
use Rattle.sn_ast.specs.declared.label.Sig.TheVariants.{Arrow, Named as NamedSig}
use Rattle.sn_ast.specs.declared.label.Tuple.{Tuple}
use Rattle.sn_ast.specs.declared.label.TypePart.{TypePart}
use Rattle.sn_ast.specs.declared.label.TypePart.TheVariants.{Set, Named as NamedType}
use Rattle.sn_ast.specs.declared.label.Variant.{Variant}
use Rattle.sn_ast.specs.declared.network.ArmAt.{ArmAt}
use Rattle.sn_ast.specs.declared.network.ItemAt.{ItemAt}
use Rattle.sn_ast.specs.declared.network.ItemSource.{ItemSource}
use Rattle.sn_ast.specs.declared.network.ItemSource.TheVariants.{Same, Field, Expr}
use Rattle.sn_ast.specs.declared.network.NetExpr.{NetExpr, fold-NetExpr}
use Rattle.sn_ast.specs.declared.network.NetForm.TheOpen.{NetForm-F}
use Rattle.sn_ast.specs.declared.network.TemplateAt.{TemplateAt}
use Rattle.sn_ast.specs.declared.tag_expr.TExpr.{TExpr}
use Rattle.sn_scope_rules.specs.Filters.{tags_in}

abbrev pub Named : Type 0
Named = List Ident

abbrev pub in_labels : List LabelAt → Named
in_labels labels = each (λ label. label.name) labels

abbrev pub in_variant : Variant → Named
in_variant variant = in_labels variant.labels

-- a name of a type is no label's
abbrev pub in_part : TypePart → Named
in_part (Set variant) = in_variant variant
in_part (NamedType name) = []

abbrev pub in_type : List TypePart → Named
in_type parts = flat_map in_part parts

abbrev pub in_sig : Sig → Named
in_sig (Arrow input output) = in_type input ++ in_type output
in_sig (NamedSig name) = []

abbrev pub in_source : ItemSource → Named
in_source Same = []
in_source (Field name) = name ∷ []
in_source (Expr e) = tags_in e

abbrev pub in_item : ItemAt → Named
in_item item = item.target.name ∷ in_source item.source

abbrev pub in_template : TemplateAt → Named
in_template template = flat_map in_item template.items

-- the tags of the guard, and then what the arm's templates name
abbrev pub in_arm : ArmAt → Named
in_arm arm = tags_in arm.guard ++ flat_map in_template arm.templates

abbrev pub in_guard : Option TExpr → Named
in_guard None = []
in_guard (Some e) = tags_in e

abbrev pub together : List Named → Named
together parts = flat_map (λ part. part) parts

-- one level, with the names of each part in its place
abbrev pub network_step : NetForm-F Named Named → Named
network_step (NetForm-F.Name name) = []
network_step NetForm-F.Identity = []
network_step (NetForm-F.Filter pattern arms templates) = in_variant pattern ++ (flat_map in_arm arms ++ flat_map in_template templates)
network_step (NetForm-F.Sync patterns) = flat_map in_variant patterns
network_step (NetForm-F.Serial parts) = together parts
network_step (NetForm-F.Choice det branches) = together branches
network_step (NetForm-F.Star det body exit guard) = body ++ (in_variant exit ++ in_guard guard)
network_step (NetForm-F.Split det spread body tag) = body ++ tag ∷ []
network_step (NetForm-F.Placed body node) = body

abbrev pub in_network : NetExpr → Named
in_network = fold-NetExpr Named Named network_step (λ n. n.form)

abbrev pub in_signature : Option Sig → Named
in_signature None = []
in_signature (Some sig) = in_sig sig

abbrev pub in_tuple : Tuple → Named
in_tuple tuple = in_labels tuple.labels

-- the functions and the body of a box name no labels but those that it takes and gives
abbrev pub in_box : BoxDecl → Named
in_box declaration = in_tuple declaration.input ++ flat_map in_tuple declaration.outputs

abbrev pub net_step : NetDecl-F Named Named → Named
net_step net = in_signature net.sig ++ (together net.decls ++ in_network net.connect)

abbrev pub decl_step : Decl-F Named Named → Named
decl_step (Decl-F.BoxDecl declaration) = in_box declaration
decl_step (Decl-F.NetDecl net) = net
decl_step (Decl-F.TypeDecl name parts) = in_type parts
decl_step (Decl-F.SigDecl name sig) = in_sig sig

abbrev pub in_decl : Decl → Named
in_decl = fold-Decl Named Named decl_step net_step

abbrev pub in_net : NetDecl → Named
in_net = fold-NetDecl Named Named decl_step net_step

-- the names of all labels of a program, from the first place to the last
abbrev pub in_program : Program → List (List ℕ)
in_program program = each (λ name. name.text) (flat_map in_decl program.decls)
