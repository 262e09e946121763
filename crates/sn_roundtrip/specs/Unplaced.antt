-- A program without its places: each place is 0. Two programs are the same apart from places where these are equal.
use Rattle.std.specs.Prelude.{map}
use Rattle.std.specs.Option.{option_map}
use Rattle.sn_ast.specs.declared.box_expr.BExpr.{BExpr, BExpr-F, fold-BExpr}
use Rattle.sn_ast.specs.declared.box_expr.BForm.{BForm}
use Rattle.sn_ast.specs.declared.box_expr.BForm.TheOpen.{BForm-F}
use Rattle.sn_ast.specs.declared.box_expr.BForm.TheVariants as box_form
use Rattle.sn_ast.specs.declared.declaration.BoxDecl.{BoxDecl}
use Rattle.sn_ast.specs.declared.declaration.Decl.{Decl, fold-Decl}
use Rattle.sn_ast.specs.declared.declaration.Decl.TheOpen.{Decl-F}
use Rattle.sn_ast.specs.declared.declaration.Decl.TheVariants as decl_form
use Rattle.sn_ast.specs.declared.declaration.FunDecl.{FunDecl}
use Rattle.sn_ast.specs.declared.declaration.NetDecl.{NetDecl, NetDecl-F}
use Rattle.sn_ast.specs.declared.declaration.Program.{Program}
use Rattle.sn_ast.specs.declared.label.Ident.{Ident}
use Rattle.sn_ast.specs.declared.label.LabelAt.{LabelAt}
use Rattle.sn_ast.specs.declared.label.Sig.{Sig}
use Rattle.sn_ast.specs.declared.label.Sig.TheVariants as sig_form
use Rattle.sn_ast.specs.declared.label.Tuple.{Tuple}
use Rattle.sn_ast.specs.declared.label.TypePart.{TypePart}
use Rattle.sn_ast.specs.declared.label.TypePart.TheVariants.{Set, Named}
use Rattle.sn_ast.specs.declared.label.Variant.{Variant}
use Rattle.sn_ast.specs.declared.network.ArmAt.{ArmAt}
use Rattle.sn_ast.specs.declared.network.ItemAt.{ItemAt}
use Rattle.sn_ast.specs.declared.network.ItemSource.{ItemSource}
use Rattle.sn_ast.specs.declared.network.ItemSource.TheVariants.{Same, Field, Expr}
use Rattle.sn_ast.specs.declared.network.NetExpr.{NetExpr, NetExpr-F, fold-NetExpr}
use Rattle.sn_ast.specs.declared.network.NetForm.{NetForm}
use Rattle.sn_ast.specs.declared.network.NetForm.TheOpen.{NetForm-F}
use Rattle.sn_ast.specs.declared.network.NetForm.TheVariants as net_form
use Rattle.sn_ast.specs.declared.network.TemplateAt.{TemplateAt}
use Rattle.sn_ast.specs.declared.tag_expr.TExpr.{TExpr, TExpr-F, fold-TExpr}
use Rattle.sn_ast.specs.declared.tag_expr.TForm.{TForm}
use Rattle.sn_ast.specs.declared.tag_expr.TForm.TheOpen.{TForm-F}
use Rattle.sn_ast.specs.declared.tag_expr.TForm.TheVariants as tag_form

abbrev pub unplaced_ident : Ident → Ident
unplaced_ident name = record { text = name.text; at = 0 }

abbrev pub unplaced_label : LabelAt → LabelAt
unplaced_label l = record { tag = l.tag; name = unplaced_ident l.name }

abbrev pub unplaced_variant : Variant → Variant
unplaced_variant v = record { labels = map unplaced_label v.labels; at = 0 }

abbrev pub unplaced_tuple : Tuple → Tuple
unplaced_tuple t = record { labels = map unplaced_label t.labels; at = 0 }

abbrev pub unplaced_part : TypePart → TypePart
unplaced_part (Set v) = Set (unplaced_variant v)
unplaced_part (Named name) = Named (unplaced_ident name)

abbrev pub unplaced_sig : Sig → Sig
unplaced_sig (sig_form.Arrow input output) = sig_form.Arrow (map unplaced_part input) (map unplaced_part output)
unplaced_sig (sig_form.Named name) = sig_form.Named (unplaced_ident name)

-- one level of an expression over tags
abbrev pub unplaced_tag_form : TForm-F TForm TExpr → TForm
unplaced_tag_form (TForm-F.Number n) = tag_form.Number n
unplaced_tag_form (TForm-F.Tag name) = tag_form.Tag (unplaced_ident name)
unplaced_tag_form (TForm-F.Neg e) = tag_form.Neg e
unplaced_tag_form (TForm-F.Not e) = tag_form.Not e
unplaced_tag_form (TForm-F.Op op e f) = tag_form.Op op e f
unplaced_tag_form (TForm-F.And e f) = tag_form.And e f
unplaced_tag_form (TForm-F.Or e f) = tag_form.Or e f
unplaced_tag_form (TForm-F.Cond c e f) = tag_form.Cond c e f

abbrev pub at_no_tag_place : TExpr-F TForm TExpr → TExpr
at_no_tag_place e = record { at = 0; form = e.form }

abbrev pub unplaced_tag : TExpr → TExpr
unplaced_tag = fold-TExpr TForm TExpr unplaced_tag_form at_no_tag_place

-- one level of an expression in a box
abbrev pub unplaced_box_form : BForm-F BForm BExpr → BForm
unplaced_box_form (BForm-F.Number n) = box_form.Number n
unplaced_box_form (BForm-F.TextLit text) = box_form.TextLit text
unplaced_box_form (BForm-F.Tag name) = box_form.Tag (unplaced_ident name)
unplaced_box_form (BForm-F.Name name) = box_form.Name (unplaced_ident name)
unplaced_box_form (BForm-F.Neg e) = box_form.Neg e
unplaced_box_form (BForm-F.Not e) = box_form.Not e
unplaced_box_form (BForm-F.Op op e f) = box_form.Op op e f
unplaced_box_form (BForm-F.And e f) = box_form.And e f
unplaced_box_form (BForm-F.Or e f) = box_form.Or e f
unplaced_box_form (BForm-F.If c e f) = box_form.If c e f
unplaced_box_form (BForm-F.Let name e f) = box_form.Let (unplaced_ident name) e f
unplaced_box_form (BForm-F.Seq es) = box_form.Seq es
unplaced_box_form (BForm-F.ListLit es) = box_form.ListLit es
unplaced_box_form (BForm-F.Call name es) = box_form.Call (unplaced_ident name) es
unplaced_box_form (BForm-F.Out number es) = box_form.Out number es

abbrev pub at_no_box_place : BExpr-F BForm BExpr → BExpr
at_no_box_place e = record { at = 0; form = e.form }

abbrev pub unplaced_box : BExpr → BExpr
unplaced_box = fold-BExpr BForm BExpr unplaced_box_form at_no_box_place

abbrev pub unplaced_source : ItemSource → ItemSource
unplaced_source Same = Same
unplaced_source (Field name) = Field (unplaced_ident name)
unplaced_source (Expr e) = Expr (unplaced_tag e)

abbrev pub unplaced_item : ItemAt → ItemAt
unplaced_item i = record { target = unplaced_label i.target; source = unplaced_source i.source }

abbrev pub unplaced_template : TemplateAt → TemplateAt
unplaced_template t = record { items = map unplaced_item t.items; at = 0 }

abbrev pub unplaced_arm : ArmAt → ArmAt
unplaced_arm a = record { guard = unplaced_tag a.guard; templates = map unplaced_template a.templates }

-- one level of a network
abbrev pub unplaced_net_form : NetForm-F NetForm NetExpr → NetForm
unplaced_net_form (NetForm-F.Name name) = net_form.Name (unplaced_ident name)
unplaced_net_form NetForm-F.Identity = net_form.Identity
unplaced_net_form (NetForm-F.Filter pattern arms templates) = net_form.Filter (unplaced_variant pattern) (map unplaced_arm arms) (map unplaced_template templates)
unplaced_net_form (NetForm-F.Sync patterns) = net_form.Sync (map unplaced_variant patterns)
unplaced_net_form (NetForm-F.Serial parts) = net_form.Serial parts
unplaced_net_form (NetForm-F.Choice det branches) = net_form.Choice det branches
unplaced_net_form (NetForm-F.Star det body exit guard) = net_form.Star det body (unplaced_variant exit) (option_map unplaced_tag guard)
unplaced_net_form (NetForm-F.Split det spread body tag) = net_form.Split det spread body (unplaced_ident tag)
unplaced_net_form (NetForm-F.Placed body node) = net_form.Placed body node

abbrev pub at_no_net_place : NetExpr-F NetForm NetExpr → NetExpr
at_no_net_place n = record { at = 0; form = n.form }

abbrev pub unplaced_net : NetExpr → NetExpr
unplaced_net = fold-NetExpr NetForm NetExpr unplaced_net_form at_no_net_place

abbrev pub unplaced_fun : FunDecl → FunDecl
unplaced_fun f = record { name = unplaced_ident f.name; params = map unplaced_ident f.params; body = unplaced_box f.body }

abbrev pub unplaced_box_decl : BoxDecl → BoxDecl
unplaced_box_decl b = record {
  name = unplaced_ident b.name;
  input = unplaced_tuple b.input;
  outputs = map unplaced_tuple b.outputs;
  funs = map unplaced_fun b.funs;
  body = unplaced_box b.body;
}

-- one level of a declaration
abbrev pub unplaced_decl_step : Decl-F Decl NetDecl → Decl
unplaced_decl_step (Decl-F.BoxDecl b) = decl_form.BoxDecl (unplaced_box_decl b)
unplaced_decl_step (Decl-F.NetDecl n) = decl_form.NetDecl n
unplaced_decl_step (Decl-F.TypeDecl name parts) = decl_form.TypeDecl (unplaced_ident name) (map unplaced_part parts)
unplaced_decl_step (Decl-F.SigDecl name sig) = decl_form.SigDecl (unplaced_ident name) (unplaced_sig sig)

abbrev pub unplaced_net_decl : NetDecl-F Decl NetDecl → NetDecl
unplaced_net_decl n = record {
  name = unplaced_ident n.name;
  sig = option_map unplaced_sig n.sig;
  decls = n.decls;
  connect = unplaced_net n.connect;
}

abbrev pub unplaced_decl : Decl → Decl
unplaced_decl = fold-Decl Decl NetDecl unplaced_decl_step unplaced_net_decl

abbrev pub unplaced : Program → Program
unplaced p = record { decls = map unplaced_decl p.decls }
