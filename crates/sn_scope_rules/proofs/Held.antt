-- That the names of the labels of a part of a source are held.
use Rattle.std.proofs.Common.{◌≡◌, ℕ, true, List, [], ◌∷◌, Option, Some, None}
use Rattle.sn_ast.specs.declared.declaration.BoxDecl.{BoxDecl}
use Rattle.sn_ast.specs.declared.declaration.Decl.{Decl}
use Rattle.sn_ast.specs.declared.declaration.Decl.TheOpen.{Decl-F}
use Rattle.sn_ast.specs.declared.declaration.Decl.TheViews.{out-Decl, out-NetDecl}
use Rattle.sn_ast.specs.declared.declaration.NetDecl.{NetDecl, NetDecl-F}
use Rattle.sn_ast.specs.declared.label.Ident.{Ident}
use Rattle.sn_ast.specs.declared.label.LabelAt.{LabelAt}
use Rattle.sn_ast.specs.declared.label.Sig.{Sig}
use Rattle.sn_ast.specs.declared.label.Sig.TheVariants.{Arrow, Named as NamedSig}
use Rattle.sn_ast.specs.declared.label.Tuple.{Tuple}
use Rattle.sn_ast.specs.declared.label.TypePart.{TypePart}
use Rattle.sn_ast.specs.declared.label.TypePart.TheVariants.{Set, Named as NamedType}
use Rattle.sn_ast.specs.declared.label.Variant.{Variant}
use Rattle.sn_ast.specs.declared.network.ArmAt.{ArmAt}
use Rattle.sn_ast.specs.declared.network.ItemAt.{ItemAt}
use Rattle.sn_ast.specs.declared.network.ItemSource.{ItemSource}
use Rattle.sn_ast.specs.declared.network.ItemSource.TheVariants.{Same, Field, Expr}
use Rattle.sn_ast.specs.declared.network.NetExpr.{NetExpr}
use Rattle.sn_ast.specs.declared.network.NetForm.{NetForm}
use Rattle.sn_ast.specs.declared.network.NetForm.TheOpen.{NetForm-F}
use Rattle.sn_ast.specs.declared.network.TemplateAt.{TemplateAt}
use Rattle.sn_ast.specs.declared.tag_expr.TExpr.{TExpr}
use Rattle.sn_names.specs.Names.{is_held}
use Rattle.sn_scope_rules.specs.Filters.{tags_in}
use Rattle.sn_scope_rules.specs.Networks.{form_of, parts_in, parts_of}
use Rattle.sn_scope_rules.specs.Standing.{StandsIn, StandsWithin}
use Rattle.sn_scope_rules.specs.Standing.StandsIn.{here, later}
use Rattle.sn_scope_rules.specs.Standing.StandsWithin.{deeper, itself}

abbrev pub Names : Type 0
Names = List (List ℕ)

-- each element
abbrev pub Each : {A : Type 0} → (A → Type 0) → List A → Type 0
Each {A} P xs = (x : A) → StandsIn x xs → P x

pub each_nil : {A : Type 0} (P : A → Type 0) → Each P []
each_nil P x at = elim at [ ]

pub each_cons : {A : Type 0} (P : A → Type 0) (x : A) (xs : List A) → P x → Each P xs → Each P (x ∷ xs)
each_cons P x xs first rest y here = first
each_cons P x xs first rest y (later at) = rest y at

abbrev pub HeldIdent : Names → Ident → Type 0
HeldIdent all name = is_held all name.text ≡ true

abbrev pub HeldLabel : Names → LabelAt → Type 0
HeldLabel all label = HeldIdent all label.name

abbrev pub HeldLabels : Names → List LabelAt → Type 0
HeldLabels all labels = Each (HeldLabel all) labels

abbrev pub HeldVariant : Names → Variant → Type 0
HeldVariant all variant = HeldLabels all variant.labels

abbrev pub HeldPart : Names → TypePart → Type 0
HeldPart all (Set variant) = HeldVariant all variant
HeldPart all (NamedType name) = Unit {0}

abbrev pub HeldType : Names → List TypePart → Type 0
HeldType all parts = Each (HeldPart all) parts

abbrev pub HeldSig : Names → Sig → Type 0
HeldSig all (Arrow input output) = HeldType all input × HeldType all output
HeldSig all (NamedSig name) = Unit {0}

abbrev pub HeldNetSig : Names → Option Sig → Type 0
HeldNetSig all None = Unit {0}
HeldNetSig all (Some sig) = HeldSig all sig

abbrev pub HeldTags : Names → TExpr → Type 0
HeldTags all e = Each (HeldIdent all) (tags_in e)

abbrev pub HeldSource : Names → ItemSource → Type 0
HeldSource all Same = Unit {0}
HeldSource all (Field name) = HeldIdent all name
HeldSource all (Expr e) = HeldTags all e

abbrev pub HeldItem : Names → ItemAt → Type 0
HeldItem all item = HeldLabel all item.target × HeldSource all item.source

abbrev pub HeldTemplate : Names → TemplateAt → Type 0
HeldTemplate all template = Each (HeldItem all) template.items

abbrev pub HeldArm : Names → ArmAt → Type 0
HeldArm all arm = HeldTags all arm.guard × Each (HeldTemplate all) arm.templates

abbrev pub HeldGuard : Names → Option TExpr → Type 0
HeldGuard all None = Unit {0}
HeldGuard all (Some e) = HeldTags all e

-- in one form of a network, but for the networks that it is made of
abbrev pub HeldForm : Names → NetForm-F NetForm NetExpr → Type 0
HeldForm all (NetForm-F.Name name) = Unit {0}
HeldForm all NetForm-F.Identity = Unit {0}
HeldForm all (NetForm-F.Filter pattern arms templates) = HeldVariant all pattern × (Each (HeldArm all) arms × Each (HeldTemplate all) templates)
HeldForm all (NetForm-F.Sync patterns) = Each (HeldVariant all) patterns
HeldForm all (NetForm-F.Serial parts) = Unit {0}
HeldForm all (NetForm-F.Choice det branches) = Unit {0}
HeldForm all (NetForm-F.Star det body exit guard) = HeldVariant all exit × HeldGuard all guard
HeldForm all (NetForm-F.Split det spread body tag) = HeldIdent all tag
HeldForm all (NetForm-F.Placed body node) = Unit {0}

abbrev pub HeldNet : Names → NetExpr → Type 0
HeldNet all net = (part : NetExpr) → StandsWithin parts_of part net → HeldForm all (form_of part)

abbrev pub HeldLevel : Names → NetForm-F NetForm NetExpr → Type 0
HeldLevel all x = HeldForm all x × Each (HeldNet all) (parts_in x)

-- a network is held where its form and its parts are
pub net_level : (all : Names) (net : NetExpr) → HeldNet all net → HeldLevel all (form_of net)
net_level all net held = (held net itself, λ part at inner within. held inner (deeper at within))

pub level_net : (all : Names) (net : NetExpr) → HeldLevel all (form_of net) → HeldNet all net
level_net all net held part at = go part net at held
  where
    go : (part net : NetExpr) → StandsWithin parts_of part net → HeldLevel all (form_of net) → HeldForm all (form_of part)
    go part net itself held = held.0
    go part net (deeper {part = next} at within) held = held.1 next at part within

abbrev pub HeldTuple : Names → Tuple → Type 0
HeldTuple all tuple = HeldLabels all tuple.labels

abbrev pub HeldBox : Names → BoxDecl → Type 0
HeldBox all declaration = HeldTuple all declaration.input × Each (HeldTuple all) declaration.outputs

-- the declarations within a declaration
abbrev pub inner_in : Decl-F Decl NetDecl → List Decl
inner_in (Decl-F.BoxDecl declaration) = []
inner_in (Decl-F.NetDecl net) = (out-NetDecl net).decls
inner_in (Decl-F.TypeDecl name parts) = []
inner_in (Decl-F.SigDecl name sig) = []

abbrev pub inner_of : Decl → List Decl
inner_of decl = inner_in (out-Decl decl)

-- in a net, but for its inner declarations
abbrev pub HeldNetDecl : Names → NetDecl-F Decl NetDecl → Type 0
HeldNetDecl all net = HeldNetSig all net.sig × HeldNet all net.connect

abbrev pub HeldOwn : Names → Decl-F Decl NetDecl → Type 0
HeldOwn all (Decl-F.BoxDecl declaration) = HeldBox all declaration
HeldOwn all (Decl-F.NetDecl net) = HeldNetDecl all (out-NetDecl net)
HeldOwn all (Decl-F.TypeDecl name parts) = HeldType all parts
HeldOwn all (Decl-F.SigDecl name sig) = HeldSig all sig

abbrev pub HeldDecl : Names → Decl → Type 0
HeldDecl all decl = (inner : Decl) → StandsWithin inner_of inner decl → HeldOwn all (out-Decl inner)

abbrev pub HeldDeclLevel : Names → Decl-F Decl NetDecl → Type 0
HeldDeclLevel all x = HeldOwn all x × Each (HeldDecl all) (inner_in x)

pub decl_level : (all : Names) (decl : Decl) → HeldDecl all decl → HeldDeclLevel all (out-Decl decl)
decl_level all decl held = (held decl itself, λ part at inner within. held inner (deeper at within))

pub level_decl : (all : Names) (decl : Decl) → HeldDeclLevel all (out-Decl decl) → HeldDecl all decl
level_decl all decl held inner at = go inner decl at held
  where
    go : (inner decl : Decl) → StandsWithin inner_of inner decl → HeldDeclLevel all (out-Decl decl) → HeldOwn all (out-Decl inner)
    go inner decl itself held = held.0
    go inner decl (deeper {part = next} at within) held = held.1 next at inner within
