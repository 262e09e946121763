-- The texts of declarations and programs.
use Rattle.std.specs.Prelude.{ℕ, List, [], ◌∷◌, ◌++◌, map, codes, Option, Some, None}
use Rattle.std.specs.List.{flat_map}
use Rattle.sn_ast.specs.declared.declaration.BoxDecl.{BoxDecl}
use Rattle.sn_ast.specs.declared.declaration.Decl.{Decl, fold-Decl}
use Rattle.sn_ast.specs.declared.declaration.Decl.TheOpen.{Decl-F}
use Rattle.sn_ast.specs.declared.declaration.FunDecl.{FunDecl}
use Rattle.sn_ast.specs.declared.declaration.NetDecl.{NetDecl, NetDecl-F, fold-NetDecl}
use Rattle.sn_ast.specs.declared.declaration.Program.{Program}
use Rattle.sn_ast.specs.declared.label.Sig.{Sig}
use Rattle.sn_print.specs.Expressions.{box_shown, box_text, part}
use Rattle.sn_print.specs.Labels.{sig_text, tuple_text, types_text}
use Rattle.sn_print.specs.Networks.{net_text}
use Rattle.sn_print.specs.Words.{joined}

abbrev pub fun_text : FunDecl → List ℕ
fun_text f =
    codes "fun " ++ (f.name.text ++ (codes "(" ++ (joined (codes ",") (map (λ param. param.text) f.params) ++ (codes ") = " ++ (part (box_shown f.body) ++ codes "; ")))))

abbrev pub box_sig_text : BoxDecl → List ℕ
box_sig_text b = tuple_text b.input ++ (codes " -> " ++ joined (codes " | ") (map tuple_text b.outputs))

abbrev pub body_text : BoxDecl → List ℕ
body_text b = flat_map fun_text b.funs ++ box_text b.body

abbrev pub box_decl_text : BoxDecl → List ℕ
box_decl_text b = codes "box " ++ (b.name.text ++ (codes " (" ++ (box_sig_text b ++ (codes ") { " ++ (body_text b ++ codes " }")))))

abbrev pub sig_part : Option Sig → List ℕ
sig_part None = []
sig_part (Some sig) = codes " (" ++ (sig_text sig ++ codes ")")

abbrev pub inner_part : List (List ℕ) → List ℕ
inner_part [] = []
inner_part (d ∷ ds) = codes " { " ++ (joined (codes " ") (d ∷ ds) ++ codes " }")

-- one level of a declaration
abbrev pub net_decl_step : NetDecl-F (List ℕ) (List ℕ) → List ℕ
net_decl_step n = codes "net " ++ (n.name.text ++ (sig_part n.sig ++ (inner_part n.decls ++ (codes " connect " ++ (net_text n.connect ++ codes ";")))))

abbrev pub decl_step : Decl-F (List ℕ) (List ℕ) → List ℕ
decl_step (Decl-F.BoxDecl b) = box_decl_text b
decl_step (Decl-F.NetDecl text) = text
decl_step (Decl-F.TypeDecl name parts) = codes "type " ++ (name.text ++ (codes " = " ++ (types_text parts ++ codes ";")))
decl_step (Decl-F.SigDecl name sig) = codes "typesig " ++ (name.text ++ (codes " = " ++ (sig_text sig ++ codes ";")))

abbrev pub decl_text : Decl → List ℕ
decl_text = fold-Decl (List ℕ) (List ℕ) decl_step net_decl_step

abbrev pub net_decl_text : NetDecl → List ℕ
net_decl_text = fold-NetDecl (List ℕ) (List ℕ) decl_step net_decl_step

-- each outermost declaration is one line
abbrev pub program_text : Program → List ℕ
program_text p = flat_map (λ d. decl_text d ++ codes "\n") p.decls
