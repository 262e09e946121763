-- The grammar of declarations and programs: which tokens spell which of them. In each relation the last list is what
-- follows.
use Rattle.std.specs.Prelude.{ℕ, List, [], ◌∷◌, Option, Some, None}
use Rattle.sn_ast.specs.BoxExprs.{Sequence, BoxExpr}
use Rattle.sn_ast.specs.Labels.{IsSig, IsTuple, Types}
use Rattle.sn_ast.specs.Measures.{Measuring}
use Rattle.sn_ast.specs.Networks.{Network}
use Rattle.sn_ast.specs.Rows.{append, no_parts, with_part}
use Rattle.sn_ast.specs.declared.box_expr.BExpr.{BExpr}
use Rattle.sn_ast.specs.declared.declaration.Decl.{Decl}
use Rattle.sn_ast.specs.declared.declaration.Decl.TheVariants.{BoxDecl, NetDecl, TypeDecl, SigDecl}
use Rattle.sn_ast.specs.declared.declaration.FunDecl.{FunDecl}
use Rattle.sn_ast.specs.declared.label.Ident.{Ident}
use Rattle.sn_ast.specs.declared.label.Sig.{Sig}
use Rattle.sn_ast.specs.declared.label.Tuple.{Tuple}
use Rattle.sn_ast.specs.declared.label.TypePart.{TypePart}
use Rattle.sn_ast.specs.declared.network.NetExpr.{NetExpr}
use Rattle.sn_ast.specs.declared.terminal.Keyword.TheVariants.{Box, Net, Connect, «Type» as TypeWord, TypeSig, Fun}
use Rattle.sn_ast.specs.declared.terminal.Symbol.TheVariants.{OpenParen, CloseParen, OpenBrace, CloseBrace, Comma, Semicolon, Assign, Arrow, Bar}
use Rattle.sn_ast.specs.declared.terminal.Terminal.{Terminal}
use Rattle.sn_ast.specs.declared.terminal.Terminal.TheVariants.{Name, Keyword, Symbol}

abbrev pub function_of : Ident → List Ident → BExpr → FunDecl
function_of name params body = record { name = name; params = params; body = body }

abbrev pub box_of : Ident → Tuple → List Tuple → List FunDecl → BExpr → Decl
box_of name input outputs funs body =
    BoxDecl (record { name = name; input = input; outputs = outputs; funs = funs; body = body })

abbrev pub net_of : Ident → Option Sig → List Decl → NetExpr → Decl
net_of name sig decls connect = NetDecl (record { name = name; sig = sig; decls = decls; connect = connect })

module _ {F : Type 0 → Type 0} (m : Measuring F) where
  abbrev pub with_body : Ident → Tuple → List Tuple → F (List FunDecl) → F BExpr → F Decl
  with_body name input outputs funs body = m.raise (m.join (box_of name input outputs) funs body)

  abbrev pub with_connect : Ident → Option Sig → F (List Decl) → F NetExpr → F Decl
  with_connect name sig decls connect = m.raise (m.join (net_of name sig) decls connect)

-- { "|" tuple } ")", after the tuples so far
pub data MoreTuples : List Tuple → List Terminal → List Tuple → List Terminal → Type 0 where
  last_tuple : {at : ℕ} {all : List Tuple} {us : List Terminal} → MoreTuples all (Symbol CloseParen at ∷ us) all us
  more_tuples : {at : ℕ} {t : Tuple} {so_far all : List Tuple} {ts us vs : List Terminal} →
      IsTuple ts t us → MoreTuples (append so_far t) us all vs → MoreTuples so_far (Symbol Bar at ∷ ts) all vs

-- { "," ID } ")", after the parameters so far
pub data MoreParams : List Ident → List Terminal → List Ident → List Terminal → Type 0 where
  last_param : {at : ℕ} {all : List Ident} {us : List Terminal} → MoreParams all (Symbol CloseParen at ∷ us) all us
  more_params : {at : ℕ} {name : Ident} {so_far all : List Ident} {us vs : List Terminal} →
      MoreParams (append so_far name) us all vs → MoreParams so_far (Symbol Comma at ∷ Name name ∷ us) all vs

-- [ ID { "," ID } ] ")"
pub data Params : List Terminal → List Ident → List Terminal → Type 0 where
  no_params : {at : ℕ} {us : List Terminal} → Params (Symbol CloseParen at ∷ us) [] us
  params : {name : Ident} {all : List Ident} {us vs : List Terminal} →
      MoreParams (name ∷ []) us all vs → Params (Name name ∷ us) all vs

-- fun = "fun" ID "(" [ ID { "," ID } ] ")" "=" bexpr ";"
pub data Function {F : Type 0 → Type 0} (m : Measuring F) : List Terminal → F FunDecl → List Terminal → Type 0 where
  function : {at opening assign semicolon : ℕ} {name : Ident} {all : List Ident} {e : F BExpr} {ts us vs : List Terminal} →
      Params ts all (Symbol Assign assign ∷ us) → BoxExpr m us e (Symbol Semicolon semicolon ∷ vs) →
      Function m (Keyword Fun at ∷ Name name ∷ Symbol OpenParen opening ∷ ts) (m.each (function_of name all) e) vs

-- { fun } seq "}", after the functions so far
pub data Body {F : Type 0 → Type 0} (m : Measuring F) (name : Ident) (input : Tuple) (outputs : List Tuple) : F (List FunDecl) → List Terminal → F Decl → List Terminal → Type 0 where
  body : {close : ℕ} {funs : F (List FunDecl)} {e : F BExpr} {ts us : List Terminal} →
      Sequence m ts e (Symbol CloseBrace close ∷ us) → Body m name input outputs funs ts (with_body m name input outputs funs e) us
  with_function : {f : F FunDecl} {funs : F (List FunDecl)} {d : F Decl} {ts us vs : List Terminal} →
      Function m ts f us → Body m name input outputs (with_part m funs f) us d vs → Body m name input outputs funs ts d vs

-- "(" tuple "->" tuple { "|" tuple } ")" "{" { fun } seq "}", after a box's name
pub data RestOfBox {F : Type 0 → Type 0} (m : Measuring F) (name : Ident) : List Terminal → F Decl → List Terminal → Type 0 where
  rest_of_box : {opening arrow brace : ℕ} {input t : Tuple} {outputs : List Tuple} {d : F Decl} {ts us vs ws xs : List Terminal} →
      IsTuple ts input (Symbol Arrow arrow ∷ us) → IsTuple us t vs → MoreTuples (t ∷ []) vs outputs (Symbol OpenBrace brace ∷ ws) →
      Body m name input outputs (no_parts m) ws d xs → RestOfBox m name (Symbol OpenParen opening ∷ ts) d xs

-- [ "(" sig ")" ], after a net's name
pub data Signature : List Terminal → Option Sig → List Terminal → Type 0 where
  no_signature : {us : List Terminal} → Signature us None us
  signature : {opening close : ℕ} {s : Sig} {ts us : List Terminal} →
      IsSig ts s (Symbol CloseParen close ∷ us) → Signature (Symbol OpenParen opening ∷ ts) (Some s) us

mutual
  -- decl = "box" ID boxrest | "net" ID [ "(" sig ")" ] [ "{" { decl } "}" ] "connect" network ";"
  --      | "type" ID "=" types ";" | "typesig" ID "=" sig ";"; the number is the place of the name
  pub data Declaration {F : Type 0 → Type 0} (m : Measuring F) : List Terminal → ℕ → F Decl → List Terminal → Type 0 where
    box : {at : ℕ} {name : Ident} {d : F Decl} {ts us : List Terminal} →
        RestOfBox m name ts d us → Declaration m (Keyword Box at ∷ Name name ∷ ts) name.at d us
    net : {at connect semicolon : ℕ} {name : Ident} {sig : Option Sig} {decls : F (List Decl)} {n : F NetExpr} {ts us vs ws : List Terminal} →
        Signature ts sig us → Inner m us decls (Keyword Connect connect ∷ vs) → Network m vs n (Symbol Semicolon semicolon ∷ ws) →
        Declaration m (Keyword Net at ∷ Name name ∷ ts) name.at (with_connect m name sig decls n) ws
    type_name : {at assign semicolon : ℕ} {name : Ident} {parts : List TypePart} {ts us : List Terminal} →
        Types ts parts (Symbol Semicolon semicolon ∷ us) →
        Declaration m (Keyword TypeWord at ∷ Name name ∷ Symbol Assign assign ∷ ts) name.at (m.leaf (TypeDecl name parts)) us
    sig_name : {at assign semicolon : ℕ} {name : Ident} {s : Sig} {ts us : List Terminal} →
        IsSig ts s (Symbol Semicolon semicolon ∷ us) →
        Declaration m (Keyword TypeSig at ∷ Name name ∷ Symbol Assign assign ∷ ts) name.at (m.leaf (SigDecl name s)) us

  -- [ "{" { decl } "}" ]
  pub data Inner {F : Type 0 → Type 0} (m : Measuring F) : List Terminal → F (List Decl) → List Terminal → Type 0 where
    no_inner : {us : List Terminal} → Inner m us (no_parts m) us
    inner : {opening : ℕ} {all : F (List Decl)} {ts us : List Terminal} →
        MoreInner m (no_parts m) ts all us → Inner m (Symbol OpenBrace opening ∷ ts) all us

  -- { decl } "}", after the declarations so far
  pub data MoreInner {F : Type 0 → Type 0} (m : Measuring F) : F (List Decl) → List Terminal → F (List Decl) → List Terminal → Type 0 where
    last_inner : {close : ℕ} {all : F (List Decl)} {us : List Terminal} → MoreInner m all (Symbol CloseBrace close ∷ us) all us
    more_inner : {at : ℕ} {d : F Decl} {so_far all : F (List Decl)} {ts us vs : List Terminal} →
        Declaration m ts at d us → MoreInner m (with_part m so_far d) us all vs → MoreInner m so_far ts all vs

-- program = { decl }, after the declarations so far, each with the place of its name
pub data Declarations {F : Type 0 → Type 0} (m : Measuring F) : List (ℕ × F Decl) → List Terminal → List (ℕ × F Decl) → Type 0 where
  no_more : {all : List (ℕ × F Decl)} → Declarations m all [] all
  declaration : {at : ℕ} {d : F Decl} {so_far all : List (ℕ × F Decl)} {ts us : List Terminal} →
      Declaration m ts at d us → Declarations m (append so_far (at, d)) us all → Declarations m so_far ts all
