-- What a source declares: its types, signatures, nets and boxes, the names that stand for them, and its claims.
use Rattle.std.specs.Prelude.{ℕ, ◌&&◌, if◌then◌else◌, List, [], ◌∷◌, ◌++◌, length, map as each, codes, Option, Some, None, is_some, unwrap_or, not}
use Rattle.std.specs.List.{fold}
use Rattle.std.specs.Str.{bytes_eq}
use Rattle.sn_ast.specs.declared.declaration.BoxDecl.{BoxDecl}
use Rattle.sn_ast.specs.declared.declaration.Decl.{Decl, fold-Decl}
use Rattle.sn_ast.specs.declared.declaration.Decl.TheOpen.{Decl-F}
use Rattle.sn_ast.specs.declared.declaration.NetDecl.{NetDecl, NetDecl-F, fold-NetDecl}
use Rattle.sn_ast.specs.declared.declaration.Program.{Program}
use Rattle.sn_ast.specs.declared.label.Ident.{Ident}
use Rattle.sn_ast.specs.declared.label.Sig.{Sig}
use Rattle.sn_ast.specs.declared.label.Sig.TheVariants.{Arrow, Named as NamedSig}
use Rattle.sn_ast.specs.declared.label.TypePart.{TypePart}
use Rattle.sn_ast.specs.declared.network.NetExpr.{NetExpr}
use Rattle.sn_names.specs.Names.{is_held}
use Rattle.sn_box_scope.specs.Boxes.{box_at, box_required}
use Rattle.sn_scope.specs.Networks.{network_at, network_required}
use Rattle.sn_label_scope.specs.Refusals.{required}
use Rattle.sn_scope.specs.Scopes.{declared, empty_scope, entered_scope, is_outermost, left_scope, signature_of}
use Rattle.sn_scope.specs.Types.{type_at, type_required}
use Rattle.sn_scope.specs.declared.declarations.Declarations.{Declarations}
use Rattle.sn_scope.specs.declared.declarations.Pending.{Pending}
use Rattle.sn_scope.specs.declared.network.Component.{Component}
use Rattle.sn_scope.specs.declared.network.Network.{Network}
use Rattle.sn_scope.specs.declared.network.Network.TheVariants.{Named, Made}
use Rattle.sn_label_scope.specs.declared.refusal.Reason.TheVariants.{Unknown, Twice}
use Rattle.sn_scope.specs.declared.scopes.Meaning.{Meaning}
use Rattle.sn_scope.specs.declared.scopes.Meaning.TheVariants as meaning

-- nothing is declared
abbrev pub start : Declarations
start = record { types = []; signatures = []; nets = []; boxes = []; scopes = record { outer = []; current = empty_scope }; claims = []; main = None; refusals = None }

-- what a part of a source adds to the declarations so far
abbrev pub Change : Type 0
Change = Declarations → Declarations

-- several parts, from left to right
abbrev pub all_after : List Change → Change
all_after changes st = fold (λ so_far change. change so_far) st changes

-- the name gets its meaning in the innermost scope, and has none there yet
abbrev pub with_meaning : Ident → Meaning → Change
with_meaning name meaning st = record st {
  scopes = record st.scopes { current = declared st.scopes.current name.text meaning };
  refusals = required (not (is_held st.scopes.current.names name.text)) Twice name.at st.refusals;
}

-- a signature of two types is one more, and the name of a signature stands for that
abbrev pub with_signature : List (List ℕ) → Sig → Change
with_signature names (Arrow input output) st = record st {
  signatures = st.signatures ++ record { input = type_at names st.scopes st.types input; output = type_at names st.scopes st.types output } ∷ [];
  refusals = type_required names st.scopes output (type_required names st.scopes input st.refusals);
}
with_signature names (NamedSig name) st = record st { refusals = required (is_some (signature_of st.scopes name.text)) Unknown name.at st.refusals }

-- the number of the signature; that of a name that is refused is past all of them
abbrev pub number_at : Sig → Declarations → ℕ
number_at (Arrow input output) st = length st.signatures
number_at (NamedSig name) st = unwrap_or (signature_of st.scopes name.text) (length st.signatures)

abbrev pub with_net_signature : List (List ℕ) → Option Sig → Change
with_net_signature names None st = st
with_net_signature names (Some sig) st = with_signature names sig st

abbrev pub net_signature : Option Sig → Declarations → Option ℕ
net_signature None st = None
net_signature (Some sig) st = Some (number_at sig st)

-- a net whose network is the name of a net is that net, and any other is one more
abbrev pub with_net : Network → List Component → List Component
with_net (Named number) nets = nets
with_net (Made component) nets = nets ++ component ∷ []

abbrev pub net_at : Network → List Component → ℕ
net_at (Named number) nets = number
net_at (Made component) nets = length nets

-- a scope within the one of a net's name, with no claims yet
abbrev pub within : Change
within st = record st { scopes = entered_scope st.scopes; claims = [] }

-- the net's network, with which its scope ends
abbrev pub ended : List (List ℕ) → NetExpr → Change
ended names connect st = record st {
  nets = with_net (network_at names st.scopes connect) st.nets;
  scopes = left_scope st.scopes;
  refusals = network_required names st.scopes connect st.refusals;
}

abbrev pub net_number : List (List ℕ) → NetExpr → Declarations → ℕ
net_number names connect st = net_at (network_at names st.scopes connect) st.nets

-- the claim that is the program's: that of the outermost net with the name `main`
abbrev pub main_after : Ident → ℕ → Declarations → Option ℕ
main_after name claim st = if is_outermost st.scopes && bytes_eq name.text (codes "main") then Some claim else st.main

-- a net with a signature is a claim, which stands after those before it and before those within it
abbrev pub with_claim : Ident → Option ℕ → ℕ → List Pending → Change
with_claim name None net before st = record st { claims = before ++ st.claims }
with_claim name (Some signature) net before st = record st {
  claims = (before ++ record { place = name.at; net = net; signature = signature } ∷ []) ++ st.claims;
  main = main_after name (length before) st;
}

abbrev pub after_type : List (List ℕ) → Ident → List TypePart → Change
after_type names name parts st = with_meaning name (meaning.«Type» (length st.types)) (record st {
  types = st.types ++ type_at names st.scopes st.types parts ∷ [];
  refusals = type_required names st.scopes parts st.refusals;
})

abbrev pub after_sig : List (List ℕ) → Ident → Sig → Change
after_sig names name sig st = with_meaning name (meaning.Signature (number_at sig st)) (with_signature names sig st)

abbrev pub after_box : List (List ℕ) → BoxDecl → Change
after_box names declaration st = with_meaning declaration.name (meaning.Box (length st.boxes)) (record st {
  boxes = st.boxes ++ box_at names declaration ∷ [];
  refusals = box_required names declaration st.refusals;
})

-- a net: its signature, its inner declarations, its network, and then its name
abbrev pub net_step : List (List ℕ) → NetDecl-F Change Change → Change
net_step names net st =
    let opened = with_net_signature names net.sig st in
    let inner = all_after net.decls (within opened) in
    let number = net_number names net.connect inner in
    with_meaning net.name (meaning.Net number) (with_claim net.name (net_signature net.sig st) number opened.claims (ended names net.connect inner))

abbrev pub decl_step : List (List ℕ) → Decl-F Change Change → Change
decl_step names (Decl-F.BoxDecl declaration) st = after_box names declaration st
decl_step names (Decl-F.NetDecl net) st = net st
decl_step names (Decl-F.TypeDecl name parts) st = after_type names name parts st
decl_step names (Decl-F.SigDecl name sig) st = after_sig names name sig st

-- a declaration, which sees those before it and not itself
abbrev pub after : List (List ℕ) → Decl → Change
after names = fold-Decl Change Change (decl_step names) (net_step names)

abbrev pub after_net : List (List ℕ) → NetDecl → Change
after_net names = fold-NetDecl Change Change (decl_step names) (net_step names)

-- all that a program declares
abbrev pub declarations_of : List (List ℕ) → Program → Declarations
declarations_of names program = all_after (each (after names) program.decls) start
