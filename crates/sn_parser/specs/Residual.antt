-- What the open forms of a source still need: which tokens complete it to a list of declarations.
use Rattle.std.specs.Prelude.{ℕ, List, [], ◌∷◌, ◌≡◌, ◌↔◌, Option, Some, None, Result, Ok, Err}
use Rattle.sn_ast.specs.Declarations.{Declarations, Inner, MoreInner, RestOfBox, Signature, with_connect}
use Rattle.sn_ast.specs.Kept.{Kept, kept}
use Rattle.sn_ast.specs.Labels.{IsSig, Types}
use Rattle.sn_ast.specs.Networks.{Network}
use Rattle.sn_ast.specs.declared.declaration.Decl.{Decl}
use Rattle.sn_ast.specs.declared.declaration.Decl.TheVariants.{TypeDecl, SigDecl}
use Rattle.sn_ast.specs.declared.label.Ident.{Ident}
use Rattle.sn_ast.specs.declared.label.Sig.{Sig}
use Rattle.sn_ast.specs.declared.label.TypePart.{TypePart}
use Rattle.sn_ast.specs.declared.network.NetExpr.{NetExpr}
use Rattle.sn_ast.specs.declared.terminal.Keyword.TheVariants.{Connect}
use Rattle.sn_ast.specs.declared.terminal.Symbol.{Symbol as SomeSymbol}
use Rattle.sn_ast.specs.declared.terminal.Symbol.TheVariants.{CloseParen, Semicolon, Assign}
use Rattle.sn_ast.specs.declared.terminal.Terminal.{Terminal}
use Rattle.sn_ast.specs.declared.terminal.Terminal.TheVariants.{Name, Keyword, Symbol}
use Rattle.sn_box_parser.specs.BoxDeclResidual.{Completes as BoxCompletes}
use Rattle.sn_box_parser.specs.declared.machine.BoxDeclParser.{BoxDeclParser}
use Rattle.sn_net_parser.specs.Residual.{Completes as NetCompletes}
use Rattle.sn_net_parser.specs.declared.machine.NetParser.{NetParser}
use Rattle.sn_parser.specs.Scopes.{Decls, done_with, nets_with}
use Rattle.sn_parser.specs.declared.machine.Around.{Around}
use Rattle.sn_parser.specs.declared.machine.Mode.{Mode}
use Rattle.sn_parser.specs.declared.machine.Mode.TheVariants as mode
use Rattle.sn_parser.specs.declared.machine.OpenNet.{OpenNet}
use Rattle.sn_parser.specs.declared.machine.Parser.{Parser}
use Rattle.sn_parser.specs.declared.machine.Stop.{Stop}
use Rattle.sn_parser.specs.declared.machine.Stop.TheVariants.{Memory, Refused}
use Rattle.sn_parser.specs.declared.machine.Word.{Word}
use Rattle.sn_parser.specs.declared.machine.Word.TheVariants as word
use Rattle.sn_type_parser.specs.SigResidual.{Completes as SigCompletes}
use Rattle.sn_type_parser.specs.TypeResidual.{Completes as TypeCompletes}
use Rattle.sn_type_parser.specs.declared.signatures.SigParser.{SigParser}
use Rattle.sn_type_parser.specs.declared.types.TypeParser.{TypeParser}

mutual
  -- The tokens complete the source, where a declaration or the end of the innermost scope comes next.
  pub data Next : Decls → List OpenNet → List Terminal → Decls → Type 0 where
    outermost : {done all : Decls} {ts : List Terminal} → Declarations kept done ts all → Next done [] ts all
    inside : {done all : Decls} {net : OpenNet} {nets : List OpenNet} {ds : Kept (List Decl)} {ts us : List Terminal} →
        MoreInner kept net.decls ts ds us → Connecting done nets net.name net.sig ds us all → Next done (net ∷ nets) ts all

  -- the same where the network of a net comes next, and then what stands after the net
  pub data Connecting : Decls → List OpenNet → Ident → Option Sig → Kept (List Decl) → List Terminal → Decls → Type 0 where
    connecting : {connect semicolon : ℕ} {done all : Decls} {nets : List OpenNet} {name : Ident} {sig : Option Sig} {ds : Kept (List Decl)}
        {n : Kept NetExpr} {ts us : List Terminal} → Network kept ts n (Symbol Semicolon semicolon ∷ us) →
        Next (done_with done nets name.at (with_connect kept name sig ds n)) (nets_with nets (with_connect kept name sig ds n)) us all →
        Connecting done nets name sig ds (Keyword Connect connect ∷ ts) all

-- after a declaration
abbrev pub After : Decls → List OpenNet → ℕ → Kept Decl → List Terminal → Decls → Type 0
After done nets at d = Next (done_with done nets at d) (nets_with nets d)

-- the symbol that ends a part, and then what follows it
pub data Ending (s : SomeSymbol) (after : List Terminal → Decls → Type 0) : List Terminal → Decls → Type 0 where
  ending : {at : ℕ} {us : List Terminal} {all : Decls} → after us all → Ending s after (Symbol s at ∷ us) all

-- the tokens go on from the state of a parser to what it reads, and after that the source is completed
pub data Through {Q : Type 0} (reads : List Terminal → Q → Type 0) (after : Q → Decls → Type 0) : List Terminal → Decls → Type 0 where
  through : {ts : List Terminal} {all : Decls} (q : Q) → reads ts q → after q all → Through reads after ts all

-- where the inner declarations of a net or its network come next
pub data AfterSig : Decls → List OpenNet → Ident → Option Sig → List Terminal → Decls → Type 0 where
  after_sig : {done all : Decls} {nets : List OpenNet} {name : Ident} {sig : Option Sig} {ds : Kept (List Decl)} {ts us : List Terminal} →
      Inner kept ts ds us → Connecting done nets name sig ds us all → AfterSig done nets name sig ts all

-- after the name of a net
pub data AfterName : Decls → List OpenNet → Ident → List Terminal → Decls → Type 0 where
  after_name : {done all : Decls} {nets : List OpenNet} {name : Ident} {sig : Option Sig} {ts us : List Terminal} →
      Signature ts sig us → AfterSig done nets name sig us all → AfterName done nets name ts all

-- where the `=` of a type comes next
pub data NextType : Decls → List OpenNet → Ident → List Terminal → Decls → Type 0 where
  next_type : {assign semicolon : ℕ} {done all : Decls} {nets : List OpenNet} {name : Ident} {parts : List TypePart} {ts us : List Terminal} →
      Types ts parts (Symbol Semicolon semicolon ∷ us) → After done nets name.at (kept.leaf (TypeDecl name parts)) us all →
      NextType done nets name (Symbol Assign assign ∷ ts) all

-- where the `=` of a type signature comes next
pub data NextSig : Decls → List OpenNet → Ident → List Terminal → Decls → Type 0 where
  next_sig : {assign semicolon : ℕ} {done all : Decls} {nets : List OpenNet} {name : Ident} {sig : Sig} {ts us : List Terminal} →
      IsSig ts sig (Symbol Semicolon semicolon ∷ us) → After done nets name.at (kept.leaf (SigDecl name sig)) us all →
      NextSig done nets name (Symbol Assign assign ∷ ts) all

-- where the name of what is declared comes next
pub data Named : Decls → List OpenNet → Word → List Terminal → Decls → Type 0 where
  box_named : {done all : Decls} {nets : List OpenNet} {name : Ident} {d : Kept Decl} {ts us : List Terminal} →
      RestOfBox kept name ts d us → After done nets name.at d us all → Named done nets word.Box (Name name ∷ ts) all
  net_named : {done all : Decls} {nets : List OpenNet} {name : Ident} {ts : List Terminal} →
      AfterName done nets name ts all → Named done nets word.Net (Name name ∷ ts) all
  type_named : {done all : Decls} {nets : List OpenNet} {name : Ident} {ts : List Terminal} →
      NextType done nets name ts all → Named done nets word.«Type» (Name name ∷ ts) all
  sig_named : {done all : Decls} {nets : List OpenNet} {name : Ident} {ts : List Terminal} →
      NextSig done nets name ts all → Named done nets word.TypeSig (Name name ∷ ts) all

-- in a box, after its name
abbrev pub InBox : Decls → List OpenNet → ℕ → BoxDeclParser → List Terminal → Decls → Type 0
InBox done nets at s = Through (BoxCompletes s) (λ q all. After done nets at q.part q.rest all)

-- after a type, a type signature, the signature of a net, and its network, each up to the symbol that ends it
abbrev pub AfterType : Decls → List OpenNet → Ident → List TypePart → List Terminal → Decls → Type 0
AfterType done nets name parts = Ending Semicolon (After done nets name.at (kept.leaf (TypeDecl name parts)))

abbrev pub AfterTypeSig : Decls → List OpenNet → Ident → Sig → List Terminal → Decls → Type 0
AfterTypeSig done nets name sig = Ending Semicolon (After done nets name.at (kept.leaf (SigDecl name sig)))

abbrev pub AfterNetSig : Decls → List OpenNet → Ident → Sig → List Terminal → Decls → Type 0
AfterNetSig done nets name sig = Ending CloseParen (AfterSig done nets name (Some sig))

abbrev pub AfterNetwork : Decls → List OpenNet → OpenNet → Kept NetExpr → List Terminal → Decls → Type 0
AfterNetwork done nets net n = Ending Semicolon (After done nets net.name.at (with_connect kept net.name net.sig net.decls n))

-- in each of these
abbrev pub InType : Decls → List OpenNet → Ident → TypeParser → List Terminal → Decls → Type 0
InType done nets name s = Through (TypeCompletes s) (λ q all. AfterType done nets name q.part q.rest all)

abbrev pub InTypeSig : Decls → List OpenNet → Ident → SigParser → List Terminal → Decls → Type 0
InTypeSig done nets name s = Through (SigCompletes s) (λ q all. AfterTypeSig done nets name q.part q.rest all)

abbrev pub InNetSig : Decls → List OpenNet → Ident → SigParser → List Terminal → Decls → Type 0
InNetSig done nets name s = Through (SigCompletes s) (λ q all. AfterNetSig done nets name q.part q.rest all)

abbrev pub InNetwork : Decls → List OpenNet → OpenNet → NetParser → List Terminal → Decls → Type 0
InNetwork done nets net s = Through (NetCompletes s) (λ q all. AfterNetwork done nets net q.network q.rest all)

abbrev pub CompletesIn : Around → Mode → List Terminal → Decls → Type 0
CompletesIn a mode.Want w all = Next a.done a.nets w all
CompletesIn a (mode.Named kind) w all = Named a.done a.nets kind w all
CompletesIn a (mode.InBox at rest) w all = InBox a.done a.nets at rest w all
CompletesIn a (mode.TypeAssign name) w all = NextType a.done a.nets name w all
CompletesIn a (mode.InType name types) w all = InType a.done a.nets name types w all
CompletesIn a (mode.SigAssign name) w all = NextSig a.done a.nets name w all
CompletesIn a (mode.InSig name sig) w all = InTypeSig a.done a.nets name sig w all
CompletesIn a (mode.NetName name) w all = AfterName a.done a.nets name w all
CompletesIn a (mode.InNetSig name sig) w all = InNetSig a.done a.nets name sig w all
CompletesIn a (mode.AfterSig name sig) w all = AfterSig a.done a.nets name sig w all
CompletesIn a (mode.Connect net) w all = Connecting a.done a.nets net.name net.sig net.decls w all
CompletesIn a (mode.InNetwork net network) w all = InNetwork a.done a.nets net network w all

-- The tokens go on from the state to these declarations.
abbrev pub Completes : Parser → List Terminal → Decls → Type 0
Completes s w all = CompletesIn s.around s.mode w all

-- Where a step took the token x: what went on from before it begins with x, and then goes on from the state after it.
-- Where it refused x: nothing that begins with x went on.
abbrev pub StepsFrom : (List Terminal → Decls → Type 0) → Terminal → Result Parser Stop → Type 0
StepsFrom before x (Ok s) = (w : List Terminal) (all : Decls) → before (x ∷ w) all ↔ Completes s w all
StepsFrom before x (Err Memory) = Unit {0}
StepsFrom before x (Err Refused) = (w : List Terminal) (all : Decls) → before (x ∷ w) all → ⊥

abbrev pub StepsIn : Around → Mode → Terminal → Result Parser Stop → Type 0
StepsIn a m x r = StepsFrom (CompletesIn a m) x r

abbrev pub Steps : Parser → Terminal → Result Parser Stop → Type 0
Steps s x r = StepsFrom (Completes s) x r

-- the same of the symbol after a part, wherever it stands
abbrev pub EndSteps : (List Terminal → Decls → Type 0) → SomeSymbol → Result Parser Stop → Type 0
EndSteps before s r = (at : ℕ) → StepsFrom before (Symbol s at) r

-- the step leads to the state p, unless memory is wanted
abbrev pub LeadsTo : Parser → Result Parser Stop → Type 0
LeadsTo p (Ok s) = s ≡ p
LeadsTo p (Err stop) = stop ≡ Memory

-- at the end of the tokens: the declarations, or nothing where some are still wanted
abbrev pub EndsIn : Around → Mode → Option Decls → Type 0
EndsIn a m (Some done) = (all : Decls) → CompletesIn a m [] all ↔ (done ≡ all)
EndsIn a m None = (all : Decls) → CompletesIn a m [] all → ⊥

abbrev pub Ends : Parser → Option Decls → Type 0
Ends s r = EndsIn s.around s.mode r
