-- The parsers that the parser of a source embeds: what completes them goes on as what completes the source.
use Rattle.std.proofs.Common.{ℕ, List, ◌∷◌, ◌≡◌, ◌↔◌, Result, Ok, Err, refl, sym, subst}
use Rattle.sn_ast.specs.Declarations.{RestOfBox, no_signature, signature, with_connect}
use Rattle.sn_ast.specs.Kept.{Kept, kept}
use Rattle.sn_ast.specs.Labels.{IsSig, Types}
use Rattle.sn_ast.specs.Networks.{Network}
use Rattle.sn_ast.specs.declared.declaration.Decl.{Decl}
use Rattle.sn_ast.specs.declared.label.Ident.{Ident}
use Rattle.sn_ast.specs.declared.label.Sig.{Sig}
use Rattle.sn_ast.specs.declared.label.TypePart.{TypePart}
use Rattle.sn_ast.specs.declared.network.NetExpr.{NetExpr}
use Rattle.sn_ast.specs.declared.terminal.Keyword.TheVariants.{Connect}
use Rattle.sn_ast.specs.declared.terminal.Symbol.{Symbol as SomeSymbol}
use Rattle.sn_ast.specs.declared.terminal.Symbol.TheVariants.{Assign, CloseParen, OpenParen, Semicolon}
use Rattle.sn_ast.specs.declared.terminal.Terminal.{Terminal}
use Rattle.sn_ast.specs.declared.terminal.Terminal.TheVariants.{Name, Keyword, Symbol}
use Rattle.sn_box_parser.specs.BoxDeclResidual.{Completes as BoxCompletes, Read as BoxRead, read as read_box}
use Rattle.sn_box_parser.specs.declared.machine.BoxDeclParser.{BoxDeclParser}
use Rattle.sn_net_parser.specs.Residual.{Completes as NetCompletes, Ends as NetEnds, Read as NetRead, read as read_net, semicolon}
use Rattle.sn_net_parser.specs.declared.machine.NetParser.{NetParser}
use Rattle.sn_parser.proofs.Steps.{ending_from, ending_to, no_paren}
use Rattle.sn_parser.specs.Residual.{AfterName, AfterNetSig, AfterNetwork, AfterType, AfterTypeSig, Connecting, InBox, InNetSig, InNetwork, InType, InTypeSig, Named, NextSig, NextType, StepsFrom, Through, after_name, box_named, connecting, ending, next_sig, next_type, through}
use Rattle.sn_parser.specs.Scopes.{Decls, after_declaration}
use Rattle.sn_parser.specs.declared.machine.Around.{Around}
use Rattle.sn_parser.specs.declared.machine.OpenNet.{OpenNet}
use Rattle.sn_parser.specs.declared.machine.Parser.{Parser}
use Rattle.sn_parser.specs.declared.machine.Stop.{Stop}
use Rattle.sn_parser.specs.declared.machine.Stop.TheVariants.{Memory, Refused}
use Rattle.sn_parser.specs.declared.machine.Word.TheVariants as word
use Rattle.sn_type_parser.specs.Reads.{Read, read}
use Rattle.sn_type_parser.specs.SigResidual.{Completes as SigCompletes, EndsSig}
use Rattle.sn_type_parser.specs.TypeResidual.{Completes as TypeCompletes, EndsType}
use Rattle.sn_type_parser.specs.declared.signatures.SigParser.{SigParser}
use Rattle.sn_type_parser.specs.declared.types.TypeParser.{TypeParser}

-- What one state takes another takes, where the same completes both from this token on.
pub steps_through : (before after : List Terminal → Decls → Type 0) (x : Terminal) (r : Result Parser Stop) →
    ((w : List Terminal) (all : Decls) → before (x ∷ w) all ↔ after (x ∷ w) all) → StepsFrom after x r → StepsFrom before x r
steps_through before after x (Ok s) k h = λ w all. (λ y. (h w all).0 ((k w all).0 y), λ y. (k w all).1 ((h w all).1 y))
steps_through before after x (Err Memory) k h = tt
steps_through before after x (Err Refused) k h = λ w all y. h w all ((k w all).0 y)

-- any parser that is embedded
pub through_more : {Q : Type 0} (reads next : List Terminal → Q → Type 0) (after : Q → Decls → Type 0) (x : Terminal) →
    ((w : List Terminal) (q : Q) → reads (x ∷ w) q ↔ next w q) → (w : List Terminal) (all : Decls) →
    Through reads after (x ∷ w) all ↔ Through next after w all
through_more {Q} reads next after x h w all = (go, back)
  where
    go : Through reads after (x ∷ w) all → Through next after w all
    go (through q c a) = through q ((h w q).0 c) a

    back : Through next after w all → Through reads after (x ∷ w) all
    back (through q c a) = through q ((h w q).1 c) a

pub through_done : {Q : Type 0} (reads : List Terminal → Q → Type 0) (after : Q → Decls → Type 0) (read : List Terminal → Q) (x : Terminal) →
    ((w : List Terminal) (q : Q) → reads (x ∷ w) q ↔ (read w ≡ q)) → (w : List Terminal) (all : Decls) →
    Through reads after (x ∷ w) all ↔ after (read w) all
through_done {Q} reads after read x h w all = (go, back)
  where
    go : Through reads after (x ∷ w) all → after (read w) all
    go (through q c a) = let P : Q → Type 0 = λ r. after r all in subst P (sym ((h w q).0 c)) a

    back : after (read w) all → Through reads after (x ∷ w) all
    back a = through (read w) ((h w (read w)).1 refl) a

pub through_refused : {Q : Type 0} (reads : List Terminal → Q → Type 0) (after : Q → Decls → Type 0) (x : Terminal) →
    ((w : List Terminal) (q : Q) → reads (x ∷ w) q → ⊥) → (w : List Terminal) (all : Decls) → Through reads after (x ∷ w) all → ⊥
through_refused reads after x h w all (through q c a) = h w q c

-- where it ended at the symbol y
pub through_ended : {A : Type 0} (reads : List Terminal → Read A → Type 0) (after : A → List Terminal → Decls → Type 0) (a : A) (y : SomeSymbol) (at : ℕ) (x : Terminal) →
    (x ≡ Symbol y at) × ((w : List Terminal) (q : Read A) → reads (x ∷ w) q ↔ (read a (x ∷ w) ≡ q)) → (r : Result Parser Stop) →
    ((place : ℕ) → StepsFrom (after a) (Symbol y place) r) → StepsFrom (Through reads (λ q all. after q.part q.rest all)) x r
through_ended reads after a y at x h r k =
    let P : Terminal → Type 0 = λ z. StepsFrom (after a) z r in
    steps_through (Through reads (λ q all. after q.part q.rest all)) (after a) x r
    (through_done reads (λ q all. after q.part q.rest all) (λ w. read a (x ∷ w)) x h.1)
    (subst P (sym h.0) (k at))

-- a network, which ends at a semicolon
pub network_ended : (reads : List Terminal → NetRead → Type 0) (after : Kept NetExpr → List Terminal → Decls → Type 0) (n : Kept NetExpr) (at : ℕ) (x : Terminal) →
    (x ≡ Symbol Semicolon at) × ((w : List Terminal) (q : NetRead) → reads (x ∷ w) q ↔ (read_net n (x ∷ w) ≡ q)) → (r : Result Parser Stop) →
    StepsFrom (after n) (Symbol Semicolon at) r → StepsFrom (Through reads (λ q all. after q.network q.rest all)) x r
network_ended reads after n at x h r k =
    let P : Terminal → Type 0 = λ z. StepsFrom (after n) z r in
    steps_through (Through reads (λ q all. after q.network q.rest all)) (after n) x r
    (through_done reads (λ q all. after q.network q.rest all) (λ w. read_net n (x ∷ w)) x h.1)
    (subst P (sym h.0) k)

-- a box
pub box_start : (done : Decls) (nets : List OpenNet) (name : Ident) (s : BoxDeclParser) →
    ((w us : List Terminal) (d : Kept Decl) → RestOfBox kept name w d us → BoxCompletes s w (read_box d us)) →
    ((w : List Terminal) (q : BoxRead) → BoxCompletes s w q → RestOfBox kept name w q.part q.rest) → (w : List Terminal) (all : Decls) →
    Named done nets word.Box (Name name ∷ w) all ↔ InBox done nets name.at s w all
box_start done nets name s from to w all = (go, back)
  where
    go : Named done nets word.Box (Name name ∷ w) all → InBox done nets name.at s w all
    go (box_named {d = d} {us = us} b a) = through (read_box d us) (from w us d b) a

    back : InBox done nets name.at s w all → Named done nets word.Box (Name name ∷ w) all
    back (through q c a) = box_named (to w q c) a

-- a type
type_back : {done all : Decls} {nets : List OpenNet} {name : Ident} {assign : ℕ} {parts : List TypePart} {w us : List Terminal} →
    Types w parts us → AfterType done nets name parts us all → NextType done nets name (Symbol Assign assign ∷ w) all
type_back t (ending a) = next_type t a

pub type_start : (done : Decls) (nets : List OpenNet) (name : Ident) (assign : ℕ) (s : TypeParser) →
    ((w us : List Terminal) (parts : List TypePart) → Types w parts us → EndsType us → TypeCompletes s w (read parts us)) →
    ((w : List Terminal) (q : Read (List TypePart)) → TypeCompletes s w q → Types w q.part q.rest × EndsType q.rest) → (w : List Terminal) (all : Decls) →
    NextType done nets name (Symbol Assign assign ∷ w) all ↔ InType done nets name s w all
type_start done nets name assign s from to w all = (go, back)
  where
    go : NextType done nets name (Symbol Assign assign ∷ w) all → InType done nets name s w all
    go (next_type {semicolon = at} {parts = parts} {us = us} t a) = through (read parts (Symbol Semicolon at ∷ us)) (from w (Symbol Semicolon at ∷ us) parts t refl) (ending a)

    back : InType done nets name s w all → NextType done nets name (Symbol Assign assign ∷ w) all
    back (through q c a) = type_back (to w q c).0 a

-- a type signature
sig_back : {done all : Decls} {nets : List OpenNet} {name : Ident} {assign : ℕ} {sig : Sig} {w us : List Terminal} →
    IsSig w sig us → AfterTypeSig done nets name sig us all → NextSig done nets name (Symbol Assign assign ∷ w) all
sig_back t (ending a) = next_sig t a

pub sig_start : (done : Decls) (nets : List OpenNet) (name : Ident) (assign : ℕ) (s : SigParser) →
    ((w us : List Terminal) (sig : Sig) → IsSig w sig us → EndsSig us → SigCompletes s w (read sig us)) →
    ((w : List Terminal) (q : Read Sig) → SigCompletes s w q → IsSig w q.part q.rest × EndsSig q.rest) → (w : List Terminal) (all : Decls) →
    NextSig done nets name (Symbol Assign assign ∷ w) all ↔ InTypeSig done nets name s w all
sig_start done nets name assign s from to w all = (go, back)
  where
    go : NextSig done nets name (Symbol Assign assign ∷ w) all → InTypeSig done nets name s w all
    go (next_sig {semicolon = at} {sig = sig} {us = us} t a) = through (read sig (Symbol Semicolon at ∷ us)) (from w (Symbol Semicolon at ∷ us) sig t refl) (ending a)

    back : InTypeSig done nets name s w all → NextSig done nets name (Symbol Assign assign ∷ w) all
    back (through q c a) = sig_back (to w q c).0 a

-- the signature of a net
net_sig_back : {done all : Decls} {nets : List OpenNet} {name : Ident} {opening : ℕ} {sig : Sig} {w us : List Terminal} →
    IsSig w sig us → AfterNetSig done nets name sig us all → AfterName done nets name (Symbol OpenParen opening ∷ w) all
net_sig_back t (ending a) = after_name (signature t) a

pub net_sig_start : (done : Decls) (nets : List OpenNet) (name : Ident) (opening : ℕ) (s : SigParser) →
    ((w us : List Terminal) (sig : Sig) → IsSig w sig us → EndsSig us → SigCompletes s w (read sig us)) →
    ((w : List Terminal) (q : Read Sig) → SigCompletes s w q → IsSig w q.part q.rest × EndsSig q.rest) → (w : List Terminal) (all : Decls) →
    AfterName done nets name (Symbol OpenParen opening ∷ w) all ↔ InNetSig done nets name s w all
net_sig_start done nets name opening s from to w all = (go, back)
  where
    go : AfterName done nets name (Symbol OpenParen opening ∷ w) all → InNetSig done nets name s w all
    go (after_name (signature {close = at} {s = sig} {us = us} t) a) = through (read sig (Symbol CloseParen at ∷ us)) (from w (Symbol CloseParen at ∷ us) sig t refl) (ending a)
    go (after_name no_signature a) = absurd (no_paren a)

    back : InNetSig done nets name s w all → AfterName done nets name (Symbol OpenParen opening ∷ w) all
    back (through q c a) = net_sig_back (to w q c).0 a

-- a network
network_back : {done all : Decls} {nets : List OpenNet} {net : OpenNet} {connect : ℕ} {n : Kept NetExpr} {w us : List Terminal} →
    Network kept w n us → AfterNetwork done nets net n us all → Connecting done nets net.name net.sig net.decls (Keyword Connect connect ∷ w) all
network_back m (ending a) = connecting m a

pub network_start : (done : Decls) (nets : List OpenNet) (net : OpenNet) (connect : ℕ) (s : NetParser) →
    ((w us : List Terminal) (n : Kept NetExpr) → Network kept w n us → NetEnds us → NetCompletes s w (read_net n us)) →
    ((w : List Terminal) (q : NetRead) → NetCompletes s w q → Network kept w q.network q.rest × NetEnds q.rest) → (w : List Terminal) (all : Decls) →
    Connecting done nets net.name net.sig net.decls (Keyword Connect connect ∷ w) all ↔ InNetwork done nets net s w all
network_start done nets net connect s from to w all = (go, back)
  where
    go : Connecting done nets net.name net.sig net.decls (Keyword Connect connect ∷ w) all → InNetwork done nets net s w all
    go (connecting {semicolon = at} {n = n} {us = us} m a) = through (read_net n (Symbol Semicolon at ∷ us)) (from w (Symbol Semicolon at ∷ us) n m semicolon) (ending a)

    back : InNetwork done nets net s w all → Connecting done nets net.name net.sig net.decls (Keyword Connect connect ∷ w) all
    back (through q c a) = network_back (to w q c).0 a

pub network_closed : (around : Around) (net : OpenNet) (s : NetParser) (n : Kept NetExpr) (at : ℕ) (x : Terminal) (d : Kept Decl) (next : Parser) →
    (x ≡ Symbol Semicolon at) × ((w : List Terminal) (q : NetRead) → NetCompletes s (x ∷ w) q ↔ (read_net n (x ∷ w) ≡ q)) →
    d ≡ with_connect kept net.name net.sig net.decls n → next ≡ after_declaration around net.name.at d → StepsFrom (InNetwork around.done around.nets net s) x (Ok next)
network_closed around net s n at x d next h e i =
    network_ended (NetCompletes s) (AfterNetwork around.done around.nets net) n at x h (Ok next) (λ w all. rw (i, e) (ending_from, ending_to))
