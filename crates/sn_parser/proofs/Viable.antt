-- Each state of the parser can be completed: by the least that is still needed, and then the open nets are closed.
use Rattle.std.proofs.Common.{ℕ, List, [], ◌∷◌, Option, Some, None, refl}
use Rattle.sn_ast.specs.Declarations.{last_inner, no_inner, no_more, no_signature, with_connect}
use Rattle.sn_ast.specs.Kept.{Kept, kept}
use Rattle.sn_ast.specs.Labels.{IsSig, Types, last_part, named, signature, types}
use Rattle.sn_ast.specs.Networks.{Network, bare, final, last, name as by_name, network, post, serial}
use Rattle.sn_ast.specs.Rows.{no_parts}
use Rattle.sn_ast.specs.declared.declaration.Decl.{Decl}
use Rattle.sn_ast.specs.declared.declaration.Decl.TheVariants.{TypeDecl, SigDecl}
use Rattle.sn_ast.specs.declared.label.Ident.{Ident}
use Rattle.sn_ast.specs.declared.label.Sig.{Sig}
use Rattle.sn_ast.specs.declared.label.Sig.TheVariants.{Named as NamedSig}
use Rattle.sn_ast.specs.declared.label.TypePart.TheVariants.{Named as NamedPart}
use Rattle.sn_ast.specs.declared.network.NetExpr.{NetExpr}
use Rattle.sn_ast.specs.declared.network.NetForm.TheVariants as net_form
use Rattle.sn_ast.specs.declared.terminal.Keyword.TheVariants.{Connect}
use Rattle.sn_ast.specs.declared.terminal.Symbol.TheVariants.{Assign, CloseBrace, CloseParen, Semicolon}
use Rattle.sn_ast.specs.declared.terminal.Terminal.{Terminal}
use Rattle.sn_ast.specs.declared.terminal.Terminal.TheVariants.{Name, Keyword, Symbol}
use Rattle.sn_box_parser.proofs.BoxDeclLaws.{completable as box_completable}
use Rattle.sn_box_parser.specs.declared.machine.BoxDeclParser.{BoxDeclParser}
use Rattle.sn_box_parser.specs.declared.machine.Mode.TheVariants as box_mode
use Rattle.sn_net_parser.proofs.NetLaws.{completable as net_completable}
use Rattle.sn_parser.specs.Residual.{After, AfterName, AfterSig, Completes, CompletesIn, Connecting, Named, Next, NextSig, NextType, after_name, after_sig, box_named, connecting, ending, inside, net_named, next_sig, next_type, outermost, sig_named, through, type_named}
use Rattle.sn_parser.specs.Scopes.{Decls, done_with, with_inner}
use Rattle.sn_parser.specs.declared.machine.Around.{Around}
use Rattle.sn_parser.specs.declared.machine.Mode.{Mode}
use Rattle.sn_parser.specs.declared.machine.Mode.TheVariants as mode
use Rattle.sn_parser.specs.declared.machine.OpenNet.{OpenNet}
use Rattle.sn_parser.specs.declared.machine.Parser.{Parser}
use Rattle.sn_parser.specs.declared.machine.Word.{Word}
use Rattle.sn_parser.specs.declared.machine.Word.TheVariants as word
use Rattle.sn_type_parser.proofs.SigLaws.{completable as sig_completable}
use Rattle.sn_type_parser.proofs.TypeLaws.{completable as type_completable}
use Rattle.sn_type_parser.proofs.Witnesses.{a_name}

-- "}" and a network for each open net
abbrev a_network : List Terminal → List Terminal
a_network us = Keyword Connect 0 ∷ Name a_name ∷ Symbol Semicolon 0 ∷ us

closers : List OpenNet → List Terminal
closers [] = []
closers (net ∷ nets) = Symbol CloseBrace 0 ∷ a_network (closers nets)

abbrev named_network : Kept NetExpr
named_network = kept.leaf (record { at = 0; form = net_form.Name a_name })

network_read : (us : List Terminal) → Network kept (Name a_name ∷ Symbol Semicolon 0 ∷ us) named_network (Symbol Semicolon 0 ∷ us)
network_read us = network (serial (post by_name bare) last) final

abbrev connected : OpenNet → Kept Decl
connected net = with_connect kept net.name net.sig net.decls named_network

abbrev Goes : (List Terminal → Decls → Type 0) → List Terminal → Type 0
Goes before w = (all : Decls) × before w all

abbrev Completable : (List Terminal → Decls → Type 0) → Type 0
Completable before = (w : List Terminal) × (all : Decls) × before w all

closes : (nets : List OpenNet) (done : Decls) (net : OpenNet) → Goes (Next done (net ∷ nets)) (Symbol CloseBrace 0 ∷ a_network (closers nets))
unfolding closers
closes [] done net =
    (done_with done [] net.name.at (connected net), inside last_inner (connecting (network_read []) (outermost no_more)))
closes (k ∷ nets) done net =
    let r = closes nets done (with_inner k (connected net)) in
    (r.0, inside last_inner (connecting (network_read (Symbol CloseBrace 0 ∷ a_network (closers nets))) r.1))

goes : (done : Decls) (nets : List OpenNet) → Goes (Next done nets) (closers nets)
unfolding closers
goes done [] = (done, outermost no_more)
goes done (net ∷ nets) = closes nets done net

goes_after : (done : Decls) (nets : List OpenNet) (at : ℕ) (d : Kept Decl) → Goes (After done nets at d) (closers nets)
unfolding closers
goes_after done [] at d = (done_with done [] at d, outermost no_more)
goes_after done (net ∷ nets) at d = closes nets done (with_inner net d)

goes_connecting : (done : Decls) (nets : List OpenNet) (net : OpenNet) → Goes (Connecting done nets net.name net.sig net.decls) (a_network (closers nets))
goes_connecting done nets net = let r = goes_after done nets net.name.at (connected net) in (r.0, connecting (network_read (closers nets)) r.1)

goes_after_sig : (done : Decls) (nets : List OpenNet) (name : Ident) (sig : Option Sig) → Goes (AfterSig done nets name sig) (a_network (closers nets))
goes_after_sig done nets name sig =
    let r = goes_connecting done nets (record { name = name; sig = sig; decls = no_parts kept }) in (r.0, after_sig no_inner r.1)

goes_after_name : (done : Decls) (nets : List OpenNet) (name : Ident) → Goes (AfterName done nets name) (a_network (closers nets))
goes_after_name done nets name = let r = goes_after_sig done nets name None in (r.0, after_name no_signature r.1)

abbrev assigned : List Terminal → List Terminal
assigned us = Symbol Assign 0 ∷ Name a_name ∷ Symbol Semicolon 0 ∷ us

type_read : (us : List Terminal) → Types (Name a_name ∷ us) (NamedPart a_name ∷ []) us
type_read us = types named last_part

goes_type : (done : Decls) (nets : List OpenNet) (name : Ident) → Goes (NextType done nets name) (assigned (closers nets))
goes_type done nets name =
    let r = goes_after done nets name.at (kept.leaf (TypeDecl name (NamedPart a_name ∷ []))) in
    (r.0, next_type (type_read (Symbol Semicolon 0 ∷ closers nets)) r.1)

sig_read : (us : List Terminal) → IsSig (Name a_name ∷ us) (NamedSig a_name) us
sig_read us = signature

goes_sig : (done : Decls) (nets : List OpenNet) (name : Ident) → Goes (NextSig done nets name) (assigned (closers nets))
goes_sig done nets name =
    let r = goes_after done nets name.at (kept.leaf (SigDecl name (NamedSig a_name))) in
    (r.0, next_sig (sig_read (Symbol Semicolon 0 ∷ closers nets)) r.1)

abbrev box_named_so : Ident → BoxDeclParser
box_named_so name = record { mode = box_mode.Opening name }

completes_named : (done : Decls) (nets : List OpenNet) (kind : Word) → Completable (Named done nets kind)
completes_named done nets word.Box =
    let k = box_completable (box_named_so a_name) (closers nets) in
    let r = goes_after done nets 0 k.1 in
    (Name a_name ∷ k.0, r.0, box_named k.2 r.1)
completes_named done nets word.Net = let r = goes_after_name done nets a_name in (Name a_name ∷ a_network (closers nets), r.0, net_named r.1)
completes_named done nets word.«Type» = let r = goes_type done nets a_name in (Name a_name ∷ assigned (closers nets), r.0, type_named r.1)
completes_named done nets word.TypeSig = let r = goes_sig done nets a_name in (Name a_name ∷ assigned (closers nets), r.0, sig_named r.1)

completes_in : (a : Around) (m : Mode) → Completable (CompletesIn a m)
completes_in a mode.Want = let r = goes a.done a.nets in (closers a.nets, r.0, r.1)
completes_in a (mode.Named kind) = completes_named a.done a.nets kind
completes_in a (mode.InBox at rest) =
    let k = box_completable rest (closers a.nets) in
    let r = goes_after a.done a.nets at k.1 in
    (k.0, r.0, through _ k.2 r.1)
completes_in a (mode.TypeAssign name) = let r = goes_type a.done a.nets name in (assigned (closers a.nets), r.0, r.1)
completes_in a (mode.InType name parser) =
    let k = type_completable parser (Symbol Semicolon 0 ∷ closers a.nets) refl in
    let r = goes_after a.done a.nets name.at (kept.leaf (TypeDecl name k.1)) in
    (k.0, r.0, through _ k.2 (ending r.1))
completes_in a (mode.SigAssign name) = let r = goes_sig a.done a.nets name in (assigned (closers a.nets), r.0, r.1)
completes_in a (mode.InSig name parser) =
    let k = sig_completable parser (Symbol Semicolon 0 ∷ closers a.nets) refl in
    let r = goes_after a.done a.nets name.at (kept.leaf (SigDecl name k.1)) in
    (k.0, r.0, through _ k.2 (ending r.1))
completes_in a (mode.NetName name) = let r = goes_after_name a.done a.nets name in (a_network (closers a.nets), r.0, r.1)
completes_in a (mode.InNetSig name parser) =
    let k = sig_completable parser (Symbol CloseParen 0 ∷ a_network (closers a.nets)) refl in
    let r = goes_after_sig a.done a.nets name (Some k.1) in
    (k.0, r.0, through _ k.2 (ending r.1))
completes_in a (mode.AfterSig name sig) = let r = goes_after_sig a.done a.nets name sig in (a_network (closers a.nets), r.0, r.1)
completes_in a (mode.Connect net) = let r = goes_connecting a.done a.nets net in (a_network (closers a.nets), r.0, r.1)
completes_in a (mode.InNetwork net parser) =
    let k = net_completable parser 0 (closers a.nets) in
    let r = goes_after a.done a.nets net.name.at (with_connect kept net.name net.sig net.decls k.1) in
    (k.0, r.0, through _ k.2 (ending r.1))

pub completable : (s : Parser) → Completable (Completes s)
completable s = completes_in s.around s.mode
