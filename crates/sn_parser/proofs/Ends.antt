-- No state is complete at the end of the tokens, but where a declaration may come next.
use Rattle.std.proofs.Common.{◌≡◌, List, [], Option, refl}
use Rattle.sn_ast.specs.Declarations.{no_inner, no_signature}
use Rattle.sn_ast.specs.declared.label.Ident.{Ident}
use Rattle.sn_ast.specs.declared.label.Sig.{Sig}
use Rattle.sn_ast.specs.declared.terminal.Terminal.{Terminal}
use Rattle.sn_box_parser.proofs.BoxDeclLaws.{no_end as no_end_box}
use Rattle.sn_net_parser.proofs.NetLaws.{no_end as no_end_network}
use Rattle.sn_parser.specs.Residual.{AfterName, AfterSig, CompletesIn, Connecting, Named, NextSig, NextType, Through, after_name, after_sig, through}
use Rattle.sn_parser.specs.Scopes.{Decls}
use Rattle.sn_parser.specs.declared.machine.Around.{Around}
use Rattle.sn_parser.specs.declared.machine.Mode.{Mode}
use Rattle.sn_parser.specs.declared.machine.Mode.TheVariants as mode
use Rattle.sn_parser.specs.declared.machine.OpenNet.{OpenNet}
use Rattle.sn_parser.specs.declared.machine.Word.{Word}
use Rattle.sn_type_parser.proofs.SigLaws.{no_end as no_end_sig}
use Rattle.sn_type_parser.proofs.TypeLaws.{no_end as no_end_type}

no_end_through : {Q : Type 0} {reads : List Terminal → Q → Type 0} {after : Q → Decls → Type 0} {all : Decls} → ((q : Q) → reads [] q → ⊥) → Through reads after [] all → ⊥
no_end_through n (through q c a) = n q c

no_end_named : {done all : Decls} {nets : List OpenNet} {kind : Word} → Named done nets kind [] all → ⊥
no_end_named n = elim n [ ]

no_end_next_type : {done all : Decls} {nets : List OpenNet} {name : Ident} → NextType done nets name [] all → ⊥
no_end_next_type n = elim n [ ]

no_end_next_sig : {done all : Decls} {nets : List OpenNet} {name : Ident} → NextSig done nets name [] all → ⊥
no_end_next_sig n = elim n [ ]

no_end_after_sig : {done all : Decls} {nets : List OpenNet} {name : Ident} {sig : Option Sig} → AfterSig done nets name sig [] all → ⊥
no_end_after_sig (after_sig no_inner c) = elim c [ ]

no_end_after_name : {done all : Decls} {nets : List OpenNet} {name : Ident} → AfterName done nets name [] all → ⊥
no_end_after_name (after_name no_signature a) = no_end_after_sig a

no_end_connecting : {done all : Decls} {nets : List OpenNet} {net : OpenNet} → Connecting done nets net.name net.sig net.decls [] all → ⊥
no_end_connecting c = elim c [ ]

pub no_end_in : (a : Around) (m : Mode) → (m ≡ mode.Want → ⊥) → (all : Decls) → CompletesIn a m [] all → ⊥
no_end_in a mode.Want n all h = n refl
no_end_in a (mode.Named kind) n all h = no_end_named h
no_end_in a (mode.InBox at rest) n all h = no_end_through (no_end_box rest) h
no_end_in a (mode.TypeAssign name) n all h = no_end_next_type h
no_end_in a (mode.InType name types) n all h = no_end_through (no_end_type types) h
no_end_in a (mode.SigAssign name) n all h = no_end_next_sig h
no_end_in a (mode.InSig name sig) n all h = no_end_through (no_end_sig sig) h
no_end_in a (mode.NetName name) n all h = no_end_after_name h
no_end_in a (mode.InNetSig name sig) n all h = no_end_through (no_end_sig sig) h
no_end_in a (mode.AfterSig name sig) n all h = no_end_after_sig h
no_end_in a (mode.Connect net) n all h = no_end_connecting h
no_end_in a (mode.InNetwork net network) n all h = no_end_through (no_end_network network) h
