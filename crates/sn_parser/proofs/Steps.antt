-- One token at a time: what completes the state before it begins with it, and goes on as what completes the state after it.
use Rattle.std.proofs.Common.{ℕ, List, [], ◌∷◌, ◌≡◌, Option, None, Result, Ok, Err, refl, subst}
use Rattle.sn_ast.specs.Declarations.{Declarations, Declaration, no_more, declaration, box, net, type_name, sig_name, no_inner, inner, last_inner, more_inner, no_signature, signature}
use Rattle.sn_ast.specs.Kept.{Kept, kept}
use Rattle.sn_ast.specs.Rows.{no_parts}
use Rattle.sn_ast.specs.declared.declaration.Decl.{Decl}
use Rattle.sn_ast.specs.declared.label.Ident.{Ident}
use Rattle.sn_ast.specs.declared.label.Sig.{Sig}
use Rattle.sn_ast.specs.declared.terminal.Keyword.{Keyword as SomeKeyword}
use Rattle.sn_ast.specs.declared.terminal.Keyword.TheVariants.{Box, Net, Connect, «Type» as TypeWord, TypeSig}
use Rattle.sn_ast.specs.declared.terminal.Symbol.{Symbol as SomeSymbol}
use Rattle.sn_ast.specs.declared.terminal.Symbol.TheVariants.{OpenParen, OpenBrace, CloseBrace, Assign}
use Rattle.sn_ast.specs.declared.terminal.Terminal.{Terminal}
use Rattle.sn_ast.specs.declared.terminal.Terminal.TheVariants.{Name, Keyword, Symbol}
use Rattle.sn_parser.specs.Residual.{LeadsTo, StepsFrom, Next, Connecting, AfterSig, AfterName, NextType, NextSig, Named, Ending, outermost, inside, connecting, ending, after_sig, after_name, next_type, next_sig, box_named, net_named, type_named, sig_named}
use Rattle.sn_parser.specs.Scopes.{Decls}
use Rattle.sn_parser.specs.declared.machine.OpenNet.{OpenNet}
use Rattle.sn_parser.specs.declared.machine.Parser.{Parser}
use Rattle.sn_parser.specs.declared.machine.Stop.{Stop}
use Rattle.sn_parser.specs.declared.machine.Word.{Word}
use Rattle.sn_parser.specs.declared.machine.Word.TheVariants as word

pub box_from : {done all : Decls} {nets : List OpenNet} {at : ℕ} {w : List Terminal} → Next done nets (Keyword Box at ∷ w) all → Named done nets word.Box w all
box_from (outermost (declaration (box r) ds)) = box_named r (outermost ds)
box_from (inside (more_inner (box r) m) a) = box_named r (inside m a)

pub box_to : {done all : Decls} {nets : List OpenNet} {at : ℕ} {w : List Terminal} → Named done nets word.Box w all → Next done nets (Keyword Box at ∷ w) all
box_to {nets = []} (box_named r (outermost ds)) = outermost (declaration (box r) ds)
box_to {nets = n ∷ nets} (box_named r (inside m a)) = inside (more_inner (box r) m) a

pub net_from : {done all : Decls} {nets : List OpenNet} {at : ℕ} {w : List Terminal} → Next done nets (Keyword Net at ∷ w) all → Named done nets word.Net w all
net_from (outermost (declaration (net s i n) ds)) = net_named (after_name s (after_sig i (connecting n (outermost ds))))
net_from (inside (more_inner (net s i n) m) a) = net_named (after_name s (after_sig i (connecting n (inside m a))))

pub net_to : {done all : Decls} {nets : List OpenNet} {at : ℕ} {w : List Terminal} → Named done nets word.Net w all → Next done nets (Keyword Net at ∷ w) all
net_to {nets = []} (net_named (after_name s (after_sig i (connecting n (outermost ds))))) = outermost (declaration (net s i n) ds)
net_to {nets = k ∷ nets} (net_named (after_name s (after_sig i (connecting n (inside m a))))) = inside (more_inner (net s i n) m) a

pub type_from : {done all : Decls} {nets : List OpenNet} {at : ℕ} {w : List Terminal} → Next done nets (Keyword TypeWord at ∷ w) all → Named done nets word.«Type» w all
type_from (outermost (declaration (type_name t) ds)) = type_named (next_type t (outermost ds))
type_from (inside (more_inner (type_name t) m) a) = type_named (next_type t (inside m a))

pub type_to : {done all : Decls} {nets : List OpenNet} {at : ℕ} {w : List Terminal} → Named done nets word.«Type» w all → Next done nets (Keyword TypeWord at ∷ w) all
type_to {nets = []} (type_named (next_type t (outermost ds))) = outermost (declaration (type_name t) ds)
type_to {nets = k ∷ nets} (type_named (next_type t (inside m a))) = inside (more_inner (type_name t) m) a

pub sig_from : {done all : Decls} {nets : List OpenNet} {at : ℕ} {w : List Terminal} → Next done nets (Keyword TypeSig at ∷ w) all → Named done nets word.TypeSig w all
sig_from (outermost (declaration (sig_name t) ds)) = sig_named (next_sig t (outermost ds))
sig_from (inside (more_inner (sig_name t) m) a) = sig_named (next_sig t (inside m a))

pub sig_to : {done all : Decls} {nets : List OpenNet} {at : ℕ} {w : List Terminal} → Named done nets word.TypeSig w all → Next done nets (Keyword TypeSig at ∷ w) all
sig_to {nets = []} (sig_named (next_sig t (outermost ds))) = outermost (declaration (sig_name t) ds)
sig_to {nets = k ∷ nets} (sig_named (next_sig t (inside m a))) = inside (more_inner (sig_name t) m) a

pub close_from : {done all : Decls} {k : OpenNet} {nets : List OpenNet} {at : ℕ} {w : List Terminal} →
    Next done (k ∷ nets) (Symbol CloseBrace at ∷ w) all → Connecting done nets k.name k.sig k.decls w all
close_from (inside last_inner a) = a
close_from (inside (more_inner d m) a) = elim d [ ]

pub close_to : {done all : Decls} {k : OpenNet} {nets : List OpenNet} {at : ℕ} {w : List Terminal} →
    Connecting done nets k.name k.sig k.decls w all → Next done (k ∷ nets) (Symbol CloseBrace at ∷ w) all
close_to a = inside last_inner a

pub inner_from : {done all : Decls} {nets : List OpenNet} {name : Ident} {sig : Option Sig} {at : ℕ} {w : List Terminal} →
    AfterSig done nets name sig (Symbol OpenBrace at ∷ w) all → Next done (record { name = name; sig = sig; decls = no_parts kept } ∷ nets) w all
inner_from (after_sig (inner m) c) = inside m c
inner_from (after_sig no_inner c) = elim c [ ]

pub inner_to : {done all : Decls} {nets : List OpenNet} {name : Ident} {sig : Option Sig} {at : ℕ} {w : List Terminal} →
    Next done (record { name = name; sig = sig; decls = no_parts kept } ∷ nets) w all → AfterSig done nets name sig (Symbol OpenBrace at ∷ w) all
inner_to (inside m c) = after_sig (inner m) c

pub no_inner_from : {done all : Decls} {nets : List OpenNet} {name : Ident} {sig : Option Sig} {x : Terminal} {w : List Terminal} →
    ((at : ℕ) → x ≡ Symbol OpenBrace at → ⊥) → AfterSig done nets name sig (x ∷ w) all → Connecting done nets name sig (no_parts kept) (x ∷ w) all
no_inner_from n (after_sig no_inner c) = c
no_inner_from n (after_sig (inner {opening} m) c) = absurd (n opening refl)

pub no_inner_to : {done all : Decls} {nets : List OpenNet} {name : Ident} {sig : Option Sig} {w : List Terminal} →
    Connecting done nets name sig (no_parts kept) w all → AfterSig done nets name sig w all
no_inner_to c = after_sig no_inner c

pub no_sig_from : {done all : Decls} {nets : List OpenNet} {name : Ident} {x : Terminal} {w : List Terminal} →
    ((at : ℕ) → x ≡ Symbol OpenParen at → ⊥) → AfterName done nets name (x ∷ w) all → AfterSig done nets name None (x ∷ w) all
no_sig_from n (after_name no_signature a) = a
no_sig_from n (after_name (signature {opening} s) a) = absurd (n opening refl)

pub no_sig_to : {done all : Decls} {nets : List OpenNet} {name : Ident} {w : List Terminal} → AfterSig done nets name None w all → AfterName done nets name w all
no_sig_to a = after_name no_signature a

pub no_paren : {done all : Decls} {nets : List OpenNet} {name : Ident} {sig : Option Sig} {at : ℕ} {w : List Terminal} → AfterSig done nets name sig (Symbol OpenParen at ∷ w) all → ⊥
no_paren (after_sig no_inner c) = elim c [ ]

pub end_from : {done all : Decls} → Next done [] [] all → done ≡ all
end_from (outermost no_more) = refl
end_from (outermost (declaration d ds)) = elim d [ ]

pub end_to : {done all : Decls} → done ≡ all → Next done [] [] all
end_to {done} e = let P : Decls → Type 0 = λ x. Next done [] [] x in subst P e (outermost no_more)

pub start_from : {w : List Terminal} {all : Decls} → Declarations kept [] w all → Next [] [] w all
start_from d = outermost d

pub start_to : {w : List Terminal} {all : Decls} → Next [] [] w all → Declarations kept [] w all
start_to (outermost d) = d

-- What may not come.
pub no_end_inside : {done all : Decls} {k : OpenNet} {nets : List OpenNet} → Next done (k ∷ nets) [] all → ⊥
no_end_inside (inside (more_inner d m) a) = elim d [ ]

pub no_outer : {done all : Decls} {at : ℕ} {w : List Terminal} → Next done [] (Symbol CloseBrace at ∷ w) all → ⊥
no_outer (outermost (declaration d ds)) = elim d [ ]

no_declaration : {at : ℕ} {d : Kept Decl} {w us : List Terminal} (x : Terminal) → ((k : SomeKeyword) (o : ℕ) → x ≡ Keyword k o → ⊥) → Declaration kept (x ∷ w) at d us → ⊥
no_declaration x n (box {at = o} r) = n Box o refl
no_declaration x n (net {at = o} s i m) = n Net o refl
no_declaration x n (type_name {at = o} t) = n TypeWord o refl
no_declaration x n (sig_name {at = o} t) = n TypeSig o refl

pub no_next : {done all : Decls} {nets : List OpenNet} {w : List Terminal} (x : Terminal) → ((k : SomeKeyword) (o : ℕ) → x ≡ Keyword k o → ⊥) →
    ((o : ℕ) → x ≡ Symbol CloseBrace o → ⊥) → Next done nets (x ∷ w) all → ⊥
no_next x n m (outermost (declaration d ds)) = no_declaration x n d
no_next x n m (inside (more_inner d k) a) = no_declaration x n d
no_next x n m (inside (last_inner {close}) a) = m close refl

no_word : {at o : ℕ} {d : Kept Decl} {w us : List Terminal} (k : SomeKeyword) → (k ≡ Box → ⊥) → (k ≡ Net → ⊥) → (k ≡ TypeWord → ⊥) → (k ≡ TypeSig → ⊥) →
    Declaration kept (Keyword k o ∷ w) at d us → ⊥
no_word k a b c e (box r) = a refl
no_word k a b c e (net s i m) = b refl
no_word k a b c e (type_name t) = c refl
no_word k a b c e (sig_name t) = e refl

pub no_keyword : {done all : Decls} {nets : List OpenNet} {o : ℕ} {w : List Terminal} (k : SomeKeyword) → (k ≡ Box → ⊥) → (k ≡ Net → ⊥) → (k ≡ TypeWord → ⊥) → (k ≡ TypeSig → ⊥) →
    Next done nets (Keyword k o ∷ w) all → ⊥
no_keyword k a b c e (outermost (declaration d ds)) = no_word k a b c e d
no_keyword k a b c e (inside (more_inner d m) r) = no_word k a b c e d

pub no_name : {done all : Decls} {nets : List OpenNet} {w : List Terminal} {k : Word} (x : Terminal) → ((i : Ident) → x ≡ Name i → ⊥) → Named done nets k (x ∷ w) all → ⊥
no_name x n (box_named {name} r a) = n name refl
no_name x n (net_named {name} a) = n name refl
no_name x n (type_named {name} a) = n name refl
no_name x n (sig_named {name} a) = n name refl

pub no_type : {done all : Decls} {nets : List OpenNet} {name : Ident} {w : List Terminal} (x : Terminal) → ((o : ℕ) → x ≡ Symbol Assign o → ⊥) → NextType done nets name (x ∷ w) all → ⊥
no_type x n (next_type {assign} t a) = n assign refl

pub no_sig : {done all : Decls} {nets : List OpenNet} {name : Ident} {w : List Terminal} (x : Terminal) → ((o : ℕ) → x ≡ Symbol Assign o → ⊥) → NextSig done nets name (x ∷ w) all → ⊥
no_sig x n (next_sig {assign} t a) = n assign refl

pub no_connect : {done all : Decls} {nets : List OpenNet} {name : Ident} {sig : Option Sig} {ds : Kept (List Decl)} {w : List Terminal} (x : Terminal) →
    ((o : ℕ) → x ≡ Keyword Connect o → ⊥) → Connecting done nets name sig ds (x ∷ w) all → ⊥
no_connect x n (connecting {connect} m a) = n connect refl

pub net_name_from : {done all : Decls} {nets : List OpenNet} {name : Ident} {w : List Terminal} → Named done nets word.Net (Name name ∷ w) all → AfterName done nets name w all
net_name_from (net_named a) = a

pub net_name_to : {done all : Decls} {nets : List OpenNet} {name : Ident} {w : List Terminal} → AfterName done nets name w all → Named done nets word.Net (Name name ∷ w) all
net_name_to a = net_named a

pub type_name_from : {done all : Decls} {nets : List OpenNet} {name : Ident} {w : List Terminal} → Named done nets word.«Type» (Name name ∷ w) all → NextType done nets name w all
type_name_from (type_named a) = a

pub type_name_to : {done all : Decls} {nets : List OpenNet} {name : Ident} {w : List Terminal} → NextType done nets name w all → Named done nets word.«Type» (Name name ∷ w) all
type_name_to a = type_named a

pub sig_name_from : {done all : Decls} {nets : List OpenNet} {name : Ident} {w : List Terminal} → Named done nets word.TypeSig (Name name ∷ w) all → NextSig done nets name w all
sig_name_from (sig_named a) = a

pub sig_name_to : {done all : Decls} {nets : List OpenNet} {name : Ident} {w : List Terminal} → NextSig done nets name w all → Named done nets word.TypeSig (Name name ∷ w) all
sig_name_to a = sig_named a

-- no other symbol where a declaration or the end of a scope comes next
pub no_close : {done all : Decls} {nets : List OpenNet} {at : ℕ} {w : List Terminal} (y : SomeSymbol) → (y ≡ CloseBrace → ⊥) → Next done nets (Symbol y at ∷ w) all → ⊥
no_close y n (outermost (declaration d ds)) = elim d [ ]
no_close y n (inside (more_inner d k) a) = elim d [ ]
no_close y n (inside last_inner a) = n refl

-- the symbol that ends a part
pub ending_from : {s y : SomeSymbol} {after : List Terminal → Decls → Type 0} {all : Decls} {at : ℕ} {w : List Terminal} → Ending s after (Symbol y at ∷ w) all → after w all
ending_from (ending a) = a

pub ending_to : {s : SomeSymbol} {after : List Terminal → Decls → Type 0} {all : Decls} {at : ℕ} {w : List Terminal} → after w all → Ending s after (Symbol s at ∷ w) all
ending_to a = ending a

pub no_ending : {s : SomeSymbol} {after : List Terminal → Decls → Type 0} {all : Decls} {at : ℕ} {w : List Terminal} (y : SomeSymbol) → (y ≡ s → ⊥) → Ending s after (Symbol y at ∷ w) all → ⊥
no_ending y n (ending a) = n refl

-- Where a step leads to the state p unless memory is wanted, it steps as p does.
pub leads : (before : List Terminal → Decls → Type 0) (x : Terminal) (p : Parser) (r : Result Parser Stop) → LeadsTo p r → StepsFrom before x (Ok p) → StepsFrom before x r
leads before x p (Ok s) e h = rw e h
leads before x p (Err stop) e h = rw e tt
