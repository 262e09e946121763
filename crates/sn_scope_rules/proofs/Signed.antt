-- The nets with a signature are the same however they are found.
use Rattle.std.proofs.Common.{◌≡◌, ℕ, zero, suc, true, false, List, [], ◌∷◌, ◌++◌, Some, slice_get, refl, sym, ap, ◌∙◌, subst}
use Rattle.std.proofs.lemmas.Option.{none-some, same_Some}
use Rattle.sn_ast.specs.declared.declaration.Decl.{Decl}
use Rattle.sn_ast.specs.declared.declaration.Decl.TheOpen.{Decl-F}
use Rattle.sn_ast.specs.declared.declaration.Decl.TheViews.{out-Decl, out-NetDecl}
use Rattle.sn_ast.specs.declared.declaration.NetDecl.{NetDecl}
use Rattle.sn_ast.specs.declared.label.Sig.{Sig}
use Rattle.sn_scope_rules.specs.Claims.{Signed, SignedIn, is_net}
use Rattle.sn_scope_rules.specs.Claims.SignedIn.{no_more, no_net, signed_net, unsigned_net}
use Rattle.sn_scope_rules.specs.Standing.{StandsIn}
use Rattle.sn_scope_rules.specs.Standing.StandsIn.{here, later}
use Rattle.sn_scope_rules.specs.Visible.{Around}

-- an element that is read stands in the list
pub read_in : {A : Type 0} (xs : List A) (k : ℕ) (x : A) → slice_get xs k ≡ Some x → StandsIn x xs
read_in [] k x is = absurd (none-some x is)
read_in (y ∷ xs) zero x is = subst (λ z. StandsIn z (y ∷ xs)) (same_Some y x is) here
read_in (y ∷ xs) (suc k) x is = later (read_in xs k x is)

-- the net that a declaration is
net_in : NetDecl → Decl-F Decl NetDecl → NetDecl
net_in other (Decl-F.BoxDecl declaration) = other
net_in other (Decl-F.NetDecl net) = net
net_in other (Decl-F.TypeDecl name parts) = other
net_in other (Decl-F.SigDecl name sig) = other

pub same_net : (decl : Decl) (net other : NetDecl) → out-Decl decl ≡ Decl-F.NetDecl net → out-Decl decl ≡ Decl-F.NetDecl other → other ≡ net
unfolding net_in
same_net decl net other one two = ap (net_in net) (sym two ∙ one)

pub no_net_there : (decl : Decl) (net : NetDecl) → is_net (out-Decl decl) ≡ false → out-Decl decl ≡ Decl-F.NetDecl net → ⊥
no_net_there decl net kind at = absurd_by (sym kind ∙ ap is_net at)
  where
    absurd_by : false ≡ true → ⊥
    absurd_by wrong = cc

entry : NetDecl → Sig → Around → Signed
entry net sig outside = record { net = net; sig = sig; outside = outside }

pub signed_once : (before : List Decl) (outer : Around) (decls : List Decl) (xs : List Signed) → SignedIn before outer decls xs → (ys : List Signed)
    → SignedIn before outer decls ys → xs ≡ ys
unfolding entry
signed_once before outer decls xs no_more ys no_more = refl
signed_once before outer decls xs (no_net kind rest) ys (no_net kind' rest') = signed_once _ _ _ _ rest ys rest'
signed_once before outer decls xs (no_net {decl} kind rest) ys (unsigned_net net at none own rest') = absurd (no_net_there decl net kind at)
signed_once before outer decls xs (no_net {decl} kind rest) ys (signed_net net sig at some own rest') = absurd (no_net_there decl net kind at)
signed_once before outer decls xs (unsigned_net {decl} net at none own rest) ys (no_net kind rest') = absurd (no_net_there decl net kind at)
signed_once before outer decls xs (unsigned_net {decl} net at none own rest) ys (unsigned_net {inner = inner'} {more = more'} net' at' none' own' rest') =
    λ i. signed_once _ _ _ _ own inner' (subst (λ n. SignedIn [] (before ∷ outer) (out-NetDecl n).decls inner')
    (same_net decl net net' at at') own') i ++ signed_once _ _ _ _ rest more' rest' i
signed_once before outer decls xs (unsigned_net {decl} net at none own rest) ys (signed_net net' sig' at' some' own' rest') =
    absurd (none-some sig' (sym none ∙ ap (λ n. (out-NetDecl n).sig) (sym (same_net decl net net' at at')) ∙ some'))
signed_once before outer decls xs (signed_net {decl} net sig at some own rest) ys (no_net kind rest') = absurd (no_net_there decl net kind at)
signed_once before outer decls xs (signed_net {decl} net sig at some own rest) ys (unsigned_net net' at' none' own' rest') =
    absurd (none-some sig (sym none' ∙ ap (λ n. (out-NetDecl n).sig) (same_net decl net net' at at') ∙ some))
signed_once before outer decls xs (signed_net {decl} net sig at some own rest) ys (signed_net {inner = inner'} {more = more'} net' sig' at' some' own' rest') =
    λ i. entry (sym same i) (sigs i) (before ∷ outer) ∷ (signed_once _ _ _ _ own inner' (subst (λ n. SignedIn [] (before ∷ outer)
    (out-NetDecl n).decls inner') same own') i ++ signed_once _ _ _ _ rest more' rest' i)
  where
    same : net' ≡ net
    same = same_net decl net net' at at'

    sigs : sig ≡ sig'
    sigs = same_Some sig sig' (sym some ∙ ap (λ n. (out-NetDecl n).sig) (sym same) ∙ some')
