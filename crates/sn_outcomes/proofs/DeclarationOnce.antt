-- Tokens spell one list of declarations.
use Rattle.std.proofs.Common.{◌≡◌, ℕ, ◌<◌, Bool, true, false, List, [], ◌∷◌, Option, Some, refl, sym, ap, subst, arith}
use Rattle.sn_ast.specs.BoxExprs.{BoxExpr, sequence}
use Rattle.sn_ast.specs.Declarations.{function_of, with_body, with_connect}
use Rattle.sn_ast.specs.Declarations.{MoreTuples, last_tuple, more_tuples, MoreParams, last_param, more_params, Params, no_params, params, Function, function, Body, body, with_function, RestOfBox, rest_of_box, Signature, no_signature, signature, Declaration, box, net, type_name, sig_name, Inner, no_inner, inner, MoreInner, last_inner, more_inner, Declarations, no_more, declaration}
use Rattle.sn_ast.specs.Labels.{IsTuple}
use Rattle.sn_ast.specs.Measures.{Measuring}
use Rattle.sn_ast.specs.Networks.{Network}
use Rattle.sn_ast.specs.Rows.{append, no_parts, with_part}
use Rattle.sn_ast.specs.declared.declaration.Decl.{Decl}
use Rattle.sn_ast.specs.declared.declaration.Decl.TheVariants.{TypeDecl, SigDecl}
use Rattle.sn_ast.specs.declared.declaration.FunDecl.{FunDecl}
use Rattle.sn_ast.specs.declared.label.Ident.{Ident}
use Rattle.sn_ast.specs.declared.label.Sig.{Sig}
use Rattle.sn_ast.specs.declared.label.Tuple.{Tuple}
use Rattle.sn_ast.specs.declared.terminal.Keyword.TheVariants.{Connect}
use Rattle.sn_ast.specs.declared.terminal.Symbol.TheVariants.{OpenBrace, Semicolon}
use Rattle.sn_ast.specs.declared.terminal.Terminal.{Terminal}
use Rattle.sn_ast.specs.declared.terminal.Terminal.TheVariants.{Keyword, Symbol}
use Rattle.sn_outcomes.proofs.BoxOnce.{box_expr_begins, box_expr_once, sequence_once}
use Rattle.sn_outcomes.proofs.Fronts.{rank, behind, along}
use Rattle.sn_outcomes.proofs.LabelOnce.{tuple_once, types_once, sig_once}
use Rattle.sn_outcomes.proofs.NetworkOnce.{network_once}

more_tuples_once : {so_far all others : List Tuple} {ts us vs : List Terminal} → MoreTuples so_far ts all us → MoreTuples so_far ts others vs → (all ≡ others) × (us ≡ vs)
more_tuples_once last_tuple last_tuple = (refl, refl)
more_tuples_once {so_far} {others} {vs} (more_tuples a d) (more_tuples b k) =
    let first = tuple_once a b in
    more_tuples_once d (along (λ x ts. MoreTuples (append so_far x) ts others vs) first.0 first.1 k)

more_params_once : {so_far all others : List Ident} {ts us vs : List Terminal} → MoreParams so_far ts all us → MoreParams so_far ts others vs → (all ≡ others) × (us ≡ vs)
more_params_once last_param last_param = (refl, refl)
more_params_once (more_params d) (more_params k) = more_params_once d k

params_once : {all others : List Ident} {ts us vs : List Terminal} → Params ts all us → Params ts others vs → (all ≡ others) × (us ≡ vs)
params_once no_params no_params = (refl, refl)
params_once (params d) (params k) = more_params_once d k

signature_once : {s r : Option Sig} {ts us vs : List Terminal} → Signature ts s us → Signature ts r vs → rank us < 7 → rank vs < 7 → (s ≡ r) × (us ≡ vs)
signature_once no_signature no_signature p q = (refl, refl)
signature_once no_signature (signature k) p q = absurd (omega arith)
signature_once (signature d) no_signature p q = absurd (omega arith)
signature_once (signature d) (signature k) p q =
    let first = sig_once d k (omega arith) (omega arith) in
    (ap Some first.0, ap behind first.1)

-- the first token opens a scope
abbrev opens_scope : List Terminal → Bool
opens_scope (Symbol OpenBrace at ∷ ts) = true
opens_scope ts = false

module _ {F : Type 0 → Type 0} (m : Measuring F) where
  function_once : {f g : F FunDecl} {ts us vs : List Terminal} → Function m ts f us → Function m ts g vs → (f ≡ g) × (us ≡ vs)
  function_once (function {name = name} d e) (function {semicolon = semicolon'} {e = e'} {vs = ws'} k e_is) =
      let first = params_once d k in
      let second = box_expr_once m e (subst (λ ts. BoxExpr m ts e' (Symbol Semicolon semicolon' ∷ ws')) (sym (ap behind first.1)) e_is) (omega arith) (omega arith) in
      (λ i. m.each (function_of name (first.0 i)) (second.0 i), ap behind second.1)

  body_once : {name : Ident} {input : Tuple} {outputs : List Tuple} {funs : F (List FunDecl)} {d e : F Decl} {ts us vs : List Terminal} →
      Body m name input outputs funs ts d us → Body m name input outputs funs ts e vs → (d ≡ e) × (us ≡ vs)
  body_once {name} {input} {outputs} {funs} (body d) (body k) =
      let first = sequence_once m d k (omega arith) (omega arith) in
      (ap (with_body m name input outputs funs) first.0, ap behind first.1)
  body_once (body (sequence a s)) (with_function (function p e) k) = let begins = box_expr_begins m a in grind arith
  body_once (with_function (function p e) k) (body (sequence a s)) = let begins = box_expr_begins m a in grind arith
  body_once {name} {input} {outputs} {funs} {e} {vs} (with_function f d) (with_function g k) =
      let first = function_once f g in
      body_once d (along (λ x ts. Body m name input outputs x ts e vs) (ap (with_part m funs) first.0) first.1 k)

  rest_of_box_once : {name : Ident} {d e : F Decl} {ts us vs : List Terminal} → RestOfBox m name ts d us → RestOfBox m name ts e vs → (d ≡ e) × (us ≡ vs)
  rest_of_box_once {name} {e} {vs} (rest_of_box {input = i} {t = t} {outputs = o} a b c d) (rest_of_box {brace = brace'} {t = t'} {outputs = o'} {vs = vs'} {ws = ws'} a' b' c' d') =
      let first = tuple_once a a' in
      let second = tuple_once b (subst (λ ts. IsTuple ts t' vs') (sym (ap behind first.1)) b') in
      let third = more_tuples_once c (along (λ x ts. MoreTuples (x ∷ []) ts o' (Symbol OpenBrace brace' ∷ ws')) second.0 second.1 c') in
      let head : (i, o) ≡ (_, o') = λ j. (first.0 j, third.0 j) in
      body_once d (along (λ (x : Tuple × List Tuple) ts. Body m name x.0 x.1 (no_parts m) ts e vs) head (ap behind third.1) d')

  -- what follows a signature
  inner_front : {d : F (List Decl)} {at : ℕ} {ts us : List Terminal} → Inner m ts d (Keyword Connect at ∷ us) → rank ts < 7
  inner_front no_inner = omega arith
  inner_front (inner d) = omega arith

  mutual
    pub declaration_once : {at to : ℕ} {d e : F Decl} {ts us vs : List Terminal} → Declaration m ts at d us → Declaration m ts to e vs → (at ≡ to) × (d ≡ e) × (us ≡ vs)
    declaration_once (box d) (box k) = let first = rest_of_box_once d k in (refl, first.0, first.1)
    declaration_once (net {name = name} s d n) (net {connect = connect'} {semicolon = semicolon'} {decls = decls'} {n = n'} {vs = vs'} {ws = ws'} s' d' n_is) =
        let first = signature_once s s' (inner_front d) (inner_front d') in
        let second = inner_once d (subst (λ ts. Inner m ts decls' (Keyword Connect connect' ∷ vs')) (sym first.1) d') refl refl in
        let third = network_once m n (subst (λ ts. Network m ts n' (Symbol Semicolon semicolon' ∷ ws')) (sym (ap behind second.1)) n_is) (omega arith) (omega arith) in
        (refl, λ i. with_connect m name (first.0 i) (second.0 i) (third.0 i), ap behind third.1)
    declaration_once (type_name {name = name} d) (type_name k) =
        let first = types_once d k (omega arith) (omega arith) in
        (refl, ap (λ parts. m.leaf (TypeDecl name parts)) first.0, ap behind first.1)
    declaration_once (sig_name {name = name} d) (sig_name k) =
        let first = sig_once d k (omega arith) (omega arith) in
        (refl, ap (λ s. m.leaf (SigDecl name s)) first.0, ap behind first.1)

    inner_once : {d e : F (List Decl)} {ts us vs : List Terminal} → Inner m ts d us → Inner m ts e vs → opens_scope us ≡ false → opens_scope vs ≡ false → (d ≡ e) × (us ≡ vs)
    inner_once no_inner no_inner p q = (refl, refl)
    inner_once no_inner (inner k) p q = absurd cc
    inner_once (inner d) no_inner p q = absurd cc
    inner_once (inner d) (inner k) p q = more_inner_once d k

    more_inner_once : {so_far d e : F (List Decl)} {ts us vs : List Terminal} → MoreInner m so_far ts d us → MoreInner m so_far ts e vs → (d ≡ e) × (us ≡ vs)
    more_inner_once last_inner last_inner = (refl, refl)
    more_inner_once last_inner (more_inner a k) = elim a [ ]
    more_inner_once (more_inner a d) last_inner = elim a [ ]
    more_inner_once {so_far} {e} {vs} (more_inner a d) (more_inner b k) =
        let first = declaration_once a b in
        more_inner_once d (along (λ x ts. MoreInner m x ts e vs) (ap (with_part m so_far) first.1) first.2 k)

  pub declarations_once : {so_far d e : List (ℕ × F Decl)} {ts : List Terminal} → Declarations m so_far ts d → Declarations m so_far ts e → d ≡ e
  declarations_once no_more no_more = refl
  declarations_once no_more (declaration a k) = elim a [ ]
  declarations_once (declaration a d) no_more = elim a [ ]
  declarations_once {so_far} {e} (declaration a d) (declaration b k) =
      let first = declaration_once a b in
      declarations_once d (along (λ x ts. Declarations m x ts e) (λ i. append so_far (first.0 i, first.1 i)) first.2 k)
