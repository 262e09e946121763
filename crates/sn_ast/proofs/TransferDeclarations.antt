-- A map of parts carries the grammar of declarations both ways.
use Rattle.std.proofs.Common.{ℕ, List, [], ◌≡◌, map, refl, ◌∙◌}
use Rattle.std.proofs.lemmas.List.{map_push}
use Rattle.sn_ast.proofs.Maps.{Map, each_of, row_of, pair_of}
use Rattle.sn_ast.proofs.TransferBoxes.{to_box_expr, from_box_expr, to_sequence, from_sequence}
use Rattle.sn_ast.proofs.TransferNetworks.{to_network, from_network}
use Rattle.sn_ast.specs.Declarations.{function_of, box_of, net_of, with_body, with_connect}
use Rattle.sn_ast.specs.Declarations.{Function, function, Body, body, with_function, RestOfBox, rest_of_box, Declaration, box, net, type_name, sig_name, Inner, no_inner, inner, MoreInner, last_inner, more_inner, Declarations, no_more, declaration}
use Rattle.sn_ast.specs.Measures.{Measuring}
use Rattle.sn_ast.specs.Rows.{append, no_parts, with_part}
use Rattle.sn_ast.specs.declared.declaration.Decl.{Decl}
use Rattle.sn_ast.specs.declared.declaration.FunDecl.{FunDecl}
use Rattle.sn_ast.specs.declared.label.Ident.{Ident}
use Rattle.sn_ast.specs.declared.label.Tuple.{Tuple}
use Rattle.sn_ast.specs.declared.terminal.Terminal.{Terminal}

module _ {F G : Type 0 → Type 0} (m : Measuring F) (n : Measuring G) (h : Map m n) where
  to_function : {f : F FunDecl} {ts us : List Terminal} → Function m ts f us → Function n ts (h.map f) us
  to_function (function ps d) = rw h.of_each (function ps (to_box_expr m n h d))

  to_body : {name : Ident} {input : Tuple} {outputs : List Tuple} {funs : F (List FunDecl)} {d : F Decl} {ts us : List Terminal} →
      Body m name input outputs funs ts d us → Body n name input outputs (h.map funs) ts (h.map d) us
  to_body (body d) = rw (h.of_raise, h.of_join) (body (to_sequence m n h d))
  to_body (with_function f d) = with_function (to_function f) (rw h.of_join at (to_body d))

  to_rest_of_box : {name : Ident} {d : F Decl} {ts us : List Terminal} → RestOfBox m name ts d us → RestOfBox n name ts (h.map d) us
  to_rest_of_box (rest_of_box i o os d) = rest_of_box i o os (rw h.of_leaf at (to_body d))

  from_function : {y : G FunDecl} {ts us : List Terminal} → Function n ts y us → (f : F FunDecl) × Function m ts f us × (h.map f ≡ y)
  from_function (function {name} {all} ps d) =
      let p = from_box_expr m n h d in
      (m.each (function_of name all) p.0, function ps p.1, each_of m n h (function_of name all) p.2)

  from_body : {name : Ident} {input : Tuple} {outputs : List Tuple} {x : G (List FunDecl)} {y : G Decl} {ts us : List Terminal} →
      Body n name input outputs x ts y us →
      (funs : F (List FunDecl)) → h.map funs ≡ x → (d : F Decl) × Body m name input outputs funs ts d us × (h.map d ≡ y)
  from_body {name} {input} {outputs} (body d) funs s =
      let p = from_sequence m n h d in
      (with_body m name input outputs funs p.0, body p.1, pair_of m n h (box_of name input outputs) s p.2)
  from_body (with_function f d) funs s =
      let p = from_function f in
      let r = from_body d (with_part m funs p.0) (row_of m n h s p.2) in
      (r.0, with_function p.1 r.1, r.2)

  from_rest_of_box : {name : Ident} {y : G Decl} {ts us : List Terminal} → RestOfBox n name ts y us →
      (d : F Decl) × RestOfBox m name ts d us × (h.map d ≡ y)
  from_rest_of_box (rest_of_box i o os d) =
      let r = from_body d (no_parts m) (h.of_leaf []) in (r.0, rest_of_box i o os r.1, r.2)

  mutual
    pub to_declaration : {at : ℕ} {d : F Decl} {ts us : List Terminal} → Declaration m ts at d us → Declaration n ts at (h.map d) us
    to_declaration (box d) = box (to_rest_of_box d)
    to_declaration (net s i c) = rw (h.of_raise, h.of_join) (net s (to_inner i) (to_network m n h c))
    to_declaration (type_name p) = rw h.of_leaf (type_name p)
    to_declaration (sig_name p) = rw h.of_leaf (sig_name p)

    to_inner : {all : F (List Decl)} {ts us : List Terminal} → Inner m ts all us → Inner n ts (h.map all) us
    to_inner no_inner = rw h.of_leaf no_inner
    to_inner (inner d) = inner (rw h.of_leaf at (to_more_inner d))

    to_more_inner : {so_far all : F (List Decl)} {ts us : List Terminal} → MoreInner m so_far ts all us → MoreInner n (h.map so_far) ts (h.map all) us
    to_more_inner last_inner = last_inner
    to_more_inner (more_inner a d) = more_inner (to_declaration a) (rw h.of_join at (to_more_inner d))

  mutual
    pub from_declaration : {at : ℕ} {y : G Decl} {ts us : List Terminal} → Declaration n ts at y us →
        (d : F Decl) × Declaration m ts at d us × (h.map d ≡ y)
    from_declaration (box d) = let p = from_rest_of_box d in (p.0, box p.1, p.2)
    from_declaration (net {name} {sig} s i c) =
        let p = from_inner i in let q = from_network m n h c in
        (with_connect m name sig p.0 q.0, net s p.1 q.1, pair_of m n h (net_of name sig) p.2 q.2)
    from_declaration (type_name p) = (m.leaf _, type_name p, h.of_leaf _)
    from_declaration (sig_name p) = (m.leaf _, sig_name p, h.of_leaf _)

    from_inner : {y : G (List Decl)} {ts us : List Terminal} → Inner n ts y us → (all : F (List Decl)) × Inner m ts all us × (h.map all ≡ y)
    from_inner no_inner = (no_parts m, no_inner, h.of_leaf [])
    from_inner (inner d) = let r = from_more_inner d (no_parts m) (h.of_leaf []) in (r.0, inner r.1, r.2)

    from_more_inner : {x y : G (List Decl)} {ts us : List Terminal} → MoreInner n x ts y us →
        (so_far : F (List Decl)) → h.map so_far ≡ x → (all : F (List Decl)) × MoreInner m so_far ts all us × (h.map all ≡ y)
    from_more_inner last_inner so_far s = (so_far, last_inner, s)
    from_more_inner (more_inner a d) so_far s =
        let p = from_declaration a in
        let r = from_more_inner d (with_part m so_far p.0) (row_of m n h s p.2) in
        (r.0, more_inner p.1 r.1, r.2)

  abbrev pub mapped : List (ℕ × F Decl) → List (ℕ × G Decl)
  mapped parts = map (λ part. (part.0, h.map part.1)) parts

  of_append : (so_far : List (ℕ × F Decl)) (at : ℕ) (d : F Decl) → mapped (append so_far (at, d)) ≡ append (mapped so_far) (at, h.map d)
  of_append so_far at d = map_push _ so_far (at, d)

  pub to_declarations : {so_far all : List (ℕ × F Decl)} {ts : List Terminal} → Declarations m so_far ts all → Declarations n (mapped so_far) ts (mapped all)
  to_declarations no_more = no_more
  to_declarations (declaration {at} {d} {so_far} a r) = declaration (to_declaration a) (rw (of_append so_far at d) at (to_declarations r))

  pub from_declarations : {v w : List (ℕ × G Decl)} {ts : List Terminal} → Declarations n v ts w →
      (so_far : List (ℕ × F Decl)) → mapped so_far ≡ v → (all : List (ℕ × F Decl)) × Declarations m so_far ts all × (mapped all ≡ w)
  from_declarations no_more so_far s = (so_far, no_more, s)
  from_declarations (declaration {at} a r) so_far s =
      let p = from_declaration a in
      let q = from_declarations r (append so_far (at, p.0)) (of_append so_far at p.0 ∙ rw (s, p.2) refl) in
      (q.0, declaration p.1 q.1, q.2)
