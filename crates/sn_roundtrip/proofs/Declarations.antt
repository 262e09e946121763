-- Declarations read back.
use Rattle.std.proofs.Common.{◌≡◌, ◌≢◌, ℕ, ◌+◌, ◌++◌, List, [], ◌∷◌, map, append-nil, codes, Option, Some, None, refl, sym, ap, ◌∙◌}
use Rattle.std.specs.List.{flat_map}
use Rattle.std.specs.Option.{option_map}
use Rattle.std.proofs.lemmas.Grind.{flat_map-append}
use Rattle.sn_ast.specs.Declarations.{function_of, box_of, net_of, with_body, with_connect, MoreTuples, last_tuple, more_tuples, MoreParams, last_param, more_params, Params, no_params, params, Function, function, Body, body, with_function, RestOfBox, rest_of_box, Signature, no_signature, signature, Declaration, box, net, type_name, sig_name, Inner, no_inner, inner, MoreInner, last_inner, more_inner}
use Rattle.sn_ast.specs.Labels.{IsTuple, last_part}
use Rattle.sn_ast.specs.Measures.{measured}
use Rattle.sn_ast.specs.Networks.{Network}
use Rattle.sn_ast.specs.Rows.{append, no_parts, with_part}
use Rattle.sn_ast.specs.declared.box_expr.BExpr.{BExpr}
use Rattle.sn_ast.specs.declared.declaration.BoxDecl.{BoxDecl}
use Rattle.sn_ast.specs.declared.declaration.Decl.{Decl, fold-Decl}
use Rattle.sn_ast.specs.declared.declaration.Decl.TheFolds.{fold-roll-Decl}
use Rattle.sn_ast.specs.declared.declaration.Decl.TheOpen.{Decl-F}
use Rattle.sn_ast.specs.declared.declaration.Decl.TheVariants as form
use Rattle.sn_ast.specs.declared.declaration.FunDecl.{FunDecl}
use Rattle.sn_ast.specs.declared.declaration.NetDecl.{NetDecl, NetDecl-F, fold-roll-NetDecl}
use Rattle.sn_ast.specs.declared.label.Ident.{Ident}
use Rattle.sn_ast.specs.declared.label.Sig.{Sig}
use Rattle.sn_ast.specs.declared.label.Tuple.{Tuple}
use Rattle.sn_ast.specs.declared.label.TypePart.{TypePart}
use Rattle.sn_ast.specs.declared.measure.Measured.{Measured}
use Rattle.sn_ast.specs.declared.network.NetExpr.{NetExpr}
use Rattle.sn_ast.specs.declared.terminal.Keyword.TheVariants as keyword
use Rattle.sn_ast.specs.declared.terminal.Symbol.TheVariants as symbol
use Rattle.sn_ast.specs.declared.terminal.Terminal.{Terminal}
use Rattle.sn_ast.specs.declared.terminal.Terminal.TheVariants.{Name, Keyword, Symbol}
use Rattle.sn_print.specs.Declarations.{fun_text, sig_part, inner_part, net_decl_step, decl_step, decl_text}
use Rattle.sn_print.specs.Expressions.{part, box_text}
use Rattle.sn_print.specs.Labels.{tuple_text}
use Rattle.sn_print.specs.Networks.{net_text}
use Rattle.sn_print.specs.Words.{joined}
use Rattle.sn_roundtrip.specs.Unplaced.{unplaced_ident, unplaced_tuple, unplaced_sig, unplaced_box, unplaced_net, unplaced_fun, unplaced_decl, unplaced_decl_step, unplaced_net_decl}
use Rattle.sn_roundtrip.proofs.Boxes.{GoodBox, good_box_expr, good_sequence, box_part, box_body, led, spaced_key}
use Rattle.sn_roundtrip.proofs.Joins.{before, mildly}
use Rattle.sn_roundtrip.proofs.Labels.{GoodTuple, good_tuple, GoodTypes, good_types, GoodSig, good_sig, Same as SamePart, SameRow, same_more, same_first}
use Rattle.sn_roundtrip.proofs.Networks.{GoodNet, good_network, net_whole}
use Rattle.sn_roundtrip.proofs.Rereads.{reread, Shows, Like, like_leaf, like_loose, like_each, like_raise, like_join, like_row}
use Rattle.sn_roundtrip.proofs.Rows.{GoodRow, row_begins, row_goes_on, calm_head, map_filled}
use Rattle.sn_roundtrip.proofs.Singles.{symbol_span, name_span, spaced_text, spaced, gap}
use Rattle.sn_roundtrip.proofs.Spans.{HeadAt, Calm, Mild, Exactly, Free, Whole, Span}
use Rattle.sn_roundtrip.specs.Words.{IsIdentifier, AreWords}

-- a fold of a declaration is one step over the folds of its parts
module _ {A B : Type 0} (s : Decl-F A B → A) (t : NetDecl-F A B → B) where
  abbrev fold : Decl → A
  fold = fold-Decl A B s t

  pub fold_box : (b : BoxDecl) → fold (form.BoxDecl b) ≡ s (Decl-F.BoxDecl b)
  fold_box b = ap fold (sym (form.rolls-BoxDecl b)) ∙ fold-roll-Decl A B s t (Decl-F.BoxDecl b)

  pub fold_type : (name : Ident) (parts : List TypePart) → fold (form.TypeDecl name parts) ≡ s (Decl-F.TypeDecl name parts)
  fold_type name parts = ap fold (sym (form.rolls-TypeDecl name parts)) ∙ fold-roll-Decl A B s t (Decl-F.TypeDecl name parts)

  pub fold_sig : (name : Ident) (sig : Sig) → fold (form.SigDecl name sig) ≡ s (Decl-F.SigDecl name sig)
  fold_sig name sig = ap fold (sym (form.rolls-SigDecl name sig)) ∙ fold-roll-Decl A B s t (Decl-F.SigDecl name sig)

  pub fold_net : (name : Ident) (sig : Option Sig) (decls : List Decl) (n : NetExpr) →
      fold (net_of name sig decls n) ≡ s (Decl-F.NetDecl (t (record { name = name; sig = sig; decls = map fold decls; connect = n })))
  fold_net name sig decls n =
      let d : NetDecl = record { name = name; sig = sig; decls = decls; connect = n } in
      ap fold (sym (form.rolls-NetDecl d)) ∙ fold-roll-Decl A B s t (Decl-F.NetDecl d) ∙ ap (λ x. s (Decl-F.NetDecl x)) (fold-roll-NetDecl A B s t (record { name = name; sig = sig; decls = decls; connect = n }))

-- parameters
data IsName : List Terminal → Ident → List Terminal → Type 0 where
  one_name : {name : Ident} {us : List Terminal} → IsName (Name name ∷ us) name us

abbrev param_text : Ident → List ℕ
param_text param = param.text

good_param : (name : Ident) → IsIdentifier name.text → Shows Calm Whole (param_text name) IsName (SamePart unplaced_ident name)
good_param name w = record {
  text = name.text;
  is = refl;
  reads = record { span = name_span w; rereads = λ p. reread (record { text = name.text; at = p }) (λ us. one_name) refl };
}

abbrev GoodParams : List Ident → Type 0
GoodParams row = GoodRow Calm Whole (codes ",") param_text Params MoreParams row (SameRow unplaced_ident row)

params_begin : (p : ℕ) (name : Ident) (ts us : List Terminal) (w : List Ident) (vs : List Terminal) → HeadAt p ts → IsName ts name us → MoreParams (name ∷ []) us w vs → Params ts w vs
params_begin p name ts us w vs h one_name k = params k

params_go_on : (q : ℕ) (row : List Ident) (name : Ident) (ts us : List Terminal) (w : List Ident) (vs : List Terminal) → IsName ts name us →
    MoreParams (append row name) us w vs → MoreParams row (Symbol symbol.Comma q ∷ ts) w vs
params_go_on q row name ts us w vs one_name k = more_params k

first_param : (name : Ident) → IsIdentifier name.text → GoodParams (name ∷ [])
first_param name w = row_begins (codes ",") param_text Params MoreParams (λ p y. y ∷ []) params_begin (λ p. same_first unplaced_ident name) calm_head (good_param name w)

next_param : (row : List Ident) (name : Ident) → GoodParams row → IsIdentifier name.text → GoodParams (row ++ (name ∷ []))
next_param row name r w = row_goes_on (codes ",") param_text Params MoreParams MoreParams (symbol_span symbol.Comma) refl (λ q. append) params_go_on
    (λ q acc y. same_more unplaced_ident row acc name y) r (good_param name w)

good_more_params : {row all : List Ident} {ts us : List Terminal} → MoreParams row ts all us → GoodParams row → AreWords ts → GoodParams all × AreWords us
good_more_params last_param r w = (r, w.1)
good_more_params (more_params {name = name} {so_far = row} d) r w = good_more_params d (next_param row name r w.1.0) w.1.1

-- none, or a row of them
data SomeParams : List Ident → Type 0 where
  none_of_them : SomeParams []
  some_of_them : {row : List Ident} → GoodParams row → SomeParams row

good_params : {all : List Ident} {ts us : List Terminal} → Params ts all us → AreWords ts → SomeParams all × AreWords us
good_params no_params w = (none_of_them, w.1)
good_params (params {name = name} d) w = let r = good_more_params d (first_param name w.0) w.1 in (some_of_them r.0, r.1)

-- functions
abbrev GoodFun : Measured FunDecl → Type 0
GoodFun f = Shows Calm Free (fun_text f.value) (Function measured) (Like unplaced_fun 0 f)

like_function : (name other : Ident) (all again : List Ident) {e again_e : Measured BExpr} → unplaced_ident other ≡ unplaced_ident name → map unplaced_ident again ≡ map unplaced_ident all →
    Like unplaced_box 0 e again_e → Like unplaced_fun 0 (measured.each (function_of name all) e) (measured.each (function_of other again) again_e)
like_function name other all again named listed l = like_each unplaced_box unplaced_fun (function_of (unplaced_ident name) (map unplaced_ident all)) (function_of name all) (function_of other again)
    (λ e. refl) (λ e i. function_of (named i) (listed i) (unplaced_box e)) l

good_fun : (name : Ident) (all : List Ident) (e : Measured BExpr) → IsIdentifier name.text → SomeParams all → GoodBox e → GoodFun (measured.each (function_of name all) e)
good_fun name all e w none_of_them x = record {
  text = codes "fun " ++ (name.text ++ (codes "() = " ++ (part x.shown ++ codes "; ")));
  is = ap (λ s. codes "fun " ++ (name.text ++ (codes "() = " ++ (part s ++ codes "; ")))) x.is;
  reads = record {
    span = before (led keyword.Fun) (before (name_span w) (before (symbol_span symbol.OpenParen) (before (symbol_span symbol.CloseParen) (before (spaced symbol.Assign)
        (before (box_part x).span (before (symbol_span symbol.Semicolon) (gap 32 refl) refl) refl) refl) refl) refl) refl) refl;
    rereads = λ p. reread _ (λ us. function no_params (((box_part x).rereads _).reads _)) (like_function name _ [] [] refl refl ((box_part x).rereads _).good);
  };
}
good_fun name all e w (some_of_them r) x = record {
  text = codes "fun " ++ (name.text ++ (codes "(" ++ (r.shows.text ++ (codes ") = " ++ (part x.shown ++ codes "; ")))));
  is = λ i. codes "fun " ++ (name.text ++ (codes "(" ++ (r.shows.is i ++ (codes ") = " ++ (part (x.is i) ++ codes "; ")))));
  reads = record {
    span = before (led keyword.Fun) (before (name_span w) (before (symbol_span symbol.OpenParen) (before r.shows.reads.span (before (before (symbol_span symbol.CloseParen) (spaced symbol.Assign) refl)
        (before (box_part x).span (before (symbol_span symbol.Semicolon) (gap 32 refl) refl) refl) refl) refl) refl) refl) refl;
    rereads = λ p. reread _ (λ us. function ((r.shows.reads.rereads _).reads _ _ _ last_param) (((box_part x).rereads _).reads _))
        (like_function name _ all _ refl (r.shows.reads.rereads _).good ((box_part x).rereads _).good);
  };
}

good_function : {f : Measured FunDecl} {ts us : List Terminal} → Function measured ts f us → AreWords ts → GoodFun f × AreWords us
good_function (function {name = name} {all = all} {e = e} a d) w =
    let x = good_params a w.1.1.1 in let y = good_box_expr d x.1.1 in (good_fun name all e w.1.0 x.0 y.0, y.1.1)

-- what goes on after the functions so far goes on from before them
abbrev FunsOf : List Terminal → Measured (List FunDecl) → List Terminal → Type 0
FunsOf ts so_far us = (name : Ident) (input : Tuple) (outputs : List Tuple) (d : Measured Decl) (vs : List Terminal) → Body measured name input outputs so_far us d vs →
    Body measured name input outputs (no_parts measured) ts d vs

abbrev GoodFuns : Measured (List FunDecl) → Type 0
GoodFuns row = Shows Calm Free (flat_map fun_text row.value) FunsOf (Like (map unplaced_fun) 0 row)

first_fun : (f : Measured FunDecl) → GoodFun f → GoodFuns (with_part measured (no_parts measured) f)
first_fun f x = record {
  text = x.text;
  is = append-nil (fun_text f.value) ∙ x.is;
  reads = record {
    span = x.reads.span;
    rereads = λ p. reread (with_part measured (no_parts measured) (x.reads.rereads p).again) (λ us name input outputs d vs k. with_function ((x.reads.rereads p).reads us) k)
        (like_row unplaced_fun (like_leaf (map unplaced_fun) [] [] refl) (x.reads.rereads p).good);
  };
}

next_fun : (row : Measured (List FunDecl)) (f : Measured FunDecl) → GoodFuns row → GoodFun f → GoodFuns (with_part measured row f)
next_fun row f r x = record {
  text = r.text ++ x.text;
  is = flat_map-append fun_text row.value (f.value ∷ []) ∙ (λ i. r.is i ++ (append-nil (fun_text f.value) ∙ x.is) i);
  reads = record {
    span = before r.reads.span x.reads.span refl;
    rereads = λ p. reread (with_part measured (r.reads.rereads p).again (x.reads.rereads _).again)
        (λ us name input outputs d vs k. (r.reads.rereads p).reads _ name input outputs d vs (with_function ((x.reads.rereads _).reads us) k))
        (like_row unplaced_fun (r.reads.rereads p).good (x.reads.rereads _).good);
  };
}

-- the body of a box, and the brace that closes it
abbrev Parts : Type 0
Parts = Measured (List FunDecl) × Measured BExpr

abbrev BodyOf : List Terminal → Parts → List Terminal → Type 0
BodyOf ts c us = (name : Ident) (input : Tuple) (outputs : List Tuple) → Body measured name input outputs (no_parts measured) ts (with_body measured name input outputs c.0 c.1) us

pub record LikeParts (funs : Measured (List FunDecl)) (e : Measured BExpr) (c : Parts) : Type 0 where
  pub funs_like : Like (map unplaced_fun) 0 funs c.0
  pub body_like : Like unplaced_box 0 e c.1

abbrev whole_body : List FunDecl → BExpr → List ℕ
whole_body funs e = (flat_map fun_text funs ++ box_text e) ++ codes " }"

abbrev GoodBody : Measured (List FunDecl) → Measured BExpr → Type 0
GoodBody funs e = Shows Mild Free (whole_body funs.value e.value) BodyOf (LikeParts funs e)

abbrev closing_brace : Span (Exactly 32) Free (codes " }")
closing_brace = before (gap 32 refl) (symbol_span symbol.CloseBrace) refl

body_alone : (e : Measured BExpr) → GoodBox e → GoodBody (no_parts measured) e
body_alone e x = record {
  text = x.shown.text ++ codes " }";
  is = ap (λ s. s.text ++ codes " }") x.is;
  reads = record {
    span = before (box_body x).span closing_brace refl;
    rereads = λ p. reread (no_parts measured, ((box_body x).rereads p).again) (λ us name input outputs. body (((box_body x).rereads p).reads _))
        (record { funs_like = like_leaf (map unplaced_fun) [] [] refl; body_like = ((box_body x).rereads p).good });
  };
}

body_after : (funs : Measured (List FunDecl)) (e : Measured BExpr) → GoodFuns funs → GoodBox e → GoodBody funs e
body_after funs e r x = record {
  text = (r.text ++ x.shown.text) ++ codes " }";
  is = λ i. (r.is i ++ (x.is i).text) ++ codes " }";
  reads = record {
    span = mildly (before (before r.reads.span (box_body x).span refl) closing_brace refl);
    rereads = λ p. reread ((r.reads.rereads p).again, ((box_body x).rereads _).again)
        (λ us name input outputs. (r.reads.rereads p).reads _ name input outputs _ us (body (((box_body x).rereads _).reads _)))
        (record { funs_like = (r.reads.rereads p).good; body_like = ((box_body x).rereads _).good });
  };
}

-- the output tuples of a box
data TupleRow : List Terminal → List Tuple → List Terminal → Type 0 where
  tuple_row : {t : Tuple} {all : List Tuple} {ts us vs : List Terminal} → IsTuple ts t us → MoreTuples (t ∷ []) us all vs → TupleRow ts all vs

abbrev bar_text : List ℕ
bar_text = spaced_text symbol.Bar

abbrev GoodTuples : List Tuple → Type 0
GoodTuples row = GoodRow Calm Free bar_text tuple_text TupleRow MoreTuples row (SameRow unplaced_tuple row)

tuples_begin : (p : ℕ) (t : Tuple) (ts us : List Terminal) (w : List Tuple) (vs : List Terminal) → HeadAt p ts → IsTuple ts t us → MoreTuples (t ∷ []) us w vs → TupleRow ts w vs
tuples_begin p t ts us w vs h d k = tuple_row d k

tuples_go_on : (q : ℕ) (row : List Tuple) (t : Tuple) (ts us : List Terminal) (w : List Tuple) (vs : List Terminal) → IsTuple ts t us →
    MoreTuples (append row t) us w vs → MoreTuples row (Symbol symbol.Bar (q + 1) ∷ ts) w vs
tuples_go_on q row t ts us w vs d k = more_tuples d k

first_tuple : (t : Tuple) → GoodTuple t → GoodTuples (t ∷ [])
first_tuple t x = row_begins bar_text tuple_text TupleRow MoreTuples (λ p y. y ∷ []) tuples_begin (λ p. same_first unplaced_tuple t) calm_head x

next_tuple : (row : List Tuple) (t : Tuple) → GoodTuples row → GoodTuple t → GoodTuples (row ++ (t ∷ []))
next_tuple row t r x = row_goes_on bar_text tuple_text TupleRow MoreTuples MoreTuples (spaced symbol.Bar) refl (λ q. append) tuples_go_on
    (λ q acc y. same_more unplaced_tuple row acc t y) r x

good_more_tuples : {row all : List Tuple} {ts us : List Terminal} → MoreTuples row ts all us → GoodTuples row → AreWords ts → GoodTuples all × AreWords us
good_more_tuples last_tuple r w = (r, w.1)
good_more_tuples (more_tuples {t = t} {so_far = row} a d) r w = let x = good_tuple a w.1 in good_more_tuples d (next_tuple row t r x.0) x.1

-- A declaration whose text reads back, with the place of its name.
abbrev IsDeclaration : List Terminal → ℕ × Measured Decl → List Terminal → Type 0
IsDeclaration ts c us = Declaration measured ts c.0 c.1 us

abbrev pub GoodDecl : Measured Decl → Type 0
GoodDecl d = Shows Calm Free (decl_text d.value) IsDeclaration (λ c. Like unplaced_decl 0 d c.1)

-- boxes
abbrev plain_box : Ident → Tuple → List Tuple → List FunDecl → BExpr → Decl
plain_box name input outputs funs e = box_of name input outputs funs e

like_box : (name other : Ident) (input again_input : Tuple) (outputs again_outputs : List Tuple) {funs again_funs : Measured (List FunDecl)} {e again_e : Measured BExpr} →
    unplaced_ident other ≡ unplaced_ident name → unplaced_tuple again_input ≡ unplaced_tuple input → map unplaced_tuple again_outputs ≡ map unplaced_tuple outputs →
    Like (map unplaced_fun) 0 funs again_funs → Like unplaced_box 0 e again_e →
    Like unplaced_decl 0 (with_body measured name input outputs funs e) (with_body measured other again_input again_outputs again_funs again_e)
like_box name other input again_input outputs again_outputs named in_is out_is l m = like_loose unplaced_decl (like_raise unplaced_decl (like_join (map unplaced_fun) unplaced_box unplaced_decl
    (box_of (unplaced_ident name) (unplaced_tuple input) (map unplaced_tuple outputs)) (box_of name input outputs) (box_of other again_input again_outputs)
    (λ fs e. fold_box unplaced_decl_step unplaced_net_decl (record { name = name; input = input; outputs = outputs; funs = fs; body = e }))
    (λ fs e. fold_box unplaced_decl_step unplaced_net_decl (record { name = other; input = again_input; outputs = again_outputs; funs = fs; body = e })
    ∙ (λ i. box_of (named i) (in_is i) (out_is i) (map unplaced_fun fs) (unplaced_box e))) l m))

rest_by : {opening arrow brace : ℕ} {name : Ident} {input : Tuple} {outputs : List Tuple} {d : Measured Decl} {ts us vs ws : List Terminal} → IsTuple ts input (Symbol symbol.Arrow arrow ∷ us) →
    TupleRow us outputs (Symbol symbol.OpenBrace brace ∷ vs) → Body measured name input outputs (no_parts measured) vs d ws → RestOfBox measured name (Symbol symbol.OpenParen opening ∷ ts) d ws
rest_by a (tuple_row b c) d = rest_of_box a b c d

good_box_decl : (name : Ident) (input : Tuple) (outputs : List Tuple) (funs : Measured (List FunDecl)) (e : Measured BExpr) → IsIdentifier name.text → GoodTuple input → GoodTuples outputs → GoodBody funs e →
    GoodDecl (with_body measured name input outputs funs e)
good_box_decl name input outputs funs e w x r y = record {
  text = codes "box " ++ (name.text ++ (codes " (" ++ ((x.text ++ (codes " -> " ++ r.shows.text)) ++ (codes ") { " ++ y.text))));
  is = fold_box decl_step net_decl_step (record { name = name; input = input; outputs = outputs; funs = funs.value; body = e.value })
      ∙ (λ i. codes "box " ++ (name.text ++ (codes " (" ++ ((x.is i ++ (codes " -> " ++ r.shows.is i)) ++ (codes ") { " ++ y.is i)))));
  reads = record {
    span = before (led keyword.Box) (before (name_span w) (before (before (gap 32 refl) (symbol_span symbol.OpenParen) refl)
        (before (before x.reads.span (before (spaced symbol.Arrow) r.shows.reads.span refl) refl) (before (before (symbol_span symbol.CloseParen) (spaced symbol.OpenBrace) refl) y.reads.span refl) refl) refl) refl) refl;
    rereads = λ p. reread (_, _) (λ us. box (rest_by ((x.reads.rereads _).reads _) ((r.shows.reads.rereads _).reads _ _ _ last_tuple) ((y.reads.rereads _).reads us _ _ _)))
        (like_box name _ input _ outputs _ refl (x.reads.rereads _).good (r.shows.reads.rereads _).good (y.reads.rereads _).good.funs_like (y.reads.rereads _).good.body_like);
  };
}

-- types and type signatures
good_type_decl : (name : Ident) (parts : List TypePart) → IsIdentifier name.text → GoodTypes parts → GoodDecl (measured.leaf (form.TypeDecl name parts))
good_type_decl name parts w r = record {
  text = codes "type " ++ (name.text ++ (codes " = " ++ (r.shows.text ++ codes ";")));
  is = fold_type decl_step net_decl_step name parts ∙ ap (λ t. codes "type " ++ (name.text ++ (codes " = " ++ (t ++ codes ";")))) r.shows.is;
  reads = record {
    span = before (led keyword.«Type») (before (name_span w) (before (spaced symbol.Assign) (before r.shows.reads.span (symbol_span symbol.Semicolon) refl) refl) refl) refl;
    rereads = λ p. reread (_, _) (λ us. type_name ((r.shows.reads.rereads _).reads _ _ _ last_part)) (like_leaf unplaced_decl _ _
        (fold_type unplaced_decl_step unplaced_net_decl _ _ ∙ ap (form.TypeDecl (unplaced_ident name)) (r.shows.reads.rereads _).good ∙ sym (fold_type unplaced_decl_step unplaced_net_decl name parts)));
  };
}

good_sig_decl : (name : Ident) (sig : Sig) → IsIdentifier name.text → GoodSig sig → GoodDecl (measured.leaf (form.SigDecl name sig))
good_sig_decl name sig w x = record {
  text = codes "typesig " ++ (name.text ++ (codes " = " ++ (x.text ++ codes ";")));
  is = fold_sig decl_step net_decl_step name sig ∙ ap (λ t. codes "typesig " ++ (name.text ++ (codes " = " ++ (t ++ codes ";")))) x.is;
  reads = record {
    span = before (led keyword.TypeSig) (before (name_span w) (before (spaced symbol.Assign) (before x.reads.span (symbol_span symbol.Semicolon) refl) refl) refl) refl;
    rereads = λ p. reread (_, _) (λ us. sig_name ((x.reads.rereads _).reads _)) (like_leaf unplaced_decl _ _
        (fold_sig unplaced_decl_step unplaced_net_decl _ _ ∙ ap (form.SigDecl (unplaced_ident name)) (x.reads.rereads _).good ∙ sym (fold_sig unplaced_decl_step unplaced_net_decl name sig)));
  };
}

-- the network of a net, with what stands around it
data NetTail : List Terminal → Measured NetExpr → List Terminal → Type 0 where
  net_tail : {connect semicolon : ℕ} {n : Measured NetExpr} {ts us : List Terminal} → Network measured ts n (Symbol symbol.Semicolon semicolon ∷ us) → NetTail (Keyword keyword.Connect connect ∷ ts) n us

abbrev tail_text : NetExpr → List ℕ
tail_text n = codes " connect " ++ (net_text n ++ codes ";")

abbrev GoodTail : Measured NetExpr → Type 0
GoodTail n = Shows (Exactly 32) Free (tail_text n.value) NetTail (Like unplaced_net 0 n)

good_tail : (n : Measured NetExpr) → GoodNet n → GoodTail n
good_tail n x = record {
  text = codes " connect " ++ (x.shown.text ++ codes ";");
  is = ap (λ s. codes " connect " ++ (s.text ++ codes ";")) x.is;
  reads = record {
    span = before (spaced_key keyword.Connect) (before (net_whole x).span (symbol_span symbol.Semicolon) refl) refl;
    rereads = λ p. reread _ (λ us. net_tail (((net_whole x).rereads _).reads _)) ((net_whole x).rereads _).good;
  };
}

-- the inner declarations before it
abbrev Inside : Type 0
Inside = Measured (List Decl) × Measured NetExpr

data InnerTail : List Terminal → Measured (List Decl) → Measured NetExpr → List Terminal → Type 0 where
  inner_tail : {connect semicolon : ℕ} {ds : Measured (List Decl)} {n : Measured NetExpr} {ts us vs : List Terminal} → Inner measured ts ds (Keyword keyword.Connect connect ∷ us) →
      Network measured us n (Symbol symbol.Semicolon semicolon ∷ vs) → InnerTail ts ds n vs

abbrev IsInside : List Terminal → Inside → List Terminal → Type 0
IsInside ts c us = InnerTail ts c.0 c.1 us

pub record LikeInside (ds : Measured (List Decl)) (n : Measured NetExpr) (c : Inside) : Type 0 where
  pub decls : Like (map unplaced_decl) 0 ds c.0
  pub connect : Like unplaced_net 0 n c.1

abbrev GoodInside : Measured (List Decl) → Measured NetExpr → Type 0
GoodInside ds n = Shows (Exactly 32) Free (inner_part (map decl_text ds.value) ++ tail_text n.value) IsInside (LikeInside ds n)

no_inner_by : {n : Measured NetExpr} {ts us : List Terminal} → NetTail ts n us → InnerTail ts (no_parts measured) n us
no_inner_by (net_tail d) = inner_tail no_inner d

inner_by : {opening : ℕ} {ds : Measured (List Decl)} {n : Measured NetExpr} {ts us vs : List Terminal} → MoreInner measured (no_parts measured) ts ds us → NetTail us n vs → InnerTail (Symbol symbol.OpenBrace opening ∷ ts) ds n vs
inner_by k (net_tail d) = inner_tail (inner k) d

abbrev MoreDecls : List Terminal → Measured (List Decl) → List Terminal → Type 0
MoreDecls ts w vs = MoreInner measured (no_parts measured) ts w vs

abbrev GoodInner : Measured (List Decl) → Type 0
GoodInner row = GoodRow Calm Free (codes " ") decl_text MoreDecls (MoreInner measured) row.value (Like (map unplaced_decl) 0 row)

decls_begin : (p : ℕ) (c : ℕ × Measured Decl) (ts us : List Terminal) (w : Measured (List Decl)) (vs : List Terminal) → HeadAt p ts → IsDeclaration ts c us →
    MoreInner measured (with_part measured (no_parts measured) c.1) us w vs → MoreDecls ts w vs
decls_begin p c ts us w vs h d k = more_inner d k

decls_go_on : (q : ℕ) (row : Measured (List Decl)) (c : ℕ × Measured Decl) (ts us : List Terminal) (w : Measured (List Decl)) (vs : List Terminal) → IsDeclaration ts c us →
    MoreInner measured (with_part measured row c.1) us w vs → MoreInner measured row ts w vs
decls_go_on q row c ts us w vs d k = more_inner d k

first_decl : (d : Measured Decl) → GoodDecl d → GoodInner (with_part measured (no_parts measured) d)
first_decl d x = row_begins (codes " ") decl_text MoreDecls (MoreInner measured) (λ p c. with_part measured (no_parts measured) c.1) decls_begin
    (λ p c l. like_row unplaced_decl (like_leaf (map unplaced_decl) [] [] refl) l) calm_head x

next_decl : (row : Measured (List Decl)) (d : Measured Decl) → GoodInner row → GoodDecl d → GoodInner (with_part measured row d)
next_decl row d r x = row_goes_on (codes " ") decl_text MoreDecls (MoreInner measured) (MoreInner measured) (gap 32 refl) refl (λ q acc c. with_part measured acc c.1) decls_go_on
    (λ q acc c l m. like_row unplaced_decl l m) r x

-- none, or a row of them
data SomeInner : Measured (List Decl) → Type 0 where
  none_inside : SomeInner (no_parts measured)
  some_inside : {row : Measured (List Decl)} → GoodInner row → SomeInner row

inner_text : (texts : List (List ℕ)) → texts ≢ [] → inner_part texts ≡ codes " { " ++ (joined (codes " ") texts ++ codes " }")
inner_text [] filled = absurd (filled refl)
inner_text (t ∷ texts) filled = refl

good_inside : (ds : Measured (List Decl)) (n : Measured NetExpr) → SomeInner ds → GoodTail n → GoodInside ds n
good_inside ds n none_inside x = record {
  text = x.text;
  is = x.is;
  reads = record {
    span = x.reads.span;
    rereads = λ p. reread (no_parts measured, (x.reads.rereads p).again) (λ us. no_inner_by ((x.reads.rereads p).reads us))
        (record { decls = like_leaf (map unplaced_decl) [] [] refl; connect = (x.reads.rereads p).good });
  };
}
good_inside ds n (some_inside r) x = record {
  text = (codes " { " ++ (r.shows.text ++ codes " }")) ++ x.text;
  is = (λ i. inner_text (map decl_text ds.value) (map_filled decl_text ds.value r.filled) i ++ x.is i) ∙ ap (λ t. (codes " { " ++ (t ++ codes " }")) ++ x.text) r.shows.is;
  reads = record {
    span = before (before (spaced symbol.OpenBrace) (before r.shows.reads.span closing_brace refl) refl) x.reads.span refl;
    rereads = λ p. reread ((r.shows.reads.rereads _).again, (x.reads.rereads _).again) (λ us. inner_by ((r.shows.reads.rereads _).reads _ _ _ last_inner) ((x.reads.rereads _).reads us))
        (record { decls = (r.shows.reads.rereads _).good; connect = (x.reads.rereads _).good });
  };
}

-- the signature before them
abbrev Header : Type 0
Header = Option Sig × Measured (List Decl) × Measured NetExpr

data SigTail : List Terminal → Option Sig → Measured (List Decl) → Measured NetExpr → List Terminal → Type 0 where
  sig_tail : {sig : Option Sig} {ds : Measured (List Decl)} {n : Measured NetExpr} {ts us vs : List Terminal} → Signature ts sig us → InnerTail us ds n vs → SigTail ts sig ds n vs

abbrev IsHeader : List Terminal → Header → List Terminal → Type 0
IsHeader ts c us = SigTail ts c.0 c.1 c.2 us

pub record LikeHeader (sig : Option Sig) (ds : Measured (List Decl)) (n : Measured NetExpr) (c : Header) : Type 0 where
  pub signed : option_map unplaced_sig c.0 ≡ option_map unplaced_sig sig
  pub decls : Like (map unplaced_decl) 0 ds c.1
  pub connect : Like unplaced_net 0 n c.2

abbrev GoodHeader : Option Sig → Measured (List Decl) → Measured NetExpr → Type 0
GoodHeader sig ds n = Shows (Exactly 32) Free (sig_part sig ++ (inner_part (map decl_text ds.value) ++ tail_text n.value)) IsHeader (LikeHeader sig ds n)

data SomeSig : Option Sig → Type 0 where
  no_sig : SomeSig None
  some_sig : {sig : Sig} → GoodSig sig → SomeSig (Some sig)

good_header : (sig : Option Sig) (ds : Measured (List Decl)) (n : Measured NetExpr) → SomeSig sig → GoodInside ds n → GoodHeader sig ds n
good_header sig ds n no_sig x = record {
  text = x.text;
  is = x.is;
  reads = record {
    span = x.reads.span;
    rereads = λ p. reread (None, (x.reads.rereads p).again.0, (x.reads.rereads p).again.1) (λ us. sig_tail no_signature ((x.reads.rereads p).reads us))
        (record { signed = refl; decls = (x.reads.rereads p).good.decls; connect = (x.reads.rereads p).good.connect });
  };
}
good_header sig ds n (some_sig s) x = record {
  text = (codes " (" ++ (s.text ++ codes ")")) ++ x.text;
  is = λ i. (codes " (" ++ (s.is i ++ codes ")")) ++ x.is i;
  reads = record {
    span = before (before (before (gap 32 refl) (symbol_span symbol.OpenParen) refl) (before s.reads.span (symbol_span symbol.CloseParen) refl) refl) x.reads.span refl;
    rereads = λ p. reread (Some (s.reads.rereads _).again, (x.reads.rereads _).again.0, (x.reads.rereads _).again.1) (λ us. sig_tail (signature ((s.reads.rereads _).reads _)) ((x.reads.rereads _).reads us))
        (record { signed = ap Some (s.reads.rereads _).good; decls = (x.reads.rereads _).good.decls; connect = (x.reads.rereads _).good.connect });
  };
}

-- nets
like_net : (name other : Ident) (sig again_sig : Option Sig) {ds again_ds : Measured (List Decl)} {n again_n : Measured NetExpr} → unplaced_ident other ≡ unplaced_ident name →
    option_map unplaced_sig again_sig ≡ option_map unplaced_sig sig → Like (map unplaced_decl) 0 ds again_ds → Like unplaced_net 0 n again_n →
    Like unplaced_decl 0 (with_connect measured name sig ds n) (with_connect measured other again_sig again_ds again_n)
like_net name other sig again_sig named signed l m = like_loose unplaced_decl (like_raise unplaced_decl (like_join (map unplaced_decl) unplaced_net unplaced_decl
    (net_of (unplaced_ident name) (option_map unplaced_sig sig)) (net_of name sig) (net_of other again_sig)
    (fold_net unplaced_decl_step unplaced_net_decl name sig)
    (λ ds n. fold_net unplaced_decl_step unplaced_net_decl other again_sig ds n ∙ (λ i. net_of (named i) (signed i) (map unplaced_decl ds) (unplaced_net n))) l m))

net_by : {at : ℕ} {name : Ident} {sig : Option Sig} {ds : Measured (List Decl)} {n : Measured NetExpr} {ts us : List Terminal} → SigTail ts sig ds n us →
    Declaration measured (Keyword keyword.Net at ∷ Name name ∷ ts) name.at (with_connect measured name sig ds n) us
net_by (sig_tail a (inner_tail b d)) = net a b d

good_net_decl : (name : Ident) (sig : Option Sig) (ds : Measured (List Decl)) (n : Measured NetExpr) → IsIdentifier name.text → GoodHeader sig ds n → GoodDecl (with_connect measured name sig ds n)
good_net_decl name sig ds n w x = record {
  text = codes "net " ++ (name.text ++ x.text);
  is = fold_net decl_step net_decl_step name sig ds.value n.value ∙ ap (λ t. codes "net " ++ (name.text ++ t)) x.is;
  reads = record {
    span = before (led keyword.Net) (before (name_span w) x.reads.span refl) refl;
    rereads = λ p. reread (_, _) (λ us. net_by ((x.reads.rereads _).reads us))
        (like_net name _ sig _ refl (x.reads.rereads _).good.signed (x.reads.rereads _).good.decls (x.reads.rereads _).good.connect);
  };
}

-- each declaration that words spell reads back
good_body : {name : Ident} {input : Tuple} {outputs : List Tuple} {funs : Measured (List FunDecl)} {d : Measured Decl} {ts us : List Terminal} → Body measured name input outputs funs ts d us →
    GoodFuns funs → AreWords ts → (IsIdentifier name.text → GoodTuple input → GoodTuples outputs → GoodDecl d) × AreWords us
good_body {name} {input} {outputs} (body {funs = funs} {e = e} a) r w = let x = good_sequence a w in ((λ n i o. good_box_decl name input outputs funs e n i o (body_after funs e r x.0)), x.1.1)
good_body (with_function {f = f} {funs = funs} a d) r w = let x = good_function a w in good_body d (next_fun funs f r x.0) x.1

good_first_body : {name : Ident} {input : Tuple} {outputs : List Tuple} {d : Measured Decl} {ts us : List Terminal} → Body measured name input outputs (no_parts measured) ts d us →
    AreWords ts → (IsIdentifier name.text → GoodTuple input → GoodTuples outputs → GoodDecl d) × AreWords us
good_first_body {name} {input} {outputs} (body {e = e} a) w = let x = good_sequence a w in ((λ n i o. good_box_decl name input outputs (no_parts measured) e n i o (body_alone e x.0)), x.1.1)
good_first_body (with_function {f = f} a d) w = let x = good_function a w in good_body d (first_fun f x.0) x.1

good_signature : {sig : Option Sig} {ts us : List Terminal} → Signature ts sig us → AreWords ts → SomeSig sig × AreWords us
good_signature no_signature w = (no_sig, w)
good_signature (signature a) w = let x = good_sig a w.1 in (some_sig x.0, x.1.1)

good_rest : {name : Ident} {d : Measured Decl} {ts us : List Terminal} → RestOfBox measured name ts d us → IsIdentifier name.text → AreWords ts → GoodDecl d × AreWords us
good_rest (rest_of_box {t = t} a b c e) n w =
    let x = good_tuple a w.1 in let y = good_tuple b x.1.1 in let r = good_more_tuples c (first_tuple t y.0) y.1 in let z = good_first_body e r.1.1 in (z.0 n x.0 r.0, z.1)

mutual
  pub good_declaration : {at : ℕ} {d : Measured Decl} {ts us : List Terminal} → Declaration measured ts at d us → AreWords ts → GoodDecl d × AreWords us
  good_declaration (box a) w = good_rest a w.1.0 w.1.1
  good_declaration (net {name = name} {sig = sig} {decls = ds} {n = n} a b c) w =
      let s = good_signature a w.1.1 in let x = good_inner b s.1 in let y = good_network c x.1.1 in
      (good_net_decl name sig ds n w.1.0 (good_header sig ds n s.0 (good_inside ds n x.0 (good_tail n y.0))), y.1.1)
  good_declaration (type_name {name = name} {parts = parts} a) w = let x = good_types a w.1.1.1 in (good_type_decl name parts w.1.0 x.0, x.1.1)
  good_declaration (sig_name {name = name} {s = sig} a) w = let x = good_sig a w.1.1.1 in (good_sig_decl name sig w.1.0 x.0, x.1.1)

  good_inner : {ds : Measured (List Decl)} {ts us : List Terminal} → Inner measured ts ds us → AreWords ts → SomeInner ds × AreWords us
  good_inner no_inner w = (none_inside, w)
  good_inner (inner last_inner) w = (none_inside, w.1.1)
  good_inner (inner (more_inner {d = d} a k)) w = let x = good_declaration a w.1 in let r = good_more_inner k (first_decl d x.0) x.1 in (some_inside r.0, r.1)

  good_more_inner : {row all : Measured (List Decl)} {ts us : List Terminal} → MoreInner measured row ts all us → GoodInner row → AreWords ts → GoodInner all × AreWords us
  good_more_inner last_inner r w = (r, w.1)
  good_more_inner (more_inner {d = d} {so_far = row} a k) r w = let x = good_declaration a w in good_more_inner k (next_decl row d r x.0) x.1
