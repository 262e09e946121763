-- A token says one thing, and tokens say their terminals one by one.
use Rattle.std.specs.Prelude.{slice_get, Some}
use Rattle.std.proofs.Common.{◌≡◌, ℕ, zero, suc, subst, List, [], ◌∷◌, ◌++◌, map, refl, sym, ap, ◌∙◌}
use Rattle.sn_ast.specs.Terminals.{place_of}
use Rattle.sn_ast.specs.declared.terminal.Terminal.{Terminal}
use Rattle.sn_ast.specs.declared.terminal.Terminal.TheVariants as terminal
use Rattle.sn_lexer.specs.Placed.{IsPlaced, ArePlaced, spelling}
use Rattle.sn_lexer.specs.declared.token.Token.{Token}
use Rattle.sn_lexer.specs.declared.token.TokenKind.{TokenKind}
use Rattle.sn_terminal.proofs.Bytes.{each_says}
use Rattle.sn_terminal.proofs.Contents.{same_inside, written_once}
use Rattle.sn_terminal.proofs.Tables.{keyword_once, symbol_once}
use Rattle.sn_terminal.specs.Words.{IsSpelled, Says, name, tag, number, literal, keyword, symbol, Say}

pub says_once : (k : TokenKind) (bytes : List ℕ) (at : ℕ) (x y : Terminal) → Says k bytes at x → Says k bytes at y → x ≡ y
says_once k bytes at x y name name = refl
says_once k bytes at x y (tag {name = n} p) (tag {name = o} q) =
    ap (λ text. terminal.Tag (record { text = text; at = at })) (same_inside n o 60 62 (sym p ∙ q))
says_once k bytes at x y number number = refl
says_once k bytes at x y (literal {content = c} p) (literal {content = d} q) =
    ap (λ text. terminal.Literal text at) (written_once c d (same_inside _ _ 34 34 (sym p ∙ q)))
says_once k bytes at x y (keyword {k = i} p) (keyword {k = j} q) = ap (λ w. terminal.Keyword w at) (keyword_once i j (sym p ∙ q))
says_once k bytes at x y (symbol {s = r} p) (symbol {s = t} q) = ap (λ w. terminal.Symbol w at) (symbol_once r t (sym p ∙ q))

pub say_once : (source : List ℕ) (tokens : List Token) (xs ys : List Terminal) → Say source tokens xs → Say source tokens ys → xs ≡ ys
say_once source [] [] [] p q = refl
say_once source [] [] (y ∷ ys) p q = absurd q
say_once source [] (x ∷ xs) ys p q = absurd p
say_once source (t ∷ ts) [] ys p q = absurd p
say_once source (t ∷ ts) (x ∷ xs) [] p q = absurd q
say_once source (t ∷ ts) (x ∷ xs) (y ∷ ys) p q =
    let head = says_once t.kind (spelling source t) t.start x y p.0 q.0 in
    let tail = say_once source ts xs ys p.1 q.1 in
    λ i. head i ∷ tail i

pub placed_spelled : (source : List ℕ) (token : Token) → IsPlaced source token → IsSpelled token.kind (spelling source token)
placed_spelled source token p = record { word = p.word; spelled = p.spelled; within = p.within; written = p.written }

pub placed_says : (source : List ℕ) (token : Token) → IsPlaced source token → (x : Terminal) × Says token.kind (spelling source token) token.start x
placed_says source token p = each_says token.kind (spelling source token) token.start (placed_spelled source token p)

pub placed_say : (source : List ℕ) (from : ℕ) (tokens : List Token) → ArePlaced source from tokens → (xs : List Terminal) × Say source tokens xs
placed_say source from [] p = ([], tt)
placed_say source from (t ∷ ts) p =
    let x = placed_says source t p.1 in let xs = placed_say source t.end ts p.2 in (x.0 ∷ xs.0, (x.1, xs.1))

-- each of the tokens is placed
pub placed_in : (source : List ℕ) (from : ℕ) (tokens : List Token) (i : ℕ) (token : Token) → ArePlaced source from tokens → slice_get tokens i ≡ Some token → IsPlaced source token
placed_in source from [] i token p at = absurd cc
placed_in source from (t ∷ ts) zero token p at = let one : t ≡ token = cc in subst (IsPlaced source) one p.1
placed_in source from (t ∷ ts) (suc i) token p at = placed_in source t.end ts i token p.2 at

pub say_join : (source : List ℕ) (ts us : List Token) (xs ys : List Terminal) → Say source ts xs → Say source us ys → Say source (ts ++ us) (xs ++ ys)
say_join source [] us [] ys p q = q
say_join source [] us (x ∷ xs) ys p q = absurd p
say_join source (t ∷ ts) us [] ys p q = absurd p
say_join source (t ∷ ts) us (x ∷ xs) ys p q = (p.0, say_join source ts us xs ys p.1 q)

pub say_split : (source : List ℕ) (ts us : List Token) (zs : List Terminal) → Say source (ts ++ us) zs →
    (xs : List Terminal) × (ys : List Terminal) × Say source ts xs × Say source us ys × (zs ≡ xs ++ ys)
say_split source [] us zs p = ([], zs, tt, p, refl)
say_split source (t ∷ ts) us [] p = absurd p
say_split source (t ∷ ts) us (z ∷ zs) p =
    let r = say_split source ts us zs p.1 in (z ∷ r.0, r.1, (p.0, r.2), r.3, ap (λ ws. z ∷ ws) r.4)

pub says_place : (k : TokenKind) (bytes : List ℕ) (at : ℕ) (x : Terminal) → Says k bytes at x → place_of x ≡ at
says_place k bytes at x name = refl
says_place k bytes at x (tag p) = refl
says_place k bytes at x number = refl
says_place k bytes at x (literal p) = refl
says_place k bytes at x (keyword p) = refl
says_place k bytes at x (symbol p) = refl

pub say_places : (source : List ℕ) (tokens : List Token) (xs : List Terminal) → Say source tokens xs → map place_of xs ≡ map (λ t. t.start) tokens
say_places source [] [] p = refl
say_places source [] (x ∷ xs) p = absurd p
say_places source (t ∷ ts) [] p = absurd p
say_places source (t ∷ ts) (x ∷ xs) p = λ i. says_place t.kind (spelling source t) t.start x p.0 i ∷ say_places source ts xs p.1 i
