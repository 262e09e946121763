-- From one token to all: what the parser reached after each, and what it finds at a refusal or at the end.
use Rattle.std.proofs.Common.{ℕ, ◌+◌, ◌<◌, ◌≤◌, suc, List, [], ◌∷◌, ◌++◌, ◌≡◌, ◌↔◌, Some, None, Result, Ok, Err, refl, sym, ◌∙◌, ap, subst, append_assoc, inl, inr, take, drop, get_or, length}
use Rattle.std.proofs.lemmas.List.{append-nil, take_all, take_more}
use Rattle.std.proofs.lemmas.Option.{slice_get-get_or}
use Rattle.std.proofs.Math.Seq.{split_at}
use Rattle.sn_ast.proofs.Keeping.{keeping}
use Rattle.sn_ast.proofs.TransferDeclarations.{from_declarations, to_declarations}
use Rattle.sn_ast.specs.Declarations.{Declarations}
use Rattle.sn_ast.specs.Kept.{keep_all, kept}
use Rattle.sn_ast.specs.Measures.{measured}
use Rattle.sn_ast.specs.declared.declaration.Decl.{Decl}
use Rattle.sn_ast.specs.declared.measure.Measured.{Measured}
use Rattle.sn_ast.specs.declared.terminal.Terminal.{Terminal}
use Rattle.sn_lexer.specs.Placed.{ArePlaced, IsPlaced, spelling}
use Rattle.sn_lexer.specs.declared.token.Token.{Token}
use Rattle.sn_parser.proofs.Viable.{completable}
use Rattle.sn_parser.specs.Answer.{EndsEarly, IsViable, Spells, StopsAt}
use Rattle.sn_parser.specs.Residual.{Completes, Ends, Steps}
use Rattle.sn_parser.specs.Scopes.{Decls}
use Rattle.sn_parser.specs.Whole.{AreExactly, Goes, Reaches, Reads}
use Rattle.sn_parser.specs.declared.machine.Parser.{Parser}
use Rattle.sn_parser.specs.declared.machine.Stop.TheVariants.{Refused}
use Rattle.sn_ast.specs.declared.fault.ParseFault.{ParseFault}
use Rattle.sn_ast.specs.declared.fault.ParseFault.TheVariants.{Unexpected, TooDeep, Memory}
use Rattle.sn_terminal.proofs.Saying.{placed_in, say_split, says_once, says_place}
use Rattle.sn_terminal.specs.Words.{Say, Says}

-- The grammar is the same over what is measured and over what is kept of it.
pub as_kept : (xs : List Terminal) (decls : List (ℕ × Measured Decl)) → Spells xs decls → Declarations kept [] xs (keep_all decls)
as_kept xs decls d = to_declarations measured kept keeping d

pub as_measured : (xs : List Terminal) (all : Decls) → Declarations kept [] xs all → (decls : List (ℕ × Measured Decl)) × Spells xs decls × (keep_all decls ≡ all)
as_measured xs all d = from_declarations measured kept keeping d [] refl

-- one token further
pub reaches_start : (s : Parser) → ((w : List Terminal) (all : Decls) → Declarations kept [] w all ↔ Completes s w all) → Reaches [] s
reaches_start s h = record { law = h }

pub reaches_more : (xs : List Terminal) (x : Terminal) (s next : Parser) → Reaches xs s → Goes s x (Ok next) → Reaches (xs ++ (x ∷ [])) next
reaches_more xs x s next h g = record {
  law = λ w all. rw (append_assoc xs (x ∷ []) w) (λ y. (g w all).0 ((h.law (x ∷ w) all).0 y), λ y. (h.law (x ∷ w) all).1 ((g w all).1 y));
}

-- the tokens so far are viable
pub viable : (xs : List Terminal) (s : Parser) → Reaches xs s → IsViable xs
viable xs s h =
    let r = completable s in
    let d = as_measured (xs ++ r.0) r.1 ((h.law r.0 r.1).1 r.2) in
    record { more = r.0; decls = d.0; spelled = d.1 }

-- and no more with a token that is refused
pub not_viable : (xs : List Terminal) (x : Terminal) (s : Parser) → Reaches xs s → ((w : List Terminal) (all : Decls) → Completes s (x ∷ w) all → ⊥) → IsViable (xs ++ (x ∷ [])) → ⊥
not_viable xs x s h n v =
    let d = rw (append_assoc xs (x ∷ []) v.more) at (as_kept ((xs ++ (x ∷ [])) ++ v.more) v.decls v.spelled) in
    n v.more (keep_all v.decls) ((h.law (x ∷ v.more) (keep_all v.decls)).0 d)

stops_at : (xs ys zs : List Terminal) (x : Terminal) (at : ℕ) (s : Parser) → Reaches xs s → zs ≡ xs ++ (x ∷ ys) → Goes s x (Err (Unexpected at)) → StopsAt zs at
stops_at xs ys zs x at s h e g = record {
  before = xs;
  token = x;
  after = ys;
  split = e;
  viable = viable xs s h;
  stops = not_viable xs x s h g.1;
  place = g.0;
}

-- at the end
pub ends_whole : (xs : List Terminal) (s : Parser) (done : Decls) → Reaches xs s → Ends s (Some done) → AreExactly xs done
ends_whole xs s done h k = λ all. (λ y. (k all).0 ((h.law [] all).0 (rw (append-nil xs) y)), λ y. rw (append-nil xs) at ((h.law [] all).1 ((k all).1 y)))

pub ends_early : (xs : List Terminal) (s : Parser) → Reaches xs s → Ends s None → EndsEarly xs
ends_early xs s h k = record {
  viable = viable xs s h;
  unfinished = λ decls d. k (keep_all decls) ((h.law [] (keep_all decls)).0 (rw (append-nil xs) (as_kept xs decls d)));
}

-- The same at an index of the loop over the tokens, each of which says one terminal.
one_said : (source : List ℕ) (t : Token) (xs : List Terminal) → Say source (t ∷ []) xs → (x : Terminal) × Says t.kind (spelling source t) t.start x × (xs ≡ x ∷ [])
one_said source t [] p = absurd p
one_said source t (x ∷ []) p = (x, p.0, refl)
one_said source t (x ∷ y ∷ xs) p = absurd p.1

first_said : (source : List ℕ) (t : Token) (ts : List Token) (xs : List Terminal) → Say source (t ∷ ts) xs → (x : Terminal) × (ys : List Terminal) × Says t.kind (spelling source t) t.start x × (xs ≡ x ∷ ys)
first_said source t ts [] p = absurd p
first_said source t ts (x ∷ xs) p = (x, xs, p.0, refl)

abbrev pub ReachesAll : List ℕ → List Token → Parser → Type 0
ReachesAll source tokens s = (xs : List Terminal) → Say source tokens xs → Reaches xs s

abbrev pub GoesOn : List ℕ → Token → Parser → Result Parser ParseFault → Type 0
GoesOn source t s r = (x : Terminal) → Says t.kind (spelling source t) t.start x → Goes s x r

no_token : (source : List ℕ) (xs : List Terminal) → Say source [] xs → [] ≡ xs
no_token source [] p = refl
no_token source (x ∷ xs) p = absurd p

pub start_all : (source : List ℕ) (s : Parser) → ((w : List Terminal) (all : Decls) → Declarations kept [] w all ↔ Completes s w all) → ReachesAll source [] s
start_all source s h xs p = subst (λ ys. Reaches ys s) (no_token source xs p) (reaches_start s h)

more_all : (source : List ℕ) (tokens : List Token) (t : Token) (s next : Parser) → ReachesAll source tokens s → GoesOn source t s (Ok next) → ReachesAll source (tokens ++ (t ∷ [])) next
more_all source tokens t s next h g xs p =
    let r = say_split source tokens (t ∷ []) xs p in
    let one = one_said source t r.1 r.3 in
    let e : r.0 ++ (one.0 ∷ []) ≡ xs = sym (r.4 ∙ ap (λ ys. r.0 ++ ys) one.2) in
    subst (λ ys. Reaches ys next) e (reaches_more r.0 one.0 s next (h r.0 r.2) (g one.0 one.1))

pub more_at : (source : List ℕ) (tokens : List Token) (i : ℕ) (d t : Token) (s next : Parser) → i < length tokens → t ≡ get_or tokens i d →
    ReachesAll source (take i tokens) s → GoesOn source t s (Ok next) → ReachesAll source (take (i + 1) tokens) next
more_at source tokens i d t s next lt e h g =
    let cut : take (i + 1) tokens ≡ take i tokens ++ (t ∷ []) = take_more tokens i d lt ∙ ap (λ y. take i tokens ++ (y ∷ [])) (sym e) in
    rw cut (more_all source (take i tokens) t s next h g)

pub placed_at : (source : List ℕ) (tokens : List Token) (i : ℕ) (d : Token) → i < length tokens → ArePlaced source 0 tokens → IsPlaced source (get_or tokens i d)
placed_at source tokens i d lt p = placed_in source 0 tokens i (get_or tokens i d) p (slice_get-get_or tokens i d lt)

stops_all : (source : List ℕ) (before after : List Token) (t : Token) (s : Parser) (xs : List Terminal) (f : ParseFault) → ReachesAll source before s → GoesOn source t s (Err f) →
    Say source (before ++ (t ∷ after)) xs → Reads (length source) xs (Err f)
stops_all source before after t s xs (Unexpected at) h g p =
    let r = say_split source before (t ∷ after) xs p in
    let one = first_said source t after r.1 r.3 in
    let e : xs ≡ r.0 ++ (one.0 ∷ one.1) = r.4 ∙ ap (λ ys. r.0 ++ ys) one.3 in
    inl (stops_at r.0 one.1 xs one.0 at s (h r.0 r.2) e (g one.0 one.2))
stops_all source before after t s xs (TooDeep at) h g p =
    let r = say_split source before (t ∷ after) xs p in
    let one = first_said source t after r.1 r.3 in
    g one.0 one.2
stops_all source before after t s xs Memory h g p = tt

pub stops_there : (source : List ℕ) (tokens : List Token) (i : ℕ) (d t : Token) (s : Parser) (f : ParseFault) (r : Result Decls ParseFault) → i < length tokens → t ≡ get_or tokens i d →
    ReachesAll source (take i tokens) s → GoesOn source t s (Err f) → r ≡ Err f → (xs : List Terminal) → Say source tokens xs → Reads (length source) xs r
stops_there source tokens i d t s f r lt e h g is xs p =
    let cut : tokens ≡ take i tokens ++ (t ∷ drop (suc i) tokens) = split_at tokens i d lt ∙ ap (λ y. take i tokens ++ (y ∷ drop (suc i) tokens)) (sym e) in
    let said : Say source (take i tokens ++ (t ∷ drop (suc i) tokens)) xs = subst (λ ts. Say source ts xs) cut p in
    rw is (stops_all source (take i tokens) (drop (suc i) tokens) t s xs f h g said)

pub ends_all : (source : List ℕ) (tokens : List Token) (i : ℕ) (s : Parser) (done : Decls) → length tokens ≤ i → ReachesAll source (take i tokens) s → Ends s (Some done) →
    (xs : List Terminal) → Say source tokens xs → Reads (length source) xs (Ok done)
ends_all source tokens i s done le h k xs p =
    let g : ReachesAll source tokens s = rw (take_all i tokens le) at h in
    ends_whole xs s done (g xs p) k

pub ends_soon : (source : List ℕ) (tokens : List Token) (i : ℕ) (s : Parser) → length tokens ≤ i → ReachesAll source (take i tokens) s → Ends s None →
    (xs : List Terminal) → Say source tokens xs → Reads (length source) xs (Err (Unexpected (length source)))
ends_soon source tokens i s le h k xs p =
    let g : ReachesAll source tokens s = rw (take_all i tokens le) at h in
    inr (ends_early xs s (g xs p) k, refl)

-- A token says one terminal, so a step on it is one on any that it says.
pub goes_more : (source : List ℕ) (t : Token) (said : Terminal) (s next : Parser) → Says t.kind (spelling source t) t.start said → Steps s said (Ok next) → GoesOn source t s (Ok next)
goes_more source t said s next p h x q = subst (λ y. Goes s y (Ok next)) (says_once t.kind (spelling source t) t.start said x p q) h

pub goes_nowhere : (source : List ℕ) (t : Token) (said : Terminal) (s : Parser) → Says t.kind (spelling source t) t.start said → Steps s said (Err Refused) → GoesOn source t s (Err (Unexpected t.start))
goes_nowhere source t said s p h x q =
    (sym (says_place t.kind (spelling source t) t.start x q), subst (λ y. (w : List Terminal) (all : Decls) → Completes s (y ∷ w) all → ⊥) (says_once t.kind (spelling source t) t.start said x p q) h)
