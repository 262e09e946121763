-- One token of a signature at a time: what completes the state before it begins with it, and goes on as what completes
-- the state after it.
use Rattle.std.proofs.Common.{ℕ, true, false, List, [], ◌∷◌, ◌≡◌, ◌≢◌, ◌≤◌, ◌↔◌, Option, Some, None, Result, Ok, Err, length, refl, sym, subst, arith, length-append}
use Rattle.sn_ast.specs.Labels.{Part as IsPart, MoreParts, Types, IsSig, set, named, last_part, more_parts, types, arrow, signature}
use Rattle.sn_ast.specs.declared.label.Ident.{Ident}
use Rattle.sn_ast.specs.declared.label.Sig.{Sig}
use Rattle.sn_ast.specs.declared.label.Sig.TheVariants.{Arrow as ArrowSig, Named as NamedSig}
use Rattle.sn_ast.specs.declared.label.TypePart.{TypePart}
use Rattle.sn_ast.specs.declared.label.TypePart.TheVariants.{Set, Named}
use Rattle.sn_ast.specs.declared.terminal.Symbol.{Symbol as SomeSymbol}
use Rattle.sn_ast.specs.declared.terminal.Symbol.TheVariants.{Semicolon, CloseParen, Arrow}
use Rattle.sn_ast.specs.declared.terminal.Terminal.{Terminal}
use Rattle.sn_ast.specs.declared.terminal.Terminal.TheVariants.{Name, Symbol}
use Rattle.sn_type_parser.specs.Reads.{Read, read}
use Rattle.sn_type_parser.specs.SigResidual.{can_follow_sig, EndsSig, lone_name, AfterType, InType, to_output, by_name, whole, in_type, StepsFrom}
use Rattle.sn_type_parser.specs.TypeResidual.{can_follow_type, EndsType, Completes as CompletesTypes, Steps as TypeSteps}
use Rattle.sn_type_parser.specs.declared.signatures.SigParser.{SigParser}
use Rattle.sn_type_parser.specs.declared.signatures.SigStop.{SigStop}
use Rattle.sn_type_parser.specs.declared.signatures.SigStop.TheVariants.{Memory, Refused, Ended}
use Rattle.sn_type_parser.specs.declared.types.TypeParser.{TypeParser}
use Rattle.sn_type_parser.specs.declared.types.TypeStop.TheVariants.{Refused as TypeRefused, Ended as TypeEnded}

-- What may follow a signature may follow a type.
symbol_follows : (s : SomeSymbol) → can_follow_sig s ≡ true → can_follow_type s ≡ true
symbol_follows Semicolon e = refl
symbol_follows CloseParen e = refl
symbol_follows s e = absurd cc

pub type_ends : (us : List Terminal) → EndsSig us → EndsType us
type_ends (Symbol s at ∷ us) e = symbol_follows s e
type_ends us e = absurd e

-- The name of a signature is a type of one part.
no_shorter : {so_far all : List TypePart} {us vs : List Terminal} → MoreParts so_far us all vs → length so_far ≤ length all
no_shorter last_part = omega arith
no_shorter {so_far} (more_parts {p = p} q m) = let h = no_shorter m in omega (arith, h, length-append so_far (p ∷ []))

one_part : {p q : TypePart} {us vs : List Terminal} {all : List TypePart} → MoreParts (p ∷ []) us all vs → all ≡ q ∷ [] → (p ≡ q) × (us ≡ vs)
one_part last_part e = (cc, refl)
one_part {p} {q} {all = all} (more_parts {p = r} part m) e =
    let h : length (p ∷ r ∷ []) ≤ length all = no_shorter m in
    let i : length (p ∷ r ∷ []) ≤ length (q ∷ []) = rw e at h in
    absurd (omega arith)

named_part : {p : TypePart} {name : Ident} {ts us : List Terminal} → IsPart ts p us → p ≡ Named name → ts ≡ Name name ∷ us
named_part named e = cc
named_part (set v) e = absurd cc

is_lone : (parts : List TypePart) (name : Ident) → lone_name parts ≡ Some name → parts ≡ Named name ∷ []
is_lone [] name e = absurd cc
is_lone (Named n ∷ []) name e = cc
is_lone (Named n ∷ q ∷ ps) name e = absurd cc
is_lone (Set v ∷ ps) name e = absurd cc

name_from : {parts : List TypePart} {name : Ident} {ts us : List Terminal} → Types ts parts us → lone_name parts ≡ Some name → IsSig ts (NamedSig name) us
name_from {parts} {name} {us = us} (types {p} {ts = ts} part m) e =
    let i : parts ≡ Named name ∷ [] = is_lone parts name e in
    let j = one_part m i in
    let k = named_part part j.0 in
    rw (k, j.1) signature

pub start_from : (s : TypeParser) → ((w us : List Terminal) (all : List TypePart) → Types w all us → EndsType us → CompletesTypes s w (read all us)) →
    (w us : List Terminal) (sig : Sig) → IsSig w sig us → EndsSig us → InType None s w (read sig us)
start_from s f w vs sig (arrow {at} {input} {us = us} i o) e = in_type input (Symbol Arrow at ∷ us) (f w (Symbol Arrow at ∷ us) input i refl) (to_output o e)
start_from s f w us sig (signature {name}) e =
    in_type (Named name ∷ []) us (f w us (Named name ∷ []) (types named last_part) (type_ends us e)) (by_name refl e)

pub start_to : (s : TypeParser) → ((w : List Terminal) (t : Read (List TypePart)) → CompletesTypes s w t → Types w t.part t.rest × EndsType t.rest) →
    (w : List Terminal) (t : Read Sig) → InType None s w t → IsSig w t.part t.rest × EndsSig t.rest
start_to s g w t (in_type parts us c (to_output o e)) = (arrow (g w (read parts us) c).0 o, e)
start_to s g w t (in_type parts us c (by_name h e)) = (name_from (g w (read parts us) c).0 h, e)

-- The parser of types takes a token.
pub types_more : (input : Option (List TypePart)) (s next : TypeParser) (x : Terminal) → TypeSteps s x (Ok next) →
    (w : List Terminal) (t : Read Sig) → InType input s (x ∷ w) t ↔ InType input next w t
types_more input s next x k w t = (
  λ i. elim i [ in_type parts us c a ↦ in_type parts us ((k w (read parts us)).0 c) a ],
  λ i. elim i [ in_type parts us c a ↦ in_type parts us ((k w (read parts us)).1 c) a ],
)

pub types_refused : (input : Option (List TypePart)) (s : TypeParser) (x : Terminal) → TypeSteps s x (Err TypeRefused) →
    (w : List Terminal) (t : Read Sig) → InType input s (x ∷ w) t → ⊥
types_refused input s x k w t (in_type parts us c a) = k w (read parts us) c

ended_from : {input : Option (List TypePart)} {s : TypeParser} {parts : List TypePart} {ts : List Terminal} {t : Read Sig} →
    ((t : Read (List TypePart)) → CompletesTypes s ts t → read parts ts ≡ t) → InType input s ts t → AfterType input parts ts t
ended_from {input} {t = t} k (in_type others us c a) =
    let P : Read (List TypePart) → Type 0 = λ r. AfterType input r.part r.rest t in
    subst P (sym (k (read others us) c)) a

-- It has ended before this token, which the signature then takes.
pub types_ended : (input : Option (List TypePart)) (s : TypeParser) (x : Terminal) (parts : List TypePart) (b : SomeSymbol) (at : ℕ) (r : Result SigParser SigStop) →
    TypeSteps s x (Err (TypeEnded parts b at)) → StepsFrom (AfterType input parts) (Symbol b at) r → StepsFrom (InType input s) x r
types_ended input s x parts b at r k h = through (InType input s) (AfterType input parts) x r
    (λ w t. (ended_from (λ u. (k.1 w u).0), λ a. in_type parts (x ∷ w) ((k.1 w (read parts (x ∷ w))).1 refl) a)) (rw k.0 h)
  where
    through : (P Q : List Terminal → Read Sig → Type 0) (x : Terminal) (r : Result SigParser SigStop) →
        ((w : List Terminal) (t : Read Sig) → P (x ∷ w) t ↔ Q (x ∷ w) t) → StepsFrom Q x r → StepsFrom P x r
    through P Q x (Ok next) k h = λ w t. (λ y. (h w t).0 ((k w t).0 y), λ y. (k w t).1 ((h w t).1 y))
    through P Q x (Err Memory) k h = tt
    through P Q x (Err Refused) k h = λ w t y. h w t ((k w t).0 y)
    through P Q x (Err (Ended sig s at)) k h = (h.0, λ w t. (λ y. (h.1 w t).0 ((k w t).0 y), λ y. (k w t).1 ((h.1 w t).1 y)))

arrow_from : {input : List TypePart} {s : TypeParser} {at : ℕ} {w : List Terminal} {t : Read Sig} →
    ((w us : List Terminal) (all : List TypePart) → Types w all us → EndsType us → CompletesTypes s w (read all us)) →
    AfterType None input (Symbol Arrow at ∷ w) t → InType (Some input) s w t
arrow_from {w = w} f (to_output {output = output} {vs = vs} o e) = in_type output vs (f w vs output o (type_ends vs e)) (whole e)
arrow_from f (by_name h e) = absurd cc

arrow_to : {input : List TypePart} {s : TypeParser} {at : ℕ} {w : List Terminal} {t : Read Sig} →
    ((w : List Terminal) (t : Read (List TypePart)) → CompletesTypes s w t → Types w t.part t.rest × EndsType t.rest) →
    InType (Some input) s w t → AfterType None input (Symbol Arrow at ∷ w) t
arrow_to {w = w} g (in_type output us c (whole e)) = to_output (g w (read output us) c).0 e

pub arrow_step : (input : List TypePart) (s : TypeParser) (b : SomeSymbol) (at : ℕ) → b ≡ Arrow →
    ((w us : List Terminal) (all : List TypePart) → Types w all us → EndsType us → CompletesTypes s w (read all us)) →
    ((w : List Terminal) (t : Read (List TypePart)) → CompletesTypes s w t → Types w t.part t.rest × EndsType t.rest) →
    (w : List Terminal) (t : Read Sig) → AfterType None input (Symbol b at ∷ w) t ↔ InType (Some input) s w t
arrow_step input s b at e f g w t = rw e (arrow_from f, arrow_to g)

-- the name of a signature, and the token that follows it
by_name_from : {parts : List TypePart} {name : Ident} {b : SomeSymbol} {at : ℕ} {w : List Terminal} {t : Read Sig} → b ≢ Arrow →
    lone_name parts ≡ Some name → AfterType None parts (Symbol b at ∷ w) t → read (NamedSig name) (Symbol b at ∷ w) ≡ t
by_name_from n h (to_output o e) = absurd (n refl)
by_name_from {name = name} {b} {at} {w} n h (by_name {name = other} i e) = let j : name ≡ other = cc in rw j refl

by_name_to : {parts : List TypePart} {name : Ident} {b : SomeSymbol} {at : ℕ} {w : List Terminal} {t : Read Sig} → can_follow_sig b ≡ true →
    lone_name parts ≡ Some name → read (NamedSig name) (Symbol b at ∷ w) ≡ t → AfterType None parts (Symbol b at ∷ w) t
by_name_to {parts} {b = b} {at} {w} f h e =
    let P : Read Sig → Type 0 = λ r. AfterType None parts (Symbol b at ∷ w) r in subst P e (by_name h f)

pub named_ended : (parts : List TypePart) (name : Ident) (b : SomeSymbol) (at : ℕ) → b ≢ Arrow → can_follow_sig b ≡ true → lone_name parts ≡ Some name →
    StepsFrom (AfterType None parts) (Symbol b at) (Err (Ended (NamedSig name) b at))
named_ended parts name b at n f h = (refl, λ w t. (by_name_from n h, by_name_to f h))

pub no_lone_name : (parts : List TypePart) (b : SomeSymbol) (at : ℕ) → b ≢ Arrow → lone_name parts ≡ None → (w : List Terminal) (t : Read Sig) →
    AfterType None parts (Symbol b at ∷ w) t → ⊥
no_lone_name parts b at n h w t (to_output o e) = n refl
no_lone_name parts b at n h w t (by_name i e) = absurd cc

-- the output, and the token that follows it
whole_from : {input output : List TypePart} {us : List Terminal} {t : Read Sig} → AfterType (Some input) output us t → read (ArrowSig input output) us ≡ t
whole_from (whole e) = refl

whole_to : {input output : List TypePart} {us : List Terminal} {t : Read Sig} → EndsSig us → read (ArrowSig input output) us ≡ t → AfterType (Some input) output us t
whole_to {input} {output} {us} f e = let P : Read Sig → Type 0 = λ r. AfterType (Some input) output us r in subst P e (whole f)

pub arrow_ended : (input output : List TypePart) (b : SomeSymbol) (at : ℕ) → can_follow_sig b ≡ true →
    StepsFrom (AfterType (Some input) output) (Symbol b at) (Err (Ended (ArrowSig input output) b at))
arrow_ended input output b at f = (refl, λ w t. (whole_from, whole_to f))

pub not_ended : (input output : List TypePart) (b : SomeSymbol) (at : ℕ) → can_follow_sig b ≡ false → (w : List Terminal) (t : Read Sig) →
    AfterType (Some input) output (Symbol b at ∷ w) t → ⊥
not_ended input output b at h w t (whole e) = absurd cc
