-- The tokens of a source spell one program, or are refused for one thing at one place.
use Rattle.std.proofs.Common.{ℕ, List, [], ◌∷◌, ◌++◌, ◌≡◌, ◌⊎◌, refl, sym, ◌∙◌, ap, subst, append_assoc, append-nil, inl, inr, length}
use Rattle.std.specs.Prelude.{◌≢◌}
use Rattle.sn_ast.specs.Measures.{IsWithin, measured}
use Rattle.sn_ast.specs.Terminals.{place_of}
use Rattle.sn_ast.specs.declared.declaration.Decl.{Decl}
use Rattle.sn_ast.specs.declared.declaration.Program.{Program}
use Rattle.sn_ast.specs.declared.measure.Measured.{Measured}
use Rattle.sn_ast.specs.declared.terminal.Terminal.{Terminal}
use Rattle.sn_lexer.specs.declared.token.Token.{Token}
use Rattle.sn_outcomes.proofs.DeclarationOnce.{declarations_once}
use Rattle.sn_parser.specs.Answer.{AreWithin, Faults, IsFault, IsProgram, IsTooDeep, IsUnexpected, IsViable, Spell, Spells, StopsAt, program_of}
use Rattle.sn_ast.specs.declared.fault.ParseFault.{ParseFault}
use Rattle.sn_ast.specs.declared.fault.ParseFault.TheVariants.{Unexpected, TooDeep, Memory}
use Rattle.sn_terminal.proofs.Saying.{say_once}

abbrev Measures : Type 0
Measures = List (ℕ × Measured Decl)

pub same_decls : (said : List Terminal) (decls others : Measures) → Spells said decls → Spells said others → decls ≡ others
same_decls said decls others p q = declarations_once measured p q

pub same_program : (said : List Terminal) (program other : Program) → IsProgram said program → IsProgram said other → program ≡ other
same_program said program other p q = p.is ∙ ap program_of (same_decls said p.decls q.decls p.spelled q.spelled) ∙ sym q.is

-- The first declaration past a limit.
abbrev head_or : ℕ × Measured Decl → Measures → ℕ × Measured Decl
head_or d [] = d
head_or d (e ∷ ds) = e

abbrev tail_of : Measures → Measures
tail_of [] = []
tail_of (d ∷ ds) = ds

first_past : (bs cs bs' cs' : Measures) (a b : ℕ × Measured Decl) → bs ++ (a ∷ bs') ≡ cs ++ (b ∷ cs') → AreWithin bs → AreWithin cs → ¬ (IsWithin a.1) → ¬ (IsWithin b.1) → a.0 ≡ b.0
first_past [] [] bs' cs' a b e v w p q = ap (λ ds. (head_or a ds).0) e
first_past [] (c ∷ cs) bs' cs' a b e v w p q =
    let head : a ≡ c = ap (head_or a) e in
    absurd (p (subst (λ d. IsWithin d.1) (sym head) w.0))
first_past (d ∷ bs) [] bs' cs' a b e v w p q =
    let head : d ≡ b = ap (head_or d) e in
    absurd (q (subst (λ d. IsWithin d.1) head v.0))
first_past (d ∷ bs) (c ∷ cs) bs' cs' a b e v w p q = first_past bs cs bs' cs' a b (ap tail_of e) v.1 w.1 p q

all_within : (before after : Measures) (d : ℕ × Measured Decl) → AreWithin (before ++ (d ∷ after)) → IsWithin d.1
all_within [] after d w = w.0
all_within (b ∷ before) after d w = all_within before after d w.1

deep_once : (said : List Terminal) (at to : ℕ) → IsTooDeep said at → IsTooDeep said to → at ≡ to
deep_once said at to d e =
    let same = same_decls said (d.before ++ ((at, d.decl) ∷ d.after)) (e.before ++ ((to, e.decl) ∷ e.after)) d.spelled e.spelled in
    first_past d.before e.before d.after e.after (at, d.decl) (to, e.decl) same d.within e.within d.past e.past

program_or_deep : (said : List Terminal) (program : Program) (at : ℕ) → IsProgram said program → IsTooDeep said at → ⊥
program_or_deep said program at p d =
    let same = same_decls said p.decls (d.before ++ ((at, d.decl) ∷ d.after)) p.spelled d.spelled in
    d.past (all_within d.before d.after (at, d.decl) (subst AreWithin same p.within))

-- The place of what is unexpected.
viable_front : (xs ys zs : List Terminal) → zs ≡ xs ++ ys → IsViable zs → IsViable xs
viable_front xs ys zs e v =
    let spelled : Spells ((xs ++ ys) ++ v.more) v.decls = subst (λ ts. Spells (ts ++ v.more) v.decls) e v.spelled in
    record { more = ys ++ v.more; decls = v.decls; spelled = rw (append_assoc xs ys v.more) at spelled }

spelled_viable : (xs : List Terminal) (decls : Measures) → Spells xs decls → IsViable xs
spelled_viable xs decls d = record { more = []; decls = decls; spelled = rw (append-nil xs) d }

past_stop : (xs : List Terminal) (at : ℕ) → StopsAt xs at → IsViable xs → ⊥
past_stop xs at s v = s.stops (viable_front (s.before ++ (s.token ∷ [])) s.after xs (s.split ∙ sym (append_assoc s.before (s.token ∷ []) s.after)) v)

pub unexpected_none : (size at : ℕ) (xs : List Terminal) (decls : Measures) → IsUnexpected size xs at → Spells xs decls → ⊥
unexpected_none size at xs decls (inl s) d = past_stop xs at s (spelled_viable xs decls d)
unexpected_none size at xs decls (inr e) d = e.0.unfinished decls d

-- one list goes on past the other and its token
record Beyond (xs : List Terminal) (x : Terminal) (ys : List Terminal) : Type 0 where
  rest : List Terminal
  is : ys ≡ (xs ++ (x ∷ [])) ++ rest

abbrev Cut : List Terminal → List Terminal → Terminal → Terminal → Type 0
Cut bs cs x y = (x ≡ y) ⊎ (Beyond bs x cs ⊎ Beyond cs y bs)

cut_more : (b c x y : Terminal) (bs cs : List Terminal) → b ≡ c → Cut bs cs x y → Cut (b ∷ bs) (c ∷ cs) x y
cut_more b c x y bs cs e (inl s) = inl s
cut_more b c x y bs cs e (inr (inl r)) = inr (inl (record { rest = r.rest; is = λ i. sym e i ∷ r.is i }))
cut_more b c x y bs cs e (inr (inr r)) = inr (inr (record { rest = r.rest; is = λ i. e i ∷ r.is i }))

cut : (bs cs bs' cs' : List Terminal) (x y : Terminal) → bs ++ (x ∷ bs') ≡ cs ++ (y ∷ cs') → Cut bs cs x y
cut [] [] bs' cs' x y e = inl cc
cut [] (c ∷ cs) bs' cs' x y e =
    let head : c ≡ x = cc in
    inr (inl (record { rest = cs; is = ap (λ z. z ∷ cs) head }))
cut (b ∷ bs) [] bs' cs' x y e =
    let head : b ≡ y = cc in
    inr (inr (record { rest = bs; is = ap (λ z. z ∷ bs) head }))
cut (b ∷ bs) (c ∷ cs) bs' cs' x y e =
    let head : b ≡ c = cc in
    let tail : bs ++ (x ∷ bs') ≡ cs ++ (y ∷ cs') = cc in
    cut_more b c x y bs cs head (cut bs cs bs' cs' x y tail)

same_stop : (xs : List Terminal) (a b : ℕ) (s : StopsAt xs a) (r : StopsAt xs b) → Cut s.before r.before s.token r.token → a ≡ b
same_stop xs a b s r (inl e) = s.place ∙ ap place_of e ∙ sym r.place
same_stop xs a b s r (inr (inl k)) = absurd (s.stops (viable_front (s.before ++ (s.token ∷ [])) k.rest r.before k.is r.viable))
same_stop xs a b s r (inr (inr k)) = absurd (r.stops (viable_front (r.before ++ (r.token ∷ [])) k.rest s.before k.is s.viable))

unexpected_once : (size a b : ℕ) (xs : List Terminal) → IsUnexpected size xs a → IsUnexpected size xs b → a ≡ b
unexpected_once size a b xs (inl s) (inl r) = same_stop xs a b s r (cut s.before r.before s.after r.after s.token r.token (sym s.split ∙ r.split))
unexpected_once size a b xs (inl s) (inr e) = absurd (past_stop xs a s e.0.viable)
unexpected_once size a b xs (inr e) (inl r) = absurd (past_stop xs b r e.0.viable)
unexpected_once size a b xs (inr e) (inr f) = e.1 ∙ sym f.1

unexpected_or_deep : (size a b : ℕ) (xs : List Terminal) → IsUnexpected size xs a → IsTooDeep xs b → ⊥
unexpected_or_deep size a b xs u d = unexpected_none size a xs (d.before ++ ((b, d.decl) ∷ d.after)) u d.spelled

-- one refusal, and never beside a program
pub same_fault : (size : ℕ) (said : List Terminal) (fault other : ParseFault) → IsFault size said fault → IsFault size said other → fault ≢ Memory → other ≢ Memory → fault ≡ other
same_fault size said (Unexpected a) (Unexpected b) f g n k = ap Unexpected (unexpected_once size a b said f g)
same_fault size said (Unexpected a) (TooDeep b) f g n k = absurd (unexpected_or_deep size a b said f g)
same_fault size said (TooDeep a) (Unexpected b) f g n k = absurd (unexpected_or_deep size b a said g f)
same_fault size said (TooDeep a) (TooDeep b) f g n k = ap TooDeep (deep_once said a b f g)
same_fault size said Memory other f g n k = absurd (n refl)
same_fault size said (Unexpected a) Memory f g n k = absurd (k refl)
same_fault size said (TooDeep a) Memory f g n k = absurd (k refl)

pub program_or_fault : (size : ℕ) (said : List Terminal) (program : Program) (fault : ParseFault) → IsProgram said program → IsFault size said fault → fault ≡ Memory
program_or_fault size said program (Unexpected at) p f = absurd (unexpected_none size at said p.decls f p.spelled)
program_or_fault size said program (TooDeep at) p f = absurd (program_or_deep said program at p f)
program_or_fault size said program Memory p f = refl

-- The same of a source and its tokens.
pub same_spelled : (source : List ℕ) (tokens : List Token) (program other : Program) → Spell source tokens program → Spell source tokens other → program ≡ other
same_spelled source tokens program other p q =
    let said = say_once source tokens q.said p.said q.says p.says in
    same_program p.said program other p.spelled (subst (λ xs. IsProgram xs other) said q.spelled)

pub same_refused : (source : List ℕ) (tokens : List Token) (fault other : ParseFault) → Faults source tokens fault → Faults source tokens other → fault ≢ Memory → other ≢ Memory → fault ≡ other
same_refused source tokens fault other f g n k =
    let said = say_once source tokens g.said f.said g.says f.says in
    same_fault (length source) f.said fault other f.wrong (subst (λ xs. IsFault (length source) xs other) said g.wrong) n k

pub spelled_or_refused : (source : List ℕ) (tokens : List Token) (program : Program) (fault : ParseFault) → Spell source tokens program → Faults source tokens fault → fault ≡ Memory
spelled_or_refused source tokens program fault p f =
    let said = say_once source tokens f.said p.said f.says p.says in
    program_or_fault (length source) p.said program fault p.spelled (subst (λ xs. IsFault (length source) xs fault) said f.wrong)
