-- The tokens have one answer: their program, or one refusal.
use Rattle.std.proofs.Common.{ℕ, List, [], ◌∷◌, ◌++◌, ◌≡◌, ◌⊎◌, Some, None, Result, Ok, Err, refl, sym, ◌∙◌, ap, subst, append_assoc, append-nil, inl, inr, map, length}
use Rattle.std.specs.Prelude.{MatchResult}
use Rattle.sn_ast.proofs.Keeping.{is_kept, kept_part, not_within}
use Rattle.sn_ast.specs.Kept.{Kept, keep, keep_all}
use Rattle.sn_ast.specs.Measures.{IsWithin}
use Rattle.sn_ast.specs.Terminals.{place_of}
use Rattle.sn_ast.specs.declared.declaration.Decl.{Decl}
use Rattle.sn_ast.specs.declared.declaration.Program.{Program}
use Rattle.sn_ast.specs.declared.measure.Measured.{Measured}
use Rattle.sn_ast.specs.declared.terminal.Terminal.{Terminal}
use Rattle.sn_lexer.specs.Placed.{ArePlaced}
use Rattle.sn_lexer.specs.declared.token.Token.{Token}
use Rattle.sn_parser.proofs.Reaching.{as_kept, as_measured}
use Rattle.sn_parser.specs.Answer.{AreWithin, Faults, IsFault, IsProgram, IsTooDeep, IsUnexpected, IsViable, Spell, Spells, StopsAt, program_of}
use Rattle.sn_parser.specs.Scopes.{Decls}
use Rattle.sn_parser.specs.Whole.{AreExactly, AreWhole, FirstLost, IsAnswer, IsWhole, Reads, WholeOf, all_whole, whole_of}
use Rattle.sn_ast.specs.declared.fault.ParseFault.{ParseFault}
use Rattle.sn_ast.specs.declared.fault.ParseFault.TheVariants.{Unexpected, TooDeep, Memory}
use Rattle.sn_terminal.proofs.Saying.{placed_say}
use Rattle.sn_terminal.specs.Words.{Say}

abbrev Measures : Type 0
Measures = List (ℕ × Measured Decl)

abbrev with_place : ℕ → Kept Decl → ℕ × Kept Decl
with_place at k = (at, k)

-- A declaration is kept exactly where it is within the limits.
whole_within : (p : Measured Decl) (k : Kept Decl) → keep p ≡ k → IsWhole k → IsWithin p
whole_within p None e w = absurd w
whole_within p (Some q) e w = (kept_part p q e).0

within_whole : (p : Measured Decl) → IsWithin p → IsWhole (keep p)
within_whole p w = rw (is_kept p w) tt

lost_past : (p : Measured Decl) → ¬ (IsWithin p) → (k : Kept Decl) → keep p ≡ k → k ≡ None
lost_past p n None e = refl
lost_past p n (Some q) e = absurd (n (kept_part p q e).0)

all_within : (decls : Measures) → AreWhole (keep_all decls) → AreWithin decls
all_within [] w = tt
all_within (d ∷ decls) w = (whole_within d.1 (keep d.1) refl w.0, all_within decls w.1)

all_kept : (decls : Measures) → AreWithin decls → AreWhole (keep_all decls)
all_kept [] w = tt
all_kept (d ∷ decls) w = (within_whole d.1 w.0, all_kept decls w.1)

same_values : (decls : Measures) → AreWithin decls → all_whole (keep_all decls) ≡ map (λ d. d.1.value) decls
same_values [] w = refl
same_values (d ∷ decls) w =
    ap (λ k. whole_of k ++ all_whole (keep_all decls)) (is_kept d.1 w.0) ∙ ap (λ ds. d.1.value ∷ ds) (same_values decls w.1)

same_program : (decls : Measures) → AreWithin decls → record { decls = all_whole (keep_all decls) } ≡ program_of decls
same_program decls w =
    let program : List Decl → Program = λ ds. record { decls = ds } in
    ap program (same_values decls w)

-- one more that is kept
pub whole_more : (ds : Decls) (p : ℕ × Kept Decl) (d : Measured Decl) → p.1 ≡ Some d → AreWhole ds → AreWhole (ds ++ (p ∷ []))
whole_more [] p d e w = (rw e tt, tt)
whole_more (k ∷ ds) p d e w = (w.0, whole_more ds p d e w.1)

pub values_more : (ds : Decls) (p : ℕ × Kept Decl) (d : Measured Decl) → p.1 ≡ Some d → all_whole (ds ++ (p ∷ [])) ≡ all_whole ds ++ (d.value ∷ [])
values_more [] p d e = ap (λ k. whole_of k ++ []) e
values_more (k ∷ ds) p d e = ap (λ vs. whole_of k.1 ++ vs) (values_more ds p d e) ∙ sym (append_assoc (whole_of k.1) (all_whole ds) (d.value ∷ []))

-- The program, over what is kept.
pub program_back : (xs : List Terminal) (done : Decls) (program : Program) → AreExactly xs done → AreWhole done → program ≡ record { decls = all_whole done } → IsProgram xs program
program_back xs done program h w e =
    let d = as_measured xs done ((h done).1 refl) in
    let whole : AreWhole (keep_all d.0) = subst AreWhole (sym d.2) w in
    let within = all_within d.0 whole in
    let program : List Decl → Program = λ ds. record { decls = ds } in
    record { decls = d.0; spelled = d.1; within = within; is = e ∙ ap (λ ds. program (all_whole ds)) (sym d.2) ∙ same_program d.0 within }

program_there : (xs : List Terminal) (done : Decls) (program : Program) → AreExactly xs done → IsProgram xs program → AreWhole done × (program ≡ record { decls = all_whole done })
program_there xs done program h p =
    let e : done ≡ keep_all p.decls = (h (keep_all p.decls)).0 (as_kept xs p.decls p.spelled) in
    let program : List Decl → Program = λ ds. record { decls = ds } in
    (subst AreWhole (sym e) (all_kept p.decls p.within), p.is ∙ sym (same_program p.decls p.within) ∙ ap (λ ds. program (all_whole ds)) (sym e))

-- The first declaration past a limit, over what is kept.
record Split (decls : Measures) (at : ℕ) : Type 0 where
  before : Measures
  decl : Measured Decl
  after : Measures
  split : decls ≡ before ++ ((at, decl) ∷ after)
  within : AreWithin before
  past : ¬ (IsWithin decl)

past_lost : (p : Measured Decl) → keep p ≡ None → IsWithin p → ⊥
past_lost p e w = not_within p e w

lost_split : (before after : Decls) (at : ℕ) (decls : Measures) → keep_all decls ≡ before ++ ((at, None) ∷ after) → AreWhole before → Split decls at
lost_split [] after at [] e w = absurd cc
lost_split [] after at (d ∷ decls) e w =
    let head : with_place d.0 (keep d.1) ≡ with_place at None = cc in
    let place : d.0 ≡ at = ap (λ p. p.0) head in
    let lost : keep d.1 ≡ None = ap (λ p. p.1) head in
    let pair : ℕ → ℕ × Measured Decl = λ n. (n, d.1) in
    record { before = []; decl = d.1; after = decls; split = ap (λ n. pair n ∷ decls) place; within = tt; past = past_lost d.1 lost }
lost_split (b ∷ before) after at [] e w = absurd cc
lost_split (b ∷ before) after at (d ∷ decls) e w =
    let head : with_place d.0 (keep d.1) ≡ b = cc in
    let tail : keep_all decls ≡ before ++ ((at, None) ∷ after) = cc in
    let whole : IsWhole (keep d.1) = subst (λ p. IsWhole p.1) (sym head) w.0 in
    let s = lost_split before after at decls tail w.1 in
    record { before = d ∷ s.before; decl = s.decl; after = s.after; split = ap (λ ds. d ∷ ds) s.split; within = (whole_within d.1 (keep d.1) refl whole, s.within); past = s.past }

pub deep_back : (xs : List Terminal) (done : Decls) (at : ℕ) → AreExactly xs done → FirstLost done at → IsTooDeep xs at
deep_back xs done at h f =
    let d = as_measured xs done ((h done).1 refl) in
    let s = lost_split f.before f.after at d.0 (d.2 ∙ f.split) f.whole in
    record { before = s.before; decl = s.decl; after = s.after; spelled = subst (Spells xs) s.split d.1; within = s.within; past = s.past }

keep_all_append : (ds es : Measures) → keep_all (ds ++ es) ≡ keep_all ds ++ keep_all es
keep_all_append [] es = refl
keep_all_append (d ∷ ds) es = ap (λ ks. (d.0, keep d.1) ∷ ks) (keep_all_append ds es)

deep_there : (xs : List Terminal) (done : Decls) (at : ℕ) → AreExactly xs done → IsTooDeep xs at → FirstLost done at
deep_there xs done at h d =
    let all : Measures = d.before ++ ((at, d.decl) ∷ d.after) in
    let e : done ≡ keep_all all = (h (keep_all all)).0 (as_kept xs all d.spelled) in
    let lost : keep d.decl ≡ None = lost_past d.decl d.past (keep d.decl) refl in
    record {
      before = keep_all d.before;
      after = keep_all d.after;
      split = e ∙ keep_all_append d.before ((at, d.decl) ∷ d.after) ∙ ap (λ k. keep_all d.before ++ (with_place at k ∷ keep_all d.after)) lost;
      whole = all_kept d.before d.within;
    }

whole_there : (before after : Decls) (at : ℕ) → AreWhole (before ++ ((at, None) ∷ after)) → ⊥
whole_there [] after at w = w.0
whole_there (b ∷ before) after at w = whole_there before after at w.1

whole_not_lost : (done : Decls) (at : ℕ) → AreWhole done → FirstLost done at → ⊥
whole_not_lost done at w f = whole_there f.before f.after at (subst AreWhole f.split w)

first_lost_once : (bs cs bs' cs' : Decls) (a b : ℕ) → bs ++ ((a, None) ∷ bs') ≡ cs ++ ((b, None) ∷ cs') → AreWhole bs → AreWhole cs → a ≡ b
first_lost_once [] [] bs' cs' a b e v w =
    let head : with_place a None ≡ with_place b None = cc in
    ap (λ p. p.0) head
first_lost_once [] (c ∷ cs) bs' cs' a b e v w =
    let head : with_place a None ≡ c = cc in
    let lost : ⊥ = subst (λ p. IsWhole p.1) (sym head) w.0 in
    absurd lost
first_lost_once (d ∷ bs) [] bs' cs' a b e v w =
    let head : d ≡ with_place b None = cc in
    let lost : ⊥ = subst (λ p. IsWhole p.1) head v.0 in
    absurd lost
first_lost_once (d ∷ bs) (c ∷ cs) bs' cs' a b e v w =
    let tail : bs ++ ((a, None) ∷ bs') ≡ cs ++ ((b, None) ∷ cs') = cc in
    first_lost_once bs cs bs' cs' a b tail v.1 w.1

-- The place of what is unexpected.
viable_front : (xs ys zs : List Terminal) → zs ≡ xs ++ ys → IsViable zs → IsViable xs
viable_front xs ys zs e v =
    let spelled : Spells ((xs ++ ys) ++ v.more) v.decls = subst (λ ts. Spells (ts ++ v.more) v.decls) e v.spelled in
    record { more = ys ++ v.more; decls = v.decls; spelled = rw (append_assoc xs ys v.more) at spelled }

spelled_viable : (xs : List Terminal) (decls : Measures) → Spells xs decls → IsViable xs
spelled_viable xs decls d = record { more = []; decls = decls; spelled = rw (append-nil xs) d }

past_stop : (xs : List Terminal) (at : ℕ) → StopsAt xs at → IsViable xs → ⊥
past_stop xs at s v = s.stops (viable_front (s.before ++ (s.token ∷ [])) s.after xs (s.split ∙ sym (append_assoc s.before (s.token ∷ []) s.after)) v)

unexpected_none : (size at : ℕ) (xs : List Terminal) (decls : Measures) → IsUnexpected size xs at → Spells xs decls → ⊥
unexpected_none size at xs decls (inl s) d = past_stop xs at s (spelled_viable xs decls d)
unexpected_none size at xs decls (inr e) d = e.0.unfinished decls d

record Beyond (xs : List Terminal) (x : Terminal) (ys : List Terminal) : Type 0 where
  rest : List Terminal
  is : ys ≡ (xs ++ (x ∷ [])) ++ rest

abbrev Cut : List Terminal → List Terminal → Terminal → Terminal → Type 0
Cut bs cs x y = (x ≡ y) ⊎ (Beyond bs x cs ⊎ Beyond cs y bs)

cut_more : (b c x y : Terminal) (bs cs : List Terminal) → b ≡ c → Cut bs cs x y → Cut (b ∷ bs) (c ∷ cs) x y
cut_more b c x y bs cs e (inl s) = inl s
cut_more b c x y bs cs e (inr (inl r)) = inr (inl (record { rest = r.rest; is = λ i. sym e i ∷ r.is i }))
cut_more b c x y bs cs e (inr (inr r)) = inr (inr (record { rest = r.rest; is = λ i. e i ∷ r.is i }))

cut : (bs cs bs' cs' : List Terminal) (x y : Terminal) → bs ++ (x ∷ bs') ≡ cs ++ (y ∷ cs') → Cut bs cs x y
cut [] [] bs' cs' x y e = inl cc
cut [] (c ∷ cs) bs' cs' x y e =
    let head : c ≡ x = cc in
    inr (inl (record { rest = cs; is = ap (λ z. z ∷ cs) head }))
cut (b ∷ bs) [] bs' cs' x y e =
    let head : b ≡ y = cc in
    inr (inr (record { rest = bs; is = ap (λ z. z ∷ bs) head }))
cut (b ∷ bs) (c ∷ cs) bs' cs' x y e =
    let head : b ≡ c = cc in
    let tail : bs ++ (x ∷ bs') ≡ cs ++ (y ∷ cs') = cc in
    cut_more b c x y bs cs head (cut bs cs bs' cs' x y tail)

same_stop : (xs : List Terminal) (a b : ℕ) (s : StopsAt xs a) (r : StopsAt xs b) → Cut s.before r.before s.token r.token → a ≡ b
same_stop xs a b s r (inl e) = s.place ∙ ap place_of e ∙ sym r.place
same_stop xs a b s r (inr (inl k)) = absurd (s.stops (viable_front (s.before ++ (s.token ∷ [])) k.rest r.before k.is r.viable))
same_stop xs a b s r (inr (inr k)) = absurd (r.stops (viable_front (r.before ++ (r.token ∷ [])) k.rest s.before k.is s.viable))

unexpected_once : (size a b : ℕ) (xs : List Terminal) → IsUnexpected size xs a → IsUnexpected size xs b → a ≡ b
unexpected_once size a b xs (inl s) (inl r) = same_stop xs a b s r (cut s.before r.before s.after r.after s.token r.token (sym s.split ∙ r.split))
unexpected_once size a b xs (inl s) (inr e) = absurd (past_stop xs a s e.0.viable)
unexpected_once size a b xs (inr e) (inl r) = absurd (past_stop xs b r e.0.viable)
unexpected_once size a b xs (inr e) (inr f) = e.1 ∙ sym f.1

-- The answer, and what it excludes.
pub answer_of : (size : ℕ) (xs : List Terminal) (r : Result Decls ParseFault) (done : Decls) (q : Result Program ParseFault) → r ≡ Ok done → Reads size xs r → WholeOf done q → IsAnswer size xs q
answer_of size xs r done (Ok program) e h w = let k : AreExactly xs done = rw e at h in (done, k, w.0, w.1)
answer_of size xs r done (Err (Unexpected at)) e h w = absurd w
answer_of size xs r done (Err (TooDeep at)) e h w = let k : AreExactly xs done = rw e at h in (done, k, w)
answer_of size xs r done (Err Memory) e h w = tt

pub fault_of : (size : ℕ) (xs : List Terminal) (r : Result Decls ParseFault) (f : ParseFault) (q : Result Program ParseFault) → r ≡ Err f → q ≡ Err f → Reads size xs r → IsAnswer size xs q
fault_of size xs r (Unexpected at) q e i h = rw i (rw e at h)
fault_of size xs r (TooDeep at) q e i h = let k : ⊥ = rw e at h in absurd k
fault_of size xs r Memory q e i h = rw i tt

right : (size : ℕ) (xs : List Terminal) (r : Result Program ParseFault) → IsAnswer size xs r → MatchResult r (IsProgram xs) (IsFault size xs)
right size xs (Ok program) h = program_back xs h.0 program h.1 h.2 h.3
right size xs (Err (Unexpected at)) h = h
right size xs (Err (TooDeep at)) h = deep_back xs h.0 at h.1 h.2
right size xs (Err Memory) h = tt

only : (size : ℕ) (xs : List Terminal) (r : Result Program ParseFault) (program : Program) → IsAnswer size xs r → IsProgram xs program →
    MatchResult r (λ found. found ≡ program) (λ fault. fault ≡ Memory)
only size xs (Ok found) program h p = h.3 ∙ sym (program_there xs h.0 program h.1 p).1
only size xs (Err (Unexpected at)) program h p = absurd (unexpected_none size at xs p.decls h p.spelled)
only size xs (Err (TooDeep at)) program h p = absurd (whole_not_lost h.0 at (program_there xs h.0 program h.1 p).0 h.2)
only size xs (Err Memory) program h p = refl

refused : (size : ℕ) (xs : List Terminal) (r : Result Program ParseFault) (f : ParseFault) → (f ≡ Memory → ⊥) → IsAnswer size xs r → IsFault size xs f →
    MatchResult r (λ found. ⊥) (λ found. (found ≡ f) ⊎ (found ≡ Memory))
refused size xs r Memory n h k = absurd (n refl)
refused size xs (Ok found) (Unexpected at) n h k = let p = program_back xs h.0 found h.1 h.2 h.3 in unexpected_none size at xs p.decls k p.spelled
refused size xs (Ok found) (TooDeep at) n h k = whole_not_lost h.0 at h.2 (deep_there xs h.0 at h.1 k)
refused size xs (Err (Unexpected o)) (Unexpected at) n h k = inl (ap Unexpected (unexpected_once size o at xs h k))
refused size xs (Err (Unexpected o)) (TooDeep at) n h k = absurd (unexpected_none size o xs (k.before ++ ((at, k.decl) ∷ k.after)) h k.spelled)
refused size xs (Err (TooDeep o)) (Unexpected at) n h k =
    let d = as_measured xs h.0 ((h.1 h.0).1 refl) in absurd (unexpected_none size at xs d.0 k d.1)
refused size xs (Err (TooDeep o)) (TooDeep at) n h k =
    let f = deep_there xs h.0 at h.1 k in
    inl (ap TooDeep (first_lost_once h.2.before f.before h.2.after f.after o at (sym h.2.split ∙ f.split) h.2.whole f.whole))
refused size xs (Err Memory) f n h k = inr refl

-- The same of a source and its tokens.
abbrev AnswersAll : List ℕ → List Token → Result Program ParseFault → Type 0
AnswersAll source tokens r = (xs : List Terminal) → Say source tokens xs → IsAnswer (length source) xs r

said_right : (source : List ℕ) (tokens : List Token) (xs : List Terminal) (r : Result Program ParseFault) → Say source tokens xs →
    MatchResult r (IsProgram xs) (IsFault (length source) xs) → MatchResult r (Spell source tokens) (Faults source tokens)
said_right source tokens xs (Ok program) p h = record { said = xs; says = p; spelled = h }
said_right source tokens xs (Err f) p h = record { said = xs; says = p; wrong = h }

pub source_right : (source : List ℕ) (tokens : List Token) (r : Result Program ParseFault) → ArePlaced source 0 tokens → AnswersAll source tokens r →
    MatchResult r (Spell source tokens) (Faults source tokens)
source_right source tokens r p h =
    let xs = placed_say source 0 tokens p in
    said_right source tokens xs.0 r xs.1 (right (length source) xs.0 r (h xs.0 xs.1))

pub source_only : (source : List ℕ) (tokens : List Token) (r : Result Program ParseFault) (program : Program) → AnswersAll source tokens r → Spell source tokens program →
    MatchResult r (λ found. found ≡ program) (λ fault. fault ≡ Memory)
source_only source tokens r program h s = only (length source) s.said r program (h s.said s.says) s.spelled

pub source_refused : (source : List ℕ) (tokens : List Token) (r : Result Program ParseFault) (f : ParseFault) → (f ≡ Memory → ⊥) → AnswersAll source tokens r → Faults source tokens f →
    MatchResult r (λ found. ⊥) (λ found. (found ≡ f) ⊎ (found ≡ Memory))
source_refused source tokens r f n h k = refused (length source) k.said r f n (h k.said k.says) k.wrong
