-- The entries of a line, read one after another up to its end.
use Rattle.std.proofs.Common.{◌≡◌, ◌≢◌, ◌∙◌, Err, IfOk, List, MatchResult, Ok, Result, [], ◌∷◌, ◌++◌, Bool, true, false, append-nil, append_assoc, ap, refl, subst, sym}
use Rattle.sn_record_tokens.specs.declared.token.Mark.TheVariants.{OpenRecord, CloseRecord, Comma}
use Rattle.sn_record_tokens.specs.declared.token.Token.{Token}
use Rattle.sn_record_tokens.specs.declared.token.Token.TheVariants.{Mark}
use Rattle.sn_record_parser.specs.Answers.{BeginsWith, HasFurther, HasNoEntry, HasNoFurther, HasNoLine, IfWrong, mark_taken}
use Rattle.sn_record_parser.specs.Grammar.{IsEntry, AreFurther, IsLine, empty, end, entries, next}
use Rattle.sn_record_parser.specs.declared.entry.Entry.{Entry}
use Rattle.sn_record_parser.specs.declared.entry.EntryFault.{EntryFault}
use Rattle.sn_record_parser.proofs.Leads.{Leads, leads_push}
use Rattle.sn_record_parser.proofs.Once.{IsEntry_once, IsLine_once}

-- what was appended so far
pub record SoFar (start now : List Token) (before after : List Entry) : Type 0 where
  pub further : List Entry
  pub leads : Leads AreFurther start further now
  pub appended : after ≡ before ++ further

step_only : {tokens rest : List Token} {e : Entry} → IsEntry tokens e rest → (ds : List Entry) (after : List Token) → AreFurther (Mark Comma ∷ tokens) ds after → (es : List Entry) × (ds ≡ e ∷ es) × AreFurther rest es after
step_only h ds after (next {e = d} {es = es} b m) =
    let once = IsEntry_once b h in
    (es, ap (λ x. x ∷ es) once.0, subst (λ ts. AreFurther ts es after) once.1 m)

step : {tokens rest : List Token} {e : Entry} → IsEntry tokens e rest → Leads AreFurther (Mark Comma ∷ tokens) (e ∷ []) rest
step h = record { onwards = λ es after r. next h r; only = λ ds after r. step_only h ds after r }

pub goes_on : {start now others rest : List Token} {before so_far after : List Entry} {comma : Bool} {first : Token} {e : Entry} → SoFar start now before so_far → comma ≡ true → now ≡ Mark (mark_taken CloseRecord comma) ∷ others →
    (tokens : List Token) → others ≡ first ∷ tokens → IsEntry (first ∷ tokens) e rest → after ≡ so_far ++ (e ∷ []) → SoFar start rest before after
goes_on {start} {now} {others} {before} {first} {e} s c n tokens o h a =
    let same : now ≡ Mark Comma ∷ (first ∷ tokens) = n ∙ ap (λ b. Mark (mark_taken CloseRecord b) ∷ others) c ∙ ap (λ ts. Mark Comma ∷ ts) o in
    record {
      further = s.further ++ (e ∷ []);
      leads = leads_push e (subst (λ ts. Leads AreFurther start s.further ts) same s.leads) (step h);
      appended = a ∙ ap (λ es. es ++ (e ∷ [])) s.appended ∙ append_assoc before s.further (e ∷ []);
    }

marked_close : {now rest : List Token} {comma : Bool} → comma ≡ false → now ≡ Mark (mark_taken CloseRecord comma) ∷ rest → now ≡ Mark CloseRecord ∷ rest
marked_close {rest} c n = n ∙ ap (λ b. Mark (mark_taken CloseRecord b) ∷ rest) c

pub ends : {start now rest : List Token} {before after : List Entry} {comma : Bool} → SoFar start now before after → comma ≡ false → now ≡ Mark (mark_taken CloseRecord comma) ∷ rest → rest ≡ [] → HasFurther start before after
ends {start} {now} s c n r =
    let same : now ≡ Mark CloseRecord ∷ [] = marked_close c n ∙ ap (λ ts. Mark CloseRecord ∷ ts) r in
    let whole = s.leads.onwards [] [] (subst (λ ts. AreFurther ts [] []) (sym same) end) in
    record { further = s.further; spelled = subst (λ es. AreFurther start es []) (append-nil s.further) whole; appended = s.appended }

nowhere : {start now : List Token} {before after : List Entry} → SoFar start now before after → ((es : List Entry) (rest : List Token) → AreFurther now es rest → rest ≡ [] → ⊥) → HasNoFurther start
nowhere s h es m = let far = s.leads.only es [] m in h far.0 [] far.2 refl

unmarked : {now rest : List Token} {es : List Entry} → ¬ BeginsWith Comma now → ¬ BeginsWith CloseRecord now → AreFurther now es rest → ⊥
unmarked c d end = d (_, refl)
unmarked c d (next a m) = c (_, refl)

pub stops : {start now : List Token} {before after : List Entry} → SoFar start now before after → ¬ BeginsWith Comma now × ¬ BeginsWith CloseRecord now → HasNoFurther start
stops s h = nowhere s (λ es rest m r. unmarked h.0 h.1 m)

unread : {tokens rest : List Token} {es : List Entry} → HasNoEntry tokens → AreFurther (Mark Comma ∷ tokens) es rest → ⊥
unread none (next a m) = none _ _ a

-- no entry comes behind a comma
pub spoils : {start now others : List Token} {before after : List Entry} {comma : Bool} → SoFar start now before after → comma ≡ true → now ≡ Mark (mark_taken CloseRecord comma) ∷ others → HasNoEntry others → HasNoFurther start
spoils {now} {others} s c n none =
    let same : now ≡ Mark Comma ∷ others = n ∙ ap (λ b. Mark (mark_taken CloseRecord b) ∷ others) c in
    nowhere s (λ es rest m r. unread none (subst (λ ts. AreFurther ts es rest) same m))

overrun : {tokens rest : List Token} {es : List Entry} → tokens ≢ [] → AreFurther (Mark CloseRecord ∷ tokens) es rest → rest ≡ [] → ⊥
overrun h end r = h r

-- something comes behind the closing mark
pub overruns : {start now others : List Token} {before after : List Entry} {comma : Bool} → SoFar start now before after → comma ≡ false → now ≡ Mark (mark_taken CloseRecord comma) ∷ others → others ≢ [] → HasNoFurther start
overruns s c n h = nowhere s (λ es rest m r. overrun h (subst (λ ts. AreFurther ts es rest) (marked_close c n) m) r)

pub nothing_no_entry : HasNoEntry []
nothing_no_entry e rest d = elim d [ ]

-- the line whose opening mark was taken
pub line_empty : {tokens others rest : List Token} {first : Token} → tokens ≡ Mark OpenRecord ∷ others → others ≡ first ∷ rest → first ≡ Mark CloseRecord → rest ≡ [] → IsLine tokens []
line_empty {tokens} t o f r =
    let same : tokens ≡ Mark OpenRecord ∷ (Mark CloseRecord ∷ []) = cc in
    subst (λ ts. IsLine ts []) (sym same) empty

pub line_has : {tokens others rest after : List Token} {first : Token} {e : Entry} {es : List Entry} → tokens ≡ Mark OpenRecord ∷ others → others ≡ first ∷ rest → IsEntry (first ∷ rest) e after → HasFurther after (e ∷ []) es → IsLine tokens es
line_has {tokens} {rest} {first} {e} {es} t o d k =
    let same : tokens ≡ Mark OpenRecord ∷ (first ∷ rest) = t ∙ ap (λ ts. Mark OpenRecord ∷ ts) o in
    let whole : IsLine tokens (e ∷ k.further) = subst (λ ts. IsLine ts (e ∷ k.further)) (sym same) (entries d k.spelled) in
    subst (λ ds. IsLine tokens ds) (sym k.appended) whole

unopened : {tokens : List Token} {es : List Entry} → ¬ BeginsWith OpenRecord tokens → IsLine tokens es → ⊥
unopened h empty = h (_, refl)
unopened h (entries a m) = h (_, refl)

pub line_unopened : {tokens rest : List Token} → rest ≡ tokens → ¬ BeginsWith OpenRecord rest → HasNoLine tokens
line_unopened t h es l = unopened (subst (λ ts. ¬ BeginsWith OpenRecord ts) t h) l

unfinished : {rest after : List Token} {first : Token} {e : Entry} {es : List Entry} → IsEntry (first ∷ rest) e after → HasNoFurther after → IsLine (Mark OpenRecord ∷ first ∷ rest) es → ⊥
unfinished d none empty = elim d [ ]
unfinished d none (entries {es = es} a m) = none es (subst (λ ts. AreFurther ts es []) (IsEntry_once a d).1 m)

pub line_unfinished : {tokens others rest after : List Token} {first : Token} {e : Entry} → tokens ≡ Mark OpenRecord ∷ others → others ≡ first ∷ rest → IsEntry (first ∷ rest) e after → HasNoFurther after → HasNoLine tokens
line_unfinished {tokens} {rest} {first} t o d none es l =
    let same : tokens ≡ Mark OpenRecord ∷ (first ∷ rest) = t ∙ ap (λ ts. Mark OpenRecord ∷ ts) o in
    unfinished d none (subst (λ ts. IsLine ts es) same l)

-- what was answered is the one that is spelled
pub line_once : {tokens : List Token} {es : List Entry} (r : Result (List Entry) EntryFault) → MatchResult r (IsLine tokens) (λ fault. IfWrong fault (HasNoLine tokens)) → IsLine tokens es → IfOk r (λ found. found ≡ es)
line_once (Ok found) h l = IsLine_once h l
line_once (Err fault) h l = tt
