-- The further values of a list, read one after another.
use Rattle.std.proofs.Common.{◌≡◌, ◌∙◌, ◌+◌, ℕ, List, [], ◌∷◌, ◌++◌, Bool, true, false, append-nil, append_assoc, ap, arith, map, refl, subst, sum, sym}
use Rattle.std.proofs.lemmas.List.{map-append}
use Rattle.std.proofs.lemmas.List.Sums.{sum_by_push}
use Rattle.sn_record.specs.Value.{weight}
use Rattle.sn_record.specs.declared.value.Value.{Value}
use Rattle.sn_record_tokens.specs.declared.token.Mark.TheVariants.{CloseList, Comma}
use Rattle.sn_record_tokens.specs.declared.token.Token.{Token}
use Rattle.sn_record_tokens.specs.declared.token.Token.TheVariants.{Mark}
use Rattle.sn_record_parser.specs.Answers.{BeginsWith, FitTogether, HasValue, HasNoValue, HasMore, HasNoMore, mark_taken}
use Rattle.sn_record_parser.specs.Grammar.{AreMore, end, next}
use Rattle.sn_record_parser.proofs.Fits.{fits_none, fits_more, fits_first, fits_others}
use Rattle.sn_record_parser.proofs.Leads.{Leads, leads_push, leads_nowhere}
use Rattle.sn_record_parser.proofs.Once.{IsValue_once}

-- the tokens and the room that are left
pub record Place : Type 0 where
  pub tokens : List Token
  pub room : ℕ

abbrev pub place : List Token → ℕ → Place
place tokens room = record { tokens = tokens; room = room }

abbrev pub Row : ℕ → Place → List Value → List Token → Type 0
Row levels at vs rest = AreMore at.tokens vs rest × FitTogether levels at.room vs

-- what was appended so far
pub record SoFar (levels : ℕ) (start now : Place) (before after : List Value) : Type 0 where
  pub more : List Value
  pub leads : Leads (Row levels) start more now
  pub spent : sum (map weight more) + now.room ≡ start.room
  pub appended : after ≡ before ++ more

step_only : {levels left less : ℕ} {tokens rest : List Token} {v : Value} → HasValue levels left tokens rest v less → (ys : List Value) (after : List Token) → AreMore (Mark Comma ∷ tokens) ys after → FitTogether levels left ys →
    (zs : List Value) × (ys ≡ v ∷ zs) × Row levels (place rest less) zs after
step_only {levels} {left} {less} {tokens} {rest} {v} h ys after (next {v = w} {vs = ws} b m) f =
    let once = IsValue_once b h.spelled in
    let light = subst (λ x. weight x + less ≡ left) (sym once.0) h.spent in
    (ws, ap (λ x. x ∷ ws) once.0, (subst (λ ts. AreMore ts ws after) once.1 m, fits_others light f))

step : {levels left less : ℕ} {tokens rest : List Token} {v : Value} → HasValue levels left tokens rest v less → Leads (Row levels) (place (Mark Comma ∷ tokens) left) (v ∷ []) (place rest less)
step h = record {
  onwards = λ ys e r. (next h.spelled r.0, fits_more h.fits h.spent r.1);
  only = λ ys e r. step_only h ys e r.0 r.1;
}

sum_push : (n : ℕ) (ns : List ℕ) → sum (ns ++ (n ∷ [])) ≡ sum ns + n
sum_push n ns = sum_by_push (λ k. k) ns n

pub goes_on : {levels left less : ℕ} {start : Place} {now others rest : List Token} {before values after : List Value} {comma : Bool} {first : Token} {v : Value} →
    SoFar levels start (place now left) before values → comma ≡ true → now ≡ Mark (mark_taken CloseList comma) ∷ others → (tokens : List Token) → others ≡ first ∷ tokens → HasValue levels left (first ∷ tokens) rest v less → after ≡ values ++ (v ∷ []) →
    SoFar levels start (place rest less) before after
goes_on {levels} {left} {less} {start} {now} {others} {rest} {before} {values} {after} {comma} {first} {v} s c e tokens o h a =
    let same : now ≡ Mark Comma ∷ (first ∷ tokens) = e ∙ ap (λ b. Mark (mark_taken CloseList b) ∷ others) c ∙ ap (λ ts. Mark Comma ∷ ts) o in
    let here : Leads (Row levels) start s.more (place (Mark Comma ∷ (first ∷ tokens)) left) = subst (λ ts. Leads (Row levels) start s.more (place ts left)) same s.leads in
    record {
      more = s.more ++ (v ∷ []);
      leads = leads_push v here (step h);
      spent = let m : map weight (s.more ++ (v ∷ [])) ≡ map weight s.more ++ (weight v ∷ []) = map-append weight s.more (v ∷ []) in omega (arith, ap sum m, sum_push (weight v) (map weight s.more), s.spent, h.spent);
      appended = a ∙ ap (λ vs. vs ++ (v ∷ [])) s.appended ∙ append_assoc before s.more (v ∷ []);
    }

pub ends : {levels left : ℕ} {start : Place} {now rest : List Token} {before values : List Value} {comma : Bool} → SoFar levels start (place now left) before values → comma ≡ false → now ≡ Mark (mark_taken CloseList comma) ∷ rest →
    HasMore levels start.room start.tokens rest before values left
ends {levels} {left} {start} {now} {rest} {before} {values} {comma} s c e =
    let same : now ≡ Mark CloseList ∷ rest = e ∙ ap (λ b. Mark (mark_taken CloseList b) ∷ rest) c in
    let last : Row levels (place now left) [] rest = (subst (λ ts. AreMore ts [] rest) (sym same) end, fits_none) in
    let whole : Row levels start s.more rest = subst (λ vs. Row levels start vs rest) (append-nil s.more) (s.leads.onwards [] rest last) in
    record { more = s.more; spelled = whole.0; fit = whole.1; spent = s.spent; appended = s.appended }

nowhere : {levels : ℕ} {start now : Place} {before values : List Value} → SoFar levels start now before values → ((vs : List Value) (rest : List Token) → ¬ Row levels now vs rest) → HasNoMore levels start.room start.tokens
nowhere s h vs rest m f = leads_nowhere s.leads h vs rest (m, f)

unmarked : {now rest : List Token} {vs : List Value} → ¬ BeginsWith Comma now → ¬ BeginsWith CloseList now → AreMore now vs rest → ⊥
unmarked c d end = d (_, refl)
unmarked c d (next a m) = c (_, refl)

pub stops : {levels left : ℕ} {start : Place} {now : List Token} {before values : List Value} → SoFar levels start (place now left) before values → ¬ BeginsWith Comma now × ¬ BeginsWith CloseList now → HasNoMore levels start.room start.tokens
stops s h = nowhere s (λ vs rest r. unmarked h.0 h.1 r.0)

unread : {levels left : ℕ} {tokens rest : List Token} {vs : List Value} → HasNoValue levels left tokens → AreMore (Mark Comma ∷ tokens) vs rest → FitTogether levels left vs → ⊥
unread none (next a m) f = none _ _ a (fits_first f)

-- no value that fits comes behind a comma
pub spoils : {levels left : ℕ} {start : Place} {now others : List Token} {before values : List Value} {comma : Bool} → SoFar levels start (place now left) before values → comma ≡ true → now ≡ Mark (mark_taken CloseList comma) ∷ others →
    HasNoValue levels left others → HasNoMore levels start.room start.tokens
spoils {levels} {left} {now} {others} {comma} s c e none =
    let same : now ≡ Mark Comma ∷ others = e ∙ ap (λ b. Mark (mark_taken CloseList b) ∷ others) c in
    nowhere s (λ vs rest r. unread none (subst (λ ts. AreMore ts vs rest) same r.0) r.1)
