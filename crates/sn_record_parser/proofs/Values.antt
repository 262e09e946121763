-- What each step of reading a value leads to, but for the further values of a list.
use Rattle.std.proofs.Common.{◌≡◌, ◌≢◌, ◌-◌, ◌<◌, ◌+◌, ℕ, ℤ, List, [], ◌∷◌, arith, length, map, refl, subst, sym}
use Rattle.std.proofs.lemmas.List.Sums.{sum_by-cons}
use Rattle.sn_record.specs.Value.{FitsIn, IsSound, weight}
use Rattle.sn_record.specs.declared.value.Value.{Value}
use Rattle.sn_record.specs.declared.value.Value.TheVariants as value
use Rattle.sn_record.proofs.Values.{weight-Int, weight-Text, weight-List}
use Rattle.sn_record_tokens.specs.declared.token.Mark.TheVariants.{OpenList, CloseList}
use Rattle.sn_record_tokens.specs.declared.token.Token.{Token}
use Rattle.sn_record_tokens.specs.declared.token.Token.TheVariants.{Mark, Number, Text}
use Rattle.sn_record_parser.specs.Answers.{HasValue, HasNoValue, HasMore, HasNoMore}
use Rattle.sn_record_parser.specs.Grammar.{IsValue, AreMore, number, text, empty, list}
use Rattle.sn_record_parser.proofs.Fits.{fits_Int, fits_Text, fits_List, fits_none, fits_more, fits_first, fits_others, fits_inside}
use Rattle.sn_record_parser.proofs.Once.{IsValue_once}

pub number_has : {levels room : ℕ} (n : ℤ) (rest : List Token) → 0 < room → HasValue levels room (Number n ∷ rest) rest (value.Int n) (room - 1)
number_has n rest h = record { spelled = number refl; fits = fits_Int n h; spent = omega (arith, weight-Int n) }

pub text_has : {levels room : ℕ} (t : List ℕ) (rest : List Token) → length t < room → IsSound (value.Text t) → HasValue levels room (Text t ∷ rest) rest (value.Text t) (room - 1 - length t)
text_has t rest h s = record { spelled = text refl; fits = fits_Text t h s; spent = omega (arith, weight-Text t) }

pub nothing_no_value : {levels room : ℕ} → HasNoValue levels room []
nothing_no_value v after d f = elim d [ ]

pub list_empty : {levels room : ℕ} {first : Token} {tokens rest : List Token} → 0 < levels → 0 < room → tokens ≡ first ∷ rest → first ≡ Mark CloseList →
    HasValue levels room (Mark OpenList ∷ tokens) rest (value.List []) (room - 1)
list_empty {first} {tokens} {rest} deep heavy e h = record {
  spelled = let same : tokens ≡ Mark CloseList ∷ rest = cc in subst (λ ts. IsValue (Mark OpenList ∷ ts) (value.List []) rest) (sym same) (empty refl);
  fits = fits_List [] deep heavy fits_none;
  spent = omega (arith, weight-List []);
}

pub list_spoiled : {levels room : ℕ} {first : Token} {tokens rest : List Token} → tokens ≡ first ∷ rest → first ≢ Mark CloseList → HasNoValue (levels - 1) (room - 1) (first ∷ rest) →
    HasNoValue levels room (Mark OpenList ∷ tokens)
list_spoiled e h none v after (empty p) f = h cc
list_spoiled {levels} {room} e h none v after (list {last = last} {v = w} {vs = ws} a m p) f =
    none w last (subst (λ ts. IsValue ts w last) e a) (fits_first (fits_inside (w ∷ ws) (subst (FitsIn levels room) p f)))

pub list_more_spoiled : {levels room left : ℕ} {first : Token} {tokens others rest : List Token} {v : Value} → tokens ≡ first ∷ others → HasValue (levels - 1) (room - 1) (first ∷ others) rest v left → HasNoMore (levels - 1) left rest →
    HasNoValue levels room (Mark OpenList ∷ tokens)
list_more_spoiled {others} {rest} {v} e h none w after (empty p) f = let b = subst (λ ts. IsValue ts v rest) (sym e) h.spelled in elim b [ ]
list_more_spoiled {levels} {room} {left} {rest} {v} e h none w after (list {last = last} {v = x} {vs = xs} a m p) f =
    let once = IsValue_once h.spelled (subst (λ ts. IsValue ts x last) e a) in
    let light = subst (λ y. weight y + left ≡ room - 1) once.0 h.spent in
    none xs after (subst (λ ts. AreMore ts xs after) (sym once.1) m) (fits_others light (fits_inside (x ∷ xs) (subst (FitsIn levels room) p f)))

pub list_has : {levels room left less : ℕ} {first : Token} {tokens others between rest : List Token} {v : Value} {vs : List Value} → 0 < levels → 0 < room → tokens ≡ first ∷ others → HasValue (levels - 1) (room - 1) (first ∷ others) between v left →
    HasMore (levels - 1) left between rest (v ∷ []) vs less → HasValue levels room (Mark OpenList ∷ tokens) rest (value.List vs) less
list_has {levels} {room} {left} {less} {first} {tokens} {others} {between} {rest} {v} {vs} deep heavy e h k =
    let whole : HasValue levels room (Mark OpenList ∷ tokens) rest (value.List (v ∷ k.more)) less = record {
      spelled = list (subst (λ ts. IsValue ts v between) (sym e) h.spelled) k.spelled refl;
      fits = fits_List (v ∷ k.more) deep heavy (fits_more h.fits h.spent k.fit);
      spent = omega (arith, weight-List (v ∷ k.more), sum_by-cons (λ n. n) (weight v) (map weight k.more), h.spent, k.spent);
    } in
    subst (λ ws. HasValue levels room (Mark OpenList ∷ tokens) rest (value.List ws) less) (sym k.appended) whole
