-- Keys of labels: names, and names in angle brackets.
use Rattle.std.proofs.Common.{◌≡◌, ◌≢◌, ℕ, suc, ◌-◌, ◌==◌, Bool, true, false, cond, IsTrue, ◌&&◌, List, [], ◌∷◌, ◌++◌, length, take, drop, append-nil, Option, Some, None, refl, sym, ap, ◌∙◌, arith, MatchOption, Bor}
use Rattle.std.specs.List.{list_all}
use Rattle.std.specs.Option.{option_copied}
use Rattle.std.proofs.Math.Seq.{take-append_seam}
use Rattle.std.proofs.lemmas.Bool.Decides.{nat_tests}
use Rattle.std.proofs.lemmas.Bool.{and_right, false_from_ne_true}
use Rattle.std.proofs.lemmas.List.{length-append}
use Rattle.std.proofs.lemmas.List.Folds.{list_all-append}
use Rattle.std.proofs.lemmas.Slice.Eq.{bytes_eq-Decides}
use Rattle.unicode_ident.specs.Ident.{is_xid_continue}
use Rattle.sn_lexer.specs.declared.token.TokenKind.{TokenKind}
use Rattle.sn_lexer.specs.Fronts.{IsNameUpTo, Stops}
use Rattle.sn_lexer.specs.Spelling.{is_name, starts_name}
use Rattle.sn_json.specs.Keys.{inside_of, middle}

either_way : (b : Bool) → b ≡ false → (more : Bool) → (b && more) ≡ false
either_way true e more = absurd (omega_no e)
  where
    omega_no : true ≡ false → ⊥
    omega_no e = cc
either_way false e more = refl

-- what goes on with a character that continues no name is no name
goes_on : (name : List ℕ) (c : ℕ) (more : List ℕ) → is_xid_continue c ≡ false → list_all is_xid_continue (name ++ c ∷ more) ≡ false
goes_on name c more stops = list_all-append is_xid_continue name (c ∷ more) ∙ and_right _ _ (either_way (is_xid_continue c) stops _)

longer : (name : List ℕ) (c : ℕ) (more : List ℕ) → IsTrue (is_name name) → is_xid_continue c ≡ false → is_name (name ++ c ∷ more) ≡ false
longer [] c more named stops = absurd (no named)
  where
    no : false ≡ true → ⊥
    no e = cc
longer (n ∷ name) c more named stops = and_right (starts_name n) _ (goes_on name c more stops)

some_left : (n : ℕ) → (suc n == 0) ≡ false
some_left n = grind (arith, nat_tests)

at_end : (name rest : List ℕ) → IsTrue (is_name name) → Stops is_xid_continue rest → (length rest == 0) ≡ is_name (name ++ rest)
at_end name [] named stops = sym (ap is_name (append-nil name) ∙ named)
at_end name (c ∷ more) named stops = some_left (length more) ∙ sym (longer name c more named stops)

-- a name in front is all exactly where nothing follows it
pub name_is_all : {kind : TokenKind} {cs rest : List ℕ} → IsNameUpTo kind cs rest → (length rest == 0) ≡ is_name cs
name_is_all {rest = rest} up = at_end up.name rest up.named up.stops ∙ ap is_name (sym up.front)

-- where no name begins there is none
pub begins_none : (cs : List ℕ) → Stops starts_name cs → false ≡ is_name cs
begins_none [] stops = refl
begins_none (c ∷ cs) stops = sym (either_way (starts_name c) stops _)

-- what stands between brackets
middle_is : (inside : List ℕ) → middle (60 ∷ (inside ++ 62 ∷ [])) ≡ inside
middle_is inside =
    let long : length (60 ∷ (inside ++ 62 ∷ [])) - 2 ≡ length inside = omega (arith, length-append inside (62 ∷ [])) in
    ap (λ n. take n (inside ++ 62 ∷ [])) long ∙ take-append_seam inside (62 ∷ [])

tested : (b : Bool) (text : List ℕ) → b ≡ true → cond b (Some text) None ≡ Some text
tested true text e = refl
tested false text e = absurd (no e)
  where
    no : false ≡ true → ⊥
    no e = cc

refused : (b : Bool) (text : List ℕ) → b ≡ false → cond b (Some text) None ≡ None
refused true text e = absurd (no e)
  where
    no : true ≡ false → ⊥
    no e = cc
refused false text e = refl

pub inside_is : (key inside : List ℕ) → key ≡ 60 ∷ (inside ++ 62 ∷ []) → inside_of key ≡ Some inside
inside_is key inside e =
    let mid : middle key ≡ inside = ap middle e ∙ middle_is inside in
    let same : 60 ∷ (middle key ++ 62 ∷ []) ≡ key = ap (λ t. 60 ∷ (t ++ 62 ∷ [])) mid ∙ sym e in
    tested _ (middle key) ((bytes_eq-Decides (60 ∷ (middle key ++ 62 ∷ [])) key).1 same) ∙ ap Some mid

pub no_inside : (key : List ℕ) → ((inside : List ℕ) → key ≢ 60 ∷ (inside ++ 62 ∷ [])) → inside_of key ≡ None
no_inside key none = refused _ (middle key) (false_from_ne_true _ (λ e. none (middle key) (sym ((bytes_eq-Decides (60 ∷ (middle key ++ 62 ∷ [])) key).0 e))))

-- brackets that are all of a key
pub none_opens : (key : List ℕ) → ((rest : List ℕ) → key ≢ 60 ∷ rest) → None ≡ inside_of key
none_opens key none = sym (no_inside key (λ inside. none (inside ++ 62 ∷ [])))

tails : {a b : ℕ} {xs ys : List ℕ} → a ∷ xs ≡ b ∷ ys → xs ≡ ys
tails e = ap (drop 1) e

pub none_closes : (key rest : List ℕ) → key ≡ 60 ∷ rest → ((front : List ℕ) → rest ≢ front ++ 62 ∷ []) → inside_of key ≡ None
none_closes key rest opens none = no_inside key (λ inside e. none inside (tails (sym opens ∙ e)))

pub closes : (key rest inside : List ℕ) → key ≡ 60 ∷ rest → rest ≡ inside ++ 62 ∷ [] → inside_of key ≡ Some inside
closes key rest inside opens closing = inside_is key inside (opens ∙ ap (λ t. 60 ∷ t) closing)

pub inside_by : (key rest : List ℕ) (found : Option (Bor (List ℕ))) → key ≡ 60 ∷ rest → MatchOption found ((front : List ℕ) → rest ≢ front ++ 62 ∷ []) (λ inside. rest ≡ inside.now ++ 62 ∷ [])
    → option_copied found ≡ inside_of key
inside_by key rest None opens none = sym (none_closes key rest opens none)
inside_by key rest (Some inside) opens closing = sym (closes key rest inside.now opens closing)
