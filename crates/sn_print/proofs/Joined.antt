-- One more text with a separator before it.
use Rattle.std.proofs.Common.{◌≡◌, ℕ, ◌+◌, ◌<◌, ◌≤◌, List, [], ◌∷◌, ◌++◌, length, map, take, get_or, sym, ap, ◌∙◌, append_assoc, append-nil, arith}
use Rattle.std.specs.List.{flat_map}
use Rattle.std.proofs.lemmas.List.{length-map, length-take-le, map-append, take_more}
use Rattle.std.proofs.lemmas.Grind.{flat_map-append}
use Rattle.sn_print.specs.Words.{joined, led_by}

joined_last : (separator : List ℕ) (texts : List (List ℕ)) (text : List ℕ) → joined separator (texts ++ (text ∷ [])) ≡ joined separator texts ++ (led_by separator (length texts) ++ text)
joined_last separator [] text = append-nil text
joined_last separator (first ∷ texts) text =
    let lead : List ℕ → List ℕ = λ next. separator ++ next in
    ap (λ t. first ++ t) (flat_map-append lead texts (text ∷ []) ∙ ap (λ t. flat_map lead texts ++ t) (append-nil (lead text)))
    ∙ sym (append_assoc first (flat_map lead texts) (separator ++ text))

pub push_more : {A : Type 0} (separator : List ℕ) (f : A → List ℕ) (xs : List A) (i : ℕ) (x : A) (start was between now : List ℕ) → i < length xs → x ≡ get_or xs i x →
    was ≡ start ++ joined separator (map f (take i xs)) → between ≡ was ++ led_by separator i → now ≡ between ++ f x →
    now ≡ start ++ joined separator (map f (take (i + 1) xs))
push_more separator f xs i x start was between now lt at a b c =
    let le : i ≤ length xs = omega (arith, lt) in
    let front : List (List ℕ) = map f (take i xs) in
    let count : length front ≡ i = length-map (take i xs) f ∙ length-take-le i xs le in
    let cut : take (i + 1) xs ≡ take i xs ++ (x ∷ []) = take_more xs i x lt ∙ ap (λ y. take i xs ++ (y ∷ [])) (sym at) in
    let all : map f (take (i + 1) xs) ≡ front ++ (f x ∷ []) = ap (map f) cut ∙ map-append f (take i xs) (x ∷ []) in
    c
    ∙ ap (λ t. t ++ f x) (b ∙ ap (λ t. t ++ led_by separator i) a)
    ∙ append_assoc (start ++ joined separator front) (led_by separator i) (f x)
    ∙ append_assoc start (joined separator front) (led_by separator i ++ f x)
    ∙ ap (λ t. start ++ t) (ap (λ n. joined separator front ++ (led_by separator n ++ f x)) (sym count) ∙ sym (joined_last separator front (f x)) ∙ ap (joined separator) (sym all))
