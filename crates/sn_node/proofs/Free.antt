-- Records without a call, as the code keeps them and as they are seen.
use Rattle.std.proofs.Common.{◌≡◌, ℕ, zero, suc, ◌+◌, ◌<◌, ◌≤◌, Bool, true, false, ◌||◌, cond, List, [], ◌∷◌, length, map, take, get_or, is_some, refl, sym, ap, subst, ◌∙◌, arith}
use Rattle.std.specs.Prelude.{slice_get, Option, Some, None, IfSome, IfNone}
use Rattle.std.specs.List.{list_any}
use Rattle.std.proofs.lemmas.Bool.{false≢true}
use Rattle.std.proofs.lemmas.Option.{slice_get_read}
use Rattle.sn_record.specs.declared.item.Item.TheVariants as item
use Rattle.sn_view.specs.Next.{has_no_call}
use Rattle.sn_node.specs.Seen.{waiting_of}
use Rattle.sn_node.specs.Waiting.{is_free}
use Rattle.sn_node.proofs.Waits.{left, right}
use Rattle.sn_node.specs.declared.entry.Entry.TheVariants as entry
use Rattle.sn_node.specs.declared.entry.Waiting.{Waiting}
use Rattle.sn_node.specs.declared.entry.Waiting.TheVariants as waiting

pub or_true : (a b : Bool) → b ≡ true → (a || b) ≡ true
or_true true b e = refl
or_true false b e = e

-- none among fewer
pub none_among_fewer : {X : Type 0} (f : X → Bool) (xs : List X) (n m : ℕ) → n ≤ m → list_any f (take m xs) ≡ false → list_any f (take n xs) ≡ false
none_among_fewer f xs zero m few none = refl
none_among_fewer f [] (suc n) m few none = refl
none_among_fewer f (x ∷ xs) (suc n) zero few none = absurd (omega (arith, few))
none_among_fewer f (x ∷ xs) (suc n) (suc m) few none =
    ap (λ b. b || list_any f (take n xs)) (left (f x) (list_any f (take m xs)) none) ∙ none_among_fewer f xs n m (omega (arith, few)) (right (f x) (list_any f (take m xs)) none)

-- nor with one before them that has a call or needs none
pub none_with_first : (w : Waiting) (ws new : List Waiting) (called n : ℕ) → new ≡ w ∷ ws → n ≤ cond (is_free w) 0 (called + 1)
    → list_any is_free (take called ws) ≡ false → list_any is_free (take n new) ≡ false
none_with_first w ws new called n is few none = ap (λ xs. list_any is_free (take n xs)) is ∙ at (is_free w) n refl few
  where
    at : (b : Bool) (n : ℕ) → is_free w ≡ b → n ≤ cond b 0 (called + 1) → list_any is_free (take n (w ∷ ws)) ≡ false
    at b zero e few = refl
    at true (suc n) e few = absurd (omega (arith, few))
    at false (suc n) e few = ap (λ b. b || list_any is_free (take n ws)) e ∙ none_among_fewer is_free ws n called (omega (arith, few)) none

pub few_with_first : (w : Waiting) (ws new : List Waiting) (called n : ℕ) → new ≡ w ∷ ws → n ≤ cond (is_free w) 0 (called + 1) → called ≤ length ws → n ≤ length new
few_with_first w ws new called n is few within = subst (λ xs. n ≤ length xs) (sym is) (at (is_free w) few)
  where
    at : (b : Bool) → n ≤ cond b 0 (called + 1) → n ≤ length (w ∷ ws)
    at true few = omega (arith, few)
    at false few = omega (arith, few, within)

-- AS THEY ARE SEEN
seen_free : (w : Waiting) → has_no_call (waiting_of w) ≡ is_free w
seen_free (waiting.Plain (entry.Item (item.Rec r))) = refl
seen_free (waiting.Plain (entry.Item (item.Fault fault))) = refl
seen_free (waiting.Plain entry.Mark) = refl
seen_free (waiting.Plain entry.End) = refl
seen_free (waiting.InFlight call given) = refl
seen_free (waiting.Finished given items) = refl

pub any_free : (ws : List Waiting) → list_any has_no_call (map waiting_of ws) ≡ list_any is_free ws
any_free [] = refl
any_free (w ∷ ws) = ap (λ b. b || list_any has_no_call (map waiting_of ws)) (seen_free w) ∙ ap (λ b. is_free w || b) (any_free ws)

pub any_free_before : (ws : List Waiting) (p : ℕ) → list_any has_no_call (take p (map waiting_of ws)) ≡ list_any is_free (take p ws)
any_free_before ws zero = refl
any_free_before [] (suc p) = refl
any_free_before (w ∷ ws) (suc p) =
    ap (λ b. b || list_any has_no_call (take p (map waiting_of ws))) (seen_free w) ∙ ap (λ b. is_free w || b) (any_free_before ws p)

free_there : (ws : List Waiting) (p : ℕ) → p < length ws → ((w : Waiting) → slice_get ws p ≡ Some w → is_free w ≡ true) → list_any is_free ws ≡ true
free_there [] p within free = absurd (omega (arith, within))
free_there (w ∷ ws) zero within free = ap (λ b. b || list_any is_free ws) (free w refl)
free_there (w ∷ ws) (suc p) within free = or_true (is_free w) (list_any is_free ws) (free_there ws p (omega (arith, within)) free)

-- one is found where there is one
pub found_free : (ws : List Waiting) (o : Option ℕ) → IfSome o (λ p. p < length ws) → IfSome o (λ p. (w : Waiting) → slice_get ws p ≡ Some w → is_free w ≡ true)
    → IfNone o (list_any is_free ws ≡ false) → is_some o ≡ list_any has_no_call (map waiting_of ws)
found_free ws None within free none = sym (any_free ws ∙ none)
found_free ws (Some p) within free none = sym (any_free ws ∙ free_there ws p within free)

-- what was found free is a record
pub free_contradicts : {P : Type 0} (ws : List Waiting) (p : ℕ) (w : Waiting) → p < length ws → w ≡ get_or ws p w
    → ((w : Waiting) → slice_get ws p ≡ Some w → is_free w ≡ true) → has_no_call (waiting_of w) ≡ false → P
free_contradicts ws p w within read free not =
    absurd (false≢true (sym not ∙ seen_free w ∙ free w (slice_get_read ws (length ws) p w refl within read)))
