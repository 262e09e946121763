-- How many children stand in the output's epoch, and what a mark of one of them changes.
use Rattle.std.proofs.Common.{◌≡◌, ℕ, zero, suc, ◌+◌, ◌-◌, ◌<◌, ◌≤◌, ◌==◌, Bool, true, false, ◌&&◌, nat_lt, List, [], ◌∷◌, ◌++◌, length, refl, sym, ap, subst, ◌∙◌, arith, IsTrue, cond, get_or, set}
use Rattle.std.specs.Prelude.{slice_get, unwrap_or, count_by}
use Rattle.std.specs.List.{All, list_all}
use Rattle.std.specs.Option.{option_map}
use Rattle.std.proofs.lemmas.List.Recursion.{is_count_by}
use Rattle.std.proofs.lemmas.List.Elements.{All-head, All-tail, All-cons, All-nil}
use Rattle.std.proofs.lemmas.Bool.{false≢true}
use Rattle.std.proofs.lemmas.Bool.Decides.{nat_tests}
use Rattle.sn_view.specs.Epochs.{Epochs, counted_at, stands_at_output, is_passed, marked}
use Rattle.sn_dispatch.specs.Kept.{IsKept, standing}

-- where no epoch is behind the output, all are past it exactly where none stands at it
pub all_past : (output : ℕ) (epochs : List ℕ) → All (λ epoch. output ≤ epoch) epochs → list_all (λ epoch. nat_lt output epoch) epochs ≡ (standing output epochs == 0)
all_past output [] ahead = refl
all_past output (n ∷ ns) ahead =
    let first : output ≤ n = All-head (λ epoch. output ≤ epoch) n ns ahead in
    let others : list_all (λ epoch. nat_lt output epoch) ns ≡ (standing output ns == 0) = all_past output ns (All-tail (λ epoch. output ≤ epoch) n ns ahead) in
    at (n == output) refl (nat_lt output n) refl first others
  where
    at : (same : Bool) → (n == output) ≡ same → (past : Bool) → nat_lt output n ≡ past → output ≤ n → list_all (λ epoch. nat_lt output epoch) ns ≡ (standing output ns == 0)
        → past && list_all (λ epoch. nat_lt output epoch) ns ≡ ((cond same 1 0 + standing output ns) == 0)
    at true e true p first others = grind (arith, nat_tests)
    at true e false p first others = grind (arith, nat_tests)
    at false e true p first others = others ∙ ap (λ k. k == 0) (omega arith)
    at false e false p first others = grind (arith, nat_tests)

-- the epoch of a child that stands at the output
pub stands_is : (e : Epochs) (child epoch : ℕ) → IsTrue (stands_at_output e child) → child < length e.children → epoch ≡ get_or e.children child epoch → epoch ≡ e.output
stands_is e child epoch stands within read = at e.children child epoch stands within read
  where
    at : (ns : List ℕ) (i n : ℕ) → IsTrue (unwrap_or (option_map (λ epoch. epoch == e.output) (slice_get ns i)) false) → i < length ns → n ≡ get_or ns i n → n ≡ e.output
    at [] i n stands within read = absurd (omega (arith, within))
    at (m ∷ ns) zero n stands within read = grind (arith, nat_tests)
    at (m ∷ ns) (suc i) n stands within read = at ns i n stands (omega (arith, within)) read

-- such a child is there
pub stands_within : (e : Epochs) (child : ℕ) → IsTrue (stands_at_output e child) → child < length e.children
stands_within e child stands = at e.children child stands
  where
    at : (ns : List ℕ) (i : ℕ) → IsTrue (unwrap_or (option_map (λ epoch. epoch == e.output) (slice_get ns i)) false) → i < length ns
    at [] i stands = absurd (false≢true stands)
    at (m ∷ ns) zero stands = omega arith
    at (m ∷ ns) (suc i) stands = let below : i < length ns = at ns i stands in omega (arith, below)

-- its number one greater
pub counted-set : (ns : List ℕ) (i n : ℕ) → i < length ns → n ≡ get_or ns i n → counted_at i ns ≡ set ns i (n + 1)
counted-set [] i n within read = absurd (omega (arith, within))
counted-set (m ∷ ns) zero n within read = ap (λ k. (k + 1) ∷ ns) (sym read)
counted-set (m ∷ ns) (suc i) n within read = ap (λ ks. m ∷ ks) (counted-set ns i n (omega (arith, within)) read)

-- no child is behind the output still
pub ahead-set : (output : ℕ) (ns : List ℕ) (i n : ℕ) → output ≤ n → All (λ epoch. output ≤ epoch) ns → All (λ epoch. output ≤ epoch) (set ns i n)
ahead-set output [] i n le ahead = ahead
ahead-set output (m ∷ ns) zero n le ahead = All-cons (λ epoch. output ≤ epoch) n ns le (All-tail (λ epoch. output ≤ epoch) m ns ahead)
ahead-set output (m ∷ ns) (suc i) n le ahead =
    All-cons (λ epoch. output ≤ epoch) m (set ns i n) (All-head (λ epoch. output ≤ epoch) m ns ahead) (ahead-set output ns i n le (All-tail (λ epoch. output ≤ epoch) m ns ahead))

-- one child fewer stands at the output
pub standing-set : (output : ℕ) (ns : List ℕ) (i : ℕ) → i < length ns → output ≡ get_or ns i output → standing output (set ns i (output + 1)) + 1 ≡ standing output ns
standing-set output [] i within read = absurd (omega (arith, within))
standing-set output (m ∷ ns) zero within read = at (m == output) refl ((output + 1) == output) refl
  where
    at : (same : Bool) → (m == output) ≡ same → (next : Bool) → ((output + 1) == output) ≡ next → cond next 1 0 + standing output ns + 1 ≡ cond same 1 0 + standing output ns
    at true e true f = grind (arith, nat_tests)
    at true e false f = omega arith
    at false e next f = grind (arith, nat_tests)
standing-set output (m ∷ ns) (suc i) within read =
    let others : standing output (set ns i (output + 1)) + 1 ≡ standing output ns = standing-set output ns i (omega (arith, within)) read in
    omega (arith, others)

-- all are past a new output, or stand at it
pub ahead_next : (output : ℕ) (ns : List ℕ) → All (λ epoch. output ≤ epoch) ns → standing output ns ≡ 0 → All (λ epoch. output + 1 ≤ epoch) ns
ahead_next output [] ahead none = All-nil (λ epoch. output + 1 ≤ epoch)
ahead_next output (n ∷ ns) ahead none =
    let first : output ≤ n = All-head (λ epoch. output ≤ epoch) n ns ahead in
    at (n == output) refl first (ahead_next output ns (All-tail (λ epoch. output ≤ epoch) n ns ahead)) none
  where
    at : (same : Bool) → (n == output) ≡ same → output ≤ n → (standing output ns ≡ 0 → All (λ epoch. output + 1 ≤ epoch) ns) → cond same 1 0 + standing output ns ≡ 0 → All (λ epoch. output + 1 ≤ epoch) (n ∷ ns)
    at true e first others sum = absurd (omega (arith, sum))
    at false e first others sum =
        let past : output + 1 ≤ n = grind (arith, nat_tests) in
        All-cons (λ epoch. output + 1 ≤ epoch) n ns past (others (omega (arith, sum)))

-- the same as a count
pub standing-count : (output : ℕ) (ns : List ℕ) → standing output ns ≡ count_by (λ epoch. epoch == output) ns
standing-count output ns = is_count_by (standing output) (λ epoch. epoch == output) refl (λ x xs. at (x == output) xs) ns
  where
    at : (same : Bool) (xs : List ℕ) → cond same 1 0 + standing output xs ≡ cond same (1 + standing output xs) (standing output xs)
    at true xs = refl
    at false xs = omega arith

-- epochs as a fork shows them
abbrev pub shown : ℕ → ℕ → List ℕ → Epochs
shown input output children = record { input = input; output = output; children = children }

pub standing-le-length : (output : ℕ) (ns : List ℕ) → standing output ns ≤ length ns
standing-le-length output [] = omega arith
standing-le-length output (n ∷ ns) = at (n == output) (standing-le-length output ns)
  where
    at : (same : Bool) → standing output ns ≤ length ns → cond same 1 0 + standing output ns ≤ length (n ∷ ns)
    at true le = omega (arith, le)
    at false le = omega (arith, le)

standing-push : (output n : ℕ) (ns : List ℕ) → standing output (ns ++ n ∷ []) ≡ standing output ns + cond (n == output) 1 0
standing-push output n [] = omega arith
standing-push output n (m ∷ ns) =
    let others : standing output (ns ++ n ∷ []) ≡ standing output ns + cond (n == output) 1 0 = standing-push output n ns in
    ap (λ k. cond (m == output) 1 0 + k) others ∙ omega arith

ahead-push : (output n : ℕ) (ns : List ℕ) → output ≤ n → All (λ epoch. output ≤ epoch) ns → All (λ epoch. output ≤ epoch) (ns ++ n ∷ [])
ahead-push output n [] le ahead = All-cons (λ epoch. output ≤ epoch) n [] le (All-nil (λ epoch. output ≤ epoch))
ahead-push output n (m ∷ ns) le ahead =
    All-cons (λ epoch. output ≤ epoch) m (ns ++ n ∷ []) (All-head (λ epoch. output ≤ epoch) m ns ahead) (ahead-push output n ns le (All-tail (λ epoch. output ≤ epoch) m ns ahead))

abbrev one_if : Bool → ℕ
one_if b = cond b 1 0

cond-true : (b : Bool) → b ≡ true → one_if b ≡ 1
cond-true true e = refl
cond-true false e = absurd (false≢true e)

cond-false : (b : Bool) → b ≡ false → one_if b ≡ 0
cond-false true e = absurd (false≢true (sym e))
cond-false false e = refl

pub more_here : (input output here : ℕ) (ns : List ℕ) → IsKept input output here ns → input ≡ output → IsKept input output (here + 1) (ns ++ input ∷ [])
more_here input output here ns kept same =
    let test : (input == output) ≡ true = grind (arith, nat_tests) in
    let one : one_if (input == output) ≡ 1 = cond-true (input == output) test in
    let sum : standing output (ns ++ input ∷ []) ≡ standing output ns + cond (input == output) 1 0 = standing-push output input ns in
    record { order = kept.order; few = kept.few; ahead = ahead-push output input ns kept.order kept.ahead; counted = omega (arith, kept.counted, sum, one) }

pub more_past : (input output here : ℕ) (ns : List ℕ) → IsKept input output here ns → (input ≡ output → ⊥) → IsKept input output here (ns ++ input ∷ [])
more_past input output here ns kept other =
    let test : (input == output) ≡ false = grind (arith, nat_tests) in
    let none : one_if (input == output) ≡ 0 = cond-false (input == output) test in
    let sum : standing output (ns ++ input ∷ []) ≡ standing output ns + cond (input == output) 1 0 = standing-push output input ns in
    record { order = kept.order; few = kept.few; ahead = ahead-push output input ns kept.order kept.ahead; counted = omega (arith, kept.counted, sum, none) }

-- a child that stands at the output gives a mark
module _ (input output here : ℕ) (ns : List ℕ) (child epoch : ℕ) (kept : IsKept input output here ns)
    (stands : IsTrue (stands_at_output (shown input output ns) child)) (read : epoch ≡ get_or ns child epoch) where
  within : child < length ns
  within = stands_within (shown input output ns) child stands

  is_output : epoch ≡ output
  is_output = stands_is (shown input output ns) child epoch stands within read

  read_output : output ≡ get_or ns child output
  read_output = subst (λ n. n ≡ get_or ns child n) is_output read

  fewer : standing output (set ns child (output + 1)) + 1 ≡ standing output ns
  fewer = standing-set output ns child within read_output

  pub some_here : 1 ≤ here
  some_here = omega (arith, kept.counted, fewer)

  pub one_less : IsKept input output (here - 1) (set ns child (epoch + 1))
  one_less = record {
    order = kept.order;
    few = kept.few;
    ahead = ahead-set output ns child (epoch + 1) (omega (arith, is_output)) kept.ahead;
    counted = omega (arith, kept.counted, fewer) ∙ ap (λ n. standing output (set ns child (n + 1))) (sym is_output);
  }

  pub marked_is : shown input output (set ns child (epoch + 1)) ≡ marked child (shown input output ns)
  marked_is = ap (shown input output) (sym (counted-set ns child epoch within read))

-- whether the output's epoch is passed
and_eq : (a b c : Bool) → b ≡ c → a && b ≡ a && c
and_eq a b c e = ap (λ x. a && x) e

pub passed_test : (input output here : ℕ) (ns : List ℕ) → IsKept input output here ns → is_passed (shown input output ns) ≡ nat_lt output input && (here == 0)
passed_test input output here ns kept =
    and_eq (nat_lt output input) _ _ (all_past output ns kept.ahead ∙ ap (λ n. n == 0) (sym kept.counted))

pub not_passed : (input output here : ℕ) (ns : List ℕ) → IsKept input output here ns → 0 < here → false ≡ is_passed (shown input output ns)
not_passed input output here ns kept some = sym (passed_test input output here ns kept ∙ at (nat_lt output input) (here == 0) none)
  where
    none : (here == 0) ≡ false
    none = grind (arith, nat_tests)

    at : (a b : Bool) → b ≡ false → a && b ≡ false
    at true b e = e
    at false b e = refl

pub is_at_input : (input output here : ℕ) (ns : List ℕ) → output ≡ input → false ≡ is_passed (shown input output ns)
is_at_input input output here ns same = let test : nat_lt output input ≡ false = grind (arith, nat_tests) in sym (ap (λ b. b && list_all (λ epoch. nat_lt output epoch) ns) test)

pub passed_now : (input output here : ℕ) (ns : List ℕ) → IsKept input output here ns → (output ≡ input → ⊥) → here ≤ 0 → true ≡ is_passed (shown input output ns)
passed_now input output here ns kept other none =
    let ahead : nat_lt output input ≡ true = let le : output ≤ input = kept.order in grind (arith, nat_tests) in
    let zero_here : (here == 0) ≡ true = grind (arith, nat_tests) in
    sym (passed_test input output here ns kept ∙ ap (λ b. b && (here == 0)) ahead ∙ zero_here)

pub next_kept : (input output here : ℕ) (ns : List ℕ) (count : ℕ) → IsKept input output here ns → (output ≡ input → ⊥) → here ≤ 0
    → count ≡ count_by (λ epoch. epoch == output + 1) ns → IsKept input (output + 1) count ns
next_kept input output here ns count kept other none counted =
    let le : output ≤ input = kept.order in
    let at_input : output + 1 ≤ input = omega (arith, le, other) in
    let sum : here ≡ standing output ns = kept.counted in
    record { order = at_input; few = kept.few; ahead = ahead_next output ns kept.ahead (omega (arith, sum, none)); counted = counted ∙ sym (standing-count (output + 1) ns) }
