-- The numbers of children by their keys, where children are added, taken away and changed.
use Rattle.std.proofs.Common.{◌≡◌, ◌==◌, ℕ, zero, suc, ◌+◌, ◌<◌, Bool, true, false, cond, List, [], ◌∷◌, ◌++◌, map, length, Option, refl, sym, ap, ◌∙◌, subst, arith, eq-eqb}
use Rattle.std.specs.Prelude.{Some, None, ℤ, IfSome}
use Rattle.std.specs.List.{position_from}
use Rattle.std.specs.Option.{option_or}
use Rattle.std.specs.Ordering.{int_eq}
use Rattle.std.proofs.lemmas.List.{length-map, map_push}
use Rattle.std.proofs.lemmas.Bool.Decides.{nat_tests}
use Rattle.indexmap.specs.IndexMap.{IndexMap, get}
use Rattle.sn_streams.specs.Keys.{Key, Value, key_eq}
use Rattle.sn_streams.proofs.Keys.{same_key}
use Rattle.sn_view.specs.Next.{child_of as child_number, has_key}
use Rattle.sn_view.specs.View as view
use Rattle.sn_node.specs.Child.{child_of}
use Rattle.sn_node.specs.Children.{AreKeyed, found_with, found_without, unless_it_is}
use Rattle.sn_node.specs.declared.children.Child.{Child}

module _ {X : Type 0} (test : X → Bool) where
  -- the first place in a list with one more element
  pub position_push : (xs : List X) (i : ℕ) (x : X) → position_from test i (xs ++ x ∷ []) ≡ option_or (position_from test i xs) (cond (test x) (Some (i + length xs)) None)
  position_push [] i x = ap (λ n. cond (test x) (Some n) None) (omega arith)
  position_push (y ∷ xs) i x =
      let more : position_from test (i + 1) (xs ++ x ∷ []) ≡ option_or (position_from test (i + 1) xs) (cond (test x) (Some (i + suc (length xs))) None) =
      position_push xs (i + 1) x ∙ ap (λ n. option_or (position_from test (i + 1) xs) (cond (test x) (Some n) None)) (omega arith) in
      elim (test y) as (λ b. cond b (Some i) (position_from test (i + 1) (xs ++ x ∷ [])) ≡ option_or (cond b (Some i) (position_from test (i + 1) xs)) (cond (test x) (Some (i + suc (length xs))) None)) [
        | true ↦ refl
        | false ↦ more
      ]

  -- it is within the list
  position_from_within : (xs : List X) (i : ℕ) → IfSome (position_from test i xs) (λ j. j < i + length xs)
  position_from_within [] i = tt
  position_from_within (y ∷ xs) i =
      let e : i + 1 + length xs ≡ i + suc (length xs) = omega arith in
      let far = subst (λ n. IfSome (position_from test (i + 1) xs) (λ j. j < n)) e (position_from_within xs (i + 1)) in
      elim (test y) as (λ b. IfSome (cond b (Some i) (position_from test (i + 1) xs)) (λ j. j < i + suc (length xs))) [
        | true ↦ omega arith
        | false ↦ far
      ]

  pub position_within : (xs : List X) → IfSome (position_from test 0 xs) (λ j. j < length xs)
  position_within xs = let e : 0 + length xs ≡ length xs = omega arith in subst (λ n. IfSome (position_from test 0 xs) (λ j. j < n)) e (position_from_within xs 0)

pub number_within : (list : List Child) (k : Key) (o : Option ℕ) → o ≡ child_number (map child_of list) k → IfSome o (λ c. c < length list)
number_within list k o is =
    subst (λ o. IfSome o (λ c. c < length list)) (sym is) (subst (λ n. IfSome (child_number (map child_of list) k) (λ c. c < n)) (length-map list child_of) (position_within (has_key k) (map child_of list)))

none_is_no_more : (o : Option ℕ) → option_or o None ≡ o
none_is_no_more None = refl
none_is_no_more (Some j) = refl

-- the number of a key among one more child
number_push : (xs : List view.Child) (x : view.Child) (k : Key) → child_number (xs ++ x ∷ []) k ≡ option_or (child_number xs k) (cond (key_eq k x.key) (Some (length xs)) None)
number_push xs x k = position_push (has_key k) xs 0 x ∙ ap (λ n. option_or (child_number xs k) (cond (key_eq k x.key) (Some n) None)) (omega arith)

-- what is found where the child of a new key was added
found_more : (xs : List view.Child) (x : view.Child) (v : ℤ) → child_number xs x.key ≡ None → found_with x.key (length xs) v (child_number xs (Value v)) ≡ child_number (xs ++ x ∷ []) (Value v)
found_more xs x v new = by (key_eq (Value v) x.key) refl ∙ sym (number_push xs x (Value v))
  where
    by : (b : Bool) → key_eq (Value v) x.key ≡ b → cond b (Some (length xs)) (child_number xs (Value v)) ≡ option_or (child_number xs (Value v)) (cond b (Some (length xs)) None)
    by true same = ap (λ o. option_or o (Some (length xs))) (sym (ap (child_number xs) (same_key (Value v) x.key same) ∙ new))
    by false other = sym (none_is_no_more (child_number xs (Value v)))

-- what is found where the last child was taken away
found_less : (xs : List view.Child) (x : view.Child) (v : ℤ) → found_without x.key (length xs) v (child_number (xs ++ x ∷ []) (Value v)) ≡ child_number xs (Value v)
found_less xs x v = ap (found_without x.key (length xs) v) (number_push xs x (Value v)) ∙ by (key_eq (Value v) x.key) (child_number xs (Value v)) (position_within (has_key (Value v)) xs)
  where
    by : (b : Bool) (o : Option ℕ) → IfSome o (λ j. j < length xs) → cond b (unless_it_is (length xs) (option_or o (cond b (Some (length xs)) None))) (option_or o (cond b (Some (length xs)) None)) ≡ o
    by true None within = ap (λ b. cond b None (Some (length xs))) (eq-eqb (length xs) (length xs) refl)
    by true (Some j) within = let e : (j == length xs) ≡ false = grind (arith, nat_tests) in ap (λ b. cond b None (Some j)) e
    by false o within = none_is_no_more o

module _ {S : Type 0} where
  pub keyed_more : (list : List Child) (child : Child) (old new : IndexMap ℤ ℕ S) (key : Key) (number : ℕ) → key ≡ (child_of child).key → number ≡ length list
      → child_number (map child_of list) key ≡ None → ((v : ℤ) → get int_eq new v ≡ found_with key number v (get int_eq old v)) → AreKeyed list old → AreKeyed (list ++ child ∷ []) new
  keyed_more list child old new key number same last fresh entered keyed v =
      entered v ∙ ap (found_with key number v) (keyed v)
      ∙ ap (λ k. found_with k number v (child_number (map child_of list) (Value v))) same
      ∙ ap (λ n. found_with (child_of child).key n v (child_number (map child_of list) (Value v))) (last ∙ sym (length-map list child_of))
      ∙ found_more (map child_of list) (child_of child) v (ap (child_number (map child_of list)) (sym same) ∙ fresh)
      ∙ ap (λ cs. child_number cs (Value v)) (sym (map_push child_of list child))

  pub keyed_less : (list : List Child) (child : Child) (old new : IndexMap ℤ ℕ S) (number : ℕ) → number ≡ length list
      → ((v : ℤ) → get int_eq new v ≡ found_without (child_of child).key number v (get int_eq old v)) → AreKeyed (list ++ child ∷ []) old → AreKeyed list new
  keyed_less list child old new number last gone keyed v =
      gone v ∙ ap (found_without (child_of child).key number v) (keyed v ∙ ap (λ cs. child_number cs (Value v)) (map_push child_of list child))
      ∙ ap (λ n. found_without (child_of child).key n v (child_number (map child_of list ++ child_of child ∷ []) (Value v))) (last ∙ sym (length-map list child_of))
      ∙ found_less (map child_of list) (child_of child) v

  -- where children keep their keys
  pub keyed_changed : (f : view.Child → view.Child) → ((k : Key) (x : view.Child) → has_key k (f x) ≡ has_key k x) → (list : List Child) (c : ℕ) (list' : List Child) (values : IndexMap ℤ ℕ S)
      → map child_of list' ≡ view.changed_at c f (map child_of list) → AreKeyed list values → AreKeyed list' values
  keyed_changed f keeps list c list' values changed keyed v =
      keyed v ∙ sym (same_numbers (map child_of list) c 0) ∙ ap (λ cs. child_number cs (Value v)) (sym changed)
    where
      same_numbers : (xs : List view.Child) (c i : ℕ) → position_from (has_key (Value v)) i (view.changed_at c f xs) ≡ position_from (has_key (Value v)) i xs
      same_numbers [] c i = refl
      same_numbers (x ∷ xs) zero i = ap (λ b. cond b (Some i) (position_from (has_key (Value v)) (i + 1) xs)) (keeps (Value v) x)
      same_numbers (x ∷ xs) (suc c) i = ap (λ o. cond (has_key (Value v) x) (Some i) o) (same_numbers xs c (i + 1))
