-- The places of keys, each of which stands for a name.
use Rattle.std.proofs.Common.{◌≡◌, ℕ, suc, length-append, ◌+◌, ◌<◌, ◌||◌, true, false, not, cond, IsTrue, List, [], ◌∷◌, ◌++◌, length, get_or, map, nat_lt, if◌then◌else◌, position, None, Some, refl, sym, ap, ◌∙◌, subst, arith}
use Rattle.std.specs.List.{list_any, position_or_len}
use Rattle.std.specs.Str.{bytes_eq}
use Rattle.std.proofs.lemmas.Bool.{lt-ltb, le-ltb}
use Rattle.std.proofs.lemmas.Cmp.{nat_list_eq_equiv}
use Rattle.std.proofs.lemmas.List.{length-map, get_or-map, map_push}
use Rattle.indexmap.specs.IndexSet.{insert_key}
use Rattle.sn_names.specs.Names.{is_held, entered, number_in, name_at, are_distinct}
use Rattle.sn_names.proofs.NamesLaws.{number_in-held, number_in-new, number_in_last, are_distinct_push}

module _ {K : Type 0} (text : K → List ℕ) where
  -- a key is found where its name is held
  pub is_held-keys : (keys : List K) (n : List ℕ) → list_any (λ k. bytes_eq n (text k)) keys ≡ is_held (map text keys) n
  is_held-keys [] n = refl
  is_held-keys (k ∷ keys) n = rw (nat_list_eq_equiv.symm n (text k)) (ap (λ b. bytes_eq (text k) n || b) (is_held-keys keys n))

  -- at the number of its name
  pub number_in-keys : (keys : List K) (n : List ℕ) → position_or_len (λ k. bytes_eq n (text k)) keys ≡ number_in (map text keys) n
  number_in-keys [] n = refl
  number_in-keys (k ∷ keys) n =
      rw (nat_list_eq_equiv.symm n (text k)) (
      elim (bytes_eq (text k) n) as (λ b. cond (not b) (1 + position_or_len (λ j. bytes_eq n (text j)) keys) 0 ≡ cond b 0 (suc (number_in (map text keys) n))) [
        | true ↦ refl
        | false ↦ omega (arith, number_in-keys keys n)
      ]
      )

  -- a number is among the keys where its name is held
  within : (keys : List K) (n : List ℕ) → nat_lt (number_in (map text keys) n) (length keys) ≡ is_held (map text keys) n
  within keys n =
      elim (is_held (map text keys) n) as (λ b. is_held (map text keys) n ≡ b → nat_lt (number_in (map text keys) n) (length keys) ≡ b) [
        | true ↦ λ held. lt-ltb _ _ (omega (arith, number_in-held (map text keys) n held, length-map keys text))
        | false ↦ λ fresh. le-ltb _ _ (omega (arith, number_in-new (map text keys) n fresh, length-map keys text))
      ] refl

  -- what a look-up finds
  pub place_is : (keys : List K) (n : List ℕ) → position (λ k. bytes_eq n (text k)) keys ≡ (if is_held (map text keys) n then Some (number_in (map text keys) n) else None)
  place_is keys n =
      ap (λ i. cond (nat_lt i (length keys)) (Some i) None) (number_in-keys keys n)
      ∙ ap (λ b. cond b (Some (number_in (map text keys) n)) None) (within keys n)

  -- the name of a key's place is its own
  pub name_at-key : (keys : List K) (i : ℕ) (k : K) → i < length keys → k ≡ get_or keys i k → name_at (map text keys) i ≡ text k
  name_at-key keys i k here is = get_or-map text keys i k [] here ∙ ap text (sym is)

  -- what the key of a new name does
  pub record IsEntered (keys new : List K) (n : List ℕ) (place : ℕ) : Type 0 where
    pub names : map text new ≡ entered (map text keys) n
    pub number : place ≡ number_in (map text new) n
    pub within : place < length (map text new)
    pub one_more : length (map text new) ≡ suc (length (map text keys))
    pub distinct : IsTrue (are_distinct (map text new))

  pub is_entered : (keys new : List K) (k : K) (n : List ℕ) (place : ℕ) → text k ≡ n → is_held (map text keys) n ≡ false → IsTrue (are_distinct (map text keys))
      → new ≡ insert_key (λ x y. bytes_eq (text x) (text y)) keys k → place ≡ position_or_len (λ j. bytes_eq (text k) (text j)) keys → IsEntered keys new n place
  is_entered keys new k n place same fresh distinct is at =
      let unfound : list_any (λ j. bytes_eq (text k) (text j)) keys ≡ false = is_held-keys keys (text k) ∙ ap (is_held (map text keys)) same ∙ fresh in
      let list : new ≡ keys ++ k ∷ [] = is ∙ rw unfound refl in
      let last : map text new ≡ map text keys ++ n ∷ [] = ap (map text) list ∙ map_push text keys k ∙ ap (λ m. map text keys ++ m ∷ []) same in
      let number : place ≡ length (map text keys) = at ∙ number_in-keys keys (text k) ∙ ap (number_in (map text keys)) same ∙ number_in-new (map text keys) n fresh in
      let end : number_in (map text new) n ≡ length (map text keys) = ap (λ ns. number_in ns n) last ∙ number_in_last (map text keys) n fresh in
      let more : length (map text new) ≡ suc (length (map text keys)) = ap length last ∙ omega (arith, length-append (map text keys) (n ∷ [])) in
      record {
        names = last ∙ rw fresh refl;
        number = number ∙ sym end;
        within = omega arith;
        one_more = more;
        distinct = subst (λ names. IsTrue (are_distinct names)) (sym last) (are_distinct_push (map text keys) n fresh distinct);
      }
