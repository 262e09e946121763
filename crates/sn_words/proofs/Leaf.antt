-- The rules of a command's words and options, as a built command has them, and what is found among them.
use Rattle.std.proofs.Common.{◌≡◌, ◌∙◌, ◌+◌, ◌||◌, ℕ, zero, suc, Bool, true, false, cond, refl, sym, ap, arith, List, [], ◌∷◌, map, drop, is_some, true≢false, eq-eqb, ne_eqb}
use Rattle.std.specs.Prelude.{Option, Some, None}
use Rattle.std.specs.Str.{bytes_eq}
use Rattle.std.specs.Cmp.Lexicographic.{bytes_decides}
use Rattle.clap.specs.Walk.{Rule, arg_by_id, arg_by_index, arg_by_long, arg_by_short}
use Rattle.clap.specs.Simple.{new_rule}
use Rattle.clap.specs.declared.builder.ArgAction.TheVariants.{Set}
use Rattle.clap.specs.declared.builder.value_parser.ValueParser.TheVariants as vp
use Rattle.sn_words.specs.Words.{Text, is_among}

pub some≢none : {X : Type 0} (x : X) → Some x ≡ None → ⊥
some≢none x e = true≢false (ap (λ o. is_some o) e)

pub same_text : (a b : Text) → bytes_eq a b ≡ true → a ≡ b
same_text a b e = (bytes_decides a b).0 e

pub same_as_itself : (a : Text) → bytes_eq a a ≡ true
same_as_itself a = (bytes_decides a a).1 refl

-- an argument with one value, which is text
abbrev pub plain_rule : Text → Option Text → Option ℕ → Bool → Rule
plain_rule id long index required = record (new_rule id) {
  long = long;
  index = index;
  required = required;
  action = Some Set;
  range = Some (record { start_inclusive = 1; end_inclusive = 1 });
  parser = Some vp.String;
}

abbrev pub word_rule : ℕ → Text → Rule
word_rule index name = plain_rule name None (Some index) true

abbrev pub option_rule : Text → Rule
option_rule name = plain_rule name (Some name) None false

abbrev pub rules_from : ℕ → List Text → List Text → List Rule
rules_from index [] os = map option_rule os
rules_from index (name ∷ names) os = word_rule index name ∷ rules_from (suc index) names os

-- ---- by a long name

long_among : (os : List Text) (name : Text) (b : Bool) → is_among os name ≡ b → arg_by_long (map option_rule os) name ≡ cond b (Some (option_rule name)) None
long_among [] name b e = ap (λ v. cond v (Some (option_rule name)) None) e
long_among (o ∷ os) name b e = go (bytes_eq o name) refl e (λ rest. long_among os name b rest)
  where
    go : (v : Bool) → bytes_eq o name ≡ v → (v || is_among os name) ≡ b
        → (is_among os name ≡ b → arg_by_long (map option_rule os) name ≡ cond b (Some (option_rule name)) None)
        → cond (v || false) (Some (option_rule o)) (arg_by_long (map option_rule os) name) ≡ cond b (Some (option_rule name)) None
    go true is e rec = ap (λ n. Some (option_rule n)) (same_text o name is) ∙ ap (λ v. cond v (Some (option_rule name)) None) e
    go false is e rec = rec e

pub by_long : (i : ℕ) (ns os : List Text) (name : Text) (b : Bool) → is_among os name ≡ b → arg_by_long (rules_from i ns os) name ≡ cond b (Some (option_rule name)) None
by_long i [] os name b e = long_among os name b e
by_long i (n ∷ ns) os name b e = by_long (suc i) ns os name b e

-- ---- by a short name there is none

pub by_short : (i : ℕ) (ns os : List Text) (x : ℕ) → arg_by_short (rules_from i ns os) x ≡ None
by_short i [] [] x = refl
by_short i [] (o ∷ os) x = by_short i [] os x
by_short i (n ∷ ns) os x = by_short (suc i) ns os x

-- ---- by a place

none_placed : (os : List Text) (p : ℕ) → arg_by_index (map option_rule os) p ≡ None
none_placed [] p = refl
none_placed (o ∷ os) p = none_placed os p

abbrev pub first_placed : ℕ → List Text → Option Rule
first_placed p [] = None
first_placed p (name ∷ names) = Some (word_rule p name)

pub by_place : (i k : ℕ) (ns os : List Text) → arg_by_index (rules_from i ns os) (i + k) ≡ first_placed (i + k) (drop k ns)
by_place i zero [] os = none_placed os (i + 0)
by_place i (suc k) [] os = none_placed os (i + suc k)
by_place i zero (n ∷ ns) os =
    let same : i ≡ i + 0 = omega arith in
    ap (λ v. cond v (Some (word_rule i n)) (arg_by_index (rules_from (suc i) ns os) (i + 0))) (eq-eqb i (i + 0) same) ∙ ap (λ p. Some (word_rule p n)) same
by_place i (suc k) (n ∷ ns) os =
    let more : suc i + k ≡ i + suc k = omega arith in
    ap (λ v. cond v (Some (word_rule i n)) (arg_by_index (rules_from (suc i) ns os) (i + suc k))) (ne_eqb i (i + suc k) (λ s. omega arith))
    ∙ sym (ap (arg_by_index (rules_from (suc i) ns os)) more) ∙ by_place (suc i) k ns os ∙ ap (λ p. first_placed p (drop k ns)) more

-- ---- by an id

-- the argument of this id
pub record Plain (id : Text) (found : Option Rule) : Type 0 where
  pub long : Option Text
  pub index : Option ℕ
  pub required : Bool
  pub is : found ≡ Some (plain_rule id long index required)

plain_as : (id : Text) (found other : Option Rule) → found ≡ other → Plain id other → Plain id found
plain_as id found other e p = record { long = p.long; index = p.index; required = p.required; is = e ∙ p.is }

plain_here : (id name : Text) (long : Option Text) (index : Option ℕ) (required : Bool) → name ≡ id → Plain id (Some (plain_rule name long index required))
plain_here id name long index required e = record { long = long; index = index; required = required; is = ap (λ n. Some (plain_rule n long index required)) e }

id_of_option : (os : List Text) (id : Text) → is_among os id ≡ true → Plain id (arg_by_id (map option_rule os) id)
id_of_option [] id e = absurd (true≢false (sym e))
id_of_option (o ∷ os) id e = go (bytes_eq o id) refl e (λ rest. id_of_option os id rest)
  where
    go : (v : Bool) → bytes_eq o id ≡ v → (v || is_among os id) ≡ true → (is_among os id ≡ true → Plain id (arg_by_id (map option_rule os) id))
        → Plain id (cond v (Some (option_rule o)) (arg_by_id (map option_rule os) id))
    go true is e rec = plain_here id o (Some o) None false (same_text o id is)
    go false is e rec = rec e

pub by_id : (i : ℕ) (ns os : List Text) (id : Text) → (is_among ns id || is_among os id) ≡ true → Plain id (arg_by_id (rules_from i ns os) id)
by_id i [] os id e = id_of_option os id e
by_id i (n ∷ ns) os id e = go (bytes_eq n id) refl e (λ rest. by_id (suc i) ns os id rest)
  where
    go : (v : Bool) → bytes_eq n id ≡ v → ((v || is_among ns id) || is_among os id) ≡ true
        → ((is_among ns id || is_among os id) ≡ true → Plain id (arg_by_id (rules_from (suc i) ns os) id))
        → Plain id (cond v (Some (word_rule i n)) (arg_by_id (rules_from (suc i) ns os) id))
    go true is e rec = plain_here id n None (Some i) true (same_text n id is)
    go false is e rec = rec e
