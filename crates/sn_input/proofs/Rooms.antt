-- How many names a line adds.
use Rattle.std.proofs.Common.{◌≡◌, ◌∙◌, ℕ, ◌+◌, ◌-◌, ◌<◌, ◌≤◌, ◌||◌, Bool, true, false, cond, List, [], ◌∷◌, ◌++◌, map, length, take, get_or, refl, sym, ap, arith}
use Rattle.std.specs.Prelude.{Option, None, Some}
use Rattle.std.specs.Str.{bytes_eq}
use Rattle.std.proofs.lemmas.List.{length-map, length_push, map_more}
use Rattle.std.specs.Option.{is_some}
use Rattle.std.proofs.lemmas.Bool.{false≢true}
use Rattle.sn_names.specs.Names.{all_entered, entered, is_held}
use Rattle.sn_names.proofs.NamesLaws.{all_entered-append}
use Rattle.sn_record_parser.specs.declared.entry.Entry.{Entry}
use Rattle.sn_input.specs.Numbered.{with_entries}
use Rattle.sn_input.proofs.Tables.{held_more}

-- so many of the names are there, and so many are new, with each of them in one of both
pub record Counts (names fresh all : List (List ℕ)) : Type 0 where
  pub counted : length names + length fresh ≡ length all
  pub held : (n : List ℕ) → is_held all n ≡ (is_held names n || is_held fresh n)

or_assoc : (a b c : Bool) → ((a || b) || c) ≡ (a || (b || c))
or_assoc true b c = refl
or_assoc false b c = refl

or_false : (a : Bool) → (a || false) ≡ a
or_false true = refl
or_false false = refl

pub none_yet : (names fresh : List (List ℕ)) → fresh ≡ [] → Counts names fresh names
none_yet names fresh none = record {
  counted = let no : length fresh ≡ 0 = ap length none in omega (arith, no);
  held = λ n. sym (or_false (is_held names n)) ∙ ap (λ (ns : List (List ℕ)). is_held names n || is_held ns n) (sym none);
}

grown : (names : List (List ℕ)) (n : List ℕ) (b : Bool) → is_held names n ≡ b → length (entered names n) ≡ length names + cond b 0 1
grown names n true held = ap (λ b. length (cond b names (names ++ n ∷ []))) held ∙ omega arith
grown names n false new' = ap (λ b. length (cond b names (names ++ n ∷ []))) new' ∙ length_push names n

one_at_most : (m k : ℕ) (b : Bool) → k ≡ m + cond b 0 1 → k ≤ m + 1
one_at_most m k true is = omega (arith, is)
one_at_most m k false is = omega (arith, is)

module _ (names fresh all : List (List ℕ)) (n : List ℕ) (so_far : Counts names fresh all) where
  -- a name that is there
  pub counts_held : is_held names n ≡ true → Counts names fresh (entered all n)
  counts_held there =
      let in_all : is_held all n ≡ true = so_far.held n ∙ ap (λ b. b || is_held fresh n) there in
      let same : entered all n ≡ all = ap (λ b. cond b all (all ++ n ∷ [])) in_all in
      rw same so_far

  -- and one that is not
  pub counts_new : is_held names n ≡ false → Counts names (entered fresh n) (entered all n)
  counts_new new' =
      let alike : is_held all n ≡ is_held fresh n = so_far.held n ∙ ap (λ b. b || is_held fresh n) new' in
      let first = grown fresh n (is_held fresh n) refl in
      let second = grown all n (is_held fresh n) alike in
      record {
        counted = let was = so_far.counted in omega (arith, was, first, second);
        held = λ m. held_more all n m ∙ ap (λ b. b || bytes_eq m n) (so_far.held m) ∙ or_assoc (is_held names m) (is_held fresh m) (bytes_eq m n) ∙ ap (λ b. is_held names m || b) (sym (held_more fresh n m));
      }

-- a name that is looked up in vain is not there, and one that is found is
not_found : (there : Bool) (k : ℕ) (found : Option ℕ) → found ≡ cond there (Some k) None → is_some found ≡ false → there ≡ false
not_found true k found is none = absurd (false≢true (sym none ∙ ap is_some is))
not_found false k found is none = refl

was_found : (there : Bool) (k : ℕ) (found : Option ℕ) → found ≡ cond there (Some k) None → is_some found ≡ true → there ≡ true
was_found true k found is some = refl
was_found false k found is some = absurd (false≢true (sym (ap is_some is) ∙ some))

-- one entry more
pub with_more : (names : List (List ℕ)) (entries : List Entry) (i : ℕ) (entry : Entry) → i < length entries → entry ≡ get_or entries i entry
    → with_entries names (take (i + 1) entries) ≡ entered (with_entries names (take i entries)) entry.label.name
with_more names entries i entry here at =
    let name_of : Entry → List ℕ = λ e. e.label.name in
    ap (all_entered names) (map_more name_of entries i entry here ∙ ap (λ (e : Entry). map name_of (take i entries) ++ name_of e ∷ []) (sym at))
    ∙ all_entered-append names (map name_of (take i entries)) (entry.label.name ∷ [])

module _ (names fresh all later : List (List ℕ)) (n m : List ℕ) (same : m ≡ n) (grows : later ≡ entered all n) (so_far : Counts names fresh all) where
  -- a name that was looked up in vain, and entered
  pub one_new : (found : Option ℕ) (k : ℕ) (more : List (List ℕ)) → found ≡ cond (is_held names m) (Some k) None → is_some found ≡ false → more ≡ entered fresh m → Counts names more later
  one_new found k more is none enters =
      let new' : is_held names n ≡ false = ap (is_held names) (sym same) ∙ not_found (is_held names m) k found is none in
      rw (grows, enters, same) (counts_new names fresh all n so_far new')

  -- and one that was found
  pub one_known : (found : Option ℕ) (k : ℕ) (more : List (List ℕ)) → found ≡ cond (is_held names m) (Some k) None → is_some found ≡ true → more ≡ fresh → Counts names more later
  one_known found k more is some stays =
      let there : is_held names n ≡ true = ap (is_held names) (sym same) ∙ was_found (is_held names m) k found is some in
      rw (grows, stays) (counts_held names fresh all n so_far there)

-- as many names are added as there are entries, or fewer
most_entered : (names ns : List (List ℕ)) → length (all_entered names ns) ≤ length names + length ns
most_entered names [] = omega arith
most_entered names (n ∷ ns) =
    let one : length (entered names n) ≤ length names + 1 = one_at_most (length names) (length (entered names n)) (is_held names n) (grown names n (is_held names n) refl) in
    let more = most_entered (entered names n) ns in
    omega (arith, one, more)

pub all_fit : (names : List (List ℕ)) (entries : List Entry) (most : ℕ) → length names ≤ most → length entries ≤ most - length names → length (with_entries names entries) ≤ most
all_fit names entries most held few =
    let added = most_entered names (map (λ (e : Entry). e.label.name) entries) in
    let as_many = length-map entries (λ (e : Entry). e.label.name) in
    omega (arith, held, few, added, as_many)
