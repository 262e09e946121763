-- The rows of what was given, and what a use of an argument makes of them.
use Rattle.std.proofs.Common.{◌≡◌, ◌∙◌, ◌&&◌, ◌||◌, ℕ, suc, Bool, true, false, cond, not, refl, ap, List, [], ◌∷◌, ◌++◌, map, find, fold, true≢false}
use Rattle.std.specs.Prelude.{Option, Some, None, option_map, option_and_then}
use Rattle.std.specs.List.{list_all, list_any}
use Rattle.std.specs.Option.{option_map_or}
use Rattle.std.specs.Str.{bytes_eq}
use Rattle.clap.specs.Walk.{Row, at_row, first_of, has_row, more_values, used, with_default, without}
use Rattle.clap.specs.Takes.{is_given as is_row_given}
use Rattle.clap.specs.Kinds.{Kinds}
use Rattle.clap.specs.Faults.{check_fault, default_fault, defaults_fault, use_fault}
use Rattle.clap.specs.declared.error.ErrorKind.TheVariants as kind
use Rattle.clap.specs.declared.parser.ValueSource.TheVariants.{CommandLine}
use Rattle.clap.specs.declared.builder.value_parser.Reading.TheVariants as reading
use Rattle.sn_words.specs.Words.{Text, Given, is_given, text_in}
use Rattle.sn_words.proofs.Leaf.{plain_rule, option_rule, rules_from, word_rule}

abbrev pub row_of_given : Text × Text → Row
row_of_given g = record { id = g.0; values = g.1 ∷ []; count = None; source = Some CommandLine; reading = reading.AsWritten }

abbrev pub rows_of_given : Given → List Row
rows_of_given = map row_of_given

pub row_there : (given : Given) (id : Text) → has_row id (rows_of_given given) ≡ is_given given id
row_there [] id = refl
row_there (g ∷ given) id = ap (λ b. bytes_eq g.0 id || b) (row_there given id)

-- the text of a name, as `clap` is asked for it
pub text_there : (given : Given) (id : Text) → first_of id (rows_of_given given) ≡ text_in given id
text_there [] id = refl
text_there (g ∷ given) id = go (bytes_eq g.0 id) (text_there given id)
  where
    go : (b : Bool) → first_of id (rows_of_given given) ≡ text_in given id
        → option_and_then (λ (r : Row). Rattle.std.specs.Prelude.slice_get r.values 0) (cond b (Some (row_of_given g)) (find (λ r. bytes_eq r.id id) (rows_of_given given)))
        ≡ option_map (λ (p : Text × Text). p.1) (cond b (Some g) (find (λ p. bytes_eq p.0 id) given))
    go true e = refl
    go false e = e

given_there : (given : Given) (id : Text) → is_row_given id (rows_of_given given) ≡ is_given given id
given_there [] id = refl
given_there (g ∷ given) id = go (bytes_eq g.0 id) (given_there given id)
  where
    go : (b : Bool) → is_row_given id (rows_of_given given) ≡ is_given given id
        → option_map_or (λ (r : Row). Rattle.clap.specs.Facts.explicit_source r.source) (cond b (Some (row_of_given g)) (find (λ r. bytes_eq r.id id) (rows_of_given given))) false
        ≡ (b || is_given given id)
    go true e = refl
    go false e = e

-- ---- a use with one value

added : (given : Given) (id : Text) (change : Row → List Row) (row : Row) → is_given given id ≡ false
    → at_row id change (row ∷ []) (rows_of_given given) ≡ rows_of_given given ++ row ∷ []
added [] id change row e = refl
added (g ∷ given) id change row e = go (bytes_eq g.0 id) e (λ rest. added given id change row rest)
  where
    go : (b : Bool) → (b || is_given given id) ≡ false
        → (is_given given id ≡ false → at_row id change (row ∷ []) (rows_of_given given) ≡ rows_of_given given ++ row ∷ [])
        → cond b (change (row_of_given g) ++ rows_of_given given) (row_of_given g ∷ at_row id change (row ∷ []) (rows_of_given given)) ≡ row_of_given g ∷ (rows_of_given given ++ row ∷ [])
    go true e rec = absurd (true≢false e)
    go false e rec = ap (λ rs. row_of_given g ∷ rs) (rec e)

removed : (given : Given) (id : Text) → is_given given id ≡ false → without id (rows_of_given given) ≡ rows_of_given given
removed [] id e = refl
removed (g ∷ given) id e = go (bytes_eq g.0 id) e (λ rest. removed given id rest)
  where
    go : (b : Bool) → (b || is_given given id) ≡ false → (is_given given id ≡ false → without id (rows_of_given given) ≡ rows_of_given given)
        → cond b ([] ++ rows_of_given given) (row_of_given g ∷ without id (rows_of_given given)) ≡ row_of_given g ∷ rows_of_given given
    go true e rec = absurd (true≢false e)
    go false e rec = ap (λ rs. row_of_given g ∷ rs) (rec e)

rows_after_one : (given : Given) (g : Text × Text) → rows_of_given given ++ row_of_given g ∷ [] ≡ rows_of_given (given ++ g ∷ [])
rows_after_one [] g = refl
rows_after_one (x ∷ given) g = ap (λ rs. row_of_given x ∷ rs) (rows_after_one given g)

pub used_once : (given : Given) (id value : Text) (long : Option Text) (index : Option ℕ) (required : Bool) → is_given given id ≡ false
    → used (plain_rule id long index required) (value ∷ []) (rows_of_given given) ≡ rows_of_given (given ++ (id, value) ∷ [])
used_once given id value long index required e =
    ap (at_row id (more_values CommandLine (value ∷ [])) (row_of_given (id, value) ∷ [])) (removed given id e)
    ∙ added given id (more_values CommandLine (value ∷ [])) (row_of_given (id, value)) e ∙ rows_after_one given (id, value)

-- it fails where the name has a text
pub use_fails : (given : Given) (id value : Text) (long : Option Text) (index : Option ℕ) (required : Bool) (b : Bool) → is_given given id ≡ b
    → use_fault false (plain_rule id long index required) (value ∷ []) (rows_of_given given) ≡ cond b (kind.ArgumentConflict ∷ []) []
use_fails given id value long index required b e = go (has_row id (rows_of_given given)) b (row_there given id ∙ e)
  where
    go : (h b : Bool) → h ≡ b → Rattle.clap.specs.Kinds.or_else (cond (h && true) (kind.ArgumentConflict ∷ []) []) [] ≡ cond b (kind.ArgumentConflict ∷ []) []
    go true b e = ap (λ v. cond v (kind.ArgumentConflict ∷ []) []) e
    go false b e = ap (λ v. cond v (kind.ArgumentConflict ∷ []) []) e

-- ---- no argument has a default

kept_by : (rows : List Row) (id : Text) (long : Option Text) (index : Option ℕ) (required : Bool) → with_default rows (plain_rule id long index required) ≡ rows
kept_by rows id long index required = go (has_row id rows)
  where
    go : (b : Bool) → cond b rows rows ≡ rows
    go true = refl
    go false = refl

no_default : (rows : List Row) (id : Text) (long : Option Text) (index : Option ℕ) (required : Bool) → default_fault rows (plain_rule id long index required) ≡ []
no_default rows id long index required = go (has_row id rows)
  where
    go : (b : Bool) → ◌≡◌ {A = Kinds} (cond (b || true) [] (Rattle.clap.specs.Faults.given_default_fault (plain_rule id long index required) [])) []
    go true = refl
    go false = refl

pub no_defaults : (rows : List Row) (i : ℕ) (ns os : List Text) → fold with_default rows (rules_from i ns os) ≡ rows
no_defaults rows i [] [] = refl
no_defaults rows i [] (o ∷ os) = ap (λ rs. fold with_default rs (map option_rule os)) (kept_by rows o (Some o) None false) ∙ no_defaults rows i [] os
no_defaults rows i (n ∷ ns) os = ap (λ rs. fold with_default rs (rules_from (suc i) ns os)) (kept_by rows n None (Some i) true) ∙ no_defaults rows (suc i) ns os

pub no_defaults_fail : (rows : List Row) (i : ℕ) (ns os : List Text) → defaults_fault rows (rules_from i ns os) ≡ []
unfolding defaults_fault
no_defaults_fail rows i [] [] = refl
no_defaults_fail rows i [] (o ∷ os) =
    ap (λ k. Rattle.clap.specs.Kinds.or_else k (defaults_fault (with_default rows (option_rule o)) (map option_rule os))) (no_default rows o (Some o) None false)
    ∙ ap (λ rs. defaults_fault rs (map option_rule os)) (kept_by rows o (Some o) None false) ∙ no_defaults_fail rows i [] os
no_defaults_fail rows i (n ∷ ns) os =
    ap (λ k. Rattle.clap.specs.Kinds.or_else k (defaults_fault (with_default rows (word_rule i n)) (rules_from (suc i) ns os))) (no_default rows n None (Some i) true)
    ∙ ap (λ rs. defaults_fault rs (rules_from (suc i) ns os)) (kept_by rows n None (Some i) true) ∙ no_defaults_fail rows (suc i) ns os

-- ---- each positional word is wanted

pub wanted : (given : Given) (i : ℕ) (ns os : List Text)
    → list_any (λ a. a.required && not (is_row_given a.id (rows_of_given given))) (rules_from i ns os) ≡ not (list_all (is_given given) ns)
wanted given i [] [] = refl
wanted given i [] (o ∷ os) = wanted given i [] os
wanted given i (n ∷ ns) os = go _ _ _ _ (given_there given n) (wanted given (suc i) ns os)
  where
    go : (g h x y : Bool) → g ≡ h → x ≡ not y → (not g || x) ≡ not (h && y)
    go g true x y e rest = ap (λ v. not v || x) e ∙ rest
    go g false x y e rest = ap (λ v. not v || x) e
