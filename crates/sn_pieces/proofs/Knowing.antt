-- The labels of a record that a line gives are known behind it.
use Rattle.std.proofs.Common.{◌≡◌, ◌∙◌, ℕ, ◌==◌, ◌||◌, Bool, true, false, cond, eq-eqb, eqb-true, is_some, IsTrue, IfSome, List, [], ◌∷◌, map, length, lt-ltb, ltb-true, nat_lt, refl, sym, ap, subst}
use Rattle.std.proofs.lemmas.Bool.{and_from, and_parts}
use Rattle.std.specs.Prelude.{Option, Some, Ok}
use Rattle.std.specs.Ordering.{eq_by_cmp}
use Rattle.std.specs.Str.{bytes_eq}
use Rattle.std.specs.FinMap as finite
use Rattle.std.specs.FinMap.{find}
use Rattle.sn_record.specs.declared.label.Label.{Label}
use Rattle.sn_record.specs.Label.{label_cmp, label_cmp_total}
use Rattle.sn_record.specs.Record.{Entries}
use Rattle.sn_record.proofs.Maps.{same_label}
use Rattle.sn_names.specs.Names.{IsHeld, is_held, label_name, numbered, place_of}
use Rattle.sn_names.proofs.Labels.{number_is_held}
use Rattle.sn_names.proofs.NamesLaws.{is_held-each, same_as_itself}
use Rattle.sn_record_parser.specs.declared.entry.Entry.{Entry}
use Rattle.sn_input.specs.Numbered.{entry_in, label_in, with_entries}
use Rattle.sn_input.specs.OneLine.{GivesLine}
use Rattle.sn_pieces.specs.Known.{KnowsRecord, is_known}

-- a number of a held name is known, and a known one is that of a held name
pub held_known : (names : List (List ℕ)) (l : Label) → IsHeld names l.id → IsTrue (is_known names l)
held_known names l held =
    and_from (nat_lt (place_of l.id) (length names)) (numbered (label_name names l.id) (place_of l.id) == l.id) (lt-ltb _ _ held.within) (eq-eqb _ _ held.number)

pub known_held : (names : List (List ℕ)) (l : Label) → IsTrue (is_known names l) → IsHeld names l.id
known_held names l known =
    let both = and_parts (nat_lt (place_of l.id) (length names)) (numbered (label_name names l.id) (place_of l.id) == l.id) known in
    record { within = ltb-true _ _ both.0; number = eqb-true _ _ both.1 }

or_second : (a b : Bool) → IsTrue b → IsTrue (a || b)
or_second true b h = refl
or_second false b h = h

find_known : (names : List (List ℕ)) (entries : List Entry) (l : Label) → ((n : List ℕ) → IsTrue (is_held (map (λ (e : Entry). e.label.name) entries) n) → IsTrue (is_held names n))
    → IsTrue (is_some (find label_cmp l (map (entry_in names) entries))) → IsTrue (is_known names l)
find_known names [] l held there = cc
find_known names (e ∷ entries) l held there =
    at (eq_by_cmp label_cmp l (label_in names e.label)) refl there (λ rest. find_known names entries l (λ n there. held n (or_second (bytes_eq e.label.name n) (is_held (map (λ (x : Entry). x.label.name) entries) n) there)) rest)
  where
    others : List (List ℕ)
    others = map (λ (x : Entry). x.label.name) entries

    at : (b : Bool) → eq_by_cmp label_cmp l (label_in names e.label) ≡ b → IsTrue (is_some (cond b (Some e.value) (find label_cmp l (map (entry_in names) entries))))
        → (IsTrue (is_some (find label_cmp l (map (entry_in names) entries))) → IsTrue (is_known names l)) → IsTrue (is_known names l)
    at true same here later =
        subst (λ (k : Label). IsTrue (is_known names k)) (sym (same_label l (label_in names e.label) same))
        (held_known names (label_in names e.label) (number_is_held names e.label.name (held e.label.name (ap (λ b. b || is_held others e.label.name) (same_as_itself e.label.name)))))
    at false other rest later = later rest

pub found_known : (names later : List (List ℕ)) (line : List ℕ) (found : Option Entries) → GivesLine names line (Ok (found, later)) → IfSome found (KnowsRecord later)
found_known names _ line _ (GivesLine.blank _) = tt
found_known names _ line _ (GivesLine.taken {entries = entries} _ _ _) =
    let later = with_entries names entries in
    λ l there. find_known later entries l (λ n held. is_held-each names (map (λ (e : Entry). e.label.name) entries) n held)
    (sym (ap is_some (finite.get-from_entries label_cmp_total (map (entry_in later) entries) l)) ∙ there)
