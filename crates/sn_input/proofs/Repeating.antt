-- Labels of which none repeats an earlier one.
use Rattle.std.proofs.Common.{◌≡◌, ◌∙◌, ℕ, ◌+◌, ◌<◌, ◌≤◌, ◌||◌, Bool, true, false, List, [], ◌∷◌, ◌++◌, map, length, take, drop, get_or, Option, None, Some, refl, sym, ap, append_assoc, append-nil}
use Rattle.std.specs.List.{list_any}
use Rattle.std.specs.Prelude.{if◌then◌else◌}
use Rattle.std.proofs.lemmas.List.{drop_more, drop_all, map_more}
use Rattle.sn_record_parser.specs.declared.entry.WrittenLabel.{WrittenLabel}
use Rattle.sn_record_parser.specs.declared.entry.Entry.{Entry}
use Rattle.sn_input.specs.Numbered.{same_label, first_repeat, repeated}

-- one label on, where it is new
pub passed : (earlier labels : List WrittenLabel) (label : WrittenLabel) → list_any (same_label label) earlier ≡ false → first_repeat earlier (label ∷ labels) ≡ first_repeat (earlier ++ label ∷ []) labels
passed earlier labels label new' = ap (λ b. if b then Some label else first_repeat (earlier ++ label ∷ []) labels) new'

-- and where it is not
pub found : (earlier labels : List WrittenLabel) (label : WrittenLabel) → list_any (same_label label) earlier ≡ true → first_repeat earlier (label ∷ labels) ≡ Some label
found earlier labels label old = ap (λ b. if b then Some label else first_repeat (earlier ++ label ∷ []) labels) old

fresh_here : (label : WrittenLabel) (rest : Option WrittenLabel) (b : Bool) → (if b then Some label else rest) ≡ None → (b ≡ false) × (rest ≡ None)
fresh_here label rest true none = cc
fresh_here label rest false none = (refl, none)

-- where nothing repeats, a label is new to those before it
pub fresh_label : (earlier before after : List WrittenLabel) (label : WrittenLabel) → first_repeat earlier (before ++ label ∷ after) ≡ None → list_any (same_label label) (earlier ++ before) ≡ false
fresh_label earlier [] after label none = rw append-nil (fresh_here label _ _ none).0
fresh_label earlier (m ∷ before) after label none =
    rw (sym (append_assoc earlier (m ∷ []) before)) (fresh_label (earlier ++ m ∷ []) before after label (fresh_here m _ _ none).1)

abbrev pub labels_of : List Entry → List WrittenLabel
labels_of entries = map (λ (e : Entry). e.label) entries

-- among entries, and among their labels
pub among_labels : (label : WrittenLabel) (entries : List Entry) → list_any (same_label label) (labels_of entries) ≡ list_any (λ (e : Entry). same_label label e.label) entries
among_labels label [] = refl
among_labels label (e ∷ entries) = ap (λ b. same_label label e.label || b) (among_labels label entries)

module _ (entries : List Entry) (i : ℕ) (entry : Entry) (here : i < length entries) (at : entry ≡ get_or entries i entry) (so_far : first_repeat (labels_of (take i entries)) (labels_of (drop i entries)) ≡ repeated entries) where
  next : labels_of (drop i entries) ≡ entry.label ∷ labels_of (drop (i + 1) entries)
  next = ap labels_of (drop_more entries i entry here) ∙ ap (λ (e : Entry). e.label ∷ labels_of (drop (i + 1) entries)) (sym at)

  pub labels_more : labels_of (take (i + 1) entries) ≡ labels_of (take i entries) ++ entry.label ∷ []
  labels_more = map_more (λ (e : Entry). e.label) entries i entry here ∙ ap (λ (e : Entry). labels_of (take i entries) ++ e.label ∷ []) (sym at)

  -- an entry whose label is new
  pub goes_on : list_any (same_label entry.label) (labels_of (take i entries)) ≡ false → first_repeat (labels_of (take (i + 1) entries)) (labels_of (drop (i + 1) entries)) ≡ repeated entries
  goes_on new' =
      ap (λ labels. first_repeat labels (labels_of (drop (i + 1) entries))) labels_more
      ∙ sym (passed (labels_of (take i entries)) (labels_of (drop (i + 1) entries)) entry.label new')
      ∙ sym (ap (first_repeat (labels_of (take i entries))) next)
      ∙ so_far

  -- an entry whose label is not
  pub stops : list_any (same_label entry.label) (labels_of (take i entries)) ≡ true → Some entry.label ≡ repeated entries
  stops old =
      sym (found (labels_of (take i entries)) (labels_of (drop (i + 1) entries)) entry.label old)
      ∙ sym (ap (first_repeat (labels_of (take i entries))) next)
      ∙ so_far

-- at the end
pub none_repeats : (entries : List Entry) (i : ℕ) → length entries ≤ i → first_repeat (labels_of (take i entries)) (labels_of (drop i entries)) ≡ repeated entries → None ≡ repeated entries
none_repeats entries i past so_far = sym (ap (λ es. first_repeat (labels_of (take i entries)) (labels_of es)) (drop_all i entries past)) ∙ so_far
