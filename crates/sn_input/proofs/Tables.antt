-- One more name in a table of those that have come.
use Rattle.std.proofs.Common.{◌≡◌, ◌∙◌, ℕ, ◌&&◌, ◌||◌, Bool, true, false, cond, List, [], ◌∷◌, ◌++◌, refl, sym, ap}
use Rattle.std.specs.List.{list_any}
use Rattle.std.specs.Str.{bytes_eq}
use Rattle.std.proofs.lemmas.Cmp.{nat_list_eq_equiv}
use Rattle.std.proofs.lemmas.List.Folds.{list_any-append}
use Rattle.sn_record.specs.declared.label.Kind.TheVariants.{Field, Tag}
use Rattle.sn_names.specs.Names.{is_held, entered}
use Rattle.sn_names.proofs.NamesLaws.{same_text}
use Rattle.sn_record_parser.specs.declared.entry.WrittenLabel.{WrittenLabel}
use Rattle.sn_input.specs.declared.repeats.Seen.{Seen}
use Rattle.sn_input.specs.Numbered.{same_kind, same_label}
use Rattle.sn_input.specs.Seen.{names_of, has_seen}

or_false : (b : Bool) → b ≡ (b || false)
or_false true = refl
or_false false = refl

or_true : (b : Bool) → b ≡ true → (x : Bool) → b ≡ (b || x)
or_true true e x = refl
or_true false e x = cc

-- the names that a table holds once a name is entered
pub held_more : (names : List (List ℕ)) (n m : List ℕ) → is_held (entered names n) m ≡ (is_held names m || bytes_eq m n)
held_more names n m =
    elim (is_held names n) as (λ b. is_held names n ≡ b → is_held (cond b names (names ++ n ∷ [])) m ≡ (is_held names m || bytes_eq m n)) [
      | true ↦ λ held.
          elim (bytes_eq m n) as (λ b. bytes_eq m n ≡ b → is_held names m ≡ (is_held names m || b)) [
            | true ↦ λ same. or_true (is_held names m) (ap (is_held names) (same_text m n same) ∙ held) true
            | false ↦ λ _. or_false (is_held names m)
          ] refl
      | false ↦ λ _.
          list_any-append (λ x. bytes_eq x m) names (n ∷ [])
          ∙ ap (λ b. is_held names m || b) (sym (or_false (bytes_eq n m)) ∙ nat_list_eq_equiv.symm n m)
    ] refl

-- a field has come
pub field_seen : (seen : Seen) (fields : List (List ℕ)) (label : WrittenLabel) → label.kind ≡ Field → fields ≡ entered seen.fields label.name → (other : WrittenLabel)
    → has_seen (record { fields = fields; tags = seen.tags }) other ≡ (has_seen seen other || same_label other label)
field_seen seen fields label field grown other =
    elim other.kind as (λ k. is_held (names_of (record { fields = fields; tags = seen.tags }) k) other.name ≡ (is_held (names_of seen k) other.name || (same_kind k label.kind && bytes_eq other.name label.name))) [
      | Field ↦ ap (λ names. is_held names other.name) grown ∙ held_more seen.fields label.name other.name ∙ ap (λ k. is_held seen.fields other.name || (same_kind Field k && bytes_eq other.name label.name)) (sym field)
      | Tag ↦ or_false (is_held seen.tags other.name) ∙ ap (λ k. is_held seen.tags other.name || (same_kind Tag k && bytes_eq other.name label.name)) (sym field)
    ]

-- a tag has come
pub tag_seen : (seen : Seen) (tags : List (List ℕ)) (label : WrittenLabel) → label.kind ≡ Tag → tags ≡ entered seen.tags label.name → (other : WrittenLabel)
    → has_seen (record { fields = seen.fields; tags = tags }) other ≡ (has_seen seen other || same_label other label)
tag_seen seen tags label tag grown other =
    elim other.kind as (λ k. is_held (names_of (record { fields = seen.fields; tags = tags }) k) other.name ≡ (is_held (names_of seen k) other.name || (same_kind k label.kind && bytes_eq other.name label.name))) [
      | Field ↦ or_false (is_held seen.fields other.name) ∙ ap (λ k. is_held seen.fields other.name || (same_kind Field k && bytes_eq other.name label.name)) (sym tag)
      | Tag ↦ ap (λ names. is_held names other.name) grown ∙ held_more seen.tags label.name other.name ∙ ap (λ k. is_held seen.tags other.name || (same_kind Tag k && bytes_eq other.name label.name)) (sym tag)
    ]

-- one more label among those before
pub among_more : (label other : WrittenLabel) (labels more : List WrittenLabel) (b c : Bool) → more ≡ labels ++ label ∷ [] → b ≡ list_any (same_label other) labels → c ≡ (b || same_label other label) → c ≡ list_any (same_label other) more
among_more label other labels more b c is was now =
    now ∙ ap (λ x. x || same_label other label) was ∙ ap (λ x. list_any (same_label other) labels || x) (or_false (same_label other label)) ∙ sym (ap (list_any (same_label other)) is ∙ list_any-append (same_label other) labels (label ∷ []))
