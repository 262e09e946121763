-- The names and the numbered entries while the entries of a line are taken one after another.
use Rattle.std.proofs.Common.{◌≡◌, ◌∙◌, ℕ, ◌<◌, List, [], ◌∷◌, ◌++◌, map, length, take, get_or, refl, sym, ap, inl, inr, arith}
use Rattle.std.specs.List.{All}
use Rattle.std.proofs.lemmas.List.{map_push, map-append, take_at}
use Rattle.std.proofs.lemmas.List.Elements.{All-same, All-map, All-take}
use Rattle.sn_record.specs.declared.label.Label.{Label}
use Rattle.sn_record.specs.declared.value.Value.{Value}
use Rattle.sn_record.specs.Record.{FitsLabel}
use Rattle.sn_names.specs.Names.{entered, all_entered, label_number, numbered}
use Rattle.sn_names.proofs.NamesLaws.{is_held-entered, number_in-all_entered, length-all_entered, all_entered-append}
use Rattle.sn_record_parser.specs.declared.entry.Entry.{Entry}
use Rattle.sn_input.specs.declared.input.InputFault.{InputFault}
use Rattle.sn_input.specs.Numbered.{with_entries, entry_in}
use Rattle.sn_input.specs.Reading.{most_names}
use Rattle.sn_input.specs.Steps.{Fits, LacksNames}

abbrev name_of : Entry → List ℕ
name_of e = e.label.name

-- the entry at hand, those before it and those after it
module _ (start : List (List ℕ)) (entries before after : List Entry) (entry : Entry) (all : before ++ entry ∷ after ≡ entries) where
  abbrev final : List (List ℕ)
  final = with_entries start entries

  -- all names, as those so far, the one at hand and those to come
  split_names : final ≡ all_entered (entered (with_entries start before) (name_of entry)) (map name_of after)
  split_names =
      ap (with_entries start) (sym all)
      ∙ ap (all_entered start) (map-append name_of before (entry ∷ after))
      ∙ all_entered-append start (map name_of before) (name_of entry ∷ map name_of after)

  module _ (names : List (List ℕ)) (was : names ≡ with_entries start before) where
    pub names_more : (new : List (List ℕ)) → new ≡ entered names (name_of entry) → new ≡ with_entries start (before ++ entry ∷ [])
    names_more new is =
        is ∙ ap (λ ns. entered ns (name_of entry)) was
        ∙ sym (ap (all_entered start) (map_push name_of before entry) ∙ all_entered-append start (map name_of before) (name_of entry ∷ []))

    from_here : final ≡ all_entered (entered names (name_of entry)) (map name_of after)
    from_here = split_names ∙ ap (λ ns. all_entered (entered ns (name_of entry)) (map name_of after)) (sym was)

    -- the number of a name stays
    pub number_stays : (new : List (List ℕ)) (id : ℕ) → new ≡ entered names (name_of entry) → id ≡ label_number new (name_of entry) → id ≡ label_number final (name_of entry)
    number_stays new id is number =
        number ∙ ap (λ ns. label_number ns (name_of entry)) is
        ∙ sym (ap (λ ns. label_number ns (name_of entry)) from_here ∙ ap (numbered (name_of entry)) (number_in-all_entered (entered names (name_of entry)) (map name_of after) (name_of entry) (is_held-entered names (name_of entry))))

    -- where one name does not go in, all do not
    pub lacks_names : (fault : InputFault) → LacksNames (entered names (name_of entry)) fault → LacksNames final fault
    lacks_names fault lacks =
        elim lacks [
          | inl memory ↦ inl memory
          | inr many ↦
              let over : most_names < length (entered names (name_of entry)) = many.1 in
              inr (many.0, rw from_here (omega (arith, over, length-all_entered (entered names (name_of entry)) (map name_of after))))
        ]

  -- the numbered entries grow by the entry
  pub made_more : (made more : List (Label × Value)) (id : ℕ) → made ≡ map (entry_in final) before → id ≡ label_number final (name_of entry)
      → more ≡ made ++ (record { kind = entry.label.kind; id = id }, entry.value) ∷ [] → more ≡ map (entry_in final) (before ++ entry ∷ [])
  made_more made more id was number is =
      is ∙ (λ i. was i ++ (record { kind = entry.label.kind; id = number i }, entry.value) ∷ []) ∙ sym (map_push (entry_in final) before entry)

-- what holds of all entries holds of the first of them
pub front_all : (P : Entry → Type 0) (xs ys entries : List Entry) → xs ++ ys ≡ entries → All P entries → All P xs
front_all P xs ys entries is all = All-same P xs (take (length xs) (xs ++ ys)) (sym (take_at xs ys (length xs) refl)) (All-take P (length xs) (xs ++ ys) (All-same P (xs ++ ys) entries is all))

-- each numbered entry fits its label
pub numbered_fit : (names : List (List ℕ)) (entries : List Entry) (made : List (Label × Value)) → made ≡ map (entry_in names) entries → All Fits entries → All (λ e. FitsLabel e.0 e.1) made
numbered_fit names entries made is fit =
    All-same (λ (e : Label × Value). FitsLabel e.0 e.1) made (map (entry_in names) entries) is
    (All-map (λ (e : Label × Value). FitsLabel e.0 e.1) (entry_in names) entries (λ k d within. fit k d within (label_number names (name_of (get_or entries k d)))))
