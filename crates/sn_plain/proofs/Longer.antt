-- Names that go on print records as those before, where these know the labels.
use Rattle.std.proofs.Common.{◌≡◌, ◌∙◌, ℕ, ◌<◌, IsTrue, List, [], ◌∷◌, ◌++◌, get_or, length, map, refl, sym, ap, subst}
use Rattle.std.specs.Prelude.{codes}
use Rattle.std.specs.List.{All, AllByRecursion as Each}
use mathlib.Core.List.{is_set as List-set}
use mathlib.Core.Logic.{∥∥₁_elim}
use native.Mathlib.Nat.{ℕ_set}
use Rattle.std.specs.Option.{is_some}
use Rattle.std.specs.Ordering.{nat_cmp, ordering_then}
use Rattle.std.specs.declared.cmp.Ordering.{Ordering}
use Rattle.std.specs.declared.cmp.Ordering.TheVariants.{Less, Equal, Greater}
use Rattle.std.specs.Cmp.Lexicographic.{slice_cmp}
use Rattle.std.specs.FinMap as finite
use Rattle.std.specs.FinMap.{put}
use Rattle.std.specs.FinMap.Entries.{by_order}
use Rattle.std.proofs.lemmas.List.{get_or_append_left, nil_from_length}
use Rattle.std.proofs.lemmas.List.Elements.{All-nil, All-head, All-tail, All-cons}
use Rattle.std.proofs.lemmas.Option.{slice_get-get_or}
use Rattle.sn_record.specs.declared.label.Label.{Label}
use Rattle.sn_record.specs.declared.value.Value.{Value}
use Rattle.sn_record.specs.Label.{kind_rank}
use Rattle.sn_record.specs.Record.{Entries}
use Rattle.sn_record.proofs.Maps.{get-slice_get}
use Rattle.sn_names.specs.Names.{label_name, place_of}
use Rattle.sn_net.specs.Item.{ModelItem, Rec, Fault, Stuck}
use Rattle.sn_labels.specs.Flowing.{HasOnly, ItemHasOnly}
use Rattle.sn_pieces.specs.Known.{is_known}
use Rattle.sn_pieces.specs.Reader.{Begins}
use Rattle.sn_pieces.proofs.Knowing.{known_held}
use Rattle.sn_feed.specs.Known.{AreKnown}
use Rattle.sn_output.specs.Printed.{printed}
use Rattle.sn_output.specs.Line.{by_name, by_name_total, entry_text, in_order, joined, line, printed_label, value_text}

abbrev Entry : Type 0
Entry = Label × Value

abbrev ordered : List (List ℕ) → List Entry → List Entry
ordered names es = finite.entries (finite.from_entries {R = by_name names} es)

module _ (names more : List (List ℕ)) where
  abbrev longer : List (List ℕ)
  longer = names ++ more

  -- a name stands at the place of the label's number
  abbrev pub HasPlace : Label → Type 0
  HasPlace l = place_of l.id < length names

  abbrev Known : Entry → Type 0
  Known e = HasPlace e.0

  same_name : (l : Label) → HasPlace l → label_name longer l.id ≡ label_name names l.id
  same_name l within = get_or_append_left names more [] (place_of l.id) within

  same_order : (l k : Label) → HasPlace l → HasPlace k → by_name longer l k ≡ by_name names l k
  same_order l k one other = λ i. ordering_then (nat_cmp (kind_rank l.kind) (kind_rank k.kind)) (ordering_then (slice_cmp nat_cmp (same_name l one i) (same_name k other i)) (nat_cmp l.id k.id))

  -- one entry more
  put_alike : (l : Label) (v : Value) (es : List Entry) → HasPlace l → All Known es → put (by_name longer) l v es ≡ put (by_name names) l v es
  put_alike l v [] here all = refl
  put_alike l v (e ∷ es) here all =
      let rest = put_alike l v es here (All-tail Known e es all) in
      λ i. by_order (same_order l e.0 here (All-head Known e es all) i) ((l, v) ∷ e ∷ es) ((e.0, v) ∷ es) (e ∷ rest i)

  put_known : (l : Label) (v : Value) (es : List Entry) → HasPlace l → All Known es → All Known (put (by_name names) l v es)
  put_known l v [] here all = All-cons Known (l, v) [] here all
  put_known l v (e ∷ es) here all = by (by_name names l e.0) (put_known l v es here (All-tail Known e es all))
    where
      by : (o : Ordering) → All Known (put (by_name names) l v es) → All Known (by_order o ((l, v) ∷ e ∷ es) ((e.0, v) ∷ es) (e ∷ put (by_name names) l v es))
      by Less later = All-cons Known (l, v) (e ∷ es) here all
      by Equal later = All-cons Known (e.0, v) es (All-head Known e es all) (All-tail Known e es all)
      by Greater later = All-cons Known e (put (by_name names) l v es) (All-head Known e es all) later

  none_ordered : (others : List (List ℕ)) → ordered others [] ≡ []
  none_ordered others = nil_from_length _ (sym (finite.len-entries (finite.empty {X = Value} {R = by_name others})) ∙ finite.len-empty (by_name others) Value)

  one_more : (others : List (List ℕ)) (e : Entry) (es : List Entry) → ordered others (e ∷ es) ≡ put (by_name others) e.0 e.1 (ordered others es)
  one_more others e es = finite.entries-insert (by_name_total others) (finite.from_entries {R = by_name others} es) e.0 e.1

  ordered_known : (es : List Entry) → All Known es → All Known (ordered names es)
  ordered_known [] all = subst (All Known) (sym (none_ordered names)) (All-nil Known)
  ordered_known (e ∷ es) all =
      subst (All Known) (sym (one_more names e es)) (put_known e.0 e.1 (ordered names es) (All-head Known e es all) (ordered_known es (All-tail Known e es all)))

  ordered_alike : (es : List Entry) → All Known es → ordered longer es ≡ ordered names es
  ordered_alike [] all = none_ordered longer ∙ sym (none_ordered names)
  ordered_alike (e ∷ es) all =
      one_more longer e es ∙ ap (put (by_name longer) e.0 e.1) (ordered_alike es (All-tail Known e es all))
      ∙ put_alike e.0 e.1 (ordered names es) (All-head Known e es all) (ordered_known es (All-tail Known e es all)) ∙ sym (one_more names e es)

  texts_alike : (es : List Entry) → All Known es → map (entry_text longer) es ≡ map (entry_text names) es
  texts_alike [] all = refl
  texts_alike (e ∷ es) all =
      let same = same_name e.0 (All-head Known e es all) in
      let rest = texts_alike es (All-tail Known e es all) in
      λ i. (printed_label e.0.kind (same i) ++ (codes "=" ++ value_text e.1)) ∷ rest i

  -- a record whose labels have places is printed alike
  pub line_later : (r : Entries) → ((l : Label) → IsTrue (finite.contains_key r l) → HasPlace l) → line longer r ≡ line names r
  line_later r known =
      let all : All Known (finite.entries r) = λ k d within. known (get_or (finite.entries r) k d).0 (ap is_some (get-slice_get r k _ _ (slice_get-get_or (finite.entries r) k d within))) in
      let order : in_order longer r ≡ in_order names r = ordered_alike (finite.entries r) all in
      let texts = ap (map (entry_text longer)) order ∙ texts_alike (in_order names r) (ordered_known (finite.entries r) all) in
      ap (λ ts. codes "{" ++ (joined (codes ", ") ts ++ codes "}\n")) texts

-- ---- streams whose labels are known

item_known : (names more : List (List ℕ)) (r : Entries) → HasOnly (is_known names) r → line (names ++ more) r ≡ line names r
item_known names more r only = line_later names more r (λ l there. (known_held names l (only l there)).within)

lines_alike : (names more : List (List ℕ)) (xs : List ModelItem) → Each (ItemHasOnly (is_known names)) xs → printed (names ++ more) xs ≡ printed names xs
lines_alike names more [] only = refl
lines_alike names more (Rec r ∷ xs) only = λ i. item_known names more r only.0 i ++ lines_alike names more xs only.1 i
lines_alike names more (Fault fault ∷ xs) only = refl
lines_alike names more (Stuck place ∷ xs) only = refl

bytes_set : IsSet (List ℕ)
bytes_set = List-set ℕ_set

-- what names know is printed alike by names that begin with them
pub printed_later : (names all : List (List ℕ)) (xs : List ModelItem) → Begins names all → AreKnown names xs → printed all xs ≡ printed names xs
printed_later names all xs begins known =
    ap (λ ns. printed ns xs) begins.1 ∙ ∥∥₁_elim known (bytes_set _ _) (λ only. lines_alike names begins.0 xs only)
