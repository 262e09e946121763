-- Labels are the same by their numbers where they are by their names, if the names are held.
use Rattle.std.proofs.Common.{◌≡◌, ℕ, Bool, true, false, ◌&&◌, ◌||◌, Decides, is_some, List, [], ◌∷◌, bytes_eq, fold, refl, sym, ap, ◌∙◌, subst}
use Rattle.std.specs.FinMap as finite
use Rattle.std.specs.List.{list_any}
use Rattle.std.specs.Ordering.{eq_by_cmp}
use Rattle.std.proofs.lemmas.Bool.{and_from, and_parts}
use Rattle.sn_ast.specs.declared.label.LabelAt.{LabelAt}
use Rattle.sn_ast.specs.declared.network.ItemAt.{ItemAt}
use Rattle.sn_ast.specs.declared.network.ItemSource.{ItemSource}
use Rattle.sn_ast.specs.declared.network.ItemSource.TheVariants.{Same, Field, Expr}
use Rattle.sn_box_scope.specs.Variables.{same_kind}
use Rattle.sn_label_scope.specs.Labels.{kind_of, label_at, labels_at}
use Rattle.sn_names.specs.Names.{is_held, label_number}
use Rattle.sn_names.proofs.Labels.{same_number}
use Rattle.sn_names.proofs.NamesLaws.{same_as_itself, same_text}
use Rattle.sn_net.specs.Filter.{target}
use Rattle.sn_record.specs.Label.{label_cmp}
use Rattle.sn_record.specs.LabelSet.{Labels, contains}
use Rattle.sn_record.specs.declared.label.Kind.{Kind}
use Rattle.sn_record.specs.declared.label.Kind.TheVariants as kind
use Rattle.sn_record.specs.declared.label.Label.{Label}
use Rattle.sn_record.proofs.Sets.{contains-insert}
use Rattle.sn_scope.specs.Filters.{part_at, part_of}
use Rattle.sn_scope.specs.Keys.{label_Decides}
use Rattle.sn_scope_rules.specs.Filters.{is_set, sets_again, sets_tag}
use Rattle.sn_scope_rules.specs.Labels.{has_label, is_label}

-- the label of the kind and the name
abbrev pub numbered : List (List ℕ) → Bool → List ℕ → Label
numbered names tag name = record { kind = kind_of tag; id = label_number names name }

-- two tests of one fact give the same
decides_same : (a b : Bool) (P : Type 0) → Decides a P → Decides b P → a ≡ b
decides_same true true P one other = refl
decides_same false false P one other = refl
decides_same true false P one other = sym (other.1 (one.0 refl))
decides_same false true P one other = one.1 (other.0 refl)

-- the kinds are one
kind_back : Kind → Bool
kind_back kind.Field = false
kind_back kind.Tag = true

kind_of_back : (tag : Bool) → kind_back (kind_of tag) ≡ tag
unfolding kind_back
kind_of_back true = refl
kind_of_back false = refl

same_tags : (a b : Bool) → same_kind a b ≡ true → a ≡ b
same_tags true true same = refl
same_tags true false same = sym same
same_tags false true same = same
same_tags false false same = refl

tags_alike : (a b : Bool) → a ≡ b → same_kind a b ≡ true
tags_alike true true same = refl
tags_alike true false same = sym same
tags_alike false true same = same
tags_alike false false same = refl

-- the test by names decides whether the labels are one
by_name : (names : List (List ℕ)) (tag : Bool) (name : List ℕ) (other : Bool) (text : List ℕ) → is_held names name ≡ true
    → Decides (same_kind other tag && bytes_eq text name) (numbered names tag name ≡ numbered names other text)
by_name names tag name other text held = (to, from)
  where
    to : (same_kind other tag && bytes_eq text name) ≡ true → numbered names tag name ≡ numbered names other text
    to both =
        let parts = and_parts (same_kind other tag) (bytes_eq text name) both in
        let kinds = same_tags other tag parts.0 in
        let texts = same_text text name parts.1 in
        λ i. record { kind = kind_of (sym kinds i); id = label_number names (sym texts i) }

    from : numbered names tag name ≡ numbered names other text → (same_kind other tag && bytes_eq text name) ≡ true
    from same =
        let kinds : tag ≡ other = sym (kind_of_back tag) ∙ ap (λ (l : Label). kind_back l.kind) same ∙ kind_of_back other in
        let texts : text ≡ name = same_number names name text held (sym (ap (λ (l : Label). l.id) same)) in
        and_from (same_kind other tag) (bytes_eq text name) (tags_alike other tag (sym kinds)) (subst (λ t. bytes_eq t name ≡ true) (sym texts) (same_as_itself name))

tie_is : (names : List (List ℕ)) (tag : Bool) (name : List ℕ) (other : Bool) (text : List ℕ) → is_held names name ≡ true
    → eq_by_cmp label_cmp (numbered names tag name) (numbered names other text) ≡ (same_kind other tag && bytes_eq text name)
tie_is names tag name other text held = decides_same _ _ (numbered names tag name ≡ numbered names other text) (label_Decides (numbered names tag name) (numbered names other text)) (by_name names tag name other text held)

-- a set to which the labels of some things were added has a label where it had it, or where one of them is it
contains_each : {A : Type 0} (label_of : A → Label) (test : A → Bool) (l : Label) → ((x : A) → eq_by_cmp label_cmp l (label_of x) ≡ test x)
    → (xs : List A) (set : Labels) → contains (fold (λ s x. finite.insert s (label_of x) tt) set xs) l ≡ (contains set l || list_any test xs)
contains_each label_of test l ties [] set = sym (or_false (contains set l))
  where
    or_false : (b : Bool) → (b || false) ≡ b
    or_false true = refl
    or_false false = refl
contains_each label_of test l ties (x ∷ xs) set =
    contains_each label_of test l ties xs (finite.insert set (label_of x) tt) ∙ ap (λ b. b || list_any test xs) (contains-insert set (label_of x) l ∙ ap (λ b. b || contains set l) (ties x))
    ∙ swapped (test x) (contains set l) (list_any test xs)
  where
    swapped : (a b c : Bool) → ((a || b) || c) ≡ (b || (a || c))
    swapped true true c = refl
    swapped true false c = refl
    swapped false b c = refl

none_there : (l : Label) (b : Bool) → (contains finite.empty l || b) ≡ b
none_there l b = ap (λ (found : Bool). found || b) (ap is_some (finite.get-empty label_cmp l))

-- labels by their numbers
pub contains_label : (names : List (List ℕ)) (labels : List LabelAt) (tag : Bool) (name : List ℕ) → is_held names name ≡ true
    → contains (labels_at names labels) (numbered names tag name) ≡ has_label labels tag name
contains_label names labels tag name held = contains_each (label_at names) (is_label tag name) (numbered names tag name) (λ l. tie_is names tag name l.tag l.name.text held) labels finite.empty ∙ none_there (numbered names tag name) (has_label labels tag name)

-- what an item sets, by its number
target_is : (names : List (List ℕ)) (label : LabelAt) (source : ItemSource) → target (part_of names label source) ≡ numbered names (sets_tag label source) label.name.text
target_is names label Same = refl
target_is names label (Field name) = refl
target_is names label (Expr e) = refl

pub contains_set : (names : List (List ℕ)) (items : List ItemAt) (item : ItemAt) → is_held names item.target.name.text ≡ true
    → contains (fold (λ set i. finite.insert set (target (part_at names i)) tt) finite.empty items) (target (part_at names item)) ≡ sets_again items item
contains_set names items item held =
    contains_each (λ i. target (part_at names i)) (is_set (sets_tag item.target item.source) item.target.name.text) (target (part_at names item)) ties items finite.empty ∙ none_there (target (part_at names item)) (sets_again items item)
  where
    ties : (i : ItemAt) → eq_by_cmp label_cmp (target (part_at names item)) (target (part_at names i)) ≡ is_set (sets_tag item.target item.source) item.target.name.text i
    ties i = ap (λ l. eq_by_cmp label_cmp l (target (part_at names i))) (target_is names item.target item.source)
        ∙ ap (eq_by_cmp label_cmp (numbered names (sets_tag item.target item.source) item.target.name.text)) (target_is names i.target i.source)
        ∙ tie_is names (sets_tag item.target item.source) item.target.name.text (sets_tag i.target i.source) i.target.name.text held
