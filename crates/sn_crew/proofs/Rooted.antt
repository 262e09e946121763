-- What the end at the root has got.
use Rattle.std.proofs.Common.{◌≡◌, ◌∙◌, ◌||◌, Bool, true, false, true≢false, List, [], ◌∷◌, ◌++◌, map, refl, sym, ap, ap₂, subst}
use Rattle.std.specs.List.{list_any}
use mathlib.Core.List.{IsPrefix, cons≢nil, head-eq_of_cons-eq, tail-eq_of_cons-eq}
use Rattle.sn_net.specs.Item.{ModelItem}
use Rattle.sn_model.specs.Run.{given}
use Rattle.sn_model.specs.declared.run.Run.{Run}
use Rattle.sn_histories.specs.Entries as entry
use Rattle.sn_histories.specs.Entries.{EndsOnce, Entry, is_end}
use Rattle.sn_net_histories.proofs.Roots.{root_leaves}
use Rattle.sn_net_histories.specs.Places.{history_at}
use Rattle.sn_stream.specs.Ends.{End as StreamEnd, Made, history_of, passed}
use Rattle.sn_stream.specs.declared.item.StreamItem.{StreamItem}
use Rattle.sn_stream.specs.declared.item.StreamItem.TheVariants.{Item, Mark, End}
use Rattle.sn_crew.specs.Root.{IsRootOf, has_ended, items_among}

abbrev item_or : ModelItem → Entry ModelItem → ModelItem
item_or x (entry.Item y) = y
item_or x (entry.To k) = x
item_or x entry.Mark = x
item_or x entry.End = x

abbrev is_item : Entry ModelItem → Bool
is_item (entry.Item x) = true
is_item (entry.To k) = false
is_item entry.Mark = false
is_item entry.End = false

-- nothing is a beginning of no entries but no entries
none : (entries : List StreamItem) (rest : List (Entry ModelItem)) → passed entries ++ rest ≡ [] → entries ≡ []
none [] rest is = refl
none (x ∷ entries) rest is = absurd (cons≢nil is)

-- a beginning of items and then the end
beginning : (entries : List StreamItem) (xs : List ModelItem) → IsPrefix (passed entries) (map entry.Item xs ++ (entry.End ∷ [])) → IsPrefix (items_among entries) xs
beginning [] xs p = (xs, refl)
beginning (Item x ∷ entries) [] p = absurd (true≢false (ap is_item (head-eq_of_cons-eq p.1)))
beginning (Item x ∷ entries) (y ∷ xs) p =
    let rest = beginning entries xs (p.0, tail-eq_of_cons-eq p.1) in (rest.0, ap₂ ◌∷◌ (ap (item_or y) (head-eq_of_cons-eq p.1)) rest.1)
beginning (Mark ∷ entries) [] p = absurd (true≢false (sym (ap is_end (head-eq_of_cons-eq p.1))))
beginning (Mark ∷ entries) (y ∷ xs) p = absurd (true≢false (sym (ap is_item (head-eq_of_cons-eq p.1))))
beginning (End ∷ entries) [] p = ([], ap (λ es. items_among es ++ []) (none entries p.0 (tail-eq_of_cons-eq p.1)))
beginning (End ∷ entries) (y ∷ xs) p = absurd (true≢false (ap is_end (head-eq_of_cons-eq p.1)))

-- and all of it, where the end is there
whole : (entries : List StreamItem) (xs : List ModelItem) → IsPrefix (passed entries) (map entry.Item xs ++ (entry.End ∷ [])) → has_ended entries ≡ true → items_among entries ≡ xs
whole [] xs p ended = absurd (true≢false (sym ended))
whole (Item x ∷ entries) [] p ended = absurd (true≢false (ap is_item (head-eq_of_cons-eq p.1)))
whole (Item x ∷ entries) (y ∷ xs) p ended = ap₂ ◌∷◌ (ap (item_or y) (head-eq_of_cons-eq p.1)) (whole entries xs (p.0, tail-eq_of_cons-eq p.1) ended)
whole (Mark ∷ entries) [] p ended = absurd (true≢false (sym (ap is_end (head-eq_of_cons-eq p.1))))
whole (Mark ∷ entries) (y ∷ xs) p ended = absurd (true≢false (sym (ap is_item (head-eq_of_cons-eq p.1))))
whole (End ∷ entries) [] p ended = ap items_among (none entries p.0 (tail-eq_of_cons-eq p.1))
whole (End ∷ entries) (y ∷ xs) p ended = absurd (true≢false (ap is_end (head-eq_of_cons-eq p.1)))

-- an end of the same make
pub same_root : (run : Run) (old new : StreamEnd) → new.made ≡ old.made → IsRootOf run old → IsRootOf run new
same_root run old new made of = record {
  run_is = ap (λ (m : Made). m.run) made ∙ of.run_is;
  leaves = ap (λ (m : Made). m.place) made ∙ of.leaves;
}

-- one that has got nothing
pub new_stated : (root : StreamEnd) → root.moved ≡ [] → IsPrefix (passed root.moved) (history_of root)
new_stated root none = subst (λ (es : List StreamItem). IsPrefix (passed es) (history_of root)) (sym none) (history_of root, refl)

module _ (run : Run) (root : StreamEnd) (of : IsRootOf run root) (stated : IsPrefix (passed root.moved) (history_of root)) where
  at_root : IsPrefix (passed root.moved) (map entry.Item (given run) ++ (entry.End ∷ []))
  at_root =
      subst (IsPrefix (passed root.moved)) (ap₂ history_at of.run_is of.leaves ∙ root_leaves run) stated

  pub root_beginning : IsPrefix (items_among root.moved) (given run)
  root_beginning = beginning root.moved (given run) at_root

  pub root_all : has_ended root.moved ≡ true → items_among root.moved ≡ given run
  root_all = whole root.moved (given run) at_root

neither : (b c : Bool) → (b || c) ≡ false → (b ≡ false) × (c ≡ false)
neither false c is = (refl, is)
neither true c is = absurd (true≢false is)

or_false : (b c : Bool) → b ≡ false → (b || c) ≡ true → c ≡ true
or_false false c is either = either
or_false true c is either = absurd (true≢false is)

-- a beginning that has the end, of entries of which it is the last
module _ {A : Type 0} where
  no_entries : (es rest : List (Entry A)) → es ++ rest ≡ [] → es ≡ []
  no_entries [] rest is = refl
  no_entries (e ∷ es) rest is = absurd (cons≢nil is)

  with_end : (before got : List (Entry A)) → list_any is_end before ≡ false → IsPrefix got (before ++ (entry.End ∷ [])) → list_any is_end got ≡ true → got ≡ before ++ (entry.End ∷ [])
  with_end before [] quiet p ended = absurd (true≢false (sym ended))
  with_end [] (e ∷ es) quiet p ended = ap₂ ◌∷◌ (head-eq_of_cons-eq p.1) (no_entries es p.0 (tail-eq_of_cons-eq p.1))
  with_end (b ∷ before) (e ∷ es) quiet p ended =
      let quiets = neither (is_end b) (list_any is_end before) quiet in
      let head : e ≡ b = head-eq_of_cons-eq p.1 in
      ap₂ ◌∷◌ head (with_end before es quiets.1 (p.0, tail-eq_of_cons-eq p.1) (or_false (is_end e) (list_any is_end es) (ap is_end head ∙ quiets.0) ended))

  pub end_is_last : (history got : List (Entry A)) → EndsOnce history → IsPrefix got history → list_any is_end got ≡ true → got ≡ history
  end_is_last history got once p ended = with_end once.0 got once.2 (subst (IsPrefix got) once.1 p) ended ∙ sym once.1
