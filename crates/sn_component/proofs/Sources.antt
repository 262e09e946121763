-- What the source keeps, through each step of a turn.
use Rattle.std.proofs.Common.{◌≡◌, ℕ, zero, suc, ◌<◌, ◌≤◌, ◌+◌, List, [], ◌∷◌, ◌++◌, length, drop, map, refl, sym, ap, ap₂, ◌∙◌, append_assoc, append-nil, add-one, not-suc-le-zero, le_of_suc-le-suc}
use mathlib.Core.List.{IsPrefix, map-append, head-eq_of_cons-eq, tail-eq_of_cons-eq, cons≢nil}
use Rattle.sn_record.specs.declared.item.Item.{Item}
use Rattle.sn_net.specs.Item.{ModelItem, modelled}
use Rattle.sn_histories.specs.Entries as entry
use Rattle.sn_histories.specs.Entries.{Entry, is_end}
use Rattle.std.proofs.lemmas.Bool.{false≢true}
use Rattle.sn_model.specs.Run.{items_of}
use Rattle.sn_stream.specs.declared.item.StreamItem.{StreamItem}
use Rattle.sn_stream.specs.declared.item.StreamItem.TheVariants as stream_item
use Rattle.sn_stream.specs.Ends.{End, entry_of, passed}
use Rattle.sn_stream.specs.Ended.{ended, numbered}
use Rattle.sn_component.specs.Facts.{Feeds, history_for}
use Rattle.sn_component.specs.Outbox.{Ends}
use Rattle.sn_component.specs.Seen.{Sourcing, given_by}

pub source_begins : (s : Sourcing) → Feeds s → IsPrefix (given_by s.output s.held) (history_for s.output.made)
source_begins s f = (drop s.next (ended (items_of s.run)), f.image ∙ sym f.whole)

pub after_sending : (s : Sourcing) (output : End) (held : List StreamItem) → given_by output held ≡ given_by s.output s.held → output.made ≡ s.output.made
    → Feeds s → Feeds (record s { output = output; held = held })
after_sending s output held given made f = record {
  whole = ap history_for made ∙ f.whole;
  image = ap (λ l. l ++ drop s.next (ended (items_of s.run))) given ∙ f.image;
}

-- the entry of a number, and those behind it
next_and_rest : (xs : List Item) (n : ℕ) → n ≤ length xs → drop n (ended xs) ≡ entry_of (numbered xs n) ∷ drop (suc n) (ended xs)
next_and_rest [] zero h = refl
next_and_rest [] (suc n) h = absurd (not-suc-le-zero h)
next_and_rest (x ∷ xs) zero h = refl
next_and_rest (x ∷ xs) (suc n) h = next_and_rest xs n (le_of_suc-le-suc h)

pub after_filling : (s : Sourcing) (x : StreamItem) (next : ℕ) (output : End) (held : List StreamItem) → output ≡ s.output → s.next ≤ length (items_of s.run) → x ≡ numbered (items_of s.run) s.next
    → next ≡ s.next + 1 → held ≡ s.held ++ x ∷ [] → Feeds s → Feeds (record s { next = next; output = output; held = held })
after_filling s x next output held same within is one_more holds f =
    let rest : List (Entry ModelItem) = drop (suc s.next) (ended (items_of s.run)) in record {
      whole = ap (λ (e : End). history_for e.made) same ∙ f.whole;
      image = ap₂ (λ l n. l ++ drop n (ended (items_of s.run)))
          (ap₂ given_by same holds ∙ ap passed (sym (append_assoc s.output.moved s.held (x ∷ []))) ∙ map-append entry_of (s.output.moved ++ s.held) (x ∷ []))
          (one_more ∙ add-one s.next)
          ∙ append_assoc (given_by s.output s.held) (entry_of x ∷ []) rest
          ∙ ap (λ l. given_by s.output s.held ++ l) (ap (λ y. entry_of y ∷ rest) is ∙ sym (next_and_rest (items_of s.run) s.next within))
          ∙ f.image;
    }

none_left : (xs : List Item) (n : ℕ) → length xs < n → drop n (ended xs) ≡ []
none_left xs zero h = absurd (not-suc-le-zero h)
none_left [] (suc n) h = nothing n
  where
    nothing : (n : ℕ) → drop {A = Entry ModelItem} n [] ≡ []
    nothing zero = refl
    nothing (suc n) = refl
none_left (x ∷ xs) (suc n) h = none_left xs n (le_of_suc-le-suc h)

is_the_end : (x : StreamItem) → entry_of x ≡ entry.End → x ≡ stream_item.End
is_the_end (stream_item.Item i) is = absurd (false≢true (ap is_end is))
is_the_end stream_item.Mark is = absurd (false≢true (ap is_end is))
is_the_end stream_item.End is = refl

none_moved : (moved : List StreamItem) → passed moved ≡ [] → moved ≡ []
none_moved [] is = refl
none_moved (x ∷ moved) is = absurd (cons≢nil is)

end_is_last : (moved : List StreamItem) (es : List (Entry ModelItem)) → passed moved ≡ es ++ entry.End ∷ []
    → (before : List StreamItem) × (moved ≡ before ++ stream_item.End ∷ [])
end_is_last [] [] is = absurd (cons≢nil (sym is))
end_is_last [] (e ∷ es) is = absurd (cons≢nil (sym is))
end_is_last (x ∷ moved) [] is = ([], ap₂ (λ y l. y ∷ l) (is_the_end x (head-eq_of_cons-eq is)) (none_moved moved (tail-eq_of_cons-eq is)))
end_is_last (x ∷ moved) (e ∷ es) is = longer (end_is_last moved es (tail-eq_of_cons-eq is))
  where
    longer : ((before : List StreamItem) × (moved ≡ before ++ stream_item.End ∷ [])) → (before : List StreamItem) × (x ∷ moved ≡ before ++ stream_item.End ∷ [])
    longer (before, last) = (x ∷ before, ap (λ l. x ∷ l) last)

pub all_is_put : (s : Sourcing) → s.held ≡ [] → length (items_of s.run) < s.next → Feeds s → Ends s.output
all_is_put s none past f =
    end_is_last s.output.moved (map entry.Item (map modelled (items_of s.run)))
    (sym (append-nil (passed s.output.moved)) ∙ ap (λ l. passed s.output.moved ++ l) (sym (none_left (items_of s.run) s.next past))
    ∙ ap (λ l. passed l ++ drop s.next (ended (items_of s.run))) (sym (append-nil s.output.moved) ∙ ap (λ l. s.output.moved ++ l) (sym none)) ∙ f.image)
