use Rattle.std.proofs.Common.{◌≡◌, List, [], ◌++◌, map, sym, ap, ◌∙◌, append-nil}
use Rattle.std.proofs.lemmas.List.{nil_from_length}
use Rattle.std.specs.Vec.Iter.{into_iter_items}
use Rattle.sn_record.specs.Record.{Entries}
use Rattle.sn_record.specs.declared.item.Item.{Item}
use Rattle.sn_net.specs.Item.{Rec, modelled}
use Rattle.sn_load.proofs.Typing.{items_typed, one_more}
use Rattle.sn_load.proofs.items.items_of.Goals as goal

pub loop-record-init : goal.loop-record-init
loop-record-init c =
    let all : into_iter_items c.into_iter-record-iterator.result ≡ c.args.records = c.into_iter-record-iterator.ensures.into_iter_gives.0 ∙ c.into_vec-record-items.ensures in
    ap (λ (xs : List Item). map modelled xs ++ map Rec (into_iter_items c.into_iter-record-iterator.result)) c.new-items.ensures ∙ ap (λ (rs : List Entries). map Rec rs) all

pub loop-record-preserved : goal.loop-record-preserved
loop-record-preserved c =
    ap (λ (xs : List Item). map modelled xs ++ map Rec (into_iter_items c.next.new.self)) c.in_ok-append.ensures.ok
    ∙ one_more c.loop-record.items c.in-Some.record (into_iter_items c.next.new.self)
    ∙ ap (λ (rs : List Entries). map modelled c.loop-record.items ++ map Rec rs) (sym c.in-Some.ensures.steps.0)
    ∙ c.loop-record.invariant

pub returns-clause-items : goal.returns-clause-items
returns-clause-items c =
    let none : into_iter_items c.loop-record.record-iterator ≡ [] = nil_from_length (into_iter_items c.loop-record.record-iterator) (sym c.loop-record.record-iterator.rest.ok.0 ∙ c.in-None.ensures.steps.0) in
    sym (append-nil (map modelled c.loop-record.items)) ∙ ap (λ (rs : List Entries). map modelled c.loop-record.items ++ map Rec rs) (sym none) ∙ c.loop-record.invariant

pub returns-clause-typed : goal.returns-clause-typed
returns-clause-typed c = λ boxes net typed.
    let none : into_iter_items c.loop-record.record-iterator ≡ [] = nil_from_length (into_iter_items c.loop-record.record-iterator) (sym c.loop-record.record-iterator.rest.ok.0 ∙ c.in-None.ensures.steps.0) in
    items_typed boxes net c.args.records c.loop-record.items (sym (append-nil (map modelled c.loop-record.items)) ∙ ap (λ (rs : List Entries). map modelled c.loop-record.items ++ map Rec rs) (sym none) ∙ c.loop-record.invariant) typed
