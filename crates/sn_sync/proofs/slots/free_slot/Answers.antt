use Rattle.std.proofs.Common.{◌≡◌, ◌&&◌, ◌∙◌, false, length, ◌≤◌, ap, ap₂, arith, not, is_none, sym}
use Rattle.std.specs.Prelude.{◌⊎◌}
use Rattle.sn_record.specs.Record.{is_match}
use Rattle.sn_sync.proofs.Filling.{from_place-found, from_place-more, from_place-past, one_is_past}
use Rattle.sn_sync.proofs.slots.free_slot.Goals as goal
use Rattle.sn_sync.proofs.slots.free_slot.Goals.{else-is_none-via-then-is_none+else-is_match, else-is_none-via-else-is_none}

pub loop-place-preserved : goal.loop-place-preserved
loop-place-preserved c =
    let taken : (is_none c.index-slots-place.result && is_match c.args.r.now c.index-patterns-place.result) ≡ false =
    elim c.else-is_none.branch [
      | else-is_none-via-then-is_none+else-is_match w ↦ ap₂ (λ a b. a && b) (ap not (c.is_none.ensures ∙ ap not w.if-is_none.true)) (sym w.is_match.ensures ∙ w.if-is_match.false)
      | else-is_none-via-else-is_none w ↦ ap (λ a. a && is_match c.args.r.now c.index-patterns-place.result) (ap not (c.is_none.ensures ∙ ap not w.if-is_none.false))
    ] in
    c.loop-place.invariant
    ∙ from_place-more c.args.patterns.now c.args.slots.now c.args.r.now c.loop-place.place c.index-patterns-place.result c.index-slots-place.result (omega arith) (omega arith) c.index-patterns-place.is c.index-slots-place.is taken

pub returns-then-is_match-clause-slot : goal.returns-then-is_match-clause-slot
returns-then-is_match-clause-slot c =
    c.loop-place.invariant
    ∙ from_place-found c.args.patterns.now c.args.slots.now c.args.r.now c.loop-place.place c.index-patterns-place.result c.index-slots-place.result (omega arith) (omega arith) c.index-patterns-place.is c.index-slots-place.is (c.is_none.ensures ∙ ap not c.if-is_none.true) (sym c.is_match.ensures ∙ c.if-is_match.true)

pub returns-clause-slot : goal.returns-clause-slot
returns-clause-slot c =
    c.loop-place.invariant
    ∙ from_place-past c.args.patterns.now c.args.slots.now c.args.r.now c.loop-place.place (one_is_past (length c.args.patterns.now) (length c.args.slots.now) c.loop-place.place (omega arith))
