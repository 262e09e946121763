use Rattle.std.proofs.Common.{◌+◌, ◌∙◌, sym, ap, arith}
use Rattle.sn_record.specs.Record.{overlay}
use Rattle.sn_net.specs.Cell.{union}
use Rattle.sn_sync.specs.Slotted.{held_records}
use Rattle.sn_sync.proofs.Unions.{overlay-empty_left, with_rest, with_rest-held, with_rest-empty, with_rest-past}
use Rattle.sn_sync.proofs.slots.union_of.Goals as goal
use Rattle.sn_sync.proofs.slots.union_of.Goals.{in-Some+in_ok-both, in_default}

pub loop-slot-init : goal.loop-slot-init
loop-slot-init c = ap (λ both. overlay both (union (held_records c.args.slots.now))) c.new-both.ensures ∙ overlay-empty_left _

pub loop-slot-preserved : goal.loop-slot-preserved
loop-slot-preserved c =
    elim c.match-slot.branch [
      | in-Some+in_ok-both w ↦
          with_rest-held c.args.slots.now c.loop-slot.slot-index c.slot-item.result w.in-Some.held c.loop-slot.both c.match-slot.both w.new.result c.loop-slot-test.true c.slot-item.is w.in-Some.is w.new.ensures
          (w.both-is ∙ w.in_ok-both.ensures)
          ∙ c.loop-slot.invariant
      | in_default w ↦
          ap (λ both. with_rest both c.args.slots.now (c.loop-slot.slot-index + 1)) w.both-is
          ∙ with_rest-empty c.args.slots.now c.loop-slot.slot-index c.slot-item.result c.loop-slot.both c.loop-slot-test.true c.slot-item.is w.in_default.is
          ∙ c.loop-slot.invariant
    ]

pub returns : goal.returns
returns c = sym (with_rest-past c.args.slots.now c.loop-slot.slot-index c.loop-slot.both (omega arith)) ∙ c.loop-slot.invariant
