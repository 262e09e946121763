use Rattle.std.proofs.Common.{◌∙◌, ap, sym}
use Rattle.sn_stream.specs.declared.item.StreamItem.TheVariants.{Item}
use Rattle.sn_stream.proofs.Numbered.{numbered_end, numbered_item}
use Rattle.sn_component.proofs.source.entry.Goals as goal

pub returns-then-number-items : goal.returns-then-number-items
returns-then-number-items c =
    ap Item c.in_ok-item.ensures ∙ sym (numbered_item _ _ _ c.if-number-items.true c.index-items-number.is)

pub returns : goal.returns
returns c = sym (numbered_end _ _ c.if-number-items.false)
