use Rattle.std.proofs.Common.{◌∙◌, ap}
use Rattle.sn_names.specs.Names.{entered}
use Rattle.sn_input.proofs.Tables.{field_seen, tag_seen}
use Rattle.sn_input.proofs.repeats.Seen.add.Goals as goal

pub returns-in_ok-enter-in-Field : goal.returns-in_ok-enter-in-Field
returns-in_ok-enter-in-Field c = field_seen c.args.self.now _ c.args.label.now c.in-Field.is (c.in_ok-enter-in-Field.ensures.ok ∙ ap (entered c.args.self.now.fields) c.as_slice-name.ensures)

pub returns-in_ok-enter-in-Tag : goal.returns-in_ok-enter-in-Tag
returns-in_ok-enter-in-Tag c = tag_seen c.args.self.now _ c.args.label.now c.in-Tag.is (c.in_ok-enter-in-Tag.ensures.ok ∙ ap (entered c.args.self.now.tags) c.as_slice-name.ensures)
