use Rattle.std.proofs.Common.{[], ◌∷◌}
use Rattle.std.proofs.lemmas.List.Elements.{All-head}
use Rattle.sn_net.specs.Filter.{IsClosedTemplate}
use Rattle.sn_filter.proofs.Using.{used_closed}
use Rattle.sn_filter.proofs.answer.apply_single.Goals as goal

pub template_record_owned-requires-clause-from : goal.template_record_owned-requires-clause-from
template_record_owned-requires-clause-from c =
    (All-head (IsClosedTemplate c.args.f.now.pattern) c.args.template.now [] (used_closed c.args.f.now c.args.taken (c.args.template.now ∷ []) c.requires.closed c.requires.single)).named
