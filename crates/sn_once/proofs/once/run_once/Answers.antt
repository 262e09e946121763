use Rattle.std.proofs.Common.{sym, subst, ◌∙◌}
use Rattle.sn_model.specs.Run.{boxes_of, net_of}
use Rattle.sn_model.specs.Typed.{AreTyped}
use Rattle.sn_once.proofs.once.run_once.Goals as goal

pub run_over-requires : goal.run_over-requires
run_over-requires c = subst (AreTyped (boxes_of c.args.run.now) (net_of c.args.run.now)) (sym (c.in_ok-items.ensures ∙ c.as_slice.ensures)) c.items.ensures.typed
