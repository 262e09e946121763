use Rattle.std.proofs.Common.{[], ap, ap₂, refl}
use Rattle.sn_stream.specs.Ends.{End}
use Rattle.sn_component.specs.Component.{state_of}
use Rattle.sn_component.specs.Seen.{Working, given_by}
use Rattle.sn_component.proofs.Working.{after_sending, fresh_works}
use Rattle.sn_component.proofs.component.Component.new.Goals as goal

pub invariant_of-result : goal.invariant_of-result
invariant_of-result c =
    let fresh : Working = record {
      run = c.args.run.value;
      path = c.args.path;
      state = state_of c.args.keeps;
      input = c.args.input;
      waiting = [];
      output = c.args.output;
      held = [];
    } in
    after_sending fresh c.new.result.put c.new.result.held.items (ap₂ given_by c.new.ensures.put c.new.ensures.held) (ap (λ (e : End). e.made) c.new.ensures.put)
    (fresh_works fresh refl refl c.requires)
