use Rattle.std.proofs.Common.{arith, rules, ap, sym, subst, ◌∙◌, ◌≡◌, ◌≤◌, ◌-◌, length, take}
use Rattle.std.specs.List.{list_any}
use Rattle.sn_node.specs.Waiting.{is_free}
use Rattle.sn_node.proofs.Last.{none_among_first, take_within}
use Rattle.sn_node.proofs.queue.Queue.drop_last.Goals as goal

pub invariant_of-self : goal.invariant_of-self
invariant_of-self c =
    let old = c.args.self.now.entries.items in
    let rest = c.saturating_sub-rest.result in
    let few : rest ≤ length old = search (rules, arith) in
    record {
      within = subst (λ ws. c.lesser-self.result ≤ length ws) (sym c.truncate.ensures.items) (take_within old c.lesser-self.result rest c.lesser-self.ensures.second few);
      none_free =
          ap (λ ws. list_any is_free (take c.lesser-self.result ws)) c.truncate.ensures.items
          ∙ none_among_first is_free old c.lesser-self.result rest c.args.self.now.called c.lesser-self.ensures.second c.lesser-self.ensures.first c.args.self.now.none_free;
    }

pub returns : goal.returns
returns c =
    let rest_is : c.saturating_sub-rest.result ≡ length c.args.self.now.entries.items - 1 = search (rules, arith) in
    c.truncate.ensures.items ∙ ap (λ n. take n c.args.self.now.entries.items) rest_is
