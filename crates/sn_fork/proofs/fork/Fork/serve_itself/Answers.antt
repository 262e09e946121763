use Rattle.std.proofs.Common.{rules, nat_lt, ◌≡◌, List, [], ◌∷◌, ◌++◌, true, ap, ap₂, sym, ◌∙◌, subst}
use Rattle.sn_histories.specs.Entries.{Entry}
use Rattle.sn_net.specs.Item.{ModelItem}
use Rattle.sn_stream.specs.Ends.{End, entry_of}
use Rattle.sn_stream.specs.declared.item.StreamItem.{StreamItem}
use Rattle.sn_component.specs.Seen.{given_by}
use Rattle.sn_fork.specs.Facts.{Forks}
use Rattle.sn_fork.specs.Fork.{forking_of}
use Rattle.sn_fork.specs.Seen.{Forking, serves_now}
use Rattle.sn_fork.proofs.Steps.{after_serving}
use Rattle.sn_fork.proofs.fork.Fork.serve_itself.Goals as goal

pub invariant_of-self-in-Some : goal.invariant_of-self-in-Some
invariant_of-self-in-Some c =
    let f : Forking = forking_of c.self.inside in
    let held : List StreamItem = c.hold.new.self.held.items in
    let put : c.hold.new.self.put ≡ c.self.inside.output.put = c.hold.ensures.put ∙ c.reserve.ensures.put in
    let own : serves_now (nat_lt c.self.inside.first c.self.inside.last) c.self.inside.decisions ≡ true = search rules in
    record {
      forks = subst (λ (e : End). Forks (record f { decisions = c.drop_first.new.self; output = e; held = held })) (sym put)
          (after_serving f c.self.invariant.forks (nat_lt c.self.inside.first c.self.inside.last) c.in-Some.d c.drop_first.new.self held own c.in-Some.ensures
          (sym (ap (λ (e : End). given_by e held) put) ∙ c.hold.ensures.given
          ∙ ap₂ (λ (e : End) (l : List StreamItem). given_by e l ++ entry_of c.passes.result ∷ []) c.reserve.ensures.put c.reserve.ensures.held
          ∙ ap (λ (e : Entry ModelItem). given_by f.output f.held ++ e ∷ []) c.passes.ensures));
      keyed = c.self.invariant.keyed;
    }
