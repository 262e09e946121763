use Rattle.std.proofs.Common.{◌≡◌, get_or, sym, ap, ◌∙◌, refl, subst, arith, rules}
use Rattle.std.proofs.lemmas.List.{length-set}
use Rattle.std.proofs.lemmas.Option.{slice_get_read}
use Rattle.sn_node.specs.Waiting.{is_free}
use Rattle.sn_node.proofs.Waits.{none_set}
use Rattle.sn_node.proofs.queue.Queue.put.Goals as goal

pub invariant_of-self : goal.invariant_of-self
invariant_of-self c =
    let self = c.args.self.now in
    record {
      within = search (rules, arith, length-set);
      none_free = none_set is_free self.entries.items self.called c.args.p c.replace.new.dest (ap is_free c.replace.ensures.after ∙ c.requires.called) self.none_free;
    }

pub returns-clause-was : goal.returns-clause-was
returns-clause-was c = slice_get_read c.args.self.now.entries.items _ c.args.p c.replace.result refl c.requires.within (subst (λ w. w ≡ get_or c.args.self.now.entries.items c.args.p w) (sym c.replace.ensures.value) c.index_mut.ensures.value)
