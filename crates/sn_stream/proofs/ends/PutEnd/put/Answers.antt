use Rattle.std.proofs.Common.{ap, sym, subst, ◌++◌, ◌∷◌, [], map}
use Rattle.std.specs.Prelude.{Some}
use mathlib.Core.List.{IsPrefix}
use Rattle.crossbeam_queue.specs.Passes.{view}
use Rattle.sn_stream.specs.Flow.{Stated}
use Rattle.sn_stream.proofs.Entries.{as_stated}
use Rattle.sn_stream.proofs.Flowing.{puts, last_of}
use Rattle.sn_stream.proofs.ends.PutEnd.put.Goals as goal

pub push_as-requires-clause-rule : goal.push_as-requires-clause-rule
push_as-requires-clause-rule g c =
    let is = c.self.invariant.1 in
    let next : IsPrefix (map Some ((view c.self.inside.pass).moved ++ c.args.x ∷ [])) (view c.self.inside.pass).stated =
    subst (λ (l : Stated). IsPrefix (map Some ((view c.self.inside.pass).moved ++ c.args.x ∷ [])) l) (sym (ap (λ v. v.stated) is)) (as_stated _ _ (rw (← c.self.view_is) at c.requires.next)) in
    (puts _ _ _ _ (ap (λ v. v.puts) is) next, last_of _ _ (ap (λ v. v.puts) is))
