use Rattle.std.proofs.Common.{rules, ◌≡◌, refl, subst}
use Rattle.std.proofs.lemmas.List.Elements.{All-more}
use Rattle.std.proofs.lemmas.List.{take_all}
use Rattle.std.proofs.lemmas.Option.{slice_get_read}
use Rattle.std.specs.List.{All}
use Rattle.sn_fork.specs.declared.fork.Child.{Child}
use Rattle.sn_fork.proofs.children.find.Goals as goal

pub returns-then-eq-clause-some : goal.returns-then-eq-clause-some
returns-then-eq-clause-some c =
    let same : c.index-children-likely.result.key ≡ c.args.key = search rules in
    (c.index-children-likely.result, slice_get_read c.args.children.now _ c.args.likely c.index-children-likely.result refl c.if-likely-children.true c.index-children-likely.is, same)

pub returns-then-eq-2-clause-some : goal.returns-then-eq-2-clause-some
returns-then-eq-2-clause-some c =
    let same : c.index-children-c.result.key ≡ c.args.key = search rules in
    (c.index-children-c.result, slice_get_read c.args.children.now _ c.loop-c.c c.index-children-c.result refl c.loop-c-test.true c.index-children-c.is, same)

pub loop-c-preserved : goal.loop-c-preserved
loop-c-preserved c =
    let other : c.index-children-c.result.key ≡ c.args.key → ⊥ = search rules in record {
      none = All-more (λ (child : Child). child.key ≡ c.args.key → ⊥) c.args.children.now c.loop-c.c c.index-children-c.result c.loop-c-test.true c.loop-c.invariant.none
          (subst (λ (child : Child). child.key ≡ c.args.key → ⊥) c.index-children-c.is other);
    }

pub returns-clause-none : goal.returns-clause-none
returns-clause-none c = λ none.
    subst (All (λ (child : Child). child.key ≡ c.args.key → ⊥)) (take_all c.loop-c.c c.args.children.now c.loop-c-test.false) c.loop-c.invariant.none
