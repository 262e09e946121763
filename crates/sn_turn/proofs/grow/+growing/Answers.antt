use Rattle.std.proofs.Common.{◌≡◌, List, ◌∷◌, ◌++◌, [], map, arith, rules, sym, ap, subst, ◌∙◌}
use Rattle.std.proofs.Math.Nat.{le-max_left, le-max_right}
use Rattle.std.proofs.lemmas.List.{map-append}
use Rattle.sn_net.proofs.net.Net.TheLaws.{the_size}
use Rattle.sn_net.specs.declared.net.Net.TheViews.{the_lemmas}
use Rattle.sn_model.specs.declared.step.Step.TheVariants as step
use Rattle.sn_component.specs.Facts.{history_for}
use Rattle.sn_fork.specs.Facts.{ForksAt}
use Rattle.sn_fork.specs.Fork.{child_seen}
use Rattle.sn_fork.specs.declared.fork.Child.{Child}
use Rattle.sn_stream.specs.Ends.{End}
use Rattle.sn_turn.specs.Places.{new_fork}
use Rattle.sn_turn.proofs.Nodes.{grown_branch, grown_choice, grown_serial}
use Rattle.sn_turn.proofs.Parts.{ends_left, ends_right, got_at, ok_give, lead_branch, lead_left, lead_right, leads, led}
use Rattle.sn_turn.proofs.Making.{all_branches, few_branches, forks_choice, forks_split, forks_star, fresh_box, fresh_filter, fresh_sync, one_more}
use Rattle.sn_turn.proofs.grow.+growing.Goals as goal

pub grow-push_component-requires : goal.grow-push_component-requires
grow-push_component-requires t c =
    fresh_box c.args.run.now.value c.args.spot.now.path c.args.spot.now.steps c.args.input c.args.output c.requires.ends c.args.net.now c.in-Box.place c.in-Box.number c.in-Box.is c.requires.part

pub grow-push_component-requires-in-Filter : goal.grow-push_component-requires-in-Filter
grow-push_component-requires-in-Filter t c =
    fresh_filter c.args.run.now.value c.args.spot.now.path c.args.spot.now.steps c.args.input c.args.output c.requires.ends c.args.net.now c.in-Filter.field-0 c.in-Filter.is c.requires.part

pub grow-push_component-requires-in-Sync : goal.grow-push_component-requires-in-Sync
grow-push_component-requires-in-Sync t c =
    fresh_sync c.args.run.now.value c.args.spot.now.path c.args.spot.now.steps c.args.input c.args.output c.requires.ends c.args.net.now c.in-Sync.place c.in-Sync.patterns
    c.as_slice.result.now c.in_ok-holding-in-Sync.holding c.in-Sync.is c.as_slice.ensures c.in_ok-holding-in-Sync.ensures c.requires.part

pub grow-push_fork-requires-clause-stands : goal.grow-push_fork-requires-clause-stands
grow-push_fork-requires-clause-stands t c =
    let all : c.depth.result ≡ c.args.run.now.value.depth = search rules in
    subst (λ (cs : List Child). ForksAt (new_fork c.args.run.now.value c.args.spot.now.path c.depth.result c.args.spot.now.steps c.args.input (map child_seen cs) c.args.output))
    (sym c.new-in-Star.ensures.items)
    (forks_star c.args.run.now.value c.args.spot.now.path c.args.spot.now.steps c.args.input c.args.output c.requires.ends c.args.net.now
    c.in-Star.place c.in-Star.merge c.in-Star.body c.in-Star.exit c.in-Star.guard c.depth.result c.in-Star.is all c.requires.part)

pub grow-push_fork-requires-in-Split-clause-stands : goal.grow-push_fork-requires-in-Split-clause-stands
grow-push_fork-requires-in-Split-clause-stands t c =
    subst (λ (cs : List Child). ForksAt (new_fork c.args.run.now.value c.args.spot.now.path c.depth-in-Split.result c.args.spot.now.steps c.args.input (map child_seen cs) c.args.output))
    (sym c.new-in-Split.ensures.items)
    (forks_split c.args.run.now.value c.args.spot.now.path c.args.spot.now.steps c.args.input c.args.output c.requires.ends c.args.net.now
    c.in-Split.place c.in-Split.merge c.in-Split.body c.in-Split.tag c.depth-in-Split.result c.in-Split.is c.requires.part)

pub grow_choice-overflow_cast-i : goal.grow_choice-overflow_cast-i
grow_choice-overflow_cast-i t c =
    let few = few_branches c.args.run.now.value c.args.spot.now.path c.args.spot.now.steps c.requires.part.0 c.requires.part.1 c.args.branches.now c.requires.part.2 c.requires.part.3 in
    search (arith, rules, few, c.loop-i-test.true)

pub grow_choice-overflow_cast-i-in-loop-i : goal.grow_choice-overflow_cast-i-in-loop-i
grow_choice-overflow_cast-i-in-loop-i t c =
    let few = few_branches c.args.run.now.value c.args.spot.now.path c.args.spot.now.steps c.requires.part.0 c.requires.part.1 c.args.branches.now c.requires.part.2 c.requires.part.3 in
    search (arith, rules, few, c.loop-i-test.true)

pub grow_choice-overflow_cast-i-in-loop-i-2 : goal.grow_choice-overflow_cast-i-in-loop-i-2
grow_choice-overflow_cast-i-in-loop-i-2 t c =
    let few = few_branches c.args.run.now.value c.args.spot.now.path c.args.spot.now.steps c.requires.part.0 c.requires.part.1 c.args.branches.now c.requires.part.2 c.requires.part.3 in
    search (arith, rules, few, c.loop-i-test.true)

pub grow_choice-ways-requires : goal.grow_choice-ways-requires
grow_choice-ways-requires t c =
    let run = c.args.run.now.value in
    let branch = c.index-branches-i.result in
    let i = c.loop-i.i in
    leads run branch c.in_ok-below.below.path c.in_ok-below.below.steps
    (led run branch (c.args.spot.now.path ++ i ∷ []) c.in_ok-below.below.path (c.args.spot.now.steps ++ step.Branch i ∷ []) c.in_ok-below.below.steps c.in_ok-below.ensures.path c.in_ok-below.ensures.steps
    (lead_branch run c.requires.part.0 c.requires.part.1 c.args.branches.now c.requires.part.2 i branch c.args.spot.now.path c.args.spot.now.steps
    (got_at c.args.branches.now i branch c.loop-i-test.true c.index-branches-i.is) c.requires.part.3))

pub grow_choice-grow-requires : goal.grow_choice-grow-requires
grow_choice-grow-requires t c =
    let run = c.args.run.now.value in
    let branch = c.index-branches-i.result in
    let i = c.loop-i.i in (
      search (rules, the_lemmas),
      (
        led run branch (c.args.spot.now.path ++ i ∷ []) c.in_ok-below.below.path (c.args.spot.now.steps ++ step.Branch i ∷ []) c.in_ok-below.below.steps c.in_ok-below.ensures.path c.in_ok-below.ensures.steps
            (lead_branch run c.requires.part.0 c.requires.part.1 c.args.branches.now c.requires.part.2 i branch c.args.spot.now.path c.args.spot.now.steps
            (got_at c.args.branches.now i branch c.loop-i-test.true c.index-branches-i.is) c.requires.part.3),
        c.in_ok-made.ensures.ends,
      ),
    )

pub grow_choice-loop-i-preserved : goal.grow_choice-loop-i-preserved
grow_choice-loop-i-preserved t c = record {
  children = one_more c.args.run.now.value c.args.spot.now.steps c.in_ok-below.below.steps c.loop-i.i (map child_seen c.loop-i.children.items) (map child_seen c.push.new.self.items)
      (child_seen c.in_ok-made.made.child) c.in_ok-below.ensures.steps
      (ap (map child_seen) c.in_ok-push.ensures.items ∙ map-append child_seen c.loop-i.children.items (c.in_ok-made.made.child ∷ []))
      c.in_ok-made.ensures.child c.loop-i.invariant.children;
  nodes =
      let i = c.loop-i.i in
      let branch = c.index-branches-i.result in
      grown_branch c.args.nodes.now.items c.loop-i.nodes.items c.grow.new.nodes.items c.args.branches.now i branch c.args.spot.now.path c.in_ok-below.below.path
      (got_at c.args.branches.now i branch c.loop-i-test.true c.index-branches-i.is) c.in_ok-below.ensures.path c.loop-i.invariant.nodes c.in_ok-grow.ensures;
}

pub grow_choice-push_fork-requires-clause-stands : goal.grow_choice-push_fork-requires-clause-stands
grow_choice-push_fork-requires-clause-stands t c =
    forks_choice c.args.run.now.value c.args.spot.now.path c.args.spot.now.steps c.args.input c.args.output c.requires.ends
    c.requires.part.0 c.requires.part.1 c.args.branches.now c.requires.part.2 0 (map child_seen c.loop-i.children.items) c.requires.part.3
    c.loop-i.invariant.children.there c.loop-i.invariant.children.apart
    (all_branches c.args.run.now.value c.args.spot.now.steps c.requires.part.0 c.requires.part.1 c.args.branches.now c.requires.part.2 c.loop-i.i (map child_seen c.loop-i.children.items)
    c.loop-i-test.false c.loop-i.invariant.children)

pub grow_choice-returns : goal.grow_choice-returns
grow_choice-returns t c =
    ok_give c.push_fork.result
    (grown_choice c.args.nodes.now.items c.loop-i.nodes.items c.push_fork.new.nodes.items c.args.branches.now c.loop-i.i c.args.spot.now.path c.loop-i-test.false c.loop-i.invariant.nodes)
    c.push_fork.ensures

pub grow_series-returns : goal.grow_series-returns
grow_series-returns t c =
    ok_give c.grow-2.result
    (grown_serial c.args.nodes.now.items c.grow.new.nodes.items c.grow-2.new.nodes.items c.args.left.now c.args.right.now c.args.spot.now.path c.in_ok-first.first.path c.in_ok-second.second.path
    c.in_ok-first.ensures.path c.in_ok-second.ensures.path c.in_ok-grow.ensures)
    c.grow-2.ensures

pub grow_series-stream-requires-clause-leads : goal.grow_series-stream-requires-clause-leads
grow_series-stream-requires-clause-leads t c =
    let run = c.args.run.now.value in
    leads run c.args.left.now c.in_ok-first.first.path c.in_ok-first.first.steps
    (led run c.args.left.now (c.args.spot.now.path ++ 0 ∷ []) c.in_ok-first.first.path (c.args.spot.now.steps ++ step.Left ∷ []) c.in_ok-first.first.steps
    c.in_ok-first.ensures.path c.in_ok-first.ensures.steps (lead_left run c.args.left.now c.args.right.now c.args.spot.now.path c.args.spot.now.steps c.requires.part))

pub grow_series-grow-requires : goal.grow_series-grow-requires
grow_series-grow-requires t c =
    let run = c.args.run.now.value in (
      omega (arith, le-max_left (the_size c.args.left.now) (the_size c.args.right.now)),
      (
        led run c.args.left.now (c.args.spot.now.path ++ 0 ∷ []) c.in_ok-first.first.path (c.args.spot.now.steps ++ step.Left ∷ []) c.in_ok-first.first.steps
            c.in_ok-first.ensures.path c.in_ok-first.ensures.steps (lead_left run c.args.left.now c.args.right.now c.args.spot.now.path c.args.spot.now.steps c.requires.part),
        ends_left run c.args.left.now c.args.right.now c.args.spot.now.path c.args.spot.now.steps c.in_ok-first.first.steps c.args.input c.args.output c.in_ok-put.put
            c.requires.part c.requires.ends c.in_ok-first.ensures.steps c.in_ok-put.ensures.passes c.in_ok-put.ensures.put,
      ),
    )

pub grow_series-grow-requires-2 : goal.grow_series-grow-requires-2
grow_series-grow-requires-2 t c =
    let run = c.args.run.now.value in (
      omega (arith, le-max_right (the_size c.args.left.now) (the_size c.args.right.now)),
      (
        led run c.args.right.now (c.args.spot.now.path ++ 1 ∷ []) c.in_ok-second.second.path (c.args.spot.now.steps ++ step.Right ∷ []) c.in_ok-second.second.steps
            c.in_ok-second.ensures.path c.in_ok-second.ensures.steps (lead_right run c.args.left.now c.args.right.now c.args.spot.now.path c.args.spot.now.steps c.requires.part),
        ends_right run c.args.left.now c.args.right.now c.args.spot.now.path c.args.spot.now.steps c.in_ok-first.first.steps c.in_ok-second.second.steps c.args.input c.args.output c.in_ok-put.get
            c.requires.part c.requires.ends c.in_ok-first.ensures.steps c.in_ok-second.ensures.steps
            (ap (λ (e : End). history_for e.made) c.in_ok-put.ensures.get ∙ c.in_ok-put.ensures.passes) (ap (λ (e : End). e.moved) c.in_ok-put.ensures.get ∙ c.in_ok-put.ensures.put),
      ),
    )
