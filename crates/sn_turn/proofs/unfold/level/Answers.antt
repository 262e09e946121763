use Rattle.std.proofs.Common.{◌≡◌, ◌-◌, ℕ, List, [], ◌∷◌, ◌++◌, map, true, arith, ap, sym, subst, ◌∙◌}
use Rattle.std.specs.Prelude.{Some}
use Rattle.sn_model.specs.declared.run.Run.{Run}
use Rattle.sn_model.specs.declared.step.Step.{Step}
use Rattle.sn_model.specs.declared.step.Step.TheVariants as step
use Rattle.sn_net.specs.declared.net.Net.TheVariants as form
use Rattle.sn_net_histories.specs.Histories.{history, leads_somewhere}
use Rattle.sn_net_histories.specs.Places.{tree_step}
use Rattle.sn_histories.specs.Histories.{Out}
use Rattle.sn_view.specs.Parts.{part_at}
use Rattle.sn_component.specs.Facts.{history_for}
use Rattle.sn_fork.specs.Facts.{ForksAt}
use Rattle.sn_fork.specs.Fork.{child_seen}
use Rattle.sn_fork.specs.Seen.{Forking}
use Rattle.sn_fork.specs.declared.fork.Child.{Child}
use Rattle.sn_stream.specs.Ends.{End}
use Rattle.sn_turn.specs.Places.{AreNewAt, LeadTo, new_fork}
use Rattle.sn_turn.proofs.Onward.{body_ends, body_leads, inside_leads, level_forks}
use Rattle.sn_turn.proofs.Parts.{leads}
use Rattle.sn_turn.proofs.unfold.level.Goals as goal

pub ways-requires : goal.ways-requires
ways-requires c =
    let f : Forking = c.args.fork.now in
    let star = c.requires.part in
    let there : part_at f.run.net f.path ≡ Some (form.Star star.0 star.1 c.args.body.now star.2 star.3) = ap (λ (r : Run). part_at r.net f.path) (sym c.requires.run) ∙ star.4 in
    let inside : c.in_ok-inside.inside ≡ f.steps ++ step.Inside ∷ [] = c.in_ok-inside.ensures ∙ ap (λ (ss : List Step). ss ++ step.Inside ∷ []) (c.in_ok-share.ensures ∙ c.requires.steps) in
    subst (λ (r : Run). leads_somewhere r.depth r.net (map tree_step c.in_ok-inside.inside) ≡ true) (sym c.requires.run) (inside_leads f c.requires.stands star.0 star.1 c.args.body.now star.2 star.3 c.requires.left.0 there c.requires.left.1 c.in_ok-inside.inside inside)

pub stream-requires-clause-leads : goal.stream-requires-clause-leads
stream-requires-clause-leads c =
    let f : Forking = c.args.fork.now in
    let star = c.requires.part in
    let there : part_at f.run.net f.path ≡ Some (form.Star star.0 star.1 c.args.body.now star.2 star.3) = ap (λ (r : Run). part_at r.net f.path) (sym c.requires.run) ∙ star.4 in
    let inside : c.in_ok-inside.inside ≡ f.steps ++ step.Inside ∷ [] = c.in_ok-inside.ensures ∙ ap (λ (ss : List Step). ss ++ step.Inside ∷ []) (c.in_ok-share.ensures ∙ c.requires.steps) in
    leads c.args.run.now.value c.args.body.now c.in_ok-first.first.path c.in_ok-first.first.steps
    (subst (λ (r : Run). LeadTo r c.args.body.now c.in_ok-first.first.path c.in_ok-first.first.steps) (sym c.requires.run)
    (body_leads f c.requires.stands star.0 star.1 c.args.body.now star.2 star.3 c.requires.left.0 there c.requires.left.1 c.in_ok-inside.inside inside c.in_ok-first.first.path c.in_ok-first.first.steps
    (c.in_ok-first.ensures.path ∙ ap (λ (p : List ℕ). p ++ 0 ∷ []) c.path.ensures) c.in_ok-first.ensures.steps))

pub grow-requires-clause-part : goal.grow-requires-clause-part
grow-requires-clause-part c =
    let f : Forking = c.args.fork.now in
    let star = c.requires.part in
    let there : part_at f.run.net f.path ≡ Some (form.Star star.0 star.1 c.args.body.now star.2 star.3) = ap (λ (r : Run). part_at r.net f.path) (sym c.requires.run) ∙ star.4 in
    let inside : c.in_ok-inside.inside ≡ f.steps ++ step.Inside ∷ [] = c.in_ok-inside.ensures ∙ ap (λ (ss : List Step). ss ++ step.Inside ∷ []) (c.in_ok-share.ensures ∙ c.requires.steps) in
    subst (λ (r : Run). LeadTo r c.args.body.now c.in_ok-first.first.path c.in_ok-first.first.steps) (sym c.requires.run)
    (body_leads f c.requires.stands star.0 star.1 c.args.body.now star.2 star.3 c.requires.left.0 there c.requires.left.1 c.in_ok-inside.inside inside c.in_ok-first.first.path c.in_ok-first.first.steps
    (c.in_ok-first.ensures.path ∙ ap (λ (p : List ℕ). p ++ 0 ∷ []) c.path.ensures) c.in_ok-first.ensures.steps)

pub grow-requires-clause-ends : goal.grow-requires-clause-ends
grow-requires-clause-ends c =
    let f : Forking = c.args.fork.now in
    let star = c.requires.part in
    let there : part_at f.run.net f.path ≡ Some (form.Star star.0 star.1 c.args.body.now star.2 star.3) = ap (λ (r : Run). part_at r.net f.path) (sym c.requires.run) ∙ star.4 in
    let inside : c.in_ok-inside.inside ≡ f.steps ++ step.Inside ∷ [] = c.in_ok-inside.ensures ∙ ap (λ (ss : List Step). ss ++ step.Inside ∷ []) (c.in_ok-share.ensures ∙ c.requires.steps) in
    subst (λ (r : Run). AreNewAt r c.in_ok-first.first.steps c.in_ok-made.made.input c.in_ok-put.put) (sym c.requires.run)
    (body_ends f c.requires.stands star.0 star.1 c.args.body.now star.2 star.3 c.requires.left.0 there c.requires.left.1 c.in_ok-inside.inside inside c.in_ok-first.first.steps c.in_ok-made.made.input c.in_ok-made.made.output c.in_ok-put.put
    (subst (λ (r : Run). AreNewAt r c.in_ok-inside.inside c.in_ok-made.made.input c.in_ok-made.made.output) c.requires.run c.in_ok-made.ensures.ends) c.in_ok-first.ensures.steps
    (subst (λ (r : Run). history_for c.in_ok-put.put.made ≡ history r (map tree_step c.in_ok-first.first.steps) Out) c.requires.run c.in_ok-put.ensures.passes) c.in_ok-put.ensures.put)

pub push_fork-requires-clause-stands : goal.push_fork-requires-clause-stands
push_fork-requires-clause-stands c =
    let f : Forking = c.args.fork.now in
    let star = c.requires.part in
    let there : part_at f.run.net f.path ≡ Some (form.Star star.0 star.1 c.args.body.now star.2 star.3) = ap (λ (r : Run). part_at r.net f.path) (sym c.requires.run) ∙ star.4 in
    let inside : c.in_ok-inside.inside ≡ f.steps ++ step.Inside ∷ [] = c.in_ok-inside.ensures ∙ ap (λ (ss : List Step). ss ++ step.Inside ∷ []) (c.in_ok-share.ensures ∙ c.requires.steps) in
    let fewer : c.left.result - 1 ≡ c.requires.left.0 = omega (arith, c.left.ensures, c.requires.left.1) in
    subst (λ (cs : List Child). ForksAt (new_fork c.args.run.now.value c.in_ok-next.next.path (c.left.result - 1) c.in_ok-next.next.steps c.in_ok-put.get (map child_seen cs) c.in_ok-made.made.output))
    (sym c.new-2.ensures.items)
    (subst (λ (r : Run). ForksAt (new_fork r c.in_ok-next.next.path (c.left.result - 1) c.in_ok-next.next.steps c.in_ok-put.get [] c.in_ok-made.made.output)) (sym c.requires.run)
    (level_forks f c.requires.stands star.0 star.1 c.args.body.now star.2 star.3 c.requires.left.0 there c.requires.left.1 c.in_ok-inside.inside inside c.in_ok-first.first.steps c.in_ok-next.next.steps c.in_ok-next.next.path (c.left.result - 1) c.in_ok-made.made.input c.in_ok-made.made.output c.in_ok-put.get
    (subst (λ (r : Run). AreNewAt r c.in_ok-inside.inside c.in_ok-made.made.input c.in_ok-made.made.output) c.requires.run c.in_ok-made.ensures.ends)
    (c.in_ok-next.ensures.path ∙ c.path-2.ensures) fewer c.in_ok-first.ensures.steps (c.in_ok-next.ensures.steps ∙ c.in_ok-further.ensures)
    (ap (λ (e : End). history_for e.made) c.in_ok-put.ensures.get
    ∙ subst (λ (r : Run). history_for c.in_ok-put.put.made ≡ history r (map tree_step c.in_ok-first.first.steps) Out) c.requires.run c.in_ok-put.ensures.passes)
    (ap (λ (e : End). e.moved) c.in_ok-put.ensures.get ∙ c.in_ok-put.ensures.put)))
