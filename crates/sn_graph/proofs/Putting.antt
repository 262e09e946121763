-- Nodes that are put behind others.
use Rattle.std.proofs.Common.{◌≡◌, ℕ, ◌+◌, ◌-◌, List, [], ◌∷◌, ◌++◌, map, length, drop, refl, sym, ap, subst, ◌∙◌, arith, append_assoc, append-nil, length-append}
use Rattle.std.proofs.lemmas.List.{map-append, length-map}
use Rattle.std.proofs.lemmas.List.Elements.{All-same, All-push}
use Rattle.sn_net.specs.declared.net.Merge.{Merge}
use Rattle.sn_model.specs.declared.run.Run.{Run}
use Rattle.sn_model.specs.declared.step.Step.{Step}
use Rattle.sn_model.specs.declared.step.Step.TheVariants as step
use Rattle.sn_view.specs.Parts.{Plan, branch_children, branch_nodes, choice_plan, dispatcher, own_child, serial_plan}
use Rattle.sn_view.specs.View.{Node, Target, ToChild, ToNode}
use Rattle.sn_node.specs.Seen.{node_of}
use Rattle.sn_node.specs.declared.node.Node.{Node as CodeNode}
use Rattle.sn_graph.specs.Grown.{IsOfRun, Leaves, Puts, next_of}
use Rattle.sn_graph.specs.declared.grow.NewNodes.{NewNodes}
use Rattle.sn_graph.proofs.Plans.{Long}

module _ (run : Run) where
  pub puts_one : (old : NewNodes) (nodes : List CodeNode) (n : CodeNode) → IsOfRun run n → nodes ≡ old.nodes.items ++ n ∷ []
      → (new : NewNodes) → new.base ≡ old.base → new.nodes.items ≡ nodes → Puts run (node_of n ∷ []) old new
  puts_one old nodes n of pushed new base is = record {
    base = base;
    nodes = ap (map node_of) (is ∙ pushed) ∙ map-append node_of old.nodes.items (n ∷ []);
    of = λ all. All-same (IsOfRun run) new.nodes.items (old.nodes.items ++ n ∷ []) (is ∙ pushed) (All-push (IsOfRun run) old.nodes.items n all of);
  }

  pub next_put : (more : List Node) (old new : NewNodes) → Puts run more old new → next_of new ≡ next_of old + length more
  next_put more old new puts =
      let long : length new.nodes.items ≡ length old.nodes.items + length more =
      sym (length-map new.nodes.items node_of) ∙ ap (λ (ns : List Node). length ns) puts.nodes ∙ length-append (map node_of old.nodes.items) more
      ∙ ap (λ n. n + length more) (length-map old.nodes.items node_of) in
      let base : new.base ≡ old.base = puts.base in
      omega (arith, long, base)

  pub puts_twice : (a b : List Node) (old mid new : NewNodes) → Puts run a old mid → Puts run b mid new → Puts run (a ++ b) old new
  puts_twice a b old mid new first second = record {
    base = second.base ∙ first.base;
    nodes = second.nodes ∙ ap (λ ns. ns ++ b) first.nodes ∙ append_assoc (map node_of old.nodes.items) a b;
    of = λ all. second.of (first.of all);
  }

  pub serial_puts : (old mid new : NewNodes) (l r : Plan) (steps : List Step) (path : List ℕ) (goes : Target) (at : ℕ) → Long l → at ≡ next_of old + l.width
      → Puts run (l.nodes (steps ++ step.Left ∷ []) (path ++ 0 ∷ []) (ToNode at) (next_of old)) old mid
      → Puts run (r.nodes (steps ++ step.Right ∷ []) (path ++ 1 ∷ []) goes (next_of mid)) mid new
      → Puts run ((serial_plan l r).nodes steps path goes (next_of old)) old new
  serial_puts old mid new l r steps path goes at long is first second =
      let ls : ℕ → List Node = λ n. l.nodes (steps ++ step.Left ∷ []) (path ++ 0 ∷ []) (ToNode n) (next_of old) in
      let rs : ℕ → List Node = λ n. r.nodes (steps ++ step.Right ∷ []) (path ++ 1 ∷ []) goes n in
      let behind : next_of mid ≡ next_of old + l.width =
      next_put (ls at) old mid first ∙ ap (λ n. next_of old + n) (long (steps ++ step.Left ∷ []) (path ++ 0 ∷ []) (ToNode at) (next_of old)) in
      subst (λ (ns : List Node). Puts run ns old new) (ap (λ n. ls n ++ rs (next_of mid)) is ∙ ap (λ n. ls (next_of old + l.width) ++ rs n) behind)
      (puts_twice (ls at) (rs (next_of mid)) old mid new first second)

  -- the nodes of one more branch
  pub branch_puts : (start old new : NewNodes) (p : Plan) (ps : List Plan) (node i : ℕ) (steps : List Step) (path : List ℕ) (all : List Node) → Long p
      → drop i ps ≡ p ∷ drop (i + 1) ps
      → Puts run (p.nodes (steps ++ step.Branch i ∷ []) (path ++ i ∷ []) (ToChild node (i + 1)) (next_of old)) old new
      → Leaves run (branch_nodes node i (next_of old) steps path (drop i ps)) all start old
      → Leaves run (branch_nodes node (i + 1) (next_of new) steps path (drop (i + 1) ps)) all start new
  branch_puts start old new p ps node i steps path all long dropped puts so_far =
      let own : List Node = p.nodes (steps ++ step.Branch i ∷ []) (path ++ i ∷ []) (ToChild node (i + 1)) (next_of old) in
      let others : List Plan = drop (i + 1) ps in
      let behind : next_of new ≡ next_of old + p.width =
      next_put own old new puts ∙ ap (λ n. next_of old + n) (long (steps ++ step.Branch i ∷ []) (path ++ i ∷ []) (ToChild node (i + 1)) (next_of old)) in
      record {
        base = puts.base ∙ so_far.base;
        nodes =
            ap (λ ns. ns ++ branch_nodes node (i + 1) (next_of new) steps path others) puts.nodes
            ∙ append_assoc (map node_of old.nodes.items) own (branch_nodes node (i + 1) (next_of new) steps path others)
            ∙ ap (λ n. map node_of old.nodes.items ++ (own ++ branch_nodes node (i + 1) n steps path others)) behind
            ∙ sym (ap (λ qs. map node_of old.nodes.items ++ branch_nodes node i (next_of old) steps path qs) dropped)
            ∙ so_far.nodes;
        of = λ made. puts.of (so_far.of made);
      }

  -- nothing is left to be put
  pub leaves_none : (rest all : List Node) (old new : NewNodes) → rest ≡ [] → Leaves run rest all old new → Puts run all old new
  leaves_none rest all old new none leaves = record {
    base = leaves.base;
    nodes = sym (ap (λ ns. map node_of new.nodes.items ++ ns) none ∙ append-nil (map node_of new.nodes.items)) ∙ leaves.nodes;
    of = leaves.of;
  }

  pub leaves_all : (all : List Node) (old : NewNodes) → Leaves run all all old old
  leaves_all all old = record { base = refl; nodes = refl; of = λ made. made }

  -- all branches of a choice have their nodes
  pub choice_puts : (old after new : NewNodes) (merge : Merge) (ps : List Plan) (steps : List Step) (path : List ℕ) (goes : Target) (node : ℕ) → node ≡ next_of old
      → Puts run (dispatcher merge 0 (own_child (next_of old) ∷ branch_children 0 (next_of old + 1) ps) steps path goes ∷ []) old after
      → Puts run (branch_nodes node 0 (next_of after) steps path ps) after new
      → Puts run ((choice_plan merge ps).nodes steps path goes (next_of old)) old new
  choice_puts old after new merge ps steps path goes node at first branches =
      let fork : Node = dispatcher merge 0 (own_child (next_of old) ∷ branch_children 0 (next_of old + 1) ps) steps path goes in
      subst (λ (ns : List Node). Puts run ns old new)
      (ap (λ n. fork ∷ branch_nodes node 0 n steps path ps) (next_put (fork ∷ []) old after first)
      ∙ ap (λ n. fork ∷ branch_nodes n 0 (next_of old + 1) steps path ps) at)
      (puts_twice (fork ∷ []) (branch_nodes node 0 (next_of after) steps path ps) old after new first branches)

  -- a replica of a star's body, and the level behind it
  pub level_puts : (old mid new : NewNodes) (p : Plan) (merge : Merge) (left : ℕ) (steps : List Step) (path : List ℕ) (goes : Target) (at : ℕ) → Long p → at ≡ next_of old + p.width
      → Puts run (p.nodes (steps ++ step.Inside ∷ step.Left ∷ []) (path ++ 0 ∷ []) (ToNode at) (next_of old)) old mid
      → Puts run (dispatcher merge (left - 1) (own_child (next_of mid) ∷ []) (steps ++ step.Inside ∷ step.Right ∷ []) path goes ∷ []) mid new
      → Puts run (p.nodes (steps ++ step.Inside ∷ step.Left ∷ []) (path ++ 0 ∷ []) (ToNode (next_of old + p.width)) (next_of old)
      ++ dispatcher merge (left - 1) (own_child (next_of old + p.width) ∷ []) (steps ++ step.Inside ∷ step.Right ∷ []) path goes ∷ []) old new
  level_puts old mid new p merge left steps path goes at long is first second =
      let body : ℕ → List Node = λ n. p.nodes (steps ++ step.Inside ∷ step.Left ∷ []) (path ++ 0 ∷ []) (ToNode n) (next_of old) in
      let fork : ℕ → Node = λ n. dispatcher merge (left - 1) (own_child n ∷ []) (steps ++ step.Inside ∷ step.Right ∷ []) path goes in
      let behind : next_of mid ≡ next_of old + p.width =
      next_put (body at) old mid first ∙ ap (λ n. next_of old + n) (long (steps ++ step.Inside ∷ step.Left ∷ []) (path ++ 0 ∷ []) (ToNode at) (next_of old)) in
      subst (λ (ns : List Node). Puts run ns old new)
      (ap (λ n. body n ++ fork (next_of mid) ∷ []) is ∙ ap (λ n. body (next_of old + p.width) ++ fork n ∷ []) behind)
      (puts_twice (body at) (fork (next_of mid) ∷ []) old mid new first second)
