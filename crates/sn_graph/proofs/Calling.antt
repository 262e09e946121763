-- Where the call of a job is in flight.
use Rattle.std.proofs.Common.{◌≡◌, ℕ, ◌<◌, ◌≤◌, true, false, length, get_or, refl, sym, ap, subst, ◌∙◌, true≢false}
use Rattle.std.specs.Prelude.{slice_get, IfNone, IfSome, Option, Some, None}
use Rattle.std.specs.List.{Any}
use Rattle.std.proofs.lemmas.Option.{IfSome_then, none-some, same_Some, slice_get_read}
use Rattle.sn_model.specs.declared.run.Run.{Run}
use Rattle.sn_model.specs.Run.{net_of}
use Rattle.sn_boxrun.specs.declared.job.Job.{Job}
use Rattle.sn_view.specs.View as view
use Rattle.sn_view.specs.View.{InFlight, View}
use Rattle.sn_view.specs.Next.{HasCall, IsCall, IsEnabled, form_of, is_box_of}
use Rattle.sn_node.specs.Answered.{form_at}
use Rattle.sn_node.specs.Seen.{node_of}
use Rattle.sn_node.specs.declared.node.Node.{Node}
use Rattle.sn_graph.specs.Arena.{view_of}
use Rattle.sn_graph.specs.Started.{IsCallAt, finish_of}
use Rattle.sn_graph.specs.Tabled.{IsTabled, place_node}
use Rattle.sn_graph.specs.declared.arena.Arena.{Arena}
use Rattle.sn_graph.proofs.Changes.{seen_get, seen_none}

module _ (arena : Arena) (run : Run) (made : arena.run.value ≡ run) (job : Job) where
  -- at node i
  module _ (i : ℕ) (a : Node) (within : i < length arena.nodes.items) (read : a ≡ get_or arena.nodes.items i a) where
    pub seen : slice_get (view_of arena).nodes i ≡ Some (node_of a)
    seen = seen_get node_of arena.nodes.items i a within read

    pub form_seen : form_of (view_of arena) (node_of a) ≡ form_at (net_of run) a.made.path
    form_seen = ap (λ r. form_at (net_of r) a.made.path) made

    pub flies_there : (result : Option ℕ) → is_box_of job.number job.place (form_at (net_of run) a.made.path) ≡ true
        → IfSome result (λ p. slice_get (node_of a).waiting p ≡ Some (InFlight job.call job.given)) → IfSome result (λ p. IsCallAt i p job (view_of arena))
    flies_there result is found = IfSome_then result found (λ p flies. record { node = node_of a; there = seen; flies = flies; at_box = ap (is_box_of job.number job.place) form_seen ∙ is })

    -- another box
    pub none_of_another : is_box_of job.number job.place (form_at (net_of run) a.made.path) ≡ false → (n : view.Node) → slice_get (view_of arena).nodes i ≡ Some n
        → HasCall (view_of arena) job.call job.number job.place job.given n → ⊥
    none_of_another is n there call =
        let same : node_of a ≡ n = same_Some (node_of a) n (sym seen ∙ there) in
        true≢false (sym call.at_box ∙ ap (λ (m : view.Node). is_box_of job.number job.place (form_of (view_of arena) m)) (sym same) ∙ ap (is_box_of job.number job.place) form_seen ∙ is)

    -- no such call
    pub none_flies_there : (result : Option ℕ) → IfNone result (Any (IsCall job.call job.given) (node_of a).waiting → ⊥)
        → IfNone result ((n : view.Node) → slice_get (view_of arena).nodes i ≡ Some n → HasCall (view_of arena) job.call job.number job.place job.given n → ⊥)
    none_flies_there (Some p) none = tt
    none_flies_there None none = λ n there call.
        none (subst (λ (m : view.Node). Any (IsCall job.call job.given) m.waiting) (sym (same_Some (node_of a) n (sym seen ∙ there))) call.flies)

  pub none_past : (i : ℕ) → length arena.nodes.items ≤ i → (n : view.Node) → slice_get (view_of arena).nodes i ≡ Some n → HasCall (view_of arena) job.call job.number job.place job.given n → ⊥
  none_past i past n there call = none-some n (sym (seen_none node_of arena.nodes.items i past) ∙ there)

  -- where it is wanted, the table tells the node
  module _ (tabled : IsTabled arena) where
    pub wanted_at : (o : Option ℕ) → place_node arena job.call ≡ o → IsEnabled (view_of arena) (finish_of job)
        → (i : ℕ) × (n : view.Node) × (o ≡ Some i) × (slice_get (view_of arena).nodes i ≡ Some n) × HasCall (view_of arena) job.call job.number job.place job.given n
    wanted_at o is (i, n, within, read, call) =
        let there : slice_get (view_of arena).nodes i ≡ Some n = slice_get_read (view_of arena).nodes (length (view_of arena).nodes) i n refl within (sym read) in
        (i, n, sym is ∙ tabled.found i job.call job.given (record { node = n; there = there; flies = call.flies }), there, call)

    pub unwanted : place_node arena job.call ≡ None → IsEnabled (view_of arena) (finish_of job) → ⊥
    unwanted is wanted = let (i, n, told, there, call) = wanted_at None is wanted in none-some i told

    pub unwanted_at : (i : ℕ) → place_node arena job.call ≡ Some i
        → ((n : view.Node) → slice_get (view_of arena).nodes i ≡ Some n → HasCall (view_of arena) job.call job.number job.place job.given n → ⊥)
        → IsEnabled (view_of arena) (finish_of job) → ⊥
    unwanted_at i is none wanted =
        let (j, n, told, there, call) = wanted_at (Some i) is wanted in
        none n (ap (slice_get (view_of arena).nodes) (same_Some i j told) ∙ there) call
