-- Plans are as long as they are wide.
use Rattle.std.proofs.Common.{◌≡◌, ℕ, ◌+◌, List, [], ◌∷◌, ◌++◌, map, length, sum, refl, sym, ap, subst, ◌∙◌, arith, length-append}
use Rattle.std.proofs.lemmas.List.Sums.{sum_by-cons}
use Rattle.sn_net.specs.declared.net.Net.{Net}
use Rattle.sn_net.specs.declared.net.Net.TheOpen.{Net-F}
use Rattle.sn_net.specs.declared.net.Net.TheFolds.{fold-roll-Net, ind-Net, map-Net}
use Rattle.sn_net.specs.declared.net.Net.TheViews.{roll-Net}
use Rattle.sn_model.specs.declared.step.Step.{Step}
use Rattle.sn_model.specs.declared.step.Step.TheVariants as step
use Rattle.sn_view.specs.View.{Target, ToChild}
use Rattle.sn_view.specs.Parts.{Plan, plan, plan_step, branch_nodes, serial_plan}

abbrev pub Long : Plan → Type 0
Long p = (steps : List Step) (path : List ℕ) (goes : Target) (base : ℕ) → length (p.nodes steps path goes base) ≡ p.width

serial_long : (l r : Plan) → Long l → Long r → Long (serial_plan l r)
serial_long l r long_l long_r steps path goes base =
    length-append (l.nodes _ _ _ base) (r.nodes _ _ goes _)
    ∙ ap (λ n. n + length (r.nodes (steps ++ step.Right ∷ []) (path ++ 1 ∷ []) goes (base + l.width))) (long_l _ _ _ base)
    ∙ ap (λ n. l.width + n) (long_r _ _ goes _)

branches_long : (depth : ℕ) (nets : List ((net : Net) × Long (plan depth net))) (node i base : ℕ) (steps : List Step) (path : List ℕ)
    → length (branch_nodes node i base steps path (map (plan depth) (map (λ e. e.0) nets))) ≡ sum (map (λ (p : Plan). p.width) (map (plan depth) (map (λ e. e.0) nets)))
branches_long depth [] node i base steps path = refl
branches_long depth (net ∷ nets) node i base steps path =
    let p : Plan = plan depth net.0 in
    let others : length (branch_nodes node (i + 1) (base + p.width) steps path (map (plan depth) (map (λ e. e.0) nets))) ≡ sum (map (λ (p : Plan). p.width) (map (plan depth) (map (λ e. e.0) nets))) =
    branches_long depth nets node (i + 1) (base + p.width) steps path in
    length-append (p.nodes (steps ++ step.Branch i ∷ []) (path ++ i ∷ []) (ToChild node (i + 1)) base) (branch_nodes node (i + 1) (base + p.width) steps path (map (plan depth) (map (λ e. e.0) nets)))
    ∙ ap (λ n. n + length (branch_nodes node (i + 1) (base + p.width) steps path (map (plan depth) (map (λ e. e.0) nets)))) (net.1 (steps ++ step.Branch i ∷ []) (path ++ i ∷ []) (ToChild node (i + 1)) base)
    ∙ ap (λ n. p.width + n) others
    ∙ sym (sum_cons p.width (map (λ (p : Plan). p.width) (map (plan depth) (map (λ e. e.0) nets))))
  where
    sum_cons : (n : ℕ) (ns : List ℕ) → sum (n ∷ ns) ≡ n + sum ns
    sum_cons n ns = sum_by-cons (λ x. x) n ns

one_form : (depth : ℕ) (y : Net-F ((net : Net) × Long (plan depth net))) → Long (plan_step depth (map-Net _ _ (plan depth) (map-Net _ _ (λ e. e.0) y)))
one_form depth (Net-F.Box place number) steps path goes base = refl
one_form depth (Net-F.Filter filter) steps path goes base = refl
one_form depth (Net-F.Sync place patterns) steps path goes base = refl
one_form depth (Net-F.Serial left right) steps path goes base = serial_long (plan depth left.0) (plan depth right.0) left.1 right.1 steps path goes base
one_form depth (Net-F.Choice place merge branches faces) steps path goes base =
    let below : length (branch_nodes base 0 (base + 1) steps path (map (plan depth) (map (λ e. e.0) branches))) ≡ sum (map (λ (p : Plan). p.width) (map (plan depth) (map (λ e. e.0) branches))) =
    branches_long depth branches base 0 (base + 1) steps path in
    omega (arith, below)
one_form depth (Net-F.Star place merge body exit guard) steps path goes base = refl
one_form depth (Net-F.Split place merge body id) steps path goes base = refl

pub plan_long : (depth : ℕ) (net : Net) → Long (plan depth net)
plan_long depth = ind-Net (λ net. Long (plan depth net)) (λ x y is. subst (λ z. Long (plan depth (roll-Net z))) is
    (subst Long (sym (fold-roll-Net Plan (plan_step depth) (map-Net _ _ (λ e. e.0) y))) (one_form depth y)))
