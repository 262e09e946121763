-- The children and the epochs of a choice that is made.
use Rattle.std.proofs.Common.{◌≡◌, ℕ, ◌+◌, List, [], ◌∷◌, ◌++◌, drop, refl, sym, ap, ◌∙◌, arith, append_assoc}
use Rattle.std.proofs.Common.{◌≤◌, ◌<◌, ◌==◌, Bool, true, false, cond}
use Rattle.std.specs.Prelude.{Some, None}
use Rattle.std.specs.List.{position_from}
use Rattle.sn_streams.specs.Keys.{key_eq}
use Rattle.sn_view.specs.Next.{child_of, has_key}
use Rattle.std.proofs.lemmas.List.{map-append}
use Rattle.sn_streams.specs.Keys as key
use Rattle.sn_net.specs.declared.net.Merge.{Merge}
use Rattle.sn_net.specs.declared.net.Merge.TheVariants as kind
use Rattle.sn_view.specs.View.{Child}
use Rattle.sn_view.specs.Parts.{Plan, branch_children, new_fork}
use Rattle.sn_model.specs.declared.step.Step.{Step}
use Rattle.sn_view.specs.View.{Node, Target}
use Rattle.sn_view.specs.Parts.{dispatcher}
use Rattle.sn_streams.specs.Keys.{Key}
use Rattle.sn_view.specs.View.{Freely}
use Rattle.sn_view.specs.Next.{adds_child, with_epoch}
use Rattle.sn_graph.specs.Grown.{IsForkWith}

-- a new dispatcher with one child more
pub fork_more : (merge : Merge) (cs : List Child) (k : Key) (entry : ℕ) (old now new : Node) → IsForkWith merge cs old now → new ≡ adds_child k entry now
    → IsForkWith merge (cs ++ record { key = k; entry = entry; kept = [] } ∷ []) old new
fork_more merge cs k entry old now new so_far added =
    let more : List Child = cs ++ record { key = k; entry = entry; kept = [] } ∷ [] in
    record { is = added ∙ ap (adds_child k entry) so_far.is ∙ ap (λ s. record old { state = s; children = more }) (epochs merge) }
  where
    epochs : (m : Merge) → with_epoch (new_fork m cs) ≡ new_fork m (cs ++ record { key = k; entry = entry; kept = [] } ∷ [])
    epochs kind.Det = refl
    epochs kind.Free =
        ap (λ (ns : List ℕ). Freely (record { input = 0; output = 0; children = ns })) (sym (map-append (λ (child : Child). 0) cs (record { key = k; entry = entry; kept = [] } ∷ [])))

-- one more child of a choice
pub children_more : (cs new : List Child) (i entry next more : ℕ) (ps : List Plan) (p : Plan) (W : List Child)
    → new ≡ cs ++ record { key = key.Branch i; entry = entry; kept = [] } ∷ []
    → drop i ps ≡ p ∷ drop (i + 1) ps → next ≡ entry + more → more ≡ p.width
    → cs ++ branch_children i entry (drop i ps) ≡ W → new ++ branch_children (i + 1) next (drop (i + 1) ps) ≡ W
children_more cs new i entry next more ps p W pushed dropped sum wide so_far =
    let rest : List Plan = drop (i + 1) ps in
    let step : next ≡ entry + p.width = sum ∙ ap (λ n. entry + n) wide in
    ap (λ xs. xs ++ branch_children (i + 1) next rest) pushed
    ∙ append_assoc cs (record { key = key.Branch i; entry = entry; kept = [] } ∷ []) (branch_children (i + 1) next rest)
    ∙ ap (λ n. cs ++ (record { key = key.Branch i; entry = entry; kept = [] } ∷ branch_children (i + 1) n rest)) step
    ∙ sym (ap (λ qs. cs ++ branch_children i entry qs) dropped)
    ∙ so_far

-- the children are child 0 and those of the first branches
abbrev pub FirstBranches : ℕ → List Child → Type 0
FirstBranches n cs = (i : ℕ) → n ≤ i → child_of cs (key.Branch i) ≡ None

-- so no child has the key of the next one
pub own_first : (own : Child) → own.key ≡ key.Own → FirstBranches 0 (own ∷ [])
own_first own is i past = ap (λ k. cond (key_eq (key.Branch i) k) (Some 0) None) is

-- a search that finds nothing, and goes on past one more
passes_on : {X : Type 0} (p : X → Bool) (from : ℕ) (y : X) (ys zs : List X) → position_from p from (y ∷ ys) ≡ None
    → (position_from p (from + 1) ys ≡ None → position_from p (from + 1) zs ≡ None) → position_from p from (y ∷ zs) ≡ None
passes_on p from y ys zs none others = step (p y) refl
  where
    step : (b : Bool) → p y ≡ b → position_from p from (y ∷ zs) ≡ None
    step true is = let found : position_from p from (y ∷ ys) ≡ Some from = ap (λ b. cond b (Some from) (position_from p (from + 1) ys)) is in cc
    step false is =
        ap (λ b. cond b (Some from) (position_from p (from + 1) zs)) is
        ∙ others (sym (ap (λ b. cond b (Some from) (position_from p (from + 1) ys)) is) ∙ none)

position_passes : {X : Type 0} (p : X → Bool) (from : ℕ) (xs : List X) (x : X) → position_from p from xs ≡ None → p x ≡ false → position_from p from (xs ++ x ∷ []) ≡ None
position_passes p from [] x none not = ap (λ b. cond b (Some from) None) not
position_passes p from (y ∷ ys) x none not = passes_on p from y ys (ys ++ x ∷ []) none (λ below. position_passes p (from + 1) ys x below not)

pub next_first : (n : ℕ) (cs : List Child) (child : Child) → child.key ≡ key.Branch n → FirstBranches n cs → FirstBranches (n + 1) (cs ++ child ∷ [])
next_first n cs child is so_far i past =
    position_passes (has_key (key.Branch i)) 0 cs child (so_far i (omega (arith, past)))
    (ap (key_eq (key.Branch i)) is ∙ differ i n (omega (arith, past)))
  where
    differ : (i n : ℕ) → n < i → (i == n) ≡ false
    differ i n less = grind (arith, less)

-- the node of a dispatcher with these children
pub fork_seen : (n : Node) (merge : Merge) (left : ℕ) (children : List Child) (steps : List Step) (path : List ℕ) (goes : Target)
    → n.steps ≡ steps → n.path ≡ path → n.left ≡ left → n.goes ≡ goes → n.waiting ≡ []
    → n.state ≡ new_fork merge children → n.children ≡ children → n ≡ dispatcher merge left children steps path goes
fork_seen n merge left children steps path goes e1 e2 e3 e4 e5 e6 e7 =
    ap (λ x. record n { steps = x }) e1
    ∙ ap (λ x. record n { steps = steps; path = x }) e2
    ∙ ap (λ x. record n { steps = steps; path = path; left = x }) e3
    ∙ ap (λ x. record n { steps = steps; path = path; left = left; goes = x }) e4
    ∙ ap (λ x. record n { steps = steps; path = path; left = left; goes = goes; waiting = x }) e5
    ∙ ap (λ x. record n { steps = steps; path = path; left = left; goes = goes; waiting = []; state = x }) e6
    ∙ ap (λ x. record n { steps = steps; path = path; left = left; goes = goes; waiting = []; state = new_fork merge children; children = x }) e7
