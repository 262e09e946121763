-- New nodes behind others, for parts of a network.
use Rattle.std.proofs.Common.{◌≡◌, ℕ, zero, suc, ◌+◌, ◌≤◌, arith, List, [], ◌∷◌, ◌++◌, map, take, length, refl, sym, ap, ap₂, subst, ◌∙◌, append_assoc, append-nil}
use Rattle.std.specs.Prelude.{Some, slice_get, Option}
use Rattle.std.proofs.lemmas.List.{map-append, take_all}
use Rattle.std.proofs.lemmas.Option.{none-some, same_Some}
use Rattle.sn_record.specs.LabelSet.{Labels}
use Rattle.sn_tagexpr.specs.declared.expr.TagExpr.{TagExpr}
use Rattle.sn_net.specs.declared.filter.Filter.{Filter}
use Rattle.sn_net.specs.declared.net.Merge.{Merge}
use Rattle.sn_net.specs.declared.net.Net.{Net}
use Rattle.sn_net.specs.declared.net.Net.TheFolds.{fold_out-Net, map-Net}
use Rattle.sn_net.specs.declared.net.Net.TheOpen.{Net-F}
use Rattle.sn_net.specs.declared.net.Net.TheVariants as form
use Rattle.sn_net.specs.declared.net.Net.TheViews.{out-Net, out-roll-Net}
use Rattle.sn_fork.specs.Facts.{Each}
use Rattle.sn_turn.specs.Kinds.{HasBegun, path_of}
use Rattle.sn_turn.specs.Nodes.{Grown, below_branches, parts_of, parts_of_choice, parts_step}
use Rattle.sn_turn.specs.declared.node.Node.{Node}
use Rattle.sn_turn.proofs.Parts.{shape-Choice, shape-Serial}

-- nodes behind others
pub grown_none : (nodes : List Node) → Grown nodes nodes []
grown_none nodes = record { more = []; behind = sym (append-nil nodes); stand = refl; begun = tt }

each_both : {A : Type 0} (P : A → Type 0) (front back : List A) → Each P front → Each P back → Each P (front ++ back)
each_both P [] back first last = last
each_both P (a ∷ front) back first last = (first.0, each_both P front back first.1 last)

pub grown_more : (a b c : List Node) (p q : List (List ℕ)) → Grown a b p → Grown b c q → Grown a c (p ++ q)
grown_more a b c p q first then = record {
  more = first.more ++ then.more;
  behind = then.behind ∙ ap (λ l. l ++ then.more) first.behind ∙ append_assoc a first.more then.more;
  stand = map-append (λ (node : Node). path_of node.kind) first.more then.more ∙ ap₂ (λ (s t : List (List ℕ)). s ++ t) first.stand then.stand;
  begun = each_both (λ (node : Node). HasBegun node.kind) first.more then.more first.begun then.begun;
}

pub grown_one : (before now : List Node) (node : Node) (path : List ℕ) → now ≡ before ++ node ∷ [] → path_of node.kind ≡ path → HasBegun node.kind → Grown before now (path ∷ [])
grown_one before now node path is at begun = record { more = node ∷ []; behind = is; stand = ap (λ p. p ∷ []) at; begun = (begun, tt) }

-- the same behind none
pub grown_behind : (before made now : List Node) (parts : List (List ℕ)) → now ≡ before ++ made → Grown [] made parts → Grown before now parts
grown_behind before made now parts is grown = record { more = grown.more; behind = is ∙ ap (λ l. before ++ l) grown.behind; stand = grown.stand; begun = grown.begun }

-- the parts of the forms of networks
parts_out : (net : Net) (f : Net-F Net) (path : List ℕ) → out-Net net ≡ f → parts_of net path ≡ parts_step (map-Net _ _ parts_of f) path
parts_out net f path shape = ap (λ g. g path) (fold_out-Net (List ℕ → List (List ℕ)) parts_step net) ∙ ap (λ y. parts_step (map-Net _ _ parts_of y) path) shape

pub parts_serial : (l r : Net) (path : List ℕ) → parts_of (form.Serial l r) path ≡ parts_of l (path ++ 0 ∷ []) ++ parts_of r (path ++ 1 ∷ [])
parts_serial l r path = parts_out (form.Serial l r) (Net-F.Serial l r) path (shape-Serial l r)

pub parts_choice : (net : Net) (place : ℕ) (m : Merge) (branches : List Net) (faces : List (List Labels)) (path : List ℕ) → net ≡ form.Choice place m branches faces
    → parts_of net path ≡ parts_of_choice branches path
parts_choice net place m branches faces path is = ap (λ n. parts_of n path) is ∙ parts_out (form.Choice place m branches faces) (Net-F.Choice place m branches faces) path (shape-Choice place m branches faces)

pub parts_box : (net : Net) (place number : ℕ) (path : List ℕ) → net ≡ form.Box place number → parts_of net path ≡ path ∷ []
parts_box net place number path is = parts_out net (Net-F.Box place number) path (ap out-Net (is ∙ sym (form.rolls-Box place number)) ∙ out-roll-Net (Net-F.Box place number))

pub parts_filter : (net : Net) (filter : Filter) (path : List ℕ) → net ≡ form.Filter filter → parts_of net path ≡ path ∷ []
parts_filter net filter path is = parts_out net (Net-F.Filter filter) path (ap out-Net (is ∙ sym (form.rolls-Filter filter)) ∙ out-roll-Net (Net-F.Filter filter))

pub parts_sync : (net : Net) (place : ℕ) (patterns : List Labels) (path : List ℕ) → net ≡ form.Sync place patterns → parts_of net path ≡ path ∷ []
parts_sync net place patterns path is = parts_out net (Net-F.Sync place patterns) path (ap out-Net (is ∙ sym (form.rolls-Sync place patterns)) ∙ out-roll-Net (Net-F.Sync place patterns))

pub parts_star : (net : Net) (place : ℕ) (m : Merge) (body : Net) (exit : Labels) (guard : Option TagExpr) (path : List ℕ) → net ≡ form.Star place m body exit guard → parts_of net path ≡ path ∷ []
parts_star net place m body exit guard path is =
    parts_out net (Net-F.Star place m body exit guard) path (ap out-Net (is ∙ sym (form.rolls-Star place m body exit guard)) ∙ out-roll-Net (Net-F.Star place m body exit guard))

pub parts_split : (net : Net) (place : ℕ) (m : Merge) (body : Net) (id : ℕ) (path : List ℕ) → net ≡ form.Split place m body id → parts_of net path ≡ path ∷ []
parts_split net place m body id path is =
    parts_out net (Net-F.Split place m body id) path (ap out-Net (is ∙ sym (form.rolls-Split place m body id)) ∙ out-roll-Net (Net-F.Split place m body id))

-- one branch more
pub branches_more : (branches : List Net) (i k : ℕ) (branch : Net) (path : List ℕ) → slice_get branches i ≡ Some branch
    → below_branches (map parts_of (take (suc i) branches)) k path ≡ below_branches (map parts_of (take i branches)) k path ++ parts_of branch (path ++ (k + i) ∷ [])
branches_more [] i k branch path is = absurd (none-some branch is)
branches_more (b ∷ branches) zero k branch path is =
    append-nil (parts_of b (path ++ k ∷ []))
    ∙ ap₂ (λ (n : Net) (j : ℕ). parts_of n (path ++ j ∷ [])) (same_Some b branch is) (omega arith)
branches_more (b ∷ branches) (suc i) k branch path is =
    ap (λ l. parts_of b (path ++ k ∷ []) ++ l) (branches_more branches i (suc k) branch path is)
    ∙ sym (append_assoc (parts_of b (path ++ k ∷ [])) (below_branches (map parts_of (take i branches)) (suc k) path) (parts_of branch (path ++ (suc k + i) ∷ [])))
    ∙ ap (λ j. (parts_of b (path ++ k ∷ []) ++ below_branches (map parts_of (take i branches)) (suc k) path) ++ parts_of branch (path ++ j ∷ [])) (omega arith)

pub grown_branch : (a b c : List Node) (branches : List Net) (i : ℕ) (branch : Net) (path below : List ℕ) → slice_get branches i ≡ Some branch → below ≡ path ++ i ∷ []
    → Grown a b (below_branches (map parts_of (take i branches)) 0 path) → Grown b c (parts_of branch below) → Grown a c (below_branches (map parts_of (take (i + 1) branches)) 0 path)
grown_branch a b c branches i branch path below there is first then =
    let more : suc i ≡ i + 1 = omega arith in
    subst (Grown a c) (sym (branches_more branches i 0 branch path there) ∙ ap (λ n. below_branches (map parts_of (take n branches)) 0 path) more)
    (grown_more a b c (below_branches (map parts_of (take i branches)) 0 path) (parts_of branch (path ++ (0 + i) ∷ [])) first
    (subst (λ p. Grown b c (parts_of branch p)) (is ∙ ap (λ n. path ++ n ∷ []) (omega arith)) then))

pub grown_choice : (a b c : List Node) (branches : List Net) (i : ℕ) (path : List ℕ) → length branches ≤ i → Grown a b (below_branches (map parts_of (take i branches)) 0 path)
    → Grown b c (path ∷ []) → Grown a c (parts_of_choice branches path)
grown_choice a b c branches i path all first then =
    grown_more a b c (below_branches (map parts_of branches) 0 path) (path ∷ [])
    (subst (λ (l : List Net). Grown a b (below_branches (map parts_of l) 0 path)) (take_all i branches all) first) then

pub grown_serial : (a b c : List Node) (l r : Net) (path left right : List ℕ) → left ≡ path ++ 0 ∷ [] → right ≡ path ++ 1 ∷ [] → Grown a b (parts_of l left) → Grown b c (parts_of r right)
    → Grown a c (parts_of (form.Serial l r) path)
grown_serial a b c l r path left right is then_is first then =
    subst (Grown a c) (sym (parts_serial l r path))
    (grown_more a b c (parts_of l (path ++ 0 ∷ [])) (parts_of r (path ++ 1 ∷ [])) (subst (λ p. Grown a b (parts_of l p)) is first) (subst (λ p. Grown b c (parts_of r p)) then_is then))
