-- Decisions and groups, as a dispatcher sees them.
use Rattle.std.proofs.Common.{◌≡◌, ℕ, zero, suc, ◌<◌, Bool, true, false, List, [], ◌∷◌, map, refl, sym, ap, ◌∙◌, arith}
use Rattle.std.specs.Prelude.{slice_get, Option, Some, None, unwrap_or}
use Rattle.std.specs.Option.{option_map}
use Rattle.std.proofs.lemmas.Bool.{false≢true}
use Rattle.sn_streams.specs.Keys.{Key as StreamKey, key_eq}
use Rattle.sn_view.specs.Epochs.{Epochs, stands_at_output}
use Rattle.sn_net.specs.Item.{ModelItem}
use Rattle.sn_dispatch.specs.declared.det_fork.Decision.{Decision}
use Rattle.sn_view.specs.View.{Entry, It, Mark, End, Turn, To, Own, State, Alone, Cell, InTurn, Freely, Child, Node, first_of, rest_of, changed_at}
use Rattle.sn_view.specs.Next.{takes_kept, kept_of}
use Rattle.sn_node.specs.Seen.{decision_of}
use Rattle.sn_node.specs.Merged.{merged, state_moved, det_moved, turn_moved, group_moved, free_moved, epoch_moved}
use Rattle.sn_node.specs.States.{first_turn, free_at, is_in_turn, is_own, turn_key}

pub first_seen : (ds : List Decision) → option_map decision_of (slice_get ds 0) ≡ first_of (map decision_of ds)
first_seen [] = refl
first_seen (d ∷ ds) = refl

-- in a deterministic dispatcher
pub in_turn_moved : (n : Node) (c : ℕ) → is_in_turn n.state ≡ true → (ds : List (Entry Turn)) × (n.state ≡ InTurn ds) × (first_turn n.state ≡ first_of ds) × (merged n c ≡ det_moved n c ds (first_of ds) (slice_get n.children c))
in_turn_moved n c is = at n.state refl is
  where
    at : (s : State) → n.state ≡ s → is_in_turn s ≡ true → (ds : List (Entry Turn)) × (n.state ≡ InTurn ds) × (first_turn n.state ≡ first_of ds) × (merged n c ≡ det_moved n c ds (first_of ds) (slice_get n.children c))
    at (InTurn ds) e is = (ds, e, ap first_turn e, ap (λ s. state_moved n c s (slice_get n.children c)) e)
    at Alone e is = absurd (false≢true is)
    at (Cell patterns cell) e is = absurd (false≢true is)
    at (Freely es) e is = absurd (false≢true is)

-- nothing passes by
no_own : (n : Node) (ds : List (Entry Turn)) (d : Option (Entry Turn)) (child : Option Child) → is_own d ≡ false → det_moved n 0 ds d child ≡ None
no_own n ds None child not = refl
no_own n ds (Some (It (To k))) child not = refl
no_own n ds (Some (It (Own y))) child not = absurd (false≢true (sym not))
no_own n ds (Some Mark) child not = absurd (false≢true (sym not))
no_own n ds (Some End) child not = absurd (false≢true (sym not))

pub twice : {A B C : Type 0} (g : A → B) (f : B → C) (o : Option A) → option_map (λ a. f (g a)) o ≡ option_map f (option_map g o)
twice g f None = refl
twice g f (Some a) = refl

-- where nothing is kept, taking takes nothing
takes_none_at : (cs : List Child) (c : ℕ) → first_of (kept_of cs c) ≡ None → changed_at c (λ (child : Child). record child { kept = rest_of child.kept }) cs ≡ cs
takes_none_at [] c none = refl
takes_none_at (child ∷ cs) zero none = at child.kept refl none
  where
    at : (es : List (Entry ModelItem)) → child.kept ≡ es → first_of es ≡ None → record child { kept = rest_of child.kept } ∷ cs ≡ child ∷ cs
    at [] e none = ap (λ es. record child { kept = rest_of es } ∷ cs) e ∙ ap (λ es. record child { kept = es } ∷ cs) (sym e)
    at (x ∷ es) e none = absurd (cc)
takes_none_at (child ∷ cs) (suc c) none = ap (λ cs. child ∷ cs) (takes_none_at cs c none)

pub takes_none : (n : Node) (c : ℕ) → first_of (kept_of n.children c) ≡ None → takes_kept c n ≡ n
takes_none n c none = ap (λ cs. record n { children = cs }) (takes_none_at n.children c none)

group_none_at : (n : Node) (c : ℕ) (ds : List (Entry Turn)) (d : Option (Entry Turn)) (child : Option Child) → 0 < c → is_own d ≡ false
    → first_of (unwrap_or (option_map (λ (child : Child). child.kept) child) []) ≡ None → det_moved n c ds d child ≡ None
group_none_at n zero ds d child some not none = absurd (omega (arith, some))
group_none_at n (suc c) ds None child some not none = refl
group_none_at n (suc c) ds (Some (It (Own y))) child some not none = refl
group_none_at n (suc c) ds (Some Mark) child some not none = refl
group_none_at n (suc c) ds (Some End) child some not none = refl
group_none_at n (suc c) ds (Some (It (To k))) None some not none = refl
group_none_at n (suc c) ds (Some (It (To k))) (Some child) some not none = at (key_eq k child.key)
  where
    at : (b : Bool) → turn_moved b n (suc c) ds child ≡ None
    at true = ap (group_moved n (suc c) ds) none
    at false = refl

key_not_own : (d : Option (Entry Turn)) (k : StreamKey) → turn_key d ≡ Some k → is_own d ≡ false
key_not_own None k is = refl
key_not_own (Some (It (To j))) k is = refl
key_not_own (Some (It (Own y))) k is = absurd (cc)
key_not_own (Some Mark) k is = absurd (cc)
key_not_own (Some End) k is = absurd (cc)

pub group_unmoved : (n : Node) (c : ℕ) (k : StreamKey) → is_in_turn n.state ≡ true → 0 < c → turn_key (first_turn n.state) ≡ Some k → first_of (kept_of n.children c) ≡ None → merged n c ≡ None
group_unmoved n c k is some key none =
    let w = in_turn_moved n c is in
    w.3 ∙ group_none_at n c w.0 (first_of w.0) (slice_get n.children c) some (key_not_own (first_of w.0) k (ap turn_key (sym w.2) ∙ key)) none

pub free_is : (n : Node) (c : ℕ) → free_at n.state c ≡ true → (e : Epochs) × (n.state ≡ Freely e) × (stands_at_output e c ≡ true) × (merged n c ≡ epoch_moved true n c e (slice_get n.children c))
free_is n c is = at n.state refl is
  where
    at : (s : State) → n.state ≡ s → free_at s c ≡ true → (e : Epochs) × (n.state ≡ Freely e) × (stands_at_output e c ≡ true) × (merged n c ≡ epoch_moved true n c e (slice_get n.children c))
    at (Freely e) was is = (e, was, is, ap (λ s. state_moved n c s (slice_get n.children c)) was ∙ ap (λ b. epoch_moved b n c e (slice_get n.children c)) is)
    at Alone was is = absurd (false≢true is)
    at (Cell patterns cell) was is = absurd (false≢true is)
    at (InTurn ds) was is = absurd (false≢true is)

-- by the first entry that is kept of the child
epoch_by : (n : Node) (c : ℕ) (e : Epochs) (child : Option Child) → epoch_moved true n c e child ≡ free_moved n c e (first_of (unwrap_or (option_map (λ (child : Child). child.kept) child) []))
epoch_by n c e None = refl
epoch_by n c e (Some child) = refl

pub free_by : (n : Node) (c : ℕ) (k : Option (Entry ModelItem)) → free_at n.state c ≡ true → first_of (kept_of n.children c) ≡ k → (e : Epochs) × (n.state ≡ Freely e) × (merged n c ≡ free_moved n c e k)
free_by n c k is first =
    let w = free_is n c is in
    (w.0, w.1, w.3 ∙ epoch_by n c w.0 (slice_get n.children c) ∙ ap (free_moved n c w.0) first)
