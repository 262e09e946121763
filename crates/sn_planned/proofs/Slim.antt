-- What a network answers once it was made slim.
use Rattle.std.proofs.Common.{◌≡◌, ℕ, zero, suc, Bool, true, false, cond, List, [], ◌∷◌, ◌++◌, length, map, refl, sym, ap, ap₂, ◌∙◌, subst, subst₂, arith}
use Rattle.std.specs.Prelude.{◌==◌, ◌&&◌, Option, None, Some, Result, Ok, slice_get, unwrap_or}
use Rattle.std.specs.List.{All}
use Rattle.std.specs.FinMap as finite
use Rattle.std.proofs.lemmas.Bool.{and_parts}
use Rattle.std.proofs.lemmas.Bool.Decides.{nat_tests}
use Rattle.std.proofs.lemmas.List.{nil_from_length}
use Rattle.std.proofs.lemmas.List.Elements.{All-head, All-tail}
use Rattle.sn_record.specs.LabelSet.{Labels, union}
use Rattle.sn_record.specs.Record.{Entries}
use Rattle.sn_record.proofs.Records.{inherit-empty}
use Rattle.sn_record.proofs.Scores.{is_match-Matches}
use Rattle.sn_tagexpr.specs.declared.expr.TagExpr.{TagExpr}
use Rattle.sn_tagexpr.specs.declared.fault.ExprFault.{ExprFault}
use Rattle.sn_streams.specs.Forks.{Router}
use Rattle.sn_streams.specs.Keys.{Key as StreamKey, Own, Branch as BranchKey, Inside, Value as ValueKey}
use Rattle.sn_streams.specs.Machines.{Machine, emitted, after, transduced}
use Rattle.sn_streams.specs.Segments.{Segments}
use Rattle.sn_streams.specs.Trees.{Series, Allows, one, passing}
use Rattle.sn_streams.proofs.Trees.{tree_is_lawful}
use Rattle.sn_nested.specs.Alike.{EachItem}
use Rattle.sn_nested.proofs.Items.{each_item_more}
use Rattle.sn_net.specs.declared.expr.BoxProgram.{BoxProgram}
use Rattle.sn_net.specs.declared.filter.Filter.{Filter as FilterForm}
use Rattle.sn_net.specs.declared.filter.Template.{Template}
use Rattle.sn_net.specs.declared.net.Merge.{Merge}
use Rattle.sn_net.specs.declared.net.Net.{Net}
use Rattle.sn_net.specs.declared.net.Net.TheOpen.{Net-F}
use Rattle.sn_net.specs.declared.net.Net.TheFolds.{fold-roll-Net, ind-Net, map-Net}
use Rattle.sn_net.specs.declared.net.Net.TheVariants.{Box, Filter as FilterLeaf, Sync, Serial, Choice as ChoiceNet, Star as StarNet, Split as SplitNet, rolls-Box, rolls-Filter, rolls-Sync, rolls-Serial, rolls-Choice, rolls-Star, rolls-Split}
use Rattle.sn_net.specs.declared.net.Net.TheViews.{roll-Net}
use Rattle.sn_net.specs.Answer.{chosen, filter_answer, inherited, outcomes, tag_number, template_record, up_to_fault, with_parts}
use Rattle.sn_net.specs.Cell.{CellState, Passing}
use Rattle.sn_net.specs.Dispatchers.{Network, branch_child, router, stream_key}
use Rattle.sn_net.specs.Item.{ModelItem, Rec, Fault, Stuck}
use Rattle.sn_net.specs.Route.{best_branch, branch_key, choice_key, of_record}
use Rattle.sn_net.specs.WellFormed.{IsWellFormed}
use Rattle.sn_model.specs.Components.{alone as alone_tree, filter_item}
use Rattle.sn_model.specs.Meaning.{Setting, tree}
use Rattle.sn_model.proofs.Forms.{tree-Filter, tree-Serial, tree-Choice}
use Rattle.sn_typing.specs.Outline.{Outline, Choice, Series as SeriesOutline, branch_of, outline}
use Rattle.sn_typing.specs.Flow.{Safe}
use Rattle.sn_typing.specs.Reached.{Turn, Left, Right, Branch, Body}
use Rattle.sn_typing.specs.Accepted.{IsReached}
use Rattle.sn_typing.specs.Typed.{IsOf}
use Rattle.sn_typing.proofs.Forms.{outline-Choice, outline-Filter, outline-Serial}
use Rattle.sn_sound.specs.Carried.{Carries}
use Rattle.sn_sound.proofs.Follows.{of_more}
use Rattle.sn_sound.proofs.Emitted.{only_variant}
use Rattle.sn_sound.proofs.Scores.{best_is_taken}
use Rattle.sn_planned.specs.Slim.{Slim, alone, before, begun, both, gives_back, sets_nothing, slim, slim_step, slimmed, unless_identity}
use Rattle.sn_planned.proofs.Formed.{choice_parts, serial_parts, split_parts, star_parts}
use Rattle.sn_planned.proofs.On.{AlikeOn, dispatched_on, on_less, on_same, on_then}
use Rattle.sn_planned.proofs.Reaching.{to_branch, to_left, to_right}
use Rattle.sn_planned.proofs.Trimmed.{At, AlikeAt, carries, serial_at, split_at, star_at}

-- A tree that gives back each stream of such items.
pub record IsPassage (P : ModelItem → Type 0) (t : Network) : Type 0 where
  pub allowed : (xss yss : Segments ModelItem) → EachItem P xss → Allows t xss yss → yss ≡ xss
  pub allows : (xss : Segments ModelItem) → EachItem P xss → Allows t xss xss
  pub same : (xss : Segments ModelItem) → EachItem P xss → one t xss ≡ xss

passage_less : (P Q : ModelItem → Type 0) (t : Network) → ((x : ModelItem) → P x → Q x) → IsPassage Q t → IsPassage P t
passage_less P Q t more passage = record {
  allowed = λ xss yss each. passage.allowed xss yss (each_item_more P Q more xss each);
  allows = λ xss each. passage.allows xss (each_item_more P Q more xss each);
  same = λ xss each. passage.same xss (each_item_more P Q more xss each);
}

-- in series with a passage before it
passage_before : (P : ModelItem → Type 0) (t u : Network) → IsPassage P t → AlikeOn P (Series t u) u
passage_before P t u passage xss each = record {
  allowed = λ yss. (
    (λ h. subst (λ (zss : Segments ModelItem). Allows u zss yss) (passage.allowed xss h.between each h.from_first) h.from_second),
    (λ h. record { between = xss; from_first = passage.allows xss each; from_second = h }),
  );
  same = ap (one u) (passage.same xss each);
}

-- and with one behind it
passage_behind : (P Q : ModelItem → Type 0) (t u : Network) → Carries (Allows t) P Q → IsPassage Q u → AlikeOn P (Series t u) t
passage_behind P Q t u carried passage xss each = record {
  allowed = λ yss. (
    (λ h. subst (λ (zss : Segments ModelItem). Allows t xss zss) (sym (passage.allowed h.between yss (carried xss h.between each h.from_first) h.from_second)) h.from_first),
    (λ h. record { between = yss; from_first = h; from_second = passage.allows yss (carried xss yss each h) }),
  );
  same = passage.same (one t xss) (carried xss (one t xss) each ((tree_is_lawful t).allows xss));
}

passage_series : (P Q : ModelItem → Type 0) (t u : Network) → Carries (Allows t) P Q → IsPassage P t → IsPassage Q u → IsPassage P (Series t u)
passage_series P Q t u carried first second = record {
  allowed = λ xss yss each h. second.allowed h.between yss (carried xss h.between each h.from_first) h.from_second ∙ first.allowed xss h.between each h.from_first;
  allows = λ xss each. record { between = xss; from_first = first.allows xss each; from_second = second.allows xss (carried xss xss each (first.allows xss each)) };
  same = λ xss each. ap (one u) (first.same xss each) ∙ second.same xss (carried xss xss each (first.allows xss each));
}

-- ---- identities

-- a component that gives back each such item by itself
module _ (P : ModelItem → Type 0) (answer : ModelItem → List ModelItem) (back : (x : ModelItem) → P x → answer x ≡ x ∷ []) where
  abbrev machine : Machine ModelItem CellState
  machine = record { next = λ s x. s; emits = λ s x. answer x }

  state_stays : (s : CellState) (xs : List ModelItem) → after machine s xs ≡ s
  state_stays s [] = refl
  state_stays s (x ∷ xs) = state_stays s xs

  all_back : (s : CellState) (xss : Segments ModelItem) (xs : List ModelItem) → EachItem P (xs ∷ xss) → emitted machine s xs ≡ xs
  all_back s xss [] each = refl
  all_back s xss (x ∷ xs) each = ap₂ (λ us vs. us ++ vs) (back x each.0.0) (all_back s xss xs (each.0.1, each.1))

  each_back : (s : CellState) (xss : Segments ModelItem) → EachItem P xss → transduced machine s xss ≡ xss
  each_back s [] each = refl
  each_back s (xs ∷ xss) each = ap₂ (λ us uss. us ∷ uss) (all_back s xss xs each) (ap (λ q. transduced machine q xss) (state_stays s xs) ∙ each_back s xss each.1)

  passage : IsPassage P (alone_tree answer)
  passage = record {
    allowed = λ xss yss each h. h ∙ each_back Passing xss each;
    allows = λ xss each. sym (each_back Passing xss each);
    same = λ xss each. each_back Passing xss each;
  }

pub size_zero : (n : ℕ) → (n == 0) ≡ true → n ≡ 0
size_zero n e = grind (arith, nat_tests)

-- an identity has an empty pattern, no arm, and one template that sets nothing
pub record IsIdentity (filter : FilterForm) : Type 0 where
  pub pattern : filter.pattern ≡ finite.empty
  pub arms : filter.arms ≡ []
  pub templates : sets_nothing filter.templates ≡ true

pub is_identity : (filter : FilterForm) → gives_back filter ≡ true → IsIdentity filter
is_identity filter is =
    let parts = and_parts ((finite.len filter.pattern == 0) && (length filter.arms == 0)) (sets_nothing filter.templates) is in
    let none = and_parts (finite.len filter.pattern == 0) (length filter.arms == 0) parts.0 in
    record {
      pattern = finite.empty_of_len filter.pattern (size_zero (finite.len filter.pattern) none.0);
      arms = nil_from_length filter.arms (size_zero (length filter.arms) none.1);
      templates = parts.1;
    }

template_back : (r : Entries) (template : Template) → length template.parts ≡ 0 → template_record r finite.empty template ≡ Ok r
template_back r template none =
    ap (λ parts. inherited r finite.empty (with_parts r parts finite.empty)) (nil_from_length template.parts none)
    ∙ ap (λ (made : Entries). to_ok made) (inherit-empty r)
  where
    to_ok : Entries → Result Entries ExprFault
    to_ok made = Ok made

templates_back : (place : ℕ) (r : Entries) (templates : List Template) → sets_nothing templates ≡ true → up_to_fault place (map (template_record r finite.empty) templates) ≡ Rec r ∷ []
templates_back place r [] e = cc
templates_back place r (template ∷ []) e = ap (λ made. up_to_fault place (made ∷ [])) (template_back r template (size_zero (length template.parts) e))
templates_back place r (template ∷ (other ∷ templates)) e = cc

record_back : (filter : FilterForm) → IsIdentity filter → (r : Entries) → filter_answer filter r ≡ Rec r ∷ []
record_back filter is r =
    ap (λ arms. up_to_fault filter.place (outcomes r filter.pattern (chosen (tag_number r) arms filter.templates))) is.arms
    ∙ ap (λ (pattern : Labels). up_to_fault filter.place (map (template_record r pattern) filter.templates)) is.pattern
    ∙ templates_back filter.place r filter.templates is.templates

-- ---- what is left of a network

module _ (s : Setting) (root : Outline) (input : List Labels) (safe : (way : List Turn) (part : Outline) (v : Labels) → IsReached root input way part v → Safe part v) where
  abbrev boxes : List BoxProgram
  boxes = s.boxes

  abbrev Here : List Turn → Net → ModelItem → Type 0
  Here way net = IsOf (At s root input safe way (outline boxes net))

  abbrev SameAt : List Turn → Net → Net → Type 0
  SameAt way net other = AlikeAt s root input safe way net other

  -- what is left of a network, if it is behind another
  abbrev LeftAt : List Turn → Option Net → Net → Type 0
  LeftAt way None net = IsPassage (Here way net) (tree s net)
  LeftAt way (Some other) net = SameAt way net other

  abbrev SlimsAt : List Turn → Net → Slim → Type 0
  SlimsAt way net left = SameAt way net left.first × LeftAt way left.behind net

  alone_at : (way : List Turn) (net other : Net) → SameAt way net other → SlimsAt way net (alone other)
  alone_at way net other alike = (alike, alike)

  unchanged : (way : List Turn) (net : Net) → SameAt way net net
  unchanged way net = on_same (Here way net) (tree s net)

  -- two networks in series
  module _ (way : List Turn) (left right : Net) (formed : IsWellFormed boxes (Serial left right)) where
    abbrev V : Labels → Type 0
    V = At s root input safe way (outline boxes (Serial left right))

    whole : (v : Labels) → V v → At s root input safe way (SeriesOutline (outline boxes left) (outline boxes right)) v
    whole v reached = subst (λ part. At s root input safe way part v) (outline-Serial boxes left right) reached

    goes_left : (v : Labels) → V v → At s root input safe (way ++ Left ∷ []) (outline boxes left) v
    goes_left v reached = to_left root input way (outline boxes left) (outline boxes right) v (whole v reached)

    here_left : (x : ModelItem) → IsOf V x → Here (way ++ Left ∷ []) left x
    here_left x is = of_more V (At s root input safe (way ++ Left ∷ []) (outline boxes left)) goes_left x is

    carried : Carries (Allows (tree s left)) (IsOf V) (Here (way ++ Right ∷ []) right)
    carried =
        carries s root input safe left (serial_parts boxes left right formed).0 V (At s root input safe (way ++ Right ∷ []) (outline boxes right))
        (λ v reached. safe (way ++ Left ∷ []) (outline boxes left) v (goes_left v reached))
        (λ v u reached flow. to_right root input way (outline boxes left) (outline boxes right) v u (whole v reached) flow)

    before_at : (here : Net) (rest : Option Net) → SameAt (way ++ Left ∷ []) left here → LeftAt (way ++ Right ∷ []) rest right → SameAt way (Serial left right) (before here rest)
    before_at here None alike passes =
        subst (λ (t : Network). AlikeOn (IsOf V) t (tree s here)) (sym (tree-Serial s left right))
        (on_then (IsOf V) (Series (tree s left) (tree s right)) (tree s left) (tree s here)
        (passage_behind (IsOf V) (Here (way ++ Right ∷ []) right) (tree s left) (tree s right) carried passes)
        (on_less (IsOf V) (Here (way ++ Left ∷ []) left) (tree s left) (tree s here) here_left alike))
    before_at here (Some next) alike follows = serial_at s root input safe way left here right next formed alike follows

    both_at : (first rest : Option Net) → LeftAt (way ++ Left ∷ []) first left → LeftAt (way ++ Right ∷ []) rest right → LeftAt way (both first rest) (Serial left right)
    both_at None None passes follows =
        subst (IsPassage (IsOf V)) (sym (tree-Serial s left right))
        (passage_series (IsOf V) (Here (way ++ Right ∷ []) right) (tree s left) (tree s right) carried (passage_less (IsOf V) (Here (way ++ Left ∷ []) left) (tree s left) here_left passes) follows)
    both_at None (Some next) passes follows =
        let passes_here = passage_less (IsOf V) (Here (way ++ Left ∷ []) left) (tree s left) here_left passes in
        subst (λ (t : Network). AlikeOn (IsOf V) t (tree s next)) (sym (tree-Serial s left right))
        (on_then (IsOf V) (Series (tree s left) (tree s right)) (tree s right) (tree s next)
        (passage_before (IsOf V) (tree s left) (tree s right) passes_here)
        (λ xss each. follows xss (carried xss xss each (passes_here.allows xss each))))
    both_at (Some here) rest alike follows = before_at here rest alike follows

  -- an identity
  filter_passes : (way : List Turn) (filter : FilterForm) → gives_back filter ≡ true → IsPassage (Here way (FilterLeaf filter)) (tree s (FilterLeaf filter))
  filter_passes way filter is =
      subst (IsPassage (Here way (FilterLeaf filter))) (sym (tree-Filter s filter)) (passage (Here way (FilterLeaf filter)) (filter_item filter) back)
    where
      back : (x : ModelItem) → Here way (FilterLeaf filter) x → filter_item filter x ≡ x ∷ []
      back (Fault fault) here = refl
      back (Stuck place) here = absurd here
      back (Rec r) here =
          let fits = subst (λ o. Safe o here.variant) (outline-Filter boxes filter) (safe way (outline boxes (FilterLeaf filter)) here.variant here.listed) in
          ap (λ b. cond b (filter_answer filter r) (Stuck filter.place ∷ [])) ((is_match-Matches r filter.pattern).1 (only_variant filter.pattern r here.variant fits.has here.matched))
          ∙ record_back filter (is_identity filter is) r

  filter_left : (way : List Turn) (filter : FilterForm) → LeftAt way (unless_identity filter) (FilterLeaf filter)
  filter_left way filter = at (gives_back filter) refl
    where
      at : (b : Bool) → gives_back filter ≡ b → LeftAt way (cond b None (Some (FilterLeaf filter))) (FilterLeaf filter)
      at true is = filter_passes way filter is
      at false is = unchanged way (FilterLeaf filter)

  abbrev Keeps : Net → Type 0
  Keeps net = (way : List Turn) → IsWellFormed boxes net → SlimsAt way net (slim net)

  abbrev slims_of : List Net → List Net
  slims_of nets = map begun (map slim nets)

  -- a branch with a number, at any way
  each_at : (nets : List ((net : Net) × Keeps net)) → All (IsWellFormed boxes) (map (λ e. e.0) nets) → (way : List Turn) (i : ℕ) (otherwise : Network)
      → AlikeOn (IsOf (At s root input safe way (branch_of (map (outline boxes) (map (λ e. e.0) nets)) i))) (unwrap_or (slice_get (map (tree s) (map (λ e. e.0) nets)) i) otherwise)
      (unwrap_or (slice_get (map (tree s) (slims_of (map (λ e. e.0) nets))) i) otherwise)
  each_at [] all way i otherwise = on_same (IsOf (At s root input safe way (branch_of [] i))) otherwise
  each_at (net ∷ nets) all way zero otherwise = (net.1 way (All-head (IsWellFormed boxes) net.0 (map (λ e. e.0) nets) all)).0
  each_at (net ∷ nets) all way (suc i) otherwise = each_at nets (All-tail (IsWellFormed boxes) net.0 (map (λ e. e.0) nets) all) way i otherwise

  -- a choice
  module _ (way : List Turn) (place : ℕ) (m : Merge) (branches : List ((net : Net) × Keeps net)) (faces : List (List Labels))
      (formed : IsWellFormed boxes (ChoiceNet place m (map (λ e. e.0) branches) faces)) where
    abbrev nets : List Net
    nets = map (λ e. e.0) branches

    abbrev parts : ℕ → Outline
    parts = branch_of (map (outline boxes) nets)

    abbrev Sent : StreamKey → ModelItem → Type 0
    Sent Own x = Unit {0}
    Sent (BranchKey i) x = IsOf (At s root input safe (way ++ Branch i ∷ []) (parts i)) x
    Sent Inside x = Unit {0}
    Sent (ValueKey n) x = Unit {0}

    sent_record : (r : Entries) → Here way (ChoiceNet place m nets faces) (Rec r) → (b : Option ℕ) → best_branch faces r ≡ b → Sent (stream_key (branch_key b)) (Rec r)
    sent_record r is None none = tt
    sent_record r is (Some i) best =
        let here : At s root input safe way (Choice place faces parts) is.variant = subst (λ part. At s root input safe way part is.variant) (outline-Choice boxes place m nets faces) is.listed in
        let taken = best_is_taken faces r is.variant i is.matched best in
        record {
          variant = union is.variant taken.0;
          listed = to_branch root input way place faces parts is.variant i taken.0 here (safe way (Choice place faces parts) is.variant here).0 taken.1;
          matched = taken.2;
        }

    sent : (x : ModelItem) → Here way (ChoiceNet place m nets faces) x → Sent (stream_key (of_record (choice_key faces) x)) x
    sent (Fault fault) is = tt
    sent (Stuck at) is = absurd is
    sent (Rec r) is = sent_record r is (best_branch faces r) refl

    choice_slims : SameAt way (ChoiceNet place m nets faces) (ChoiceNet place m (slims_of nets) faces)
    choice_slims =
        subst₂ (λ (t u : Network). AlikeOn (Here way (ChoiceNet place m nets faces)) t u) (sym (tree-Choice s place m nets faces)) (sym (tree-Choice s place m (slims_of nets) faces))
        (dispatched_on m sends (branch_child (map (tree s) nets)) (branch_child (map (tree s) (slims_of nets))) (Here way (ChoiceNet place m nets faces)) Sent sent at)
      where
        sends : Router ModelItem
        sends = router place (of_record (choice_key faces))

        at : (k : StreamKey) → AlikeOn (Sent k) (branch_child (map (tree s) nets) (passing sends Passing) k) (branch_child (map (tree s) (slims_of nets)) (passing sends Passing) k)
        at Own = on_same (Sent Own) (passing sends Passing)
        at (BranchKey i) = each_at branches (choice_parts boxes place m nets faces formed) (way ++ Branch i ∷ []) i (passing sends Passing)
        at Inside = on_same (Sent Inside) (passing sends Passing)
        at (ValueKey n) = on_same (Sent (ValueKey n)) (passing sends Passing)

  -- a form, over what each part has
  of_form : (way : List Turn) (x : Net-F Net) (net : Net) → roll-Net x ≡ net → SlimsAt way net (slim_step (map-Net _ _ slim x)) → SlimsAt way net (slim net)
  of_form way x net is h = subst (SlimsAt way net) (sym (ap slim (sym is) ∙ fold-roll-Net Slim slim_step x)) h

  slim_serial : (left right : Net) → Keeps left → Keeps right → Keeps (Serial left right)
  slim_serial left right one two way formed =
      let parts = serial_parts boxes left right formed in
      let l = one (way ++ Left ∷ []) parts.0 in
      let r = two (way ++ Right ∷ []) parts.1 in
      of_form way (Net-F.Serial left right) (Serial left right) (rolls-Serial left right)
      (before_at way left right formed (slimmed left) (slim right).behind l.0 r.1, both_at way left right formed (slim left).behind (slim right).behind l.1 r.1)

  slim_star : (place : ℕ) (m : Merge) (body : Net) (exit : Labels) (guard : Option TagExpr) → Keeps body → Keeps (StarNet place m body exit guard)
  slim_star place m body exit guard keeps way formed =
      let inner = (star_parts boxes place m body exit guard formed).1 in
      of_form way (Net-F.Star place m body exit guard) (StarNet place m body exit guard) (rolls-Star place m body exit guard)
      (alone_at way (StarNet place m body exit guard) (StarNet place m (slimmed body) exit guard)
      (star_at s root input safe way place m body (slimmed body) exit guard inner (keeps (way ++ Body ∷ []) inner).0))

  slim_split : (place : ℕ) (m : Merge) (body : Net) (id : ℕ) → Keeps body → Keeps (SplitNet place m body id)
  slim_split place m body id keeps way formed =
      of_form way (Net-F.Split place m body id) (SplitNet place m body id) (rolls-Split place m body id)
      (alone_at way (SplitNet place m body id) (SplitNet place m (slimmed body) id)
      (split_at s root input safe way place m body (slimmed body) id (keeps (way ++ Body ∷ []) (split_parts boxes place m body id formed)).0))

  slims : (net : Net) → Keeps net
  slims = ind-Net Keeps (λ x y is. subst (λ z. Keeps (roll-Net z)) is
      (elim y as (λ z. Keeps (roll-Net (map-Net _ _ (λ e. e.0) z))) [
        | Net-F.Box place number ↦ subst Keeps (sym (rolls-Box place number)) (λ way formed.
            of_form way (Net-F.Box place number) (Box place number) (rolls-Box place number) (alone_at way (Box place number) (Box place number) (unchanged way (Box place number))))
        | Net-F.Filter filter ↦ subst Keeps (sym (rolls-Filter filter)) (λ way formed.
            of_form way (Net-F.Filter filter) (FilterLeaf filter) (rolls-Filter filter) (unchanged way (FilterLeaf filter), filter_left way filter))
        | Net-F.Sync place patterns ↦ subst Keeps (sym (rolls-Sync place patterns)) (λ way formed.
            of_form way (Net-F.Sync place patterns) (Sync place patterns) (rolls-Sync place patterns) (alone_at way (Sync place patterns) (Sync place patterns) (unchanged way (Sync place patterns))))
        | Net-F.Serial left right ↦ subst Keeps (sym (rolls-Serial left.0 right.0)) (slim_serial left.0 right.0 left.1 right.1)
        | Net-F.Choice place m branches faces ↦ subst Keeps (sym (rolls-Choice place m (map (λ e. e.0) branches) faces)) (λ way formed.
            of_form way (Net-F.Choice place m (map (λ e. e.0) branches) faces) (ChoiceNet place m (map (λ e. e.0) branches) faces) (rolls-Choice place m (map (λ e. e.0) branches) faces)
            (alone_at way (ChoiceNet place m (map (λ e. e.0) branches) faces) (ChoiceNet place m (slims_of (map (λ e. e.0) branches)) faces) (choice_slims way place m branches faces formed)))
        | Net-F.Star place m body exit guard ↦ subst Keeps (sym (rolls-Star place m body.0 exit guard)) (slim_star place m body.0 exit guard body.1)
        | Net-F.Split place m body id ↦ subst Keeps (sym (rolls-Split place m body.0 id)) (slim_split place m body.0 id body.1)
      ]))

  pub slim_at : (way : List Turn) (net : Net) → IsWellFormed boxes net → SameAt way net (slimmed net)
  slim_at way net formed = (slims net way formed).0
