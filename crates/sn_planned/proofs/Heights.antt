-- No stage makes a network higher.
use Rattle.std.proofs.Common.{◌≡◌, ℕ, suc, pred, ◌+◌, ◌≤◌, max, Bool, true, false, cond, List, [], ◌∷◌, ◌++◌, length, map, refl, sym, ap, ◌∙◌, subst, arith}
use Rattle.std.specs.Prelude.{Option, None, Some, IfSome, nat_le}
use Rattle.sn_record.specs.LabelSet.{Labels}
use Rattle.sn_tagexpr.specs.declared.expr.TagExpr.{TagExpr}
use Rattle.sn_net.specs.declared.expr.BoxProgram.{BoxProgram}
use Rattle.sn_net.specs.declared.filter.Filter.{Filter as FilterForm}
use Rattle.sn_net.specs.declared.net.Claim.{Claim}
use Rattle.sn_net.specs.declared.net.Merge.{Merge}
use Rattle.sn_net.specs.declared.net.Net.{Net}
use Rattle.sn_net.specs.declared.net.Net.TheFolds.{fold-roll-Net, ind-Net, map-Net}
use Rattle.sn_net.specs.declared.net.Net.TheOpen.{Net-F}
use Rattle.sn_net.specs.declared.net.Net.TheVariants.{Box, Filter as FilterLeaf, Sync, Serial, Choice as ChoiceNet, Star as StarNet, Split as SplitNet, rolls-Box, rolls-Filter, rolls-Sync, rolls-Serial, rolls-Choice, rolls-Star, rolls-Split}
use Rattle.sn_net.specs.declared.net.Net.TheViews.{out-Net, roll-Net}
use Rattle.sn_net.specs.Face.{face}
use Rattle.sn_net.specs.WellFormed.{most_branches}
use Rattle.sn_typing.specs.Outline.{Outline, outline}
use Rattle.sn_typing.specs.Reached.{Turn, Left, Right, Body}
use Rattle.sn_planned.specs.Flat.{branches_in, choice_of, flat_step, flattened, in_place, spread}
use Rattle.sn_planned.specs.Height.{height, height_step, highest}
use Rattle.sn_planned.specs.Planned.{IsPlan}
use Rattle.sn_planned.specs.Slim.{Slim, alone, before, begun, both, gives_back, slim, slim_step, slimmed, unless_identity}
use Rattle.sn_planned.proofs.Flat.{is_choice}
use Rattle.sn_planned.specs.Trimmed.{Kept, Trimmed, Trimmed.{box, filter, sync, serial, choice as choice_form, star, split as split_form}, droppable, keep_or_drop, kept, kept_from}

-- the height of each form
module _ where
  height-Serial : (left right : Net) → height (Serial left right) ≡ suc (max (height left) (height right))
  height-Serial left right = ap height (sym (rolls-Serial left right)) ∙ fold-roll-Net ℕ height_step (Net-F.Serial left right)

  height-Choice : (place : ℕ) (m : Merge) (nets : List Net) (faces : List (List Labels)) → height (ChoiceNet place m nets faces) ≡ suc (highest (map height nets))
  height-Choice place m nets faces = ap height (sym (rolls-Choice place m nets faces)) ∙ fold-roll-Net ℕ height_step (Net-F.Choice place m nets faces)

  height-Star : (place : ℕ) (m : Merge) (body : Net) (exit : Labels) (guard : Option TagExpr) → height (StarNet place m body exit guard) ≡ suc (height body)
  height-Star place m body exit guard = ap height (sym (rolls-Star place m body exit guard)) ∙ fold-roll-Net ℕ height_step (Net-F.Star place m body exit guard)

  height-Split : (place : ℕ) (m : Merge) (body : Net) (id : ℕ) → height (SplitNet place m body id) ≡ suc (height body)
  height-Split place m body id = ap height (sym (rolls-Split place m body id)) ∙ fold-roll-Net ℕ height_step (Net-F.Split place m body id)

even : (n : ℕ) → n ≤ n
even n = omega arith

through : (k m n : ℕ) → k ≤ m → m ≤ n → k ≤ n
through k m n first second = omega (arith, first, second)

up_to : (k m n : ℕ) → k ≡ m → m ≤ n → k ≤ n
up_to k m n same less = omega (arith, same, less)

-- ---- slim

-- what is left of a network is no higher
record Lower (net : Net) (left : Slim) : Type 0 where
  first : height left.first ≤ height net
  behind : IfSome left.behind (λ next. height next ≤ height net)

before_lower : (here : Net) (rest : Option Net) (l r : ℕ) → height here ≤ l → IfSome rest (λ next. height next ≤ r) → height (before here rest) ≤ suc (max l r)
before_lower here None l r low rest = omega (arith, low)
before_lower here (Some next) l r low rest = omega (arith, height-Serial here next, low, rest)

both_lower : (first rest : Option Net) (l r : ℕ) → IfSome first (λ here. height here ≤ l) → IfSome rest (λ next. height next ≤ r) → IfSome (both first rest) (λ next. height next ≤ suc (max l r))
both_lower None None l r one two = tt
both_lower None (Some next) l r one two = omega (arith, two)
both_lower (Some here) rest l r one two = before_lower here rest l r one two

alone_lower : (net other : Net) → height other ≤ height net → Lower net (alone other)
alone_lower net other low = record { first = low; behind = low }

abbrev KeepsLow : Net → Type 0
KeepsLow net = Lower net (slim net)

of_form : (x : Net-F Net) (net : Net) → roll-Net x ≡ net → Lower net (slim_step (map-Net _ _ slim x)) → Lower net (slim net)
of_form x net is h = subst (Lower net) (sym (ap slim (sym is) ∙ fold-roll-Net Slim slim_step x)) h

serial_lower : (left right : Net) → KeepsLow left → KeepsLow right → KeepsLow (Serial left right)
serial_lower left right l r =
    of_form (Net-F.Serial left right) (Serial left right) (rolls-Serial left right)
    (record {
      first = through (height (before (slimmed left) (slim right).behind)) _ _ (before_lower (slimmed left) (slim right).behind (height left) (height right) l.first r.behind) whole;
      behind = all_low (both (slim left).behind (slim right).behind) (both_lower (slim left).behind (slim right).behind (height left) (height right) l.behind r.behind);
    })
  where
    whole : suc (max (height left) (height right)) ≤ height (Serial left right)
    whole = omega (arith, height-Serial left right)

    all_low : (rest : Option Net) → IfSome rest (λ next. height next ≤ suc (max (height left) (height right))) → IfSome rest (λ next. height next ≤ height (Serial left right))
    all_low None low = tt
    all_low (Some next) low = through (height next) _ _ low whole

filter_lower : (form : FilterForm) → IfSome (unless_identity form) (λ next. height next ≤ height (FilterLeaf form))
filter_lower form = at (gives_back form)
  where
    at : (b : Bool) → IfSome (cond b None (Some (FilterLeaf form))) (λ next. height next ≤ height (FilterLeaf form))
    at true = tt
    at false = even (height (FilterLeaf form))

each_lower : (nets : List ((net : Net) × KeepsLow net)) → highest (map height (map begun (map slim (map (λ e. e.0) nets)))) ≤ highest (map height (map (λ e. e.0) nets))
each_lower [] = even 0
each_lower (net ∷ nets) = omega (arith, net.1.first, each_lower nets)

slims_lower : (net : Net) → KeepsLow net
slims_lower = ind-Net KeepsLow (λ x y is. subst (λ z. KeepsLow (roll-Net z)) is
    (elim y as (λ z. KeepsLow (roll-Net (map-Net _ _ (λ e. e.0) z))) [
      | Net-F.Box place number ↦ subst KeepsLow (sym (rolls-Box place number)) (of_form (Net-F.Box place number) (Box place number) (rolls-Box place number) (alone_lower (Box place number) (Box place number) (even (height (Box place number)))))
      | Net-F.Filter form ↦ subst KeepsLow (sym (rolls-Filter form))
          (of_form (Net-F.Filter form) (FilterLeaf form) (rolls-Filter form) (record { first = even (height (FilterLeaf form)); behind = filter_lower form }))
      | Net-F.Sync place patterns ↦ subst KeepsLow (sym (rolls-Sync place patterns)) (of_form (Net-F.Sync place patterns) (Sync place patterns) (rolls-Sync place patterns) (alone_lower (Sync place patterns) (Sync place patterns) (even (height (Sync place patterns)))))
      | Net-F.Serial left right ↦ subst KeepsLow (sym (rolls-Serial left.0 right.0)) (serial_lower left.0 right.0 left.1 right.1)
      | Net-F.Choice place m branches faces ↦ subst KeepsLow (sym (rolls-Choice place m (map (λ e. e.0) branches) faces))
          (of_form (Net-F.Choice place m (map (λ e. e.0) branches) faces) (ChoiceNet place m (map (λ e. e.0) branches) faces) (rolls-Choice place m (map (λ e. e.0) branches) faces)
          (alone_lower (ChoiceNet place m (map (λ e. e.0) branches) faces) (ChoiceNet place m (map begun (map slim (map (λ e. e.0) branches))) faces)
          (omega (arith, height-Choice place m (map (λ e. e.0) branches) faces, height-Choice place m (map begun (map slim (map (λ e. e.0) branches))) faces, each_lower branches))))
      | Net-F.Star place m body exit guard ↦ subst KeepsLow (sym (rolls-Star place m body.0 exit guard))
          (of_form (Net-F.Star place m body.0 exit guard) (StarNet place m body.0 exit guard) (rolls-Star place m body.0 exit guard)
          (alone_lower (StarNet place m body.0 exit guard) (StarNet place m (slimmed body.0) exit guard)
          (omega (arith, height-Star place m body.0 exit guard, height-Star place m (slimmed body.0) exit guard, body.1.first))))
      | Net-F.Split place m body id ↦ subst KeepsLow (sym (rolls-Split place m body.0 id))
          (of_form (Net-F.Split place m body.0 id) (SplitNet place m body.0 id) (rolls-Split place m body.0 id)
          (alone_lower (SplitNet place m body.0 id) (SplitNet place m (slimmed body.0) id)
          (omega (arith, height-Split place m body.0 id, height-Split place m (slimmed body.0) id, body.1.first))))
    ]))

pub slim_lower : (net : Net) → height (slimmed net) ≤ height net
slim_lower net = (slims_lower net).first

-- ---- flat

highest_append : (ns ms : List Net) (n : ℕ) → highest (map height ns) ≤ n → highest (map height ms) ≤ n → highest (map height (ns ++ ms)) ≤ n
highest_append [] ms n first second = second
highest_append (net ∷ ns) ms n first second =
    let here : height net ≤ n = omega (arith, first) in
    let rest : highest (map height ns) ≤ n = omega (arith, first) in
    let behind : highest (map height (ns ++ ms)) ≤ n = highest_append ns ms n rest second in
    omega (arith, here, behind)

-- the branches of a choice are lower than it
inner_lower : (merge : Merge) (net : Net) (inner : List Net) → branches_in merge (out-Net net) ≡ Some inner → highest (map height inner) ≤ height net
inner_lower merge net inner is =
    let choice = is_choice merge net inner is in
    subst (λ (n : Net). highest (map height inner) ≤ height n) (sym choice.is) (omega (arith, height-Choice choice.place merge inner choice.faces))

spread_lower : (merge : Merge) (n count : ℕ) (nets : List Net) → highest (map height nets) ≤ n → highest (map height (spread merge count nets)) ≤ n
spread_lower merge n count [] low = low
spread_lower merge n count (net ∷ nets) low = at (branches_in merge (out-Net net)) refl (λ k. spread_lower merge n k nets rest)
  where
    here : height net ≤ n
    here = omega (arith, low)

    rest : highest (map height nets) ≤ n
    rest = omega (arith, low)

    stays : ((k : ℕ) → highest (map height (spread merge k nets)) ≤ n) → highest (map height (net ∷ spread merge count nets)) ≤ n
    stays behind = let others : highest (map height (spread merge count nets)) ≤ n = behind count in omega (arith, here, others)

    at : (b : Option (List Net)) → branches_in merge (out-Net net) ≡ b → ((k : ℕ) → highest (map height (spread merge k nets)) ≤ n) → highest (map height (in_place count net b (λ k. spread merge k nets))) ≤ n
    at None is behind = stays behind
    at (Some inner) is behind = which (nat_le (pred count + length inner) most_branches)
      where
        which : (b : Bool) → highest (map height (cond b (inner ++ spread merge (pred count + length inner) nets) (net ∷ spread merge count nets))) ≤ n
        which true = highest_append inner (spread merge (pred count + length inner) nets) n (through _ _ n (inner_lower merge net inner is) here) (behind (pred count + length inner))
        which false = stays behind

module _ (boxes : List BoxProgram) where
  abbrev KeepsFlat : Net → Type 0
  KeepsFlat net = height (flattened boxes net) ≤ height net

  flat_form : (x : Net-F Net) (net : Net) → roll-Net x ≡ net → height (flat_step boxes (map-Net _ _ (flattened boxes) x)) ≤ height net → KeepsFlat net
  flat_form x net is h = subst (λ made. height made ≤ height net) (sym (ap (flattened boxes) (sym is) ∙ fold-roll-Net Net (flat_step boxes) x)) h

  each_flat : (nets : List ((net : Net) × KeepsFlat net)) → highest (map height (map (flattened boxes) (map (λ e. e.0) nets))) ≤ highest (map height (map (λ e. e.0) nets))
  each_flat [] = even 0
  each_flat (net ∷ nets) = omega (arith, net.1, each_flat nets)

  choice_flat : (place : ℕ) (m : Merge) (branches : List ((net : Net) × KeepsFlat net)) (faces : List (List Labels)) → KeepsFlat (ChoiceNet place m (map (λ e. e.0) branches) faces)
  choice_flat place m branches faces =
      let nets = map (λ e. e.0) branches in
      let flats = map (flattened boxes) nets in
      let made = spread m (length flats) flats in
      flat_form (Net-F.Choice place m nets faces) (ChoiceNet place m nets faces) (rolls-Choice place m nets faces)
      (up_to (height (choice_of boxes place m made)) _ _ (height-Choice place m made (map (face boxes) made))
      (up_to' (highest (map height made)) (highest (map height nets)) (height (ChoiceNet place m nets faces)) (spread_lower m (highest (map height nets)) (length flats) flats (each_flat branches)) (height-Choice place m nets faces)))
    where
      up_to' : (k m n : ℕ) → k ≤ m → n ≡ suc m → suc k ≤ n
      up_to' k m n less is = omega (arith, less, is)

  pub flat_lower : (net : Net) → KeepsFlat net
  flat_lower = ind-Net KeepsFlat (λ x y is. subst (λ z. KeepsFlat (roll-Net z)) is
      (elim y as (λ z. KeepsFlat (roll-Net (map-Net _ _ (λ e. e.0) z))) [
        | Net-F.Box place number ↦ subst KeepsFlat (sym (rolls-Box place number)) (flat_form (Net-F.Box place number) (Box place number) (rolls-Box place number) (even (height (Box place number))))
        | Net-F.Filter form ↦ subst KeepsFlat (sym (rolls-Filter form)) (flat_form (Net-F.Filter form) (FilterLeaf form) (rolls-Filter form) (even (height (FilterLeaf form))))
        | Net-F.Sync place patterns ↦ subst KeepsFlat (sym (rolls-Sync place patterns)) (flat_form (Net-F.Sync place patterns) (Sync place patterns) (rolls-Sync place patterns) (even (height (Sync place patterns))))
        | Net-F.Serial left right ↦ subst KeepsFlat (sym (rolls-Serial left.0 right.0))
            (flat_form (Net-F.Serial left.0 right.0) (Serial left.0 right.0) (rolls-Serial left.0 right.0)
            (omega (arith, height-Serial (flattened boxes left.0) (flattened boxes right.0), height-Serial left.0 right.0, left.1, right.1)))
        | Net-F.Choice place m branches faces ↦ subst KeepsFlat (sym (rolls-Choice place m (map (λ e. e.0) branches) faces)) (choice_flat place m branches faces)
        | Net-F.Star place m body exit guard ↦ subst KeepsFlat (sym (rolls-Star place m body.0 exit guard))
            (flat_form (Net-F.Star place m body.0 exit guard) (StarNet place m body.0 exit guard) (rolls-Star place m body.0 exit guard)
            (omega (arith, height-Star place m (flattened boxes body.0) exit guard, height-Star place m body.0 exit guard, body.1)))
        | Net-F.Split place m body id ↦ subst KeepsFlat (sym (rolls-Split place m body.0 id))
            (flat_form (Net-F.Split place m body.0 id) (SplitNet place m body.0 id) (rolls-Split place m body.0 id)
            (omega (arith, height-Split place m (flattened boxes body.0) id, height-Split place m body.0 id, body.1)))
      ]))

-- ---- trimmed

abbrev nets_of : Kept → List Net
nets_of k = k.nets

keep_lower : (used : Bool) (net : Net) (behind : Kept) (n : ℕ) → highest (map height (nets_of behind)) ≤ n → highest (map height (nets_of (keep_or_drop used net behind))) ≤ max (height net) n
keep_lower true net behind n low = omega (arith, low)
keep_lower false net behind n low = at (nat_le behind.spare 0)
  where
    at : (b : Bool) → highest (map height (nets_of (cond b (record { nets = net ∷ behind.nets; spare = behind.spare }) (record { nets = behind.nets; spare = pred behind.spare })))) ≤ max (height net) n
    at true = omega (arith, low)
    at false = omega (arith, low)

kept_lower : (used : ℕ → Bool) (spare i : ℕ) (nets : List Net) → highest (map height (nets_of (kept_from used spare i nets))) ≤ highest (map height nets)
kept_lower used spare i [] = even 0
kept_lower used spare i (net ∷ nets) = keep_lower (used i) net (kept_from used spare (suc i) nets) (highest (map height nets)) (kept_lower used spare (suc i) nets)

module _ (boxes : List BoxProgram) (root : Outline) (input : List Labels) where
  pub trimmed_lower : (way : List Turn) (net net' : Net) → Trimmed boxes root input way net net' → height net' ≤ height net
  trimmed_lower way net net' (box w place number) = even (height (Box place number))
  trimmed_lower way net net' (filter w form) = even (height (FilterLeaf form))
  trimmed_lower way net net' (sync w place patterns) = even (height (Sync place patterns))
  trimmed_lower way net net' (serial w l l' r r' one two) =
      let first : height l' ≤ height l = trimmed_lower (w ++ Left ∷ []) l l' one in
      let second : height r' ≤ height r = trimmed_lower (w ++ Right ∷ []) r r' two in
      omega (arith, height-Serial l r, height-Serial l' r', first, second)
  trimmed_lower way net net' (choice_form w place m branches faces used decides) =
      omega (arith, height-Choice place m branches faces, height-Choice place m (kept used branches) (map (face boxes) (kept used branches)), kept_lower used (droppable (length branches)) 0 branches)
  trimmed_lower way net net' (star w place m body body' exit guard trims) =
      let inner : height body' ≤ height body = trimmed_lower (w ++ Body ∷ []) body body' trims in
      omega (arith, height-Star place m body exit guard, height-Star place m body' exit guard, inner)
  trimmed_lower way net net' (split_form w place m body body' id trims) =
      let inner : height body' ≤ height body = trimmed_lower (w ++ Body ∷ []) body body' trims in
      omega (arith, height-Split place m body id, height-Split place m body' id, inner)

pub plan_lower : (boxes : List BoxProgram) (claim : Claim) (planned : Net) → IsPlan boxes claim planned → height planned ≤ height claim.net
plan_lower boxes claim planned plan =
    let flat : height (flattened boxes claim.net) ≤ height claim.net = flat_lower boxes claim.net in
    let trimmed : height plan.trimmed ≤ height (flattened boxes claim.net) = trimmed_lower boxes (outline boxes (flattened boxes claim.net)) claim.input [] (flattened boxes claim.net) plan.trimmed plan.trims in
    let slim : height (slimmed plan.trimmed) ≤ height plan.trimmed = slim_lower plan.trimmed in
    subst (λ net. height net ≤ height claim.net) (sym plan.slim) (omega (arith, flat, trimmed, slim))
