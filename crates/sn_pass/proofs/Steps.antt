-- One step of each form of network, from the steps of its parts.
use Rattle.std.proofs.Common.{◌≡◌, ℕ, ℤ, ◌+◌, ◌-◌, ◌<◌, true, false, List, [], ◌∷◌, ◌++◌, length, map, set, refl, sym, ap, ap₂, ◌∙◌, subst, append-nil}
use Rattle.std.specs.Ordering.{int_eq}
use Rattle.std.specs.Option.{option_map}
use Rattle.std.specs.Prelude.{slice_get, Option, Some}
use Rattle.std.proofs.lemmas.Option.{slice_get-map}
use Rattle.sn_record.specs.LabelSet.{Labels}
use Rattle.sn_streams.specs.Keys.{Own, Branch, Value}
use Rattle.sn_streams.specs.Machines.{emitted, after}
use Rattle.sn_streams.specs.Trees.{Tree, Series}
use Rattle.sn_streams.proofs.Machines.{emitted-append, after-append}
use Rattle.sn_tagexpr.specs.declared.expr.TagExpr.{TagExpr}
use Rattle.sn_net.specs.declared.filter.Filter.{Filter}
use Rattle.sn_net.specs.declared.net.Merge.{Merge}
use Rattle.sn_net.specs.declared.net.Net.{Net}
use Rattle.sn_net.specs.declared.net.Net.TheVariants.{Box, Filter as FilterLeaf, Sync, Serial, Choice, Star, Split}
use Rattle.sn_net.specs.Cell.{CellState, new_cell, cell_next, cell_emits}
use Rattle.sn_net.specs.Dispatchers.{Network, stream_key, passed_by, choice, split}
use Rattle.sn_net.specs.Item.{ModelItem}
use Rattle.sn_net.specs.Route.{choice_key, split_key, of_record}
use Rattle.sn_model.specs.Components.{box_item, filter_item}
use Rattle.sn_model.specs.Meaning.{Setting, tree, one_list}
use Rattle.sn_model.proofs.Forms.{tree-Box, tree-Filter, tree-Sync, tree-Serial, tree-Choice, tree-Star, tree-Split}
use Rattle.sn_pass.specs.Held.{kept_at, branches_held, replicas_held, levels_held}
use Rattle.sn_pass.specs.Keeping.{Keeping, Fresh, At, Both, state_or, left_of, right_of, keeping, Same}
use Rattle.sn_pass.specs.Levels.{StarParts, key_here, goes_inside, entries, stack_gives, stack_keeps}
use Rattle.sn_pass.specs.Steps.{Steps, Runs}
use Rattle.sn_pass.proofs.Dispatching.{choice_passes_emits, choice_passes_next, branch_emits, split_passes_emits, split_passes_next, replica_emits}
use Rattle.sn_pass.proofs.Held.{branch_set, replica_set, level_set}
use Rattle.sn_pass.proofs.Keeping.{same_refl, same_sym, same_trans, same_emits, same_next, same_emitted, keeping_later}
use Rattle.sn_pass.proofs.Turns.{SameLevels, Turned, turn_enters, star_gives, star_keeps}

abbrev Kept : Type 0
Kept = Keeping CellState

module _ {A S : Type 0} (t : Tree A S) where
  -- before the first item
  pub runs_none : (q : Keeping S) → Runs t q [] [] q
  runs_none q = record { gives = refl; keeps = same_refl t q }

  -- one item more
  pub runs_more : (q between later : Keeping S) (xs ys zs : List A) (x : A) → Runs t q xs ys between → Steps t between x zs later → Runs t q (xs ++ x ∷ []) (ys ++ zs) later
  runs_more q between later xs ys zs x before step = record {
    gives =
        emitted-append (keeping t) q xs (x ∷ [])
        ∙ ap₂ (λ us vs. us ++ vs) before.gives
        (append-nil ((keeping t).emits (after (keeping t) q xs) x) ∙ sym (same_emits t between (after (keeping t) q xs) before.keeps x) ∙ step.gives);
    keeps =
        subst (λ (p : Keeping S). Same t later p) (sym (after-append (keeping t) q xs (x ∷ [])))
        (same_trans t later ((keeping t).next between x) ((keeping t).next (after (keeping t) q xs) x) step.keeps (same_next t between (after (keeping t) q xs) before.keeps x));
  }

-- what the left part gives for the item runs through the right part
pub series_steps : {A S : Type 0} (a b : Tree A S) (q l r : Keeping S) (x : A) (ys zs : List A) → Steps a (left_of q) x ys l → Runs b (right_of q) ys zs r → Steps (Series a b) q x zs (Both l r)
series_steps {A} {S} a b q l r x ys zs left right = record {
  gives = ap (emitted (keeping b) (right_of q)) left.gives ∙ right.gives;
  keeps = (left.keeps, subst (λ (us : List A). Same b r (after (keeping b) (right_of q) us)) (sym left.gives) right.keeps);
}

-- a tree that is known up to a path
steps_at : (t u : Network) (q : Kept) (x : ModelItem) (ys : List ModelItem) (later : Kept) → t ≡ u → Steps u q x ys later → Steps t q x ys later
steps_at t u q x ys later is step = subst (λ (v : Network). Steps v q x ys later) (sym is) step

module _ (s : Setting) where
  -- the one-thread meaning: what items gave so far, and what later items give from what is kept then
  pub one_of_runs : (net : Net) (xs ys later : List ModelItem) (q : Kept) → Runs (tree s net) Fresh xs ys q → one_list s net (xs ++ later) ≡ ys ++ emitted (keeping (tree s net)) q later
  one_of_runs net xs ys later q before =
      keeping_later (tree s net) xs later
      ∙ ap₂ (λ us vs. us ++ vs) before.gives (sym (same_emitted (tree s net) q (after (keeping (tree s net)) Fresh xs) before.keeps later))

  pub box_steps : (place number : ℕ) (q : Kept) (x : ModelItem) → Steps (tree s (Box place number)) q x (box_item s.boxes s.fuel place number x) q
  box_steps place number q x = steps_at _ _ q x _ q (tree-Box s place number) (record { gives = refl; keeps = λ xs. refl })

  pub filter_steps : (filter : Filter) (q : Kept) (x : ModelItem) → Steps (tree s (FilterLeaf filter)) q x (filter_item filter x) q
  filter_steps filter q x = steps_at _ _ q x _ q (tree-Filter s filter) (record { gives = refl; keeps = λ xs. refl })

  pub sync_steps : (place : ℕ) (patterns : List Labels) (q : Kept) (x : ModelItem)
      → Steps (tree s (Sync place patterns)) q x (cell_emits place patterns (state_or (new_cell patterns) q) x) (At (cell_next patterns (state_or (new_cell patterns) q) x))
  sync_steps place patterns q x = steps_at _ _ q x _ _ (tree-Sync s place patterns) (record { gives = refl; keeps = λ xs. refl })

  pub serial_steps : (left right : Net) (q l r : Kept) (x : ModelItem) (ys zs : List ModelItem)
      → Steps (tree s left) (left_of q) x ys l → Runs (tree s right) (right_of q) ys zs r → Steps (tree s (Serial left right)) q x zs (Both l r)
  serial_steps left right q l r x ys zs first second =
      steps_at _ _ q x zs (Both l r) (tree-Serial s left right) (series_steps (tree s left) (tree s right) q l r x ys zs first second)

  -- an item that passes all branches by
  pub choice_passes : (place : ℕ) (m : Merge) (branches : List Net) (faces : List (List Labels)) (q : Kept) (x : ModelItem) → stream_key (of_record (choice_key faces) x) ≡ Own
      → Steps (tree s (Choice place m branches faces)) q x (passed_by place (of_record (choice_key faces) x) x ∷ []) q
  choice_passes place m branches faces q x past =
      let whole : Network = choice place m faces (map (tree s) branches) in
      steps_at _ whole q x _ q (tree-Choice s place m branches faces)
      (record {
        gives = choice_passes_emits place m faces (map (tree s) branches) q x past;
        keeps = same_sym whole ((keeping whole).next q x) q (choice_passes_next place m faces (map (tree s) branches) q x past);
      })

  -- an item that goes to a branch
  pub choice_goes : (place : ℕ) (m : Merge) (branches : List Net) (faces : List (List Labels)) (i : ℕ) (branch : Net) (states : List Kept) (later : Kept) (x : ModelItem) (ys : List ModelItem)
      → stream_key (of_record (choice_key faces) x) ≡ Branch i → slice_get branches i ≡ Some branch → i < length states → Steps (tree s branch) (kept_at states i) x ys later
      → Steps (tree s (Choice place m branches faces)) (branches_held states) x ys (branches_held (set states i later))
  choice_goes place m branches faces i branch states later x ys goes there within step =
      let whole : Network = choice place m faces (map (tree s) branches) in
      let tree_there : slice_get (map (tree s) branches) i ≡ Some (tree s branch) = slice_get-map (tree s) branches i ∙ ap (option_map (tree s)) there in
      steps_at _ whole (branches_held states) x ys (branches_held (set states i later)) (tree-Choice s place m branches faces)
      (record {
        gives = branch_emits place m faces (map (tree s) branches) i (tree s branch) (branches_held states) x goes tree_there ∙ step.gives;
        keeps = branch_set place m faces (map (tree s) branches) i (tree s branch) states later x goes tree_there within step.keeps;
      })

  -- an item that passes all replicas by
  pub split_passes : (place : ℕ) (m : Merge) (body : Net) (id : ℕ) (q : Kept) (x : ModelItem) → stream_key (of_record (split_key id) x) ≡ Own
      → Steps (tree s (Split place m body id)) q x (passed_by place (of_record (split_key id) x) x ∷ []) q
  split_passes place m body id q x past =
      let whole : Network = split place m id (tree s body) in
      steps_at _ whole q x _ q (tree-Split s place m body id)
      (record {
        gives = split_passes_emits place m id (tree s body) q x past;
        keeps = same_sym whole ((keeping whole).next q x) q (split_passes_next place m id (tree s body) q x past);
      })

  -- an item that goes to the replica for a value
  pub split_goes : (place : ℕ) (m : Merge) (body : Net) (id : ℕ) (n : ℤ) (states later : ℤ → Kept) (x : ModelItem) (ys : List ModelItem)
      → stream_key (of_record (split_key id) x) ≡ Value n → Steps (tree s body) (states n) x ys (later n) → ((k : ℤ) → int_eq k n ≡ false → later k ≡ states k)
      → Steps (tree s (Split place m body id)) (replicas_held states) x ys (replicas_held later)
  split_goes place m body id n states later x ys goes step others =
      steps_at _ (split place m id (tree s body)) (replicas_held states) x ys (replicas_held later) (tree-Split s place m body id)
      (record {
        gives = replica_emits place m id (tree s body) n (replicas_held states) x goes ∙ step.gives;
        keeps = replica_set place m id (tree s body) n states later x goes step.keeps others;
      })

  -- what a star is made of, with the tree of its body
  abbrev pub star_of : ℕ → Merge → Net → Labels → Option TagExpr → StarParts
  star_of place m body exit guard = record { place = place; merge = m; exit = exit; guard = guard; body = tree s body }

  -- an item that comes to a star: all of it is worked off, level by level
  pub star_steps : (place : ℕ) (m : Merge) (body : Net) (exit : Labels) (guard : Option TagExpr) (bodies later : List Kept) (x : ModelItem) (ys : List ModelItem)
      → stack_gives (star_of place m body exit guard) s.depth (kept_at bodies) ((0, x) ∷ []) ≡ ys
      → SameLevels (star_of place m body exit guard) (stack_keeps (star_of place m body exit guard) s.depth (kept_at bodies) ((0, x) ∷ [])) (kept_at later)
      → Steps (tree s (Star place m body exit guard)) (levels_held bodies) x ys (levels_held later)
  star_steps place m body exit guard bodies later x ys gave same =
      let star = star_of place m body exit guard in
      steps_at _ _ (levels_held bodies) x ys (levels_held later) (tree-Star s place m body exit guard)
      (record { gives = sym (star_gives star s.depth bodies x) ∙ gave; keeps = star_keeps star s.depth bodies later x same })

-- a turn of the stack of a star in which an item goes into the body of its level
pub star_turn : (star : StarParts) (depth i : ℕ) (bodies : List Kept) (later : Kept) (x : ModelItem) (ys : List ModelItem) (rest : List (ℕ × ModelItem))
    → i < depth → goes_inside (key_here star (depth - i) x) ≡ true → i < length bodies → Steps star.body (kept_at bodies i) x ys later
    → Turned star depth (kept_at bodies) ((i, x) ∷ rest) [] (kept_at (set bodies i later)) (entries (i + 1) ys ++ rest)
star_turn star depth i bodies later x ys rest below inside within step =
    subst (λ (us : List ModelItem). Turned star depth (kept_at bodies) ((i, x) ∷ rest) [] (kept_at (set bodies i later)) (entries (i + 1) us ++ rest)) step.gives
    (turn_enters star depth i (kept_at bodies) (kept_at (set bodies i later)) x rest below inside
    (level_set star bodies i ((keeping star.body).next (kept_at bodies i) x) later within
    (same_sym star.body later ((keeping star.body).next (kept_at bodies i) x) step.keeps)))
