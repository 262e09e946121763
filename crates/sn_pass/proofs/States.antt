-- The states of the components, form by form of what is kept.
use Rattle.std.proofs.Common.{◌≡◌, ℕ, ℤ, true, false, cond, Some, List, [], ◌∷◌, map, refl, sym, ap, ◌∙◌, subst}
use Rattle.std.specs.Prelude.{unwrap_or}
use Rattle.std.specs.BTreeMap.{BTreeMap, is_at}
use Rattle.std.specs.Map.{lookup}
use Rattle.std.specs.Option.{option_map}
use Rattle.std.specs.Ordering.{int_cmp, is_eq}
use Rattle.sn_streams.specs.Keys.{Branch, Inside, Value}
use Rattle.sn_net.specs.Cell.{CellState}
use Rattle.sn_pass.specs.Held.{kept_at, levels_held}
use Rattle.sn_pass.specs.Keeping.{Keeping, Fresh, At, child_of, left_of, right_of, state_or}
use Rattle.sn_pass.specs.States.{at_value, held, held_step}
use Rattle.sn_pass.specs.declared.kept.Kept.{Kept}
use Rattle.sn_pass.specs.declared.kept.Kept.TheOpen.{Kept-F}
use Rattle.sn_pass.specs.declared.kept.Kept.TheFolds.{fold-roll-Kept, map-Kept}
use Rattle.sn_pass.specs.declared.kept.Kept.TheVariants as kept
use Rattle.sn_pass.specs.declared.kept.Kept.TheViews.{out-Kept, roll-Kept, roll-out-Kept}

-- one level
level : (x : Kept-F Kept) → held (roll-Kept x) ≡ held_step (map-Kept Kept (Keeping CellState) held x)
level x = fold-roll-Kept (Keeping CellState) held_step x

-- what holds of each form holds of what is kept
by_form : (P : Kept → Type 0) → ((x : Kept-F Kept) → P (roll-Kept x)) → (k : Kept) → P k
by_form P each k = subst P (roll-out-Kept k) (each (out-Kept k))

pub held-Fresh : held kept.Fresh ≡ Fresh
held-Fresh = ap held (sym kept.rolls-Fresh) ∙ level Kept-F.Fresh

-- a star keeps nothing for a branch or a value
no_branch : (bodies : List (Keeping CellState)) (i : ℕ) → child_of (levels_held bodies) (Branch i) ≡ Fresh
no_branch [] i = refl
no_branch (body ∷ bodies) i = refl

no_value : (bodies : List (Keeping CellState)) (n : ℤ) → child_of (levels_held bodies) (Value n) ≡ Fresh
no_value [] n = refl
no_value (body ∷ bodies) n = refl

no_state : (start : CellState) (bodies : List (Keeping CellState)) → state_or start (levels_held bodies) ≡ start
no_state start [] = refl
no_state start (body ∷ bodies) = refl

no_left : (bodies : List (Keeping CellState)) → left_of (levels_held bodies) ≡ Fresh
no_left [] = refl
no_left (body ∷ bodies) = refl

no_right : (bodies : List (Keeping CellState)) → right_of (levels_held bodies) ≡ Fresh
no_right [] = refl
no_right (body ∷ bodies) = refl

-- what is not kept in a form reads there as nothing
pub no_cell : (start : CellState) (k : Kept) → ((holding : CellState) → k ≡ kept.Cell holding → ⊥) → state_or start (held k) ≡ start
no_cell start = by_form (λ k. ((holding : CellState) → k ≡ kept.Cell holding → ⊥) → state_or start (held k) ≡ start) at
  where
    at : (x : Kept-F Kept) → ((holding : CellState) → roll-Kept x ≡ kept.Cell holding → ⊥) → state_or start (held (roll-Kept x)) ≡ start
    at Kept-F.Fresh other = ap (state_or start) (level Kept-F.Fresh)
    at (Kept-F.Cell holding) other = absurd (other holding (kept.rolls-Cell holding))
    at (Kept-F.Parts parts) other = ap (state_or start) (level (Kept-F.Parts parts))
    at (Kept-F.Branches branches) other = ap (state_or start) (level (Kept-F.Branches branches))
    at (Kept-F.Levels levels) other = ap (state_or start) (level (Kept-F.Levels levels)) ∙ no_state start (map held levels.items)
    at (Kept-F.Replicas replicas) other = ap (state_or start) (level (Kept-F.Replicas replicas))

pub no_parts : (k : Kept) → ((parts : _) → k ≡ kept.Parts parts → ⊥) → (left_of (held k) ≡ Fresh) × (right_of (held k) ≡ Fresh)
no_parts = by_form (λ k. ((parts : _) → k ≡ kept.Parts parts → ⊥) → (left_of (held k) ≡ Fresh) × (right_of (held k) ≡ Fresh)) at
  where
    at : (x : Kept-F Kept) → ((parts : _) → roll-Kept x ≡ kept.Parts parts → ⊥) → (left_of (held (roll-Kept x)) ≡ Fresh) × (right_of (held (roll-Kept x)) ≡ Fresh)
    at Kept-F.Fresh other = (ap left_of (level Kept-F.Fresh), ap right_of (level Kept-F.Fresh))
    at (Kept-F.Cell holding) other = (ap left_of (level (Kept-F.Cell holding)), ap right_of (level (Kept-F.Cell holding)))
    at (Kept-F.Parts parts) other = absurd (other parts (kept.rolls-Parts parts))
    at (Kept-F.Branches branches) other = (ap left_of (level (Kept-F.Branches branches)), ap right_of (level (Kept-F.Branches branches)))
    at (Kept-F.Levels levels) other =
        (ap left_of (level (Kept-F.Levels levels)) ∙ no_left (map held levels.items), ap right_of (level (Kept-F.Levels levels)) ∙ no_right (map held levels.items))
    at (Kept-F.Replicas replicas) other = (ap left_of (level (Kept-F.Replicas replicas)), ap right_of (level (Kept-F.Replicas replicas)))

pub no_branches : (i : ℕ) (k : Kept) → ((branches : _) → k ≡ kept.Branches branches → ⊥) → child_of (held k) (Branch i) ≡ Fresh
no_branches i = by_form (λ k. ((branches : _) → k ≡ kept.Branches branches → ⊥) → child_of (held k) (Branch i) ≡ Fresh) at
  where
    at : (x : Kept-F Kept) → ((branches : _) → roll-Kept x ≡ kept.Branches branches → ⊥) → child_of (held (roll-Kept x)) (Branch i) ≡ Fresh
    at Kept-F.Fresh other = ap (λ q. child_of q (Branch i)) (level Kept-F.Fresh)
    at (Kept-F.Cell holding) other = ap (λ q. child_of q (Branch i)) (level (Kept-F.Cell holding))
    at (Kept-F.Parts parts) other = ap (λ q. child_of q (Branch i)) (level (Kept-F.Parts parts))
    at (Kept-F.Branches branches) other = absurd (other branches (kept.rolls-Branches branches))
    at (Kept-F.Levels levels) other = ap (λ q. child_of q (Branch i)) (level (Kept-F.Levels levels)) ∙ no_branch (map held levels.items) i
    at (Kept-F.Replicas replicas) other = ap (λ q. child_of q (Branch i)) (level (Kept-F.Replicas replicas))

pub no_levels : (k : Kept) → ((levels : _) → k ≡ kept.Levels levels → ⊥) → child_of (held k) Inside ≡ Fresh
no_levels = by_form (λ k. ((levels : _) → k ≡ kept.Levels levels → ⊥) → child_of (held k) Inside ≡ Fresh) at
  where
    at : (x : Kept-F Kept) → ((levels : _) → roll-Kept x ≡ kept.Levels levels → ⊥) → child_of (held (roll-Kept x)) Inside ≡ Fresh
    at Kept-F.Fresh other = ap (λ q. child_of q Inside) (level Kept-F.Fresh)
    at (Kept-F.Cell holding) other = ap (λ q. child_of q Inside) (level (Kept-F.Cell holding))
    at (Kept-F.Parts parts) other = ap (λ q. child_of q Inside) (level (Kept-F.Parts parts))
    at (Kept-F.Branches branches) other = ap (λ q. child_of q Inside) (level (Kept-F.Branches branches))
    at (Kept-F.Levels levels) other = absurd (other levels (kept.rolls-Levels levels))
    at (Kept-F.Replicas replicas) other = ap (λ q. child_of q Inside) (level (Kept-F.Replicas replicas))

pub no_replicas : (n : ℤ) (k : Kept) → ((replicas : _) → k ≡ kept.Replicas replicas → ⊥) → child_of (held k) (Value n) ≡ Fresh
no_replicas n = by_form (λ k. ((replicas : _) → k ≡ kept.Replicas replicas → ⊥) → child_of (held k) (Value n) ≡ Fresh) at
  where
    at : (x : Kept-F Kept) → ((replicas : _) → roll-Kept x ≡ kept.Replicas replicas → ⊥) → child_of (held (roll-Kept x)) (Value n) ≡ Fresh
    at Kept-F.Fresh other = ap (λ q. child_of q (Value n)) (level Kept-F.Fresh)
    at (Kept-F.Cell holding) other = ap (λ q. child_of q (Value n)) (level (Kept-F.Cell holding))
    at (Kept-F.Parts parts) other = ap (λ q. child_of q (Value n)) (level (Kept-F.Parts parts))
    at (Kept-F.Branches branches) other = ap (λ q. child_of q (Value n)) (level (Kept-F.Branches branches))
    at (Kept-F.Levels levels) other = ap (λ q. child_of q (Value n)) (level (Kept-F.Levels levels)) ∙ no_value (map held levels.items) n
    at (Kept-F.Replicas replicas) other = absurd (other replicas (kept.rolls-Replicas replicas))

found_held : (n : ℤ) (es : List (ℤ × Kept)) → lookup (is_at (int_cmp n)) (map (λ e. (e.0, held e.1)) es) ≡ option_map held (lookup (is_at (int_cmp n)) es)
found_held n [] = refl
found_held n (e ∷ es) =
    elim (is_eq (int_cmp n e.0)) as
    (λ b. cond b (Some (held e.1)) (lookup (is_at (int_cmp n)) (map (λ e. (e.0, held e.1)) es)) ≡ option_map held (cond b (Some e.1) (lookup (is_at (int_cmp n)) es))) [
      | true ↦ refl
      | false ↦ found_held n es
    ]

pub replica_held : (replicas : BTreeMap ℤ Kept) (n : ℤ) → child_of (held (kept.Replicas replicas)) (Value n) ≡ at_value replicas n
replica_held replicas n =
    ap (λ q. child_of (held q) (Value n)) (sym (kept.rolls-Replicas replicas)) ∙ ap (λ q. child_of q (Value n)) (level (Kept-F.Replicas replicas))
    ∙ ap (λ o. unwrap_or o Fresh) (found_held n replicas.entries)

pub empty_at : (replicas : BTreeMap ℤ Kept) (n : ℤ) → replicas.entries ≡ [] → at_value replicas n ≡ Fresh
empty_at replicas n empty = ap (λ es. unwrap_or (option_map held (lookup (is_at (int_cmp n)) es)) Fresh) empty

pub held-Parts : (parts : _) → (left_of (held (kept.Parts parts)) ≡ held parts.value.0) × (right_of (held (kept.Parts parts)) ≡ held parts.value.1)
held-Parts parts =
    let is = ap held (sym (kept.rolls-Parts parts)) ∙ level (Kept-F.Parts parts) in
    (ap left_of is, ap right_of is)

pub held-Branches : (branches : _) (i : ℕ) → child_of (held (kept.Branches branches)) (Branch i) ≡ kept_at (map held branches.items) i
held-Branches branches i = ap (λ q. child_of q (Branch i)) (ap held (sym (kept.rolls-Branches branches)) ∙ level (Kept-F.Branches branches))

pub held-Levels : (levels : _) → held (kept.Levels levels) ≡ levels_held (map held levels.items)
held-Levels levels = ap held (sym (kept.rolls-Levels levels)) ∙ level (Kept-F.Levels levels)

pub held-Cell : (holding : CellState) → held (kept.Cell holding) ≡ At holding
held-Cell holding = ap held (sym (kept.rolls-Cell holding)) ∙ level (Kept-F.Cell holding)
