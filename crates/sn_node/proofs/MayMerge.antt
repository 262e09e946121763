-- Whether a merge may happen, by what the dispatcher serves.
use Rattle.std.proofs.Common.{◌≡◌, ℕ, zero, suc, Bool, true, false, ◌&&◌, [], map, refl, sym, ap, subst, ◌∙◌}
use Rattle.std.specs.Prelude.{slice_get, Option, Some, None, unwrap_or, is_some}
use Rattle.std.specs.Option.{option_map}
use Rattle.std.proofs.lemmas.Bool.{false≢true}
use Rattle.sn_streams.specs.Keys.{AreDistinct, Key as StreamKey}
use Rattle.sn_view.specs.View.{Entry, It, Mark, End, Turn, To, Own, State, Alone, Cell, InTurn, Freely, Child, Node, first_of}
use Rattle.sn_view.specs.Next.{child_of, may_merge, may_merge_by, is_turn_of, has_entry, kept_of}
use Rattle.sn_node.proofs.ByKey.{found_has_key, none_has_key, same_place}
use Rattle.sn_node.specs.States.{first_turn, has_key_at, is_freely, is_own, turn_key}

-- something is kept of the child
abbrev pub some_kept : Option Child → Bool
some_kept child = is_some (first_of (unwrap_or (option_map (λ (child : Child). child.kept) child) []))

and_false : (b : Bool) → b && false ≡ false
and_false true = refl
and_false false = refl

pub own_may : (n : Node) → is_freely n.state ≡ false → may_merge n 0 ≡ is_own (first_turn n.state)
own_may n not = at n.state (slice_get n.children 0) not
  where
    by : (d : Option (Entry Turn)) (child : Option Child) → is_turn_of d 0 child && has_entry 0 child ≡ is_own d
    by None child = refl
    by (Some (It (To k))) child = refl
    by (Some (It (Own y))) child = refl
    by (Some Mark) child = refl
    by (Some End) child = refl

    at : (s : State) (child : Option Child) → is_freely s ≡ false → may_merge_by s 0 child ≡ is_own (first_turn s)
    at (InTurn ds) child not = by (first_of ds) child
    at Alone child not = refl
    at (Cell patterns cell) child not = refl
    at (Freely e) child not = absurd (false≢true (sym not))

-- of another child than 0, whose group is served
abbrev group_may_by : Option StreamKey → Option Child → Bool
group_may_by None child = false
group_may_by (Some k) child = has_key_at k child && some_kept child

group_may : (n : Node) (c : ℕ) → is_freely n.state ≡ false → (c ≡ 0 → ⊥) → may_merge n c ≡ group_may_by (turn_key (first_turn n.state)) (slice_get n.children c)
group_may n zero not some = absurd (some refl)
group_may n (suc c) not some = at n.state (slice_get n.children (suc c)) not
  where
    by : (d : Option (Entry Turn)) (child : Option Child) → is_turn_of d (suc c) child && has_entry (suc c) child ≡ group_may_by (turn_key d) child
    by None child = refl
    by (Some (It (To k))) (Some child) = refl
    by (Some (It (To k))) None = refl
    by (Some (It (Own y))) child = refl
    by (Some Mark) child = refl
    by (Some End) child = refl

    at : (s : State) (child : Option Child) → is_freely s ≡ false → may_merge_by s (suc c) child ≡ group_may_by (turn_key (first_turn s)) child
    at (InTurn ds) child not = by (first_of ds) child
    at Alone child not = refl
    at (Cell patterns cell) child not = refl
    at (Freely e) child not = absurd (false≢true (sym not))

pub group_may_some : (n : Node) (c : ℕ) (k : StreamKey) → is_freely n.state ≡ false → (c ≡ 0 → ⊥) → turn_key (first_turn n.state) ≡ Some k
    → may_merge n c ≡ has_key_at k (slice_get n.children c) && is_some (first_of (kept_of n.children c))
group_may_some n c k not some key = group_may n c not some ∙ ap (λ o. group_may_by o (slice_get n.children c)) key

-- of a child without the key whose group is served nothing may be merged
other_turn : (n : Node) (k : StreamKey) → is_freely n.state ≡ false → is_own (first_turn n.state) ≡ false → turn_key (first_turn n.state) ≡ Some k
    → (c : ℕ) → has_key_at k (slice_get n.children c) ≡ false → may_merge n c ≡ false
other_turn n k not own key zero none = own_may n not ∙ own
other_turn n k not own key (suc c) none =
    group_may_some n (suc c) k not (λ e. suc_not_zero c e) key ∙ ap (λ b. b && is_some (first_of (kept_of n.children (suc c)))) none
  where
    suc_not_zero : (c : ℕ) → suc c ≡ 0 → ⊥
    suc_not_zero c e = cc

-- so where no child has it nothing may be merged
pub no_turn : (n : Node) (k : StreamKey) → is_freely n.state ≡ false → is_own (first_turn n.state) ≡ false → turn_key (first_turn n.state) ≡ Some k
    → child_of n.children k ≡ None → (c : ℕ) → may_merge n c ≡ false
no_turn n k not own key none c = other_turn n k not own key c (none_has_key k 0 n.children none c)

-- and where keys differ, the child that is found alone may have something
pub stuck_turn : (n : Node) (k : StreamKey) (d : ℕ) → is_freely n.state ≡ false → is_own (first_turn n.state) ≡ false → turn_key (first_turn n.state) ≡ Some k
    → AreDistinct (map (λ (child : Child). child.key) n.children) → child_of n.children k ≡ Some d → may_merge n d ≡ false → (c : ℕ) → may_merge n c ≡ false
stuck_turn n k d not own key distinct found stuck c = at (has_key_at k (slice_get n.children c)) refl
  where
    at : (b : Bool) → has_key_at k (slice_get n.children c) ≡ b → may_merge n c ≡ false
    at false e = other_turn n k not own key c e
    at true e = subst (λ i. may_merge n i ≡ false) (sym (same_place k n.children c d distinct e (found_has_key k d n.children found))) stuck
