-- A star that is worked off level by level gives and keeps what its tree does.
use Rattle.std.proofs.Common.{◌≡◌, ℕ, zero, suc, ◌+◌, ◌<◌, ◌≤◌, Bool, true, false, cond, List, [], ◌∷◌, refl, sym, ap, ◌∙◌, subst, arith}
use Rattle.std.proofs.lemmas.Bool.Decides.{nat_tests}
use Rattle.sn_streams.specs.Keys.{Key as StreamKey, Own, Branch, Inside, Value, key_eq}
use Rattle.sn_streams.specs.Machines.{Machine, emitted, after}
use Rattle.sn_streams.specs.Trees.{Series, passing, with_own}
use Rattle.sn_net.specs.declared.routing.Key.{Key}
use Rattle.sn_net.specs.declared.routing.Key.TheVariants as key
use Rattle.sn_net.specs.Cell.{CellState, Passing}
use Rattle.sn_net.specs.Dispatchers.{Network, stream_key, passed_by, router, inside_child}
use Rattle.sn_net.specs.Item.{ModelItem}
use Rattle.sn_pass.specs.Held.{kept_at, levels_held}
use Rattle.sn_pass.specs.Keeping.{Keeping, Fresh, Each, state_or, left_of, right_of, child_of, keeping, Same}
use Rattle.sn_pass.specs.Levels.{StarParts, star_tree, key_here, goes_inside, Levels, with_level, levels}
use Rattle.sn_pass.proofs.Keeping.{Agree, agree_emitted_from, agree_after_from, passing_same, same_refl, same_sym, same_trans, same_emits, same_next}

abbrev Kept : Type 0
Kept = Keeping CellState

pub with_level_here : (states : Levels) (i : ℕ) (state : Kept) → with_level states i state i ≡ state
with_level_here states i state = grind (arith, nat_tests)

pub with_level_elsewhere : (states : Levels) (i j : ℕ) (state : Kept) → (j ≡ i → ⊥) → with_level states i state j ≡ states j
with_level_elsewhere states i j state other = grind (arith, nat_tests)

-- both may stand at a place, so either does
either : (b : Bool) (one other : Levels) (j : ℕ) (state : Kept) → one j ≡ state → other j ≡ state → cond b one other j ≡ state
either true one other j state first second = first
either false one other j state first second = second

after_untouched : (m : Machine ModelItem Levels) (j : ℕ) → ((states : Levels) (x : ModelItem) → m.next states x j ≡ states j)
    → (states : Levels) (xs : List ModelItem) → after m states xs j ≡ states j
after_untouched m j still states [] = refl
after_untouched m j still states (x ∷ xs) = after_untouched m j still (m.next states x) xs ∙ still states x

-- a component that lets pass what comes to it is in the state that it starts with
abbrev Passes : Kept → Type 0
Passes q = state_or Passing q ≡ Passing

module _ (star : StarParts) where
  -- what a level with so many replicas left has at a key
  abbrev part : ℕ → StreamKey → Network
  part left =
      with_own (router star.place (key_here star (suc left))) Passing
      (inside_child (Series star.body (star_tree star left)) (passing (router star.place (key_here star (suc left))) Passing))

  -- the same of the last one, which has none left
  abbrev last_part : StreamKey → Network
  last_part = with_own (router star.place (key_here star zero)) Passing (λ k. passing (router star.place (key_here star zero)) Passing)

  last_emits : (q : Kept) (x : ModelItem) → (keeping (star_tree star zero)).emits q x ≡ passed_by star.place (key_here star zero x) x ∷ []
  last_emits q x = at (stream_key (key_here star zero x))
    where
      at : (k : StreamKey) → (keeping (last_part k)).emits (child_of q k) x ≡ passed_by star.place (key_here star zero x) x ∷ []
      at Own = refl
      at k = refl

  level_emits : (left : ℕ) (q : Kept) (x : ModelItem) → (keeping (star_tree star (suc left))).emits q x
      ≡ cond (goes_inside (key_here star (suc left) x)) ((keeping (Series star.body (star_tree star left))).emits (child_of q Inside) x) (passed_by star.place (key_here star (suc left) x) x ∷ [])
  level_emits left q x = at (key_here star (suc left) x)
    where
      at : (k : Key) → (keeping (part left (stream_key k))).emits (child_of q (stream_key k)) x
          ≡ cond (goes_inside k) ((keeping (Series star.body (star_tree star left))).emits (child_of q Inside) x) (passed_by star.place (key_here star (suc left) x) x ∷ [])
      at key.Inside = refl
      at other = refl

  -- what the bodies keep from a level on is what a level of the tree keeps there
  abbrev pub StarStands : (left i : ℕ) → Levels → Kept → Type 0
  StarStands zero i states q = (k : StreamKey) → Passes (child_of q k)
  StarStands (suc left) i states q =
      Same star.body (states i) (left_of (child_of q Inside))
      × StarStands left (i + 1) states (right_of (child_of q Inside))
      × ((k : StreamKey) → key_eq k Inside ≡ false → Passes (child_of q k))

  -- only the levels from there on count, and bodies cannot tell some states apart
  pub stands_from : (left i : ℕ) (states others : Levels) (q : Kept) → ((j : ℕ) → i ≤ j → Same star.body (others j) (states j)) → StarStands left i states q → StarStands left i others q
  stands_from zero i states others q same stand = stand
  stands_from (suc left) i states others q same stand = (
    same_trans star.body (others i) (states i) (left_of (child_of q Inside)) (same i (omega arith)) stand.0,
    stands_from left (i + 1) states others (right_of (child_of q Inside)) (λ j past. same j (omega arith)) stand.1,
    stand.2,
  )

  -- a step from a level leaves the levels before it as they are
  pub untouched : (left i : ℕ) (states : Levels) (x : ModelItem) (j : ℕ) → j < i → (levels star left i).next states x j ≡ states j
  untouched zero i states x j before = refl
  untouched (suc left) i states x j before =
      either (goes_inside (key_here star (suc left) x)) _ states j (states j)
      (after_untouched (levels star left (i + 1)) j (λ later y. untouched left (i + 1) later y j (omega arith))
      (with_level states i ((keeping star.body).next (states i) x)) ((keeping star.body).emits (states i) x)
      ∙ with_level_elsewhere states i j ((keeping star.body).next (states i) x) (λ is. absurd (omega arith))) refl

  last_next : (q : Kept) (x : ModelItem) → ((k : StreamKey) → Passes (child_of q k)) → (k : StreamKey) → Passes (child_of ((keeping (star_tree star zero)).next q x) k)
  last_next q x all k = at k (key_eq k (stream_key (key_here star zero x))) (all k)
    where
      at : (k : StreamKey) (b : Bool) → Passes (child_of q k) → Passes (cond b ((keeping (last_part k)).next (child_of q k) x) (child_of q k))
      at Own true pass = pass
      at Own false pass = pass
      at k true pass = pass
      at k false pass = pass

  -- one step of a level, where those behind it agree
  module _ (left i : ℕ) (agree : Agree (levels star left (i + 1)) (keeping (star_tree star left)) (StarStands left (i + 1)))
      (states : Levels) (q : Kept) (x : ModelItem) (stand : StarStands (suc left) i states q) where
    abbrev inner : Network
    inner = Series star.body (star_tree star left)

    abbrev state : Kept
    state = (keeping star.body).next (states i) x

    abbrev answers : List ModelItem
    answers = (keeping star.body).emits (states i) x

    abbrev reached : Levels
    reached = after (levels star left (i + 1)) (with_level states i state) answers

    same_answers : answers ≡ (keeping star.body).emits (left_of (child_of q Inside)) x
    same_answers = same_emits star.body (states i) (left_of (child_of q Inside)) stand.0 x

    behind : StarStands left (i + 1) (with_level states i state) (right_of (child_of q Inside))
    behind =
        stands_from left (i + 1) states (with_level states i state) (right_of (child_of q Inside))
        (λ j past. subst (λ (p : Kept). Same star.body p (states j)) (sym (with_level_elsewhere states i j state (λ is. absurd (omega arith)))) (same_refl star.body (states j))) stand.1

    inside_emits : emitted (levels star left (i + 1)) (with_level states i state) answers ≡ (keeping inner).emits (child_of q Inside) x
    inside_emits = agree_emitted_from agree _ _ answers _ same_answers behind

    inside_behind : StarStands left (i + 1) reached (right_of ((keeping inner).next (child_of q Inside) x))
    inside_behind = agree_after_from agree _ _ answers _ same_answers behind

    reached_here : reached i ≡ state
    reached_here =
        after_untouched (levels star left (i + 1)) i (λ later y. untouched left (i + 1) later y i (omega arith)) (with_level states i state) answers
        ∙ with_level_here states i state

    inside_here : Same star.body (reached i) (left_of ((keeping inner).next (child_of q Inside) x))
    inside_here =
        subst (λ (p : Kept). Same star.body p ((keeping star.body).next (left_of (child_of q Inside)) x)) (sym reached_here)
        (same_next star.body (states i) (left_of (child_of q Inside)) stand.0 x)

    others_pass : (b : Bool) (k : StreamKey) → key_eq k Inside ≡ false → Passes (cond b ((keeping (part left k)).next (child_of q k) x) (child_of q k))
    others_pass b Inside is = cc
    others_pass true k is = stand.2 k is
    others_pass false k is = stand.2 k is

    stands_then : (k : Key) → StarStands (suc left) i (cond (goes_inside k) reached states)
        (Each (λ j. cond (key_eq j (stream_key k)) ((keeping (part left j)).next (child_of q j) x) (child_of q j)))
    stands_then key.Inside = (inside_here, inside_behind, λ j is. others_pass (key_eq j Inside) j is)
    stands_then other = (stand.0, stand.1, λ j is. others_pass (key_eq j (stream_key other)) j is)

  -- the machine over all levels and the tree give the same, and what they keep goes on to be the same
  pub star_agree : (left i : ℕ) → Agree (levels star left i) (keeping (star_tree star left)) (StarStands left i)
  star_agree zero i = record {
    emits = λ states q x stand. sym (last_emits q x);
    next = λ states q x stand. last_next q x stand;
  }
  star_agree (suc left) i = record {
    emits = λ states q x stand.
        ap (λ ys. cond (goes_inside (key_here star (suc left) x)) ys (passed_by star.place (key_here star (suc left) x) x ∷ [])) (inside_emits left i (star_agree left (i + 1)) states q x stand)
        ∙ sym (level_emits left q x);
    next = λ states q x stand. stands_then left i (star_agree left (i + 1)) states q x stand (key_here star (suc left) x);
  }

  -- a level cannot tell apart what stands for the same states of bodies
  pub star_same : (left i : ℕ) (states : Levels) (q p : Kept) → StarStands left i states q → StarStands left i states p → Same (star_tree star left) q p
  star_same zero i states q p first second = at
    where
      at : (k : StreamKey) → Same (last_part k) (child_of q k) (child_of p k)
      at Own = passing_same (router star.place (key_here star zero)) Passing (child_of q Own) (child_of p Own)
      at Inside = passing_same (router star.place (key_here star zero)) Passing (child_of q Inside) (child_of p Inside)
      at (Branch n) = passing_same (router star.place (key_here star zero)) Passing (child_of q (Branch n)) (child_of p (Branch n))
      at (Value n) = passing_same (router star.place (key_here star zero)) Passing (child_of q (Value n)) (child_of p (Value n))
  star_same (suc left) i states q p first second =
      at (same_trans star.body _ (states i) _ (same_sym star.body (states i) _ first.0) second.0, star_same left (i + 1) states _ _ first.1 second.1)
    where
      at : Same (Series star.body (star_tree star left)) (child_of q Inside) (child_of p Inside) → (k : StreamKey) → Same (part left k) (child_of q k) (child_of p k)
      at inside Own = passing_same (router star.place (key_here star (suc left))) Passing (child_of q Own) (child_of p Own)
      at inside Inside = inside
      at inside (Branch n) = passing_same (router star.place (key_here star (suc left))) Passing (child_of q (Branch n)) (child_of p (Branch n))
      at inside (Value n) = passing_same (router star.place (key_here star (suc left))) Passing (child_of q (Value n)) (child_of p (Value n))

  -- a list of states of bodies, from a level on
  held_from : (left i : ℕ) (states : Levels) (bodies : List Kept) → ((j : ℕ) → states (i + j) ≡ kept_at bodies j) → StarStands left i states (levels_held bodies)
  held_from zero i states [] are = λ k. refl
  held_from zero i states (body ∷ bodies) are = at
    where
      at : (k : StreamKey) → Passes (child_of (levels_held (body ∷ bodies)) k)
      at Inside = refl
      at k = refl
  held_from (suc left) i states [] are = (
    subst (λ (p : Kept). Same star.body p Fresh) (sym (are 0) ∙ ap states (omega arith)) (same_refl star.body Fresh),
    held_from left (i + 1) states [] (λ j. ap states (omega arith) ∙ are (suc j)),
    λ k is. refl,
  )
  held_from (suc left) i states (body ∷ bodies) are = (
    subst (λ (p : Kept). Same star.body p body) (sym (are 0) ∙ ap states (omega arith)) (same_refl star.body body),
    held_from left (i + 1) states bodies (λ j. ap states (omega arith) ∙ are (suc j)),
    at,
  )
    where
      at : (k : StreamKey) → key_eq k Inside ≡ false → Passes (child_of (levels_held (body ∷ bodies)) k)
      at Inside is = refl
      at k is = refl

  -- the list stands for what the star keeps
  pub held_stands : (left : ℕ) (bodies : List Kept) → StarStands left 0 (kept_at bodies) (levels_held bodies)
  held_stands left bodies = held_from left 0 (kept_at bodies) bodies (λ j. ap (kept_at bodies) (omega arith))
