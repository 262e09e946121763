-- The stack of a star is worked off turn by turn: the topmost item is given out, or goes into the body of its level.
use Rattle.std.proofs.Common.{◌≡◌, ℕ, zero, suc, ◌+◌, ◌-◌, ◌<◌, ◌≤◌, ◌==◌, Bool, true, false, cond, List, [], ◌∷◌, ◌++◌, refl, sym, ap, ap₂, ◌∙◌, subst, arith, append_assoc, append-nil}
use Rattle.sn_streams.specs.Machines.{Machine, emitted, after}
use Rattle.sn_net.specs.declared.routing.Key.{Key}
use Rattle.sn_net.specs.declared.routing.Key.TheVariants as key
use Rattle.sn_net.specs.Cell.{CellState}
use Rattle.sn_net.specs.Dispatchers.{passed_by, no_way_inside}
use Rattle.sn_net.specs.Item.{ModelItem, Rec, Fault, Stuck}
use Rattle.sn_net.specs.Route.{of_record, tap_key}
use Rattle.sn_pass.specs.Held.{kept_at, levels_held}
use Rattle.sn_pass.specs.Keeping.{Keeping, keeping, Same}
use Rattle.sn_pass.specs.Levels.{StarParts, star_tree, key_here, goes_inside, Levels, with_level, levels, from_level, Entry, entries, stack_gives, stack_keeps, counted, taps_of, taps}
use Rattle.sn_pass.proofs.Keeping.{Agree, chosen, agree_emitted_from, agree_after_from, same_refl, same_emits, same_next}
use Rattle.sn_pass.proofs.Levels.{stands_from, star_agree, star_same, held_stands}

abbrev Kept : Type 0
Kept = Keeping CellState

module _ (star : StarParts) where
  -- the bodies of a star cannot tell these states apart
  abbrev pub SameLevels : Levels → Levels → Type 0
  SameLevels states others = (j : ℕ) → Same star.body (states j) (others j)

  pub levels_refl : (states : Levels) → SameLevels states states
  levels_refl states j = same_refl star.body (states j)

  -- what the body of a level keeps when an item went through it
  abbrev pub body_next : Levels → ℕ → ModelItem → Levels
  body_next states i x = with_level states i ((keeping star.body).next (states i) x)

  -- what it answers
  abbrev pub body_answers : Levels → ℕ → ModelItem → List ModelItem
  body_answers states i x = (keeping star.body).emits (states i) x

  pub with_level_same : (states others : Levels) (i : ℕ) (state other : Kept) → SameLevels states others → Same star.body state other
      → SameLevels (with_level states i state) (with_level others i other)
  with_level_same states others i state other same here j = chosen (Same star.body) (j == i) state (states j) other (others j) here (same j)

  body_same : (states others : Levels) (i : ℕ) (x : ModelItem) → SameLevels states others → SameLevels (body_next states i x) (body_next others i x)
  body_same states others i x same = with_level_same states others i _ _ same (same_next star.body (states i) (others i) (same i) x)

  -- from such states a star gives the same, and cannot tell the next ones apart
  pub levels_agree : (left i : ℕ) → Agree (levels star left i) (levels star left i) SameLevels
  levels_agree zero i = record { emits = λ states others x same. refl; next = λ states others x same. same }
  levels_agree (suc left) i = record {
    emits = λ states others x same.
        ap (λ ys. cond (goes_inside (key_here star (suc left) x)) ys (passed_by star.place (key_here star (suc left) x) x ∷ []))
        (agree_emitted_from (levels_agree left (i + 1)) (body_next states i x) (body_next others i x) (body_answers states i x) (body_answers others i x)
        (same_emits star.body (states i) (others i) (same i) x) (body_same states others i x same));
    next = λ states others x same.
        chosen SameLevels (goes_inside (key_here star (suc left) x)) _ states _ others
        (agree_after_from (levels_agree left (i + 1)) (body_next states i x) (body_next others i x) (body_answers states i x) (body_answers others i x)
        (same_emits star.body (states i) (others i) (same i) x) (body_same states others i x same)) same;
  }

  counted_same : (count : Levels → ModelItem → ℕ) (m : Machine ModelItem Levels) → Agree m m SameLevels
      → ((states others : Levels) (x : ModelItem) → SameLevels states others → count states x ≡ count others x)
      → (states others : Levels) (xs : List ModelItem) → SameLevels states others → counted count m states xs ≡ counted count m others xs
  counted_same count m agree each states others [] same = refl
  counted_same count m agree each states others (x ∷ xs) same =
      ap₂ (λ n k. n + k) (each states others x same) (counted_same count m agree each (m.next states x) (m.next others x) xs (agree.next states others x same))

  taps_of_same : (left i : ℕ) (states others : Levels) (x : ModelItem) → SameLevels states others → taps_of star left i states x ≡ taps_of star left i others x
  taps_of_same zero i states others x same = refl
  taps_of_same (suc left) i states others x same =
      ap (λ n. cond (goes_inside (key_here star (suc left) x)) (1 + n) 1)
      (ap (counted (taps_of star left (i + 1)) (levels star left (i + 1)) (body_next states i x)) (same_emits star.body (states i) (others i) (same i) x)
      ∙ counted_same (taps_of star left (i + 1)) (levels star left (i + 1)) (levels_agree left (i + 1)) (taps_of_same left (i + 1))
      (body_next states i x) (body_next others i x) (body_answers others i x) (body_same states others i x same))

  -- an item that does not go inside is given out, and nothing changes
  leaves_emits : (left i : ℕ) (states : Levels) (x : ModelItem) → goes_inside (key_here star left x) ≡ false
      → (levels star left i).emits states x ≡ passed_by star.place (key_here star left x) x ∷ []
  leaves_emits zero i states x out = refl
  leaves_emits (suc left) i states x out =
      ap (λ b. cond b (emitted (levels star left (i + 1)) (body_next states i x) (body_answers states i x)) (passed_by star.place (key_here star (suc left) x) x ∷ [])) out

  leaves_next : (left i : ℕ) (states : Levels) (x : ModelItem) → goes_inside (key_here star left x) ≡ false → (levels star left i).next states x ≡ states
  leaves_next zero i states x out = refl
  leaves_next (suc left) i states x out = ap (λ b. cond b (after (levels star left (i + 1)) (body_next states i x) (body_answers states i x)) states) out

  leaves_taps : (left i : ℕ) (states : Levels) (x : ModelItem) → goes_inside (key_here star left x) ≡ false → taps_of star left i states x ≡ 1
  leaves_taps zero i states x out = refl
  leaves_taps (suc left) i states x out =
      ap (λ b. cond b (1 + counted (taps_of star left (i + 1)) (levels star left (i + 1)) (body_next states i x) (body_answers states i x)) 1) out

  module _ (depth : ℕ) where
    -- from states that the bodies cannot tell apart a stack gives the same
    pub gives_same : (states others : Levels) (stack : List Entry) → SameLevels states others → stack_gives star depth states stack ≡ stack_gives star depth others stack
    gives_same states others [] same = refl
    gives_same states others (e ∷ rest) same =
        let agree = levels_agree (depth - e.0) e.0 in
        ap₂ (λ ys zs. ys ++ zs) (agree.emits states others e.1 same)
        (gives_same ((from_level star depth e.0).next states e.1) ((from_level star depth e.0).next others e.1) rest (agree.next states others e.1 same))

    pub keeps_same : (states others : Levels) (stack : List Entry) → SameLevels states others → SameLevels (stack_keeps star depth states stack) (stack_keeps star depth others stack)
    keeps_same states others [] same = same
    keeps_same states others (e ∷ rest) same =
        keeps_same ((from_level star depth e.0).next states e.1) ((from_level star depth e.0).next others e.1) rest ((levels_agree (depth - e.0) e.0).next states others e.1 same)

    pub taps_same : (states others : Levels) (stack : List Entry) → SameLevels states others → taps star depth states stack ≡ taps star depth others stack
    taps_same states others [] same = refl
    taps_same states others (e ∷ rest) same =
        ap₂ (λ n k. n + k) (taps_of_same (depth - e.0) e.0 states others e.1 same)
        (taps_same ((from_level star depth e.0).next states e.1) ((from_level star depth e.0).next others e.1) rest ((levels_agree (depth - e.0) e.0).next states others e.1 same))

    -- entries of one level on top of others
    pub gives_entries : (i : ℕ) (states : Levels) (xs : List ModelItem) (rest : List Entry) → stack_gives star depth states (entries i xs ++ rest)
        ≡ emitted (from_level star depth i) states xs ++ stack_gives star depth (after (from_level star depth i) states xs) rest
    gives_entries i states [] rest = refl
    gives_entries i states (x ∷ xs) rest =
        ap (λ ys. (from_level star depth i).emits states x ++ ys) (gives_entries i ((from_level star depth i).next states x) xs rest)
        ∙ sym (append_assoc ((from_level star depth i).emits states x) (emitted (from_level star depth i) ((from_level star depth i).next states x) xs) _)

    pub keeps_entries : (i : ℕ) (states : Levels) (xs : List ModelItem) (rest : List Entry)
        → stack_keeps star depth states (entries i xs ++ rest) ≡ stack_keeps star depth (after (from_level star depth i) states xs) rest
    keeps_entries i states [] rest = refl
    keeps_entries i states (x ∷ xs) rest = keeps_entries i ((from_level star depth i).next states x) xs rest

    pub taps_entries : (i : ℕ) (states : Levels) (xs : List ModelItem) (rest : List Entry) → taps star depth states (entries i xs ++ rest)
        ≡ counted (taps_of star (depth - i) i) (from_level star depth i) states xs + taps star depth (after (from_level star depth i) states xs) rest
    taps_entries i states [] rest = omega arith
    taps_entries i states (x ∷ xs) rest =
        let more = taps_entries i ((from_level star depth i).next states x) xs rest in
        ap (λ n. taps_of star (depth - i) i states x + n) more ∙ omega arith

    -- One turn: what it gives, and what is left to do. It takes one tap.
    pub record Turned (states : Levels) (stack : List Entry) (out : List ModelItem) (later : Levels) (others : List Entry) : Type 0 where
      pub gives : stack_gives star depth states stack ≡ out ++ stack_gives star depth later others
      pub keeps : SameLevels (stack_keeps star depth states stack) (stack_keeps star depth later others)
      pub takes : taps star depth states stack ≡ suc (taps star depth later others)

    -- an item that does not go inside is given out
    pub turn_leaves : (i : ℕ) (states : Levels) (x : ModelItem) (rest : List Entry) → goes_inside (key_here star (depth - i) x) ≡ false
        → Turned states ((i, x) ∷ rest) (passed_by star.place (key_here star (depth - i) x) x ∷ []) states rest
    turn_leaves i states x rest out =
        let still = leaves_next (depth - i) i states x out in record {
          gives = ap₂ (λ ys zs. ys ++ zs) (leaves_emits (depth - i) i states x out) (ap (λ (later : Levels). stack_gives star depth later rest) still);
          keeps = subst (λ (later : Levels). SameLevels (stack_keeps star depth later rest) (stack_keeps star depth states rest)) (sym still) (levels_refl (stack_keeps star depth states rest));
          takes = ap₂ (λ n k. n + k) (leaves_taps (depth - i) i states x out) (ap (λ (later : Levels). taps star depth later rest) still) ∙ omega arith;
        }

    -- where it goes inside, what the body answers comes to the next level, on top of the others
    module _ (i : ℕ) (states : Levels) (x : ModelItem) (rest : List Entry) where
      abbrev pushed : List Entry
      pushed = entries (i + 1) (body_answers states i x) ++ rest

      abbrev IsTurn : (left : ℕ) → Type 0
      IsTurn left =
          ((levels star left i).emits states x ++ stack_gives star depth ((levels star left i).next states x) rest ≡ stack_gives star depth (body_next states i x) pushed)
          × (stack_keeps star depth ((levels star left i).next states x) rest ≡ stack_keeps star depth (body_next states i x) pushed)
          × (taps_of star left i states x + taps star depth ((levels star left i).next states x) rest ≡ suc (taps star depth (body_next states i x) pushed))

      abbrev behind : Machine ModelItem Levels
      behind = from_level star depth (i + 1)

      abbrev WithKey : Bool → Type 0
      WithKey b =
          (cond b (emitted behind (body_next states i x) (body_answers states i x)) (passed_by star.place (key_here star (suc (depth - (i + 1))) x) x ∷ [])
          ++ stack_gives star depth (cond b (after behind (body_next states i x) (body_answers states i x)) states) rest ≡ stack_gives star depth (body_next states i x) pushed)
          × (stack_keeps star depth (cond b (after behind (body_next states i x) (body_answers states i x)) states) rest ≡ stack_keeps star depth (body_next states i x) pushed)
          × (cond b (1 + counted (taps_of star (depth - (i + 1)) (i + 1)) behind (body_next states i x) (body_answers states i x)) 1
          + taps star depth (cond b (after behind (body_next states i x) (body_answers states i x)) states) rest ≡ suc (taps star depth (body_next states i x) pushed))

      goes : WithKey true
      goes = (
        sym (gives_entries (i + 1) (body_next states i x) (body_answers states i x) rest),
        sym (keeps_entries (i + 1) (body_next states i x) (body_answers states i x) rest),
        (let count = taps_entries (i + 1) (body_next states i x) (body_answers states i x) rest in omega arith),
      )

      enters : i < depth → goes_inside (key_here star (depth - i) x) ≡ true → IsTurn (depth - i)
      enters below inside =
          let one_less : depth - i ≡ suc (depth - (i + 1)) = omega arith in
          subst IsTurn (sym one_less)
          (subst WithKey (sym (subst (λ left. goes_inside (key_here star left x) ≡ true) one_less inside)) goes)

    pub turn_enters : (i : ℕ) (states later : Levels) (x : ModelItem) (rest : List Entry) → i < depth → goes_inside (key_here star (depth - i) x) ≡ true
        → SameLevels (with_level states i ((keeping star.body).next (states i) x)) later
        → Turned states ((i, x) ∷ rest) [] later (entries (i + 1) ((keeping star.body).emits (states i) x) ++ rest)
    turn_enters i states later x rest below inside same =
        let turn = enters i states x rest below inside in record {
          gives = turn.0 ∙ gives_same (body_next states i x) later (pushed i states x rest) same;
          keeps = subst (λ (before : Levels). SameLevels before (stack_keeps star depth later (pushed i states x rest))) (sym turn.1) (keeps_same (body_next states i x) later (pushed i states x rest) same);
          takes = turn.2 ∙ ap suc (taps_same (body_next states i x) later (pushed i states x rest) same);
        }

    all_left : depth - 0 ≡ depth
    all_left = omega arith

    -- the whole star: an item that comes to its first level, with the states of bodies in a list
    pub star_gives : (bodies : List Kept) (x : ModelItem) → stack_gives star depth (kept_at bodies) ((0, x) ∷ []) ≡ (keeping (star_tree star depth)).emits (levels_held bodies) x
    star_gives bodies x =
        append-nil ((from_level star depth 0).emits (kept_at bodies) x)
        ∙ ap (λ left. (levels star left 0).emits (kept_at bodies) x) all_left
        ∙ (star_agree star depth 0).emits (kept_at bodies) (levels_held bodies) x (held_stands star depth bodies)

    pub star_keeps : (bodies later : List Kept) (x : ModelItem) → SameLevels (stack_keeps star depth (kept_at bodies) ((0, x) ∷ [])) (kept_at later)
        → Same (star_tree star depth) (levels_held later) ((keeping (star_tree star depth)).next (levels_held bodies) x)
    star_keeps bodies later x same =
        let reached : Levels = (levels star depth 0).next (kept_at bodies) x in
        let is_later : SameLevels reached (kept_at later) = subst (λ left. SameLevels ((levels star left 0).next (kept_at bodies) x) (kept_at later)) all_left same in
        star_same star depth 0 reached (levels_held later) ((keeping (star_tree star depth)).next (levels_held bodies) x)
        (stands_from star depth 0 (kept_at later) reached (levels_held later) (λ j past. is_later j) (held_stands star depth later))
        ((star_agree star depth 0).next (kept_at bodies) (levels_held bodies) x (held_stands star depth bodies))

  -- the key of an item before the last level is that of the tap, and at the last there is no way inside
  pub key_before_last : (depth i : ℕ) (x : ModelItem) → i < depth → key_here star (depth - i) x ≡ of_record (tap_key star.place star.exit star.guard) x
  key_before_last depth i x below =
      let one_less : depth - i ≡ suc (depth - (i + 1)) = omega arith in
      ap (λ left. key_here star left x) one_less

  pub key_at_last : (depth i : ℕ) (x : ModelItem) → depth ≤ i → key_here star (depth - i) x ≡ key_here star 0 x
  key_at_last depth i x past =
      let none : depth - i ≡ 0 = omega arith in
      ap (λ left. key_here star left x) none

  no_way : (k : Key) → goes_inside (no_way_inside star.place k) ≡ false
  no_way key.Inside = refl
  no_way other = refl

  pub none_inside_last : (x : ModelItem) → goes_inside (key_here star 0 x) ≡ false
  none_inside_last (Rec r) = no_way (tap_key star.place star.exit star.guard r)
  none_inside_last (Fault fault) = refl
  none_inside_last (Stuck place) = refl
