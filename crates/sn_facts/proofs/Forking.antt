-- What a fork decides, and what it sends to its children.
use Rattle.std.proofs.Common.{◌≡◌, Bool, true, false, ◌||◌, cond, List, [], ◌∷◌, ◌++◌, map, refl, sym, ap, ◌∙◌, append_assoc, append-nil}
use Rattle.std.proofs.lemmas.List.{map-append}
use Rattle.std.proofs.lemmas.Bool.{false≢true}
use Rattle.std.specs.List.{flat_map, list_any}
use mathlib.Core.List.{IsPrefix, head-eq_of_cons-eq, tail-eq_of_cons-eq, cons≢nil}
use Rattle.sn_streams.specs.Forks.{Merge, Router, items_of}
use Rattle.sn_streams.specs.Keys.{Key, key_eq}
use Rattle.sn_streams.specs.Segments.{Segments, joined}
use Rattle.sn_streams.specs.Trees.{Tree, Fork}
use Rattle.sn_histories.specs.Entries.{Entry, Item, To, Mark, End, EndsOnce, closed, entries, is_end}
use Rattle.sn_histories.specs.Histories.{In, Decisions, decision_on, hist, IsAt}
use Rattle.sn_histories.specs.Sites.{Into, Step, has_marks}
use Rattle.sn_histories.proofs.Histories.{child-gets, in-ends}
use Rattle.sn_histories.proofs.Sites.{hist-at}
use Rattle.sn_histories.proofs.Working.{decisions-history}
use Rattle.sn_facts.specs.Forking.{Decides, for_child, is_for, to_child}

-- before an entry of a history that isn't its last there is no end
module _ {A : Type 0} where
  never-empty : (es rest : List (Entry A)) (e : Entry A) → es ++ e ∷ rest ≡ [] → ⊥
  never-empty [] rest e is = cons≢nil is
  never-empty (d ∷ es) rest e is = cons≢nil is

  pub no-end-before : (es rest before : List (Entry A)) (e : Entry A) → list_any is_end before ≡ false → es ++ e ∷ rest ≡ before ++ End ∷ [] → list_any is_end es ≡ false
  no-end-before [] rest before e none is = refl
  no-end-before (d ∷ es) rest [] e none is = absurd (never-empty es rest e (tail-eq_of_cons-eq is))
  no-end-before (d ∷ es) rest (b ∷ before) e none is =
      at (is_end b) (ap is_end (head-eq_of_cons-eq is)) none (λ quiet. no-end-before es rest before e quiet (tail-eq_of_cons-eq is))
    where
      at : (h : Bool) → is_end d ≡ h → (h || list_any is_end before) ≡ false → (list_any is_end before ≡ false → list_any is_end es ≡ false)
          → (is_end d || list_any is_end es) ≡ false
      at true same none later = absurd (false≢true (sym none))
      at false same none later = ap (λ h. h || list_any is_end es) same ∙ later none

module _ {A : Type 0} (r : Router A) where
  pub decides-begin : Decides r [] [] []
  decides-begin = refl

  pub decides-on : (received served kept : List (Entry A)) (e : Entry A) → Decides r received served kept → Decides r (received ++ e ∷ []) served (kept ++ decision_on r e ∷ [])
  decides-on received served kept e is =
      sym (append_assoc served kept (decision_on r e ∷ [])) ∙ ap (λ l. l ++ decision_on r e ∷ []) is ∙ sym (map-append (decision_on r) received (e ∷ []))

  pub serves-on : (received served kept : List (Entry A)) (d : Entry A) → Decides r received served (d ∷ kept) → Decides r received (served ++ d ∷ []) kept
  serves-on received served kept d is = append_assoc served (d ∷ []) kept ∙ is

  module _ (k : Key) where
    pub sends-both : (front back : List (Entry A)) → to_child r k (front ++ back) ≡ to_child r k front ++ to_child r k back
    sends-both [] back = refl
    sends-both (e ∷ front) back =
        ap (λ l. for_child r k e ++ l) (sends-both front back) ∙ sym (append_assoc (for_child r k e) (to_child r k front) (to_child r k back))

    pub sends-on : (received : List (Entry A)) (e : Entry A) → to_child r k (received ++ e ∷ []) ≡ to_child r k received ++ for_child r k e
    sends-on received e = sends-both received (e ∷ []) ∙ ap (λ l. to_child r k received ++ l) (append-nil (for_child r k e))

    -- where neither an item of the key nor the end was received
    pub nothing-sent : (received : List (Entry A)) → list_any (is_for r k) received ≡ false → list_any is_end received ≡ false → to_child r k received ≡ []
    nothing-sent [] none quiet = refl
    nothing-sent (Item x ∷ es) none quiet = at (key_eq k (r.key x)) none (λ rest. nothing-sent es rest quiet)
      where
        at : (b : Bool) → (b || list_any (is_for r k) es) ≡ false → (list_any (is_for r k) es ≡ false → to_child r k es ≡ [])
            → cond b (Item x ∷ Mark ∷ []) [] ++ to_child r k es ≡ []
        at true none later = absurd (false≢true (sym none))
        at false none later = later none
    nothing-sent (To j ∷ es) none quiet = nothing-sent es none quiet
    nothing-sent (Mark ∷ es) none quiet = nothing-sent es none quiet
    nothing-sent (End ∷ es) none quiet = absurd (false≢true (sym quiet))

    abbrev each_marked : List A → List (Entry A)
    each_marked us = flat_map (λ x. Item x ∷ Mark ∷ []) us ++ (End ∷ [])

    sent-closed : (marked : Bool) (es : List (Entry A)) → to_child r k (closed marked es) ≡ to_child r k es
    sent-closed true es = refl
    sent-closed false es = refl

    sent-entries : (marked : Bool) (xss : Segments A) → to_child r k (entries marked xss) ≡ each_marked (items_of r k (joined xss))
    sent-entries marked [] = refl
    sent-entries marked (xs ∷ xss) = within (sent-closed marked (entries marked xss) ∙ sent-entries marked xss) xs
      where
        behind : List (Entry A)
        behind = closed marked (entries marked xss)

        within : to_child r k behind ≡ each_marked (items_of r k (joined xss)) → (us : List A)
            → to_child r k (map Item us ++ behind) ≡ each_marked (items_of r k (us ++ joined xss))
        within later [] = later
        within later (u ∷ us) = at (key_eq k (r.key u)) (within later us)
          where
            at : (b : Bool) → to_child r k (map Item us ++ behind) ≡ each_marked (items_of r k (us ++ joined xss))
                → cond b (Item u ∷ Mark ∷ []) [] ++ to_child r k (map Item us ++ behind)
                ≡ each_marked (cond b (u ∷ items_of r k (us ++ joined xss)) (items_of r k (us ++ joined xss)))
            at true is = ap (λ l. Item u ∷ Mark ∷ l) is
            at false is = is

module _ {A S : Type 0} (t : Tree A S) (xs : List A) (steps : List Step) (merge : Merge) (r : Router A) (child : Key → Tree A S) (xss : Segments A)
    (at : IsAt t xs steps (record { part = Fork merge r child; seg = xss })) where
  -- what goes to a child for all that comes in is all that comes in there
  pub child-history : (k : Key) → to_child r k (hist t xs steps In) ≡ hist t xs (steps ++ Into k ∷ []) In
  child-history k =
      ap (to_child r k) (hist-at t xs steps In (record { part = Fork merge r child; seg = xss }) at)
      ∙ sent-entries r k (has_marks steps) xss
      ∙ sym (child-gets t xs steps merge r child xss k at)

  pub sends-beginning : (k : Key) (received : List (Entry A)) → IsPrefix received (hist t xs steps In) → IsPrefix (to_child r k received) (hist t xs (steps ++ Into k ∷ []) In)
  sends-beginning k received (more, is) =
      (to_child r k more, sym (sends-both r k received more) ∙ ap (to_child r k) is ∙ child-history k)

  pub decides-beginning : (received served kept : List (Entry A)) → Decides r received served kept → IsPrefix received (hist t xs steps In)
      → IsPrefix (served ++ kept) (hist t xs steps Decisions)
  decides-beginning received served kept decides (more, is) = (
    map (decision_on r) more,
    ap (λ l. l ++ map (decision_on r) more) decides ∙ sym (map-append (decision_on r) received more) ∙ ap (map (decision_on r)) is
        ∙ sym (decisions-history t xs steps merge r child xss at),
  )

  -- nothing of the key was received, and an entry waits, so that the end wasn't either
  pub late-child : (k : Key) (received : List (Entry A)) (waiting : Entry A) → IsPrefix (received ++ waiting ∷ []) (hist t xs steps In)
      → list_any (is_for r k) received ≡ false → to_child r k received ≡ []
  late-child k received waiting (more, is) none = with_end (in-ends t xs steps (record { part = Fork merge r child; seg = xss }) at)
    where
      with_end : EndsOnce (hist t xs steps In) → to_child r k received ≡ []
      with_end (before, whole, quiet) =
          nothing-sent r k received none (no-end-before received more before waiting quiet (sym (append_assoc received (waiting ∷ []) more) ∙ is ∙ whole))
