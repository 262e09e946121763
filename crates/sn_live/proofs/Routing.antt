-- What a fork does with its first entry, and with the entries of its children, as moves.
use Rattle.std.proofs.Common.{◌≡◌, ℕ, suc, Bool, true, false, cond, if◌then◌else◌, List, [], ◌∷◌, ◌++◌, refl, sym, ap, ◌∙◌, subst, append_assoc, ◌⊎◌, inl, inr}
use Rattle.std.proofs.Math.Path.{fun_ext}
use Rattle.sn_streams.specs.Forks.{Router}
use Rattle.sn_streams.specs.Keys.{Key, Own, key_eq, is_among}
use Rattle.sn_streams.specs.Trees.{Tree, passing}
use Rattle.sn_streams.proofs.Keys.{same_key}
use Rattle.sn_live.specs.Entries.{Entry, It, Mark}
use Rattle.sn_live.specs.Live.{Step, Left, Right, At, Node, Live, sub, change, stands, waits_more}
use Rattle.sn_live.specs.Parts.{Part, part, pushed, same_kids, only_kept, same_place, same_stands, group_for, share_for, TurnMove, Routes, Inner, Gives, Closes, FreeMove, Routed, Epoch, Within, Passes, Closing, Told, NotYet, Several, One, Then}
use Rattle.sn_live.proofs.Pushing.{pushed-nothing}
use Rattle.sn_live.proofs.Places.{change-kid, change-other}

-- states made of parts
abbrev pub with_node : {A S : Type 0} → Node A S → Live A S → Live A S
with_node n f [] = n
with_node n f (t ∷ u) = f (t ∷ u)

abbrev pub with_kids : {A S : Type 0} → Node A S → (Key → Live A S) → Live A S → Live A S
with_kids n g f [] = n
with_kids n g f (At k ∷ u) = g k u
with_kids n g f (Left ∷ u) = f (Left ∷ u)
with_kids n g f (Right ∷ u) = f (Right ∷ u)

-- what waits of the output of Own, with entries put behind it
abbrev own_more : {A S : Type 0} → List (Entry A) → Node A S → Key → List (Entry A)
own_more o n j = if key_eq j Own then n.kept j ++ o else n.kept j

own_more-is : {A S : Type 0} (o : List (Entry A)) (n : Node A S) → own_more o n Own ≡ n.kept Own ++ o
own_more-is o n = refl

own_more-other : {A S : Type 0} (o : List (Entry A)) (n : Node A S) (j : Key) → key_eq j Own ≡ false → own_more o n j ≡ n.kept j
own_more-other {A} o n j t = let F : Bool → List (Entry A) = λ b. cond b (n.kept j ++ o) (n.kept j) in ap F t

module _ {A S : Type 0} (r : Router A) (child : Key → Tree A S) (z : S) (own : child Own ≡ passing r z) where
  abbrev pub c : Key → Part A S
  c k = part (child k)

  abbrev pub TurnMoves : Live A S → List (Entry A) → Live A S → Type 0
  TurnMoves f o f' = Several (λ g p g'. TurnMove r c g g' p) f o f'

  abbrev pub FreeMoves : Live A S → List (Entry A) → Live A S → Type 0
  FreeMoves f o f' = Several (λ g p g'. FreeMove r c g g' p) f o f'

  abbrev passed : Entry A → List (Entry A)
  passed (It x) = It (r.own x) ∷ []
  passed Mark = Mark ∷ []

  -- the child at Own passes its first entry on
  passes_on : (g g' : Live A S) (e : Entry A) → (g []).waiting ≡ e ∷ (g' []).waiting → (g' []).state ≡ (g []).state → (c Own).moves g (passed e) g'
  passes_on g g' e hw hs = let P : Tree A S → Type 0 = λ t. (part t).moves g (passed e) g' in subst P (sym own) (at e hw)
    where
      at : (e : Entry A) → (g []).waiting ≡ e ∷ (g' []).waiting → (part (passing r z)).moves g (passed e) g'
      at (It x) h = (It x, h, hs, refl)
      at Mark h = (Mark, h, hs, refl)

  -- what is put at the child at Own
  put_own : (o : List (Entry A)) (g : Live A S) → pushed (c Own) o g ≡ change [] (waits_more o) g
  put_own o g = ap (λ (t : Tree A S). pushed (part t) o g) own

  -- the child at Own has these entries
  abbrev own_has : List (Entry A) → Live A S → Live A S
  own_has w f = change (At Own ∷ []) (λ n. record n { waiting = w }) f

  own_has-is : (w : List (Entry A)) (f : Live A S) → sub (own_has w f) (At Own) ≡ change [] (λ n. record n { waiting = w }) (sub f (At Own))
  own_has-is w f = change-kid Own [] (λ n. record n { waiting = w }) f

  own_has-other : (w : List (Entry A)) (f : Live A S) (j : Key) → key_eq j Own ≡ false → sub (own_has w f) (At j) ≡ sub f (At j)
  own_has-other w f j t = change-other Own j [] (λ n. record n { waiting = w }) f t

  -- a deterministic fork decides on an item that passes by
  module _ (f f' : Live A S) (x : A)
      (first : (f []).waiting ≡ It x ∷ (f' []).waiting) (by : r.key x ≡ Own) (idle : (sub f (At Own) []).waiting ≡ [])
      (kids : same_kids f f') where
    got_group : group_for r Own (It x) ≡ It x ∷ Mark ∷ []
    got_group = let F : Key → List (Entry A) = λ k. if key_eq Own k then It x ∷ Mark ∷ [] else [] in ap F by

    no_group : (j : Key) → key_eq j Own ≡ false → group_for r j (It x) ≡ []
    no_group j t = let F : Bool → List (Entry A) = λ b. cond b (It x ∷ Mark ∷ []) [] in ap F (ap (key_eq j) by ∙ t)

    got_share : share_for r Own (It x) ≡ It x ∷ []
    got_share = let F : Key → List (Entry A) = λ k. if key_eq Own k then It x ∷ [] else [] in ap F by

    no_share : (j : Key) → key_eq j Own ≡ false → share_for r j (It x) ≡ []
    no_share j t = let F : Bool → List (Entry A) = λ b. cond b (It x ∷ []) [] in ap F (ap (key_eq j) by ∙ t)

    own_kept : (o : List (Entry A)) → own_has [] f ≡ f
    own_kept o = fun_ext at
      where
        at : (q : List Step) → own_has [] f q ≡ f q
        at [] = refl
        at (Left ∷ q) = refl
        at (Right ∷ q) = refl
        at (At j ∷ q) = on (key_eq j Own) refl q
          where
            on : (b : Bool) → key_eq j Own ≡ b → (q : List Step) → cond b (change [] (λ n. record n { waiting = [] }) (sub f (At j)) q) (f (At j ∷ q)) ≡ f (At j ∷ q)
            on false t q = refl
            on true t [] = let P : Key → Type 0 = λ k. record (f (At k ∷ [])) { waiting = [] } ≡ f (At k ∷ []) in
                subst P (sym (same_key j Own t)) (ap (λ (w : List (Entry A)). record (f (At Own ∷ [])) { waiting = w }) (sym idle))
            on true t (s ∷ q) = refl

    module _ (decides : (f' []).decisions ≡ (f []).decisions ++ It Own ∷ []) (keeps : (f' []).kept Own ≡ (f []).kept Own ++ It (r.own x) ∷ Mark ∷ [])
        (others : only_kept Own (f []) (f' [])) where
      abbrev turn1 : Live A S
      turn1 = with_kids (record (f []) { waiting = (f' []).waiting; decisions = (f' []).decisions }) (λ k. pushed (c k) (group_for r k (It x)) (sub f (At k))) f

      abbrev turn2 : Live A S
      turn2 = with_node (record (f []) { waiting = (f' []).waiting; decisions = (f' []).decisions; kept = own_more (It (r.own x) ∷ []) (f []) }) (own_has (Mark ∷ []) f)

      turn_first : TurnMove r c f turn1 []
      turn_first = Routes (It x) first (decides ∙ ap (λ (k : Key). (f []).decisions ++ It k ∷ []) (sym by)) refl (λ k. refl)

      own1 : sub turn1 (At Own) ≡ change [] (waits_more (It x ∷ Mark ∷ [])) (sub f (At Own))
      own1 = ap (λ (o : List (Entry A)). pushed (c Own) o (sub f (At Own))) got_group ∙ put_own (It x ∷ Mark ∷ []) (sub f (At Own))

      turn_second : TurnMove r c turn1 turn2 []
      turn_second = Inner Own (It (r.own x) ∷ [])
          (passes_on (sub turn1 (At Own)) (sub turn2 (At Own)) (It x)
          (ap (λ (l : Live A S). (l []).waiting) own1 ∙ ap (λ (w : List (Entry A)). w ++ It x ∷ Mark ∷ []) idle)
          (sym (ap (λ (l : Live A S). (l []).state) own1)))
          (λ j t. own_has-other (Mark ∷ []) f j t ∙ sym (ap (λ (o : List (Entry A)). pushed (c j) o (sub f (At j))) (no_group j t) ∙ pushed-nothing (c j) (sub f (At j))))
          refl refl refl (λ j t. own_more-other (It (r.own x) ∷ []) (f []) j t)

      turn_third : TurnMove r c turn2 f' []
      turn_third = Inner Own (Mark ∷ [])
          (passes_on (sub turn2 (At Own)) (sub f' (At Own)) Mark
          (ap (λ (w : List (Entry A)). Mark ∷ w) (sym (ap (λ (l : Live A S). (l []).waiting) (kids Own) ∙ idle)))
          (ap (λ (l : Live A S). (l []).state) (kids Own)))
          (λ j t. kids j ∙ sym (own_has-other (Mark ∷ []) f j t))
          refl refl
          (keeps ∙ sym (append_assoc ((f []).kept Own) (It (r.own x) ∷ []) (Mark ∷ [])))
          (λ j t. others j t ∙ sym (own_more-other (It (r.own x) ∷ []) (f []) j t))

      pub turn_own : TurnMoves f [] f'
      turn_own = Then [] [] turn2 f' (Then [] [] turn1 turn2 (One [] turn1 turn_first) turn_second) turn_third

    module _ (keeps : (f' []).kept Own ≡ (f []).kept Own ++ It (r.own x) ∷ []) (others : only_kept Own (f []) (f' []))
        (made : is_among Own ((f []).made) ≡ true) (place : same_place f f') (level : same_stands f f') where
      abbrev free1 : Live A S
      free1 = with_kids (record (f []) { waiting = (f' []).waiting }) (λ k. pushed (c k) (share_for r k (It x)) (sub f (At k))) f

      free_first : FreeMove r c f free1 []
      free_first = Routed x (ap (λ (k : Key). is_among k ((f []).made)) by ∙ made) first (refl, refl) refl (λ k. refl) (λ k. refl)

      own1' : sub free1 (At Own) ≡ change [] (waits_more (It x ∷ [])) (sub f (At Own))
      own1' = ap (λ (o : List (Entry A)). pushed (c Own) o (sub f (At Own))) got_share ∙ put_own (It x ∷ []) (sub f (At Own))

      free_second : FreeMove r c free1 f' []
      free_second = Within Own (It (r.own x) ∷ [])
          (passes_on (sub free1 (At Own)) (sub f' (At Own)) (It x)
          (ap (λ (l : Live A S). (l []).waiting) own1' ∙ ap (λ (w : List (Entry A)). w ++ It x ∷ []) idle
          ∙ ap (λ (w : List (Entry A)). It x ∷ w) (sym (ap (λ (l : Live A S). (l []).waiting) (kids Own) ∙ idle)))
          (ap (λ (l : Live A S). (l []).state) (kids Own) ∙ sym (ap (λ (l : Live A S). (l []).state) own1')))
          (λ j t. kids j ∙ sym (ap (λ (o : List (Entry A)). pushed (c j) o (sub f (At j))) (no_share j t) ∙ pushed-nothing (c j) (sub f (At j))))
          place refl level keeps others

      pub free_own : FreeMoves f [] f'
      free_own = Then [] [] free1 f' (One [] free1 free_first) free_second

  -- a free fork takes a mark: it goes to all children that are there
  module _ (f f' : Live A S) (first : (f []).waiting ≡ Mark ∷ (f' []).waiting) (idle : (sub f (At Own) []).waiting ≡ [])
      (same_made : (f' []).made ≡ (f []).made) (ahead : (f' []).ahead ≡ suc ((f []).ahead)) (same_lead : (f' []).lead ≡ (f []).lead)
      (made : is_among Own ((f []).made) ≡ true)
      (absent : (k : Key) → is_among k ((f []).made) ≡ false → (c k).fresh (sub f (At k)) × ((f []).kept k ≡ []))
      (keeps : (f' []).kept Own ≡ (f []).kept Own ++ Mark ∷ []) (others : only_kept Own (f []) (f' []))
      (own_same : sub f' (At Own) ≡ sub f (At Own))
      (there : (k : Key) → key_eq k Own ≡ false → is_among k ((f []).made) ≡ true → sub f' (At k) ≡ pushed (c k) (Mark ∷ []) (sub f (At k)))
      (not_there : (k : Key) → is_among k ((f []).made) ≡ false → sub f' (At k) ≡ sub f (At k)) where
    abbrev mark1 : Live A S
    mark1 = with_node (record (f' []) { kept = (f []).kept }) (change (At Own ∷ []) (λ n. record n { waiting = Mark ∷ [] }) f')

    stands-made : (n : Node A S) (k : Key) → is_among k n.made ≡ true → stands n k ≡ n.lead k
    stands-made n k e = let F : Bool → ℕ = λ b. cond b (n.lead k) n.ahead in ap F e

    stands-absent : (n : Node A S) (k : Key) → is_among k n.made ≡ false → stands n k ≡ n.ahead
    stands-absent n k e = let F : Bool → ℕ = λ b. cond b (n.lead k) n.ahead in ap F e

    own_marked : sub mark1 (At Own) ≡ change [] (λ n. record n { waiting = Mark ∷ [] }) (sub f (At Own))
    own_marked = change-kid Own [] (λ n. record n { waiting = Mark ∷ [] }) f' ∙ ap (change [] (λ n. record n { waiting = Mark ∷ [] })) own_same

    own_told : sub mark1 (At Own) ≡ pushed (c Own) (Mark ∷ []) (sub f (At Own))
    own_told = own_marked ∙ sym (put_own (Mark ∷ []) (sub f (At Own)) ∙ fun_ext at)
      where
        at : (q : List Step) → change [] (waits_more (Mark ∷ [])) (sub f (At Own)) q ≡ change [] (λ n. record n { waiting = Mark ∷ [] }) (sub f (At Own)) q
        at [] = ap (λ (w : List (Entry A)). record (sub f (At Own) []) { waiting = w ++ Mark ∷ [] }) idle
        at (t ∷ q) = refl

    mark_first : FreeMove r c f mark1 []
    mark_first = Epoch first same_made ahead refl (λ k. each k (is_among k ((f []).made)) refl (key_eq k Own) refl)
      where
        each : (k : Key) (b : Bool) → is_among k ((f []).made) ≡ b → (v : Bool) → key_eq k Own ≡ v
            → Told (c k) (sub f (At k)) (sub mark1 (At k)) (stands (f []) k) (stands (mark1 []) k)
            ⊎ NotYet (c k) (sub f (At k)) (sub mark1 (At k)) ((f []).kept k) (stands (f []) k) (stands (mark1 []) k)
        each k true e v u = inl (record {
          kid_is = kid v u;
          epoch_is =
              stands-made (f' []) k (ap (is_among k) same_made ∙ e) ∙ ap (λ (l : Key → ℕ). l k) same_lead ∙ sym (stands-made (f []) k e);
        })
          where
            kid : (v : Bool) → key_eq k Own ≡ v → sub mark1 (At k) ≡ pushed (c k) (Mark ∷ []) (sub f (At k))
            kid true u = let P : Key → Type 0 = λ j. sub mark1 (At j) ≡ pushed (c j) (Mark ∷ []) (sub f (At j)) in subst P (sym (same_key k Own u)) own_told
            kid false u = change-other Own k [] (λ n. record n { waiting = Mark ∷ [] }) f' u ∙ there k u e
        each k false e true u = absurd (impossible (sym made ∙ ap (λ (j : Key). is_among j ((f []).made)) (sym (same_key k Own u)) ∙ e))
          where
            impossible : true ≡ false → ⊥
            impossible i = cc
        each k false e false u = inr (record {
          before = (absent k e).0;
          after = change-other Own k [] (λ n. record n { waiting = Mark ∷ [] }) f' u ∙ not_there k e;
          nothing = (absent k e).1;
          epoch_is = stands-absent (f' []) k (ap (is_among k) same_made ∙ e) ∙ ahead ∙ ap suc (sym (stands-absent (f []) k e));
        })

    mark_second : FreeMove r c mark1 f' []
    mark_second = Within Own (Mark ∷ [])
        (passes_on (sub mark1 (At Own)) (sub f' (At Own)) Mark
        (ap (λ (l : Live A S). (l []).waiting) own_marked ∙ ap (λ (w : List (Entry A)). Mark ∷ w) (sym (ap (λ (l : Live A S). (l []).waiting) own_same ∙ idle)))
        (ap (λ (l : Live A S). (l []).state) own_same ∙ sym (ap (λ (l : Live A S). (l []).state) own_marked)))
        (λ j t. sym (change-other Own j [] (λ n. record n { waiting = Mark ∷ [] }) f' t))
        (refl, refl) refl (λ k. refl) keeps others

    pub free_mark : FreeMoves f [] f'
    free_mark = Then [] [] mark1 f' (One [] mark1 mark_first) mark_second

  -- a deterministic fork passes on what it decided on that passes by
  pub turn_gives_own : (f f' : Live A S) (y : A) → (f []).decisions ≡ It Own ∷ (f' []).decisions → (f []).kept Own ≡ It y ∷ Mark ∷ (f' []).kept Own
      → only_kept Own (f []) (f' []) → (f' []).waiting ≡ (f []).waiting → same_kids f f' → TurnMoves f (It y ∷ []) f'
  turn_gives_own f f' y hd hk ho hw hs =
      Then (It y ∷ []) [] mid f' (One (It y ∷ []) mid (Gives Own y ((f' []).decisions) hd refl hk (λ j t. given j t ∙ ho j t) refl (λ j. refl)))
      (Closes Own refl refl (λ j t. sym (given j t)) hw hs)
    where
      after : Key → List (Entry A)
      after j = if key_eq j Own then Mark ∷ (f' []).kept Own else (f' []).kept j

      mid : Live A S
      mid = with_node (record (f []) { decisions = It Own ∷ (f' []).decisions; kept = after }) f

      given : (j : Key) → key_eq j Own ≡ false → after j ≡ (f' []).kept j
      given j t = let F : Bool → List (Entry A) = λ b. cond b (Mark ∷ (f' []).kept Own) ((f' []).kept j) in ap F t

  -- a free fork's child passes its mark, and was the last
  pub free_closes : (f f' : Live A S) (k : Key) → stands (f []) k ≡ 0 → (f []).kept k ≡ Mark ∷ (f' []).kept k → only_kept k (f []) (f' [])
      → (f' []).made ≡ (f []).made → (f []).ahead ≡ suc ((f' []).ahead) → (f' []).waiting ≡ (f []).waiting → same_kids f f'
      → is_among k ((f []).made) ≡ true
      → stands (f' []) k ≡ 0 → ((j : Key) → key_eq j k ≡ false → stands (f []) j ≡ suc (stands (f' []) j))
      → FreeMoves f (Mark ∷ []) f'
  free_closes f f' k here hk ho hm ha hw hs made now past =
      Then [] (Mark ∷ []) mid f' (One [] mid (Passes k here hk ho (refl, refl) refl (at_k ∙ ap suc (now ∙ sym here)) (λ j t. at_other j t) (λ j. refl)))
      (Closing (λ j. closing j) hm ha refl hw hs)
    where
      mid : Live A S
      mid = with_node (record (f []) { kept = (f' []).kept; lead = λ j. suc (stands (f' []) j) }) f

      made_or_not : (j : Key) (b : Bool) → is_among j ((f []).made) ≡ b → stands (mid []) j ≡ suc (stands (f' []) j)
      made_or_not j true e = let F : Bool → ℕ = λ b. cond b (suc (stands (f' []) j)) ((f []).ahead) in ap F e
      made_or_not j false e =
          (let F : Bool → ℕ = λ b. cond b (suc (stands (f' []) j)) ((f []).ahead) in ap F e) ∙ ha
          ∙ ap suc (sym (let F : Bool → ℕ = λ b. cond b ((f' []).lead j) ((f' []).ahead) in ap F (ap (is_among j) hm ∙ e)))

      closing : (j : Key) → stands (mid []) j ≡ suc (stands (f' []) j)
      closing j = made_or_not j (is_among j ((f []).made)) refl

      at_k : stands (mid []) k ≡ suc (stands (f' []) k)
      at_k = closing k

      at_other : (j : Key) → key_eq j k ≡ false → stands (mid []) j ≡ stands (f []) j
      at_other j t = closing j ∙ sym (past j t)
