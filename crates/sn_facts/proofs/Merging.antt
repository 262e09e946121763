-- What a fork passes on of what comes from its children.
use Rattle.std.proofs.Common.{◌≡◌, Bool, true, false, cond, List, [], ◌∷◌, ◌++◌, refl, sym, ap, ap₂, ◌∙◌, append_assoc, append-nil, subst}
use Rattle.std.specs.List.{list_all}
use Rattle.std.proofs.lemmas.Bool.{false≢true}
use Rattle.sn_streams.specs.Keys.{Key, key_eq}
use Rattle.sn_streams.proofs.Keys.{same_key, key_eq-refl}
use Rattle.sn_histories.specs.Entries.{Entry, Item, To, Mark, End, next_group, other_groups, without_next, replaced, left_over, has_group, HasGroups}
use Rattle.sn_facts.specs.Forking.{ComesFrom, Merges, begun, is_item}

module _ {A : Type 0} where
  -- more of what comes from the children leaves whole groups as they are
  group-whole : (es more : List (Entry A)) → has_group es ≡ true → next_group (es ++ more) ≡ next_group es
  group-whole [] more e = absurd (false≢true e)
  group-whole (Item x ∷ es) more e = ap (λ us. Item x ∷ us) (group-whole es more e)
  group-whole (To k ∷ es) more e = ap (λ us. To k ∷ us) (group-whole es more e)
  group-whole (Mark ∷ es) more e = refl
  group-whole (End ∷ es) more e = refl

  groups-behind : (es more : List (Entry A)) → has_group es ≡ true → other_groups (es ++ more) ≡ other_groups es ++ more
  groups-behind [] more e = absurd (false≢true e)
  groups-behind (Item x ∷ es) more e = groups-behind es more e
  groups-behind (To k ∷ es) more e = groups-behind es more e
  groups-behind (Mark ∷ es) more e = refl
  groups-behind (End ∷ es) more e = refl

  still-whole : (es more : List (Entry A)) → has_group es ≡ true → has_group (es ++ more) ≡ true
  still-whole [] more e = absurd (false≢true e)
  still-whole (Item x ∷ es) more e = still-whole es more e
  still-whole (To k ∷ es) more e = still-whole es more e
  still-whole (Mark ∷ es) more e = refl
  still-whole (End ∷ es) more e = absurd (false≢true e)

  abbrev Goes : (now before more : Key → List (Entry A)) → Type 0
  Goes now before more = (k : Key) → now k ≡ before k ++ more k

  goes-without : (now before more : Key → List (Entry A)) (k : Key) → Goes now before more → has_group (before k) ≡ true
      → Goes (without_next now k) (without_next before k) more
  goes-without now before more k goes has j = at (key_eq j k) refl
    where
      at : (b : Bool) → key_eq j k ≡ b → cond b (other_groups (now j)) (now j) ≡ cond b (other_groups (before j)) (before j) ++ more j
      at true e = ap other_groups (goes j) ∙ groups-behind (before j) (more j) (subst (λ i. has_group (before i) ≡ true) (sym (same_key j k e)) has)
      at false e = goes j

  served-alike : (ds : List (Entry A)) (now before more : Key → List (Entry A)) → Goes now before more → HasGroups before ds → replaced now ds ≡ replaced before ds
  served-alike [] now before more goes has = refl
  served-alike (Item x ∷ ds) now before more goes has = ap (λ us. Item x ∷ us) (served-alike ds now before more goes has)
  served-alike (To k ∷ ds) now before more goes has =
      ap₂ (λ us vs. us ++ vs) (ap next_group (goes k) ∙ group-whole (before k) (more k) has.0)
      (served-alike ds (without_next now k) (without_next before k) more (goes-without now before more k goes has.0) has.1)
  served-alike (Mark ∷ ds) now before more goes has = ap (λ us. Mark ∷ us) (served-alike ds now before more goes has)
  served-alike (End ∷ ds) now before more goes has = ap (λ us. End ∷ us) (served-alike ds now before more goes has)

  left-alike : (ds : List (Entry A)) (now before more : Key → List (Entry A)) → Goes now before more → HasGroups before ds → Goes (left_over now ds) (left_over before ds) more
  left-alike [] now before more goes has = goes
  left-alike (Item x ∷ ds) now before more goes has = left-alike ds now before more goes has
  left-alike (To k ∷ ds) now before more goes has =
      left-alike ds (without_next now k) (without_next before k) more (goes-without now before more k goes has.0) has.1
  left-alike (Mark ∷ ds) now before more goes has = left-alike ds now before more goes has
  left-alike (End ∷ ds) now before more goes has = left-alike ds now before more goes has

  groups-alike : (ds : List (Entry A)) (now before more : Key → List (Entry A)) → Goes now before more → HasGroups before ds → HasGroups now ds
  groups-alike [] now before more goes has = tt
  groups-alike (Item x ∷ ds) now before more goes has = groups-alike ds now before more goes has
  groups-alike (To k ∷ ds) now before more goes has = (
    subst (λ es. has_group es ≡ true) (sym (goes k)) (still-whole (before k) (more k) has.0),
    groups-alike ds (without_next now k) (without_next before k) more (goes-without now before more k goes has.0) has.1,
  )
  groups-alike (Mark ∷ ds) now before more goes has = groups-alike ds now before more goes has
  groups-alike (End ∷ ds) now before more goes has = groups-alike ds now before more goes has

  -- one decision behind others
  replaced-both : (ds es : List (Entry A)) (came : Key → List (Entry A)) → replaced came (ds ++ es) ≡ replaced came ds ++ replaced (left_over came ds) es
  replaced-both [] es came = refl
  replaced-both (Item x ∷ ds) es came = ap (λ us. Item x ∷ us) (replaced-both ds es came)
  replaced-both (To k ∷ ds) es came =
      ap (λ us. next_group (came k) ++ us) (replaced-both ds es (without_next came k))
      ∙ sym (append_assoc (next_group (came k)) (replaced (without_next came k) ds) (replaced (left_over (without_next came k) ds) es))
  replaced-both (Mark ∷ ds) es came = ap (λ us. Mark ∷ us) (replaced-both ds es came)
  replaced-both (End ∷ ds) es came = ap (λ us. End ∷ us) (replaced-both ds es came)

  left-both : (ds es : List (Entry A)) (came : Key → List (Entry A)) → left_over came (ds ++ es) ≡ left_over (left_over came ds) es
  left-both [] es came = refl
  left-both (Item x ∷ ds) es came = left-both ds es came
  left-both (To k ∷ ds) es came = left-both ds es (without_next came k)
  left-both (Mark ∷ ds) es came = left-both ds es came
  left-both (End ∷ ds) es came = left-both ds es came

  groups-both : (ds es : List (Entry A)) (came : Key → List (Entry A)) → HasGroups came ds → HasGroups (left_over came ds) es → HasGroups came (ds ++ es)
  groups-both [] es came first then_those = then_those
  groups-both (Item x ∷ ds) es came first then_those = groups-both ds es came first then_those
  groups-both (To k ∷ ds) es came first then_those = (first.0, groups-both ds es (without_next came k) first.1 then_those)
  groups-both (Mark ∷ ds) es came first then_those = groups-both ds es came first then_those
  groups-both (End ∷ ds) es came first then_those = groups-both ds es came first then_those

  -- a group of items alone isn't closed, and a mark closes it
  pub open-next : (es : List (Entry A)) → list_all is_item es ≡ true → next_group es ≡ es
  open-next [] all = refl
  open-next (Item x ∷ es) all = ap (λ us. Item x ∷ us) (open-next es all)
  open-next (To k ∷ es) all = absurd (false≢true all)
  open-next (Mark ∷ es) all = absurd (false≢true all)
  open-next (End ∷ es) all = absurd (false≢true all)

  closed-next : (es : List (Entry A)) → list_all is_item es ≡ true → next_group (es ++ Mark ∷ []) ≡ es
  closed-next [] all = refl
  closed-next (Item x ∷ es) all = ap (λ us. Item x ∷ us) (closed-next es all)
  closed-next (To k ∷ es) all = absurd (false≢true all)
  closed-next (Mark ∷ es) all = absurd (false≢true all)
  closed-next (End ∷ es) all = absurd (false≢true all)

  closed-whole : (es : List (Entry A)) → list_all is_item es ≡ true → has_group (es ++ Mark ∷ []) ≡ true
  closed-whole [] all = refl
  closed-whole (Item x ∷ es) all = closed-whole es all
  closed-whole (To k ∷ es) all = absurd (false≢true all)
  closed-whole (Mark ∷ es) all = refl
  closed-whole (End ∷ es) all = absurd (false≢true all)

  closed-others : (es : List (Entry A)) → list_all is_item es ≡ true → other_groups (es ++ Mark ∷ []) ≡ []
  closed-others [] all = refl
  closed-others (Item x ∷ es) all = closed-others es all
  closed-others (To k ∷ es) all = absurd (false≢true all)
  closed-others (Mark ∷ es) all = absurd (false≢true all)
  closed-others (End ∷ es) all = absurd (false≢true all)

  one-item-more : (es : List (Entry A)) (y : A) → list_all is_item es ≡ true → list_all is_item (es ++ Item y ∷ []) ≡ true
  one-item-more [] y all = refl
  one-item-more (Item x ∷ es) y all = one-item-more es y all
  one-item-more (To k ∷ es) y all = absurd (false≢true all)
  one-item-more (Mark ∷ es) y all = absurd (false≢true all)
  one-item-more (End ∷ es) y all = absurd (false≢true all)

  -- where nothing is left of what came, nothing of the next group has come
  nothing-begun : (left : Key → List (Entry A)) (kept : List (Entry A)) → ((k : Key) → left k ≡ []) → begun left kept ≡ []
  nothing-begun left [] none = refl
  nothing-begun left (Item x ∷ kept) none = refl
  nothing-begun left (To k ∷ kept) none = none k
  nothing-begun left (Mark ∷ kept) none = refl
  nothing-begun left (End ∷ kept) none = refl

  pub merges-begin : Merges {A = A} (λ k. []) [] [] []
  merges-begin = record { groups = tt; image = refl; unfinished = refl; nothing_else = λ k e. refl }

  -- a fork from which all that came was passed on
  all-passed : (came : Key → List (Entry A)) (served kept given : List (Entry A)) → HasGroups came served → ((k : Key) → left_over came served k ≡ [])
      → given ≡ replaced came served → Merges came served kept given
  all-passed came served kept given groups none is = record {
    groups = groups;
    image = is ∙ sym (append-nil (replaced came served)) ∙ ap (λ l. replaced came served ++ l) (sym (nothing-begun (left_over came served) kept none));
    unfinished = ap (list_all is_item) (nothing-begun (left_over came served) kept none);
    nothing_else = λ k e. none k;
  }

  pub merges-decided : (came : Key → List (Entry A)) (served kept given : List (Entry A)) (d : Entry A) → Merges came served kept given
      → Merges came served (kept ++ d ∷ []) given
  merges-decided came served [] given d m =
      all-passed came served (d ∷ []) given m.groups (λ k. m.nothing_else k refl) (m.image ∙ append-nil (replaced came served))
  merges-decided came served (Item x ∷ kept) given d m = record { groups = m.groups; image = m.image; unfinished = m.unfinished; nothing_else = m.nothing_else }
  merges-decided came served (To k ∷ kept) given d m = record { groups = m.groups; image = m.image; unfinished = m.unfinished; nothing_else = m.nothing_else }
  merges-decided came served (Mark ∷ kept) given d m = record { groups = m.groups; image = m.image; unfinished = m.unfinished; nothing_else = m.nothing_else }
  merges-decided came served (End ∷ kept) given d m = record { groups = m.groups; image = m.image; unfinished = m.unfinished; nothing_else = m.nothing_else }

  -- an entry that no child is asked for
  served-alone : (came : Key → List (Entry A)) (served kept given : List (Entry A)) (d : Entry A) → HasGroups came served → ((k : Key) → left_over came served k ≡ [])
      → given ≡ replaced came served ++ [] → HasGroups (left_over came served) (d ∷ []) → left_over (left_over came served) (d ∷ []) ≡ left_over came served
      → replaced (left_over came served) (d ∷ []) ≡ d ∷ [] → Merges came (served ++ d ∷ []) kept (given ++ d ∷ [])
  served-alone came served kept given d groups none is one_more same alone =
      all-passed came (served ++ d ∷ []) kept (given ++ d ∷ []) (groups-both served (d ∷ []) came groups one_more)
      (λ k. ap (λ f. f k) (left-both served (d ∷ []) came ∙ same) ∙ none k)
      (ap (λ l. l ++ d ∷ []) (is ∙ append-nil (replaced came served)) ∙ ap (λ l. replaced came served ++ l) (sym alone) ∙ sym (replaced-both served (d ∷ []) came))

  pub merges-own : (came : Key → List (Entry A)) (served kept given : List (Entry A)) (y : A) → Merges came served (Item y ∷ kept) given
      → Merges came (served ++ Item y ∷ []) kept (given ++ Item y ∷ [])
  merges-own came served kept given y m = served-alone came served kept given (Item y) m.groups (λ k. m.nothing_else k refl) m.image tt refl refl

  pub merges-mark : (came : Key → List (Entry A)) (served kept given : List (Entry A)) → Merges came served (Mark ∷ kept) given
      → Merges came (served ++ Mark ∷ []) kept (given ++ Mark ∷ [])
  merges-mark came served kept given m = served-alone came served kept given Mark m.groups (λ k. m.nothing_else k refl) m.image tt refl refl

  pub merges-end : (came : Key → List (Entry A)) (served kept given : List (Entry A)) → Merges came served (End ∷ kept) given
      → Merges came (served ++ End ∷ []) kept (given ++ End ∷ [])
  merges-end came served kept given m = served-alone came served kept given End m.groups (λ k. m.nothing_else k refl) m.image tt refl refl

  -- what one more entry from the child of k adds
  abbrev added : Key → Entry A → Key → List (Entry A)
  added k e j = cond (key_eq j k) (e ∷ []) []

  added-there : (k : Key) (e : Entry A) → added k e k ≡ e ∷ []
  added-there k e = ap (λ b. cond b (e ∷ []) []) (key_eq-refl k)

  module _ (came now : Key → List (Entry A)) (served kept given : List (Entry A)) (k : Key) (e : Entry A) (comes : ComesFrom k e came now)
      (m : Merges came served (To k ∷ kept) given) where
    left_here : left_over now served k ≡ left_over came served k ++ e ∷ []
    left_here = left-alike served now came (added k e) comes m.groups k ∙ ap (λ l. left_over came served k ++ l) (added-there k e)

    left_elsewhere : (j : Key) → key_eq j k ≡ false → left_over now served j ≡ []
    left_elsewhere j apart =
        left-alike served now came (added k e) comes m.groups j ∙ ap₂ (λ l b. l ++ cond b (e ∷ []) []) (m.nothing_else j apart) apart

    alike : replaced now served ≡ replaced came served
    alike = served-alike served now came (added k e) comes m.groups

    still : HasGroups now served
    still = groups-alike served now came (added k e) comes m.groups

  pub merges-item : (came now : Key → List (Entry A)) (served kept given : List (Entry A)) (k : Key) (y : A) → ComesFrom k (Item y) came now
      → Merges came served (To k ∷ kept) given → Merges now served (To k ∷ kept) (given ++ Item y ∷ [])
  merges-item came now served kept given k y comes m =
      let here = left_here came now served kept given k (Item y) comes m in record {
        groups = still came now served kept given k (Item y) comes m;
        image = ap (λ l. l ++ Item y ∷ []) m.image ∙ append_assoc (replaced came served) (left_over came served k) (Item y ∷ [])
            ∙ ap₂ (λ us vs. us ++ vs) (sym (alike came now served kept given k (Item y) comes m)) (sym here);
        unfinished = ap (list_all is_item) here ∙ one-item-more (left_over came served k) y m.unfinished;
        nothing_else = λ j apart. left_elsewhere came now served kept given k (Item y) comes m j apart;
      }

  pub merges-group : (came now : Key → List (Entry A)) (served kept given : List (Entry A)) (k : Key) → ComesFrom k Mark came now
      → Merges came served (To k ∷ kept) given → Merges now (served ++ To k ∷ []) kept given
  merges-group came now served kept given k comes m =
      all-passed now (served ++ To k ∷ []) kept given
      (groups-both served (To k ∷ []) now (still came now served kept given k Mark comes m) (ap has_group here ∙ closed-whole (left_over came served k) m.unfinished, tt))
      (λ j. ap (λ f. f j) (left-both served (To k ∷ []) now) ∙ at j (key_eq j k) refl)
      (m.image ∙ ap₂ (λ us vs. us ++ vs) (sym (alike came now served kept given k Mark comes m))
      (sym (ap next_group here ∙ closed-next (left_over came served k) m.unfinished) ∙ sym (append-nil (next_group (left_over now served k))))
      ∙ sym (replaced-both served (To k ∷ []) now))
    where
      here : left_over now served k ≡ left_over came served k ++ Mark ∷ []
      here = left_here came now served kept given k Mark comes m

      at : (j : Key) (b : Bool) → key_eq j k ≡ b → cond b (other_groups (left_over now served j)) (left_over now served j) ≡ []
      at j true e =
          ap (λ i. other_groups (left_over now served i)) (same_key j k e) ∙ ap other_groups here ∙ closed-others (left_over came served k) m.unfinished
      at j false e = left_elsewhere came now served kept given k Mark comes m j e
