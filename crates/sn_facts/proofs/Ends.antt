-- What a fork gives is a beginning of what leaves it, and no child ends before its groups.
use Rattle.std.proofs.Common.{◌≡◌, ℕ, suc, ◌+◌, Bool, true, false, ◌||◌, cond, List, [], ◌∷◌, ◌++◌, refl, sym, ap, ap₂, ◌∙◌, append_assoc, append-nil, subst, arith}
use Rattle.std.specs.List.{list_all, list_any}
use Rattle.std.proofs.lemmas.Bool.{false≢true}
use mathlib.Core.List.{IsPrefix, head-eq_of_cons-eq, tail-eq_of_cons-eq, cons≢nil}
use Rattle.sn_streams.specs.Forks.{Merge, Router}
use Rattle.sn_streams.specs.Keys.{Key, Own, key_eq}
use Rattle.sn_streams.specs.Segments.{Segments}
use Rattle.sn_streams.specs.Trees.{Tree, Fork}
use Rattle.sn_streams.proofs.Keys.{same_key, key_eq-refl}
use Rattle.sn_histories.specs.Entries.{Entry, Item, To, Mark, End, EndsOnce, HasGroups, has_group, is_end, left_over, marks_in, next_group, other_groups, replaced, sent_to, without_next}
use Rattle.sn_histories.specs.Histories.{Decisions, In, IsAt, Out, PassesOwn, hist}
use Rattle.sn_histories.specs.Sites.{Into, Step}
use Rattle.sn_histories.proofs.Beginnings.{served-begins, begun-follows}
use Rattle.sn_histories.proofs.Groups.{groups-for-all}
use Rattle.sn_histories.proofs.Histories.{fork-history, out-ends}
use Rattle.sn_histories.proofs.Sites.{at-next}
use Rattle.sn_facts.specs.Forking.{Decides, Merges, is_item}
use Rattle.sn_facts.proofs.Forking.{decides-beginning}
use Rattle.sn_facts.proofs.Merging.{open-next}

not_more : (n m : ℕ) → n ≡ n + suc m → ⊥
not_more n m is = omega arith

plus_none : (n : ℕ) → n + 0 ≡ n
plus_none n = omega arith

none_plus : (n : ℕ) → n ≡ 0 + n
none_plus n = omega arith

suc_plus : (a b : ℕ) → suc (a + b) ≡ suc a + b
suc_plus a b = omega arith

module _ {A : Type 0} where
  -- by what is kept: a group is next, or none
  gives : (outs came more : Key → List (Entry A)) (served kept behind given whole : List (Entry A)) → ((k : Key) → outs k ≡ came k ++ more k)
      → whole ≡ replaced outs (served ++ (kept ++ behind)) → Merges came served kept given → IsPrefix given whole
  gives outs came more served kept behind given whole agree is m = at kept is m
    where
      none : (kept : List (Entry A)) → whole ≡ replaced outs (served ++ (kept ++ behind)) → HasGroups came served → given ≡ replaced came served ++ [] → IsPrefix given whole
      none kept is groups image = with_rest (served-begins outs came more served (kept ++ behind) whole agree groups is)
        where
          with_rest : ((rest : List (Entry A)) × (whole ≡ replaced came served ++ rest)) → IsPrefix given whole
          with_rest (rest, begins) = (rest, ap (λ l. l ++ rest) (image ∙ append-nil (replaced came served)) ∙ sym begins)

      at : (kept : List (Entry A)) → whole ≡ replaced outs (served ++ (kept ++ behind)) → Merges came served kept given → IsPrefix given whole
      at [] is m = none [] is m.groups m.image
      at (Item x ∷ kept) is m = none (Item x ∷ kept) is m.groups m.image
      at (To k ∷ kept) is m = with_rest (begun-follows outs came more served (kept ++ behind) k whole agree m.groups is)
        where
          with_rest : ((rest : List (Entry A)) × (whole ≡ replaced came served ++ (next_group (left_over came served k) ++ rest))) → IsPrefix given whole
          with_rest (rest, begins) = (
            rest,
            ap (λ l. l ++ rest) m.image ∙ append_assoc (replaced came served) (left_over came served k) rest
                ∙ ap (λ l. replaced came served ++ (l ++ rest)) (sym (open-next (left_over came served k) m.unfinished)) ∙ sym begins,
          )
      at (Mark ∷ kept) is m = none (Mark ∷ kept) is m.groups m.image
      at (End ∷ kept) is m = none (End ∷ kept) is m.groups m.image

  -- where a list has one end, which is last, nothing follows an end in it
  ends-there : (before came rest : List (Entry A)) → list_any is_end before ≡ false → came ++ End ∷ rest ≡ before ++ End ∷ [] → came ≡ before
  ends-there [] [] rest none is = refl
  ends-there [] (c ∷ []) rest none is = absurd (cons≢nil (tail-eq_of_cons-eq is))
  ends-there [] (c ∷ (d ∷ came)) rest none is = absurd (cons≢nil (tail-eq_of_cons-eq is))
  ends-there (b ∷ before) [] rest none is =
      absurd (false≢true (sym none ∙ ap (λ e. is_end e || list_any is_end before) (sym (head-eq_of_cons-eq is))))
  ends-there (b ∷ before) (c ∷ came) rest none is =
      ap₂ (λ e es. e ∷ es) (head-eq_of_cons-eq is) (ends-there before came rest (quiet (is_end b) none) (tail-eq_of_cons-eq is))
    where
      quiet : (h : Bool) → (h || list_any is_end before) ≡ false → list_any is_end before ≡ false
      quiet true e = absurd (false≢true (sym e))
      quiet false e = e

  marks-end : (es : List (Entry A)) → marks_in (es ++ End ∷ []) ≡ marks_in es
  marks-end [] = refl
  marks-end (Item x ∷ es) = marks-end es
  marks-end (To k ∷ es) = marks-end es
  marks-end (Mark ∷ es) = ap suc (marks-end es)
  marks-end (End ∷ es) = marks-end es

  marks-open : (es : List (Entry A)) → list_all is_item es ≡ true → marks_in es ≡ 0
  marks-open [] all = refl
  marks-open (Item x ∷ es) all = marks-open es all
  marks-open (To k ∷ es) all = absurd (false≢true all)
  marks-open (Mark ∷ es) all = absurd (false≢true all)
  marks-open (End ∷ es) all = absurd (false≢true all)

  marks-group : (es : List (Entry A)) → has_group es ≡ true → marks_in es ≡ suc (marks_in (other_groups es))
  marks-group [] has = absurd (false≢true has)
  marks-group (Item x ∷ es) has = marks-group es has
  marks-group (To k ∷ es) has = marks-group es has
  marks-group (Mark ∷ es) has = refl
  marks-group (End ∷ es) has = absurd (false≢true has)

  -- what came from a child has a mark for each decision for it that was served, and those of what is left
  marks-served : (k : Key) (ds : List (Entry A)) (came : Key → List (Entry A)) → HasGroups came ds → marks_in (came k) ≡ sent_to k ds + marks_in (left_over came ds k)
  marks-served k [] came has = none_plus (marks_in (came k))
  marks-served k (Item x ∷ ds) came has = marks-served k ds came has
  marks-served k (To j ∷ ds) came has = at (key_eq k j) refl (marks-served k ds (without_next came j) has.1)
    where
      at : (b : Bool) → key_eq k j ≡ b → marks_in (cond b (other_groups (came k)) (came k)) ≡ sent_to k ds + marks_in (left_over (without_next came j) ds k)
          → marks_in (came k) ≡ cond b (suc (sent_to k ds)) (sent_to k ds) + marks_in (left_over (without_next came j) ds k)
      at true e is = marks-group (came k) (subst (λ i. has_group (came i) ≡ true) (sym (same_key k j e)) has.0)
          ∙ ap suc is ∙ suc_plus (sent_to k ds) (marks_in (left_over (without_next came j) ds k))
      at false e is = is
  marks-served k (Mark ∷ ds) came has = marks-served k ds came has
  marks-served k (End ∷ ds) came has = marks-served k ds came has

  sent-both : (k : Key) (ds es : List (Entry A)) → sent_to k (ds ++ es) ≡ sent_to k ds + sent_to k es
  sent-both k [] es = none_plus (sent_to k es)
  sent-both k (Item x ∷ ds) es = sent-both k ds es
  sent-both k (To j ∷ ds) es = at (key_eq k j) (sent-both k ds es)
    where
      at : (b : Bool) → sent_to k (ds ++ es) ≡ sent_to k ds + sent_to k es
          → cond b (suc (sent_to k (ds ++ es))) (sent_to k (ds ++ es)) ≡ cond b (suc (sent_to k ds)) (sent_to k ds) + sent_to k es
      at true is = ap suc is ∙ suc_plus (sent_to k ds) (sent_to k es)
      at false is = is
  sent-both k (Mark ∷ ds) es = sent-both k ds es
  sent-both k (End ∷ ds) es = sent-both k ds es

  sent-there : (k : Key) (ds : List (Entry A)) → sent_to k (To k ∷ ds) ≡ suc (sent_to k ds)
  sent-there k ds = ap (λ b. cond b (suc (sent_to k ds)) (sent_to k ds)) (key_eq-refl k)

module _ {A S : Type 0} (t : Tree A S) (xs : List A) (steps : List Step) (merge : Merge) (r : Router A) (child : Key → Tree A S) (xss : Segments A)
    (at : IsAt t xs steps (record { part = Fork merge r child; seg = xss })) where
  pub gives-beginning : (came : Key → List (Entry A)) (received served kept given : List (Entry A)) → PassesOwn t → IsPrefix received (hist t xs steps In)
      → ((k : Key) → IsPrefix (came k) (hist t xs (steps ++ Into k ∷ []) Out)) → Decides r received served kept → Merges came served kept given
      → IsPrefix given (hist t xs steps Out)
  gives-beginning came received served kept given own comes outs decides m = with_decisions (decides-beginning t xs steps merge r child xss at received served kept decides comes)
    where
      with_decisions : IsPrefix (served ++ kept) (hist t xs steps Decisions) → IsPrefix given (hist t xs steps Out)
      with_decisions (behind, is) =
          gives (λ k. hist t xs (steps ++ Into k ∷ []) Out) came (λ k. (outs k).0) served kept behind given (hist t xs steps Out) (λ k. sym (outs k).1)
          (fork-history t xs steps merge r child xss own at
          ∙ ap (replaced (λ k. hist t xs (steps ++ Into k ∷ []) Out)) (sym is ∙ append_assoc served kept behind))
          m

  pub no-early-end : (came : Key → List (Entry A)) (received served kept given : List (Entry A)) (k : Key) → key_eq k Own ≡ false
      → IsPrefix received (hist t xs steps In) → IsPrefix (came k ++ End ∷ []) (hist t xs (steps ++ Into k ∷ []) Out)
      → Decides r received served (To k ∷ kept) → Merges came served (To k ∷ kept) given → ⊥
  no-early-end came received served kept given k apart comes (rest, ends) decides m =
      with_both (out-ends t xs (steps ++ Into k ∷ []) (record { part = child k; seg = _ }) (at-next t xs steps (Into k) (record { part = Fork merge r child; seg = xss }) _ at refl))
      (decides-beginning t xs steps merge r child xss at received served (To k ∷ kept) decides comes)
    where
      leaves : List (Entry A)
      leaves = hist t xs (steps ++ Into k ∷ []) Out

      with_both : EndsOnce leaves → IsPrefix (served ++ To k ∷ kept) (hist t xs steps Decisions) → ⊥
      with_both (before, whole, none) (behind, decided) = not_more (sent_to k served) (sent_to k (kept ++ behind)) (
          sym (marks-served k served came m.groups ∙ ap (λ n. sent_to k served + n) (marks-open (left_over came served k) m.unfinished) ∙ plus_none (sent_to k served))
          ∙ ap marks_in (ends-there before (came k) rest none (sym (append_assoc (came k) (End ∷ []) rest) ∙ ends ∙ whole))
          ∙ sym (marks-end before) ∙ ap marks_in (sym whole)
          ∙ groups-for-all t xs steps merge r child xss k apart at
          ∙ ap (sent_to k) (sym decided ∙ append_assoc served (To k ∷ kept) behind)
          ∙ sent-both k served (To k ∷ (kept ++ behind))
          ∙ ap (λ n. sent_to k served + n) (sent-there k (kept ++ behind)))
