-- Each step keeps the rule of a queue.
use Rattle.std.proofs.Common.{◌≡◌, ◌≢◌, ℕ, zero, suc, Bool, true, false, true≢false, List, [], ◌∷◌, ◌++◌, length, set, sym, refl, ap, ◌∙◌, subst, ⊎_elim, append_assoc, Option, Some, None}
use Rattle.std.specs.Prelude.{sum_by}
use Rattle.std.proofs.lemmas.List.Sums.{sum_by-append, sum_by_push}
use mathlib.Core.Option.{some, some-injective, some-ne-none}
use lib.ListN.{get_elem?}
use native.Mathlib.Omega.{arith}
use Rattle.crossbeam_queue.specs.Fifo.{Pushes, Pops, Forks, Merges, Learns}
use Rattle.crossbeam_queue.proofs.Lists.{at_snoc}
use Rattle.sn_ruled.specs.declared.rule.Known.{Known}
use Rattle.sn_ruled.specs.declared.rule.Role.{Role}
use Rattle.sn_ruled.specs.declared.rule.Role.TheVariants.{Maker, Pusher, Popper, GivenBack}
use Rattle.sn_ruled.specs.Rule.{Agreed, Every, IsLastOf, IsOf, Moment, Past, Popped, Pushed, Stands, both, fresh, given_back, known, maker, popper_of, pusher_of}
use Rattle.sn_ruled.proofs.Lists.{Each, at_end, each_more, each_set, every_rest, every_snoc, sum_set}

some_same : {O : Type 0} (r s : O) → Some r ≡ Some s → r ≡ s
some_same r s e = cc e

-- what a pass pushed and popped, weighed
abbrev weighs_pushed : {O T : Type 0} → (T → ℕ) → Known O T → ℕ
weighs_pushed weight v = sum_by weight v.pushed

abbrev weighs_popped : {O T : Type 0} → (T → ℕ) → Known O T → ℕ
weighs_popped weight v = sum_by weight v.popped

-- one more was pushed, or popped
abbrev one_more : {O T : Type 0} → Past O T → T → Past O T
one_more past x = record past { pushed = past.pushed ++ x ∷ [] }

abbrev one_less : {O T : Type 0} → Past O T → T → Past O T
one_less past x = record past { popped = past.popped ++ x ∷ [] }

-- nothing is pushed, so nothing is popped
none_before : {T : Type 0} (popped waiting : List T) → popped ++ waiting ≡ [] → popped ≡ []
none_before [] waiting e = refl
none_before (x ∷ xs) waiting e = absurd (cc e)

abbrev at_first : {O T : Type 0} → Past O T
at_first = record { owner = None; pushed = []; popped = []; maker = 0; pusher = 0; popper = 0 }

module _ {O T : Type 0} (of : O → T → Type 0) (one_pushes one_pops : Bool) where
  abbrev As : Past O T → ℕ → Role O → List T → List T → Type 0
  As = Stands of one_pushes one_pops

  abbrev Stand : Past O T → ℕ → Known O T → Type 0
  Stand past pass v = As past pass v.role v.pushed v.popped

  -- a role that several passes may have
  abbrev pub IsShared : Role O → Type 0
  IsShared Maker = ⊥
  IsShared (Pusher owner) = one_pushes ≡ false
  IsShared (Popper owner) = one_pops ≡ false
  IsShared GivenBack = ⊥

  first_stands : (pass : ℕ) (v : Known O T) → get_elem? (maker ∷ []) pass ≡ some v → Stand at_first pass v
  first_stands zero v e = subst (λ (y : Known O T). Stand at_first 0 y) (some-injective maker v e) (refl, refl, refl)
  first_stands (suc pass) v e = absurd (some-ne-none v (sym e))

  pub begins : Agreed of one_pushes one_pops [] (maker ∷ [])
  begins = record {
    past = at_first;
    order = refl;
    of_owner = tt;
    pushed = λ weight. refl;
    popped = λ weight. refl;
    stands = first_stands;
  }

  push_others : (past : Past O T) (x : T) (owner : O) (pass j : ℕ) → past.owner ≡ Some owner → (one_pushes ≡ true → pass ≡ past.pusher) → j ≢ pass
      → (role : Role O) (pushed popped : List T) → As past j role pushed popped → As (one_more past x) j role pushed popped
  push_others past x owner pass j is mine other Maker pushed popped h = absurd (cc (h.1, is))
  push_others past x owner pass j is mine other (Pusher r) pushed popped h = (h.0, λ one. absurd (other ((h.1 one).0 ∙ sym (mine one))))
  push_others past x owner pass j is mine other (Popper r) pushed popped h = h
  push_others past x owner pass j is mine other GivenBack pushed popped h = h

  pub pushes : (n pass : ℕ) (v : Known O T) (x : T) (owner : O) → v.role ≡ Pusher owner → of owner x → Pushes (Agreed of one_pushes one_pops) n pass v x (Pushed v x)
  pushes n pass v x owner is good waiting views _ h at =
      let past : Past O T = h.past in
      let w : Known O T = known v.role (v.pushed ++ x ∷ []) v.popped in
      let mine : As past pass (Pusher owner) v.pushed v.popped = subst (λ (role : Role O). As past pass role v.pushed v.popped) is (h.stands pass v at) in
      let stands : Stand (one_more past x) pass w = subst (λ (role : Role O). As (one_more past x) pass role (v.pushed ++ x ∷ []) v.popped) (sym is)
      (mine.0, λ one. ((mine.1 one).0, ap (λ l. l ++ x ∷ []) (mine.1 one).1)) in (
        w,
        record {
          past = one_more past x;
          order = ap (λ l. l ++ x ∷ []) h.order ∙ append_assoc past.popped waiting (x ∷ []);
          of_owner = every_snoc (IsOf of past.owner) past.pushed x h.of_owner (λ r e. subst (λ (q : O). of q x) (some_same owner r (sym mine.0 ∙ e)) good);
          pushed = λ weight.
              let whole = h.pushed weight in
              let changed = sum_set (weighs_pushed weight) views pass v w at in
              omega (arith, sum_by_push weight v.pushed x, sum_by_push weight past.pushed x);
          popped = λ weight.
              let whole = h.popped weight in
              let changed = sum_set (weighs_popped weight) views pass v w at in
              omega arith;
          stands = each_set (Stand (one_more past x)) views pass w stands
              (λ j u other e. push_others past x owner pass j mine.0 (λ one. (mine.1 one).0) other u.role u.pushed u.popped (h.stands j u e));
        },
        refl,
      )

  pop_others : (past : Past O T) (x : T) (owner : O) (pass j : ℕ) → past.owner ≡ Some owner → (one_pops ≡ true → pass ≡ past.popper) → j ≢ pass
      → (role : Role O) (pushed popped : List T) → As past j role pushed popped → As (one_less past x) j role pushed popped
  pop_others past x owner pass j is mine other Maker pushed popped h = absurd (cc (h.1, is))
  pop_others past x owner pass j is mine other (Pusher r) pushed popped h = h
  pop_others past x owner pass j is mine other (Popper r) pushed popped h = (h.0, λ one. absurd (other ((h.1 one).0 ∙ sym (mine one))))
  pop_others past x owner pass j is mine other GivenBack pushed popped h = h

  pub pops : (pass : ℕ) (v : Known O T) (owner : O) → v.role ≡ Popper owner → Pops (Agreed of one_pushes one_pops) pass v (Popped of v)
  pops pass v owner is x waiting views h at =
      let past : Past O T = h.past in
      let w : Known O T = known v.role v.pushed (v.popped ++ x ∷ []) in
      let mine : As past pass (Popper owner) v.pushed v.popped = subst (λ (role : Role O). As past pass role v.pushed v.popped) is (h.stands pass v at) in
      let stands : Stand (one_less past x) pass w = subst (λ (role : Role O). As (one_less past x) pass role v.pushed (v.popped ++ x ∷ [])) (sym is)
      (mine.0, λ one. ((mine.1 one).0, ap (λ l. l ++ x ∷ []) (mine.1 one).1)) in
      let good : IsOf of past.owner x = (every_rest (IsOf of past.owner) past.popped (x ∷ waiting) (subst (Every (IsOf of past.owner)) h.order h.of_owner)).0 in (
        w,
        record {
          past = one_less past x;
          order = h.order ∙ sym (append_assoc past.popped (x ∷ []) waiting);
          of_owner = h.of_owner;
          pushed = λ weight.
              let whole = h.pushed weight in
              let changed = sum_set (weighs_pushed weight) views pass v w at in
              omega arith;
          popped = λ weight.
              let whole = h.popped weight in
              let changed = sum_set (weighs_popped weight) views pass v w at in
              omega (arith, sum_by_push weight v.popped x, sum_by_push weight past.popped x);
          stands = each_set (Stand (one_less past x)) views pass w stands
              (λ j u other e. pop_others past x owner pass j mine.0 (λ one. (mine.1 one).0) other u.role u.pushed u.popped (h.stands j u e));
        },
        (refl, λ r e. good r (subst (λ (role : Role O). As past pass role v.pushed v.popped) e (h.stands pass v at)).0),
      )

  stands_fresh : (past : Past O T) (pass j : ℕ) (role : Role O) (pushed popped : List T) → IsShared role → As past pass role pushed popped → As past j role [] []
  stands_fresh past pass j Maker pushed popped shared h = absurd shared
  stands_fresh past pass j (Pusher owner) pushed popped shared h = (h.0, λ one. absurd (true≢false (sym one ∙ shared)))
  stands_fresh past pass j (Popper owner) pushed popped shared h = (h.0, λ one. absurd (true≢false (sym one ∙ shared)))
  stands_fresh past pass j GivenBack pushed popped shared h = tt

  pub shares : (pass : ℕ) (v : Known O T) → IsShared v.role → Forks (Agreed of one_pushes one_pops) pass v v (fresh v)
  shares pass v shared waiting views h at =
      let past : Past O T = h.past in
      let stands = h.stands pass v at in
      let vs : List (Known O T) = set views pass v in record {
        past = past;
        order = h.order;
        of_owner = h.of_owner;
        pushed = λ weight.
            let whole = h.pushed weight in
            let changed = sum_set (weighs_pushed weight) views pass v v at in
            let none : weighs_pushed weight (fresh v) ≡ 0 = refl in
            let more = sum_by_push (weighs_pushed weight) vs (fresh v) in
            omega arith;
        popped = λ weight.
            let whole = h.popped weight in
            let changed = sum_set (weighs_popped weight) views pass v v at in
            let none : weighs_popped weight (fresh v) ≡ 0 = refl in
            let more = sum_by_push (weighs_popped weight) vs (fresh v) in
            omega arith;
        stands = each_more (Stand past) vs (fresh v) (λ j. stands_fresh past pass j v.role v.pushed v.popped shared stands)
            (each_set (Stand past) views pass v stands (λ j u _ e. h.stands j u e));
      }

  stands_both : (past : Past O T) (pass : ℕ) (role : Role O) (pushed popped more_pushed more_popped : List T) → IsShared role → As past pass role pushed popped
      → As past pass role (pushed ++ more_pushed) (popped ++ more_popped)
  stands_both past pass Maker pushed popped p q shared h = absurd shared
  stands_both past pass (Pusher owner) pushed popped p q shared h = (h.0, λ one. absurd (true≢false (sym one ∙ shared)))
  stands_both past pass (Popper owner) pushed popped p q shared h = (h.0, λ one. absurd (true≢false (sym one ∙ shared)))
  stands_both past pass GivenBack pushed popped p q shared h = tt

  pub joins : (pass : ℕ) (v : Known O T) (other : ℕ) (w : Known O T) → IsShared v.role → Merges (Agreed of one_pushes one_pops) pass v other w (both v w) given_back
  joins pass v other w shared waiting views h at _ at' =
      let past : Past O T = h.past in
      let vs : List (Known O T) = set views pass (both v w) in
      let stands = stands_both past pass v.role v.pushed v.popped w.pushed w.popped shared (h.stands pass v at) in record {
        past = past;
        order = h.order;
        of_owner = h.of_owner;
        pushed = λ weight.
            let whole = h.pushed weight in
            let joined = sum_set (weighs_pushed weight) views pass v (both v w) at in
            let left = sum_set (weighs_pushed weight) vs other w given_back at' in
            let none : weighs_pushed weight (given_back {O = O} {T = T}) ≡ 0 = refl in
            omega (arith, sum_by-append weight v.pushed w.pushed);
        popped = λ weight.
            let whole = h.popped weight in
            let joined = sum_set (weighs_popped weight) views pass v (both v w) at in
            let left = sum_set (weighs_popped weight) vs other w given_back at' in
            let none : weighs_popped weight (given_back {O = O} {T = T}) ≡ 0 = refl in
            omega (arith, sum_by-append weight v.popped w.popped);
        stands = each_set (Stand past) vs other given_back tt
            (λ j u _ e. each_set (Stand past) views pass (both v w) stands (λ k z _ e'. h.stands k z e') j u e);
      }

  -- the past at the maker's split
  abbrev opened : Past O T → O → ℕ → ℕ → Past O T
  opened past owner pusher popper = record past { owner = Some owner; pusher = pusher; popper = popper }

  -- beside the maker there are only passes that were given back
  open_others : (past : Past O T) (owner : O) (pusher popper pass j : ℕ) → pass ≡ past.maker → past.owner ≡ None → j ≢ pass
      → (role : Role O) (pushed popped : List T) → As past j role pushed popped → As (opened past owner pusher popper) j role pushed popped × ((s : O) → role ≢ Popper s)
  open_others past owner pusher popper pass j mine none other Maker pushed popped h = absurd (other (h.0 ∙ sym mine))
  open_others past owner pusher popper pass j mine none other (Pusher r) pushed popped h = absurd (cc (h.0, none))
  open_others past owner pusher popper pass j mine none other (Popper r) pushed popped h = absurd (cc (h.0, none))
  open_others past owner pusher popper pass j mine none other GivenBack pushed popped h = (tt, λ s e. absurd (cc e))

  opens_of : (pass : ℕ) (v : Known O T) (owner : O) → v ≡ maker → Forks (Agreed of one_pushes one_pops) pass v (known (Pusher owner) [] []) (known (Popper owner) [] [])
  opens_of pass v owner is waiting views h at =
      let past : Past O T = h.past in
      let l : Known O T = known (Pusher owner) [] [] in
      let r : Known O T = known (Popper owner) [] [] in
      let vs : List (Known O T) = set views pass l in
      let new : Past O T = opened past owner pass (length vs) in
      let mine : As past pass Maker [] [] = subst (λ (y : Known O T). Stand past pass y) is (h.stands pass v at) in
      let none : past.popped ≡ [] = none_before past.popped waiting (sym h.order ∙ mine.2) in
      let Old : ℕ → Known O T → Type 0 = λ j u. Stand new j u × ((s : O) → u.role ≢ Popper s) in
      let old : Each Old vs = each_set Old views pass l (((refl, λ one. (refl, sym mine.2))), λ s e. absurd (cc e))
      (λ j u other e. open_others past owner pass (length vs) pass j mine.0 mine.1 other u.role u.pushed u.popped (h.stands j u e)) in record {
        past = new;
        order = h.order;
        of_owner = subst (λ (xs : List T). Every (IsOf of (Some owner)) xs) (sym mine.2) tt;
        pushed = λ weight.
            let whole = h.pushed weight in
            let before : weighs_pushed weight v ≡ 0 = ap (weighs_pushed weight) is in
            let changed = sum_set (weighs_pushed weight) views pass v l at in
            let nothing : weighs_pushed weight l ≡ 0 = refl in
            let neither : weighs_pushed weight r ≡ 0 = refl in
            let more = sum_by_push (weighs_pushed weight) vs r in
            omega arith;
        popped = λ weight.
            let whole = h.popped weight in
            let before : weighs_popped weight v ≡ 0 = ap (weighs_popped weight) is in
            let changed = sum_set (weighs_popped weight) views pass v l at in
            let nothing : weighs_popped weight l ≡ 0 = refl in
            let neither : weighs_popped weight r ≡ 0 = refl in
            let more = sum_by_push (weighs_popped weight) vs r in
            omega arith;
        stands = λ j u e. ⊎_elim (λ x. (old j u x).0)
            (λ (same : r ≡ u).
            let last : j ≡ length vs = at_end vs r u j (λ x. (old j u x).1 owner (sym (ap (λ (y : Known O T). y.role) same))) e in
            subst (λ (y : Known O T). Stand new j y) same (refl, λ one. (last, sym none)))
            (at_snoc vs r u j e);
      }

  pub opens : (pass : ℕ) (v : Known O T) (picked : Option O) (owner : O) → picked ≡ Some owner → v ≡ maker
      → Forks (Agreed of one_pushes one_pops) pass v (known (pusher_of picked) [] []) (known (popper_of picked) [] [])
  opens pass v picked owner picks is =
      subst (λ (written : Option O). Forks (Agreed of one_pushes one_pops) pass v (known (pusher_of written) [] []) (known (popper_of written) [] [])) (sym picks)
      (opens_of pass v owner is)

  -- what a pass that alone pushes learns of what waits
  pub last_of : (pass : ℕ) (v : Known O T) (owner : O) → v.role ≡ Pusher owner → one_pushes ≡ true → Learns (Agreed of one_pushes one_pops) pass v (IsLastOf v.pushed)
  last_of pass v owner is one waiting views h at =
      let mine : As h.past pass (Pusher owner) v.pushed v.popped = subst (λ (role : Role O). As h.past pass role v.pushed v.popped) is (h.stands pass v at) in
      (h.past.popped, (mine.1 one).1 ∙ h.order)

  pub moment : (pass : ℕ) (v : Known O T) → Learns (Agreed of one_pushes one_pops) pass v (Moment of one_pushes one_pops v)
  moment pass v waiting views h at = record { views = views; pass = pass; rule = h; knows = at }
