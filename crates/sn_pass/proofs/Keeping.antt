-- What a tree keeps between two items: states that it cannot tell apart, and the law that it gives the one-thread meaning.
use Rattle.std.proofs.Common.{◌≡◌, Bool, true, false, cond, List, [], ◌∷◌, ◌++◌, refl, sym, ap, ap₂, ◌∙◌, subst, append-nil}
use Rattle.std.proofs.lemmas.List.{append_cancel_left}
use Rattle.sn_streams.specs.Forks.{Router}
use Rattle.sn_streams.specs.Keys.{Key, key_eq}
use Rattle.sn_streams.specs.Machines.{Machine, emitted, after}
use Rattle.sn_streams.specs.OneByOne.{State, start, one_by_one}
use Rattle.sn_streams.specs.Segments.{first_segment}
use Rattle.sn_streams.specs.Trees.{Tree, Component, Series, Fork, one, passing}
use Rattle.sn_streams.proofs.Machines.{emitted-append}
use Rattle.sn_streams.proofs.OneByOne.{one_is_a_machine}
use Rattle.sn_pass.specs.Keeping.{Keeping, Fresh, state_or, left_of, right_of, child_of, keeping, Same}

-- Two machines with states that stand for one another: they emit the same for an item, and such states follow.
pub record Agree {A S T : Type 0} (m : Machine A S) (n : Machine A T) (R : S → T → Type 0) : Type 0 where
  pub emits : (s : S) (t : T) (x : A) → R s t → m.emits s x ≡ n.emits t x
  pub next : (s : S) (t : T) (x : A) → R s t → R (m.next s x) (n.next t x)

module _ {A S T : Type 0} {m : Machine A S} {n : Machine A T} {R : S → T → Type 0} (agree : Agree m n R) where
  -- the same of lists of items
  pub agree_emitted : (s : S) (t : T) (xs : List A) → R s t → emitted m s xs ≡ emitted n t xs
  agree_emitted s t [] stand = refl
  agree_emitted s t (x ∷ xs) stand =
      ap₂ (λ ys zs. ys ++ zs) (agree.emits s t x stand) (agree_emitted (m.next s x) (n.next t x) xs (agree.next s t x stand))

  pub agree_after : (s : S) (t : T) (xs : List A) → R s t → R (after m s xs) (after n t xs)
  agree_after s t [] stand = stand
  agree_after s t (x ∷ xs) stand = agree_after (m.next s x) (n.next t x) xs (agree.next s t x stand)

  -- and of lists that are equal
  pub agree_emitted_from : (s : S) (t : T) (xs ys : List A) → xs ≡ ys → R s t → emitted m s xs ≡ emitted n t ys
  agree_emitted_from s t xs ys is stand = agree_emitted s t xs stand ∙ ap (emitted n t) is

  pub agree_after_from : (s : S) (t : T) (xs ys : List A) → xs ≡ ys → R s t → R (after m s xs) (after n t ys)
  agree_after_from s t xs ys is stand = subst (λ (zs : List A). R (after m s xs) (after n t zs)) is (agree_after s t xs stand)

-- what stands for one another in both cases does so in either
pub chosen : {S T : Type 0} (R : S → T → Type 0) (b : Bool) (s s' : S) (t t' : T) → R s t → R s' t' → R (cond b s s') (cond b t t')
chosen R true s s' t t' first second = first
chosen R false s s' t t' first second = second

pub same_refl : {A S : Type 0} (t : Tree A S) (q : Keeping S) → Same t q q
same_refl (Component m s) q = λ xs. refl
same_refl (Series a b) q = (same_refl a (left_of q), same_refl b (right_of q))
same_refl (Fork merge r child) q = λ k. same_refl (child k) (child_of q k)

pub same_sym : {A S : Type 0} (t : Tree A S) (q p : Keeping S) → Same t q p → Same t p q
same_sym (Component m s) q p same = λ xs. sym (same xs)
same_sym (Series a b) q p same = (same_sym a (left_of q) (left_of p) same.0, same_sym b (right_of q) (right_of p) same.1)
same_sym (Fork merge r child) q p same = λ k. same_sym (child k) (child_of q k) (child_of p k) (same k)

pub same_trans : {A S : Type 0} (t : Tree A S) (q p u : Keeping S) → Same t q p → Same t p u → Same t q u
same_trans (Component m s) q p u first second = λ xs. first xs ∙ second xs
same_trans (Series a b) q p u first second =
    (same_trans a (left_of q) (left_of p) (left_of u) first.0 second.0, same_trans b (right_of q) (right_of p) (right_of u) first.1 second.1)
same_trans (Fork merge r child) q p u first second = λ k. same_trans (child k) (child_of q k) (child_of p k) (child_of u k) (first k) (second k)

-- states from which a machine gives the same for whatever items come
abbrev pub Alike : {A S : Type 0} → Machine A S → S → S → Type 0
Alike {A} m s t = (xs : List A) → emitted m s xs ≡ emitted m t xs

module _ {A S : Type 0} (m : Machine A S) (s t : S) where
  pub first_alike : (x : A) → Alike m s t → m.emits s x ≡ m.emits t x
  first_alike x alike = sym (append-nil (m.emits s x)) ∙ alike (x ∷ []) ∙ append-nil (m.emits t x)

  pub later_alike : (x : A) (xs : List A) → Alike m s t → emitted m (m.next s x) xs ≡ emitted m (m.next t x) xs
  later_alike x xs alike =
      append_cancel_left (m.emits s x) (emitted m (m.next s x) xs) (emitted m (m.next t x) xs)
      (alike (x ∷ xs) ∙ ap (λ ys. ys ++ emitted m (m.next t x) xs) (sym (first_alike x alike)))

  pub same_state : s ≡ t → Alike m s t
  same_state same = λ xs. ap (λ state. emitted m state xs) same

-- a machine that keeps nothing gives the same from all states
pub nothing_kept : {A S : Type 0} (f : A → List A) (s t : S) → Alike (record { next = λ q x. q; emits = λ q x. f x }) s t
nothing_kept f s t [] = refl
nothing_kept f s t (x ∷ xs) = ap (λ ys. f x ++ ys) (nothing_kept f s t xs)

-- what lets items pass keeps nothing
pub passing_same : {A S : Type 0} (r : Router A) (s : S) (q p : Keeping S) → Same (passing r s) q p
passing_same r s q p = nothing_kept (λ x. r.own x ∷ []) (state_or s q) (state_or s p)

-- from states that it cannot tell apart a tree gives the same, and cannot tell the next ones apart
pub same_agree : {A S : Type 0} (t : Tree A S) → Agree (keeping t) (keeping t) (Same t)
same_agree (Component m s) = record {
  emits = λ q p x same. first_alike m (state_or s q) (state_or s p) x same;
  next = λ q p x same xs. later_alike m (state_or s q) (state_or s p) x xs same;
}
same_agree (Series a b) = record {
  emits = λ q p x same. agree_emitted_from (same_agree b) (right_of q) (right_of p) _ _ ((same_agree a).emits (left_of q) (left_of p) x same.0) same.1;
  next = λ q p x same. (
    (same_agree a).next (left_of q) (left_of p) x same.0,
    agree_after_from (same_agree b) (right_of q) (right_of p) _ _ ((same_agree a).emits (left_of q) (left_of p) x same.0) same.1,
  );
}
same_agree (Fork merge r child) = record {
  emits = λ q p x same. (same_agree (child (r.key x))).emits (child_of q (r.key x)) (child_of p (r.key x)) x (same (r.key x));
  next = λ q p x same k.
      chosen (Same (child k)) (key_eq k (r.key x)) _ (child_of q k) _ (child_of p k)
      ((same_agree (child k)).next (child_of q k) (child_of p k) x (same k)) (same k);
}

module _ {A S : Type 0} (t : Tree A S) (q p : Keeping S) (same : Same t q p) where
  pub same_emits : (x : A) → (keeping t).emits q x ≡ (keeping t).emits p x
  same_emits x = (same_agree t).emits q p x same

  pub same_next : (x : A) → Same t ((keeping t).next q x) ((keeping t).next p x)
  same_next x = (same_agree t).next q p x same

  pub same_emitted : (xs : List A) → emitted (keeping t) q xs ≡ emitted (keeping t) p xs
  same_emitted xs = agree_emitted (same_agree t) q p xs same

  pub same_after : (xs : List A) → Same t (after (keeping t) q xs) (after (keeping t) p xs)
  same_after xs = agree_after (same_agree t) q p xs same

-- what is kept stands for a state of the tree's own type: each component is in the same state
abbrev pub Stands : {A S : Type 0} → (t : Tree A S) → Keeping S → State t → Type 0
Stands (Component m s) q state = state_or s q ≡ state
Stands (Series a b) q state = Stands a (left_of q) state.0 × Stands b (right_of q) state.1
Stands (Fork merge r child) q state = (k : Key) → Stands (child k) (child_of q k) (state k)

pub stands_start : {A S : Type 0} (t : Tree A S) → Stands t Fresh (start t)
stands_start (Component m s) = refl
stands_start (Series a b) = (stands_start a, stands_start b)
stands_start (Fork merge r child) = λ k. stands_start (child k)

pub stands_agree : {A S : Type 0} (t : Tree A S) → Agree (keeping t) (one_by_one t) (Stands t)
stands_agree (Component m s) = record {
  emits = λ q state x stand. ap (λ known. m.emits known x) stand;
  next = λ q state x stand. ap (λ known. m.next known x) stand;
}
stands_agree (Series a b) = record {
  emits = λ q state x stand. agree_emitted_from (stands_agree b) (right_of q) state.1 _ _ ((stands_agree a).emits (left_of q) state.0 x stand.0) stand.1;
  next = λ q state x stand. (
    (stands_agree a).next (left_of q) state.0 x stand.0,
    agree_after_from (stands_agree b) (right_of q) state.1 _ _ ((stands_agree a).emits (left_of q) state.0 x stand.0) stand.1,
  );
}
stands_agree (Fork merge r child) = record {
  emits = λ q state x stand. (stands_agree (child (r.key x))).emits (child_of q (r.key x)) (state (r.key x)) x (stand (r.key x));
  next = λ q state x stand k.
      chosen (Stands (child k)) (key_eq k (r.key x)) _ (child_of q k) _ (state k)
      ((stands_agree (child k)).next (child_of q k) (state k) x (stand k)) (stand k);
}

-- the one-thread meaning of a list is what the tree gives item by item, from where nothing is kept
pub keeping_is_one : {A S : Type 0} (t : Tree A S) (xs : List A) → first_segment (one t (xs ∷ [])) ≡ emitted (keeping t) Fresh xs
keeping_is_one t xs = ap first_segment (one_is_a_machine t (xs ∷ [])) ∙ sym (agree_emitted (stands_agree t) Fresh (start t) xs (stands_start t))

-- the same of later items, from what is kept after earlier ones
pub keeping_later : {A S : Type 0} (t : Tree A S) (xs ys : List A)
    → first_segment (one t ((xs ++ ys) ∷ [])) ≡ emitted (keeping t) Fresh xs ++ emitted (keeping t) (after (keeping t) Fresh xs) ys
keeping_later t xs ys = keeping_is_one t (xs ++ ys) ∙ emitted-append (keeping t) Fresh xs ys
