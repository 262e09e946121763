-- What is seen of the children of a dispatcher, by their keys.
use Rattle.std.proofs.Common.{◌≡◌, ℕ, zero, suc, ◌+◌, Bool, true, false, cond, List, [], ◌∷◌, map, Some, refl, sym, ap, ap₂, ◌∙◌}
use Rattle.std.specs.Prelude.{slice_get}
use Rattle.sn_streams.specs.Keys.{Key, key_eq, AreDistinct, is_among}
use Rattle.sn_streams.specs.Keys as key
use Rattle.sn_streams.proofs.Keys.{key_eq-refl, same_key}
use Rattle.sn_view.specs.Epochs.{counted_at}
use Rattle.sn_net.specs.Item.{ModelItem}
use Rattle.sn_view.specs.View.{Child, changed_at, State, Alone, Cell, InTurn, Freely}
use Rattle.sn_live.specs.Entries.{Entry as LiveEntry}
use Rattle.sn_view.specs.Seen.{erased, kept_by_key, epoch_by_key, own_groups, seen_kept}
use Rattle.sn_view.specs.Placed.{Door, door_of, HasKey}

abbrev pub keys_of : List Child → List Key
keys_of cs = map (λ (c : Child). c.key) cs

pub keys-of-doors : (cs : List Child) → map (λ (d : Door). d.key) (map door_of cs) ≡ keys_of cs
keys-of-doors [] = refl
keys-of-doors (c ∷ cs) = ap (λ (ks : List Key). c.key ∷ ks) (keys-of-doors cs)

pub key-among : (cs : List Child) (c : ℕ) (child : Child) → slice_get cs c ≡ Some child → is_among child.key (keys_of cs) ≡ true
key-among [] c child e = cc
key-among (d ∷ cs) zero child e =
    let u : d ≡ child = cc in
    let F : Bool → Bool = λ b. cond b true (is_among child.key (keys_of cs)) in
    ap F (ap (λ (x : Child). key_eq child.key x.key) u ∙ key_eq-refl child.key)
key-among (d ∷ cs) (suc c) child e = at (key_eq child.key d.key) (key-among cs c child e)
  where
    at : (b : Bool) → is_among child.key (keys_of cs) ≡ true → cond b true (is_among child.key (keys_of cs)) ≡ true
    at true h = refl
    at false h = h

-- the first child's key is no other's
pub first-differs : (d : Child) (cs : List Child) (c : ℕ) (child : Child) → is_among d.key (keys_of cs) ≡ false → slice_get cs c ≡ Some child → key_eq child.key d.key ≡ false
first-differs d cs c child new e = at (key_eq child.key d.key) refl
  where
    impossible : true ≡ false → ⊥
    impossible h = cc

    at : (b : Bool) → key_eq child.key d.key ≡ b → b ≡ false
    at false t = refl
    at true t = absurd (impossible (sym (key-among cs c child e) ∙ ap (λ (k : Key). is_among k (keys_of cs)) (same_key child.key d.key t) ∙ new))

pub kept-here : (cs : List Child) (c : ℕ) (child : Child) → slice_get cs c ≡ Some child → AreDistinct (keys_of cs) → kept_by_key cs child.key ≡ erased child.kept
kept-here [] c child e d = cc
kept-here (x ∷ cs) zero child e d =
    let u : x ≡ child = cc in
    let F : Bool → List (LiveEntry ModelItem) = λ b. cond b (erased x.kept) (kept_by_key cs child.key) in
    ap F (ap (λ (y : Child). key_eq child.key y.key) u ∙ key_eq-refl child.key) ∙ ap (λ (y : Child). erased y.kept) u
kept-here (x ∷ cs) (suc c) child e (new, d) =
    let F : Bool → List (LiveEntry ModelItem) = λ b. cond b (erased x.kept) (kept_by_key cs child.key) in
    ap F (first-differs x cs c child new e) ∙ kept-here cs c child e d

module _ (f : Child → Child) (same-key : (d : Child) → (f d).key ≡ d.key) where
  pub keys-changed : (cs : List Child) (c : ℕ) → keys_of (changed_at c f cs) ≡ keys_of cs
  keys-changed [] c = refl
  keys-changed (d ∷ cs) zero = ap (λ (k : Key). k ∷ keys_of cs) (same-key d)
  keys-changed (d ∷ cs) (suc c) = ap (λ (ks : List Key). d.key ∷ ks) (keys-changed cs c)

  pub epochs-changed : (cs : List Child) (c : ℕ) (ns : List ℕ) (k : Key) → epoch_by_key (changed_at c f cs) ns k ≡ epoch_by_key cs ns k
  epochs-changed [] c ns k = refl
  epochs-changed (d ∷ cs) zero [] k = refl
  epochs-changed (d ∷ cs) (suc c) [] k = refl
  epochs-changed (d ∷ cs) zero (n ∷ ns) k = ap (λ (j : Key). cond (key_eq k j) n (epoch_by_key cs ns k)) (same-key d)
  epochs-changed (d ∷ cs) (suc c) (n ∷ ns) k = ap (λ (m : ℕ). cond (key_eq k d.key) n m) (epochs-changed cs c ns k)

  -- what is kept of one child changes, that of the others not
  pub kept-changed : (cs : List Child) (c : ℕ) (child : Child) → slice_get cs c ≡ Some child → AreDistinct (keys_of cs) → (k : Key)
      → kept_by_key (changed_at c f cs) k ≡ cond (key_eq k child.key) (erased (f child).kept) (kept_by_key cs k)
  kept-changed [] c child e d k = cc
  kept-changed (x ∷ cs) zero child e d k =
      let u : x ≡ child = cc in
      ap (λ (j : Key). cond (key_eq k j) (erased (f x).kept) (kept_by_key cs k)) (same-key x)
      ∙ on (key_eq k x.key) ∙ ap (λ (y : Child). cond (key_eq k y.key) (erased (f y).kept) (cond (key_eq k x.key) (erased x.kept) (kept_by_key cs k))) u
    where
      on : (b : Bool) → cond b (erased (f x).kept) (kept_by_key cs k) ≡ cond b (erased (f x).kept) (cond b (erased x.kept) (kept_by_key cs k))
      on true = refl
      on false = refl
  kept-changed (x ∷ cs) (suc c) child e (new, d) k =
      ap (λ (w : List (LiveEntry ModelItem)). cond (key_eq k x.key) (erased x.kept) w) (kept-changed cs c child e d k)
      ∙ on (key_eq k x.key) (key_eq k child.key) (λ t u. apart t u)
    where
      impossible : true ≡ false → ⊥
      impossible h = cc

      apart : key_eq k x.key ≡ true → key_eq k child.key ≡ true → ⊥
      apart t u = impossible
          (sym u ∙ ap (λ (j : Key). key_eq j child.key) (same_key k x.key t) ∙ turned (key_eq x.key child.key) refl)
        where
          turned : (b : Bool) → key_eq x.key child.key ≡ b → b ≡ false
          turned false h = refl
          turned true h = sym (key_eq-refl child.key) ∙ ap (λ (j : Key). key_eq child.key j) (sym (same_key x.key child.key h)) ∙ first-differs x cs c child new e

      on : (b v : Bool) → (b ≡ true → v ≡ true → ⊥)
          → cond b (erased x.kept) (cond v (erased (f child).kept) (kept_by_key cs k)) ≡ cond v (erased (f child).kept) (cond b (erased x.kept) (kept_by_key cs k))
      on true true h = absurd (h refl refl)
      on true false h = refl
      on false true h = refl
      on false false h = refl

-- one child's epoch is one more
pub epoch-counted : (cs : List Child) (c : ℕ) (child : Child) (ns : List ℕ) (n : ℕ) → slice_get cs c ≡ Some child → slice_get ns c ≡ Some n → AreDistinct (keys_of cs) → (k : Key)
    → epoch_by_key cs (counted_at c ns) k ≡ cond (key_eq k child.key) (n + 1) (epoch_by_key cs ns k)
epoch-counted [] c child ns n e g d k = cc
epoch-counted (x ∷ cs) zero child [] n e g d k = cc
epoch-counted (x ∷ cs) (suc c) child [] n e g d k = cc
epoch-counted (x ∷ cs) zero child (m ∷ ns) n e g d k =
    let u : x ≡ child = cc in let v : m ≡ n = cc in
    on (key_eq k x.key) ∙ ap₂ (λ (y : Child) (i : ℕ). cond (key_eq k y.key) (i + 1) (cond (key_eq k x.key) m (epoch_by_key cs ns k))) u v
  where
    on : (b : Bool) → cond b (m + 1) (epoch_by_key cs ns k) ≡ cond b (m + 1) (cond b m (epoch_by_key cs ns k))
    on true = refl
    on false = refl
epoch-counted (x ∷ cs) (suc c) child (m ∷ ns) n e g (new, d) k =
    ap (λ (w : ℕ). cond (key_eq k x.key) m w) (epoch-counted cs c child ns n e g d k)
    ∙ on (key_eq k x.key) (key_eq k child.key) (λ t u. apart t u)
  where
    impossible : true ≡ false → ⊥
    impossible h = cc

    apart : key_eq k x.key ≡ true → key_eq k child.key ≡ true → ⊥
    apart t u = impossible
        (sym u ∙ ap (λ (j : Key). key_eq j child.key) (same_key k x.key t) ∙ turned (key_eq x.key child.key) refl)
      where
        turned : (b : Bool) → key_eq x.key child.key ≡ b → b ≡ false
        turned false h = refl
        turned true h = sym (key_eq-refl child.key) ∙ ap (λ (j : Key). key_eq child.key j) (sym (same_key x.key child.key h)) ∙ first-differs x cs c child new e

    on : (b v : Bool) → (b ≡ true → v ≡ true → ⊥) → cond b m (cond v (n + 1) (epoch_by_key cs ns k)) ≡ cond v (n + 1) (cond b m (epoch_by_key cs ns k))
    on true true h = absurd (h refl refl)
    on true false h = refl
    on false true h = refl
    on false false h = refl

pub epoch-here : (cs : List Child) (c : ℕ) (child : Child) (ns : List ℕ) (n : ℕ) → slice_get cs c ≡ Some child → slice_get ns c ≡ Some n → AreDistinct (keys_of cs)
    → epoch_by_key cs ns child.key ≡ n
epoch-here [] c child ns n e g d = cc
epoch-here (x ∷ cs) zero child [] n e g d = cc
epoch-here (x ∷ cs) (suc c) child [] n e g d = cc
epoch-here (x ∷ cs) zero child (m ∷ ns) n e g d =
    let u : x ≡ child = cc in let v : m ≡ n = cc in
    let F : Bool → ℕ = λ b. cond b m (epoch_by_key cs ns child.key) in
    ap F (ap (λ (y : Child). key_eq child.key y.key) u ∙ key_eq-refl child.key) ∙ v
epoch-here (x ∷ cs) (suc c) child (m ∷ ns) n e g (new, d) =
    let F : Bool → ℕ = λ b. cond b m (epoch_by_key cs ns child.key) in
    ap F (first-differs x cs c child new e) ∙ epoch-here cs c child ns n e g d

-- a child that is not the first has another key than Own
pub not-own : (cs : List Child) (c : ℕ) (child : Child) → AreDistinct (keys_of cs) → HasKey (map door_of cs) 0 key.Own → slice_get cs (suc c) ≡ Some child
    → key_eq child.key key.Own ≡ false
not-own [] c child d h e = cc
not-own (x ∷ cs) c child (new, d) (door, there, is) e =
    let u : door_of x ≡ door = cc in
    ap (λ (k : Key). key_eq child.key k) (sym is ∙ sym (ap (λ (y : Door). y.key) u)) ∙ first-differs x cs c child new e

-- what is kept of the key's child is not in the decisions
abbrev pub IsApart : State → Key → Type 0
IsApart (InTurn ds) k = key_eq k key.Own ≡ false
IsApart Alone k = Unit {0}
IsApart (Cell patterns cell) k = Unit {0}
IsApart (Freely e) k = Unit {0}

pub seen-kept-here : (st : State) (cs : List Child) (c : ℕ) (child : Child) → IsApart st child.key → slice_get cs c ≡ Some child → AreDistinct (keys_of cs) → seen_kept st cs child.key ≡ erased child.kept
seen-kept-here Alone cs c child a e d = kept-here cs c child e d
seen-kept-here (Cell patterns cell) cs c child a e d = kept-here cs c child e d
seen-kept-here (Freely q) cs c child a e d = kept-here cs c child e d
seen-kept-here (InTurn ds) cs c child a e d =
    (let F : Bool → List (LiveEntry ModelItem) = λ b. cond b (own_groups ds) (kept_by_key cs child.key) in ap F a) ∙ kept-here cs c child e d

pub seen-kept-changed : (f : Child → Child) (same-key : (d : Child) → (f d).key ≡ d.key) (st : State) (cs : List Child) (c : ℕ) (child : Child) → IsApart st child.key
    → slice_get cs c ≡ Some child → AreDistinct (keys_of cs) → (k : Key)
    → seen_kept st (changed_at c f cs) k ≡ cond (key_eq k child.key) (erased (f child).kept) (seen_kept st cs k)
seen-kept-changed f same-key Alone cs c child a e d k = kept-changed f same-key cs c child e d k
seen-kept-changed f same-key (Cell patterns cell) cs c child a e d k = kept-changed f same-key cs c child e d k
seen-kept-changed f same-key (Freely q) cs c child a e d k = kept-changed f same-key cs c child e d k
seen-kept-changed f same-key (InTurn ds) cs c child a e d k =
    ap (λ (w : List (LiveEntry ModelItem)). cond (key_eq k key.Own) (own_groups ds) w) (kept-changed f same-key cs c child e d k)
    ∙ on (key_eq k key.Own) (key_eq k child.key) (λ t u. impossible (sym t ∙ ap (λ (j : Key). key_eq j key.Own) (same_key k child.key u) ∙ a))
  where
    impossible : true ≡ false → ⊥
    impossible h = cc

    on : (b v : Bool) → (b ≡ true → v ≡ true → ⊥)
        → cond b (own_groups ds) (cond v (erased (f child).kept) (kept_by_key cs k)) ≡ cond v (erased (f child).kept) (cond b (own_groups ds) (kept_by_key cs k))
    on true true h = absurd (h refl refl)
    on true false h = refl
    on false true h = refl
    on false false h = refl
