-- Entries that go to several children of a fork: one change of the list for each.
use Rattle.std.proofs.Common.{◌≡◌, ℕ, zero, suc, Bool, true, false, cond, List, [], ◌∷◌, ◌++◌, Some, refl, sym, ap, ◌∙◌, subst, append-nil}
use Rattle.std.proofs.Math.Path.{fun_ext}
use Rattle.sn_streams.specs.Keys.{Key, key_eq, is_among, AreDistinct}
use Rattle.sn_streams.specs.Trees.{Tree}
use Rattle.sn_streams.proofs.Keys.{same_key}
use Rattle.sn_live.specs.Entries.{Entry}
use Rattle.sn_live.specs.Live.{Step, At, Node, Live, sub, change, graft, subs, Target, Out, ToNode, ToKept, waits_more, keeps_more, send, left_over}
use Rattle.sn_live.specs.Parts.{Part, part, pushed}
use Rattle.sn_live.specs.Flat.{Flat, look, node_at, at_index, Distinct, StepsAt, at_steps}
use Rattle.sn_live.proofs.Pushing.{change-same, pushed-nothing}
use Rattle.sn_live.proofs.Places.{change-kid, change-other, lifts}
use Rattle.sn_live.proofs.Arena.{look-index, Distinct-change, graft-change, below}

-- keys that are equal, or not
pub no_other : (j k : Key) (ks : List Key) → cond (key_eq j k) true (is_among j ks) ≡ false → (key_eq j k ≡ false) × (is_among j ks ≡ false)
no_other j k ks h = at (key_eq j k) (is_among j ks) refl h
  where
    at : (b v : Bool) → key_eq j k ≡ b → cond b true v ≡ false → (key_eq j k ≡ false) × (v ≡ false)
    at true v t e = cc
    at false v t e = (t, e)

pub none-left : {A : Type 0} (t : Target) → left_over {A = A} t [] ≡ []
none-left Out = refl
none-left (ToNode s) = refl
none-left (ToKept s k) = refl

module _ {A S : Type 0} where
  pub StepsAt-change : (ns : List (Flat A S)) (i j : ℕ) (h : Node A S → Node A S) (s : List Step) → StepsAt ns j s → StepsAt (at_index i h ns) j s
  StepsAt-change [] i j h s (m, e, t) = (m, e, t)
  StepsAt-change (n ∷ ns) zero zero h s (m, e, t) = (record { steps = n.steps; node = h n.node }, refl, (let u : n ≡ m = cc in ap (λ (k : Flat A S). k.steps) u ∙ t))
  StepsAt-change (n ∷ ns) zero (suc j) h s (m, e, t) = (m, e, t)
  StepsAt-change (n ∷ ns) (suc i) zero h s (m, e, t) = (m, e, t)
  StepsAt-change (n ∷ ns) (suc i) (suc j) h s (m, e, t) = StepsAt-change ns i j h s (m, e, t)

  module _ (c : Key → Part A S) (o : List (Entry A)) where
    -- each of these kids gets o
    abbrev pub tell : List Key → Live A S → Live A S
    tell [] f = f
    tell (k ∷ ks) f = tell ks (change (At k ∷ (c k).entry) (waits_more o) f)

    abbrev pub tell_from : List Step → List Key → Live A S → Live A S
    tell_from s [] f = f
    tell_from s (k ∷ ks) f = tell_from s ks (change (s ++ At k ∷ (c k).entry) (waits_more o) f)

    abbrev pub tell_flat : List (Key × ℕ) → List (Flat A S) → List (Flat A S)
    tell_flat [] ns = ns
    tell_flat (kj ∷ kjs) ns = tell_flat kjs (at_index kj.1 (waits_more o) ns)

    pub tell-root : (ks : List Key) (f : Live A S) → tell ks f [] ≡ f []
    tell-root [] f = refl
    tell-root (k ∷ ks) f = tell-root ks (change (At k ∷ (c k).entry) (waits_more o) f)

    pub tell-other : (ks : List Key) (f : Live A S) (j : Key) → is_among j ks ≡ false → sub (tell ks f) (At j) ≡ sub f (At j)
    tell-other [] f j h = refl
    tell-other (k ∷ ks) f j h =
        tell-other ks (change (At k ∷ (c k).entry) (waits_more o) f) j (no_other j k ks h).1
        ∙ change-other k j ((c k).entry) (waits_more o) f (no_other j k ks h).0

    pub tell-kid : (ks : List Key) (f : Live A S) (j : Key) → AreDistinct ks → is_among j ks ≡ true → sub (tell ks f) (At j) ≡ pushed (c j) o (sub f (At j))
    tell-kid [] f j n h = cc
    tell-kid (k ∷ ks) f j (n, ns) h =
        at (key_eq j k) (is_among j ks) refl h (λ t. tell-kid ks (change (At k ∷ (c k).entry) (waits_more o) f) j ns t)
      where
        at : (b v : Bool) → key_eq j k ≡ b → cond b true v ≡ true
            → (v ≡ true → sub (tell ks (change (At k ∷ (c k).entry) (waits_more o) f)) (At j) ≡ pushed (c j) o (sub (change (At k ∷ (c k).entry) (waits_more o) f) (At j)))
            → sub (tell ks (change (At k ∷ (c k).entry) (waits_more o) f)) (At j) ≡ pushed (c j) o (sub f (At j))
        at true v t e g =
            let P : Key → Type 0 = λ l. sub (tell ks (change (At k ∷ (c k).entry) (waits_more o) f)) (At l) ≡ pushed (c l) o (sub f (At l)) in
            subst P (sym (same_key j k t)) (tell-other ks (change (At k ∷ (c k).entry) (waits_more o) f) k n ∙ change-kid k ((c k).entry) (waits_more o) f)
        at false v t e g = g e ∙ ap (pushed (c j) o) (change-other k j ((c k).entry) (waits_more o) f t)

    tell-graft : (s : List Step) (ks : List Key) (g f : Live A S) → graft s (tell ks g) f ≡ tell_from s ks (graft s g f)
    tell-graft s [] g f = refl
    tell-graft s (k ∷ ks) g f =
        tell-graft s ks (change (At k ∷ (c k).entry) (waits_more o) g) f
        ∙ ap (tell_from s ks) (fun_ext (below s (At k ∷ (c k).entry) (waits_more o) g f))

    -- each index is that of the kid's first node
    abbrev pub AllAt : List (Flat A S) → List Step → List (Key × ℕ) → Type 0
    AllAt ns s [] = Unit {0}
    AllAt ns s (kj ∷ kjs) = StepsAt ns kj.1 (s ++ At kj.0 ∷ (c kj.0).entry) × AllAt ns s kjs

    AllAt-change : (ns : List (Flat A S)) (i : ℕ) (h : Node A S → Node A S) (s : List Step) (kjs : List (Key × ℕ)) → AllAt ns s kjs → AllAt (at_index i h ns) s kjs
    AllAt-change ns i h s [] a = tt
    AllAt-change ns i h s (kj ∷ kjs) (a, b) = (StepsAt-change ns i kj.1 h (s ++ At kj.0 ∷ (c kj.0).entry) a, AllAt-change ns i h s kjs b)

    abbrev pub told : List (Key × ℕ) → List Key
    told [] = []
    told (kj ∷ kjs) = kj.0 ∷ told kjs

    pub look-tell : (base : Live A S) (s : List Step) (kjs : List (Key × ℕ)) (ns : List (Flat A S)) → Distinct ns → AllAt ns s kjs
        → look base (tell_flat kjs ns) ≡ tell_from s (told kjs) (look base ns)
    look-tell base s [] ns d a = refl
    look-tell base s (kj ∷ kjs) ns d ((m, e, t), b) =
        look-tell base s kjs (at_index kj.1 (waits_more o) ns) (Distinct-change ns kj.1 (waits_more o) d) (AllAt-change ns kj.1 (waits_more o) s kjs b)
        ∙ ap (tell_from s (told kjs))
        (fun_ext (look-index base ns kj.1 m (waits_more o) d e) ∙ ap (λ (q : List Step). change q (waits_more o) (look base ns)) t)

  -- nothing is sent
  pub send-nothing : (t : Target) (f : Live A S) → send t [] f ≡ f
  send-nothing Out f = refl
  send-nothing (ToNode s) f = fun_ext (change-same s (waits_more []) (λ n. ap (λ (w : List (Entry A)). record n { waiting = w }) (append-nil n.waiting)) f)
  send-nothing (ToKept s k) f = fun_ext (change-same s (keeps_more k []) (λ n. ap (λ (w : Key → List (Entry A)). record n { kept = w }) (fun_ext (λ j. same (key_eq j k) (n.kept j)))) f)
    where
      same : (b : Bool) (w : List (Entry A)) → cond b (w ++ []) w ≡ w
      same true w = append-nil w
      same false w = refl

  -- A fork that changes by itself and tells children: a move of the whole.
  pub flat-tell : (t : Tree A S) (base : Live A S) (ns : List (Flat A S)) (i : ℕ) (n : Flat A S) (u : Tree A S) (h : Node A S → Node A S)
      (c : Key → Part A S) (o : List (Entry A)) (kjs : List (Key × ℕ))
      → Distinct ns → node_at ns i ≡ Some n → at_steps t n.steps ≡ Some u → AllAt c o (at_index i h ns) n.steps kjs
      → (part u).moves (subs n.steps (look base ns)) [] (tell c o (told c o kjs) (change [] h (subs n.steps (look base ns))))
      → (part t).moves (look base ns) [] (look base (tell_flat c o kjs (at_index i h ns)))
  flat-tell t base ns i n u h c o kjs d e is at m =
      let now : Live A S = subs n.steps (look base ns) in
      let after : Live A S = tell c o (told c o kjs) (change [] h now) in
      let T : Target = (part t).target n.steps in
      let P : Live A S → Type 0 = λ l. (part t).moves (look base ns) [] l in
      let Q : List (Entry A) → Type 0 = λ p. (part t).moves (look base ns) p (send T [] (graft n.steps after (look base ns))) in
      subst P
      (send-nothing T (graft n.steps after (look base ns))
      ∙ tell-graft c o n.steps (told c o kjs) (change [] h now) (look base ns)
      ∙ ap (tell_from c o n.steps (told c o kjs)) (fun_ext (graft-change n.steps h (look base ns)) ∙ sym (fun_ext (look-index base ns i n h d e)))
      ∙ sym (look-tell c o base n.steps kjs (at_index i h ns) (Distinct-change ns i h d) at))
      (subst Q (none-left T) (lifts t n.steps u (look base ns) [] after is m))

  -- one child is told
  pub one-told : (c : Key → Part A S) (o : List (Entry A)) (k : Key) (f : Live A S) (j : Key)
      → sub (tell c o (k ∷ []) f) (At j) ≡ pushed (c j) (cond (key_eq j k) o []) (sub f (At j))
  one-told c o k f j = at (key_eq j k) refl
    where
      at : (b : Bool) → key_eq j k ≡ b → sub (tell c o (k ∷ []) f) (At j) ≡ pushed (c j) (cond b o []) (sub f (At j))
      at true t =
          let P : Key → Type 0 = λ i. sub (tell c o (k ∷ []) f) (At i) ≡ pushed (c i) o (sub f (At i)) in
          subst P (sym (same_key j k t)) (change-kid k ((c k).entry) (waits_more o) f)
      at false t = change-other k j ((c k).entry) (waits_more o) f t ∙ sym (pushed-nothing (c j) (sub f (At j)))
