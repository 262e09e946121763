-- What a fork keeps, and what follows for what it holds to be put.
use Rattle.std.proofs.Common.{◌≡◌, Bool, true, false, cond, List, [], ◌∷◌, ◌++◌, map, refl, sym, ap, ◌∙◌, subst, append_assoc, append-nil}
use Rattle.std.proofs.lemmas.Bool.{false≢true}
use mathlib.Core.List.{IsPrefix}
use Rattle.sn_streams.specs.Keys.{AreDistinct, Branch, Key, is_among, key_eq}
use Rattle.sn_streams.proofs.Keys.{key_eq-refl, same_key}
use Rattle.sn_histories.specs.Entries.{Entry, Item, To, Mark, End as TheEnd}
use Rattle.sn_histories.specs.Histories.{In, Out}
use Rattle.sn_histories.specs.Sites.{Into, Step}
use Rattle.sn_net.specs.Item.{ModelItem, modelled}
use Rattle.sn_net.specs.declared.net.Net.{Net}
use Rattle.sn_net.specs.declared.net.Net.TheOpen.{Net-F}
use Rattle.sn_net.specs.declared.net.Net.TheViews.{out-Net}
use Rattle.sn_view.specs.Placed.{HasBranches}
use Rattle.sn_model.specs.declared.run.Run.{Run}
use Rattle.sn_model.specs.Meaning.{tree}
use Rattle.sn_model.specs.Run.{input_of, setting_of}
use Rattle.sn_net_histories.specs.Histories.{history}
use Rattle.sn_net_histories.proofs.Passing.{all_pass}
use Rattle.sn_facts.proofs.Ends.{gives-beginning, no-early-end}
use Rattle.sn_facts.proofs.Merging.{merges-end, merges-group, merges-item, merges-mark, merges-own}
use Rattle.sn_facts.proofs.Forking.{sends-beginning, serves-on}
use Rattle.sn_facts.specs.Forking.{ComesFrom, Decides, Merges, to_child}
use Rattle.sn_stream.specs.Ends.{End, passed}
use Rattle.sn_stream.specs.declared.item.StreamItem.{StreamItem}
use Rattle.sn_dispatch.specs.declared.det_fork.Decision.{Decision}
use Rattle.sn_dispatch.specs.declared.det_fork.Decision.TheVariants as decision
use Rattle.sn_component.specs.Facts.{history_for}
use Rattle.sn_component.specs.Seen.{given_by}
use Rattle.sn_fork.specs.Facts.{Each, Forks, ForksAt, IsChildAt, steps_to}
use Rattle.sn_fork.specs.Seen.{ChildSeen, Forking, asks_child, came_from, decision_entry, got_from, keys_of}

-- what came from a child is a beginning of what leaves it; from a child that isn't made nothing came
came_begins : (run : Run) (steps : List Step) (children : List ChildSeen) → Each (IsChildAt run steps) children → (k : Key)
    → IsPrefix (came_from children k) (history run (steps ++ Into k ∷ []) Out)
came_begins run steps [] all k = (history run (steps ++ Into k ∷ []) Out, refl)
came_begins run steps (c ∷ children) all k = at (key_eq k c.key) refl (came_begins run steps children all.1 k)
  where
    here : IsChildAt run steps c
    here = all.0

    at : (b : Bool) → key_eq k c.key ≡ b → IsPrefix (came_from children k) (history run (steps ++ Into k ∷ []) Out)
        → IsPrefix (cond b (passed c.from.moved) (came_from children k)) (history run (steps ++ Into k ∷ []) Out)
    at true e rest =
        subst (λ j. IsPrefix (passed c.from.moved) (history run (steps ++ Into j ∷ []) Out)) (sym (same_key k c.key e))
        (subst (IsPrefix (passed c.from.moved)) here.leaves here.begins)
    at false e rest = rest

-- what it has received is a beginning of what comes in
pub received_begins : (f : Forking) (h : Forks f) → IsPrefix h.received (history f.run (steps_to f) In)
received_begins f h = (
  passed f.waiting ++ h.begins.0,
  sym (append_assoc h.received (passed f.waiting) h.begins.0) ∙ ap (λ l. l ++ h.begins.0) (sym h.got) ∙ h.begins.1 ∙ h.stands.comes,
)

-- what it has given is a beginning of what leaves: so the next entry that it holds may be put
pub given_begins : (f : Forking) → Forks f → IsPrefix (given_by f.output f.held) (history_for f.output.made)
given_begins f h =
    let s = h.stands in
    subst (IsPrefix (given_by f.output f.held)) (sym s.leaves)
    (gives-beginning (tree (setting_of f.run) f.run.net) (input_of f.run) (steps_to f) s.merge s.router s.child s.seg s.at (came_from f.children) h.received h.served
    (map decision_entry f.decisions) (given_by f.output f.held) (all_pass (setting_of f.run) f.run.net) (received_begins f h)
    (came_begins f.run (steps_to f) f.children s.children) h.decides h.merges)

-- and so may the next entry that it holds for a child
pub sent_begins : (f : Forking) (h : Forks f) (c : ChildSeen) → IsChildAt f.run (steps_to f) c → given_by c.to c.held ≡ to_child h.stands.router c.key h.received
    → IsPrefix (given_by c.to c.held) (history_for c.to.made)
sent_begins f h c here is =
    let s = h.stands in
    subst (λ l. IsPrefix l (history_for c.to.made)) (sym is)
    (subst (IsPrefix (to_child h.stands.router c.key h.received)) (sym here.comes)
    (sends-beginning (tree (setting_of f.run) f.run.net) (input_of f.run) (steps_to f) s.merge s.router s.child s.seg s.at c.key h.received (received_begins f h)))

-- a choice that has all its branches still has them with one child more
among_longer : (k : Key) (cs : List ChildSeen) (c : ChildSeen) → is_among k (keys_of cs) ≡ true → is_among k (keys_of (cs ++ c ∷ [])) ≡ true
among_longer k [] c is = absurd (false≢true is)
among_longer k (d ∷ cs) c is = at (key_eq k d.key) is (among_longer k cs c)
  where
    at : (b : Bool) → cond b true (is_among k (keys_of cs)) ≡ true → (is_among k (keys_of cs) ≡ true → is_among k (keys_of (cs ++ c ∷ [])) ≡ true)
        → cond b true (is_among k (keys_of (cs ++ c ∷ []))) ≡ true
    at true is rest = refl
    at false is rest = rest is

pub whole_longer : (form : Net-F Net) (cs : List ChildSeen) (c : ChildSeen) → HasBranches form (keys_of cs) → HasBranches form (keys_of (cs ++ c ∷ []))
whole_longer (Net-F.Box place number) cs c whole = tt
whole_longer (Net-F.Filter filter) cs c whole = tt
whole_longer (Net-F.Sync place patterns) cs c whole = tt
whole_longer (Net-F.Serial left right) cs c whole = tt
whole_longer (Net-F.Choice place merge branches faces) cs c whole = λ i branch there. among_longer (Branch i) cs c (whole i branch there)
whole_longer (Net-F.Star place merge body exit guard) cs c whole = tt
whole_longer (Net-F.Split place merge body id) cs c whole = tt

-- one child is replaced
pub each_with : {A : Type 0} (P : A → Type 0) (front back : List A) (c d : A) → (P c → P d) → Each P (front ++ c ∷ back) → Each P (front ++ d ∷ back)
each_with P [] back c d change all = (change all.0, all.1)
each_with P (x ∷ front) back c d change all = (all.0, each_with P front back c d change all.1)

pub each_at : {A : Type 0} (P : A → Type 0) (front back : List A) (c : A) → Each P (front ++ c ∷ back) → P c
each_at P [] back c all = all.0
each_at P (x ∷ front) back c all = each_at P front back c all.1

pub not_same : (j k : Key) → key_eq k j ≡ false → key_eq j k ≡ false
not_same j k apart = at (key_eq j k) refl
  where
    at : (b : Bool) → key_eq j k ≡ b → key_eq j k ≡ false
    at true e = absurd (false≢true (sym apart ∙ ap (key_eq k) (same_key j k e) ∙ key_eq-refl k))
    at false e = e

-- one entry more came from the child of a key, which is the first of that key
pub came_more : (front back : List ChildSeen) (c : ChildSeen) (from : End) (e : Entry ModelItem) → passed from.moved ≡ passed c.from.moved ++ e ∷ []
    → is_among c.key (map (λ d. d.key) front) ≡ false
    → ComesFrom c.key e (came_from (front ++ c ∷ back)) (came_from (front ++ record c { from = from } ∷ back))
came_more [] back c from e more first j = at (key_eq j c.key)
  where
    at : (b : Bool) → cond b (passed from.moved) (came_from back j) ≡ cond b (passed c.from.moved) (came_from back j) ++ cond b (e ∷ []) []
    at true = more
    at false = sym (append-nil (came_from back j))
came_more (d ∷ front) back c from e more first j = at (key_eq j d.key) refl (came_more front back c from e more (others (key_eq c.key d.key) first) j)
  where
    others : (b : Bool) → cond b true (is_among c.key (map (λ d. d.key) front)) ≡ false → is_among c.key (map (λ d. d.key) front) ≡ false
    others true is = absurd (false≢true (sym is))
    others false is = is

    apart : (b : Bool) → key_eq c.key d.key ≡ b → cond b true (is_among c.key (map (λ d. d.key) front)) ≡ false → key_eq c.key d.key ≡ false
    apart true is none = absurd (false≢true (sym none))
    apart false is none = is

    at : (b : Bool) → key_eq j d.key ≡ b
        → came_from (front ++ record c { from = from } ∷ back) j ≡ came_from (front ++ c ∷ back) j ++ cond (key_eq j c.key) (e ∷ []) []
        → cond b (passed d.from.moved) (came_from (front ++ record c { from = from } ∷ back) j)
        ≡ cond b (passed d.from.moved) (came_from (front ++ c ∷ back) j) ++ cond (key_eq j c.key) (e ∷ []) []
    at true is rest =
        sym (append-nil (passed d.from.moved))
        ∙ ap (λ b. passed d.from.moved ++ cond b (e ∷ []) [])
        (sym (ap (λ i. key_eq i c.key) (same_key j d.key is) ∙ not_same d.key c.key (apart (key_eq c.key d.key) refl first)))
    at false is rest = rest

own_served : (came : Key → List (Entry ModelItem)) (served kept given : List (Entry ModelItem)) (d : Decision) → asks_child d ≡ false
    → Merges came served (decision_entry d ∷ kept) given → Merges came (served ++ decision_entry d ∷ []) kept (given ++ decision_entry d ∷ [])
own_served came served kept given (decision.To k) asks m = absurd (false≢true (sym asks))
own_served came served kept given (decision.Own item) asks m = merges-own came served kept given (modelled item) m
own_served came served kept given decision.Mark asks m = merges-mark came served kept given m
own_served came served kept given decision.End asks m = merges-end came served kept given m

-- the steps of a fork that serves: an item of the next group, the mark behind it, and what passes by
module _ (f : Forking) (h : Forks f) where
  same_keys : (front back : List ChildSeen) (c : ChildSeen) (from : End)
      → map (λ (d : ChildSeen). d.key) (front ++ record c { from = from } ∷ back) ≡ map (λ (d : ChildSeen). d.key) (front ++ c ∷ back)
  same_keys [] back c from = refl
  same_keys (d ∷ front) back c from = ap (λ l. d.key ∷ l) (same_keys front back c from)

  stands_with : (front back : List ChildSeen) (c : ChildSeen) (from : End) (decisions : List Decision) (held : List StreamItem) → f.children ≡ front ++ c ∷ back
      → from.made ≡ c.from.made → IsPrefix (passed from.moved) (history_for from.made) → ForksAt (got_from f front back c from decisions held)
  stands_with front back c from decisions held are made begins =
      let s = h.stands in record {
        merge = s.merge;
        router = s.router;
        child = s.child;
        net = s.net;
        there = s.there;
        dispatches = s.dispatches;
        routes = s.routes;
        seg = s.seg;
        at = s.at;
        onward = s.onward;
        comes = s.comes;
        leaves = s.leaves;
        children = each_with (IsChildAt f.run (steps_to f)) front back c (record c { from = from })
            (λ i. record { apart = i.apart; comes = i.comes; leaves = ap history_for made ∙ i.leaves; begins = begins })
            (subst (Each (IsChildAt f.run (steps_to f))) are s.children);
        apart = subst AreDistinct (ap keys_of are ∙ sym (same_keys front back c from)) s.apart;
        whole = subst (HasBranches (out-Net s.net)) (ap keys_of are ∙ sym (same_keys front back c from)) s.whole;
      }

  served_with : (front back : List ChildSeen) (c : ChildSeen) (from : End) (decisions : List Decision) (served : List (Entry ModelItem)) (held : List StreamItem)
      → f.children ≡ front ++ c ∷ back → from.made ≡ c.from.made → IsPrefix (passed from.moved) (history_for from.made)
      → Decides h.stands.router h.received served (map decision_entry decisions)
      → Merges (came_from (front ++ record c { from = from } ∷ back)) served (map decision_entry decisions) (given_by f.output held)
      → Forks (got_from f front back c from decisions held)
  unfolding stands_with
  served_with front back c from decisions served held are made begins decides merges = record {
    stands = stands_with front back c from decisions held are made begins;
    received = h.received;
    served = served;
    got = h.got;
    begins = h.begins;
    decides = decides;
    sends = each_with (λ (d : ChildSeen). given_by d.to d.held ≡ to_child h.stands.router d.key h.received) front back c (record c { from = from }) (λ is. is)
        (subst (Each (λ (d : ChildSeen). given_by d.to d.held ≡ to_child h.stands.router d.key h.received)) are h.sends);
    unheard = λ k apart none. h.unheard k apart (ap (λ l. is_among k (map (λ (d : ChildSeen). d.key) l)) are ∙ ap (is_among k) (sym (same_keys front back c from)) ∙ none);
    merges = merges;
  }

  -- an item of the next group came, and is held to be put
  pub after_item : (front back : List ChildSeen) (c : ChildSeen) (from : End) (x : ModelItem) (ds : List Decision) (d : Decision) (held : List StreamItem)
      → f.children ≡ front ++ c ∷ back → is_among c.key (map (λ (d : ChildSeen). d.key) front) ≡ false → from.made ≡ c.from.made
      → IsPrefix (passed from.moved) (history_for from.made) → passed from.moved ≡ passed c.from.moved ++ Item x ∷ []
      → f.decisions ≡ d ∷ ds → decision_entry d ≡ To c.key → given_by f.output held ≡ given_by f.output f.held ++ Item x ∷ []
      → Forks (got_from f front back c from f.decisions held)
  after_item front back c from x ds d held are first made begins more decided to_c gives =
      served_with front back c from f.decisions h.served held are made begins h.decides
      (subst (λ (u : List (Entry ModelItem) × List (Entry ModelItem)). Merges (came_from (front ++ record c { from = from } ∷ back)) h.served u.0 u.1) (λ i. (sym kept i, sym gives i))
      (merges-item (came_from (front ++ c ∷ back)) (came_from (front ++ record c { from = from } ∷ back)) h.served (map decision_entry ds) (given_by f.output f.held) c.key x
      (came_more front back c from (Item x) more first)
      (subst (λ (u : List ChildSeen × List (Entry ModelItem)). Merges (came_from u.0) h.served u.1 (given_by f.output f.held)) (λ i. (are i, kept i)) h.merges)))
    where
      kept : map decision_entry f.decisions ≡ To c.key ∷ map decision_entry ds
      kept = ap (map decision_entry) decided ∙ ap (λ e. e ∷ map decision_entry ds) to_c

  -- the mark behind the next group came: its decision is served
  pub after_group : (front back : List ChildSeen) (c : ChildSeen) (from : End) (ds : List Decision) (d : Decision)
      → f.children ≡ front ++ c ∷ back → is_among c.key (map (λ (d : ChildSeen). d.key) front) ≡ false → from.made ≡ c.from.made
      → IsPrefix (passed from.moved) (history_for from.made) → passed from.moved ≡ passed c.from.moved ++ Mark ∷ []
      → f.decisions ≡ d ∷ ds → decision_entry d ≡ To c.key → Forks (got_from f front back c from ds f.held)
  after_group front back c from ds d are first made begins more decided to_c =
      served_with front back c from ds (h.served ++ To c.key ∷ []) f.held are made begins
      (serves-on h.stands.router h.received h.served (map decision_entry ds) (To c.key) (subst (Decides h.stands.router h.received h.served) kept h.decides))
      (merges-group (came_from (front ++ c ∷ back)) (came_from (front ++ record c { from = from } ∷ back)) h.served (map decision_entry ds) (given_by f.output f.held) c.key
      (came_more front back c from Mark more first)
      (subst (λ (u : List ChildSeen × List (Entry ModelItem)). Merges (came_from u.0) h.served u.1 (given_by f.output f.held)) (λ i. (are i, kept i)) h.merges))
    where
      kept : map decision_entry f.decisions ≡ To c.key ∷ map decision_entry ds
      kept = ap (map decision_entry) decided ∙ ap (λ e. e ∷ map decision_entry ds) to_c

  -- no child whose group is next ends
  pub no_end_comes : (front back : List ChildSeen) (c : ChildSeen) (from : End) (ds : List Decision) (d : Decision)
      → f.children ≡ front ++ c ∷ back → is_among c.key (map (λ (d : ChildSeen). d.key) front) ≡ false → from.made ≡ c.from.made
      → IsPrefix (passed from.moved) (history_for from.made) → passed from.moved ≡ passed c.from.moved ++ TheEnd ∷ []
      → f.decisions ≡ d ∷ ds → decision_entry d ≡ To c.key → ⊥
  no_end_comes front back c from ds d are first made begins more decided to_c =
      let s = h.stands in
      let here : IsChildAt f.run (steps_to f) c = each_at (IsChildAt f.run (steps_to f)) front back c (subst (Each (IsChildAt f.run (steps_to f))) are s.children) in
      no-early-end (tree (setting_of f.run) f.run.net) (input_of f.run) (steps_to f) s.merge s.router s.child s.seg s.at (came_from f.children) h.received h.served
      (map decision_entry ds) (given_by f.output f.held) c.key here.apart (received_begins f h)
      (subst (λ l. IsPrefix l (history f.run (steps_to f ++ Into c.key ∷ []) Out)) (more ∙ ap (λ l. l ++ TheEnd ∷ []) (sym (ap (λ l. came_from l c.key) are ∙ found front first)))
      (subst (IsPrefix (passed from.moved)) (ap history_for made ∙ here.leaves) begins))
      (subst (Decides s.router h.received h.served) kept h.decides)
      (subst (λ l. Merges (came_from f.children) h.served l (given_by f.output f.held)) kept h.merges)
    where
      kept : map decision_entry f.decisions ≡ To c.key ∷ map decision_entry ds
      kept = ap (map decision_entry) decided ∙ ap (λ e. e ∷ map decision_entry ds) to_c

      found : (front : List ChildSeen) → is_among c.key (map (λ (d : ChildSeen). d.key) front) ≡ false → came_from (front ++ c ∷ back) c.key ≡ passed c.from.moved
      found [] none = ap (λ b. cond b (passed c.from.moved) (came_from back c.key)) (key_eq-refl c.key)
      found (e ∷ front) none = at (key_eq c.key e.key) none (found front)
        where
          at : (b : Bool) → cond b true (is_among c.key (map (λ (d : ChildSeen). d.key) front)) ≡ false
              → (is_among c.key (map (λ (d : ChildSeen). d.key) front) ≡ false → came_from (front ++ c ∷ back) c.key ≡ passed c.from.moved)
              → cond b (passed e.from.moved) (came_from (front ++ c ∷ back) c.key) ≡ passed c.from.moved
          at true is rest = absurd (false≢true (sym is))
          at false is rest = rest is

  -- what passes by, a mark or the end is served, and held to be put
  pub after_own : (ds : List Decision) (d : Decision) (held : List StreamItem) → f.decisions ≡ d ∷ ds → asks_child d ≡ false
      → given_by f.output held ≡ given_by f.output f.held ++ decision_entry d ∷ [] → Forks (record f { decisions = ds; held = held })
  after_own ds d held decided asks gives =
      let s = h.stands in
      let kept : map decision_entry f.decisions ≡ decision_entry d ∷ map decision_entry ds = ap (map decision_entry) decided in record {
        stands = record {
          merge = s.merge;
          router = s.router;
          child = s.child;
          net = s.net;
          there = s.there;
          dispatches = s.dispatches;
          routes = s.routes;
          seg = s.seg;
          at = s.at;
          onward = s.onward;
          comes = s.comes;
          leaves = s.leaves;
          children = s.children;
          apart = s.apart;
          whole = s.whole;
        };
        received = h.received;
        served = h.served ++ decision_entry d ∷ [];
        got = h.got;
        begins = h.begins;
        decides = serves-on s.router h.received h.served (map decision_entry ds) (decision_entry d) (subst (Decides s.router h.received h.served) kept h.decides);
        sends = h.sends;
        unheard = h.unheard;
        merges = subst (Merges (came_from f.children) (h.served ++ decision_entry d ∷ []) (map decision_entry ds)) (sym gives)
            (own_served (came_from f.children) h.served (map decision_entry ds) (given_by f.output f.held) d asks
            (subst (λ l. Merges (came_from f.children) h.served l (given_by f.output f.held)) kept h.merges));
      }
