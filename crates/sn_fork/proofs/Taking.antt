-- What a fork keeps while it takes entries in: it gets one, decides on it, and puts what it holds for a child.
use Rattle.std.proofs.Common.{◌≡◌, Bool, true, false, ◌||◌, cond, List, [], ◌∷◌, ◌++◌, map, refl, sym, ap, ap₂, ◌∙◌, subst, append_assoc, append-nil}
use Rattle.std.proofs.lemmas.Bool.{false≢true}
use Rattle.std.proofs.lemmas.List.Elements.{filter-append}
use Rattle.std.specs.List.{filter, list_any}
use mathlib.Core.List.{IsPrefix, map-append, head-eq_of_cons-eq, tail-eq_of_cons-eq, cons≢nil}
use Rattle.sn_streams.specs.Forks.{Router}
use Rattle.sn_streams.specs.Keys.{AreDistinct, Key, Own, is_among, key_eq}
use Rattle.sn_streams.proofs.Keys.{key_eq-refl, same_key}
use Rattle.sn_histories.specs.Entries.{Entry, Item, To, Mark, End as TheEnd, EndsOnce, is_end}
use Rattle.sn_histories.specs.Histories.{In, decision_on}
use Rattle.sn_histories.proofs.Histories.{in-ends}
use Rattle.sn_net.specs.Item.{ModelItem, modelled}
use Rattle.sn_net.specs.declared.net.Net.TheViews.{out-Net}
use Rattle.sn_view.specs.Placed.{HasBranches}
use Rattle.sn_record.specs.declared.item.Item.{Item as RecordItem}
use Rattle.sn_model.specs.Meaning.{tree}
use Rattle.sn_model.specs.Run.{input_of, setting_of}
use Rattle.sn_net_histories.specs.Histories.{history}
use Rattle.sn_streams.specs.Trees.{Fork}
use Rattle.sn_facts.proofs.Forking.{decides-on, sends-on}
use Rattle.sn_facts.proofs.Merging.{merges-begin, merges-decided}
use Rattle.sn_facts.specs.Forking.{Decides, Merges, for_child, to_child}
use Rattle.sn_stream.specs.Ends.{End, entry_of, history_of, moves, passed}
use Rattle.sn_stream.specs.declared.item.StreamItem.{StreamItem}
use Rattle.sn_stream.specs.declared.item.StreamItem.TheVariants as stream_item
use Rattle.sn_dispatch.specs.declared.det_fork.Decision.{Decision}
use Rattle.sn_dispatch.specs.declared.det_fork.Decision.TheVariants as decision
use Rattle.sn_component.specs.Facts.{history_for}
use Rattle.sn_component.specs.Seen.{given_by}
use Rattle.sn_fork.specs.Facts.{Each, Forks, ForksAt, IsChildAt, steps_to}
use Rattle.sn_fork.specs.Seen.{AllHold, ChildSeen, Forking, IsNew, came_from, decision_entry, keys_of}
use Rattle.sn_fork.proofs.Forks.{each_at, each_with, not_same, received_begins, whole_longer}

-- what is known of each child, said of another
each_alike : {A : Type 0} (P Q : A → Type 0) (all : List A) → Each (λ a. P a → Q a) all → Each P all → Each Q all
each_alike P Q [] change each = each
each_alike P Q (a ∷ all) change each = (change.0 each.0, each_alike P Q all change.1 each.1)

each_end : {A : Type 0} (P : A → Type 0) (front back : List A) → Each P front → Each P back → Each P (front ++ back)
each_end P [] back first last = last
each_end P (a ∷ front) back first last = (first.0, each_end P front back first.1 last)

each_front : {A : Type 0} (P : A → Type 0) (front back : List A) → Each P (front ++ back) → Each P front
each_front P [] back all = tt
each_front P (a ∷ front) back all = (all.0, each_front P front back all.1)

each_back : {A : Type 0} (P : A → Type 0) (front back : List A) → Each P (front ++ back) → Each P back
each_back P [] back all = all
each_back P (a ∷ front) back all = each_back P front back all.1

-- a child's way to it changes: its key and what came from it stay
same_keys : (front back : List ChildSeen) (c : ChildSeen) (to : End) (held : List StreamItem) → keys_of (front ++ record c { to = to; held = held } ∷ back) ≡ keys_of (front ++ c ∷ back)
same_keys [] back c to held = refl
same_keys (d ∷ front) back c to held = ap (λ l. d.key ∷ l) (same_keys front back c to held)

same_came : (front back : List ChildSeen) (c : ChildSeen) (to : End) (held : List StreamItem) (k : Key)
    → came_from (front ++ record c { to = to; held = held } ∷ back) k ≡ came_from (front ++ c ∷ back) k
same_came [] back c to held k = refl
same_came (d ∷ front) back c to held k = ap (λ l. cond (key_eq k d.key) (passed d.from.moved) l) (same_came front back c to held k)

-- a child that is there is among the keys
pub is_there : (front back : List ChildSeen) (c : ChildSeen) (k : Key) → key_eq k c.key ≡ true → is_among k (keys_of (front ++ c ∷ back)) ≡ true
is_there [] back c k same = ap (λ b. cond b true (is_among k (keys_of back))) same
is_there (d ∷ front) back c k same = at (key_eq k d.key) (is_there front back c k same)
  where
    at : (b : Bool) → is_among k (keys_of (front ++ c ∷ back)) ≡ true → cond b true (is_among k (keys_of (front ++ c ∷ back))) ≡ true
    at true is = refl
    at false is = is

other_key : (k j : Key) (keys : List Key) → is_among k (j ∷ keys) ≡ false → key_eq j k ≡ false
other_key k j keys none = at (key_eq k j) refl none
  where
    at : (b : Bool) → key_eq k j ≡ b → cond b true (is_among k keys) ≡ false → key_eq j k ≡ false
    at true e is = absurd (false≢true (sym is))
    at false e is = not_same j k e

other_keys : (k j : Key) (keys : List Key) → is_among k (j ∷ keys) ≡ false → is_among k keys ≡ false
other_keys k j keys none = at (key_eq k j) none
  where
    at : (b : Bool) → cond b true (is_among k keys) ≡ false → is_among k keys ≡ false
    at true is = absurd (false≢true (sym is))
    at false is = is

-- before an entry of a history that isn't its last there is no end
module _ {A : Type 0} where
  never_empty : (es rest : List (Entry A)) (e : Entry A) → es ++ e ∷ rest ≡ [] → ⊥
  never_empty [] rest e is = cons≢nil is
  never_empty (x ∷ es) rest e is = cons≢nil is

  quiet_before : (es rest before : List (Entry A)) (e : Entry A) → list_any is_end before ≡ false → es ++ e ∷ rest ≡ before ++ TheEnd ∷ [] → filter is_end es ≡ []
  quiet_before [] rest before e none is = refl
  quiet_before (x ∷ es) rest [] e none is = absurd (never_empty es rest e (tail-eq_of_cons-eq is))
  quiet_before (x ∷ es) rest (b ∷ before) e none is =
      at (is_end b) (ap is_end (head-eq_of_cons-eq is)) none (λ quiet. quiet_before es rest before e quiet (tail-eq_of_cons-eq is))
    where
      at : (h : Bool) → is_end x ≡ h → (h || list_any is_end before) ≡ false → (list_any is_end before ≡ false → filter is_end es ≡ [])
          → cond (is_end x) (x ∷ filter is_end es) (filter is_end es) ≡ []
      at true same quiet rest_is = absurd (false≢true (sym quiet))
      at false same quiet rest_is = ap (λ b. cond b (x ∷ filter is_end es) (filter is_end es)) same ∙ rest_is quiet

-- the ends, and what is known of them
module _ (f : Forking) (h : Forks f) where
  -- an entry was got, and waits
  pub after_getting : (input : End) (x : StreamItem) → f.waiting ≡ [] → input ≡ moves f.input x → IsPrefix (passed input.moved) (history_of input)
      → Forks (record f { input = input; waiting = x ∷ [] })
  after_getting input x none got begins =
      let s = h.stands in
      let made : input.made ≡ f.input.made = ap (λ (e : End). e.made) got in
      let before : passed f.input.moved ≡ h.received = h.got ∙ ap (λ l. h.received ++ passed l) none ∙ append-nil h.received in record {
        stands = record {
          merge = s.merge;
          router = s.router;
          child = s.child;
          net = s.net;
          there = s.there;
          dispatches = s.dispatches;
          routes = s.routes;
          seg = s.seg;
          at = s.at;
          onward = s.onward;
          comes = ap history_for made ∙ s.comes;
          leaves = s.leaves;
          children = s.children;
          apart = s.apart;
          whole = s.whole;
        };
        received = h.received;
        served = h.served;
        got = ap (λ (e : End). passed e.moved) got ∙ map-append entry_of f.input.moved (x ∷ []) ∙ ap (λ l. l ++ entry_of x ∷ []) before;
        begins = begins;
        decides = h.decides;
        sends = h.sends;
        unheard = h.unheard;
        merges = h.merges;
      }

  -- entries were put
  pub after_putting : (output : End) (held : List StreamItem) → given_by output held ≡ given_by f.output f.held → output.made ≡ f.output.made
      → Forks (record f { output = output; held = held })
  after_putting output held gives made =
      let s = h.stands in record {
        stands = record {
          merge = s.merge;
          router = s.router;
          child = s.child;
          net = s.net;
          there = s.there;
          dispatches = s.dispatches;
          routes = s.routes;
          seg = s.seg;
          at = s.at;
          onward = s.onward;
          comes = s.comes;
          leaves = ap history_for made ∙ s.leaves;
          children = s.children;
          apart = s.apart;
          whole = s.whole;
        };
        received = h.received;
        served = h.served;
        got = h.got;
        begins = h.begins;
        decides = h.decides;
        sends = h.sends;
        unheard = h.unheard;
        merges = subst (Merges (came_from f.children) h.served (map decision_entry f.decisions)) (sym gives) h.merges;
      }

  -- entries were put to a child
  pub after_sending : (front back : List ChildSeen) (c : ChildSeen) (to : End) (held : List StreamItem) → f.children ≡ front ++ c ∷ back
      → given_by to held ≡ given_by c.to c.held → to.made ≡ c.to.made → Forks (record f { children = front ++ record c { to = to; held = held } ∷ back })
  after_sending front back c to held are gives made =
      let s = h.stands in record {
        stands = record {
          merge = s.merge;
          router = s.router;
          child = s.child;
          net = s.net;
          there = s.there;
          dispatches = s.dispatches;
          routes = s.routes;
          seg = s.seg;
          at = s.at;
          onward = s.onward;
          comes = s.comes;
          leaves = s.leaves;
          children = each_with (IsChildAt f.run (steps_to f)) front back c (record c { to = to; held = held })
              (λ i. record { apart = i.apart; comes = ap history_for made ∙ i.comes; leaves = i.leaves; begins = i.begins })
              (subst (Each (IsChildAt f.run (steps_to f))) are s.children);
          apart = subst AreDistinct (ap keys_of are ∙ sym (same_keys front back c to held)) s.apart;
          whole = subst (HasBranches (out-Net s.net)) (ap keys_of are ∙ sym (same_keys front back c to held)) s.whole;
        };
        received = h.received;
        served = h.served;
        got = h.got;
        begins = h.begins;
        decides = h.decides;
        sends = each_with (λ (d : ChildSeen). given_by d.to d.held ≡ to_child s.router d.key h.received) front back c (record c { to = to; held = held })
            (λ is. gives ∙ is)
            (subst (Each (λ (d : ChildSeen). given_by d.to d.held ≡ to_child s.router d.key h.received)) are h.sends);
        unheard = λ k apart none. h.unheard k apart (ap (λ l. is_among k (keys_of l)) are ∙ ap (is_among k) (sym (same_keys front back c to held)) ∙ none);
        merges = subst (λ (came : Key → List (Entry ModelItem)). Merges came h.served (map decision_entry f.decisions) (given_by f.output f.held))
            (λ i k. (ap (λ l. came_from l k) are ∙ sym (same_came front back c to held k)) i) h.merges;
      }

  -- what waited was decided on: what follows for each child is held for it
  decided_on : (children : List ChildSeen) (x : StreamItem) (d : Decision) → f.waiting ≡ x ∷ [] → decision_on h.stands.router (entry_of x) ≡ decision_entry d
      → Each (IsChildAt f.run (steps_to f)) children → ((k : Key) → came_from f.children k ≡ came_from children k) → keys_of children ≡ keys_of f.children
      → Each (λ c. given_by c.to c.held ≡ to_child h.stands.router c.key (h.received ++ entry_of x ∷ [])) children
      → ((k : Key) → key_eq k Own ≡ false → is_among k (keys_of f.children) ≡ false → for_child h.stands.router k (entry_of x) ≡ filter is_end (entry_of x ∷ []))
      → Forks (record f { waiting = []; decisions = f.decisions ++ d ∷ []; children = children })
  decided_on children x d waits is there came keys sends unheard =
      let s = h.stands in
      let more : map decision_entry f.decisions ++ decision_on s.router (entry_of x) ∷ [] ≡ map decision_entry (f.decisions ++ d ∷ []) =
      ap (λ e. map decision_entry f.decisions ++ e ∷ []) is ∙ sym (map-append decision_entry f.decisions (d ∷ [])) in record {
        stands = record {
          merge = s.merge;
          router = s.router;
          child = s.child;
          net = s.net;
          there = s.there;
          dispatches = s.dispatches;
          routes = s.routes;
          seg = s.seg;
          at = s.at;
          onward = s.onward;
          comes = s.comes;
          leaves = s.leaves;
          children = there;
          apart = subst AreDistinct (sym keys) s.apart;
          whole = subst (HasBranches (out-Net s.net)) (sym keys) s.whole;
        };
        received = h.received ++ entry_of x ∷ [];
        served = h.served;
        got = h.got ∙ ap (λ l. h.received ++ passed l) waits ∙ sym (append-nil (h.received ++ entry_of x ∷ []));
        begins = h.begins;
        decides = subst (Decides s.router (h.received ++ entry_of x ∷ []) h.served) more
            (decides-on s.router h.received h.served (map decision_entry f.decisions) (entry_of x) h.decides);
        sends = sends;
        unheard = λ k apart none.
            sends-on s.router k h.received (entry_of x)
            ∙ ap₂ (λ a b. a ++ b) (h.unheard k apart (ap (is_among k) (sym keys) ∙ none)) (unheard k apart (ap (is_among k) (sym keys) ∙ none))
            ∙ sym (filter-append is_end h.received (entry_of x ∷ []));
        merges = subst (λ (u : (Key → List (Entry ModelItem)) × List (Entry ModelItem)). Merges u.0 h.served u.1 (given_by f.output f.held)) (λ i. ((λ k. came k i), more i))
            (merges-decided (came_from f.children) h.served (map decision_entry f.decisions) (given_by f.output f.held) (decision_on s.router (entry_of x)) h.merges);
      }

  -- an item that passes the children by: what becomes of it is a decision
  pub takes_own : (item now : RecordItem) → f.waiting ≡ stream_item.Item item ∷ [] → key_eq (h.stands.router.key (modelled item)) Own ≡ true
      → modelled now ≡ h.stands.router.own (modelled item) → Forks (record f { waiting = []; decisions = f.decisions ++ decision.Own now ∷ [] })
  takes_own item now waits own becomes =
      decided_on f.children (stream_item.Item item) (decision.Own now) waits
      (ap (λ b. cond b (Item (r.own x)) (To (r.key x))) own ∙ ap Item (sym becomes))
      h.stands.children (λ k. refl) refl (still f.children h.stands.children h.sends) (λ k apart none. nothing k apart)
    where
      r : Router ModelItem
      r = h.stands.router

      x : ModelItem
      x = modelled item

      nothing : (k : Key) → key_eq k Own ≡ false → for_child r k (Item x) ≡ []
      nothing k apart = ap (λ b. cond b (Item x ∷ Mark ∷ []) []) (ap (key_eq k) (same_key (r.key x) Own own) ∙ apart)

      still : (cs : List ChildSeen) → Each (IsChildAt f.run (steps_to f)) cs → Each (λ c. given_by c.to c.held ≡ to_child r c.key h.received) cs
          → Each (λ c. given_by c.to c.held ≡ to_child r c.key (h.received ++ Item x ∷ [])) cs
      still [] all sent = tt
      still (c ∷ cs) all sent = (
        sent.0 ∙ sym (sends-on r c.key h.received (Item x) ∙ ap (λ l. to_child r c.key h.received ++ l) (nothing c.key all.0.apart) ∙ append-nil (to_child r c.key h.received)),
        still cs all.1 sent.1,
      )

  -- a mark
  pub takes_mark : f.waiting ≡ stream_item.Mark ∷ [] → Forks (record f { waiting = []; decisions = f.decisions ++ decision.Mark ∷ [] })
  takes_mark waits =
      decided_on f.children stream_item.Mark decision.Mark waits refl h.stands.children (λ k. refl) refl (still f.children h.sends) (λ k apart none. refl)
    where
      r : Router ModelItem
      r = h.stands.router

      still : (cs : List ChildSeen) → Each (λ c. given_by c.to c.held ≡ to_child r c.key h.received) cs
          → Each (λ c. given_by c.to c.held ≡ to_child r c.key (h.received ++ Mark ∷ [])) cs
      still [] sent = tt
      still (c ∷ cs) sent = (sent.0 ∙ sym (sends-on r c.key h.received Mark ∙ append-nil (to_child r c.key h.received)), still cs sent.1)

  -- an item for a child: it and a mark are held for it
  pub takes_item : (front back : List ChildSeen) (c : ChildSeen) (item : RecordItem) (d : Decision) (held : List StreamItem) → f.children ≡ front ++ c ∷ back
      → is_among c.key (keys_of front) ≡ false → is_among c.key (keys_of back) ≡ false → f.waiting ≡ stream_item.Item item ∷ []
      → h.stands.router.key (modelled item) ≡ c.key → decision_entry d ≡ To c.key
      → given_by c.to held ≡ given_by c.to c.held ++ Item (modelled item) ∷ Mark ∷ []
      → Forks (record f { waiting = []; decisions = f.decisions ++ d ∷ []; children = front ++ record c { held = held } ∷ back })
  takes_item front back c item d held are first last waits goes decided gives =
      decided_on (front ++ record c { held = held } ∷ back) (stream_item.Item item) d waits
      (ap (λ b. cond b (Item (r.own x)) (To (r.key x))) (ap (λ k. key_eq k Own) goes ∙ here.apart) ∙ ap To goes ∙ sym decided)
      (each_with (IsChildAt f.run (steps_to f)) front back c (record c { held = held })
      (λ i. record { apart = i.apart; comes = i.comes; leaves = i.leaves; begins = i.begins })
      (subst (Each (IsChildAt f.run (steps_to f))) are s.children))
      (λ k. ap (λ l. came_from l k) are ∙ sym (same_came front back c c.to held k))
      (same_keys front back c c.to held ∙ ap keys_of (sym are))
      (each_end Sent front (record c { held = held } ∷ back) (elsewhere front first (each_front Had front (c ∷ back) had)) (
        gives ∙ ap₂ (λ a b. a ++ b) (each_at Had front back c had) (sym there) ∙ sym (sends-on r c.key h.received (Item x)),
        elsewhere back last (each_back Had front (c ∷ back) had).1,
      ))
      unheard
    where
      s : ForksAt f
      s = h.stands

      r : Router ModelItem
      r = h.stands.router

      x : ModelItem
      x = modelled item

      here : IsChildAt f.run (steps_to f) c
      here = each_at (IsChildAt f.run (steps_to f)) front back c (subst (Each (IsChildAt f.run (steps_to f))) are s.children)

      Had : ChildSeen → Type 0
      Had d = given_by d.to d.held ≡ to_child r d.key h.received

      Sent : ChildSeen → Type 0
      Sent d = given_by d.to d.held ≡ to_child r d.key (h.received ++ Item x ∷ [])

      had : Each Had (front ++ c ∷ back)
      had = subst (Each Had) are h.sends

      there : for_child r c.key (Item x) ≡ Item x ∷ Mark ∷ []
      there = ap (λ b. cond b (Item x ∷ Mark ∷ []) []) (ap (key_eq c.key) goes ∙ key_eq-refl c.key)

      not_there : (k : Key) → key_eq k c.key ≡ false → for_child r k (Item x) ≡ []
      not_there k apart = ap (λ b. cond b (Item x ∷ Mark ∷ []) []) (ap (key_eq k) goes ∙ apart)

      elsewhere : (cs : List ChildSeen) → is_among c.key (keys_of cs) ≡ false → Each Had cs → Each Sent cs
      elsewhere [] none sent = tt
      elsewhere (d ∷ cs) none sent = (
        sent.0 ∙ sym (sends-on r d.key h.received (Item x)
            ∙ ap (λ l. to_child r d.key h.received ++ l) (not_there d.key (other_key c.key d.key (keys_of cs) none)) ∙ append-nil (to_child r d.key h.received)),
        elsewhere cs (other_keys c.key d.key (keys_of cs) none) sent.1,
      )

      unheard : (k : Key) → key_eq k Own ≡ false → is_among k (keys_of f.children) ≡ false → for_child r k (Item x) ≡ []
      unheard k apart none = at (key_eq k c.key) refl
        where
          at : (b : Bool) → key_eq k c.key ≡ b → for_child r k (Item x) ≡ []
          at true e = absurd (false≢true (sym none ∙ ap (λ l. is_among k (keys_of l)) are ∙ is_there front back c k e))
          at false e = not_there k e

  -- the end: it is held for each child
  pub takes_end : (children : List ChildSeen) → f.waiting ≡ stream_item.End ∷ [] → AllHold TheEnd f.children children
      → Forks (record f { waiting = []; decisions = f.decisions ++ decision.End ∷ []; children = children })
  takes_end children waits hold =
      decided_on children stream_item.End decision.End waits refl (stay f.children children hold h.stands.children) (came f.children children hold)
      (keys f.children children hold) (sent f.children children hold h.sends) (λ k apart none. refl)
    where
      r : Router ModelItem
      r = h.stands.router

      stay : (cs ds : List ChildSeen) → AllHold TheEnd cs ds → Each (IsChildAt f.run (steps_to f)) cs → Each (IsChildAt f.run (steps_to f)) ds
      stay [] [] all there = tt
      stay [] (d ∷ ds) all there = absurd all
      stay (c ∷ cs) [] all there = absurd all
      stay (c ∷ cs) (d ∷ ds) ((held, is, gives), all) there = (
        subst (IsChildAt f.run (steps_to f)) (sym is) (record { apart = there.0.apart; comes = there.0.comes; leaves = there.0.leaves; begins = there.0.begins }),
        stay cs ds all there.1,
      )

      came : (cs ds : List ChildSeen) → AllHold TheEnd cs ds → (k : Key) → came_from cs k ≡ came_from ds k
      came [] [] all k = refl
      came [] (d ∷ ds) all k = absurd all
      came (c ∷ cs) [] all k = absurd all
      came (c ∷ cs) (d ∷ ds) ((held, is, gives), all) k =
          ap (λ l. cond (key_eq k c.key) (passed c.from.moved) l) (came cs ds all k)
          ∙ sym (ap (λ (d : ChildSeen). cond (key_eq k d.key) (passed d.from.moved) (came_from ds k)) is)

      keys : (cs ds : List ChildSeen) → AllHold TheEnd cs ds → keys_of ds ≡ keys_of cs
      keys [] [] all = refl
      keys [] (d ∷ ds) all = absurd all
      keys (c ∷ cs) [] all = absurd all
      keys (c ∷ cs) (d ∷ ds) ((held, is, gives), all) = ap₂ (λ (a : ChildSeen) l. a.key ∷ l) is (keys cs ds all)

      sent : (cs ds : List ChildSeen) → AllHold TheEnd cs ds → Each (λ c. given_by c.to c.held ≡ to_child r c.key h.received) cs
          → Each (λ c. given_by c.to c.held ≡ to_child r c.key (h.received ++ TheEnd ∷ [])) ds
      sent [] [] all had = tt
      sent [] (d ∷ ds) all had = absurd all
      sent (c ∷ cs) [] all had = absurd all
      sent (c ∷ cs) (d ∷ ds) ((held, is, gives), all) had = (
        subst (λ (d : ChildSeen). given_by d.to d.held ≡ to_child r d.key (h.received ++ TheEnd ∷ [])) (sym is)
            (gives ∙ ap (λ l. l ++ TheEnd ∷ []) had.0 ∙ sym (sends-on r c.key h.received TheEnd)),
        sent cs ds all had.1,
      )

  -- a child was made, while an entry waits, so that the end was not received yet
  pub after_growing : (c : ChildSeen) (x : StreamItem) → f.waiting ≡ x ∷ [] → IsChildAt f.run (steps_to f) c → is_among c.key (keys_of f.children) ≡ false
      → IsNew c → Forks (record f { children = f.children ++ c ∷ [] })
  after_growing c x waits there new is_new =
      record {
        stands = record {
          merge = s.merge;
          router = s.router;
          child = s.child;
          net = s.net;
          there = s.there;
          dispatches = s.dispatches;
          routes = s.routes;
          seg = s.seg;
          at = s.at;
          onward = s.onward;
          comes = s.comes;
          leaves = s.leaves;
          children = each_end (IsChildAt f.run (steps_to f)) f.children (c ∷ []) s.children (there, tt);
          apart = distinct f.children s.apart new;
          whole = whole_longer (out-Net s.net) f.children c s.whole;
        };
        received = h.received;
        served = h.served;
        got = h.got;
        begins = h.begins;
        decides = h.decides;
        sends = each_end (λ (d : ChildSeen). given_by d.to d.held ≡ to_child s.router d.key h.received) f.children (c ∷ []) h.sends
            (ap₂ (λ a b. passed (a ++ b)) is_new.put is_new.held ∙ sym (h.unheard c.key there.apart new ∙ no_end), tt);
        unheard = λ k apart none. h.unheard k apart (fewer f.children k none);
        merges = subst (λ (came : Key → List (Entry ModelItem)). Merges came h.served (map decision_entry f.decisions) (given_by f.output f.held)) (λ i k. came f.children k i) h.merges;
      }
    where
      s : ForksAt f
      s = h.stands

      no_end : filter is_end h.received ≡ []
      no_end = with_ends (in-ends (tree (setting_of f.run) f.run.net) (input_of f.run) (steps_to f) (record { part = Fork s.merge s.router s.child; seg = s.seg }) s.at)
          (received_begins f h)
        where
          with_ends : EndsOnce (history f.run (steps_to f) In) → IsPrefix h.received (history f.run (steps_to f) In) → filter is_end h.received ≡ []
          with_ends (before, whole, none) begins =
              quiet_before h.received h.begins.0 before (entry_of x) none
              (sym (ap (λ l. h.received ++ (passed l ++ h.begins.0)) waits) ∙ sym (append_assoc h.received (passed f.waiting) h.begins.0) ∙ ap (λ l. l ++ h.begins.0) (sym h.got)
              ∙ h.begins.1 ∙ s.comes ∙ whole)

      fewer : (cs : List ChildSeen) (k : Key) → is_among k (keys_of (cs ++ c ∷ [])) ≡ false → is_among k (keys_of cs) ≡ false
      fewer [] k none = refl
      fewer (d ∷ cs) k none = at (key_eq k d.key) none (fewer cs k)
        where
          at : (b : Bool) → cond b true (is_among k (keys_of (cs ++ c ∷ []))) ≡ false → (is_among k (keys_of (cs ++ c ∷ [])) ≡ false → is_among k (keys_of cs) ≡ false)
              → cond b true (is_among k (keys_of cs)) ≡ false
          at true is rest = absurd (false≢true (sym is))
          at false is rest = rest is

      others : (cs : List ChildSeen) (k : Key) → is_among k (keys_of cs) ≡ false → key_eq k c.key ≡ false → is_among k (keys_of (cs ++ c ∷ [])) ≡ false
      others [] k none apart = ap (λ b. cond b true false) apart
      others (d ∷ cs) k none apart = at (key_eq k d.key) none (λ rest. others cs k rest apart)
        where
          at : (b : Bool) → cond b true (is_among k (keys_of cs)) ≡ false → (is_among k (keys_of cs) ≡ false → is_among k (keys_of (cs ++ c ∷ [])) ≡ false)
              → cond b true (is_among k (keys_of (cs ++ c ∷ []))) ≡ false
          at true is rest = absurd (false≢true (sym is))
          at false is rest = rest is

      distinct : (cs : List ChildSeen) → AreDistinct (keys_of cs) → is_among c.key (keys_of cs) ≡ false → AreDistinct (keys_of (cs ++ c ∷ []))
      distinct [] all none = (refl, tt)
      distinct (d ∷ cs) all none = (
        others cs d.key all.0 (other_key c.key d.key (keys_of cs) none),
        distinct cs all.1 (other_keys c.key d.key (keys_of cs) none),
      )

      came : (cs : List ChildSeen) (k : Key) → came_from cs k ≡ came_from (cs ++ c ∷ []) k
      came [] k = at (key_eq k c.key)
        where
          at : (b : Bool) → [] ≡ cond b (passed c.from.moved) []
          at true = sym (ap passed is_new.got)
          at false = refl
      came (d ∷ cs) k = ap (λ l. cond (key_eq k d.key) (passed d.from.moved) l) (came cs k)

-- a fork that has received nothing
pub fresh_forks : (f : Forking) → ForksAt f → f.input.moved ≡ [] → f.waiting ≡ [] → f.decisions ≡ [] → f.output.moved ≡ [] → f.held ≡ [] → Each IsNew f.children → Forks f
fresh_forks f s got waits decisions put held new = record {
  stands = s;
  received = [];
  served = [];
  got = ap passed got ∙ sym (ap passed waits);
  begins = subst (λ l. IsPrefix (passed l) (history_for f.input.made)) (sym got) (history_for f.input.made, refl);
  decides = ap (map decision_entry) decisions;
  sends = sent f.children new;
  unheard = λ k apart none. refl;
  merges = subst (λ (u : (Key → List (Entry ModelItem)) × (List (Entry ModelItem) × List (Entry ModelItem))). Merges u.0 [] u.1.0 u.1.1)
      (λ i. ((λ k. came f.children new k i), (map decision_entry (sym decisions i), passed (sym put i ++ sym held i)))) merges-begin;
}
  where
    sent : (cs : List ChildSeen) → Each IsNew cs → Each (λ (c : ChildSeen). given_by c.to c.held ≡ []) cs
    sent [] all = tt
    sent (c ∷ cs) all = (ap₂ (λ a b. passed (a ++ b)) all.0.put all.0.held, sent cs all.1)

    came : (cs : List ChildSeen) → Each IsNew cs → (k : Key) → [] ≡ came_from cs k
    came [] all k = refl
    came (c ∷ cs) all k = at (key_eq k c.key) (came cs all.1 k)
      where
        at : (b : Bool) → [] ≡ came_from cs k → [] ≡ cond b (passed c.from.moved) (came_from cs k)
        at true rest = sym (ap passed all.0.got)
        at false rest = rest
