-- The table of calls in flight, while events happen.
use Rattle.std.proofs.Common.{◌≡◌, ℕ, zero, suc, ◌==◌, ◌<◌, Bool, true, false, true≢false, cond, List, [], ◌∷◌, length, refl, sym, ap, subst, ◌∙◌, ◌⊎◌, inl, inr, arith, eq-eqb}
use Rattle.std.specs.Prelude.{slice_get, nat_eq, Option, Some, None}
use Rattle.std.specs.Map.{lookup}
use Rattle.std.specs.Option.{option_map}
use Rattle.std.proofs.lemmas.Bool.{eqb-true}
use Rattle.std.proofs.lemmas.Option.{none-some, same_Some}
use mathlib.Core.HLevel.{⊥_prop}
use mathlib.Core.Logic.{∥∥₁_elim, ∥∥₁_map}
use Rattle.indexmap.specs.IndexMap.{get}
use Rattle.sn_record.specs.Record.{Entries}
use Rattle.sn_view.specs.View as view
use Rattle.sn_view.specs.View.{Emit, Finish, Finished, Happening, InFlight, Local, Merge, Plain, Route, Start, Take, Unfold, View, Waiting}
use Rattle.sn_view.specs.Calls.{Flies, FliesAt, IsFinishOf}
use Rattle.sn_view.specs.Next.{Next, after, finished, gets_answer, start_view, with_answer}
use Rattle.sn_view.specs.Placed.{NoneInFlight}
use Rattle.sn_view.proofs.Counted.{at-some-place, calls-stay, some-place}
use Rattle.sn_model.specs.declared.run.Run.{Run}
use Rattle.sn_view.proofs.Flying.{start-blank}
use Rattle.sn_view.proofs.FlyingOn.{calls-fly-on}
use Rattle.sn_view.proofs.Lists.{there-unmap}
use Rattle.sn_boxrun.specs.declared.job.Job.{Job}
use Rattle.sn_graph.specs.Started.{AreBelow, finish_of}
use Rattle.sn_graph.specs.Arena.{view_of}
use Rattle.sn_graph.specs.Tabled.{IsTabled, LeavesCalls, place_node}
use Rattle.sn_graph.specs.declared.arena.Arena.{Arena}
use Rattle.sn_graph.specs.declared.arena.Place.{Place}

-- NO CALL IS IN FLIGHT
none_waits : (ws : List Waiting) → ((p call : ℕ) (given : Entries) → slice_get ws p ≡ Some (InFlight call given) → ⊥) → NoneInFlight ws
none_waits [] none = tt
none_waits (Plain e ∷ ws) none = none_waits ws (λ p call given is. none (suc p) call given is)
none_waits (InFlight call given ∷ ws) none = none 0 call given refl
none_waits (Finished given ∷ ws) none = none_waits ws (λ p call given is. none (suc p) call given is)

none_there : (ws : List Waiting) (p call : ℕ) (given : Entries) → slice_get ws p ≡ Some (InFlight call given) → NoneInFlight ws → ⊥
none_there [] p call given is none = absurd (none-some (InFlight call given) is)
none_there (w ∷ ws) zero call given is none = subst (λ v. NoneInFlight (v ∷ ws)) (same_Some w (InFlight call given) is) none
none_there (Plain e ∷ ws) (suc p) call given is none = none_there ws p call given is none
none_there (InFlight other r ∷ ws) (suc p) call given is none = none
none_there (Finished r ∷ ws) (suc p) call given is none = none_there ws p call given is none

none_listed : (es : List (ℕ × Place)) (test : ℕ → Bool) → length es ≡ 0 → lookup test es ≡ None
none_listed [] test none = refl
none_listed (e ∷ es) test none = cc

first_listed : (k : ℕ) (place : Place) (es : List (ℕ × Place)) → lookup (nat_eq k) ((k, place) ∷ es) ≡ Some place
first_listed k place es = ap (λ b. cond b (Some place) (lookup (nat_eq k) es)) (eq-eqb k k refl)

abbrev pub NoneFlies : View → Type 0
NoneFlies g = (i : ℕ) (n : view.Node) → slice_get g.nodes i ≡ Some n → NoneInFlight n.waiting

module _ (arena : Arena) (tabled : IsTabled arena) where
  pub none_if_empty : length arena.places.entries ≡ 0 → NoneFlies (view_of arena)
  none_if_empty empty i n there =
      none_waits n.waiting (λ p call given is.
      let flies : FliesAt (view_of arena) i p call given = record { node = n; there = there; flies = is } in
      none-some i (sym (ap (option_map (λ (place : Place). place.node)) (none_listed arena.places.entries (nat_eq call) empty))
      ∙ tabled.found i call given (at-some-place (view_of arena) i p call given flies)))

  pub empty_if_none : NoneFlies (view_of arena) → (es : List (ℕ × Place)) → arena.places.entries ≡ es → length es ≡ 0
  empty_if_none none [] is = refl
  empty_if_none none ((k, place) ∷ es) is =
      let told : place_node arena k ≡ Some place.node =
      ap (λ all. option_map (λ (p : Place). p.node) (lookup (nat_eq k) all)) is ∙ ap (option_map (λ (p : Place). p.node)) (first_listed k place es) in
      absurd (∥∥₁_elim (tabled.flying place.node k told) ⊥_prop (λ (given, flies).
      let (p, at) = some-place (view_of arena) place.node k given flies in
      none_there at.node.waiting p k given at.flies (none place.node at.node at.there)))

-- EVENTS
eqb-apart : (a b : ℕ) → (a ≡ b → ⊥) → (a == b) ≡ false
eqb-apart a b apart = at (a == b) refl
  where
    at : (c : Bool) → (a == b) ≡ c → (a == b) ≡ false
    at true same = absurd (apart (eqb-true a b same))
    at false other = other

below-self : (n : ℕ) → n < n → ⊥
below-self n less = omega (arith, less)

same_start : (i j : ℕ) → Start i ≡ Start j → i ≡ j
same_start i j e = cc

-- only the nodes tell what is in flight
same_flies : (g h : View) (i call : ℕ) (given : Entries) → h.nodes ≡ g.nodes → Flies h i call given → Flies g i call given
same_flies g h i call given same f = record { node = f.node; there = ap (λ ns. slice_get ns i) (sym same) ∙ f.there; flies = f.flies }

flies_before : (g h : View) (e : Happening) (i call : ℕ) (given : Entries) → h.nodes ≡ (after g e).nodes → Flies h i call given → Flies g i call given ⊎ ((e ≡ Start i) × (call ≡ g.calls))
flies_before g h e i call given same f = calls-stay g e i call given (same_flies (Next g e) h i call given same f)

flies_after : (g h : View) (e : Happening) (i call : ℕ) → h.nodes ≡ (after g e).nodes → (IsFinishOf e call → ⊥)
    → ∥ ((given : Entries) × Flies g i call given) ∥₁ → ∥ ((given : Entries) × Flies h i call given) ∥₁
flies_after g h e i call same other flies = ∥∥₁_map flies (λ (given, f). (given, same_flies h (Next g e) i call given (sym same) (on given (calls-fly-on g e i call given f))))
  where
    on : (given : Entries) → Flies (Next g e) i call given ⊎ IsFinishOf e call → Flies (Next g e) i call given
    on given (inl f) = f
    on given (inr done) = absurd (other done)

starts_none : (e : Happening) (i : ℕ) → LeavesCalls e → e ≡ Start i → ⊥
starts_none e i leaves is = subst LeavesCalls is leaves

finishes_none : (e : Happening) (call : ℕ) → LeavesCalls e → IsFinishOf e call → ⊥
finishes_none Take call leaves done = done
finishes_none (Start i) call leaves done = done
finishes_none (Finish other number place given) call leaves done = leaves
finishes_none (Local i) call leaves done = done
finishes_none (Route i) call leaves done = done
finishes_none (Unfold i) call leaves done = done
finishes_none (Merge i c) call leaves done = done
finishes_none Emit call leaves done = done

-- the table is right after an event that begins and finishes no call
pub tabled_kept : (old new : Arena) (e : Happening) → new.places ≡ old.places → (view_of new).nodes ≡ (after (view_of old) e).nodes → LeavesCalls e → IsTabled old → IsTabled new
tabled_kept old new e places nodes leaves tabled = record {
  found = λ i call given f. elim (flies_before (view_of old) (view_of new) e i call given nodes f) [
    | inl was ↦ told call ∙ tabled.found i call given was
    | inr began ↦ absurd (starts_none e i leaves began.0)
  ];
  flying = λ i call is. flies_after (view_of old) (view_of new) e i call nodes (finishes_none e call leaves) (tabled.flying i call (sym (told call) ∙ is));
}
  where
    told : (call : ℕ) → place_node new call ≡ place_node old call
    told call = ap (λ ps. option_map (λ (place : Place). place.node) (get nat_eq ps call)) places

-- where nothing happened
pub tabled_same : (old new : Arena) → new.places.entries ≡ old.places.entries → (view_of new).nodes ≡ (view_of old).nodes → IsTabled old → IsTabled new
tabled_same old new entries nodes tabled = record {
  found = λ i call given f. told call ∙ tabled.found i call given (same_flies (view_of old) (view_of new) i call given nodes f);
  flying = λ i call is. ∥∥₁_map (tabled.flying i call (sym (told call) ∙ is)) (λ (given, f). (given, same_flies (view_of new) (view_of old) i call given (sym nodes) f));
}
  where
    told : (call : ℕ) → place_node new call ≡ place_node old call
    told call = ap (λ es. option_map (λ (place : Place). place.node) (lookup (nat_eq call) es)) entries

-- where nothing happened yet
pub tabled_start : (arena : Arena) (run : Run) → view_of arena ≡ start_view run → arena.places.entries ≡ [] → IsTabled arena
tabled_start arena run start none = record {
  found = λ i call given f. absurd (blank i call given (subst (λ (g : View). Flies g i call given) start f));
  flying = λ i call is. absurd (none-some i (sym (ap (λ es. option_map (λ (place : Place). place.node) (lookup (nat_eq call) es)) none) ∙ is));
}
  where
    blank : (i call : ℕ) (given : Entries) → Flies (start_view run) i call given → ⊥
    blank i call given f =
        let (p, at) = some-place (start_view run) i call given f in
        (start-blank run i at.node at.there).none p call given at.flies

-- what the table tells, where one call's entry changed
module _ (old new : Arena) (changed : ℕ) (o : Option Place) (updates : (k : ℕ) → get nat_eq new.places k ≡ cond (nat_eq changed k) o (get nat_eq old.places k)) where
  told_there : (call : ℕ) → (changed == call) ≡ true → place_node new call ≡ option_map (λ (place : Place). place.node) o
  told_there call is = ap (option_map (λ (place : Place). place.node)) (updates call ∙ ap (λ b. cond b o (get nat_eq old.places call)) is)

  told_elsewhere : (call : ℕ) → (changed == call) ≡ false → place_node new call ≡ place_node old call
  told_elsewhere call is = ap (option_map (λ (place : Place). place.node)) (updates call ∙ ap (λ b. cond b o (get nat_eq old.places call)) is)

-- after Start
module _ (old new : Arena) (i ticket : ℕ)
    (updates : (k : ℕ) → get nat_eq new.places k ≡ cond (nat_eq old.calls k) (Some (record { node = i; ticket = ticket })) (get nat_eq old.places k))
    (nodes : (view_of new).nodes ≡ (after (view_of old) (Start i)).nodes) (given : Entries) (flies : Flies (view_of new) i old.calls given)
    (below : AreBelow (view_of old)) (tabled : IsTabled old) where
  abbrev new_place : Option Place
  new_place = Some (record { node = i; ticket = ticket })

  found_started : (j call : ℕ) (r : Entries) → Flies (view_of old) j call r ⊎ ((Start i ≡ Start j) × (call ≡ old.calls)) → place_node new call ≡ Some j
  found_started j call r (inl was) =
      told_elsewhere old new old.calls new_place updates call (eqb-apart old.calls call (λ e. below-self old.calls (subst (λ n. n < old.calls) (sym e) (below j call r was))))
      ∙ tabled.found j call r was
  found_started j call r (inr (starts, is)) =
      told_there old new old.calls new_place updates call (eq-eqb old.calls call (sym is)) ∙ ap Some (same_start i j starts)

  flying_started : (b : Bool) (j call : ℕ) → (old.calls == call) ≡ b → place_node new call ≡ Some j → ∥ ((r : Entries) × Flies (view_of new) j call r) ∥₁
  flying_started true j call same is =
      let here : i ≡ j = same_Some i j (sym (told_there old new old.calls new_place updates call same) ∙ is) in
      ∣ (given, subst (λ n. Flies (view_of new) j n given) (eqb-true old.calls call same) (subst (λ n. Flies (view_of new) n old.calls given) here flies)) ∣₁
  flying_started false j call other is =
      flies_after (view_of old) (view_of new) (Start i) j call nodes (λ none. none) (tabled.flying j call (sym (told_elsewhere old new old.calls new_place updates call other) ∙ is))

  pub tabled_started : IsTabled new
  tabled_started = record {
    found = λ j call r f. found_started j call r (flies_before (view_of old) (view_of new) (Start i) j call r nodes f);
    flying = λ j call is. flying_started (old.calls == call) j call refl is;
  }

-- after Finish
no_longer : (call : ℕ) (given : Entries) (w : Waiting) → with_answer call w ≡ InFlight call given → ⊥
no_longer call given (Plain e) is = cc
no_longer call given (Finished r) is = cc
no_longer call given (InFlight other r) is = at (call == other) refl is
  where
    at : (b : Bool) → (call == other) ≡ b → cond b (Finished r) (InFlight other r) ≡ InFlight call given → ⊥
    at true same is = cc
    at false apart is = let u : other ≡ call = cc in true≢false (sym (eq-eqb call other (sym u)) ∙ apart)

none_after : (g : View) (i call : ℕ) (given : Entries) → Flies (finished call g) i call given → ⊥
none_after g i call given f =
    let (p, at) = some-place (finished call g) i call given f in
    let (n, there, is) = there-unmap (gets_answer call) g.nodes i at.node at.there in
    let (w, was, gives) = there-unmap (with_answer call) n.waiting p (InFlight call given) (ap (λ (m : view.Node). slice_get m.waiting p) is ∙ at.flies) in
    no_longer call given w gives

module _ (old new : Arena) (job : Job) (updates : (k : ℕ) → get nat_eq new.places k ≡ cond (nat_eq job.call k) None (get nat_eq old.places k))
    (nodes : (view_of new).nodes ≡ (after (view_of old) (finish_of job)).nodes) (tabled : IsTabled old) where
  found_finished : (b : Bool) (j call : ℕ) (r : Entries) → (job.call == call) ≡ b → Flies (view_of new) j call r → place_node new call ≡ Some j
  found_finished true j call r same f =
      let g : View = finished job.call (view_of old) in
      absurd (none_after (view_of old) j job.call r (subst (λ k. Flies g j k r) (sym (eqb-true job.call call same)) (same_flies g (view_of new) j call r nodes f)))
  found_finished false j call r other f = elim (flies_before (view_of old) (view_of new) (finish_of job) j call r nodes f) [
    | inl was ↦ told_elsewhere old new job.call None updates call other ∙ tabled.found j call r was
    | inr (starts, is) ↦ absurd (no_start starts)
  ]
    where
      no_start : finish_of job ≡ Start j → ⊥
      no_start is = cc

  flying_finished : (b : Bool) (j call : ℕ) → (job.call == call) ≡ b → place_node new call ≡ Some j → ∥ ((r : Entries) × Flies (view_of new) j call r) ∥₁
  flying_finished true j call same is = absurd (none-some j (sym (told_there old new job.call None updates call same) ∙ is))
  flying_finished false j call other is =
      flies_after (view_of old) (view_of new) (finish_of job) j call nodes (λ done. true≢false (sym (eq-eqb job.call call done) ∙ other))
      (tabled.flying j call (sym (told_elsewhere old new job.call None updates call other) ∙ is))

  pub tabled_finished : IsTabled new
  tabled_finished = record {
    found = λ j call r f. found_finished (job.call == call) j call r refl f;
    flying = λ j call is. flying_finished (job.call == call) j call refl is;
  }
