-- Events count the calls and the marks; no call is in flight twice; a call that is in flight was, or was started.
use Rattle.std.proofs.Common.{◌≡◌, ℕ, ◌+◌, ◌≤◌, ◌<◌, length, Bool, true, false, Some, refl, sym, ap, ◌∙◌, subst, arith, ◌⊎◌, inl, inr}
use Rattle.std.specs.Prelude.{slice_get}
use Rattle.std.specs.List.{Any}
use Rattle.std.proofs.lemmas.Option.{slice_get_within, slice_get_read, get_or_from_slice_get}
use Rattle.sn_record.specs.Record.{Entries}
use Rattle.sn_model.specs.declared.run.Run.{Run}
use Rattle.sn_view.specs.Epochs.{Epochs}
use Rattle.sn_view.specs.View.{Waiting, InFlight, Freely, State, Node, View, Happening, Start}
use Rattle.sn_view.specs.Next.{Next, IsCall}
use Rattle.sn_view.specs.Chains.{Comes, Started, Then}
use Rattle.sn_view.specs.Calls.{FliesAt, Flies}
use Rattle.sn_view.specs.Seen.{epochs_of}
use Rattle.sn_view.proofs.Flying.{inputs, earlier, first_place, IsCalled, Stepped, stepped, start-blank}

up : (a b c d : ℕ) → a ≤ b + 1 → b ≤ c → c + 1 ≡ d → a ≤ d
up a b c d h k e = omega (arith, h, k, e)

none : (a b : ℕ) → a ≡ 0 → a ≤ b
none a b e = omega (arith, e)

-- EVENTS ARE COUNTED
pub calls-counted : (run : Run) (g : View) → Comes run g → g.calls ≤ g.applied
calls-counted run g Started = none 0 0 refl
calls-counted run g (Then h e comes may) = up (Next h e).calls h.calls h.applied (h.applied + 1) (stepped h e).one_more (calls-counted run h comes) refl

inputs-counted : (run : Run) (g : View) → Comes run g → (i : ℕ) (n : Node) → slice_get g.nodes i ≡ Some n → inputs n ≤ g.applied
inputs-counted run g Started i n there = none (inputs n) 0 (start-blank run i n there).input
inputs-counted run g (Then h e comes may) i n there = elim ((stepped h e).input i n there) [
  | inl z ↦ none (inputs n) (h.applied + 1) z
  | inr w ↦ up (inputs n) (inputs w.node) h.applied (h.applied + 1) w.input (inputs-counted run h comes i w.node w.there) refl
]

pub marks-counted : (run : Run) (g : View) → Comes run g → (i : ℕ) (n : Node) (e : Epochs) → slice_get g.nodes i ≡ Some n → n.state ≡ Freely e → e.input ≤ g.applied
marks-counted run g comes i n e there st = subst (λ (s : State). (epochs_of s).input ≤ g.applied) st (inputs-counted run g comes i n there)

-- CALLS STAND ONCE
pub record Once (g : View) : Type 0 where
  pub below : (i p call : ℕ) (given : Entries) → FliesAt g i p call given → call < g.calls
  pub once : (i p j q call : ℕ) (given other : Entries) → FliesAt g i p call given → FliesAt g j q call other → (i ≡ j) × (p ≡ q)

same-place : (b c : Bool) (p q : ℕ) → b ≡ c → earlier b p ≡ earlier c q → p ≡ q
same-place true true p q e h = omega (arith, h)
same-place false false p q e h = h
same-place true false p q e h = cc
same-place false true p q e h = cc

module _ (g : View) (e : Happening) (before : Once g) (s : Stepped g e) where
  -- it was in flight, or is called now
  abbrev From : ℕ → ℕ → ℕ → Entries → Type 0
  From i p call given = FliesAt g i (earlier (s.passes i) p) call given ⊎ IsCalled g e i p call

  still-below : (i p call : ℕ) (given : Entries) → From i p call given → call < (Next g e).calls
  still-below i p call given (inl f) = let h : call < g.calls = before.below i (earlier (s.passes i) p) call given f in let k : g.calls ≤ (Next g e).calls = s.keeps_number in omega (arith, h, k)
  still-below i p call given (inr c) = s.counted i p call c

  apart : {X : Type 0} (i p j q call : ℕ) (given : Entries) → FliesAt g i p call given → IsCalled g e j q call → X
  apart i p j q call given f c = let h : call < g.calls = before.below i p call given f in let k : call ≡ g.calls = c.number in absurd (omega (arith, h, k))

  called-once : (i p j q call : ℕ) → IsCalled g e i p call → IsCalled g e j q call → (i ≡ j) × (p ≡ q)
  called-once i p j q call a b =
      let same : i ≡ j = (let u : Start i ≡ Start j = sym a.starts ∙ b.starts in cc) in
      let node : a.node ≡ b.node = (let u : Some a.node ≡ Some b.node = sym a.there ∙ ap (slice_get g.nodes) same ∙ b.there in cc) in
      (same, a.place ∙ ap (λ (n : Node). first_place n.waiting) node ∙ sym b.place)

  still-once : (i p j q call : ℕ) (given other : Entries) → From i p call given → From j q call other → (i ≡ j) × (p ≡ q)
  still-once i p j q call given other (inl f) (inl k) =
      let u : (i ≡ j) × (earlier (s.passes i) p ≡ earlier (s.passes j) q) = before.once i (earlier (s.passes i) p) j (earlier (s.passes j) q) call given other f k in
      (u.0, same-place (s.passes i) (s.passes j) p q (ap s.passes u.0) u.1)
  still-once i p j q call given other (inl f) (inr c) = apart i (earlier (s.passes i) p) j q call given f c
  still-once i p j q call given other (inr c) (inl f) = apart j (earlier (s.passes j) q) i p call other f c
  still-once i p j q call given other (inr a) (inr b) = called-once i p j q call a b

  next-once : Once (Next g e)
  next-once = record {
    below = λ i p call given f. still-below i p call given (s.flies i p call given (record { node = f.node; there = f.there; flies = f.flies }));
    once = λ i p j q call given other f k.
        still-once i p j q call given other
        (s.flies i p call given (record { node = f.node; there = f.there; flies = f.flies }))
        (s.flies j q call other (record { node = k.node; there = k.there; flies = k.flies }));
  }

pub calls-once : (run : Run) (g : View) → Comes run g → Once g
calls-once run g Started = record {
  below = λ i p call given f. absurd ((start-blank run i f.node f.there).none p call given f.flies);
  once = λ i p j q call given other f k. absurd ((start-blank run i f.node f.there).none p call given f.flies);
}
calls-once run g (Then h e comes may) = next-once h e (calls-once run h comes) (stepped h e)

-- CALLS STAY
-- in flight at a node is in flight at a place of it
pub some-place : (g : View) (i call : ℕ) (given : Entries) → Flies g i call given → (p : ℕ) × FliesAt g i p call given
some-place g i call given f = at f.flies
  where
    at : Any (IsCall call given) f.node.waiting → (p : ℕ) × FliesAt g i p call given
    at (k, w, within, is, c) =
        (k, record { node = f.node; there = f.there; flies = slice_get_read f.node.waiting (length f.node.waiting) k w refl within (sym is) ∙ ap (λ (x : Waiting). Some x) c })

pub at-some-place : (g : View) (i p call : ℕ) (given : Entries) → FliesAt g i p call given → Flies g i call given
at-some-place g i p call given f =
    let w : Waiting = InFlight call given in
    record {
      node = f.node;
      there = f.there;
      flies = (p, w, slice_get_within f.node.waiting p w f.flies, get_or_from_slice_get f.node.waiting p w w f.flies, refl);
    }

pub calls-stay : (g : View) (e : Happening) (i call : ℕ) (given : Entries) → Flies (Next g e) i call given → Flies g i call given ⊎ ((e ≡ Start i) × (call ≡ g.calls))
calls-stay g e i call given f =
    let (p, k) = some-place (Next g e) i call given f in
    at p ((stepped g e).flies i p call given (record { node = k.node; there = k.there; flies = k.flies }))
  where
    at : (p : ℕ) → FliesAt g i (earlier ((stepped g e).passes i) p) call given ⊎ IsCalled g e i p call → Flies g i call given ⊎ ((e ≡ Start i) × (call ≡ g.calls))
    at p (inl k) = inl (at-some-place g i (earlier ((stepped g e).passes i) p) call given k)
    at p (inr c) = inr (c.starts, c.number)
