-- Calls that are begun and finished at a node.
use Rattle.std.proofs.Common.{◌≡◌, ℕ, zero, suc, ◌+◌, ◌<◌, ◌≤◌, Bool, true, false, cond, ◌||◌, List, [], ◌∷◌, map, length, take, get_or, refl, sym, ap, subst, ◌∙◌, arith}
use Rattle.std.specs.Prelude.{slice_get, slice_set, Some}
use Rattle.std.specs.List.{Any, list_any}
use Rattle.std.proofs.lemmas.Bool.{cases_lt}
use mathlib.Core.Logic.{⊎_elim}
use Rattle.std.proofs.lemmas.List.{map-set, length-map}
use Rattle.std.proofs.lemmas.List.Quantifiers.{any-set}
use Rattle.std.proofs.lemmas.Option.{slice_get_read, slice_get_within, same_Some}
use Rattle.sn_record.specs.Record.{Entries}
use Rattle.sn_record.specs.declared.item.Item.{Item}
use Rattle.sn_model.specs.declared.run.Run.{Run}
use Rattle.sn_net.specs.Item.{Rec}
use Rattle.sn_view.specs.View as view
use Rattle.sn_view.specs.View.{It, Node, Plain, InFlight}
use Rattle.sn_view.specs.Next.{first_called, has_no_call, in_call, IsCall}
use Rattle.sn_node.specs.Answered.{IsAnswered, IsAnswerAt}
use Rattle.sn_node.specs.Calls.{Begins, IsNextCall}
use Rattle.sn_node.specs.Seen.{waiting_of}
use Rattle.sn_node.specs.declared.entry.Waiting.{Waiting}
use Rattle.sn_node.specs.declared.entry.Waiting.TheVariants as waiting
use Rattle.sn_node.proofs.Free.{or_true}
use Rattle.sn_node.proofs.Waits.{left, right}

pub some_free : (ws : List view.Waiting) (p : ℕ) (given : Entries) → slice_get ws p ≡ Some (Plain (It (Rec given))) → list_any has_no_call ws ≡ true
some_free [] p given here = absurd (cc)
some_free (w ∷ ws) zero given here = ap (λ v. has_no_call v || list_any has_no_call ws) (same_Some w (Plain (It (Rec given))) here)
some_free (w ∷ ws) (suc p) given here = or_true (has_no_call w) (list_any has_no_call ws) (some_free ws p given here)

-- the first free record gets the call
called_at : (ws : List view.Waiting) (p call : ℕ) (given : Entries) → list_any has_no_call (take p ws) ≡ false → slice_get ws p ≡ Some (Plain (It (Rec given)))
    → slice_set ws p (InFlight call given) ≡ first_called call ws
called_at [] p call given before here = absurd (cc)
called_at (w ∷ ws) zero call given before here =
    sym (ap (λ v. cond (has_no_call v) (in_call call v ∷ ws) (v ∷ first_called call ws)) (same_Some w (Plain (It (Rec given))) here))
called_at (w ∷ ws) (suc p) call given before here =
    ap (λ vs. w ∷ vs) (called_at ws p call given (right (has_no_call w) (list_any has_no_call (take p ws)) before) here)
    ∙ sym (ap (λ (b : Bool). cond b (in_call call w ∷ ws) (w ∷ first_called call ws)) (left (has_no_call w) (list_any has_no_call (take p ws)) before))

-- so a node that has it there in flight has begun it
pub begun_at : (p call : ℕ) (given : Entries) (old new : Node) → IsNextCall p given old → new ≡ record old { waiting = slice_set old.waiting p (InFlight call given) }
    → Begins call given old new
begun_at p call given old new next is = record {
  some = some_free old.waiting p given next.here;
  begun = is ∙ ap (λ ws. record old { waiting = ws }) (called_at old.waiting p call given next.before next.here);
  flies = subst (λ n. Any (IsCall call given) n.waiting) (sym is)
      (any-set (IsCall call given) old.waiting p (InFlight call given) (slice_get_within old.waiting p (Plain (It (Rec given))) next.here) refl);
}

-- AS THE CODE KEEPS THEM
pub seen_within : (ws : List Waiting) (p : ℕ) (v : view.Waiting) → slice_get (map waiting_of ws) p ≡ Some v → p < length ws
seen_within ws p v here = subst (λ n. p < n) (length-map ws waiting_of) (slice_get_within (map waiting_of ws) p v here)

-- what was seen at p is what was taken from there
pub seen_there : (ws : List Waiting) (p : ℕ) (w : Waiting) (v : view.Waiting) → slice_get ws p ≡ Some w → slice_get (map waiting_of ws) p ≡ Some v → waiting_of w ≡ v
seen_there [] p w v was here = absurd (cc)
seen_there (x ∷ ws) zero w v was here = ap waiting_of (sym (same_Some x w was)) ∙ same_Some (waiting_of x) v here
seen_there (x ∷ ws) (suc p) w v was here = seen_there ws p w v was here

set_twice : (ws : List Waiting) (p : ℕ) (v w : Waiting) → slice_set (slice_set ws p v) p w ≡ slice_set ws p w
set_twice [] p v w = refl
set_twice (x ∷ ws) zero v w = refl
set_twice (x ∷ ws) (suc p) v w = ap (λ ys. x ∷ ys) (set_twice ws p v w)

pub put_twice : (ws first second : List Waiting) (p : ℕ) (v w : Waiting) (seen : view.Waiting) → first ≡ slice_set ws p v → second ≡ slice_set first p w → waiting_of w ≡ seen
    → map waiting_of second ≡ slice_set (map waiting_of ws) p seen
put_twice ws first second p v w seen one two is =
    ap (map waiting_of) (two ∙ ap (λ xs. slice_set xs p w) one ∙ set_twice ws p v w) ∙ map-set waiting_of ws p w ∙ ap (slice_set (map waiting_of ws) p) is

pub set_within : (ws first : List Waiting) (p : ℕ) (v : Waiting) → first ≡ slice_set ws p v → p < length ws → p < length first
set_within ws first p v one within = subst (λ xs. p < length xs) (sym one) (there ws p within)
  where
    there : (ws : List Waiting) (p : ℕ) → p < length ws → p < length (slice_set ws p v)
    there [] p within = within
    there (x ∷ ws) zero within = within
    there (x ∷ ws) (suc p) within = let below = there ws p (omega (arith, within)) in omega (arith, below)

-- what is in flight gave nothing yet
pub flying_answered : (run : Run) (path : List ℕ) (w : Waiting) (call : ℕ) (given : Entries) → waiting_of w ≡ InFlight call given → IsAnswered run path w
flying_answered run path (waiting.Plain e) call given is place number at = tt
flying_answered run path (waiting.InFlight other record_given) call given is place number at = tt
flying_answered run path (waiting.Finished other items) call given is place number at = absurd (cc)

pub finished_answered : (run : Run) (path : List ℕ) (w : Waiting) (given : Entries) (items : List Item) → w ≡ waiting.Finished given items → IsAnswerAt run path given items → IsAnswered run path w
finished_answered run path w given items is answer = subst (IsAnswered run path) (sym is) answer

-- where one more entry is not the call
pub none_more_flies : (ws : List Waiting) (p call : ℕ) (given : Entries) (w : Waiting) → p < length ws → w ≡ get_or ws p w → (waiting_of w ≡ InFlight call given → ⊥)
    → ((i : ℕ) → i < p → slice_get (map waiting_of ws) i ≡ Some (InFlight call given) → ⊥)
    → (i : ℕ) → i < p + 1 → slice_get (map waiting_of ws) i ≡ Some (InFlight call given) → ⊥
none_more_flies ws p call given w within read other before i below here =
    ⊎_elim
    (λ less. before i less here)
    (λ last. other (seen_there ws p w (InFlight call given) (slice_get_read ws (length ws) p w refl within read) (subst (λ n. slice_get (map waiting_of ws) n ≡ Some (InFlight call given)) (last_is last) here)))
    (cases_lt i p)
  where
    last_is : p ≤ i → i ≡ p
    last_is last = omega (arith, last, below)

pub none_flies : (ws : List Waiting) (n call : ℕ) (given : Entries) → length ws ≤ n → ((i : ℕ) → i < n → slice_get (map waiting_of ws) i ≡ Some (InFlight call given) → ⊥)
    → Any (IsCall call given) (map waiting_of ws) → ⊥
none_flies ws n call given past none (k, w, within, read, is) =
    none k (omega (arith, past, within, length-map ws waiting_of))
    (slice_get_read (map waiting_of ws) (length (map waiting_of ws)) k w refl within (sym read) ∙ ap (λ v. Some v) is)
