-- Marks put at several nodes, and taken away again.
use Rattle.std.proofs.Common.{◌≡◌, ℕ, zero, suc, ◌+◌, ◌-◌, ◌<◌, ◌≤◌, List, [], ◌∷◌, ◌++◌, length, take, get_or, refl, sym, ap, ◌∙◌, arith, length-append}
use Rattle.sn_net.specs.Item.{ModelItem}
use Rattle.sn_view.specs.View.{Entry, Mark, Plain, Waiting, Node, View, ToNode, at_node, waits_more}
use Rattle.sn_view.specs.Next.{send}
use Rattle.sn_node.specs.Unwaited.{without_last}
use Rattle.sn_model.specs.declared.run.Run.{Run}
use Rattle.sn_graph.specs.Arena.{IsOf, view_of}
use Rattle.sn_graph.specs.Broadcast.{marked_all}
use Rattle.sn_graph.specs.Quiet.{IsQuiet}
use Rattle.sn_graph.specs.declared.arena.Arena.{Arena}
use Rattle.sn_graph.proofs.Reserving.{quiet_twice}
use Rattle.sn_graph.proofs.Sending.{changed-twice, changed-id}

before_last : {X : Type 0} (xs : List X) (x : X) → take (length xs) (xs ++ x ∷ []) ≡ xs
before_last [] x = refl
before_last (y ∷ xs) x = ap (λ ys. y ∷ ys) (before_last xs x)

one_off : {X : Type 0} (xs : List X) (x : X) → take (length (xs ++ x ∷ []) - 1) (xs ++ x ∷ []) ≡ xs
one_off xs x =
    let long : length (xs ++ x ∷ []) ≡ length xs + 1 = length-append xs (x ∷ []) in
    let less : length (xs ++ x ∷ []) - 1 ≡ length xs = omega (arith, long) in
    ap (λ n. take n (xs ++ x ∷ [])) less ∙ before_last xs x

waits_off : (w : Waiting) (n : Node) → without_last (waits_more (w ∷ []) n) ≡ n
waits_off w n = ap (λ ws. record n { waiting = ws }) (one_off n.waiting w)

-- what was put at a node last is taken away
pub unsent : (i : ℕ) (e : Entry ModelItem) (g : View) → at_node i without_last (send (ToNode i) (e ∷ []) g) ≡ g
unsent i e g =
    ap (λ ns. record g { nodes = ns })
    (changed-twice (waits_more (Plain e ∷ [])) without_last (λ n. n) (waits_off (Plain e)) i g.nodes
    ∙ changed-id (λ n. n) (λ n. refl) i g.nodes)

-- one mark more
pub marked_more : (entries : List ℕ) (k entry : ℕ) (g : View) → k < length entries → entry ≡ get_or entries k entry
    → marked_all (take (k + 1) entries) g ≡ send (ToNode entry) (Mark ∷ []) (marked_all (take k entries) g)
marked_more [] k entry g within read = absurd (omega (arith, within))
marked_more (e ∷ entries) zero entry g within read = ap (λ n. send (ToNode n) (Mark ∷ []) g) (sym read)
marked_more (e ∷ entries) (suc k) entry g within read =
    let more : suc k + 1 ≡ suc (k + 1) = omega arith in
    ap (λ n. marked_all (take n (e ∷ entries)) g) more ∙ marked_more entries k entry (send (ToNode e) (Mark ∷ []) g) (omega (arith, within)) read

pub take_whole : {X : Type 0} (xs : List X) (n : ℕ) → length xs ≤ n → take n xs ≡ xs
take_whole [] zero all = refl
take_whole [] (suc n) all = refl
take_whole (x ∷ xs) zero all = absurd (omega (arith, all))
take_whole (x ∷ xs) (suc n) all = ap (λ ys. x ∷ ys) (take_whole xs n (omega (arith, all)))

-- the marks at the first n nodes were taken away as far as to the first k
pub record AreUnsent (entries : List ℕ) (n k : ℕ) (first now : Arena) : Type 0 where
  pub few : k ≤ n
  pub view : (g : View) → view_of first ≡ marked_all (take n entries) g → view_of now ≡ marked_all (take k entries) g
  pub of : (run : Run) → IsOf first run → IsOf now run
  pub quiet : IsQuiet first now

-- a mark was put at each of the first k nodes
pub record AreSent (entries : List ℕ) (k : ℕ) (first now : Arena) : Type 0 where
  pub view : view_of now ≡ marked_all (take k entries) (view_of first)
  pub of : (run : Run) → IsOf first run → IsOf now run
  pub quiet : IsQuiet first now

pub unsent_more : (entries : List ℕ) (n k before entry : ℕ) (first now next : Arena) → before ≡ k + 1 → before ≤ length entries → entry ≡ get_or entries k entry
    → AreUnsent entries n before first now → view_of next ≡ at_node entry without_last (view_of now) → ((run : Run) → IsOf now run → IsOf next run) → IsQuiet now next
    → AreUnsent entries n k first next
unsent_more entries n k before entry first now next less within read so_far off of quiet = record {
  few = let few = so_far.few in omega (arith, few, less);
  view = λ g was.
      off ∙ ap (at_node entry without_last)
      (so_far.view g was ∙ ap (λ m. marked_all (take m entries) g) less ∙ marked_more entries k entry g (omega (arith, within, less)) read)
      ∙ unsent entry Mark (marked_all (take k entries) g);
  of = λ run is. of run (so_far.of run is);
  quiet = quiet_twice first now next so_far.quiet quiet;
}

pub sent_more : (entries : List ℕ) (k entry : ℕ) (first now next : Arena) → k < length entries → entry ≡ get_or entries k entry
    → AreSent entries k first now → view_of next ≡ send (ToNode entry) (Mark ∷ []) (view_of now) → ((run : Run) → IsOf now run → IsOf next run) → IsQuiet now next
    → AreSent entries (k + 1) first next
sent_more entries k entry first now next within read so_far on of quiet = record {
  view = on ∙ ap (send (ToNode entry) (Mark ∷ [])) so_far.view ∙ sym (marked_more entries k entry (view_of first) within read);
  of = λ run is. of run (so_far.of run is);
  quiet = quiet_twice first now next so_far.quiet quiet;
}
