-- Where lines lead.
use Rattle.std.proofs.Common.{◌≡◌, ◌+◌, List, [], ◌∷◌, ◌++◌, length, refl, sym, ap, ◌∙◌, subst, arith}
use Rattle.sn_model.specs.declared.run.Run.{Run}
use Rattle.sn_view.specs.Chains.{Comes, Then}
use Rattle.sn_view.specs.View.{View, Happening}
use Rattle.sn_view.specs.Next.{Next}
use Rattle.sn_trace_lines.specs.declared.line.Line.{Line}
use Rattle.sn_trace_lines.specs.declared.line.Line.TheVariants as line
use Rattle.sn_event_lines.specs.Naming.{Happens, Leads, Names}

-- a line leads to one graph
pub one_next : (l : Line) (g : View) (e f : Happening) → Names l e → Names l f → Next g e ≡ Next g f
one_next line.Take g e f a b = ap (Next g) (a ∙ sym b)
one_next (line.Start n) g e f a b = ap (Next g) (a ∙ sym b)
one_next (line.Finish call) g e f (number, place, given, a) (other, at, r, b) = ap (Next g) a ∙ sym (ap (Next g) b)
one_next (line.Local n) g e f a b = ap (Next g) (a ∙ sym b)
one_next (line.Route n) g e f a b = ap (Next g) (a ∙ sym b)
one_next (line.Unfold n) g e f a b = ap (Next g) (a ∙ sym b)
one_next (line.Merge n c) g e f a b = ap (Next g) (a ∙ sym b)
one_next line.Emit g e f a b = ap (Next g) (a ∙ sym b)

pub same_next : (l : Line) (g h i : View) → Happens g l h → Happens g l i → h ≡ i
same_next l g h i a b = a.is_next ∙ one_next l g a.event b.event a.named b.named ∙ sym b.is_next

-- one line more
pub leads_on : (ls : List Line) (l : Line) (g h i : View) → Leads g ls h → Happens h l i → Leads g (ls ++ l ∷ []) i
leads_on [] l g h i is happens = (i, subst (λ (v : View). Happens v l i) is happens, refl)
leads_on (k ∷ ls) l g h i (next, first, more) happens = (next, first, leads_on ls l next h i more happens)

-- where lines lead is where events lead
pub leads_come : (run : Run) (ls : List Line) (g h : View) → Comes run g → Leads g ls h → Comes run h
leads_come run [] g h comes is = subst (Comes run) (sym is) comes
leads_come run (l ∷ ls) g h comes (next, first, more) = leads_come run ls next h (subst (Comes run) (sym first.is_next) (Then g first.event comes first.may)) more

-- each line is one event
pub leads_count : (ls : List Line) (g h : View) → Leads g ls h → h.applied ≡ g.applied + length ls
leads_count [] g h is = let e : h.applied ≡ g.applied = ap (λ (v : View). v.applied) is in omega (arith, e)
leads_count (l ∷ ls) g h (next, first, more) =
    let e : next.applied ≡ g.applied + 1 = ap (λ (v : View). v.applied) first.is_next in
    let k : h.applied ≡ next.applied + length ls = leads_count ls next h more in omega (arith, e, k)
