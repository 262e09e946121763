-- What comes of an event that is counted.
use Rattle.std.proofs.Common.{◌≡◌, ◌+◌, Bool, true, false, sym, ap, subst, ◌∙◌}
use Rattle.std.specs.Prelude.{Result, Ok, Err, IfOk, OnErr, if◌then◌else◌}
use Rattle.sn_list.specs.declared.memory.Memory.{Memory}
use Rattle.sn_model.specs.declared.run.Run.{Run}
use Rattle.sn_view.specs.Next.{IsEnabled, after, enabled}
use Rattle.sn_view.specs.View.{Emit, Happening, View}
use Rattle.sn_graph.specs.Arena.{view_of}
use Rattle.sn_graph.specs.Event.{ComesOf, Happens, counted, counted_as}
use Rattle.sn_graph.specs.Tabled.{IsTabled, LeavesCalls}
use Rattle.sn_graph.specs.declared.arena.Arena.{Arena}
use Rattle.sn_graph.specs.declared.event.ApplyCause.{ApplyCause}
use Rattle.sn_graph.specs.declared.event.ApplyCause.TheVariants as cause
use Rattle.sn_graph.specs.declared.event.Effect.{Effect}
use Rattle.sn_graph.specs.declared.event.Effect.TheVariants as effect
use Rattle.sn_graph.proofs.Tabling.{tabled_kept, tabled_same}

-- an event that moves something or nothing, before it is counted and then
pub moved_happens : (run : Run) (e : Happening) (old mid : View) (moved : Result Bool Memory)
    → (enabled old e ≡ true → IsEnabled old e) → (enabled old e ≡ false → IsEnabled old e → ⊥) → ((new : View) → ComesOf run e effect.Moved old new)
    → IfOk moved (λ m. m ≡ enabled old e) → IfOk moved (λ m. mid ≡ (if m then after old e else old)) → OnErr moved (mid ≡ old)
    → Happens run e old (counted_as moved) (counted old.applied moved mid)
moved_happens run e old mid (Ok true) may may_not comes is to err =
    record {
      may = may (sym is);
      next = ap (λ (g : View). record g { applied = old.applied + 1 }) to;
      comes = comes (counted old.applied (Ok true) mid);
    }
moved_happens run e old mid (Ok false) may may_not comes is to err = record { may_not = may_not (sym is); same = to }
moved_happens run e old mid (Err memory) may may_not comes is to err = err

-- the table stays what the view says
pub tabled_happens : (run : Run) (e : Happening) (old new : Arena) (answer : Result Effect ApplyCause) → LeavesCalls e → new.places ≡ old.places
    → Happens run e (view_of old) answer (view_of new) → IsTabled old → IsTabled new
tabled_happens run e old new (Ok effect) leaves places happens tabled =
    tabled_kept old new e places (ap (λ (g : View). g.nodes) happens.next) leaves tabled
tabled_happens run e old new (Err cause.NotEnabled) leaves places happens tabled =
    tabled_same old new (ap (λ p. p.entries) places) (ap (λ (g : View). g.nodes) happens.same) tabled
tabled_happens run e old new (Err cause.Memory) leaves places happens tabled =
    tabled_same old new (ap (λ p. p.entries) places) (ap (λ (g : View). g.nodes) happens) tabled

-- the same of what is answered, and of the graph then
pub plain_happens : (run : Run) (e : Happening) (old mid new : View) (moved : Result Bool Memory) (answer : Result Effect ApplyCause)
    → (enabled old e ≡ true → IsEnabled old e) → (enabled old e ≡ false → IsEnabled old e → ⊥) → ((next : View) → ComesOf run e effect.Moved old next)
    → IfOk moved (λ m. m ≡ enabled old e) → IfOk moved (λ m. mid ≡ (if m then after old e else old)) → OnErr moved (mid ≡ old)
    → answer ≡ counted_as moved → new ≡ counted old.applied moved mid → Happens run e old answer new
plain_happens run e old mid new moved answer may may_not comes is to err answered now =
    subst (λ a. Happens run e old a new) (sym answered)
    (subst (λ (g : View). Happens run e old (counted_as moved) g) (sym now) (moved_happens run e old mid moved may may_not comes is to err))

-- what leaves the output leaves the nodes and the calls as they were
pub tabled_emit : (old mid new : Arena) (did : Bool) → view_of mid ≡ (if did then after (view_of old) Emit else view_of old) → mid.places ≡ old.places
    → new.places ≡ mid.places → (view_of new).nodes ≡ (view_of mid).nodes → IsTabled old → IsTabled new
tabled_emit old mid new true to kept places nodes tabled =
    tabled_kept old new Emit (places ∙ kept) (nodes ∙ ap (λ (g : View). g.nodes) to) tt tabled
tabled_emit old mid new false to kept places nodes tabled =
    tabled_same old new (ap (λ p. p.entries) (places ∙ kept)) (nodes ∙ ap (λ (g : View). g.nodes) to) tabled
