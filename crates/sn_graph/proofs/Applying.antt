-- What is answered to the owner of a graph.
use Rattle.std.proofs.Common.{◌≡◌, List, sym, subst}
use Rattle.std.specs.Prelude.{Result, Ok, Err, IfErr, IfOk, OnErr, OnOk}
use Rattle.std.specs.List.{All}
use Rattle.sn_net.specs.Item.{ModelItem}
use Rattle.sn_model.specs.declared.run.Run.{Run}
use Rattle.sn_view.specs.Chains.{Comes}
use Rattle.sn_view.specs.Coming.{MayCome}
use Rattle.sn_view.specs.Next.{IsEnabled, Next}
use Rattle.sn_view.specs.View.{View}
use Rattle.sn_view.proofs.Came.{came_next, may_before}
use Rattle.sn_graph.specs.Arena.{IsOf}
use Rattle.sn_graph.specs.Event.{Applies, ComesOf, Happens, happening_of}
use Rattle.sn_graph.specs.Grown.{IsOfRun}
use Rattle.sn_graph.specs.declared.arena.Arena.{Arena}
use Rattle.sn_graph.specs.declared.event.ApplyCause.{ApplyCause}
use Rattle.sn_graph.specs.declared.event.ApplyCause.TheVariants as cause
use Rattle.sn_graph.specs.declared.event.ApplyFault.{ApplyFault}
use Rattle.sn_graph.specs.declared.event.Effect.{Effect}
use Rattle.sn_graph.specs.declared.event.Event.{Event}

-- nothing has changed where an event did not happen
pub unchanged_by : (run : Run) (e : Event) (old new : View) (c : ApplyCause) → Happens run (happening_of e) old (Err c) new → new ≡ old
unchanged_by run e old new cause.NotEnabled is = is.same
unchanged_by run e old new cause.Memory is = is

refused_by : (run : Run) (e : Event) (old new : View) (c : ApplyCause) → Happens run (happening_of e) old (Err c) new → c ≡ cause.NotEnabled → IsEnabled old (happening_of e) → ⊥
refused_by run e old new cause.NotEnabled is same = is.may_not
refused_by run e old new cause.Memory is same = absurd (cc)

module _ (run : Run) (e : Event) (old new : View) where
  pub was_enabled : (r : Result Effect ApplyFault) → Applies run e old r new → OnOk r (IsEnabled old (happening_of e))
  was_enabled (Ok effect) is = is.may
  was_enabled (Err fault) is = tt

  pub is_next : (r : Result Effect ApplyFault) → Applies run e old r new → OnOk r (new ≡ Next old (happening_of e))
  is_next (Ok effect) is = is.next
  is_next (Err fault) is = tt

  pub came_of : (r : Result Effect ApplyFault) → Applies run e old r new → IfOk r (λ effect. ComesOf run (happening_of e) effect old new)
  came_of (Ok effect) is = is.comes
  came_of (Err fault) is = tt

  pub not_enabled : (r : Result Effect ApplyFault) → Applies run e old r new → IfErr r (λ fault. fault.cause ≡ cause.NotEnabled → IsEnabled old (happening_of e) → ⊥)
  not_enabled (Ok effect) is = tt
  not_enabled (Err fault) is = refused_by run e old new fault.cause is.cause

  pub comes_back : (r : Result Effect ApplyFault) → Applies run e old r new → IfErr r (λ fault. fault.event ≡ e)
  comes_back (Ok effect) is = tt
  comes_back (Err fault) is = is.back

  pub stays : (r : Result Effect ApplyFault) → Applies run e old r new → OnErr r (new ≡ old)
  stays (Ok effect) is = tt
  stays (Err fault) is = unchanged_by run e old new fault.cause is.cause

  pub still_came : (r : Result Effect ApplyFault) → Applies run e old r new → ∥ Comes run old ∥₁ → ∥ Comes run new ∥₁
  still_came (Ok effect) is came = subst (λ (g : View). ∥ Comes run g ∥₁) (sym is.next) (came_next run old (happening_of e) came is.may)
  still_came (Err fault) is came = subst (λ (g : View). ∥ Comes run g ∥₁) (sym (unchanged_by run e old new fault.cause is.cause)) came

  pub may_come_before : (r : Result Effect ApplyFault) → Applies run e old r new → ∥ Comes run old ∥₁ → (ys : List ModelItem) → MayCome new ys → MayCome old ys
  may_come_before (Ok effect) is came ys may =
      may_before run old came run.formed (happening_of e) ys is.may (subst (λ (g : View). MayCome g ys) is.next may)
  may_come_before (Err fault) is came ys may = subst (λ (g : View). MayCome g ys) (unchanged_by run e old new fault.cause is.cause) may

-- a graph is of the run that it names
pub nodes_of_own : (arena : Arena) (run : Run) → IsOf arena run → All (IsOfRun arena.run.value) arena.nodes.items
nodes_of_own arena run of = subst (λ (r : Run). All (IsOfRun r) arena.nodes.items) (sym of.made) of.nodes

pub is_of_run : (arena : Arena) (run : Run) → arena.run.value ≡ run → All (IsOfRun arena.run.value) arena.nodes.items → IsOf arena run
is_of_run arena run same nodes = record { made = same; nodes = subst (λ (r : Run). All (IsOfRun r) arena.nodes.items) same nodes }
