-- What comes of Start and of Finish.
use Rattle.std.specs.Prelude.{◌≡◌, ◌<◌, IfSome, IsTrue, ℕ, false, true, None, Option, Some, slice_get}
use Rattle.sn_record.specs.Record.{Entries}
use Rattle.sn_boxrun.specs.declared.job.Job.{Job}
use Rattle.sn_view.specs.Calls.{Flies, FliesAt}
use Rattle.sn_view.specs.Next.{HasCall, IsEnabled, after, enabled, form_of, is_box_of, node_at}
use Rattle.sn_view.specs.View.{Finish, Happening, InFlight, Node, Start, View}

-- the call of the job is in flight at the node
pub record StartsCall (i : ℕ) (job : Job) (old new : View) : Type 0 where
  pub enabled_there : enabled old (Start i) ≡ true
  pub is_after : new ≡ after old (Start i)
  pub call : job.call ≡ old.calls
  pub flies : IfSome (node_at i new) (HasCall new job.call job.number job.place job.given)

pub record StartsNone (i : ℕ) (old new : View) : Type 0 where
  pub not_enabled : enabled old (Start i) ≡ false
  pub same : new ≡ old

abbrev pub Starts : ℕ → Option Job → View → View → Type 0
Starts i None old new = StartsNone i old new
Starts i (Some job) old new = StartsCall i job old new

-- the event that gives the answer of a job
abbrev pub finish_of : Job → Happening
finish_of job = Finish job.call job.number job.place job.given

-- the call of the job is in flight at a place of a node, which is its box
pub record IsCallAt (i p : ℕ) (job : Job) (g : View) : Type 0 where
  pub node : Node
  pub there : slice_get g.nodes i ≡ Some node
  pub flies : slice_get node.waiting p ≡ Some (InFlight job.call job.given)
  pub at_box : IsTrue (is_box_of job.number job.place (form_of g node))

-- the call of the job is finished
pub record Finishes (job : Job) (old new : View) : Type 0 where
  pub wanted : IsEnabled old (finish_of job)
  pub is_after : new ≡ after old (finish_of job)

-- the answer to the job is not wanted
pub record Refuses (job : Job) (old new : View) : Type 0 where
  pub unwanted : IsEnabled old (finish_of job) → ⊥
  pub same : new ≡ old

-- each call that was begun has a number that was given out
abbrev pub AreBelow : View → Type 0
AreBelow g = (i call : ℕ) (given : Entries) → Flies g i call given → call < g.calls

-- no call is in flight twice
abbrev pub StandOnce : View → Type 0
StandOnce g = (i p j q call : ℕ) (given other : Entries) → FliesAt g i p call given → FliesAt g j q call other → (i ≡ j) × (p ≡ q)
