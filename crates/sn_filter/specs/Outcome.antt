-- What comes of templates: what is wanted, unless memory is.
use Rattle.std.specs.Prelude.{◌≡◌, ◌++◌, ℕ, Bool, List, Result, Ok, Err, is_ok}
use Rattle.std.specs.List.{list_all}
use Rattle.sn_record.specs.Record.{Entries}
use Rattle.sn_tagexpr.specs.declared.fault.ExprFault.{ExprFault}
use Rattle.sn_net.specs.Item.{ModelItem}
use Rattle.sn_net.specs.Answer.{up_to_fault}
use Rattle.sn_filter.specs.declared.outcome.Stop.{Stop}
use Rattle.sn_filter.specs.declared.outcome.Stop.TheVariants as stop

-- the record of a template, or its first fault
abbrev pub Outcome : Type 0
Outcome = Result Entries ExprFault

-- the value that is wanted, or its fault; want of memory says nothing
abbrev pub Gives : {X : Type 0} → Result X ExprFault → Result X Stop → Type 0
Gives wanted (Ok x) = wanted ≡ Ok x
Gives wanted (Err (stop.Faulted fault)) = wanted ≡ Err fault
Gives wanted (Err stop.Memory) = Unit {0}

-- behind the items before stand those of the templates with the outcomes, up to the first fault; whole is whether there was none
pub record Adds (place : ℕ) (outcomes : List Outcome) (before after : List ModelItem) (whole : Bool) : Type 0 where
  pub items : after ≡ before ++ up_to_fault place outcomes
  pub all : whole ≡ list_all is_ok outcomes
