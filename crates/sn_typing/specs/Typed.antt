-- Records by their labels, and which are typed for a network.
use Rattle.std.specs.Prelude.{List}
use Rattle.std.specs.List.{Contains}
use Rattle.std.specs.FinMap as map
use Rattle.sn_record.specs.LabelSet.{Labels}
use Rattle.sn_record.specs.Record.{Entries, Matches}
use Rattle.sn_net.specs.declared.expr.BoxProgram.{BoxProgram}
use Rattle.sn_net.specs.declared.net.Net.{Net}
use Rattle.sn_net.specs.Face.{variant_of}
use Rattle.sn_net.specs.Item.{ModelItem, Rec, Fault, Stuck}
use Rattle.sn_typing.specs.Outline.{outline}
use Rattle.sn_typing.specs.Flow.{Safe}

-- the labels of a record
abbrev pub labels_of : Entries → Labels
labels_of r = variant_of (map.keys r)

-- a fault, or a record all of whose ways through the network have a route
abbrev pub IsTyped : List BoxProgram → Net → ModelItem → Type 0
IsTyped boxes net (Rec r) = Safe (outline boxes net) (labels_of r)
IsTyped boxes net (Fault fault) = Unit {0}
IsTyped boxes net (Stuck place) = ⊥

-- the record matches a variant that is among some
pub record MatchesOne (among : Labels → Type 0) (r : Entries) : Type 0 where
  pub variant : Labels
  pub listed : among variant
  pub matched : Matches r variant

-- a fault, or a record that matches one of the variants
abbrev pub IsOf : (Labels → Type 0) → ModelItem → Type 0
IsOf among (Rec r) = MatchesOne among r
IsOf among (Fault fault) = Unit {0}
IsOf among (Stuck place) = ⊥

-- a fault, or a record that matches a variant of the list
abbrev pub IsItemOfType : List Labels → ModelItem → Type 0
IsItemOfType variants = IsOf (Contains variants)
