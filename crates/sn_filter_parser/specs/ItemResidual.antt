-- What the items of a template still need, after those so far.
use Rattle.std.specs.Prelude.{ℕ, Bool, true, false, List, ◌∷◌, ◌≡◌, ◌↔◌, Result, Ok, Err}
use Rattle.sn_ast.specs.Kept.{Kept, kept}
use Rattle.sn_ast.specs.Networks.{Item as IsItem, MoreItems, computed_item, renamed_item, same_item}
use Rattle.sn_ast.specs.Rows.{with_part}
use Rattle.sn_ast.specs.TagExprs.{TagExpr}
use Rattle.sn_ast.specs.declared.label.Ident.{Ident}
use Rattle.sn_ast.specs.declared.network.ItemAt.{ItemAt}
use Rattle.sn_ast.specs.declared.tag_expr.TExpr.{TExpr}
use Rattle.sn_ast.specs.declared.terminal.Symbol.TheVariants.{Assign, CloseBrace}
use Rattle.sn_ast.specs.declared.terminal.Terminal.{Terminal}
use Rattle.sn_ast.specs.declared.terminal.Terminal.TheVariants.{Name, Symbol}
use Rattle.sn_expr_parser.specs.TagResidual.{Completes as CompletesTag, read as read_tag}
use Rattle.sn_expr_parser.specs.declared.tags.TagParser.{TagParser}
use Rattle.sn_filter_parser.specs.declared.items.ItemParser.{ItemParser}
use Rattle.sn_filter_parser.specs.declared.items.ItemStep.{ItemStep}
use Rattle.sn_filter_parser.specs.declared.items.ItemStep.TheVariants.{More, Done}
use Rattle.sn_filter_parser.specs.declared.items.ItemStop.{ItemStop}
use Rattle.sn_filter_parser.specs.declared.items.ItemStop.TheVariants.{Memory, Refused}
use Rattle.sn_filter_parser.specs.declared.items.Mode.{Mode}
use Rattle.sn_filter_parser.specs.declared.items.Mode.TheVariants.{First, Item, Named, Tagged, Renamed, Computed, After}
use Rattle.sn_type_parser.specs.Reads.{Read, read}

abbrev pub Row : Type 0
Row = Kept (List ItemAt)

-- a label with the value that it had, at the end of the items
abbrev pub with_same : Bool → Row → Ident → Row
with_same tag so_far name = with_part kept so_far (kept.leaf (same_item (record { tag = tag; name = name })))

abbrev pub with_renamed : Row → Ident → Ident → Row
with_renamed so_far new old = with_part kept so_far (kept.leaf (renamed_item new old))

abbrev pub with_computed : Row → Ident → Kept TExpr → Row
with_computed so_far tag e = with_part kept so_far (kept.each (computed_item tag) e)

-- an item, and then what may follow it
pub data NextItem : Row → List Terminal → Read Row → Type 0 where
  next_item : {i : Kept ItemAt} {so_far all : Row} {ts us vs : List Terminal} →
      IsItem kept ts i us → MoreItems kept (with_part kept so_far i) us all vs → NextItem so_far ts (read all vs)

-- the same, or the closing brace at once
pub data FirstItem : Row → List Terminal → Read Row → Type 0 where
  no_item : {at : ℕ} {so_far : Row} {us : List Terminal} → FirstItem so_far (Symbol CloseBrace at ∷ us) (read so_far us)
  some_item : {so_far : Row} {ts : List Terminal} {t : Read Row} → NextItem so_far ts t → FirstItem so_far ts t

-- after `name =`, the name that it is set from
pub data AfterNew : Row → Ident → List Terminal → Read Row → Type 0 where
  old_name : {new old : Ident} {so_far all : Row} {us vs : List Terminal} →
      MoreItems kept (with_renamed so_far new old) us all vs → AfterNew so_far new (Name old ∷ us) (read all vs)

-- after a name that begins an item
pub data AfterName : Row → Ident → List Terminal → Read Row → Type 0 where
  name_alone : {name : Ident} {so_far all : Row} {us vs : List Terminal} →
      MoreItems kept (with_same false so_far name) us all vs → AfterName so_far name us (read all vs)
  name_assigned : {at : ℕ} {name : Ident} {so_far : Row} {us : List Terminal} {t : Read Row} →
      AfterNew so_far name us t → AfterName so_far name (Symbol Assign at ∷ us) t

-- after a tag that begins an item
pub data AfterTag : Row → Ident → List Terminal → Read Row → Type 0 where
  tag_alone : {tag : Ident} {so_far all : Row} {us vs : List Terminal} →
      MoreItems kept (with_same true so_far tag) us all vs → AfterTag so_far tag us (read all vs)
  tag_assigned : {at : ℕ} {tag : Ident} {e : Kept TExpr} {so_far all : Row} {ts us vs : List Terminal} →
      TagExpr kept ts e us → MoreItems kept (with_computed so_far tag e) us all vs → AfterTag so_far tag (Symbol Assign at ∷ ts) (read all vs)

-- the expression of a tag is being read
pub data InExpr : Row → Ident → TagParser → List Terminal → Read Row → Type 0 where
  in_expr : {tag : Ident} {s : TagParser} {so_far all : Row} {ts vs : List Terminal} (e : Kept TExpr) (us : List Terminal) →
      CompletesTag s ts (read_tag e us) → MoreItems kept (with_computed so_far tag e) us all vs → InExpr so_far tag s ts (read all vs)

-- the tokens complete t, where this comes next
abbrev pub CompletesIn : Row → Mode → List Terminal → Read Row → Type 0
CompletesIn so_far First w t = FirstItem so_far w t
CompletesIn so_far Item w t = NextItem so_far w t
CompletesIn so_far (Named name) w t = AfterName so_far name w t
CompletesIn so_far (Tagged tag) w t = AfterTag so_far tag w t
CompletesIn so_far (Renamed new) w t = AfterNew so_far new w t
CompletesIn so_far (Computed tag s) w t = InExpr so_far tag s w t
CompletesIn so_far After w t = MoreItems kept so_far w t.part t.rest

abbrev pub Completes : ItemParser → List Terminal → Read Row → Type 0
Completes s w t = CompletesIn s.items s.mode w t

-- Where a step took the token x: what completed the state before it begins with x, and goes on as what completes the
-- state after it, or is over with x. Where it refused x: nothing that begins with x completed it.
abbrev pub StepsIn : Row → Mode → Terminal → Result ItemStep ItemStop → Type 0
StepsIn so_far m x (Ok (More next)) = (w : List Terminal) (t : Read Row) → CompletesIn so_far m (x ∷ w) t ↔ Completes next w t
StepsIn so_far m x (Ok (Done all)) = (w : List Terminal) (t : Read Row) → CompletesIn so_far m (x ∷ w) t ↔ (read all w ≡ t)
StepsIn so_far m x (Err Memory) = Unit {0}
StepsIn so_far m x (Err Refused) = (w : List Terminal) (t : Read Row) → CompletesIn so_far m (x ∷ w) t → ⊥

abbrev pub Steps : ItemParser → Terminal → Result ItemStep ItemStop → Type 0
Steps s x r = StepsIn s.items s.mode x r
