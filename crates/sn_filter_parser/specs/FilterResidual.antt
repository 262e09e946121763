-- What a filter still needs, after what was read of it.
use Rattle.std.specs.Prelude.{ℕ, List, ◌∷◌, ◌≡◌, ◌↔◌, Result, Ok, Err}
use Rattle.sn_ast.specs.Kept.{Kept, kept}
use Rattle.sn_ast.specs.Networks.{ArmTemplates, Arms, Filter, LastTemplates, MoreArms, MoreTemplates, Template as IsTemplate, arm_of, filter_at}
use Rattle.sn_ast.specs.Rows.{no_parts, with_part}
use Rattle.sn_ast.specs.TagExprs.{TagExpr}
use Rattle.sn_ast.specs.declared.label.LabelAt.{LabelAt}
use Rattle.sn_ast.specs.declared.label.Variant.{Variant}
use Rattle.sn_ast.specs.declared.network.ArmAt.{ArmAt}
use Rattle.sn_ast.specs.declared.network.ItemAt.{ItemAt}
use Rattle.sn_ast.specs.declared.network.NetExpr.{NetExpr}
use Rattle.sn_ast.specs.declared.network.TemplateAt.{TemplateAt}
use Rattle.sn_ast.specs.declared.tag_expr.TExpr.{TExpr}
use Rattle.sn_ast.specs.declared.terminal.Symbol.{Symbol as SomeSymbol}
use Rattle.sn_ast.specs.declared.terminal.Symbol.TheVariants.{Arrow as ArrowSign, CloseParen, OpenParen, Semicolon}
use Rattle.sn_ast.specs.declared.terminal.Terminal.{Terminal}
use Rattle.sn_ast.specs.declared.terminal.Terminal.TheVariants.{Symbol}
use Rattle.sn_expr_parser.specs.TagResidual.{Completes as CompletesGuard, read as read_guard}
use Rattle.sn_expr_parser.specs.declared.tags.TagParser.{TagParser}
use Rattle.sn_filter_parser.specs.ItemResidual.{Completes as CompletesItems}
use Rattle.sn_filter_parser.specs.declared.filter.Begun.{Begun}
use Rattle.sn_filter_parser.specs.declared.filter.FilterParser.{FilterParser}
use Rattle.sn_filter_parser.specs.declared.filter.FilterStep.{FilterStep}
use Rattle.sn_filter_parser.specs.declared.filter.FilterStep.TheVariants.{More, Done}
use Rattle.sn_filter_parser.specs.declared.filter.FilterStop.{FilterStop}
use Rattle.sn_filter_parser.specs.declared.filter.FilterStop.TheVariants.{Memory, Refused}
use Rattle.sn_filter_parser.specs.declared.filter.Listed.{Listed}
use Rattle.sn_filter_parser.specs.declared.filter.Listed.TheVariants.{OfArm, Last}
use Rattle.sn_filter_parser.specs.declared.filter.Mode.{Mode}
use Rattle.sn_filter_parser.specs.declared.filter.Mode.TheVariants.{Open, Pattern, First, Guard, InGuard, Arrow, Template, Items, After}
use Rattle.sn_filter_parser.specs.declared.items.ItemParser.{ItemParser}
use Rattle.sn_type_parser.specs.LabelResidual.{Completes as CompletesLabels}
use Rattle.sn_type_parser.specs.Reads.{Read, read}
use Rattle.sn_type_parser.specs.declared.labels.LabelParser.{LabelParser}

abbrev pub Row : Type 0
Row = Kept (List TemplateAt)

-- the template of the items, whose opening brace is at the place
abbrev pub template_at : ℕ → List ItemAt → TemplateAt
template_at at items = record { items = items; at = at }

abbrev pub with_template : Row → ℕ → Kept (List ItemAt) → Row
with_template so_far at items = with_part kept so_far (kept.each (template_at at) items)

-- the filter that was begun, with one arm more
abbrev pub with_arm : Begun → Kept TExpr → Row → Begun
with_arm b guard all = record { pattern = b.pattern; arms = with_part kept b.arms (kept.join arm_of guard all) }

-- a filter of which the pattern alone was read
abbrev pub begun_with : Variant → Begun
begun_with pattern = record { pattern = pattern; arms = no_parts kept }

-- further arms, if there are any, and then the last list
pub data AfterArm (at : ℕ) : Begun → List Terminal → Read (Kept NetExpr) → Type 0 where
  after_arm : {b : Begun} {all : Kept (List ArmAt)} {n : Kept NetExpr} {us vs ws : List Terminal} →
      MoreArms kept b.arms us all vs → LastTemplates kept at b.pattern all vs n ws → AfterArm at b us (read n ws)

-- after a template: the templates so far are all, or further ones come. What follows the last list is the bracket, and what follows
-- another an arm or the last list
pub data AfterTemplate (at : ℕ) : Begun → Listed → Row → List Terminal → Read (Kept NetExpr) → Type 0 where
  after_last : {b : Begun} {so_far all : Row} {us vs : List Terminal} →
      MoreTemplates kept so_far us all vs → AfterTemplate at b Last so_far us (read (kept.join (filter_at at b.pattern) b.arms all) vs)
  after_one : {b : Begun} {g : Kept TExpr} {so_far all : Row} {us vs : List Terminal} {t : Read (Kept NetExpr)} →
      ArmTemplates kept so_far us all vs → AfterArm at (with_arm b g all) vs t → AfterTemplate at b (OfArm g) so_far us t

-- a template comes next
pub data NextTemplate (at : ℕ) : Begun → Listed → Row → List Terminal → Read (Kept NetExpr) → Type 0 where
  next_template : {b : Begun} {l : Listed} {e : Kept TemplateAt} {so_far : Row} {ts us : List Terminal} {t : Read (Kept NetExpr)} →
      IsTemplate kept ts e us → AfterTemplate at b l (with_part kept so_far e) us t → NextTemplate at b l so_far ts t

-- the items of a template are being read
pub data InItems (at : ℕ) : Begun → Listed → Row → ℕ → ItemParser → List Terminal → Read (Kept NetExpr) → Type 0 where
  in_items : {b : Begun} {l : Listed} {so_far : Row} {opening : ℕ} {s : ItemParser} {ts : List Terminal} {t : Read (Kept NetExpr)}
      (items : Kept (List ItemAt)) (us : List Terminal) → CompletesItems s ts (read items us) →
      AfterTemplate at b l (with_template so_far opening items) us t → InItems at b l so_far opening s ts t

-- the arrow comes next, and then the first template of a list
pub data NextArrow (at : ℕ) : Begun → Listed → List Terminal → Read (Kept NetExpr) → Type 0 where
  next_arrow : {arrow : ℕ} {b : Begun} {l : Listed} {us : List Terminal} {t : Read (Kept NetExpr)} →
      NextTemplate at b l (no_parts kept) us t → NextArrow at b l (Symbol ArrowSign arrow ∷ us) t

-- a guard is being read: the parser of tag expressions reads one that a closing parenthesis follows
pub data InsideGuard (at : ℕ) : Begun → TagParser → List Terminal → Read (Kept NetExpr) → Type 0 where
  inside_guard : {b : Begun} {s : TagParser} {ts : List Terminal} {t : Read (Kept NetExpr)} (close : ℕ) (g : Kept TExpr) (us : List Terminal) →
      CompletesGuard s ts (read_guard g (Symbol CloseParen close ∷ us)) → NextArrow at b (OfArm g) us t → InsideGuard at b s ts t

-- a guard comes next
pub data NextGuard (at : ℕ) : Begun → List Terminal → Read (Kept NetExpr) → Type 0 where
  next_guard : {opening close : ℕ} {b : Begun} {g : Kept TExpr} {ts us : List Terminal} {t : Read (Kept NetExpr)} →
      TagExpr kept ts g (Symbol CloseParen close ∷ us) → NextArrow at b (OfArm g) us t → NextGuard at b (Symbol OpenParen opening ∷ ts) t

-- the pattern was read: the arrow of the one list comes, or the first arm
pub data AfterPattern (at : ℕ) (pattern : Variant) : List Terminal → Read (Kept NetExpr) → Type 0 where
  after_pattern : {all : Kept (List ArmAt)} {n : Kept NetExpr} {us vs ws : List Terminal} →
      Arms kept us all vs → LastTemplates kept at pattern all vs n ws → AfterPattern at pattern us (read n ws)

-- the labels of the pattern are being read
pub data InPattern (at : ℕ) : ℕ → LabelParser → List Terminal → Read (Kept NetExpr) → Type 0 where
  in_pattern : {opening : ℕ} {s : LabelParser} {ts : List Terminal} {t : Read (Kept NetExpr)} (labels : List LabelAt) (us : List Terminal) →
      CompletesLabels s ts (read labels us) → AfterPattern at (record { labels = labels; at = opening }) us t → InPattern at opening s ts t

-- the tokens complete t, where this comes next in the filter at the place
abbrev pub CompletesIn : ℕ → Mode → List Terminal → Read (Kept NetExpr) → Type 0
CompletesIn at Open w t = Filter kept at w t.part t.rest
CompletesIn at (Pattern opening s) w t = InPattern at opening s w t
CompletesIn at (First pattern) w t = AfterPattern at pattern w t
CompletesIn at (Guard b) w t = NextGuard at b w t
CompletesIn at (InGuard b s) w t = InsideGuard at b s w t
CompletesIn at (Arrow b l) w t = NextArrow at b l w t
CompletesIn at (Template b so_far) w t = NextTemplate at b so_far.of so_far.so_far w t
CompletesIn at (Items b so_far opening s) w t = InItems at b so_far.of so_far.so_far opening s w t
CompletesIn at (After b so_far) w t = AfterTemplate at b so_far.of so_far.so_far w t

abbrev pub Completes : FilterParser → List Terminal → Read (Kept NetExpr) → Type 0
Completes s w t = CompletesIn s.at s.mode w t

-- Where a step took the token x: what completed the state before it begins with x, and goes on as what completes the
-- state after it, or is over with x. Where it refused x: nothing that begins with x completed it.
abbrev pub StepsFrom : (List Terminal → Read (Kept NetExpr) → Type 0) → Terminal → Result FilterStep FilterStop → Type 0
StepsFrom before x (Ok (More next)) = (w : List Terminal) (t : Read (Kept NetExpr)) → before (x ∷ w) t ↔ Completes next w t
StepsFrom before x (Ok (Done n)) = (w : List Terminal) (t : Read (Kept NetExpr)) → before (x ∷ w) t ↔ (read n w ≡ t)
StepsFrom before x (Err Memory) = Unit {0}
StepsFrom before x (Err Refused) = (w : List Terminal) (t : Read (Kept NetExpr)) → before (x ∷ w) t → ⊥

abbrev pub StepsIn : ℕ → Mode → Terminal → Result FilterStep FilterStop → Type 0
StepsIn at m x r = StepsFrom (CompletesIn at m) x r

-- the same after a guard, where the symbol s is to close it
abbrev pub GuardCloses : ℕ → Begun → Kept TExpr → SomeSymbol → Result FilterStep FilterStop → Type 0
GuardCloses at b g s (Ok (More next)) = (s ≡ CloseParen) × ((w : List Terminal) (t : Read (Kept NetExpr)) → NextArrow at b (OfArm g) w t ↔ Completes next w t)
GuardCloses at b g s (Ok (Done n)) = ⊥
GuardCloses at b g s (Err Memory) = Unit {0}
GuardCloses at b g s (Err Refused) = s ≡ CloseParen → ⊥

-- the same after a template, where the token is no semicolon
abbrev pub CloseSteps : ℕ → Begun → Row → Terminal → Result FilterStep FilterStop → Type 0
CloseSteps at b all x r = ((semicolon : ℕ) → x ≡ Symbol Semicolon semicolon → ⊥) → StepsFrom (AfterTemplate at b Last all) x r

abbrev pub ArmSteps : ℕ → Begun → Kept TExpr → Row → Terminal → Result FilterStep FilterStop → Type 0
ArmSteps at b g all x r = ((semicolon : ℕ) → x ≡ Symbol Semicolon semicolon → ⊥) → StepsFrom (AfterTemplate at b (OfArm g) all) x r

abbrev pub Steps : FilterParser → Terminal → Result FilterStep FilterStop → Type 0
Steps s x r = StepsIn s.at s.mode x r
