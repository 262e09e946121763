-- What the open forms of a network still need: which tokens complete it, up to the semicolon that ends it.
use Rattle.std.specs.Prelude.{ℕ, pos, true, false, List, [], ◌∷◌, ◌≡◌, ◌↔◌, Result, Ok, Err}
use Rattle.sn_ast.specs.Kept.{Kept, kept}
use Rattle.sn_ast.specs.Labels.{IsVariant}
use Rattle.sn_ast.specs.Networks.{Atom, Filter, MorePatterns, MoreBranches, MoreSerial, Posts, sync_at, with_guarded_star, with_place, with_split, with_star}
use Rattle.sn_ast.specs.Rows.{append}
use Rattle.sn_ast.specs.TagExprs.{TagExpr}
use Rattle.sn_ast.specs.declared.label.Ident.{Ident}
use Rattle.sn_ast.specs.declared.label.LabelAt.{LabelAt}
use Rattle.sn_ast.specs.declared.label.Variant.{Variant}
use Rattle.sn_ast.specs.declared.network.NetExpr.{NetExpr}
use Rattle.sn_ast.specs.declared.tag_expr.TExpr.{TExpr}
use Rattle.sn_ast.specs.declared.terminal.Keyword.TheVariants.{If}
use Rattle.sn_ast.specs.declared.terminal.Symbol.{Symbol as SomeSymbol}
use Rattle.sn_ast.specs.declared.terminal.Symbol.TheVariants.{OpenParen, CloseParen, CloseBracket, Semicolon, At}
use Rattle.sn_ast.specs.declared.terminal.Terminal.{Terminal}
use Rattle.sn_ast.specs.declared.terminal.Terminal.TheVariants.{Tag, Number, Keyword, Symbol}
use Rattle.sn_expr_parser.specs.TagResidual.{Completes as GuardCompletes, read as read_guard}
use Rattle.sn_expr_parser.specs.declared.tags.TagParser.{TagParser}
use Rattle.sn_filter_parser.specs.FilterResidual.{Completes as FilterCompletes}
use Rattle.sn_filter_parser.specs.declared.filter.FilterParser.{FilterParser}
use Rattle.sn_net_parser.specs.Levels.{identity_node}
use Rattle.sn_net_parser.specs.declared.level.Level.{Level}
use Rattle.sn_net_parser.specs.declared.machine.Around.{Around}
use Rattle.sn_net_parser.specs.declared.machine.Mode.{Mode}
use Rattle.sn_net_parser.specs.declared.machine.Mode.TheVariants as mode
use Rattle.sn_net_parser.specs.declared.machine.NetParser.{NetParser}
use Rattle.sn_net_parser.specs.declared.machine.NetStop.{NetStop}
use Rattle.sn_net_parser.specs.declared.machine.NetStop.TheVariants.{Memory, Refused, Ended}
use Rattle.sn_net_parser.specs.declared.node.Placing.{Placing}
use Rattle.sn_net_parser.specs.declared.node.Repeated.{Repeated}
use Rattle.sn_type_parser.specs.LabelResidual.{Completes as LabelsComplete}
use Rattle.sn_type_parser.specs.Reads.{read as read_part}
use Rattle.sn_type_parser.specs.declared.labels.LabelParser.{LabelParser}

-- a network at the front, and what follows it
pub record Read : Type 0 where
  pub network : Kept NetExpr
  pub rest : List Terminal

abbrev pub read : Kept NetExpr → List Terminal → Read
read n us = record { network = n; rest = us }

-- a network is followed by a semicolon
pub data Ends : List Terminal → Type 0 where
  semicolon : {at : ℕ} {us : List Terminal} → Ends (Symbol Semicolon at ∷ us)

abbrev pub variant_at : ℕ → List LabelAt → Variant
variant_at at labels = record { labels = labels; at = at }

mutual
  -- The tokens complete the whole network, after the network n stands in the innermost of the open levels.
  pub data Up : List Level → Kept NetExpr → List Terminal → Read → Type 0 where
    whole : {at : ℕ} {n : Kept NetExpr} {us : List Terminal} →
        Up [] n (Symbol Semicolon at ∷ us) (record { network = n; rest = Symbol Semicolon at ∷ us })
    closed : {at : ℕ} {ls : List Level} {l : Level} {n : Kept NetExpr} {t : Read} {us : List Terminal} →
        Down ls l (kept.parens n) us t → Up (l ∷ ls) n (Symbol CloseParen at ∷ us) t

  -- the same after the part p in the level l
  pub data Down : List Level → Level → Kept NetExpr → List Terminal → Read → Type 0 where
    down : {ls : List Level} {l : Level} {p q s n : Kept NetExpr} {t : Read} {us vs ws xs : List Terminal} →
        Posts kept p us q vs → MoreSerial kept l.chain q vs s ws → MoreBranches kept l.choice s ws n xs → Up ls n xs t →
        Down ls l p us t

-- where an atom comes next
pub data Next : List Level → Level → List Terminal → Read → Type 0 where
  next : {ls : List Level} {l : Level} {p : Kept NetExpr} {t : Read} {ts us : List Terminal} →
      Atom kept ts p us → Down ls l p us t → Next ls l ts t

-- after `[`
pub data AfterBracket : List Level → Level → ℕ → List Terminal → Read → Type 0 where
  closed_bracket : {at close : ℕ} {ls : List Level} {l : Level} {t : Read} {us : List Terminal} →
      Down ls l (identity_node at) us t → AfterBracket ls l at (Symbol CloseBracket close ∷ us) t
  some_filter : {at : ℕ} {ls : List Level} {l : Level} {n : Kept NetExpr} {t : Read} {ts us : List Terminal} →
      Filter kept at ts n us → Down ls l n us t → AfterBracket ls l at ts t

-- in a filter: the parser of filters reads one
pub data InFilter : List Level → Level → FilterParser → List Terminal → Read → Type 0 where
  in_filter : {ls : List Level} {l : Level} {s : FilterParser} {t : Read} {ts : List Terminal} (n : Kept NetExpr) (us : List Terminal) →
      FilterCompletes s ts (read_part n us) → Down ls l n us t → InFilter ls l s ts t

-- after a pattern of a synchrocell
pub data AfterPattern : List Level → Level → ℕ → List Variant → List Terminal → Read → Type 0 where
  after_pattern : {ls : List Level} {l : Level} {at : ℕ} {so_far all : List Variant} {t : Read} {us vs : List Terminal} →
      MorePatterns so_far us all vs → Down ls l (kept.leaf (sync_at at all)) vs t → AfterPattern ls l at so_far us t

-- where a pattern comes next
pub data NextPattern : List Level → Level → ℕ → List Variant → List Terminal → Read → Type 0 where
  next_pattern : {ls : List Level} {l : Level} {at : ℕ} {so_far : List Variant} {v : Variant} {t : Read} {ts us : List Terminal} →
      IsVariant ts v us → AfterPattern ls l at (append so_far v) us t → NextPattern ls l at so_far ts t

-- in a pattern: the parser of labels reads those of one
pub data InPattern : List Level → Level → ℕ → List Variant → ℕ → LabelParser → List Terminal → Read → Type 0 where
  in_pattern : {ls : List Level} {l : Level} {at opening : ℕ} {so_far : List Variant} {s : LabelParser} {t : Read} {ts : List Terminal}
      (labels : List LabelAt) (us : List Terminal) → LabelsComplete s ts (read_part labels us) →
      AfterPattern ls l at (append so_far (variant_at opening labels)) us t → InPattern ls l at so_far opening s ts t

-- where the guard of a star comes next
pub data NextGuard : List Level → Level → Repeated → Variant → List Terminal → Read → Type 0 where
  next_guard : {at close : ℕ} {ls : List Level} {l : Level} {star : Repeated} {v : Variant} {g : Kept TExpr} {t : Read} {ts us : List Terminal} →
      TagExpr kept ts g (Symbol CloseParen close ∷ us) → Down ls l (with_guarded_star kept star.det star.at star.body v g) us t →
      NextGuard ls l star v (Symbol OpenParen at ∷ ts) t

-- in a guard: the parser of tag expressions reads one that a closing parenthesis follows
pub data InGuard : List Level → Level → Repeated → Variant → TagParser → List Terminal → Read → Type 0 where
  in_guard : {ls : List Level} {l : Level} {star : Repeated} {v : Variant} {s : TagParser} {t : Read} {ts : List Terminal}
      (close : ℕ) (g : Kept TExpr) (us : List Terminal) → GuardCompletes s ts (read_guard g (Symbol CloseParen close ∷ us)) →
      Down ls l (with_guarded_star kept star.det star.at star.body v g) us t → InGuard ls l star v s ts t

-- after the exit of a star: its guard, or what follows the star
pub data AfterExit : List Level → Level → Repeated → Variant → List Terminal → Read → Type 0 where
  unguarded : {ls : List Level} {l : Level} {star : Repeated} {v : Variant} {t : Read} {us : List Terminal} →
      Down ls l (with_star kept star.det star.at star.body v) us t → AfterExit ls l star v us t
  guarded : {at : ℕ} {ls : List Level} {l : Level} {star : Repeated} {v : Variant} {t : Read} {us : List Terminal} →
      NextGuard ls l star v us t → AfterExit ls l star v (Keyword If at ∷ us) t

-- where the exit of a star comes next
pub data NextExit : List Level → Level → Repeated → List Terminal → Read → Type 0 where
  next_exit : {ls : List Level} {l : Level} {star : Repeated} {v : Variant} {t : Read} {ts us : List Terminal} →
      IsVariant ts v us → AfterExit ls l star v us t → NextExit ls l star ts t

-- in an exit: the parser of labels reads those of one
pub data InExit : List Level → Level → Repeated → ℕ → LabelParser → List Terminal → Read → Type 0 where
  in_exit : {ls : List Level} {l : Level} {star : Repeated} {opening : ℕ} {s : LabelParser} {t : Read} {ts : List Terminal}
      (labels : List LabelAt) (us : List Terminal) → LabelsComplete s ts (read_part labels us) →
      AfterExit ls l star (variant_at opening labels) us t → InExit ls l star opening s ts t

-- where the tag of a split that is spread comes next
pub data NextSpreadTag : List Level → Level → Repeated → List Terminal → Read → Type 0 where
  next_spread_tag : {ls : List Level} {l : Level} {split : Repeated} {tag : Ident} {t : Read} {us : List Terminal} →
      Down ls l (with_split kept split.det true split.at split.body tag) us t → NextSpreadTag ls l split (Tag tag ∷ us) t

-- where the tag of a split comes next, or the mark that it is spread
pub data NextTag : List Level → Level → Repeated → List Terminal → Read → Type 0 where
  next_tag : {ls : List Level} {l : Level} {split : Repeated} {tag : Ident} {t : Read} {us : List Terminal} →
      Down ls l (with_split kept split.det false split.at split.body tag) us t → NextTag ls l split (Tag tag ∷ us) t
  next_mark : {at : ℕ} {ls : List Level} {l : Level} {split : Repeated} {t : Read} {us : List Terminal} →
      NextSpreadTag ls l split us t → NextTag ls l split (Symbol At at ∷ us) t

-- where the number of a placed part's node comes next
pub data NextNode : List Level → Level → Placing → List Terminal → Read → Type 0 where
  next_node : {at node : ℕ} {ls : List Level} {l : Level} {placing : Placing} {t : Read} {us : List Terminal} →
      Down ls l (with_place kept placing.at placing.body node) us t → NextNode ls l placing (Number (pos node) at ∷ us) t

abbrev pub CompletesIn : Around → Mode → List Terminal → Read → Type 0
CompletesIn a mode.Want w t = Next a.outer a.level w t
CompletesIn a (mode.Have p) w t = Down a.outer a.level p w t
CompletesIn a (mode.Bracket at) w t = AfterBracket a.outer a.level at w t
CompletesIn a (mode.InFilter filter) w t = InFilter a.outer a.level filter w t
CompletesIn a (mode.Pattern cell) w t = NextPattern a.outer a.level cell.at cell.patterns w t
CompletesIn a (mode.InPattern cell opening labels) w t = InPattern a.outer a.level cell.at cell.patterns opening labels w t
CompletesIn a (mode.AfterPattern cell) w t = AfterPattern a.outer a.level cell.at cell.patterns w t
CompletesIn a (mode.Exit star) w t = NextExit a.outer a.level star w t
CompletesIn a (mode.InExit star opening labels) w t = InExit a.outer a.level star opening labels w t
CompletesIn a (mode.AfterExit star exit) w t = AfterExit a.outer a.level star exit w t
CompletesIn a (mode.Guard star exit) w t = NextGuard a.outer a.level star exit w t
CompletesIn a (mode.InGuard star exit guard) w t = InGuard a.outer a.level star exit guard w t
CompletesIn a (mode.Index split) w t = NextTag a.outer a.level split w t
CompletesIn a (mode.SpreadIndex split) w t = NextSpreadTag a.outer a.level split w t
CompletesIn a (mode.Node placing) w t = NextNode a.outer a.level placing w t

abbrev pub Completes : NetParser → List Terminal → Read → Type 0
Completes s w t = CompletesIn s.around s.mode w t

-- Where a step took the token x: what completed the state before it begins with x, and goes on as what completes the
-- state after it. Where it refused x: nothing that begins with x completed it. Where the network had ended before x: it
-- is what the state completes to, and x is the semicolon.
abbrev pub StepsIn : Around → Mode → Terminal → Result NetParser NetStop → Type 0
StepsIn a m x (Ok s) = (w : List Terminal) (t : Read) → CompletesIn a m (x ∷ w) t ↔ Completes s w t
StepsIn a m x (Err Memory) = Unit {0}
StepsIn a m x (Err Refused) = (w : List Terminal) (t : Read) → CompletesIn a m (x ∷ w) t → ⊥
StepsIn a m x (Err (Ended n at)) = (x ≡ Symbol Semicolon at) × ((w : List Terminal) (t : Read) → CompletesIn a m (x ∷ w) t ↔ (read n (x ∷ w) ≡ t))

abbrev pub Steps : NetParser → Terminal → Result NetParser NetStop → Type 0
Steps s x r = StepsIn s.around s.mode x r

-- the same after a guard, where the symbol s is to close it
abbrev pub GuardSteps : Around → Repeated → Variant → Kept TExpr → SomeSymbol → Result NetParser NetStop → Type 0
GuardSteps a star v g s (Ok state) = (s ≡ CloseParen) × ((w : List Terminal) (t : Read) → Down a.outer a.level (with_guarded_star kept star.det star.at star.body v g) w t ↔ Completes state w t)
GuardSteps a star v g s (Err Memory) = Unit {0}
GuardSteps a star v g s (Err Refused) = s ≡ CloseParen → ⊥
GuardSteps a star v g s (Err (Ended n at)) = ⊥
