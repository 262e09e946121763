-- What a parser that embeds the parser of networks needs to know of its states.
use Rattle.std.proofs.Common.{ℕ, List, [], ◌∷◌, pos, true, false, refl}
use Rattle.sn_ast.specs.Kept.{Kept, kept}
use Rattle.sn_ast.specs.Labels.{IsVariant, variant, no_labels}
use Rattle.sn_ast.specs.Networks.{bare, filter, final, last, last_pattern, name, sync_at, with_guarded_star, with_place, with_split, with_star}
use Rattle.sn_ast.specs.Rows.{append}
use Rattle.sn_ast.specs.TagExprs.{TagExpr, plain, disjunction, no_or, conjunction, no_and, no_compare, sum, no_sum, product, no_product, tag}
use Rattle.sn_ast.specs.declared.tag_expr.TForm.TheVariants as tag_form
use Rattle.sn_ast.specs.declared.label.Variant.{Variant}
use Rattle.sn_ast.specs.declared.network.NetExpr.{NetExpr}
use Rattle.sn_ast.specs.declared.terminal.Symbol.TheVariants.{CloseBrace, CloseBracket, CloseParen, CloseSync, OpenBrace, OpenParen, Semicolon}
use Rattle.sn_ast.specs.declared.terminal.Terminal.{Terminal}
use Rattle.sn_ast.specs.declared.terminal.Terminal.TheVariants.{Name, Tag, Number, Symbol}
use Rattle.sn_expr_parser.proofs.TagLaws.{no_end as no_end_guard, completable as completes_guard}
use Rattle.sn_filter_parser.proofs.FilterLaws.{no_end as no_end_filter, completable as completes_filter}
use Rattle.sn_expr_parser.specs.TagResidual.{read as read_guard}
use Rattle.sn_expr_parser.specs.declared.tags.TagParser.{TagParser}
use Rattle.sn_filter_parser.specs.declared.filter.FilterParser.{FilterParser}
use Rattle.sn_net_parser.specs.Levels.{finished, identity_node, name_node}
use Rattle.sn_net_parser.specs.Residual.{Down, Next, AfterBracket, InFilter, AfterPattern, NextPattern, InPattern, NextGuard, InGuard, AfterExit, NextExit, InExit, NextTag, NextSpreadTag, NextNode, Completes, CompletesIn, Read, read, variant_at, whole, closed, down, next, closed_bracket, some_filter, in_filter, after_pattern, next_pattern, in_pattern, next_guard, in_guard, unguarded, next_exit, in_exit, next_tag, next_spread_tag, next_node}
use Rattle.sn_net_parser.specs.declared.level.Level.{Level}
use Rattle.sn_net_parser.specs.declared.machine.Around.{Around}
use Rattle.sn_net_parser.specs.declared.machine.Mode.{Mode}
use Rattle.sn_net_parser.specs.declared.machine.Mode.TheVariants as mode
use Rattle.sn_net_parser.specs.declared.machine.NetParser.{NetParser}
use Rattle.sn_net_parser.specs.declared.node.Placing.{Placing}
use Rattle.sn_net_parser.specs.declared.node.Repeated.{Repeated}
use Rattle.sn_type_parser.proofs.LabelLaws.{no_end as no_end_labels, completable as completes_labels}
use Rattle.sn_type_parser.proofs.Witnesses.{a_name}
use Rattle.sn_type_parser.specs.Reads.{read as read_part}
use Rattle.sn_type_parser.specs.declared.labels.LabelParser.{LabelParser}

-- No state is complete without a further token.
no_end_down : {ls : List Level} {l : Level} {p : Kept NetExpr} {t : Read} → Down ls l p [] t → ⊥
no_end_down (down bare last final u) = elim u [ ]

no_end_next : {ls : List Level} {l : Level} {t : Read} → Next ls l [] t → ⊥
no_end_next (next a d) = elim a [ ]

no_end_bracket : {ls : List Level} {l : Level} {at : ℕ} {t : Read} → AfterBracket ls l at [] t → ⊥
no_end_bracket (some_filter (filter v e m) d) = elim v [ ]

no_end_in_filter : {ls : List Level} {l : Level} {s : FilterParser} {t : Read} → InFilter ls l s [] t → ⊥
no_end_in_filter {s = s} (in_filter n us c d) = no_end_filter s (read_part n us) c

no_end_pattern : {ls : List Level} {l : Level} {at : ℕ} {so_far : List Variant} {t : Read} → NextPattern ls l at so_far [] t → ⊥
no_end_pattern (next_pattern v a) = elim v [ ]

no_end_after_pattern : {ls : List Level} {l : Level} {at : ℕ} {so_far : List Variant} {t : Read} → AfterPattern ls l at so_far [] t → ⊥
no_end_after_pattern (after_pattern m d) = elim m [ ]

no_end_in_pattern : {ls : List Level} {l : Level} {at opening : ℕ} {so_far : List Variant} {s : LabelParser} {t : Read} →
    InPattern ls l at so_far opening s [] t → ⊥
no_end_in_pattern {s = s} (in_pattern all us c a) = no_end_labels s (read_part all us) c

no_end_exit : {ls : List Level} {l : Level} {r : Repeated} {t : Read} → NextExit ls l r [] t → ⊥
no_end_exit (next_exit v a) = elim v [ ]

no_end_in_exit : {ls : List Level} {l : Level} {r : Repeated} {opening : ℕ} {s : LabelParser} {t : Read} → InExit ls l r opening s [] t → ⊥
no_end_in_exit {s = s} (in_exit all us c a) = no_end_labels s (read_part all us) c

no_end_after_exit : {ls : List Level} {l : Level} {r : Repeated} {v : Variant} {t : Read} → AfterExit ls l r v [] t → ⊥
no_end_after_exit (unguarded d) = no_end_down d

no_end_next_guard : {ls : List Level} {l : Level} {r : Repeated} {v : Variant} {t : Read} → NextGuard ls l r v [] t → ⊥
no_end_next_guard g = elim g [ ]

no_end_in_guard : {ls : List Level} {l : Level} {r : Repeated} {v : Variant} {s : TagParser} {t : Read} → InGuard ls l r v s [] t → ⊥
no_end_in_guard {s = s} (in_guard close g us c d) = no_end_guard s (read_guard g (Symbol CloseParen close ∷ us)) c

no_end_tag : {ls : List Level} {l : Level} {r : Repeated} {t : Read} → NextTag ls l r [] t → ⊥
no_end_tag d = elim d [ ]

no_end_spread_tag : {ls : List Level} {l : Level} {r : Repeated} {t : Read} → NextSpreadTag ls l r [] t → ⊥
no_end_spread_tag d = elim d [ ]

no_end_node : {ls : List Level} {l : Level} {p : Placing} {t : Read} → NextNode ls l p [] t → ⊥
no_end_node d = elim d [ ]

no_end_in : (a : Around) (m : Mode) (t : Read) → CompletesIn a m [] t → ⊥
no_end_in a mode.Want t h = no_end_next h
no_end_in a (mode.Have p) t h = no_end_down h
no_end_in a (mode.Bracket at) t h = no_end_bracket h
no_end_in a (mode.InFilter s) t h = no_end_in_filter h
no_end_in a (mode.Pattern cell) t h = no_end_pattern h
no_end_in a (mode.InPattern cell opening labels) t h = no_end_in_pattern h
no_end_in a (mode.AfterPattern cell) t h = no_end_after_pattern h
no_end_in a (mode.Exit star) t h = no_end_exit h
no_end_in a (mode.InExit star opening labels) t h = no_end_in_exit h
no_end_in a (mode.AfterExit star exit) t h = no_end_after_exit h
no_end_in a (mode.Guard star exit) t h = no_end_next_guard h
no_end_in a (mode.InGuard star exit guard) t h = no_end_in_guard h
no_end_in a (mode.Index split) t h = no_end_tag h
no_end_in a (mode.SpreadIndex split) t h = no_end_spread_tag h
no_end_in a (mode.Node placing) t h = no_end_node h

pub no_end : (s : NetParser) (t : Read) → Completes s [] t → ⊥
no_end s t h = no_end_in s.around s.mode t h

-- Each state can be completed, whatever follows the semicolon: the open levels are closed, and then it stands there.
closers : List Level → ℕ → List Terminal → List Terminal
closers [] at us = Symbol Semicolon at ∷ us
closers (l ∷ ls) at us = Symbol CloseParen 0 ∷ closers ls at us

abbrev end_at : ℕ → List Terminal → Kept NetExpr → Read
end_at at us n = read n (Symbol Semicolon at ∷ us)

abbrev a_guard : List Terminal → List Terminal
a_guard us = Symbol OpenParen 0 ∷ Tag a_name ∷ Symbol CloseParen 0 ∷ us

completes_down : (ls : List Level) (l : Level) (p : Kept NetExpr) (at : ℕ) (us : List Terminal) → (n : Kept NetExpr) × Down ls l p (closers ls at us) (end_at at us n)
unfolding closers
completes_down [] l p at us = (finished l p, down bare last final whole)
completes_down (k ∷ ls) l p at us = let r = completes_down ls k (kept.parens (finished l p)) at us in (r.0, down bare last final (closed r.1))

completes_after_pattern : (ls : List Level) (l : Level) (place : ℕ) (so_far : List Variant) (at : ℕ) (us : List Terminal) →
    (n : Kept NetExpr) × AfterPattern ls l place so_far (Symbol CloseSync 0 ∷ closers ls at us) (end_at at us n)
completes_after_pattern ls l place so_far at us = let r = completes_down ls l (kept.leaf (sync_at place so_far)) at us in (r.0, after_pattern last_pattern r.1)

completes_after_exit : (ls : List Level) (l : Level) (star : Repeated) (v : Variant) (at : ℕ) (us : List Terminal) →
    (n : Kept NetExpr) × AfterExit ls l star v (closers ls at us) (end_at at us n)
completes_after_exit ls l star v at us = let r = completes_down ls l (with_star kept star.det star.at star.body v) at us in (r.0, unguarded r.1)

empty_variant : (us : List Terminal) → IsVariant (Symbol OpenBrace 0 ∷ Symbol CloseBrace 0 ∷ us) (variant_at 0 []) us
empty_variant us = variant (no_labels refl)

a_tag : (us : List Terminal) → TagExpr kept (Tag a_name ∷ us) (kept.leaf (record { at = 0; form = tag_form.Tag a_name })) us
a_tag us = plain (disjunction (conjunction (no_compare (sum (product tag no_product) no_sum)) no_and) no_or)

completes_in : (a : Around) (m : Mode) (at : ℕ) (us : List Terminal) → (w : List Terminal) × (n : Kept NetExpr) × CompletesIn a m w (end_at at us n)
completes_in a mode.Want at us =
    let r = completes_down a.outer a.level (name_node a_name) at us in (Name a_name ∷ closers a.outer at us, r.0, next name r.1)
completes_in a (mode.Have p) at us = let r = completes_down a.outer a.level p at us in (closers a.outer at us, r.0, r.1)
completes_in a (mode.Bracket place) at us =
    let r = completes_down a.outer a.level (identity_node place) at us in (Symbol CloseBracket 0 ∷ closers a.outer at us, r.0, closed_bracket r.1)
completes_in a (mode.InFilter s) at us =
    let k = completes_filter s (closers a.outer at us) in
    let r = completes_down a.outer a.level k.1 at us in
    (k.0, r.0, in_filter k.1 (closers a.outer at us) k.2 r.1)
completes_in a (mode.Pattern cell) at us =
    let r = completes_after_pattern a.outer a.level cell.at (append cell.patterns (variant_at 0 [])) at us in
    (Symbol OpenBrace 0 ∷ Symbol CloseBrace 0 ∷ Symbol CloseSync 0 ∷ closers a.outer at us, r.0, next_pattern (empty_variant (Symbol CloseSync 0 ∷ closers a.outer at us)) r.1)
completes_in a (mode.InPattern cell opening s) at us =
    let k = completes_labels s (Symbol CloseSync 0 ∷ closers a.outer at us) in
    let r = completes_after_pattern a.outer a.level cell.at (append cell.patterns (variant_at opening k.1)) at us in
    (k.0, r.0, in_pattern k.1 (Symbol CloseSync 0 ∷ closers a.outer at us) k.2 r.1)
completes_in a (mode.AfterPattern cell) at us =
    let r = completes_after_pattern a.outer a.level cell.at cell.patterns at us in (Symbol CloseSync 0 ∷ closers a.outer at us, r.0, r.1)
completes_in a (mode.Exit star) at us =
    let r = completes_after_exit a.outer a.level star (variant_at 0 []) at us in
    (Symbol OpenBrace 0 ∷ Symbol CloseBrace 0 ∷ closers a.outer at us, r.0, next_exit (empty_variant (closers a.outer at us)) r.1)
completes_in a (mode.InExit star opening s) at us =
    let k = completes_labels s (closers a.outer at us) in
    let r = completes_after_exit a.outer a.level star (variant_at opening k.1) at us in
    (k.0, r.0, in_exit k.1 (closers a.outer at us) k.2 r.1)
completes_in a (mode.AfterExit star exit) at us = let r = completes_after_exit a.outer a.level star exit at us in (closers a.outer at us, r.0, r.1)
completes_in a (mode.Guard star exit) at us =
    let r = completes_down a.outer a.level (with_guarded_star kept star.det star.at star.body exit (kept.leaf (record { at = 0; form = tag_form.Tag a_name }))) at us in
    (a_guard (closers a.outer at us), r.0, next_guard (a_tag (Symbol CloseParen 0 ∷ closers a.outer at us)) r.1)
completes_in a (mode.InGuard star exit s) at us =
    let k = completes_guard s (Symbol CloseParen 0 ∷ closers a.outer at us) refl in
    let r = completes_down a.outer a.level (with_guarded_star kept star.det star.at star.body exit k.1) at us in
    (k.0, r.0, in_guard 0 k.1 (closers a.outer at us) k.2 r.1)
completes_in a (mode.Index split) at us =
    let r = completes_down a.outer a.level (with_split kept split.det false split.at split.body a_name) at us in (Tag a_name ∷ closers a.outer at us, r.0, next_tag r.1)
completes_in a (mode.SpreadIndex split) at us =
    let r = completes_down a.outer a.level (with_split kept split.det true split.at split.body a_name) at us in (Tag a_name ∷ closers a.outer at us, r.0, next_spread_tag r.1)
completes_in a (mode.Node placing) at us =
    let r = completes_down a.outer a.level (with_place kept placing.at placing.body 0) at us in (Number (pos 0) 0 ∷ closers a.outer at us, r.0, next_node r.1)

pub completable : (s : NetParser) (at : ℕ) (us : List Terminal) → (w : List Terminal) × (n : Kept NetExpr) × Completes s w (read n (Symbol Semicolon at ∷ us))
completable s at us = completes_in s.around s.mode at us
