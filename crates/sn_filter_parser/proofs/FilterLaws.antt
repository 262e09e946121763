-- What a parser that embeds the parser of filters needs to know of its states.
use Rattle.std.proofs.Common.{ℕ, List, [], ◌∷◌, refl}
use Rattle.sn_ast.specs.Kept.{Kept, kept}
use Rattle.sn_ast.specs.Labels.{variant, no_labels}
use Rattle.sn_ast.specs.Networks.{Arms, Filter, arm_ends, arms, filter, last_arm, last_templates, more_arms, no_arms, no_items, last_template, template}
use Rattle.sn_ast.specs.Rows.{no_parts}
use Rattle.sn_ast.specs.TagExprs.{TagExpr, plain, disjunction, no_or, conjunction, no_and, no_compare, sum, no_sum, product, no_product, tag}
use Rattle.sn_ast.specs.declared.network.ArmAt.{ArmAt}
use Rattle.sn_ast.specs.declared.network.NetExpr.{NetExpr}
use Rattle.sn_ast.specs.declared.tag_expr.TForm.TheVariants as tag_form
use Rattle.sn_ast.specs.declared.terminal.Keyword.TheVariants.{Else}
use Rattle.sn_ast.specs.declared.terminal.Symbol.TheVariants.{OpenBrace, CloseBrace, CloseBracket, CloseParen, OpenParen, Arrow as ArrowSign}
use Rattle.sn_ast.specs.declared.terminal.Terminal.{Terminal}
use Rattle.sn_ast.specs.declared.terminal.Terminal.TheVariants.{Keyword, Symbol, Tag}
use Rattle.sn_expr_parser.proofs.TagLaws.{no_end as no_end_guard, completable as completable_guard}
use Rattle.sn_expr_parser.specs.TagResidual.{read as read_guard}
use Rattle.sn_filter_parser.proofs.ItemLaws.{no_end as no_end_items, completable as completable_items}
use Rattle.sn_filter_parser.specs.FilterResidual.{Row, with_template, AfterTemplate, NextArrow, NextTemplate, after_arm, after_last, after_one, after_pattern, next_template, in_items, next_arrow, next_guard, inside_guard, in_pattern, Completes, CompletesIn}
use Rattle.sn_filter_parser.specs.declared.filter.Begun.{Begun}
use Rattle.sn_filter_parser.specs.declared.filter.FilterParser.{FilterParser}
use Rattle.sn_filter_parser.specs.declared.filter.Listed.{Listed}
use Rattle.sn_filter_parser.specs.declared.filter.Listed.TheVariants.{OfArm, Last}
use Rattle.sn_filter_parser.specs.declared.filter.Mode.{Mode}
use Rattle.sn_filter_parser.specs.declared.filter.Mode.TheVariants.{Open, Pattern, First, Guard, InGuard, Arrow, Template, Items, After}
use Rattle.sn_type_parser.proofs.LabelLaws.{no_end as no_end_labels, completable as completable_labels}
use Rattle.sn_type_parser.proofs.Witnesses.{a_name}
use Rattle.sn_type_parser.specs.Reads.{Read, read}

-- No state is complete without a further token.
no_filter_end : {at : ℕ} {n : Kept NetExpr} {us : List Terminal} → Filter kept at [] n us → ⊥
no_filter_end (filter v a d) = elim v [ ]

no_arms_end : {all : Kept (List ArmAt)} {us : List Terminal} → Arms kept [] all us → ⊥
no_arms_end (arms a m) = elim a [ ]

no_end_after : {at : ℕ} {b : Begun} {l : Listed} {so_far : Row} {t : Read (Kept NetExpr)} → AfterTemplate at b l so_far [] t → ⊥
no_end_after (after_last m) = elim m [ ]
no_end_after (after_one arm_ends (after_arm (more_arms a m) d)) = elim a [ ]

no_end_in : (at : ℕ) (m : Mode) (t : Read (Kept NetExpr)) → CompletesIn at m [] t → ⊥
no_end_in at Open t f = no_filter_end f
no_end_in at (Pattern opening s) t (in_pattern labels us c a) = no_end_labels s (read labels us) c
no_end_in at (First pattern) t (after_pattern a d) = no_arms_end a
no_end_in at (Guard b) t a = elim a [ ]
no_end_in at (InGuard b s) t (inside_guard close g us c d) = no_end_guard s (read_guard g (Symbol CloseParen close ∷ us)) c
no_end_in at (Arrow b l) t a = elim a [ ]
no_end_in at (Template b so_far) t (next_template e a) = elim e [ ]
no_end_in at (Items b so_far opening s) t (in_items items us c a) = no_end_items s (read items us) c
no_end_in at (After b so_far) t a = no_end_after a

pub no_end : (s : FilterParser) (t : Read (Kept NetExpr)) → Completes s [] t → ⊥
no_end s t h = no_end_in s.at s.mode t h

-- Each state can be completed, whatever follows: by a guard, `->`, `{}`, `else -> {}` and `]` as far as they are wanted.
abbrev last_tokens : List Terminal → List Terminal
last_tokens us = Symbol OpenBrace 0 ∷ Symbol CloseBrace 0 ∷ Symbol CloseBracket 0 ∷ us

abbrev after_tokens : Listed → List Terminal → List Terminal
after_tokens Last us = Symbol CloseBracket 0 ∷ us
after_tokens (OfArm g) us = Keyword Else 0 ∷ Symbol ArrowSign 0 ∷ last_tokens us

abbrev template_tokens : Listed → List Terminal → List Terminal
template_tokens l us = Symbol OpenBrace 0 ∷ Symbol CloseBrace 0 ∷ after_tokens l us

completable_after : (at : ℕ) (b : Begun) (l : Listed) (so_far : Row) (us : List Terminal) → (n : Kept NetExpr) × AfterTemplate at b l so_far (after_tokens l us) (read n us)
completable_after at b Last so_far us = (_, after_last last_template)
completable_after at b (OfArm g) so_far us = (_, after_one arm_ends (after_arm last_arm (last_templates (template no_items) last_template)))

completable_template : (at : ℕ) (b : Begun) (l : Listed) (so_far : Row) (us : List Terminal) → (n : Kept NetExpr) × NextTemplate at b l so_far (template_tokens l us) (read n us)
completable_template at b l so_far us =
    let r = completable_after at b l (with_template so_far 0 (no_parts kept)) us in
    (r.0, next_template (template no_items) r.1)

completable_arrow : (at : ℕ) (b : Begun) (l : Listed) (us : List Terminal) → (n : Kept NetExpr) × NextArrow at b l (Symbol ArrowSign 0 ∷ template_tokens l us) (read n us)
completable_arrow at b l us = let r = completable_template at b l (no_parts kept) us in (r.0, next_arrow r.1)

a_tag : (us : List Terminal) → TagExpr kept (Tag a_name ∷ us) (kept.leaf (record { at = 0; form = tag_form.Tag a_name })) us
a_tag us = plain (disjunction (conjunction (no_compare (sum (product tag no_product) no_sum)) no_and) no_or)

abbrev of_tag : Listed
of_tag = OfArm (kept.leaf (record { at = 0; form = tag_form.Tag a_name }))

completable_in : (at : ℕ) (m : Mode) (us : List Terminal) → (w : List Terminal) × (n : Kept NetExpr) × CompletesIn at m w (read n us)
completable_in at Open us = (
  Symbol OpenBrace 0 ∷ Symbol CloseBrace 0 ∷ Symbol ArrowSign 0 ∷ last_tokens us,
  _,
  filter (variant (no_labels refl)) no_arms (last_templates (template no_items) last_template),
)
completable_in at (Pattern opening s) us =
    let vs : List Terminal = Symbol ArrowSign 0 ∷ last_tokens us in
    let r = completable_labels s vs in
    (r.0, _, in_pattern r.1 vs r.2 (after_pattern no_arms (last_templates (template no_items) last_template)))
completable_in at (First pattern) us = (Symbol ArrowSign 0 ∷ last_tokens us, _, after_pattern no_arms (last_templates (template no_items) last_template))
completable_in at (Guard b) us =
    let vs : List Terminal = Symbol ArrowSign 0 ∷ template_tokens of_tag us in
    let r = completable_arrow at b of_tag us in
    (Symbol OpenParen 0 ∷ Tag a_name ∷ Symbol CloseParen 0 ∷ vs, r.0, next_guard (a_tag (Symbol CloseParen 0 ∷ vs)) r.1)
completable_in at (InGuard b s) us =
    let vs : List Terminal = Symbol ArrowSign 0 ∷ template_tokens of_tag us in
    let g = completable_guard s (Symbol CloseParen 0 ∷ vs) refl in
    let r = completable_arrow at b (OfArm g.1) us in
    (g.0, r.0, inside_guard 0 g.1 vs g.2 r.1)
completable_in at (Arrow b l) us = let r = completable_arrow at b l us in (Symbol ArrowSign 0 ∷ template_tokens l us, r.0, r.1)
completable_in at (Template b so_far) us = let r = completable_template at b so_far.of so_far.so_far us in (template_tokens so_far.of us, r.0, r.1)
completable_in at (Items b so_far opening s) us =
    let vs : List Terminal = after_tokens so_far.of us in
    let r = completable_items s vs in
    let a = completable_after at b so_far.of (with_template so_far.so_far opening r.1) us in
    (r.0, a.0, in_items r.1 vs r.2 a.1)
completable_in at (After b so_far) us = let a = completable_after at b so_far.of so_far.so_far us in (after_tokens so_far.of us, a.0, a.1)

pub completable : (s : FilterParser) (us : List Terminal) → (w : List Terminal) × (n : Kept NetExpr) × Completes s w (read n us)
completable s us = completable_in s.at s.mode us
