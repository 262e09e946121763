-- Tokens spell one row of labels, one type and one signature, up to what may follow them.
use Rattle.std.proofs.Common.{◌≡◌, ◌∙◌, ◌<◌, ◌≤◌, List, [], ◌∷◌, ◌++◌, Some, refl, sym, ap, subst, arith}
use Rattle.sn_ast.specs.Labels.{MoreLabels, last_label, more_labels, Labels, no_labels, labels, IsVariant, variant, IsTuple, tuple, Part, set, named, MoreParts, last_part, more_parts, Types, types, IsSig, arrow, signature}
use Rattle.sn_ast.specs.Terminals.{closing}
use Rattle.sn_ast.specs.declared.label.LabelAt.{LabelAt}
use Rattle.sn_ast.specs.declared.label.Sig.{Sig}
use Rattle.sn_ast.specs.declared.label.Sig.TheVariants.{Arrow as ArrowSig}
use Rattle.sn_ast.specs.declared.label.Tuple.{Tuple}
use Rattle.sn_ast.specs.declared.label.TypePart.{TypePart}
use Rattle.sn_ast.specs.declared.label.TypePart.TheVariants.{Set}
use Rattle.sn_ast.specs.declared.label.Variant.{Variant}
use Rattle.sn_ast.specs.declared.terminal.Bracket.{Bracket}
use Rattle.sn_ast.specs.declared.terminal.Bracket.TheVariants.{Paren, Brace, Square}
use Rattle.sn_ast.specs.declared.terminal.Symbol.TheVariants.{Comma}
use Rattle.sn_ast.specs.declared.terminal.Terminal.{Terminal}
use Rattle.sn_outcomes.proofs.Fronts.{type_rank, behind, along}

-- a comma closes nothing
pub comma_closes : (b : Bracket) → Comma ≡ closing b → ⊥
comma_closes Paren e = absurd cc
comma_closes Brace e = absurd cc
comma_closes Square e = absurd cc

pub more_labels_once : {b : Bracket} {so_far all others : List LabelAt} {ts us vs : List Terminal} → MoreLabels b so_far ts all us → MoreLabels b so_far ts others vs → (all ≡ others) × (us ≡ vs)
more_labels_once (last_label e) (last_label f) = (refl, refl)
more_labels_once {b} (last_label e) (more_labels is k) = absurd (comma_closes b e)
more_labels_once {b} (more_labels is d) (last_label e) = absurd (comma_closes b e)
more_labels_once {b} {so_far} {others} {vs} (more_labels {l = l} {us = ws} is d) (more_labels {l = l'} is' k) =
    let labels : Some l ≡ Some l' = sym is ∙ is' in
    let same : l' ≡ l = cc in
    more_labels_once d (subst (λ x. MoreLabels b (so_far ++ (x ∷ [])) ws others vs) same k)

pub labels_once : {b : Bracket} {all others : List LabelAt} {ts us vs : List Terminal} → Labels b ts all us → Labels b ts others vs → (all ≡ others) × (us ≡ vs)
labels_once (no_labels e) (no_labels f) = (refl, refl)
labels_once (no_labels e) (labels is k) = absurd cc
labels_once (labels is d) (no_labels e) = absurd cc
labels_once {b} {others} {vs} (labels {l = l} {us = ws} is d) (labels {l = l'} is' k) =
    let labels : Some l ≡ Some l' = sym is ∙ is' in
    let same : l' ≡ l = cc in
    more_labels_once d (subst (λ x. MoreLabels b (x ∷ []) ws others vs) same k)

pub variant_once : {v w : Variant} {ts us vs : List Terminal} → IsVariant ts v us → IsVariant ts w vs → (v ≡ w) × (us ≡ vs)
variant_once (variant {at} d) (variant k) =
    let first = labels_once d k in
    (λ i. record { labels = first.0 i; at = at }, first.1)

pub tuple_once : {t u : Tuple} {ts us vs : List Terminal} → IsTuple ts t us → IsTuple ts u vs → (t ≡ u) × (us ≡ vs)
tuple_once (tuple {at} d) (tuple k) =
    let first = labels_once d k in
    (λ i. record { labels = first.0 i; at = at }, first.1)

pub part_once : {p q : TypePart} {ts us vs : List Terminal} → Part ts p us → Part ts q vs → (p ≡ q) × (us ≡ vs)
part_once (set d) (set k) = let first = variant_once d k in (ap Set first.0, first.1)
part_once (set d) named = elim d [ ]
part_once named (set k) = elim k [ ]
part_once named named = (refl, refl)

pub more_parts_once : {so_far all others : List TypePart} {ts us vs : List Terminal} → MoreParts so_far ts all us → MoreParts so_far ts others vs → type_rank us < 2 → type_rank vs < 2 → (all ≡ others) × (us ≡ vs)
more_parts_once last_part last_part p q = (refl, refl)
more_parts_once last_part (more_parts b k) p q = absurd (omega arith)
more_parts_once (more_parts a d) last_part p q = absurd (omega arith)
more_parts_once {so_far} {others} {vs} (more_parts a d) (more_parts b k) p q =
    let first = part_once a b in
    more_parts_once d (along (λ x ts. MoreParts (so_far ++ (x ∷ [])) ts others vs) first.0 first.1 k) p q

pub types_once : {all others : List TypePart} {ts us vs : List Terminal} → Types ts all us → Types ts others vs → type_rank us < 2 → type_rank vs < 2 → (all ≡ others) × (us ≡ vs)
types_once {others} {vs} (types a d) (types b k) p q =
    let first = part_once a b in
    more_parts_once d (along (λ x ts. MoreParts (x ∷ []) ts others vs) first.0 first.1 k) p q

-- a row that begins with a name goes on by a bar or an arrow
pub name_goes : {all : List TypePart} {so_far : List TypePart} {us vs : List Terminal} → MoreParts so_far us all vs → type_rank us < 1 → 1 ≤ type_rank vs → ⊥
name_goes last_part p q = omega arith
name_goes (more_parts a d) p q = omega arith

pub sig_once : {s r : Sig} {ts us vs : List Terminal} → IsSig ts s us → IsSig ts r vs → type_rank us < 1 → type_rank vs < 1 → (s ≡ r) × (us ≡ vs)
sig_once {us} {vs} (arrow a d) (arrow {output = output} b k) p q =
    let first = types_once a b (omega arith) (omega arith) in
    let second = types_once d (subst (λ ts. Types ts output vs) (sym (ap behind first.1)) k) (omega arith) (omega arith) in
    (λ i. ArrowSig (first.0 i) (second.0 i), second.1)
sig_once (arrow (types named m) d) signature p q = absurd (name_goes m q (omega arith))
sig_once (arrow (types (set v) m) d) signature p q = elim v [ ]
sig_once signature (arrow (types named m) k) p q = absurd (name_goes m p (omega arith))
sig_once signature (arrow (types (set v) m) k) p q = elim v [ ]
sig_once signature signature p q = (refl, refl)
