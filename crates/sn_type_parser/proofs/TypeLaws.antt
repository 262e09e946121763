-- What a parser that embeds the parser of types needs to know of its states.
use Rattle.std.proofs.Common.{ℕ, List, [], ◌∷◌, ◌++◌}
use Rattle.sn_ast.specs.Labels.{set, named, last_part}
use Rattle.sn_ast.specs.declared.label.TypePart.{TypePart}
use Rattle.sn_ast.specs.declared.label.TypePart.TheVariants.{Set, Named}
use Rattle.sn_ast.specs.declared.terminal.Terminal.{Terminal}
use Rattle.sn_ast.specs.declared.terminal.Terminal.TheVariants.{Name}
use Rattle.sn_type_parser.specs.Reads.{Read, read}
use Rattle.sn_type_parser.specs.TypeResidual.{EndsType, AfterPart, NextPart, InLabels, after_part, next_part, in_labels, Completes, CompletesIn}
use Rattle.sn_type_parser.specs.declared.labels.LabelParser.{LabelParser}
use Rattle.sn_type_parser.specs.declared.types.Mode.{Mode}
use Rattle.sn_type_parser.specs.declared.types.Mode.TheVariants.{Part, Variant as InVariant, After}
use Rattle.sn_type_parser.specs.declared.types.TypeParser.{TypeParser}
use Rattle.sn_type_parser.proofs.LabelLaws.{no_end as no_end_labels, completable as completable_labels}
use Rattle.sn_type_parser.proofs.Witnesses.{a_name}

-- No state is complete without a further token.
no_end_part : {so_far : List TypePart} {t : Read (List TypePart)} → NextPart so_far [] t → ⊥
no_end_part (next_part (set v) a) = elim v [ ]

no_end_labels_in : {so_far : List TypePart} {at : ℕ} {s : LabelParser} {t : Read (List TypePart)} → InLabels so_far at s [] t → ⊥
no_end_labels_in {s = s} (in_labels labels us c a) = no_end_labels s (read labels us) c

no_end_after : {so_far : List TypePart} {t : Read (List TypePart)} → AfterPart so_far [] t → ⊥
no_end_after (after_part last_part e) = e

no_end_in : (so_far : List TypePart) (m : Mode) (t : Read (List TypePart)) → CompletesIn so_far m [] t → ⊥
no_end_in so_far Part t h = no_end_part h
no_end_in so_far (InVariant at s) t h = no_end_labels_in h
no_end_in so_far After t h = no_end_after h

pub no_end : (s : TypeParser) (t : Read (List TypePart)) → Completes s [] t → ⊥
no_end s t h = no_end_in s.parts s.mode t h

-- Each state can be completed, whatever follows a type.
completable_in : (so_far : List TypePart) (m : Mode) (us : List Terminal) → EndsType us →
    (w : List Terminal) × (all : List TypePart) × CompletesIn so_far m w (read all us)
completable_in so_far Part us e = (Name a_name ∷ us, so_far ++ (Named a_name ∷ []), next_part named (after_part last_part e))
completable_in so_far (InVariant at s) us e =
    let r = completable_labels s us in
    (r.0, so_far ++ (Set (record { labels = r.1; at = at }) ∷ []), in_labels r.1 us r.2 (after_part last_part e))
completable_in so_far After us e = (us, so_far, after_part last_part e)

pub completable : (s : TypeParser) (us : List Terminal) → EndsType us → (w : List Terminal) × (all : List TypePart) × Completes s w (read all us)
completable s us e = completable_in s.parts s.mode us e
