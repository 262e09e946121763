-- What a parser that embeds the parser of labels needs to know of its states.
use Rattle.std.proofs.Common.{false, List, [], ◌∷◌, ◌++◌, refl}
use Rattle.sn_ast.specs.Labels.{MoreLabels, last_label}
use Rattle.sn_ast.specs.Terminals.{closing}
use Rattle.sn_ast.specs.declared.label.LabelAt.{LabelAt}
use Rattle.sn_ast.specs.declared.terminal.Bracket.{Bracket}
use Rattle.sn_ast.specs.declared.terminal.Terminal.{Terminal}
use Rattle.sn_ast.specs.declared.terminal.Terminal.TheVariants.{Name, Symbol}
use Rattle.sn_type_parser.specs.LabelResidual.{NextLabel, FirstLabel, next_label, no_label, some_label, Completes, CompletesIn}
use Rattle.sn_type_parser.specs.Reads.{Read, read}
use Rattle.sn_type_parser.proofs.Witnesses.{a_name}
use Rattle.sn_type_parser.specs.declared.labels.LabelParser.{LabelParser}
use Rattle.sn_type_parser.specs.declared.labels.Mode.{Mode}
use Rattle.sn_type_parser.specs.declared.labels.Mode.TheVariants.{First, Label, After}

-- No state is complete without a further token.
no_end_after : {b : Bracket} {so_far all : List LabelAt} {us : List Terminal} → MoreLabels b so_far [] all us → ⊥
no_end_after m = elim m [ ]

no_end_label : {b : Bracket} {so_far : List LabelAt} {t : Read (List LabelAt)} → NextLabel b so_far [] t → ⊥
no_end_label l = elim l [ ]

no_end_first : {b : Bracket} {so_far : List LabelAt} {t : Read (List LabelAt)} → FirstLabel b so_far [] t → ⊥
no_end_first (some_label l) = no_end_label l

no_end_in : (b : Bracket) (so_far : List LabelAt) (m : Mode) (t : Read (List LabelAt)) → CompletesIn b so_far m [] t → ⊥
no_end_in b so_far First t h = no_end_first h
no_end_in b so_far Label t h = no_end_label h
no_end_in b so_far After t h = no_end_after h

pub no_end : (s : LabelParser) (t : Read (List LabelAt)) → Completes s [] t → ⊥
no_end s t h = no_end_in s.bracket s.labels s.mode t h

-- Each state can be completed, whatever follows.
completable_in : (b : Bracket) (so_far : List LabelAt) (m : Mode) (us : List Terminal) →
    (w : List Terminal) × (all : List LabelAt) × CompletesIn b so_far m w (read all us)
completable_in b so_far First us = (Symbol (closing b) 0 ∷ us, so_far, no_label refl)
completable_in b so_far Label us =
    (Name a_name ∷ Symbol (closing b) 0 ∷ us, so_far ++ (record { tag = false; name = a_name } ∷ []), next_label refl (last_label refl))
completable_in b so_far After us = (Symbol (closing b) 0 ∷ us, so_far, last_label refl)

pub completable : (s : LabelParser) (us : List Terminal) → (w : List Terminal) × (all : List LabelAt) × Completes s w (read all us)
completable s us = completable_in s.bracket s.labels s.mode us
