-- What a parser that embeds the parser of items needs to know of its states.
use Rattle.std.proofs.Common.{true, false, List, [], ◌∷◌, refl}
use Rattle.sn_ast.specs.Kept.{kept}
use Rattle.sn_ast.specs.Networks.{MoreItems, same, last_item}
use Rattle.sn_ast.specs.declared.terminal.Symbol.TheVariants.{CloseBrace}
use Rattle.sn_ast.specs.declared.terminal.Terminal.{Terminal}
use Rattle.sn_ast.specs.declared.terminal.Terminal.TheVariants.{Name, Symbol}
use Rattle.sn_expr_parser.specs.TagResidual.{read as read_tag}
use Rattle.sn_expr_parser.proofs.TagLaws.{no_end as no_end_tag, completable as completable_tag}
use Rattle.sn_filter_parser.specs.ItemResidual.{Row, with_same, with_renamed, with_computed, NextItem, next_item, no_item, some_item, old_name, name_alone, tag_alone, in_expr, Completes, CompletesIn}
use Rattle.sn_filter_parser.specs.declared.items.ItemParser.{ItemParser}
use Rattle.sn_filter_parser.specs.declared.items.Mode.{Mode}
use Rattle.sn_filter_parser.specs.declared.items.Mode.TheVariants.{First, Item, Named, Tagged, Renamed, Computed, After}
use Rattle.sn_type_parser.proofs.Witnesses.{a_name}
use Rattle.sn_type_parser.specs.Reads.{Read, read}

-- No state is complete without a further token.
no_end_after : {so_far all : Row} {us : List Terminal} → MoreItems kept so_far [] all us → ⊥
no_end_after m = elim m [ ]

no_end_item : {so_far : Row} {t : Read Row} → NextItem so_far [] t → ⊥
no_end_item (next_item i m) = elim i [ ]

no_end_in : (so_far : Row) (m : Mode) (t : Read Row) → CompletesIn so_far m [] t → ⊥
no_end_in so_far First t (some_item i) = no_end_item i
no_end_in so_far Item t h = no_end_item h
no_end_in so_far (Named n) t (name_alone m) = no_end_after m
no_end_in so_far (Tagged n) t (tag_alone m) = no_end_after m
no_end_in so_far (Renamed n) t h = elim h [ ]
no_end_in so_far (Computed n s) t (in_expr e us c m) = no_end_tag s (read_tag e us) c
no_end_in so_far After t h = no_end_after h

pub no_end : (s : ItemParser) (t : Read Row) → Completes s [] t → ⊥
no_end s t h = no_end_in s.items s.mode t h

-- Each state can be completed, whatever follows.
completable_in : (so_far : Row) (m : Mode) (us : List Terminal) → (w : List Terminal) × (all : Row) × CompletesIn so_far m w (read all us)
completable_in so_far First us = (Symbol CloseBrace 0 ∷ us, so_far, no_item)
completable_in so_far Item us = (Name a_name ∷ Symbol CloseBrace 0 ∷ us, with_same false so_far a_name, next_item (same refl) last_item)
completable_in so_far (Named n) us = (Symbol CloseBrace 0 ∷ us, with_same false so_far n, name_alone last_item)
completable_in so_far (Tagged n) us = (Symbol CloseBrace 0 ∷ us, with_same true so_far n, tag_alone last_item)
completable_in so_far (Renamed n) us = (Name a_name ∷ Symbol CloseBrace 0 ∷ us, with_renamed so_far n a_name, old_name last_item)
completable_in so_far (Computed n s) us =
    let vs : List Terminal = Symbol CloseBrace 0 ∷ us in
    let r = completable_tag s vs refl in
    (r.0, with_computed so_far n r.1, in_expr r.1 vs r.2 last_item)
completable_in so_far After us = (Symbol CloseBrace 0 ∷ us, so_far, last_item)

pub completable : (s : ItemParser) (us : List Terminal) → (w : List Terminal) × (all : Row) × Completes s w (read all us)
completable s us = completable_in s.items s.mode us
