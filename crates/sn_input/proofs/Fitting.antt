-- The values of a line's entries may stand at their labels.
use Rattle.std.proofs.Common.{refl, sym, subst, List}
use Rattle.std.specs.List.{All}
use Rattle.std.proofs.lemmas.List.Elements.{All-nil, All-cons}
use Rattle.sn_record.proofs.Values.{FitsLabel-Int, FitsLabel-Field}
use Rattle.sn_record_tokens.specs.declared.token.Token.{Token}
use Rattle.sn_record_parser.specs.declared.entry.Entry.{Entry}
use Rattle.sn_record_parser.specs.Grammar.{IsEntry, AreFurther, IsLine}
use Rattle.sn_input.specs.Steps.{Fits}

entry_fits : {tokens rest : List Token} {entry : Entry} → IsEntry tokens entry rest → Fits entry
entry_fits (IsEntry.field_at value sound is) = subst Fits (sym is) (λ id. FitsLabel-Field _ _ refl sound)
entry_fits (IsEntry.tag_at is) = subst Fits (sym is) (λ id. FitsLabel-Int _ _)

further_fit : {tokens rest : List Token} {entries : List Entry} → AreFurther tokens entries rest → All Fits entries
further_fit AreFurther.end = All-nil Fits
further_fit (AreFurther.next entry more) = All-cons Fits _ _ (entry_fits entry) (further_fit more)

pub line_fits : {tokens : List Token} {entries : List Entry} → IsLine tokens entries → All Fits entries
line_fits IsLine.empty = All-nil Fits
line_fits (IsLine.entries entry more) = All-cons Fits _ _ (entry_fits entry) (further_fit more)
