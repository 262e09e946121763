-- A record file gives one thing.
use Rattle.std.proofs.Common.{◌≡◌, ◌∙◌, ℕ, ◌+◌, ◌≤◌, IsTrue, List, length, refl, sym, ap, subst, arith}
use Rattle.std.specs.Prelude.{Result, Err}
use Rattle.std.specs.Str.{chars}
use Rattle.std.proofs.lemmas.Bool.{both_ways}
use Rattle.std.proofs.lemmas.Option.{same_Some}
use Rattle.sn_record_tokens.proofs.Once.{Tokens_once}
use Rattle.sn_record_parser.proofs.Once.{IsLine_once}
use Rattle.sn_record_parser.specs.Grammar.{IsLine}
use Rattle.sn_record_parser.specs.declared.entry.Entry.{Entry}
use Rattle.sn_record_parser.specs.declared.entry.WrittenLabel.{WrittenLabel}
use Rattle.sn_input.proofs.Blanks.{blank_spells_none}
use Rattle.sn_input.specs.declared.input.Input.{Input}
use Rattle.sn_input.specs.declared.input.InputFault.{InputFault}
use Rattle.sn_input.specs.declared.input.InputFault.TheVariants.{Twice}
use Rattle.sn_input.specs.Line.{is_blank_line, SpellsLine}
use Rattle.sn_input.specs.Numbered.{with_entries, repeated}
use Rattle.sn_input.specs.Reading.{most_names, with_record, IsTaken, IsRefused, Reads, ReadsFile}

same_entries : {line : List ℕ} {entries others : List Entry} → SpellsLine line entries → SpellsLine line others → entries ≡ others
same_entries {line} {entries} {others} a b =
    let tokens = Tokens_once (chars line) a.tokens b.tokens a.scanned b.scanned in
    IsLine_once a.parsed (subst (λ ts. IsLine ts others) (sym tokens) b.parsed)

-- a line that spells nothing is refused for that alone, and so on
taken_or_refused : {input : Input} {n : ℕ} {line : List ℕ} {entries : List Entry} {fault : InputFault} → IsTaken input n line entries → IsRefused input n line fault → ⊥
taken_or_refused {entries = entries} t (IsRefused.bad_line filled none) = none entries t.spelled
taken_or_refused t (IsRefused.twice spelled again) = let two = sym t.once ∙ ap repeated (same_entries t.spelled spelled) ∙ again in absurd cc
taken_or_refused t (IsRefused.too_many spelled once many) = let few = t.few in absurd (omega arith)
taken_or_refused {input} t (IsRefused.too_many_names {entries = others} spelled once few many) =
    let less : length (with_entries input.names others) ≤ most_names = subst (λ es. length (with_entries input.names es) ≤ most_names) (same_entries t.spelled spelled) t.few_names in
    absurd (omega arith)

blank_or_refused : {input : Input} {n : ℕ} {line : List ℕ} {fault : InputFault} → IsTrue (is_blank_line line) → IsRefused input n line fault → ⊥
blank_or_refused blank (IsRefused.bad_line filled none) = both_ways _ filled blank
blank_or_refused blank (IsRefused.twice spelled again) = blank_spells_none _ _ blank spelled
blank_or_refused blank (IsRefused.too_many spelled once many) = blank_spells_none _ _ blank spelled
blank_or_refused blank (IsRefused.too_many_names spelled once few many) = blank_spells_none _ _ blank spelled

same_fault : {input : Input} {n : ℕ} {line : List ℕ} {fault other : InputFault} → IsRefused input n line fault → IsRefused input n line other → fault ≡ other
same_fault (IsRefused.bad_line filled none) (IsRefused.bad_line _ _) = refl
same_fault (IsRefused.bad_line filled none) (IsRefused.twice spelled _) = absurd (none _ spelled)
same_fault (IsRefused.bad_line filled none) (IsRefused.too_many spelled _ _) = absurd (none _ spelled)
same_fault (IsRefused.bad_line filled none) (IsRefused.too_many_names spelled _ _ _) = absurd (none _ spelled)
same_fault (IsRefused.twice spelled _) (IsRefused.bad_line filled none) = absurd (none _ spelled)
same_fault {n = n} (IsRefused.twice {label = label} a again) (IsRefused.twice {label = label'} b again') =
    let same : label ≡ label' = same_Some _ _ (sym again ∙ ap repeated (same_entries a b) ∙ again') in
    ap (λ (l : WrittenLabel). Twice n l.kind l.name) same
same_fault (IsRefused.twice a again) (IsRefused.too_many b once _) = let two = sym again ∙ ap repeated (same_entries a b) ∙ once in absurd cc
same_fault (IsRefused.twice a again) (IsRefused.too_many_names b once _ _) = let two = sym again ∙ ap repeated (same_entries a b) ∙ once in absurd cc
same_fault (IsRefused.too_many spelled _ _) (IsRefused.bad_line filled none) = absurd (none _ spelled)
same_fault (IsRefused.too_many b once _) (IsRefused.twice a again) = let two = sym again ∙ ap repeated (same_entries a b) ∙ once in absurd cc
same_fault (IsRefused.too_many _ _ _) (IsRefused.too_many _ _ _) = refl
same_fault (IsRefused.too_many _ _ many) (IsRefused.too_many_names _ _ few _) = absurd (omega arith)
same_fault (IsRefused.too_many_names spelled _ _ _) (IsRefused.bad_line filled none) = absurd (none _ spelled)
same_fault (IsRefused.too_many_names b once _ _) (IsRefused.twice a again) = let two = sym again ∙ ap repeated (same_entries a b) ∙ once in absurd cc
same_fault (IsRefused.too_many_names _ _ few _) (IsRefused.too_many _ _ many) = absurd (omega arith)
same_fault (IsRefused.too_many_names _ _ _ _) (IsRefused.too_many_names _ _ _ _) = refl

reads_once : {n : ℕ} {input : Input} {lines : List (List ℕ)} {found other : Result Input InputFault} → Reads n input lines found → Reads n input lines other → found ≡ other
reads_once Reads.end Reads.end = refl
reads_once (Reads.blank blank d) (Reads.blank _ k) = reads_once d k
reads_once (Reads.blank blank d) (Reads.taken is k) = absurd (blank_spells_none _ _ blank is.spelled)
reads_once (Reads.blank blank d) (Reads.refused is) = absurd (blank_or_refused blank is)
reads_once (Reads.taken is d) (Reads.blank blank k) = absurd (blank_spells_none _ _ blank is.spelled)
reads_once {n} {input} {other} (Reads.taken {lines = lines} is d) (Reads.taken is' k) =
    reads_once d (subst (λ es. Reads (n + 1) (with_record input n es) lines other) (same_entries is'.spelled is.spelled) k)
reads_once (Reads.taken is d) (Reads.refused is') = absurd (taken_or_refused is is')
reads_once (Reads.refused is) (Reads.blank blank k) = absurd (blank_or_refused blank is)
reads_once (Reads.refused is') (Reads.taken is k) = absurd (taken_or_refused is is')
reads_once (Reads.refused is) (Reads.refused is') = ap Err (same_fault is is')

pub file_read_once : (names : List (List ℕ)) (bytes : List ℕ) (found other : Result Input InputFault) → ReadsFile names bytes found → ReadsFile names bytes other → found ≡ other
file_read_once names bytes found other a b = reads_once a b
