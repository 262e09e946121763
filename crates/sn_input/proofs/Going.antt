-- What one line does, by what it spells.
use Rattle.std.proofs.Common.{◌≡◌, ◌∙◌, ℕ, ◌+◌, ◌<◌, ◌≤◌, false, IsTrue, List, ◌∷◌, length, None, refl, sym, ap, subst, arith}
use Rattle.std.specs.Prelude.{Result, Ok, Err, OnOk}
use Rattle.std.proofs.lemmas.Bool.{both_ways}
use Rattle.std.proofs.lemmas.Option.{same_Some}
use Rattle.sn_record_parser.specs.declared.entry.WrittenLabel.{WrittenLabel}
use Rattle.sn_record_parser.specs.declared.entry.Entry.{Entry}
use Rattle.sn_input.specs.declared.input.Input.{Input}
use Rattle.sn_input.specs.declared.input.InputFault.{InputFault}
use Rattle.sn_input.specs.declared.input.InputFault.TheVariants.{BadLine, Twice}
use Rattle.sn_input.specs.Line.{is_blank_line, SpellsLine}
use Rattle.sn_input.specs.Numbered.{with_entries, repeated}
use Rattle.sn_input.specs.Reading.{most_names, with_record, IsRefused, Reads}
use Rattle.sn_input.specs.Steps.{SpellsOnly, IsTwice, HasRoom, LacksRoom, GoesOn, EndsWith}
use Rattle.sn_input.proofs.Blanks.{blank_spells_none}

-- a blank line is passed over
not_refused : {input : Input} {n : ℕ} {line : List ℕ} {fault : InputFault} → IsTrue (is_blank_line line) → IsRefused input n line fault → ⊥
not_refused blank (IsRefused.bad_line filled none) = both_ways _ filled blank
not_refused blank (IsRefused.twice spelled again) = blank_spells_none _ _ blank spelled
not_refused blank (IsRefused.too_many spelled once many) = blank_spells_none _ _ blank spelled
not_refused blank (IsRefused.too_many_names spelled once few many) = blank_spells_none _ _ blank spelled

past_blank : {input : Input} {n : ℕ} {line : List ℕ} {lines : List (List ℕ)} {result : Result Input InputFault} → IsTrue (is_blank_line line) → Reads n input (line ∷ lines) result → Reads (n + 1) input lines result
past_blank blank (Reads.blank _ more) = more
past_blank blank (Reads.taken is more) = absurd (blank_spells_none _ _ blank is.spelled)
past_blank blank (Reads.refused is) = absurd (not_refused blank is)

pub blank_goes : (input : Input) (n : ℕ) (line : List ℕ) → IsTrue (is_blank_line line) → GoesOn input n line input
blank_goes input n line blank lines result = (past_blank blank, Reads.blank blank)

-- the refusal of a line that spells these entries alone
data Refusal (input : Input) (n : ℕ) (entries : List Entry) : InputFault → Type 0 where
  repeats : {fault : InputFault} → IsTwice n entries fault → Refusal input n entries fault
  crowds : {fault : InputFault} → repeated entries ≡ None → LacksRoom input n entries fault → Refusal input n entries fault

refusal_of : {input : Input} {n : ℕ} {line : List ℕ} {entries : List Entry} {fault : InputFault} → SpellsOnly line entries → IsRefused input n line fault → Refusal input n entries fault
refusal_of {entries = entries} only (IsRefused.bad_line filled none) = absurd (none entries only.spelled)
refusal_of {n = n} {entries = entries} only (IsRefused.twice {label = label} spelled again) = Refusal.repeats (IsTwice.twice (ap repeated (sym (only.only _ spelled)) ∙ again))
refusal_of {input = input} {n = n} only (IsRefused.too_many spelled once many) = Refusal.crowds (ap repeated (sym (only.only _ spelled)) ∙ once) (LacksRoom.records many)
refusal_of {input = input} {n = n} only (IsRefused.too_many_names spelled once few many) =
    let same = only.only _ spelled in
    Refusal.crowds (ap repeated (sym same) ∙ once) (LacksRoom.names few (subst (λ es. most_names < length (with_entries input.names es)) same many))

refused_by : {input : Input} {n : ℕ} {line : List ℕ} {entries : List Entry} {fault : InputFault} → SpellsLine line entries → Refusal input n entries fault → IsRefused input n line fault
refused_by spelled (Refusal.repeats (IsTwice.twice again)) = IsRefused.twice spelled again
refused_by spelled (Refusal.crowds once (LacksRoom.records many)) = IsRefused.too_many spelled once many
refused_by spelled (Refusal.crowds once (LacksRoom.names few many)) = IsRefused.too_many_names spelled once few many

-- a line that is taken is not refused
room_or_not : {input : Input} {n : ℕ} {entries : List Entry} {fault : InputFault} → repeated entries ≡ None → HasRoom input entries → Refusal input n entries fault → ⊥
room_or_not once room (Refusal.repeats (IsTwice.twice again)) = let two = sym once ∙ again in absurd (cc)
room_or_not once room (Refusal.crowds _ (LacksRoom.records many)) = let few = room.few in absurd (omega arith)
room_or_not once room (Refusal.crowds _ (LacksRoom.names few many)) = let few_names = room.few_names in absurd (omega arith)

past_taken : {input : Input} {n : ℕ} {line : List ℕ} {lines : List (List ℕ)} {result : Result Input InputFault} {entries : List Entry}
    → SpellsOnly line entries → repeated entries ≡ None → HasRoom input entries → Reads n input (line ∷ lines) result → Reads (n + 1) (with_record input n entries) lines result
past_taken {entries = entries} only once room (Reads.blank blank more) = absurd (blank_spells_none _ entries blank only.spelled)
past_taken {input = input} {n = n} {lines = lines} {result = result} only once room (Reads.taken is more) = subst (λ es. Reads (n + 1) (with_record input n es) lines result) (only.only _ is.spelled) more
past_taken only once room (Reads.refused is) = absurd (room_or_not once room (refusal_of only is))

pub taken_goes : (input : Input) (n : ℕ) (line : List ℕ) (entries : List Entry) → SpellsOnly line entries → repeated entries ≡ None → HasRoom input entries → GoesOn input n line (with_record input n entries)
taken_goes input n line entries only once room lines result = (
  past_taken only once room,
  Reads.taken (record { spelled = only.spelled; once = once; few = room.few; few_names = room.few_names }),
)

-- one refusal alone
refusal_once : {input : Input} {n : ℕ} {entries : List Entry} {one other : InputFault} → Refusal input n entries one → Refusal input n entries other → other ≡ one
refusal_once {n = n} (Refusal.repeats (IsTwice.twice {label = label} again)) (Refusal.repeats (IsTwice.twice {label = label'} again')) = let same : label' ≡ label = same_Some _ _ (sym again' ∙ again) in ap (λ (l : WrittenLabel). Twice n l.kind l.name) same
refusal_once (Refusal.repeats (IsTwice.twice again)) (Refusal.crowds once lacks) = let two = sym once ∙ again in absurd (cc)
refusal_once (Refusal.crowds once lacks) (Refusal.repeats (IsTwice.twice again)) = let two = sym once ∙ again in absurd (cc)
refusal_once (Refusal.crowds _ (LacksRoom.records _)) (Refusal.crowds _ (LacksRoom.records _)) = refl
refusal_once (Refusal.crowds _ (LacksRoom.records many)) (Refusal.crowds _ (LacksRoom.names few _)) = absurd (omega arith)
refusal_once (Refusal.crowds _ (LacksRoom.names few _)) (Refusal.crowds _ (LacksRoom.records many)) = absurd (omega arith)
refusal_once (Refusal.crowds _ (LacksRoom.names _ _)) (Refusal.crowds _ (LacksRoom.names _ _)) = refl

refusal_ends : {input : Input} {n : ℕ} {line : List ℕ} {lines : List (List ℕ)} {result : Result Input InputFault} {entries : List Entry} {fault : InputFault}
    → SpellsOnly line entries → Refusal input n entries fault → Reads n input (line ∷ lines) result → result ≡ Err fault
refusal_ends {entries = entries} only refusal (Reads.blank blank more) = absurd (blank_spells_none _ entries blank only.spelled)
refusal_ends {input = input} {n = n} {entries = entries} only refusal (Reads.taken is more) =
    let same = only.only _ is.spelled in
    let few_names : length (with_entries input.names entries) ≤ most_names = subst (λ es. length (with_entries input.names es) ≤ most_names) same is.few_names in
    absurd (room_or_not (ap repeated (sym same) ∙ is.once) (record { few = is.few; few_names = few_names }) refusal)
refusal_ends only refusal (Reads.refused is) = ap Err (refusal_once refusal (refusal_of only is))

all_ends : (input : Input) (n : ℕ) (line : List ℕ) (entries : List Entry) (fault : InputFault) → SpellsOnly line entries → Refusal input n entries fault → EndsWith input n line fault
all_ends input n line entries fault only refusal lines result = (
  refusal_ends only refusal,
  λ is. subst (Reads n input (line ∷ lines)) (sym is) (Reads.refused (refused_by only.spelled refusal)),
)

pub twice_ends : (input : Input) (n : ℕ) (line : List ℕ) (entries : List Entry) (fault : InputFault) → SpellsOnly line entries → IsTwice n entries fault → EndsWith input n line fault
twice_ends input n line entries fault only again = all_ends input n line entries fault only (Refusal.repeats again)

pub room_ends : (input : Input) (n : ℕ) (line : List ℕ) (entries : List Entry) (fault : InputFault) → SpellsOnly line entries → repeated entries ≡ None → LacksRoom input n entries fault → EndsWith input n line fault
room_ends input n line entries fault only once lacks = all_ends input n line entries fault only (Refusal.crowds once lacks)

-- a line that spells nothing
bad_only : {input : Input} {n : ℕ} {line : List ℕ} {fault : InputFault} → ((entries : List Entry) → SpellsLine line entries → ⊥) → IsRefused input n line fault → fault ≡ BadLine n
bad_only none (IsRefused.bad_line _ _) = refl
bad_only none (IsRefused.twice spelled _) = absurd (none _ spelled)
bad_only none (IsRefused.too_many spelled _ _) = absurd (none _ spelled)
bad_only none (IsRefused.too_many_names spelled _ _ _) = absurd (none _ spelled)

bad_result : {input : Input} {n : ℕ} {line : List ℕ} {lines : List (List ℕ)} {result : Result Input InputFault} → is_blank_line line ≡ false → ((entries : List Entry) → SpellsLine line entries → ⊥) → Reads n input (line ∷ lines) result → result ≡ Err (BadLine n)
bad_result filled none (Reads.blank blank _) = absurd (both_ways _ filled blank)
bad_result filled none (Reads.taken is _) = absurd (none _ is.spelled)
bad_result filled none (Reads.refused is) = ap Err (bad_only none is)

pub bad_ends : (input : Input) (n : ℕ) (line : List ℕ) → is_blank_line line ≡ false → ((entries : List Entry) → SpellsLine line entries → ⊥) → EndsWith input n line (BadLine n)
bad_ends input n line filled none lines result = (
  bad_result filled none,
  λ is. subst (Reads n input (line ∷ lines)) (sym is) (Reads.refused (IsRefused.bad_line filled none)),
)

-- what follows from two clauses on an `Ok`
pub on_ok_both : {T E P Q R : Type 0} (r : Result T E) → OnOk r P → OnOk r Q → (P → Q → R) → OnOk r R
on_ok_both (Ok x) p q then' = then' p q
on_ok_both (Err e) p q then' = tt
