-- What the functions of the parser answer.
use Rattle.std.specs.Prelude.{◌≡◌, ◌≤◌, ◌+◌, ◌++◌, ℕ, List, [], ◌∷◌, map, sum, Bool, true, false, IsTrue}
use Rattle.sn_record.specs.Value.{FitsIn, IsSound, every, greatest, is_printable, nesting, weight}
use Rattle.sn_record.specs.declared.value.Value.{Value}
use Rattle.sn_record_tokens.specs.declared.token.Mark.{Mark as SomeMark}
use Rattle.sn_record_tokens.specs.declared.token.Mark.TheVariants.{Comma}
use Rattle.sn_record_tokens.specs.declared.token.Token.{Token}
use Rattle.sn_record_tokens.specs.declared.token.Token.TheVariants.{Mark}
use Rattle.sn_record_parser.specs.Grammar.{IsValue, AreMore, IsEntry, AreFurther, IsLine}
use Rattle.sn_record_parser.specs.declared.entry.Entry.{Entry}
use Rattle.sn_record_parser.specs.declared.entry.EntryFault.{EntryFault}
use Rattle.sn_record_parser.specs.declared.entry.EntryFault.TheVariants.{Wrong, Memory}

-- why the tokens are wrong, where that is the fault
abbrev pub IfWrong : EntryFault → Type 0 → Type 0
IfWrong Wrong why = why
IfWrong Memory why = Unit {0}

-- the tokens are wrong, and why
abbrev pub IsWrong : EntryFault → Type 0 → Type 0
IsWrong Wrong why = why
IsWrong Memory why = ⊥

abbrev pub BeginsWith : SomeMark → List Token → Type 0
BeginsWith mark tokens = (rest : List Token) × (tokens ≡ Mark mark ∷ rest)

-- the mark that was taken: a comma, where more follows, or the closing one
abbrev pub mark_taken : SomeMark → Bool → SomeMark
mark_taken close true = Comma
mark_taken close false = close

-- a value stands in front of the tokens, fits, and leaves that much of the room
pub record HasValue (levels room : ℕ) (tokens rest : List Token) (v : Value) (left : ℕ) : Type 0 where
  pub spelled : IsValue tokens v rest
  pub fits : FitsIn levels room v
  pub spent : weight v + left ≡ room

-- no value in front of the tokens fits
abbrev pub HasNoValue : ℕ → ℕ → List Token → Type 0
HasNoValue levels room tokens = (v : Value) (rest : List Token) → IsValue tokens v rest → ¬ FitsIn levels room v

-- the values are together no heavier than the room, and each is nested at most so deep, and printable
pub record FitTogether (levels room : ℕ) (vs : List Value) : Type 0 where
  pub shallow : greatest (map nesting vs) ≤ levels
  pub light : sum (map weight vs) ≤ room
  pub printable : IsTrue (every (map is_printable vs))

-- further values were appended that fit together
pub record HasMore (levels room : ℕ) (tokens rest : List Token) (before after : List Value) (left : ℕ) : Type 0 where
  pub more : List Value
  pub spelled : AreMore tokens more rest
  pub fit : FitTogether levels room more
  pub spent : sum (map weight more) + left ≡ room
  pub appended : after ≡ before ++ more

-- no further values fit together
abbrev pub HasNoMore : ℕ → ℕ → List Token → Type 0
HasNoMore levels room tokens = (vs : List Value) (rest : List Token) → AreMore tokens vs rest → ¬ FitTogether levels room vs

-- no value in front of the tokens may stand in a record
abbrev pub HasNoSoundValue : List Token → Type 0
HasNoSoundValue tokens = (v : Value) (rest : List Token) → IsValue tokens v rest → ¬ IsSound v

abbrev pub HasNoEntry : List Token → Type 0
HasNoEntry tokens = (e : Entry) (rest : List Token) → ¬ IsEntry tokens e rest

-- further entries were appended, up to the end of the line
pub record HasFurther (tokens : List Token) (before after : List Entry) : Type 0 where
  pub further : List Entry
  pub spelled : AreFurther tokens further []
  pub appended : after ≡ before ++ further

abbrev pub HasNoFurther : List Token → Type 0
HasNoFurther tokens = (es : List Entry) → ¬ AreFurther tokens es []

abbrev pub HasNoLine : List Token → Type 0
HasNoLine tokens = (es : List Entry) → ¬ IsLine tokens es
