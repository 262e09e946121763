-- What it means to read a source of the whole language, and to print it.
use Rattle.std.specs.Prelude.{◌≡◌, ℕ, List, Result, Ok, Err}
use Rattle.sn_ast.specs.declared.declaration.Program.{Program}
use Rattle.sn_lexer.specs.Answer.{LexesAs, IsFault}
use Rattle.sn_lexer.specs.declared.token.LexFault.TheVariants as lex_fault
use Rattle.sn_lexer.specs.declared.token.Token.{Token}
use Rattle.sn_parser.specs.Answer.{Faults, Spell}
use Rattle.sn_ast.specs.declared.fault.ParseFault.{ParseFault}
use Rattle.sn_ast.specs.declared.fault.ParseFault.TheVariants as parse_fault
use Rattle.sn_print.specs.Declarations.{program_text}
use Rattle.sn_stop.specs.declared.refusal.Refusal.{Refusal}
use Rattle.sn_stop.specs.declared.refusal.Refusal.TheVariants.{TooLarge, Source as SourceAt, NoMain, TooDeep, LargeTree, TooManyNames, IllTyped, Variants, Line, Trace}
use Rattle.sn_stop.specs.declared.refusal.SourceFault.{SourceFault}
use Rattle.sn_stop.specs.declared.refusal.SourceFault.TheVariants.{BadUtf8, BadChar, NumberTooWide, TextOpen, Unexpected, Unknown, Twice, Arity, GuardTag}
use Rattle.sn_stop.specs.declared.stop.Stop.{Stop}
use Rattle.sn_stop.specs.declared.stop.Stop.TheVariants as stop

-- the bytes are the text of tokens, and those are the program
pub record IsSource (bytes : List ℕ) (program : Program) : Type 0 where
  pub tokens : List Token
  pub lexed : LexesAs bytes tokens
  pub spelled : Spell bytes tokens program

-- the canonical text of the source
pub record HasText (bytes text : List ℕ) : Type 0 where
  pub program : Program
  pub read : IsSource bytes program
  pub text_is : text ≡ program_text program

-- the bytes are the text of tokens, and those are refused
pub record IsRefused (bytes : List ℕ) (fault : ParseFault) : Type 0 where
  pub tokens : List Token
  pub lexed : LexesAs bytes tokens
  pub faults : Faults bytes tokens fault

-- what is wrong in the source as it is read, and where; whether names are resolved is not asked
abbrev pub IsWrong : List ℕ → SourceFault → ℕ → Type 0
IsWrong bytes BadUtf8 at = IsFault bytes (lex_fault.BadUtf8 at)
IsWrong bytes BadChar at = IsFault bytes (lex_fault.BadChar at)
IsWrong bytes NumberTooWide at = IsFault bytes (lex_fault.NumberTooWide at)
IsWrong bytes TextOpen at = IsFault bytes (lex_fault.TextOpen at)
IsWrong bytes Unexpected at = IsRefused bytes (parse_fault.Unexpected at)
IsWrong bytes Unknown at = ⊥
IsWrong bytes Twice at = ⊥
IsWrong bytes Arity at = ⊥
IsWrong bytes GuardTag at = ⊥

-- what the source is found to be
abbrev pub FindsSource : List ℕ → Result (List ℕ) Refusal → Type 0
FindsSource bytes (Ok text) = HasText bytes text
FindsSource bytes (Err (TooLarge which)) = ⊥
FindsSource bytes (Err (SourceAt fault at)) = IsWrong bytes fault at
FindsSource bytes (Err NoMain) = ⊥
FindsSource bytes (Err (TooDeep at)) = IsRefused bytes (parse_fault.TooDeep at)
FindsSource bytes (Err (LargeTree at)) = ⊥
FindsSource bytes (Err TooManyNames) = ⊥
FindsSource bytes (Err (IllTyped fault at variant)) = ⊥
FindsSource bytes (Err (Variants at)) = ⊥
FindsSource bytes (Err (Line fault)) = ⊥
FindsSource bytes (Err (Trace fault)) = ⊥

-- why there is no text
abbrev pub WhyNoText : List ℕ → Stop → Type 0
WhyNoText bytes (stop.Refused refusal) = FindsSource bytes (Err refusal)
WhyNoText bytes (stop.Faulted fault) = ⊥
WhyNoText bytes (stop.Unread which) = ⊥
WhyNoText bytes stop.Memory = Unit {0}
WhyNoText bytes stop.Write = ⊥
