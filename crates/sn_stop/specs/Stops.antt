-- Why a command stops where a layer below has a fault.
use Rattle.sn_lexer.specs.declared.token.LexFault.{LexFault}
use Rattle.sn_lexer.specs.declared.token.LexFault.TheVariants as lex_fault
use Rattle.sn_ast.specs.declared.fault.ParseFault.{ParseFault}
use Rattle.sn_ast.specs.declared.fault.ParseFault.TheVariants as parse_fault
use Rattle.sn_label_scope.specs.declared.fault.ScopeFault.{ScopeFault}
use Rattle.sn_label_scope.specs.declared.fault.ScopeFault.TheVariants as scope
use Rattle.sn_input.specs.declared.input.InputFault.{InputFault}
use Rattle.sn_input.specs.declared.input.InputFault.TheVariants as input_fault
use Rattle.sn_names.specs.declared.fault.NamesFault.{NamesFault}
use Rattle.sn_names.specs.declared.fault.NamesFault.TheVariants as names_fault
use Rattle.sn_stop.specs.declared.refusal.LineFault.TheVariants as line
use Rattle.sn_stop.specs.declared.refusal.Refusal.TheVariants.{Source as SourceAt, NoMain, TooDeep, LargeTree, TooManyNames, Line}
use Rattle.sn_stop.specs.declared.refusal.SourceFault.TheVariants.{BadUtf8, BadChar, NumberTooWide, TextOpen, Unexpected, Unknown, Twice, Arity, GuardTag}
use Rattle.sn_stop.specs.declared.stop.Stop.{Stop}
use Rattle.sn_stop.specs.declared.stop.Stop.TheVariants as stop

abbrev pub lex_stop : LexFault → Stop
lex_stop (lex_fault.BadUtf8 at) = stop.Refused (SourceAt BadUtf8 at)
lex_stop (lex_fault.BadChar at) = stop.Refused (SourceAt BadChar at)
lex_stop (lex_fault.NumberTooWide at) = stop.Refused (SourceAt NumberTooWide at)
lex_stop (lex_fault.TextOpen at) = stop.Refused (SourceAt TextOpen at)
lex_stop lex_fault.Memory = stop.Memory

abbrev pub parse_stop : ParseFault → Stop
parse_stop (parse_fault.Unexpected at) = stop.Refused (SourceAt Unexpected at)
parse_stop (parse_fault.TooDeep at) = stop.Refused (TooDeep at)
parse_stop parse_fault.Memory = stop.Memory

abbrev pub scope_stop : ScopeFault → Stop
scope_stop (scope.Unknown at) = stop.Refused (SourceAt Unknown at)
scope_stop (scope.Twice at) = stop.Refused (SourceAt Twice at)
scope_stop (scope.Arity at) = stop.Refused (SourceAt Arity at)
scope_stop (scope.GuardTag at) = stop.Refused (SourceAt GuardTag at)
scope_stop scope.NoMain = stop.Refused NoMain
scope_stop (scope.TooLarge at) = stop.Refused (LargeTree at)
scope_stop scope.TooManyNames = stop.Refused TooManyNames
scope_stop scope.Memory = stop.Memory

abbrev pub names_stop : NamesFault → Stop
names_stop names_fault.TooMany = stop.Refused TooManyNames
names_stop names_fault.Memory = stop.Memory

abbrev pub input_stop : InputFault → Stop
input_stop (input_fault.BadLine n) = stop.Refused (Line (line.BadLine n))
input_stop (input_fault.Twice n kind name) = stop.Refused (Line (line.Twice n kind name))
input_stop (input_fault.TooMany n) = stop.Refused (Line (line.TooMany n))
input_stop input_fault.TooManyNames = stop.Refused TooManyNames
input_stop input_fault.Memory = stop.Memory
