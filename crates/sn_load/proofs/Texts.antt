-- Why a source has no canonical text.
use Rattle.std.proofs.Common.{ℕ, List}
use Rattle.sn_lexer.specs.Answer.{IsFault, LexesAs}
use Rattle.sn_lexer.specs.declared.token.LexFault.{LexFault}
use Rattle.sn_lexer.specs.declared.token.LexFault.TheVariants as lex_fault
use Rattle.sn_lexer.specs.declared.token.Token.{Token}
use Rattle.sn_parser.specs.Answer.{Faults}
use Rattle.sn_ast.specs.declared.fault.ParseFault.{ParseFault}
use Rattle.sn_ast.specs.declared.fault.ParseFault.TheVariants as parse_fault
use Rattle.sn_load.specs.Source.{WhyNoText}
use Rattle.sn_stop.specs.Stops.{lex_stop, parse_stop}

pub not_lexed : (bytes : List ℕ) (fault : LexFault) → IsFault bytes fault → WhyNoText bytes (lex_stop fault)
not_lexed bytes (lex_fault.BadUtf8 at) h = h
not_lexed bytes (lex_fault.BadChar at) h = h
not_lexed bytes (lex_fault.NumberTooWide at) h = h
not_lexed bytes (lex_fault.TextOpen at) h = h
not_lexed bytes lex_fault.Memory h = tt

pub not_parsed : (bytes : List ℕ) (tokens : List Token) (fault : ParseFault) → LexesAs bytes tokens → Faults bytes tokens fault → WhyNoText bytes (parse_stop fault)
not_parsed bytes tokens (parse_fault.Unexpected at) l h = record { tokens = tokens; lexed = l; faults = h }
not_parsed bytes tokens (parse_fault.TooDeep at) l h = record { tokens = tokens; lexed = l; faults = h }
not_parsed bytes tokens parse_fault.Memory l h = tt
