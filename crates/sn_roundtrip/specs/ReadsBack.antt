-- What it means that the canonical text of a program reads back as the program.
use Rattle.std.specs.Prelude.{◌≡◌, List}
use Rattle.sn_ast.specs.declared.declaration.Program.{Program}
use Rattle.sn_lexer.specs.Answer.{LexesAs}
use Rattle.sn_lexer.specs.declared.token.Token.{Token}
use Rattle.sn_parser.specs.Answer.{Spell}
use Rattle.sn_print.specs.Declarations.{program_text}
use Rattle.sn_roundtrip.specs.Unplaced.{unplaced}

-- the text has tokens; within the limits they spell a program, which is the same apart from places
pub record ReadsBack (program : Program) : Type 0 where
  pub tokens : List Token
  pub lexed : LexesAs (program_text program) tokens
  pub again : Program
  pub spelled : Spell (program_text program) tokens again
  pub same : unplaced again ≡ unplaced program
