-- The words of the built-in source.
use Rattle.std.proofs.Common.{◌≡◌, true, List, [], ◌∷◌, refl}
use Rattle.std.specs.Prelude.{codes}
use Rattle.sn_ast.specs.declared.terminal.Keyword.TheVariants.{Box, Net, Connect, If, Out}
use Rattle.sn_ast.specs.declared.terminal.Symbol.TheVariants.{OpenParen, CloseParen, OpenBrace, CloseBrace, OpenBracket, CloseBracket, Comma, Semicolon, Assign, Equal, Plus, Minus, StarStar, BangBang, Dots, Arrow}
use Rattle.sn_ast.specs.declared.terminal.Terminal.{Terminal}
use Rattle.sn_lexer.specs.Answer.{LexesAs}
use Rattle.sn_lexer.specs.declared.token.Token.{Token}
use Rattle.sn_lexer.specs.Spelling.{is_keyword}
use Rattle.sn_sample.specs.Source.{source_text}
use Rattle.sn_terminal.specs.Words.{Say}
use Rattle.sn_sampled.proofs.Words.{Word, Name, Tag, Number, Key, Mark, Blank, are_words, words_said, words_lexed}

abbrev pub source_words : List Word
source_words =
    Key Box ∷ Blank ∷ Name (codes "twice") ∷ Blank ∷ Mark OpenParen ∷ Mark OpenParen ∷ Name (codes "v") ∷ Mark CloseParen ∷ Blank ∷ Mark Arrow ∷ Blank ∷
    Mark OpenParen ∷ Name (codes "w") ∷ Mark CloseParen ∷ Mark CloseParen ∷ Blank ∷ Mark OpenBrace ∷ Blank ∷ Key Out ∷ Blank ∷ Number (codes "1") ∷ Mark OpenParen ∷
    Name (codes "v") ∷ Blank ∷ Mark Plus ∷ Blank ∷ Name (codes "v") ∷ Mark CloseParen ∷ Blank ∷ Mark CloseBrace ∷ Blank ∷ Key Net ∷ Blank ∷ Name (codes "main") ∷
    Blank ∷ Mark OpenParen ∷ Mark OpenBrace ∷ Name (codes "v") ∷ Mark Comma ∷ Tag (codes "k") ∷ Mark Comma ∷ Tag (codes "n") ∷ Mark CloseBrace ∷ Blank ∷ Mark Arrow ∷
    Blank ∷ Mark OpenBrace ∷ Name (codes "w") ∷ Mark Comma ∷ Tag (codes "k") ∷ Mark Comma ∷ Tag (codes "n") ∷ Mark Comma ∷ Tag (codes "s") ∷ Mark CloseBrace ∷
    Mark CloseParen ∷ Blank ∷ Key Connect ∷ Blank ∷ Name (codes "twice") ∷ Blank ∷ Mark Dots ∷ Blank ∷ Mark OpenBracket ∷ Mark OpenBrace ∷ Tag (codes "n") ∷
    Mark CloseBrace ∷ Blank ∷ Mark Arrow ∷ Blank ∷ Mark OpenBrace ∷ Tag (codes "n") ∷ Mark Comma ∷ Tag (codes "s") ∷ Mark Assign ∷ Number (codes "0") ∷
    Mark CloseBrace ∷ Mark CloseBracket ∷ Blank ∷ Mark Dots ∷ Blank ∷ Mark OpenParen ∷ Mark OpenParen ∷ Mark OpenBracket ∷ Mark OpenBrace ∷ Tag (codes "n") ∷
    Mark Comma ∷ Tag (codes "s") ∷ Mark CloseBrace ∷ Blank ∷ Mark Arrow ∷ Blank ∷ Mark OpenBrace ∷ Tag (codes "n") ∷ Mark Assign ∷ Tag (codes "n") ∷ Mark Minus ∷
    Number (codes "1") ∷ Mark Comma ∷ Tag (codes "s") ∷ Mark Assign ∷ Tag (codes "s") ∷ Mark Plus ∷ Tag (codes "n") ∷ Mark CloseBrace ∷ Mark CloseBracket ∷ Blank ∷
    Mark StarStar ∷ Blank ∷ Mark OpenBrace ∷ Tag (codes "n") ∷ Mark CloseBrace ∷ Blank ∷ Key If ∷ Blank ∷ Mark OpenParen ∷ Tag (codes "n") ∷ Blank ∷ Mark Equal ∷
    Blank ∷ Number (codes "0") ∷ Mark CloseParen ∷ Mark CloseParen ∷ Blank ∷ Mark BangBang ∷ Blank ∷ Tag (codes "k") ∷ Mark CloseParen ∷ Mark Semicolon ∷ []

-- what they say, each at its place
abbrev pub source_said : List Terminal
source_said = words_said source_words 0

are : are_words source_words ≡ true
unfolding is_keyword
are = refl

pub source_lexed : (tokens : List Token) × LexesAs source_text tokens × Say source_text tokens source_said
source_lexed = words_lexed source_text source_words refl refl are
