-- What is read takes a token at least.
use Rattle.std.proofs.Common.{◌<◌, List, arith, length}
use Rattle.sn_record.specs.declared.value.Value.{Value}
use Rattle.sn_record_tokens.specs.declared.token.Token.{Token}
use Rattle.sn_record_parser.specs.Grammar.{IsValue, AreMore, IsEntry, number, text, empty, list, end, next, field_at, tag_at}
use Rattle.sn_record_parser.specs.declared.entry.Entry.{Entry}

mutual
  value_shorter : {tokens rest : List Token} {v : Value} → IsValue tokens v rest → length rest < length tokens
  value_shorter (number e) = omega arith
  value_shorter (text e) = omega arith
  value_shorter (empty e) = omega arith
  value_shorter (list a m e) = let first = value_shorter a in let further = more_shorter m in omega (arith, first, further)

  more_shorter : {tokens rest : List Token} {vs : List Value} → AreMore tokens vs rest → length rest < length tokens
  more_shorter end = omega arith
  more_shorter (next a m) = let first = value_shorter a in let further = more_shorter m in omega (arith, first, further)

pub entry_shorter : {tokens rest : List Token} {e : Entry} → IsEntry tokens e rest → length rest < length tokens
entry_shorter (field_at a s e) = let value = value_shorter a in omega (arith, value)
entry_shorter (tag_at e) = omega arith
