-- The grammar of a line of a record file, over its tokens.
use Rattle.std.specs.Prelude.{◌≡◌, ℕ, ℤ, List, [], ◌∷◌}
use Rattle.sn_record.specs.declared.label.Kind.TheVariants as kind
use Rattle.sn_record.specs.declared.value.Value.{Value}
use Rattle.sn_record.specs.declared.value.Value.TheVariants as value
use Rattle.sn_record.specs.Value.{IsSound}
use Rattle.sn_record_tokens.specs.declared.token.Mark.TheVariants as mark
use Rattle.sn_record_tokens.specs.declared.token.Token.{Token}
use Rattle.sn_record_tokens.specs.declared.token.Token.TheVariants.{Mark, Name, Tag, Number, Text}
use Rattle.sn_record_parser.specs.declared.entry.WrittenLabel.{WrittenLabel}
use Rattle.sn_record_parser.specs.declared.entry.Entry.{Entry}

mutual
  -- value = number | text | "[" "]" | "[" value more; a value in front of the tokens, and what follows it
  pub data IsValue : List Token → Value → List Token → Type 0 where
    number : {n : ℤ} {v : Value} {rest : List Token} → v ≡ value.Int n → IsValue (Number n ∷ rest) v rest
    text : {t : List ℕ} {v : Value} {rest : List Token} → v ≡ value.Text t → IsValue (Text t ∷ rest) v rest
    empty : {v : Value} {rest : List Token} → v ≡ value.List [] → IsValue (Mark mark.OpenList ∷ Mark mark.CloseList ∷ rest) v rest
    list : {first last rest : List Token} {v w : Value} {vs : List Value} → IsValue first v last → AreMore last vs rest → w ≡ value.List (v ∷ vs) → IsValue (Mark mark.OpenList ∷ first) w rest

  -- more = "]" | "," value more; further values of a list, up to its end
  pub data AreMore : List Token → List Value → List Token → Type 0 where
    end : {rest : List Token} → AreMore (Mark mark.CloseList ∷ rest) [] rest
    next : {first last rest : List Token} {v : Value} {vs : List Value} → IsValue first v last → AreMore last vs rest → AreMore (Mark mark.Comma ∷ first) (v ∷ vs) rest

abbrev pub field : List ℕ → WrittenLabel
field name = record { kind = kind.Field; name = name }

abbrev pub tag : List ℕ → WrittenLabel
tag name = record { kind = kind.Tag; name = name }

-- an entry in front of the tokens, and what follows it; a record may hold its value
pub data IsEntry : List Token → Entry → List Token → Type 0 where
  -- NAME "=" value | TAG "=" number
  field_at : {name : List ℕ} {v : Value} {first rest : List Token} {e : Entry} → IsValue first v rest → IsSound v → e ≡ record { label = field name; value = v } → IsEntry (Name name ∷ Mark mark.Equals ∷ first) e rest
  tag_at : {name : List ℕ} {n : ℤ} {rest : List Token} {e : Entry} → e ≡ record { label = tag name; value = value.Int n } → IsEntry (Tag name ∷ Mark mark.Equals ∷ Number n ∷ rest) e rest

-- further entries of a record, up to its end
pub data AreFurther : List Token → List Entry → List Token → Type 0 where
  -- "}" | "," entry further
  end : {rest : List Token} → AreFurther (Mark mark.CloseRecord ∷ rest) [] rest
  next : {first last rest : List Token} {e : Entry} {es : List Entry} → IsEntry first e last → AreFurther last es rest → AreFurther (Mark mark.Comma ∷ first) (e ∷ es) rest

-- the entries that the tokens of a line spell
pub data IsLine : List Token → List Entry → Type 0 where
  -- "{" "}" | "{" entry further
  empty : IsLine (Mark mark.OpenRecord ∷ Mark mark.CloseRecord ∷ []) []
  entries : {first last : List Token} {e : Entry} {es : List Entry} → IsEntry first e last → AreFurther last es [] → IsLine (Mark mark.OpenRecord ∷ first) (e ∷ es)
