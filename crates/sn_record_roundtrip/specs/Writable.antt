-- Records that a line of a record file can spell: each label has a name, and each number is one of 64 bits.
use Rattle.std.specs.Prelude.{ℕ, IsTrue, IfSome, List, FitsSigned}
use Rattle.std.specs.Int.{w64}
use Rattle.std.specs.FinMap.{get, contains_key}
use Rattle.sn_record.specs.declared.label.Kind.{Kind}
use Rattle.sn_record.specs.declared.label.Kind.TheVariants.{Field, Tag}
use Rattle.sn_record.specs.declared.label.Label.{Label}
use Rattle.sn_record.specs.declared.value.Value.{Value}
use Rattle.sn_record.specs.declared.value.Value.TheOpen.{Value-F}
use Rattle.sn_record.specs.declared.value.Value.TheFolds.{every-Value}
use Rattle.sn_record.specs.Record.{Entries, IsRecord}
use Rattle.sn_names.specs.Names.{IsHeld, label_name}
use Rattle.sn_record_tokens.specs.Tokens.{SpellsName, SpellsTagName}

-- one level: a number is one of 64 bits
abbrev pub IsBounded : Value-F Value → Type 0
IsBounded (Value-F.Int n) = FitsSigned w64 n
IsBounded (Value-F.Text t) = Unit {0}
IsBounded (Value-F.List vs) = Unit {0}

-- each number in the value is, at any depth
abbrev pub AreBounded : Value → Type 0
AreBounded v = every-Value IsBounded v

-- a name of a field, or what stands in the brackets of a tag, and its bytes
abbrev pub SpellsLabel : Kind → List ℕ → List ℕ → Type 0
SpellsLabel Field word bytes = SpellsName word bytes
SpellsLabel Tag word bytes = SpellsTagName word bytes

-- the label's number is one of the names, which may be written
pub record HasName (names : List (List ℕ)) (l : Label) : Type 0 where
  pub held : IsHeld names l.id
  pub word : List ℕ
  pub spelled : SpellsLabel l.kind word (label_name names l.id)

pub record IsWritable (names : List (List ℕ)) (r : Entries) : Type 0 where
  pub sound : IsRecord r
  pub bounded : (l : Label) → IfSome (get r l) AreBounded
  pub named : (l : Label) → IsTrue (contains_key r l) → HasName names l
