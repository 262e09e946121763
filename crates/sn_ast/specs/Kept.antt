-- What a parser keeps of a part: the part with its measures, or nothing once it is past a limit.
use Rattle.std.specs.Prelude.{ℕ, List, map, ◌&&◌, nat_le, nat_lt, Option, Some, None, if◌then◌else◌}
use Rattle.std.specs.Option.{option_map}
use Rattle.sn_ast.specs.Measures.{Measuring, measured}
use Rattle.sn_ast.specs.declared.measure.Measured.{Measured}

abbrev pub Kept : Type 0 → Type 0
Kept A = Option (Measured A)

abbrev pub keep : {A : Type 0} → Measured A → Kept A
keep p = if nat_le p.height 64 && nat_le p.open_at_once 128 then Some p else None

-- the same of parts that each have a place
abbrev pub keep_all : {A : Type 0} → List (ℕ × Measured A) → List (ℕ × Kept A)
keep_all parts = map (λ part. (part.0, keep part.1)) parts

abbrev joined : {A B C : Type 0} → (A → B → C) → Kept A → Kept B → Kept C
joined f (Some p) (Some q) = Some (measured.join f p q)
joined f (Some p) None = None
joined f None q = None

abbrev raised : {A : Type 0} → Kept A → Kept A
raised None = None
raised (Some p) = if nat_lt p.height 64 then Some (measured.raise p) else None

abbrev enclosed : {A : Type 0} → Kept A → Kept A
enclosed None = None
enclosed (Some p) = if nat_lt p.open_at_once 128 then Some (measured.parens p) else None

-- how the grammar puts together what is kept
abbrev pub kept : Measuring Kept
kept = record {
  leaf = λ a. Some (measured.leaf a);
  each = λ f p. option_map (measured.each f) p;
  join = joined;
  raise = raised;
  parens = enclosed;
}

abbrev pub pair : {A B : Type 0} → A → B → A × B
pair a b = (a, b)
