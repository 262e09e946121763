-- How a part of a source is measured, and when it is within the limits.
use Rattle.std.specs.Prelude.{◌+◌, ◌≤◌, max}
use Rattle.sn_ast.specs.declared.measure.Measured.{Measured}

-- How what is read is put together. The grammar is over any such way, so that one grammar tells both the tree of
-- some tokens, with its measures, and what a parser keeps of it.
pub record Measuring (F : Type 0 → Type 0) : Type 1 where
  -- a part without parts
  pub leaf : {A : Type 0} → A → F A
  -- another value with the same measures
  pub each : {A B : Type 0} → (A → B) → F A → F B
  -- two parts side by side
  pub join : {A B C : Type 0} → (A → B → C) → F A → F B → F C
  -- a node over its parts
  pub raise : {A : Type 0} → F A → F A
  -- a part in parentheses that are counted
  pub parens : {A : Type 0} → F A → F A

-- The height of a part without parts is 0, of parts side by side the greatest of theirs, and of a node over its parts
-- one more. Parentheses add no height; each pair that is counted adds one that is open.
abbrev pub measured : Measuring Measured
measured = record {
  leaf = λ a. record { value = a; height = 0; open_at_once = 0 };
  each = λ f p. record { value = f p.value; height = p.height; open_at_once = p.open_at_once };
  join = λ f p q. record {
    value = f p.value q.value;
    height = max p.height q.height;
    open_at_once = max p.open_at_once q.open_at_once;
  };
  raise = λ p. record { value = p.value; height = p.height + 1; open_at_once = p.open_at_once };
  parens = λ p. record { value = p.value; height = p.height; open_at_once = p.open_at_once + 1 };
}

-- a height of at most 64, and at most 128 parentheses open at once
abbrev pub IsWithin : {A : Type 0} → Measured A → Type 0
IsWithin p = (p.height ≤ 64) × (p.open_at_once ≤ 128)
