-- Parts in a row.
use Rattle.std.specs.Prelude.{List, [], ◌∷◌, ◌++◌}
use Rattle.sn_ast.specs.Measures.{Measuring}

abbrev pub append : {A : Type 0} → List A → A → List A
append all a = all ++ (a ∷ [])

module _ {F : Type 0 → Type 0} {A : Type 0} (m : Measuring F) where
  -- no parts
  abbrev pub no_parts : F (List A)
  no_parts = m.leaf []

  -- one more part, at the end
  abbrev pub with_part : F (List A) → F A → F (List A)
  with_part all a = m.join append all a
