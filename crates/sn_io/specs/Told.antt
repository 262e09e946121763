-- What a sink holds, where it is told.
use Rattle.std.specs.Prelude.{◌≡◌, ℕ, List, ◌++◌, Option, Some, None}

-- what is held once bs were appended
abbrev pub appended : Option (List ℕ) → List ℕ → Option (List ℕ)
appended None bs = None
appended (Some held) bs = Some (held ++ bs)

-- some first bytes of bs were appended, and no others
pub record AppendsPrefix (before now : Option (List ℕ)) (bs : List ℕ) : Type 0 where
  pub piece : List ℕ
  pub rest : List ℕ
  pub whole : piece ++ rest ≡ bs
  pub held : now ≡ appended before piece
