-- What an explanation of a line says.
use Rattle.std.specs.Prelude.{◌≡◌, ◌++◌, ◌∷◌, ◌⊎◌, [], ℕ, Bool, List, IfSome, IsSomeAnd}
use Rattle.sn_place.specs.Place.{line_at}
use Rattle.sn_explain.specs.declared.kind.Shape.{Shape}
use Rattle.sn_explain.specs.declared.kind.Shape.TheVariants as shape
use Rattle.sn_explain.specs.declared.reading.Refusal.{Refusal}
use Rattle.sn_explain.specs.declared.excerpt.Excerpt.{Excerpt}
use Rattle.sn_explain.specs.declared.explanation.File.{File}
use Rattle.sn_explain.specs.declared.explanation.Given.{Given}
use Rattle.sn_explain.specs.declared.explanation.Explanation.{Explanation}
use Rattle.sn_explain.specs.Kinds.{words_of, shape_of}
use Rattle.sn_explain.specs.Numbers.{BeginsWith}
use Rattle.sn_explain.specs.Rendered.{explained}
use Rattle.sn_explain.specs.Excerpts.{IsExcerpt, IsShown}

-- the line begins with the words of the kind, and then with digits that write the number
pub record Tells (line : List ℕ) (r : Refusal) : Type 0 where
  pub rest : List ℕ
  pub spelled : line ≡ words_of r.kind ++ rest
  pub number : BeginsWith rest r.number

-- what is shown of the source for the place that the number is
abbrev pub ShowsSource : Given → ℕ → Excerpt → Type 0
ShowsSource given number x = (at : ℕ) × IsShown given.source.text.now number at × IsExcerpt given.source.text.now at x

-- what is shown of a file for the line that the number is
abbrev pub ShowsLine : File → ℕ → Excerpt → Type 0
ShowsLine file number x = (at : ℕ) × (line_at file.text.now at ≡ number) × IsExcerpt file.text.now at x

abbrev pub ShowsInput : Given → ℕ → Excerpt → Type 0
ShowsInput given number x = IsSomeAnd given.input (λ file. ShowsLine file number x)

abbrev pub Shows : Shape → Given → ℕ → Excerpt → Type 0
Shows shape.Nothing given number x = ⊥
Shows shape.Name given number x = ⊥
Shows shape.Place given number x = ShowsSource given number x
Shows shape.PlaceForVariant given number x = ShowsSource given number x
Shows shape.Line given number x = ShowsInput given number x
Shows shape.LineAndLabel given number x = ShowsInput given number x
Shows shape.TraceLine given number x = ⊥

-- it has the line as it came, and shows what the line names
pub record IsAbout (given : Given) (line : List ℕ) (e : Explanation) : Type 0 where
  pub kept : e.line.now ≡ line
  pub tells : Tells line e.refusal
  pub shows : IfSome e.excerpt (λ x. Shows (shape_of e.refusal.kind) given e.refusal.number x)

-- The line as it came is written, and behind it, if it says something of the files, what explains it.
abbrev pub IsExplained : Given → List ℕ → Bool → List ℕ → List ℕ → Type 0
IsExplained given line paint before written =
    (written ≡ before ++ line ++ 10 ∷ []) ⊎ ((e : Explanation) × IsAbout given line e × (written ≡ before ++ line ++ 10 ∷ [] ++ explained paint e))
