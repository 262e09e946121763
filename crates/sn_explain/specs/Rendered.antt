-- The text that explains a line.
use Rattle.std.specs.Prelude.{◌++◌, ◌∷◌, ◌+◌, [], ℕ, Bool, List, Option, Some, None, codes, length, map, nat_lt, if◌then◌else◌}
use Rattle.std.specs.List.{flat_map}
use Rattle.std.specs.Fmt.{decimal}
use Rattle.sn_explain.specs.declared.excerpt.Excerpt.{Excerpt}
use Rattle.sn_explain.specs.declared.explanation.Explanation.{Explanation}

-- what makes a terminal go on in another colour
abbrev pub framed : Bool → List ℕ
framed paint = if paint then 27 ∷ codes "[1;34m" else []

abbrev pub marked : Bool → List ℕ
marked paint = if paint then 27 ∷ codes "[1;31m" else []

abbrev pub plain : Bool → List ℕ
plain paint = if paint then 27 ∷ codes "[0m" else []

-- as many blanks as a number has digits
abbrev pub margin : List ℕ → List ℕ
margin digits = map (λ _. 32) digits

abbrev pub cut_in_front : Excerpt → List ℕ
cut_in_front x = if nat_lt 0 x.from then codes ".. " else []

abbrev pub cut_behind : Excerpt → List ℕ
cut_behind x = if nat_lt (x.from + length x.shown.now) x.whole then codes " .." else []

abbrev pub below_cut : Excerpt → List ℕ
below_cut x = if nat_lt 0 x.from then codes "   " else []

-- the file, the line and the column
abbrev pub place_row : Bool → Excerpt → List ℕ
place_row paint x = margin (decimal x.position.line) ++ framed paint ++ codes "--> " ++ plain paint ++ x.name.now
    ++ codes ":" ++ decimal x.position.line ++ codes ":" ++ decimal x.position.column ++ 10 ∷ []

-- the line, or the part of it that is shown
abbrev pub line_row : Bool → Excerpt → List ℕ
line_row paint x = framed paint ++ decimal x.position.line ++ codes " | " ++ plain paint ++ cut_in_front x ++ x.shown.now ++ cut_behind x ++ 10 ∷ []

abbrev pub marks_text : Bool → Excerpt → List ℕ
marks_text paint x = marked paint ++ below_cut x ++ x.marks ++ plain paint ++ 10 ∷ []

-- what is marked of it
abbrev pub marks_row : Bool → Excerpt → List ℕ
marks_row paint x = margin (decimal x.position.line) ++ framed paint ++ codes " | " ++ marks_text paint x

abbrev pub note_row : Bool → List ℕ → List ℕ → List ℕ
note_row paint digits note = margin digits ++ framed paint ++ codes " = " ++ plain paint ++ note ++ 10 ∷ []

abbrev pub digits_beside : Option Excerpt → List ℕ
digits_beside None = 48 ∷ []
digits_beside (Some x) = decimal x.position.line

abbrev pub excerpt_rows : Bool → Option Excerpt → List ℕ
excerpt_rows paint None = []
excerpt_rows paint (Some x) = place_row paint x ++ line_row paint x ++ marks_row paint x

-- what stands below a line
abbrev pub explained : Bool → Explanation → List ℕ
explained paint e = excerpt_rows paint e.excerpt ++ flat_map (note_row paint (digits_beside e.excerpt)) e.notes
