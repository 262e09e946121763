-- The built-in source.
use Rattle.std.specs.Prelude.{ℕ, List, codes}

abbrev pub source_text : List ℕ
source_text = codes "box twice ((v) -> (w)) { out 1(v + v) } net main ({v,<k>,<n>} -> {w,<k>,<n>,<s>}) connect twice .. [{<n>} -> {<n>,<s>=0}] .. (([{<n>,<s>} -> {<n>=<n>-1,<s>=<s>+<n>}] ** {<n>} if (<n> == 0)) !! <k>);"
