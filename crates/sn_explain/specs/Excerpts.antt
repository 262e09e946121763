-- What is shown of a file for a place.
use Rattle.std.specs.Prelude.{◌≡◌, ◌≤◌, ◌<◌, ◌+◌, ℕ, List, length, slice_range}
use Rattle.sn_place.specs.Place.{IsAt, line_of}
use Rattle.sn_explain.specs.declared.excerpt.Excerpt.{Excerpt}

-- its line and column, and the part of its line that begins so many bytes into it; of a line that is not cut, all of it
pub record IsExcerpt (text : List ℕ) (at : ℕ) (x : Excerpt) : Type 0 where
  pub position : IsAt text at x.position
  pub shown : x.shown.now ≡ slice_range (line_of text at) x.from (x.from + length x.shown.now)
  pub whole : x.whole ≡ length (line_of text at)

-- the place that is shown where a line names one: the end of a text is shown in front of the line feeds that end it
pub record IsShown (text : List ℕ) (named at : ℕ) : Type 0 where
  pub fits : named ≤ length text
  pub within : at ≤ length text
  pub same : named < length text → at ≡ named
