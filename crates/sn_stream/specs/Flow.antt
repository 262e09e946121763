-- The rule of a stream, over what it holds and what each pass knows. It compares lists alone.
use Rattle.std.specs.Prelude.{◌≡◌, ℕ, Bool, true, false, List, [], ◌∷◌, ◌++◌, map, Option, Some}
use mathlib.Core.Option.{some}
use mathlib.Core.List.{IsPrefix}
use lib.ListN.{get_elem?}
use Rattle.sn_stream.specs.declared.item.StreamItem.{StreamItem}
use Rattle.sn_stream.specs.declared.rule.Known.{Known}

-- a stated list: each entry as a stream holds it, or nothing for one that no stream may hold
abbrev pub Stated : Type 0
Stated = List (Option StreamItem)

abbrev pub known : Bool → Bool → Stated → List StreamItem → Known
known puts gets stated moved = record { puts = puts; gets = gets; stated = stated; moved = moved }

-- the maker's pass, which knows no stated list yet, and the two passes of its split
abbrev pub maker : Known
maker = known true true [] []

abbrev pub putter : Stated → Known
putter stated = known true false stated []

abbrev pub getter : Stated → Known
getter stated = known false true stated []

-- what came to pass on a stream: which passes put and get, the stated list, and what was put and got, in order
pub record Past : Type 0 where
  pub putter : ℕ
  pub getter : ℕ
  pub stated : Stated
  pub put : List StreamItem
  pub got : List StreamItem

-- a pass that may put is the one that does, and knows what was put; one that may get knows what was got. Both know the stated list
abbrev pub Fits : Past → ℕ → Known → Type 0
Fits past pass v =
    (v.puts ≡ true → (pass ≡ past.putter) × (v.moved ≡ past.put) × (v.stated ≡ past.stated))
    × (v.gets ≡ true → (pass ≡ past.getter) × (v.moved ≡ past.got) × (v.stated ≡ past.stated))

-- What was put is what was got and then what the stream holds, and it is a beginning of the stated list.
pub record Flows (held : List StreamItem) (views : List Known) : Type 0 where
  pub past : Past
  pub order : past.put ≡ past.got ++ held
  pub begins : IsPrefix (map Some past.put) past.stated
  pub fits : (pass : ℕ) (v : Known) → get_elem? views pass ≡ some v → Fits past pass v

-- what a put tells
abbrev pub Put : Known → StreamItem → Known → Type 0
Put v x w = w ≡ known true false v.stated (v.moved ++ x ∷ [])

-- what a get tells: it got the next entry of the stated list
abbrev pub Got : Known → StreamItem → Known → Type 0
Got v x w = (w ≡ known false true v.stated (v.moved ++ x ∷ [])) × IsPrefix (map Some (v.moved ++ x ∷ [])) v.stated

-- what the stream holds is the last of what was put
abbrev pub IsLastOf : List StreamItem → List StreamItem → Type 0
IsLastOf put held = (got : List StreamItem) × (put ≡ got ++ held)

-- the stream held this at one moment, at which a pass knew this
pub record Moment (v : Known) (held : List StreamItem) : Type 0 where
  pub views : List Known
  pub pass : ℕ
  pub rule : Flows held views
  pub knows : get_elem? views pass ≡ some v
