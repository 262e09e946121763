-- What a feed still gives, and what an input gives.
use Rattle.std.specs.Prelude.{◌≡◌, ℕ, ◌↔◌, List, [], ◌++◌, map, None, Some}
use Rattle.sn_record.specs.declared.item.Item.{Item}
use Rattle.sn_net.specs.declared.net.Claim.{Claim}
use Rattle.sn_net.specs.Item.{Rec, modelled}
use Rattle.sn_model.specs.declared.run.Run.{Run}
use Rattle.sn_model.specs.Meaning.{one_list}
use Rattle.sn_model.specs.Run.{net_of, setting_of}
use Rattle.sn_input.specs.Line.{lines_of}
use Rattle.sn_once.specs.Rest.{IsOf}
use Rattle.sn_pieces.specs.declared.cause.LineCause.{LineCause}
use Rattle.sn_pieces.specs.Lines.{Reading, ReadsLines}
use Rattle.sn_pieces.specs.Reader as reader
use Rattle.sn_feed.specs.declared.feed.Feed.{Feed}
use Rattle.sn_feed.specs.declared.stop.FeedStop.{FeedStop}
use Rattle.sn_feed.specs.declared.stop.FeedStop.TheVariants as stop
use Rattle.sn_feed.specs.Known.{KnowsItems}
use Rattle.sn_feed.specs.Going.{Given, Gives}

-- The answer to some lines: those up to the first that is refused give records, and the items are the network's one answer to them on one
-- thread.
pub record IsAnswerTo (run : Run) (claim : Claim) (names lines : List (List ℕ)) (given : Given) : Type 0 where
  pub reading : Reading
  pub reads : ReadsLines claim.input 1 names lines reading
  pub items_are : given.items ≡ one_list (setting_of run) (net_of run) (map Rec reading.records)
  pub names_are : given.names ≡ reading.names
  pub refused_is : given.refused ≡ reading.refused

-- the answer to an input
abbrev pub IsAnswer : Run → Claim → List (List ℕ) → List ℕ → Given → Type 0
IsAnswer run claim names bytes given = IsAnswerTo run claim names (lines_of bytes) given

-- the feed is one of the run
abbrev pub is_of : Feed → Run → Type 0
is_of feed run = IsOf feed.once run

-- all names so far
abbrev pub names_of : Feed → List (List ℕ)
names_of feed = reader.names_of feed.reader

-- WHAT A FEED STILL GIVES ON FURTHER BYTES AND THEIR END
abbrev pub Still : Feed → List ℕ → Given → Type 0
Still feed bytes given = Gives feed.once feed.reader [] bytes given

-- these items, and behind them what the feed still gives
pub record StillBehind (items : List Item) (feed : Feed) (bytes : List ℕ) (given : Given) : Type 0 where
  pub later : Given
  pub still : Still feed bytes later
  pub is : given ≡ record later { items = map modelled items ++ later.items }

-- the last items, with all names
abbrev pub ends : List (List ℕ) → List Item → Given
ends names items = record { items = map modelled items; names = names; refused = None }

-- a line that is refused, behind the items of the lines before it in this call
abbrev pub refuses : ℕ → LineCause → List Item → List (List ℕ) → Given
refuses number cause items names = record { items = map modelled items; names = names; refused = Some (record { number = number; cause = cause }) }

-- the feed stops within the bytes at a line that is refused, whatever comes behind them; want of memory says nothing
abbrev pub StopsFeed : Feed → List ℕ → FeedStop → Type 0
StopsFeed feed bytes (stop.Line number cause items names) = (more : List ℕ) (given : Given) → Still feed (bytes ++ more) given ↔ (given ≡ refuses number cause items names)
StopsFeed feed bytes stop.Memory = Unit {0}

-- the items of a line that is refused are known to its names
abbrev pub KnowsAtLine : FeedStop → Type 0
KnowsAtLine (stop.Line number cause items names) = KnowsItems names items
KnowsAtLine stop.Memory = Unit {0}

-- the last line is refused
abbrev pub StopsAtEnd : Feed → FeedStop → Type 0
StopsAtEnd feed (stop.Line number cause items names) = (given : Given) → Still feed [] given ↔ (given ≡ refuses number cause items names)
StopsAtEnd feed stop.Memory = Unit {0}
