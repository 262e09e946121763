-- What the calls make of a long input, piece by piece.
use Rattle.std.specs.Prelude.{◌≡◌, ◌≤◌, ◌++◌, ℕ, ◌↔◌, List, [], map, take, Option, None, Some, IfSome}
use Rattle.sn_io.specs.Told.{appended, AppendsPrefix}
use Rattle.sn_record.specs.declared.item.Fault.{Fault}
use Rattle.sn_record.specs.declared.item.Item.{Item}
use Rattle.sn_net.specs.declared.net.Claim.{Claim}
use Rattle.sn_net.specs.Item.{ModelItem, modelled}
use Rattle.sn_model.specs.declared.run.Run.{Run}
use Rattle.sn_pieces.specs.declared.cause.LineCause.{LineCause}
use Rattle.sn_pieces.specs.Reader.{Begins}
use Rattle.sn_feed.specs.declared.feed.Feed.{Feed}
use Rattle.sn_feed.specs.declared.feed.TheConstants.{MOST_INPUT}
use Rattle.sn_feed.specs.declared.stop.FeedStop.{FeedStop}
use Rattle.sn_feed.specs.declared.stop.FeedStop.TheVariants as feed_stop
use Rattle.sn_feed.specs.Going.{Given}
use Rattle.sn_feed.specs.Known.{KnowsItems}
use Rattle.sn_feed.specs.Still.{IsAnswer, KnowsAtLine, Still, StillBehind, StopsAtEnd, StopsFeed, ends, is_of, names_of}
use Rattle.sn_output.specs.Printed.{ending, printed}
use Rattle.sn_stop.specs.declared.refusal.Which.TheVariants.{Input}
use Rattle.sn_stop.specs.declared.stop.Stop.{Stop}
use Rattle.sn_stop.specs.declared.stop.Stop.TheVariants as stop
use Rattle.sn_plain.specs.Feeding.{Fed, IsFed, IsFedInPart, cause_refusal}
use Rattle.sn_plain.specs.Runs.{GotPart, HasFailed, Printout, WhyCutOff, cut_by, ended}
use Rattle.sn_plain.specs.Seen.{File, FileFailed, Sink, SinkFailed}

-- a feed of the run that was just started, for an input of the claim's type
pub record Starts (run : Run) (claim : Claim) (feed : Feed) : Type 0 where
  pub is : is_of feed run
  pub still : (bytes : List ℕ) (given : Given) → Still feed bytes given ↔ IsAnswer run claim (names_of feed) bytes given

-- ---- a part of the input

-- why it was not read
abbrev pub WhyPartUnread : File → Stop → Type 0
WhyPartUnread file (stop.Refused refusal) = ⊥
WhyPartUnread file (stop.Faulted fault) = ⊥
WhyPartUnread file (stop.Unread which) = (which ≡ Input) × FileFailed file
WhyPartUnread file stop.Memory = Unit {0}
WhyPartUnread file stop.Write = ⊥

-- ---- a line that is refused

-- what stands before it is printed, up to a fault among it, and why the command stops then
abbrev pub ToldAtLine : ℕ → LineCause → List ModelItem → List (List ℕ) → Sink → Stop → Type 0
ToldAtLine number cause xs names out (stop.Refused refusal) = (refusal ≡ cause_refusal number cause) × (ending xs ≡ None) × (out.now ≡ appended out.before (printed names xs))
ToldAtLine number cause xs names out (stop.Faulted fault) = (ending xs ≡ Some fault) × (out.now ≡ appended out.before (printed names xs))
ToldAtLine number cause xs names out (stop.Unread which) = ⊥
ToldAtLine number cause xs names out stop.Memory = AppendsPrefix out.before out.now (printed names xs)
ToldAtLine number cause xs names out stop.Write = SinkFailed out × AppendsPrefix out.before out.now (printed names xs)

abbrev pub IsToldStop : FeedStop → Sink → Stop → Type 0
IsToldStop (feed_stop.Line number cause items names) out why = ToldAtLine number cause (map modelled items) names out why
IsToldStop feed_stop.Memory out why = (why ≡ stop.Memory) × (out.now ≡ out.before)

-- ---- a piece

-- the feed goes on behind the piece, and what it gave is printed, up to a fault among it
pub record CameThrough (run : Run) (feed : Feed) (bytes : List ℕ) (out : Sink) (next : Feed) (fault : Option Fault) : Type 0 where
  pub items : List Item
  pub is : is_of next run
  pub begins : Begins (names_of feed) (names_of next)
  pub went : (more : List ℕ) (given : Given) → Still feed (bytes ++ more) given ↔ StillBehind items next more given
  pub known : KnowsItems (names_of next) items
  pub fault_is : fault ≡ ending (map modelled items)
  pub whole : out.now ≡ appended out.before (printed (names_of next) (map modelled items))

-- a line of the piece is refused, or what it gave is not all printed
pub data WhyPieceStopped (feed : Feed) (bytes : List ℕ) (out : Sink) (why : Stop) : Type 0 where
  at_line : (told : FeedStop) → StopsFeed feed bytes told → KnowsAtLine told → IsToldStop told out why → WhyPieceStopped feed bytes out why
  cut_off : (next : Feed) (items : List Item) → Begins (names_of feed) (names_of next) → ((more : List ℕ) (given : Given) → Still feed (bytes ++ more) given ↔ StillBehind items next more given) →
      KnowsItems (names_of next) items → WhyCutOff out (printed (names_of next) (map modelled items)) why → WhyPieceStopped feed bytes out why

-- ---- the end

pub record CameToEnd (feed : Feed) (out : Sink) (fault : Option Fault) : Type 0 where
  pub names : List (List ℕ)
  pub items : List Item
  pub ended_is : (given : Given) → Still feed [] given ↔ (given ≡ ends names items)
  pub known : KnowsItems names items
  pub fault_is : fault ≡ ending (map modelled items)
  pub whole : out.now ≡ appended out.before (printed names (map modelled items))

pub data WhyEndStopped (feed : Feed) (out : Sink) (why : Stop) : Type 0 where
  at_line : (told : FeedStop) → StopsAtEnd feed told → KnowsAtLine told → IsToldStop told out why → WhyEndStopped feed out why
  cut_off : (names : List (List ℕ)) (items : List Item) → ((given : Given) → Still feed [] given ↔ (given ≡ ends names items)) → KnowsItems names items →
      WhyCutOff out (printed names (map modelled items)) why → WhyEndStopped feed out why

-- ---- all pieces

-- The bytes that were read gave these items, which no fault ends, and they are printed.
pub record IsFedSoFar (run : Run) (claim : Claim) (names : List (List ℕ)) (told : Option (List ℕ)) (from : ℕ) (first now : Option (List ℕ)) (feed : Feed) : Type 0 where
  pub taken : List ℕ
  pub items : List Item
  pub within : from ≤ MOST_INPUT
  pub told_are : IfSome told (λ bytes. taken ≡ take from bytes)
  pub is : is_of feed run
  pub answers : (more : List ℕ) (given : Given) → IsAnswer run claim names (taken ++ more) given ↔ StillBehind items feed more given
  pub known : KnowsItems (names_of feed) items
  pub going : ending (map modelled items) ≡ None
  pub held : now ≡ appended first (printed (names_of feed) (map modelled items))

-- the whole answer is printed
abbrev pub HasFed : Fed → File → Sink → Option Fault → Type 0
HasFed fed input out fault = (p : List ℕ) × IfSome input.told (λ bytes. IsFed fed bytes (ended p fault)) × (out.now ≡ appended out.before p)

-- it begins so
abbrev pub BeginsFed : Fed → File → Printout → Type 0
BeginsFed fed input p = IfSome input.told (λ bytes. IsFedInPart fed bytes p)

-- a line or the size of the input is refused, a read of it failed, memory was wanted or the sink failed
abbrev pub WhyNotFed : Fed → File → Sink → Stop → Type 0
WhyNotFed fed input out (stop.Refused refusal) = (p : List ℕ) × IfSome input.told (λ bytes. IsFed fed bytes (cut_by p refusal)) × (out.now ≡ appended out.before p)
WhyNotFed fed input out (stop.Faulted fault) = (p : List ℕ) × IfSome input.told (λ bytes. IsFed fed bytes (ended p (Some fault))) × (out.now ≡ appended out.before p)
WhyNotFed fed input out (stop.Unread which) = (which ≡ Input) × FileFailed input × GotPart (BeginsFed fed input) out
WhyNotFed fed input out stop.Memory = GotPart (BeginsFed fed input) out
WhyNotFed fed input out stop.Write = HasFailed (BeginsFed fed input) out
