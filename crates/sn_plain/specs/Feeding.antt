-- What comes out where an input is read in pieces.
use Rattle.std.specs.Prelude.{◌≡◌, ◌++◌, ℕ, Bool, true, false, List, [], length, map, nat_lt, Option, None, Some}
use Rattle.sn_record.specs.LabelSet.{Labels}
use Rattle.sn_record.specs.declared.item.Fault.{Fault}
use Rattle.sn_net.specs.declared.net.Claim.{Claim}
use Rattle.sn_net.specs.declared.net.Net.{Net}
use Rattle.sn_net.specs.Item.{ModelItem, Rec}
use Rattle.sn_model.specs.declared.run.Run.{Run}
use Rattle.sn_model.specs.Meaning.{Setting, one_list}
use Rattle.sn_model.specs.Run.{net_of, setting_of}
use Rattle.sn_pieces.specs.declared.cause.LineCause.{LineCause}
use Rattle.sn_pieces.specs.declared.cause.LineCause.TheVariants as cause
use Rattle.sn_pieces.specs.Lines.{Reading, ReadsLines, RefusedLine}
use Rattle.sn_feed.specs.Counted.{counted}
use Rattle.sn_feed.specs.declared.feed.TheConstants.{MOST_INPUT}
use Rattle.sn_output.specs.Printed.{ending, printed}
use Rattle.sn_stop.specs.declared.refusal.LineFault.TheVariants as line
use Rattle.sn_stop.specs.declared.refusal.Refusal.{Refusal}
use Rattle.sn_stop.specs.declared.refusal.Refusal.TheVariants.{Line, TooLarge, TooManyNames}
use Rattle.sn_stop.specs.declared.refusal.Which.TheVariants.{Input}
use Rattle.sn_load.specs.Load.{Limits, setting}
use Rattle.sn_load.specs.declared.load.Program.{Program}
use Rattle.sn_plain.specs.Runs.{Printout}

-- a network with its setting, the variants of its input, and the names that are known
pub record Fed : Type 0 where
  pub setting : Setting
  pub net : Net
  pub input : List Labels
  pub names : List (List ℕ)

abbrev pub fed_of : Limits → Program → Fed
fed_of limits program = record { setting = setting program limits; net = program.claim.net; input = program.claim.input; names = program.names }

abbrev pub fed_by : Run → Claim → List (List ℕ) → Fed
fed_by run claim names = record { setting = setting_of run; net = net_of run; input = claim.input; names = names }

-- the one answer on one thread to what was read
abbrev pub answer_of : Fed → Reading → List ModelItem
answer_of fed reading = one_list fed.setting fed.net (map Rec reading.records)

-- Some first lines of those that count are read, up to the first that is refused, and this is what is printed of the answer, up to the
-- first fault.
pub record IsFedInPart (fed : Fed) (bytes : List ℕ) (p : Printout) : Type 0 where
  pub lines : List (List ℕ)
  pub behind : List (List ℕ)
  pub first : counted bytes ≡ lines ++ behind
  pub reading : Reading
  pub reads : ReadsLines fed.input 1 fed.names lines reading
  pub bytes_are : p.bytes ≡ printed reading.names (answer_of fed reading)
  pub ending_is : p.ending ≡ ending (answer_of fed reading)

-- why a line is refused, as the refusal that names it
abbrev pub cause_refusal : ℕ → LineCause → Refusal
cause_refusal n cause.TooLong = Line (line.TooLong n)
cause_refusal n cause.BadLine = Line (line.BadLine n)
cause_refusal n (cause.Twice kind name) = Line (line.Twice n kind name)
cause_refusal n cause.TooManyNames = TooManyNames
cause_refusal n cause.Untyped = Line (line.Untyped n)

-- what is refused: nothing behind a fault, or else the line that is, or else the input where it is too long
abbrev pub refused_behind : Option Fault → Option RefusedLine → Bool → Option Refusal
refused_behind (Some fault) refused large = None
refused_behind None (Some refused) large = Some (cause_refusal refused.number refused.cause)
refused_behind None None true = Some (TooLarge Input)
refused_behind None None false = None

-- behind a fault nothing is read, and else all lines are
abbrev pub IsReadUp : Option Fault → List (List ℕ) → Type 0
IsReadUp (Some fault) behind = Unit {0}
IsReadUp None behind = behind ≡ []

-- THE ANSWER OF A FEED
pub record IsFed (fed : Fed) (bytes : List ℕ) (p : Printout) : Type 0 where
  pub part : IsFedInPart fed bytes p
  pub up : IsReadUp p.ending part.behind
  pub refused_is : p.refused ≡ refused_behind p.ending part.reading.refused (nat_lt MOST_INPUT (length bytes))
