-- Statuses, and the lines on `err`.
use Rattle.std.specs.Prelude.{ℕ, List, [], ◌++◌, codes}
use Rattle.std.specs.Fmt.{decimal}
use Rattle.sn_record.specs.declared.item.FaultKind.{FaultKind}
use Rattle.sn_record.specs.declared.item.FaultKind.TheVariants as kind
use Rattle.sn_output.specs.Line.{printed_label}
use Rattle.sn_stop.specs.declared.status.Status.{Status}
use Rattle.sn_stop.specs.declared.status.Status.TheVariants as status
use Rattle.sn_stop.specs.declared.refusal.Which.{Which}
use Rattle.sn_stop.specs.declared.refusal.Which.TheVariants.{Source, Input, Trace as TraceFile}
use Rattle.sn_stop.specs.declared.refusal.Refusal.{Refusal}
use Rattle.sn_stop.specs.declared.refusal.Refusal.TheVariants.{TooLarge, Source as SourceAt, NoMain, TooDeep, LargeTree, TooManyNames, IllTyped, Variants, Line, Trace}
use Rattle.sn_stop.specs.declared.refusal.LineFault.{LineFault}
use Rattle.sn_stop.specs.declared.refusal.LineFault.TheVariants as line
use Rattle.sn_stop.specs.declared.refusal.SourceFault.{SourceFault}
use Rattle.sn_stop.specs.declared.refusal.TraceRefusal.{TraceRefusal}
use Rattle.sn_stop.specs.declared.refusal.TraceRefusal.TheVariants as trace
use Rattle.sn_stop.specs.declared.refusal.TypeFault.{TypeFault}
use Rattle.sn_stop.specs.declared.refusal.TypeFault.TheVariants as type
use Rattle.sn_stop.specs.declared.refusal.SourceFault.TheVariants.{BadUtf8, BadChar, NumberTooWide, TextOpen, Unexpected, Unknown, Twice, Arity, GuardTag}
use Rattle.sn_stop.specs.declared.stop.Stop.{Stop}
use Rattle.sn_stop.specs.declared.stop.Stop.TheVariants as stop

abbrev pub status_code : Status → ℕ
status_code status.Ok = 0
status_code status.Usage = 2
status_code status.Read = 3
status_code status.Source = 4
status_code status.IllTyped = 5
status_code status.Input = 6
status_code status.Fault = 7
status_code status.Memory = 8
status_code status.Write = 9
status_code status.TooLarge = 10
status_code status.Limit = 11
status_code status.Trace = 13

-- a line that is wrong, a record that is not of the input type, one that is one too many, and a line that is too long
abbrev pub line_status : LineFault → Status
line_status (line.BadLine n) = status.Input
line_status (line.Twice n kind name) = status.Input
line_status (line.Untyped n) = status.Input
line_status (line.TooMany n) = status.Limit
line_status (line.TooLong n) = status.Limit

abbrev pub refusal_status : Refusal → Status
refusal_status (TooLarge which) = status.TooLarge
refusal_status (SourceAt fault at) = status.Source
refusal_status NoMain = status.Source
refusal_status (TooDeep at) = status.Limit
refusal_status (LargeTree at) = status.Limit
refusal_status TooManyNames = status.Limit
refusal_status (IllTyped fault at variant) = status.IllTyped
refusal_status (Variants at) = status.Limit
refusal_status (Line fault) = line_status fault
refusal_status (Trace fault) = status.Trace

abbrev pub stop_status : Stop → Status
stop_status (stop.Refused refusal) = refusal_status refusal
stop_status (stop.Faulted fault) = status.Fault
stop_status (stop.Unread which) = status.Read
stop_status stop.Memory = status.Memory
stop_status stop.Write = status.Write

abbrev pub name_of : Which → List ℕ → List ℕ → List ℕ → List ℕ
name_of Source source input text = source
name_of Input source input text = input
name_of TraceFile source input text = text

abbrev pub fault_label : SourceFault → List ℕ
fault_label BadUtf8 = codes "source: BadUtf8 at "
fault_label BadChar = codes "source: BadChar at "
fault_label NumberTooWide = codes "source: NumberTooWide at "
fault_label TextOpen = codes "source: TextOpen at "
fault_label Unexpected = codes "source: Unexpected at "
fault_label Unknown = codes "source: Unknown at "
fault_label Twice = codes "source: Twice at "
fault_label Arity = codes "source: Arity at "
fault_label GuardTag = codes "source: GuardTag at "

abbrev pub type_label : TypeFault → List ℕ
type_label type.NoRoute = codes "type: NoRoute at "
type_label type.BadOutput = codes "type: BadOutput at "

abbrev pub line_label : LineFault → List ℕ
line_label (line.BadLine n) = codes "input: BadLine "
line_label (line.Twice n kind name) = codes "input: Twice "
line_label (line.Untyped n) = codes "input: Untyped "
line_label (line.TooMany n) = codes "limit: Records at line "
line_label (line.TooLong n) = codes "limit: Line "

abbrev pub trace_label : TraceRefusal → List ℕ
trace_label (trace.BadLine n) = codes "trace: BadLine "
trace_label (trace.NotEnabled n) = codes "trace: NotEnabled "
trace_label trace.Unfinished = codes "trace: Unfinished"

abbrev pub ending_label : FaultKind → List ℕ
ending_label kind.Fuel = codes "fault: Fuel at "
ending_label kind.Overflow = codes "fault: Overflow at "
ending_label kind.DivZero = codes "fault: DivZero at "
ending_label kind.Kind = codes "fault: Kind at "
ending_label kind.Index = codes "fault: Index at "
ending_label kind.Depth = codes "fault: Depth at "

abbrev pub refusal_label : Refusal → List ℕ
refusal_label (TooLarge which) = codes "too large: "
refusal_label (SourceAt fault at) = fault_label fault
refusal_label NoMain = codes "source: NoMain"
refusal_label (TooDeep at) = codes "limit: TooDeep at "
refusal_label (LargeTree at) = codes "limit: TooLarge at "
refusal_label TooManyNames = codes "limit: Names"
refusal_label (IllTyped fault at variant) = type_label fault
refusal_label (Variants at) = codes "limit: Variants at "
refusal_label (Line fault) = line_label fault
refusal_label (Trace fault) = trace_label fault

abbrev pub stop_label : Stop → List ℕ
stop_label (stop.Refused refusal) = refusal_label refusal
stop_label (stop.Faulted fault) = ending_label fault.kind
stop_label (stop.Unread which) = codes "read: "
stop_label stop.Memory = codes "memory"
stop_label stop.Write = codes "write"

-- the number of the line
abbrev pub line_number : LineFault → ℕ
line_number (line.BadLine n) = n
line_number (line.Twice n kind name) = n
line_number (line.Untyped n) = n
line_number (line.TooMany n) = n
line_number (line.TooLong n) = n

abbrev pub trace_number : TraceRefusal → ℕ
trace_number (trace.BadLine n) = n
trace_number (trace.NotEnabled n) = n
trace_number trace.Unfinished = 0

abbrev pub trace_place : TraceRefusal → List ℕ
trace_place (trace.BadLine n) = decimal n
trace_place (trace.NotEnabled n) = decimal n
trace_place trace.Unfinished = []

abbrev pub refusal_name : Refusal → List ℕ → List ℕ → List ℕ → List ℕ
refusal_name (TooLarge which) source input text = name_of which source input text
refusal_name (SourceAt fault at) source input text = decimal at
refusal_name NoMain source input text = []
refusal_name (TooDeep at) source input text = decimal at
refusal_name (LargeTree at) source input text = decimal at
refusal_name TooManyNames source input text = []
refusal_name (IllTyped fault at variant) source input text = decimal at
refusal_name (Variants at) source input text = decimal at
refusal_name (Line fault) source input text = decimal (line_number fault)
refusal_name (Trace fault) source input text = trace_place fault

abbrev pub stop_name : Stop → List ℕ → List ℕ → List ℕ → List ℕ
stop_name (stop.Refused refusal) source input text = refusal_name refusal source input text
stop_name (stop.Faulted fault) source input text = decimal fault.place
stop_name (stop.Unread which) source input text = name_of which source input text
stop_name stop.Memory source input text = []
stop_name stop.Write source input text = []

-- the place in the source, or the number of the input's or the trace's line, that the line on `err` speaks of
abbrev pub refusal_place : Refusal → ℕ
refusal_place (TooLarge which) = 0
refusal_place (SourceAt fault at) = at
refusal_place NoMain = 0
refusal_place (TooDeep at) = at
refusal_place (LargeTree at) = at
refusal_place TooManyNames = 0
refusal_place (IllTyped fault at variant) = at
refusal_place (Variants at) = at
refusal_place (Line fault) = line_number fault
refusal_place (Trace fault) = trace_number fault

abbrev pub stop_place : Stop → ℕ
stop_place (stop.Refused refusal) = refusal_place refusal
stop_place (stop.Faulted fault) = fault.place
stop_place (stop.Unread which) = 0
stop_place stop.Memory = 0
stop_place stop.Write = 0

-- the label that stands twice in a line
abbrev pub line_detail : LineFault → List ℕ
line_detail (line.BadLine n) = []
line_detail (line.Twice n kind name) = codes " " ++ printed_label kind name
line_detail (line.Untyped n) = []
line_detail (line.TooMany n) = []
line_detail (line.TooLong n) = []

-- the label, or the variant for which types are wrong
abbrev pub refusal_detail : Refusal → List ℕ
refusal_detail (IllTyped fault at variant) = codes " for " ++ variant
refusal_detail (Line fault) = line_detail fault
refusal_detail refusal = []

abbrev pub stop_detail : Stop → List ℕ
stop_detail (stop.Refused refusal) = refusal_detail refusal
stop_detail why = []

-- the line on `err`, which names a file by its word
abbrev pub stop_line : Stop → List ℕ → List ℕ → List ℕ → List ℕ
stop_line why source input text = stop_label why ++ (stop_name why source input text ++ (stop_detail why ++ codes "\n"))
