-- The words that a line of each kind begins with, and what stands behind them.
use Rattle.std.specs.Prelude.{ℕ, List, codes}
use Rattle.sn_explain.specs.declared.kind.Kind.{Kind}
use Rattle.sn_explain.specs.declared.kind.Kind.TheVariants as kind
use Rattle.sn_explain.specs.declared.kind.Shape.{Shape}
use Rattle.sn_explain.specs.declared.kind.Shape.TheVariants as shape

abbrev pub words_of : Kind → List ℕ
words_of kind.Usage = codes "usage: "
words_of kind.Read = codes "read: "
words_of kind.TooLarge = codes "too large: "
words_of kind.BadUtf8 = codes "source: BadUtf8 at "
words_of kind.BadChar = codes "source: BadChar at "
words_of kind.NumberTooWide = codes "source: NumberTooWide at "
words_of kind.TextOpen = codes "source: TextOpen at "
words_of kind.Unexpected = codes "source: Unexpected at "
words_of kind.Unknown = codes "source: Unknown at "
words_of kind.Twice = codes "source: Twice at "
words_of kind.Arity = codes "source: Arity at "
words_of kind.GuardTag = codes "source: GuardTag at "
words_of kind.NoMain = codes "source: NoMain"
words_of kind.NoRoute = codes "type: NoRoute at "
words_of kind.BadOutput = codes "type: BadOutput at "
words_of kind.BadLine = codes "input: BadLine "
words_of kind.TwiceOnLine = codes "input: Twice "
words_of kind.Untyped = codes "input: Untyped "
words_of kind.Fuel = codes "fault: Fuel at "
words_of kind.Overflow = codes "fault: Overflow at "
words_of kind.DivZero = codes "fault: DivZero at "
words_of kind.WrongKind = codes "fault: Kind at "
words_of kind.Index = codes "fault: Index at "
words_of kind.Depth = codes "fault: Depth at "
words_of kind.Memory = codes "memory"
words_of kind.Write = codes "write"
words_of kind.TooDeep = codes "limit: TooDeep at "
words_of kind.LargeTree = codes "limit: TooLarge at "
words_of kind.Names = codes "limit: Names"
words_of kind.Variants = codes "limit: Variants at "
words_of kind.Records = codes "limit: Records at line "
words_of kind.LongLine = codes "limit: Line "
words_of kind.BadEvent = codes "trace: BadLine "
words_of kind.NotEnabled = codes "trace: NotEnabled "
words_of kind.Unfinished = codes "trace: Unfinished"

abbrev pub shape_of : Kind → Shape
shape_of kind.Usage = shape.Name
shape_of kind.Read = shape.Name
shape_of kind.TooLarge = shape.Name
shape_of kind.BadUtf8 = shape.Place
shape_of kind.BadChar = shape.Place
shape_of kind.NumberTooWide = shape.Place
shape_of kind.TextOpen = shape.Place
shape_of kind.Unexpected = shape.Place
shape_of kind.Unknown = shape.Place
shape_of kind.Twice = shape.Place
shape_of kind.Arity = shape.Place
shape_of kind.GuardTag = shape.Place
shape_of kind.NoMain = shape.Nothing
shape_of kind.NoRoute = shape.PlaceForVariant
shape_of kind.BadOutput = shape.PlaceForVariant
shape_of kind.BadLine = shape.Line
shape_of kind.TwiceOnLine = shape.LineAndLabel
shape_of kind.Untyped = shape.Line
shape_of kind.Fuel = shape.Place
shape_of kind.Overflow = shape.Place
shape_of kind.DivZero = shape.Place
shape_of kind.WrongKind = shape.Place
shape_of kind.Index = shape.Place
shape_of kind.Depth = shape.Place
shape_of kind.Memory = shape.Nothing
shape_of kind.Write = shape.Nothing
shape_of kind.TooDeep = shape.Place
shape_of kind.LargeTree = shape.Place
shape_of kind.Names = shape.Nothing
shape_of kind.Variants = shape.Place
shape_of kind.Records = shape.Line
shape_of kind.LongLine = shape.Line
shape_of kind.BadEvent = shape.TraceLine
shape_of kind.NotEnabled = shape.TraceLine
shape_of kind.Unfinished = shape.Nothing
