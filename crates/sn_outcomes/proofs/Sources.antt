-- The bytes of a source are read as one thing: the program that they spell, or what is wrong there.
use Rattle.std.proofs.Common.{ℕ, List, ◌≡◌, refl, sym, ◌∙◌, ap, subst}
use Rattle.std.specs.Prelude.{Result, Ok, Err, ◌≢◌}
use Rattle.sn_ast.specs.declared.declaration.Program.{Program}
use Rattle.sn_lexer.specs.Answer.{IsFault}
use Rattle.sn_lexer.specs.declared.token.LexFault.{LexFault}
use Rattle.sn_lexer.specs.declared.token.LexFault.TheVariants as lex
use Rattle.sn_outcomes.proofs.Programs.{same_spelled, same_refused, spelled_or_refused}
use Rattle.sn_outcomes.proofs.Tokens.{same_tokens, same_refusal, tokens_or_refusal}
use Rattle.sn_parser.specs.Answer.{Faults, Spell}
use Rattle.sn_ast.specs.declared.fault.ParseFault.{ParseFault}
use Rattle.sn_ast.specs.declared.fault.ParseFault.TheVariants as parse
use Rattle.sn_print.specs.Declarations.{program_text}
use Rattle.sn_load.specs.Source.{IsSource, IsRefused, IsWrong, FindsSource}
use Rattle.sn_stop.specs.declared.refusal.Refusal.{Refusal}
use Rattle.sn_stop.specs.declared.refusal.Refusal.TheVariants.{TooLarge, Source as SourceAt, NoMain, TooDeep, LargeTree, TooManyNames, IllTyped, Variants, Line, Trace}
use Rattle.sn_stop.specs.declared.refusal.SourceFault.{SourceFault}
use Rattle.sn_stop.specs.declared.refusal.SourceFault.TheVariants.{BadUtf8, BadChar, NumberTooWide, TextOpen, Unexpected, Unknown, Twice, Arity, GuardTag}

pub same_source : (bytes : List ℕ) (program other : Program) → IsSource bytes program → IsSource bytes other → program ≡ other
same_source bytes program other p q =
    let tokens = same_tokens bytes q.tokens p.tokens q.lexed p.lexed in
    same_spelled bytes p.tokens program other p.spelled (subst (λ ts. Spell bytes ts other) tokens q.spelled)

same_wrong : (bytes : List ℕ) (fault other : ParseFault) → IsRefused bytes fault → IsRefused bytes other → fault ≢ parse.Memory → other ≢ parse.Memory → fault ≡ other
same_wrong bytes fault other f g n k =
    let tokens = same_tokens bytes g.tokens f.tokens g.lexed f.lexed in
    same_refused bytes f.tokens fault other f.faults (subst (λ ts. Faults bytes ts other) tokens g.faults) n k

source_or_wrong : (bytes : List ℕ) (program : Program) (fault : ParseFault) → IsSource bytes program → IsRefused bytes fault → fault ≡ parse.Memory
source_or_wrong bytes program fault p f =
    let tokens = same_tokens bytes f.tokens p.tokens f.lexed p.lexed in
    spelled_or_refused bytes p.tokens program fault p.spelled (subst (λ ts. Faults bytes ts fault) tokens f.faults)

-- the refusals of the lexer and of the parser; want of memory is none
abbrev lex_refusal : LexFault → Refusal
lex_refusal (lex.BadUtf8 at) = SourceAt BadUtf8 at
lex_refusal (lex.BadChar at) = SourceAt BadChar at
lex_refusal (lex.NumberTooWide at) = SourceAt NumberTooWide at
lex_refusal (lex.TextOpen at) = SourceAt TextOpen at
lex_refusal lex.Memory = NoMain

abbrev parse_refusal : ParseFault → Refusal
parse_refusal (parse.Unexpected at) = SourceAt Unexpected at
parse_refusal (parse.TooDeep at) = TooDeep at
parse_refusal parse.Memory = NoMain

-- what the bytes are read as
pub data IsRead (bytes : List ℕ) : Result Program Refusal → Type 0 where
  tree : {program : Program} → IsSource bytes program → IsRead bytes (Ok program)
  no_tokens : (fault : LexFault) → IsFault bytes fault → fault ≢ lex.Memory → IsRead bytes (Err (lex_refusal fault))
  no_tree : (fault : ParseFault) → IsRefused bytes fault → fault ≢ parse.Memory → IsRead bytes (Err (parse_refusal fault))

pub read_once : (bytes : List ℕ) (found other : Result Program Refusal) → IsRead bytes found → IsRead bytes other → found ≡ other
read_once bytes found other (IsRead.tree p) (IsRead.tree q) = ap Ok (same_source bytes _ _ p q)
read_once bytes found other (IsRead.tree p) (IsRead.no_tokens g h k) = absurd (k (tokens_or_refusal bytes p.tokens g p.lexed h))
read_once bytes found other (IsRead.tree {program = program} p) (IsRead.no_tree g h k) = absurd (k (source_or_wrong bytes program g p h))
read_once bytes found other (IsRead.no_tokens f h n) (IsRead.tree q) = absurd (n (tokens_or_refusal bytes q.tokens f q.lexed h))
read_once bytes found other (IsRead.no_tokens f h n) (IsRead.no_tokens g i k) = ap (λ x. Err (lex_refusal x)) (same_refusal bytes f g h i n k)
read_once bytes found other (IsRead.no_tokens f h n) (IsRead.no_tree g i k) = absurd (n (tokens_or_refusal bytes i.tokens f i.lexed h))
read_once bytes found other (IsRead.no_tree f h n) (IsRead.tree {program = program} q) = absurd (n (source_or_wrong bytes program f q h))
read_once bytes found other (IsRead.no_tree f h n) (IsRead.no_tokens g i k) = absurd (k (tokens_or_refusal bytes h.tokens g h.lexed i))
read_once bytes found other (IsRead.no_tree f h n) (IsRead.no_tree g i k) = ap (λ x. Err (parse_refusal x)) (same_wrong bytes f g h i n k)

-- what is wrong in a source as it is read
pub wrong_read : (bytes : List ℕ) (fault : SourceFault) (at : ℕ) → IsWrong bytes fault at → IsRead bytes (Err (SourceAt fault at))
wrong_read bytes BadUtf8 at w = IsRead.no_tokens (lex.BadUtf8 at) w (λ e. absurd cc)
wrong_read bytes BadChar at w = IsRead.no_tokens (lex.BadChar at) w (λ e. absurd cc)
wrong_read bytes NumberTooWide at w = IsRead.no_tokens (lex.NumberTooWide at) w (λ e. absurd cc)
wrong_read bytes TextOpen at w = IsRead.no_tokens (lex.TextOpen at) w (λ e. absurd cc)
wrong_read bytes Unexpected at w = IsRead.no_tree (parse.Unexpected at) w (λ e. absurd cc)
wrong_read bytes Unknown at w = absurd w
wrong_read bytes Twice at w = absurd w
wrong_read bytes Arity at w = absurd w
wrong_read bytes GuardTag at w = absurd w

pub deep_read : (bytes : List ℕ) (at : ℕ) → IsRefused bytes (parse.TooDeep at) → IsRead bytes (Err (TooDeep at))
deep_read bytes at w = IsRead.no_tree (parse.TooDeep at) w (λ e. absurd cc)

-- its canonical text
abbrev text_of : Result Program Refusal → Result (List ℕ) Refusal
text_of (Ok program) = Ok (program_text program)
text_of (Err refusal) = Err refusal

record IsText (bytes : List ℕ) (found : Result (List ℕ) Refusal) : Type 0 where
  read : Result Program Refusal
  is_read : IsRead bytes read
  is : found ≡ text_of read

refused_text : (bytes : List ℕ) (refusal : Refusal) → IsRead bytes (Err refusal) → IsText bytes (Err refusal)
refused_text bytes refusal r = record { read = Err refusal; is_read = r; is = refl }

finds_text : (bytes : List ℕ) (found : Result (List ℕ) Refusal) → FindsSource bytes found → IsText bytes found
finds_text bytes (Ok text) f = record { read = Ok f.program; is_read = IsRead.tree f.read; is = ap Ok f.text_is }
finds_text bytes (Err (TooLarge which)) f = absurd f
finds_text bytes (Err (SourceAt fault at)) f = refused_text bytes (SourceAt fault at) (wrong_read bytes fault at f)
finds_text bytes (Err NoMain) f = absurd f
finds_text bytes (Err (TooDeep at)) f = refused_text bytes (TooDeep at) (deep_read bytes at f)
finds_text bytes (Err (LargeTree at)) f = absurd f
finds_text bytes (Err TooManyNames) f = absurd f
finds_text bytes (Err (IllTyped fault at variant)) f = absurd f
finds_text bytes (Err (Variants at)) f = absurd f
finds_text bytes (Err (Line fault)) f = absurd f
finds_text bytes (Err (Trace fault)) f = absurd f

pub text_once : (bytes : List ℕ) (found other : Result (List ℕ) Refusal) → FindsSource bytes found → FindsSource bytes other → found ≡ other
text_once bytes found other f g =
    let x = finds_text bytes found f in
    let y = finds_text bytes other g in
    x.is ∙ ap text_of (read_once bytes x.read y.read x.is_read y.is_read) ∙ sym y.is
