-- From what was read, resolved and checked to what is loaded, and from a record file to its records.
use Rattle.std.proofs.Common.{◌≡◌, ℕ, ◌+◌, ◌<◌, ◌≤◌, Bool, true, false, IsTrue, List, [], ◌∷◌, ◌++◌, length, take, get_or, not, refl, sym, ap, ◌∙◌, subst, inl, inr, arith}
use Rattle.std.specs.Prelude.{None, Some, Ok, Err, Result, ◌⊎◌, slice_get}
use Rattle.std.specs.List.{All, position, position_or_len}
use Rattle.std.specs.Option.{option_and_then}
use Rattle.std.specs.FinMap as finite
use Rattle.std.proofs.lemmas.Bool.Decides.{nat_tests}
use Rattle.std.proofs.lemmas.List.{length_push}
use Rattle.std.proofs.lemmas.List.Quantifiers.{position-Some}
use Rattle.std.proofs.lemmas.List.Sums.{fails_before_first, position_or_len_is}
use Rattle.std.proofs.lemmas.Option.{slice_get-get_or}
use Rattle.sn_ast.specs.declared.declaration.Program.{Program as Tree}
use Rattle.sn_lexer.specs.Answer.{LexesAs, IsFault}
use Rattle.sn_lexer.specs.declared.token.LexFault.{LexFault}
use Rattle.sn_lexer.specs.declared.token.LexFault.TheVariants as lex_fault
use Rattle.sn_lexer.specs.declared.token.Token.{Token}
use Rattle.sn_parser.specs.Answer.{Faults}
use Rattle.sn_ast.specs.declared.fault.ParseFault.{ParseFault}
use Rattle.sn_ast.specs.declared.fault.ParseFault.TheVariants as parse_fault
use Rattle.sn_record.specs.Record.{Entries}
use Rattle.sn_net.specs.declared.expr.BoxProgram.{BoxProgram}
use Rattle.sn_net.specs.declared.net.Claim.{Claim}
use Rattle.sn_net.specs.WellFormed.{FitsBoxes}
use Rattle.sn_typing.specs.Accepted.{IsAccepted}
use Rattle.sn_flow.specs.Verdicts.{Checked}
use Rattle.sn_flow.specs.declared.fault.FlowFault.{FlowFault}
use Rattle.sn_flow.specs.declared.fault.FlowFault.TheVariants as flow_fault
use Rattle.sn_input.specs.Reading.{Reads, Reads.{end, blank, taken, refused}, ReadsFile, with_record}
use Rattle.sn_input.specs.declared.input.Input.{Input}
use Rattle.sn_input.specs.declared.input.InputFault.{InputFault}
use Rattle.sn_input.specs.declared.input.InputFault.TheVariants as input_fault
use Rattle.sn_scope.specs.Resolution.{resolution}
use Rattle.sn_scope.specs.declared.resolved.Parts.{Parts}
use Rattle.sn_label_scope.specs.declared.fault.ScopeFault.{ScopeFault}
use Rattle.sn_label_scope.specs.declared.fault.ScopeFault.TheVariants as scope
use Rattle.sn_load.specs.declared.load.Program.{Program}
use Rattle.sn_stop.specs.declared.refusal.Refusal.TheVariants.{TooLarge, Source as SourceAt, NoMain, TooDeep, LargeTree, TooManyNames, IllTyped, Variants, Line, Trace}
use Rattle.sn_stop.specs.declared.refusal.LineFault.TheVariants as wrong
use Rattle.sn_stop.specs.declared.stop.Stop.{Stop}
use Rattle.sn_stop.specs.declared.stop.Stop.TheVariants.{Refused, Faulted, Unread, Memory, Write}
use Rattle.sn_load.specs.Source.{IsSource}
use Rattle.sn_load.specs.Scope.{IsMain, RefusesClaim, TellsRefusal, WhyRefused, WhyUnloaded}
use Rattle.sn_load.specs.Load.{IsLoaded, IsTypedFile, WhyUnreadable}
use Rattle.sn_pieces.specs.Known.{is_known}
use Rattle.sn_pieces.specs.Lines.{is_of_type}
use Rattle.sn_source_labels.proofs.Sources.{source_knows}
use Rattle.sn_stream_labels.specs.Known.{Knows}
use Rattle.sn_stop.specs.Stops.{input_stop, lex_stop, parse_stop, scope_stop}

-- the first claim that is refused
module _ (parts : Parts) (i : ℕ) (claim : Claim) (here : claim ≡ get_or parts.claims i claim) (below : i < length parts.claims) (earlier : All (IsAccepted parts.boxes) (take i parts.claims)) where
  refuses : (fault : FlowFault) → Checked parts.boxes claim (Err fault) → RefusesClaim parts fault
  refuses fault is = record { index = i; claim = claim; here = slice_get-get_or parts.claims i claim below ∙ ap Some (sym here); earlier = earlier; refused = is }

  pub claim_refused : (fault : FlowFault) (why : Stop) → Checked parts.boxes claim (Err fault) → TellsRefusal parts.names fault why → WhyRefused parts why
  claim_refused (flow_fault.NoRoute at v) why is (inl told) = subst (WhyRefused parts) (sym told) (v, refuses (flow_fault.NoRoute at v) is, refl)
  claim_refused (flow_fault.NoRoute at v) why is (inr told) = subst (WhyRefused parts) (sym told) tt
  claim_refused (flow_fault.BadOutput at v) why is (inl told) = subst (WhyRefused parts) (sym told) (v, refuses (flow_fault.BadOutput at v) is, refl)
  claim_refused (flow_fault.BadOutput at v) why is (inr told) = subst (WhyRefused parts) (sym told) tt
  claim_refused (flow_fault.TooManyVariants at) why is told = subst (WhyRefused parts) (sym told) (refuses (flow_fault.TooManyVariants at) is)
  claim_refused flow_fault.Memory why is told = subst (WhyRefused parts) (sym told) tt

module _ (bytes : List ℕ) where
  -- the lexer refuses
  pub not_lexed : (fault : LexFault) → IsFault bytes fault → WhyUnloaded bytes (lex_stop fault)
  not_lexed (lex_fault.BadUtf8 at) is = is
  not_lexed (lex_fault.BadChar at) is = is
  not_lexed (lex_fault.NumberTooWide at) is = is
  not_lexed (lex_fault.TextOpen at) is = is
  not_lexed lex_fault.Memory is = tt

  -- the parser refuses
  pub not_parsed : (tokens : List Token) → LexesAs bytes tokens → (fault : ParseFault) → Faults bytes tokens fault → WhyUnloaded bytes (parse_stop fault)
  not_parsed tokens lexed (parse_fault.Unexpected at) is = record { tokens = tokens; lexed = lexed; faults = is }
  not_parsed tokens lexed (parse_fault.TooDeep at) is = record { tokens = tokens; lexed = lexed; faults = is }
  not_parsed tokens lexed parse_fault.Memory is = tt

  module _ (tree : Tree) (read : IsSource bytes tree) where
    -- a name is not resolved
    pub not_resolved : (fault : ScopeFault) → (fault ≡ scope.Memory) ⊎ (resolution tree ≡ Err fault) → WhyUnloaded bytes (scope_stop fault)
    not_resolved fault (inl is) = subst (λ f. WhyUnloaded bytes (scope_stop f)) (sym is) tt
    not_resolved (scope.Unknown at) (inr is) = record { tree = tree; read = read; refused = is }
    not_resolved (scope.Twice at) (inr is) = record { tree = tree; read = read; refused = is }
    not_resolved (scope.Arity at) (inr is) = record { tree = tree; read = read; refused = is }
    not_resolved (scope.GuardTag at) (inr is) = record { tree = tree; read = read; refused = is }
    not_resolved scope.NoMain (inr is) = record { tree = tree; read = read; refused = is }
    not_resolved (scope.TooLarge at) (inr is) = record { tree = tree; read = read; refused = is }
    not_resolved scope.TooManyNames (inr is) = record { tree = tree; read = read; refused = is }
    not_resolved scope.Memory (inr is) = tt

    module _ (parts : Parts) (is : resolution tree ≡ Ok parts) where
      -- a claim is refused
      pub not_accepted : (why : Stop) → WhyRefused parts why → WhyUnloaded bytes why
      not_accepted (Refused (TooLarge which)) why = absurd why
      not_accepted (Refused (SourceAt fault at)) why = absurd why
      not_accepted (Refused NoMain) why = absurd why
      not_accepted (Refused (TooDeep at)) why = absurd why
      not_accepted (Refused (LargeTree at)) why = absurd why
      not_accepted (Refused TooManyNames) why = absurd why
      not_accepted (Refused (IllTyped fault at variant)) why = record { parts = parts; resolved = record { tree = tree; read = read; is = is }; so = why }
      not_accepted (Refused (Variants at)) why = record { parts = parts; resolved = record { tree = tree; read = read; is = is }; so = why }
      not_accepted (Refused (Line fault)) why = absurd why
      not_accepted (Refused (Trace fault)) why = absurd why
      not_accepted (Faulted fault) why = absurd why
      not_accepted (Unread which) why = absurd why
      not_accepted Memory why = tt
      not_accepted Write why = absurd why

      -- the program is that of the source
      pub loaded : (program : Program) → IsMain parts program → IsAccepted program.boxes program.claim → FitsBoxes program.boxes program.claim.net → IsLoaded bytes program
      loaded program main accepted fits = record {
        main = record { parts = parts; resolved = record { tree = tree; read = read; is = is }; so = main };
        accepted = accepted;
        formed = fits;
        known = subst (λ (x : List (List ℕ) × List BoxProgram). Knows (is_known x.0) x.1 program.claim.net) (λ i. (sym main.names_are i, sym main.boxes_are i))
            (source_knows tree parts parts.main program.claim is main.main);
      }

-- the first place that passes a test
pub first_at : {X : Type 0} (p : X → Bool) (xs : List X) (i : ℕ) (d : X) → i < length xs → ((k : ℕ) → k < i → p (get_or xs k d) ≡ false) → p (get_or xs i d) ≡ true → Some i ≡ position p xs
first_at p xs i d below earlier passes =
    let at : position_or_len p xs ≡ i = position_or_len_is p xs i d (omega arith) earlier (λ l. passes) in
    grind (arith, nat_tests)

pub none_at : {X : Type 0} (p : X → Bool) (xs : List X) (d : X) → ((k : ℕ) → k < length xs → p (get_or xs k d) ≡ false) → None ≡ position p xs
none_at p xs d fail =
    let at : position_or_len p xs ≡ length xs = position_or_len_is p xs (length xs) d (omega arith) fail (λ l. absurd (omega arith)) in
    grind (arith, nat_tests)

un_not : (b : Bool) → not b ≡ false → IsTrue b
un_not true is = refl
un_not false is = cc

-- where no element fails a test, each passes it
module _ {X : Type 0} (p : X → Bool) (xs : List X) (none : position (λ x. not (p x)) xs ≡ None) where
  none_before : length xs ≤ position_or_len (λ x. not (p x)) xs
  none_before = grind (arith, nat_tests)

  pub all_pass : All (λ x. IsTrue (p x)) xs
  all_pass = λ k d below. un_not (p (get_or xs k d)) (fails_before_first (λ x. not (p x)) xs k d (omega (arith, none_before)))

-- as many lines as records
abbrev AreAsMany : Result Input InputFault → Type 0
AreAsMany (Ok input) = length input.lines ≡ length input.records
AreAsMany (Err fault) = Unit {0}

as_many_more : {A B : Type 0} (xs : List A) (ys : List B) (x : A) (y : B) → length xs ≡ length ys → length (xs ++ x ∷ []) ≡ length (ys ++ y ∷ [])
as_many_more xs ys x y same = length_push xs x ∙ ap (λ n. n + 1) same ∙ sym (length_push ys y)

as_many_read : (n : ℕ) (input : Input) (lines : List (List ℕ)) (result : Result Input InputFault) → Reads n input lines result → length input.lines ≡ length input.records → AreAsMany result
as_many_read n input lines result end same = same
as_many_read n input lines result (blank {n = n'} {input = input'} {line = line} {lines = lines'} {result = result'} is more) same = as_many_read (n' + 1) input' lines' result' more same
as_many_read n input lines result (taken {n = n'} {input = input'} {line = line} {entries = entries} {lines = lines'} {result = result'} is more) same =
    as_many_read (n' + 1) (with_record input' n' entries) lines' result' more (as_many_more input'.lines input'.records _ _ same)
as_many_read n input lines result (refused is) same = tt

pub lines_of_records : (names : List (List ℕ)) (bytes : List ℕ) (input : Input) → ReadsFile names bytes (Ok input) → length input.lines ≡ length input.records
lines_of_records names bytes input read = as_many_read 1 _ _ (Ok input) read refl

module _ (names : List (List ℕ)) (claim : Claim) (bytes : List ℕ) where
  -- the reader of record files refuses
  pub not_read : (fault : InputFault) → (fault ≡ input_fault.Memory) ⊎ ReadsFile names bytes (Err fault) → WhyUnreadable names claim bytes (input_stop fault)
  not_read fault (inl is) = subst (λ f. WhyUnreadable names claim bytes (input_stop f)) (sym is) tt
  not_read (input_fault.BadLine n) (inr is) = is
  not_read (input_fault.Twice n kind name) (inr is) = is
  not_read (input_fault.TooMany n) (inr is) = is
  not_read input_fault.TooManyNames (inr is) = is
  not_read input_fault.Memory (inr is) = tt

  abbrev fails : Entries → Bool
  fails r = not (is_of_type claim.input r)

  module _ (input : Input) (read : ReadsFile names bytes (Ok input)) where
    -- where a record is not of the type, its line is there
    pub line_there : (i : ℕ) → position fails input.records ≡ Some i → i < length input.lines
    line_there i first = subst (λ n. i < n) (sym (lines_of_records names bytes input read)) (position-Some fails input.records i finite.empty first).0

    pub untyped : (i n : ℕ) → position fails input.records ≡ Some i → slice_get input.lines i ≡ Some n → WhyUnreadable names claim bytes (Refused (Line (wrong.Untyped n)))
    untyped i n first line = record { input = input; read = read; first = ap (option_and_then (slice_get input.lines)) first ∙ line }

    -- else each is
    pub typed : position fails input.records ≡ None → IsTypedFile names claim bytes input
    typed none = record { read = read; typed = all_pass (is_of_type claim.input) input.records none }
