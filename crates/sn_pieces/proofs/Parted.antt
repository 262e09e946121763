-- Lines that are read one part after the other.
use Rattle.std.proofs.Common.{◌≡◌, ◌≢◌, ◌∙◌, ℕ, ◌≤◌, List, [], ◌∷◌, ◌++◌, length, refl, sym, ap, subst, arith}
use Rattle.std.specs.Prelude.{Option, None, Some}
use Rattle.std.proofs.lemmas.Option.{none-some}
use Rattle.sn_record.specs.LabelSet.{Labels}
use Rattle.sn_input.specs.declared.input.RecordFault.{RecordFault}
use Rattle.sn_input.specs.declared.input.RecordFault.TheVariants as fault
use Rattle.sn_pieces.specs.declared.cause.LineCause.{LineCause}
use Rattle.sn_pieces.specs.declared.cause.LineCause.TheVariants as cause
use Rattle.sn_pieces.specs.Lines.{IsCause, Reading, ReadsLines, RefusedLine, most_line, next_number, nothing, with_record}
use Rattle.sn_pieces.proofs.LineReads.{empty_reads}

-- what is read of some lines, and then of those behind them
abbrev pub followed : Reading → Reading → Reading
followed front back = record { records = front.records ++ back.records; names = back.names; refused = back.refused }

-- the first lines are read to their end, and then the others, from the number at which they begin
pub record InTurn (variants : List Labels) (n : ℕ) (names : List (List ℕ)) (lines behind : List (List ℕ)) (reading : Reading) : Type 0 where
  pub front : Reading
  pub reads : ReadsLines variants n names lines front
  pub none : front.refused ≡ None
  pub number : ℕ
  pub back : Reading
  pub reads_back : ReadsLines variants number front.names behind back
  pub is : reading ≡ followed front back
  pub others : (lines_behind : List (List ℕ)) (other : Reading) → ReadsLines variants number front.names lines_behind other → ReadsLines variants n names (lines ++ lines_behind) (followed front other)

-- one of the first lines is refused, or they are read to their end
pub data Parts (variants : List Labels) (n : ℕ) (names : List (List ℕ)) (lines behind : List (List ℕ)) (reading : Reading) : Type 0 where
  stops : ReadsLines variants n names lines reading → reading.refused ≢ None → Parts variants n names lines behind reading
  goes_on : InTurn variants n names lines behind reading → Parts variants n names lines behind reading

some_refused : (line : RefusedLine) → ◌≡◌ {A = Option RefusedLine} (Some line) None → ⊥
some_refused line is = none-some line (sym is)

pub parted : (variants : List Labels) (n : ℕ) (names : List (List ℕ)) (lines behind : List (List ℕ)) (reading : Reading) → ReadsLines variants n names (lines ++ behind) reading → Parts variants n names lines behind reading
parted variants n names [] behind reading reads = Parts.goes_on (record {
  front = nothing names;
  reads = ReadsLines.end;
  none = refl;
  number = n;
  back = reading;
  reads_back = reads;
  is = refl;
  others = λ lines_behind other is. is;
})
parted variants n names (line ∷ lines) behind _ (ReadsLines.too_long long) = Parts.stops (ReadsLines.too_long long) (some_refused _)
parted variants n names (line ∷ lines) behind reading (ReadsLines.blank {later = later} short gives more) = by (parted variants (next_number n) later lines behind reading more)
  where
    by : Parts variants (next_number n) later lines behind reading → Parts variants n names (line ∷ lines) behind reading
    by (Parts.stops reads some) = Parts.stops (ReadsLines.blank short gives reads) some
    by (Parts.goes_on t) = Parts.goes_on (record {
      front = t.front;
      reads = ReadsLines.blank short gives t.reads;
      none = t.none;
      number = t.number;
      back = t.back;
      reads_back = t.reads_back;
      is = t.is;
      others = λ lines_behind other is. ReadsLines.blank short gives (t.others lines_behind other is);
    })
parted variants n names (line ∷ lines) behind _ (ReadsLines.taken {later = later} {r = r} {reading = rest} short gives fits more) = by (parted variants (next_number n) later lines behind rest more)
  where
    by : Parts variants (next_number n) later lines behind rest → Parts variants n names (line ∷ lines) behind (with_record r rest)
    by (Parts.stops reads some) = Parts.stops (ReadsLines.taken short gives fits reads) some
    by (Parts.goes_on t) = Parts.goes_on (record {
      front = with_record r t.front;
      reads = ReadsLines.taken short gives fits t.reads;
      none = t.none;
      number = t.number;
      back = t.back;
      reads_back = t.reads_back;
      is = ap (with_record r) t.is;
      others = λ lines_behind other is. ReadsLines.taken short gives fits (t.others lines_behind other is);
    })
parted variants n names (line ∷ lines) behind _ (ReadsLines.untyped short gives differs) = Parts.stops (ReadsLines.untyped short gives differs) (some_refused _)
parted variants n names (line ∷ lines) behind _ (ReadsLines.refused short gives because) = Parts.stops (ReadsLines.refused short gives because) (some_refused _)

-- behind a line that is refused nothing is read
pub further : {variants : List Labels} {n : ℕ} {names : List (List ℕ)} {lines : List (List ℕ)} {reading : Reading} → ReadsLines variants n names lines reading → reading.refused ≢ None → (behind : List (List ℕ))
    → ReadsLines variants n names (lines ++ behind) reading
further ReadsLines.end some behind = absurd (some refl)
further (ReadsLines.too_long long) some behind = ReadsLines.too_long long
further (ReadsLines.blank short gives more) some behind = ReadsLines.blank short gives (further more some behind)
further (ReadsLines.taken short gives fits more) some behind = ReadsLines.taken short gives fits (further more some behind)
further (ReadsLines.untyped short gives differs) some behind = ReadsLines.untyped short gives differs
further (ReadsLines.refused short gives because) some behind = ReadsLines.refused short gives because

-- a short line is refused for another cause than its length
abbrev cause_in : LineCause → Option RefusedLine → LineCause
cause_in other None = other
cause_in other (Some line) = line.cause

never_caused : (f : RecordFault) → IsCause f cause.TooLong → ⊥
never_caused fault.BadLine is = cc
never_caused (fault.Twice kind name) is = cc
never_caused fault.TooManyNames is = cc
never_caused fault.Memory is = is

none_refused : (variants : List Labels) (n : ℕ) (names : List (List ℕ)) (reading : Reading) (line : RefusedLine) → ReadsLines variants n names ([] ∷ []) reading → reading.refused ≡ Some line → ⊥
none_refused variants n names reading line reads some = none-some line (sym (ap (λ (x : Reading). x.refused) ((empty_reads variants n names reading).0 reads)) ∙ some)

pub never_long : {variants : List Labels} {n : ℕ} {names : List (List ℕ)} {line : List ℕ} {reading : Reading} (k : ℕ) → length line ≤ most_line → ReadsLines variants n names (line ∷ [] ∷ []) reading
    → reading.refused ≡ Some (record { number = k; cause = cause.TooLong }) → ⊥
never_long k short (ReadsLines.too_long long) some = absurd (omega (arith, long, short))
never_long k short (ReadsLines.blank _ _ more) some = none_refused _ _ _ _ _ more some
never_long k short (ReadsLines.taken _ _ _ more) some = none_refused _ _ _ _ _ more some
never_long k short (ReadsLines.untyped _ _ _) some = let wrong : cause.Untyped ≡ cause.TooLong = ap (cause_in cause.Untyped) some in cc
never_long k short (ReadsLines.refused {fault = f} {why = why} _ _ because) some = never_caused f (subst (IsCause f) (ap (cause_in why) some) because)
