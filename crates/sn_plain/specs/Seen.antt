-- The outside, as a call found it and as it left it.
use Rattle.std.specs.Prelude.{◌≡◌, ◌⊎◌, ℕ, ◌<◌, List, length, Option, IfSome}
use Rattle.sn_io.specs.Causes.{Rose}
use Rattle.sn_io.specs.Told.{appended, AppendsPrefix}
use Rattle.sn_stop.specs.declared.refusal.Which.{Which}
use Rattle.sn_stop.specs.declared.stop.Stop.{Stop}
use Rattle.sn_stop.specs.declared.stop.Stop.TheVariants as stop
use Rattle.sn_stop.specs.declared.refusal.Refusal.TheVariants.{TooLarge, Source as SourceAt, NoMain, TooDeep, LargeTree, TooManyNames, IllTyped, Variants, Line, Trace}

-- a sink: what it holds, where it is told, and its count of faults
pub record Sink : Type 0 where
  pub before : Option (List ℕ)
  pub now : Option (List ℕ)
  pub faults_before : ℕ
  pub faults_now : ℕ

abbrev pub seen_sink : {S : Type 0} → (S → Option (List ℕ)) → (S → ℕ) → S → S → Sink
seen_sink held faults old new = record { before = held old; now = held new; faults_before = faults old; faults_now = faults new }

-- a file: its bytes, where they are told, and its name's count of faults
pub record File : Type 0 where
  pub told : Option (List ℕ)
  pub faults_before : ℕ
  pub faults_now : ℕ

abbrev pub seen_file : {F : Type 0} → (F → List ℕ → Option (List ℕ)) → (F → List ℕ → ℕ) → F → F → List ℕ → File
seen_file bytes_of faults old new name = record { told = bytes_of old name; faults_before = faults old name; faults_now = faults new name }

-- the count of faults rose in the call, or stands at its last value
abbrev pub FileFailed : File → Type 0
FileFailed file = Rose file.faults_before file.faults_now

abbrev pub SinkFailed : Sink → Type 0
SinkFailed sink = Rose sink.faults_before sink.faults_now

-- the sink got the line, or some first bytes of it where its count rose
abbrev pub GotLine : Sink → List ℕ → Type 0
GotLine sink line = (sink.now ≡ appended sink.before line) ⊎ (SinkFailed sink × AppendsPrefix sink.before sink.now line)

-- why one file was not read
abbrev pub WhyUnread : Which → ℕ → File → Stop → Type 0
WhyUnread which limit file (stop.Refused (TooLarge w)) = (w ≡ which) × IfSome file.told (λ bytes. limit < length bytes)
WhyUnread which limit file (stop.Refused (SourceAt fault at)) = ⊥
WhyUnread which limit file (stop.Refused NoMain) = ⊥
WhyUnread which limit file (stop.Refused (TooDeep at)) = ⊥
WhyUnread which limit file (stop.Refused (LargeTree at)) = ⊥
WhyUnread which limit file (stop.Refused TooManyNames) = ⊥
WhyUnread which limit file (stop.Refused (IllTyped fault at variant)) = ⊥
WhyUnread which limit file (stop.Refused (Variants at)) = ⊥
WhyUnread which limit file (stop.Refused (Line fault)) = ⊥
WhyUnread which limit file (stop.Refused (Trace fault)) = ⊥
WhyUnread which limit file (stop.Faulted fault) = ⊥
WhyUnread which limit file (stop.Unread w) = (w ≡ which) × FileFailed file
WhyUnread which limit file stop.Memory = Unit {0}
WhyUnread which limit file stop.Write = ⊥
