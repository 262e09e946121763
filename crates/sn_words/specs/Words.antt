-- The command that the words of the command line give, after the program's name, as bytes.
use Rattle.std.specs.Prelude.{◌++◌, ℕ, Bool, ◌==◌, ◌&&◌, List, [], ◌∷◌, codes, length, map, nat_lt, nat_le, Option, Some, None, option_map, option_and_then, find, if◌then◌else◌}
use Rattle.std.specs.List.{list_all, list_any, before_first, after_first}
use Rattle.std.specs.Str.{bytes_eq, all_ascii_digits}
use Rattle.std.specs.Str.Parse.{digits_value}
use Rattle.sn_words.specs.declared.command.Command.{Command}
use Rattle.sn_words.specs.declared.command.Command.TheVariants.{Run, Once, Check, Print, Plan, Trace, Replay, Feed, Sample}

abbrev pub Text : Type 0
Text = List ℕ

-- goes on with what is there
abbrev pub need : {A B : Type 0} → Option A → (A → Option B) → Option B
need found go_on = option_and_then go_on found

abbrev pub need_that : {A : Type 0} → Bool → A → Option A
need_that holds x = if holds then Some x else None

-- ---- what the words are, one by one

-- a positional word, or an option's name and its value
pub data Part : Type 0 where
  positional : Text → Part
  option : Text → Text → Part

-- what a word is that stands before the first `--`
pub data Kind : Type 0 where
  -- `--`
  end_of_options : Kind
  -- `--NAME=V`
  full : Text → Text → Kind
  -- `--NAME`, whose value is the next word
  named : Text → Kind
  -- any other word that begins with `-` and has more than one character
  wrong : Kind
  -- any other word, `-` among them
  plain : Kind

abbrev pub dash : ℕ
dash = 45

abbrev pub is_equals : ℕ → Bool
is_equals byte = byte == 61

-- behind two dashes stands nothing, a name with `=` and a value, or a name alone
abbrev pub kind_behind : Text → Kind
kind_behind [] = end_of_options
kind_behind (first ∷ rest) = if list_any is_equals (first ∷ rest)
    then full (before_first is_equals (first ∷ rest)) (after_first is_equals (first ∷ rest)) else named (first ∷ rest)

abbrev pub kind_of : Text → Kind
kind_of [] = plain
kind_of (first ∷ []) = plain
kind_of (first ∷ second ∷ rest) = if first == dash then (if second == dash then kind_behind rest else wrong) else plain

-- the parts that begin with a word of this kind; `more` reads the words behind it, of which the first may be due as the value of an option
abbrev pub parts_from : Kind → Text → List Text → (Option Text → Option (List Part)) → Option (List Part)
parts_from end_of_options word words more = Some (map positional words)
parts_from (full name value) word words more = option_map (λ parts. option name value ∷ parts) (more None)
parts_from (named name) word words more = more (Some name)
parts_from wrong word words more = None
parts_from plain word words more = option_map (λ parts. positional word ∷ parts) (more None)

-- the parts of the words, from the left; `due` is the option whose value is the next word
abbrev pub parts_of : Option Text → List Text → Option (List Part)
parts_of None [] = Some []
parts_of (Some name) [] = None
parts_of (Some name) (value ∷ words) = option_map (λ parts. option name value ∷ parts) (parts_of None words)
parts_of None (word ∷ words) = parts_from (kind_of word) word words (λ due. parts_of due words)

-- ---- what the parts give

-- names, each with the text that was given to it
abbrev pub Given : Type 0
Given = List (Text × Text)

abbrev pub is_given : Given → Text → Bool
is_given given name = list_any (λ g. bytes_eq g.0 name) given

abbrev pub text_in : Given → Text → Option Text
text_in given name = option_map (λ g. g.1) (find (λ g. bytes_eq g.0 name) given)

abbrev pub is_among : List Text → Text → Bool
is_among names name = list_any (λ n. bytes_eq n name) names

-- a name is given a text once
abbrev pub give : Text → Text → Given → Option Given
give name text given = if is_given given name then None else Some (given ++ (name, text) ∷ [])

-- each positional word is given to the next of the names that are free, and each value to its option, if that is one of `options`
abbrev pub gives : List Text → List Text → Given → List Part → Option Given
gives options free given [] = Some given
gives options [] given (positional word ∷ parts) = None
gives options (name ∷ free) given (positional word ∷ parts) = need (give name word given) (λ more. gives options free more parts)
gives options free given (option name value ∷ parts) =
    if is_among options name then need (give name value given) (λ more. gives options free more parts) else None

-- ---- numbers

-- the number that one to ten digits write
abbrev pub number_of : Text → Option ℕ
number_of word = if all_ascii_digits word && nat_le 1 (length word) && nat_le (length word) 10 then Some (digits_value 10 word) else None

abbrev pub within : ℕ → ℕ → Option ℕ → Option ℕ
within least most number = need number (λ n. need_that (nat_le least n && nat_le n most) n)

-- an option's name, the least and the most number that it takes, and the number where it is not given
pub record Setting : Type 0 where
  pub name : Text
  pub least : ℕ
  pub most : ℕ
  pub usual : ℕ

abbrev pub number_or : ℕ → ℕ → ℕ → Option Text → Option ℕ
number_or least most usual None = Some usual
number_or least most usual (Some word) = within least most (number_of word)

abbrev pub number_in : (Text → Option Text) → Setting → Option ℕ
number_in look setting = number_or setting.least setting.most setting.usual (look setting.name)

abbrev pub numbers_in : (Text → Option Text) → List Setting → Option (List ℕ)
numbers_in look [] = Some []
numbers_in look (setting ∷ settings) = need (number_in look setting) (λ n. need (numbers_in look settings) (λ ns. Some (n ∷ ns)))

-- a positional word, which is not empty
abbrev pub positional_in : (Text → Option Text) → Text → Option Text
positional_in look name = need (look name) (λ word. need_that (nat_lt 0 (length word)) word)

abbrev pub positionals_in : (Text → Option Text) → List Text → Option (List Text)
positionals_in look [] = Some []
positionals_in look (name ∷ names) = need (positional_in look name) (λ word. need (positionals_in look names) (λ words. Some (word ∷ words)))

-- ---- the commands

-- a command's name, the names of its positional words, its options, and what it makes of the words and of the options' numbers
pub record Form : Type 0 where
  pub name : Text
  pub words : List Text
  pub settings : List Setting
  pub makes : List Text → List ℕ → Option Command

abbrev pub workers : Setting
workers = record { name = codes "workers"; least = 1; most = 64; usual = 4 }

abbrev pub fuel : Setting
fuel = record { name = codes "fuel"; least = 1; most = 1_000_000_000; usual = 1_000_000 }

abbrev pub depth : Setting
depth = record { name = codes "depth"; least = 1; most = 2_000; usual = 1_000 }

abbrev pub queue : Setting
queue = record { name = codes "queue"; least = 1; most = 1_024; usual = 16 }

abbrev pub plan : Setting
plan = record { name = codes "plan"; least = 0; most = 1; usual = 0 }

abbrev pub batch : Setting
batch = record { name = codes "batch"; least = 1; most = 1_048_576; usual = 65_536 }

abbrev pub makes_run : List Text → List ℕ → Option Command
makes_run (source ∷ input ∷ []) (plan ∷ workers ∷ fuel ∷ depth ∷ queue ∷ []) = Some (Run source input workers fuel depth queue plan)
makes_run _ _ = None

abbrev pub makes_once : List Text → List ℕ → Option Command
makes_once (source ∷ input ∷ []) (fuel ∷ depth ∷ []) = Some (Once source input fuel depth)
makes_once _ _ = None

abbrev pub makes_check : List Text → List ℕ → Option Command
makes_check (source ∷ []) [] = Some (Check source)
makes_check _ _ = None

abbrev pub makes_print : List Text → List ℕ → Option Command
makes_print (source ∷ []) [] = Some (Print source)
makes_print _ _ = None

abbrev pub makes_plan : List Text → List ℕ → Option Command
makes_plan (source ∷ []) [] = Some (Plan source)
makes_plan _ _ = None

abbrev pub makes_trace : List Text → List ℕ → Option Command
makes_trace (source ∷ input ∷ []) (workers ∷ fuel ∷ depth ∷ queue ∷ []) = Some (Trace source input workers fuel depth queue)
makes_trace _ _ = None

abbrev pub makes_replay : List Text → List ℕ → Option Command
makes_replay (source ∷ input ∷ trace ∷ []) (fuel ∷ depth ∷ []) = Some (Replay source input trace fuel depth)
makes_replay _ _ = None

abbrev pub makes_feed : List Text → List ℕ → Option Command
makes_feed (source ∷ input ∷ []) (batch ∷ fuel ∷ depth ∷ []) = Some (Feed source input batch fuel depth)
makes_feed _ _ = None

abbrev pub makes_sample : List Text → List ℕ → Option Command
makes_sample (seed ∷ count ∷ []) [] =
    need (within 0 2_147_483_647 (number_of seed)) (λ n. need (within 0 50_000 (number_of count)) (λ m. Some (Sample n m)))
makes_sample _ _ = None

abbrev pub source_word : Text
source_word = codes "SOURCE"

abbrev pub input_word : Text
input_word = codes "INPUT"

abbrev pub trace_word : Text
trace_word = codes "TRACE"

abbrev pub seed_word : Text
seed_word = codes "SEED"

abbrev pub count_word : Text
count_word = codes "COUNT"

abbrev pub run_form : Form
run_form = record { name = codes "run"; words = source_word ∷ input_word ∷ []; settings = plan ∷ workers ∷ fuel ∷ depth ∷ queue ∷ []; makes = makes_run }

abbrev pub once_form : Form
once_form = record { name = codes "once"; words = source_word ∷ input_word ∷ []; settings = fuel ∷ depth ∷ []; makes = makes_once }

abbrev pub check_form : Form
check_form = record { name = codes "check"; words = source_word ∷ []; settings = []; makes = makes_check }

abbrev pub print_form : Form
print_form = record { name = codes "print"; words = source_word ∷ []; settings = []; makes = makes_print }

abbrev pub plan_form : Form
plan_form = record { name = codes "plan"; words = source_word ∷ []; settings = []; makes = makes_plan }

abbrev pub trace_form : Form
trace_form = record { name = codes "trace"; words = source_word ∷ input_word ∷ []; settings = workers ∷ fuel ∷ depth ∷ queue ∷ []; makes = makes_trace }

abbrev pub replay_form : Form
replay_form = record { name = codes "replay"; words = source_word ∷ input_word ∷ trace_word ∷ []; settings = fuel ∷ depth ∷ []; makes = makes_replay }

abbrev pub feed_form : Form
feed_form = record { name = codes "feed"; words = source_word ∷ input_word ∷ []; settings = batch ∷ fuel ∷ depth ∷ []; makes = makes_feed }

abbrev pub sample_form : Form
sample_form = record { name = codes "sample"; words = seed_word ∷ count_word ∷ []; settings = []; makes = makes_sample }

abbrev pub forms : List Form
forms = run_form ∷ once_form ∷ check_form ∷ print_form ∷ plan_form ∷ trace_form ∷ replay_form ∷ feed_form ∷ sample_form ∷ []

abbrev pub options_of : Form → List Text
options_of form = map (λ setting. setting.name) form.settings

-- what the parts give: each of the command's positional words is there
abbrev pub given_by : List Text → List Text → List Part → Option Given
given_by names options parts = need (gives options names [] parts) (λ given. need_that (list_all (is_given given) names) given)

-- the command of the texts that were given
abbrev pub asked_by : Form → (Text → Option Text) → Option Command
asked_by form look = need (positionals_in look form.words) (λ words. need (numbers_in look form.settings) (λ numbers. form.makes words numbers))

-- the command of the parts behind a command's name
abbrev pub command_by : Form → List Part → Option Command
command_by form parts = need (given_by form.words (options_of form) parts) (λ given. asked_by form (text_in given))

abbrev pub command_in : Form → List Text → Option Command
command_in form words = need (parts_of None words) (λ parts. command_by form parts)

-- the command that the words give
abbrev pub command_of : List Text → Option Command
command_of [] = None
command_of (word ∷ words) = need (find (λ form. bytes_eq form.name word) forms) (λ form. command_in form words)
