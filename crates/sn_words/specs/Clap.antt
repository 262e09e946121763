-- The program's commands as `clap` is told of them.
use Rattle.std.specs.Prelude.{true, ℕ, List, [], ◌∷◌, codes, fold, Option, Some}
use Rattle.clap.specs.Walk.{Row, Rule, first_of}
use Rattle.clap.specs.Simple.{App, new_app, new_rule, new_shape, with_rule, with_subcommand}
use Rattle.std.specs.Prelude.{find}
use Rattle.std.specs.Str.{bytes_eq}
use Rattle.clap.specs.Matches.{first_value, found_of}
use Rattle.clap.specs.declared.ArgMatches.{ArgMatches}
use Rattle.sn_words.specs.declared.command.Command.{Command}
use Rattle.sn_words.specs.Words.{Text, Form, asked_by, forms, need, numbers_in, options_of, positionals_in, trace_form}

-- a positional word, which is wanted
abbrev pub told_word : Text → Rule
told_word name = record (new_rule name) { required = true }

-- an option with a value
abbrev pub told_option : Text → Rule
told_option name = record (new_rule name) { long = Some name }

abbrev pub with_words : App → List Text → App
with_words app words = fold (λ a name. with_rule a (told_word name)) app words

abbrev pub with_options : App → List Text → App
with_options app options = fold (λ a name. with_rule a (told_option name)) app options

abbrev pub leaf_of : Text → List Text → List Text → App
leaf_of name words options = with_options (with_words (new_app name) words) options

abbrev pub form_app : Form → App
form_app form = leaf_of form.name form.words (options_of form)

abbrev pub bare : App
bare = record {
  top = record (new_shape (codes "snet")) {
    no_binary_name = true;
    disable_help_flag = true;
    disable_help_subcommand = true;
    subcommand_required = true;
  };
  subs = [];
}

abbrev pub with_forms : App → List Form → App
with_forms app [] = app
with_forms app (form ∷ rest) = with_forms (with_subcommand app (form_app form).top) rest

abbrev pub program : App
program = with_forms bare forms

-- ---- what `clap` found

-- how it is asked for the text of a name
abbrev pub look_of : ArgMatches → Text → Option Text
look_of given name = first_value (found_of given) name

-- the names and the numbers that `trace` is given, and `run` as well
abbrev pub run_arguments_in : (Text → Option Text) → Option (List Text × List ℕ)
run_arguments_in look = need (positionals_in look trace_form.words) (λ words. need (numbers_in look trace_form.settings) (λ numbers. Some (words, numbers)))

-- the command of this name
abbrev pub asked_as : Text → (Text → Option Text) → Option Command
asked_as name look = need (find (λ form. bytes_eq form.name name) forms) (λ form. asked_by form look)

-- the command of the name and the rows that it found
abbrev pub asked_in : Option (Text × List Row) → Option Command
asked_in found = need found (λ f. asked_as f.0 (λ name. first_of name f.1))
