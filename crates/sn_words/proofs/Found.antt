-- The command of what `clap` found.
use Rattle.std.proofs.Common.{◌≡◌, ◌≢◌, ◌∙◌, ◌⊎◌, refl, sym, ap, List, [], ◌∷◌, map, Bool, true, false, cond, true≢false, inl, inr, find, ⊎_elim}
use Rattle.std.specs.Prelude.{Option, Some, None, Result, Ok, Err, option_map, String, string_bytes}
use Rattle.std.specs.Str.{bytes_eq}
use Rattle.std.proofs.lemmas.Str.{IsUtf8-string_bytes}
use Rattle.clap.specs.Walk.{Row, first_of, rows_of}
use Rattle.std.specs.Box.{box_value}
use Rattle.clap.specs.Simple.{is_simple, subcommand_of, subcommand_rows_of}
use Rattle.clap.specs.declared.parser.ArgMatches.TheViews.{out-ArgMatches, out-SubCommand}
use Rattle.sn_words.specs.declared.command.WordsFault.{WordsFault}
use Rattle.clap.specs.Matches.{found_of, subcommand_name_of}
use Rattle.clap.specs.Kinds.{HasKind, Kinds}
use Rattle.clap.specs.Values.{kind_of}
use Rattle.clap.specs.Faults.{fault_of}
use Rattle.clap.specs.declared.ArgMatches.{ArgMatches}
use Rattle.clap.specs.declared.Error.{Error}
use Rattle.clap.specs.declared.error.ErrorKind.TheVariants.{OutOfMemory}
use Rattle.clap.proofs.WalkLemmas.{first_value-rows}
use Rattle.sn_words.specs.Words.{Text, Form, Given, asked_by, command_of, forms, need}
use Rattle.sn_words.specs.Clap.{asked_as, asked_in, look_of, program}
use Rattle.sn_words.proofs.Leaf.{same_text, some≢none}
use Rattle.sn_words.proofs.Rows.{rows_of_given, text_there}
use Rattle.sn_words.proofs.Walks.{AreTexts}
use Rattle.sn_words.proofs.Program.{Outcome, Taken, outcome, refused, taken}

-- the words of a program are texts
pub are_texts : {Z : Type 0} (words : List (String Z)) → AreTexts (map string_bytes words)
are_texts [] = tt
are_texts (word ∷ words) = (IsUtf8-string_bytes word, are_texts words)

-- what is asked of the matches is asked of their rows
pub asked_of_rows : (name : Text) (given : ArgMatches) → asked_as name (look_of given) ≡ asked_in (Some (name, rows_of (found_of given)))
asked_of_rows name given = ap (asked_as name) (λ i n. first_value-rows (found_of given) n i)

-- the command of the subcommand's rows
asked_taken : (words : List Text) (form : Form) (given : Given) (found : Option (Text × List Row)) → Taken words form given → found ≡ subcommand_of program words → asked_in found ≡ command_of words
asked_taken words form given found t is = ap asked_in (is ∙ t.found) ∙ ap (λ o. need o (λ f. asked_by f (λ n. first_of n (rows_of_given given)))) t.among
    ∙ ap (asked_by form) (λ i n. text_there given n i) ∙ sym t.gives

abbrev no_kinds : Kinds → Bool
no_kinds [] = true
no_kinds (k ∷ ks) = false

no_fault : (kinds : Kinds) (k : _) (ks : Kinds) → kinds ≡ [] → kinds ≡ k ∷ ks → ⊥
no_fault kinds k ks fine faulty = true≢false (ap no_kinds (sym fine ∙ faulty))

-- where `clap` answers, what it found is the command
pub found_is : (words : List Text) (m : ArgMatches) → AreTexts words → fault_of program words ≡ [] → subcommand_rows_of m ≡ subcommand_of program words → asked_in (subcommand_rows_of m) ≡ command_of words
found_is words m u fine is = go (outcome words u)
  where
    go : Outcome words → asked_in (subcommand_rows_of m) ≡ command_of words
    go (taken form given t) = asked_taken words form given (subcommand_rows_of m) t is
    go (refused r) = absurd (no_fault (fault_of program words) r.first r.more fine r.faulty)

-- where it refuses, and not for want of memory, there is none
pub none_is : (words : List Text) (e : Error) → AreTexts words → kind_of e ≢ OutOfMemory → HasKind (fault_of program words) e → command_of words ≡ None
none_is words e u other h = go (outcome words u)
  where
    never : HasKind [] e → command_of words ≡ None
    never h = ⊎_elim (λ m. absurd (other m)) (λ none. absurd none) h

    go : Outcome words → command_of words ≡ None
    go (taken form given t) = never (Rattle.std.proofs.Common.subst (λ kinds. HasKind kinds e) t.fine h)
    go (refused r) = r.gives

-- none of the forms has the name
abbrev pub AreOthers : Text → List Form → Type 0
AreOthers name [] = Unit {0}
AreOthers name (form ∷ fs) = (name ≢ form.name) × AreOthers name fs

not_found : (name : Text) (fs : List Form) → AreOthers name fs → find (λ form. bytes_eq form.name name) fs ≡ None
not_found name [] others = refl
not_found name (form ∷ fs) others = go (bytes_eq form.name name) refl (not_found name fs others.1)
  where
    go : (b : Bool) → bytes_eq form.name name ≡ b → find (λ f. bytes_eq f.name name) fs ≡ None → cond b (Some form) (find (λ f. bytes_eq f.name name) fs) ≡ None
    go true is rest = absurd (others.0 (sym (same_text form.name name is)))
    go false is rest = rest

pub none_asked : (name : Text) (look : Text → Option Text) → AreOthers name forms → asked_as name look ≡ None
none_asked name look others = ap (λ o. need o (λ form. asked_by form look)) (not_found name forms others)

pub simple : is_simple program ≡ true
simple = refl

-- the name and the rows of the subcommand that was met
named_rows : {B : Type 0} (both : B → Text × List Row) (o : Option B) (name : Text) (rows : List Row) → Some name ≡ option_map (λ b. (both b).0) o
    → Some rows ≡ option_map (λ (p : Text × List Row). p.1) (option_map both o) → option_map both o ≡ Some (name, rows)
named_rows both None name rows e r = absurd (some≢none name e)
named_rows both (Some b) name rows e r = sym (λ i. Some (Rattle.std.specs.Option.unwrap_or (e i) name, Rattle.std.specs.Option.unwrap_or (r i) rows))

pub met_rows : (m : ArgMatches) (name : Text) (rows : List Row) → Some name ≡ subcommand_name_of m → Some rows ≡ option_map (λ (p : Text × List Row). p.1) (subcommand_rows_of m) → subcommand_rows_of m ≡ Some (name, rows)
met_rows m name rows e r = named_rows (λ b. ((out-SubCommand (box_value b)).name.now, rows_of (found_of (out-SubCommand (box_value b)).matches))) (out-ArgMatches m).subcommand name rows e r

-- a fault of a result
pub fault_of_err : {A : Type 0} (a b : WordsFault) → ◌≡◌ {A = Result A WordsFault} (Err a) (Err b) → a ≡ b
fault_of_err a b e = ap (fault_in a) e
  where
    fault_in : {A : Type 0} → WordsFault → Result A WordsFault → WordsFault
    fault_in other (Ok x) = other
    fault_in other (Err fault) = fault

pub asked_back : (name : Text) (given : ArgMatches) → asked_in (Some (name, rows_of (found_of given))) ≡ asked_as name (look_of given)
asked_back name given = sym (asked_of_rows name given)
