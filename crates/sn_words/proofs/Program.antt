-- What `clap` makes of all the words: the command of a form with what was given to it, or a fault where the words give no command.
use Rattle.std.proofs.Common.{◌≡◌, ◌∙◌, ◌+◌, ◌&&◌, ◌||◌, Bool, true, false, cond, refl, sym, ap, List, [], ◌∷◌, ◌++◌, map, length, fold, find, codes, is_some, true≢false, leb-true, nat_le}
use Rattle.std.specs.Prelude.{Option, Some, None, option_map}
use Rattle.std.specs.List.{list_all, list_any}
use Rattle.std.specs.Option.{option_map_or}
use Rattle.std.specs.Str.{bytes_eq, chars, IsUtf8}
use Rattle.clap.specs.Lexer.{long_of, short_of}
use Rattle.clap.specs.Walk.{Held, Names, Row, Walk, answers_to, idle, nothing_held, rows_after, subcommand_met, walk_from, walked, word_met}
use Rattle.clap.specs.Simple.{App, Shape, built, entered, label_of, new_shape, rows_at, subcommand_of}
use Rattle.clap.specs.Kinds.{Kinds, or_else}
use Rattle.clap.specs.Faults.{built_fault, defaults_fault, entered_fault, fault_of, flag_word_fault, flags_fault, is_simple_and_free, level_fault, other_fault, step_fault, turn_fault, walk_fault, word_fault}
use Rattle.clap.specs.declared.error.ErrorKind.TheVariants as kind
use Rattle.sn_words.specs.Words.{Text, Form, Given, Kind, end_of_options, full, named, wrong, plain, asked_by, command_in, command_of, forms, is_among, kind_of, need, options_of, text_in}
use Rattle.sn_words.specs.Clap.{program}
use Rattle.sn_words.proofs.Leaf.{by_place, same_text}
use Rattle.sn_words.proofs.Rows.{rows_of_given}
use Rattle.sn_words.proofs.WordKinds.{IsKind, first_flag, is_kind}
use Rattle.sn_words.proofs.Strict.{finds, strict}
use Rattle.sn_words.proofs.Walks.{AreTexts, Standing, judged, leaf, leaf_reads}
use Rattle.sn_words.proofs.Loose.{command_by_strict}

abbrev pub shape_of_form : Form → Shape
shape_of_form form = leaf form.name form.words (options_of form)

abbrev pub top : Shape
top = record (new_shape (codes "snet")) {
  is_leaf = false;
  no_binary_name = true;
  disable_help_flag = true;
  disable_help_subcommand = true;
  subcommand_required = true;
  is_built = true;
}

abbrev pub ready : App
ready = record { top = top; subs = map shape_of_form forms }

pub program_built : built program ≡ ready
program_built = refl

pub program_simple : is_simple_and_free program ≡ true
program_simple = refl

abbrev is_named : Text → Form → Bool
is_named word form = bytes_eq form.name word

abbrev names_in : List Form → Names
names_in fs = map label_of (map shape_of_form fs)

abbrev start : Walk
start = walk_from nothing_held

-- ---- which form it is

or_false : (b : Bool) → (b || false) ≡ b
or_false true = refl
or_false false = refl

and_false : (b : Bool) → (b && false) ≡ false
and_false true = refl
and_false false = refl

found_among_names : (word : Text) (fs : List Form) → find (answers_to word) (names_in fs) ≡ option_map (λ form. label_of (shape_of_form form)) (find (is_named word) fs)
found_among_names word [] = refl
found_among_names word (form ∷ fs) = ap (λ b. cond b (Some (label_of (shape_of_form form))) (find (answers_to word) (names_in fs))) (or_false (is_named word form)) ∙ go (is_named word form) (found_among_names word fs)
  where
    go : (b : Bool) → find (answers_to word) (names_in fs) ≡ option_map (λ f. label_of (shape_of_form f)) (find (is_named word) fs)
        → cond b (Some (label_of (shape_of_form form))) (find (answers_to word) (names_in fs)) ≡ option_map (λ f. label_of (shape_of_form f)) (cond b (Some form) (find (is_named word) fs))
    go true e = refl
    go false e = e

found_among_subs : (word : Text) (fs : List Form) → find (λ s. answers_to word (label_of s)) (map shape_of_form fs) ≡ option_map shape_of_form (find (is_named word) fs)
found_among_subs word [] = refl
found_among_subs word (form ∷ fs) = ap (λ b. cond b (Some (shape_of_form form)) (find (λ s. answers_to word (label_of s)) (map shape_of_form fs))) (or_false (is_named word form)) ∙ go (is_named word form) (found_among_subs word fs)
  where
    go : (b : Bool) → find (λ s. answers_to word (label_of s)) (map shape_of_form fs) ≡ option_map shape_of_form (find (is_named word) fs)
        → cond b (Some (shape_of_form form)) (find (λ s. answers_to word (label_of s)) (map shape_of_form fs)) ≡ option_map shape_of_form (cond b (Some form) (find (is_named word) fs))
    go true e = refl
    go false e = e

some_form : (a b : Form) → Some a ≡ Some b → a ≡ b
some_form a b e = ap (λ o. Rattle.std.specs.Option.unwrap_or o a) e

some_is_not_none : {X : Type 0} (x : X) → None ≡ Some x → ⊥
some_is_not_none x e = true≢false (ap (λ o. is_some o) (sym e))

name_of_found : (word : Text) (fs : List Form) (form : Form) → find (is_named word) fs ≡ Some form → form.name ≡ word
name_of_found word [] form e = absurd (some_is_not_none form e)
name_of_found word (f ∷ fs) form e = go (is_named word f) refl e (λ more. name_of_found word fs form more)
  where
    go : (b : Bool) → is_named word f ≡ b → cond b (Some f) (find (is_named word) fs) ≡ Some form → (find (is_named word) fs ≡ Some form → form.name ≡ word) → form.name ≡ word
    go true is e rec = ap (λ (x : Form). x.name) (sym (some_form f form e)) ∙ same_text f.name word is
    go false is e rec = rec e

-- ---- past the name

abbrev stopped_at : Text → List Text → Walk
stopped_at name words = record start { stopped = Some (name, words) }

app_more : (ws : List Text) (w : Text) (rest : List Text) → (ws ++ w ∷ []) ++ rest ≡ ws ++ w ∷ rest
app_more [] w rest = refl
app_more (x ∷ ws) w rest = ap (λ l. x ∷ l) (app_more ws w rest)

app_nil : (ws : List Text) → ws ++ [] ≡ ws
app_nil [] = refl
app_nil (x ∷ ws) = ap (λ l. x ∷ l) (app_nil ws)

stays_stopped : (names : Names) (name : Text) (rest ws : List Text) → fold (walked [] names) (stopped_at name ws) rest ≡ stopped_at name (ws ++ rest)
unfolding walked
stays_stopped names name [] ws = ap (stopped_at name) (sym (app_nil ws))
stays_stopped names name (w ∷ rest) ws = stays_stopped names name rest (ws ++ w ∷ []) ∙ ap (stopped_at name) (app_more ws w rest)

stopped_fine : (names : Names) (name : Text) (rest ws : List Text) → walk_fault top names (stopped_at name ws) rest ≡ []
unfolding walked walk_fault
stopped_fine names name [] ws = refl
stopped_fine names name (w ∷ rest) ws = stopped_fine names name rest (ws ++ w ∷ [])

or_else_nil : (a : Kinds) → or_else a [] ≡ a
or_else_nil [] = refl
or_else_nil (k ∷ ks) = refl

module _ (fs : List Form) where
  abbrev app : App
  app = record { top = top; subs = map shape_of_form fs }

  abbrev names : Names
  names = names_in fs

  meets : (word name : Text) → subcommand_met names idle word ≡ Some name → walked [] names start word ≡ stopped_at name []
  unfolding walked
  meets word name is = ap (λ o. let met = Rattle.clap.specs.Walk.subcommand_or_other [] o idle 1 word nothing_held in Rattle.clap.specs.Walk.after_step [] word start met.0 met.1) is

  walks : (word name : Text) (rest : List Text) → subcommand_met names idle word ≡ Some name → fold (walked [] names) start (word ∷ rest) ≡ stopped_at name rest
  walks word name rest is = ap (λ w. fold (walked [] names) w rest) (meets word name is) ∙ stays_stopped names name rest []

  fine_turn : (word name : Text) → subcommand_met names idle word ≡ Some name → turn_fault top names start word ≡ []
  fine_turn word name is =
      ap (λ o. let met = Rattle.clap.specs.Walk.subcommand_or_other [] o idle 1 word nothing_held in or_else (other_fault top o word nothing_held) (step_fault top 1 met.0 met.1)) is
      ∙ ap (λ b. or_else (cond b (kind.DisplayHelp ∷ kind.InvalidSubcommand ∷ []) []) []) (and_false (bytes_eq name (codes "help")))

  fine_walk : (word name : Text) (rest : List Text) → subcommand_met names idle word ≡ Some name → walk_fault top names start (word ∷ rest) ≡ []
  unfolding walk_fault
  fine_walk word name rest is = (λ i. or_else (fine_turn word name is i) (walk_fault top names (meets word name is i) rest)) ∙ stopped_fine names name rest []

  -- the fault is that of the form
  abbrev level : List Text → Walk → Kinds → Kinds
  level words end walking = or_else walking (or_else (entered_fault app end.stopped) (or_else (Rattle.clap.specs.Faults.settle_fault [] false end.held)
      (or_else (defaults_fault (Rattle.clap.specs.Walk.settled [] end.held).rows []) (Rattle.clap.specs.Faults.check_fault top (Rattle.clap.specs.Walk.finished [] end.held) (is_some (entered app end.stopped))))))

  below : (word : Text) (rest : List Text) (form : Form) → find (is_named word) fs ≡ Some form
      → built_fault app nothing_held (word ∷ rest) ≡ level_fault (shape_of_form form) [] nothing_held rest false []
  unfolding defaults_fault
  below word rest form is =
      let named = name_of_found word fs form is in
      let met : subcommand_met names idle word ≡ Some form.name = ap (option_map (λ s. s.0)) (found_among_names word fs ∙ ap (option_map (λ f. label_of (shape_of_form f))) is) in
      let sub : find (λ s. answers_to form.name (label_of s)) (map shape_of_form fs) ≡ Some (shape_of_form form) =
      ap (λ w. find (λ s. answers_to w (label_of s)) (map shape_of_form fs)) named ∙ found_among_subs word fs ∙ ap (option_map shape_of_form) is in
      (λ i. level (word ∷ rest) (walks word form.name rest met i) (fine_walk word form.name rest met i))
      ∙ (λ i. or_else (option_map_or (λ s. level_fault s [] nothing_held rest false []) (sub i) []) (or_else [] (or_else [] (Rattle.clap.specs.Faults.check_fault top [] (is_some (option_map (λ s. rows_at s rest) (sub i)))))))
      ∙ or_else_nil (level_fault (shape_of_form form) [] nothing_held rest false [])

  entered_form : (word : Text) (rest : List Text) (form : Form) → find (is_named word) fs ≡ Some form
      → entered app (fold (walked [] names) start (word ∷ rest)).stopped ≡ Some (form.name, rows_after (shape_of_form form).rules [] rest)
  entered_form word rest form is =
      let named = name_of_found word fs form is in
      let met : subcommand_met names idle word ≡ Some form.name = ap (option_map (λ s. s.0)) (found_among_names word fs ∙ ap (option_map (λ f. label_of (shape_of_form f))) is) in
      let sub : find (λ s. answers_to form.name (label_of s)) (map shape_of_form fs) ≡ Some (shape_of_form form) =
      ap (λ w. find (λ s. answers_to w (label_of s)) (map shape_of_form fs)) named ∙ found_among_subs word fs ∙ ap (option_map shape_of_form) is in
      ap (λ (w : Walk). entered app w.stopped) (walks word form.name rest met) ∙ ap (option_map (λ s. rows_at s rest)) sub

  -- ---- where no form has the name

  pub record IsFault (kinds : Kinds) : Type 0 where
    pub first : _
    pub more : Kinds
    pub is : kinds ≡ first ∷ more

  turn_fails : (word : Text) (rest : List Text) (k : _) (ks : Kinds) → turn_fault top names start word ≡ k ∷ ks → built_fault app nothing_held (word ∷ rest) ≡ k ∷ ks
  unfolding walk_fault
  turn_fails word rest k ks bad = ap (λ f. level (word ∷ rest) (fold (walked [] names) start (word ∷ rest)) (or_else f (walk_fault top names (walked [] names start word) rest))) bad

  abbrev dashes_of : Text → Bool
  dashes_of word = bytes_eq word (45 ∷ 45 ∷ [])

  fault_behind : (word : Text) (b : Bool) (long : Option (Text × Option Text)) → subcommand_met names idle word ≡ None → dashes_of word ≡ b → long_of word ≡ long
      → word_fault top names false idle word nothing_held ≡ cond b [] (flag_word_fault [] false long word nothing_held)
  fault_behind word b long leaf is as_long = ap (λ o. other_fault top o word nothing_held) leaf ∙ (λ i. cond (is i) [] (flag_word_fault [] false (as_long i) word nothing_held))

  met_behind : (word : Text) (b : Bool) (long : Option (Text × Option Text)) → subcommand_met names idle word ≡ None → dashes_of word ≡ b → long_of word ≡ long
      → word_met [] names false idle 1 word nothing_held ≡ cond b (nothing_held, Rattle.clap.specs.Walk.trailing 1) (Rattle.clap.specs.Walk.long_or_other [] idle word long nothing_held)
  met_behind word b long leaf is as_long = ap (λ o. Rattle.clap.specs.Walk.subcommand_or_other [] o idle 1 word nothing_held) leaf
      ∙ (λ i. cond (is i) (nothing_held, Rattle.clap.specs.Walk.trailing 1) (Rattle.clap.specs.Walk.long_or_other [] idle word (as_long i) nothing_held))

  trail : Walk
  trail = record start { is_trailing = true }

  after_dashes : (rest : List Text) → IsFault (level [] (fold (walked [] names) (record start { is_trailing = true }) rest) (walk_fault top names (record start { is_trailing = true }) rest))
  unfolding walk_fault defaults_fault
  after_dashes [] = record { first = kind.MissingSubcommand; more = []; is = refl }
  after_dashes (w ∷ rest) = record { first = kind.UnknownArgument; more = kind.InvalidSubcommand ∷ []; is = refl }

  fault_as : (a b : Kinds) → a ≡ b → IsFault b → IsFault a
  fault_as a b e f = record { first = f.first; more = f.more; is = e ∙ f.is }

  stray : (word : Text) (rest : List Text) (k : Kind) → IsUtf8 word → IsKind k (dashes_of word) (long_of word) (short_of word) → subcommand_met names idle word ≡ None
      → IsFault (built_fault app nothing_held (word ∷ rest))
  unfolding walked walk_fault flags_fault
  stray word rest end_of_options u is none =
      let met = met_behind word true (long_of word) none is refl in
      let fine = fault_behind word true (long_of word) none is refl in
      let moves : walked [] names start word ≡ record start { is_trailing = true } = ap (λ m. Rattle.clap.specs.Walk.after_step [] word start m.0 m.1) met in
      fault_as _ _ (λ i. level (word ∷ rest) (fold (walked [] names) (moves i) rest) (or_else (or_else (fine i) (step_fault top 1 (met i).0 (met i).1)) (walk_fault top names (moves i) rest))) (after_dashes rest)
  stray word rest (full n v) u is none =
      let met = word_met [] names false idle 1 word nothing_held in
      record { first = kind.UnknownArgument; more = []; is = turn_fails word rest kind.UnknownArgument [] (ap (λ f. or_else f (step_fault top 1 met.0 met.1)) (fault_behind word false (Some (n, Some v)) none is.0 is.1)) }
  stray word rest (named n) u is none =
      let met = word_met [] names false idle 1 word nothing_held in
      record { first = kind.UnknownArgument; more = []; is = turn_fails word rest kind.UnknownArgument [] (ap (λ f. or_else f (step_fault top 1 met.0 met.1)) (fault_behind word false (Some (n, None)) none is.0 is.1)) }
  stray word rest wrong u is none =
      let met = word_met [] names false idle 1 word nothing_held in
      let first = first_flag word is.2.0 is.2.1.0 u is.2.1.1 in
      record {
        first = kind.UnknownArgument;
        more = [];
        is = turn_fails word rest kind.UnknownArgument [] (ap (λ f. or_else f (step_fault top 1 met.0 met.1))
            (fault_behind word false None none is.0 is.1
            ∙ ap (λ o. option_map_or (λ fs. Rattle.clap.specs.Faults.bundle_fault [] false fs nothing_held) o []) is.2.1.1
            ∙ ap (λ c. Rattle.clap.specs.Faults.bundle_step_fault [] false c (is.2.0 ∷ is.2.1.0) 0 nothing_held (flags_fault [] false (length is.2.1.0))) first.1));
      }
  stray word rest plain u is none =
      let met = met_behind word false None none is.0 is.1 ∙ ap (λ o. Rattle.clap.specs.Walk.short_or_plain [] idle word o nothing_held) is.2 in
      let fine = fault_behind word false None none is.0 is.1 ∙ ap (λ o. option_map_or (λ fs. Rattle.clap.specs.Faults.bundle_fault [] false fs nothing_held) o []) is.2 in
      record { first = kind.UnknownArgument; more = kind.InvalidSubcommand ∷ []; is = turn_fails word rest kind.UnknownArgument (kind.InvalidSubcommand ∷ []) (λ i. or_else (fine i) (step_fault top 1 (met i).0 (met i).1)) }

-- ---- the outcome

-- `clap` finds what was given to a form
pub record Taken (words : List Text) (form : Form) (given : Given) : Type 0 where
  pub fine : fault_of program words ≡ []
  pub found : subcommand_of program words ≡ Some (form.name, rows_of_given given)
  pub among : find (λ f. bytes_eq f.name form.name) forms ≡ Some form
  pub gives : command_of words ≡ asked_by form (text_in given)

-- `clap` refuses the words, and they give no command
pub record Refused (words : List Text) : Type 0 where
  pub first : _
  pub more : Kinds
  pub faulty : fault_of program words ≡ first ∷ more
  pub gives : command_of words ≡ None

pub data Outcome (words : List Text) : Type 0 where
  taken : (form : Form) (given : Given) → Taken words form given → Outcome words
  refused : Refused words → Outcome words

-- its positional words are few, and their names are names
abbrev fits : Form → Bool
fits form = nat_le (1 + length form.words) Rattle.clap.specs.Lexer.usize_max && list_all (is_among form.words) form.words

fit_found : (word : Text) (fs : List Form) (form : Form) → list_all fits fs ≡ true → find (is_named word) fs ≡ Some form → fits form ≡ true
fit_found word [] form h e = absurd (some_is_not_none form e)
fit_found word (f ∷ fs) form h e = go (is_named word f) (fits f) refl h e (λ rest more. fit_found word fs form rest more)
  where
    go : (b v : Bool) → fits f ≡ v → (v && list_all fits fs) ≡ true → cond b (Some f) (find (is_named word) fs) ≡ Some form
        → (list_all fits fs ≡ true → find (is_named word) fs ≡ Some form → fits form ≡ true) → fits form ≡ true
    go b false is h e rec = absurd (true≢false (sym h))
    go true true is h e rec = ap fits (sym (some_form f form e)) ∙ is
    go false true is h e rec = rec h e

forms_fit : list_all fits forms ≡ true
forms_fit = refl

both_hold : (a b : Bool) → (a && b) ≡ true → (a ≡ true) × (b ≡ true)
both_hold true b e = (refl, e)
both_hold false b e = absurd (true≢false (sym e))

-- what a walk that is judged comes to
judged_none : (kinds : Kinds) (rows : List Row) → judged kinds rows ≡ None → IsFault forms kinds
judged_none [] rows e = absurd (some_is_not_none rows (sym e))
judged_none (k ∷ ks) rows e = record { first = k; more = ks; is = refl }

some_rows : (a b : List Row) → Some a ≡ Some b → a ≡ b
some_rows a b e = ap (λ o. Rattle.std.specs.Option.unwrap_or o a) e

judged_some : (kinds : Kinds) (rows all : List Row) → judged kinds rows ≡ Some all → (kinds ≡ []) × (rows ≡ all)
judged_some [] rows all e = (refl, some_rows rows all e)
judged_some (k ∷ ks) rows all e = absurd (some_is_not_none all e)

fault_is : (words : List Text) → fault_of program words ≡ built_fault ready nothing_held words
fault_is words = refl

subcommand_is : (words : List Text) → subcommand_of program words ≡ entered ready (fold (walked [] (names_in forms)) start words).stopped
subcommand_is words = refl

formed : (word : Text) (rest : List Text) (form : Form) → AreTexts rest → find (is_named word) forms ≡ Some form → Outcome (word ∷ rest)
formed word rest form u is = go (need (strict None rest) (finds form.words (options_of form) form.words [])) reading (command_by_strict form rest)
  where
    stands : Standing form.name form.words (options_of form) 1 form.words
    stands =
        let fit = both_hold (nat_le (1 + length form.words) Rattle.clap.specs.Lexer.usize_max) (list_all (is_among form.words) form.words) (fit_found word forms form forms_fit is) in
        record { placed = λ k. by_place 1 k form.words (options_of form); room = leb-true (1 + length form.words) Rattle.clap.specs.Lexer.usize_max fit.0; known = fit.1 }

    reading : judged (level_fault (shape_of_form form) [] nothing_held rest false []) (rows_after (shape_of_form form).rules [] rest)
        ≡ option_map rows_of_given (need (strict None rest) (finds form.words (options_of form) form.words []))
    reading = leaf_reads form.name form.words (options_of form) rest u stands

    faults : fault_of program (word ∷ rest) ≡ level_fault (shape_of_form form) [] nothing_held rest false []
    faults = fault_is (word ∷ rest) ∙ below forms word rest form is

    commands : command_of (word ∷ rest) ≡ command_in form rest
    commands = ap (λ o. need o (λ f. command_in f rest)) is

    go : (o : Option Given) → judged (level_fault (shape_of_form form) [] nothing_held rest false []) (rows_after (shape_of_form form).rules [] rest) ≡ option_map rows_of_given o
        → command_in form rest ≡ need o (λ given. asked_by form (text_in given)) → Outcome (word ∷ rest)
    go None read gives =
        let bad = judged_none (level_fault (shape_of_form form) [] nothing_held rest false []) (rows_after (shape_of_form form).rules [] rest) read in
        refused (record { first = bad.first; more = bad.more; faulty = faults ∙ bad.is; gives = commands ∙ gives })
    go (Some given) read gives =
        let good = judged_some (level_fault (shape_of_form form) [] nothing_held rest false []) (rows_after (shape_of_form form).rules [] rest) (rows_of_given given) read in
        taken form given (record {
          fine = faults ∙ good.0;
          found = subcommand_is (word ∷ rest) ∙ entered_form forms word rest form is ∙ ap (λ rows. Some (form.name, rows)) good.1;
          among = ap (λ n. find (λ f. bytes_eq f.name n) forms) (name_of_found word forms form is) ∙ is;
          gives = commands ∙ gives;
        })

pub outcome : (words : List Text) → AreTexts words → Outcome words
unfolding walk_fault defaults_fault
outcome [] u = refused (record { first = kind.MissingSubcommand; more = []; faulty = refl; gives = refl })
outcome (word ∷ rest) u = go (find (is_named word) forms) refl
  where
    go : (o : Option Form) → find (is_named word) forms ≡ o → Outcome (word ∷ rest)
    go (Some form) is = formed word rest form u.1 is
    go None is =
        let bad = stray forms word rest (kind_of word) u.0 (is_kind word)
        (ap (option_map (λ s. s.0)) (found_among_names word forms ∙ ap (option_map (λ f. label_of (shape_of_form f))) is)) in
        refused (record { first = bad.first; more = bad.more; faulty = fault_is (word ∷ rest) ∙ bad.is; gives = ap (λ o. need o (λ f. command_in f rest)) is })
