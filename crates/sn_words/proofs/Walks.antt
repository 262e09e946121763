-- What `clap` makes of the words of one command: the rows of what `finds` finds, or a fault.
use Rattle.std.proofs.Common.{◌≡◌, ◌∙◌, ◌≤◌, ◌+◌, ◌&&◌, ◌||◌, ℕ, suc, min, Bool, true, false, cond, not, refl, sym, ap, arith, List, [], ◌∷◌, ◌++◌, map, drop, length, fold, true≢false}
use Rattle.std.specs.Prelude.{Option, Some, None, option_map, option_and_then, slice_get}
use Rattle.std.specs.List.{list_all, list_any}
use Rattle.std.specs.Option.{option_map_or}
use Rattle.std.specs.Str.{bytes_eq, chars, IsUtf8}
use Rattle.clap.specs.Lexer.{long_of, short_of, usize_max}
use Rattle.clap.specs.Walk.{Held, Row, Rule, Step, Waiting, Walk, arg_by_id, arg_by_index, arg_by_long, arg_by_short, finished, idle, is_pending, settled, walked, with_default, word_met, after_step, long_or_other, pushed, subcommand_met, subcommand_or_other, to_positional, trailing}
use Rattle.clap.specs.Walk.{option as waits_for, value as to_place}
use Rattle.clap.specs.Simple.{Shape, new_shape}
use Rattle.clap.specs.Kinds.{Kinds, check_kinds, or_else}
use Rattle.clap.specs.Faults.{check_fault, defaults_fault, flag_word_fault, flags_fault, other_fault, settle_fault, step_fault, turn_fault, walk_fault, word_fault}
use Rattle.clap.specs.declared.error.ErrorKind.TheVariants as kind
use Rattle.sn_words.specs.Words.{Text, Given, Kind, Part, end_of_options, full, named, wrong, plain, positional, option, give, gives, is_among, is_given, kind_of, need, need_that, parts_from}
use Rattle.sn_words.proofs.Leaf.{Plain, by_id, by_long, same_as_itself, by_short, first_placed, option_rule, rules_from, word_rule}
use Rattle.sn_words.proofs.Rows.{no_defaults, no_defaults_fail, rows_of_given, use_fails, used_once, wanted}
use Rattle.sn_words.proofs.WordKinds.{IsKind, first_flag, is_kind}
use Rattle.sn_words.proofs.Strict.{finds, finish, if_plain, need_map, need_need, settle, strict, swap}

-- a command, as it is built
abbrev pub leaf : Text → List Text → List Text → Shape
leaf name ns os = record (new_shape name) {
  rules = rules_from 1 ns os;
  no_binary_name = true;
  disable_help_flag = true;
  disable_help_subcommand = true;
  is_built = true;
}

-- ---- the whole of a walk

abbrev pub judged : Kinds → List Row → Option (List Row)
judged [] rows = Some rows
judged (k ∷ ks) rows = None

abbrev end_fault : Shape → Held → Kinds
end_fault s h = or_else [] (or_else (settle_fault s.rules s.args_override_self h)
    (or_else (defaults_fault (settled s.rules h).rows s.rules) (check_fault s (finished s.rules h) false)))

abbrev pub total : Shape → Walk → List Text → Kinds
total s w words = or_else (walk_fault s [] w words) (end_fault s (fold (walked s.rules []) w words).held)

abbrev pub reads : Shape → Walk → List Text → Option (List Row)
reads s w words = judged (total s w words) (finished s.rules (fold (walked s.rules []) w words).held)

step_on : (s : Shape) (w next : Walk) (word : Text) (rest : List Text) → turn_fault s [] w word ≡ [] → walked s.rules [] w word ≡ next → reads s w (word ∷ rest) ≡ reads s next rest
unfolding walk_fault
step_on s w next word rest fine moves = (λ i. judged (or_else (or_else (fine i) (walk_fault s [] (moves i) rest)) (end_fault s (fold (walked s.rules []) (moves i) rest).held))
    (finished s.rules (fold (walked s.rules []) (moves i) rest).held))

step_off : (s : Shape) (w : Walk) (word : Text) (rest : List Text) (k : _) (ks : Kinds) → turn_fault s [] w word ≡ k ∷ ks → reads s w (word ∷ rest) ≡ None
unfolding walk_fault
step_off s w word rest k ks bad = ap (λ f. judged (or_else (or_else f (walk_fault s [] (walked s.rules [] w word) rest)) (end_fault s (fold (walked s.rules []) (walked s.rules [] w word) rest).held))
    (finished s.rules (fold (walked s.rules []) (walked s.rules [] w word) rest).held)) bad

-- ---- where a walk stands

abbrev pending_of : Option (Text × Text) → Option (Text × List Text)
pending_of None = None
pending_of (Some g) = Some (g.0, g.1 ∷ [])

abbrev held_at : Given → Option (Text × Text) → Held
held_at given last = record { rows = rows_of_given given; pending = pending_of last; skip = 0 }

-- between two words, with the text that was given last
abbrev pub idle_at : Given → Option (Text × Text) → ℕ → Bool → Walk
idle_at given last p t = record { held = held_at given last; waiting = idle; position = p; is_trailing = t; stopped = None }

abbrev held_for : Given → Text → Held
held_for given id = record { rows = rows_of_given given; pending = Some (id, []); skip = 0 }

-- behind an option that wants its value
abbrev pub wants_at : Given → Text → ℕ → Bool → Walk
wants_at given id p t = record { held = held_for given id; waiting = waits_for id; position = p; is_trailing = t; stopped = None }

abbrev pub AreTexts : List Text → Type 0
AreTexts [] = Unit {0}
AreTexts (word ∷ words) = IsUtf8 word × AreTexts words

module _ (name : Text) (ns os : List Text) where
  abbrev pub s : Shape
  s = leaf name ns os

  -- ---- the end

  checked : (given : Given) → judged (or_else (defaults_fault (rows_of_given given) s.rules) (check_fault s (fold with_default (rows_of_given given) s.rules) false))
      (fold with_default (rows_of_given given) s.rules) ≡ option_map rows_of_given (finish ns given)
  checked given = (λ i. judged (or_else (no_defaults_fail (rows_of_given given) 1 ns os i) (check_fault s (no_defaults (rows_of_given given) 1 ns os i) false)) (no_defaults (rows_of_given given) 1 ns os i))
      ∙ ap (λ b. judged (check_kinds false false b) (rows_of_given given)) (wanted given 1 ns os) ∙ go (list_all (is_given given) ns)
    where
      go : (b : Bool) → judged (check_kinds false false (not b)) (rows_of_given given) ≡ option_map rows_of_given (need_that b given)
      go true = refl
      go false = refl

  -- ---- what was given last is settled

  abbrev Settles : Held → Option Given → Type 0
  Settles h None = (k : _) × ((ks : Kinds) × (settle_fault s.rules false h ≡ k ∷ ks))
  Settles h (Some given) = (settle_fault s.rules false h ≡ []) × (settled s.rules h ≡ held_at given None)

  abbrev IsKnown : Text → Type 0
  IsKnown id = (is_among ns id || is_among os id) ≡ true

  settles_one : (given : Given) (id value : Text) (found : Option Rule) → arg_by_id s.rules id ≡ found → Plain id found → Settles (held_at given (Some (id, value))) (give id value given)
  settles_one given id value found at p = go (is_given given id) refl
    where
      go : (b : Bool) → is_given given id ≡ b → Settles (held_at given (Some (id, value))) (cond b None (Some (given ++ (id, value) ∷ [])))
      go true e = (kind.ArgumentConflict, ([], ap (λ o. option_map_or (λ a. Rattle.clap.specs.Faults.use_fault false a (value ∷ []) (rows_of_given given)) o []) (at ∙ p.is) ∙ use_fails given id value p.long p.index p.required true e))
      go false e = (
        ap (λ o. option_map_or (λ a. Rattle.clap.specs.Faults.use_fault false a (value ∷ []) (rows_of_given given)) o []) (at ∙ p.is) ∙ use_fails given id value p.long p.index p.required false e,
        ap (λ o. record (held_at given None) { rows = Rattle.clap.specs.Walk.used_by_id o (value ∷ []) (rows_of_given given) }) (at ∙ p.is)
            ∙ ap (λ rows. record (held_at given None) { rows = rows }) (used_once given id value p.long p.index p.required e),
      )

  abbrev IsKnownLast : Option (Text × Text) → Type 0
  IsKnownLast None = Unit {0}
  IsKnownLast (Some g) = IsKnown g.0

  settles : (given : Given) (last : Option (Text × Text)) → IsKnownLast last → Settles (held_at given last) (settle given last)
  settles given None k = (refl, refl)
  settles given (Some g) k = settles_one given g.0 g.1 (arg_by_id s.rules g.0) refl (by_id 1 ns os g.0 k)

  -- an option that has no value does not settle
  wants_fails : (given : Given) (id : Text) → IsKnown id → settle_fault s.rules false (held_for given id) ≡ kind.InvalidValue ∷ []
  wants_fails given id k =
      let p = by_id 1 ns os id k in
      ap (λ o. option_map_or (λ a. Rattle.clap.specs.Faults.use_fault false a [] (rows_of_given given)) o []) p.is

  idle_end : (given : Given) (last : Option (Text × Text)) (p : ℕ) (t : Bool) → IsKnownLast last → reads s (idle_at given last p t) [] ≡ option_map rows_of_given (need (settle given last) (finish ns))
  unfolding walk_fault
  idle_end given last p t k = go (settle given last) (settles given last k)
    where
      go : (o : Option Given) → Settles (held_at given last) o
          → judged (or_else (settle_fault s.rules false (held_at given last)) (or_else (defaults_fault (settled s.rules (held_at given last)).rows s.rules)
          (check_fault s (fold with_default (settled s.rules (held_at given last)).rows s.rules) false))) (fold with_default (settled s.rules (held_at given last)).rows s.rules)
          ≡ option_map rows_of_given (need o (finish ns))
      go None h = ap (λ f. judged (or_else f (or_else (defaults_fault (settled s.rules (held_at given last)).rows s.rules)
          (check_fault s (fold with_default (settled s.rules (held_at given last)).rows s.rules) false))) (fold with_default (settled s.rules (held_at given last)).rows s.rules)) h.1.1
      go (Some g) h = (λ i. judged (or_else (h.0 i) (or_else (defaults_fault (h.1 i).rows s.rules)
          (check_fault s (fold with_default (h.1 i).rows s.rules) false))) (fold with_default (h.1 i).rows s.rules)) ∙ checked g

  wants_end : (given : Given) (id : Text) (p : ℕ) (t : Bool) → IsKnown id → reads s (wants_at given id p t) [] ≡ None
  unfolding walk_fault
  wants_end given id p t k = ap (λ f. judged (or_else f (or_else (defaults_fault (settled s.rules (held_for given id)).rows s.rules)
      (check_fault s (fold with_default (settled s.rules (held_for given id)).rows s.rules) false))) (fold with_default (settled s.rules (held_for given id)).rows s.rules)) (wants_fails given id k)

  -- ---- where the positional words stand

  pub record Standing (p : ℕ) (free : List Text) : Type 0 where
    pub placed : (k : ℕ) → arg_by_index s.rules (p + k) ≡ first_placed (p + k) (drop k free)
    pub room : p + length free ≤ usize_max
    pub known : list_all (is_among ns) free ≡ true

  and_split : (a b : Bool) → (a && b) ≡ true → (a ≡ true) × (b ≡ true)
  and_split true b e = (refl, e)
  and_split false b e = absurd (true≢false (sym e))

  stands_next : (p : ℕ) (n : Text) (free : List Text) → Standing p (n ∷ free) → Standing (suc p) free
  stands_next p n free st = record {
    placed = λ k. let more : p + suc k ≡ suc p + k = omega arith in
        sym (ap (arg_by_index s.rules) more) ∙ st.placed (suc k) ∙ ap (λ q. first_placed q (drop k free)) more;
    room = let r : p + suc (length free) ≤ usize_max = st.room in omega arith;
    known = (and_split (is_among ns n) (list_all (is_among ns) free) st.known).1;
  }

  stands_here : (p : ℕ) (free : List Text) → Standing p free → arg_by_index s.rules p ≡ first_placed p free
  stands_here p free st = let none : p + 0 ≡ p = omega arith in sym (ap (arg_by_index s.rules) none) ∙ st.placed 0 ∙ ap (λ q. first_placed q free) none

  first_known : (p : ℕ) (n : Text) (free : List Text) → Standing p (n ∷ free) → IsKnown n
  first_known p n free st = ap (λ b. b || is_among os n) (and_split (is_among ns n) (list_all (is_among ns) free) st.known).0

  -- ---- a positional word

  and_false : (b : Bool) → (b && false) ≡ false
  and_false true = refl
  and_false false = refl

  or_false : (b : Bool) → (b || false) ≡ b
  or_false true = refl
  or_false false = refl

  abbrev after_place : Option Given → ℕ → Bool → Text → List Text → List Text → Option (List Row)
  after_place o p t word rest [] = None
  after_place o p t word rest (n ∷ free) = need o (λ g. reads s (idle_at g (Some (n, word)) (suc p) t) rest)

  abbrev hold : Given → Option (Text × List Text) → Held
  hold given pending = record { rows = rows_of_given given; pending = pending; skip = 0 }

  abbrev at : Given → Option (Text × List Text) → Waiting → ℕ → Bool → Walk
  at given pending waiting p t = record { held = hold given pending; waiting = waiting; position = p; is_trailing = t; stopped = None }

  place_word : (given : Given) (pending : Option (Text × List Text)) (waiting : Waiting) (p : ℕ) (t : Bool) (word : Text) (rest free : List Text) (o : Option Given)
      → Settles (hold given pending) o → Standing p free
      → word_met s.rules [] t waiting p word (hold given pending) ≡ (hold given pending, to_place) → word_fault s [] t waiting word (hold given pending) ≡ []
      → reads s (at given pending waiting p t) (word ∷ rest) ≡ after_place o p t word rest free
  unfolding walked
  place_word given pending waiting p t word rest [] o h st met fine =
      step_off s (at given pending waiting p t) word rest kind.UnknownArgument []
      ((λ i. or_else (fine i) (step_fault s p (met i).0 (met i).1)) ∙ ap (λ a. option_map_or (λ r. Rattle.clap.specs.Faults.positional_fault s.rules false r (hold given pending)) a (kind.UnknownArgument ∷ [])) (stands_here p [] st))
  place_word given pending waiting p t word rest (n ∷ free) o h st met fine = by o h
    where
      held : Held
      held = hold given pending

      goes : turn_fault s [] (at given pending waiting p t) word ≡ settle_fault s.rules false (hold given pending)
      goes = (λ i. or_else (fine i) (step_fault s p (met i).0 (met i).1))
          ∙ ap (λ a. option_map_or (λ r. Rattle.clap.specs.Faults.positional_fault s.rules false r (hold given pending)) a (kind.UnknownArgument ∷ [])) (stands_here p (n ∷ free) st)
          ∙ ap (λ b. cond b [] (settle_fault s.rules false (hold given pending))) (and_false (is_pending (word_rule p n) pending))

      next_place : min (p + 1) usize_max ≡ suc p
      next_place = let r : p + suc (length free) ≤ usize_max = st.room in omega arith

      by : (o : Option Given) → Settles (hold given pending) o → reads s (at given pending waiting p t) (word ∷ rest) ≡ after_place o p t word rest (n ∷ free)
      by None h = step_off s (at given pending waiting p t) word rest h.0 h.1.0 (goes ∙ h.1.1)
      by (Some g) h = step_on s (at given pending waiting p t) (idle_at g (Some (n, word)) (suc p) t) word rest (goes ∙ h.0)
          (ap (λ m. after_step s.rules word (at given pending waiting p t) m.0 m.1) met
          ∙ ap (λ a. to_positional s.rules a word (at given pending waiting p t) (hold given pending)) (stands_here p (n ∷ free) st)
          ∙ (λ i. record {
            held = pushed n word (cond (and_false (is_pending (word_rule p n) pending) i) (hold given pending) (settled s.rules (hold given pending)));
            waiting = idle;
            position = next_place i;
            is_trailing = or_false t i;
            stopped = None;
          })
          ∙ ap (λ k. record { held = pushed n word k; waiting = idle; position = suc p; is_trailing = t; stopped = None }) h.1)

  -- ---- a word before `--`

  -- where no subcommand is met
  abbrev IsLeafWord : Waiting → Text → Type 0
  IsLeafWord waiting word = subcommand_met [] waiting word ≡ None

  abbrev dashes_of : Text → Bool
  dashes_of word = bytes_eq word (45 ∷ 45 ∷ [])

  fault_behind : (waiting : Waiting) (word : Text) (h : Held) (b : Bool) (long : Option (Text × Option Text)) → IsLeafWord waiting word → dashes_of word ≡ b → long_of word ≡ long
      → word_fault s [] false waiting word h ≡ cond b [] (flag_word_fault s.rules false long word h)
  fault_behind waiting word h b long leaf is as_long = ap (λ o. other_fault s o word h) leaf ∙ (λ i. cond (is i) [] (flag_word_fault s.rules false (as_long i) word h))

  met_behind : (waiting : Waiting) (p : ℕ) (word : Text) (h : Held) (b : Bool) (long : Option (Text × Option Text)) → IsLeafWord waiting word → dashes_of word ≡ b → long_of word ≡ long
      → word_met s.rules [] false waiting p word h ≡ cond b (h, trailing p) (long_or_other s.rules waiting word long h)
  met_behind waiting p word h b long leaf is as_long = ap (λ o. subcommand_or_other s.rules o waiting p word h) leaf ∙ (λ i. cond (is i) (h, trailing p) (long_or_other s.rules waiting word (as_long i) h))

  end_word : (given : Given) (pending : Option (Text × List Text)) (waiting : Waiting) (p : ℕ) (word : Text) (rest : List Text) → IsLeafWord waiting word → dashes_of word ≡ true
      → reads s (at given pending waiting p false) (word ∷ rest) ≡ reads s (at given pending waiting p true) rest
  unfolding walked
  end_word given pending waiting p word rest leaf is =
      let met = met_behind waiting p word (hold given pending) true (long_of word) leaf is refl in
      step_on s (at given pending waiting p false) (at given pending waiting p true) word rest
      (λ i. or_else (fault_behind waiting word (hold given pending) true (long_of word) leaf is refl i) (step_fault s p (met i).0 (met i).1))
      (ap (λ m. after_step s.rules word (at given pending waiting p false) m.0 m.1) met)

  wrong_word : (given : Given) (pending : Option (Text × List Text)) (waiting : Waiting) (p : ℕ) (word : Text) (rest : List Text) (flag : ℕ) (flags : Text) (x : ℕ) → IsLeafWord waiting word → dashes_of word ≡ false
      → long_of word ≡ None → short_of word ≡ Some (flag ∷ flags) → slice_get (chars (flag ∷ flags)) 0 ≡ Some x
      → reads s (at given pending waiting p false) (word ∷ rest) ≡ None
  unfolding flags_fault
  wrong_word given pending waiting p word rest flag flags x leaf is long short first =
      let met = word_met s.rules [] false waiting p word (hold given pending) in
      step_off s (at given pending waiting p false) word rest kind.UnknownArgument []
      (ap (λ f. or_else f (step_fault s p met.0 met.1))
      (fault_behind waiting word (hold given pending) false None leaf is long
      ∙ ap (λ o. option_map_or (λ fs. Rattle.clap.specs.Faults.bundle_fault s.rules false fs (hold given pending)) o []) short
      ∙ ap (λ c. Rattle.clap.specs.Faults.bundle_step_fault s.rules false c (flag ∷ flags) 0 (hold given pending) (flags_fault s.rules false (length flags))) first
      ∙ ap (λ a. Rattle.clap.specs.Faults.short_fault s.rules false a (drop (length (Rattle.std.specs.Prelude.encode_utf8 x)) (flag ∷ flags)) (hold given pending)
      (flags_fault s.rules false (length flags) (drop (length (Rattle.std.specs.Prelude.encode_utf8 x)) (flag ∷ flags)) 0)) (by_short 1 ns os x)))

  abbrev after_full : Bool → Option Given → Text → Text → ℕ → List Text → Option (List Row)
  after_full b o n v p rest = cond b (need o (λ g. need (give n v g) (λ more. reads s (idle_at more None p false) rest))) None

  full_word : (given : Given) (pending : Option (Text × List Text)) (waiting : Waiting) (p : ℕ) (word : Text) (rest : List Text) (n v : Text) (o : Option Given) (b : Bool)
      → Settles (hold given pending) o → IsLeafWord waiting word → dashes_of word ≡ false → long_of word ≡ Some (n, Some v) → is_among os n ≡ b
      → reads s (at given pending waiting p false) (word ∷ rest) ≡ after_full b o n v p rest
  unfolding walked
  full_word given pending waiting p word rest n v o b h leaf is long among = by b (by_long 1 ns os n b among) o h
    where
      faulty : word_fault s [] false waiting word (hold given pending) ≡ Rattle.clap.specs.Faults.long_fault s.rules false (arg_by_long s.rules n) (Some v) (hold given pending)
      faulty = fault_behind waiting word (hold given pending) false (Some (n, Some v)) leaf is long

      meets : word_met s.rules [] false waiting p word (hold given pending) ≡ long_or_other s.rules waiting word (Some (n, Some v)) (hold given pending)
      meets = met_behind waiting p word (hold given pending) false (Some (n, Some v)) leaf is long

      use_of : Given → Kinds
      use_of g = Rattle.clap.specs.Faults.use_fault false (option_rule n) (v ∷ []) (rows_of_given g)

      two : (b : Bool) (g : Given) → is_given g n ≡ b → word_fault s [] false waiting word (hold given pending) ≡ use_of g
          → arg_by_long s.rules n ≡ Some (option_rule n) → Settles (hold given pending) (Some g)
          → reads s (at given pending waiting p false) (word ∷ rest) ≡ need (cond b None (Some (g ++ (n, v) ∷ []))) (λ more. reads s (idle_at more None p false) rest)
      two true g e fails there h = step_off s (at given pending waiting p false) word rest kind.ArgumentConflict []
          (ap (λ f. or_else f (step_fault s p (word_met s.rules [] false waiting p word (hold given pending)).0 (word_met s.rules [] false waiting p word (hold given pending)).1))
          (fails ∙ use_fails g n v (Some n) None false true e))
      two false g e fails there h =
          let goes = meets ∙ ap (λ a. Rattle.clap.specs.Walk.after_flag s.rules waiting word (Rattle.clap.specs.Walk.long_met s.rules a (Some v) (hold given pending)).0 (Rattle.clap.specs.Walk.long_met s.rules a (Some v) (hold given pending)).1) there in
          step_on s (at given pending waiting p false) (idle_at (g ++ (n, v) ∷ []) None p false) word rest
          ((λ i. or_else ((fails ∙ use_fails g n v (Some n) None false false e) i) (step_fault s p (goes i).0 (goes i).1)))
          (ap (λ m. after_step s.rules word (at given pending waiting p false) m.0 m.1) goes
          ∙ ap (λ k. record (idle_at given None p false) { held = record (hold given pending) { rows = Rattle.clap.specs.Walk.used (option_rule n) (v ∷ []) k.rows; pending = None } }) h.1
          ∙ ap (λ rows. record (idle_at given None p false) { held = record (held_at given None) { rows = rows } }) (used_once g n v (Some n) None false e))

      by : (b : Bool) → arg_by_long s.rules n ≡ cond b (Some (option_rule n)) None → (o : Option Given) → Settles (hold given pending) o
          → reads s (at given pending waiting p false) (word ∷ rest) ≡ after_full b o n v p rest
      by false there o h = step_off s (at given pending waiting p false) word rest kind.UnknownArgument []
          (ap (λ f. or_else f (step_fault s p (word_met s.rules [] false waiting p word (hold given pending)).0 (word_met s.rules [] false waiting p word (hold given pending)).1))
          (faulty ∙ ap (λ a. Rattle.clap.specs.Faults.long_fault s.rules false a (Some v) (hold given pending)) there))
      by true there None h = step_off s (at given pending waiting p false) word rest h.0 h.1.0
          (ap (λ f. or_else f (step_fault s p (word_met s.rules [] false waiting p word (hold given pending)).0 (word_met s.rules [] false waiting p word (hold given pending)).1))
          (faulty ∙ ap (λ a. Rattle.clap.specs.Faults.long_fault s.rules false a (Some v) (hold given pending)) there
          ∙ ap (λ f. or_else f (Rattle.clap.specs.Faults.use_fault false (option_rule n) (v ∷ []) (settled s.rules (hold given pending)).rows)) h.1.1))
      by true there (Some g) h = two (is_given g n) g refl
          (faulty ∙ ap (λ a. Rattle.clap.specs.Faults.long_fault s.rules false a (Some v) (hold given pending)) there
          ∙ (λ i. or_else (h.0 i) (Rattle.clap.specs.Faults.use_fault false (option_rule n) (v ∷ []) (h.1 i).rows))) there h

  abbrev after_named : Bool → Option Given → Text → ℕ → List Text → Option (List Row)
  after_named b o n p rest = cond b (need o (λ g. reads s (wants_at g n p false) rest)) None

  named_word : (given : Given) (pending : Option (Text × List Text)) (waiting : Waiting) (p : ℕ) (word : Text) (rest : List Text) (n : Text) (o : Option Given) (b : Bool)
      → Settles (hold given pending) o → IsLeafWord waiting word → dashes_of word ≡ false → long_of word ≡ Some (n, None) → is_among os n ≡ b
      → reads s (at given pending waiting p false) (word ∷ rest) ≡ after_named b o n p rest
  unfolding walked
  named_word given pending waiting p word rest n o b h leaf is long among = by b (by_long 1 ns os n b among) o h
    where
      faulty : word_fault s [] false waiting word (hold given pending) ≡ Rattle.clap.specs.Faults.long_fault s.rules false (arg_by_long s.rules n) None (hold given pending)
      faulty = fault_behind waiting word (hold given pending) false (Some (n, None)) leaf is long

      meets : word_met s.rules [] false waiting p word (hold given pending) ≡ long_or_other s.rules waiting word (Some (n, None)) (hold given pending)
      meets = met_behind waiting p word (hold given pending) false (Some (n, None)) leaf is long

      by : (b : Bool) → arg_by_long s.rules n ≡ cond b (Some (option_rule n)) None → (o : Option Given) → Settles (hold given pending) o
          → reads s (at given pending waiting p false) (word ∷ rest) ≡ after_named b o n p rest
      by false there o h = step_off s (at given pending waiting p false) word rest kind.UnknownArgument []
          (ap (λ f. or_else f (step_fault s p (word_met s.rules [] false waiting p word (hold given pending)).0 (word_met s.rules [] false waiting p word (hold given pending)).1))
          (faulty ∙ ap (λ a. Rattle.clap.specs.Faults.long_fault s.rules false a None (hold given pending)) there))
      by true there None h = step_off s (at given pending waiting p false) word rest h.0 h.1.0
          (ap (λ f. or_else f (step_fault s p (word_met s.rules [] false waiting p word (hold given pending)).0 (word_met s.rules [] false waiting p word (hold given pending)).1))
          (faulty ∙ ap (λ a. Rattle.clap.specs.Faults.long_fault s.rules false a None (hold given pending)) there ∙ h.1.1))
      by true there (Some g) h =
          let goes = meets ∙ ap (λ a. Rattle.clap.specs.Walk.after_flag s.rules waiting word (Rattle.clap.specs.Walk.long_met s.rules a None (hold given pending)).0 (Rattle.clap.specs.Walk.long_met s.rules a None (hold given pending)).1) there in
          step_on s (at given pending waiting p false) (wants_at g n p false) word rest
          ((λ i. or_else ((faulty ∙ ap (λ a. Rattle.clap.specs.Faults.long_fault s.rules false a None (hold given pending)) there ∙ h.0) i) (step_fault s p (goes i).0 (goes i).1)))
          (ap (λ m. after_step s.rules word (at given pending waiting p false) m.0 m.1) goes
          ∙ ap (λ k. record (wants_at given n p false) { held = record k { pending = Some (n, []) } }) h.1)

  -- the value of an option
  value_word : (given : Given) (p : ℕ) (id word : Text) (rest : List Text) → IsKnown id → dashes_of word ≡ false → long_of word ≡ None → short_of word ≡ None
      → reads s (wants_at given id p false) (word ∷ rest) ≡ reads s (idle_at given (Some (id, word)) p false) rest
  unfolding walked
  value_word given p id word rest k is long short =
      let known = by_id 1 ns os id k in
      let goes = met_behind (waits_for id) p word (held_for given id) false None refl is long
      ∙ ap (λ o. Rattle.clap.specs.Walk.short_or_plain s.rules (waits_for id) word o (held_for given id)) short
      ∙ ap (λ a. ((Rattle.clap.specs.Walk.option_word a id word (held_for given id)).0, Rattle.clap.specs.Walk.next (Rattle.clap.specs.Walk.option_word a id word (held_for given id)).1)) known.is
      ∙ ap (λ b. (held_at given (Some (id, word)), Rattle.clap.specs.Walk.next (cond (Rattle.std.specs.Prelude.nat_lt (cond b 1 0) 1) (waits_for id) idle))) (same_as_itself id) in
      step_on s (wants_at given id p false) (idle_at given (Some (id, word)) p false) word rest
      (λ i. or_else ((fault_behind (waits_for id) word (held_for given id) false None refl is long
      ∙ ap (λ o. option_map_or (λ fs. Rattle.clap.specs.Faults.bundle_fault s.rules false fs (held_for given id)) o []) short) i) (step_fault s p (goes i).0 (goes i).1))
      (ap (λ m. after_step s.rules word (wants_at given id p false) m.0 m.1) goes)

  -- ---- all the words

  abbrev found_from : Option Given → List Text → Option (List Part) → Option (List Row)
  found_from o free parts = option_map rows_of_given (need o (λ g. need parts (finds ns os free g)))

  none_after : (o : Option Given) → ◌≡◌ {A = Option (List Row)} None (option_map rows_of_given (need o (λ g. None)))
  none_after None = refl
  none_after (Some g) = refl

  placed_then : (o : Option Given) (p : ℕ) (t : Bool) (word n : Text) (rest free : List Text) (parts : Option (List Part))
      → ((g : Given) → reads s (idle_at g (Some (n, word)) (suc p) t) rest ≡ found_from (give n word g) free parts)
      → after_place o p t word rest (n ∷ free) ≡ found_from o (n ∷ free) (option_map (λ ps. positional word ∷ ps) parts)
  placed_then None p t word n rest free parts next = refl
  placed_then (Some g) p t word n rest free parts next = next g
      ∙ ap (option_map rows_of_given) (swap (give n word g) parts (λ more ps. finds ns os free more ps)
      ∙ (λ i. need parts (λ ps. sym (need_need (give n word g) (λ more. gives os free more ps) (finish ns)) i))
      ∙ sym (need_map parts (λ ps. positional word ∷ ps) (finds ns os (n ∷ free) g)))

  unplaced : (o : Option Given) (word : Text) (parts : Option (List Part)) → ◌≡◌ {A = Option (List Row)} None (found_from o [] (option_map (λ ps. positional word ∷ ps) parts))
  unplaced None word parts = refl
  unplaced (Some g) word None = refl
  unplaced (Some g) word (Some ps) = refl

  word_placed : (o : Option Given) (p : ℕ) (t : Bool) (word : Text) (rest free : List Text) (parts : Option (List Part)) → Standing p free
      → ((g : Given) (n : Text) (more : List Text) → Standing (suc p) more → IsKnown n → reads s (idle_at g (Some (n, word)) (suc p) t) rest ≡ found_from (give n word g) more parts)
      → after_place o p t word rest free ≡ found_from o free (option_map (λ ps. positional word ∷ ps) parts)
  word_placed o p t word rest [] parts st next = unplaced o word parts
  word_placed o p t word rest (n ∷ free) parts st next = placed_then o p t word n rest free parts (λ g. next g n free (stands_next p n free st) (first_known p n free st))

  -- an option with its value
  option_then : (o : Option Given) (n v : Text) (free : List Text) (parts : Option (List Part)) (b : Bool) → is_among os n ≡ b
      → cond b (option_map rows_of_given (need o (λ g. need (give n v g) (λ more. need parts (finds ns os free more))))) None ≡ found_from o free (option_map (λ ps. option n v ∷ ps) parts)
  option_then None n v free parts true among = refl
  option_then None n v free parts false among = refl
  option_then (Some g) n v free None true among = ap (option_map rows_of_given) (swap (give n v g) None (λ more ps. finds ns os free more ps))
  option_then (Some g) n v free None false among = refl
  option_then (Some g) n v free (Some ps) true among = ap (option_map rows_of_given) (sym (need_need (give n v g) (λ more. gives os free more ps) (finish ns)))
      ∙ ap (λ b. option_map rows_of_given (need (cond b (need (give n v g) (λ more. gives os free more ps)) None) (finish ns))) (sym among)
  option_then (Some g) n v free (Some ps) false among = ap (λ b. option_map rows_of_given (need (cond b (need (give n v g) (λ more. gives os free more ps)) None) (finish ns))) (sym among)

  full_then : (o : Option Given) (n v : Text) (p : ℕ) (rest free : List Text) (parts : Option (List Part)) (b : Bool) → is_among os n ≡ b
      → ((more : Given) → reads s (idle_at more None p false) rest ≡ option_map rows_of_given (need parts (finds ns os free more)))
      → after_full b o n v p rest ≡ found_from o free (option_map (λ ps. option n v ∷ ps) parts)
  full_then o n v p rest free parts b among next = (λ i. cond b (need o (λ g. need (give n v g) (λ more. next more i))) None) ∙ ap (λ x. cond b x None) (inwards o) ∙ option_then o n v free parts b among
    where
      inwards : (o : Option Given) → need o (λ g. need (give n v g) (λ more. option_map rows_of_given (need parts (finds ns os free more))))
          ≡ option_map rows_of_given (need o (λ g. need (give n v g) (λ more. need parts (finds ns os free more))))
      inwards None = refl
      inwards (Some g) = go (give n v g)
        where
          go : (m : Option Given) → need m (λ more. option_map rows_of_given (need parts (finds ns os free more))) ≡ option_map rows_of_given (need m (λ more. need parts (finds ns os free more)))
          go None = refl
          go (Some more) = refl

  -- an option whose value is the next word
  unknown_named : (g : Given) (n : Text) (rest free : List Text) → is_among os n ≡ false → ◌≡◌ {A = Option (List Row)} None (option_map rows_of_given (need (strict (Some n) rest) (finds ns os free g)))
  unknown_named g n [] free among = refl
  unknown_named g n (value ∷ words) free among = go (kind_of value) (strict None words)
    where
      go : (k : Kind) (parts : Option (List Part)) → ◌≡◌ {A = Option (List Row)} None (option_map rows_of_given (need (if_plain k (option_map (λ ps. option n value ∷ ps) parts)) (finds ns os free g)))
      go plain parts = option_then (Some g) n value free parts false among
      go end_of_options parts = refl
      go (full a b) parts = refl
      go (named a) parts = refl
      go wrong parts = refl

  named_then : (o : Option Given) (n : Text) (p : ℕ) (rest free : List Text) (b : Bool) → is_among os n ≡ b
      → (is_among os n ≡ true → (g : Given) → reads s (wants_at g n p false) rest ≡ option_map rows_of_given (need (strict (Some n) rest) (finds ns os free g)))
      → after_named b o n p rest ≡ found_from o free (strict (Some n) rest)
  named_then None n p rest free true among next = refl
  named_then None n p rest free false among next = refl
  named_then (Some g) n p rest free true among next = next among g
  named_then (Some g) n p rest free false among next = unknown_named g n rest free among

  trailing_words : (words : List Text) (given : Given) (last : Option (Text × Text)) (p : ℕ) (free : List Text) → Standing p free → IsKnownLast last
      → reads s (idle_at given last p true) words ≡ found_from (settle given last) free (Some (map positional words))
  trailing_words [] given last p free st k = idle_end given last p true k
  trailing_words (word ∷ rest) given last p free st k =
      place_word given (pending_of last) idle p true word rest free (settle given last) (settles given last k) st refl refl
      ∙ word_placed (settle given last) p true word rest free (Some (map positional rest)) st (λ g n more next known. trailing_words rest g (Some (n, word)) (suc p) more next known)

  wants_settles : (given : Given) (id : Text) → IsKnown id → Settles (held_for given id) None
  wants_settles given id k = (kind.InvalidValue, ([], wants_fails given id k))

  wants_trailing : (words : List Text) (given : Given) (id : Text) (p : ℕ) (free : List Text) → Standing p free → IsKnown id → reads s (wants_at given id p true) words ≡ None
  wants_trailing [] given id p free st k = wants_end given id p true k
  wants_trailing (word ∷ rest) given id p free st k = place_word given (Some (id, [])) (waits_for id) p true word rest free None (wants_settles given id k) st refl refl ∙ go free
    where
      go : (free : List Text) → after_place None p true word rest free ≡ None
      go [] = refl
      go (n ∷ free) = refl

  abbrev Idle : List Text → Type 0
  Idle words = (given : Given) (last : Option (Text × Text)) (p : ℕ) (free : List Text) → Standing p free → IsKnownLast last
      → reads s (idle_at given last p false) words ≡ found_from (settle given last) free (strict None words)

  abbrev Wants : List Text → Type 0
  Wants words = (given : Given) (id : Text) (p : ℕ) (free : List Text) → Standing p free → is_among os id ≡ true
      → reads s (wants_at given id p false) words ≡ option_map rows_of_given (need (strict (Some id) words) (finds ns os free given))

  or_true : (a b : Bool) → b ≡ true → (a || b) ≡ true
  or_true true b e = refl
  or_true false b e = e

  idle_by : (word : Text) (rest : List Text) (k : Kind) → IsUtf8 word → IsKind k (dashes_of word) (long_of word) (short_of word) → Idle rest → Wants rest
      → (given : Given) (last : Option (Text × Text)) (p : ℕ) (free : List Text) → Standing p free → IsKnownLast last
      → reads s (idle_at given last p false) (word ∷ rest) ≡ found_from (settle given last) free (parts_from k word rest (λ due. strict due rest))
  idle_by word rest end_of_options u is idles waits given last p free st k =
      end_word given (pending_of last) idle p word rest refl is ∙ trailing_words rest given last p free st k
  idle_by word rest (full n v) u is idles waits given last p free st k =
      full_word given (pending_of last) idle p word rest n v (settle given last) (is_among os n) (settles given last k) refl is.0 is.1 refl
      ∙ full_then (settle given last) n v p rest free (strict None rest) (is_among os n) refl (λ more. idles more None p free st tt)
  idle_by word rest (named n) u is idles waits given last p free st k =
      named_word given (pending_of last) idle p word rest n (settle given last) (is_among os n) (settles given last k) refl is.0 is.1 refl
      ∙ named_then (settle given last) n p rest free (is_among os n) refl (λ among g. waits g n p free st among)
  idle_by word rest wrong u is idles waits given last p free st k =
      let first = first_flag word is.2.0 is.2.1.0 u is.2.1.1 in
      wrong_word given (pending_of last) idle p word rest is.2.0 is.2.1.0 first.0 refl is.0 is.1 is.2.1.1 first.1 ∙ none_after (settle given last)
  idle_by word rest plain u is idles waits given last p free st k =
      let fault = fault_behind idle word (held_at given last) false None refl is.0 is.1 ∙ ap (λ o. option_map_or (λ fs. Rattle.clap.specs.Faults.bundle_fault s.rules false fs (held_at given last)) o []) is.2 in
      let met = met_behind idle p word (held_at given last) false None refl is.0 is.1 ∙ ap (λ o. Rattle.clap.specs.Walk.short_or_plain s.rules idle word o (held_at given last)) is.2 in
      place_word given (pending_of last) idle p false word rest free (settle given last) (settles given last k) st met fault
      ∙ word_placed (settle given last) p false word rest free (strict None rest) st (λ g n more next known. idles g (Some (n, word)) (suc p) more next known)

  no_after_full : (b : Bool) (n v : Text) (p : ℕ) (rest : List Text) → after_full b None n v p rest ≡ None
  no_after_full true n v p rest = refl
  no_after_full false n v p rest = refl

  no_after_named : (b : Bool) (n : Text) (p : ℕ) (rest : List Text) → after_named b None n p rest ≡ None
  no_after_named true n p rest = refl
  no_after_named false n p rest = refl

  wants_by : (word : Text) (rest : List Text) (k : Kind) → IsUtf8 word → IsKind k (dashes_of word) (long_of word) (short_of word) → Idle rest
      → (given : Given) (id : Text) (p : ℕ) (free : List Text) → Standing p free → is_among os id ≡ true
      → reads s (wants_at given id p false) (word ∷ rest) ≡ option_map rows_of_given (need (if_plain k (option_map (λ ps. option id word ∷ ps) (strict None rest))) (finds ns os free given))
  wants_by word rest end_of_options u is idles given id p free st among =
      let known = or_true (is_among ns id) (is_among os id) among in
      end_word given (Some (id, [])) (waits_for id) p word rest refl is ∙ wants_trailing rest given id p free st known
  wants_by word rest (full n v) u is idles given id p free st among =
      let known = or_true (is_among ns id) (is_among os id) among in
      full_word given (Some (id, [])) (waits_for id) p word rest n v None (is_among os n) (wants_settles given id known) refl is.0 is.1 refl ∙ no_after_full (is_among os n) n v p rest
  wants_by word rest (named n) u is idles given id p free st among =
      let known = or_true (is_among ns id) (is_among os id) among in
      named_word given (Some (id, [])) (waits_for id) p word rest n None (is_among os n) (wants_settles given id known) refl is.0 is.1 refl ∙ no_after_named (is_among os n) n p rest
  wants_by word rest wrong u is idles given id p free st among =
      let first = first_flag word is.2.0 is.2.1.0 u is.2.1.1 in
      wrong_word given (Some (id, [])) (waits_for id) p word rest is.2.0 is.2.1.0 first.0 refl is.0 is.1 is.2.1.1 first.1
  wants_by word rest plain u is idles given id p free st among =
      let known = or_true (is_among ns id) (is_among os id) among in
      value_word given p id word rest known is.0 is.1 is.2 ∙ idles given (Some (id, word)) p free st known
      ∙ option_then (Some given) id word free (strict None rest) true among

  both : (words : List Text) → AreTexts words → Idle words × Wants words
  both [] u = (λ given last p free st k. idle_end given last p false k, λ given id p free st among. wants_end given id p false (or_true (is_among ns id) (is_among os id) among))
  both (word ∷ rest) u =
      let more = both rest u.1 in
      (idle_by word rest (kind_of word) u.0 (is_kind word) more.0 more.1, wants_by word rest (kind_of word) u.0 (is_kind word) more.0)

  -- what a command's words give
  pub leaf_reads : (words : List Text) → AreTexts words → Standing 1 ns → reads s (idle_at [] None 1 false) words ≡ option_map rows_of_given (need (strict None words) (finds ns os ns []))
  leaf_reads words u st = (both words u).0 [] None 1 ns st tt
