-- A value that begins with `-` makes no command, so the parts that `clap` finds are enough.
use Rattle.std.proofs.Common.{◌≡◌, ◌∙◌, ◌==◌, ◌&&◌, ◌||◌, ℕ, Bool, true, false, cond, refl, sym, ap, List, [], ◌∷◌, ◌++◌, map, true≢false, eqb-true, find}
use Rattle.std.specs.Prelude.{Option, Some, None, option_map, option_and_then}
use Rattle.std.specs.List.{list_all, list_any}
use Rattle.std.specs.Str.{bytes_eq}
use Rattle.sn_words.specs.Words.{Text, Form, Given, Kind, Part, Setting, end_of_options, full, named, wrong, plain, positional, option, asked_by, command_in, dash, give, gives, is_among, is_given, kind_behind, kind_of, need, need_that, number_in, number_of, number_or, numbers_in, options_of, parts_from, parts_of, positionals_in, text_in}
use Rattle.sn_words.proofs.Leaf.{same_as_itself, same_text}
use Rattle.sn_words.proofs.Strict.{finds, finish, if_plain, need_need, strict}

abbrev pub IsOther : Kind → Type 0
IsOther plain = ⊥
IsOther _ = Unit {0}

-- ---- a value that begins with `-` is no number

dashed : (a : ℕ) (b : ℕ) (rest : Text) (v : Bool) → (a == dash) ≡ v → IsOther (cond v (cond (b == dash) (kind_behind rest) wrong) plain) → number_of (a ∷ b ∷ rest) ≡ None
dashed a b rest true e k = ap (λ c. number_of (c ∷ b ∷ rest)) (eqb-true a dash e)
dashed a b rest false e k = absurd k

no_number : (v : Text) → IsOther (kind_of v) → number_of v ≡ None
no_number [] k = absurd k
no_number (a ∷ []) k = absurd k
no_number (a ∷ b ∷ rest) k = dashed a b rest (a == dash) refl k

pub none_needed : {A B : Type 0} (a : Option A) (f : A → Option B) → ((x : A) → f x ≡ None) → need a f ≡ None
none_needed None f e = refl
none_needed (Some x) f e = e x

no_numbers : (look : Text → Option Text) (settings : List Setting) (n v : Text) → is_among (map (λ setting. setting.name) settings) n ≡ true → look n ≡ Some v → number_of v ≡ None
    → numbers_in look settings ≡ None
no_numbers look [] n v among there bad = absurd (true≢false (sym among))
no_numbers look (setting ∷ settings) n v among there bad = go (bytes_eq setting.name n) refl among (λ more. no_numbers look settings n v more there bad)
  where
    go : (b : Bool) → bytes_eq setting.name n ≡ b → (b || is_among (map (λ s. s.name) settings) n) ≡ true
        → (is_among (map (λ s. s.name) settings) n ≡ true → numbers_in look settings ≡ None)
        → numbers_in look (setting ∷ settings) ≡ None
    go true is among rec = ap (λ o. need (number_or setting.least setting.most setting.usual o) (λ x. need (numbers_in look settings) (λ xs. Some (x ∷ xs)))) (ap look (same_text setting.name n is) ∙ there)
        ∙ ap (λ o. need (need o (λ m. need_that (Rattle.std.specs.Prelude.nat_le setting.least m && Rattle.std.specs.Prelude.nat_le m setting.most) m)) (λ x. need (numbers_in look settings) (λ xs. Some (x ∷ xs)))) bad
    go false is among rec = none_needed (number_in look setting) (λ x. need (numbers_in look settings) (λ xs. Some (x ∷ xs))) (λ x. ap (λ o. need o (λ xs. Some (x ∷ xs))) (rec among))

not_asked : (form : Form) (look : Text → Option Text) (n v : Text) → is_among (options_of form) n ≡ true → look n ≡ Some v → IsOther (kind_of v) → asked_by form look ≡ None
not_asked form look n v among there k = none_needed (positionals_in look form.words) (λ words. need (numbers_in look form.settings) (λ numbers. form.makes words numbers))
    (λ words. ap (λ o. need o (λ numbers. form.makes words numbers)) (no_numbers look form.settings n v among there (no_number v k)))

-- ---- what was given stays

text_kept : (given : Given) (m w n v : Text) → text_in given n ≡ Some v → text_in (given ++ (m, w) ∷ []) n ≡ Some v
text_kept [] m w n v there = absurd (true≢false (ap (λ o. Rattle.std.specs.Prelude.is_some o) (sym there)))
text_kept (g ∷ given) m w n v there = go (bytes_eq g.0 n) there (λ more. text_kept given m w n v more)
  where
    go : (b : Bool) → option_map (λ (p : Text × Text). p.1) (cond b (Some g) (find (λ p. bytes_eq p.0 n) given)) ≡ Some v → (text_in given n ≡ Some v → text_in (given ++ (m, w) ∷ []) n ≡ Some v)
        → option_map (λ (p : Text × Text). p.1) (cond b (Some g) (find (λ p. bytes_eq p.0 n) (given ++ (m, w) ∷ []))) ≡ Some v
    go true there rec = there
    go false there rec = rec there

text_new : (given : Given) (n v : Text) → is_given given n ≡ false → text_in (given ++ (n, v) ∷ []) n ≡ Some v
text_new [] n v e = ap (λ b. option_map (λ (p : Text × Text). p.1) (cond b (Some (n, v)) None)) (same_as_itself n)
text_new (g ∷ given) n v e = go (bytes_eq g.0 n) e (λ more. text_new given n v more)
  where
    go : (b : Bool) → (b || is_given given n) ≡ false → (is_given given n ≡ false → text_in (given ++ (n, v) ∷ []) n ≡ Some v)
        → option_map (λ (p : Text × Text). p.1) (cond b (Some g) (find (λ p. bytes_eq p.0 n) (given ++ (n, v) ∷ []))) ≡ Some v
    go true e rec = absurd (true≢false e)
    go false e rec = rec e

module _ {C : Type 0} (ns os : List Text) (ask : Given → Option C) where
  -- a text that begins with `-` is refused of an option
  abbrev pub Minds : Type 0
  Minds = (g : Given) (n v : Text) → is_among os n ≡ true → text_in g n ≡ Some v → IsOther (kind_of v) → ask g ≡ None

  abbrev pub asks : List Text → Given → Option (List Part) → Option C
  asks free given parts = need (need parts (finds ns os free given)) ask

  abbrev asks_of : List Text → Given → List Part → Option C
  asks_of free given ps = need (finds ns os free given ps) ask

  stays_bad : Minds → (ps : List Part) (free : List Text) (given : Given) (n v : Text) → is_among os n ≡ true → text_in given n ≡ Some v → IsOther (kind_of v) → asks_of free given ps ≡ None
  stays_bad minds [] free given n v among there k = go (list_all (is_given given) ns)
    where
      go : (b : Bool) → need (need_that b given) ask ≡ None
      go true = minds given n v among there k
      go false = refl
  stays_bad minds (positional w ∷ ps) [] given n v among there k = refl
  stays_bad minds (positional w ∷ ps) (m ∷ free) given n v among there k = go (is_given given m) (stays_bad minds ps free (given ++ (m, w) ∷ []) n v among (text_kept given m w n v there) k)
    where
      go : (b : Bool) → asks_of free (given ++ (m, w) ∷ []) ps ≡ None → need (need (need (cond b None (Some (given ++ (m, w) ∷ []))) (λ more. gives os free more ps)) (finish ns)) ask ≡ None
      go true rec = refl
      go false rec = rec
  stays_bad minds (option m w ∷ ps) free given n v among there k = go (is_among os m) (is_given given m) (stays_bad minds ps free (given ++ (m, w) ∷ []) n v among (text_kept given m w n v there) k)
    where
      go : (a b : Bool) → asks_of free (given ++ (m, w) ∷ []) ps ≡ None → need (need (cond a (need (cond b None (Some (given ++ (m, w) ∷ []))) (λ more. gives os free more ps)) None) (finish ns)) ask ≡ None
      go false b rec = refl
      go true true rec = refl
      go true false rec = rec

  -- a part at the front
  no_given : {A : Type 0} (o : Option A) → ◌≡◌ {A = Option C} (need o (λ more. None)) None
  no_given None = refl
  no_given (Some x) = refl

  option_front : (free : List Text) (given : Given) (n v : Text) (parts : Option (List Part))
      → asks free given (option_map (λ ps. option n v ∷ ps) parts) ≡ cond (is_among os n) (need (give n v given) (λ more. asks free more parts)) None
  option_front free given n v None = go (is_among os n)
    where
      go : (a : Bool) → ◌≡◌ {A = Option C} None (cond a (need (give n v given) (λ more. None)) None)
      go true = sym (no_given (give n v given))
      go false = refl
  option_front free given n v (Some ps) = go (is_among os n) (is_given given n)
    where
      go : (a b : Bool) → need (need (cond a (need (cond b None (Some (given ++ (n, v) ∷ []))) (λ more. gives os free more ps)) None) (finish ns)) ask
          ≡ cond a (need (cond b None (Some (given ++ (n, v) ∷ []))) (λ more. asks_of free more ps)) None
      go true true = refl
      go true false = refl
      go false b = refl

  abbrev place_front_of : List Text → Given → Text → Option (List Part) → Option C
  place_front_of [] given w parts = None
  place_front_of (m ∷ free) given w parts = need (give m w given) (λ more. asks free more parts)

  place_front : (free : List Text) (given : Given) (w : Text) (parts : Option (List Part)) → asks free given (option_map (λ ps. positional w ∷ ps) parts) ≡ place_front_of free given w parts
  place_front [] given w None = refl
  place_front [] given w (Some ps) = refl
  place_front (m ∷ free) given w None = sym (no_given (give m w given))
  place_front (m ∷ free) given w (Some ps) = go (is_given given m)
    where
      go : (b : Bool) → need (need (need (cond b None (Some (given ++ (m, w) ∷ []))) (λ more. gives os free more ps)) (finish ns)) ask
          ≡ need (cond b None (Some (given ++ (m, w) ∷ []))) (λ more. asks_of free more ps)
      go true = refl
      go false = refl

  abbrev pub Same : List Text → Option Text → Type 0
  Same words due = (free : List Text) (given : Given) → asks free given (parts_of due words) ≡ asks free given (strict due words)

  same_option : (rest : List Text) (n v : Text) → Same rest None → (free : List Text) (given : Given)
      → asks free given (option_map (λ ps. option n v ∷ ps) (parts_of None rest)) ≡ asks free given (option_map (λ ps. option n v ∷ ps) (strict None rest))
  same_option rest n v same free given = option_front free given n v (parts_of None rest)
      ∙ (λ i. cond (is_among os n) (need (give n v given) (λ more. same free more i)) None) ∙ sym (option_front free given n v (strict None rest))

  bad_option : Minds → (n v : Text) → IsOther (kind_of v) → (parts : Option (List Part)) (free : List Text) (given : Given) → asks free given (option_map (λ ps. option n v ∷ ps) parts) ≡ None
  bad_option minds n v k parts free given = option_front free given n v parts ∙ go (is_among os n) refl (is_given given n) refl parts
    where
      go : (a : Bool) → is_among os n ≡ a → (b : Bool) → is_given given n ≡ b → (parts : Option (List Part))
          → cond a (need (cond b None (Some (given ++ (n, v) ∷ []))) (λ more. asks free more parts)) None ≡ None
      go false among b new parts = refl
      go true among true new parts = refl
      go true among false new None = refl
      go true among false new (Some ps) = stays_bad minds ps free (given ++ (n, v) ∷ []) n v among (text_new given n v new) k

  same_due : Minds → (v : Text) (rest : List Text) (n : Text) (k : Kind) → (IsOther k → IsOther (kind_of v)) → Same rest None → (free : List Text) (given : Given)
      → asks free given (option_map (λ ps. option n v ∷ ps) (parts_of None rest)) ≡ asks free given (if_plain k (option_map (λ ps. option n v ∷ ps) (strict None rest)))
  same_due minds v rest n plain other same free given = same_option rest n v same free given
  same_due minds v rest n end_of_options other same free given = bad_option minds n v (other tt) (parts_of None rest) free given
  same_due minds v rest n (full a b) other same free given = bad_option minds n v (other tt) (parts_of None rest) free given
  same_due minds v rest n (named a) other same free given = bad_option minds n v (other tt) (parts_of None rest) free given
  same_due minds v rest n wrong other same free given = bad_option minds n v (other tt) (parts_of None rest) free given

  same_from : (word : Text) (rest : List Text) (k : Kind) → ((due : Option Text) → Same rest due) → (free : List Text) (given : Given)
      → asks free given (parts_from k word rest (λ due. parts_of due rest)) ≡ asks free given (parts_from k word rest (λ due. strict due rest))
  same_from word rest end_of_options same free given = refl
  same_from word rest (full n v) same free given = same_option rest n v (same None) free given
  same_from word rest (named n) same free given = same (Some n) free given
  same_from word rest wrong same free given = refl
  same_from word rest plain same free given = place_front free given word (parts_of None rest) ∙ go free ∙ sym (place_front free given word (strict None rest))
    where
      go : (free : List Text) → place_front_of free given word (parts_of None rest) ≡ place_front_of free given word (strict None rest)
      go [] = refl
      go (m ∷ free) = (λ i. need (give m word given) (λ more. same None free more i))

  pub same_parts : Minds → (words : List Text) (due : Option Text) → Same words due
  same_parts minds [] None free given = refl
  same_parts minds [] (Some n) free given = refl
  same_parts minds (word ∷ rest) None free given = same_from word rest (kind_of word) (λ due. same_parts minds rest due) free given
  same_parts minds (word ∷ rest) (Some n) free given = same_due minds word rest n (kind_of word) (λ other. other) (same_parts minds rest None) free given

-- the command of a form, by the parts that `clap` finds
pub command_by_strict : (form : Form) (words : List Text) → command_in form words ≡ need (need (strict None words) (finds form.words (options_of form) form.words [])) (λ given. asked_by form (text_in given))
command_by_strict form words = sym (need_need (parts_of None words) (finds form.words (options_of form) form.words []) (λ given. asked_by form (text_in given)))
    ∙ same_parts form.words (options_of form) (λ given. asked_by form (text_in given))
    (λ g n v among there k. not_asked form (text_in g) n v among there k) words None form.words []
