-- An option and a positional word beside it may change places.
use Rattle.std.proofs.Common.{◌≡◌, ◌∙◌, ◌||◌, Bool, true, false, cond, refl, sym, ap, List, [], ◌∷◌, ◌++◌, true≢false, find}
use Rattle.std.specs.Prelude.{Option, Some, None, option_map}
use Rattle.std.specs.List.{list_all}
use Rattle.std.specs.Str.{bytes_eq}
use Rattle.std.specs.Cmp.Lexicographic.{nat_list_eq_equiv}
use Rattle.sn_words.specs.Words.{Text, Form, Given, Part, positional, option, asked_by, command_by, gives, is_among, is_given, need, need_that, options_of, text_in}
use Rattle.sn_words.specs.declared.command.Command.{Command}
use Rattle.sn_words.proofs.Leaf.{same_as_itself, same_text}

-- ---- the same texts of the same names

record Alike (a b : Given) : Type 0 where
  text : (name : Text) → text_in a name ≡ text_in b name
  has : (name : Text) → is_given a name ≡ is_given b name

abbrev first_some : Option Text → Option Text → Option Text
first_some (Some x) other = Some x
first_some None other = other

text_more : (given : Given) (m w x : Text) → text_in (given ++ (m, w) ∷ []) x ≡ first_some (text_in given x) (cond (bytes_eq m x) (Some w) None)
text_more [] m w x = go (bytes_eq m x)
  where
    go : (b : Bool) → option_map (λ (p : Text × Text). p.1) (cond b (Some (m, w)) None) ≡ cond b (Some w) None
    go true = refl
    go false = refl
text_more (g ∷ given) m w x = go (bytes_eq g.0 x) (text_more given m w x)
  where
    go : (b : Bool) → text_in (given ++ (m, w) ∷ []) x ≡ first_some (text_in given x) (cond (bytes_eq m x) (Some w) None)
        → option_map (λ (p : Text × Text). p.1) (cond b (Some g) (find (λ p. bytes_eq p.0 x) (given ++ (m, w) ∷ [])))
        ≡ first_some (option_map (λ (p : Text × Text). p.1) (cond b (Some g) (find (λ p. bytes_eq p.0 x) given))) (cond (bytes_eq m x) (Some w) None)
    go true e = refl
    go false e = e

has_more : (given : Given) (m w x : Text) → is_given (given ++ (m, w) ∷ []) x ≡ (is_given given x || bytes_eq m x)
has_more [] m w x = go (bytes_eq m x)
  where
    go : (b : Bool) → (b || false) ≡ b
    go true = refl
    go false = refl
has_more (g ∷ given) m w x = go (bytes_eq g.0 x) (has_more given m w x)
  where
    go : (b : Bool) → is_given (given ++ (m, w) ∷ []) x ≡ (is_given given x || bytes_eq m x) → (b || is_given (given ++ (m, w) ∷ []) x) ≡ ((b || is_given given x) || bytes_eq m x)
    go true e = refl
    go false e = e

alike_more : (a b : Given) (m w : Text) → Alike a b → Alike (a ++ (m, w) ∷ []) (b ++ (m, w) ∷ [])
alike_more a b m w h = record {
  text = λ x. text_more a m w x ∙ ap (λ t. first_some t (cond (bytes_eq m x) (Some w) None)) (h.text x) ∙ sym (text_more b m w x);
  has = λ x. has_more a m w x ∙ ap (λ t. t || bytes_eq m x) (h.has x) ∙ sym (has_more b m w x);
}

alike_swapped : (given : Given) (n v m w : Text) → bytes_eq n m ≡ false → Alike ((given ++ (n, v) ∷ []) ++ (m, w) ∷ []) ((given ++ (m, w) ∷ []) ++ (n, v) ∷ [])
alike_swapped given n v m w apart = record {
  text = λ x. text_more (given ++ (n, v) ∷ []) m w x ∙ ap (λ t. first_some t (cond (bytes_eq m x) (Some w) None)) (text_more given n v x)
      ∙ texts (text_in given x) x (bytes_eq n x) refl (bytes_eq m x) refl
      ∙ sym (text_more (given ++ (m, w) ∷ []) n v x ∙ ap (λ t. first_some t (cond (bytes_eq n x) (Some v) None)) (text_more given m w x));
  has = λ x. has_more (given ++ (n, v) ∷ []) m w x ∙ ap (λ t. t || bytes_eq m x) (has_more given n v x) ∙ flags (is_given given x) (bytes_eq n x) (bytes_eq m x)
      ∙ sym (has_more (given ++ (m, w) ∷ []) n v x ∙ ap (λ t. t || bytes_eq n x) (has_more given m w x));
}
  where
    flags : (g a b : Bool) → ((g || a) || b) ≡ ((g || b) || a)
    flags true a b = refl
    flags false true true = refl
    flags false true false = refl
    flags false false true = refl
    flags false false false = refl

    texts : (t : Option Text) (x : Text) (a : Bool) → bytes_eq n x ≡ a → (b : Bool) → bytes_eq m x ≡ b
        → first_some (first_some t (cond a (Some v) None)) (cond b (Some w) None) ≡ first_some (first_some t (cond b (Some w) None)) (cond a (Some v) None)
    texts (Some y) x a ea b eb = refl
    texts None x false ea true eb = refl
    texts None x false ea false eb = refl
    texts None x true ea false eb = refl
    texts None x true ea true eb = absurd (true≢false (sym (same_as_itself x) ∙ (λ i. bytes_eq (sym (same_text n x ea) i) (sym (same_text m x eb) i)) ∙ apart))

need_given : (x : Bool) (g : Given) (f : Given → Option Given) → need (cond x None (Some g)) f ≡ cond x None (f g)
need_given true g f = refl
need_given false g f = refl

module _ (form : Form) where
  abbrev ends : Given → Option Command
  ends given = need (need_that (list_all (is_given given) form.words) given) (λ g. asked_by form (text_in g))

  abbrev goes : List Text → Given → List Part → Option Command
  goes free given parts = need (need (gives (options_of form) free given parts) (λ g. need_that (list_all (is_given g) form.words) g)) (λ g. asked_by form (text_in g))

  alike_ends : (a b : Given) → Alike a b → ends a ≡ ends b
  alike_ends a b h = ap (λ v. need (need_that v a) (λ g. asked_by form (text_in g))) (λ i. list_all (λ x. h.has x i) form.words) ∙ go (list_all (is_given b) form.words)
    where
      go : (v : Bool) → need (need_that v a) (λ g. asked_by form (text_in g)) ≡ need (need_that v b) (λ g. asked_by form (text_in g))
      go true = ap (asked_by form) (λ i x. h.text x i)
      go false = refl

  alike_goes : (parts : List Part) (free : List Text) (a b : Given) → Alike a b → goes free a parts ≡ goes free b parts
  alike_goes [] free a b h = alike_ends a b h
  alike_goes (positional w ∷ parts) [] a b h = refl
  alike_goes (positional w ∷ parts) (m ∷ free) a b h = go (is_given a m) (is_given b m) (h.has m) (alike_goes parts free (a ++ (m, w) ∷ []) (b ++ (m, w) ∷ []) (alike_more a b m w h))
    where
      go : (x y : Bool) → x ≡ y → goes free (a ++ (m, w) ∷ []) parts ≡ goes free (b ++ (m, w) ∷ []) parts
          → need (need (need (cond x None (Some (a ++ (m, w) ∷ []))) (λ more. gives (options_of form) free more parts)) (λ g. need_that (list_all (is_given g) form.words) g)) (λ g. asked_by form (text_in g))
          ≡ need (need (need (cond y None (Some (b ++ (m, w) ∷ []))) (λ more. gives (options_of form) free more parts)) (λ g. need_that (list_all (is_given g) form.words) g)) (λ g. asked_by form (text_in g))
      go true true e rec = refl
      go false false e rec = rec
      go true false e rec = absurd (true≢false e)
      go false true e rec = absurd (true≢false (sym e))
  alike_goes (option m w ∷ parts) free a b h = go (is_among (options_of form) m) (is_given a m) (is_given b m) (h.has m) (alike_goes parts free (a ++ (m, w) ∷ []) (b ++ (m, w) ∷ []) (alike_more a b m w h))
    where
      go : (k x y : Bool) → x ≡ y → goes free (a ++ (m, w) ∷ []) parts ≡ goes free (b ++ (m, w) ∷ []) parts
          → need (need (cond k (need (cond x None (Some (a ++ (m, w) ∷ []))) (λ more. gives (options_of form) free more parts)) None) (λ g. need_that (list_all (is_given g) form.words) g)) (λ g. asked_by form (text_in g))
          ≡ need (need (cond k (need (cond y None (Some (b ++ (m, w) ∷ []))) (λ more. gives (options_of form) free more parts)) None) (λ g. need_that (list_all (is_given g) form.words) g)) (λ g. asked_by form (text_in g))
      go false x y e rec = refl
      go true true true e rec = refl
      go true false false e rec = rec
      go true true false e rec = absurd (true≢false e)
      go true false true e rec = absurd (true≢false (sym e))

  -- the two at the front
  abbrev option_first : List Text → Given → Text → Text → Text → Text → List Part → Bool → Bool → Bool → Option Command
  option_first free given n v m w after k x y =
      need (need (cond k (cond x None (need (cond y None (Some ((given ++ (n, v) ∷ []) ++ (m, w) ∷ []))) (λ all. gives (options_of form) free all after))) None)
      (λ g. need_that (list_all (is_given g) form.words) g)) (λ g. asked_by form (text_in g))

  abbrev word_first : List Text → Given → Text → Text → Text → Text → List Part → Bool → Bool → Bool → Option Command
  word_first free given n v m w after k x y =
      need (need (cond x None (cond k (need (cond y None (Some ((given ++ (m, w) ∷ []) ++ (n, v) ∷ []))) (λ all. gives (options_of form) free all after)) None))
      (λ g. need_that (list_all (is_given g) form.words) g)) (λ g. asked_by form (text_in g))

  either_first : (free : List Text) (given : Given) (n v m w : Text) (after : List Part) (k x y e : Bool) → bytes_eq n m ≡ e
      → option_first free given n v m w after k x (y || e) ≡ word_first free given n v m w after k y (x || e)
  either_first free given n v m w after false x true e is = refl
  either_first free given n v m w after false x false e is = refl
  either_first free given n v m w after true true true e is = refl
  either_first free given n v m w after true true false e is = refl
  either_first free given n v m w after true false true e is = refl
  either_first free given n v m w after true false false true is = refl
  either_first free given n v m w after true false false false is = alike_goes after free ((given ++ (n, v) ∷ []) ++ (m, w) ∷ []) ((given ++ (m, w) ∷ []) ++ (n, v) ∷ []) (alike_swapped given n v m w is)

  swapped_front : (free : List Text) (given : Given) (n v w : Text) (after : List Part) → goes free given (option n v ∷ positional w ∷ after) ≡ goes free given (positional w ∷ option n v ∷ after)
  swapped_front [] given n v w after = go (is_among (options_of form) n) (is_given given n)
    where
      go : (k x : Bool) → need (need (cond k (need (cond x None (Some (given ++ (n, v) ∷ []))) (λ more. None)) None) (λ g. need_that (list_all (is_given g) form.words) g)) (λ g. asked_by form (text_in g)) ≡ None
      go false x = refl
      go true true = refl
      go true false = refl
  swapped_front (m ∷ free) given n v w after =
      (λ i. need (need (cond (is_among (options_of form) n) (need_given (is_given given n) (given ++ (n, v) ∷ []) (λ more. need (cond (is_given more m) None (Some (more ++ (m, w) ∷ []))) (λ all. gives (options_of form) free all after)) i) None)
      (λ g. need_that (list_all (is_given g) form.words) g)) (λ g. asked_by form (text_in g)))
      ∙ (λ i. option_first free given n v m w after (is_among (options_of form) n) (is_given given n) (has_more given n v m i))
      ∙ either_first free given n v m w after (is_among (options_of form) n) (is_given given n) (is_given given m) (bytes_eq n m) refl
      ∙ (λ i. word_first free given n v m w after (is_among (options_of form) n) (is_given given m) (sym (has_more given m w n ∙ ap (λ b. is_given given n || b) (nat_list_eq_equiv.symm m n)) i))
      ∙ sym (λ i. need (need (need_given (is_given given m) (given ++ (m, w) ∷ []) (λ more. cond (is_among (options_of form) n) (need (cond (is_given more n) None (Some (more ++ (n, v) ∷ []))) (λ all. gives (options_of form) free all after)) None) i)
      (λ g. need_that (list_all (is_given g) form.words) g)) (λ g. asked_by form (text_in g)))

  swapped : (before : List Part) (free : List Text) (given : Given) (n v w : Text) (after : List Part)
      → goes free given (before ++ option n v ∷ positional w ∷ after) ≡ goes free given (before ++ positional w ∷ option n v ∷ after)
  swapped [] free given n v w after = swapped_front free given n v w after
  swapped (positional x ∷ before) [] given n v w after = refl
  swapped (positional x ∷ before) (m ∷ free) given n v w after = go (is_given given m) (swapped before free (given ++ (m, x) ∷ []) n v w after)
    where
      go : (b : Bool) → goes free (given ++ (m, x) ∷ []) (before ++ option n v ∷ positional w ∷ after) ≡ goes free (given ++ (m, x) ∷ []) (before ++ positional w ∷ option n v ∷ after)
          → need (need (need (cond b None (Some (given ++ (m, x) ∷ []))) (λ more. gives (options_of form) free more (before ++ option n v ∷ positional w ∷ after))) (λ g. need_that (list_all (is_given g) form.words) g)) (λ g. asked_by form (text_in g))
          ≡ need (need (need (cond b None (Some (given ++ (m, x) ∷ []))) (λ more. gives (options_of form) free more (before ++ positional w ∷ option n v ∷ after))) (λ g. need_that (list_all (is_given g) form.words) g)) (λ g. asked_by form (text_in g))
      go true rec = refl
      go false rec = rec
  swapped (option m x ∷ before) free given n v w after = go (is_among (options_of form) m) (is_given given m) (swapped before free (given ++ (m, x) ∷ []) n v w after)
    where
      go : (k b : Bool) → goes free (given ++ (m, x) ∷ []) (before ++ option n v ∷ positional w ∷ after) ≡ goes free (given ++ (m, x) ∷ []) (before ++ positional w ∷ option n v ∷ after)
          → need (need (cond k (need (cond b None (Some (given ++ (m, x) ∷ []))) (λ more. gives (options_of form) free more (before ++ option n v ∷ positional w ∷ after))) None) (λ g. need_that (list_all (is_given g) form.words) g)) (λ g. asked_by form (text_in g))
          ≡ need (need (cond k (need (cond b None (Some (given ++ (m, x) ∷ []))) (λ more. gives (options_of form) free more (before ++ positional w ∷ option n v ∷ after))) None) (λ g. need_that (list_all (is_given g) form.words) g)) (λ g. asked_by form (text_in g))
      go false b rec = refl
      go true true rec = refl
      go true false rec = rec

pub either_order : (form : Form) (before after : List Part) (name value word : Text)
    → command_by form (before ++ option name value ∷ positional word ∷ after) ≡ command_by form (before ++ positional word ∷ option name value ∷ after)
either_order form before after name value word = swapped form before form.words [] name value word after
