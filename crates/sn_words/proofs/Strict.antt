-- The parts of words as `clap` finds them, to which a value that begins with `-` is none.
use Rattle.std.proofs.Common.{◌≡◌, Bool, true, false, refl, List, [], ◌∷◌, map}
use Rattle.std.specs.Prelude.{Option, Some, None, option_map}
use Rattle.sn_words.specs.Words.{Text, Given, Kind, Part, plain, positional, option, give, gives, is_given, kind_of, need, need_that, parts_from}

abbrev pub if_plain : {A : Type 0} → Kind → Option A → Option A
if_plain plain x = x
if_plain _ x = None

abbrev pub strict : Option Text → List Text → Option (List Part)
strict None [] = Some []
strict (Some name) [] = None
strict (Some name) (value ∷ words) = if_plain (kind_of value) (option_map (λ parts. option name value ∷ parts) (strict None words))
strict None (word ∷ words) = parts_from (kind_of word) word words (λ due. strict due words)

-- the parts, where `--` was met or not
abbrev pub strict_at : Bool → List Text → Option (List Part)
strict_at true words = Some (map positional words)
strict_at false words = strict None words

abbrev pub finish : List Text → Given → Option Given
finish names given = need_that (Rattle.std.specs.List.list_all (is_given given) names) given

-- what the parts give to the names that are free
abbrev pub finds : List Text → List Text → List Text → Given → List Part → Option Given
finds names options free given parts = need (gives options free given parts) (finish names)

-- what was given, and one text more
abbrev pub settle : Given → Option (Text × Text) → Option Given
settle given None = Some given
settle given (Some g) = give g.0 g.1 given

pub swap : {A B C : Type 0} (a : Option A) (b : Option B) (f : A → B → Option C) → need a (λ x. need b (f x)) ≡ need b (λ y. need a (λ x. f x y))
swap None None f = refl
swap None (Some y) f = refl
swap (Some x) b f = refl

pub need_map : {A B C : Type 0} (a : Option A) (f : A → B) (g : B → Option C) → need (option_map f a) g ≡ need a (λ x. g (f x))
need_map None f g = refl
need_map (Some x) f g = refl

pub need_need : {A B C : Type 0} (a : Option A) (f : A → Option B) (g : B → Option C) → need (need a f) g ≡ need a (λ x. need (f x) g)
need_need None f g = refl
need_need (Some x) f g = refl
