-- Records, by the value at each label.
use Rattle.std.specs.Prelude.{◌≡◌, ◌++◌, ℕ, Bool, not, ◌&&◌, IfSome, if◌then◌else◌, max, List, [], ◌∷◌, Option, None, Some}
use Rattle.std.specs.FinMap as map
use Rattle.sn_record.specs.declared.label.Label.{Label}
use Rattle.sn_record.specs.declared.label.Kind.TheVariants.{Tag}
use Rattle.sn_record.specs.declared.value.Value.{Value}
use Rattle.sn_record.specs.declared.value.Value.TheOpen.{Value-F}
use Rattle.sn_record.specs.declared.value.Value.TheViews.{out-Value}
use Rattle.sn_record.specs.Label.{label_cmp}
use Rattle.sn_record.specs.LabelSet.{Labels, contains}
use Rattle.sn_record.specs.Fits.{FitsAmong, fits}
use Rattle.sn_record.specs.Value.{IsSound}

abbrev pub Entries : Type 0
Entries = map.FinMap label_cmp Value

abbrev pub IsInt : {A : Type 0} → Value-F A → Type 0
IsInt (Value-F.Int n) = Unit {0}
IsInt (Value-F.Text t) = ⊥
IsInt (Value-F.List vs) = ⊥

-- a value that may stand at the label: it is sound, and an Int at a tag
pub record FitsLabel (l : Label) (v : Value) : Type 0 where
  pub sound : IsSound v
  pub tag : l.kind ≡ Tag → IsInt (out-Value v)

-- each value fits its label
abbrev pub IsRecord : Entries → Type 0
IsRecord r = (l : Label) → IfSome (map.get r l) (FitsLabel l)

-- v fits the labels of r
abbrev pub Matches : Entries → Labels → Type 0
Matches r v = FitsAmong (map.contains_key r) v

-- whether v fits the labels of r: the test of `Matches`
abbrev pub is_match : Entries → Labels → Bool
is_match r v = fits v r

-- the greater of two sizes, where there are any
abbrev pub greater : Option ℕ → Option ℕ → Option ℕ
greater None n = n
greater (Some m) None = Some m
greater (Some m) (Some n) = Some (max m n)

-- how many labels v has, where r matches it
abbrev pub size_matched : Entries → Labels → Option ℕ
size_matched r v = if is_match r v then Some (map.len v) else None

-- the size of the largest variant that r matches, or none
abbrev pub score : List Labels → Entries → Option ℕ
score [] r = None
score (v ∷ vs) r = greater (size_matched r v) (score vs r)

-- whether a label is neither in v nor in o
abbrev pub is_missing : Labels → Entries → Label → Bool
is_missing v o l = not (contains v l) && not (map.contains_key o l)

-- what o has, and what r has at other labels
abbrev pub overlay : Entries → Entries → Entries
overlay o r = map.from_entries (map.entries o ++ map.entries r)

-- what r has at labels of v
abbrev pub restrict : Entries → Labels → Entries
restrict r v = map.retain_keys r (contains v)

-- o with each label of r that is neither in v nor in o, at its value in r
abbrev pub inherit : Entries → Labels → Entries → Entries
inherit r v o = overlay o (map.retain_keys r (λ l. not (contains v l)))
