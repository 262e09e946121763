-- What is found of the built-in source and the records of a number.
use Rattle.std.specs.Prelude.{◌≡◌, ◌≤◌, ◌<◌, ◌+◌, ℕ, Bool, true, List, [], ◌∷◌, codes, length, map, not, Option, None, Some, option_map}
use Rattle.std.specs.List.{position}
use Rattle.sn_record.specs.declared.item.Item.{Item}
use Rattle.sn_record.specs.declared.item.Item.TheVariants as item
use Rattle.sn_record.specs.LabelSet.{Labels}
use Rattle.sn_names.specs.Names.{all_entered}
use Rattle.sn_net.specs.declared.net.Claim.{Claim}
use Rattle.sn_net.specs.Item.{ModelItem, modelled}
use Rattle.sn_model.specs.Meaning.{one_list}
use Rattle.sn_sample.specs.Records.{sample_items}
use Rattle.sn_load.specs.declared.load.Program.{Program}
use Rattle.sn_stop.specs.declared.refusal.LineFault.{LineFault}
use Rattle.sn_stop.specs.declared.refusal.LineFault.TheVariants as line
use Rattle.sn_words.specs.declared.numbers.TheConstants.{DEFAULT_FUEL, DEFAULT_DEPTH}
use Rattle.sn_pieces.specs.Lines.{is_of_type}
use Rattle.sn_load.specs.Load.{Limits, limits_of, setting}

-- the names of the labels of the records
abbrev pub label_names : List (List ℕ)
label_names = codes "v" ∷ codes "k" ∷ codes "n" ∷ []

-- the names of a program, and behind them those of the records' labels that are new
abbrev pub names_with : List (List ℕ) → List (List ℕ)
names_with names = all_entered names label_names

-- the records of a number, by these names
abbrev pub records_of : List (List ℕ) → ℕ → ℕ → List Item
records_of names number count = sample_items (names_with names) number count

-- the item is no record, or matches one of the variants
abbrev pub is_item_of_type : List Labels → Item → Bool
is_item_of_type variants (item.Rec r) = is_of_type variants r
is_item_of_type variants (item.Fault fault) = true

-- the first item that is a record of none of the variants, where there is one
abbrev pub first_untyped : List Labels → List Item → Option ℕ
first_untyped variants items = position (λ x. not (is_item_of_type variants x)) items

-- the names are too many
abbrev pub HasNoRoom : List (List ℕ) → Type 0
HasNoRoom names = 4096 < length (names_with names)

-- the names find room, and the records are of the claim's input type
pub record AreTypedSamples (names : List (List ℕ)) (claim : Claim) (number count : ℕ) : Type 0 where
  pub room : length (names_with names) ≤ 4096
  pub typed : first_untyped claim.input (records_of names number count) ≡ None

-- the names find room, and the n-th record is not of the input type, the first of these; records are counted from 1
pub record HasUntypedSample (n : ℕ) (names : List (List ℕ)) (claim : Claim) (number count : ℕ) : Type 0 where
  pub room : length (names_with names) ≤ 4096
  pub first : option_map (λ i. i + 1) (first_untyped claim.input (records_of names number count)) ≡ Some n

-- the record of a number stands for the line that it would be
abbrev pub IsWrongSample : LineFault → List (List ℕ) → Claim → ℕ → ℕ → Type 0
IsWrongSample (line.BadLine n) names claim number count = ⊥
IsWrongSample (line.Twice n kind name) names claim number count = ⊥
IsWrongSample (line.Untyped n) names claim number count = HasUntypedSample n names claim number count
IsWrongSample (line.TooMany n) names claim number count = ⊥
IsWrongSample (line.TooLong n) names claim number count = ⊥

-- what a program answers to the records on one thread, and so with workers where each merge is in order, within the limits that hold where no word says others
abbrev pub default_limits : Limits
default_limits = limits_of DEFAULT_FUEL DEFAULT_DEPTH

abbrev pub answers_to : Program → ℕ → ℕ → List ModelItem
answers_to program number count = one_list (setting program default_limits) program.claim.net (map modelled (records_of program.names number count))
