-- What is given is known.
use Rattle.std.proofs.Common.{◌≡◌, ◌∙◌, ℕ, ◌<◌, IsTrue, List, [], ◌∷◌, ◌++◌, map, length, length-append, refl, sym, ap, subst, arith}
use Rattle.std.specs.List.{AllByRecursion as Each}
use Rattle.std.proofs.lemmas.List.{get_or_append_left, map-append}
use mathlib.Core.Logic.{∥∥₁_elim, ∥∥₁_map, ∥∥₁_prop}
use Rattle.sn_record.specs.declared.label.Label.{Label}
use Rattle.sn_record.specs.LabelSet.{Labels}
use Rattle.sn_record.specs.Record.{Entries}
use Rattle.sn_record.specs.declared.item.Item.{Item}
use Rattle.sn_names.specs.Names.{label_name, numbered, place_of}
use Rattle.sn_net.specs.Item.{ModelItem, Rec, Fault, Stuck, modelled}
use Rattle.sn_model.specs.declared.run.Run.{Run}
use Rattle.sn_model.specs.Meaning.{one_list}
use Rattle.sn_model.specs.Run.{boxes_of, net_of, setting_of}
use Rattle.sn_labels.specs.Flowing.{ItemHasOnly}
use Rattle.sn_labels.proofs.Records.{each_both}
use Rattle.sn_stream_labels.specs.Known.{Knows}
use Rattle.sn_stream_labels.proofs.Nets.{one_list_only}
use Rattle.sn_once.specs.declared.once.Once.{Once}
use Rattle.sn_once.specs.Rest.{rest_of}
use Rattle.sn_pieces.specs.declared.cause.Halt.{Halt}
use Rattle.sn_pieces.specs.declared.cause.Halt.TheVariants as halt
use Rattle.sn_pieces.specs.declared.reader.Reader.{Reader}
use Rattle.sn_pieces.specs.Known.{KnowsRecord, is_known}
use Rattle.sn_pieces.specs.Lines.{stopped}
use Rattle.sn_pieces.specs.Reader.{Begins, Halts, KeepsPlace, names_of, number_of, unread}
use Rattle.sn_pieces.proofs.Knowing.{held_known, known_held}
use Rattle.sn_pieces.proofs.Stays.{begins_further, begins_none, lines_begin}
use Rattle.sn_feed.specs.declared.stop.FeedStop.{FeedStop}
use Rattle.sn_feed.specs.Known.{AreKnown, KnowsAtHalt, KnowsItems, StaysKnown}
use Rattle.sn_feed.specs.Still.{KnowsAtLine}
use Rattle.sn_feed.specs.Stops.{IsStop}

-- what is known stays known
pub known_later : (names longer : List (List ℕ)) (l : Label) → Begins names longer → IsTrue (is_known names l) → IsTrue (is_known longer l)
known_later names longer l begins known =
    let held = known_held names l known in
    let longer_is : names ++ begins.0 ≡ longer = sym begins.1 in
    let same : label_name (names ++ begins.0) l.id ≡ label_name names l.id = get_or_append_left names begins.0 [] (place_of l.id) held.within in
    let within : place_of l.id < length (names ++ begins.0) = omega (arith, held.within, length-append names begins.0) in
    subst (λ ns. IsTrue (is_known ns l)) longer_is
    (held_known (names ++ begins.0) l (record { within = within; number = ap (λ n. numbered n (place_of l.id)) same ∙ held.number }))

module _ (names longer : List (List ℕ)) (begins : Begins names longer) where
  item_later : (x : ModelItem) → ItemHasOnly (is_known names) x → ItemHasOnly (is_known longer) x
  item_later (Rec r) only = λ l there. known_later names longer l begins (only l there)
  item_later (Fault fault) only = tt
  item_later (Stuck place) only = tt

  each_later : (xs : List ModelItem) → Each (ItemHasOnly (is_known names)) xs → Each (ItemHasOnly (is_known longer)) xs
  each_later [] only = tt
  each_later (x ∷ xs) only = (item_later x only.0, each_later xs only.1)

  pub items_later : (items : List Item) → KnowsItems names items → KnowsItems longer items
  items_later items known = ∥∥₁_map known (λ only. each_later (map modelled items) only)

  pub stays_later : (once : Once) → StaysKnown once names → StaysKnown once longer
  stays_later once stays others xs more known = stays others xs (begins_further names longer others begins more) known

pub no_items : (names : List (List ℕ)) (none : List Item) → none ≡ [] → KnowsItems names none
no_items names none empty = subst (KnowsItems names) (sym empty) ∣ tt ∣₁

-- before anything came
pub stays_at_first : (once : Once) (reader : Reader) (run : Run) (variants : List Labels) (names : List (List ℕ)) → reader ≡ unread variants names → ((xs : List ModelItem) → rest_of once xs ≡ one_list (setting_of run) (net_of run) xs)
    → Knows (is_known names) (boxes_of run) (net_of run) → StaysKnown once (names_of reader)
stays_at_first once reader run variants names is rest knows = subst (λ (r : Reader). StaysKnown once (names_of r)) (sym is) (λ longer xs begins known.
    ∥∥₁_map known (λ only. subst (Each (ItemHasOnly (is_known longer))) (sym (rest xs)) (one_list_only (is_known longer) (setting_of run) (net_of run) xs
    (record { of_net = λ l there. known_later names longer l begins (knows.of_net l there); of_boxes = λ l there. known_later names longer l begins (knows.of_boxes l there) }) only)))

-- parts of a list
first_each : (P : ModelItem → Type 0) (xs ys : List ModelItem) → Each P (xs ++ ys) → Each P xs
first_each P [] ys each = tt
first_each P (x ∷ xs) ys each = (each.0, first_each P xs ys each.1)

second_each : (P : ModelItem → Type 0) (xs ys : List ModelItem) → Each P (xs ++ ys) → Each P ys
second_each P [] ys each = each
second_each P (x ∷ xs) ys each = second_each P xs ys each.1

-- a record was fed
module _ (once next : Once) (names : List (List ℕ)) (r : Entries) (came : List Item) (stays : StaysKnown once names) (knows : KnowsRecord names r)
    (fed : (xs : List ModelItem) → rest_of once (Rec r ∷ xs) ≡ map modelled came ++ rest_of next xs) where
  gives_known : (longer : List (List ℕ)) (xs : List ModelItem) → Begins names longer → AreKnown longer xs → AreKnown longer (map modelled came ++ rest_of next xs)
  gives_known longer xs begins known =
      subst (AreKnown longer) (fed xs) (stays longer (Rec r ∷ xs) begins (∥∥₁_map known (λ only. ((λ l there. known_later names longer l begins (knows l there)), only))))

  pub stays_fed : StaysKnown next names
  stays_fed longer xs begins known = ∥∥₁_map (gives_known longer xs begins known) (λ all. second_each (ItemHasOnly (is_known longer)) (map modelled came) (rest_of next xs) all)

  came_known : KnowsItems names came
  came_known = ∥∥₁_map (gives_known names [] (begins_none names) ∣ tt ∣₁) (λ all. first_each (ItemHasOnly (is_known names)) (map modelled came) (rest_of next []) all)

  pub items_known : (before items : List Item) → items ≡ before ++ came → KnowsItems names before → KnowsItems names items
  items_known before items put known =
      subst (AreKnown names) (sym (ap (map modelled) put ∙ map-append modelled before came))
      (∥∥₁_elim known ∥∥₁_prop (λ first. ∥∥₁_map came_known (λ second. each_both (ItemHasOnly (is_known names)) (map modelled before) (map modelled came) first second)))

-- a line was refused
pub halt_known : (reader later : Reader) (items : List Item) (why : Halt) → Halts reader (10 ∷ []) (names_of later) why → KnowsItems (names_of reader) items → KnowsAtHalt (names_of later) items why
halt_known reader later items halt.Memory halts known = tt
halt_known reader later items (halt.Refused why) halts known =
    items_later (names_of reader) (names_of later) (lines_begin ((halts [] (stopped (number_of reader) why (names_of later))).1 refl)) items known

-- the names stayed
pub kept_known : (reader filled : Reader) (items : List Item) (why : Halt) → KeepsPlace reader filled → KnowsItems (names_of reader) items → KnowsAtHalt (names_of filled) items why
kept_known reader filled items halt.Memory kept known = tt
kept_known reader filled items (halt.Refused why) kept known = subst (λ (names : List (List ℕ)). KnowsItems names items) (sym kept.names) known

-- what a call leaves
pub told_known : (why : Halt) (later : Reader) (items : List Item) (result : FeedStop) → IsStop why later items result → KnowsAtHalt (names_of later) items why → KnowsAtLine result
told_known (halt.Refused why) later items result is known = subst KnowsAtLine (sym is) known
told_known halt.Memory later items result is known = subst KnowsAtLine (sym is) tt
