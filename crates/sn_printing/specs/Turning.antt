-- How turns of the owner follow each other.
use Rattle.std.proofs.Common.{◌≡◌, ◌≤◌, ℕ, List, [], ◌∷◌, ◌++◌, map, refl, sym, ap, ◌∙◌, subst, arith, append-nil, append_assoc, inl, inr}
use Rattle.std.specs.Prelude.{Option, None, Some}
use Rattle.std.proofs.lemmas.List.{map-append}
use Rattle.sn_record.specs.Record.{Entries}
use Rattle.sn_record.specs.declared.item.Fault.{Fault as FaultAt}
use Rattle.sn_net.specs.Item.{ModelItem, Rec, Fault}
use Rattle.sn_io.specs.Causes.{Rose}
use Rattle.sn_io.specs.Told.{AppendsPrefix, appended}
use Rattle.sn_io.proofs.Told.{appended_twice, prefix_after}
use Rattle.sn_output.specs.Line.{line}
use Rattle.sn_output.specs.Printed.{printed}
use Rattle.sn_view.specs.Placed.{AtRest}
use Rattle.sn_view.specs.View.{View}
use Rattle.sn_turns.specs.Over.{IsOver}
use Rattle.sn_printing.specs.Turns.{Emits, EndsAs, Goes, IsEarly, LacksLast, Shown, TurnsAs, Writes, WritesPart, WritesUpTo, shows}
use Rattle.sn_turns.specs.declared.turn.Turn.{Turn}
use Rattle.sn_turns.specs.declared.turn.Turn.TheVariants.{Went, Idle, Ended}
use Rattle.sn_model.specs.declared.outcome.Outcome.{Outcome}
use Rattle.sn_model.specs.declared.outcome.Outcome.TheVariants.{Whole, Faulted, WriteFault, Memory}

-- nothing is appended
pub none_more : (held : Option (List ℕ)) → held ≡ appended held []
none_more None = refl
none_more (Some bytes) = ap (λ (all : List ℕ). Some all) (sym (append-nil bytes))

rose_sooner : (first before now : ℕ) → first ≤ before → Rose before now → Rose first now
rose_sooner first before now sooner rose = omega (arith, sooner, rose)

module _ (names : List (List ℕ)) where
  -- the lines of records, and then what is printed behind them
  pub lines_more : (records : List Entries) (more : List ModelItem) → printed names (map Rec records ++ more) ≡ printed names (map Rec records) ++ printed names more
  lines_more [] more = refl
  lines_more (r ∷ records) more = ap (λ bytes. line names r ++ bytes) (lines_more records more) ∙ sym (append_assoc (line names r) (printed names (map Rec records)) (printed names more))

  lines_of : (first second : List Entries) → printed names (map Rec first) ++ printed names (map Rec second) ≡ printed names (map Rec (first ++ second))
  lines_of first second = sym (ap (printed names) (map-append Rec first second) ∙ lines_more first (map Rec second))

  -- what came out behind what had come out
  more_out : (first second : List Entries) (out : List ModelItem) → (out ++ map Rec first) ++ map Rec second ≡ out ++ map Rec (first ++ second)
  more_out first second out = append_assoc out (map Rec first) (map Rec second) ∙ ap (λ xs. out ++ xs) (sym (map-append Rec first second))

  module _ (a b c : Shown) (w : Writes names a b) where
    out_then : (second : List Entries) → c.graph.out ≡ b.graph.out ++ map Rec second → c.graph.out ≡ a.graph.out ++ map Rec (w.records ++ second)
    out_then second out = out ∙ ap (λ xs. xs ++ map Rec second) w.out ∙ more_out w.records second a.graph.out

    held_then : (second : List Entries) → c.held ≡ appended b.held (printed names (map Rec second)) → c.held ≡ appended a.held (printed names (map Rec (w.records ++ second)))
    held_then second held =
        held ∙ ap (λ h. appended h (printed names (map Rec second))) w.held ∙ appended_twice a.held (printed names (map Rec w.records)) (printed names (map Rec second))
        ∙ ap (appended a.held) (lines_of w.records second)

    writes_then : Writes names b c → Writes names a c
    writes_then v = record { records = w.records ++ v.records; out = out_then v.records v.out; held = held_then v.records v.held }

    up_to_then : (fault : FaultAt) → WritesUpTo names b c fault → WritesUpTo names a c fault
    up_to_then fault v = record {
      records = w.records ++ v.records;
      out = v.out ∙ ap (λ xs. xs ++ (map Rec v.records ++ Fault fault ∷ [])) w.out
          ∙ append_assoc a.graph.out (map Rec w.records) (map Rec v.records ++ Fault fault ∷ [])
          ∙ ap (λ xs. a.graph.out ++ xs) (sym (append_assoc (map Rec w.records) (map Rec v.records) (Fault fault ∷ [])) ∙ ap (λ xs. xs ++ Fault fault ∷ []) (sym (map-append Rec w.records v.records)));
      held = held_then v.records v.held;
    }

    part_then : WritesPart names b c → WritesPart names a c
    part_then v = record {
      records = w.records ++ v.records;
      out = out_then v.records v.out;
      held = subst (AppendsPrefix a.held c.held) (lines_of w.records v.records) (prefix_after a.held b.held c.held (printed names (map Rec w.records)) (printed names (map Rec v.records)) w.held v.held);
    }

    lacks_then : LacksLast names b c → LacksLast names a c
    lacks_then v = record {
      records = w.records ++ v.records;
      last = v.last;
      out = out_then (v.records ++ v.last ∷ []) v.out ∙ ap (λ rs. a.graph.out ++ map Rec rs) (sym (append_assoc w.records v.records (v.last ∷ [])));
      held = held_then v.records v.held;
    }

    early_then : IsEarly names b c → IsEarly names a c
    early_then (inl unrested) = inl unrested
    early_then (inr lacks) = inr (lacks_then lacks)

    ends_then : a.faults ≤ b.faults → (outcome : Outcome) → EndsAs names b c outcome → EndsAs names a c outcome
    ends_then later Whole v = (v.0, writes_then v.1)
    ends_then later (Faulted fault) v = up_to_then fault v
    ends_then later WriteFault v = (rose_sooner a.faults b.faults c.faults later v.0, part_then v.1)
    ends_then later Memory v = (early_then v.0, part_then v.1)

    turns_then : a.faults ≤ b.faults → (turn : Turn) → TurnsAs names b c turn → TurnsAs names a c turn
    turns_then later Went v = writes_then v
    turns_then later Idle v = writes_then v
    turns_then later (Ended outcome) v = ends_then later outcome v

  -- one turn more
  pub goes_then : (a b c : Shown) (turn : Turn) → Goes names a b Went → Goes names b c turn → Goes names a c turn
  goes_then a b c turn first second = record {
    before = λ ys may. first.before ys (second.before ys may);
    later = omega (arith, first.later, second.later);
    turns = turns_then a b c first.turns first.later turn second.turns;
  }

  -- nothing came out, and nothing was written
  module _ (old new : View) (held : Option (List ℕ)) (faults : ℕ) (emits : Emits [] old new) where
    silent : Writes names (shows old held faults) (shows new held faults)
    silent = record { records = []; out = emits.out; held = none_more held }

    pub nothing : Goes names (shows old held faults) (shows new held faults) Went
    nothing = record { before = emits.before; later = omega arith; turns = silent }

  same : (g : View) → Emits [] g g
  same g = record { out = sym (append-nil g.out); before = λ ys may. may }

  -- nothing happened
  pub stays : (g : View) (held : Option (List ℕ)) (faults : ℕ) → Goes names (shows g held faults) (shows g held faults) Went
  stays g held faults = nothing g g held faults (same g)

  pub waits : (g : View) (held : Option (List ℕ)) (faults : ℕ) → Goes names (shows g held faults) (shows g held faults) Idle
  waits g held faults = record { before = λ ys may. may; later = omega arith; turns = silent g g held faults (same g) }

  pub gives_up : (g : View) (held : Option (List ℕ)) (faults : ℕ) → (AtRest g → ⊥) → Goes names (shows g held faults) (shows g held faults) (Ended Memory)
  gives_up g held faults unrested = record {
    before = λ ys may. may;
    later = omega arith;
    turns = (inl unrested, record { records = []; out = (same g).out; held = record { piece = []; rest = []; whole = refl; held = none_more held } });
  }

  pub rests : (g : View) (held : Option (List ℕ)) (faults : ℕ) → IsOver g → Goes names (shows g held faults) (shows g held faults) (Ended Whole)
  rests g held faults over = record { before = λ ys may. may; later = omega arith; turns = (over, silent g g held faults (same g)) }

  -- an item came out
  module _ (old new : View) (first now : Option (List ℕ)) (sooner faults : ℕ) (later : sooner ≤ faults) where
    pub wrote : (r : Entries) → Emits (Rec r ∷ []) old new → now ≡ appended first (line names r) → Goes names (shows old first sooner) (shows new now faults) Went
    wrote r emits held = record {
      before = emits.before;
      later = later;
      turns = record { records = r ∷ []; out = emits.out; held = held ∙ ap (appended first) (sym (append-nil (line names r))) };
    }

    part_of : (r : Entries) → Emits (Rec r ∷ []) old new → AppendsPrefix first now (line names r) → WritesPart names (shows old first sooner) (shows new now faults)
    part_of r emits held = record { records = r ∷ []; out = emits.out; held = subst (AppendsPrefix first now) (sym (append-nil (line names r))) held }

    pub wrote_part : (r : Entries) → Emits (Rec r ∷ []) old new → AppendsPrefix first now (line names r) → Rose sooner faults → Goes names (shows old first sooner) (shows new now faults) (Ended WriteFault)
    wrote_part r emits held rose = record { before = emits.before; later = later; turns = (rose, part_of r emits held) }

    pub wrote_none : (r : Entries) → Emits (Rec r ∷ []) old new → now ≡ first → Goes names (shows old first sooner) (shows new now faults) (Ended Memory)
    wrote_none r emits held = record {
      before = emits.before;
      later = later;
      turns = (inr (record { records = []; last = r; out = emits.out; held = held ∙ none_more first }), part_of r emits (record { piece = []; rest = line names r; whole = refl; held = held ∙ none_more first }));
    }

  pub fault_came : (old new : View) (held : Option (List ℕ)) (faults : ℕ) (fault : FaultAt) → Emits (Fault fault ∷ []) old new → Goes names (shows old held faults) (shows new held faults) (Ended (Faulted fault))
  fault_came old new held faults fault emits = record {
    before = emits.before;
    later = omega arith;
    turns = record { records = []; out = emits.out; held = none_more held };
  }

-- the same, where the names are told to be those of before
pub goes_on : (names later : List (List ℕ)) (a b c : Shown) (turn : Turn) → later ≡ names → Goes names a b Went → Goes later b c turn → Goes names a c turn
goes_on names later a b c turn same first second = goes_then names a b c turn first (subst (λ (ns : List (List ℕ)). Goes ns b c turn) same second)

-- to have nothing to do changes nothing
pub idled : (names : List (List ℕ)) (a b : Shown) → Goes names a b Idle → Goes names a b Went
idled names a b idle = record { before = idle.before; later = idle.later; turns = idle.turns }
