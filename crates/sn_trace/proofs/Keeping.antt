-- Lines that are kept, written and dropped.
use Rattle.std.proofs.Common.{◌≡◌, ◌≤◌, ℕ, List, [], ◌++◌, sym, ap, ◌∙◌, subst, subst₂, arith, append-nil, append_assoc}
use Rattle.std.specs.Prelude.{Option}
use Rattle.sn_io.specs.Causes.{Rose}
use Rattle.sn_io.specs.Told.{AppendsPrefix, appended}
use Rattle.sn_io.proofs.Told.{appended_none, appended_twice}
use Rattle.sn_view.specs.View.{View}
use Rattle.sn_turns.specs.declared.turn.Turn.TheVariants.{Ended}
use Rattle.sn_model.specs.declared.outcome.Outcome.{Outcome}
use Rattle.sn_model.specs.declared.outcome.Outcome.TheVariants.{Whole, Faulted, WriteFault, Memory}
use Rattle.sn_trace.specs.Traced.{Carries, EndsAs, Goes, Held, WritesPart}
use Rattle.sn_trace.specs.Watching.{carries_then}

-- a beginning of a text, which is told by other names
pub prefix_same : (before now now' : Option (List ℕ)) (text text' : List ℕ) → now' ≡ now → text ≡ text' → AppendsPrefix before now text → AppendsPrefix before now' text'
prefix_same before now now' text text' is same part = subst₂ (AppendsPrefix before) (sym is) same part

module _ (a b : Held) where
  -- a text is kept behind what was
  pub keeps : (text : List ℕ) → b.bytes ≡ a.bytes → b.kept ≡ a.kept ++ text → Carries a b text []
  keeps text bytes kept = record { piece = []; held = bytes ∙ sym (appended_none a.bytes); whole = append-nil b.kept ∙ kept }

  -- nothing is kept any more
  pub drops : (text : List ℕ) → b.bytes ≡ a.bytes → b.kept ≡ [] → (rest : List ℕ) × Carries a b text rest
  drops text bytes kept = (a.kept ++ text, record { piece = []; held = bytes ∙ sym (appended_none a.bytes); whole = ap (λ xs. xs ++ (a.kept ++ text)) kept })

  -- all that was kept is written
  pub writes : b.bytes ≡ appended a.bytes a.kept → b.kept ≡ [] → Carries a b [] []
  writes bytes kept = record { piece = a.kept; held = bytes; whole = ap (λ xs. a.kept ++ (xs ++ [])) kept }

  -- some first bytes of it are
  pub writes_some : AppendsPrefix a.bytes b.bytes a.kept → b.kept ≡ [] → (rest : List ℕ) × Carries a b [] rest
  writes_some part kept = (part.rest, record { piece = part.piece; held = part.held; whole = ap (λ xs. part.piece ++ (xs ++ part.rest)) kept ∙ part.whole ∙ sym (append-nil a.kept) })

-- a text is kept, and then what is kept is written
module _ (a m b : Held) (text : List ℕ) (bytes : m.bytes ≡ a.bytes) (kept : m.kept ≡ a.kept ++ text) where
  behind : (rest : List ℕ) → Carries m b [] rest → Carries a b text rest
  behind rest more = subst (λ all. Carries a b all rest) (append-nil text) (carries_then a m b text [] rest (keeps a m text bytes kept) more)

  pub keeps_and_writes : Carries m b [] [] → Carries a b text []
  keeps_and_writes = behind []

  pub keeps_and_writes_some : ((rest : List ℕ) × Carries m b [] rest) → (rest : List ℕ) × Carries a b text rest
  keeps_and_writes_some (rest, more) = (rest, behind rest more)

-- what was kept is written, behind what was carried
carries_on : (a b c : Held) (text rest more : List ℕ) → Carries a b text rest → Carries b c [] more → Carries a c text (more ++ rest)
carries_on a b c text rest more first second = record {
  piece = first.piece ++ second.piece;
  held = second.held ∙ ap (λ bytes. appended bytes second.piece) first.held ∙ appended_twice a.bytes first.piece second.piece;
  whole =
      append_assoc first.piece second.piece (c.kept ++ (more ++ rest))
      ∙ ap (λ xs. first.piece ++ (second.piece ++ xs)) (sym (append_assoc c.kept more rest))
      ∙ ap (λ xs. first.piece ++ xs) (sym (append_assoc second.piece (c.kept ++ more) rest))
      ∙ ap (λ xs. first.piece ++ (xs ++ rest)) (second.whole ∙ append-nil b.kept)
      ∙ first.whole;
}

-- THE END OF A RUN
module _ (g h : View) (a b c : Held) where
  whole_part : (lines : WritesPart g a h b) (more : List ℕ) → Carries b c [] more → WritesPart g a h c
  whole_part w more carries = record { lines = w.lines; are_lines = w.are_lines; leads = w.leads; rest = more ++ w.rest; carries = carries_on a b c _ w.rest more w.carries carries }

  part_of : (outcome : Outcome) → EndsAs g a h b outcome → WritesPart g a h b
  part_of Whole w = record { lines = w.1.lines; are_lines = w.1.are_lines; leads = w.1.leads; rest = []; carries = w.1.carries }
  part_of (Faulted fault) w = record { lines = w.lines; are_lines = w.are_lines; leads = w.leads; rest = []; carries = w.carries }
  part_of WriteFault w = w.1
  part_of Memory w = w

  ends_on : b.faults ≤ c.faults → Carries b c [] [] → (outcome : Outcome) → EndsAs g a h b outcome → EndsAs g a h c outcome
  ends_on later more Whole w = (w.0, record { lines = w.1.lines; are_lines = w.1.are_lines; leads = w.1.leads; records = w.1.records; carries = carries_on a b c _ [] [] w.1.carries more })
  ends_on later more (Faulted fault) w = record { lines = w.lines; are_lines = w.are_lines; leads = w.leads; records = w.records; out = w.out; carries = carries_on a b c _ [] [] w.carries more }
  ends_on later more WriteFault w = (still a.faults b.faults c.faults w.0 later, whole_part w.1 [] more)
    where
      still : (x y z : ℕ) → Rose x y → y ≤ z → Rose x z
      still x y z rose later = omega (arith, rose, later)
  ends_on later more Memory w = whole_part w [] more

  up : a.faults ≤ b.faults → b.faults ≤ c.faults → a.faults ≤ c.faults
  up first second = omega (arith, first, second)

  -- the run ended, and what was kept is written
  pub ends_written : (outcome : Outcome) → b.faults ≤ c.faults → Carries b c [] [] → Goes g a h b (Ended outcome) → Goes g a h c (Ended outcome)
  ends_written outcome later more goes = record { later = up goes.later later; turns = λ records. ends_on later more outcome (goes.turns records) }

  -- or not all of it is
  pub ends_unwritten : (outcome : Outcome) → b.faults ≤ c.faults → Rose b.faults c.faults → ((rest : List ℕ) × Carries b c [] rest) → Goes g a h b (Ended outcome) → Goes g a h c (Ended WriteFault)
  ends_unwritten outcome later rose (rest, more) goes = record { later = up goes.later later; turns = λ records. (sooner a.faults b.faults c.faults goes.later rose, whole_part (part_of outcome (goes.turns records)) rest more) }
    where
      sooner : (x y z : ℕ) → x ≤ y → Rose y z → Rose x z
      sooner x y z first rose = omega (arith, first, rose)
