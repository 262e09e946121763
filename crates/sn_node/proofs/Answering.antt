-- What finished calls gave, where what waits changes.
use Rattle.std.proofs.Common.{◌≡◌, ℕ, zero, suc, List, [], ◌∷◌, map, refl, sym, ap, subst, ◌∙◌}
use Rattle.std.specs.Prelude.{slice_get, slice_set, Option, Some, None, unwrap_or, IfSome, MatchOption}
use Rattle.sn_record.specs.Record.{Entries}
use Rattle.sn_record.specs.declared.item.Item.{Item}
use Rattle.sn_net.specs.declared.net.Net.{Net}
use Rattle.sn_net.specs.declared.net.Net.TheOpen.{Net-F}
use Rattle.sn_net.specs.Item.{Rec, modelled}
use Rattle.sn_model.specs.Components.{box_item}
use Rattle.sn_model.specs.declared.run.Run.{Run}
use Rattle.sn_model.specs.Run.{boxes_of, fuel_of, net_of}
use Rattle.sn_node.specs.declared.entry.Entry.{Entry}
use Rattle.sn_node.specs.declared.entry.Waiting.{Waiting}
use Rattle.sn_node.specs.declared.entry.Waiting.TheVariants as waiting
use Rattle.sn_node.specs.Answered.{AreAnswered, IsAnswered, IsAnswerAt, form_at}

module _ (run : Run) (path : List ℕ) where
  pub answered_first : (w : Waiting) (ws : List Waiting) → AreAnswered run path (w ∷ ws) → IsAnswered run path w
  answered_first (waiting.Plain e) ws all place number at = tt
  answered_first (waiting.InFlight call given) ws all place number at = tt
  answered_first (waiting.Finished given items) ws all place number at = all 0 given items refl place number at

  pub answered_rest : (w : Waiting) (ws : List Waiting) → AreAnswered run path (w ∷ ws) → AreAnswered run path ws
  answered_rest w ws all p given items is = all (suc p) given items is

  -- of an entry that is known to be there
  is_answered : (w : Waiting) (given : Entries) (items : List Item) → IsAnswered run path w → Some w ≡ Some (waiting.Finished given items) → IsAnswerAt run path given items
  is_answered w given items this is =
      let f : Option Waiting → Waiting = λ o. unwrap_or o w in
      subst (IsAnswered run path) (ap f is) this

  pub answered_more : (w : Waiting) (ws : List Waiting) → IsAnswered run path w → AreAnswered run path ws → AreAnswered run path (w ∷ ws)
  answered_more w ws this all zero given items is = is_answered w given items this is
  answered_more w ws this all (suc p) given items is = all p given items is

  pub answered_set : (w : Waiting) (ws : List Waiting) (p : ℕ) → IsAnswered run path w → AreAnswered run path ws → AreAnswered run path (slice_set ws p w)
  answered_set w [] p this all = all
  answered_set w (v ∷ ws) zero this all = answered_more w ws this (answered_rest v ws all)
  answered_set w (v ∷ ws) (suc p) this all = answered_more v (slice_set ws p w) (answered_first v ws all) (answered_set w ws p this (answered_rest v ws all))

  -- of what is taken, and of what stays
  module _ (old new : List Waiting) where
    pub answered_taken : (result : Option Waiting) → MatchOption result ((old ≡ []) × (new ≡ [])) (λ w. old ≡ w ∷ new)
        → AreAnswered run path old → IfSome result (IsAnswered run path)
    answered_taken None is all = tt
    answered_taken (Some w) is all = answered_first w new (subst (AreAnswered run path) is all)

    pub answered_left : (result : Option Waiting) → MatchOption result ((old ≡ []) × (new ≡ [])) (λ w. old ≡ w ∷ new)
        → AreAnswered run path old → AreAnswered run path new
    answered_left None is all = subst (AreAnswered run path) (is.0 ∙ sym is.1) all
    answered_left (Some w) is all = answered_rest w new (subst (AreAnswered run path) is all)

  -- where an entry without a call stood there in between
  pub put_answered : (ws first second : List Waiting) (p : ℕ) (e : Entry) (w : Waiting) → first ≡ slice_set ws p (waiting.Plain e) → second ≡ slice_set first p w → IsAnswered run path w
      → AreAnswered run path ws → AreAnswered run path second
  put_answered ws first second p e w one two this all =
      subst (AreAnswered run path) (sym two)
      (answered_set w first p this (subst (AreAnswered run path) (sym one) (answered_set (waiting.Plain e) ws p (λ place number at. tt) all)))

-- the number and the place of a box
abbrev box_of : Option (Net-F Net) → ℕ × ℕ
box_of (Some (Net-F.Box place number)) = (place, number)
box_of other = (0, 0)

-- what one box answers is the answer of the node that is this box
pub answer_at : (run : Run) (path : List ℕ) (given : Entries) (items : List Item) (place number : ℕ) → form_at (net_of run) path ≡ Some (Net-F.Box place number)
    → map modelled items ≡ box_item (boxes_of run) (fuel_of run) place number (Rec given) → IsAnswerAt run path given items
answer_at run path given items place number at is p n here =
    let same : (place, number) ≡ (p, n) = ap box_of (sym at ∙ here) in
    subst (λ (b : ℕ × ℕ). map modelled items ≡ box_item (boxes_of run) (fuel_of run) b.0 b.1 (Rec given)) same is

-- where nothing waits
pub none_answered : (run : Run) (path : List ℕ) (ws : List Waiting) → ws ≡ [] → AreAnswered run path ws
none_answered run path ws none p given items there = absurd (nothing (sym (ap (λ xs. slice_get xs p) none) ∙ there))
  where
    nothing : None ≡ Some (waiting.Finished given items) → ⊥
    nothing e = cc
