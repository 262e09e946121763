-- Components that run.
use Rattle.std.proofs.Common.{◌≡◌, List, [], ◌∷◌, ◌++◌, refl, sym, ap, ap₂, ◌∙◌, append_assoc, append-nil}
use mathlib.Core.List.{IsPrefix}
use Rattle.sn_streams.specs.Machines.{Machine}
use Rattle.sn_histories.specs.Entries.{Entry, Item, To, Mark, End}
use Rattle.sn_histories.specs.Histories.{worked}
use Rattle.sn_histories.proofs.Working.{worked-begins}
use Rattle.sn_facts.specs.Working.{Works, gives_on, next_on, state_on}

pub held_first : {A : Type 0} (put held given history : List A) (next : A) → given ≡ put ++ next ∷ held → IsPrefix given history → IsPrefix (put ++ next ∷ []) history
held_first put held given history next is begins =
    (held ++ begins.0, append_assoc put (next ∷ []) (held ++ begins.0) ∙ sym (append_assoc put (next ∷ held) begins.0) ∙ ap (λ l. l ++ begins.0) (sym is) ∙ begins.1)

pub received_first : {A : Type 0} (received waiting got history : List A) → got ≡ received ++ waiting → IsPrefix got history → IsPrefix received history
received_first received waiting got history is begins =
    (waiting ++ begins.0, sym (append_assoc received waiting begins.0) ∙ ap (λ l. l ++ begins.0) (sym is) ∙ begins.1)

module _ {A S : Type 0} (m : Machine A S) where
  worked-cons : (s : S) (e : Entry A) (es : List (Entry A)) → worked m s (e ∷ es) ≡ gives_on m s e ++ worked m (next_on m s e) es
  worked-cons s (Item x) es = refl
  worked-cons s (To k) es = refl
  worked-cons s Mark es = refl
  worked-cons s End es = refl

  worked-more : (s : S) (es : List (Entry A)) (e : Entry A) → worked m s (es ++ e ∷ []) ≡ worked m s es ++ gives_on m (state_on m s es) e
  worked-more s [] e = worked-cons s e [] ∙ append-nil (gives_on m s e)
  worked-more s (d ∷ es) e =
      worked-cons s d (es ++ e ∷ [])
      ∙ ap (λ l. gives_on m s d ++ l) (worked-more (next_on m s d) es e)
      ∙ sym (append_assoc (gives_on m s d) (worked m (next_on m s d) es) (gives_on m (state_on m (next_on m s d) es) e))
      ∙ ap (λ l. l ++ gives_on m (state_on m (next_on m s d) es) e) (sym (worked-cons s d es))

  state-more : (s : S) (es : List (Entry A)) (e : Entry A) → state_on m s (es ++ e ∷ []) ≡ next_on m (state_on m s es) e
  state-more s [] e = refl
  state-more s (d ∷ es) e = state-more (next_on m s d) es e

  pub works-begin : (start : S) → Works m start [] start []
  works-begin start = record { image = refl; reached = refl }

  pub works-on : (start state : S) (received given : List (Entry A)) (e : Entry A) → Works m start received state given
      → Works m start (received ++ e ∷ []) (next_on m state e) (given ++ gives_on m state e)
  works-on start state received given e works = record {
    image = ap₂ (λ l s. l ++ gives_on m s e) works.image works.reached ∙ sym (worked-more start received e);
    reached = ap (λ s. next_on m s e) works.reached ∙ sym (state-more start received e);
  }

  pub works-beginning : (start state : S) (received given comes leaves : List (Entry A)) → leaves ≡ worked m start comes → Works m start received state given
      → IsPrefix received comes → IsPrefix given leaves
  works-beginning start state received given comes leaves is works (more, whole) = with_rest (worked-begins m start received more)
    where
      with_rest : ((rest : List (Entry A)) × (worked m start (received ++ more) ≡ worked m start received ++ rest)) → IsPrefix given leaves
      with_rest (rest, begins) = (rest, ap (λ l. l ++ rest) works.image ∙ sym begins ∙ ap (worked m start) whole ∙ sym is)
