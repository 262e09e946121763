-- Parts of a row that were read one after another.
use Rattle.std.proofs.Common.{◌≡◌, ◌∙◌, List, [], ◌∷◌, ◌++◌, append_assoc, ap, subst, sym}

-- From s on, xs come, and then what comes from t on. `Row s xs e` says that the parts of a whole row from s on are xs, and
-- that e comes behind it.
pub record Leads {S X E : Type 0} (Row : S → List X → E → Type 0) (s : S) (xs : List X) (t : S) : Type 0 where
  pub onwards : (ys : List X) (e : E) → Row t ys e → Row s (xs ++ ys) e
  pub only : (ys : List X) (e : E) → Row s ys e → (zs : List X) × (ys ≡ xs ++ zs) × Row t zs e

module _ {S X E : Type 0} {Row : S → List X → E → Type 0} where
  pub leads_push : {s t u : S} {xs : List X} (x : X) → Leads Row s xs t → Leads Row t (x ∷ []) u → Leads Row s (xs ++ (x ∷ [])) u
  leads_push {s} {t} {u} {xs} x l m = record {
    onwards = λ ys e r. subst (λ zs. Row s zs e) (sym (append_assoc xs (x ∷ []) ys)) (l.onwards (x ∷ ys) e (m.onwards ys e r));
    only = λ ys e r.
        let far = l.only ys e r in
        let near = m.only far.0 e far.2 in
        (near.0, far.1 ∙ ap (λ zs. xs ++ zs) near.1 ∙ sym (append_assoc xs (x ∷ []) near.0), near.2);
  }

  -- where no row goes on, none began
  pub leads_nowhere : {s t : S} {xs : List X} → Leads Row s xs t → ((ys : List X) (e : E) → ¬ Row t ys e) → (ys : List X) (e : E) → ¬ Row s ys e
  leads_nowhere l h ys e r = let far = l.only ys e r in h far.0 e far.2
