-- Claims whose trees fit into the room that is left, one after another.
use Rattle.std.proofs.Common.{◌≡◌, ℕ, ◌-◌, ◌<◌, nat_le, true, false, cond, List, [], ◌∷◌, ◌++◌, length, get_or, Option, Some, None, Result, Ok, Err, refl, sym, ap, ◌∙◌, append_assoc, arith}
use Rattle.std.proofs.lemmas.Bool.Decides.{nat_tests}
use Rattle.std.proofs.lemmas.Option.{slice_get-get_or}
use Rattle.sn_net.specs.Net.{nodes}
use Rattle.sn_net.specs.declared.expr.BoxProgram.{BoxProgram}
use Rattle.sn_net.specs.declared.faced.Faced.{Faced}
use Rattle.sn_net.specs.declared.net.Claim.{Claim}
use Rattle.sn_net.specs.declared.net.Net.{Net}
use Rattle.sn_scope.specs.Built.{IsBuilt, IsMade}
use Rattle.sn_scope.specs.Claims.{IsFitted}
use Rattle.sn_scope.specs.Trees.{claim_at, claims_within, fitting, led_by, most_levels, or_refused, then_some, tree, tree_of}
use Rattle.sn_scope.specs.declared.declarations.Declarations.{Declarations}
use Rattle.sn_scope.specs.declared.declarations.Pending.{Pending}
use Rattle.sn_scope.specs.declared.network.Component.{Component}

-- a tree that was not built does not fit
pub unfit : (boxes : List BoxProgram) (room new : ℕ) (defined : Option Net) → IsBuilt boxes defined room new None → fitting room defined ≡ None
unfit boxes room new None less = refl
unfit boxes room new (Some net) less =
    let wide : nat_le (nodes net) room ≡ false = grind (arith, nat_tests, less) in
    ap (λ b. cond b (Some net) None) wide

-- a tree that was built fits
pub fit : (boxes : List BoxProgram) (room new : ℕ) (defined : Option Net) (faced : Faced) → IsMade boxes defined room new faced → fitting room defined ≡ Some faced.net
fit boxes room new defined faced made =
    let held : nat_le (nodes faced.net) room ≡ true = grind (arith, nat_tests, made.room) in
    ap (fitting room) made.same ∙ ap (λ b. cond b (Some faced.net) None) held

-- a net by its number
pub tree_at : (boxes : List BoxProgram) (nets : List Component) (number : ℕ) (component : Component) → number < length nets → component ≡ get_or nets number component → tree_of boxes nets number ≡ tree boxes most_levels nets component
tree_at boxes nets number component within at = ap (λ c. then_some c (tree boxes most_levels nets)) (slice_get-get_or nets number component within ∙ ap Some (sym at))

led_twice : (first second : List Claim) (claims : Result (List Claim) ℕ) → led_by first (led_by second claims) ≡ led_by (first ++ second) claims
led_twice first second (Ok more) = ap Ok (sym (append_assoc first second more))
led_twice first second (Err place) = refl

-- the first that does not fit is refused
pub claims_refused : (st : Declarations) (room : ℕ) (pending : Pending) (more : List Pending) (made : List Claim) → fitting room (tree_of st.boxes st.nets pending.net) ≡ None →
    led_by made (claims_within st room (pending ∷ more)) ≡ Err pending.place
claims_refused st room pending more made unfit =
    ap (λ f. led_by made (or_refused pending.place f (λ tree. led_by (claim_at st pending tree ∷ []) (claims_within st (room - nodes tree) more)))) unfit

-- one that fits goes to the end of those before
pub claims_next : (st : Declarations) (room left : ℕ) (pending : Pending) (more : List Pending) (made : List Claim) (claim : Claim) → IsFitted st pending room left claim →
    led_by made (claims_within st room (pending ∷ more)) ≡ led_by (made ++ claim ∷ []) (claims_within st left more)
claims_next st room left pending more made claim fitted =
    ap (λ f. led_by made (or_refused pending.place f (λ tree. led_by (claim_at st pending tree ∷ []) (claims_within st (room - nodes tree) more)))) fitted.fits
    ∙ led_twice made (claim_at st pending fitted.tree ∷ []) (claims_within st (room - nodes fitted.tree) more)
    ∙ ap (λ c. led_by (made ++ c ∷ []) (claims_within st (room - nodes fitted.tree) more)) (sym fitted.same)
    ∙ ap (λ n. led_by (made ++ claim ∷ []) (claims_within st n more)) (sym fitted.left)
