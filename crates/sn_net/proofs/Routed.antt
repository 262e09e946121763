-- Networks that may route items, and where the tap of a star sends a record that matches the exit, and any other.
use Rattle.std.proofs.Common.{◌≡◌, ℕ, cond, IsTrue, IfSome, Option, sym, ap, ◌∙◌, subst}
use Rattle.std.proofs.lemmas.Bool.{false_from_ne_true}
use Rattle.sn_record.specs.LabelSet.{Labels}
use Rattle.sn_record.specs.Record.{Entries, Matches, is_match}
use Rattle.sn_record.proofs.Scores.{is_match-Matches}
use Rattle.sn_tagexpr.specs.declared.expr.TagExpr.{TagExpr}
use Rattle.sn_net.specs.declared.net.Merge.{Merge}
use Rattle.sn_net.specs.declared.net.Net.{Net}
use Rattle.sn_net.specs.declared.net.Net.TheOpen.{Net-F}
use Rattle.sn_net.specs.declared.net.Net.TheVariants.{Star, Split, rolls-Star, rolls-Split}
use Rattle.sn_net.specs.declared.net.Net.TheViews.{out-Net, out-roll-Net}
use Rattle.sn_net.specs.declared.routing.Key.TheVariants as key
use Rattle.sn_net.specs.Filter.{is_over}
use Rattle.sn_net.specs.Routable.{IsDispatcher}
use Rattle.sn_net.specs.Route.{exit_key, tap_key}

pub matched_asks : (place : ℕ) (exit : Labels) (guard : Option TagExpr) (r : Entries) → Matches r exit → exit_key place guard r ≡ tap_key place exit guard r
matched_asks place exit guard r matches = sym (ap (λ b. cond b (exit_key place guard r) key.Inside) ((is_match-Matches r exit).1 matches))

pub unmatched_stays : (place : ℕ) (exit : Labels) (guard : Option TagExpr) (r : Entries) → ¬ Matches r exit → key.Inside ≡ tap_key place exit guard r
unmatched_stays place exit guard r apart =
    sym (ap (λ b. cond b (exit_key place guard r) key.Inside) (false_from_ne_true (is_match r exit) (λ test. apart ((is_match-Matches r exit).0 test))))

-- the guard of a star that may route has tags of the exit alone
pub guard_over : (net : Net) (place : ℕ) (merge : Merge) (body : Net) (exit : Labels) (guard : Option TagExpr)
    → net ≡ Star place merge body exit guard → IsDispatcher (out-Net net) → IfSome guard (λ test. IsTrue (is_over exit test))
guard_over net place merge body exit guard is routes =
    subst IsDispatcher (ap out-Net (is ∙ sym (rolls-Star place merge body exit guard)) ∙ out-roll-Net (Net-F.Star place merge body exit guard)) routes

pub split_routes : (place : ℕ) (merge : Merge) (body : Net) (id : ℕ) → IsDispatcher (out-Net (Split place merge body id))
split_routes place merge body id =
    subst IsDispatcher (sym (ap out-Net (sym (rolls-Split place merge body id)) ∙ out-roll-Net (Net-F.Split place merge body id))) tt
