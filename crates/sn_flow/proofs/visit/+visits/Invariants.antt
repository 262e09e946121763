use Rattle.std.proofs.Common.{◌+◌, ◌*◌, ◌-◌, map, max}
use Rattle.sn_net.proofs.net.Net.TheLaws.{the_size}
use Rattle.sn_typing.specs.Outline.{branch_of, is_guarded, outline}
use Rattle.sn_typing.specs.Accepted.{most_variants}
use Rattle.sn_flow.specs.Chosen.{sent_until}
use Rattle.sn_flow.specs.Tables.{part_at}
use Rattle.sn_flow.specs.Visits.{Closing, Going, SameElsewhere}
use Rattle.sn_flow.proofs.Visiting.{Along}
use Rattle.sn_flow.proofs.visit.+visits.Given as goal

abbrev pub decreases-visit : goal.decreases-visit
decreases-visit l = 8 * goal.size-visit l + 1

abbrev pub decreases-visit_form : goal.decreases-visit_form
decreases-visit_form l = 8 * goal.size-visit_form l

abbrev pub decreases-visit_series : goal.decreases-visit_series
decreases-visit_series l = 8 * max (the_size l.left.now) (the_size l.right.now) + 4

abbrev pub decreases-visit_choice : goal.decreases-visit_choice
decreases-visit_choice l = 8 * goal.size-visit_choice l + 4

abbrev pub decreases-visit_star : goal.decreases-visit_star
decreases-visit_star l = 8 * goal.size-visit_star l + 4

abbrev pub decreases-visit_split : goal.decreases-visit_split
decreases-visit_split l = 8 * goal.size-visit_split l + 4

abbrev pub decreases-visit_part : goal.decreases-visit_part
decreases-visit_part l = 8 * goal.size-visit_part l + 2

abbrev pub decreases-visit_part_with : goal.decreases-visit_part_with
decreases-visit_part_with l = 8 * goal.size-visit_part_with l + 3

abbrev pub decreases-visit_member : goal.decreases-visit_member
decreases-visit_member l = 8 * goal.size-visit_member l + 3

abbrev pub invariant-visit_part_with-loop-variant : goal.invariant-visit_part_with-loop-variant
invariant-visit_part_with-loop-variant l =
    Along (outline l.boxes l.net) l.variants (part_at l.fn.parts l.i) (part_at l.parts l.i) l.flow l.variant-index × SameElsewhere l.i l.fn.parts l.parts

abbrev pub invariant-visit_choice-loop-i : goal.invariant-visit_choice-loop-i
invariant-visit_choice-loop-i l = Going (branch_of (map (outline l.boxes) l.branches)) (sent_until l.faces l.variant l.i) l.fn.parts l.parts l.flow

abbrev pub invariant-visit_star-loop-i : goal.invariant-visit_star-loop-i
invariant-visit_star-loop-i l = Closing l.exit (is_guarded l.guard) (outline l.boxes l.body) l.variant (part_at l.fn.parts 0) (part_at l.parts 0) l.members l.i

abbrev pub decreases-visit_star-loop-i : goal.decreases-visit_star-loop-i
decreases-visit_star-loop-i l = most_variants - l.i
