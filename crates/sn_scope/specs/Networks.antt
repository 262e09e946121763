-- Networks in which each name of a net or of a box is the number of its declaration.
use Rattle.std.specs.Prelude.{ℕ, Bool, true, false, List, length, map as each, Option, Some, None}
use Rattle.std.specs.List.{fold}
use Rattle.std.specs.Option.{option_map}
use Rattle.sn_ast.specs.declared.network.NetExpr.{NetExpr, fold-NetExpr}
use Rattle.sn_ast.specs.declared.network.NetForm.TheOpen.{NetForm-F}
use Rattle.sn_ast.specs.declared.tag_expr.TExpr.{TExpr}
use Rattle.sn_record.specs.LabelSet.{Labels}
use Rattle.sn_tagexpr.specs.declared.expr.TagExpr.{TagExpr}
use Rattle.sn_names.specs.Names.{label_number}
use Rattle.sn_net.specs.declared.net.Merge.{Merge}
use Rattle.sn_net.specs.declared.net.Merge.TheVariants.{Free, Det}
use Rattle.sn_scope.specs.Filters.{filter_at, filter_required, identity_at, is_between}
use Rattle.sn_label_scope.specs.Labels.{variant_at, variant_required}
use Rattle.sn_label_scope.specs.Refusals.{required, Check}
use Rattle.sn_scope.specs.Scopes.{meaning_of}
use Rattle.sn_scope.specs.Tags.{tag_expr, tags_required}
use Rattle.sn_scope.specs.declared.network.Component.TheVariants.{Box, Filter, Sync, Serial, Choice, Star, Split}
use Rattle.sn_scope.specs.declared.network.Network.{Network}
use Rattle.sn_scope.specs.declared.network.Network.TheVariants.{Named, Made}
use Rattle.sn_label_scope.specs.declared.refusal.Reason.TheVariants.{Unknown, Arity, GuardTag}
use Rattle.sn_scope.specs.declared.scopes.Meaning.{Meaning}
use Rattle.sn_scope.specs.declared.scopes.Meaning.TheVariants as meaning
use Rattle.sn_scope.specs.declared.scopes.Scopes.{Scopes}

abbrev pub merge_of : Bool → Merge
merge_of true = Det
merge_of false = Free

-- the name of a net or of a box may stand in a network
abbrev pub is_part : Option Meaning → Bool
is_part (Some (meaning.«Type» number)) = false
is_part (Some (meaning.Signature number)) = false
is_part (Some (meaning.Net number)) = true
is_part (Some (meaning.Box number)) = true
is_part None = false

-- the net of the number, or a call of the box; what is refused stands for nothing, and the filter that passes all takes its place
abbrev pub named_at : Option Meaning → ℕ → Network
named_at (Some (meaning.«Type» number)) place = Made (Filter (identity_at place))
named_at (Some (meaning.Signature number)) place = Made (Filter (identity_at place))
named_at (Some (meaning.Net number)) place = Named number
named_at (Some (meaning.Box number)) place = Made (Box place number)
named_at None place = Made (Filter (identity_at place))

-- a guard by the numbers of its tags
abbrev pub guard_at : List (List ℕ) → Option TExpr → Option TagExpr
guard_at names guard = option_map (tag_expr names) guard

-- one level at its place, with each part by its numbers in its place; where boxes run changes nothing of it, so a placed part is its part
abbrev pub network_step : List (List ℕ) → Scopes → NetForm-F (ℕ → Network) Network → ℕ → Network
network_step names scopes (NetForm-F.Name name) place = named_at (meaning_of scopes name.text) name.at
network_step names scopes NetForm-F.Identity place = Made (Filter (identity_at place))
network_step names scopes (NetForm-F.Filter pattern arms templates) place = Made (Filter (filter_at names place pattern arms templates))
network_step names scopes (NetForm-F.Sync patterns) place = Made (Sync place (each (variant_at names) patterns))
network_step names scopes (NetForm-F.Serial parts) place = Made (Serial parts)
network_step names scopes (NetForm-F.Choice det branches) place = Made (Choice place (merge_of det) branches)
network_step names scopes (NetForm-F.Star det body exit guard) place = Made (Star place (merge_of det) body (variant_at names exit) (guard_at names guard))
network_step names scopes (NetForm-F.Split det spread body tag) place = Made (Split place (merge_of det) body (label_number names tag.text))
network_step names scopes (NetForm-F.Placed body node) place = body

-- the network with each net and each box by its number, and each label by the number of its name
abbrev pub network_at : List (List ℕ) → Scopes → NetExpr → Network
network_at names scopes = fold-NetExpr (ℕ → Network) Network (network_step names scopes) (λ n. n.form n.at)

-- each tag of the guard is in the exit pattern
abbrev pub guard_required : List (List ℕ) → Labels → Option TExpr → Check
guard_required names exit None least = least
guard_required names exit (Some e) least = tags_required names exit GuardTag e least

-- the checks of the parts, from left to right
abbrev pub all_required : List Check → Check
all_required checks least = fold (λ so_far check. check so_far) least checks

-- one level at its place, with the check of each part in its place
abbrev pub required_step : List (List ℕ) → Scopes → NetForm-F (ℕ → Check) Check → ℕ → Check
required_step names scopes (NetForm-F.Name name) place least = required (is_part (meaning_of scopes name.text)) Unknown name.at least
required_step names scopes NetForm-F.Identity place least = least
required_step names scopes (NetForm-F.Filter pattern arms templates) place least = filter_required names place pattern arms templates least
required_step names scopes (NetForm-F.Sync patterns) place least =
    fold (variant_required names) (required (is_between 2 8 (length patterns)) Arity place least) patterns
required_step names scopes (NetForm-F.Serial parts) place least = all_required parts least
required_step names scopes (NetForm-F.Choice det branches) place least = all_required branches (required (is_between 2 64 (length branches)) Arity place least)
required_step names scopes (NetForm-F.Star det body exit guard) place least =
    guard_required names (variant_at names exit) guard (variant_required names (body least) exit)
required_step names scopes (NetForm-F.Split det spread body tag) place least = body least
required_step names scopes (NetForm-F.Placed body node) place least = body least

-- each name in the network is that of a visible net or box, each part has as many parts as it may, and filters and guards are over their patterns
abbrev pub network_required : List (List ℕ) → Scopes → NetExpr → Check
network_required names scopes = fold-NetExpr (ℕ → Check) Check (required_step names scopes) (λ n. n.form n.at)
