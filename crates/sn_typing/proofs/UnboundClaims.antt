-- Where no label is a binding tag, claims are accepted as they are by subsets alone.
use Rattle.std.proofs.Common.{◌↔◌, List}
use Rattle.std.specs.List.{Contains}
use Rattle.sn_record.specs.LabelSet.{Labels, union}
use Rattle.sn_net.specs.declared.expr.BoxProgram.{BoxProgram}
use Rattle.sn_net.specs.declared.net.Claim.{Claim}
use Rattle.sn_types.specs.Subsets.{IsUnbound}
use Rattle.sn_types.proofs.Unbound.{subset_has}
use Rattle.sn_typing.specs.Outline.{Outline, Component, Series, Choice, Star, Split, outline}
use Rattle.sn_typing.specs.Reached.{Turn, Reached, Reached.{here, left, right, branch, inside, replica}}
use Rattle.sn_typing.specs.Accepted.{AreFew, ComesTo, IsAccepted, IsBounded, IsReached}
use Rattle.sn_typing.specs.Subsets as plain
use Rattle.sn_typing.specs.Subsets.{NamesNone, Reached as PlainReached, Reached.{here as plain_here, left as plain_left, right as plain_right, branch as plain_branch, inside as plain_inside, replica as plain_replica}}
use Rattle.sn_typing.proofs.Unbound.{comes_back, comes_there, comes_unbound, face_subset, leaves_subset, same_net, taken_unbeaten, union_unbound}

-- a part that is reached, both ways
pub record Known (net : Outline) (v : Labels) (way : List Turn) (part : Outline) (u : Labels) : Type 0 where
  pub there : PlainReached net v way part u
  pub back : Reached net v way part u
  pub names : NamesNone part
  pub unbound : IsUnbound u

pub known_there : (net : Outline) (v : Labels) (way : List Turn) (part : Outline) (u : Labels) → NamesNone net → IsUnbound v → Reached net v way part u → Known net v way part u
known_there net v way part u names none (here net' v') = record { there = plain_here net v; back = here net v; names = names; unbound = none }
known_there net v way part u names none (left a b v' way' part' u' reached) =
    let known = known_there a v way' part u names.0 none reached in
    record { there = plain_left a b v way' part u known.there; back = left a b v way' part u reached; names = known.names; unbound = known.unbound }
known_there net v way part u names none (right a b v' w way' part' u' flow reached) =
    let same = same_net a names.0 v none in
    let known = known_there b w way' part u names.1 (same.unbound w flow) reached in
    record { there = plain_right a b v w way' part u (same.there w flow) known.there; back = right a b v w way' part u flow reached; names = known.names; unbound = known.unbound }
known_there net v way part u names none (branch place faces branches v' i w way' part' u' has taken reached) =
    let known = known_there (branches i) (union v w) way' part u (names.1 i) (union_unbound v w none (names.0 i w taken.own)) reached in
    record {
      there = plain_branch place faces branches v i w way' part u ((face_subset faces v none).0 has) ((taken_unbeaten faces i w v names.0 none).0 taken) known.there;
      back = branch place faces branches v i w way' part u has taken reached;
      names = known.names;
      unbound = known.unbound;
    }
known_there net v way part u names none (inside exit guarded body v' w way' part' u' come stays reached) =
    let same = λ (z : Labels) (own : IsUnbound z). same_net body names.1 z own in
    let own = comes_unbound exit guarded body v none same w come in
    let known = known_there body w way' part u names.1 own reached in
    record {
      there = plain_inside exit guarded body v w way' part u (comes_there exit guarded body v none same w come) (λ leaves. stays ((leaves_subset exit guarded w own).1 leaves)) known.there;
      back = inside exit guarded body v w way' part u come stays reached;
      names = known.names;
      unbound = known.unbound;
    }
known_there net v way part u names none (replica place id body v' way' part' u' there reached) =
    let known = known_there body v way' part u names none reached in
    record { there = plain_replica place id body v way' part u there known.there; back = replica place id body v way' part u there reached; names = known.names; unbound = known.unbound }

pub known_back : (net : Outline) (v : Labels) (way : List Turn) (part : Outline) (u : Labels) → NamesNone net → IsUnbound v → PlainReached net v way part u → Known net v way part u
known_back net v way part u names none (plain_here net' v') = record { there = plain_here net v; back = here net v; names = names; unbound = none }
known_back net v way part u names none (plain_left a b v' way' part' u' reached) =
    let known = known_back a v way' part u names.0 none reached in
    record { there = plain_left a b v way' part u reached; back = left a b v way' part u known.back; names = known.names; unbound = known.unbound }
known_back net v way part u names none (plain_right a b v' w way' part' u' flow reached) =
    let same = same_net a names.0 v none in
    let known = known_back b w way' part u names.1 (same.unbound w (same.back w flow)) reached in
    record { there = plain_right a b v w way' part u flow reached; back = right a b v w way' part u (same.back w flow) known.back; names = known.names; unbound = known.unbound }
known_back net v way part u names none (plain_branch place faces branches v' i w way' part' u' has unbeaten reached) =
    let known = known_back (branches i) (union v w) way' part u (names.1 i) (union_unbound v w none (names.0 i w unbeaten.own)) reached in
    record {
      there = plain_branch place faces branches v i w way' part u has unbeaten reached;
      back = branch place faces branches v i w way' part u ((face_subset faces v none).1 has) ((taken_unbeaten faces i w v names.0 none).1 unbeaten) known.back;
      names = known.names;
      unbound = known.unbound;
    }
known_back net v way part u names none (plain_inside exit guarded body v' w way' part' u' come stays reached) =
    let same = λ (z : Labels) (own : IsUnbound z). same_net body names.1 z own in
    let come_back = comes_back exit guarded body v none same w come in
    let own = comes_unbound exit guarded body v none same w come_back in
    let known = known_back body w way' part u names.1 own reached in
    record {
      there = plain_inside exit guarded body v w way' part u come stays reached;
      back = inside exit guarded body v w way' part u come_back (λ leaves. stays ((leaves_subset exit guarded w own).0 leaves)) known.back;
      names = known.names;
      unbound = known.unbound;
    }
known_back net v way part u names none (plain_replica place id body v' way' part' u' there reached) =
    let known = known_back body v way' part u names none reached in
    record { there = plain_replica place id body v way' part u there reached; back = replica place id body v way' part u there known.back; names = known.names; unbound = known.unbound }

few_more : (P Q : Labels → Type 0) → ((v : Labels) → Q v → P v) → AreFew P → AreFew Q
few_more P Q more few = record { all = few.all; few = few.few; listed = λ v is. few.listed v (more v is) }

-- what comes to a star, both ways
star_there : (part : Outline) (u : Labels) → NamesNone part → IsUnbound u → (z : Labels) → ComesTo part u z → plain.ComesTo part u z
star_there (Component place takes named outputs) u names none z come = come
star_there (Series a b) u names none z come = come
star_there (Choice place faces branches) u names none z come = come
star_there (Star exit guarded body) u names none z come = comes_there exit guarded body u none (λ w own. same_net body names.1 w own) z come
star_there (Split place id body) u names none z come = come

star_back : (part : Outline) (u : Labels) → NamesNone part → IsUnbound u → (z : Labels) → plain.ComesTo part u z → ComesTo part u z
star_back (Component place takes named outputs) u names none z come = come
star_back (Series a b) u names none z come = come
star_back (Choice place faces branches) u names none z come = come
star_back (Star exit guarded body) u names none z come = comes_back exit guarded body u none (λ w own. same_net body names.1 w own) z come
star_back (Split place id body) u names none z come = come

module _ (net : Outline) (input : List Labels) (names : NamesNone net) (none : (v : Labels) → Contains input v → IsUnbound v) where
  reached_there : (way : List Turn) (part : Outline) (u : Labels) → IsReached net input way part u → plain.IsReached net input way part u
  reached_there way part u is =
      record { variant = is.variant; listed = is.listed; reached = (known_there net is.variant way part u names (none is.variant is.listed) is.reached).there }

  reached_back : (way : List Turn) (part : Outline) (u : Labels) → plain.IsReached net input way part u → IsReached net input way part u
  reached_back way part u is =
      record { variant = is.variant; listed = is.listed; reached = (known_back net is.variant way part u names (none is.variant is.listed) is.reached).back }

  part_known : (way : List Turn) (part : Outline) (u : Labels) (is : IsReached net input way part u) → Known net is.variant way part u
  part_known way part u is = known_there net is.variant way part u names (none is.variant is.listed) is.reached

  pub bounded_there : IsBounded net input → plain.IsBounded net input
  bounded_there bounded = record {
    parts = λ way part. few_more (IsReached net input way part) (plain.IsReached net input way part) (reached_back way part) (bounded.parts way part);
    flows = λ way part u is.
        let back = reached_back way part u is in
        let known = part_known way part u back in
        few_more _ (plain.Flows part u) ((same_net part known.names u known.unbound).back) (bounded.flows way part u back);
    stars = λ way part u is.
        let back = reached_back way part u is in
        let known = part_known way part u back in
        few_more (ComesTo part u) (plain.ComesTo part u) (star_back part u known.names known.unbound) (bounded.stars way part u back);
  }

  pub bounded_back : plain.IsBounded net input → IsBounded net input
  bounded_back bounded = record {
    parts = λ way part. few_more (plain.IsReached net input way part) (IsReached net input way part) (reached_there way part) (bounded.parts way part);
    flows = λ way part u is.
        let known = part_known way part u is in
        few_more (plain.Flows part u) _ ((same_net part known.names u known.unbound).there) (bounded.flows way part u (reached_there way part u is));
    stars = λ way part u is.
        let known = part_known way part u is in
        few_more (plain.ComesTo part u) (ComesTo part u) (star_there part u known.names known.unbound) (bounded.stars way part u (reached_there way part u is));
  }

pub accepted_unbound : (boxes : List BoxProgram) (claim : Claim) → NamesNone (outline boxes claim.net) → ((v : Labels) → Contains claim.input v → IsUnbound v)
    → IsAccepted boxes claim ↔ plain.IsAccepted boxes claim
accepted_unbound boxes claim names none =
    let net = outline boxes claim.net in
    let same = λ (v : Labels) (listed : Contains claim.input v). same_net net names v (none v listed) in (
      λ accepted. record {
        bounded = bounded_there net claim.input names none accepted.bounded;
        safe = λ v listed. (same v listed).safe.0 (accepted.safe v listed);
        declared = λ v u listed flow.
            let back = (same v listed).back u flow in
            (subset_has claim.output u ((same v listed).unbound u back)).0 (accepted.declared v u listed back);
      },
      λ accepted. record {
        bounded = bounded_back net claim.input names none accepted.bounded;
        safe = λ v listed. (same v listed).safe.1 (accepted.safe v listed);
        declared = λ v u listed flow.
            (subset_has claim.output u ((same v listed).unbound u flow)).1 (accepted.declared v u listed ((same v listed).there u flow));
      },
    )
