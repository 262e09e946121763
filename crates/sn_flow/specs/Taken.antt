-- Whether a component takes a variant, and what leaves a star, by tests.
use Rattle.std.specs.Prelude.{Bool, ◌&&◌, List, map}
use Rattle.std.specs.List.{filter, list_all}
use Rattle.sn_record.specs.LabelSet.{Labels, union}
use Rattle.sn_record.specs.Fits.{bind_alike}
use Rattle.sn_types.specs.RecordType.{has_fit}

-- whether one of the variants fits v, and all of them have its binding tags: the test of `Takes`
abbrev pub is_taken : List Labels → Labels → Bool
is_taken takes v = has_fit takes v && list_all (λ w. bind_alike w v) takes

-- the variants with the binding tags of the exit, each with the exit
abbrev pub with_exit : List Labels → Labels → List Labels
with_exit members exit = map (λ w. union w exit) (filter (λ w. bind_alike w exit) members)
