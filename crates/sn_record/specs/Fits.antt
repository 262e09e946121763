-- Which sets of labels fit others: binding tags are taken by those alone that name them.
use Rattle.std.specs.Prelude.{◌≡◌, Bool, not, ◌&&◌, ◌||◌, IsTrue}
use Rattle.std.specs.List.{list_all}
use Rattle.std.specs.FinMap as map
use Rattle.sn_record.specs.declared.label.Label.{Label}
use Rattle.sn_record.specs.Label.{label_cmp, is_binding}
use Rattle.sn_record.specs.LabelSet.{Labels, contains}

-- w fits those labels which `has` tells: each label of w is one of them, and each binding tag among them is in w
pub record FitsAmong (has : Label → Bool) (w : Labels) : Type 0 where
  pub within : (l : Label) → IsTrue (contains w l) → IsTrue (has l)
  pub bound : (l : Label) → IsTrue (is_binding l) → IsTrue (has l) → IsTrue (contains w l)

-- w fits the set s
abbrev pub Fits : Labels → Labels → Type 0
Fits w s = FitsAmong (contains s) w

-- two sets have the same binding tags
abbrev pub BindAlike : Labels → Labels → Type 0
BindAlike s t = (l : Label) → IsTrue (is_binding l) → contains s l ≡ contains t l

-- whether w has the label, or the label is no binding tag
abbrev pub is_bound : Labels → Label → Bool
is_bound w l = not (is_binding l) || contains w l

-- whether w fits the labels of a map: the test of `FitsAmong`
abbrev pub fits : {X : Type 0} → Labels → map.FinMap label_cmp X → Bool
fits w m = list_all (map.contains_key m) (map.keys w) && list_all (is_bound w) (map.keys m)

-- whether two sets have the same binding tags: the test of `BindAlike`
abbrev pub bind_alike : Labels → Labels → Bool
bind_alike s t = list_all (is_bound s) (map.keys t) && list_all (is_bound t) (map.keys s)
