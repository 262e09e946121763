use Rattle.std.proofs.Common.{rules, ◌≡◌}
use Rattle.sn_record.proofs.Compared.{met, one_more, same_elements}
use Rattle.sn_record.proofs.same.+is_same_value.Goals as goal

pub returns-then-not-is_same_value : goal.returns-then-not-is_same_value
returns-then-not-is_same_value t c = (
  λ h. search (rules, h),
  λ e. let lists : c.in-List.xs ≡ c.in-List-b.ys = same_elements _ _ _ _ c.in-List.is c.in-List-b.is e in
      let same : c.value-item.result ≡ c.index-others-i.result = search (rules, met) in
      search (rules, same, c.is_same_value.ensures),
)

pub loop-i-preserved : goal.loop-i-preserved
loop-i-preserved t c = one_more _ _ _ _ _ c.value-item.is c.index-others-i.is (search rules) (search rules) (search rules) c.loop-i.invariant
