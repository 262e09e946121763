use Rattle.sn_view.proofs.Chains.{begun_in_order, whole_in_order}
use Rattle.sn_view.proofs.laws.one_stream_in_order.Goals as goal

pub returns-clause-begun : goal.returns-clause-begun
returns-clause-begun c = λ run g formed in_order comes. begun_in_order run g formed in_order comes

pub returns-clause-whole : goal.returns-clause-whole
returns-clause-whole c = λ run g formed in_order comes rest. whole_in_order run g formed in_order comes rest
