use Rattle.sn_load.specs.Load.{limits_of}
use Rattle.sn_outcomes.proofs.Feeding.{feed_as_once, feed_begins, feed_found}
use Rattle.sn_outcomes.proofs.laws.feeds_answer_the_whole_input.Goals as goal

pub returns-clause-whole : goal.returns-clause-whole
returns-clause-whole c = λ file source input batch fuel depth bytes more program reading found. feed_found (limits_of fuel depth) bytes more program reading (file source).told (file input).told found

pub returns-clause-begins : goal.returns-clause-begins
returns-clause-begins c = λ file source input batch fuel depth bytes more program reading p. feed_begins (limits_of fuel depth) bytes more program reading (file source).told (file input).told p

pub returns-clause-as_once : goal.returns-clause-as_once
returns-clause-as_once c = λ file source input batch fuel depth more p found told. feed_as_once (limits_of fuel depth) told.bytes more (file source).told (file input).told p found told.are
