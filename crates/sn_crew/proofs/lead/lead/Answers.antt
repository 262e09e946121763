use Rattle.std.proofs.Common.{◌∙◌, ap, arith, refl}
use Rattle.sn_crew.specs.declared.lead.Turn.TheVariants.{Ended, Idle, Went}
use Rattle.sn_crew.proofs.Reading.{later_then, nothing, rose_sooner, turn_then}
use Rattle.sn_crew.proofs.lead.lead.Goals as goal

pub loop-init : goal.loop-init
loop-init g c = record {
  ready = (tt, tt);
  made = refl;
  goes = nothing c.args.out.now.names.now c.args.root.now.moved _ c.requires.fresh;
  later = omega arith;
  names = refl;
  same_sink = refl;
}

pub loop-preserved-in-Went : goal.loop-preserved-in-Went
loop-preserved-in-Went g c = record {
  ready = (tt, tt);
  made = c.read_or_serve.ensures.made ∙ c.loop.invariant.made;
  goes = turn_then c.args.out.now.names.now _ _ _ _ _ _ c.read_or_serve.result Went c.loop.invariant.names c.in-Went.is (c.read_or_serve.ensures.goes _) c.loop.invariant.goes;
  later = later_then _ _ _ c.loop.invariant.later c.read_or_serve.ensures.later;
  names = c.read_or_serve.ensures.names ∙ c.loop.invariant.names;
  same_sink = c.read_or_serve.ensures.same_sink ∙ c.loop.invariant.same_sink;
}

pub loop-preserved : goal.loop-preserved
loop-preserved g c = record {
  ready = (tt, tt);
  made = c.read_or_serve.ensures.made ∙ c.loop.invariant.made;
  goes = turn_then c.args.out.now.names.now _ _ _ _ _ _ c.read_or_serve.result Idle c.loop.invariant.names c.in-Idle.is (c.read_or_serve.ensures.goes _) c.loop.invariant.goes;
  later = later_then _ _ _ c.loop.invariant.later c.read_or_serve.ensures.later;
  names = c.read_or_serve.ensures.names ∙ c.loop.invariant.names;
  same_sink = c.read_or_serve.ensures.same_sink ∙ c.loop.invariant.same_sink;
}

pub returns-in-Ended-clause-ends : goal.returns-in-Ended-clause-ends
returns-in-Ended-clause-ends g c =
    turn_then c.args.out.now.names.now _ _ _ _ _ _ c.read_or_serve.result (Ended c.in-Ended.outcome) c.loop.invariant.names c.in-Ended.is (c.read_or_serve.ensures.goes _) c.loop.invariant.goes

pub returns-in-Ended-clause-rose : goal.returns-in-Ended-clause-rose
returns-in-Ended-clause-rose g c is = rose_sooner _ _ _ c.loop.invariant.later (c.read_or_serve.ensures.rose (c.in-Ended.is ∙ ap Ended is))

pub returns-in-Ended-clause-later : goal.returns-in-Ended-clause-later
returns-in-Ended-clause-later g c = later_then _ _ _ c.loop.invariant.later c.read_or_serve.ensures.later
