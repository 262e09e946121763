use Rattle.std.proofs.Common.{◌≡◌, ◌++◌, map}
use Rattle.std.specs.Vec.Iter.{into_iter_items}
use Rattle.sn_net.specs.Faced.{net_of, face_of}
use Rattle.sn_net.proofs.faced.apart.Given as goal

abbrev pub invariant-loop-branch : goal.invariant-loop-branch
invariant-loop-branch l = record {
  all : l.yielded ++ into_iter_items l.branch-iterator ≡ into_iter_items l.initial.branch-iterator;
  nets : l.nets ≡ map net_of l.yielded;
  faces : l.faces ≡ map face_of l.yielded;
}
