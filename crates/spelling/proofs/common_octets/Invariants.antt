-- Octet by octet, behind those that are known.
use Rattle.spelling.specs.Inner.Escapes.{Common}
use Rattle.spelling.proofs.common_octets.Given as goal

abbrev pub invariant-loop-k : goal.invariant-loop-k
invariant-loop-k l = Common l.a l.b l.k
