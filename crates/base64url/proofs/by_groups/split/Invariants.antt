-- `split` writes octets' values: group by group, and then what is left.
use Prim.Native.Nat.{◌*◌}
use lib.ListN.{drop}
use Rattle.prelude.proofs.Writing.{Writing}
use Rattle.base64url.specs.Base64url.{sextets}
use Rattle.base64url.proofs.by_groups.split.Given as goal

abbrev pub invariant-loop-i : goal.invariant-loop-i
invariant-loop-i l = Writing 0 (sextets l.octets) l.initial.into (sextets (drop (l.i * 3) l.octets)) (4 * l.i) l.into
