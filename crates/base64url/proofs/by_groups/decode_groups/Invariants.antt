-- `decode_groups` writes a text's octets: group by group, and then what is left.
use Prim.Native.Nat.{◌*◌}
use lib.ListN.{drop}
use Rattle.prelude.proofs.Writing.{Writing}
use Rattle.base64url.specs.Base64url.{decoded}
use Rattle.base64url.proofs.by_groups.decode_groups.Given as goal

abbrev pub invariant-loop-i : goal.invariant-loop-i
invariant-loop-i l = Writing 0 (decoded l.text) l.initial.out (decoded (drop (l.i * 4) l.text)) (3 * l.i) l.out
