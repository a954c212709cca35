-- `decode` writes a text's octets: block by block, and the rest group by group, by the table that it lends.
use Prim.Native.Nat.{◌*◌}
use lib.ListN.{drop}
use Rattle.prelude.proofs.Writing.{Writing}
use Rattle.base64url.specs.Base64url.{decoded}
use Rattle.base64url.proofs.decoding.decode.Given as goal

abbrev pub invariant-loop-i : goal.invariant-loop-i
invariant-loop-i l = Writing 0 (decoded l.text) l.initial.out (decoded (drop (l.i * 128) l.text)) (96 * l.i) l.out
