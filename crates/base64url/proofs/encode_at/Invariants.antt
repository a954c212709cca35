-- `encode_at` writes octets' text: block by block, and then what is left.
use Prim.Native.Nat.{◌*◌}
use lib.ListN.{drop}
use Rattle.prelude.proofs.Writing.{Writing}
use Rattle.base64url.specs.Base64url.{encoded}
use Rattle.base64url.proofs.encode_at.Given as goal

abbrev pub invariant-loop-block : goal.invariant-loop-block
invariant-loop-block l = Writing l.at (encoded l.octets) l.initial.out (encoded (drop (l.block-index * 48) l.octets)) l.j l.out
