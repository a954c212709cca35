-- `put_words` writes a block's octets. Each word but the first goes over the two octets that the one before wrote too many
-- (`Covering`).
use Prim.Native.Nat.{◌*◌}
use lib.ListN.{drop}
use Rattle.base64url.specs.Inner.Words.{octets_of}
use Rattle.base64url.proofs.Covering.{Covering}
use Rattle.base64url.proofs.decoding.put_words.Given as goal

abbrev pub invariant-loop-g : goal.invariant-loop-g
invariant-loop-g l = Covering 0 (octets_of l.words) l.initial.out (octets_of (drop l.g l.words)) (6 * l.g) l.out
