-- `block_sextets` writes the eight values of each word.
use Prim.Native.Nat.{◌*◌}
use lib.ListN.{drop}
use Rattle.prelude.proofs.Writing.{Writing}
use Rattle.base64url.specs.Inner.Words.{spread_all}
use Rattle.base64url.proofs.encoding.block_sextets.Given as goal

abbrev pub invariant-loop-g : goal.invariant-loop-g
invariant-loop-g l = Writing 0 (spread_all l.words) l.initial.six (spread_all (drop l.g l.words)) (8 * l.g) l.six
