-- `block_sixes` writes a word for each six octets.
use Prim.Native.Nat.{◌*◌}
use lib.ListN.{drop}
use Rattle.prelude.proofs.Writing.{Writing}
use Rattle.base64url.specs.Inner.Words.{sixes_of}
use Rattle.base64url.proofs.encoding.block_sixes.Given as goal

abbrev pub invariant-loop-g : goal.invariant-loop-g
invariant-loop-g l = Writing 0 (sixes_of l.octets) l.initial.words (sixes_of (drop (l.g * 6) l.octets)) l.g l.words
