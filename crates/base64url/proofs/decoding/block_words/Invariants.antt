-- `block_words` writes a word for each eight values.
use Prim.Native.Nat.{◌*◌}
use lib.ListN.{drop}
use Rattle.prelude.proofs.Writing.{Writing}
use Rattle.base64url.specs.Inner.Words.{words_of}
use Rattle.base64url.proofs.decoding.block_words.Given as goal

abbrev pub invariant-loop-g : goal.invariant-loop-g
invariant-loop-g l = Writing 0 (words_of l.six) l.initial.words (words_of (drop (l.g * 8) l.six)) l.g l.words
