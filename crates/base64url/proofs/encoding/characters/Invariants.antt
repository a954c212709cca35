-- `characters` writes the character of each value: a loop that writes a function of each element.
use mathlib.Core.List.{map}
use lib.ListN.{drop}
use Rattle.prelude.proofs.Writing.{Writing}
use Rattle.base64url.specs.Base64url.{character}
use Rattle.base64url.proofs.encoding.characters.Given as goal

abbrev pub invariant-loop-k : goal.invariant-loop-k
invariant-loop-k l = Writing 0 (map character l.six) l.initial.out (map character (drop l.k l.six)) l.k l.out
