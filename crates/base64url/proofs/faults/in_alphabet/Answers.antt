-- `in_alphabet` finds whether any character is outside the alphabet.
use mathlib.Core.Path.{ap, ◌∙◌}
use mathlib.Core.Bool.{not}
use Rattle.base64url.proofs.Counting.{count_any}
use Rattle.base64url.proofs.faults.in_alphabet.Goals as goal

pub returns : goal.returns
returns c = ap not c.any.ensures ∙ count_any c.args.text.now
