-- What an end is as a value, in its two cases.
use mathlib.Core.Path.{ap, sym}
use Rattle.json_read.specs.Inner.Ends.{ends_of_kind}
use Rattle.json_read.proofs.value.of_kind.Goals as goal

pub returns : goal.returns
returns c = sym (ap (ends_of_kind c.args.kind) c.in_ok-end.was)
