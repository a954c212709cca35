-- `skip_plain` ends where the plain octets end: at the first that is none.
use mathlib.Core.Path.{◌∙◌}
use Rattle.grammar.specs.Grammar.{is_unescaped}
use Rattle.json_read.proofs.StringParts.{skip_first}
use Rattle.json_read.proofs.Position.skip_plain.Goals as goal

pub returns : goal.returns
returns c = c.seek.ensures ∙ skip_first is_unescaped c.args.s.now c.args.self.at
