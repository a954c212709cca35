-- The answers of the two tests, joined as the list of octets is.
use mathlib.Core.Path.{ap}
use mathlib.Core.Bool.{◌||◌}
use lib.Dec.{eqb}
use Rattle.json_read.proofs.value.is_number_start.Goals as goal

pub returns : goal.returns
returns c = ap (λ b. eqb c.args.c 45 || b) c.is_digit.ensures
