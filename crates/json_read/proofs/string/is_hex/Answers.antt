-- `is_hex` is a digit or one of twelve letters.
use mathlib.Core.Path.{ap₂}
use mathlib.Core.Bool.{◌||◌}
use Rattle.json_read.proofs.string.is_hex.Goals as goal

pub returns : goal.returns
returns c = ap₂ ◌||◌ c.is_digit.ensures c.is_letter_of_hex.ensures
