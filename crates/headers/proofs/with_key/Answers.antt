-- `with_key` keeps the others.
use mathlib.Core.Path.{refl}
use Rattle.headers.proofs.with_key.Goals as goal

pub returns : goal.returns
returns c = refl
