-- `seek` finds the octet: it is the first of its kind.
use mathlib.Core.Path.{◌∙◌}
use Rattle.parts.proofs.Seeking.{seek_is, ensured}
use Rattle.parts.proofs.seek.Goals as goal

pub returns : goal.returns
returns c =
    let given = c.args in
    let both = ensured given.c given.s.now given.at c.seek.result (c.seek.ensures ∙ seek_is given.c given.s.now given.at) in
    record { value = both.0; lower_bound = both.1 }
