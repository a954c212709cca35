-- `jwe_write_compact` tells C what `write` promises.
use Rattle.host.proofs.Told.{told}
use Rattle.host.proofs.jwe_write_compact.Goals as goal

pub returns : goal.returns
returns c = told c.tell.ensures.number c.tell.ensures.count c.write-compact.ensures
