-- `jwe_write_general` tells C what `write_json` promises.
use Rattle.host.proofs.Told.{told}
use Rattle.host.proofs.jwe_write_general.Goals as goal

pub returns : goal.returns
returns c = told c.tell.ensures.number c.tell.ensures.count c.write_json-general.ensures
