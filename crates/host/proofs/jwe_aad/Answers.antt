-- `jwe_aad` hands out what `aad` promises, case by case.
use Rattle.aad.specs.Aad.{aad_number, aad_count}
use Rattle.prelude.proofs.Outputs.{writes_case}
use Rattle.host.proofs.jwe_aad.Goals as goal

pub returns-in-Some : goal.returns-in-Some
returns-in-Some c =
    writes_case aad_number aad_count c.aad.ensures c.in-Some.is

pub returns-in-None : goal.returns-in-None
returns-in-None c =
    writes_case aad_number aad_count c.aad.ensures c.in-None.is
