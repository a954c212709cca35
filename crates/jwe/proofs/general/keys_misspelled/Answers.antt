-- `keys_misspelled` asks one recipient's key after the other.
use mathlib.Core.Path.{refl, ap, sym, ◌∙◌}
use native.Mathlib.Omega.{arith}
use Rattle.headers.specs.Components.{misspelled}
use Rattle.jwe.proofs.RecipientRows.{key_turn, key_found, keys_done}
use Rattle.jwe.proofs.general.keys_misspelled.Goals as goal

pub loop-i-init : goal.loop-i-init
loop-i-init c = (omega arith, refl)

pub returns-then-misspelled : goal.returns-then-misspelled
returns-then-misspelled c =
    let args = c.args in
    let bad = misspelled args.message.now in
    key_found bad _ args.number c.loop-i.i args.of.now c.loop-i.invariant.1 c.loop-i-test.true
    (ap bad (sym c.key.ensures) ∙ sym c.misspelled.ensures ∙ c.if-misspelled.true)

pub loop-i-preserved : goal.loop-i-preserved
loop-i-preserved c =
    let args = c.args in
    let bad = misspelled args.message.now in (
      omega arith,
      key_turn bad _ args.number c.loop-i.i args.of.now c.loop-i.invariant.1 c.loop-i-test.true
          (ap bad (sym c.key.ensures) ∙ sym c.misspelled.ensures ∙ c.if-misspelled.false),
    )

pub returns : goal.returns
returns c =
    let args = c.args in
    keys_done (misspelled args.message.now) _ args.number c.loop-i.i args.of.now c.loop-i.invariant.1 c.loop-i-test.false
