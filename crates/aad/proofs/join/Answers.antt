-- `join` asks for the room of the header and then of the rest, so that no sum is formed that could not be held.
use mathlib.Core.Path.{refl, sym, ◌∙◌}
use mathlib.Core.List.{◌∷◌, ◌++◌}
use native.Mathlib.Omega.{arith}
use lib.ListN.{length, length-append}
use Rattle.aad.specs.Aad.{aad_text}
use Rattle.aad.proofs.Joining.{header_in, without_aad, with_aad, fits, short}
use Rattle.aad.proofs.join.Goals as goal

pub returns-in_err-room : goal.returns-in_err-room
returns-in_err-room c =
    let header = c.args.header.now in
    let aad = c.args.aad.now in
    let out = c.args.out.now in
    rw c.from_residual.ensures
    (short header aad out (aad_text header aad) refl (omega (arith, header_in header aad out, c.in_err-room.ensures)))

pub returns-then-is_empty : goal.returns-then-is_empty
returns-then-is_empty c =
    let header = c.args.header.now in
    let aad = c.args.aad.now in
    let out = c.args.out.now in
    fits header aad out header (without_aad header aad out (sym c.is_empty.ensures ∙ c.if-is_empty.true))
    c.in_ok-room.ensures.0 (length header) _ refl c.copy_octets.ensures

pub returns-then-room-aad : goal.returns-then-room-aad
returns-then-room-aad c =
    let header = c.args.header.now in
    let aad = c.args.aad.now in
    let out = c.args.out.now in
    short header aad out (header ++ (46 ∷ aad)) (with_aad header aad out (sym c.is_empty.ensures ∙ c.if-is_empty.false))
    (omega (arith, length-append header (46 ∷ aad), c.if-room-aad.true, c.in_ok-room.ensures))

pub returns : goal.returns
returns c =
    let header = c.args.header.now in
    let aad = c.args.aad.now in
    let out = c.args.out.now in
    fits header aad out (header ++ (46 ∷ aad))
    (with_aad header aad out (sym c.is_empty.ensures ∙ c.if-is_empty.false))
    (omega (arith, length-append header (46 ∷ aad), c.if-room-aad.false, c.in_ok-room.ensures))
    c.put.result _ c.put.ensures.value c.put.ensures.out_after
