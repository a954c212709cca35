-- `field` reads the entry's number, which has 32 bits.
use Prim.Native.Nat.{◌+◌, ◌*◌}
use mathlib.Core.Path.{sym}
use native.Mathlib.Omega.{arith}
use lib.Seq.{get_or-drop}
use Rattle.rows.specs.Tables.{width}
use Rattle.rows.proofs.ask.field.Goals as goal

pub overflow_cast-result : goal.overflow_cast-result
overflow_cast-result c =
    let args = c.args in
    omega (arith, c.type_inv.table (args.i * width + args.k))

pub returns : goal.returns
returns c =
    let args = c.args in
    record {
      value = sym (get_or-drop (args.i * width) args.table.now args.k 0);
      upper_bound = omega (arith, c.type_inv.table (args.i * width + args.k));
    }
