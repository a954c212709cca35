-- `recipient` reads the two lengths; the body fits, since the table is sound.
use mathlib.Core.Path.{◌≡◌}
use native.Mathlib.Omega.{arith}
use Prim.Native.Nat.{ℕ, ◌+◌}
use Rattle.recipients.specs.Parsed.{header_length, key_length}
use Rattle.recipients.specs.Inner.Answers.{body_at}
use Rattle.recipients.proofs.Places.{lengths_there, body_fits}
use Rattle.recipients.specs.declared.Body.{Body}
use Rattle.recipients.proofs.recipient.Goals as goal

-- the places, by a body's start and the lengths
body_is : {a b h k x y : ℕ} → a ≡ b → h ≡ x → k ≡ y →
    ◌≡◌ {A = Body} (record { header = record { start = a; len = h }; key = record { start = a + h; len = k } })
    (record { header = record { start = b; len = x }; key = record { start = b + x; len = y } })
body_is p q r = cc

pub overflow_mul-at : goal.overflow_mul-at
overflow_mul-at c =
    omega (arith, lengths_there c.args.table.now c.requires.table_value c.args.i c.requires.i_bound)

pub overflow_add-at : goal.overflow_add-at
overflow_add-at c =
    omega (arith, lengths_there c.args.table.now c.requires.table_value c.args.i c.requires.i_bound)

pub four_at-header-requires : goal.four_at-header-requires
four_at-header-requires c =
    omega (arith, lengths_there c.args.table.now c.requires.table_value c.args.i c.requires.i_bound)

pub overflow_add-at-2 : goal.overflow_add-at-2
overflow_add-at-2 c =
    omega (arith, lengths_there c.args.table.now c.requires.table_value c.args.i c.requires.i_bound)

pub four_at-key-requires : goal.four_at-key-requires
four_at-key-requires c =
    omega (arith, lengths_there c.args.table.now c.requires.table_value c.args.i c.requires.i_bound)

pub overflow_add-result : goal.overflow_add-result
unfolding header_length
overflow_add-result c =
    let table = c.args.table.now in
    omega (
      arith,
      body_fits table c.requires.table_value c.args.i c.requires.i_bound,
      c.requires.start_value,
      c.four_at-header.ensures.0,
    )

pub returns : goal.returns
unfolding body_at header_length key_length
returns c =
    body_is c.requires.start_value c.four_at-header.ensures.0 c.four_at-key.ensures.0
