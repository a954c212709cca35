-- `find` answers by the definition: while it goes on, the number among the names still to come is the number among all.
use mathlib.Core.Path.{refl, ap, ◌∙◌}
use mathlib.Core.List.{List}
use Prim.Native.Nat.{ℕ}
use lib.ListN.{get_or}
use native.Mathlib.Omega.{arith}
use Rattle.names.proofs.Finding.{empty_none, lengths_there, begin, name_fits_lem, here, passed, nowhere}
use Rattle.names.proofs.find.Goals as goal

pub returns-in_default : goal.returns-in_default
returns-in_default c = empty_none c.args.list.now c.args.spelled.now c.in_default.ensures.cases

pub split_at-requires : goal.split_at-requires
split_at-requires c =
    omega (arith, lengths_there _ _ c.in-Some.ensures.cases.0 c.requires, c.from.ensures)

pub loop-i-init : goal.loop-i-init
loop-i-init c =
    let n = c.from.ensures in
    begin c.args.spelled.now _ _ c.in-Some.ensures.cases.0 (c.split_at.ensures.front ∙ rw n refl)
    (c.split_at.ensures.back ∙ rw n refl) c.requires

pub split_at-requires-in-loop-i : goal.split_at-requires-in-loop-i
split_at-requires-in-loop-i c = omega (arith, name_fits_lem c.loop-i.invariant c.loop-i-test.true, c.from-in-loop-i.ensures)

-- one octet holds the number of names
pub overflow_cast-result : goal.overflow_cast-result
overflow_cast-result c =
    let n = ap (λ (l : List ℕ). get_or l 0 0) c.in-Some.ensures.cases.0 in
    omega (arith, n, c.type_inv.list 0, c.from.ensures, c.split_at.ensures.front_len, c.loop-i-test.true)

pub overflow_add-result : goal.overflow_add-result
overflow_add-result c =
    let n = ap (λ (l : List ℕ). get_or l 0 0) c.in-Some.ensures.cases.0 in
    omega (arith, n, c.type_inv.list 0, c.from.ensures, c.split_at.ensures.front_len, c.loop-i-test.true)

pub returns-then-has : goal.returns-then-has
returns-then-has c =
    let name = c.split_at-in-loop-i.ensures in
    here c.loop-i.invariant c.loop-i-test.true c.from-in-loop-i.ensures name.front name.back c.if-has.ensures

pub loop-i-preserved : goal.loop-i-preserved
loop-i-preserved c =
    let name = c.split_at-in-loop-i.ensures in
    passed c.loop-i.invariant c.loop-i-test.true c.from-in-loop-i.ensures name.front name.back c.if-has.ensures

pub returns : goal.returns
returns c = nowhere c.loop-i.invariant c.loop-i-test.false
