-- `count` answers by the definition: the end of the bodies so far is where the next one begins.
use mathlib.Core.Path.{◌≡◌, ap, sym, ◌∙◌}
use mathlib.Core.List.{List}
use Prim.Native.Nat.{ℕ}
use native.Mathlib.Omega.{arith}
use Rattle.std.specs.Prelude.{Some, slice_get}
use Rattle.std.proofs.lemmas.Option.{get_or_from_slice_get}
use Rattle.recipients.specs.Parsed.{said_count, body_start, header_length, key_length}
use Rattle.recipients.proofs.Places.{start_first, start_next, none_unsound, many_unsound, short_unsound}
use Rattle.recipients.proofs.Places.{unfilled_unsound, filled_sound, empty_none, count_malformed, count_sound}
use Rattle.recipients.proofs.count.Goals.{then-n-lt1-via-then-n-lt1, then-n-lt1-via-else-n-lt1+then-n-gt-MOST_RECIPIENTS}
use Rattle.recipients.proofs.count.Goals as goal

-- the first octet is the count that the table says
said : (t : List ℕ) {n x : ℕ} → n ≡ x → Some x ≡ slice_get t 0 → n ≡ said_count t
said t {n} {x} e f = e ∙ sym (get_or_from_slice_get t 0 x 0 (sym f))

pub returns-in_err-first : goal.returns-in_err-first
returns-in_err-first c =
    let table = c.args.table.now in
    c.from_residual.ensures
    ∙ count_malformed table (none_unsound table (empty_none table (omega (arith, c.in_err-first.ensures.item))))

pub returns-then-n-lt1 : goal.returns-then-n-lt1
returns-then-n-lt1 c =
    let table = c.args.table.now in
    let n = said table c.from-n.ensures c.in_ok-first.ensures.value in
    count_malformed table (elim c.then-n-lt1.branch [
      | then-n-lt1-via-then-n-lt1 w ↦ none_unsound table (omega (arith, n, w.if-n-lt1))
      | then-n-lt1-via-else-n-lt1+then-n-gt-MOST_RECIPIENTS w ↦ many_unsound table (omega (arith, n, w.if-n-lt1)) (omega (arith, n, w.if-n-gt-MOST_RECIPIENTS))
    ])

pub returns-then-table-end : goal.returns-then-table-end
returns-then-table-end c =
    let table = c.args.table.now in
    let n = said table c.from-n.ensures c.in_ok-first.ensures.value in
    count_malformed table (short_unsound table (omega (arith, n)) (omega (arith, n)) (omega (arith, n)))

pub loop-i-init : goal.loop-i-init
loop-i-init c =
    let table = c.args.table.now in
    let n = said table c.from-n.ensures c.in_ok-first.ensures.value in
    record { begins = omega (arith, n, start_first table); within = omega arith }

pub loop-i-preserved : goal.loop-i-preserved
unfolding header_length key_length
loop-i-preserved c = record {
  begins =
      omega (
        arith,
        c.loop-i.invariant.begins,
        start_next c.args.table.now c.loop-i.i,
        c.four_at.ensures.0,
        c.four_at-in-loop-i.ensures.0,
      );
  within = omega (arith, c.loop-i.invariant.within);
}

pub returns-then-end-table : goal.returns-then-end-table
returns-then-end-table c =
    let table = c.args.table.now in
    let n = said table c.from-n.ensures c.in_ok-first.ensures.value in
    let all : c.loop-i.i ≡ said_count table = omega (arith, n) in
    let end = c.loop-i.invariant.begins ∙ ap (body_start table) all in
    count_malformed table (unfilled_unsound table (omega (arith, n)) (omega (arith, n)) (λ e. c.if-end-table.true (end ∙ e)))

pub returns : goal.returns
returns c =
    let table = c.args.table.now in
    let n = said table c.from-n.ensures c.in_ok-first.ensures.value in
    let all : c.loop-i.i ≡ said_count table = omega (arith, n) in
    let end = c.loop-i.invariant.begins ∙ ap (body_start table) all in
    ap (λ k. Some k) n ∙ count_sound table (filled_sound table (omega (arith, n)) (omega (arith, n)) (sym end ∙ c.if-end-table.false))
