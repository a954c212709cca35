-- `seek_all` seeks for one entry after the other.
use Rattle.std.proofs.Common.{ℕ, Option, None, IfSome, get_or, ◌∙◌, ◌<◌, length-set, refl, subst, sym, arith}
use Rattle.rows.specs.Rows.{Entry}
use Rattle.rows.proofs.Entries.{entries_length}
use Rattle.rows.proofs.Printing.{printed_at}
use Rattle.matching.specs.Inner.Places.{MatchedAt}
use Rattle.matching.specs.Inner.Sides.{texts, entries, entry_at}
use Rattle.matching.proofs.Below.{below_none, below_set}
use Rattle.matching.proofs.Partners.{by_number}
use Rattle.matching.proofs.Side.seek_all.Goals as goal

pub loop-i-init : goal.loop-i-init
loop-i-init c =
    let self = c.args.self.now in
    let other = c.args.other.now in
    (refl, below_none None (λ (k : ℕ) (o : Option ℕ). MatchedAt (texts other) (texts self) (entries self) (entry_at other k) o) c.args.numbers.now)

pub seek-requires-clause-has_print : goal.seek-requires-clause-has_print
seek-requires-clause-has_print c =
    let other = c.args.other.now in
    printed_at (texts other) c.loop-i.i other.count other.table.now c.loop-i-test.true c.requires.other_printed

pub loop-i-preserved : goal.loop-i-preserved
loop-i-preserved c =
    let self = c.args.self.now in
    let other = c.args.other.now in (
      length-set c.loop-i.numbers c.loop-i.i c.seek.result ∙ c.loop-i.invariant.0,
      below_set None (λ (k : ℕ) (o : Option ℕ). MatchedAt (texts other) (texts self) (entries self) (entry_at other k) o) c.loop-i.i
          c.loop-i.numbers c.seek.result (omega (arith, c.loop-i.invariant.0)) (record {
            fits = subst (λ (n : ℕ). IfSome c.seek.result (λ j. j < n)) (sym (entries_length self.count self.table.now)) c.seek.ensures.bounds;
            is = c.seek.ensures.partner;
          }) c.loop-i.invariant.1,
    )

pub returns : goal.returns
returns c =
    let self = c.args.self.now in
    let other = c.args.other.now in
    by_number other (λ (k : ℕ) (e : Entry). MatchedAt (texts other) (texts self) (entries self) e (get_or c.loop-i.numbers k None))
    (λ k h. c.loop-i.invariant.1 k (omega arith))
