-- A tag that was not marked is that of no name so far; any other is looked for.
use mathlib.Core.Path.{sym, subst}
use Rattle.grammar.specs.Grammar.{curly}
use Rattle.distinct.specs.Inner.Walking.{row_member, rows_from}
use Rattle.distinct.specs.Inner.Filter.{Marked}
use Rattle.distinct.proofs.Windows.{unmarked, marks_stay}
use Rattle.distinct.proofs.window.clashes.Goals as goal

pub returns-then-enter : goal.returns-then-enter
returns-then-enter c =
    record {
      value = c.earlier.ensures;
      marked = (
        (λ k. subst (Marked c.args.size c.enter.new.filter) c.tag_of-v.ensures.0 (c.enter.ensures.kept k)),
        marks_stay c.args.size c.args.s.now c.args.filter.now c.enter.new.filter c.enter.ensures.stays
            (rows_from curly c.args.s.now c.args.done c.args.from.at) c.requires.every,
      );
    }

pub returns : goal.returns
returns c =
    record {
      value = sym (unmarked c.args.size c.args.s.now c.args.filter.now (row_member c.args.row)
          (rows_from curly c.args.s.now c.args.done c.args.from.at)
          (λ k. c.enter.ensures.fresh c.if-enter.false (subst (Marked c.args.size c.args.filter.now) (sym c.tag_of-v.ensures.0) k))
          c.requires.every);
      marked = (
        (λ k. subst (Marked c.args.size c.enter.new.filter) c.tag_of-v.ensures.0 (c.enter.ensures.kept k)),
        marks_stay c.args.size c.args.s.now c.args.filter.now c.enter.new.filter c.enter.ensures.stays
            (rows_from curly c.args.s.now c.args.done c.args.from.at) c.requires.every,
      );
    }
