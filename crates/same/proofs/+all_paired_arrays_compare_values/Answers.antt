-- Values, arrays and objects: what remains to be compared from here is what the whole compares. The levels fall from an
-- object or an array to what stands in it.
use mathlib.Core.Path.{refl, ap, ap₂, sym, subst, ◌∙◌}
use Prim.Native.Nat.{◌-◌}
use native.Mathlib.Omega.{arith}
use Rattle.grammar.specs.Grammar.{curly, square}
use Rattle.grammar.specs.Reader.{members_at}
use Rattle.grammar.specs.Spellings.{alike}
use Rattle.json_read.specs.Inner.Rows.{rows_left, elements_left}
use Rattle.distinct.specs.Inner.Walking.{row_member}
use Rattle.pairs.specs.Inner.Walks.{Stepped}
use Rattle.pairs.proofs.Tables.{going_kept, kept_front}
use Rattle.same.specs.Same.{depth, all, same_elements, has_pair, same_at, inner_at}
use Rattle.same.specs.Inner.Walking.{element_of, Reads}
use Rattle.same.proofs.Rows.{none_is, elements_read, reads_in, among_reads, all_read, first_reads}
use Rattle.same.proofs.Choices as choices
use Rattle.same.proofs.Partners.{lone, by_values, all_end, all_lone, all_on}
use Rattle.same.proofs.+all_paired_arrays_compare_values.Goals as goal

-- all_paired: along the left members
pub all_paired-loop-a-init : goal.all_paired-loop-a-init
all_paired-loop-a-init t c =
    let s = c.args.s.now in
    let t = c.args.t.now in (
      ap (all (has_pair (inner_at c.args.levels s t) s t (members_at depth t c.args.j))) c.start-walk.ensures.all,
      (c.start-walk.ensures.going c.args.work.now, all_read s c.args.i _ c.start-walk.ensures.all),
    )

pub all_paired-next-step-requires-clause-going : goal.all_paired-next-step-requires-clause-going
all_paired-next-step-requires-clause-going t c = c.loop-a.invariant.1.0

pub all_paired-returns-in-End : goal.all_paired-returns-in-End
all_paired-returns-in-End t c =
    all_end c.args.levels c.args.s.now c.args.t.now c.args.j _ _ c.loop-a.invariant.0
    (subst (Stepped c.args.s.now c.args.t.now c.args.j c.room-size.result c.next-step.new.work c.loop-a.walk) c.in-End.is c.next-step.ensures)

pub all_paired-returns-in-Lone : goal.all_paired-returns-in-Lone
all_paired-returns-in-Lone t c =
    let no =
    subst (Stepped c.args.s.now c.args.t.now c.args.j c.room-size.result c.next-step.new.work c.loop-a.walk) c.in-Lone.is c.next-step.ensures in
    all_lone c.args.levels c.args.s.now c.args.t.now c.args.j _ _ c.loop-a.invariant.0 no.one no.others no.rows
    (lone c.args.levels c.args.s.now c.args.t.now c.args.j no.one no.none)

pub all_paired-values-requires : goal.all_paired-values-requires
all_paired-values-requires t c =
    let one =
    subst (Stepped c.args.s.now c.args.t.now c.args.j c.room-size.result c.next-step.new.work c.loop-a.walk) c.in-Pair.is c.next-step.ensures in (
      omega (arith, c.decreases),
      (
        (first_reads c.args.s.now _ _ _ one.rows c.loop-a.invariant.1.1).0,
        (
          among_reads c.args.t.now c.args.j one.partner.before _ one.partner.behind one.partner.among,
          omega (arith, c.room-size.ensures, c.next-step.auto.work, c.loop-a.auto.work),
        ),
      ),
    )

pub all_paired-returns-then-not-values : goal.all_paired-returns-then-not-values
all_paired-returns-then-not-values t c =
    let one =
    subst (Stepped c.args.s.now c.args.t.now c.args.j c.room-size.result c.next-step.new.work c.loop-a.walk) c.in-Pair.is c.next-step.ensures in
    all_lone c.args.levels c.args.s.now c.args.t.now c.args.j _ _ c.loop-a.invariant.0 _ _ one.rows
    (by_values c.args.levels c.args.s.now c.args.t.now c.args.j _ _ _ one.partner c.requires.j_value
    ∙ sym c.values.ensures.value ∙ c.if-not-values.true)

pub all_paired-loop-a-smaller : goal.all_paired-loop-a-smaller
all_paired-loop-a-smaller t c =
    let one =
    subst (Stepped c.args.s.now c.args.t.now c.args.j c.room-size.result c.next-step.new.work c.loop-a.walk) c.in-Pair.is c.next-step.ensures in one.falls

pub all_paired-loop-a-preserved : goal.all_paired-loop-a-preserved
all_paired-loop-a-preserved t c =
    let one =
    subst (Stepped c.args.s.now c.args.t.now c.args.j c.room-size.result c.next-step.new.work c.loop-a.walk) c.in-Pair.is c.next-step.ensures in (
      all_on c.args.levels c.args.s.now c.args.t.now c.args.j _ _ c.loop-a.invariant.0 _ _ one.rows
          (by_values c.args.levels c.args.s.now c.args.t.now c.args.j _ _ _ one.partner c.requires.j_value
          ∙ sym c.values.ensures.value ∙ c.if-not-values.false),
      (
        going_kept c.args.s.now c.args.t.now c.args.j c.room-size.result c.next-step.new.work c.values.new.work _
            c.values.ensures.kept one.going,
        (first_reads c.args.s.now _ _ _ one.rows c.loop-a.invariant.1.1).1,
      ),
    )

-- arrays: along both
pub arrays-loop-a-init : goal.arrays-loop-a-init
arrays-loop-a-init t c =
    let s = c.args.s.now in
    let t = c.args.t.now in
    let it = c.into_iter-a-iterator.ensures.into_iter_gives in
    record {
      same =
          ap₂ (same_elements (inner_at c.args.levels s t)) (ap elements_left it ∙ c.elements-a-items.ensures.elements)
          c.elements-others.ensures.elements;
      left = elements_read s c.args.i _ (ap rows_left it ∙ c.elements-a-items.ensures.rows);
      right = elements_read t c.args.j _ c.elements-others.ensures.rows;
    }

pub arrays-returns-in_default : goal.arrays-returns-in_default
arrays-returns-in_default t c =
    let so = c.loop-a.invariant in
    choices.order_short (inner_at c.args.levels c.args.s.now c.args.t.now) (rows_left c.loop-a.a-iterator) (rows_left c.loop-a.others)
    (row_member c.in-Some.a) (rows_left c.next.new.self) c.in-Some.ensures.steps c.in_default.ensures.steps.0 ∙ so.same

pub arrays-returns-then-levels-eq0 : goal.arrays-returns-then-levels-eq0
arrays-returns-then-levels-eq0 t c =
    choices.order_differs (inner_at c.args.levels c.args.s.now c.args.t.now) (rows_left c.loop-a.a-iterator) (rows_left c.loop-a.others)
    (row_member c.in-Some.a) (rows_left c.next.new.self) c.in-Some.ensures.steps (row_member c.in-Some-next.b) (rows_left c.next-in-loop-a.new.self)
    c.in-Some-next.ensures.steps
    (choices.inner_none c.args.levels c.args.s.now c.args.t.now _ _ c.if-levels-eq0.true) ∙ c.loop-a.invariant.same

pub arrays-compare-requires : goal.arrays-compare-requires
arrays-compare-requires t c =
    let so = c.loop-a.invariant in (
      omega (arith, c.decreases, c.if-levels-eq0.false),
      (
        subst (λ v. Reads c.args.s.now (element_of v)) (sym c.value_of.ensures)
            (first_reads c.args.s.now (rows_left c.loop-a.a-iterator) _ _ c.in-Some.ensures.steps so.left).0,
        subst (λ v. Reads c.args.t.now (element_of v)) (sym c.value_of-in-loop-a.ensures)
            (first_reads c.args.t.now (rows_left c.loop-a.others) _ _ c.in-Some-next.ensures.steps so.right).0,
      ),
    )

pub arrays-returns-then-not-compare : goal.arrays-returns-then-not-compare
arrays-returns-then-not-compare t c =
    choices.order_differs (inner_at c.args.levels c.args.s.now c.args.t.now) (rows_left c.loop-a.a-iterator) (rows_left c.loop-a.others)
    (row_member c.in-Some.a) (rows_left c.next.new.self) c.in-Some.ensures.steps (row_member c.in-Some-next.b) (rows_left c.next-in-loop-a.new.self)
    c.in-Some-next.ensures.steps
    (choices.inner_less c.args.levels c.args.s.now c.args.t.now _ _ c.if-levels-eq0.false
    ∙ sym (ap₂ (λ v w. same_at (c.args.levels - 1) c.args.s.now c.args.t.now (element_of v) (element_of w))
    c.value_of.ensures c.value_of-in-loop-a.ensures)
    ∙ sym c.compare.ensures ∙ c.if-not-compare.true) ∙ c.loop-a.invariant.same

pub arrays-loop-a-preserved : goal.arrays-loop-a-preserved
arrays-loop-a-preserved t c =
    let so = c.loop-a.invariant in
    record {
      same =
          choices.order_on (inner_at c.args.levels c.args.s.now c.args.t.now) (rows_left c.loop-a.a-iterator) (rows_left c.loop-a.others)
          (row_member c.in-Some.a) (rows_left c.next.new.self) c.in-Some.ensures.steps (row_member c.in-Some-next.b) (rows_left c.next-in-loop-a.new.self)
          c.in-Some-next.ensures.steps
          (choices.inner_less c.args.levels c.args.s.now c.args.t.now _ _ c.if-levels-eq0.false
          ∙ sym (ap₂ (λ v w. same_at (c.args.levels - 1) c.args.s.now c.args.t.now (element_of v) (element_of w))
          c.value_of.ensures c.value_of-in-loop-a.ensures)
          ∙ sym c.compare.ensures ∙ c.if-not-compare.false) ∙ so.same;
      left = (first_reads c.args.s.now (rows_left c.loop-a.a-iterator) _ _ c.in-Some.ensures.steps so.left).1;
      right = (first_reads c.args.t.now (rows_left c.loop-a.others) _ _ c.in-Some-next.ensures.steps so.right).1;
    }

pub arrays-returns : goal.arrays-returns
arrays-returns t c =
    let so = c.loop-a.invariant in
    none_is c.loop-a.others c.next-2.new.self c.next-2.result c.is_none.result c.is_none.ensures c.next-2.ensures.steps
    ∙ choices.order_end (inner_at c.args.levels c.args.s.now c.args.t.now) (rows_left c.loop-a.a-iterator) (rows_left c.loop-a.others)
    c.in-None.ensures.steps.0
    ∙ so.same

-- compare: by the octets, then by the kind
pub compare-returns-then-same_octets : goal.compare-returns-then-same_octets
compare-returns-then-same_octets t c =
    choices.octets_same c.args.levels c.args.s.now c.args.t.now (element_of c.args.a) (element_of c.args.b) (sym c.same_octets.ensures ∙ c.if-same_octets.true)

pub compare-returns-then-a-b : goal.compare-returns-then-a-b
compare-returns-then-a-b t c =
    choices.kinds_differ c.args.levels c.args.s.now c.args.t.now (element_of c.args.a) (element_of c.args.b) (sym c.same_octets.ensures ∙ c.if-same_octets.false) c.if-a-b.true

pub compare-comparable-requires-clause-known_in : goal.compare-comparable-requires-clause-known_in
compare-comparable-requires-clause-known_in t c = reads_in curly c.args.s.now (element_of c.args.a) c.if-a-eq0.true c.requires.reads

pub compare-comparable-requires-clause-known_in_2 : goal.compare-comparable-requires-clause-known_in_2
compare-comparable-requires-clause-known_in_2 t c =
    reads_in curly c.args.t.now (element_of c.args.b) (sym c.if-a-b.false ∙ c.if-a-eq0.true) c.requires.reads_2

pub compare-returns-then-not-comparable : goal.compare-returns-then-not-comparable
compare-returns-then-not-comparable t c =
    choices.objects_not (inner_at c.args.levels c.args.s.now c.args.t.now) c.args.s.now c.args.t.now (members_at depth c.args.s.now c.args.a.start) (members_at depth c.args.t.now c.args.b.start)
    (sym c.comparable.ensures ∙ c.if-not-comparable.true)
    ∙ choices.of_objects c.args.levels c.args.s.now c.args.t.now (element_of c.args.a) (element_of c.args.b) (sym c.same_octets.ensures ∙ c.if-same_octets.false) c.if-a-b.false c.if-a-eq0.true

pub compare-all_paired-requires : goal.compare-all_paired-requires
compare-all_paired-requires t c = (
  omega (arith, c.decreases),
  (
    reads_in curly c.args.s.now (element_of c.args.a) c.if-a-eq0.true c.requires.reads,
    (
      reads_in curly c.args.t.now (element_of c.args.b) (sym c.if-a-b.false ∙ c.if-a-eq0.true) c.requires.reads_2,
      choices.able_right (inner_at c.args.levels c.args.s.now c.args.t.now) c.args.s.now c.args.t.now (members_at depth c.args.s.now c.args.a.start) (members_at depth c.args.t.now c.args.b.start)
          (sym c.comparable.ensures ∙ c.if-not-comparable.false),
    ),
  ),
)

pub compare-returns-then-a-eq0 : goal.compare-returns-then-a-eq0
compare-returns-then-a-eq0 t c =
    c.all_paired.ensures
    ∙ choices.objects_able (inner_at c.args.levels c.args.s.now c.args.t.now) c.args.s.now c.args.t.now (members_at depth c.args.s.now c.args.a.start) (members_at depth c.args.t.now c.args.b.start)
    (sym c.comparable.ensures ∙ c.if-not-comparable.false)
    ∙ choices.of_objects c.args.levels c.args.s.now c.args.t.now (element_of c.args.a) (element_of c.args.b) (sym c.same_octets.ensures ∙ c.if-same_octets.false) c.if-a-b.false c.if-a-eq0.true

pub compare-arrays-requires : goal.compare-arrays-requires
compare-arrays-requires t c = (
  omega (arith, c.decreases),
  (
    reads_in square c.args.s.now (element_of c.args.a) c.if-a-eq1.true c.requires.reads,
    reads_in square c.args.t.now (element_of c.args.b) (sym c.if-a-b.false ∙ c.if-a-eq1.true) c.requires.reads_2,
  ),
)

pub compare-returns-then-a-eq1 : goal.compare-returns-then-a-eq1
compare-returns-then-a-eq1 t c =
    c.arrays.ensures ∙ choices.of_arrays c.args.levels c.args.s.now c.args.t.now (element_of c.args.a) (element_of c.args.b) (sym c.same_octets.ensures ∙ c.if-same_octets.false) c.if-a-b.false c.if-a-eq1.true

pub compare-returns-then-a-eq2 : goal.compare-returns-then-a-eq2
compare-returns-then-a-eq2 t c =
    c.alike.ensures ∙ ap₂ alike c.spelled.ensures c.spelled-then-a-eq2.ensures
    ∙ choices.of_strings c.args.levels c.args.s.now c.args.t.now (element_of c.args.a) (element_of c.args.b) (sym c.same_octets.ensures ∙ c.if-same_octets.false) c.if-a-b.false c.if-a-eq2.true

pub compare-returns : goal.compare-returns
compare-returns t c =
    choices.of_others c.args.levels c.args.s.now c.args.t.now (element_of c.args.a) (element_of c.args.b) (sym c.same_octets.ensures ∙ c.if-same_octets.false) c.if-a-b.false c.if-a-eq0.false c.if-a-eq1.false c.if-a-eq2.false

-- values: one level less
pub values-returns-then-levels-eq0 : goal.values-returns-then-levels-eq0
values-returns-then-levels-eq0 t c =
    record {
      value = sym (choices.inner_none c.args.levels c.args.s.now c.args.t.now _ _ c.if-levels-eq0.true);
      kept = λ k h. refl;
    }

pub values-compare-requires : goal.values-compare-requires
values-compare-requires t c = (
  omega (arith, c.decreases, c.if-levels-eq0.false),
  (
    subst (λ v. Reads c.args.s.now (element_of v)) (sym c.value_of.ensures) c.requires.reads,
    subst (λ v. Reads c.args.t.now (element_of v)) (sym c.value_of-2.ensures) c.requires.reads_2,
  ),
)

pub values-returns : goal.values-returns
values-returns t c =
    record {
      value = c.compare.ensures
          ∙ ap₂ (λ v w. same_at (c.args.levels - 1) c.args.s.now c.args.t.now (element_of v) (element_of w))
          c.value_of.ensures c.value_of-2.ensures
          ∙ sym (choices.inner_less c.args.levels c.args.s.now c.args.t.now _ _ c.if-levels-eq0.false);
      kept = kept_front c.args.size c.args.work.now _ c.requires.size_in_bounds;
    }
