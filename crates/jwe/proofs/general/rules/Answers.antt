-- `rules` judges one recipient after the other: the refusals from the next one on are those of all, and the first entries of
-- the table stay.
use Prim.Native.Nat.{ℕ, ◌+◌, ◌*◌, ◌≤◌}
use mathlib.Core.Path.{◌≡◌, refl, ap, ap₂, sym, ◌∙◌}
use mathlib.Core.Bool.{true}
use mathlib.Core.List.{List, ◌++◌}
use native.Mathlib.Omega.{arith}
use lib.ListN.{length, drop}
use Rattle.names.specs.Names.{names}
use Rattle.grammar.specs.Places.{Place}
use Rattle.rows.specs.Rows.{Entry, read_texts}
use Rattle.rows.specs.Inner.Prints.{Printed}
use Rattle.rows.specs.Tables.{entries_of, width}
use Rattle.prelude.specs.Refusals.{first, stage_of, as_stage}
use Rattle.jose.specs.declared.Sizes.{Sizes}
use Rattle.jose.specs.HeaderRules.{recipient_order, mode_in}
use Rattle.prelude.proofs.Refusals.{nonzero}
use Rattle.headers.proofs.Stages.{passed_is, refused_is, refuses, passes}
use Rattle.headers.specs.Components.{Components, with_key, sizes_of}
use Rattle.headers.specs.Answers.{components_of}
use Rattle.shape.specs.Shape.{Recipient}
use Rattle.shape.specs.Inner.Answers.{recipient_width}
use Rattle.jwe.specs.General.{own_entries}
use Rattle.jwe.specs.Inner.Stages.{recipient_at, rule_tests}
use Rattle.jwe.proofs.CompactOrder.{rules_nonzero}
use Rattle.jwe.proofs.RecipientRows.{one_passes, one_refuses, all_pass}
use Rattle.jwe.proofs.OwnHeaders.{gathered, gathered_length, gathered_room, gathered_front}
use Rattle.jwe.proofs.OwnHeaders.{gathered_printed, gathered_kept, own_stands}
use Rattle.jwe.proofs.general.rules.Invariants.{tests}
use Rattle.rows.proofs.Printing.{printed_at}
use Rattle.prelude.proofs.Exits.{exit_refused}
use Rattle.jwe.proofs.general.rules.Goals as goal

sound : (known : List (List ℕ)) (header message : List ℕ) (front : List Entry) (q : Components) (r : Recipient) →
    nonzero (tests known header message front q r) ≡ true
sound known header message front q r = rules_nonzero known (read_texts header message) (front ++ own_entries message r) _

pub loop-i-init : goal.loop-i-init
unfolding rule_tests
loop-i-init c =
    (omega arith, (refl, (refl, (c.requires.printed, refl))))

pub gather-count-requires : goal.gather-count-requires
gather-count-requires c =
    let o = c.requires.owned c.loop-i.i c.loop-i-test.true in
    record {
      i_lt_most_recipients = omega (arith, c.requires.number_le_most_recipients);
      own_len = c.requires.own_len;
      counts_len = c.requires.counts_len;
      i_bound = o.few;
      header_table_in_bounds = omega (arith, c.loop-i.invariant.1.0, c.requires.header_table_in_bounds);
    }

pub invariant_of-entries : goal.invariant_of-entries
invariant_of-entries c =
    let copied : (let args = c.args in
    let last = c.gather-count.new.table in
    (entries_of c.gather-count.result last ≡ (entries_of c.args.front c.args.table.now) ++ own_entries args.message.now ((recipient_at (drop (c.loop-i.i * recipient_width) c.args.of.now))))
    × ((c.gather-count.result * width ≤ length last)
    × ((length last ≡ length args.table.now)
    × ((entries_of args.front last ≡ (entries_of c.args.front c.args.table.now))
    × (Printed (read_texts args.header.now args.message.now) c.gather-count.result last
    × Printed (read_texts args.header.now args.message.now) args.front last))))) = (let args = c.args in
    let message = args.message.now in
    let of = args.of.now in
    let o = c.requires.owned c.loop-i.i c.loop-i-test.true in
    let fits : args.front * width + 256 ≤ length c.loop-i.table =
    omega (arith, c.loop-i.invariant.1.0, c.requires.header_table_in_bounds) in
    let own = args.own.now in
    let counts = args.counts.now in
    let same = c.loop-i.invariant.1.1.0 in
    let prints = c.loop-i.invariant.1.1.1.0 in (
      gathered message own counts _ c.loop-i.i args.front _ c.loop-i.table _ o fits c.gather-count.ensures.value c.gather-count.ensures.table_after
          ∙ ap (λ (l : List Entry). l ++ own_entries message ((recipient_at (drop (c.loop-i.i * recipient_width) c.args.of.now)))) same,
      (
        gathered_room message own counts _ c.loop-i.i args.front _ c.loop-i.table _ o fits c.gather-count.ensures.value c.gather-count.ensures.table_after,
        (
          gathered_length message own counts _ c.loop-i.i args.front _ c.loop-i.table _ o fits c.gather-count.ensures.value c.gather-count.ensures.table_after
              ∙ c.loop-i.invariant.1.0,
          (
            gathered_front message own counts _ c.loop-i.i args.front _ c.loop-i.table _ o fits c.gather-count.ensures.value c.gather-count.ensures.table_after
                ∙ same,
            (
              gathered_printed message own counts _ c.loop-i.i args.front _ c.loop-i.table _ o fits c.gather-count.ensures.value c.gather-count.ensures.table_after
                  (read_texts args.header.now message) prints (own_stands message of c.loop-i.i args.header.now),
              gathered_kept message own counts _ c.loop-i.i args.front _ c.loop-i.table _ o fits c.gather-count.ensures.value c.gather-count.ensures.table_after
                  (read_texts args.header.now message) prints,
            ),
          ),
        ),
      ),
    )) in
    let has = copied in
    record { fits = has.1.0 }

pub invariant_of-all : goal.invariant_of-all
invariant_of-all c =
    let copied : (let args = c.args in
    let last = c.gather-count.new.table in
    (entries_of c.gather-count.result last ≡ (entries_of c.args.front c.args.table.now) ++ own_entries args.message.now ((recipient_at (drop (c.loop-i.i * recipient_width) c.args.of.now))))
    × ((c.gather-count.result * width ≤ length last)
    × ((length last ≡ length args.table.now)
    × ((entries_of args.front last ≡ (entries_of c.args.front c.args.table.now))
    × (Printed (read_texts args.header.now args.message.now) c.gather-count.result last
    × Printed (read_texts args.header.now args.message.now) args.front last))))) = (let args = c.args in
    let message = args.message.now in
    let of = args.of.now in
    let o = c.requires.owned c.loop-i.i c.loop-i-test.true in
    let fits : args.front * width + 256 ≤ length c.loop-i.table =
    omega (arith, c.loop-i.invariant.1.0, c.requires.header_table_in_bounds) in
    let own = args.own.now in
    let counts = args.counts.now in
    let same = c.loop-i.invariant.1.1.0 in
    let prints = c.loop-i.invariant.1.1.1.0 in (
      gathered message own counts _ c.loop-i.i args.front _ c.loop-i.table _ o fits c.gather-count.ensures.value c.gather-count.ensures.table_after
          ∙ ap (λ (l : List Entry). l ++ own_entries message ((recipient_at (drop (c.loop-i.i * recipient_width) c.args.of.now)))) same,
      (
        gathered_room message own counts _ c.loop-i.i args.front _ c.loop-i.table _ o fits c.gather-count.ensures.value c.gather-count.ensures.table_after,
        (
          gathered_length message own counts _ c.loop-i.i args.front _ c.loop-i.table _ o fits c.gather-count.ensures.value c.gather-count.ensures.table_after
              ∙ c.loop-i.invariant.1.0,
          (
            gathered_front message own counts _ c.loop-i.i args.front _ c.loop-i.table _ o fits c.gather-count.ensures.value c.gather-count.ensures.table_after
                ∙ same,
            (
              gathered_printed message own counts _ c.loop-i.i args.front _ c.loop-i.table _ o fits c.gather-count.ensures.value c.gather-count.ensures.table_after
                  (read_texts args.header.now message) prints (own_stands message of c.loop-i.i args.header.now),
              gathered_kept message own counts _ c.loop-i.i args.front _ c.loop-i.table _ o fits c.gather-count.ensures.value c.gather-count.ensures.table_after
                  (read_texts args.header.now message) prints,
            ),
          ),
        ),
      ),
    )) in
    let has = copied in
    record { printed = λ i below. printed_at _ i _ _ below has.1.1.1.1.0 }

pub shape_of-table-in_err-judge : goal.shape_of-table-in_err-judge
shape_of-table-in_err-judge c =
    let copied : (let args = c.args in
    let last = c.gather-count.new.table in
    (entries_of c.gather-count.result last ≡ (entries_of c.args.front c.args.table.now) ++ own_entries args.message.now ((recipient_at (drop (c.loop-i.i * recipient_width) c.args.of.now))))
    × ((c.gather-count.result * width ≤ length last)
    × ((length last ≡ length args.table.now)
    × ((entries_of args.front last ≡ (entries_of c.args.front c.args.table.now))
    × (Printed (read_texts args.header.now args.message.now) c.gather-count.result last
    × Printed (read_texts args.header.now args.message.now) args.front last))))) = (let args = c.args in
    let message = args.message.now in
    let of = args.of.now in
    let o = c.requires.owned c.loop-i.i c.loop-i-test.true in
    let fits : args.front * width + 256 ≤ length c.loop-i.table =
    omega (arith, c.loop-i.invariant.1.0, c.requires.header_table_in_bounds) in
    let own = args.own.now in
    let counts = args.counts.now in
    let same = c.loop-i.invariant.1.1.0 in
    let prints = c.loop-i.invariant.1.1.1.0 in (
      gathered message own counts _ c.loop-i.i args.front _ c.loop-i.table _ o fits c.gather-count.ensures.value c.gather-count.ensures.table_after
          ∙ ap (λ (l : List Entry). l ++ own_entries message ((recipient_at (drop (c.loop-i.i * recipient_width) c.args.of.now)))) same,
      (
        gathered_room message own counts _ c.loop-i.i args.front _ c.loop-i.table _ o fits c.gather-count.ensures.value c.gather-count.ensures.table_after,
        (
          gathered_length message own counts _ c.loop-i.i args.front _ c.loop-i.table _ o fits c.gather-count.ensures.value c.gather-count.ensures.table_after
              ∙ c.loop-i.invariant.1.0,
          (
            gathered_front message own counts _ c.loop-i.i args.front _ c.loop-i.table _ o fits c.gather-count.ensures.value c.gather-count.ensures.table_after
                ∙ same,
            (
              gathered_printed message own counts _ c.loop-i.i args.front _ c.loop-i.table _ o fits c.gather-count.ensures.value c.gather-count.ensures.table_after
                  (read_texts args.header.now message) prints (own_stands message of c.loop-i.i args.header.now),
              gathered_kept message own counts _ c.loop-i.i args.front _ c.loop-i.table _ o fits c.gather-count.ensures.value c.gather-count.ensures.table_after
                  (read_texts args.header.now message) prints,
            ),
          ),
        ),
      ),
    )) in
    (copied).1.1.0

pub returns-in_err-judge : goal.returns-in_err-judge
returns-in_err-judge c =
    let copied : (let args = c.args in
    let last = c.gather-count.new.table in
    (entries_of c.gather-count.result last ≡ (entries_of c.args.front c.args.table.now) ++ own_entries args.message.now ((recipient_at (drop (c.loop-i.i * recipient_width) c.args.of.now))))
    × ((c.gather-count.result * width ≤ length last)
    × ((length last ≡ length args.table.now)
    × ((entries_of args.front last ≡ (entries_of c.args.front c.args.table.now))
    × (Printed (read_texts args.header.now args.message.now) c.gather-count.result last
    × Printed (read_texts args.header.now args.message.now) args.front last))))) = (let args = c.args in
    let message = args.message.now in
    let of = args.of.now in
    let o = c.requires.owned c.loop-i.i c.loop-i-test.true in
    let fits : args.front * width + 256 ≤ length c.loop-i.table =
    omega (arith, c.loop-i.invariant.1.0, c.requires.header_table_in_bounds) in
    let own = args.own.now in
    let counts = args.counts.now in
    let same = c.loop-i.invariant.1.1.0 in
    let prints = c.loop-i.invariant.1.1.1.0 in (
      gathered message own counts _ c.loop-i.i args.front _ c.loop-i.table _ o fits c.gather-count.ensures.value c.gather-count.ensures.table_after
          ∙ ap (λ (l : List Entry). l ++ own_entries message ((recipient_at (drop (c.loop-i.i * recipient_width) c.args.of.now)))) same,
      (
        gathered_room message own counts _ c.loop-i.i args.front _ c.loop-i.table _ o fits c.gather-count.ensures.value c.gather-count.ensures.table_after,
        (
          gathered_length message own counts _ c.loop-i.i args.front _ c.loop-i.table _ o fits c.gather-count.ensures.value c.gather-count.ensures.table_after
              ∙ c.loop-i.invariant.1.0,
          (
            gathered_front message own counts _ c.loop-i.i args.front _ c.loop-i.table _ o fits c.gather-count.ensures.value c.gather-count.ensures.table_after
                ∙ same,
            (
              gathered_printed message own counts _ c.loop-i.i args.front _ c.loop-i.table _ o fits c.gather-count.ensures.value c.gather-count.ensures.table_after
                  (read_texts args.header.now message) prints (own_stands message of c.loop-i.i args.header.now),
              gathered_kept message own counts _ c.loop-i.i args.front _ c.loop-i.table _ o fits c.gather-count.ensures.value c.gather-count.ensures.table_after
                  (read_texts args.header.now message) prints,
            ),
          ),
        ),
      ),
    )) in
    let answered : (let args = c.args in
    (as_stage c.judge.result)
    ≡ stage_of (first ((let args = c.args in
    tests (names args.known.now) args.header.now args.message.now ((entries_of c.args.front c.args.table.now)) (components_of args.q)) ((recipient_at (drop (c.loop-i.i * recipient_width) c.args.of.now)))))
    (mode_in (read_texts args.header.now args.message.now)
    (entries_of c.gather-count.result c.gather-count.new.table))) = (let args = c.args in
    let known = names args.known.now in
    let ts = read_texts args.header.now args.message.now in
    let mode = mode_in ts (entries_of c.gather-count.result c.gather-count.new.table) in
    c.judge.ensures
    ∙ ap₂ (λ (ps : List Entry) (z : Sizes). stage_of (first (recipient_order known ts ps z)) mode)
    (copied).0
    (c.sizes-sizes.ensures
    ∙ ap sizes_of c.with_key.ensures
    ∙ ap (λ (k : Place). sizes_of (with_key (components_of args.q) k)) c.key.ensures)) in
    let never-0 : (r : Recipient) → nonzero ((let args = c.args in
    tests (names args.known.now) args.header.now args.message.now ((entries_of c.args.front c.args.table.now)) (components_of args.q)) r) ≡ true = (let args = c.args in
    sound (names args.known.now) args.header.now args.message.now ((entries_of c.args.front c.args.table.now)) (components_of args.q)) in
    let args = c.args in
    let refusal = (ap as_stage c.in_err-judge.was) in
    let told = refused_is _ (first ((let args = c.args in
    tests (names args.known.now) args.header.now args.message.now ((entries_of c.args.front c.args.table.now)) (components_of args.q)) ((recipient_at (drop (c.loop-i.i * recipient_width) c.args.of.now))))) _ (sym refusal ∙ answered) in
    let all = one_refuses ((let args = c.args in
    tests (names args.known.now) args.header.now args.message.now ((entries_of c.args.front c.args.table.now)) (components_of args.q))) (never-0) _ args.number c.loop-i.i
    args.of.now c.loop-i.invariant.1.1.1.1 c.loop-i-test.true told.0 told.1 in
    record {
      value = exit_refused _ _ c.from_residual.ensures.1 ∙ refuses args.number told.1 ∙ ap (λ (n : ℕ). stage_of n args.number) (sym all);
      keeps_front = record { entries = (copied).1.1.1.0; printed = (copied).1.1.1.1.1 };
    }

pub overflow_add-i : goal.overflow_add-i
overflow_add-i c =
    omega (arith, c.loop-i-test.true, c.requires.number_le_most_recipients)

pub loop-i-preserved : goal.loop-i-preserved
loop-i-preserved c =
    let copied : (let args = c.args in
    let last = c.gather-count.new.table in
    (entries_of c.gather-count.result last ≡ (entries_of c.args.front c.args.table.now) ++ own_entries args.message.now ((recipient_at (drop (c.loop-i.i * recipient_width) c.args.of.now))))
    × ((c.gather-count.result * width ≤ length last)
    × ((length last ≡ length args.table.now)
    × ((entries_of args.front last ≡ (entries_of c.args.front c.args.table.now))
    × (Printed (read_texts args.header.now args.message.now) c.gather-count.result last
    × Printed (read_texts args.header.now args.message.now) args.front last))))) = (let args = c.args in
    let message = args.message.now in
    let of = args.of.now in
    let o = c.requires.owned c.loop-i.i c.loop-i-test.true in
    let fits : args.front * width + 256 ≤ length c.loop-i.table =
    omega (arith, c.loop-i.invariant.1.0, c.requires.header_table_in_bounds) in
    let own = args.own.now in
    let counts = args.counts.now in
    let same = c.loop-i.invariant.1.1.0 in
    let prints = c.loop-i.invariant.1.1.1.0 in (
      gathered message own counts _ c.loop-i.i args.front _ c.loop-i.table _ o fits c.gather-count.ensures.value c.gather-count.ensures.table_after
          ∙ ap (λ (l : List Entry). l ++ own_entries message ((recipient_at (drop (c.loop-i.i * recipient_width) c.args.of.now)))) same,
      (
        gathered_room message own counts _ c.loop-i.i args.front _ c.loop-i.table _ o fits c.gather-count.ensures.value c.gather-count.ensures.table_after,
        (
          gathered_length message own counts _ c.loop-i.i args.front _ c.loop-i.table _ o fits c.gather-count.ensures.value c.gather-count.ensures.table_after
              ∙ c.loop-i.invariant.1.0,
          (
            gathered_front message own counts _ c.loop-i.i args.front _ c.loop-i.table _ o fits c.gather-count.ensures.value c.gather-count.ensures.table_after
                ∙ same,
            (
              gathered_printed message own counts _ c.loop-i.i args.front _ c.loop-i.table _ o fits c.gather-count.ensures.value c.gather-count.ensures.table_after
                  (read_texts args.header.now message) prints (own_stands message of c.loop-i.i args.header.now),
              gathered_kept message own counts _ c.loop-i.i args.front _ c.loop-i.table _ o fits c.gather-count.ensures.value c.gather-count.ensures.table_after
                  (read_texts args.header.now message) prints,
            ),
          ),
        ),
      ),
    )) in
    let answered : (let args = c.args in
    (as_stage c.judge.result)
    ≡ stage_of (first ((let args = c.args in
    tests (names args.known.now) args.header.now args.message.now ((entries_of c.args.front c.args.table.now)) (components_of args.q)) ((recipient_at (drop (c.loop-i.i * recipient_width) c.args.of.now)))))
    (mode_in (read_texts args.header.now args.message.now)
    (entries_of c.gather-count.result c.gather-count.new.table))) = (let args = c.args in
    let known = names args.known.now in
    let ts = read_texts args.header.now args.message.now in
    let mode = mode_in ts (entries_of c.gather-count.result c.gather-count.new.table) in
    c.judge.ensures
    ∙ ap₂ (λ (ps : List Entry) (z : Sizes). stage_of (first (recipient_order known ts ps z)) mode)
    (copied).0
    (c.sizes-sizes.ensures
    ∙ ap sizes_of c.with_key.ensures
    ∙ ap (λ (k : Place). sizes_of (with_key (components_of args.q) k)) c.key.ensures)) in
    let never-0 : (r : Recipient) → nonzero ((let args = c.args in
    tests (names args.known.now) args.header.now args.message.now ((entries_of c.args.front c.args.table.now)) (components_of args.q)) r) ≡ true = (let args = c.args in
    sound (names args.known.now) args.header.now args.message.now ((entries_of c.args.front c.args.table.now)) (components_of args.q)) in
    let args = c.args in
    let has = copied in
    let passed = (passed_is _ (first ((let args = c.args in
    tests (names args.known.now) args.header.now args.message.now ((entries_of c.args.front c.args.table.now)) (components_of args.q)) ((recipient_at (drop (c.loop-i.i * recipient_width) c.args.of.now))))) _
    (sym (ap as_stage c.in_ok-judge.was) ∙ answered)).0 in (
      omega arith,
      (
        has.1.1.0,
        (
          has.1.1.1.0,
          (
            has.1.1.1.1.1,
            one_passes ((let args = c.args in
                tests (names args.known.now) args.header.now args.message.now ((entries_of c.args.front c.args.table.now)) (components_of args.q))) (never-0) _ args.number c.loop-i.i
                args.of.now c.loop-i.invariant.1.1.1.1 c.loop-i-test.true passed,
          ),
        ),
      ),
    )

pub shape_of-table : goal.shape_of-table
shape_of-table c = c.loop-i.invariant.1.0

pub returns : goal.returns
returns c =
    let never-0 : (r : Recipient) → nonzero ((let args = c.args in
    tests (names args.known.now) args.header.now args.message.now ((entries_of c.args.front c.args.table.now)) (components_of args.q)) r) ≡ true = (let args = c.args in
    sound (names args.known.now) args.header.now args.message.now ((entries_of c.args.front c.args.table.now)) (components_of args.q)) in
    let args = c.args in
    let all = all_pass ((let args = c.args in
    tests (names args.known.now) args.header.now args.message.now ((entries_of c.args.front c.args.table.now)) (components_of args.q))) (never-0) _ args.number c.loop-i.i
    args.of.now c.loop-i.invariant.1.1.1.1 c.loop-i-test.false in
    record {
      value = passes all;
      keeps_front = record { entries = c.loop-i.invariant.1.1.0; printed = c.loop-i.invariant.1.1.1.0 };
    }
