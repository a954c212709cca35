-- `ruled` hands up the refusal of the rules; where all recipients pass, 21 is asked of the own headers, unless one that all share has
-- `enc`.
use mathlib.Core.Path.{◌≡◌, ap, sym, ◌∙◌}
use mathlib.Core.Bool.{Bool, cond}
use Prim.Native.Nat.{ℕ}
use native.Mathlib.Omega.{arith}
use Rattle.names.specs.Names.{names}
use Rattle.rows.specs.Rows.{present}
use Rattle.rows.specs.Tables.{entries_of}
use Rattle.prelude.specs.Refusals.{first, stage_of, as_stage}
use Rattle.prelude.specs.Refusals.{Passed}
use Rattle.jose.specs.Registered.{enc}
use Rattle.headers.specs.Answers.{components_of}
use Rattle.headers.proofs.Stages.{passed_is, refused_is, refuses, passes}
use Rattle.jwe.specs.Inner.Stages.{recipients_of, rule_tests, ruled_tests}
use Rattle.jwe.proofs.Contents.{rules_refuse, shared_passes, own_decides}
use Rattle.prelude.proofs.Exits.{exit_refused}
use Rattle.jwe.proofs.general.ruled.Goals as goal

pub returns-in_err-rules : goal.returns-in_err-rules
returns-in_err-rules c =
    let args = c.args in
    let refusal = (ap as_stage c.in_err-rules.was) in
    let told = refused_is _
    (first (rule_tests (names args.known.now) args.header.now args.message.now ((entries_of c.args.front c.args.table.now)) (components_of args.q) ((recipients_of c.args.number c.args.of.now))))
    args.number (sym refusal ∙ c.rules.ensures.value) in
    let all = rules_refuse (names args.known.now) args.header.now args.message.now ((entries_of c.args.front c.args.table.now))
    (components_of args.q) ((recipients_of c.args.number c.args.of.now)) told.0 told.1 in
    record {
      value = exit_refused _ _ c.from_residual.ensures.1 ∙ refuses args.number told.1 ∙ ap (λ (n : ℕ). stage_of n args.number) (sym all);
      keeps_front = c.rules.ensures.keeps_front;
    }

pub returns-then-present : goal.returns-then-present
returns-then-present c =
    let passed : (n : ℕ) → (as_stage c.rules.result) ≡ Passed n →
    let args = c.args in
    first (rule_tests (names args.known.now) args.header.now args.message.now ((entries_of c.args.front c.args.table.now)) (components_of args.q) ((recipients_of c.args.number c.args.of.now))) ≡ 0 = (λ n told. let args = c.args in
    (passed_is _
    (first (rule_tests (names args.known.now) args.header.now args.message.now ((entries_of c.args.front c.args.table.now)) (components_of args.q) ((recipients_of c.args.number c.args.of.now))))
    args.number (sym told ∙ c.rules.ensures.value)).0) in
    let asked : present enc ((entries_of c.args.front c.args.table.now)) ≡ c.present.result = ap (present enc) (sym c.rules.ensures.keeps_front.entries) ∙ sym c.present.ensures in
    let args = c.args in
    record {
      value = passes (shared_passes (names args.known.now) args.header.now args.message.now ((entries_of c.args.front c.args.table.now)) (components_of args.q)
          ((recipients_of c.args.number c.args.of.now)) (passed _ (ap as_stage c.in_ok-rules.was)) (asked ∙ c.if-present.true));
      keeps_front = c.rules.ensures.keeps_front;
    }

pub contents_differ-requires : goal.contents_differ-requires
contents_differ-requires c =
    record {
      number_le_most_recipients = c.requires.number_le_most_recipients;
      own_len = c.requires.own_len;
      counts_len = c.requires.counts_len;
      by_index = λ k below. (c.requires.owned k below).few;
    }

pub returns-then-contents_differ : goal.returns-then-contents_differ
returns-then-contents_differ c =
    let passed : (n : ℕ) → (as_stage c.rules.result) ≡ Passed n →
    let args = c.args in
    first (rule_tests (names args.known.now) args.header.now args.message.now ((entries_of c.args.front c.args.table.now)) (components_of args.q) ((recipients_of c.args.number c.args.of.now))) ≡ 0 = (λ n told. let args = c.args in
    (passed_is _
    (first (rule_tests (names args.known.now) args.header.now args.message.now ((entries_of c.args.front c.args.table.now)) (components_of args.q) ((recipients_of c.args.number c.args.of.now))))
    args.number (sym told ∙ c.rules.ensures.value)).0) in
    let asked : present enc ((entries_of c.args.front c.args.table.now)) ≡ c.present.result = ap (present enc) (sym c.rules.ensures.keeps_front.entries) ∙ sym c.present.ensures in
    let decided : (let args = c.args in
    first (ruled_tests (names args.known.now) args.header.now args.message.now ((entries_of c.args.front c.args.table.now)) (components_of args.q) ((recipients_of c.args.number c.args.of.now)))
    ≡ cond c.contents_differ.result 21 0) = (let args = c.args in
    own_decides (names args.known.now) args.header.now args.message.now args.of.now args.own.now
    args.counts.now args.number c.requires.owned ((entries_of c.args.front c.args.table.now))
    (components_of args.q) (passed _ (ap as_stage c.in_ok-rules.was))
    (asked ∙ c.if-present.false) (sym c.contents_differ.ensures)) in
    let args = c.args in
    let all = decided ∙ ap (λ (b : Bool). cond {A = ℕ} b 21 0) c.if-contents_differ.true in
    record {
      value = refuses args.number (omega arith) ∙ ap (λ (n : ℕ). stage_of n args.number) (sym all);
      keeps_front = c.rules.ensures.keeps_front;
    }

pub returns : goal.returns
returns c =
    let passed : (n : ℕ) → (as_stage c.rules.result) ≡ Passed n →
    let args = c.args in
    first (rule_tests (names args.known.now) args.header.now args.message.now ((entries_of c.args.front c.args.table.now)) (components_of args.q) ((recipients_of c.args.number c.args.of.now))) ≡ 0 = (λ n told. let args = c.args in
    (passed_is _
    (first (rule_tests (names args.known.now) args.header.now args.message.now ((entries_of c.args.front c.args.table.now)) (components_of args.q) ((recipients_of c.args.number c.args.of.now))))
    args.number (sym told ∙ c.rules.ensures.value)).0) in
    let asked : present enc ((entries_of c.args.front c.args.table.now)) ≡ c.present.result = ap (present enc) (sym c.rules.ensures.keeps_front.entries) ∙ sym c.present.ensures in
    let decided : (let args = c.args in
    first (ruled_tests (names args.known.now) args.header.now args.message.now ((entries_of c.args.front c.args.table.now)) (components_of args.q) ((recipients_of c.args.number c.args.of.now)))
    ≡ cond c.contents_differ.result 21 0) = (let args = c.args in
    own_decides (names args.known.now) args.header.now args.message.now args.of.now args.own.now
    args.counts.now args.number c.requires.owned ((entries_of c.args.front c.args.table.now))
    (components_of args.q) (passed _ (ap as_stage c.in_ok-rules.was))
    (asked ∙ c.if-present.false) (sym c.contents_differ.ensures)) in
    let all = decided ∙ ap (λ (b : Bool). cond {A = ℕ} b 21 0) c.if-contents_differ.false in
    record {
      value = passes all;
      keeps_front = c.rules.ensures.keeps_front;
    }
