-- `judged` hands up the refusal of the own headers; where they pass, the rules answer.
use mathlib.Core.Path.{◌≡◌, refl, ap, sym, subst, ◌∙◌}
use mathlib.Core.List.{List}
use Prim.Native.Nat.{ℕ}
use lib.ListN.{length}
use Rattle.names.specs.Names.{names}
use Rattle.rows.specs.Tables.{entries_of}
use Rattle.prelude.specs.Limits.{most_recipients}
use Rattle.prelude.specs.Refusals.{first, stage_of, as_stage}
use Rattle.prelude.specs.Refusals.{Stage}
use Rattle.prelude.specs.Refusals.{Passed, Refused}
use Rattle.headers.specs.Answers.{components_of}
use Rattle.headers.proofs.Stages.{passed_is, refused_is, refuses}
use Rattle.jwe.specs.Inner.Stages.{recipients_of, Owned, LeavesOwn, own_tests, own_table}
use Rattle.jwe.proofs.JsonHeads.{own_refuses, own_passes}
use Rattle.prelude.proofs.Exits.{exit_refused, handed_up}
use Rattle.jwe.proofs.general.judged.Goals as goal

-- Tables that hold all own headers, whatever is answered then.
leaves : (number : ℕ) (message of own counts : List ℕ) → Owned number message of own counts → length own ≡ own_table →
    length counts ≡ most_recipients → (answer : Stage) → LeavesOwn number message of own counts answer
leaves number message of own counts all long eight (Passed n) = all
leaves number message of own counts all long eight (Refused n) = (long, eight)

pub own_headers-requires : goal.own_headers-requires
own_headers-requires c =
    record {
      message_len_bound = c.requires.message_len_bound;
      number_le_most_recipients = c.requires.number_le_most_recipients;
      recipient_width_in_bounds = c.requires.recipient_width_in_bounds;
      own_len = c.requires.own_len;
      counts_len = c.requires.counts_len;
      headers_known = c.requires.headers_known;
    }

pub returns-in_err-own_headers : goal.returns-in_err-own_headers
returns-in_err-own_headers c =
    let args = c.args in
    let refusal = (ap as_stage c.in_err-own_headers.was) in
    let told = refused_is _ (first (own_tests args.message.now ((recipients_of c.args.number c.args.of.now)))) args.number
    (sym refusal ∙ c.own_headers.ensures.value) in
    let all = own_refuses (names args.known.now) args.header.now args.message.now ((entries_of c.args.front c.args.table.now))
    (components_of args.q) ((recipients_of c.args.number c.args.of.now)) 0 told.0 told.1 in
    record {
      value = exit_refused _ _ c.from_residual.ensures.1 ∙ refuses args.number told.1 ∙ ap (λ (n : ℕ). stage_of n args.number) (sym all);
      leaves_own = subst (LeavesOwn args.number args.message.now args.of.now _ _)
          (sym (handed_up _ _ c.from_residual.ensures.1 _ c.in_err-own_headers.was)) c.own_headers.ensures.leaves_own;
      keeps_front = record { entries = refl; printed = c.requires.printed };
    }

pub ruled-requires : goal.ruled-requires
ruled-requires c =
    let owned : (n : ℕ) → (as_stage c.own_headers.result) ≡ Passed n →
    let args = c.args in
    let own = c.own_headers.new.own in
    let counts = c.own_headers.new.counts in
    Owned args.number args.message.now args.of.now own counts
    × ((length own ≡ own_table) × (length counts ≡ most_recipients)) = (λ n told. let args = c.args in (
      subst (LeavesOwn args.number args.message.now args.of.now _ _) told c.own_headers.ensures.leaves_own,
      (
        c.own_headers.auto.own ∙ c.requires.own_len,
        c.own_headers.auto.counts ∙ c.requires.counts_len,
      ),
    )) in
    let has = owned _ (ap as_stage c.in_ok-own_headers.was) in
    record {
      known_value = c.requires.known_value;
      number_le_most_recipients = c.requires.number_le_most_recipients;
      recipient_width_in_bounds = c.requires.recipient_width_in_bounds;
      own_len = has.1.0;
      counts_len = has.1.1;
      owned = has.0;
      header_table_in_bounds = c.requires.header_table_in_bounds;
      printed = c.requires.printed;
    }

pub returns : goal.returns
returns c =
    let owned : (n : ℕ) → (as_stage c.own_headers.result) ≡ Passed n →
    let args = c.args in
    let own = c.own_headers.new.own in
    let counts = c.own_headers.new.counts in
    Owned args.number args.message.now args.of.now own counts
    × ((length own ≡ own_table) × (length counts ≡ most_recipients)) = (λ n told. let args = c.args in (
      subst (LeavesOwn args.number args.message.now args.of.now _ _) told c.own_headers.ensures.leaves_own,
      (
        c.own_headers.auto.own ∙ c.requires.own_len,
        c.own_headers.auto.counts ∙ c.requires.counts_len,
      ),
    )) in
    let args = c.args in
    let told = (ap as_stage c.in_ok-own_headers.was) in
    let passed = passed_is _ (first (own_tests args.message.now ((recipients_of c.args.number c.args.of.now)))) args.number
    (sym told ∙ c.own_headers.ensures.value) in
    let all = own_passes (names args.known.now) args.header.now args.message.now ((entries_of c.args.front c.args.table.now))
    (components_of args.q) ((recipients_of c.args.number c.args.of.now)) 0 passed.0 in
    let has = owned _ told in
    record {
      value = c.ruled.ensures.value ∙ ap (λ (n : ℕ). stage_of n args.number) (sym all);
      leaves_own = leaves args.number args.message.now args.of.now _ _ has.0 has.1.0 has.1.1 (as_stage c.ruled.result);
      keeps_front = c.ruled.ensures.keeps_front;
    }
