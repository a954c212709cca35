-- One recipient after the other: what is known before each is `Walked`. Behind the last, 21 is asked of all.
use mathlib.Core.Path.{◌≡◌, refl, ap, ap₂, sym, subst, ◌∙◌, ap, sym}
use mathlib.Core.Bool.{cond}
use mathlib.Core.List.{List, ◌++◌}
use mathlib.Core.Option.{Option}
use Prim.Native.Nat.{ℕ, ◌<◌}
use native.Mathlib.Omega.{arith}
use Rattle.prelude.specs.Refusals.{first, number_of}
use Rattle.names.specs.Names.{names}
use Rattle.rows.specs.Rows.{present}
use Rattle.jose.specs.Registered.{enc}
use Rattle.jose.specs.ContentAlgorithm.{differ}
use Rattle.jose.specs.Inner.Content.{named_in, shown_in}
use Rattle.headers.specs.Headers.{protected_entries}
use Rattle.recipients.specs.Parsed.{said_count, recipient_at}
use Rattle.recipients.proofs.Places.{start_first, lengths_fit, body_fits, start_next, sound_some}
use Rattle.json_message.specs.Handed.{text_entries}
use Rattle.json_judge.specs.Inner.Asked.{Readable, with_key_size, own_tests, rules_tests}
use Rattle.json_judge.proofs.Walk.{header_is_lem, next_start, next_every}
use Rattle.json_judge.proofs.Recipients.{key_size_lem, object_stops, object_passes, rules_next, named_next, named_by}
use Rattle.json_judge.proofs.Recipients.{content_of, content_sound, pending_next, all_refuse, all_pass}
use Rattle.prelude.specs.Refusals.{number_of}
use Rattle.prelude.proofs.Exits.{exit_refused, some_number, exit_refused}
use Rattle.json_judge.specs.Inner.Faults.{Judged, fault_number, as_judged}
use Rattle.json_judge.proofs.Exits.{or_number}
use Rattle.json_judge.proofs.judge_recipients.Goals as goal

pub present-has_enc-requires : goal.present-has_enc-requires
present-has_enc-requires c = omega (arith, c.requires.header_table_in_bounds)

pub overflow_mul-start : goal.overflow_mul-start
overflow_mul-start c =
    omega (arith, lengths_fit c.args.recipients.now c.requires.recipients_value, c.requires.n_value)

pub overflow_add-start : goal.overflow_add-start
overflow_add-start c =
    omega (arith, lengths_fit c.args.recipients.now c.requires.recipients_value, c.requires.n_value)

pub recipient-head-requires : goal.recipient-head-requires
recipient-head-requires c =
    let t = c.args.recipients.now in
    record {
      table_value = c.requires.recipients_value;
      i_bound = omega (arith, sound_some t c.requires.recipients_value);
      start_value = omega (arith, start_first t, c.requires.n_value);
    }

pub loop-i-init : goal.loop-i-init
loop-i-init c =
    record {
      within = omega arith;
      at = omega (arith, start_first c.args.recipients.now, c.requires.n_value);
      same = refl;
      kept = c.requires.front;
      readable = c.requires.own_readable;
      objects = refl;
      rules = refl;
      contents = refl;
      first_named = λ z. absurd (omega (arith, z));
    }

pub recipient-body-requires : goal.recipient-body-requires
recipient-body-requires c =
    record {
      table_value = c.requires.recipients_value;
      i_bound = omega (arith, c.loop-i-test.true, c.requires.n_value);
      start_value = c.loop-i.invariant.at;
    }

pub judge_recipient-requires : goal.judge_recipient-requires
judge_recipient-requires c =
    let t = c.args.recipients.now in
    let i = c.loop-i.i in
    let inv = c.loop-i.invariant in
    let here : i < said_count t = omega (arith, c.loop-i-test.true, c.requires.n_value) in
    let own = c.part-own.ensures.octets ∙ header_is_lem t i _ c.recipient-body.ensures in
    record {
      known_value = c.requires.known_value;
      readable = subst Readable (sym own) (next_every (λ r. Readable r.header) t i here inv.readable).0;
      header_table_in_bounds = omega (arith, inv.same, c.requires.header_table_in_bounds);
      front = inv.kept;
    }

pub returns-in_err-faults : goal.returns-in_err-faults
returns-in_err-faults c =
    let below : c.loop-i.i < said_count c.args.recipients.now = omega (arith, c.loop-i-test.true, c.requires.n_value) in
    let own_is : c.part-own.result.now ≡ (recipient_at c.args.recipients.now c.loop-i.i).header = c.part-own.ensures.octets
    ∙ header_is_lem c.args.recipients.now c.loop-i.i _ c.recipient-body.ensures in
    let object-is : (as_judged c.judge_recipient.result).object ≡ first (own_tests (recipient_at c.args.recipients.now c.loop-i.i).header) = c.judge_recipient.ensures.object_value ∙ ap (λ (w : List ℕ). first (own_tests w)) (own_is) in
    record {
      value = exit_refused _ _ c.from_residual.ensures.1
          ∙ object_stops _ _ _ _ _ c.loop-i.i (number_of c.in_err-faults.field-0.0) _ (below)
          (sym (ap (λ r. (as_judged r).object) c.in_err-faults.was) ∙ object-is)
          (λ z. omega (arith, z, some_number c.in_err-faults.field-0.0)) c.loop-i.invariant.objects;
      table_len_unchanged = c.judge_recipient.ensures.table_len_unchanged.0 ∙ c.loop-i.invariant.same;
    }

pub overflow_add-start-in-loop-i : goal.overflow_add-start-in-loop-i
overflow_add-start-in-loop-i c =
    let below : c.loop-i.i < said_count c.args.recipients.now = omega (arith, c.loop-i-test.true, c.requires.n_value) in
    let t = c.args.recipients.now in
    let i = c.loop-i.i in
    let next = next_start t i _ c.recipient-body.ensures in
    omega (arith, next, start_next t i, body_fits t c.requires.recipients_value i (below))

pub loop-i-preserved : goal.loop-i-preserved
unfolding first
loop-i-preserved c =
    let own_is : c.part-own.result.now ≡ (recipient_at c.args.recipients.now c.loop-i.i).header = c.part-own.ensures.octets
    ∙ header_is_lem c.args.recipients.now c.loop-i.i _ c.recipient-body.ensures in
    let below : c.loop-i.i < said_count c.args.recipients.now = omega (arith, c.loop-i-test.true, c.requires.n_value) in
    let first-own : c.part-first.result.now ≡ (recipient_at c.args.recipients.now 0).header = c.part-first.ensures.octets
    ∙ header_is_lem c.args.recipients.now 0 _ c.recipient-head.ensures in
    let object-is : (as_judged c.judge_recipient.result).object ≡ first (own_tests (recipient_at c.args.recipients.now c.loop-i.i).header) = c.judge_recipient.ensures.object_value ∙ ap (λ (w : List ℕ). first (own_tests w)) (own_is) in
    let t = c.args.recipients.now in
    let h = c.args.header.now in
    let sh = c.args.shared.now in
    let known = names c.args.known.now in
    let z = c.args.sizes in
    let i = c.loop-i.i in
    let inv = c.loop-i.invariant in
    let body = c.recipient-body.ensures in
    let told = ap as_judged c.in_ok-faults.was in
    let zero = ap (λ (j : Judged). j.object) told in
    let rules = sym (ap (λ (j : Judged). j.rules) told) ∙ c.judge_recipient.ensures.rules_value zero
    ∙ ap₂ (λ (w : List ℕ) (k : ℕ). first (rules_tests known h sh w (with_key_size z k))) (own_is)
    (key_size_lem t c.requires.recipients_value i (below) _ body) in
    let its : c.in_ok-faults.faults.content ≡ named_by (recipient_at t i) =
    sym (ap (λ (j : Judged). j.content) told) ∙ c.judge_recipient.ensures.content_value zero ∙ ap (λ (w : List ℕ). named_in (text_entries 2 w)) (own_is) in
    let named = named_next t i c.loop-i.named _ _ c.first_content-named.ensures its inv.first_named in
    let fault : fault_number c.content_fault.result ≡ first (content_of t (recipient_at t i)) =
    c.content_fault.ensures
    ∙ ap₂ (λ (x y : Option (List ℕ)). cond {A = ℕ} (differ x y) 21 0)
    (ap₂ shown_in (first-own) named) (ap₂ shown_in (own_is) its) in
    record {
      within = omega (arith, below);
      at = next_start t i _ body;
      same = c.judge_recipient.ensures.table_len_unchanged.0 ∙ inv.same;
      kept = c.judge_recipient.ensures.table_len_unchanged.1;
      readable = (next_every (λ r. Readable r.header) t i (below) inv.readable).1;
      objects = object_passes known h sh z t i _ (below) (object-is) zero inv.objects;
      rules = rules_next known h sh z t i _ (fault_number c.loop-i.broken) _ (below) rules (ap fault_number c.or-broken.ensures ∙ or_number _ _) inv.rules;
      contents =
          pending_next (content_of t) (content_sound t) t i _ (fault_number c.loop-i.content) _ (below) fault
          (ap fault_number c.or-content.ensures ∙ or_number _ _) inv.contents;
      first_named = λ z. named;
    }

pub returns-in-Some : goal.returns-in-Some
returns-in-Some c =
    let shared_has : c.present-has_enc.result
    ≡ present enc (protected_entries c.args.header.now ++ text_entries 1 c.args.shared.now) = c.present-has_enc.ensures ∙ ap (present enc) c.requires.front.entries in
    let inv = c.loop-i.invariant in
    record {
      value = all_refuse _ _ _ _ _ c.requires.recipients_value c.loop-i.i (fault_number c.loop-i.broken) (fault_number c.loop-i.content)
          (omega (arith, c.loop-i-test.false, c.requires.n_value)) inv.objects inv.rules inv.contents
          (shared_has) _ (number_of c.in-Some.refusal) (sym (ap fault_number c.in-Some.is) ∙ c.fault_of_all.ensures)
          (λ z. omega (arith, z, some_number c.in-Some.refusal));
      table_len_unchanged = inv.same;
    }

pub returns-in-None : goal.returns-in-None
returns-in-None c =
    let shared_has : c.present-has_enc.result
    ≡ present enc (protected_entries c.args.header.now ++ text_entries 1 c.args.shared.now) = c.present-has_enc.ensures ∙ ap (present enc) c.requires.front.entries in
    let inv = c.loop-i.invariant in
    record {
      value = all_pass _ _ _ _ _ c.requires.recipients_value c.loop-i.i (fault_number c.loop-i.broken) (fault_number c.loop-i.content)
          (omega (arith, c.loop-i-test.false, c.requires.n_value)) inv.objects inv.rules inv.contents
          (shared_has) _ _ c.fault_of_all.ensures (ap fault_number c.in-None.is);
      table_len_unchanged = inv.same;
    }
