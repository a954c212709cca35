-- `hold` puts the place of the key into the table of recipients; the rest is what judging for the first recipient leaves.
use mathlib.Core.Path.{◌≡◌, refl, ap, sym, subst, ◌∙◌}
use Prim.Native.Nat.{ℕ}
use native.Mathlib.Omega.{arith}
use lib.ListN.{length-set}
use Rattle.names.specs.Names.{names}
use Rattle.prelude.specs.Refusals.{first}
use Rattle.rows.specs.Rows.{read_texts}
use Rattle.rows.specs.Inner.Prints.{Printed}
use Rattle.headers.specs.Components as headers
use Rattle.jwe.specs.Compact.{compact_components, compact_order}
use Rattle.jwe.specs.Judge.{accepted}
use Rattle.jwe.specs.Inner.Outcomes.{compact_outcome}
use Rattle.jwe.specs.Answers.{numbers, as_result, reading_of}
use Rattle.jwe.proofs.CompactOrder.{header, entries, objects_pass}
use Rattle.jwe.proofs.JsonHeaders.{few}
use Rattle.jwe.proofs.Answering.{number_is, components_are, parameters_are, answered_accepted}
use Rattle.jwe.proofs.Handing.{stands}
use Rattle.jwe.proofs.HeldTables.{holds_refused, sole_share}
use Rattle.jwe.proofs.Exits.{hands_number, refused_above, judges_reading}
use Rattle.jwe.proofs.compact.hold.Goals as goal

pub judge-requires : goal.judge-requires
judge-requires c =
    record {
      message_len_bound = c.requires.message_len_bound;
      known_value = c.requires.known_value;
      text_len = c.requires.text_len;
      header_table_in_bounds = c.requires.header_table_in_bounds;
    }

pub returns-in_err-reading : goal.returns-in_err-reading
returns-in_err-reading c =
    let numbered : (let args = c.args in
    (as_result c.judge.result).number ≡ first (compact_order args.message.now (names args.known.now) 0)) = (let m = c.args.message.now in number_is m (compact_outcome m) _ (as_result c.judge.result) c.judge.ensures.answers) in
    λ own. holds_refused c.args.message.now _ _ _ (sym (numbered)) (omega (arith, refused_above c.in_err-reading.was)) _ _ _ own _
    (hands_number _ _ _ c.from_residual.ensures.1 c.in_err-reading.was)

pub bounds-of-1 : goal.bounds-of-1
bounds-of-1 c = omega (arith, c.requires.of_len)

pub bounds-of-2 : goal.bounds-of-2
bounds-of-2 c = simp length-set (omega (arith, c.requires.of_len))

pub bounds-counts-0 : goal.bounds-counts-0
bounds-counts-0 c = omega (arith, c.requires.counts_len)

pub returns : goal.returns
unfolding compact_outcome
returns c =
    let numbered : (let args = c.args in
    (reading_of c.in_ok-reading.reading).number ≡ first (compact_order args.message.now (names args.known.now) 0)) = (let m = c.args.message.now in number_is m (compact_outcome m) _ (reading_of c.in_ok-reading.reading) (judges_reading c.in_ok-reading.was c.judge.ensures).answers) in
    let args = c.args in
    let m = args.message.now in
    let known = names args.known.now in
    let r = (reading_of c.in_ok-reading.reading) in
    let none = sym (numbered) in
    let judges = (judges_reading c.in_ok-reading.was c.judge.ensures) in
    let answers : numbers r ≡ accepted m (compact_outcome m) =
    judges.answers ∙ sym (answered_accepted m (compact_outcome m) none) in
    let has = stands m (compact_outcome m) r c.judge.new.text c.judge.new.table answers (judges.header none)
    (judges.entries none).1 (c.judge.auto.text ∙ c.requires.text_len) in
    let q = components_are m (compact_outcome m) r answers in
    let count = parameters_are m (compact_outcome m) r answers in
    λ own. record {
      number = sym none;
      holds = λ z. record {
        form = refl;
        recipients = refl;
        some = omega arith;
        few = omega arith;
        components = q;
        fits = omega (arith, has.size, has.within);
        header = has.front;
        common = record {
          few = omega (arith, count, few (header m) (entries m) (objects_pass m known 0 none));
          entries = has.entries;
          printed = subst (λ (n : ℕ). Printed (read_texts (header m) m) n c.judge.new.table) (sym count) (judges.printed none);
        };
        share = sole_share m (compact_components m).key args.of.now own args.counts.now _ _ (omega (arith, c.requires.of_len))
            (omega (arith, c.requires.counts_len)) (ap (λ (x : headers.Components). x.key.start) q)
            (ap (λ (x : headers.Components). x.key.size) q);
      };
    }
