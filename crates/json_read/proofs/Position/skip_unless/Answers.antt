-- `skip_unless` moves the scan of the string to the end of a run, unless a first half waits.
use Prim.Native.Nat.{ℕ, ◌-◌}
use mathlib.Core.Path.{refl, ap, sym, ◌∙◌}
use mathlib.Core.Bool.{Bool, true≢false}
use native.Mathlib.Omega.{arith}
use lib.ListN.{length}
use Rattle.grammar.specs.Grammar.{is_unescaped}
use Rattle.grammar.specs.Reader.{between, octet_at, skip}
use Rattle.json_read.proofs.StringParts.{scan, plain_run, skip_forward, skip_stops}
use Rattle.json_read.proofs.Position.skip_unless.Goals as goal

pub returns-then-half : goal.returns-then-half
returns-then-half c =
    record {
      at_value = refl;
      at_le_at = (omega arith, λ f. absurd (true≢false (sym c.if-half.true ∙ f)));
    }

pub returns : goal.returns
returns c =
    let s = c.args.s.now in
    let at = c.args.self.at in
    let skipped = c.skip_plain.ensures in
    let free = c.if-half.false in
    record {
      at_value = ap (scan s (between c.args.half)) skipped
          ∙ ap (λ (b : Bool). scan s (between b) (skip is_unescaped s at)) free
          ∙ plain_run s (length s - at) at (omega arith)
          ∙ ap (λ (b : Bool). scan s (between b) at) (sym free);
      at_le_at = (
        omega (arith, skipped, skip_forward is_unescaped s at),
        λ f. ap (λ (n : ℕ). is_unescaped (octet_at s n)) skipped ∙ skip_stops is_unescaped s (length s - at) at (omega arith) refl,
      );
    }
