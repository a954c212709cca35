-- `hex` reads one hexadecimal digit more.
use mathlib.Core.Path.{ap, sym, ◌∙◌}
use native.Mathlib.Omega.{arith}
use Rattle.grammar.specs.Grammar.{is_hex}
use Rattle.grammar.specs.Strings.{hex_digit}
use Rattle.json_read.proofs.StringParts.{hex_no, hex_yes}
use Rattle.json_read.proofs.Position.hex.Goals as goal

pub returns-then-not-is_hex : goal.returns-then-not-is_hex
returns-then-not-is_hex c =
    let s = c.args.s.now in
    let at = c.args.self.at in
    record {
      value = hex_no s at c.args.x (sym (c.is_hex.ensures ∙ ap is_hex c.peek-c.ensures) ∙ c.if-not-is_hex.true);
      small = tt;
    }

pub hex_digit-requires : goal.hex_digit-requires
hex_digit-requires c = sym c.is_hex.ensures ∙ c.if-not-is_hex.false

pub overflow_add-value : goal.overflow_add-value
overflow_add-value c = omega (arith, c.hex_digit.ensures.1)

pub returns : goal.returns
returns c =
    let s = c.args.s.now in
    let at = c.args.self.at in
    let digit = c.hex_digit.ensures in
    record {
      value = hex_yes s at c.args.x c.step-next.result.at c.hex_digit.result (sym (c.is_hex.ensures ∙ ap is_hex c.peek-c.ensures) ∙ c.if-not-is_hex.false) c.step-next.ensures
          (digit.0 ∙ ap hex_digit c.peek-c.ensures);
      small = omega (arith, digit.1);
    }
