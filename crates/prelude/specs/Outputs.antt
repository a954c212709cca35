-- What a function that writes answers and leaves. Document 01, 'Further requests': decoding, AAD and every writer answer 0 and the
-- octets written, at the output's start, its rest unchanged; refused, the number, 0 octets and the output unchanged.
use Rattle.std.specs.Prelude.{◌≡◌, cond, List, ℕ, length, eqb}
use Rattle.prelude.specs.Buffer.{written}
use Rattle.prelude.specs.Refusals.{OneOf}

-- How many octets are written, by the refusal, 0 where there is none, and by what is to be written.
abbrev pub octets_written : ℕ → List ℕ → ℕ
octets_written refusal xs = cond (eqb refusal 0) (length xs) 0

-- What the output holds afterwards, by what it held before.
abbrev pub output_after : ℕ → List ℕ → List ℕ → List ℕ
output_after refusal xs before = cond (eqb refusal 0) (written 0 xs before) before

-- An answer's number and octets, and the output afterwards.
pub record Writes (refusal : ℕ) (xs before : List ℕ) (number octets : ℕ) (after : List ℕ) : Type 0 where
  pub refuses : number ≡ refusal
  pub counts : octets ≡ octets_written refusal xs
  pub leaves : after ≡ output_after refusal xs before

-- A refusal changes nothing: its number is one of those that can be given, no octet is written, the output is unchanged.
pub record ChangesNothing (numbers : List ℕ) (refusal octets : ℕ) (before after : List ℕ) : Type 0 where
  pub listed : OneOf refusal numbers
  pub no_octets : octets ≡ 0
  pub unchanged : after ≡ before
