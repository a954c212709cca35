-- What is answered and left of some lines where both messages are accepted.
use Rattle.std.specs.Prelude.{◌≡◌, cond, List, [], ℕ, ◌*◌, length, leb}
use Rattle.prelude.specs.Buffer.{written}
use Rattle.parameters.specs.Lines.{Line, line_width, laid}
use Rattle.differences.specs.Answers.{Answer}

abbrev pub fitting : List Line → ℕ → List Line
fitting ls room = cond (leb (length ls * line_width) room) ls []

pub record Answers (ls : List Line) (before : List ℕ) (r : Answer) (after : List ℕ) : Type 0 where
  pub number : r.number ≡ cond (leb (length ls * line_width) (length before)) 0 1
  pub accepted : (r.left ≡ 0) × (r.right ≡ 0)
  pub lines : r.lines ≡ length (fitting ls (length before))
  pub leaves : after ≡ written 0 (laid (fitting ls (length before))) before
