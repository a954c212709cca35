-- The given texts judged alone, within the levels that are left to them where they will stand.
use Rattle.std.specs.Prelude.{List, [], ◌∷◌, Bool, true, false, ℕ, ◌-◌, ◌≤◌, length}
use Rattle.prelude.specs.Limits.{levels}
use Rattle.grammar.specs.Bounds.{Every}
use Rattle.grammar.specs.Readings.{Reading}
use Rattle.recipients.specs.Table.{RawRecipient}
use Rattle.json_message.specs.JsonText.{RawMessage}
use Rattle.json_message.specs.WriteOrder.{most_for}
use Rattle.json_message.specs.Handed.{MessageOctets}

-- The levels that are left to the shared header: the top level stands around it.
abbrev pub shared_levels : ℕ
shared_levels = levels - 1

-- Those left to an own header, general or flattened: the top level, the array `recipients` and its element stand around it,
-- or the top level alone.
abbrev pub own_levels : Bool → ℕ
own_levels true = levels - 3
own_levels false = levels - 1

-- A header's text that is absent, or reads alone within so many levels.
abbrev pub Judged : ℕ → List ℕ → Type 0
Judged l [] = Unit {0}
Judged l (c ∷ w) = Reading l (c ∷ w)

-- The own header of every recipient.
abbrev pub OwnJudged : ℕ → List RawRecipient → Type 0
OwnJudged l rs = Every (λ r. Judged l r.header) rs

-- The shared and the own headers, each within so many levels.
pub record TextsJudged (l m : ℕ) (c : RawMessage) : Type 0 where
  pub shared : Judged l c.shared
  pub own : OwnJudged m c.recipients

-- What the writer has tested before it judges the whole: octets, how many recipients there are, and that each text reads alone.
pub record Ready (general : Bool) (c : RawMessage) : Type 0 where
  pub octets : MessageOctets c
  pub some : 1 ≤ length c.recipients
  pub few : length c.recipients ≤ most_for general
  pub texts : TextsJudged levels levels c
