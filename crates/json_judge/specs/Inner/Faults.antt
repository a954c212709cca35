-- What the code says of a recipient, with the refusals' numbers.
use Rattle.std.specs.Prelude.{ℕ, Option, Some, None, Result, Ok, Err}
use Rattle.prelude.specs.declared.Place.{Place}
use Rattle.prelude.specs.declared.refusal.Refusal.{Refusal}
use Rattle.prelude.specs.Refusals.{number_of}
use Rattle.json_judge.specs.declared.Faults.{Faults}

-- The number of a refusal, 0 where there is none.
abbrev pub fault_number : Option Refusal → ℕ
fault_number (Some e) = number_of e
fault_number None = 0

-- 8 or 9 on the own header; where that passes, 12 to 18 by all headers, and where the own header's content algorithm stands.
pub record Judged : Type 0 where
  pub object : ℕ
  pub rules : ℕ
  pub content : Option Place

abbrev pub as_judged : Result Faults Refusal → Judged
as_judged (Ok f) = record { object = 0; rules = fault_number f.rules; content = f.content }
as_judged (Err e) = record { object = number_of e; rules = 0; content = None }
