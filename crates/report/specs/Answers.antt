-- What the code answers and what the lent output holds afterwards; and the lines by the numbers that the reader hands out.
use Rattle.std.specs.Prelude.{List, [], ◌∷◌, ◌++◌, ℕ, zero, suc, Option, Some, None, ◌≤◌, length, take, drop, ltb}
use Rattle.prelude.specs.Refusals.{Test, ◌if◌, first}
use Rattle.prelude.specs.Outputs.{Writes}
use Rattle.rows.specs.Tables.{first_of}
use Rattle.headers.specs.Answers.{components_of}
use Rattle.jwe.specs.Answers.{Result}
use Rattle.report.specs.Report.{first_line, component_lines, parameter_line, report}

-- What has to be lent: room for the longest report, of 96 parameters.
abbrev pub report_room : ℕ
report_room = 8192

-- Only 1 can refuse: too little is lent.

unfoldable pub report_order : ℕ → List Test
report_order lent = 1 if ltb lent report_room ∷ []

unfoldable pub report_refusal : ℕ → ℕ
report_refusal lent = first (report_order lent)

-- Document 01's number for each answer, and the octets written: where there is no answer, too little is lent.

abbrev pub report_number : Option ℕ → ℕ
report_number (Some n) = 0
report_number None = 1

abbrev pub report_count : Option ℕ → ℕ
report_count (Some n) = n
report_count None = 0

-- The answer and the output afterwards, of a message and the output before; the octets fit.
pub record Reports (message before : List ℕ) (answer : Option ℕ) (after : List ℕ) : Type 0 where
  pub writes :
      Writes (report_refusal (length before)) (report message) before (report_number answer) (report_count answer) after
  pub fits : report_count answer ≤ length before

-- The lines of the first parameters of a list of six numbers each.
unfoldable pub list_lines : ℕ → List ℕ → List ℕ
list_lines zero list = []
list_lines (suc n) list = parameter_line (first_of (take 6 list)) ++ list_lines n (drop 6 list)

-- The report on an accepted message by the reader's result and its list.
abbrev pub result_report : Result → List ℕ → List ℕ
result_report r list =
    first_line r.form r.recipients r.mode
    ++ (component_lines (components_of r.components) ++ list_lines r.parameters list)
