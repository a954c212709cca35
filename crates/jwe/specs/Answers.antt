-- The code's answers.
use Rattle.std.specs.Prelude as code
use Rattle.std.specs.Prelude.{◌≡◌, cond, List, [], ◌∷◌, ℕ, ◌*◌, ◌≤◌, length, Option, Some, None, Ok, Err}
use Rattle.prelude.specs.declared.refusal.Refusal.{Refusal}
use Rattle.prelude.specs.declared.Place.{Place}
use Rattle.headers.specs.Answers.{code_components}
use Rattle.prelude.specs.Refusals.{Stage, number_of}
use Rattle.prelude.specs.Refusals.{Passed, Refused}
use Rattle.rows.specs.Rows.{Entry}
use Rattle.rows.specs.Tables.{entries_of, width}
use Rattle.jwe.specs.Compact.{four_stops, compact_components}
use Rattle.headers.specs.declared.Components.{Components}
use Rattle.jwe.specs.declared.Reading.{Reading}
use Rattle.jwe.specs.declared.Holding.{Holding as Held}

-- A message split at its full stops.
unfoldable pub split_of : List ℕ → Option Components
split_of message = cond (four_stops message) (Some (code_components (compact_components message))) None

-- What the reader and `hold` answer, with the refusal's number, 0 where there is none, beside what is handed out, or zeros.

pub record Result : Type 0 where
  pub number : ℕ
  pub form : ℕ
  pub recipients : ℕ
  pub mode : ℕ
  pub components : Components
  pub header : ℕ
  pub parameters : ℕ

abbrev pub reading_of : Reading → Result
reading_of r = record {
  number = 0;
  form = r.form;
  recipients = r.recipients;
  mode = r.mode;
  components = r.components;
  header = r.header;
  parameters = r.parameters;
}

abbrev no_place : Place
no_place = record { start = 0; len = 0 }

abbrev no_components : Components
no_components = record {
  protected = no_place;
  key = no_place;
  iv = no_place;
  aad = no_place;
  ciphertext = no_place;
  tag = no_place;
}

abbrev pub as_result : code.Result Reading Refusal → Result
as_result (Ok r) = reading_of r
as_result (Err e) = record {
  number = number_of e;
  form = 0;
  recipients = 0;
  mode = 0;
  components = no_components;
  header = 0;
  parameters = 0;
}

pub record Holding : Type 0 where
  pub number : ℕ
  pub form : ℕ
  pub recipients : ℕ
  pub components : Components
  pub header : ℕ
  pub common : ℕ

abbrev pub holding_of : Held → Holding
holding_of h = record {
  number = 0;
  form = h.form;
  recipients = h.recipients;
  components = h.components;
  header = h.header;
  common = h.common;
}

abbrev pub as_holding : code.Result Held Refusal → Holding
as_holding (Ok h) = holding_of h
as_holding (Err e) = record {
  number = number_of e;
  form = 0;
  recipients = 0;
  components = no_components;
  header = 0;
  common = 0;
}

-- The eighteen numbers of a result, in document 01's order.

abbrev pub place_numbers : Place → List ℕ → List ℕ
place_numbers q rest = q.start ∷ q.len ∷ rest

abbrev pub numbers : Result → List ℕ
numbers r =
    r.number
    ∷ r.form
    ∷ r.recipients
    ∷ r.mode
    ∷ place_numbers r.components.protected
    (place_numbers r.components.key
    (place_numbers r.components.iv
    (place_numbers r.components.aad
    (place_numbers r.components.ciphertext (place_numbers r.components.tag (r.header ∷ r.parameters ∷ []))))))

-- A table as long as before that begins with some entries.
abbrev pub BeginsWith : List Entry → List ℕ → List ℕ → Type 0
BeginsWith es before after =
    (length after ≡ length before) × ((length es * width ≤ length after) × (entries_of (length es) after ≡ es))

-- The refusal of a stage; 0 where it passed.
abbrev pub refused_by : Stage → ℕ
refused_by (Passed n) = 0
refused_by (Refused n) = n
