-- What is handed out, form by form, as the code comes to it: `outcome_is` (proofs/Outcomes) says that it is `outcome`.
use Rattle.std.specs.Prelude.{List, ℕ, length}
use Rattle.headers.specs.Components.{compact_form}
use Rattle.headers.specs.Headers.{header_text, protected_entries}
use Rattle.shape.specs.Shape.{Recipient}
use Rattle.shape.specs.Recipients.{Top, top_of, top_entries, recipients_in, components_in}
use Rattle.jwe.specs.Compact.{compact_components}
use Rattle.jwe.specs.General.{parameters}
use Rattle.jwe.specs.Judge.{Outcome, asked}

unfoldable pub compact_outcome : List ℕ → Outcome
compact_outcome message =
    let q = compact_components message in
    let header = header_text message q.protected in
    record { form = compact_form; recipients = 1; components = q; header = header; entries = protected_entries header }

-- By what the top level holds and by the recipients.
unfoldable pub outcome_of : List ℕ → Top → List Recipient → ℕ → Outcome
outcome_of message t rs recipient =
    let r = asked rs recipient in
    let header = header_text message t.components.protected in
    record {
      form = t.form;
      recipients = length rs;
      components = components_in t r;
      header = header;
      entries = parameters header message t r;
    }

unfoldable pub json_outcome : List ℕ → ℕ → Outcome
json_outcome message recipient =
    let es = top_entries message in
    outcome_of message (top_of es) (recipients_in message es) recipient
