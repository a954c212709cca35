-- What is handed out, form by form.
use mathlib.Core.Path.{◌≡◌, ap, sym, subst}
use mathlib.Core.Bool.{Bool, true, false, cond}
use mathlib.Core.List.{List, append-nil, append_assoc}
use Prim.Native.Nat.{ℕ}
use lib.ListN.{length}
use Rattle.grammar.specs.Reader.{opens_object}
use Rattle.rows.specs.Rows.{Entry}
use Rattle.headers.specs.Components.{compact_form}
use Rattle.headers.specs.Headers.{header_text, protected_entries}
use Rattle.shape.specs.Recipients.{top_of, top_entries, recipients_in, components_in}
use Rattle.jwe.specs.Compact.{compact_components}
use Rattle.jwe.specs.General.{shared_entries, own_entries, parameters}
use Rattle.jwe.specs.Judge.{compact_held, json_held, held, Outcome, outcome_for, asked, outcome}
use Rattle.jwe.specs.Inner.Outcomes.{compact_outcome, outcome_of, json_outcome}

module _ (message : List ℕ) (n : ℕ) where
  compact_is : outcome_for (compact_held message) n ≡ compact_outcome message
  unfolding compact_outcome compact_components
  compact_is =
      let q = compact_components message in
      let header = header_text message q.protected in
      ap (λ (es : List Entry).
      record { form = compact_form; recipients = 1; components = q; header = header; entries = es })
      (append-nil (protected_entries header))

  pub json_is : outcome_for (json_held message) n ≡ json_outcome message n
  unfolding json_outcome outcome_of components_in parameters
  json_is =
      let es = top_entries message in
      let t = top_of es in
      let rs = recipients_in message es in
      let r = asked rs n in
      let header = header_text message t.components.protected in
      ap (λ (ps : List Entry).
      record {
        form = t.form;
        recipients = length rs;
        components = components_in t r;
        header = header;
        entries = ps;
      })
      (append_assoc (protected_entries header) (shared_entries message t) (own_entries message r))

  -- By the form.
  pub outcome_is : outcome message n ≡ cond (opens_object message) (json_outcome message n) (compact_outcome message)
  unfolding outcome held
  outcome_is = cases (opens_object message)
    where
      cases : (b : Bool) →
          outcome_for (cond b (json_held message) (compact_held message)) n
          ≡ cond b (json_outcome message n) (compact_outcome message)
      cases true = json_is
      cases false = compact_is

  -- What holds of it by the form holds of it.
  pub by_form : (P : Outcome → Type 0) →
      P (cond (opens_object message) (json_outcome message n) (compact_outcome message)) → P (outcome message n)
  by_form P h = subst P (sym outcome_is) h
