-- What is written is read: it is five encoded texts, its header and its key pass the writer's tests and so the
-- reader's, and it opens no object.
use mathlib.Core.Path.{◌≡◌, ap, ap₂, ◌∙◌}
use mathlib.Core.Bool.{Bool, false, cond}
use mathlib.Core.List.{List}
use Prim.Native.Nat.{ℕ, ◌≤◌}
use native.Mathlib.Omega.{arith}
use Rattle.names.specs.Names.{names}
use Rattle.grammar.specs.Reader.{opens_object}
use Rattle.prelude.specs.Refusals.{first}
use Rattle.headers.specs.Components.{Components}
use Rattle.headers.specs.Headers.{protected_entries}
use Rattle.jwe.proofs.Outcomes.{outcome_is}
use Rattle.jwe.specs.Compact.{compact_order}
use Rattle.jwe.specs.Judge.{call, refusal, Outcome, outcome}
use Rattle.jwe.specs.Inner.Outcomes.{compact_outcome, json_outcome}
use Rattle.jwe_write.specs.Write.{Raw, compact_text, write_refusal}
use Rattle.meets.proofs.SpelledDecided.{spelled_header}
use Rattle.meets.proofs.CompactDecided as meets
use Rattle.meets.proofs.FormsApart.{forms_apart}
use Rattle.round_trips.specs.Trips.{RawOctets, written_outcome}
use Rattle.round_trips.proofs.Passing.{write_decided, compact_decided, read_decided}
use Rattle.round_trips.proofs.Places.{spelled, places_are}

module _ (c : Raw) (o : RawOctets c) (known : List ℕ) (room : ℕ) (e : write_refusal c known room ≡ 0) where
  abbrev message : List ℕ
  message = compact_text c

  -- 4 to 19
  passed : first (compact_order message (names known) 0) ≡ 0
  passed =
      let w = (write_decided c known room).0 e in
      (compact_decided (names known) message 0).1 (spelled c o, (w.header, omega arith))

  opens_none : opens_object message ≡ false
  opens_none = (forms_apart (names known) message).0 ((meets.compact_decided (names known) message 0).0 passed).0

  pub accepted : (header_lent list_lent : ℕ) → 4096 ≤ header_lent → 576 ≤ list_lent →
      refusal (call message known 0 header_lent list_lent) ≡ 0
  accepted header_lent list_lent h l =
      let w = (write_decided c known room).0 e in
      (read_decided (call message known 0 header_lent list_lent) opens_none).1
      (record { header = h; table = l; size = w.size; list = w.list }, passed)

  pub handed : outcome message 0 ≡ written_outcome c
  unfolding compact_outcome written_outcome
  handed =
      let made : Components → List ℕ → Outcome =
      λ q header.
      record { form = 0; recipients = 1; components = q; header = header; entries = protected_entries header } in
      outcome_is message 0
      ∙ ap (λ (b : Bool). cond b (json_outcome message 0) (compact_outcome message)) opens_none
      ∙ ap₂ made (places_are c o) (spelled_header message (spelled c o))
