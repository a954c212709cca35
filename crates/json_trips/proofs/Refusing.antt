-- A refusal of the JSON writer has one of its numbers, and changes nothing: its tests from 6 on give the number that those of the
-- pieces do, which have no other.
use mathlib.Core.Path.{◌≡◌, refl, sym, subst, ◌∙◌}
use mathlib.Core.Bool.{Bool, true, false, not}
use mathlib.Core.Logic.{inl, inr}
use mathlib.Core.List.{List, ◌∷◌}
use Prim.Native.Nat.{ℕ}
use lib.ListN.{length}
use Rattle.prelude.specs.Outputs.{octets_written, ChangesNothing}
use Rattle.prelude.specs.Refusals.{Test, ◌if◌, first, OneOf}
use Rattle.prelude.proofs.Outputs.{changes_nothing}
use Rattle.names.specs.Names.{names, sound}
use Rattle.json_message.specs.JsonText.{RawMessage}
use Rattle.json_message.specs.WriteOrder.{message_order}
use Rattle.json_message.specs.JsonWrite.{RawJson, message_of, written_text, wrong_table, json_write_order, json_write_refusal}
use Rattle.json_message.specs.Inner.AskedOrder.{asked_order}
use Rattle.json_message.proofs.Theorems.{write_by_pieces}
use Rattle.json_trips.specs.JsonTrips.{JsonOctets}
use Rattle.json_trips.specs.JsonTrips.{json_write_buffer, json_write_numbers}
use Rattle.json_trips.proofs.Given.{message_octets, table_decided, some_given, few_given}
use Rattle.json_trips.proofs.Listed.{first_among}
use Rattle.json_trips.proofs.Passing.{asked_ours}

module _ (general : Bool) (c : RawJson) (known : List ℕ) (room : ℕ) (o : JsonOctets c) where
  abbrev given : RawMessage
  given = message_of c

  abbrev table : List ℕ
  table = c.recipients

  numbers : (json_write_refusal general c known room ≡ 0 → ⊥) → OneOf (json_write_refusal general c known room) json_write_numbers
  unfolding json_write_refusal json_write_order first
  numbers = cases (sound known) refl (wrong_table general table) refl
    where
      rest : List Test
      rest = message_order general given (names known) room

      cases : (a : Bool) → sound known ≡ a → (b : Bool) → wrong_table general table ≡ b →
          (first (3 if not a ∷ 20 if b ∷ rest) ≡ 0 → ⊥) → OneOf (first (3 if not a ∷ 20 if b ∷ rest)) json_write_numbers
      cases false e b f n = inl refl
      cases true e true f n = inr (inl refl)
      cases true e false f n =
          let w = (table_decided general table o.recipients).0 f in
          let same = write_by_pieces general given (message_octets c o) (some_given general table o.recipients w.0 w.1)
          (few_given general table o.recipients w.0 w.1) (names known) room in
          subst (λ (k : ℕ). OneOf k json_write_numbers) (sym same)
          (first_among json_write_numbers (asked_order general given (names known) room)
          (asked_ours general given (names known) room) (λ z. n (same ∙ z)))

-- A refusal has one of the writer's numbers, and changes nothing.
pub json_writing_changes_nothing : (general : Bool) (c : RawJson) (known out : List ℕ) → JsonOctets c →
    let n = json_write_refusal general c known (length out) in
    (n ≡ 0 → ⊥) →
    ChangesNothing json_write_numbers n (octets_written n (written_text general c)) out (json_write_buffer general c known out)
json_writing_changes_nothing general c known out o n =
    changes_nothing (json_write_refusal general c known (length out)) (written_text general c) out json_write_numbers
    (numbers general c known (length out) o n) n
