-- Judged in pieces: the reader's refusal of a written message, from 7 on, is the first of the tests on its pieces.
use mathlib.Core.Path.{◌≡◌, refl, sym, ap, subst, ◌∙◌}
use mathlib.Core.List.{List, [], ◌++◌, append-nil}
use mathlib.Core.Bool.{Bool, true, false}
use mathlib.Core.Logic.{◌↔◌}
use Prim.Native.Nat.{ℕ, ◌≤◌, ◌<◌}
use native.Mathlib.Omega.{arith}
use lib.ListN.{length}
use Rattle.prelude.specs.Limits.{levels, most_recipients}
use Rattle.prelude.specs.Refusals.{Test, ◌if◌, first}
use Rattle.prelude.proofs.Refusals.{first_fails}
use Rattle.grammar.specs.Readings.{Reading}
use Rattle.headers.specs.Headers.{unread}
use Rattle.shape.specs.Recipients.{top_order}
use Rattle.jwe.specs.General.{json_spelled, json_order}
use Rattle.json_text.proofs.Made.{deepest_field}
use Rattle.json_message.specs.JsonText.{RawMessage, json_text}
use Rattle.json_message.specs.WriteOrder.{most_for}
use Rattle.json_message.specs.Inner.Judged.{shared_levels, own_levels, TextsJudged, Ready}
use Rattle.json_message.specs.Inner.PiecesOrder.{unread_inside, pieces_order}
use Rattle.json_message.proofs.Tables.{top_fields, json_text_lem}
use Rattle.json_message.proofs.Readable as Readable
use Rattle.json_message.proofs.Readable.{Counts, counted, top_deepest}
use Rattle.json_message.proofs.Agree.{Agree}
use Rattle.json_message.proofs.Unread.{reads_iff, inside_iff}
use Rattle.json_message.proofs.Stages.{reader_agrees}

false_same : (a b : Bool) → (a ≡ false → b ≡ false) → (b ≡ false → a ≡ false) → a ≡ b
false_same true true f g = refl
false_same true false f g = g refl
false_same false b f g = sym (f refl)

-- Where 7 fails, both refuse by it.

seven_first : (s : List ℕ) (known : List (List ℕ)) (n : ℕ) (ts : List Test) → unread s ≡ true →
    first (json_order s known n ++ ts) ≡ 7
unfolding json_order json_spelled top_order
seven_first s known n ts e = first_fails (7 if unread s) _ e

seven_pieces : (general : Bool) (known : List (List ℕ)) (c : RawMessage) (ts : List Test) → unread_inside general c ≡ true →
    first (pieces_order general known c ++ ts) ≡ 7
unfolding pieces_order
seven_pieces general known c ts e = first_fails (7 if unread_inside general c) _ e

most : (general : Bool) → most_for general ≤ most_recipients
most true = omega arith
most false = omega arith

module _ (general : Bool) (c : RawMessage) (h : Ready general c) where
  pub counts : Counts general c.recipients
  counts = counted general c.recipients h.some h.few

  -- The message reads exactly where each text reads within the levels that are left to it.
  pub json_reads : Reading levels (json_text general c) ↔ TextsJudged shared_levels (own_levels general) c
  json_reads = Readable.json_reads general c h.octets h.texts counts

  -- 7 on the whole.
  unread_pieces : unread (json_text general c) ≡ unread_inside general c
  unfolding unread
  unread_pieces =
      let r = reads_iff levels (json_text general c) in
      let i = inside_iff general c in
      false_same _ _ (λ e. i.1 (json_reads.0 (r.0 e))) (λ e. r.1 (json_reads.1 (i.0 e)))

  pub judged_in_pieces : (known : List (List ℕ)) (recipient : ℕ) → recipient < length c.recipients →
      Agree (json_order (json_text general c) known recipient) (pieces_order general known c)
  judged_in_pieces known recipient below = cases (unread (json_text general c)) refl
    where
      cases : (b : Bool) → unread (json_text general c) ≡ b →
          Agree (json_order (json_text general c) known recipient) (pieces_order general known c)
      cases true e = record {
        before = λ ts us f.
            seven_first (json_text general c) known recipient ts e
            ∙ sym (seven_pieces general known c us (sym unread_pieces ∙ e));
      }
      cases false e =
          let d = (top_deepest general c h.octets h.texts counts).1 ((inside_iff general c).0 (sym unread_pieces ∙ e)) in
          let w = json_text_lem general c h.octets h.texts in
          subst (λ z. Agree (json_order z known recipient) (pieces_order general known c)) w
          (reader_agrees general c h.octets h.texts counts d known h.some (omega (arith, h.few, most general))
          recipient below (ap unread w ∙ unread_pieces))

  -- Where no test fails, each text is within its levels.
  pub passed_deepest : (known : List (List ℕ)) → first (pieces_order general known c) ≡ 0 →
      deepest_field (top_fields general c h.octets h.texts) ≤ shared_levels
  passed_deepest known passes = cases (unread_inside general c) refl
    where
      cases : (b : Bool) → unread_inside general c ≡ b →
          deepest_field (top_fields general c h.octets h.texts) ≤ shared_levels
      cases true e =
          absurd (omega (
            arith,
            sym (seven_pieces general known c [] e) ∙ ap first (append-nil (pieces_order general known c)) ∙ passes,
          ))
      cases false e = (top_deepest general c h.octets h.texts counts).1 ((inside_iff general c).0 e)
