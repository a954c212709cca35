-- The table of entries: the first ones, which are all recipients', stay while an own header's are collected behind them.
use mathlib.Core.Path.{◌≡◌, refl, ap, ap₂, sym, subst₂, ◌∙◌}
use mathlib.Core.Bool.{Bool, true, false, cond}
use mathlib.Core.List.{List, [], ◌∷◌, ◌++◌, append_assoc}
use Prim.Native.Nat.{ℕ, ◌+◌, ◌*◌, ◌≤◌}
use native.Mathlib.Omega.{arith}
use lib.ListN.{length, drop}
use lib.Dec.{leb}
use borrow.Author.Tests.{leb-true}
use Rattle.prelude.specs.Buffer.{written}
use Rattle.prelude.specs.Refusals.{first, stage_of}
use Rattle.prelude.proofs.Writing.{written_length}
use Rattle.prelude.specs.Refusals.{Passed}
use Rattle.rows.specs.Rows.{Entry, Texts, texts, text_of}
use Rattle.rows.specs.Tables.{entries_of, width}
use Rattle.rows.specs.Inner.Prints.{flat, collected_table, Printed}
use Rattle.rows.proofs.Entries.{flat_length, entries_front, entries_more, entries_written_from}
use Rattle.rows.proofs.Printing.{StandIn, entries_stand, printed_kept, printed_more, printed_written}
use Rattle.jose.specs.Registered.{registered}
use Rattle.headers.specs.Headers.{outermost, protected_entries, object_order}
use Rattle.headers.proofs.Stages.{passed_is}
use Rattle.jwe.proofs.JsonHeaders.{few}
use Rattle.jwe.proofs.OwnHeaders.{few_collected}
use Rattle.jwe.proofs.JsonShaped.{Collected, behind}
use Rattle.json_message.specs.Handed.{text_entries}
use Rattle.json_message.specs.Inner.PiecesOrder.{pieces_entries}
use Rattle.json_judge.specs.Inner.Asked.{Front}

-- What was collected, once 8 and 9 pass.
pub collected : (s : List ℕ) (es : List Entry) (from : ℕ) (before last : List ℕ) (n : ℕ) →
    Passed n ≡ stage_of (first (object_order s es)) (length es) → last ≡ collected_table from s es before →
    (first (object_order s es) ≡ 0) × Collected s es from before last n
collected s es from before last n a l =
    let told = passed_is n (first (object_order s es)) (length es) a in
    let small = few s es told.0 in (
      told.0,
      record { count = told.1; short = omega (arith, told.1, small); wrote = l ∙ few_collected from s es before small },
    )

-- Whatever is collected, the table is as long.
pub collected_length : (from : ℕ) (s : List ℕ) (es : List Entry) (before : List ℕ) → from * width + 256 ≤ length before →
    length (collected_table from s es before) ≡ length before
unfolding collected_table
collected_length from s es before room = cases (leb (length es) 32) refl
  where
    cases : (b : Bool) → leb (length es) 32 ≡ b →
        length (cond b (written (from * width) (flat s es) before) before) ≡ length before
    cases true t =
        written_length (from * width) (flat s es) before (omega (arith, room, flat_length s es, leb-true (length es) 32 t))
    cases false t = refl

-- The entries of a header's text stand in it.
pub text_stands : (ts : Texts) (o : ℕ) (w : List ℕ) → text_of ts o ≡ w → StandIn ts w (text_entries o w)
unfolding text_entries
text_stands ts o [] e = tt
text_stands ts o (c ∷ w) e = entries_stand registered ts (c ∷ w) o (outermost (c ∷ w)) e

module _ (header shared : List ℕ) (front : ℕ) (before : List ℕ) (f : Front header shared front before)
    (room : front * width + 256 ≤ length before) (own : List ℕ) where
  -- Whatever is collected, the first entries stay, and the table is as long.
  pub keeps : (last : List ℕ) → last ≡ collected_table front own (text_entries 2 own) before →
      (length last ≡ length before) × Front header shared front last
  unfolding collected_table written
  keeps last e = cases (leb (length (text_entries 2 own)) 32) refl e
    where
      wrote : (xs : List ℕ) → front * width + length xs ≤ length before → last ≡ written (front * width) xs before →
          (length last ≡ length before) × Front header shared front last
      wrote xs h e = (
        ap length e ∙ written_length (front * width) xs before h,
        record {
          entries = ap (entries_of front) e ∙ entries_front front before _ (omega (arith, room)) ∙ f.entries;
          printed = λ o. subst₂ (Printed (texts header shared o)) refl (sym e)
              (printed_kept (texts header shared o) front xs before (omega (arith, room)) (f.printed o));
        },
      )

      cases : (b : Bool) → leb (length (text_entries 2 own)) 32 ≡ b →
          last ≡ cond b (written (front * width) (flat own (text_entries 2 own)) before) before →
          (length last ≡ length before) × Front header shared front last
      cases true t e =
          let few = leb-true (length (text_entries 2 own)) 32 t in
          wrote (flat own (text_entries 2 own)) (omega (arith, room, flat_length own (text_entries 2 own), few)) e
      cases false t e = (
        ap length e,
        record {
          entries = ap (entries_of front) e ∙ f.entries;
          printed = λ o. subst₂ (Printed (texts header shared o)) refl (sym e) (f.printed o);
        },
      )

  -- Once they were collected: the recipient's.
  module _ (last : List ℕ) (n : ℕ) (c : Collected own (text_entries 2 own) front before last n) where
    pub all_entries : entries_of (front + n) last ≡ pieces_entries header shared own
    unfolding pieces_entries
    all_entries =
        ap₂ entries_of (ap (λ (k : ℕ). front + k) c.count) c.wrote
        ∙ entries_more front own (text_entries 2 own) before (omega (arith, room))
        ∙ ap (λ (l : List Entry). l ++ text_entries 2 own) f.entries
        ∙ append_assoc (protected_entries header) (text_entries 1 shared) (text_entries 2 own)

    pub own_entries_lem : entries_of n (drop (front * width) last) ≡ text_entries 2 own
    own_entries_lem =
        ap₂ (λ (k : ℕ) (l : List ℕ). entries_of k (drop (front * width) l)) c.count c.wrote
        ∙ entries_written_from front own (text_entries 2 own) before (omega (arith, room))

    pub all_printed : Printed (texts header shared own) (front + n) last
    all_printed =
        let ts = texts header shared own in
        subst₂ (Printed ts) (ap (λ (k : ℕ). front + k) (sym c.count)) (sym c.wrote)
        (printed_more ts front own (text_entries 2 own) before (omega (arith, room)) (text_stands ts 2 own refl) (f.printed own))

-- The entries of the protected and the shared header, one behind the other.
module _ {header shared before table last : List ℕ} {p s : ℕ} (a : Collected header (protected_entries header) 0 before table p)
    (b : Collected shared (text_entries 1 shared) p table last s) (long : length table ≡ 768) where
  pub front_is : Front header shared (p + s) last
  unfolding protected_entries
  front_is = record {
    entries = behind a b long;
    printed = λ own. (
        let ts = texts header shared own in
        let stand = entries_stand registered ts header 0 (outermost header) refl in
        let first = subst₂ (Printed ts) (sym a.count) (sym a.wrote)
        (printed_written ts header (protected_entries header) before stand) in
        subst₂ (Printed ts) (ap (λ (n : ℕ). p + n) (sym b.count)) (sym b.wrote)
        (printed_more ts p shared (text_entries 1 shared) table (omega (arith, a.short, long))
        (text_stands ts 1 shared refl) first));
  }
