-- The members of an object collected as entries of a table: the table from the first of them on, and refusals 8 and 9.
use mathlib.Core.Path.{◌≡◌, refl, ap, ap₂, sym, subst₂, ◌∙◌}
use mathlib.Core.Bool.{Bool, true, false, cond}
use mathlib.Core.List.{List}
use Prim.Native.Nat.{ℕ, ◌+◌, ◌-◌, ◌*◌, ◌≤◌}
use native.Mathlib.Omega.{arith}
use lib.ListN.{length, take, drop, length-drop, length-map}
use lib.Seq.{take_all}
use lib.Dec.{ltb}
use borrow.Author.Tests.{ltb-false, le-leb}
use Rattle.prelude.specs.Buffer.{written}
use Rattle.prelude.proofs.Writing.{written_length}
use Rattle.grammar.specs.Places.{Member}
use Rattle.json_read.specs.Members.{collected_of}
use Rattle.std.specs.Prelude.{Option, Some, None}
use Rattle.rows.specs.Rows.{Entry, one_text, entry_of, entries_in, repeated}
use Rattle.rows.specs.Tables.{entries_of, width}
use Rattle.rows.specs.Inner.Prints.{flat, collected_table, Printed}
use Rattle.rows.proofs.Entries.{flat_length, entries_written_from}
use Rattle.rows.proofs.Printing.{stand_in_one, printed_written_from}
use Rattle.prelude.specs.Refusals.{first, stage_of}
use Rattle.headers.specs.Headers.{object_order}
use Rattle.prelude.specs.Refusals.{Passed, Refused}
use Rattle.headers.proofs.Bounds.{either_way}

-- What collecting answers, by how many entries there are.
abbrev pub collected_as : List Entry → Option ℕ
collected_as es = cond (ltb 32 (length es)) None (Some (length es))

-- A table from an entry on, as it is lent.
abbrev pub rest : ℕ → List ℕ → List ℕ
rest from t = take (length t - from * width) (drop (from * width) t)

rest_is : (from : ℕ) (t : List ℕ) → rest from t ≡ drop (from * width) t
rest_is from t = take_all (length t - from * width) (drop (from * width) t) (omega (arith, length-drop (from * width) t))

-- What is known where the entries were collected, of an object that stands in the text s.
pub record Collects (s : List ℕ) (es : List Entry) (from : ℕ) (last : List ℕ) (count : ℕ) : Type 0 where
  pub few : ltb 32 (length es) ≡ false
  pub counted : count ≡ length es
  pub fits : count * width ≤ length (rest from last)
  pub entries : entries_of count (rest from last) ≡ es
  pub printed : Printed (one_text s) count (rest from last)

module _ (s : List ℕ) (es : List Entry) (from count : ℕ) (before last : List ℕ)
    (room : from * width + 256 ≤ length before) (left : last ≡ collected_table from s es before) where
  written_is : length es ≤ 32 → last ≡ written (from * width) (flat s es) before
  unfolding collected_table
  written_is h =
      left ∙ ap (λ (b : Bool). cond b (written (from * width) (flat s es) before) before) (le-leb (length es) 32 h)

  pub collects : Some count ≡ collected_as es → Collects s es from last count
  collects e = whole (cases (ltb 32 (length es)) refl e)
    where
      cases : (b : Bool) → ltb 32 (length es) ≡ b → Some count ≡ cond b None (Some (length es)) →
          (ltb 32 (length es) ≡ false) × (count ≡ length es)
      cases true t e = let z : ◌≡◌ {A = ℕ} 0 1 = cc in absurd (omega arith)
      cases false t e = (t, cc)

      whole : (ltb 32 (length es) ≡ false) × (count ≡ length es) → Collects s es from last count
      whole p =
          let within : length es ≤ 32 = ltb-false 32 (length es) p.0 in
          let w : last ≡ written (from * width) (flat s es) before = written_is within in
          let size = flat_length s es in
          let same : length (written (from * width) (flat s es) before) ≡ length before =
          written_length (from * width) (flat s es) before (omega arith) in
          let is : rest from last ≡ drop (from * width) (written (from * width) (flat s es) before) =
          rest_is from last ∙ ap (drop (from * width)) w in
          record {
            few = p.0;
            counted = p.1;
            fits = omega (arith, ap length (rest_is from last), length-drop (from * width) last, ap length w, p.1);
            entries = ap₂ entries_of p.1 is ∙ entries_written_from from s es before (omega arith);
            printed =
                subst₂ (Printed (one_text s)) (sym p.1) (sym is)
                (printed_written_from (one_text s) from s es before (omega arith) (stand_in_one s es));
          }

-- Refusals 8 and 9

stage_of_lem : (s : List ℕ) (es : List Entry) (n : ℕ) (many twice : Bool) → ltb 32 (length es) ≡ many →
    repeated false (one_text s) es ≡ twice →
    stage_of (first (object_order s es)) n ≡ stage_of (cond many 8 (cond twice 9 0)) n
unfolding first object_order
stage_of_lem s es n many twice m t = ap₂ (λ (x y : Bool). stage_of (cond x 8 (cond y 9 0)) n) m t

module _ (names : List (List ℕ)) (s : List ℕ) (o : ℕ) (ms : List Member) where
  entries_count : length (entries_in names s o ms) ≡ length ms
  unfolding entries_in
  entries_count = length-map ms (entry_of names s o)

  pub collected_is : collected_of ms ≡ collected_as (entries_in names s o ms)
  unfolding collected_of
  collected_is =
      either_way 32 (length ms) (Some (length ms)) None
      ∙ ap (λ (n : ℕ). cond (ltb 32 n) None (Some n)) (sym entries_count)

  pub refused_8 : None ≡ collected_of ms →
      Refused 8 ≡ stage_of (first (object_order s (entries_in names s o ms))) (length ms)
  unfolding stage_of
  refused_8 e =
      let es = entries_in names s o ms in
      sym (stage_of_lem s es (length ms) true (repeated false (one_text s) es)
      (cases (ltb 32 (length es)) (e ∙ collected_is)) refl)
    where
      cases : (b : Bool) → None ≡ cond b None (Some (length (entries_in names s o ms))) → b ≡ true
      cases true e = refl
      cases false e = let z : ◌≡◌ {A = ℕ} 0 1 = cc in absurd (omega arith)

  module _ {from count : ℕ} {last : List ℕ} (k : Collects s (entries_in names s o ms) from last count) {answer : Bool}
      (a : answer ≡ repeated false (one_text s) (entries_of count (rest from last))) where
    repeated_is : repeated false (one_text s) (entries_in names s o ms) ≡ answer
    repeated_is = sym (a ∙ ap (repeated false (one_text s)) k.entries)

    pub refused_9 : answer ≡ true → Refused 9 ≡ stage_of (first (object_order s (entries_in names s o ms))) (length ms)
    unfolding stage_of
    refused_9 e = sym (stage_of_lem s (entries_in names s o ms) (length ms) false true k.few (repeated_is ∙ e))

    pub passed : answer ≡ false → Passed count ≡ stage_of (first (object_order s (entries_in names s o ms))) (length ms)
    unfolding stage_of
    passed e =
        ap Passed (k.counted ∙ entries_count)
        ∙ sym (stage_of_lem s (entries_in names s o ms) (length ms) false false k.few (repeated_is ∙ e))
