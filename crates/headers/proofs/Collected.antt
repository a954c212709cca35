-- For callers of a stage that collects entries at the start of a table: what the table then holds.
use mathlib.Core.Path.{◌≡◌, refl, ap, ap₂, sym, subst₂, ◌∙◌}
use mathlib.Core.Bool.{Bool, true, false, cond}
use mathlib.Core.List.{List}
use Prim.Native.Nat.{ℕ, ◌*◌, ◌≤◌}
use native.Mathlib.Omega.{arith}
use lib.ListN.{length, length-map}
use lib.Dec.{leb, ltb}
use borrow.Author.Tests.{ltb-false, leb-true, le-leb}
use Rattle.prelude.specs.Buffer.{written}
use Rattle.prelude.proofs.Writing.{written_length}
use Rattle.names.specs.Names.{names}
use Rattle.grammar.specs.Reader.{skip_space, members_at}
use Rattle.rows.specs.Rows.{Entry, Texts, one_text, repeated, entry_of, entries_in}
use Rattle.rows.specs.Tables.{entries_of, width}
use Rattle.rows.specs.Inner.Prints.{flat, collected_table, Printed}
use Rattle.rows.proofs.Entries.{flat_length, entries_written}
use Rattle.rows.proofs.Printing.{StandIn, printed_written}
use Rattle.prelude.specs.Refusals.{first, stage_of}
use Rattle.jose.specs.Registered.{registered}
use Rattle.prelude.specs.Limits.{most_members}
use Rattle.headers.specs.Headers.{outermost, protected_entries, object_order}
use Rattle.prelude.specs.Refusals as stage
use Rattle.headers.proofs.Stages.{passed_is}

not_many : (s : List ℕ) (es : List Entry) → first (object_order s es) ≡ 0 → length es ≤ 32
unfolding first object_order
not_many s es e = cases (ltb most_members (length es)) refl (repeated false (one_text s) es) e
  where
    cases : (b : Bool) → ltb most_members (length es) ≡ b → (c : Bool) →
        ◌≡◌ {A = ℕ} (cond b 8 (cond c 9 0)) 0 → length es ≤ 32
    cases true t c e = absurd (omega arith)
    cases false t c e = ltb-false 32 (length es) t

-- What is known once they were collected at the start of a table, and 8 and 9 have passed.
pub record Kept (s : List ℕ) (es : List Entry) (before after : List ℕ) (count : ℕ) : Type 0 where
  pub passes : first (object_order s es) ≡ 0
  pub size : count ≡ length es
  pub left : after ≡ written 0 (flat s es) before
  pub entries : entries_of count after ≡ es
  pub same : length after ≡ length before
  pub fits : count * width ≤ length after

-- Whatever the answer, the table is as long as it was.
pub table_length : (s : List ℕ) (es : List Entry) (before : List ℕ) → 256 ≤ length before →
    length (collected_table 0 s es before) ≡ length before
unfolding collected_table
table_length s es before room = cases (leb (length es) 32) refl
  where
    cases : (b : Bool) → leb (length es) 32 ≡ b → length (cond b (written 0 (flat s es) before) before) ≡ length before
    cases true t =
        written_length 0 (flat s es) before (omega (arith, flat_length s es, leb-true (length es) 32 t))
    cases false t = refl

pub kept_passed : (s : List ℕ) (es : List Entry) (before after : List ℕ) (count : ℕ) → 256 ≤ length before →
    stage.Passed count ≡ stage_of (first (object_order s es)) (length es) → after ≡ collected_table 0 s es before →
    Kept s es before after count
unfolding collected_table
kept_passed s es before after count room e l =
    let p = passed_is count (first (object_order s es)) (length es) e in
    let few = not_many s es p.0 in
    let left : after ≡ written 0 (flat s es) before =
    l ∙ ap (λ (b : Bool). cond b (written 0 (flat s es) before) before) (le-leb (length es) 32 few) in
    let same = ap length left ∙ written_length 0 (flat s es) before (omega (arith, flat_length s es, few)) in
    record {
      passes = p.0;
      size = p.1;
      left = left;
      entries = ap₂ entries_of p.1 left ∙ entries_written s es before;
      same = same;
      fits = omega (arith, same, few, p.1);
    }

-- Its entries have the fingerprints of their names.
pub kept_printed : (ts : Texts) {s : List ℕ} {es : List Entry} {before after : List ℕ} {count : ℕ} →
    Kept s es before after count → StandIn ts s es → Printed ts count after
kept_printed ts {s} {es} {before} k h =
    subst₂ (Printed ts) (sym k.size) (sym k.left) (printed_written ts s es before h)

-- The parameters of the protected header, by the list of the registered names in the source.
module _ (header list : List ℕ) (at : ℕ) (l : names list ≡ registered) (a : at ≡ skip_space header 0) where
  pub entries_are : entries_in (names list) header 0 (members_at 12 header at) ≡ protected_entries header
  unfolding protected_entries outermost
  entries_are = ap₂ (λ (ns : List (List ℕ)) (k : ℕ). entries_in ns header 0 (members_at 12 header k)) l a

  count_is : length (members_at 12 header at) ≡ length (protected_entries header)
  unfolding entries_in
  count_is =
      sym (length-map (members_at 12 header at) (entry_of (names list) header 0)) ∙ ap length entries_are

  pub stage_is : stage_of (first (object_order header (entries_in (names list) header 0 (members_at 12 header at))))
      (length (members_at 12 header at))
      ≡ stage_of (first (object_order header (protected_entries header))) (length (protected_entries header))
  stage_is =
      ap₂ (λ (es : List Entry) (k : ℕ). stage_of (first (object_order header es)) k) entries_are count_is
