-- What is shown of a header walk, beside document 01's bullet on it.
use mathlib.Core.Path.{◌≡◌, refl, ap, sym, ◌∙◌}
use mathlib.Core.Bool.{Bool, true, false, cond}
use mathlib.Core.List.{List, ◌∷◌, ◌++◌, map}
use Prim.Native.Nat.{ℕ, zero, suc, ◌≤◌, ◌<◌}
use native.Mathlib.Omega.{arith}
use lib.ListN.{length}
use lib.Dec.{eqb, ltb}
use borrow.Author.Tests.{eqb-true, eqb-false}
use denote.Ref.{Bor}
use Rattle.grammar.specs.Places.{Member}
use Rattle.grammar.specs.Reader.{Answer, nothing, found, read_text}
use Rattle.grammar.specs.Readings.{Reading}
use Rattle.grammar.proofs.Theorems.{read_sound}
use Rattle.json_read.specs.Members.{row_of}
use Rattle.rows.specs.Rows.{Entry}
use Rattle.jose.specs.Registered.{registered}
use Rattle.prelude.specs.Refusals.{first}
use Rattle.prelude.specs.Limits.{longest}
use Rattle.headers.specs.Headers.{is_nothing, unread, outermost, protected_entries, object_order}
use Rattle.headers.proofs.Outermost.{outermost_rows}
use Rattle.std.specs.Prelude as handed
use Rattle.walk.specs.Walk.{walk_order, first_offset, opened, handed_by, after, rows_of, row_or}
use Rattle.walk.proofs.Opens.{offset_refused, offset_empty, offset_first}
use Rattle.walk.proofs.Calls.{call, call_is, call_over, calls_first, count_is, collected_rows, no_rows, row_there, row_past}

-- A text that is not refused has a reading.
pub accepted_reads : (s : List ℕ) → first (walk_order s) ≡ 0 → Reading 12 s
unfolding walk_order first unread
accepted_reads s = cases (ltb longest (length s)) (read_text 12 s) refl
  where
    cases : (b : Bool) (a : Answer) → read_text 12 s ≡ a →
        ◌≡◌ {A = ℕ} (cond b 2 (cond (is_nothing a) 7 (first (object_order s (protected_entries s))))) 0 → Reading 12 s
    cases true a h e = absurd (omega arith)
    cases false nothing h e = absurd (omega arith)
    cases false (found d k) h e = read_sound 12 s d k h

-- Call k of a walk on a text that is not refused hands out row k of the text's members by the grammar; where there is no
-- such row, the end.
pub walk_hands : (x : Bor (List ℕ)) (r : Reading 12 x.now) → first (walk_order x.now) ≡ 0 → (k : ℕ) →
    handed_by (after k (opened x)) ≡ row_or (rows_of x.now r) k
walk_hands x r e k =
    call_is k (opened x)
    ∙ ap (λ (n : ℕ). call s (first_offset s n) k) e
    ∙ cases (eqb (length (protected_entries s)) 0) refl
    ∙ ap (λ (ms : List Member). row_or ms k) (outermost_rows s r)
  where
    s : List ℕ
    s = x.now

    cases : (b : Bool) → eqb (length (protected_entries x.now)) 0 ≡ b →
        call x.now (first_offset x.now 0) k ≡ row_or (outermost x.now) k
    cases true t =
        let z = eqb-true (length (protected_entries x.now)) 0 t in
        ap (λ (n : ℕ). call x.now n k) (offset_empty x.now z)
        ∙ call_over x.now k
        ∙ sym (no_rows (outermost x.now) k (sym (count_is x.now) ∙ z))
    cases false t =
        ap (λ (n : ℕ). call x.now n k)
        (offset_first x.now (eqb-false (length (protected_entries x.now)) 0 t))
        ∙ calls_first x.now k

-- So each row is handed out once, in the order of the text: with so many rows before it, by that call ..
pub walk_row : (x : Bor (List ℕ)) (r : Reading 12 x.now) → first (walk_order x.now) ≡ 0 →
    (before rest : List Member) (m : Member) → rows_of x.now r ≡ before ++ (m ∷ rest) →
    handed_by (after (length before) (opened x)) ≡ handed.Some (row_of m)
walk_row x r e before rest m h =
    walk_hands x r e (length before)
    ∙ ap (λ (ms : List Member). row_or ms (length before)) h ∙ row_there before rest m

-- .. and behind the last one there is the end, for ever.
pub walk_ends : (x : Bor (List ℕ)) (r : Reading 12 x.now) → first (walk_order x.now) ≡ 0 →
    (k : ℕ) → length (rows_of x.now r) ≤ k → handed_by (after k (opened x)) ≡ handed.None
walk_ends x r e k h = walk_hands x r e k ∙ row_past (rows_of x.now r) k h

-- The rows are the members of the entries that the reader collects of a protected header, in their order: what it lists.
pub walk_listed : (x : Bor (List ℕ)) → first (walk_order x.now) ≡ 0 → (k : ℕ) →
    handed_by (after k (opened x)) ≡ row_or (map (λ (e : Entry). e.member) (protected_entries x.now)) k
unfolding protected_entries
walk_listed x e k =
    let r = accepted_reads x.now e in
    walk_hands x r e k
    ∙ ap (λ (ms : List Member). row_or ms k)
    (sym (outermost_rows x.now r) ∙ sym (collected_rows registered x.now 0 (outermost x.now)))

-- On a text that is refused the walk is at its end.
pub walk_refused : (x : Bor (List ℕ)) → (first (walk_order x.now) ≡ 0 → ⊥) → (k : ℕ) →
    handed_by (after k (opened x)) ≡ handed.None
walk_refused x f k =
    call_is k (opened x)
    ∙ ap (λ (n : ℕ). call x.now n k) (offset_refused x.now (first (walk_order x.now)) (positive (first (walk_order x.now)) f))
    ∙ call_over x.now k
  where
    positive : (n : ℕ) → (n ≡ 0 → ⊥) → 0 < n
    positive zero g = absurd (g refl)
    positive (suc n) g = omega arith
