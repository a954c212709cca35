-- Entries of the rows that json collects: one row after the other, and the whole, of which the numbers fit a table.
use mathlib.Core.Path.{◌≡◌, refl, ap, ap₂, sym, subst, ◌∙◌}
use mathlib.Core.Bool.{Bool, true, false, cond}
use mathlib.Core.List.{List, [], ◌∷◌, ◌++◌}
use Prim.Native.Nat.{ℕ, zero, suc, ◌+◌, ◌-◌, ◌*◌, ◌≤◌, ◌<◌}
use native.Mathlib.Omega.{arith}
use lib.ListN.{length, take, drop, get_or, length-take, length-map}
use lib.Seq.{drop-drop, get_or-take, get_or-drop, take_all}
use lib.Dec.{leb}
use borrow.Author.Tests.{leb-true, leb-false, le-leb, lt-leb}
use Rattle.prelude.specs.Buffer.{AllBelow, written}
use Rattle.prelude.proofs.Lists.{below_at, all_below}
use Rattle.prelude.proofs.Writing.{Writing, begin_as, begins}
use Rattle.parts.specs.Parts.{part}
use Rattle.names.specs.Names.{number_in}
use Rattle.grammar.specs.Places.{Member}
use Rattle.grammar.specs.Spellings.{undo}
use Rattle.spelling.specs.Inner.Fingerprints.{fingerprint}
use Rattle.json_read.specs.Members as rows
use Rattle.std.specs.Prelude.{Some, None}
use Rattle.json_read.proofs.MemberTable as table
use Rattle.json_read.specs.Members.{member_width}
use Rattle.rows.specs.Rows.{entry_of, entries_in}
use Rattle.rows.specs.Tables.{width}
use Rattle.rows.specs.Inner.Members.{first_member, members_of}
use Rattle.rows.specs.Inner.Prints.{table_row, flat, collected_table}
use Rattle.rows.proofs.Entries.{flat_length}

-- The numbers of an entry, as they are read and found.
pub entry_numbers : (names : List (List ℕ)) (s : List ℕ) (o : ℕ) (row name : List ℕ) (number print : ℕ) →
    name ≡ part s (get_or row 0 0) (get_or row 1 0) → number ≡ number_in names name → print ≡ fingerprint (undo name) →
    table_row s (entry_of names s o (first_member row))
    ≡ o ∷ get_or row 0 0 ∷ get_or row 1 0 ∷ get_or row 2 0 ∷ get_or row 3 0 ∷ get_or row 4 0 ∷ number ∷ print ∷ []
entry_numbers names s o row name number print n k p =
    sym (ap₂
    (λ (x y : ℕ). o ∷ get_or row 0 0 ∷ get_or row 1 0 ∷ get_or row 2 0 ∷ get_or row 3 0 ∷ get_or row 4 0 ∷ x ∷ y ∷ [])
    (k ∙ ap (number_in names) n)
    (p ∙ ap (λ (v : List ℕ). fingerprint (undo v)) n))

-- A row by itself

member_row_lem : (t : List ℕ) → first_member t ≡ first_member (take 5 t)
member_row_lem [] = refl
member_row_lem (a ∷ []) = refl
member_row_lem (a ∷ b ∷ []) = refl
member_row_lem (a ∷ b ∷ c ∷ []) = refl
member_row_lem (a ∷ b ∷ c ∷ d ∷ []) = refl
member_row_lem (a ∷ b ∷ c ∷ d ∷ e ∷ rest) = refl

-- Part of a list whose front is below a limit.
pub below_inside : (limit n k m : ℕ) (s : List ℕ) → AllBelow limit (take m s) → k + n ≤ m → m ≤ length s →
    AllBelow limit (take n (drop k s))
below_inside limit n k m s h room all = all_below limit (take n (drop k s)) each
  where
    each : (j : ℕ) → j < length (take n (drop k s)) → get_or (take n (drop k s)) j 0 < limit
    each j l =
        let few : j < n = omega (arith, length-take n (drop k s)) in
        let same : get_or (take m s) (k + j) 0 ≡ get_or (take n (drop k s)) j 0 =
        get_or-take m s (k + j) 0 (omega arith) ∙ sym (get_or-take n (drop k s) j 0 few ∙ get_or-drop k s j 0) in
        subst (λ (x : ℕ). x < limit) same
        (below_at limit (take m s) h (k + j) (omega (arith, length-take m s)))

-- Entries from row i on
module _ (names : List (List ℕ)) (s : List ℕ) (o count i : ℕ) (rows : List ℕ) where
  pub entries_next : (n : ℕ) → n ≡ 5 → i < count →
      flat s (entries_in names s o (members_of (count - i) (drop (i * member_width) rows)))
      ≡ table_row s (entry_of names s o (first_member (take n (drop (i * member_width) rows))))
      ++ flat s (entries_in names s o (members_of (count - (i + 1)) (drop ((i + 1) * member_width) rows)))
  unfolding flat entries_in members_of
  entries_next n e h =
      let left : count - i ≡ suc (count - (i + 1)) = omega arith in
      let at : i * member_width + member_width ≡ (i + 1) * member_width = omega arith in
      let row : first_member (drop (i * member_width) rows) ≡ first_member (take n (drop (i * member_width) rows)) =
      member_row_lem (drop (i * member_width) rows) ∙ ap (λ (k : ℕ). first_member (take k (drop (i * member_width) rows))) (sym e) in
      ap (λ (k : ℕ). flat s (entries_in names s o (members_of k (drop (i * member_width) rows)))) left
      ∙ ap₂
      (λ (m : Member) (t : List ℕ).
      table_row s (entry_of names s o m) ++ flat s (entries_in names s o (members_of (count - (i + 1)) t)))
      row
      (drop-drop 5 (i * member_width) rows ∙ ap (λ (k : ℕ). drop k rows) at)

  pub entries_none : count ≤ i → flat s (entries_in names s o (members_of (count - i) (drop (i * member_width) rows))) ≡ []
  unfolding flat entries_in members_of
  entries_none h =
      let left : count - i ≡ 0 = omega arith in
      ap (λ (k : ℕ). flat s (entries_in names s o (members_of k (drop (i * member_width) rows)))) left

-- All of them, before the first is written.
module _ (names : List (List ℕ)) (s : List ℕ) (o count : ℕ) (rows : List ℕ) where
  members_length : (n : ℕ) (t : List ℕ) → length (members_of n t) ≡ n
  unfolding members_of
  members_length zero t = refl
  members_length (suc n) t = ap suc (members_length n (drop 5 t))

  entries_size : length (flat s (entries_in names s o (members_of count rows))) ≡ count * width
  unfolding entries_in
  entries_size =
      flat_length s (entries_in names s o (members_of count rows))
      ∙ omega (arith, length-map (members_of count rows) (entry_of names s o), members_length count rows)

  pub entries_begin : (from : ℕ) (before : List ℕ) → from * width + count * width ≤ length before →
      Writing (from * width) (flat s (entries_in names s o (members_of count rows))) before
      (flat s (entries_in names s o (members_of (count - 0) rows))) ((from + 0) * width) before
  entries_begin from before h =
      let all : count ≡ count - 0 = omega arith in
      let at : from * width ≡ (from + 0) * width = omega arith in
      subst
      (λ (j : ℕ).
      Writing (from * width) (flat s (entries_in names s o (members_of count rows))) before
      (flat s (entries_in names s o (members_of (count - 0) rows))) j before)
      at
      (begin_as (from * width) (flat s (entries_in names s o (members_of count rows))) _ before
      (ap (λ (k : ℕ). flat s (entries_in names s o (members_of k rows))) all) (omega (arith, entries_size)))

-- Rows that were laid flat are read back
members_flat : (ms : List Member) (rest : List ℕ) → members_of (length ms) (rows.flat ms ++ rest) ≡ ms
unfolding members_of rows.flat
members_flat [] rest = refl
members_flat (m ∷ ms) rest = ap (λ (l : List Member). m ∷ l) (members_flat ms rest)

-- An object of at most 32 members, as json answers it
module _ (ms : List Member) (count : ℕ) (answered : Some count ≡ rows.collected_of ms) where
  few_counted : (length ms ≤ 32) × (length ms ≡ count)
  unfolding rows.collected_of
  few_counted = cases (leb (length ms) 32) refl answered
    where
      cases : (b : Bool) → leb (length ms) 32 ≡ b → Some count ≡ cond b (Some (length ms)) None →
          (length ms ≤ 32) × (length ms ≡ count)
      cases true t e = let same : count ≡ length ms = cc in (leb-true (length ms) 32 t, sym same)
      cases false t e = let z : ◌≡◌ {A = ℕ} 0 1 = cc in absurd (omega arith)

  pub few : count ≤ 32
  few = omega (arith, few_counted.0, few_counted.1)

  module _ (all before : List ℕ) (laid : all ≡ written 0 (rows.flat (take 32 ms)) before) where
    all_laid : all ≡ written 0 (rows.flat ms) before
    all_laid = laid ∙ ap (λ (l : List Member). written 0 (rows.flat l) before) (take_all 32 ms few_counted.0)

    pub rows_laid : take (count * member_width) all ≡ rows.flat ms
    rows_laid =
        begins (count * member_width) (rows.flat ms) all before (table.flat_length ms ∙ omega (arith, few_counted.1)) all_laid

    members_laid : members_of count all ≡ ms
    unfolding written
    members_laid = ap₂ members_of (sym few_counted.1) all_laid ∙ members_flat ms _

    -- A table in which the entries of the rows were written has those of the members.
    pub entries_collected : (names : List (List ℕ)) (s : List ℕ) (o from : ℕ) (t last : List ℕ) →
        last ≡ written (from * width) (flat s (entries_in names s o (members_of count all))) t →
        last ≡ collected_table from s (entries_in names s o ms) t
    unfolding collected_table entries_in
    entries_collected names s o from t last e =
        let fits : length (entries_in names s o ms) ≤ 32 =
        omega (arith, few_counted.0, length-map ms (entry_of names s o)) in
        e
        ∙ ap (λ (l : List Member). written (from * width) (flat s (entries_in names s o l)) t) members_laid
        ∙ sym (ap (λ (b : Bool). cond b (written (from * width) (flat s (entries_in names s o ms)) t) t)
        (le-leb (length (entries_in names s o ms)) 32 fits))

-- Where there are more the table is unchanged.
pub none_collected : (ms : List Member) → None ≡ rows.collected_of ms → (names : List (List ℕ)) (s : List ℕ) (o from : ℕ)
    (before : List ℕ) → before ≡ collected_table from s (entries_in names s o ms) before
unfolding rows.collected_of collected_table entries_in
none_collected ms answered names s o from before = cases (leb (length ms) 32) refl answered
  where
    cases : (b : Bool) → leb (length ms) 32 ≡ b → None ≡ cond b (Some (length ms)) None →
        before ≡ collected_table from s (entries_in names s o ms) before
    cases true t e = let z : ◌≡◌ {A = ℕ} 0 1 = cc in absurd (omega arith)
    cases false t e =
        let over : 32 < length (entries_in names s o ms) =
        omega (arith, leb-false (length ms) 32 t, length-map ms (entry_of names s o)) in
        sym (ap (λ (b : Bool). cond b (written (from * width) (flat s (entries_in names s o ms)) before) before)
        (lt-leb (length (entries_in names s o ms)) 32 over))
