-- A table of members: the rows collected so far, laid flat, and one more.
use mathlib.Core.Path.{◌≡◌, refl, ap, ap₂, sym, ◌∙◌}
use mathlib.Core.List.{List, [], ◌∷◌, ◌++◌, append_assoc, append-nil}
use Prim.Native.Nat.{ℕ, ◌+◌, ◌*◌, ◌≤◌, ◌<◌}
use native.Mathlib.Numerals.{add-one}
use native.Mathlib.Omega.{arith}
use lib.ListN.{length, take, drop, length-append, length-drop, length-take, drop_of_length-le}
use lib.Seq.{take-suc, drop-cons, take_at, drop_at, take_all, drop-drop}
use borrow.Author.Tests.{le-leb, lt-leb}
use Rattle.prelude.specs.Buffer.{written}
use Rattle.prelude.proofs.Writing.{written_length}
use Rattle.grammar.specs.Places as places
use Rattle.json_read.specs.Members.{numbers, flat, collected_of, member_width}
use Rattle.std.specs.Prelude.{Some, None}

pub flat_length : (rows : List places.Member) → length (flat rows) ≡ 5 * length rows
unfolding flat
flat_length [] = refl
flat_length (m ∷ rest) = length-append (numbers m) (flat rest) ∙ omega (arith, flat_length rest)

flat_append : (xs ys : List places.Member) → flat (xs ++ ys) ≡ flat xs ++ flat ys
unfolding flat
flat_append [] ys = refl
flat_append (m ∷ rest) ys =
    ap (λ (l : List ℕ). numbers m ++ l) (flat_append rest ys) ∙ sym (append_assoc (numbers m) (flat rest) (flat ys))

pub written_none : (table : List ℕ) → table ≡ written 0 [] table
unfolding written
written_none table = let e : 0 ≡ 0 + 0 = refl in ap (λ (n : ℕ). drop n table) e

written_more : (n : ℕ) (xs ys table : List ℕ) → n ≡ length xs → written n ys (written 0 xs table) ≡ written 0 (xs ++ ys) table
unfolding written
written_more n xs ys table e =
    let rest = drop (0 + length xs) table in
    let later : drop (n + length ys) (xs ++ rest) ≡ drop (0 + length (xs ++ ys)) table =
    sym (drop-drop (length ys) n (xs ++ rest)) ∙ ap (drop (length ys)) (drop_at xs rest n (sym e))
    ∙ drop-drop (length ys) (0 + length xs) table
    ∙ (let k : (0 + length xs) + length ys ≡ 0 + length (xs ++ ys) = omega (arith, length-append xs ys) in
    ap (λ (m : ℕ). drop m table) k) in
    ap₂ (λ (a b : List ℕ). a ++ (ys ++ b)) (take_at xs rest n (sym e)) later
    ∙ sym (append_assoc xs ys (drop (0 + length (xs ++ ys)) table))

-- one row more
module _ (rows rest : List places.Member) (m : places.Member) (count : ℕ) (here : drop count rows ≡ m ∷ rest) where
  pub inside : count < length rows
  inside = omega (arith, length-drop count rows, ap length here)

  next_row : drop count rows ≡ m ∷ drop (count + 1) rows
  next_row =
      let e = drop-cons rows count m inside in
      let same : lib.ListN.get_or rows count m ≡ m = let f = sym e ∙ here in cc in
      e ∙ ap₂ ◌∷◌ same (ap (λ (n : ℕ). drop n rows) (sym (add-one count)))

  pub drop_more : drop (count + 1) rows ≡ rest
  drop_more = let e = sym next_row ∙ here in cc

  take_more : take (count + 1) rows ≡ take count rows ++ (m ∷ [])
  take_more =
      let e = drop-cons rows count m inside in
      let same : lib.ListN.get_or rows count m ≡ m = let f = sym e ∙ here in cc in
      ap (λ (n : ℕ). take n rows) (add-one count) ∙ take-suc rows count m inside
      ∙ ap (λ (x : places.Member). take count rows ++ (x ∷ [])) same

  pub table_more : (before table next five : List ℕ) → table ≡ written 0 (flat (take count rows)) before
      → five ≡ numbers m → next ≡ written (count * member_width) five table → next ≡ written 0 (flat (take (count + 1) rows)) before
  unfolding flat
  table_more before table next five t f n =
      let size : count * member_width ≡ length (flat (take count rows)) =
      omega (arith, flat_length (take count rows), length-take count rows, inside) in
      let row : flat (m ∷ []) ≡ five = append-nil (numbers m) ∙ sym f in
      let all : flat (take (count + 1) rows) ≡ flat (take count rows) ++ five =
      ap flat take_more ∙ flat_append (take count rows) (m ∷ []) ∙ ap (λ (l : List ℕ). flat (take count rows) ++ l) row in
      n ∙ ap (written (count * member_width) five) t ∙ written_more (count * member_width) (flat (take count rows)) five before size
      ∙ ap (λ (l : List ℕ). written 0 l before) (sym all)

-- no row is left
module _ (rows : List places.Member) (count : ℕ) (most : count ≤ 32) (all : count ≤ length rows) (none : drop count rows ≡ []) where
  counted : length rows ≡ count
  counted = omega (arith, length-drop count rows, ap length none)

  pub rows_all : Some count ≡ collected_of rows
  unfolding collected_of
  rows_all = simp (counted, le-leb count 32 most)

  pub table_all : take count rows ≡ take 32 rows
  table_all =
      take_all count rows (omega (arith, counted)) ∙ sym (take_all 32 rows (omega (arith, counted)))

-- there are more than a table holds
pub rows_over : (rows rest : List places.Member) (m : places.Member) (count : ℕ) → count ≡ 32 → drop count rows ≡ m ∷ rest
    → None ≡ collected_of rows
unfolding collected_of
rows_over rows rest m count e here = simp (lt-leb (length rows) 32 (omega (arith, inside rows rest m count here)))

-- the table keeps its length
pub table_length : (rows : List places.Member) (count : ℕ) (before table : List ℕ) → count ≤ 32 → 160 ≤ length before
    → table ≡ written 0 (flat (take count rows)) before → length table ≡ length before
table_length rows count before table most room e =
    ap length e
    ∙ written_length 0 (flat (take count rows)) before
    (omega (arith, flat_length (take count rows), length-take count rows))
