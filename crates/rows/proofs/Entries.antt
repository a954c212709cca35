-- Entries laid flat and read back: what a table holds after entries were written, and the entry that a turn of a loop
-- reads.
use mathlib.Core.Path.{◌≡◌, refl, ap, ap₂, sym, ◌∙◌}
use mathlib.Core.List.{List, [], ◌∷◌, ◌++◌}
use Prim.Native.Nat.{ℕ, zero, suc, ◌+◌, ◌-◌, ◌*◌, ◌≤◌, ◌<◌}
use native.Mathlib.Omega.{arith}
use lib.ListN.{length, take, drop, get_or, length-drop, drop_of_length-le}
use lib.Seq.{drop-drop, drop_at, take-add, length-take-le}
use Rattle.prelude.specs.Buffer.{written}
use Rattle.rows.specs.Rows.{Entry}
use Rattle.rows.specs.Tables.{list_row, listed, first_of, entries_of, width, list_width}
use Rattle.rows.specs.Inner.Prints.{flat}

-- Lengths, and one list after another

pub flat_length : (s : List ℕ) (es : List Entry) → length (flat s es) ≡ length es * width
unfolding flat
flat_length s [] = refl
flat_length s (e ∷ es) = omega (arith, flat_length s es)

pub listed_length : (es : List Entry) → length (listed es) ≡ length es * list_width
unfolding listed
listed_length [] = refl
listed_length (e ∷ es) = omega (arith, listed_length es)

pub entries_length : (count : ℕ) (t : List ℕ) → length (entries_of count t) ≡ count
unfolding entries_of
entries_length zero t = refl
entries_length (suc n) t = ap suc (entries_length n (drop width t))

pub listed_append : (es fs : List Entry) → listed (es ++ fs) ≡ listed es ++ listed fs
unfolding listed
listed_append [] fs = refl
listed_append (e ∷ es) fs = ap (λ (l : List ℕ). list_row e ++ l) (listed_append es fs)

-- What was laid flat is read back

pub entries_flat : (s : List ℕ) (es : List Entry) (rest : List ℕ) → entries_of (length es) (flat s es ++ rest) ≡ es
unfolding entries_of flat
entries_flat s [] rest = refl
entries_flat s (e ∷ es) rest = ap (λ (l : List Entry). e ∷ l) (entries_flat s es rest)

-- The numbers of the first entry: its own seven, and the fingerprint.
abbrev pub eight : List ℕ → List ℕ
eight t = list_row (first_of t) ++ ((first_of t).number ∷ get_or t 7 0 ∷ [])

pub eight_first : (t : List ℕ) → width ≤ length t → take width t ≡ eight t
eight_first [] h = absurd (omega arith)
eight_first (a ∷ []) h = absurd (omega arith)
eight_first (a ∷ b ∷ []) h = absurd (omega arith)
eight_first (a ∷ b ∷ c ∷ []) h = absurd (omega arith)
eight_first (a ∷ b ∷ c ∷ d ∷ []) h = absurd (omega arith)
eight_first (a ∷ b ∷ c ∷ d ∷ e ∷ []) h = absurd (omega arith)
eight_first (a ∷ b ∷ c ∷ d ∷ e ∷ f ∷ []) h = absurd (omega arith)
eight_first (a ∷ b ∷ c ∷ d ∷ e ∷ f ∷ g ∷ []) h = absurd (omega arith)
eight_first (a ∷ b ∷ c ∷ d ∷ e ∷ f ∷ g ∷ i ∷ rest) h = refl

-- The front of a table, by its first entry and the front behind that.
pub front_next : (n : ℕ) (t rest : List ℕ) → suc n * width ≤ length t →
    take (suc n * width) t ++ rest ≡ eight t ++ (take (n * width) (drop width t) ++ rest)
front_next n t rest h =
    let sum : suc n * width ≡ width + n * width = omega arith in
    ap (λ (k : ℕ). take k t ++ rest) sum ∙ ap (λ (l : List ℕ). l ++ rest) (take-add width (n * width) t)
    ∙ ap (λ (l : List ℕ). (l ++ take (n * width) (drop width t)) ++ rest) (eight_first t (omega arith))

-- From an entry on

pub drop_entries : (i count : ℕ) (t : List ℕ) → drop i (entries_of count t) ≡ entries_of (count - i) (drop (i * width) t)
unfolding entries_of
drop_entries zero count t = let e : count ≡ count - 0 = omega arith in ap (λ (n : ℕ). entries_of n t) e
drop_entries (suc i) zero t =
    let e : 0 ≡ 0 - suc i = omega arith in ap (λ (n : ℕ). entries_of n (drop (suc i * width) t)) e
drop_entries (suc i) (suc n) t =
    let left : n - i ≡ suc n - suc i = omega arith in
    let at : width + i * width ≡ suc i * width = omega arith in
    drop_entries i n (drop width t)
    ∙ ap₂ entries_of left (drop-drop (i * width) width t ∙ ap (λ (k : ℕ). drop k t) at)

-- The entry that a loop is at, and those behind it.
pub entry_at : (i count : ℕ) (t : List ℕ) → i < count →
    drop i (entries_of count t) ≡ first_of (drop (i * width) t) ∷ drop (i + 1) (entries_of count t)
unfolding entries_of
entry_at i count t h =
    let left : count - i ≡ suc (count - (i + 1)) = omega arith in
    let at : i * width + width ≡ (i + 1) * width = omega arith in
    let behind : entries_of (count - (i + 1)) (drop width (drop (i * width) t)) ≡ drop (i + 1) (entries_of count t) =
    ap (entries_of (count - (i + 1))) (drop-drop width (i * width) t ∙ ap (λ (k : ℕ). drop k t) at)
    ∙ sym (drop_entries (i + 1) count t) in
    drop_entries i count t ∙ ap (λ (n : ℕ). entries_of n (drop (i * width) t)) left
    ∙ ap (λ (l : List Entry). first_of (drop (i * width) t) ∷ l) behind

pub entries_done : (i count : ℕ) (t : List ℕ) → count ≤ i → drop i (entries_of count t) ≡ []
entries_done i count t h = drop_of_length-le (entries_of count t) {i = i} (omega (arith, entries_length count t))

-- The first entries are unchanged where the front of the table is; behind them come the others.

pub entries_split : (m n : ℕ) (t : List ℕ) → entries_of (m + n) t ≡ entries_of m t ++ entries_of n (drop (m * width) t)
unfolding entries_of
entries_split zero n t = let e : 0 + n ≡ n = omega arith in ap (λ (k : ℕ). entries_of k t) e
entries_split (suc m) n t =
    let e : suc m + n ≡ suc (m + n) = omega arith in
    let at : width + m * width ≡ suc m * width = omega arith in
    ap (λ (k : ℕ). entries_of k t) e
    ∙ ap (λ (l : List Entry). first_of t ∷ l)
    (entries_split m n (drop width t)
    ∙ ap (λ (l : List ℕ). entries_of m (drop width t) ++ entries_of n l)
    (drop-drop (m * width) width t ∙ ap (λ (k : ℕ). drop k t) at))

pub entries_front : (count : ℕ) (t rest : List ℕ) → count * width ≤ length t →
    entries_of count (take (count * width) t ++ rest) ≡ entries_of count t
unfolding entries_of
entries_front zero t rest h = refl
entries_front (suc n) t rest h =
    ap (entries_of (suc n)) (front_next n t rest h)
    ∙ ap (λ (l : List Entry). first_of t ∷ l) (entries_front n (drop width t) rest (omega (arith, length-drop width t)))

-- Entries that were written

pub entries_written : (s : List ℕ) (es : List Entry) (table : List ℕ) →
    entries_of (length es) (written 0 (flat s es) table) ≡ es
unfolding written
entries_written s es table = entries_flat s es (drop (0 + length (flat s es)) table)

-- From the entry `from` on.
module _ (from : ℕ) (s : List ℕ) (es : List Entry) (table : List ℕ) (h : from * width ≤ length table) where
  pub drop_written : drop (from * width) (written (from * width) (flat s es) table)
      ≡ flat s es ++ drop (from * width + length (flat s es)) table
  unfolding written
  drop_written = drop_at (take (from * width) table) _ (from * width) (length-take-le (from * width) table h)

  pub entries_written_from :
      entries_of (length es) (drop (from * width) (written (from * width) (flat s es) table)) ≡ es
  entries_written_from = ap (entries_of (length es)) drop_written ∙ entries_flat s es _

  -- Those before it, and these.
  pub entries_more :
      entries_of (from + length es) (written (from * width) (flat s es) table) ≡ entries_of from table ++ es
  unfolding written
  entries_more =
      entries_split from (length es) (written (from * width) (flat s es) table)
      ∙ ap₂ ◌++◌ (entries_front from table _ h) entries_written_from
