-- The lines of a list of parameters, six numbers each: one after the other, and as those of the entries that it lists.
use mathlib.Core.Path.{◌≡◌, refl, ap, ap₂, ◌∙◌}
use mathlib.Core.List.{List, [], ◌∷◌, ◌++◌}
use Prim.Native.Nat.{ℕ, suc, ◌+◌, ◌-◌, ◌*◌, ◌≤◌, ◌<◌}
use native.Mathlib.Omega.{arith}
use lib.ListN.{length, take, drop}
use lib.Seq.{drop-drop}
use Rattle.rows.specs.Rows.{Entry}
use Rattle.rows.specs.Tables.{listed, first_of, list_width}
use Rattle.report.specs.Report.{parameter_line, parameter_lines}
use Rattle.report.specs.Answers.{list_lines}

-- The lines from the i-th parameter on.
abbrev pub lines_from : ℕ → List ℕ → ℕ → List ℕ
lines_from count list i = list_lines (count - i) (drop (i * list_width) list)

module _ (count : ℕ) (list : List ℕ) where
  pub lines_all : list_lines count list ≡ lines_from count list 0
  lines_all = let all : count ≡ count - 0 = omega arith in ap (λ (n : ℕ). list_lines n list) all

  -- the first of them, by the part that the code lends
  pub lines_next : (i : ℕ) → i < count →
      lines_from count list i
      ≡ parameter_line (first_of (take (i * list_width + list_width - i * list_width) (drop (i * list_width) list))) ++ lines_from count list (i + 1)
  unfolding list_lines
  lines_next i h =
      let more : count - i ≡ suc (count - (i + 1)) = omega arith in
      let width : list_width ≡ i * list_width + list_width - i * list_width = omega arith in
      let place : i * list_width + list_width ≡ (i + 1) * list_width = omega arith in
      ap (λ (n : ℕ). list_lines n (drop (i * list_width) list)) more
      ∙ ap₂ (λ (k : ℕ) (l : List ℕ). parameter_line (first_of (take k (drop (i * list_width) list))) ++ list_lines (count - (i + 1)) l)
      width (drop-drop list_width (i * list_width) list ∙ ap (λ (k : ℕ). drop k list) place)

  pub lines_none : (i : ℕ) → count ≤ i → lines_from count list i ≡ []
  unfolding list_lines
  lines_none i h =
      let none : count - i ≡ 0 = omega arith in ap (λ (n : ℕ). list_lines n (drop (i * list_width) list)) none

pub listed_lines : (es : List Entry) (rest : List ℕ) → list_lines (length es) (listed es ++ rest) ≡ parameter_lines es
unfolding listed list_lines parameter_lines
listed_lines [] rest = refl
listed_lines (e ∷ es) rest = ap (λ (l : List ℕ). parameter_line e ++ l) (listed_lines es rest)
