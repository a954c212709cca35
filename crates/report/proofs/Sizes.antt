-- How long the report on an accepted message is at most, where 32 bits hold its numbers: each has at most ten digits, and
-- each word of a table is at most as long as the longest.
use mathlib.Core.List.{List, [], ◌∷◌, ◌++◌}
use Prim.Native.Nat.{ℕ, zero, suc, ◌+◌, ◌*◌, ◌≤◌, ◌<◌}
use native.Mathlib.Omega.{arith}
use lib.ListN.{length, take, drop, get_or, length-append}
use lib.Seq.{get_or-take, get_or-drop}
use Rattle.prelude.specs.Ascii.{ascii}
use Rattle.prelude.specs.Buffer.{AllBelow}
use Rattle.grammar.specs.Places.{Place}
use Rattle.rows.specs.Tables.{first_of}
use Rattle.headers.specs.Answers.{components_of}
use Rattle.jwe.specs.Answers.{numbers}
use Rattle.jwe.specs.Answers.{Result}
use Rattle.jwe.proofs.Small.{limit, recipients_small, protected_small, key_small, iv_small, aad_small}
use Rattle.jwe.proofs.Small.{ciphertext_small, tag_small}
use Rattle.report.specs.Text.{decimal, word}
use Rattle.report.specs.Report.{forms, modes, origins, kinds, first_line, component_line, component_lines, parameter_line}
use Rattle.report.specs.Answers.{report_room, list_lines, result_report}
use Rattle.report.proofs.Decimal.{decimal_short}

-- Each of some words has at most so many octets.
abbrev Each : ℕ → List (List ℕ) → Type 0
Each m [] = Unit {0}
Each m (w ∷ ws) = (length w ≤ m) × Each m ws

word_short : (m k : ℕ) (ws : List (List ℕ)) → Each m ws → length (word k ws) ≤ m
unfolding word
word_short m k [] h = omega arith
word_short m k (w ∷ []) h = h.0
word_short m zero (w ∷ v ∷ ws) h = h.0
word_short m (suc zero) (w ∷ v ∷ ws) h = h.0
word_short m (suc (suc k)) (w ∷ v ∷ ws) h = word_short m (suc k) (v ∷ ws) h.1

form_short : (k : ℕ) → length (word k forms) ≤ 9
unfolding forms ascii
form_short k = word_short 9 k forms (omega arith, (omega arith, (omega arith, tt)))

mode_short : (k : ℕ) → length (word k modes) ≤ 23
unfolding modes ascii
mode_short k = word_short 23 k modes (omega arith, (omega arith, (omega arith, (omega arith, (omega arith, tt)))))

origin_short : (k : ℕ) → length (word k origins) ≤ 1
unfolding origins ascii
origin_short k = word_short 1 k origins (omega arith, (omega arith, (omega arith, tt)))

kind_short : (k : ℕ) → length (word k kinds) ≤ 6
unfolding kinds ascii
kind_short k =
    word_short 6 k kinds
    (omega arith, (omega arith, (omega arith, (omega arith, (omega arith, (omega arith, (omega arith, tt)))))))

first_short : (form count mode : ℕ) → count < limit → length (first_line form count mode) ≤ 54
unfolding ascii
first_short form count mode h =
    simp length-append (omega (arith, form_short (form + 1), decimal_short count h, mode_short mode))

component_short : (name : List ℕ) (q : Place) → length name ≤ 10 → q.start < limit → q.size < limit →
    length (component_line name q) ≤ 33
component_short name q n s l =
    simp length-append (omega (arith, n, decimal_short q.start s, decimal_short q.size l))

-- Every number of a list is below the limit, wherever it is asked for.
abbrev pub Below : List ℕ → Type 0
Below list = (k : ℕ) → get_or list k 0 < limit

parameter_short : (list : List ℕ) → Below list → length (parameter_line (first_of (take 6 list))) ≤ 53
parameter_short list h =
    let at : (k : ℕ) → k < 6 → length (decimal (get_or (take 6 list) k 0)) ≤ 10 =
    λ k l. decimal_short (get_or (take 6 list) k 0) (omega (arith, get_or-take 6 list k 0 l, h k)) in
    simp length-append (omega (
      arith,
      origin_short (get_or (take 6 list) 0 0 + 1),
      at 1 (omega arith),
      at 2 (omega arith),
      at 3 (omega arith),
      at 4 (omega arith),
      kind_short (get_or (take 6 list) 5 0 + 1),
    ))

lines_short : (n : ℕ) (list : List ℕ) → Below list → length (list_lines n list) ≤ n * 53
unfolding list_lines
lines_short zero list h = omega arith
lines_short (suc n) list h =
    let rest = lines_short n (drop 6 list) (λ k. omega (arith, get_or-drop 6 list k 0, h (6 + k))) in
    more (parameter_line (first_of (take 6 list))) (list_lines n (drop 6 list)) (parameter_short list h) rest
  where
    more : (a b : List ℕ) → length a ≤ 53 → length b ≤ n * 53 → length (a ++ b) ≤ suc n * 53
    more a b ha hb = simp length-append (omega arith)

module _ (r : Result) (h : AllBelow limit (numbers r)) where
  components_short : length (component_lines (components_of r.components)) ≤ 198
  unfolding ascii
  components_short =
      let one : (name : List ℕ) (q : Place) → length name ≤ 10 → (q.start < limit) × (q.size < limit) →
      length (component_line name q) ≤ 33 = λ name q n s. component_short name q n s.0 s.1 in
      let c = components_of r.components in
      let a = one (ascii "protected") c.protected (omega arith) (protected_small r h) in
      let b = one (ascii "key") c.key (omega arith) (key_small r h) in
      let d = one (ascii "iv") c.iv (omega arith) (iv_small r h) in
      let e = one (ascii "aad") c.aad (omega arith) (aad_small r h) in
      let f = one (ascii "ciphertext") c.ciphertext (omega arith) (ciphertext_small r h) in
      let g = one (ascii "tag") c.tag (omega arith) (tag_small r h) in
      sums (component_line (ascii "protected") c.protected) (component_line (ascii "key") c.key)
      (component_line (ascii "iv") c.iv) (component_line (ascii "aad") c.aad)
      (component_line (ascii "ciphertext") c.ciphertext) (component_line (ascii "tag") c.tag) a b d e f g
    where
      sums : (a b d e f g : List ℕ) → length a ≤ 33 → length b ≤ 33 → length d ≤ 33 → length e ≤ 33 → length f ≤ 33 →
          length g ≤ 33 → length (a ++ (b ++ (d ++ (e ++ (f ++ g))))) ≤ 198
      sums a b d e f g ha hb hd he hf hg = simp length-append (omega arith)

  pub result_short : (list : List ℕ) → Below list → r.parameters ≤ 96 → length (result_report r list) ≤ report_room
  result_short list below few =
      sums (first_line r.form r.recipients r.mode) (component_lines (components_of r.components))
      (list_lines r.parameters list) (first_short r.form r.recipients r.mode (recipients_small r h))
      components_short (lines_short r.parameters list below)
    where
      sums : (a b d : List ℕ) → length a ≤ 54 → length b ≤ 198 → length d ≤ r.parameters * 53 →
          length (a ++ (b ++ d)) ≤ report_room
      sums a b d ha hb hd = simp length-append (omega (arith, few))
