-- Finding a name, turn by turn: the number among the names from the next one on, counted from there, is the number
-- among all. A loop has one record, `Finding`, as its invariant: `begin` opens it, `passed` keeps it where the spelling
-- does not have the next name, and `here` and `nowhere` close it.
use mathlib.Core.Path.{◌≡◌, refl, ap, ap₂, sym, ◌∙◌}
use mathlib.Core.List.{List, [], ◌∷◌}
use mathlib.Core.Bool.{true, false}
use Prim.Native.Nat.{ℕ, zero, suc, ◌+◌, ◌≤◌, ◌<◌}
use native.Mathlib.Omega.{arith}
use lib.ListN.{length, take, drop, get_or, length-drop, drop_of_length-le}
use Rattle.prelude.proofs.Lists.{drop_next}
use Rattle.grammar.specs.Spellings.{has}
use Rattle.names.specs.Names.{cut, names, total, filled, up, number_in}
use Rattle.names.proofs.Contents.{room, exact}
use Rattle.names.proofs.Numbers.{number_first, number_later}

-- A number among the names behind the first i, as one among all.
abbrev counted : ℕ → ℕ → ℕ
counted i zero = 0
counted i (suc k) = i + suc k

counted_up : (i k : ℕ) → counted i (up k) ≡ counted (i + 1) k
counted_up i zero = refl
counted_up i (suc k) = omega arith

counted_all : (k : ℕ) → counted 0 k ≡ k
counted_all zero = refl
counted_all (suc k) = omega arith

-- The spelling v has none of the first i names of a list. Of its lengths ks those from the i-th on are to come, and of its
-- names the rest.
pub record Finding (list v ks rest : List ℕ) (i : ℕ) : Type 0 where
  pub fills : total (drop i ks) ≡ length rest
  pub number : counted i (number_in (cut (drop i ks) rest) v) ≡ number_in (names list) v

-- The empty list has no names.
pub empty_none : (list v : List ℕ) → length list ≡ 0 → 0 ≡ number_in (names list) v
unfolding names number_in
empty_none [] v h = refl
empty_none (n ∷ rest) v h = absurd (omega arith)

-- A filled list has its lengths behind its first octet, and behind them its names.
pub lengths_there : (n : ℕ) (rest : List ℕ) {list : List ℕ} → list ≡ n ∷ rest → filled list ≡ true → n ≤ length rest
lengths_there n rest e f = room n rest (ap filled (sym e) ∙ f)

pub begin : (v : List ℕ) (n : ℕ) (rest : List ℕ) {list ks left : List ℕ} → list ≡ n ∷ rest → ks ≡ take n rest → left ≡ drop n rest →
    filled list ≡ true → Finding list v ks left 0
unfolding names
begin v n rest e f g h =
    let fills = exact n rest (ap filled (sym e) ∙ h) in
    record {
      fills = ap total f ∙ fills ∙ ap length (sym g);
      number =
          counted_all _ ∙ ap₂ (λ (ks left : List ℕ). number_in (cut ks left) v) f g ∙ ap (λ (l : List ℕ). number_in (names l) v) (sym e);
    }

module _ {list v ks rest : List ℕ} {i : ℕ} (w : Finding list v ks rest i) where
  -- The i-th name, counted from 0, is there ..
  module _ (h : i < length ks) where
    next : drop i ks ≡ get_or ks i 0 ∷ drop (i + 1) ks
    next = drop_next ks i (i + 1) refl h

    sum : get_or ks i 0 + total (drop (i + 1) ks) ≡ length rest
    unfolding total
    sum = ap total (sym next) ∙ w.fills

    pub name_fits_lem : get_or ks i 0 ≤ length rest
    name_fits_lem = omega (arith, sum)

    -- .. as the first k octets of the rest.
    module _ {k : ℕ} {name later : List ℕ} (e : k ≡ get_or ks i 0) (front : name ≡ take k rest) (back : later ≡ drop k rest) where
      named : number_in (cut (drop i ks) rest) v ≡ number_in (name ∷ cut (drop (i + 1) ks) later) v
      unfolding cut
      named =
          ap (λ (l : List ℕ). number_in (cut l rest) v) next
          ∙ ap (λ (m : ℕ). number_in (take m rest ∷ cut (drop (i + 1) ks) (drop m rest)) v) (sym e)
          ∙ ap₂ (λ (x y : List ℕ). number_in (x ∷ cut (drop (i + 1) ks) y) v) (sym front) (sym back)

      pub here : true ≡ has v name → i + 1 ≡ number_in (names list) v
      here t = sym (ap (counted i) (named ∙ number_first v _ _ (sym t))) ∙ w.number

      pub passed : false ≡ has v name → Finding list v ks later (i + 1)
      passed t = record {
        fills = omega (arith, sum, ap length back, length-drop k rest, e);
        number =
            sym (ap (counted i) (named ∙ number_later v _ _ (sym t)) ∙ counted_up i (number_in (cut (drop (i + 1) ks) later) v))
            ∙ w.number;
      }

  -- No name is left.
  pub nowhere : length ks ≤ i → 0 ≡ number_in (names list) v
  unfolding cut number_in
  nowhere h = sym (ap (λ (l : List ℕ). counted i (number_in (cut l rest) v)) (drop_of_length-le ks h)) ∙ w.number
