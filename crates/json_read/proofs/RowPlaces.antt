-- Row k of a table stands at the five places from k * 5 on, and its places lie within the text: by induction on the
-- rows, each of which is five numbers long.
use mathlib.Core.Path.{◌≡◌, refl, ap, ◌∙◌}
use mathlib.Core.List.{List, [], ◌∷◌, ◌++◌}
use Prim.Native.Nat.{ℕ, zero, suc, ◌+◌, ◌*◌, ◌<◌}
use native.Mathlib.Nat.{le_of_suc-le-suc, not-suc-le-zero}
use native.Mathlib.Omega.{arith}
use lib.ListN.{length, take, drop, get_or, get_or-append}
use Rattle.prelude.specs.Buffer.{written}
use Rattle.grammar.specs.Grammar.{Bracket, curly}
use Rattle.grammar.specs.Places.{Member}
use Rattle.grammar.specs.Reader.{members_at}
use Rattle.json_read.specs.Members.{numbers, flat, member_width}
use Rattle.grammar.specs.Bounds.{Every, Inside, RowAt}
use Rattle.json_read.proofs.MemberTable.{flat_length}
use Rattle.json_read.proofs.Within.{every_take, members_within}

-- Past one row.
past : (m : Member) (ms : List Member) (i k : ℕ) → i ≡ suc (suc (suc (suc (suc k)))) →
    get_or (flat (m ∷ ms)) i 0 ≡ get_or (flat ms) k 0
unfolding flat
past m ms i k e = ap (λ (j : ℕ). get_or (numbers m ++ flat ms) j 0) e

module _ (b : Bracket) (n : ℕ) where
  pub row_at : (ms : List Member) (k : ℕ) → Every (Inside b n) ms → k < length ms → RowAt b n ms (flat ms) k
  unfolding flat
  row_at [] k h l = absurd (not-suc-le-zero l)
  row_at (m ∷ ms) zero h l = record {
    row = m;
    is = λ d. refl;
    inside = h.0;
    name_start = refl;
    name_size = refl;
    value_start = refl;
    value_size = refl;
    kind = refl;
  }
  row_at (m ∷ ms) (suc k) h l =
      let r = row_at ms k h.1 (le_of_suc-le-suc l) in
      record {
        row = r.row;
        is = r.is;
        inside = r.inside;
        name_start = past m ms (suc k * member_width) (k * member_width) (omega arith) ∙ r.name_start;
        name_size = past m ms (suc k * member_width + 1) (k * member_width + 1) (omega arith) ∙ r.name_size;
        value_start = past m ms (suc k * member_width + 2) (k * member_width + 2) (omega arith) ∙ r.value_start;
        value_size = past m ms (suc k * member_width + 3) (k * member_width + 3) (omega arith) ∙ r.value_size;
        kind = past m ms (suc k * member_width + 4) (k * member_width + 4) (omega arith) ∙ r.kind;
      }

-- What is written over the beginning of a buffer is read there.
written_at : (xs buffer : List ℕ) (i : ℕ) → i < length xs → get_or (written 0 xs buffer) i 0 ≡ get_or xs i 0
unfolding written
written_at xs buffer i l = get_or-append xs (drop (0 + length xs) buffer) 0 i l

-- The table that `collect` leaves.
pub collected_row : (l : ℕ) (s : List ℕ) (at k : ℕ) (before table : List ℕ) →
    table ≡ written 0 (flat (take 32 (members_at l s at))) before → k < length (take 32 (members_at l s at)) →
    RowAt curly (length s) (take 32 (members_at l s at)) table k
collected_row l s at k before table e i =
    let ms = take 32 (members_at l s at) in
    let r =
    row_at curly (length s) ms k
    (every_take (Inside curly (length s)) 32 (members_at l s at) (members_within l s at)) i in
    record {
      row = r.row;
      is = r.is;
      inside = r.inside;
      name_start = here (k * member_width) (omega (arith, flat_length ms)) ∙ r.name_start;
      name_size = here (k * member_width + 1) (omega (arith, flat_length ms)) ∙ r.name_size;
      value_start = here (k * member_width + 2) (omega (arith, flat_length ms)) ∙ r.value_start;
      value_size = here (k * member_width + 3) (omega (arith, flat_length ms)) ∙ r.value_size;
      kind = here (k * member_width + 4) (omega (arith, flat_length ms)) ∙ r.kind;
    }
  where
    here : (j : ℕ) → j < length (flat (take 32 (members_at l s at))) →
        get_or table j 0 ≡ get_or (flat (take 32 (members_at l s at))) j 0
    here j h = ap (λ (t : List ℕ). get_or t j 0) e ∙ written_at (flat (take 32 (members_at l s at))) before j h
