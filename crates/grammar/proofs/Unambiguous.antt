-- A text has one reading, spaces aside: trees with the same leaves are the parser's one answer for those leaves.
use mathlib.Core.Path.{◌≡◌, refl, ap, ap₂}
use mathlib.Core.Bool.{Bool, true}
use mathlib.Core.List.{[]}
use Prim.Native.Nat.{ℕ, suc, max}
use native.Mathlib.Omega.{arith}
use lib.ListN.{length}
use Rattle.grammar.specs.Grammar.{octets, Str, Bracket, curly, square, Label, Value, nested, empty, string, number}
use Rattle.grammar.specs.Grammar.{literal, Entries, last, more, Text, leaves}
use Rattle.grammar.specs.Places.{levels, levels_entries, placed_text, emptied, emptied_entries, emptied_text}
use Rattle.grammar.specs.Strings.{every_label, every, every_entries}
use Rattle.grammar.proofs.Complete.{node}
use Rattle.grammar.proofs.Values.{parse_leaves}

-- A test that every string passes.
abbrev any : Str → Bool
any x = true

any_label : (b : Bracket) (l : Label b) → every_label any b l ≡ true
unfolding every_label
any_label curly l = refl
any_label square l = refl

mutual
  unfolding every

  any_value : (v : Value) → every any v ≡ true
  any_value (nested b x es y) = any_entries es
  any_value (empty b x y) = refl
  any_value (string x) = refl
  any_value (number x) = refl
  any_value (literal x) = refl

  any_entries : {b : Bracket} (es : Entries b) → every_entries any es ≡ true
  any_entries (last {b} l v) = rw (any_label b l, any_value v)
  any_entries (more {b} l v x es) = rw (any_label b l, any_value v, any_entries es)

nodes_alike : (t u : Text) → leaves t ≡ leaves u →
    node (length (octets t.before)) t.value ≡ node (length (octets u.before)) u.value
nodes_alike t u e =
    let l : ℕ = max (levels t.value) (levels u.value) in
    let p = parse_leaves any t l (omega arith) (rw (any_value t.value) tt) in
    let q = parse_leaves any u l (omega arith) (rw (any_value u.value) tt) in
    cc

-- Trees with the same leaves are equal once their spaces are emptied.
pub unambiguous : (t u : Text) → leaves t ≡ leaves u → emptied_text t ≡ emptied_text u
unfolding emptied_text
unambiguous t u e = ap (λ z. record { before = []; value = z.tree; after = [] }) (nodes_alike t u e)

-- They put every name and value at the same place, with the same kind.
pub placed_alike : (t u : Text) → leaves t ≡ leaves u → placed_text t ≡ placed_text u
unfolding placed_text
placed_alike t u e = ap (λ z. z.placed) (nodes_alike t u e)

-- Spaces add no level.
mutual
  unfolding levels emptied

  pub levels_emptied : (v : Value) → levels (emptied v) ≡ levels v
  levels_emptied (nested b x es y) = ap suc (levels_emptied_entries es)
  levels_emptied (empty b x y) = refl
  levels_emptied (string x) = refl
  levels_emptied (number x) = refl
  levels_emptied (literal x) = refl

  levels_emptied_entries : {b : Bracket} (es : Entries b) → levels_entries (emptied_entries es) ≡ levels_entries es
  levels_emptied_entries (last l v) = levels_emptied v
  levels_emptied_entries (more l v x es) = ap₂ max (levels_emptied v) (levels_emptied_entries es)

pub levels_alike : (t u : Text) → leaves t ≡ leaves u → levels t.value ≡ levels u.value
unfolding emptied_text
levels_alike t u e =
    let h = ap (λ z. levels z.value) (unambiguous t u e) in
    omega (arith, levels_emptied t.value, levels_emptied u.value)
