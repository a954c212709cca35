-- The members that the reader collects of a text are those of its reading, where the grammar places them.
use mathlib.Core.Path.{◌≡◌, refl, ap, sym, ◌∙◌}
use mathlib.Core.List.{List}
use Prim.Native.Nat.{ℕ}
use Rattle.grammar.specs.Grammar.{Value, nested, empty, string, number, literal}
use Rattle.grammar.specs.Places.{Placed, item, placed, placed_text, kind, kind_of, start_of, parts_of, members}
use Rattle.grammar.specs.Reader.{members_at}
use Rattle.grammar.specs.Readings.{Reading}
use Rattle.grammar.specs.Shown.{Shown, Everywhere}
use Rattle.grammar.proofs.Theorems.{read_complete, read_shows}
use Rattle.headers.specs.Headers.{outermost}

pub placed_kind : (v : Value) (n : ℕ) → kind_of (placed n v) ≡ kind v
unfolding placed kind
placed_kind (nested b x es y) n = refl
placed_kind (empty b x y) n = refl
placed_kind (string x) n = refl
placed_kind (number x) n = refl
placed_kind (literal x) n = refl

-- What the reader shows of a placed object.
pub shown_members : (s : List ℕ) (v : Placed) → Everywhere (Shown 12 s) v → kind_of v ≡ 0 →
    members_at 12 s (start_of v) ≡ members (parts_of v)
unfolding Everywhere Shown
shown_members s (item k q ps) h e = h.0.1 e

-- The outermost members of a text are those of its reading.
pub outermost_rows : (s : List ℕ) (r : Reading 12 s) → outermost s ≡ members (parts_of (placed_text r.text))
unfolding outermost placed_text
outermost_rows s r =
    let v = placed_text r.text in
    ap (members_at 12 s) (sym (read_complete 12 s r).1)
    ∙ shown_members s v (read_shows 12 s r) (placed_kind r.text.value _ ∙ r.object)
