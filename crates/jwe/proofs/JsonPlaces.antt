-- The place of a recipient's key; whether one of several is misspelled.
use mathlib.Core.Path.{◌≡◌, ap, ap₂, sym, ◌∙◌}
use mathlib.Core.Bool.{Bool, true, false, ◌||◌}
use mathlib.Core.List.{List}
use Prim.Native.Nat.{ℕ, ◌+◌, ◌*◌}
use lib.ListN.{drop, get_or}
use lib.Seq.{get_or-drop}
use Rattle.grammar.specs.Places.{Place}
use Rattle.jwe.specs.Inner.Stages.{recipient_at}
use Rattle.shape.specs.Inner.Answers.{recipient_width}

abbrev placed : ℕ → ℕ → Place
placed start size = record { start = start; size = size }

-- A recipient's key, by its numbers in a table.
pub key_is_lem : (t : List ℕ) (i : ℕ) → placed (get_or t (i * recipient_width + 1) 0) (get_or t (i * recipient_width + 2) 0) ≡ (recipient_at (drop (i * recipient_width) t)).key
key_is_lem t i = ap₂ placed (sym (get_or-drop (i * recipient_width) t 1 0)) (sym (get_or-drop (i * recipient_width) t 2 0))

-- One holds, or one of the others.

pub this_one : {a : Bool} (b : Bool) → a ≡ true → true ≡ a || b
this_one b e = sym (ap (λ (x : Bool). x || b) e)

pub another : {a b x : Bool} → a ≡ false → x ≡ b → x ≡ a || b
another {a} {b} e f = f ∙ sym (ap (λ (y : Bool). y || b) e)
