-- What is shown of lists of names. Each proof cites the file that has it.
use mathlib.Core.Path.{◌≡◌, subst}
use mathlib.Core.List.{List, []}
use mathlib.Core.Bool.{true, false}
use mathlib.Core.Logic.{◌↔◌}
use Prim.Native.Nat.{ℕ, suc, ◌≤◌, ◌<◌}
use lib.ListN.{length, get_or}
use lib.Dec.{T}
use Rattle.grammar.specs.Spellings.{undo, has}
use Rattle.grammar.proofs.Scan.{T→true}
use Rattle.grammar.proofs.Parse.{true→T}
use Rattle.names.specs.Names.{list_of, names, filled, sound, Limited, number_in, any}
use Rattle.names.proofs.Contents as Contents
use Rattle.names.proofs.Numbers as Numbers

-- A list is sound exactly when it is the list of at most 16 names of 1 to 64 octets each.
pub sound_exactly : (list : List ℕ) →
    T (sound list) ↔ ((ns : List (List ℕ)) × (length ns ≤ 16) × Limited ns × (list_of ns ≡ list))
sound_exactly list = (
  (λ t.
      let s = T→true (sound list) t in (
        names list,
        Contents.sound_few list s,
        Contents.sound_limited list s,
        Contents.list_of_names list (Contents.sound_filled list s),
      )),
  (λ w.
      let s = Contents.sound_list w.0 w.1 w.2 in
      subst (λ (l : List ℕ). T (sound l)) w.3 (true→T (sound (list_of w.0)) s)),
)

-- A sound list is filled.
pub sound_filled : (list : List ℕ) → sound list ≡ true → filled list ≡ true
sound_filled = Contents.sound_filled

-- The names of the list of some names are those names ..
pub names_of_lem : (ns : List (List ℕ)) → names (list_of ns) ≡ ns
names_of_lem = Contents.names_of_lem

-- .. and every filled list is the list of its names.
pub list_of_names : (list : List ℕ) → filled list ≡ true → list_of (names list) ≡ list
list_of_names = Contents.list_of_names

-- A spelling's number is 0 exactly where it has none of the names ..
pub number_none : (ws : List (List ℕ)) (v : List ℕ) → (number_in ws v ≡ 0) ↔ (any (has v) ws ≡ false)
number_none ws v = (Numbers.number_none v ws, Numbers.none_number v ws)

-- .. and otherwise that of a name that it has, counted from 1 ..
pub number_is : (ws : List (List ℕ)) (v : List ℕ) (i : ℕ) → number_in ws v ≡ suc i →
    (i < length ws) × (has v (get_or ws i []) ≡ true)
number_is ws v = Numbers.number_is v ws

-- .. and of the first such.
pub number_earlier : (ws : List (List ℕ)) (v : List ℕ) (i j : ℕ) → number_in ws v ≡ suc i → j < i →
    has v (get_or ws j []) ≡ false
number_earlier ws v = Numbers.number_earlier v ws

pub number_at_most : (ws : List (List ℕ)) (v : List ℕ) → number_in ws v ≤ length ws
number_at_most ws v = Numbers.number_at_most v ws

-- Spellings that undo to the same octets have the same number.
pub number_alike : (ws : List (List ℕ)) (v w : List ℕ) → undo v ≡ undo w → number_in ws v ≡ number_in ws w
number_alike ws v w e = Numbers.number_alike v w e ws
