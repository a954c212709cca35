-- What is shown of specs/Same: each theorem cites the file that proves it.
use mathlib.Core.Path.{◌≡◌}
use mathlib.Core.List.{List}
use mathlib.Core.Bool.{true}
use mathlib.Core.Logic.{◌↔◌}
use Prim.Native.Nat.{ℕ, ◌≤◌}
use lib.ListN.{length}
use Rattle.grammar.specs.Grammar.{Value}
use Rattle.grammar.specs.Places.{levels, kind, Element}
use Rattle.meets.specs.Members.{Member, names_of, Distinct}
use Rattle.meets.proofs.Standing.{ElementStands}
use Rattle.same.specs.Same.{same_at}
use Rattle.same_values.specs.Same.{own, NamesDistinct, ByName, SameWith, Same}
use Rattle.same_values.proofs.Relation as Relation
use Rattle.same_values.proofs.Octets as Octets
use Rattle.same_values.proofs.Pairing as Pairing
use Rattle.same_values.proofs.Equivalence as Equivalence
use Rattle.same_values.proofs.Decide as Decide

-- The relation keeps the sentence at every level, and is the only one that does.
pub same_is : (v w : Value) → Same v w ↔ SameWith Same v w
same_is = Relation.same_is

pub same_only : (R : Value → Value → Type 0) → ((v w : Value) → R v w ↔ SameWith R v w) → (v w : Value) →
    R v w ↔ Same v w
same_only = Relation.same_only

-- The same octets are the same value, whether a name repeats or not; so a value is the same as itself ..
pub same_octets : (v w : Value) → own v ≡ own w → Same v w
same_octets = Octets.same_octets

pub same_itself : (v : Value) → Same v v
same_itself = Octets.same_refl

-- .. and it does not matter which is left and which is right, nor whether a third is compared between them; again
-- whether a name repeats or not.
pub same_symmetric : (v w : Value) → Same v w → Same w v
same_symmetric = Equivalence.same_symmetric

pub same_transitive : (u v w : Value) → Same u v → Same v w → Same u w
same_transitive = Equivalence.same_transitive

-- An object that repeats a name equals only the same octets, on whichever side it is.
pub repeated_only : (v w : Value) → (NamesDistinct v → ⊥) → kind v ≡ 0 → Same v w → own v ≡ own w
repeated_only = Equivalence.repeated_only

pub repeated_right : (v w : Value) → (NamesDistinct w → ⊥) → kind w ≡ 0 → Same v w → own v ≡ own w
repeated_right = Equivalence.repeated_right

-- That the right names are distinct need not be asked: it follows.
pub right_distinct : (R : Value → Value → Type 0) (ms ns : List Member) → length ms ≡ length ns →
    Distinct (names_of ms) → ByName R ms ns → Distinct (names_of ns)
right_distinct = Pairing.right_distinct

-- Comparing two values where they stand, within the levels that the left one has, decides it.
pub same_decided : (s t : List ℕ) (l : ℕ) (v w : Value) (x y : Element) → levels v ≤ l → ElementStands s v x →
    ElementStands t w y → (same_at l s t x y ≡ true) ↔ Same v w
same_decided = Decide.same_decided
