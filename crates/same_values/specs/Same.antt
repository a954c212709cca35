-- When two JSON values are the same (document 02, 4/12), over the grammar's trees. The document's words: 'Values are
-- compared level by level: strings after undoing escapes, numbers by their characters, arrays in order, objects by name
-- whatever their order. A nested object with a repeated name equals only the same octets.' The constructors of
-- `SameWith` are these clauses in this order, each with its words above it.
use Rattle.std.specs.Prelude.{◌≡◌, List, [], ◌∷◌, ◌++◌, ℕ, zero, suc, length}
use Rattle.grammar.specs.Grammar.{octets, Str, leaves_str, Num, leaves_num, Literal, letters, opening, closing, Value}
use Rattle.grammar.specs.Grammar.{nested, empty, string, number, literal, leaves_entries}
use Rattle.grammar.specs.Places.{levels, kind}
use Rattle.grammar.specs.Strings.{SayAlike}
use Rattle.grammar.specs.Bounds.{Every}
use Rattle.meets.specs.Members.{Member, members_of, elements_of, names_of, Some, Distinct, OneForOne}

-- The octets of a value without the space around it.
unfoldable pub own : Value → List ℕ
own (nested b x es y) =
    opening b ∷ (octets x.after ++ (leaves_entries es ++ (octets y.before ++ (closing b ∷ []))))
own (empty b x y) = opening b ∷ (octets x.after ++ (octets y.before ++ (closing b ∷ [])))
own (string x) = leaves_str x
own (number x) = leaves_num x
own (literal x) = letters x

-- No two names of an object say the same.
abbrev pub NamesDistinct : Value → Type 0
NamesDistinct v = Distinct (names_of (members_of v))

-- Each left member has a right one whose name says the same and whose value is related.
abbrev pub ByName : (Value → Value → Type 0) → List Member → List Member → Type 0
ByName R ms ns = Every (λ m. Some (λ n. SayAlike m.name n.name × R m.value n.value) ns) ms

-- One level of the comparison: R compares what stands in the values.
pub data SameWith (R : Value → Value → Type 0) (v w : Value) : Type 0 where
  -- 'strings after undoing escapes'
  strings : (x y : Str) → v ≡ string x → w ≡ string y → SayAlike x y → SameWith R v w
  -- 'numbers by their characters'
  numbers : (x y : Num) → v ≡ number x → w ≡ number y → leaves_num x ≡ leaves_num y → SameWith R v w
  -- The document does not name true, false and null, each of which has one spelling.
  literals : (x : Literal) → v ≡ literal x → w ≡ literal x → SameWith R v w
  -- 'arrays in order'
  arrays : kind v ≡ 1 → kind w ≡ 1 → OneForOne R (elements_of v) (elements_of w) → SameWith R v w
  -- 'objects by name whatever their order': as many members, none left over on either side.
  objects : kind v ≡ 0 → kind w ≡ 0 → NamesDistinct v → NamesDistinct w
      → length (members_of v) ≡ length (members_of w) → ByName R (members_of v) (members_of w) → SameWith R v w
  -- 'A nested object with a repeated name equals only the same octets'
  repeating : kind v ≡ 0 → kind w ≡ 0 → (NamesDistinct v → ⊥) → own v ≡ own w → SameWith R v w

-- 'level by level', at most so many.
unfoldable pub SameWithin : ℕ → Value → Value → Type 0
SameWithin zero v w = SameWith (λ _ _. ⊥) v w
SameWithin (suc l) v w = SameWith (SameWithin l) v w

-- Two values are the same: within as many levels as the left one has, which are enough. proofs/Theorems.antt: this is
-- the one relation with Same v w ↔ SameWith Same v w.
unfoldable pub Same : Value → Value → Type 0
Same v w = SameWithin (levels v) v w
