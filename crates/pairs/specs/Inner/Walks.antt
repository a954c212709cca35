-- Members of two objects paired by name: places in the right object, where a walk stands, and what a step answers. The
-- left object's text is s, the right one's t, and j is where the right one begins.
use Rattle.std.specs.Prelude.{◌≡◌, true, false, List, [], ◌∷◌, ◌++◌, ◌⊎◌, ℕ, ◌+◌, ◌<◌, length, get_or}
use Rattle.grammar.specs.Grammar.{curly}
use Rattle.grammar.specs.Places.{Member}
use Rattle.grammar.specs.Reader.{members_at}
use Rattle.json_read.specs.Inner.Known.{KnownFrom}
use Rattle.json_read.specs.declared.member.Row.{Row}
use Rattle.prelude.specs.Any.{any}
use Rattle.distinct.specs.Names.{depth, same_name}
use Rattle.distinct.specs.Inner.Walking.{row_member, rows_from}
use Rattle.pairs.specs.declared.Walk.{Walk}
use Rattle.pairs.specs.declared.Step.{Step}
use Rattle.pairs.specs.declared.Step.TheVariants.{End, Lone, Pair}
use Rattle.pairs.specs.declared.Found.{Found}
use Rattle.pairs.specs.declared.Found.TheVariants.{Named, Other}

-- A position in the right object: its members from there on are its last ones. As many turns are left as a walk from
-- its first member on would have.
pub record SpotAt (t : List ℕ) (j turns q : ℕ) : Type 0 where
  pub before : List Member
  pub rows : members_at depth t j ≡ before ++ rows_from curly t turns q
  pub known : KnownFrom curly depth t turns q
  pub whole : turns + length before ≡ length t

pub record Spot (t : List ℕ) (j q : ℕ) : Type 0 where
  pub turns : ℕ
  pub spot : SpotAt t j turns q

-- The first numbers of the table: positions in the right object, or 0.
abbrev pub Table : List ℕ → ℕ → ℕ → List ℕ → Type 0
Table t j size w = (k : ℕ) → k < size → (get_or w k 0 ≡ 0) ⊎ Spot t j (get_or w k 0)

-- These are unchanged; or one of them is a position now.

abbrev pub Kept : ℕ → List ℕ → List ℕ → Type 0
Kept size w z = (k : ℕ) → k < size → get_or z k 0 ≡ get_or w k 0

abbrev pub Left : ℕ → ℕ → List ℕ → List ℕ → Type 0
Left size at w z = (k : ℕ) → k < size → (get_or z k 0 ≡ get_or w k 0) ⊎ (get_or z k 0 ≡ at)

-- A right member whose name says what that of m says, and the position behind it.
pub record Partner (s t : List ℕ) (j : ℕ) (m : Member) (b : Row) (next : ℕ) : Type 0 where
  pub said : same_name s t m (row_member b) ≡ true
  pub before : List Member
  pub behind : List Member
  pub among : members_at depth t j ≡ before ++ (row_member b ∷ behind)
  pub on : Spot t j next

-- There is none.
abbrev pub NoPartner : List ℕ → List ℕ → ℕ → Member → Type 0
NoPartner s t j m = any (same_name s t m) (members_at depth t j) ≡ false

-- What looking at one place answers: a partner, or nothing that is known. The number is handed on.
abbrev pub Near : List ℕ → List ℕ → ℕ → Member → ℕ → Found → Type 0
Near s t j m number (Named b next k) = Partner s t j m b next.at × (k ≡ number)
Near s t j m number Other = Unit {0}

-- What looking through all answers.
abbrev pub Scanned : List ℕ → List ℕ → ℕ → Member → ℕ → Found → Type 0
Scanned s t j m number (Named b next k) = Partner s t j m b next.at × (k ≡ number)
Scanned s t j m number Other = NoPartner s t j m

-- What the search answers, w being the table afterwards: it holds positions, if there is a window.
abbrev pub Finds : List ℕ → List ℕ → ℕ → ℕ → List ℕ → Member → Found → Type 0
Finds s t j size w m (Named b next k) = Partner s t j m b next.at × (k < size → Table t j size w)
Finds s t j size w m Other = NoPartner s t j m

-- Where a walk stands: the left members to come, a position in the right object, and the number of the next left member
-- in the window, for which the table has places (none, where the number is the window's size).
pub record Going (s t : List ℕ) (j size : ℕ) (w : List ℕ) (walk : Walk) : Type 0 where
  pub known : KnownFrom curly depth s walk.left walk.at.at
  pub cursor : Spot t j walk.cursor.at
  pub table : walk.number < size → Table t j size w

-- Where it begins, for whatever the table holds.
pub record Started (s t : List ℕ) (i j size : ℕ) (walk : Walk) : Type 0 where
  pub all : rows_from curly s walk.left walk.at.at ≡ members_at depth s i
  pub going : (w : List ℕ) → Going s t j size w walk

-- A step: no left member is left; or the next one has no partner; or it has one, and the walk goes on.

pub record NoPair (s t : List ℕ) (j : ℕ) (walk : Walk) : Type 0 where
  pub one : Member
  pub others : List Member
  pub rows : rows_from curly s walk.left walk.at.at ≡ one ∷ others
  pub none : NoPartner s t j one

pub record OnePair (s t : List ℕ) (j size : ℕ) (w : List ℕ) (walk : Walk) (a b : Row) (on : Walk) : Type 0 where
  pub rows : rows_from curly s walk.left walk.at.at
      ≡ row_member a ∷ rows_from curly s on.left on.at.at
  pub falls : on.left < walk.left
  pub partner : Partner s t j (row_member a) b on.cursor.at
  pub going : Going s t j size w on

abbrev pub Stepped : List ℕ → List ℕ → ℕ → ℕ → List ℕ → Walk → Step → Type 0
Stepped s t j size w walk End = rows_from curly s walk.left walk.at.at ≡ []
Stepped s t j size w walk Lone = NoPair s t j walk
Stepped s t j size w walk (Pair a b on) = OnePair s t j size w walk a b on
