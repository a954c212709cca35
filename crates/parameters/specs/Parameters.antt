-- The differences of one recipient's parameters in two messages (document 02, 4/12): 'parameters by name: only left, only right, moved
-- to another origin, other value (both, in that order, where both hold). Left's order comes first, then names only in right, in its
-- order.'
use mathlib.Core.List.{List, [], ◌∷◌, ◌++◌, flat_map}
use Rattle.std.specs.Prelude.{Bool, false, not, ℕ, eqb}
use Rattle.std.proofs.Math.Option.{Option, none, some}
use Rattle.rows.specs.Rows.{Entry, Texts, text_of, name_in}
use Rattle.same.specs.Same.{depth, same_at}
pub use Rattle.matching.specs.Matching.{value_of}
use Rattle.matching.specs.Matching.{partner}
use Rattle.parameters.specs.Lines.{Side, missing, Line, line, line_if}

-- The side of a parameter in a line.
abbrev pub side_of : Entry → Side
side_of e = record { origin = e.origin; start = e.member.value_start; size = e.member.value_size }

-- In all below ls are the texts of the left message, rs those of the right one.

-- Whether a parameter's value is another than its partner's, if it has one.
unfoldable pub other_value : Texts → Texts → Entry → Option Entry → Bool
other_value ls rs e none = false
other_value ls rs e (some f) =
    not (same_at depth (text_of ls e.origin) (text_of rs f.origin) (value_of e) (value_of f))

-- The lines of a left parameter and its partner on the right, if it has one: recipient n's.
abbrev pub pair_lines : ℕ → Entry → Bool → Option Entry → List Line
pair_lines n e other none = line 8 n (side_of e) missing ∷ []
pair_lines n e other (some f) =
    line_if (not (eqb e.origin f.origin)) (line 10 n (side_of e) (side_of f))
    ++ line_if other (line 11 n (side_of e) (side_of f))

-- Of a left parameter, fs being the right ones.
unfoldable pub left_lines : Texts → Texts → List Entry → ℕ → Entry → List Line
left_lines ls rs fs n e =
    let p = partner rs (name_in ls e) fs in
    pair_lines n e (other_value ls rs e p) p

-- The line of a right parameter without a partner on the left.
abbrev pub only_right : ℕ → Entry → Option Entry → List Line
only_right n f none = line 9 n missing (side_of f) ∷ []
only_right n f (some e) = []

-- Of a right parameter, es being the left ones.
unfoldable pub right_lines : Texts → Texts → List Entry → ℕ → Entry → List Line
right_lines ls rs es n f = only_right n f (partner ls (name_in rs f) es)

-- Of recipient n, whose parameters are es on the left and fs on the right.
unfoldable pub parameter_lines : Texts → Texts → List Entry → List Entry → ℕ → List Line
parameter_lines ls rs es fs n = flat_map (left_lines ls rs fs n) es ++ flat_map (right_lines ls rs es n) fs
