-- The sides of entries are those of the rows that they are listed as: read back from the list's numbers.
use mathlib.Core.Path.{◌≡◌, refl, sym, ap, ◌∙◌}
use mathlib.Core.List.{List, [], ◌∷◌, ◌++◌, map, flat_map, append-nil}
use Prim.Native.Nat.{ℕ}
use Rattle.grammar.specs.Places as places
use Rattle.rows.specs.Rows.{Entry}
use Rattle.rows.specs.Tables.{listed}
use Rattle.meets.specs.Handed.{Rows, entry, entries}
use Rattle.parameters.specs.Lines.{Side}
use Rattle.parameters.specs.Parameters.{side_of}
use Rattle.difference_means.specs.Meaning.{side_at, sides}

-- The sides in a list of six numbers each.
read : List ℕ → List Side
read [] = []
read (o ∷ []) = []
read (o ∷ a ∷ []) = []
read (o ∷ a ∷ b ∷ []) = []
read (o ∷ a ∷ b ∷ s ∷ []) = []
read (o ∷ a ∷ b ∷ s ∷ z ∷ []) = []
read (o ∷ a ∷ b ∷ s ∷ z ∷ k ∷ rest) = record { origin = o; start = s; size = z } ∷ read rest

read_listed : (es : List Entry) → read (listed es) ≡ map side_of es
unfolding listed read
read_listed [] = refl
read_listed (e ∷ es) = ap (λ (r : List Side). side_of e ∷ r) (read_listed es)

read_rows : (o : ℕ) (ms : List places.Member) (rest : List ℕ) →
    read (flat_map (entry o) ms ++ rest) ≡ map (side_at o) ms ++ read rest
unfolding flat_map read
read_rows o [] rest = refl
read_rows o (m ∷ ms) rest = ap (λ (r : List Side). side_at o m ∷ r) (read_rows o ms rest)

read_entries : (x : Rows) → read (entries x) ≡ sides x
unfolding entries read
read_entries x =
    let own = flat_map (entry 2) x.own in
    let last : read own ≡ map (side_at 2) x.own =
    ap read (sym (append-nil own)) ∙ read_rows 2 x.own [] ∙ append-nil (map (side_at 2) x.own) in
    read_rows 0 x.protected _
    ∙ ap (λ (r : List Side). map (side_at 0) x.protected ++ r)
    (read_rows 1 x.shared own ∙ ap (λ (r : List Side). map (side_at 1) x.shared ++ r) last)

pub sides_listed : (es : List Entry) (x : Rows) → listed es ≡ entries x → map side_of es ≡ sides x
sides_listed es x e = sym (read_listed es) ∙ ap read e ∙ read_entries x
