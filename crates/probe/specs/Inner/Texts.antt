-- Two texts compared as values, by what judging them answers.
use Rattle.std.specs.Prelude.{cond, List, ℕ, ◌-◌, Option, Some, None}
use Rattle.grammar.specs.Places.{Element}
use Rattle.grammar.specs.Reader.{skip_space}
use Rattle.json_read.specs.declared.Found.{Found}
use Rattle.same.specs.Same.{same_at}

-- The object of a text, which ends at e.
abbrev pub object_of : List ℕ → ℕ → ℕ → Element
object_of s e k = record { start = skip_space s 0; size = e - skip_space s 0; kind = k }

-- 2 where one of them is no object; else whether they are the same.
abbrev pub texts_same : List ℕ → List ℕ → Option Found → Option Found → ℕ
texts_same s t (Some v) (Some w) = cond (same_at 12 s t (object_of s v.end.at v.kind) (object_of t w.end.at w.kind)) 1 0
texts_same s t (Some v) None = 2
texts_same s t None (Some w) = 2
texts_same s t None None = 2
