-- `mode_at` takes what the value names, and its mode.
use mathlib.Core.Path.{◌≡◌, sym, ap, ◌∙◌}
use mathlib.Core.List.{List, flatten}
use Prim.Native.Nat.{ℕ}
use Rattle.std.specs.Prelude.{Option}
use Rattle.prelude.specs.Ascii.{ascii}
use Rattle.names.specs.Names.{names, list_of, number_in}
use Rattle.names.proofs.Contents.{names_of_lem, filled_list}
use Rattle.algorithms.specs.Algorithms.{algs, alg_name, alg_names, nth, mode_of}
use Rattle.algorithms.specs.declared.Alg.{Alg}
use Rattle.jose.proofs.rules.mode_at.Goals as goal

pub number_in-requires : goal.number_in-requires
unfolding list_of flatten ascii algs alg_name alg_names
number_in-requires c = filled_list alg_names

-- the mode by the number that the value has in the list of names
mode_found : {o : Option Alg} {i : ℕ} (v : List ℕ) → o ≡ nth algs i → i ≡ number_in (names (list_of alg_names)) v →
    mode_of o ≡ mode_of (nth algs (number_in alg_names v))
mode_found v e f =
    ap mode_of (e ∙ ap (nth algs) (f ∙ ap (λ (ns : List (List ℕ)). number_in ns v) (names_of_lem alg_names)))

pub returns-in-Some : goal.returns-in-Some
unfolding list_of flatten ascii algs alg_name alg_names
returns-in-Some c =
    c.mode.ensures ∙ ap mode_of (sym c.in-Some.is) ∙ mode_found _ c.numbered.ensures c.number_in.ensures

pub returns-in-None : goal.returns-in-None
unfolding list_of flatten ascii algs alg_name alg_names
returns-in-None c = ap mode_of (sym c.in-None.is) ∙ mode_found _ c.numbered.ensures c.number_in.ensures
