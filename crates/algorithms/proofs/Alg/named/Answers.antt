-- `named` answers by the definition: the list is that of the names, by computing.
use mathlib.Core.Path.{ap, ◌∙◌}
use mathlib.Core.List.{List, flatten}
use Prim.Native.Nat.{ℕ}
use Rattle.prelude.specs.Ascii.{ascii}
use Rattle.names.specs.Names.{list_of, number_in}
use Rattle.names.proofs.Contents.{names_of_lem, filled_list}
use Rattle.algorithms.specs.Algorithms.{algs, alg_name, alg_names, nth}
use Rattle.algorithms.proofs.Alg.named.Goals as goal

pub find-requires : goal.find-requires
unfolding list_of flatten ascii algs alg_name alg_names
find-requires c = filled_list alg_names

pub returns : goal.returns
unfolding list_of flatten ascii algs alg_name alg_names
returns c =
    let spelled = c.args.spelled.now in
    c.numbered.ensures
    ∙ ap (nth algs) (c.find.ensures ∙ ap (λ (ns : List (List ℕ)). number_in ns spelled) (names_of_lem alg_names))
