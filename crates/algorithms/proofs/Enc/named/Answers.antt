-- `named` answers by the definition: the list is that of the names, by computing.
use mathlib.Core.Path.{ap, ◌∙◌}
use mathlib.Core.List.{List, flatten}
use Prim.Native.Nat.{ℕ}
use Rattle.prelude.specs.Ascii.{ascii}
use Rattle.names.specs.Names.{list_of, number_in}
use Rattle.names.proofs.Contents.{names_of_lem, filled_list}
use Rattle.algorithms.specs.Algorithms.{encs, enc_name, enc_names, nth}
use Rattle.algorithms.proofs.Enc.named.Goals as goal

pub find-requires : goal.find-requires
unfolding list_of flatten ascii encs enc_name enc_names
find-requires c = filled_list enc_names

pub returns : goal.returns
unfolding list_of flatten ascii encs enc_name enc_names
returns c =
    let spelled = c.args.spelled.now in
    c.numbered.ensures
    ∙ ap (nth encs) (c.find.ensures ∙ ap (λ (ns : List (List ℕ)). number_in ns spelled) (names_of_lem enc_names))
