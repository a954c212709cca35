-- `unlisted_at` asks the entry's number, and where it is one of the three, for its value in the list of that name.
use mathlib.Core.Path.{sym, ap, ◌∙◌}
use mathlib.Core.List.{List, flatten}
use Prim.Native.Nat.{ℕ}
use lib.Dec.{eqb}
use Rattle.prelude.specs.Ascii.{ascii}
use Rattle.names.specs.Names.{list_of, number_in}
use Rattle.names.proofs.Contents.{names_of_lem, filled_list}
use Rattle.rows.specs.Rows.{value_in}
use Rattle.rows.specs.Inner.Views.{the_entry, the_texts}
use Rattle.algorithms.specs.Algorithms.{algs, alg_name, alg_names, encs, enc_name, enc_names, zip_names}
use Rattle.jose.proofs.Asked.{alg_value, enc_value, zip_value}
use Rattle.jose.proofs.rules.unlisted_at.Goals as goal

pub number_in-requires : goal.number_in-requires
unfolding list_of flatten ascii algs alg_name alg_names
number_in-requires c =
    filled_list alg_names

pub returns-then-number-eq-ALG : goal.returns-then-number-eq-ALG
unfolding list_of flatten ascii algs alg_name alg_names
returns-then-number-eq-ALG c =
    let args = c.args in
    let ts = the_texts args.texts in
    let e = the_entry args.e in
    ap (λ (n : ℕ). eqb n 0)
    (c.number_in.ensures ∙ ap (λ (ns : List (List ℕ)). number_in ns (value_in ts e)) (names_of_lem alg_names))
    ∙ alg_value ts e (sym c.number-number.ensures ∙ c.if-number-eq-ALG.true)

pub number_in-requires-then-number-eq-ENC : goal.number_in-requires-then-number-eq-ENC
unfolding list_of flatten ascii encs enc_name enc_names
number_in-requires-then-number-eq-ENC c =
    filled_list enc_names

pub returns-then-number-eq-ENC : goal.returns-then-number-eq-ENC
unfolding list_of flatten ascii encs enc_name enc_names
returns-then-number-eq-ENC c =
    let args = c.args in
    let ts = the_texts args.texts in
    let e = the_entry args.e in
    ap (λ (n : ℕ). eqb n 0)
    (c.number_in-then-number-eq-ENC.ensures ∙ ap (λ (ns : List (List ℕ)). number_in ns (value_in ts e)) (names_of_lem enc_names))
    ∙ enc_value ts e (sym c.number-number.ensures ∙ c.if-number-eq-ENC.true)

pub number_in-requires-then-number-eq-ZIP : goal.number_in-requires-then-number-eq-ZIP
unfolding list_of flatten ascii zip_names
number_in-requires-then-number-eq-ZIP c =
    filled_list zip_names

pub returns-then-number-eq-ZIP : goal.returns-then-number-eq-ZIP
unfolding list_of flatten ascii zip_names
returns-then-number-eq-ZIP c =
    let args = c.args in
    let ts = the_texts args.texts in
    let e = the_entry args.e in
    ap (λ (n : ℕ). eqb n 0)
    (c.number_in-then-number-eq-ZIP.ensures ∙ ap (λ (ns : List (List ℕ)). number_in ns (value_in ts e)) (names_of_lem zip_names))
    ∙ zip_value ts e (sym c.number-number.ensures ∙ c.if-number-eq-ZIP.true)
