-- Values that are not listed, and the mode, turn by turn.
use mathlib.Core.Path.{◌≡◌, refl, ap, sym, ◌∙◌}
use mathlib.Core.List.{List}
use mathlib.Core.Bool.{Bool, true, false, ◌&&◌, ◌||◌, cond}
use Prim.Native.Nat.{ℕ, ◌+◌, ◌*◌, ◌≤◌, ◌<◌}
use lib.ListN.{drop}
use lib.Dec.{eqb}
use borrow.Author.Tests.{eq-eqb, ne_eqb}
use Rattle.names.specs.Names.{number_in}
use Rattle.rows.specs.Rows.{Entry, Texts, value_in}
use Rattle.rows.specs.Tables.{first_of, entries_of, width}
use Rattle.rows.proofs.Entries.{entry_at, entries_done}
use Rattle.algorithms.specs.Algorithms.{algs, alg_names, enc_names, zip_names, nth, mode_of}
use Rattle.jose.specs.Registered.{alg, enc, zip}
use Rattle.jose.specs.HeaderRules.{unlisted, mode_in}

-- A value that is not listed

or_false : (b : Bool) → b ≡ b || false
or_false true = refl
or_false false = refl

module _ (ts : Texts) (e : Entry) where
  -- the value is none of these names
  abbrev none_of : List (List ℕ) → Bool
  none_of ns = eqb (number_in ns (value_in ts e)) 0

  abbrev by_number : ℕ → Bool
  by_number n =
      (eqb n alg && none_of alg_names) || ((eqb n enc && none_of enc_names) || (eqb n zip && none_of zip_names))

  pub alg_value : e.number ≡ alg → none_of alg_names ≡ unlisted ts e
  alg_value h = or_false (none_of alg_names) ∙ sym (ap by_number h)

  pub enc_value : e.number ≡ enc → none_of enc_names ≡ unlisted ts e
  enc_value h = or_false (none_of enc_names) ∙ sym (ap by_number h)

  pub zip_value : e.number ≡ zip → none_of zip_names ≡ unlisted ts e
  zip_value h = sym (ap by_number h)

-- The mode, turn by turn: what the entries from i on say is the answer

module _ (ts : Texts) (answer count i : ℕ) (t : List ℕ)
    (so : mode_in ts (drop i (entries_of count t)) ≡ answer) where
  module _ (h : i < count) where
    abbrev here : Bool → ℕ
    here b =
        cond b (mode_of (nth algs (number_in alg_names (value_in ts (first_of (drop (i * width) t))))))
        (mode_in ts (drop (i + 1) (entries_of count t)))

    at_turn : here (eqb (first_of (drop (i * width) t)).number alg) ≡ answer
    unfolding mode_in
    at_turn = sym (ap (mode_in ts) (entry_at i count t h)) ∙ so

    -- This one is no `alg`.
    pub mode_turn : ((first_of (drop (i * width) t)).number ≡ alg → ⊥) →
        mode_in ts (drop (i + 1) (entries_of count t)) ≡ answer
    mode_turn n = sym (ap here (ne_eqb (first_of (drop (i * width) t)).number alg n)) ∙ at_turn

    -- This one is.
    pub mode_found : (first_of (drop (i * width) t)).number ≡ alg →
        mode_of (nth algs (number_in alg_names (value_in ts (first_of (drop (i * width) t))))) ≡ answer
    mode_found n = sym (ap here (eq-eqb (first_of (drop (i * width) t)).number alg n)) ∙ at_turn

  -- There are no more.
  pub mode_done : count ≤ i → 0 ≡ answer
  unfolding mode_in
  mode_done h = sym (ap (mode_in ts) (entries_done i count t h)) ∙ so
