-- Loops that ask something of one entry after the other: what is asked from an entry on stays the answer of the whole,
-- until one passes or none is left.
use mathlib.Core.Path.{◌≡◌, refl, ap, sym, ◌∙◌}
use mathlib.Core.Bool.{Bool, true, false, ◌||◌, cond}
use mathlib.Core.List.{List, [], ◌∷◌}
use Prim.Native.Nat.{ℕ, ◌+◌, ◌*◌, ◌≤◌, ◌<◌}
use lib.ListN.{drop}
use lib.Dec.{eqb}
use borrow.Author.Tests.{eq-eqb, ne_eqb}
use Rattle.prelude.specs.Any.{any, any_pair}
use Rattle.rows.specs.Rows.{Entry, numbered, present, having}
use Rattle.rows.specs.Tables.{first_of, entries_of, width}
use Rattle.rows.proofs.Entries.{entry_at, entries_done}

-- Whether one of them passes; `answer` is what is answered in the end, the same as from entry i on.
module _ (f : Entry → Bool) (answer : Bool) (count i : ℕ) (t : List ℕ)
    (so : any f (drop i (entries_of count t)) ≡ answer) where
  module _ (h : i < count) where
    here : f (first_of (drop (i * width) t)) || any f (drop (i + 1) (entries_of count t)) ≡ answer
    unfolding any
    here = sym (ap (any f) (entry_at i count t h)) ∙ so

    -- This one does not.
    pub any_turn : f (first_of (drop (i * width) t)) ≡ false → any f (drop (i + 1) (entries_of count t)) ≡ answer
    any_turn e = sym (ap (λ (b : Bool). b || any f (drop (i + 1) (entries_of count t))) e) ∙ here

    -- This one does.
    pub any_found : f (first_of (drop (i * width) t)) ≡ true → true ≡ answer
    any_found e = sym (ap (λ (b : Bool). b || any f (drop (i + 1) (entries_of count t))) e) ∙ here

  -- There are no more.
  pub any_done : count ≤ i → false ≡ answer
  unfolding any
  any_done h = sym (ap (any f) (entries_done i count t h)) ∙ so

-- Whether two of them pass, an entry being asked with those behind it.
module _ (f : Entry → Entry → Bool) (answer : Bool) (count i : ℕ) (t : List ℕ)
    (so : any_pair f (drop i (entries_of count t)) ≡ answer) where
  module _ (h : i < count) where
    here_pair : any (f (first_of (drop (i * width) t))) (drop (i + 1) (entries_of count t))
        || any_pair f (drop (i + 1) (entries_of count t)) ≡ answer
    unfolding any_pair
    here_pair = sym (ap (any_pair f) (entry_at i count t h)) ∙ so

    pub pair_turn : any (f (first_of (drop (i * width) t))) (drop (i + 1) (entries_of count t)) ≡ false →
        any_pair f (drop (i + 1) (entries_of count t)) ≡ answer
    pair_turn e = sym (ap (λ (b : Bool). b || any_pair f (drop (i + 1) (entries_of count t))) e) ∙ here_pair

    pub pair_found : any (f (first_of (drop (i * width) t))) (drop (i + 1) (entries_of count t)) ≡ true → true ≡ answer
    pair_found e = sym (ap (λ (b : Bool). b || any_pair f (drop (i + 1) (entries_of count t))) e) ∙ here_pair

  pub pair_done : count ≤ i → false ≡ answer
  unfolding any_pair
  pair_done h = sym (ap (any_pair f) (entries_done i count t h)) ∙ so

-- Those that have a number, from entry i on.
module _ (n count i : ℕ) (t : List ℕ) where
  module _ (h : i < count) where
    abbrev by : Bool → List Entry
    by b =
        let rest = having n (drop (i + 1) (entries_of count t)) in
        cond b (first_of (drop (i * width) t) ∷ rest) rest

    having_here : having n (drop i (entries_of count t)) ≡ by (eqb (first_of (drop (i * width) t)).number n)
    unfolding having
    having_here = ap (having n) (entry_at i count t h)

    -- This one has another ..
    pub having_turn : ((first_of (drop (i * width) t)).number ≡ n → ⊥) →
        having n (drop (i + 1) (entries_of count t)) ≡ having n (drop i (entries_of count t))
    having_turn d = sym (having_here ∙ ap by (ne_eqb (first_of (drop (i * width) t)).number n d))

    -- .. or has it.
    pub having_found : (first_of (drop (i * width) t)).number ≡ n →
        having n (drop i (entries_of count t)) ≡ first_of (drop (i * width) t) ∷ having n (drop (i + 1) (entries_of count t))
    having_found e = having_here ∙ ap by (eq-eqb (first_of (drop (i * width) t)).number n e)

  -- There are no more.
  pub having_done : count ≤ i → having n (drop i (entries_of count t)) ≡ []
  unfolding having
  having_done h = ap (having n) (entries_done i count t h)

-- Whether there is one.

abbrev pub is_some : List Entry → Bool
is_some [] = false
is_some (e ∷ es) = true

pub present_having : (n : ℕ) (es : List Entry) → present n es ≡ is_some (having n es)
unfolding present any having
present_having n [] = refl
present_having n (e ∷ es) = cases (numbered n e) (present_having n es)
  where
    cases : (b : Bool) → any (numbered n) es ≡ is_some (having n es) →
        b || any (numbered n) es ≡ is_some (cond b (e ∷ having n es) (having n es))
    cases true later = refl
    cases false later = later
