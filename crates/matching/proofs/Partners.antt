-- Searching one entry after the other finds the partner: what is found from an entry on stays what the whole search finds, until
-- one has the name or none is left.
use mathlib.Core.Path.{◌≡◌, refl, ap, sym, subst, ◌∙◌}
use mathlib.Core.Bool.{Bool, true, false, cond}
use mathlib.Core.List.{List, [], ◌∷◌, ◌++◌}
use mathlib.Core.Option.{Option, none, some}
use Prim.Native.Nat.{ℕ, zero, suc, ◌+◌, ◌*◌, ◌≤◌, ◌<◌}
use native.Mathlib.Omega.{arith}
use lib.ListN.{length, drop}
use Rattle.rows.specs.Rows.{Entry, Texts, name_says}
use Rattle.rows.specs.Tables.{first_of, entries_of, width}
use Rattle.rows.proofs.Entries.{entry_at, entries_done, entries_length}
use Rattle.matching.specs.Matching.{partner}
use Rattle.matching.specs.Inner.Places.{nth, EntryReads, EachReads}
use Rattle.matching.specs.declared.Side.{Side}
use Rattle.matching.specs.Inner.Sides.{entries, entry_at as entry_of}

-- The k-th entry, by what stands from it on.

abbrev pub head_of : List Entry → Option Entry
head_of [] = none
head_of (e ∷ es) = some e

pub nth_drop : (es : List Entry) (k : ℕ) → nth es k ≡ head_of (drop k es)
unfolding nth
nth_drop [] zero = refl
nth_drop [] (suc k) = refl
nth_drop (e ∷ es) zero = refl
nth_drop (e ∷ es) (suc k) = nth_drop es k

pub nth_at : (k count : ℕ) (t : List ℕ) → k < count → nth (entries_of count t) k ≡ some (first_of (drop (k * width) t))
nth_at k count t h = nth_drop (entries_of count t) k ∙ ap head_of (entry_at k count t h)

pub nth_none : (k count : ℕ) (t : List ℕ) → count ≤ k → nth (entries_of count t) k ≡ none
nth_none k count t h = nth_drop (entries_of count t) k ∙ ap head_of (entries_done k count t h)

pub some_is : {e f : Entry} → ◌≡◌ {A = Option Entry} (some e) (some f) → e ≡ f
some_is p = cc

-- An entry that is there is one of the table's.
pub nth_below : (es : List Entry) (k : ℕ) (e : Entry) → nth es k ≡ some e → k < length es
unfolding nth
nth_below [] k e p = let z : ◌≡◌ {A = ℕ} 0 1 = cc in omega arith
nth_below (x ∷ es) zero e p = omega arith
nth_below (x ∷ es) (suc k) e p = omega (arith, nth_below es k e p)

-- In the first of two lists.
pub nth_append : (es fs : List Entry) (k : ℕ) → k < length es → nth (es ++ fs) k ≡ nth es k
unfolding nth
nth_append [] fs k h = absurd (omega arith)
nth_append (e ∷ es) fs zero h = refl
nth_append (e ∷ es) fs (suc k) h = nth_append es fs k (omega arith)

-- What is found in one list, and else in the other.
abbrev pub or_else : Option Entry → Option Entry → Option Entry
or_else none y = y
or_else (some e) y = some e

pub partner_append : (ts : Texts) (w : List ℕ) (es fs : List Entry) →
    partner ts w (es ++ fs) ≡ or_else (partner ts w es) (partner ts w fs)
unfolding partner
partner_append ts w [] fs = refl
partner_append ts w (e ∷ es) fs = cases (name_says ts w e) (partner_append ts w es fs)
  where
    cases : (b : Bool) → partner ts w (es ++ fs) ≡ or_else (partner ts w es) (partner ts w fs) →
        cond b (some e) (partner ts w (es ++ fs)) ≡ or_else (cond b (some e) (partner ts w es)) (partner ts w fs)
    cases true later = refl
    cases false later = later

-- The loop: `answer` is what the whole search finds, the same as from entry j on.
module _ (ts : Texts) (w : List ℕ) (answer : Option Entry) (count j : ℕ) (t : List ℕ)
    (so : partner ts w (drop j (entries_of count t)) ≡ answer) where
  module _ (h : j < count) where
    abbrev turn : Bool → Option Entry
    turn b = cond b (some (first_of (drop (j * width) t))) (partner ts w (drop (j + 1) (entries_of count t)))

    here : turn (name_says ts w (first_of (drop (j * width) t))) ≡ answer
    unfolding partner
    here = sym (ap (partner ts w) (entry_at j count t h)) ∙ so

    -- This one has another name.
    pub partner_turn : name_says ts w (first_of (drop (j * width) t)) ≡ false →
        partner ts w (drop (j + 1) (entries_of count t)) ≡ answer
    partner_turn e = sym (ap turn e) ∙ here

    -- This one has it.
    pub partner_found : name_says ts w (first_of (drop (j * width) t)) ≡ true → answer ≡ nth (entries_of count t) j
    partner_found e = sym here ∙ ap turn e ∙ sym (nth_at j count t h)

  -- There are no more.
  pub partner_done : count ≤ j → answer ≡ none
  unfolding partner
  partner_done h = sym so ∙ ap (partner ts w) (entries_done j count t h)

-- An entry of a table whose entries read.
pub each_at : (ts : Texts) (k count : ℕ) (t : List ℕ) → k < count → EachReads ts (entries_of count t) →
    EntryReads ts (first_of (drop (k * width) t))
each_at ts k count t h all = all k _ (nth_at k count t h)

-- What holds of each entry of a side by its number.
pub by_number : (s : Side) (P : ℕ → Entry → Type 0) → ((i : ℕ) → i < s.count → P i (entry_of s i)) → (i : ℕ) (e : Entry) →
    nth (entries s) i ≡ some e → P i e
by_number s P h i e p =
    let below : i < s.count = omega (arith, nth_below (entries s) i e p, entries_length s.count s.table.now) in
    subst (P i) (some_is (sym (nth_at i s.count s.table.now below) ∙ p)) (h i below)
