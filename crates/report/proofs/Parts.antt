-- A text written part by part: `start` opens it, `fits` says that there is room for the next part, `step` goes over a call
-- that writes it, and `done` closes the text.
use mathlib.Core.Path.{◌≡◌, refl, ap, sym, subst, ◌∙◌}
use mathlib.Core.List.{List, [], ◌∷◌, ◌++◌, append-nil}
use Prim.Native.Nat.{ℕ, ◌+◌, ◌≤◌, ◌<◌}
use native.Mathlib.Numerals.{add-one}
use lib.ListN.{length, drop, get_or, drop_of_length-le}
use lib.Seq.{drop-cons}
use Rattle.prelude.specs.Buffer.{written}
use Rattle.prelude.proofs.Writing.{Writing, begin_as, put_part, room_part, ended}

-- The parts one behind the other.
abbrev pub joined : List (List ℕ) → List ℕ
joined [] = []
joined (p ∷ []) = p
joined (p ∷ q ∷ ps) = p ++ joined (q ∷ ps)

joined_first : (p : List ℕ) (ps : List (List ℕ)) → joined (p ∷ ps) ≡ p ++ joined ps
joined_first p [] = sym (append-nil p)
joined_first p (q ∷ ps) = refl

-- The first i parts are written.
pub record Done (at : ℕ) (parts : List (List ℕ)) (out : List ℕ) (i j : ℕ) (now : List ℕ) : Type 0 where
  pub writing : Writing at (joined parts) out (joined (drop i parts)) j now

pub start : (at : ℕ) (parts : List (List ℕ)) (out : List ℕ) → at + length (joined parts) ≤ length out → Done at parts out 0 at out
start at parts out h = record { writing = begin_as at (joined parts) (joined parts) out refl h }

module _ {at : ℕ} {parts : List (List ℕ)} {out : List ℕ} {i j : ℕ} {now : List ℕ} (w : Done at parts out i j now) where
  module _ (h : i < length parts) where
    abbrev part : List ℕ
    part = get_or parts i []

    next : joined (drop i parts) ≡ part ++ joined (drop (i + 1) parts)
    next =
        let more : drop i parts ≡ part ∷ drop (i + 1) parts = rw (add-one, drop-cons parts i []) in
        ap joined more ∙ joined_first part (drop (i + 1) parts)

    pub fits : j + length part ≤ length now
    fits = room_part part (joined (drop (i + 1) parts)) next w.writing

    pub step : {k : ℕ} {later : List ℕ} → k ≡ j + length part → later ≡ written j part now → Done at parts out (i + 1) k later
    step e f = record { writing = put_part part (joined (drop (i + 1) parts)) next w.writing e f }

  pub done : length parts ≤ i → (j ≡ at + length (joined parts)) × (now ≡ written at (joined parts) out)
  done h =
      ended (subst (λ (l : List ℕ). Writing at (joined parts) out l j now) (ap joined (drop_of_length-le parts h)) w.writing)
