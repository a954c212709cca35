-- Recipients laid flat in a table, three numbers each, and read back; and loops over them: what is asked from a
-- recipient on
-- stays the answer of the whole, until one decides it or none is left.
use mathlib.Core.Path.{◌≡◌, refl, ap, ap₂, sym, subst, ◌∙◌}
use mathlib.Core.Bool.{Bool, true, false, ◌||◌}
use mathlib.Core.List.{List, [], ◌∷◌, ◌++◌, map, flat_map}
use Prim.Native.Nat.{ℕ, zero, suc, ◌+◌, ◌-◌, ◌*◌, ◌≤◌, ◌<◌}
use native.Mathlib.Nat.{not-suc-le-zero, le_of_suc-le-suc}
use native.Mathlib.Omega.{arith}
use lib.ListN.{length, drop, get_or, drop_of_length-le}
use lib.Seq.{drop-drop, get_or-drop}
use Rattle.prelude.specs.Buffer.{written}
use Rattle.grammar.specs.Bounds.{Every}
use Rattle.grammar.specs.Places.{Place}
use Rattle.prelude.specs.Any.{any}
use Rattle.prelude.specs.Refusals.{Test, first}
use Rattle.prelude.proofs.Refusals.{nonzero}
use Rattle.shape.specs.Shape.{Recipient}
use Rattle.shape.specs.Inner.Answers.{flat_recipients, recipient_width}
use Rattle.jwe.specs.Judge.{asked}
use Rattle.jwe.specs.Inner.Stages.{recipient_at, recipients_of}
use Rattle.jwe.proofs.JsonOrder.{stop, skip}

pub recipients_length : (n : ℕ) (t : List ℕ) → length (recipients_of n t) ≡ n
unfolding recipients_of
recipients_length zero t = refl
recipients_length (suc n) t = ap suc (recipients_length n (drop 3 t))

pub flat_length : (rs : List Recipient) → length (flat_recipients rs) ≡ length rs * recipient_width
unfolding flat_recipients
flat_length [] = refl
flat_length (r ∷ rs) = omega (arith, flat_length rs)

-- What was laid flat is read back

recipients_flat : (rs : List Recipient) (rest : List ℕ) → recipients_of (length rs) (flat_recipients rs ++ rest) ≡ rs
unfolding recipients_of flat_recipients
recipients_flat [] rest = refl
recipients_flat (r ∷ rs) rest = ap (λ (l : List Recipient). r ∷ l) (recipients_flat rs rest)

pub recipients_written : (rs : List Recipient) (table : List ℕ) →
    recipients_of (length rs) (written 0 (flat_recipients rs) table) ≡ rs
unfolding written
recipients_written rs table = recipients_flat rs (drop (0 + length (flat_recipients rs)) table)

-- From a recipient on

drop_recipients : (i n : ℕ) (t : List ℕ) → drop i (recipients_of n t) ≡ recipients_of (n - i) (drop (i * recipient_width) t)
unfolding recipients_of
drop_recipients zero n t = let e : n ≡ n - 0 = omega arith in ap (λ (k : ℕ). recipients_of k t) e
drop_recipients (suc i) zero t =
    let e : 0 ≡ 0 - suc i = omega arith in ap (λ (k : ℕ). recipients_of k (drop (suc i * recipient_width) t)) e
drop_recipients (suc i) (suc n) t =
    let left : n - i ≡ suc n - suc i = omega arith in
    let at : 3 + i * recipient_width ≡ suc i * recipient_width = omega arith in
    drop_recipients i n (drop 3 t)
    ∙ ap₂ recipients_of left (drop-drop (i * recipient_width) 3 t ∙ ap (λ (k : ℕ). drop k t) at)

module _ (number i : ℕ) (t : List ℕ) where
  abbrev pub here : Recipient
  here = recipient_at (drop (i * recipient_width) t)

  abbrev pub behind : List Recipient
  behind = drop (i + 1) (recipients_of number t)

  pub recipient_at_lem : i < number → drop i (recipients_of number t) ≡ here ∷ behind
  unfolding recipients_of
  recipient_at_lem h =
      let left : number - i ≡ suc (number - (i + 1)) = omega arith in
      let at : i * recipient_width + 3 ≡ (i + 1) * recipient_width = omega arith in
      let rest : recipients_of (number - (i + 1)) (drop 3 (drop (i * recipient_width) t)) ≡ behind =
      ap (recipients_of (number - (i + 1))) (drop-drop 3 (i * recipient_width) t ∙ ap (λ (k : ℕ). drop k t) at)
      ∙ sym (drop_recipients (i + 1) number t) in
      drop_recipients i number t ∙ ap (λ (n : ℕ). recipients_of n (drop (i * recipient_width) t)) left
      ∙ ap (λ (l : List Recipient). here ∷ l) rest

  pub recipients_done : number ≤ i → drop i (recipients_of number t) ≡ []
  recipients_done h = drop_of_length-le (recipients_of number t) {i = i} (omega (arith, recipients_length number t))

-- The one that is asked for

asked_drop : (i : ℕ) (rs : List Recipient) (r : Recipient) (rest : List Recipient) → drop i rs ≡ r ∷ rest → asked rs i ≡ r
unfolding asked
asked_drop zero [] r rest e = absurd (omega (arith, ap length e))
asked_drop zero (x ∷ rs) r rest e = cc
asked_drop (suc i) [] r rest e = absurd (omega (arith, ap length e))
asked_drop (suc i) (x ∷ rs) r rest e = asked_drop i rs r rest e

pub asked_at : (number i : ℕ) (t : List ℕ) → i < number → asked (recipients_of number t) i ≡ recipient_at (drop (i * recipient_width) t)
asked_at number i t h =
    asked_drop i (recipients_of number t) (here number i t) (behind number i t) (recipient_at_lem number i t h)

-- What holds of all of their headers.
pub header_at : (P : ℕ → Type 0) (n i : ℕ) (t : List ℕ) → Every (λ r. P r.header) (recipients_of n t) → i < n →
    P (get_or t (i * recipient_width) 0)
unfolding recipients_of
header_at P zero i t h l = absurd (not-suc-le-zero l)
header_at P (suc n) zero t h l = h.0
header_at P (suc n) (suc i) t h l =
    let k : 3 + i * recipient_width ≡ suc i * recipient_width = omega arith in
    subst P (get_or-drop 3 t (i * recipient_width) 0 ∙ ap (λ (j : ℕ). get_or t j 0) k)
    (header_at P n i (drop 3 t) h.1 (le_of_suc-le-suc l))

-- Whether something holds of one of their keys

abbrev pub keys : List Recipient → List Place
keys rs = map (λ (r : Recipient). r.key) rs

module _ (f : Place → Bool) (answer : Bool) (number i : ℕ) (t : List ℕ)
    (so : any f (keys (drop i (recipients_of number t))) ≡ answer) where
  module _ (h : i < number) where
    this : f (here number i t).key || any f (keys (behind number i t)) ≡ answer
    unfolding any
    this = sym (ap (λ (l : List Recipient). any f (keys l)) (recipient_at_lem number i t h)) ∙ so

    pub key_turn : f (here number i t).key ≡ false → any f (keys (behind number i t)) ≡ answer
    key_turn e = sym (ap (λ (b : Bool). b || any f (keys (behind number i t))) e) ∙ this

    pub key_found : f (here number i t).key ≡ true → true ≡ answer
    key_found e = sym (ap (λ (b : Bool). b || any f (keys (behind number i t))) e) ∙ this

  pub keys_done : number ≤ i → false ≡ answer
  unfolding any
  keys_done h = sym (ap (λ (l : List Recipient). any f (keys l)) (recipients_done number i t h)) ∙ so

-- The first refusal of one after the other

module _ (f : Recipient → List Test) (sound : (r : Recipient) → nonzero (f r) ≡ true) (answer number i : ℕ) (t : List ℕ)
    (so : first (flat_map f (drop i (recipients_of number t))) ≡ answer) where
  module _ (h : i < number) where
    both : first (f (here number i t) ++ flat_map f (behind number i t)) ≡ answer
    unfolding flat_map
    both = sym (ap (λ (l : List Recipient). first (flat_map f l)) (recipient_at_lem number i t h)) ∙ so

    pub one_passes : first (f (here number i t)) ≡ 0 → first (flat_map f (behind number i t)) ≡ answer
    one_passes e = sym (skip (f (here number i t)) (flat_map f (behind number i t)) (sound (here number i t)) e) ∙ both

    pub one_refuses : {n : ℕ} → first (f (here number i t)) ≡ n → 0 < n → answer ≡ n
    one_refuses e z =
        sym both ∙ stop (f (here number i t)) (flat_map f (behind number i t)) (sound (here number i t)) e z

  pub all_pass : number ≤ i → answer ≡ 0
  unfolding flat_map first
  all_pass h = sym so ∙ ap (λ (l : List Recipient). first (flat_map f l)) (recipients_done number i t h)
