-- 21, by the own headers that were collected: where a header that all recipients share has `enc`, no two differ; where none has, what
-- the own headers show is compared.
use mathlib.Core.Path.{◌≡◌, refl, ap, ap₂, sym, ◌∙◌}
use mathlib.Core.Bool.{Bool, true, false, ◌||◌, cond}
use mathlib.Core.List.{List, [], ◌∷◌, ◌++◌, map}
use mathlib.Core.Option.{Option, none}
use Prim.Native.Nat.{ℕ, zero, suc, ◌+◌, ◌-◌, ◌≤◌, ◌<◌}
use native.Mathlib.Omega.{arith}
use lib.ListN.{length, drop, get_or, get_or-eq_default}
use Rattle.prelude.specs.Any.{any}
use Rattle.prelude.specs.Refusals.{Test, first}
use Rattle.rows.specs.Rows.{Entry, read_texts, present, value_in}
use Rattle.grammar.specs.Bounds.{Every}
use Rattle.jose.specs.Registered.{enc}
use Rattle.jose.specs.ContentAlgorithm.{content_algorithm, differ, differing}
use Rattle.jose.specs.Inner.Content.{named_in, shown_in}
use Rattle.jose.proofs.ContentAlgorithm.{content_own, content_shown, content_shared, none_differing}
use Rattle.headers.specs.Components.{Components}
use Rattle.shape.specs.Shape.{Recipient}
use Rattle.jwe.specs.General.{own_entries}
use Rattle.jwe.specs.Inner.Stages.{recipients_of, own_at, Owned, own_content, own_contents, rule_tests}
use Rattle.jwe.specs.Inner.Stages.{content_tests, ruled_tests}
use Rattle.jwe.proofs.JsonOrder.{stop, skip, rule_nonzero}
use Rattle.jwe.proofs.RecipientRows.{here, recipient_at_lem, recipients_done}
use Rattle.jwe.proofs.OwnHeaders.{laid_entries, own_stands}

none_differs : (xs : List (Option (List ℕ))) → any (differ none) xs ≡ false
unfolding any
none_differs [] = refl
none_differs (x ∷ xs) = none_differs xs

-- Loops over the own headers

module _ (message own counts : List ℕ) where
  abbrev one : ℕ → Option (List ℕ)
  one = own_content message own counts

  abbrev contents : ℕ → ℕ → List (Option (List ℕ))
  contents = own_contents message own counts

  contents_next : (i number : ℕ) → i < number → contents i (number - i) ≡ one i ∷ contents (i + 1) (number - (i + 1))
  unfolding own_contents
  contents_next i number h =
      let left : number - i ≡ suc (number - (i + 1)) = omega arith in ap (contents i) left

  contents_done : (i number : ℕ) → number ≤ i → contents i (number - i) ≡ []
  unfolding own_contents
  contents_done i number h = let left : number - i ≡ 0 = omega arith in ap (contents i) left

  -- Whether one differs: `answer` is what is answered in the end, the same as from own header i on.
  module _ (x : Option (List ℕ)) (answer : Bool) (number i : ℕ) (so : any (differ x) (contents i (number - i)) ≡ answer) where
    module _ (h : i < number) where
      this : differ x (one i) || any (differ x) (contents (i + 1) (number - (i + 1))) ≡ answer
      unfolding any
      this = sym (ap (any (differ x)) (contents_next i number h)) ∙ so

      pub same_turn : differ x (one i) ≡ false → any (differ x) (contents (i + 1) (number - (i + 1))) ≡ answer
      same_turn e = sym (ap (λ (b : Bool). b || any (differ x) (contents (i + 1) (number - (i + 1)))) e) ∙ this

      pub other_found : differ x (one i) ≡ true → true ≡ answer
      other_found e = sym (ap (λ (b : Bool). b || any (differ x) (contents (i + 1) (number - (i + 1)))) e) ∙ this

    pub all_same : number ≤ i → false ≡ answer
    unfolding any
    all_same h = sym (ap (any (differ x)) (contents_done i number h)) ∙ so

  -- The k-th of them.
  content_at : (n k i : ℕ) → k < n → get_or (contents i n) k none ≡ one (i + k)
  unfolding own_contents
  content_at zero k i h = absurd (omega arith)
  content_at (suc n) zero i h = let e : i ≡ i + 0 = omega arith in ap one e
  content_at (suc n) (suc k) i h =
      let e : i + 1 + k ≡ i + suc k = omega arith in content_at n k (i + 1) (omega arith) ∙ ap one e

  contents_length : (n i : ℕ) → length (contents i n) ≡ n
  unfolding own_contents
  contents_length zero i = refl
  contents_length (suc n) i = ap suc (contents_length n (i + 1))

  -- What is asked of all, with one of them ..
  pub with_one : (number k : ℕ) → k < number → any (differ (one k)) (contents 0 number) ≡ differing k (contents 0 number)
  unfolding differing
  with_one number k h =
      let at : 0 + k ≡ k = omega arith in
      ap (λ (x : Option (List ℕ)). any (differ x) (contents 0 number)) (sym (content_at number k 0 h ∙ ap one at))

  -- .. and with none.
  pub with_none : (number k : ℕ) → number ≤ k → false ≡ differing k (contents 0 number)
  unfolding differing
  with_none number k h =
      sym (ap (λ (x : Option (List ℕ)). any (differ x) (contents 0 number))
      (get_or-eq_default (contents 0 number) none (omega (arith, contents_length number 0)))
      ∙ none_differs (contents 0 number))

-- What the own headers show is the recipients' content algorithm, as far as it stands there.
module _ (header message of own counts : List ℕ) (number : ℕ) (owned : Owned number message of own counts) where
  abbrev own_content_of : Recipient → Option (List ℕ)
  own_content_of r = content_algorithm (read_texts header message) (own_entries message r)

  shown_is : (k : ℕ) → k < number → own_content message own counts k ≡ own_content_of (here number k of)
  shown_is k h =
      ap (λ (l : List Entry). shown_in message (named_in l)) (laid_entries message own counts _ k (owned k h))
      ∙ sym (content_shown (read_texts header message) message (own_at message of k)
      (own_stands message of k header))

  from_here : (n k : ℕ) → k + n ≡ number → own_contents message own counts k n ≡ map own_content_of (drop k (recipients_of number of))
  unfolding own_contents
  from_here zero k e = sym (ap (map own_content_of) (recipients_done number k of (omega (arith, e))))
  from_here (suc n) k e =
      let below : k < number = omega (arith, e) in
      ap₂ ◌∷◌ (shown_is k below) (from_here n (k + 1) (omega (arith, e)))
      ∙ sym (ap (map own_content_of) (recipient_at_lem number k of below))

  -- No header that all share has `enc`.
  module _ (front : List Entry) (absent : present enc front ≡ false) where
    own_alone : (rs : List Recipient) →
        map (λ r. content_algorithm (read_texts header message) (front ++ own_entries message r)) rs ≡ map own_content_of rs
    own_alone [] = refl
    own_alone (r ∷ rs) = ap₂ ◌∷◌ (content_own (read_texts header message) front (own_entries message r) absent) (own_alone rs)

    differing_own : differing 0 (own_contents message own counts 0 number)
        ≡ differing 0
        (map (λ r. content_algorithm (read_texts header message) (front ++ own_entries message r)) (recipients_of number of))
    differing_own =
        ap (differing 0) (from_here number 0 (omega arith) ∙ sym (own_alone (recipients_of number of)))

-- One that all share does.
shared_same : (header message : List ℕ) (front : List Entry) (rs : List Recipient) → present enc front ≡ true →
    differing 0 (map (λ r. content_algorithm (read_texts header message) (front ++ own_entries message r)) rs) ≡ false
shared_same header message front rs there =
    let ts = read_texts header message in
    none_differing (λ r. content_algorithm ts (front ++ own_entries message r))
    (λ r q. content_shared ts ts front (own_entries message r) (own_entries message q) there (alike front)) 0 rs
  where
    alike : (es : List Entry) → Every (λ e. value_in (read_texts header message) e ≡ value_in (read_texts header message) e) es
    alike [] = tt
    alike (e ∷ es) = (refl, alike es)

-- 12 to 18 on each recipient, and 21

module _ (known : List (List ℕ)) (header message : List ℕ) (front : List Entry) (q : Components) (rs : List Recipient) where
  abbrev rules : List Test
  rules = rule_tests known header message front q rs

  abbrev ruled : List Test
  ruled = ruled_tests known header message front q rs

  pub rules_refuse : {n : ℕ} → first rules ≡ n → 0 < n → first ruled ≡ n
  unfolding ruled_tests
  rules_refuse e h = stop rules _ (rule_nonzero known header message front q rs) e h

  module _ (passed : first rules ≡ 0) where
    by_content : {b : Bool} →
        differing 0 (map (λ r. content_algorithm (read_texts header message) (front ++ own_entries message r)) rs) ≡ b →
        first ruled ≡ cond b 21 0
    unfolding ruled_tests content_tests first
    by_content e =
        skip rules _ (rule_nonzero known header message front q rs) passed ∙ ap (λ (b : Bool). cond {A = ℕ} b 21 0) e

    pub shared_passes : present enc front ≡ true → first ruled ≡ 0
    shared_passes there = by_content (shared_same header message front rs there)

module _ (known : List (List ℕ)) (header message of own counts : List ℕ) (number : ℕ)
    (owned : Owned number message of own counts) (front : List Entry) (q : Components)
    (passed : first (rule_tests known header message front q (recipients_of number of)) ≡ 0)
    (absent : present enc front ≡ false) where
  pub own_decides : {b : Bool} → differing 0 (own_contents message own counts 0 number) ≡ b →
      first (ruled_tests known header message front q (recipients_of number of)) ≡ cond b 21 0
  own_decides e =
      by_content known header message front q (recipients_of number of) passed
      (sym (differing_own header message of own counts number owned front absent) ∙ e)
