-- One table of rules behind another: where a rule of the first is broken its number is given, and where none is that of the second
-- table. No rule of the reader's table has the number 0.
use mathlib.Core.Path.{◌≡◌, refl, sym, subst, ◌∙◌}
use mathlib.Core.Bool.{Bool, true, false}
use mathlib.Core.Logic.{inl, inr}
use mathlib.Core.List.{List, [], ◌∷◌, ◌++◌}
use Prim.Native.Nat.{ℕ}
use lib.Dec.{eqb}
use borrow.Author.Tests.{eqb-true, eqb-false}
use Rattle.prelude.specs.Refusals.{Test, first}
use Rattle.prelude.proofs.Refusals.{nonzero, first_skip, first_stop}
use Rattle.grammar.specs.Bounds.{Every}
use Rattle.json_message.proofs.Agree.{Agree, agreed}
use Rattle.meets.specs.Members.{Member}
use Rattle.meets.specs.Rules.{Headers}
use Rattle.refusals.specs.Table.{Table, pass, rule, given, fork, Refuses}
use Rattle.refusals.specs.Numbers.{recipient_table, Key, Own, elements_table, owns_table, recipients_table, headers_table, json_table}
use Rattle.json_trips.specs.JsonNumbers.{followed_by}

-- No rule has the number 0.
unfoldable NonZero : Table → Type 0
NonZero pass = Unit {0}
NonZero (rule n P rest) = (eqb n 0 ≡ false) × ((p : P) → NonZero (rest p))
NonZero (given P rest) = (p : P) → NonZero (rest p)
NonZero (fork P s t) = NonZero s × NonZero t

-- One table behind another

-- A rule of the first is broken.
broken_first : (t u : Table) (k : ℕ) → (k ≡ 0 → ⊥) → Refuses t k → Refuses (followed_by t u) k
unfolding Refuses followed_by
broken_first pass u k n r = absurd (n r)
broken_first (rule m P rest) u k n (inl b) = inl b
broken_first (rule m P rest) u k n (inr b) = inr (b.0, λ p. broken_first (rest p) u k n (b.1 p))
broken_first (given P rest) u k n r = (r.0, λ p. broken_first (rest p) u k n (r.1 p))
broken_first (fork P s t) u k n (inl b) = inl (b.0, broken_first s u k n b.1)
broken_first (fork P s t) u k n (inr b) = inr (b.0, broken_first t u k n b.1)

-- None is.
kept_first : (t u : Table) (k : ℕ) → NonZero t → Refuses t 0 → Refuses u k → Refuses (followed_by t u) k
unfolding Refuses followed_by NonZero
kept_first pass u k z r s = s
kept_first (rule m P rest) u k z (inl b) s = absurd (eqb-false m 0 z.0 (sym b.1))
kept_first (rule m P rest) u k z (inr b) s = inr (b.0, λ p. kept_first (rest p) u k (z.1 p) (b.1 p) s)
kept_first (given P rest) u k z r s = (r.0, λ p. kept_first (rest p) u k (z p) (r.1 p) s)
kept_first (fork P a b) u k z (inl r) s = inl (r.0, kept_first a u k z.0 r.1 s)
kept_first (fork P a b) u k z (inr r) s = inr (r.0, kept_first b u k z.1 r.1 s)

-- Tests xs, which agree with tests ps without the number 0, and ys behind them.
followed_refuses : (t u : Table) (xs ps ys : List Test) → Agree xs ps → nonzero ps ≡ true → NonZero t → Refuses t (first xs) →
    Refuses u (first ys) → Refuses (followed_by t u) (first (xs ++ ys))
followed_refuses t u xs ps ys a p z r s = cases (eqb (first ps) 0) refl
  where
    cases : (b : Bool) → eqb (first ps) 0 ≡ b → Refuses (followed_by t u) (first (xs ++ ys))
    cases true e =
        let none = eqb-true (first ps) 0 e in
        subst (Refuses (followed_by t u)) (sym (a.before ys ys refl ∙ first_skip ps ys p none))
        (kept_first t u (first ys) z (subst (Refuses t) (agreed a ∙ none) r) s)
    cases false e =
        let some = eqb-false (first ps) 0 e in
        subst (Refuses (followed_by t u)) (sym (a.before ys ys refl ∙ first_stop ps ys p some ∙ sym (agreed a)))
        (broken_first t u (first xs) (λ q. some (sym (agreed a) ∙ q)) r)

-- The reader's table, rule by rule

rules : {P : Type 0} (n : ℕ) (rest : P → Table) → eqb n 0 ≡ false → ((p : P) → NonZero (rest p)) → NonZero (rule n P rest)
unfolding NonZero
rules n rest e z = (e, z)

gives : {P : Type 0} (rest : P → Table) → ((p : P) → NonZero (rest p)) → NonZero (given P rest)
unfolding NonZero
gives rest z = z

forks : (P : Type 0) (s t : Table) → NonZero s → NonZero t → NonZero (fork P s t)
unfolding NonZero
forks P s t a b = (a, b)

none : NonZero pass
unfolding NonZero
none = tt

module _ (known : List (List ℕ)) where
  recipient_nonzero : (h : Headers) (key : List ℕ) (rest : Table) → NonZero rest → NonZero (recipient_table known h key rest)
  unfolding recipient_table
  recipient_nonzero h key rest z =
      rules 12 _ refl λ a.
      rules 13 _ refl λ b.
      rules 14 _ refl λ c.
      rules 15 _ refl λ d.
      rules 16 _ refl λ e.
      rules 17 _ refl λ f.
      rules 18 _ refl λ g.
      z

  recipients_nonzero : (protected shared : List Member) (rs : List (List Member)) (o : Every Own rs) (k : Every Key rs)
      (rest : Table) → NonZero rest → NonZero (recipients_table known protected shared rs o k rest)
  unfolding recipients_table
  recipients_nonzero protected shared [] o k rest z = z
  recipients_nonzero protected shared (ms ∷ rs) o k rest z =
      recipient_nonzero (record { protected = protected; shared = shared; own = o.0.0 }) k.0.0 _
      (recipients_nonzero protected shared rs o.1 k.1 rest z)

  owns_nonzero : (rs : List (List Member)) (o : Every Own rs) (rest : Table) → NonZero rest → NonZero (owns_table rs o rest)
  unfolding owns_table
  owns_nonzero [] o rest z = z
  owns_nonzero (ms ∷ rs) o rest z = rules 8 _ refl λ few. rules 9 _ refl λ once. owns_nonzero rs o.1 rest z

  elements_nonzero : (rs : List (List Member)) (rest : Table) → NonZero rest → NonZero (elements_table rs rest)
  unfolding elements_table
  elements_nonzero [] rest z = z
  elements_nonzero (ms ∷ rs) rest z =
      rules 8 _ refl λ few. rules 9 _ refl λ once. rules 10 _ refl λ shape. elements_nonzero rs rest z

  headers_nonzero : (ps : List Member) (rs : List (List Member)) (k : Every Key rs) (recipient : ℕ) (protected : List Member) →
      NonZero (headers_table known ps rs k recipient protected)
  unfolding headers_table
  headers_nonzero ps rs k recipient protected =
      rules 8 _ refl λ few.
      rules 9 _ refl λ once.
      gives _ λ s.
      rules 8 _ refl λ sharedFew.
      rules 9 _ refl λ sharedOnce.
      gives _ λ o.
      owns_nonzero rs o _
      (recipients_nonzero protected s.0 rs o k _ (rules 21 _ refl λ content. rules 19 _ refl λ asked. none))

  json_nonzero : (message : List ℕ) (recipient : ℕ) → NonZero (json_table known message recipient)
  unfolding json_table
  json_nonzero message recipient =
      rules 7 _ refl λ r.
      rules 8 _ refl λ few.
      rules 9 _ refl λ once.
      rules 10 _ refl λ shape.
      gives _ λ g.
      rules 11 _ refl λ most.
      elements_nonzero g.0 _
      (rules 5 _ refl λ c.
      forks _ _ _
      (rules 6 _ refl λ short.
      rules 7 _ refl λ reads.
      rules 10 _ refl λ some.
      headers_nonzero _ g.0 c.5 recipient _)
      (headers_nonzero _ g.0 c.5 recipient []))

-- Its tests, and others behind them.
pub reader_followed : (known : List (List ℕ)) (message : List ℕ) (u : Table) (xs ps ys : List Test) → Agree xs ps →
    nonzero ps ≡ true → Refuses (json_table known message 0) (first xs) → Refuses u (first ys) →
    Refuses (followed_by (json_table known message 0) u) (first (xs ++ ys))
reader_followed known message u xs ps ys a p r s =
    followed_refuses (json_table known message 0) u xs ps ys a p (json_nonzero known message 0) r s
