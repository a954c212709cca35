-- Names told apart window by window: what a filter that has everything of a window in it says, and pairs within two
-- parts of a list.
use mathlib.Core.Path.{◌≡◌, refl, ap, ap₂, sym, subst, ◌∙◌}
use mathlib.Core.Bool.{Bool, true, false, ◌||◌, cond, true≢false}
use mathlib.Core.List.{List, [], ◌∷◌, ◌++◌, append-nil, append_assoc}
use mathlib.Core.Logic.{inl, inr}
use mathlib.Core.Option.{Option, none, some}
use Prim.Native.Nat.{ℕ, zero, suc, ◌+◌, ◌*◌, ◌-◌, ◌≤◌, ◌<◌}
use native.Mathlib.Nat.{le_of_suc-le-suc, not-suc-le-zero}
use native.Mathlib.Omega.{arith}
use native.Mathlib.Numerals.{add-one}
use lib.ListN.{length, take, get_or, set, length-append}
use lib.Seq.{get_or-set_same, get_or-set_other}
use lib.Dec.{eqb, ltb}
use borrow.Author.Tests.{eqb-true, eqb-false, ltb-true, ltb-false}
use Rattle.grammar.specs.Grammar.{Bracket, curly, comma}
use Rattle.grammar.specs.Places.{Member}
use Rattle.grammar.specs.Bounds.{Every}
use Rattle.grammar.specs.Spellings.{undo}
use Rattle.spelling.specs.Inner.Fingerprints.{fingerprint}
use Rattle.grammar.specs.Reader.{octet_at, step, skip_space, Answer, Entry, entry_at, rows_after, rows_at, value_at}
use Rattle.json_read.specs.Inner.Known.{KnownNext, KnownFrom}
use Rattle.json_read.specs.Members.{next_from, row_here, member_of}
use Rattle.spelling.proofs.Fingerprints.{alike_fingerprint}
use Rattle.prelude.specs.Any.{any, any_pair}
use Rattle.distinct.specs.Names.{depth, name_at, same_name}
use Rattle.distinct.specs.Inner.Walking.{row_member, rows_from}
use Rattle.distinct.proofs.Walks.{row_more, known_more}
use Rattle.json_read.specs.declared.Position.{Position}
use Rattle.json_read.specs.declared.member.Row.{Row}
use Rattle.distinct.specs.Inner.Filter.{tag, tag_of, start_of, NoneFree, MarkedIn, Marked, Freed, Entered, Behind}

-- Fewer turns

module _ (inner : ℕ → Answer) (b : Bracket) (s : List ℕ) where
  rows_take : (k n at : ℕ) → k ≤ n → rows_at inner b s k at ≡ take k (rows_at inner b s n at)
  unfolding rows_at
  rows_take zero n at h = refl
  rows_take (suc k) zero at h = absurd (not-suc-le-zero h)
  rows_take (suc k) (suc n) at h = cases (entry_at inner b s at) (λ q. rows_take k n q (le_of_suc-le-suc h))
    where
      both : (t : Bool) (q : ℕ) → rows_at inner b s k q ≡ take k (rows_at inner b s n q) →
          cond t (rows_at inner b s k q) [] ≡ take k (cond t (rows_at inner b s n q) [])
      both true q e = e
      both false q e = nil k
        where
          nil : (k : ℕ) → ◌≡◌ {A = List Member} [] (take k [])
          nil zero = refl
          nil (suc k) = refl

      cases : (o : Option Entry) → ((q : ℕ) → rows_at inner b s k q ≡ take k (rows_at inner b s n q)) →
          rows_after s (rows_at inner b s k) o ≡ take (suc k) (rows_after s (rows_at inner b s n) o)
      cases none later = refl
      cases (some x) later =
          let after = skip_space s x.after in
          let q = skip_space s (step s after) in
          ap (λ r. x.row ∷ r) (both (eqb (octet_at s after) comma) q (later q))

pub rows_fewer : (s : List ℕ) (k n at : ℕ) → k ≤ n → rows_from curly s k at ≡ take k (rows_from curly s n at)
rows_fewer s k n at h = rows_take (value_at depth s) curly s k n at h

pub known_fewer : (s : List ℕ) (k n at : ℕ) → k ≤ n → KnownFrom curly depth s n at → KnownFrom curly depth s k at
unfolding KnownFrom
known_fewer s zero n at h f = tt
known_fewer s (suc k) zero at h f = absurd (not-suc-le-zero h)
known_fewer s (suc k) (suc n) at h f =
    (f.0, cases (entry_at (value_at depth s) curly s at) (λ q. known_fewer s k n q (le_of_suc-le-suc h)) f.1)
  where
    cases : (o : Option Entry) → ((q : ℕ) → KnownFrom curly depth s n q → KnownFrom curly depth s k q) →
        KnownNext s (KnownFrom curly depth s n) o → KnownNext s (KnownFrom curly depth s k) o
    cases none later g = tt
    cases (some x) later g = later (next_from s x.after) g

-- One more.
pub rows_snoc : (s : List ℕ) (k n at : ℕ) (m : Member) (xs ys : List Member) → k < n →
    rows_from curly s n at ≡ xs ++ (m ∷ ys) → length xs ≡ k → rows_from curly s (k + 1) at ≡ xs ++ (m ∷ [])
rows_snoc s k n at m xs ys h e l =
    rows_fewer s (k + 1) n at (omega arith) ∙ ap (take (k + 1)) e ∙ ap (λ j. take j (xs ++ (m ∷ ys))) (add-one k)
    ∙ front xs k l
  where
    front : (xs : List Member) (k : ℕ) → length xs ≡ k → take (suc k) (xs ++ (m ∷ ys)) ≡ xs ++ (m ∷ [])
    front [] zero e = refl
    front [] (suc k) e = absurd (omega arith)
    front (x ∷ xs) zero e = absurd (omega arith)
    front (x ∷ xs) (suc k) e = ap (λ r. x ∷ r) (front xs k (omega arith))

-- Pairs of a list in two parts

module _ {A : Type 0} where
  pub any_append : (f : A → Bool) (xs ys : List A) → any f (xs ++ ys) ≡ any f xs || any f ys
  unfolding any
  any_append f [] ys = refl
  any_append f (x ∷ xs) ys = ap (λ z. f x || z) (any_append f xs ys) ∙ assoc (f x) (any f xs) (any f ys)
    where
      assoc : (a b c : Bool) → a || (b || c) ≡ (a || b) || c
      assoc true b c = refl
      assoc false b c = refl

  any_or : (f g : A → Bool) (xs : List A) → any (λ x. f x || g x) xs ≡ any f xs || any g xs
  unfolding any
  any_or f g [] = refl
  any_or f g (x ∷ xs) = ap (λ z. (f x || g x) || z) (any_or f g xs) ∙ four (f x) (g x) (any f xs) (any g xs)
    where
      four : (a b c d : Bool) → (a || b) || (c || d) ≡ (a || c) || (b || d)
      four true b c d = refl
      four false true true d = refl
      four false true false d = refl
      four false false c d = refl

  any_never : (xs : List A) → any (λ _. false) xs ≡ false
  unfolding any
  any_never [] = refl
  any_never (x ∷ xs) = any_never xs

  module _ (f : A → A → Bool) where
    -- Those of the first part against those of the second.
    abbrev pub Across : List A → List A → Bool
    Across xs ys = any (λ m. any (λ x. f x m) xs) ys

    pub pair_append : (xs ys : List A) → any_pair f (xs ++ ys) ≡ (any_pair f xs || Across xs ys) || any_pair f ys
    unfolding any any_pair
    pair_append [] ys = ap (λ z. z || any_pair f ys) (sym (any_never ys))
    pair_append (x ∷ xs) ys =
        ap₂ (λ p q. p || q) (any_append (f x) xs ys) (pair_append xs ys)
        ∙ five (any (f x) xs) (any (f x) ys) (any_pair f xs) (Across xs ys) (any_pair f ys)
        ∙ ap (λ z. ((any (f x) xs || any_pair f xs) || z) || any_pair f ys)
        (sym (any_or (f x) (λ m. any (λ x. f x m) xs) ys))
      where
        five : (a b p c q : Bool) → (a || b) || ((p || c) || q) ≡ ((a || p) || (b || c)) || q
        five true b p c q = refl
        five false true true c q = refl
        five false true false c q = refl
        five false false p c q = refl

    -- One more that says what none of the others says; and one that says what one of them says.

    one_across : (xs : List A) (m : A) → Across xs (m ∷ []) ≡ any (λ x. f x m) xs
    unfolding any
    one_across xs m = or_none (any (λ x. f x m) xs)
      where
        or_none : (b : Bool) → b || false ≡ b
        or_none true = refl
        or_none false = refl

    pub pair_snoc : (xs : List A) (m : A) → any_pair f xs ≡ false → any (λ x. f x m) xs ≡ false →
        any_pair f (xs ++ (m ∷ [])) ≡ false
    unfolding any any_pair
    pair_snoc xs m e g =
        pair_append xs (m ∷ [])
        ∙ ap₂ (λ p q. (p || q) || false) e (one_across xs m ∙ g)

    pub pair_found : (xs : List A) (m : A) (ys : List A) → any (λ x. f x m) xs ≡ true → any_pair f (xs ++ (m ∷ ys)) ≡ true
    unfolding any any_pair
    pair_found xs m ys g =
        pair_append xs (m ∷ ys)
        ∙ ap (λ z. (any_pair f xs || (z || any (λ n. any (λ x. f x n) xs) ys)) || (any (f m) ys || any_pair f ys)) g
        ∙ last (any_pair f xs) (any (f m) ys || any_pair f ys)
      where
        last : (a b : Bool) → (a || true) || b ≡ true
        last true b = refl
        last false b = refl

    pub pair_rest : (xs ys : List A) → any_pair f xs ≡ false → Across xs ys ≡ false → any_pair f (xs ++ ys) ≡ any_pair f ys
    pair_rest xs ys e g = pair_append xs ys ∙ ap₂ (λ p q. (p || q) || any_pair f ys) e g

    pub pair_across : (xs ys : List A) → any_pair f xs ≡ false → Across xs ys ≡ true → any_pair f (xs ++ ys) ≡ true
    pair_across xs ys e g = pair_append xs ys ∙ ap₂ (λ p q. (p || q) || any_pair f ys) e g

-- The filter

pub tag_some : (n : ℕ) → 0 < tag n
tag_some zero = omega arith
tag_some (suc n) = omega arith

-- Where a free place is filled, none that was not free becomes so.
run_set : (w : List ℕ) (k v b e : ℕ) → get_or w k 0 ≡ 0 → NoneFree w b e → NoneFree (set w k v) b e
run_set w k v b e z f i l r g =
    let n : i ≡ k → ⊥ = λ q. f i l r (ap (λ j. get_or w j 0) q ∙ z) in
    f i l r (sym (get_or-set_other w k i v 0 n) ∙ g)

-- What is marked stays so.
marked_set : (w : List ℕ) (k v b e u : ℕ) → get_or w k 0 ≡ 0 → 0 < u → MarkedIn w b e u → MarkedIn (set w k v) b e u
marked_set w k v b e u z h (inl m) =
    let n : m.place ≡ k → ⊥ = λ q. let y = sym m.there ∙ ap (λ i. get_or w i 0) q ∙ z in omega (arith, y) in
    inl (record {
      place = m.place;
      from = m.from;
      there = get_or-set_other w k m.place v 0 n ∙ m.there;
      run = run_set w k v b m.place z m.run;
    })
marked_set w k v b e u z h (inr f) = inr (run_set w k v b e z f)

module _ (w : List ℕ) (b e v k : ℕ) (f : Freed w b e v k) where
  -- What is entered is marked.
  freed_set : k < length w → MarkedIn (set w k v) b e v
  freed_set h =
      inl (record {
        place = k;
        from = f.from;
        there = get_or-set_same w k v 0 h;
        run = run_set w k v b k f.free f.run;
      })

  -- A free place: the tag was not marked, since it would stand before it.
  freed_unmarked : 0 < v → MarkedIn w b e v → ⊥
  freed_unmarked h (inl m) = cases (ltb m.place k) refl (ltb k m.place) refl
    where
      cases : (x : Bool) → ltb m.place k ≡ x → (y : Bool) → ltb k m.place ≡ y → ⊥
      cases true p y q = f.unseen m.place m.from (ltb-true m.place k p) m.there
      cases false p true q = m.run k f.from (ltb-true k m.place q) f.free
      cases false p false q =
          let one : m.place ≡ k = omega (arith, ltb-false m.place k p, ltb-false k m.place q) in
          let z = sym m.there ∙ ap (λ i. get_or w i 0) one ∙ f.free in
          omega (arith, z)
  freed_unmarked h (inr n) = n k f.from f.below f.free

-- Names that say the same have one tag; so a name whose tag is not marked says what none of the entered ones says.
pub unmarked : (size : ℕ) (s w : List ℕ) (m : Member) (xs : List Member) → (Marked size w (tag_of s m) → ⊥) →
    Every (λ x. Marked size w (tag_of s x)) xs → any (λ x. same_name s s x m) xs ≡ false
unfolding any
unmarked size s w m [] n h = refl
unmarked size s w m (x ∷ xs) n h = cases (same_name s s x m) refl (unmarked size s w m xs n h.1)
  where
    cases : (b : Bool) → same_name s s x m ≡ b → any (λ x. same_name s s x m) xs ≡ false →
        same_name s s x m || any (λ x. same_name s s x m) xs ≡ false
    cases true e g =
        absurd (n (subst (λ p. Marked size w (tag p)) (alike_fingerprint (name_at s x) (name_at s m) e) h.0))
    cases false e g = ap (λ z. z || any (λ x. same_name s s x m) xs) e ∙ g

pub marks_stay : (size : ℕ) (s w z : List ℕ) → ((u : ℕ) → 0 < u → Marked size w u → Marked size z u) → (xs : List Member) →
    Every (λ x. Marked size w (tag_of s x)) xs → Every (λ x. Marked size z (tag_of s x)) xs
marks_stay size s w z f [] h = tt
marks_stay size s w z f (x ∷ xs) h =
    (f (tag_of s x) (tag_some (fingerprint (undo (name_at s x)))) h.0, marks_stay size s w z f xs h.1)

pub marks_snoc : (size : ℕ) (s w : List ℕ) (xs : List Member) (m : Member) → Every (λ x. Marked size w (tag_of s x)) xs →
    Marked size w (tag_of s m) → Every (λ x. Marked size w (tag_of s x)) (xs ++ (m ∷ []))
marks_snoc size s w [] m h k = (k, tt)
marks_snoc size s w (x ∷ xs) m h k = (h.0, marks_snoc size s w xs m h.1 k)

-- Looking from a place on: none so far is free or holds the tag.

pub record Looking (w : List ℕ) (b v at : ℕ) : Type 0 where
  pub from : b ≤ at
  pub run : NoneFree w b at
  pub unseen : (k : ℕ) → b ≤ k → k < at → get_or w k 0 ≡ v → ⊥

module _ (w : List ℕ) (b v : ℕ) where
  pub look_start : Looking w b v b
  look_start = record {
    from = omega arith;
    run = λ k l r e. absurd (omega arith);
    unseen = λ k l r e. absurd (omega arith);
  }

  -- One place further.
  further : (P : ℕ → Type 0) (at : ℕ) → ((k : ℕ) → b ≤ k → k < at → P k → ⊥) → (P at → ⊥) → (k : ℕ) → b ≤ k →
      k < at + 1 → P k → ⊥
  further P at f n k l r p = cases (eqb k at) refl
    where
      cases : (t : Bool) → eqb k at ≡ t → ⊥
      cases true e = n (subst P (eqb-true k at e) p)
      cases false e = let g = eqb-false k at e in f k l (omega (arith, g)) p

  module _ (at : ℕ) (h : Looking w b v at) where
    pub look_on : (get_or w at 0 ≡ v → ⊥) → (get_or w at 0 ≡ 0 → ⊥) → Looking w b v (at + 1)
    look_on n z = record {
      from = omega (arith, h.from);
      run = further (λ k. get_or w k 0 ≡ 0) at h.run z;
      unseen = further (λ k. get_or w k 0 ≡ v) at h.unseen n;
    }

    pub look_found : (e : ℕ) → get_or w at 0 ≡ v → MarkedIn w b e v
    look_found e g = inl (record { place = at; from = h.from; there = g; run = h.run })

    pub look_free : (e : ℕ) → at < e → get_or w at 0 ≡ 0 → Freed w b e v at
    look_free e l z = record { from = h.from; below = l; free = z; run = h.run; unseen = h.unseen }

    pub look_full : (e : ℕ) → e ≤ at → MarkedIn w b e v
    look_full e l = inr (λ i f g. h.run i f (omega (arith, g, l)))

-- Entering a tag, b being where its search begins.
module _ (size : ℕ) (w : List ℕ) (v b : ℕ) (e : b ≡ start_of size v) (some : 0 < v) where
  module _ (k : ℕ) (l : Freed w b (4 * size) v k) where
    unmarked_free : Marked size w v → ⊥
    unmarked_free m =
        freed_unmarked w b (4 * size) v k l some (subst (λ c. MarkedIn w c (4 * size) v) (sym e) m)

    pub entered_kept : (keep : Bool) → k < length w → Entered size w (set w k v) v keep false
    entered_kept keep h = record {
      fresh = λ _. unmarked_free;
      kept = λ _. subst (λ c. MarkedIn (set w k v) c (4 * size) v) e (freed_set w b (4 * size) v k l h);
      stays = λ u g m. marked_set w k v (start_of size u) (4 * size) u l.free g m;
    }

    pub entered_not : (keep : Bool) → keep ≡ false → Entered size w w v keep false
    entered_not keep h = record {
      fresh = λ _. unmarked_free;
      kept = λ t. absurd (true≢false (sym t ∙ h));
      stays = λ u g m. m;
    }

  pub entered_taken : (keep : Bool) → MarkedIn w b (4 * size) v → Entered size w w v keep true
  entered_taken keep l = record {
    fresh = λ t. absurd (true≢false t);
    kept = λ _. subst (λ c. MarkedIn w c (4 * size) v) e l;
    stays = λ u g m. m;
  }

-- A window as it is filled: its first members, which say different things and are entered, and those to come.
pub record Filling (size : ℕ) (s w : List ℕ) (left at q done : ℕ) : Type 0 where
  pub fits : done ≤ left
  pub rows : rows_from curly s left at ≡ rows_from curly s done at ++ rows_from curly s (left - done) q
  pub long : length (rows_from curly s done at) ≡ done
  pub apart : any_pair (same_name s s) (rows_from curly s done at) ≡ false
  pub marks : Every (λ m. Marked size w (tag_of s m)) (rows_from curly s done at)
  pub known : KnownFrom curly depth s (left - done) q

no_turns : (s : List ℕ) (at : ℕ) → rows_from curly s 0 at ≡ []
unfolding rows_at
no_turns s at = refl

module _ (size : ℕ) (s w : List ℕ) (left at : ℕ) where
  abbrev rows_of : ℕ → List Member
  rows_of n = rows_from curly s n at

  pub filling_start : KnownFrom curly depth s left at → Filling size s w left at at 0
  unfolding any any_pair
  filling_start k =
      let e : left ≡ left - 0 = omega arith in
      record {
        fits = omega arith;
        rows = ap rows_of e ∙ ap (λ r. r ++ rows_of (left - 0)) (sym (no_turns s at));
        long = ap length (no_turns s at);
        apart = ap (any_pair (same_name s s)) (no_turns s at);
        marks = subst (Every (λ m. Marked size w (tag_of s m))) (sym (no_turns s at)) tt;
        known = subst (λ n. KnownFrom curly depth s n at) e k;
      }

  module _ (q done : ℕ) (f : Filling size s w left at q done) where
    -- Nothing is behind what has been entered.
    pub filling_end : KnownFrom curly depth s left at → rows_from curly s (left - done) q ≡ [] → Behind size s left at w q 0
    unfolding KnownFrom
    filling_end k e =
        let all : left ≡ left - 0 = omega arith in
        let same : rows_of (left - 0) ≡ rows_of done =
        sym (ap rows_of all) ∙ f.rows ∙ ap (λ r. rows_of done ++ r) e ∙ append-nil (rows_of done) in
        record {
          rows = ap rows_of all ∙ sym (append-nil (rows_of (left - 0))) ∙ ap (λ r. rows_of (left - 0) ++ r) (sym (no_turns s q));
          apart = ap (any_pair (same_name s s)) same ∙ f.apart;
          marks = subst (Every (λ m. Marked size w (tag_of s m))) (sym same) f.marks;
          known = subst (λ n. KnownFrom curly depth s n at) all k;
          others = tt;
          fits = omega arith;
          falls = λ h. h;
        }

    -- The window is full.
    pub filling_full : KnownFrom curly depth s left at → 0 < done → Behind size s left at w q (left - done)
    filling_full k h =
        let e : done ≡ left - (left - done) = omega (arith, f.fits) in
        record {
          rows = f.rows ∙ ap (λ n. rows_of n ++ rows_from curly s (left - done) q) e;
          apart = ap (λ n. any_pair (same_name s s) (rows_of n)) (sym e) ∙ f.apart;
          marks = subst (λ n. Every (λ m. Marked size w (tag_of s m)) (rows_of n)) e f.marks;
          known = known_fewer s (left - (left - done)) left at (omega arith) k;
          others = f.known;
          fits = omega arith;
          falls = λ g. omega (arith, f.fits);
        }

    -- One more.
    module _ (row : Row) (next : Position) (h : 0 < left - done)
        (e : row_here row next ≡ member_of s (entry_at (value_at depth s) curly s q)) where
      abbrev m : Member
      m = row_member row

      abbrev behind : List Member
      behind = rows_from curly s (left - done - 1) next.at

      split : rows_of left ≡ rows_of done ++ (m ∷ behind)
      split = f.rows ∙ ap (λ r. rows_of done ++ r) (row_more curly s (left - done) q h row next e)

      pub filling_found : any (λ x. same_name s s x m) (rows_of done) ≡ true → any_pair (same_name s s) (rows_of left) ≡ true
      filling_found t = ap (any_pair (same_name s s)) split ∙ pair_found (same_name s s) (rows_of done) m behind t

      pub filling_more : (z : List ℕ) → any (λ x. same_name s s x m) (rows_of done) ≡ false →
          Every (λ x. Marked size z (tag_of s x)) (rows_of done) → Marked size z (tag_of s m) →
          Filling size s z left at next.at (done + 1)
      filling_more z t marks mark =
          let one : rows_of (done + 1) ≡ rows_of done ++ (m ∷ []) =
          rows_snoc s done left at m (rows_of done) behind (omega arith) split f.long in
          let n : left - done - 1 ≡ left - (done + 1) = omega arith in
          record {
            fits = omega arith;
            rows =
                split ∙ sym (append_assoc (rows_of done) (m ∷ []) behind)
                ∙ ap₂ (λ r k. r ++ rows_from curly s k next.at) (sym one) n;
            long = ap length one ∙ omega (arith, length-append (rows_of done) (m ∷ []), f.long);
            apart = ap (any_pair (same_name s s)) one ∙ pair_snoc (same_name s s) (rows_of done) m f.apart t;
            marks = subst (Every (λ x. Marked size z (tag_of s x))) (sym one) (marks_snoc size s z (rows_of done) m marks mark);
            known = subst (λ k. KnownFrom curly depth s k next.at) n (known_more curly s (left - done) q h row next e f.known);
          }
