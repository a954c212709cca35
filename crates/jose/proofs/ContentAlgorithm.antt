-- The content algorithm of a recipient: how the code finds it, that it depends only on what each entry shows, and that it is its own
-- header's where those that all recipients share have no `enc`.
use mathlib.Core.Path.{◌≡◌, refl, ap, ap₂, sym, subst, ◌∙◌}
use mathlib.Core.Bool.{Bool, true, false, not, ◌||◌, cond, true≢false}
use mathlib.Core.List.{List, [], ◌∷◌, ◌++◌, map}
use mathlib.Core.Option.{Option, none, some}
use Prim.Native.Nat.{ℕ, zero, suc, ◌+◌, ◌-◌}
use lib.ListN.{get_or}
use lib.Dec.{eqb}
use borrow.Author.Tests.{eq-eqb, ne_eqb}
use Rattle.grammar.specs.Bounds.{Every}
use Rattle.grammar.specs.Spellings.{undo, equal, alike}
use Rattle.grammar.proofs.Spellings.{equal_same}
use Rattle.grammar.proofs.Scan.{T→true}
use Rattle.prelude.specs.Any.{any}
use Rattle.rows.specs.Rows.{Entry, Texts, text_of, spelled_value, value_in, numbered, present, having}
use Rattle.rows.proofs.Asking.{is_some, present_having}
use Rattle.rows.proofs.Printing.{StandIn}
use Rattle.jose.specs.Registered.{enc, string}
use Rattle.jose.specs.ContentAlgorithm.{sole_string, content_algorithm, differ, differing}
use Rattle.std.specs.Prelude.{Some, None, Option as Maybe}
use Rattle.prelude.specs.declared.Place.{Place}
use Rattle.jose.specs.Inner.Content.{place_of, named_in, shown_in}
use Rattle.jose.proofs.Alike.{Alike, Beside}

-- Where it stands, by the entries that are an `enc`

module _ (es : List Entry) where
  pub none_named : having enc es ≡ [] → None ≡ named_in es
  unfolding named_in
  none_named h = sym (ap place_of h)

  pub two_named : {e f : Entry} {rest : List Entry} → having enc es ≡ e ∷ (f ∷ rest) → None ≡ named_in es
  unfolding named_in
  two_named h = sym (ap place_of h)

  module _ {e : Entry} (only : having enc es ≡ e ∷ []) where
    abbrev by : Bool → Maybe Place
    by b = cond b (Some (record { start = e.member.value_start + 1; len = e.member.value_size - 2 })) None

    one_is : named_in es ≡ by (eqb e.member.kind string)
    unfolding named_in
    one_is = ap place_of only

    pub other_named : (e.member.kind ≡ string → ⊥) → None ≡ named_in es
    other_named n = sym (one_is ∙ ap by (ne_eqb e.member.kind string n))

    pub string_named : e.member.kind ≡ string → by true ≡ named_in es
    string_named h = sym (one_is ∙ ap by (eq-eqb e.member.kind string h))

-- Entries of one number

having_append : (n : ℕ) (es fs : List Entry) → having n (es ++ fs) ≡ having n es ++ having n fs
unfolding having
having_append n [] fs = refl
having_append n (e ∷ es) fs = cases (numbered n e) (having_append n es fs)
  where
    cases : (b : Bool) → having n (es ++ fs) ≡ having n es ++ having n fs →
        cond b (e ∷ having n (es ++ fs)) (having n (es ++ fs)) ≡ cond b (e ∷ having n es) (having n es) ++ having n fs
    cases true h = ap (λ (l : List Entry). e ∷ l) h
    cases false h = h

having_none : (n : ℕ) (es : List Entry) → present n es ≡ false → having n es ≡ []
having_none n es h = cases (having n es) (sym (present_having n es) ∙ h)
  where
    cases : (fs : List Entry) → is_some fs ≡ false → fs ≡ []
    cases [] e = refl
    cases (f ∷ fs) e = absurd (true≢false e)

having_some : (n : ℕ) (es : List Entry) → present n es ≡ true → (e : Entry) × (rest : List Entry) × (having n es ≡ e ∷ rest)
having_some n es h = cases (having n es) (sym (present_having n es) ∙ h)
  where
    cases : (fs : List Entry) → is_some fs ≡ true → (e : Entry) × (rest : List Entry) × (fs ≡ e ∷ rest)
    cases [] e = absurd (true≢false (sym e))
    cases (f ∷ fs) e = (f, fs, refl)

having_every : (P : Entry → Type 0) (n : ℕ) (es : List Entry) → Every P es → Every P (having n es)
unfolding having
having_every P n [] h = tt
having_every P n (e ∷ es) h = cases (numbered n e) (having_every P n es h.1)
  where
    cases : (b : Bool) → Every P (having n es) → Every P (cond b (e ∷ having n es) (having n es))
    cases true later = (h.0, later)
    cases false later = later

-- It depends only on what each entry shows.

module _ (ts us : Texts) where
  having_beside : (n : ℕ) (es fs : List Entry) → Beside (Alike ts us) es fs →
      Beside (Alike ts us) (having n es) (having n fs)
  unfolding having
  having_beside n [] [] z = tt
  having_beside n [] (f ∷ fs) z = absurd z
  having_beside n (e ∷ es) [] z = absurd z
  having_beside n (e ∷ es) (f ∷ fs) z =
      cases (numbered n e) (numbered n f) (ap (λ (k : ℕ). eqb k n) z.0.number) (having_beside n es fs z.1)
    where
      cases : (a b : Bool) → a ≡ b → Beside (Alike ts us) (having n es) (having n fs) →
          Beside (Alike ts us) (cond a (e ∷ having n es) (having n es)) (cond b (f ∷ having n fs) (having n fs))
      cases true true h later = (z.0, later)
      cases true false h later = absurd (true≢false h)
      cases false true h later = absurd (true≢false (sym h))
      cases false false h later = later

  sole_same : (es fs : List Entry) → Beside (Alike ts us) es fs → sole_string ts es ≡ sole_string us fs
  sole_same [] [] z = refl
  sole_same [] (f ∷ fs) z = absurd z
  sole_same (e ∷ es) [] z = absurd z
  sole_same (e ∷ []) (f ∷ []) z =
      ap₂ (λ (k : ℕ) (v : List ℕ). cond {A = Option (List ℕ)} (eqb k string) (some v) none) z.0.kind z.0.value
  sole_same (e ∷ []) (f ∷ (f' ∷ fs)) z = absurd z.1
  sole_same (e ∷ (e' ∷ es)) (f ∷ []) z = absurd z.1
  sole_same (e ∷ (e' ∷ es)) (f ∷ (f' ∷ fs)) z = refl

  pub content_same : (es fs : List Entry) → Beside (Alike ts us) es fs → content_algorithm ts es ≡ content_algorithm us fs
  unfolding content_algorithm
  content_same es fs z = sole_same (having enc es) (having enc fs) (having_beside enc es fs z)

-- Where the headers that all recipients share have no `enc`, it is that of the own header.

pub content_own : (ts : Texts) (front own : List Entry) → present enc front ≡ false →
    content_algorithm ts (front ++ own) ≡ content_algorithm ts own
unfolding content_algorithm
content_own ts front own h =
    ap (sole_string ts)
    (having_append enc front own ∙ ap (λ (l : List Entry). l ++ having enc own) (having_none enc front h))

-- Where all entries stand in one text, it is what that text shows there.
pub content_shown : (ts : Texts) (s : List ℕ) (es : List Entry) → StandIn ts s es →
    content_algorithm ts es ≡ shown_in s (named_in es)
unfolding content_algorithm named_in
content_shown ts s es h = cases (having enc es) (having_every (λ e. text_of ts e.origin ≡ s) enc es h)
  where
    one : (b : Bool) (e : Entry) → text_of ts e.origin ≡ s →
        cond {A = Option (List ℕ)} b (some (value_in ts e)) none
        ≡ shown_in s (cond b (Some (record { start = e.member.value_start + 1; len = e.member.value_size - 2 })) None)
    one true e o = ap (λ (w : List ℕ). some (spelled_value w e.member)) o
    one false e o = refl

    cases : (fs : List Entry) → StandIn ts s fs → sole_string ts fs ≡ shown_in s (place_of fs)
    cases [] z = refl
    cases (e ∷ []) z = one (eqb e.member.kind string) e z.0
    cases (e ∷ (f ∷ fs)) z = refl

-- Recipients that do not differ

alike_self : (v : List ℕ) → alike v v ≡ true
unfolding alike
alike_self v = T→true (equal (undo v) (undo v)) (equal_same (undo v))

differ_self : (x : Option (List ℕ)) → differ x x ≡ false
differ_self none = refl
differ_self (some v) = ap not (alike_self v)

module _ (ts us : Texts) (front es fs : List Entry) (there : present enc front ≡ true)
    (same : Every (λ e. value_in ts e ≡ value_in us e) front) where
  -- Where those headers have one, no two recipients differ.
  pub content_shared : differ (content_algorithm ts (front ++ es)) (content_algorithm us (front ++ fs)) ≡ false
  unfolding content_algorithm
  content_shared =
      let (e, rest, is) = having_some enc front there in
      let every = having_every (λ e. value_in ts e ≡ value_in us e) enc front same in
      let value = (subst (Every (λ e. value_in ts e ≡ value_in us e)) is every).0 in
      let from : (own : List Entry) → having enc (front ++ own) ≡ e ∷ (rest ++ having enc own) =
      λ own. having_append enc front own ∙ ap (λ (l : List Entry). l ++ having enc own) is in
      ap₂ (λ (a b : List Entry). differ (sole_string ts a) (sole_string us b)) (from es) (from fs)
      ∙ cases e value (rest ++ having enc es) (rest ++ having enc fs)
    where
      one : (e : Entry) → value_in ts e ≡ value_in us e → (b : Bool) →
          differ (cond b (some (value_in ts e)) none) (cond b (some (value_in us e)) none) ≡ false
      one e v true = ap (λ (w : List ℕ). differ (some w) (some (value_in us e))) v ∙ differ_self (some (value_in us e))
      one e v false = refl

      other : (x : Option (List ℕ)) → differ x none ≡ false
      other none = refl
      other (some v) = refl

      cases : (e : Entry) → value_in ts e ≡ value_in us e → (a b : List Entry) →
          differ (sole_string ts (e ∷ a)) (sole_string us (e ∷ b)) ≡ false
      cases e v [] [] = one e v (eqb e.member.kind string)
      cases e v [] (f ∷ b) = other (sole_string ts (e ∷ []))
      cases e v (f ∷ a) b = refl

module _ {A : Type 0} (C : A → Option (List ℕ)) (never : (r q : A) → differ (C r) (C q) ≡ false) where
  with_none : (x : Option (List ℕ)) → ((q : A) → differ x (C q) ≡ false) → (qs : List A) → any (differ x) (map C qs) ≡ false
  unfolding any
  with_none x h [] = refl
  with_none x h (q ∷ qs) = ap₂ ◌||◌ (h q) (with_none x h qs)

  -- Where no two differ, none differs from the n-th.
  pub none_differing : (n : ℕ) (rs : List A) → differing n (map C rs) ≡ false
  unfolding differing
  none_differing n rs = with_none (get_or (map C rs) n none) (cases n rs) rs
    where
      cases : (n : ℕ) (qs : List A) (q : A) → differ (get_or (map C qs) n none) (C q) ≡ false
      cases n [] q = refl
      cases zero (r ∷ qs) q = never r q
      cases (suc n) (r ∷ qs) q = cases n qs q

-- One recipient never differs.
pub one_never : (n : ℕ) (x : Option (List ℕ)) → differing n (x ∷ []) ≡ false
unfolding differing any
one_never zero x = ap (λ (b : Bool). b || false) (differ_self x)
one_never (suc n) x = refl
