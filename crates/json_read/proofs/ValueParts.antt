-- Parts of a value as the code reads them, one test or one call after the other.
use mathlib.Core.Path.{◌≡◌, refl, ap, sym, ◌∙◌}
use mathlib.Core.Bool.{Bool, true, false, true≢false, cond}
use mathlib.Core.List.{List}
use mathlib.Core.Option.{Option, none, some}
use Prim.Native.Nat.{ℕ, ◌+◌, ◌-◌, ◌≤◌, ◌<◌}
use native.Mathlib.Omega.{arith}
use lib.ListN.{length, drop, get_or, drop_of_length-le}
use lib.Dec.{eqb}
use borrow.Author.Tests.{eq-eqb, ne_eqb}
use Rattle.prelude.proofs.Lists.{drop_next}
use Rattle.grammar.specs.Grammar.{colon, Bracket, curly, square, opening, letters, literal-true, literal-false}
use Rattle.grammar.specs.Grammar.{literal-null}
use Rattle.grammar.specs.Utf8.{utf8}
use Rattle.grammar.specs.Reader.{End, refused, ended, octet_at, step, skip_space, string_at, number_at, word_at}
use Rattle.grammar.specs.Reader.{Answer, nothing, found, of_kind, Before, colon_at, before_at, value_after, entry_at}
use Rattle.grammar.specs.Reader.{close_or, after_entry, entries_at, is_number_start, value_with, value_at}
use Rattle.grammar.specs.Reader.{nested_within, wholly, read_text}
use Rattle.json_read.specs.Inner.Ends.{value_to, ends_of, found_of, ends_of_kind, value_in}
use Rattle.json_read.specs.declared.Position.{Position}
use Rattle.json_read.specs.declared.Found.{Found}
use Rattle.json_read.proofs.NumberParts.{same_found}
use Rattle.std.specs.Prelude as std
use Rattle.std.specs.Prelude.{Some, None}
use Rattle.grammar.proofs.Turns.{entries_none, entries_turn, value_is}

-- what an answer of the code says of the reader's

pub is_found : (x : Answer) (p : Position) (k : ℕ) → value_to p k ≡ found_of x → x ≡ found p.at k
is_found nothing p k e = let z : ◌≡◌ {A = ℕ} 0 1 = cc in absurd (omega arith)
is_found (found n j) p k e = ap (λ (f : Found). found f.end.at f.kind) (sym (same_found e))

pub is_nothing_lem : (x : Answer) → None ≡ found_of x → x ≡ nothing
is_nothing_lem nothing e = refl
is_nothing_lem (found n j) e = let z : ◌≡◌ {A = ℕ} 0 1 = cc in absurd (omega arith)

-- Words, of which k octets are read.
module _ (s w : List ℕ) (k at : ℕ) where
  pub word_end : length w ≤ k → word_at (drop k w) s at ≡ ended at
  unfolding word_at
  word_end h = ap (λ (t : List ℕ). word_at t s at) (drop_of_length-le w {i = k} h)

  module _ (h : k < length w) where
    word_here : word_at (drop k w) s at
        ≡ cond (eqb (octet_at s at) (get_or w k 0)) (word_at (drop (k + 1) w) s (step s at)) refused
    unfolding word_at
    word_here = ap (λ (t : List ℕ). word_at t s at) (drop_next w k (k + 1) refl h)

    pub word_next : (n : ℕ) → octet_at s at ≡ get_or w k 0 → n ≡ step s at →
        word_at (drop (k + 1) w) s n ≡ word_at (drop k w) s at
    word_next n e f =
        ap (word_at (drop (k + 1) w) s) f
        ∙ sym (word_here ∙ ap (λ (b : Bool). cond b (word_at (drop (k + 1) w) s (step s at)) refused) (eq-eqb _ _ e))

    pub word_not : (octet_at s at ≡ get_or w k 0 → ⊥) → word_at (drop k w) s at ≡ refused
    word_not f = word_here ∙ ap (λ (b : Bool). cond b (word_at (drop (k + 1) w) s (step s at)) refused) (ne_eqb _ _ f)

-- Values that are neither objects nor arrays, with the first octet c.

kind_ends : (k : ℕ) (r : std.Option Position) (x : End) → r ≡ ends_of x → ends_of_kind k r ≡ found_of (of_kind k x)
kind_ends k r refused e = ap (ends_of_kind k) e
kind_ends k r (ended n) e = ap (ends_of_kind k) e

pick_same : {A : Type 0} (b : Bool) (x : A) → cond b x x ≡ x
pick_same true x = refl
pick_same false x = refl

module _ (s : List ℕ) (at c : ℕ) (hc : c ≡ octet_at s at) where
  -- Only of its first octet does it depend how a value is read.
  scalar : ℕ → Answer
  scalar = value_with (λ b p. nothing) s at

  scalar_of : (e : ℕ) → c ≡ e → value_at 0 s at ≡ scalar e
  unfolding value_at scalar
  scalar_of e h = ap (value_with (λ b p. nothing) s at) (sym hc ∙ h)

  pub value_scalar : (levels : ℕ) → (c ≡ opening curly → ⊥) → (c ≡ opening square → ⊥) →
      value_at 0 s at ≡ value_at levels s at
  unfolding value_with scalar
  value_scalar levels f g =
      scalar_of c refl
      ∙ sym (value_is s levels at c hc ∙ simp (ne_eqb c (opening curly) f, ne_eqb c (opening square) g))

  module _ (r : std.Option Position) where
    pub scalar_string : c ≡ 34 → r ≡ ends_of (string_at s at) → ends_of_kind 2 r ≡ found_of (value_at 0 s at)
    unfolding value_with scalar
    scalar_string h e = kind_ends 2 r (string_at s at) e ∙ ap found_of (sym (scalar_of 34 h))

    pub scalar_true : c ≡ 116 → r ≡ ends_of (word_at (letters literal-true) s at) →
        ends_of_kind 4 r ≡ found_of (value_at 0 s at)
    unfolding value_with scalar
    scalar_true h e = kind_ends 4 r (word_at (letters literal-true) s at) e ∙ ap found_of (sym (scalar_of 116 h))

    pub scalar_false : c ≡ 102 → r ≡ ends_of (word_at (letters literal-false) s at) →
        ends_of_kind 5 r ≡ found_of (value_at 0 s at)
    unfolding value_with scalar
    scalar_false h e = kind_ends 5 r (word_at (letters literal-false) s at) e ∙ ap found_of (sym (scalar_of 102 h))

    pub scalar_null : c ≡ 110 → r ≡ ends_of (word_at (letters literal-null) s at) →
        ends_of_kind 6 r ≡ found_of (value_at 0 s at)
    unfolding value_with scalar
    scalar_null h e = kind_ends 6 r (word_at (letters literal-null) s at) e ∙ ap found_of (sym (scalar_of 110 h))

    -- An octet with which a number begins is no other that begins a value.
    other : is_number_start c ≡ true → (k : ℕ) → is_number_start k ≡ false → eqb c k ≡ false
    other h k n = ne_eqb c k (λ e. true≢false (sym h ∙ ap is_number_start e ∙ n))

    pub scalar_number : is_number_start c ≡ true → r ≡ ends_of (number_at s at) → ends_of_kind 3 r ≡ found_of (value_at 0 s at)
    unfolding value_with scalar
    scalar_number h e =
        let q : scalar c ≡ of_kind 3 (number_at s at) =
        simp (other h 123 refl, other h 91 refl, other h 34 refl, other h 116 refl, other h 102 refl, other h 110 refl, h) in
        kind_ends 3 r (number_at s at) e ∙ ap found_of (sym (scalar_of c refl ∙ q))

  pub scalar_none : (c ≡ 34 → ⊥) → (c ≡ 116 → ⊥) → (c ≡ 102 → ⊥) → (c ≡ 110 → ⊥) → is_number_start c ≡ false →
      value_at 0 s at ≡ nothing
  unfolding value_with scalar
  scalar_none a b d e h =
      let q : scalar c ≡ cond (eqb c 123) nothing (cond (eqb c 91) nothing nothing) =
      simp (ne_eqb c 34 a, ne_eqb c 116 b, ne_eqb c 102 d, ne_eqb c 110 e, h) in
      scalar_of c refl ∙ q ∙ ap (cond (eqb c 123) nothing) (pick_same (eqb c 91) nothing) ∙ pick_same (eqb c 123) nothing

-- A member's name and its colon.
module _ (s : List ℕ) (at : ℕ) where
  pub name_refused : string_at s at ≡ refused → value_in (before_at curly s at) ≡ refused
  unfolding before_at
  name_refused e = ap (λ z. value_in (colon_at s at z)) e

  module _ (e : ℕ) (he : string_at s at ≡ ended e) (q c : ℕ) (hq : q ≡ skip_space s e) (hc : c ≡ octet_at s q) where
    pub name_no_colon : (c ≡ colon → ⊥) → value_in (before_at curly s at) ≡ refused
    unfolding before_at
    name_no_colon f = rw (he, sym hq, sym hc, ne_eqb c colon f)

    pub name_value : c ≡ colon → (t v : ℕ) → t ≡ step s q → v ≡ skip_space s t → value_in (before_at curly s at) ≡ ended v
    unfolding before_at
    name_value f t v ht hv = rw (he, sym hq, sym hc, eq-eqb c colon f) (ap ended (ap (skip_space s) (sym ht) ∙ sym hv))

-- One turn of the loop over entries: the value of the next one stands at v.
module _ (inner : ℕ → Answer) (b : Bracket) (s : List ℕ) where
  after_none : (others : ℕ → Answer) (o : Option Before) → value_in o ≡ refused →
      after_entry b s others (value_after inner o) ≡ nothing
  after_none others none e = refl
  after_none others (some x) e = let z : ◌≡◌ {A = ℕ} 0 1 = cc in absurd (omega arith)

  module _ (v : ℕ) where
    after_nothing : (others : ℕ → Answer) (o : Option Before) → value_in o ≡ ended v → inner v ≡ nothing →
        after_entry b s others (value_after inner o) ≡ nothing
    after_nothing others none e h = refl
    after_nothing others (some x) e h = let q : x.value ≡ v = cc in rw (q, h)

    after_found : (others : ℕ → Answer) (o : Option Before) → value_in o ≡ ended v → (e k : ℕ) → inner v ≡ found e k →
        after_entry b s others (value_after inner o) ≡ close_or b s others (skip_space s e)
    after_found others none p e k h = let z : ◌≡◌ {A = ℕ} 0 1 = cc in absurd (omega arith)
    after_found others (some x) p e k h = let q : x.value ≡ v = cc in rw (q, h)

  module _ (left at : ℕ) (h : 0 < left) where
    turn : after_entry b s (entries_at inner b s (left - 1)) (value_after inner (before_at b s at)) ≡ entries_at inner b s left at
    unfolding entry_at
    turn = entries_turn inner b s left at h (value_after inner (before_at b s at)) refl

    pub turn_no_name : value_in (before_at b s at) ≡ refused → nothing ≡ entries_at inner b s left at
    turn_no_name e = sym (after_none (entries_at inner b s (left - 1)) (before_at b s at) e) ∙ turn

    module _ (v : ℕ) (hv : value_in (before_at b s at) ≡ ended v) where
      pub turn_nothing : inner v ≡ nothing → nothing ≡ entries_at inner b s left at
      turn_nothing e = sym (after_nothing v (entries_at inner b s (left - 1)) (before_at b s at) hv e) ∙ turn

      pub turn_found : (e k q : ℕ) → inner v ≡ found e k → q ≡ skip_space s e →
          close_or b s (entries_at inner b s (left - 1)) q ≡ entries_at inner b s left at
      turn_found e k q f p =
          ap (close_or b s (entries_at inner b s (left - 1))) p
          ∙ sym (after_found v (entries_at inner b s (left - 1)) (before_at b s at) hv e k f) ∙ turn

  -- No turn is left.
  pub turn_none : (left at : ℕ) → left ≤ 0 → nothing ≡ entries_at inner b s left at
  turn_none left at h =
      let e : 0 ≡ left = omega arith in
      entries_none inner b s at ∙ ap (λ (n : ℕ). entries_at inner b s n at) e

-- In the loop of an object or an array that begins at `begin`, with so many turns left: what remains from here on is
-- what the whole reads,
abbrev pub Remains : Bracket → List ℕ → ℕ → ℕ → ℕ → ℕ → Type 0
Remains b s levels begin left at = entries_at (value_at (levels - 1) s) b s left at ≡ nested_within levels b s begin

-- and is decided at q, behind the next value.
abbrev pub Follows : Bracket → List ℕ → ℕ → ℕ → ℕ → ℕ → Type 0
Follows b s levels left at q =
    close_or b s (entries_at (value_at (levels - 1) s) b s (left - 1)) q ≡ entries_at (value_at (levels - 1) s) b s left at

-- An element has nothing before it.
pub element_here : (s : List ℕ) (at : ℕ) → value_in (before_at square s at) ≡ ended at
unfolding before_at
element_here s at = refl

-- A text: it begins at `at`, behind space, with the octet c.
module _ (s : List ℕ) (levels at c : ℕ) (h : at ≡ skip_space s 0) (hc : c ≡ octet_at s at) where
  pub text_no_brace : (c ≡ opening curly → ⊥) → nothing ≡ read_text levels s
  unfolding read_text
  text_no_brace f = sym (rw (sym h, sym hc, ne_eqb c (opening curly) f))

  module _ (f : c ≡ opening curly) where
    pub text_not_utf8 : utf8 s ≡ false → nothing ≡ read_text levels s
    unfolding read_text
    text_not_utf8 e = sym (rw (sym h, sym hc, eq-eqb c (opening curly) f, e))

    pub text_wholly : utf8 s ≡ true → wholly s (value_at levels s at) ≡ read_text levels s
    unfolding read_text
    text_wholly e = sym (rw (sym h, sym hc, eq-eqb c (opening curly) f, e))

-- What stands behind a text's value.
module _ (s : List ℕ) (x : Answer) where
  pub wholly_nothing : x ≡ nothing → nothing ≡ wholly s x
  wholly_nothing e = sym (ap (wholly s) e)

  module _ (e k : ℕ) (f : x ≡ found e k) (q : ℕ) (hq : q ≡ skip_space s e) where
    pub wholly_not : (q ≡ length s → ⊥) → nothing ≡ wholly s x
    wholly_not n = sym (ap (wholly s) f ∙ rw (sym hq, ne_eqb q (length s) n))

    pub wholly_found : q ≡ length s → found e k ≡ wholly s x
    wholly_found n = sym (ap (wholly s) f ∙ rw (sym hq, eq-eqb q (length s) n))
