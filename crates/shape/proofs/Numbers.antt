-- What the code reads of the top level and of a recipient: the place of a component, with or without quotation marks.
use mathlib.Core.Path.{◌≡◌, ap, ap₂, sym, ◌∙◌}
use mathlib.Core.Bool.{Bool, cond}
use mathlib.Core.List.{List, [], ◌∷◌}
use Prim.Native.Nat.{ℕ, ◌+◌, ◌-◌}
use borrow.Author.Tests.{eq-eqb, ne_eqb}
use Rattle.grammar.specs.Places.{Place}
use Rattle.rows.specs.Rows.{Entry, value_of}
use Rattle.headers.specs.Components.{absent}
use Rattle.shape.specs.Shape.{inner, component, recipient_of}
use Rattle.shape.specs.Recipients.{Top}
use Rattle.shape.specs.Inner.Answers.{three}

abbrev placed : ℕ → ℕ → Place
placed start size = record { start = start; size = size }

-- A value's place without quotation marks, by its start and length as they were read.
module _ (q : Place) {start len : ℕ} (s : start ≡ q.start) (l : len ≡ q.size) where
  abbrev bare : Place
  bare = placed (q.start + 1) (q.size - 2)

  pub inner_none : len ≡ 0 → placed 0 0 ≡ inner q
  inner_none z = sym (ap (λ (b : Bool). cond b absent bare) (eq-eqb q.size 0 (sym l ∙ z)))

  pub inner_some : (len ≡ 0 → ⊥) → {size : ℕ} → size ≡ len - 2 → placed (start + 1) size ≡ inner q
  inner_some h e =
      ap₂ (λ (a b : ℕ). placed (a + 1) b) s (e ∙ ap (λ (n : ℕ). n - 2) l)
      ∙ sym (ap (λ (b : Bool). cond b absent bare) (ne_eqb q.size 0 (λ (z : q.size ≡ 0). h (l ∙ z))))

-- The three numbers of a recipient, as they are found.
pub recipient_numbers : (es : List Entry) (header start size : ℕ) → header ≡ (value_of 3 es).start →
    placed start size ≡ component 4 es → three (recipient_of es) ≡ header ∷ start ∷ size ∷ []
recipient_numbers es header start size h k =
    sym (ap₂ (λ (x : ℕ) (q : Place). x ∷ q.start ∷ q.size ∷ []) h k)

-- What the top level holds, one by one.
whole : ℕ → Bool → ℕ → Place → Place → Place → Place → Place → Top
whole f b s p i a c t = record {
  form = f;
  protected = b;
  shared = s;
  components = record { protected = p; key = absent; iv = i; aad = a; ciphertext = c; tag = t };
}

pub all_held : {f f' s s' : ℕ} {b b' : Bool} {p p' i i' a a' c c' t t' : Place} → f ≡ f' → b ≡ b' → s ≡ s' → p ≡ p' →
    i ≡ i' → a ≡ a' → c ≡ c' → t ≡ t' →
    ◌≡◌ {A = Top}
    (record {
      form = f;
      protected = b;
      shared = s;
      components = record { protected = p; key = absent; iv = i; aad = a; ciphertext = c; tag = t };
    })
    (record {
      form = f';
      protected = b';
      shared = s';
      components = record { protected = p'; key = absent; iv = i'; aad = a'; ciphertext = c'; tag = t' };
    })
unfolding whole
all_held {f} {f'} {s} {s'} {b} {b'} {p} {p'} {i} {i'} {a} {a'} {c} {c'} {t} {t'} e1 e2 e3 e4 e5 e6 e7 e8 =
    ap₂ (λ (x : ℕ) (y : Bool). whole x y s p i a c t) e1 e2 ∙ ap₂ (λ (x : ℕ) (y : Place). whole f' b' x y i a c t) e3 e4
    ∙ ap₂ (λ (x y : Place). whole f' b' s' p' x y c t) e5 e6 ∙ ap₂ (λ (x y : Place). whole f' b' s' p' i' a' x y) e7 e8
