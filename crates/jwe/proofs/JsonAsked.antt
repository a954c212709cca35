-- The refusals of a JSON message for any recipient, by those for the first one: only the last test, 19, asks which recipient it is.
use mathlib.Core.Path.{◌≡◌, refl, ap, sym, ◌∙◌}
use mathlib.Core.Bool.{Bool, true, false, cond}
use mathlib.Core.List.{List, [], ◌∷◌, ◌++◌, append_assoc}
use Prim.Native.Nat.{ℕ, ◌≤◌, ◌<◌}
use native.Mathlib.Omega.{arith}
use lib.ListN.{length}
use lib.Dec.{leb, eqb}
use borrow.Author.Tests.{leb-true, le-leb, lt-leb, eq-eqb}
use Rattle.rows.specs.Rows.{Entry}
use Rattle.prelude.specs.Refusals.{Test, ◌if◌, first}
use Rattle.prelude.proofs.Refusals.{nonzero, nonzero_append, first_append}
use Rattle.headers.specs.Headers.{object_order}
use Rattle.shape.specs.Shape.{Recipient}
use Rattle.shape.specs.Recipients.{Top, top_of, top_entries, top_order, elements_order, recipients_in}
use Rattle.jwe.specs.General.{shared_entries, any_misspelled, json_order}
use Rattle.jwe.specs.Inner.Stages.{text_tests, protected_tests, all_tests, headed_order}
use Rattle.jwe.proofs.CompactOrder.{both_pass}
use Rattle.jwe.proofs.JsonOrder.{header, front, top_nonzero, elements_nonzero, text_nonzero, protected_nonzero}
use Rattle.jwe.proofs.JsonOrder.{object_nonzero, json_is, shaped_is}
use Rattle.jwe.proofs.JsonHeads.{all_nonzero}

module _ (message : List ℕ) (known : List (List ℕ)) where
  abbrev es : List Entry
  es = top_entries message

  abbrev t : Top
  t = top_of es

  abbrev rs : List Recipient
  rs = recipients_in message es

  -- All tests but the last, by stages.

  abbrev all : List Test
  all = all_tests known (header known message t) message (front known message t) t.components rs

  abbrev later : List Test
  later =
      text_tests t.protected (header known message t)
      ++ (protected_tests t.protected (header known message t) ++ (object_order message (shared_entries message t) ++ all))

  abbrev before : List Test
  before = top_order message ++ (elements_order message es ++ (5 if any_misspelled message es ∷ later))

  before_nonzero : nonzero before ≡ true
  before_nonzero =
      nonzero_append (top_order message) _ (top_nonzero message)
      (nonzero_append (elements_order message es) (5 if any_misspelled message es ∷ later) (elements_nonzero message es)
      (nonzero_append (text_tests t.protected (header known message t)) _ (text_nonzero t.protected (header known message t))
      (nonzero_append (protected_tests t.protected (header known message t)) _ (protected_nonzero t.protected (header known message t))
      (nonzero_append (object_order message (shared_entries message t)) all (object_nonzero message (shared_entries message t))
      (all_nonzero known (header known message t) message (front known message t) t.components rs 0)))))

  abbrev asks : ℕ → List Test
  asks n = 19 if leb (length rs) n ∷ []

  ends : (n : ℕ) → json_order message known n ≡ before ++ asks n
  unfolding headed_order
  ends n =
      json_is message known n
      ∙ ap (λ (l : List Test). top_order message ++ (elements_order message es ++ (5 if any_misspelled message es ∷ l)))
      (shaped_is known message t rs n)
      ∙ simp append_assoc

  -- By the first refusal of those, and whether 19 is one.
  abbrev by : ℕ → Bool → Bool → ℕ
  by k b c = cond b (cond c 19 0) k

  first_is : (n : ℕ) →
      first (json_order message known n) ≡ by (first before) (eqb (first before) 0) (leb (length rs) n)
  unfolding first
  first_is n = ap first (ends n) ∙ first_append before (asks n) before_nonzero

  -- What is refused for the first one is refused for all.
  pub refused_for_all : (n : ℕ) {k : ℕ} → first (json_order message known 0) ≡ k → 0 < k →
      first (json_order message known n) ≡ k
  refused_for_all n {k} e some =
      first_is n ∙ cases (eqb (first before) 0) (leb (length rs) 0) refl (sym (first_is 0) ∙ e)
    where
      cases : (b c : Bool) → leb (length rs) 0 ≡ c → by (first before) b c ≡ k → by (first before) b (leb (length rs) n) ≡ k
      cases true true none e =
          let past : length rs ≤ n = omega (arith, leb-true (length rs) 0 none) in
          ap (by (first before) true) (le-leb (length rs) n past) ∙ e
      cases true false none e = absurd (omega (arith, e, some))
      cases false c none e = e

  -- Where nothing is, only 19 is left.
  module _ (n : ℕ) (none : first (json_order message known 0) ≡ 0) where
    left : first (json_order message known n) ≡ cond {A = ℕ} (leb (length rs) n) 19 0
    left =
        let passes = (both_pass before (asks 0) before_nonzero (ap first (sym (ends 0)) ∙ none)).0 in
        first_is n
        ∙ ap (λ (b : Bool). by (first before) b (leb (length rs) n)) (eq-eqb (first before) 0 passes)

    pub no_recipient : length rs ≤ n → first (json_order message known n) ≡ 19
    no_recipient h = left ∙ ap (λ (b : Bool). cond {A = ℕ} b 19 0) (le-leb (length rs) n h)

    pub a_recipient : n < length rs → first (json_order message known n) ≡ 0
    a_recipient h = left ∙ ap (λ (b : Bool). cond {A = ℕ} b 19 0) (lt-leb (length rs) n h)
