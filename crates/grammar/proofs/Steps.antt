-- What one step of the reader does, in the terms of code that reads a slice: an octet inside the text is `get_or s at 0`.
-- These laws are for the proofs of the functions.
use mathlib.Core.Path.{◌≡◌, refl, sym, ap, subst, ◌∙◌}
use mathlib.Core.List.{List, [], ◌∷◌}
use mathlib.Core.Bool.{Bool, true, false}
use Prim.Native.Nat.{ℕ, zero, suc, ◌+◌, ◌≤◌, ◌<◌}
use native.Mathlib.Nat.{not-suc-le-zero, le_of_suc-le-suc}
use native.Mathlib.Numerals.{add-one}
use native.Mathlib.Omega.{arith}
use lib.ListN.{length, drop, get_or, drop_of_length-le, get_or-eq_default}
use lib.Seq.{drop-cons}
use borrow.Author.Tests.{lt-ltb, le-ltb, ne_eqb}
use Rattle.grammar.specs.Grammar.{backslash, letter_u, is_escape, is_hex, quote, is_unescaped, Octet}
use Rattle.grammar.specs.Strings.{hex_more}
use Rattle.grammar.specs.Utf8.{utf8_after}
use Rattle.grammar.specs.Reader.{Turn, closed, escaping, digit, after_unit, octet_at, step, pass_over, skip, refused}
use Rattle.grammar.specs.Reader.{ended, Scan, between, go_on, turn, scan_string, string_at}
use Rattle.grammar.proofs.Parse.{true→T}
use Rattle.grammar.proofs.Characters.{unescaped_not, escape_not}
use Rattle.grammar.proofs.ScanStrings.{after_turn, scan_step}
use Rattle.grammar.proofs.Undone.{low_step}

-- Octets

-- An octet inside the text does not depend on what stands for the end.
pub octet_inside : (s : List ℕ) (at d e : ℕ) → at < length s → get_or s at d ≡ get_or s at e
octet_inside [] at d e h = absurd (not-suc-le-zero h)
octet_inside (x ∷ s) zero d e h = refl
octet_inside (x ∷ s) (suc at) d e h = octet_inside s at d e (le_of_suc-le-suc h)

module _ (s : List ℕ) (at : ℕ) where
  pub octet_here : at < length s → octet_at s at ≡ get_or s at 0
  octet_here h = octet_inside s at 256 0 h

  pub octet_end : length s ≤ at → octet_at s at ≡ 256
  octet_end h = get_or-eq_default s 256 h

  pub step_here : at < length s → step s at ≡ at + 1
  step_here h = rw (lt-ltb at (length s) h)

  pub step_end : length s ≤ at → step s at ≡ at
  step_end h = rw (le-ltb at (length s) h)

  -- Runs of a class

  pub skip_end : (p : ℕ → Bool) → length s ≤ at → skip p s at ≡ at
  unfolding skip pass_over
  skip_end p h = rw (drop_of_length-le s h)

  pub skip_more : (p : ℕ → Bool) → at < length s → p (get_or s at 0) ≡ true → skip p s (at + 1) ≡ skip p s at
  unfolding skip pass_over
  skip_more p h e = rw (drop-cons s at 0, e, add-one)

  pub skip_here : (p : ℕ → Bool) → at < length s → p (get_or s at 0) ≡ false → skip p s at ≡ at
  unfolding skip pass_over
  skip_here p h e = rw (drop-cons s at 0, e)

  -- Strings

  pub scan_end : (x : Scan) → length s ≤ at → scan_string x (drop at s) at ≡ refused
  unfolding scan_string
  scan_end x h = rw (drop_of_length-le s h)

  -- One octet of a string.
  pub scan_here : (x : Scan) → at < length s →
      scan_string x (drop at s) at ≡ after_turn (turn x (get_or s at 0)) (drop (at + 1) s) (at + 1)
  scan_here x h =
      rw (drop-cons s at 0)
      (scan_step x (get_or s at 0) (drop (suc at) s) at
      ∙ sym (ap (λ n. after_turn (turn x (get_or s at 0)) (drop n s) n) (add-one at)))

  -- An octet that stands for itself.
  pub scan_plain : at < length s → is_unescaped (get_or s at 0) ≡ true →
      scan_string (between false) (drop at s) at ≡ scan_string (between false) (drop (at + 1) s) (at + 1)
  unfolding turn
  scan_plain h e =
      let o : Octet is_unescaped = record { code = get_or s at 0; fits = true→T (is_unescaped (get_or s at 0)) e } in
      let q : turn (between false) (get_or s at 0) ≡ go_on (between false) =
      rw (e, (unescaped_not o).0, (unescaped_not o).1) in
      scan_here (between false) h ∙ ap (λ z. after_turn z (drop (at + 1) s) (at + 1)) q

-- The other octets of a string, each in the state that it comes to.
module _ (s : List ℕ) (at : ℕ) (h : at < length s) where
  -- The turn that the octet c makes, which stands here.
  here_turn : (x : Scan) (c : ℕ) (y : Turn) → c ≡ get_or s at 0 → turn x c ≡ y →
      scan_string x (drop at s) at ≡ after_turn y (drop (at + 1) s) (at + 1)
  here_turn x c y p q =
      scan_here s at x h ∙ ap (λ z. after_turn (turn x z) (drop (at + 1) s) (at + 1)) (sym p)
      ∙ ap (λ z. after_turn z (drop (at + 1) s) (at + 1)) q

  pub scan_quote : get_or s at 0 ≡ quote → scan_string (between false) (drop at s) at ≡ ended (at + 1)
  unfolding turn
  scan_quote e = here_turn (between false) quote closed (sym e) refl

  pub scan_backslash : (w : Bool) → get_or s at 0 ≡ backslash →
      scan_string (between w) (drop at s) at ≡ scan_string (escaping w) (drop (at + 1) s) (at + 1)
  unfolding turn
  scan_backslash w e = here_turn (between w) backslash (go_on (escaping w)) (sym e) refl

  pub scan_unicode : (w : Bool) → get_or s at 0 ≡ letter_u →
      scan_string (escaping w) (drop at s) at ≡ scan_string (digit w 3 0) (drop (at + 1) s) (at + 1)
  unfolding turn
  scan_unicode w e = here_turn (escaping w) letter_u (go_on (digit w 3 0)) (sym e) refl

  pub scan_escape : is_escape (get_or s at 0) ≡ true →
      scan_string (escaping false) (drop at s) at ≡ scan_string (between false) (drop (at + 1) s) (at + 1)
  unfolding turn
  scan_escape e =
      let o : Octet is_escape = record { code = get_or s at 0; fits = true→T (is_escape (get_or s at 0)) e } in
      let q : turn (escaping false) (get_or s at 0) ≡ go_on (between false) = rw (e, escape_not o) in
      here_turn (escaping false) (get_or s at 0) (go_on (between false)) refl q

  pub scan_digit : (w : Bool) (n x : ℕ) → is_hex (get_or s at 0) ≡ true →
      scan_string (digit w (suc n) x) (drop at s) at
      ≡ scan_string (digit w n (hex_more x (get_or s at 0))) (drop (at + 1) s) (at + 1)
  unfolding turn
  scan_digit w n x e =
      here_turn (digit w (suc n) x) (get_or s at 0) (go_on (digit w n (hex_more x (get_or s at 0)))) refl (rw e)

  pub scan_last_digit : (w : Bool) (x : ℕ) → is_hex (get_or s at 0) ≡ true →
      scan_string (digit w zero x) (drop at s) at
      ≡ after_turn (after_unit w (hex_more x (get_or s at 0))) (drop (at + 1) s) (at + 1)
  unfolding turn
  scan_last_digit w x e =
      here_turn (digit w zero x) (get_or s at 0) (after_unit w (hex_more x (get_or s at 0))) refl (rw e)

-- A run of octets that stand for themselves, for a scan that goes by blocks.
pub scan_plain_run : (s : List ℕ) (n at : ℕ) → at + n ≤ length s →
    ((k : ℕ) → k < n → is_unescaped (get_or s (at + k) 0) ≡ true) →
    scan_string (between false) (drop at s) at ≡ scan_string (between false) (drop (at + n) s) (at + n)
scan_plain_run s zero at h f =
    let e : at ≡ at + 0 = omega arith in
    ap (λ m. scan_string (between false) (drop m s) m) e
scan_plain_run s (suc n) at h f =
    let e : at + 0 ≡ at = omega arith in
    let g : at + 1 + n ≡ at + suc n = omega arith in
    scan_plain s at (omega arith) (ap (λ m. is_unescaped (get_or s m 0)) (sym e) ∙ f 0 (omega arith))
    ∙ scan_plain_run s n (at + 1) (omega arith) (λ k b. let m : at + 1 + k ≡ at + suc k = omega arith in
    ap (λ z. is_unescaped (get_or s z 0)) m ∙ f (suc k) (omega arith))
    ∙ ap (λ m. scan_string (between false) (drop m s) m) g

-- A run of octets below 128 in UTF-8.
pub utf8_low_run : (s : List ℕ) (n at : ℕ) → at + n ≤ length s → ((k : ℕ) → k < n → get_or s (at + k) 0 < 128) →
    utf8_after [] (drop at s) ≡ utf8_after [] (drop (at + n) s)
utf8_low_run s zero at h f =
    let e : at ≡ at + 0 = omega arith in
    ap (λ m. utf8_after [] (drop m s)) e
utf8_low_run s (suc n) at h f =
    let e : at + 0 ≡ at = omega arith in
    let g : at + 1 + n ≡ at + suc n = omega arith in
    let low : get_or s at 0 < 128 = subst (λ z. get_or s z 0 < 128) e (f 0 (omega arith)) in
    ap (utf8_after []) (drop-cons s at 0 (omega arith))
    ∙ low_step (get_or s at 0) (drop (suc at) s) low
    ∙ ap (λ m. utf8_after [] (drop m s)) (sym (add-one at))
    ∙ utf8_low_run s n (at + 1) (omega arith)
    (λ k b. let m : at + 1 + k ≡ at + suc k = omega arith in
    subst (λ z. get_or s z 0 < 128) (sym m) (f (suc k) (omega arith)))
    ∙ ap (λ m. utf8_after [] (drop m s)) g

-- A string that begins here, with what the code knows of its first octet.
module _ (s : List ℕ) (at b : ℕ) (hb : b ≡ octet_at s at) where
  pub string_open : (first : ℕ) → b ≡ quote → first ≡ step s at →
      scan_string (between false) (drop first s) first ≡ string_at s at
  unfolding string_at
  string_open first e f = simp (sym hb ∙ e, f)

  pub string_none : (b ≡ quote → ⊥) → refused ≡ string_at s at
  unfolding string_at
  string_none f = simp (sym hb, ne_eqb b quote f)
