-- Strings as the code reads them: the octet at a position moves the scan on, and a run of octets that stand for themselves
-- moves it to the run's end.
use mathlib.Core.Path.{◌≡◌, refl, ap, ap₂, sym, subst, ◌∙◌}
use mathlib.Core.Bool.{Bool, true, false, not, ◌||◌, beq, true≢false, cond}
use mathlib.Core.List.{List, [], ◌∷◌}
use Prim.Native.Nat.{ℕ, zero, suc, ◌+◌, ◌-◌, ◌*◌, ◌≤◌, ◌<◌}
use native.Mathlib.Omega.{arith}
use lib.ListN.{length, drop, get_or, drop_of_length-le}
use lib.Dec.{T, eqb, leb, ltb}
use borrow.Author.Tests.{ltb-true, ltb-false, leb-true, eqb-true, eq-eqb, ne_eqb}
use Rattle.std.specs.List.{position_or_len}
use Rattle.prelude.proofs.Lists.{drop_next}
use Rattle.prelude.proofs.Numbers.{below}
use Rattle.grammar.specs.Grammar.{quote, backslash, letter_u, among, is_digit, is_unescaped, is_escape, is_hex}
use Rattle.grammar.specs.Strings.{hex_digit, hex_more, is_high, is_low}
use Rattle.grammar.specs.Reader.{End, refused, ended, Scan, between, escaping, digit, Turn, broken, closed, go_on}
use Rattle.grammar.specs.Reader.{octet_at, step, skip, pass_over, turn, after_unit, after_char, scan_string, string_at}
use Rattle.json_read.specs.Inner.Ends.{more, hex_at, resumed, Beyond, escape_of}
use Rattle.json_read.specs.declared.string.Escape.{Escape}
use Rattle.std.specs.Prelude as std
use Rattle.std.specs.Prelude.{Some, None}
use Rattle.json_read.specs.declared.Position.{Position}
use Rattle.json_read.specs.declared.string.Hex.{Hex}
use Rattle.json_read.proofs.NumberParts.{same_found}
use Rattle.grammar.proofs.Scan.{T→true, all, among_all}
use Rattle.grammar.proofs.Here.{octet_here, octet_end, step_inside, class_inside, skip_end, skip_next, skip_stop}

-- What is left after a turn that ends before position p.
unfoldable pub resume : List ℕ → ℕ → Turn → End
resume s p broken = refused
resume s p closed = ended p
resume s p (go_on x) = scan_string x (drop p s) p

-- The scan from a position on.
abbrev pub scan : List ℕ → Scan → ℕ → End
scan s x at = scan_string x (drop at s) at

-- the end of the text breaks a string off
turn_end : (x : Scan) → turn x 256 ≡ broken
unfolding turn
turn_end (between h) = refl
turn_end (escaping h) = refl
turn_end (digit h zero x) = refl
turn_end (digit h (suc n) x) = refl

pub scan_turn : (s : List ℕ) (x : Scan) (at : ℕ) → scan s x at ≡ resume s (step s at) (turn x (octet_at s at))
unfolding scan_string resume
scan_turn s x at = cases (ltb at (length s)) refl
  where
    read : (t : Turn) →
        ◌≡◌ {A = End} (elim t [ broken ↦ refused | closed ↦ ended (at + 1) | go_on y ↦ scan_string y (drop (at + 1) s) (at + 1) ])
        (resume s (at + 1) t)
    read broken = refl
    read closed = refl
    read (go_on y) = refl

    cases : (b : Bool) → ltb at (length s) ≡ b → scan s x at ≡ resume s (step s at) (turn x (octet_at s at))
    cases true e =
        let h = ltb-true at (length s) e in
        ap (λ (t : List ℕ). scan_string x t at) (drop_next s at (at + 1) refl h)
        ∙ read (turn x (get_or s at 0))
        ∙ ap (λ (c : ℕ). resume s (at + 1) (turn x c)) (octet_here s at h)
        ∙ ap (λ (p : ℕ). resume s p (turn x (octet_at s at))) (step_inside s at h)
    cases false e =
        let h = ltb-false at (length s) e in
        ap (λ (t : List ℕ). scan_string x t at) (drop_of_length-le s {i = at} h)
        ∙ sym (ap (resume s (step s at)) (ap (turn x) (sym (octet_end s at h)) ∙ turn_end x))

pub class_steps : (p : ℕ → Bool) (s : List ℕ) (at : ℕ) → p 256 ≡ false → p (octet_at s at) ≡ true → step s at ≡ at + 1
class_steps p s at never here = sym (step_inside s at (class_inside p s at never here))

-- Hexadecimal digits

-- what holds of each of them, by a test that is computed
hex_all : (q : ℕ → Bool) (c : ℕ) → T (all q (48 ∷ 49 ∷ 50 ∷ 51 ∷ 52 ∷ 53 ∷ 54 ∷ 55 ∷ 56 ∷ 57 ∷ []))
    → T (all q (65 ∷ 66 ∷ 67 ∷ 68 ∷ 69 ∷ 70 ∷ 97 ∷ 98 ∷ 99 ∷ 100 ∷ 101 ∷ 102 ∷ [])) → is_hex c ≡ true → q c ≡ true
hex_all q c digits letters e = T→true (q c) (cases (is_digit c) refl (subst T (sym e) tt))
  where
    cases : (b : Bool) → is_digit c ≡ b
        → T (b || among (65 ∷ 66 ∷ 67 ∷ 68 ∷ 69 ∷ 70 ∷ 97 ∷ 98 ∷ 99 ∷ 100 ∷ 101 ∷ 102 ∷ []) c) → T (q c)
    cases true d t =
        among_all q (48 ∷ 49 ∷ 50 ∷ 51 ∷ 52 ∷ 53 ∷ 54 ∷ 55 ∷ 56 ∷ 57 ∷ []) c digits (subst T (sym d) tt)
    cases false d t =
        among_all q (65 ∷ 66 ∷ 67 ∷ 68 ∷ 69 ∷ 70 ∷ 97 ∷ 98 ∷ 99 ∷ 100 ∷ 101 ∷ 102 ∷ []) c letters t

pub hex_small : (c : ℕ) → is_hex c ≡ true → hex_digit c < 16
hex_small c e = ltb-true (hex_digit c) 16 (hex_all (λ n. ltb (hex_digit n) 16) c tt tt e)

pub hex_from : (c : ℕ) → is_hex c ≡ true → 48 ≤ c
hex_from c e = leb-true 48 c (hex_all (λ n. leb 48 n) c tt tt e)

pub hex_upper : (c : ℕ) → is_hex c ≡ true → 57 < c → 55 ≤ c
hex_upper c e h = omega arith

pub hex_lower : (c : ℕ) → is_hex c ≡ true → 70 < c → 87 ≤ c
hex_lower c e h = cases (leb c 70) refl (hex_all (λ n. leb n 70 || leb 87 n) c tt tt e)
  where
    cases : (b : Bool) → leb c 70 ≡ b → (b || leb 87 c) ≡ true → 87 ≤ c
    cases true l t = absurd (omega (arith, leb-true c 70 l))
    cases false l t = leb-true 87 c t

-- A digit of \u

-- what the answer says of the octet
hex_wrong : (s : List ℕ) (at x : ℕ) → None ≡ hex_at s at x → is_hex (octet_at s at) ≡ false
unfolding hex_at
hex_wrong s at x e = cases (is_hex (octet_at s at)) refl e
  where
    cases : (b : Bool) → is_hex (octet_at s at) ≡ b
        → None ≡ cond b (more (record { at = step s at }) (hex_more x (octet_at s at))) None → is_hex (octet_at s at) ≡ false
    cases true f e = let z : ◌≡◌ {A = ℕ} 0 1 = cc in absurd (omega arith)
    cases false f e = f

hex_more_lem : (s : List ℕ) (at x : ℕ) (p : Position) (y : ℕ) → more p y ≡ hex_at s at x
    → (is_hex (octet_at s at) ≡ true) × (p.at ≡ step s at) × (y ≡ hex_more x (octet_at s at))
unfolding hex_at
hex_more_lem s at x p y e = cases (is_hex (octet_at s at)) refl e
  where
    cases : (b : Bool) → is_hex (octet_at s at) ≡ b
        → more p y ≡ cond b (more (record { at = step s at }) (hex_more x (octet_at s at))) None
        → (is_hex (octet_at s at) ≡ true) × (p.at ≡ step s at) × (y ≡ hex_more x (octet_at s at))
    cases true f e =
        let h = same_found e in
        (f, ap (λ (z : Hex). z.next.at) h, ap (λ (z : Hex). z.value) h)
    cases false f e = let z : ◌≡◌ {A = ℕ} 0 1 = cc in absurd (omega arith)

after_hex : (s : List ℕ) (p : Position) (h : Bool) (u : ℕ) → resumed s (escape_of p (after_unit h u)) ≡ resume s p.at (after_unit h u)
unfolding resume
after_hex s p false u = cases (is_low u)
  where
    cases : (b : Bool) → resumed s (escape_of p (cond b broken (go_on (between (is_high u))))) ≡ resume s p.at (cond b broken (go_on (between (is_high u))))
    cases true = refl
    cases false = refl
after_hex s p true u = cases (is_low u)
  where
    cases : (b : Bool) → resumed s (escape_of p (cond b (go_on (between false)) broken)) ≡ resume s p.at (cond b (go_on (between false)) broken)
    cases true = refl
    cases false = refl

module _ (s : List ℕ) (h : Bool) (x at : ℕ) where
  pub digit_wrong : (n : ℕ) → None ≡ hex_at s at x → refused ≡ scan s (digit h n x) at
  unfolding turn resume
  digit_wrong n e =
      sym (scan_turn s (digit h n x) at ∙ ap (resume s (step s at)) (bad n (octet_at s at) (hex_wrong s at x e)))
    where
      bad : (n : ℕ) (c : ℕ) → is_hex c ≡ false → turn (digit h n x) c ≡ broken
      bad zero c f = simp f
      bad (suc n) c f = simp f

  module _ (p : Position) (y : ℕ) (e : more p y ≡ hex_at s at x) where
    pub digit_more : (n : ℕ) → scan s (digit h n y) p.at ≡ scan s (digit h (suc n) x) at
    unfolding turn resume
    digit_more n =
        let m = hex_more_lem s at x p y e in
        sym (scan_turn s (digit h (suc n) x) at
        ∙ ap (λ (b : Bool). resume s (step s at) (cond b (go_on (digit h n (hex_more x (octet_at s at)))) broken)) m.0
        ∙ ap₂ (λ (q z : ℕ). scan s (digit h n z) q) (sym m.1) (sym m.2))

    pub digit_last : resumed s (escape_of p (after_unit h y)) ≡ scan s (digit h zero x) at
    unfolding turn resume
    digit_last =
        let m = hex_more_lem s at x p y e in
        after_hex s p h y
        ∙ sym (scan_turn s (digit h zero x) at
        ∙ ap (λ (b : Bool). resume s (step s at) (cond b (after_unit h (hex_more x (octet_at s at))) broken)) m.0
        ∙ ap₂ (λ (q z : ℕ). resume s q (after_unit h z)) (sym m.1) (sym m.2))

    pub digit_beyond : p.at ≡ at + 1
    digit_beyond = let m = hex_more_lem s at x p y e in m.1 ∙ class_steps is_hex s at refl m.0

pub unit_beyond : (at : ℕ) (p : Position) (h : Bool) (u : ℕ) → at < p.at → Beyond at (escape_of p (after_unit h u))
unit_beyond at p false u l = cases (is_low u)
  where
    cases : (b : Bool) → Beyond at (escape_of p (cond b broken (go_on (between (is_high u)))))
    cases true = tt
    cases false = l
unit_beyond at p true u l = cases (is_low u)
  where
    cases : (b : Bool) → Beyond at (escape_of p (cond b (go_on (between false)) broken))
    cases true = l
    cases false = tt

-- After a backslash

module _ (s : List ℕ) (h : Bool) (at : ℕ) where
  pub escape_unit : (q : ℕ) → eqb (octet_at s at) letter_u ≡ true → q ≡ step s at → scan s (digit h 3 0) q ≡ scan s (escaping h) at
  unfolding turn resume
  escape_unit q t e =
      sym (scan_turn s (escaping h) at
      ∙ ap (λ (b : Bool). resume s (step s at) (cond b (go_on (digit h 3 0)) (cond (is_escape (octet_at s at)) (after_char h) broken))) t
      ∙ ap (scan s (digit h 3 0)) (sym e))

  module _ (t : eqb (octet_at s at) letter_u ≡ false) where
    escape_other : scan s (escaping h) at ≡ resume s (step s at) (cond (is_escape (octet_at s at)) (after_char h) broken)
    unfolding turn resume
    escape_other =
        scan_turn s (escaping h) at
        ∙ ap (λ (b : Bool). resume s (step s at) (cond b (go_on (digit h 3 0)) (cond (is_escape (octet_at s at)) (after_char h) broken))) t

    pub escape_wrong : is_escape (octet_at s at) ≡ false → refused ≡ scan s (escaping h) at
    unfolding resume
    escape_wrong f =
        sym (escape_other ∙ ap (λ (b : Bool). resume s (step s at) (cond b (after_char h) broken)) f)

    pub escape_half : is_escape (octet_at s at) ≡ true → h ≡ true → refused ≡ scan s (escaping h) at
    unfolding resume
    escape_half f w =
        sym (escape_other ∙ ap (λ (b : Bool). resume s (step s at) (cond b (after_char h) broken)) f
        ∙ ap (λ (b : Bool). resume s (step s at) (after_char b)) w)

    pub escape_done : (q : ℕ) → is_escape (octet_at s at) ≡ true → h ≡ false → q ≡ step s at → scan s (between false) q ≡ scan s (escaping h) at
    unfolding resume
    escape_done q f w e =
        sym (escape_other ∙ ap (λ (b : Bool). resume s (step s at) (cond b (after_char h) broken)) f
        ∙ ap (λ (b : Bool). resume s (step s at) (after_char b)) w ∙ ap (scan s (between false)) (sym e))

-- Runs of octets that stand for themselves

plain_turn : (c : ℕ) → is_unescaped c ≡ true → turn (between false) c ≡ go_on (between false)
unfolding turn
plain_turn c e = cases (eqb c quote) refl (eqb c backslash) refl
  where
    cases : (a : Bool) → eqb c quote ≡ a → (b : Bool) → eqb c backslash ≡ b
        → cond (eqb c quote) (cond false broken closed) (cond (eqb c backslash) (go_on (escaping false)) (cond (is_unescaped c) (after_char false) broken))
        ≡ go_on (between false)
    cases true p b q = absurd (true≢false (sym e ∙ ap is_unescaped (eqb-true c quote p)))
    cases false p true q = absurd (true≢false (sym e ∙ ap is_unescaped (eqb-true c backslash q)))
    cases false p false q =
        ap (λ (x : Bool). cond x (cond false broken closed)
        (cond (eqb c backslash) (go_on (escaping false)) (cond (is_unescaped c) (after_char false) broken))) p
        ∙ ap (λ (x : Bool). cond x (go_on (escaping false)) (cond (is_unescaped c) (after_char false) broken)) q
        ∙ ap (λ (x : Bool). cond x (after_char false) broken) e

module _ (s : List ℕ) where
  plain_next : (at : ℕ) → at < length s → is_unescaped (octet_at s at) ≡ true → scan s (between false) at ≡ scan s (between false) (at + 1)
  unfolding resume
  plain_next at h e =
      scan_turn s (between false) at
      ∙ ap (resume s (step s at)) (plain_turn (octet_at s at) e)
      ∙ ap (scan s (between false)) (sym (step_inside s at h))

  -- a run's end is where the octets of the class end
  pub plain_run : (n at : ℕ) → length s - at ≤ n → scan s (between false) (skip is_unescaped s at) ≡ scan s (between false) at
  plain_run zero at l = ap (scan s (between false)) (skip_end is_unescaped s at (omega arith))
  plain_run (suc n) at l =
      cases (ltb at (length s)) refl (is_unescaped (get_or s at 0)) refl (plain_run n (at + 1))
    where
      cases : (b : Bool) → ltb at (length s) ≡ b → (u : Bool) → is_unescaped (get_or s at 0) ≡ u
          → (length s - (at + 1) ≤ n → scan s (between false) (skip is_unescaped s (at + 1)) ≡ scan s (between false) (at + 1))
          → scan s (between false) (skip is_unescaped s at) ≡ scan s (between false) at
      cases false b u e later =
          ap (scan s (between false)) (skip_end is_unescaped s at (ltb-false at (length s) b))
      cases true b false e later =
          ap (scan s (between false)) (skip_stop is_unescaped s at (ltb-true at (length s) b) e)
      cases true b true e later =
          let h = ltb-true at (length s) b in
          ap (scan s (between false)) (skip_next is_unescaped s at h e) ∙ later (omega arith)
          ∙ sym (plain_next at h (ap is_unescaped (sym (octet_here s at h)) ∙ e))

pub pass_forward : (p : ℕ → Bool) (t : List ℕ) (at : ℕ) → at ≤ pass_over p t at
unfolding pass_over
pass_forward p [] at = omega arith
pass_forward p (c ∷ t) at = cases (p c) (pass_forward p t (at + 1))
  where
    cases : (b : Bool) → at + 1 ≤ pass_over p t (at + 1) → at ≤ cond b (pass_over p t (at + 1)) at
    cases true h = omega (arith, h)
    cases false h = omega arith

pub skip_forward : (p : ℕ → Bool) (s : List ℕ) (at : ℕ) → at ≤ skip p s at
unfolding skip
skip_forward p s at = pass_forward p (drop at s) at

-- what is skipped ends at the first octet outside the class
pass_first : (p : ℕ → Bool) (t : List ℕ) (at : ℕ) → at + position_or_len (λ c. not (p c)) t ≡ pass_over p t at
unfolding pass_over
pass_first p [] at = omega arith
pass_first p (c ∷ t) at = cases (p c) (pass_first p t (at + 1))
  where
    cases : (b : Bool) → at + 1 + position_or_len (λ x. not (p x)) t ≡ pass_over p t (at + 1)
        → at + cond (not (not b)) (1 + position_or_len (λ x. not (p x)) t) 0 ≡ cond b (pass_over p t (at + 1)) at
    cases true later = omega (arith, later)
    cases false later = omega arith

pub skip_first : (p : ℕ → Bool) (s : List ℕ) (at : ℕ) → at + position_or_len (λ c. not (p c)) (drop at s) ≡ skip p s at
unfolding skip
skip_first p s at = pass_first p (drop at s) at

-- The code's digit

module _ (s : List ℕ) (at x : ℕ) where
  pub hex_no : is_hex (octet_at s at) ≡ false → None ≡ hex_at s at x
  unfolding hex_at
  hex_no f = sym (ap (λ (b : Bool). cond b (more (record { at = step s at }) (hex_more x (octet_at s at))) None) f)

  pub hex_yes : (q v : ℕ) → is_hex (octet_at s at) ≡ true → q ≡ step s at → v ≡ hex_digit (octet_at s at)
      → more (record { at = q }) (x * 16 + v) ≡ hex_at s at x
  unfolding hex_at
  hex_yes q v f e d =
      ap₂ (λ (n m : ℕ). more (record { at = n }) (x * 16 + m)) e d
      ∙ sym (ap (λ (b : Bool). cond b (more (record { at = step s at }) (hex_more x (octet_at s at))) None) f)

-- beyond a later position is beyond an earlier one
pub farther : (at q : ℕ) (e : std.Option Escape) → at ≤ q → Beyond q e → Beyond at e
farther at q (Some e) l b = omega (arith, l, b)
farther at q None l b = tt

-- The code's test for the end of a run, over all octets
pub stop_test : (c : ℕ) → c < 256 → ((ltb c 32 || eqb c 34) || eqb c 92) ≡ not (is_unescaped c)
stop_test c h =
    same ((ltb c 32 || eqb c 34) || eqb c 92) (not (is_unescaped c))
    (below (λ (n : ℕ). beq ((ltb n 32 || eqb n 34) || eqb n 92) (not (is_unescaped n))) 256 tt c h)
  where
    same : (a b : Bool) → T (beq a b) → a ≡ b
    same true true t = refl
    same true false t = absurd t
    same false true t = absurd t
    same false false t = refl

-- a run ends at an octet outside the class
pub skip_stops : (p : ℕ → Bool) (s : List ℕ) (n at : ℕ) → length s - at ≤ n → p 256 ≡ false → p (octet_at s (skip p s at)) ≡ false
skip_stops p s zero at l never =
    ap p (ap (octet_at s) (skip_end p s at (omega arith)) ∙ sym (octet_end s at (omega arith))) ∙ never
skip_stops p s (suc n) at l never = cases (ltb at (length s)) refl (p (get_or s at 0)) refl (skip_stops p s n (at + 1))
  where
    cases : (b : Bool) → ltb at (length s) ≡ b → (u : Bool) → p (get_or s at 0) ≡ u
        → (length s - (at + 1) ≤ n → p 256 ≡ false → p (octet_at s (skip p s (at + 1))) ≡ false)
        → p (octet_at s (skip p s at)) ≡ false
    cases false b u e later =
        let h = ltb-false at (length s) b in
        ap p (ap (octet_at s) (skip_end p s at h) ∙ sym (octet_end s at h)) ∙ never
    cases true b false e later =
        let h = ltb-true at (length s) b in
        ap p (ap (octet_at s) (skip_stop p s at h e) ∙ sym (octet_here s at h)) ∙ e
    cases true b true e later =
        let h = ltb-true at (length s) b in
        ap (λ (m : ℕ). p (octet_at s m)) (skip_next p s at h e) ∙ later (omega arith) never

-- Between characters

module _ (s : List ℕ) (at : ℕ) where
  pub scan_end : (x : Scan) → length s ≤ at → scan s x at ≡ refused
  unfolding resume
  scan_end x h =
      scan_turn s x at ∙ ap (resume s (step s at)) (ap (turn x) (sym (octet_end s at h)) ∙ turn_end x)

  pub string_not : (octet_at s at ≡ quote → ⊥) → refused ≡ string_at s at
  unfolding string_at
  string_not n = sym (ap (λ (b : Bool). cond b (scan s (between false) (step s at)) refused) (ne_eqb _ _ n))

  pub string_opens : (q : ℕ) → octet_at s at ≡ quote → q ≡ step s at → scan s (between false) q ≡ string_at s at
  unfolding string_at
  string_opens q e f =
      ap (scan s (between false)) f
      ∙ sym (ap (λ (b : Bool). cond b (scan s (between false) (step s at)) refused) (eq-eqb _ _ e))

  module _ (h : Bool) where
    between_turn : (c : ℕ) → octet_at s at ≡ c → scan s (between h) at ≡ resume s (step s at) (turn (between h) c)
    between_turn c e = scan_turn s (between h) at ∙ ap (λ (n : ℕ). resume s (step s at) (turn (between h) n)) e

    pub quote_closes : (q : ℕ) → octet_at s at ≡ quote → h ≡ false → q ≡ step s at → scan s (between h) at ≡ ended q
    unfolding turn resume
    quote_closes q e w f =
        between_turn quote e ∙ ap (λ (b : Bool). resume s (step s at) (cond b broken closed)) w ∙ ap ended (sym f)

    pub quote_breaks : octet_at s at ≡ quote → h ≡ true → scan s (between h) at ≡ refused
    unfolding turn resume
    quote_breaks e w = between_turn quote e ∙ ap (λ (b : Bool). resume s (step s at) (cond b broken closed)) w

    pub backslash_escapes : (q : ℕ) → octet_at s at ≡ backslash → q ≡ step s at → scan s (between h) at ≡ scan s (escaping h) q
    unfolding turn resume
    backslash_escapes q e f = between_turn backslash e ∙ ap (scan s (escaping h)) (sym f)

    pub other_breaks : (octet_at s at ≡ quote → ⊥) → (octet_at s at ≡ backslash → ⊥)
        → (h ≡ false → is_unescaped (octet_at s at) ≡ false) → scan s (between h) at ≡ refused
    unfolding turn resume
    other_breaks p q u =
        scan_turn s (between h) at
        ∙ ap (λ (b : Bool). resume s (step s at) (cond b (cond h broken closed) (cond (eqb c backslash) (go_on (escaping h)) (cond (is_unescaped c) (after_char h) broken)))) (ne_eqb _ _ p)
        ∙ ap (λ (b : Bool). resume s (step s at) (cond b (go_on (escaping h)) (cond (is_unescaped c) (after_char h) broken))) (ne_eqb _ _ q)
        ∙ cases h u (is_unescaped c)
      where
        c : ℕ
        c = octet_at s at

        cases : (h : Bool) → (h ≡ false → is_unescaped (octet_at s at) ≡ false) → (b : Bool)
            → resume s (step s at) (cond (is_unescaped (octet_at s at)) (after_char h) broken) ≡ refused
        cases true u b = both (is_unescaped (octet_at s at))
          where
            both : (b : Bool) → resume s (step s at) (cond b broken broken) ≡ refused
            both true = refl
            both false = refl
        cases false u b = ap (λ (b : Bool). resume s (step s at) (cond b (after_char false) broken)) (u refl)
