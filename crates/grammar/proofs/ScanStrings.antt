-- The reader's octet by octet scan of a string ends where the parser's does, and takes exactly the strings whose
-- halves of surrogate pairs are paired.
use mathlib.Core.Path.{◌≡◌, refl, sym, ap, ◌∙◌}
use mathlib.Core.List.{List, [], ◌∷◌}
use mathlib.Core.Bool.{Bool, true, false, not, cond, ◌&&◌}
use mathlib.Core.Option.{Option, none, some}
use Prim.Native.Nat.{ℕ, zero, suc, ◌+◌, ◌≤◌, ◌<◌}
use native.Mathlib.Numerals.{add-one}
use native.Mathlib.Omega.{arith}
use lib.ListN.{length, length-append}
use lib.Dec.{eqb, leb, leb→le}
use Rattle.grammar.specs.Grammar.{quote, backslash, letter_u, is_unescaped, is_escape, is_hex, Char, unescaped, escape}
use Rattle.grammar.specs.Grammar.{unicode, Str, leaves_char}
use Rattle.grammar.specs.Strings.{hex_more, unit, is_high, is_low, half, allowed, paired_after, paired}
use Rattle.grammar.specs.Reader.{End, refused, ended, Scan, between, escaping, digit, Turn, broken, closed, go_on}
use Rattle.grammar.specs.Reader.{after_unit, after_char, turn, scan_string, string_at}
use Rattle.grammar.proofs.Parse.{At, at, Got, failed, got, then, true→T, one, octet, word, hex4, escaped}
use Rattle.grammar.proofs.Parse.{read_char, read_chars, read_str, read_string}
use Rattle.grammar.proofs.Scan.{both_T}
use Rattle.grammar.proofs.Characters.{char_sound, char_pos}
use Rattle.grammar.proofs.Positions.{Rest, octet_nil, octet_cons, rest_next, step_cons, end_of}

-- What a turn leads to, before the text t at n.
abbrev pub after_turn : Turn → List ℕ → ℕ → End
after_turn broken t n = refused
after_turn closed t n = ended n
after_turn (go_on x) t n = scan_string x t n

pub scan_step : (x : Scan) (c : ℕ) (t : List ℕ) (n : ℕ) → scan_string x (c ∷ t) n ≡ after_turn (turn x c) t (suc n)
unfolding scan_string
scan_step x c t n = go (turn x c) ∙ ap (after_turn (turn x c) t) (add-one n)
  where
    go : (y : Turn) →
        elim y as (λ z. End) [ broken ↦ refused | closed ↦ ended (n + 1) | go_on z ↦ scan_string z t (n + 1) ]
        ≡ after_turn y t (n + 1)
    go broken = refl
    go closed = refl
    go (go_on z) = refl

-- What follows a parser's answer.

abbrev on_got : {A : Type 0} → Got A → (A → At → End) → End
on_got failed k = refused
on_got (got a st) k = k a st

on_then : {A B : Type 0} (g : Got A) (f : A → At → Got B) (k : B → At → End) →
    on_got (then g f) k ≡ on_got g (λ a st. on_got (f a st) k)
on_then failed f k = refl
on_then (got a st) f k = refl

on_alike : {A : Type 0} (g : Got A) (j k : A → At → End) → ((a : A) (st : At) → j a st ≡ k a st) → on_got g j ≡ on_got g k
on_alike failed j k e = refl
on_alike (got a st) j k e = e a st

-- What a character does, a first half waiting before it or not.
abbrev turn_of : Bool → Char → Turn
turn_of h (unescaped o) = after_char h
turn_of h (escape o) = after_char h
turn_of h (unicode a b c d) = after_unit h (unit a.code b.code c.code d.code)

abbrev chase : Bool → Char → At → End
chase h x st = after_turn (turn_of h x) st.rest st.pos

module _ (h : Bool) where
  digit_step : (j x : ℕ) (t : List ℕ) (n : ℕ) →
      scan_string (digit h (suc j) x) t n
      ≡ on_got (one is_hex n t) (λ o st. scan_string (digit h j (hex_more x o.code)) st.rest st.pos)
  unfolding one scan_string turn
  digit_step j x [] n = refl
  digit_step j x (c ∷ t) n = scan_step (digit h (suc j) x) c t n ∙ go (is_hex c) refl
    where
      go : (b : Bool) (e : is_hex c ≡ b) →
          after_turn (cond b (go_on (digit h j (hex_more x c))) broken) t (suc n)
          ≡ on_got (octet is_hex c b e (at (suc n) t)) (λ o st.
          scan_string (digit h j (hex_more x o.code)) st.rest st.pos)
      go true e = refl
      go false e = refl

  digit_last : (x : ℕ) (t : List ℕ) (n : ℕ) →
      scan_string (digit h zero x) t n
      ≡ on_got (one is_hex n t) (λ o st. after_turn (after_unit h (hex_more x o.code)) st.rest st.pos)
  unfolding one scan_string turn
  digit_last x [] n = refl
  digit_last x (c ∷ t) n = scan_step (digit h zero x) c t n ∙ go (is_hex c) refl
    where
      go : (b : Bool) (e : is_hex c ≡ b) →
          after_turn (cond b (after_unit h (hex_more x c)) broken) t (suc n)
          ≡ on_got (octet is_hex c b e (at (suc n) t)) (λ o st.
          after_turn (after_unit h (hex_more x o.code)) st.rest st.pos)
      go true e = refl
      go false e = refl

  hex_scan : (t : List ℕ) (n : ℕ) → scan_string (digit h 3 0) t n ≡ on_got (hex4 n t) (chase h)
  unfolding hex4
  hex_scan t n =
      digit_step 2 0 t n
      ∙ on_alike (one is_hex n t) _ _ (λ a st₁. digit_step 1 _ st₁.rest st₁.pos
      ∙ on_alike (one is_hex st₁.pos st₁.rest) _ _ (λ b st₂. digit_step 0 _ st₂.rest st₂.pos
      ∙ on_alike (one is_hex st₂.pos st₂.rest) _ _ (λ c st₃. digit_last _ st₃.rest st₃.pos
      ∙ sym (on_then (one is_hex st₃.pos st₃.rest) (λ d st₄. got (unicode a b c d) st₄) (chase h)))
      ∙ sym (on_then (one is_hex st₂.pos st₂.rest) _ (chase h)))
      ∙ sym (on_then (one is_hex st₁.pos st₁.rest) _ (chase h)))
      ∙ sym (on_then (one is_hex n t) _ (chase h))

  escaped_scan : (t : List ℕ) (n : ℕ) → scan_string (escaping h) t n ≡ on_got (escaped n t) (chase h)
  unfolding escaped scan_string turn one
  escaped_scan [] n = refl
  escaped_scan (c ∷ t) n = scan_step (escaping h) c t n ∙ go (eqb c letter_u) (is_escape c) refl (hex_scan t (suc n))
    where
      go : (b d : Bool) (e : is_escape c ≡ d) → scan_string (digit h 3 0) t (suc n) ≡ on_got (hex4 (suc n) t) (chase h) →
          after_turn (cond b (go_on (digit h 3 0)) (cond d (after_char h) broken)) t (suc n)
          ≡ on_got
          (elim b as (λ z. Got Char) [
            | true ↦ hex4 (suc n) t
            | false ↦ then (octet is_escape c d e (at (suc n) t)) (λ o st. got (escape o) st)
          ])
          (chase h)
      go true d e x = x
      go false true e x = refl
      go false false e x = refl

  char_scan : (c : ℕ) (t : List ℕ) (n : ℕ) → eqb c quote ≡ false →
      scan_string (between h) (c ∷ t) n ≡ on_got (read_char n (c ∷ t)) (chase h)
  unfolding read_char turn one
  char_scan c t n q =
      scan_step (between h) c t n
      ∙ ap
      (λ z. after_turn (cond z (cond h broken closed) (cond (eqb c backslash) (go_on (escaping h))
      (cond (is_unescaped c) (after_char h) broken))) t (suc n))
      q
      ∙ go (eqb c backslash) (is_unescaped c) refl (escaped_scan t (suc n))
    where
      go : (b d : Bool) (e : is_unescaped c ≡ d) → scan_string (escaping h) t (suc n)
          ≡ on_got (escaped (suc n) t) (chase h) →
          after_turn (cond b (go_on (escaping h)) (cond d (after_char h) broken)) t (suc n)
          ≡ on_got
          (elim b as (λ z. Got Char) [
            | true ↦ escaped (suc n) t
            | false ↦ then (octet is_unescaped c d e (at (suc n) t)) (λ o st. got (unescaped o) st)
          ])
          (chase h)
      go true d e x = x
      go false true e x = refl
      go false false e x = refl

-- A character goes on exactly where the rule allows it.

abbrev waits : Option ℕ → Bool
waits none = false
waits (some h) = true

low_not_high : (u : ℕ) → is_low u ≡ true → is_high u ≡ false
low_not_high u e = go (is_high u) refl
  where
    go : (b : Bool) → is_high u ≡ b → b ≡ false
    go true q =
        let l = both_T (leb 0xDC00 u) (leb u 0xDFFF) (true→T (is_low u) e) in
        let h = both_T (leb 0xD800 u) (leb u 0xDBFF) (true→T (is_high u) q) in
        absurd (omega (arith, leb→le 0xDC00 u l.0, leb→le u 0xDBFF h.1))
    go false q = refl

turn_allowed : (h : Option ℕ) (x : Char) →
    turn_of (waits h) x ≡ cond (allowed h x) (go_on (between (waits (half x)))) broken
unfolding allowed half
turn_allowed none (unescaped o) = refl
turn_allowed none (escape o) = refl
turn_allowed none (unicode a b c d) =
    let u = unit a.code b.code c.code d.code in
    go (is_low u) (is_high u)
  where
    go : (l g : Bool) → cond l broken (go_on (between g))
        ≡ cond (not l)
        (go_on (between (waits (cond g (some (unit a.code b.code c.code d.code)) none)))) broken
    go true g = refl
    go false true = refl
    go false false = refl
turn_allowed (some h) (unescaped o) = refl
turn_allowed (some h) (escape o) = refl
turn_allowed (some h) (unicode a b c d) =
    let u = unit a.code b.code c.code d.code in
    go (is_low u) (is_high u) (low_not_high u)
  where
    go : (l g : Bool) → (l ≡ true → g ≡ false) → cond l (go_on (between false)) broken
        ≡ cond l (go_on (between (waits (cond g (some (unit a.code b.code c.code d.code)) none)))) broken
    go true true f = let z : ◌≡◌ {A = Bool} true false = f refl in ap (λ y. go_on (between y)) (sym z)
    go true false f = refl
    go false g f = refl

-- Characters up to the quotation mark

abbrev kept : Option ℕ → List Char → At → Got (List Char)
kept h cs st = cond (paired_after h cs) (got cs st) failed

-- One character before the others.
cons_ends : (h : Option ℕ) (x : Char) (g : Got (List Char)) {e : End} → e ≡ end_of (then g (kept (half x))) →
    cond (allowed h x) e refused ≡ end_of (then (then g (λ xs st. got (x ∷ xs) st)) (kept h))
unfolding paired_after
cons_ends h x failed {e} p = go (allowed h x)
  where
    go : (b : Bool) → cond b e refused ≡ refused
    go true = p
    go false = refl
cons_ends h x (got xs st) {e} p = go (allowed h x) (paired_after (half x) xs) p
  where
    go : (b d : Bool) → e ≡ end_of (cond d (got xs st) failed) →
        cond b e refused ≡ end_of (cond (b && d) (got (x ∷ xs) st) failed)
    go true true q = q
    go true false q = q
    go false d q = refl

pick_turn : (b : Bool) (y : Scan) (t : List ℕ) (n : ℕ) →
    after_turn (cond b (go_on y) broken) t n ≡ cond b (scan_string y t n) refused
pick_turn true y t n = refl
pick_turn false y t n = refl

-- What follows a first character, given what follows the others.
abbrev Ends : ℕ → Type 0
Ends k = (h : Option ℕ) (t : List ℕ) (n : ℕ) → length t < k →
    scan_string (between (waits h)) t n ≡ end_of (then (read_chars k n t) (kept h))

first_ends : (k : ℕ) (h : Option ℕ) (s : List ℕ) (n : ℕ) (g : Got Char) → read_char n s ≡ g → length s < suc k → Ends k →
    on_got g (chase (waits h))
    ≡ end_of (then (then g (λ x st. then (read_chars k st.pos st.rest) (λ xs st'. got (x ∷ xs) st'))) (kept h))
first_ends k h s n failed q f ih = refl
first_ends k h s n (got x st) q f ih =
    let y = char_sound n s q in
    let L = length-append (leaves_char x) st.rest in
    let M = ap length y.text in
    let P = char_pos x in
    ap (λ z. after_turn z st.rest st.pos) (turn_allowed h x)
    ∙ pick_turn (allowed h x) (between (waits (half x))) st.rest st.pos
    ∙ cons_ends h x (read_chars k st.pos st.rest) (ih (half x) st.rest st.pos (omega arith))

quote_ends : (h : Option ℕ) (t : List ℕ) (n : ℕ) →
    after_turn (cond (waits h) broken closed) t n ≡ end_of (kept h [] (at n t))
unfolding paired_after
quote_ends none t n = refl
quote_ends (some h) t n = refl

chars_ends : (k : ℕ) → Ends k
unfolding read_chars scan_string turn
chars_ends zero h t n f = absurd (omega arith)
chars_ends (suc k) h [] n f = refl
chars_ends (suc k) h (c ∷ t) n f = go (eqb c quote) refl (chars_ends k)
  where
    go : (b : Bool) → eqb c quote ≡ b → Ends k →
        scan_string (between (waits h)) (c ∷ t) n
        ≡ end_of
        (then
        (elim b as (λ z. Got (List Char)) [
          | true ↦ got [] (at (suc n) t)
          | false ↦
              then (read_char n (c ∷ t)) (λ x st.
              then (read_chars k st.pos st.rest) (λ xs st'. got (x ∷ xs) st'))
        ])
        (kept h))
    go true q ih =
        scan_step (between (waits h)) c t n
        ∙ ap
        (λ z. after_turn (cond z (cond (waits h) broken closed) (cond (eqb c backslash) (go_on (escaping (waits h)))
        (cond (is_unescaped c) (after_char (waits h)) broken))) t (suc n))
        q
        ∙ quote_ends h t (suc n)
    go false q ih = char_scan (waits h) c t n q ∙ first_ends k h (c ∷ t) n (read_char n (c ∷ t)) refl f ih

-- Strings

str_ends : (g : Got (List Char)) →
    end_of (then g (kept none))
    ≡ end_of
    (then (then g (λ xs st. got (record { chars = xs }) st)) (λ (x : Str) st. cond (paired x) (got x st) failed))
unfolding paired
str_ends failed = refl
str_ends (got xs st) = go (paired_after none xs)
  where
    go : (b : Bool) →
        end_of (cond b (got xs st) failed) ≡ end_of {A = Str} (cond b (got (record { chars = xs }) st) failed)
    go true = refl
    go false = refl

-- A string that keeps the rule on halves ends where the parser's does.
pub string_ends : (K : ℕ) {s : List ℕ} {n : ℕ} {t : List ℕ} → Rest s n t → length t ≤ K →
    string_at s n ≡ end_of (read_string paired K n t)
unfolding string_at read_string read_str word
string_ends K {s} {n} {t = []} h f = rw (octet_nil h)
string_ends K {s} {n} {t = c ∷ t} h f =
    rw (octet_cons h, step_cons h, (rest_next h).is)
    (go (eqb c quote) (chars_ends K none t (suc n) (omega arith) ∙ str_ends (read_chars K (suc n) t)))
  where
    rest : Unit {0} → At → Got Str
    rest u st = then (read_chars K st.pos st.rest) (λ xs st'. got (record { chars = xs }) st')

    go : (b : Bool) →
        scan_string (between false) t (suc n)
        ≡ end_of (then (rest tt (at (suc n) t)) (λ x st. cond (paired x) (got x st) failed)) →
        cond b (scan_string (between false) t (suc n)) refused
        ≡ end_of
        (then
        (then (elim b as (λ z. Got (Unit {0})) [ true ↦ got tt (at (suc n) t) | false ↦ failed ]) rest)
        (λ x st. cond (paired x) (got x st) failed))
    go true e = e
    go false e = refl
