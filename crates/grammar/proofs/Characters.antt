-- Strings: the parser reads a string's leaves back as that string, and what it reads as a string has those leaves.
use mathlib.Core.Path.{◌≡◌, refl, sym, ap, subst, ◌∙◌}
use mathlib.Core.List.{List, [], ◌∷◌, ◌++◌, append_assoc}
use mathlib.Core.Bool.{Bool, true, false, not, ◌&&◌, ◌||◌}
use Prim.Native.Nat.{ℕ, zero, suc, ◌+◌, ◌≤◌, ◌<◌}
use native.Mathlib.Omega.{arith}
use lib.ListN.{length, length-append}
use lib.Dec.{T, eqb, leb, eqb→eq}
use Rattle.grammar.specs.Grammar.{quote, backslash, letter_u, is_unescaped, is_escape, is_hex, Octet, Char, unescaped}
use Rattle.grammar.specs.Grammar.{escape, unicode, Str, leaves_char, leaves_chars, leaves_str}
use Rattle.grammar.proofs.Parse.{At, at, Got, got, then, true→T, one, word, hex4, escaped, read_char, read_chars}
use Rattle.grammar.proofs.Parse.{read_str}
use Rattle.grammar.proofs.Scan.{false_of, among_all, no_got, then_inv, Spelled, spelled_then, spelled_as}
use Rattle.grammar.proofs.Scan.{one_read, one_inv, word_inv}

neither : (x a b : Bool) → T (x && not (a || (b || false))) → (a ≡ false) × (b ≡ false)
neither true true b t = absurd t
neither true false true t = absurd t
neither true false false t = (refl, refl)
neither false a b t = absurd t

pub unescaped_not : (o : Octet is_unescaped) → (eqb o.code quote ≡ false) × (eqb o.code backslash ≡ false)
unescaped_not o =
    neither (leb 32 o.code && leb o.code 255) (eqb o.code quote) (eqb o.code backslash) o.fits

pub escape_not : (o : Octet is_escape) → eqb o.code letter_u ≡ false
escape_not o =
    false_of (eqb o.code letter_u)
    (among_all (λ c. not (eqb c letter_u)) (34 ∷ 92 ∷ 47 ∷ 98 ∷ 102 ∷ 110 ∷ 114 ∷ 116 ∷ []) o.code tt o.fits)

pub char_read : (c : Char) (n : ℕ) (r : List ℕ) → read_char n (leaves_char c ++ r)
    ≡ got c (at (n + length (leaves_char c)) r)
unfolding leaves_char read_char escaped hex4
char_read (unescaped o) n r =
    rw ((unescaped_not o).1, read_char, one_read is_unescaped n o r) (ap (λ m. got (unescaped o) (at m r)) (omega arith))
char_read (escape o) n r =
    rw (escape_not o, escaped, one_read is_escape (suc n) o r) (ap (λ m. got (escape o) (at m r)) (omega arith))
char_read (unicode a b c d) n r =
    rw (one_read is_hex _ a, one_read is_hex _ b, one_read is_hex _ c, one_read is_hex _ d)
    (ap (λ m. got (unicode a b c d) (at m r)) (omega arith))

-- A character does not begin with the quotation mark.
record First (s : List ℕ) : Type 0 where
  code : ℕ
  rest : List ℕ
  is : s ≡ code ∷ rest
  other : eqb code quote ≡ false

char_first : (c : Char) (r : List ℕ) → First (leaves_char c ++ r)
unfolding leaves_char
char_first (unescaped o) r = record { code = o.code; rest = r; is = refl; other = (unescaped_not o).0 }
char_first (escape o) r = record { code = backslash; rest = o.code ∷ r; is = refl; other = refl }
char_first (unicode a b c d) r =
    record { code = backslash; rest = letter_u ∷ a.code ∷ b.code ∷ c.code ∷ d.code ∷ r; is = refl; other = refl }

-- What follows one character.
abbrev further : ℕ → Char → At → Got (List Char)
further k x st = then (read_chars k st.pos st.rest) (λ xs st'. got (x ∷ xs) st')

chars_step : (k n c : ℕ) (s : List ℕ) → eqb c quote ≡ false →
    read_chars (suc k) n (c ∷ s) ≡ then (read_char n (c ∷ s)) (further k)
unfolding read_chars
chars_step k n c s e = rw (e, read_chars)

char_step : (k n : ℕ) (c : Char) (r : List ℕ) →
    read_chars (suc k) n (leaves_char c ++ r) ≡ further k c (at (n + length (leaves_char c)) r)
char_step k n c r =
    let h = char_first c r in
    subst (λ s. read_chars (suc k) n s ≡ then (read_char n s) (further k)) (sym h.is)
    (chars_step k n h.code h.rest h.other)
    ∙ ap (λ g. then g (further k)) (char_read c n r)

pub char_pos : (c : Char) → 0 < length (leaves_char c)
unfolding leaves_char
char_pos (unescaped o) = omega arith
char_pos (escape o) = omega arith
char_pos (unicode a b c d) = omega arith

chars_read : (cs : List Char) (k n : ℕ) (r : List ℕ) → length (leaves_chars cs) < k →
    read_chars k n (leaves_chars cs ++ (quote ∷ r)) ≡ got cs (at (n + suc (length (leaves_chars cs))) r)
unfolding leaves_chars read_chars
chars_read cs zero n r h = absurd (omega arith)
chars_read [] (suc k) n r h = ap (λ m. got [] (at m r)) (omega arith)
chars_read (c ∷ cs) (suc k) n r h =
    let A = length-append (leaves_char c) (leaves_chars cs) in
    let P = char_pos c in
    rw append_assoc
    (char_step k n c (leaves_chars cs ++ (quote ∷ r))
    ∙ ap (λ g. then g (λ xs st'. got (c ∷ xs) st')) (chars_read cs k (n + length (leaves_char c)) r (omega arith))
    ∙ ap (λ m. got (c ∷ cs) (at m r)) (omega arith))

pub str_read : (x : Str) (k n : ℕ) (r : List ℕ) → length (leaves_str x) ≤ k →
    read_str k n (leaves_str x ++ r) ≡ got x (at (n + length (leaves_str x)) r)
unfolding leaves_str read_str word
str_read x k n r h =
    let A = length-append (leaves_chars x.chars) (quote ∷ []) in
    rw append_assoc
    (ap (λ g. then g (λ xs st. got (record { chars = xs }) st)) (chars_read x.chars k (suc n) r (omega arith))
    ∙ ap (λ m. got x (at m r)) (omega arith))

-- And back

hex_sound : (n : ℕ) (s : List ℕ) {c : Char} {st : At} → hex4 (suc (suc n)) s ≡ got c st →
    Spelled (leaves_char c) n (backslash ∷ letter_u ∷ s) st
unfolding hex4 leaves_char
hex_sound n s {c} {st} e =
    let t₁ = then_inv (one is_hex (suc (suc n)) s) _ e in
    let w = one_inv is_hex (suc (suc n)) s t₁.first in
    let t₂ = then_inv (one is_hex t₁.here.pos t₁.here.rest) _ t₁.second in
    let x = one_inv is_hex t₁.here.pos t₁.here.rest t₂.first in
    let t₃ = then_inv (one is_hex t₂.here.pos t₂.here.rest) _ t₂.second in
    let y = one_inv is_hex t₂.here.pos t₂.here.rest t₃.first in
    let t₄ = then_inv (one is_hex t₃.here.pos t₃.here.rest) _ t₃.second in
    let z = one_inv is_hex t₃.here.pos t₃.here.rest t₄.first in
    spelled_as leaves_char {a = unicode t₁.mid t₂.mid t₃.mid t₄.mid} {x = t₄.here} t₄.second
    (record { text = rw (z.0, y.0, x.0, w.0); ends = omega (arith, w.1, x.1, y.1, z.1) })

-- One octet of a class, given as a character.
single_sound : (p : ℕ → Bool) (f : Octet p → Char) (front : List ℕ) (n : ℕ) (s : List ℕ) {c : Char} {st : At} →
    ((o : Octet p) → leaves_char (f o) ≡ front ++ (o.code ∷ [])) →
    then (one p (n + length front) s) (λ o st'. got (f o) st') ≡ got c st → Spelled (leaves_char c) n (front ++ s) st
single_sound p f front n s {c} {st} g e =
    let t = then_inv (one p (n + length front) s) (λ o st'. got (f o) st') e in
    let a = one_inv p (n + length front) s t.first in
    let L = length-append front (t.mid.code ∷ []) in
    spelled_as leaves_char {a = f t.mid} {x = t.here} t.second (record {
      text = rw (g t.mid, append_assoc, a.0);
      ends = a.1 ∙ omega (arith, ap length (g t.mid));
    })

escaped_sound : (n : ℕ) (s : List ℕ) {c : Char} {st : At} → escaped (suc n) s ≡ got c st →
    Spelled (leaves_char c) n (backslash ∷ s) st
unfolding escaped leaves_char
escaped_sound n [] e = absurd (no_got e)
escaped_sound n (d ∷ s) {c} {st} e = go (eqb d letter_u) refl e
  where
    go : (b : Bool) → eqb d letter_u ≡ b →
        elim b as (λ x. Got Char) [
          | true ↦ hex4 (suc (suc n)) s
          | false ↦ then (one is_escape (suc n) (d ∷ s)) (λ o st'. got (escape o) st')
        ] ≡ got c st →
        Spelled (leaves_char c) n (backslash ∷ d ∷ s) st
    go true q h = rw (eqb→eq d letter_u (true→T (eqb d letter_u) q)) (hex_sound n s h)
    go false q h =
        let m : suc n ≡ n + 1 = omega arith in
        single_sound is_escape escape (backslash ∷ []) n (d ∷ s) (λ o. refl)
        (subst (λ z. then (one is_escape z (d ∷ s)) (λ o st'. got (escape o) st') ≡ got c st) m h)

pub char_sound : (n : ℕ) (s : List ℕ) {c : Char} {st : At} → read_char n s ≡ got c st → Spelled (leaves_char c) n s st
unfolding read_char leaves_char
char_sound n [] e = absurd (no_got e)
char_sound n (d ∷ s) {c} {st} e = go (eqb d backslash) refl e
  where
    go : (b : Bool) → eqb d backslash ≡ b →
        elim b as (λ x. Got Char) [
          | true ↦ escaped (suc n) s
          | false ↦ then (one is_unescaped n (d ∷ s)) (λ o st'. got (unescaped o) st')
        ] ≡ got c st →
        Spelled (leaves_char c) n (d ∷ s) st
    go true q h = rw (eqb→eq d backslash (true→T (eqb d backslash) q)) (escaped_sound n s h)
    go false q h =
        let m : n ≡ n + 0 = omega arith in
        single_sound is_unescaped unescaped [] n (d ∷ s) (λ o. refl)
        (subst (λ z. then (one is_unescaped z (d ∷ s)) (λ o st'. got (unescaped o) st') ≡ got c st) m h)

-- Characters and the quotation mark behind them.
abbrev up_to_quote : List Char → List ℕ
up_to_quote cs = leaves_chars cs ++ (quote ∷ [])

chars_sound : (k n : ℕ) (s : List ℕ) {cs : List Char} {st : At} → read_chars k n s ≡ got cs st →
    Spelled (up_to_quote cs) n s st
unfolding read_chars leaves_chars
chars_sound zero n s e = absurd (no_got e)
chars_sound (suc k) n [] e = absurd (no_got e)
chars_sound (suc k) n (d ∷ s) {cs} {st} e = go (eqb d quote) refl e (λ m t xs st' h. chars_sound k m t h)
  where
    go : (b : Bool) → eqb d quote ≡ b →
        elim b as (λ x. Got (List Char)) [
          | true ↦ got [] (at (suc n) s)
          | false ↦ then (read_char n (d ∷ s)) (further k)
        ] ≡ got cs st →
        ((m : ℕ) (t : List ℕ) (xs : List Char) (st' : At) → read_chars k m t ≡ got xs st' →
        Spelled (up_to_quote xs) m t st') →
        Spelled (up_to_quote cs) n (d ∷ s) st
    go true q h ih =
        spelled_as up_to_quote h
        (record { text = rw (eqb→eq d quote (true→T (eqb d quote) q)); ends = omega arith })
    go false q h ih =
        let t = then_inv (read_char n (d ∷ s)) (further k) h in
        let u = then_inv (read_chars k t.here.pos t.here.rest) (λ xs st'. got (t.mid ∷ xs) st') t.second in
        let a = char_sound n (d ∷ s) t.first in
        let b = ih t.here.pos t.here.rest u.mid u.here u.first in
        spelled_as up_to_quote {a = t.mid ∷ u.mid} {x = u.here} u.second
        (rw (append_assoc (leaves_char t.mid)) (spelled_then a b))

pub str_sound : (k n : ℕ) (s : List ℕ) {x : Str} {st : At} → read_str k n s ≡ got x st → Spelled (leaves_str x) n s st
unfolding read_str leaves_str
str_sound k n s {x} {st} e =
    let t = then_inv (word (quote ∷ []) n s) _ e in
    let a = word_inv (quote ∷ []) n s t.first in
    let u = then_inv (read_chars k t.here.pos t.here.rest) (λ xs st'. got (record { chars = xs }) st')
    t.second in
    let b = chars_sound k t.here.pos t.here.rest u.first in
    spelled_as leaves_str {a = record { chars = u.mid }} {x = u.here} u.second (spelled_then a b)
