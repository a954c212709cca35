-- What stands before a value, and what it is for a reader and a parser of values to agree: a name and its colon are
-- read alike.
use mathlib.Core.Path.{◌≡◌, refl, ap, subst, ◌∙◌}
use mathlib.Core.List.{List, [], ◌∷◌}
use mathlib.Core.Bool.{Bool, true, false, cond}
use mathlib.Core.Option.{Option, none, some}
use Prim.Native.Nat.{ℕ, suc, ◌+◌, ◌-◌, ◌≤◌}
use native.Mathlib.Omega.{arith}
use lib.ListN.{length, length-append, length-drop, drop}
use lib.Dec.{T, eqb}
use Rattle.grammar.specs.Grammar.{quote, colon, is_space, Str, leaves_chars, leaves_str, Bracket, curly, square}
use Rattle.grammar.specs.Places.{start_of, size_of, kind_of, Place, Placed, Parts, done, part, Member, member_of, bare}
use Rattle.grammar.specs.Strings.{paired}
use Rattle.grammar.specs.Reader.{octet_at, step, skip, skip_space, Answer, nothing, found, Before, colon_at, before_at}
use Rattle.grammar.proofs.Parse.{At, at, Got, failed, got, then, true→T, scan, word, read_str, read_string, Node}
use Rattle.grammar.proofs.Parse.{Head, read_label}
use Rattle.grammar.proofs.Scan.{no_got, got_val, got_at, then_inv, Spelled, spelled_as, scanned, word_inv}
use Rattle.grammar.proofs.Characters.{str_sound}
use Rattle.grammar.proofs.Positions.{Rest, rest_here, octet_nil, octet_cons, rest_next, step_cons, stays}
use Rattle.grammar.proofs.Positions.{skip_scan, rest_scan, end_of}
use Rattle.grammar.proofs.ScanStrings.{string_ends}

-- The row of a part; in an array the name's place is 0, 0.

abbrev pub name_or : Option Place → Place
name_or none = record { start = 0; size = 0 }
name_or (some q) = q

abbrev pub row_of : Option Place → Placed → Member
row_of q v = member_of (name_or q) v

unfoldable pub rows_of : Parts → List Member
rows_of done = []
rows_of (part q v ps) = row_of q v ∷ rows_of ps

-- What the reader is to answer where the parser gave g.
abbrev pub answer_of : Got Node → Answer
answer_of failed = nothing
answer_of (got v st) = found (start_of v.placed + size_of v.placed) (kind_of v.placed)

-- What the parser gave for a value that begins at n: it is placed there, and the parser has passed the space behind it.
pub record Valued (s : List ℕ) (n : ℕ) (v : Node) (st : At) : Type 0 where
  pub starts : start_of v.placed ≡ n
  pub after : st.pos ≡ skip_space s (start_of v.placed + size_of v.placed)
  pub rest : Rest s st.pos st.rest

-- A reader's answer and a parser's for the value at n.
pub record Matches (s : List ℕ) (n : ℕ) (a : Answer) (g : Got Node) : Type 0 where
  pub same : a ≡ answer_of g
  pub valued : (v : Node) (st : At) → g ≡ got v st → Valued s n v st

abbrev pub Agrees : List ℕ → (ℕ → Answer) → (At → Got Node) → Type 0
Agrees s inner read = (n : ℕ) (t : List ℕ) → Rest s n t → Matches s n (inner n) (read (at n t))

pub rest_length : {s : List ℕ} {n : ℕ} {t : List ℕ} → Rest s n t → length t ≤ length s
rest_length {s} {n} h = omega (arith, length-drop n s, ap length h.is)

pub skip_forward : (p : ℕ → Bool) (s : List ℕ) (n : ℕ) → n ≤ skip p s n
skip_forward p s n =
    let e = skip_scan p (rest_here s n) in
    let f = (scanned p n (drop n s)).ends in
    omega arith

-- What stands before a value

abbrev pub before_of : {b : Bracket} → Got (Head b) → Option Before
before_of failed = none
before_of (got h st) = some (record { name = name_or h.name; value = st.pos })

-- What the parser gives for a name x that begins at n, past its colon.
abbrev head_of : ℕ → Str → At → Got (Head curly)
head_of n x st =
    got
    (record {
      label = record { name = x; sign = bare };
      name = some (record { start = n + 1; size = length (leaves_chars x.chars) });
    })
    (scan is_space st.pos st.rest)

-- The colon at m, before the text u.
colon_same : (s : List ℕ) (n m : ℕ) (u : List ℕ) (size : ℕ) (x : Str) → Rest s m u →
    size ≡ length (leaves_chars x.chars) →
    cond (eqb (octet_at s m) colon)
    (some (record { name = record { start = n + 1; size = size }; value = skip_space s (step s m) })) none
    ≡ before_of (then (word (colon ∷ []) m u) (λ v st. head_of n x st))
unfolding word
colon_same s n m [] size x h e = rw (octet_nil h)
colon_same s n m (c ∷ u) size x h e =
    rw (octet_cons h, step_cons h, skip_scan is_space (rest_next h), e) (go (eqb c colon))
  where
    go : (b : Bool) →
        cond b
        (some (record {
          name = record { start = n + 1; size = length (leaves_chars x.chars) };
          value = (scan is_space (suc m) u).pos;
        }))
        none
        ≡ before_of
        (then {A = Unit {0}}
        (elim b as (λ z. Got (Unit {0})) [ true ↦ got tt (at (suc m) u) | false ↦ failed ]) (λ v st. head_of n x st))
    go true = refl
    go false = refl

-- A string that passes a test is a string.
pub string_sound : (test : Str → Bool) (K n : ℕ) (t : List ℕ) {x : Str} {st : At} → read_string test K n t ≡ got x st →
    Spelled (leaves_str x) n t st × T (test x)
unfolding read_string
string_sound test K n t {x} {st} q = go (read_str K n t) refl q
  where
    pass : (y : Str) (here : At) (b : Bool) → test y ≡ b → read_str K n t ≡ got y here →
        cond b (got y here) failed ≡ got x st → Spelled (leaves_str x) n t st × T (test x)
    pass y here true e p c =
        (spelled_as leaves_str c (str_sound K n t p), subst (λ z. T (test z)) (got_val c) (true→T (test y) e))
    pass y here false e p c = absurd (no_got c)

    go : (g : Got Str) → read_str K n t ≡ g → then g (λ y here. cond (test y) (got y here) failed) ≡ got x st →
        Spelled (leaves_str x) n t st × T (test x)
    go failed p c = absurd (no_got c)
    go (got y here) p c = pass y here (test y) refl p c

str_length : (x : Str) → length (leaves_str x) ≡ length (leaves_chars x.chars) + 2
unfolding leaves_str
str_length x = omega (arith, length-append (leaves_chars x.chars) (quote ∷ []))

-- After a name: the colon, where the parser found the name.
after_name : (s : List ℕ) (K n : ℕ) (t : List ℕ) → Rest s n t → (g : Got Str) → read_string paired K n t ≡ g →
    colon_at s n (end_of g)
    ≡ before_of
    (then g (λ x st₁.
    let st₂ = scan is_space st₁.pos st₁.rest in
    then (word (colon ∷ []) st₂.pos st₂.rest) (λ v st₃. head_of n x st₃)))
after_name s K n t h failed q = refl
after_name s K n t h (got x st₁) q =
    let y = (string_sound paired K n t q).0 in
    let r = stays h y in
    let L = str_length x in
    rw (skip_scan is_space r)
    (colon_same s n (scan is_space st₁.pos st₁.rest).pos (scan is_space st₁.pos st₁.rest).rest
    (st₁.pos - (n + 2)) x (rest_scan is_space r) (omega (arith, y.ends)))

pub label_same : (s : List ℕ) (b : Bracket) (K n : ℕ) (t : List ℕ) → Rest s n t → length t ≤ K →
    before_at b s n ≡ before_of (read_label paired b K (at n t))
unfolding before_at read_label
label_same s curly K n t h f =
    ap (colon_at s n) (string_ends K h f) ∙ after_name s K n t h (read_string paired K n t) refl
label_same s square K n t h f = refl

pub label_rest : (s : List ℕ) (b : Bracket) (K n : ℕ) (t : List ℕ) → Rest s n t → {h : Head b} {st : At} →
    read_label paired b K (at n t) ≡ got h st → Rest s st.pos st.rest × (n ≤ st.pos)
unfolding read_label
label_rest s curly K n t r q =
    let t₁ = then_inv (read_string paired K n t) _ q in
    let x₁ = (string_sound paired K n t t₁.first).0 in
    let r₁ = stays r x₁ in
    let st₂ = scan is_space t₁.here.pos t₁.here.rest in
    let x₂ = scanned is_space t₁.here.pos t₁.here.rest in
    let t₂ = then_inv (word (colon ∷ []) st₂.pos st₂.rest) _ t₁.second in
    let x₃ = word_inv (colon ∷ []) st₂.pos st₂.rest t₂.first in
    let r₂ = stays (rest_scan is_space r₁) x₃ in
    let x₄ = scanned is_space t₂.here.pos t₂.here.rest in
    subst (λ z. Rest s z.pos z.rest × (n ≤ z.pos)) (got_at t₂.second)
    (rest_scan is_space r₂, omega (arith, x₁.ends, x₂.ends, x₃.ends, x₄.ends))
label_rest s square K n t r q =
    subst (λ z. Rest s z.pos z.rest × (n ≤ z.pos)) (got_at q) (r, omega arith)
