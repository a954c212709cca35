-- The two forms are told apart by the first octet that is not space: a compact message begins with a character of the
-- alphabet or a full stop, and what has a reading begins with an opening curly bracket.
use mathlib.Core.Path.{◌≡◌, refl, ap, sym, ◌∙◌}
use mathlib.Core.Bool.{Bool, true, false, not, ◌&&◌, cond}
use mathlib.Core.List.{List, [], ◌∷◌, ◌++◌, map}
use Prim.Native.Nat.{ℕ, ◌<◌}
use native.Mathlib.Omega.{arith}
use lib.Dec.{eqb}
use Rattle.prelude.specs.Ascii.{ascii}
use Rattle.prelude.specs.Buffer.{AllBelow}
use Rattle.prelude.proofs.Numbers.{below}
use Rattle.base64url.specs.Base64url.{alphabet, character, sextets, encoded}
use Rattle.base64url.proofs.Groups.{sextets_below}
use Rattle.grammar.specs.Grammar.{is_space}
use Rattle.grammar.specs.Utf8.{utf8}
use Rattle.grammar.specs.Reader.{octet_at, pass_over, skip, skip_space, Answer, nothing, found, wholly, value_at, opens_object}
use Rattle.grammar.specs.Reader.{read_text}
use Rattle.grammar.specs.Readings.{Reading}
use Rattle.grammar.proofs.Theorems.{read_complete}
use Rattle.grammar.proofs.Scan.{T→true}
use Rattle.meets.specs.Meets.{Compact}

-- An octet that is neither space nor an opening curly bracket.
abbrev other : ℕ → Bool
other c = not (is_space c) && not (eqb c 123)

-- A text that begins with such an octet opens no object.
begins_other : (c : ℕ) (t : List ℕ) → other c ≡ true → opens_object (c ∷ t) ≡ false
unfolding opens_object skip pass_over
begins_other c t e = cases (is_space c) (eqb c 123) refl refl e
  where
    cases : (a b : Bool) → is_space c ≡ a → eqb c 123 ≡ b → (not a && not b) ≡ true →
        eqb (octet_at (c ∷ t) (cond (is_space c) (pass_over is_space t 1) 0)) 123 ≡ false
    cases true b p q e = absurd (let z : ◌≡◌ {A = ℕ} 0 1 = cc in omega arith)
    cases false true p q e = absurd (let z : ◌≡◌ {A = ℕ} 0 1 = cc in omega arith)
    cases false false p q e =
        ap (λ (x : Bool). eqb (octet_at (c ∷ t) (cond x (pass_over is_space t 1) 0)) 123) p ∙ q

character_other : (v : ℕ) → v < 64 → other (character v) ≡ true
unfolding ascii alphabet character
character_other v h = T→true (other (character v)) (below (λ (n : ℕ). other (character n)) 64 tt v h)

-- Characters of the alphabet, and then a full stop.
characters_other : (vs t : List ℕ) → AllBelow 64 vs → opens_object (map character vs ++ (46 ∷ t)) ≡ false
characters_other [] t h = begins_other 46 t refl
characters_other (v ∷ vs) t h = begins_other (character v) (map character vs ++ (46 ∷ t)) (character_other v h.0)

compact_opens_none : (known : List (List ℕ)) (message : List ℕ) → Compact known message →
    opens_object message ≡ false
unfolding encoded
compact_opens_none known message c =
    ap opens_object (sym c.spelled)
    ∙ characters_other (sextets c.header) _ (sextets_below c.header c.octets.0)

-- A text that is read opens an object.
reading_opens : (s : List ℕ) → Reading 12 s → opens_object s ≡ true
unfolding opens_object read_text
reading_opens s r =
    cases (eqb (octet_at s (skip_space s 0)) 123) (wholly s (value_at 12 s (skip_space s 0))) (read_complete 12 s r).0
  where
    cases : {e k : ℕ} (b : Bool) (a : Answer) → cond (b && utf8 s) a nothing ≡ found e k → b ≡ true
    cases true a p = refl
    cases false a p = absurd (let z : ◌≡◌ {A = ℕ} 0 1 = cc in omega arith)

-- So no message has both forms.
pub forms_apart : (known : List (List ℕ)) (message : List ℕ) →
    (Compact known message → opens_object message ≡ false) × (Reading 12 message → opens_object message ≡ true)
forms_apart known message = (compact_opens_none known message, reading_opens message)
