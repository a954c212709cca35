-- A text that has been judged: its object reads where it begins.
use mathlib.Core.Path.{◌≡◌, ap, ◌∙◌}
use mathlib.Core.Bool.{◌&&◌}
use mathlib.Core.List.{List}
use Prim.Native.Nat.{ℕ}
use lib.ListN.{length}
use lib.Dec.{eqb}
use Rattle.grammar.specs.Grammar.{opening, curly}
use Rattle.grammar.specs.Utf8.{utf8}
use Rattle.grammar.specs.Reader.{octet_at, skip_space, Answer, nothing, found, value_at, wholly, read_text}
use Rattle.grammar.proofs.Endings.{either}
use Rattle.json_read.specs.Inner.Ends.{value_to, found_of}
use Rattle.json_read.specs.declared.Position.{Position}
use Rattle.json_read.proofs.Levels.{not_found}
use Rattle.json_read.proofs.ValueParts.{is_found}

whole : (s : List ℕ) (a : Answer) (e k : ℕ) → wholly s a ≡ found e k → a ≡ found e k
whole s nothing e k h = absurd (not_found h)
whole s (found d j) e k h = either (λ z. z ≡ found e k → found d j ≡ found e k) (eqb (skip_space s d) (length s)) (λ _ g. g) (λ _ g. absurd (not_found g)) h

pub text_reads : (l : ℕ) (s : List ℕ) (e k : ℕ) → read_text l s ≡ found e k → value_at l s (skip_space s 0) ≡ found e k
unfolding read_text
text_reads l s e k =
    either (λ z. z ≡ found e k → value_at l s (skip_space s 0) ≡ found e k)
    (eqb (octet_at s (skip_space s 0)) (opening curly) && utf8 s) (λ _. whole s (value_at l s (skip_space s 0)) e k)
    (λ _ g. absurd (not_found g))

pub judged : (l : ℕ) (s : List ℕ) (p : Position) (k at : ℕ) → value_to p k ≡ found_of (read_text l s) → at ≡ skip_space s 0 →
    value_at l s at ≡ found p.at k
judged l s p k at h e = ap (value_at l s) e ∙ text_reads l s p.at k (is_found _ p k h)
