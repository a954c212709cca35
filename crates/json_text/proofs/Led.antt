-- Texts with commas between are those written one after the other.
use mathlib.Core.Path.{◌≡◌, refl, sym, ap, ◌∙◌}
use mathlib.Core.List.{List, [], ◌∷◌, ◌++◌, append-nil, append_assoc}
use mathlib.Core.Bool.{Bool, true, false}
use Prim.Native.Nat.{ℕ, ◌+◌}
use native.Mathlib.Omega.{arith}
use lib.ListN.{length, length-append}
use Rattle.grammar.specs.Grammar.{comma, Bracket, opening, closing}
use Rattle.json_text.specs.Pieces.{joined, bracketed}
use Rattle.json_text.specs.Inner.Led.{led_one, led, begun_after, led_size}

joined_led : (ws : List (List ℕ)) → joined ws ≡ led false ws
unfolding joined led
joined_led [] = refl
joined_led (w ∷ []) = sym (append-nil w)
joined_led (w ∷ u ∷ ws) = ap (λ z. w ++ (comma ∷ z)) (joined_led (u ∷ ws))

pub led_append : (begun : Bool) (ws us : List (List ℕ)) → led begun (ws ++ us) ≡ led begun ws ++ led (begun_after begun ws) us
unfolding led
led_append begun [] us = refl
led_append begun (w ∷ ws) us =
    ap (λ z. led_one begun w ++ z) (led_append true ws us ∙ ap (λ b. led true ws ++ led b us) (stays ws))
    ∙ sym (append_assoc (led_one begun w) (led true ws) (led true us))
  where
    stays : (vs : List (List ℕ)) → begun_after true vs ≡ true
    stays [] = refl
    stays (v ∷ vs) = refl

pub begun_append : (begun : Bool) (ws us : List (List ℕ)) → begun_after begun (ws ++ us) ≡ begun_after (begun_after begun ws) us
begun_append begun [] us = refl
begun_append begun (w ∷ ws) [] = refl
begun_append begun (w ∷ ws) (u ∷ us) = refl

-- One text alone.

pub led_one_lem : (begun : Bool) (w : List ℕ) → led begun (w ∷ []) ≡ led_one begun w
unfolding led
led_one_lem begun w = append-nil (led_one begun w)

pub one_apart : (begun : Bool) (w : List ℕ) → led_one begun w ≡ led_one begun [] ++ w
one_apart true w = refl
one_apart false w = refl

pub one_length : (begun : Bool) (w : List ℕ) → length (led_one begun w) ≡ led_size begun (length w)
one_length true w = refl
one_length false w = refl

-- An object or an array, and how long it is.
module _ (b : Bracket) (ws : List (List ℕ)) where
  pub bracketed_led : bracketed b ws ≡ opening b ∷ (led false ws ++ (closing b ∷ []))
  unfolding bracketed
  bracketed_led = ap (λ (l : List ℕ). opening b ∷ (l ++ (closing b ∷ []))) (joined_led ws)

  pub bracketed_length : length (bracketed b ws) ≡ length (led false ws) + 2
  bracketed_length = omega (arith, ap length bracketed_led, length-append (led false ws) (closing b ∷ []))
