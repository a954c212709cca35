-- The message: its length, and what is still to be written of it after each component.
use mathlib.Core.Path.{◌≡◌, refl, sym}
use mathlib.Core.List.{List, [], ◌∷◌, ◌++◌, append-nil}
use Prim.Native.Nat.{ℕ, ◌+◌, ◌≤◌, ◌<◌, min}
use native.Mathlib.Omega.{arith}
use lib.ListN.{length, length-append}
use Rattle.base64url.specs.Base64url.{encoded}
use Rattle.prelude.specs.Ascii.{full_stop}
use Rattle.jwe_write.specs.Write.{Raw, compact_text}

-- A component behind a full stop.
abbrev pub next : List ℕ → List ℕ
next octets = full_stop ∷ encoded octets

-- The message from a component on.

abbrev pub from_ciphertext : Raw → List ℕ
from_ciphertext c = next c.ciphertext ++ next c.tag

abbrev pub from_iv : Raw → List ℕ
from_iv c = next c.iv ++ from_ciphertext c

abbrev pub from_key_lem : Raw → List ℕ
from_key_lem c = next c.key ++ from_iv c

pub message_is : (c : Raw) → compact_text c ≡ encoded c.header ++ from_key_lem c
unfolding compact_text
message_is c = refl

pub tag_is : (c : Raw) → next c.tag ≡ next c.tag ++ []
tag_is c = sym (append-nil (next c.tag))

-- How long it is

module _ (c : Raw) where
  abbrev lengths : ℕ
  lengths =
      length (encoded c.header) + length (encoded c.key) + length (encoded c.iv)
      + length (encoded c.ciphertext) + length (encoded c.tag) + 4

  length_is : length (compact_text c) ≡ lengths
  unfolding compact_text
  length_is = simp length-append (omega arith)

  -- by the lengths of the components, none told apart above a limit
  module _ (h k i t g n : ℕ)
      (header : h ≡ min (length (encoded c.header)) 16777217) (key : k ≡ min (length (encoded c.key)) 16777217)
      (iv : i ≡ min (length (encoded c.iv)) 16777217) (ciphertext : t ≡ min (length (encoded c.ciphertext)) 16777217)
      (tag : g ≡ min (length (encoded c.tag)) 16777217) (sum : n ≡ h + k + i + t + g + 4) where
    pub length_over : 16777217 < n → 16777217 ≡ min (length (compact_text c)) 16777217
    length_over l = omega (arith, length_is)

    pub length_within : n ≤ 16777217 → n ≡ min (length (compact_text c)) 16777217
    length_within l = omega (arith, length_is)
