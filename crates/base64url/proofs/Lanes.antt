-- What a mask leaves of a number that holds several values, lane by lane.
use mathlib.Core.Path.{◌≡◌, ap, ◌∙◌}
use Prim.Native.Nat.{ℕ, ◌+◌, ◌*◌, ◌%◌, ◌<◌}
use native.Mathlib.Omega.{arith}
use lib.Bits.{bit_and, and_block, and_mask}

-- A mask of six bits in each of four lanes of sixteen, and of twelve in each of two lanes of thirty-two

lane16 : (R M r : ℕ) → r < 65536 → bit_and (R * 65536 + r) (M * 65536 + 63) ≡ bit_and R M * 65536 + r % 64
lane16 R M r h = and_block 16 R M r 63 h (omega arith) ∙ ap (λ (t : ℕ). bit_and R M * 65536 + t) (and_mask r 6)

lane32 : (R M r : ℕ) → r < 4294967296
    → bit_and (R * 4294967296 + r) (M * 4294967296 + 4095) ≡ bit_and R M * 4294967296 + r % 4096
lane32 R M r h = and_block 32 R M r 4095 h (omega arith) ∙ ap (λ (t : ℕ). bit_and R M * 4294967296 + t) (and_mask r 12)

pub sixes : (a b c d : ℕ) → a < 65536 → b < 65536 → c < 65536
    → bit_and (((d * 65536 + c) * 65536 + b) * 65536 + a) 0x003F003F003F003F
    ≡ ((d % 64 * 65536 + c % 64) * 65536 + b % 64) * 65536 + a % 64
sixes a b c d ha hb hc =
    lane16 ((d * 65536 + c) * 65536 + b) 0x003F003F003F a ha
    ∙ ap (λ (t : ℕ). t * 65536 + a % 64) (lane16 (d * 65536 + c) 0x003F003F b hb
    ∙ ap (λ (t : ℕ). t * 65536 + b % 64) (lane16 d 0x003F c hc
    ∙ ap (λ (t : ℕ). t * 65536 + c % 64) (and_mask d 6)))

pub twelves : (a b : ℕ) → a < 4294967296
    → bit_and (b * 4294967296 + a) 0x00000FFF00000FFF ≡ b % 4096 * 4294967296 + a % 4096
twelves a b ha =
    lane32 b 0x00000FFF a ha ∙ ap (λ (t : ℕ). t * 4294967296 + a % 4096) (and_mask b 12)
