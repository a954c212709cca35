-- What the writer is given is octets, since its slices are of octets; so are the keys in the table of recipients.
use mathlib.Core.Bool.{Bool, true, false, cond}
use mathlib.Core.List.{List, [], ◌∷◌}
use Prim.Native.Nat.{ℕ, zero, suc, ◌≤◌}
use native.Mathlib.Omega.{arith}
use lib.ListN.{take, drop}
use Rattle.prelude.specs.Buffer.{AllBelow}
use Rattle.prelude.specs.Limits.{longest}
use Rattle.prelude.proofs.Lists.{below_part}
use Rattle.parts.specs.Parts.{part, fits}
use Rattle.grammar.specs.Bounds.{Every}
use Rattle.recipients.specs.Table.{RawRecipient}
use Rattle.recipients.specs.Parsed.{recipient_at, recipients_from, recipients_in}
use Rattle.json_message.proofs.Lengths.{OwnWithin}
use Rattle.json_judge.specs.Inner.Asked.{OwnShort}

part_below : (t : List ℕ) (start size : ℕ) → AllBelow 256 t → AllBelow 256 (part t start size)
unfolding part
part_below t start size h = cases (fits t start size)
  where
    cases : (b : Bool) → AllBelow 256 (cond b (take size (drop start t)) [])
    cases true = below_part 256 t start size h
    cases false = tt

keys_from : (t : List ℕ) → AllBelow 256 t → (n i : ℕ) → Every (λ r. AllBelow 256 r.key) (recipients_from t n i)
unfolding recipients_from recipient_at
keys_from t h zero i = tt
keys_from t h (suc n) i = (part_below t _ _ h, keys_from t h n (suc i))

pub keys_below : (t : List ℕ) → AllBelow 256 t → Every (λ r. AllBelow 256 r.key) (recipients_in t)
unfolding recipients_in
keys_below t h = keys_from t h _ 0

-- Own texts that are no longer than a message that is not too long.
pub own_short : (rs : List RawRecipient) (n : ℕ) → n ≤ longest → OwnWithin n rs → OwnShort rs
own_short [] n h w = tt
own_short (r ∷ rs) n h w = (omega (arith, h, w.0), own_short rs n h w.1)
