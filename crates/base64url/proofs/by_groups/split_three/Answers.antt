-- `split_three` gives the values of a whole group.
use mathlib.Core.Path.{◌≡◌, sym}
use mathlib.Core.List.{[], ◌∷◌}
use Prim.Native.Nat.{◌/◌, ◌%◌}
use lib.ListN.{get_or}
use Rattle.base64url.specs.Base64url.{sextets}
use Rattle.base64url.proofs.Groups.{sextets_of_three}
use Rattle.base64url.proofs.by_groups.split_three.Goals as goal

pub returns : goal.returns
returns c =
    let octets = c.args.octets.now in
    let group : sextets octets ≡ (get_or octets 0 0 / 4) ∷ c.second_value.result ∷ c.third_value.result ∷ (get_or octets 2 0 % 64) ∷ [] =
    rw (c.second_value.ensures, c.third_value.ensures) (sextets_of_three octets c.told-octets) in
    sym group
