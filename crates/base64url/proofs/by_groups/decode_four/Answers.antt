-- `decode_four` gives the octets of a whole group.
use mathlib.Core.Path.{◌≡◌, sym}
use mathlib.Core.List.{[], ◌∷◌}
use Rattle.base64url.specs.Base64url.{decoded}
use Rattle.base64url.proofs.Groups.{decoded_of_four}
use Rattle.base64url.proofs.by_groups.decode_four.Goals as goal

pub returns : goal.returns
returns c =
    let group : decoded c.args.text.now ≡ c.first_octet.result ∷ c.second_octet.result ∷ c.third_octet.result ∷ [] =
    rw (c.first_octet.ensures, c.second_octet.ensures, c.third_octet.ensures, c.six_bits-p.ensures, c.six_bits-q.ensures, c.six_bits-r.ensures, c.six_bits-s.ensures)
    (decoded_of_four c.args.text.now c.told-text) in
    sym group
