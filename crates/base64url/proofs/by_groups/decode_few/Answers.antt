-- `decode_few` writes the octets of less than a group: none, one or two, by the length.
use mathlib.Core.Path.{◌≡◌, sym, ◌∙◌}
use mathlib.Core.List.{[], ◌∷◌}
use native.Mathlib.Omega.{arith}
use lib.ListN.{length-set}
use Rattle.base64url.specs.Base64url.{decoded}
use Rattle.base64url.proofs.Covering.{filled_none, filled_one, filled_two}
use Rattle.base64url.proofs.Groups.{decoded_of_few, decoded_of_two, decoded_of_three}
use Rattle.base64url.proofs.Laws.{decoded_length_lem}
use Rattle.base64url.proofs.by_groups.decode_few.Goals as goal

pub returns-then-n-lt2 : goal.returns-then-n-lt2
returns-then-n-lt2 c =
    let text = c.args.text.now in
    filled_none c.args.out.now (omega (arith, decoded_length_lem text)) ∙ sym (decoded_of_few text c.if-n-lt2.true)

pub bounds-out-0 : goal.bounds-out-0
bounds-out-0 c = omega (arith, decoded_length_lem c.args.text.now)

pub returns-then-n-lt3 : goal.returns-then-n-lt3
returns-then-n-lt3 c =
    let text = c.args.text.now in
    let group : decoded text ≡ c.first_octet.result ∷ [] =
    cc (decoded_of_two text (omega arith), c.first_octet.ensures, c.six_bits-p.ensures, c.six_bits-q.ensures) in
    filled_one c.args.out.now c.first_octet.result (omega (arith, decoded_length_lem text)) ∙ sym group

pub bounds-out-1 : goal.bounds-out-1
bounds-out-1 c = simp length-set (omega (arith, decoded_length_lem c.args.text.now))

pub returns : goal.returns
returns c =
    let text = c.args.text.now in
    let group : decoded text ≡ c.first_octet.result ∷ c.second_octet.result ∷ [] =
    cc (decoded_of_three text (omega arith), c.first_octet.ensures, c.second_octet.ensures, c.six_bits-p.ensures, c.six_bits-q.ensures, c.six_bits-r.ensures) in
    filled_two c.args.out.now c.first_octet.result c.second_octet.result (omega (arith, decoded_length_lem text)) ∙ sym group
