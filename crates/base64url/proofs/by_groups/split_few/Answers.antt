-- `split_few` writes the values of less than a group: none, two or three, by the length.
use Prim.Native.Nat.{◌*◌, ◌/◌, ◌%◌}
use mathlib.Core.Path.{◌≡◌, sym, ◌∙◌}
use mathlib.Core.List.{[], ◌∷◌}
use native.Mathlib.Omega.{arith}
use lib.ListN.{get_or, length-set}
use Rattle.base64url.specs.Base64url.{sextets}
use Rattle.base64url.proofs.Covering.{filled_none, filled_two, filled_three}
use Rattle.base64url.proofs.Groups.{sextets_length, sextets_of_none, sextets_of_one, sextets_of_two}
use Rattle.base64url.proofs.by_groups.split_few.Goals as goal

pub returns-then-n-lt1 : goal.returns-then-n-lt1
returns-then-n-lt1 c =
    let octets = c.args.octets.now in
    filled_none c.args.into.now (omega (arith, sextets_length octets)) ∙ sym (sextets_of_none octets (omega arith))

pub bounds-into-0 : goal.bounds-into-0
bounds-into-0 c = omega (arith, sextets_length c.args.octets.now)

pub bounds-into-1 : goal.bounds-into-1
bounds-into-1 c = simp length-set (omega (arith, sextets_length c.args.octets.now))

pub returns-then-n-lt2 : goal.returns-then-n-lt2
returns-then-n-lt2 c =
    let octets = c.args.octets.now in
    let last : c.second_value.result ≡ get_or octets 0 0 % 4 * 16 = omega (arith, c.second_value.ensures) in
    let group : sextets octets ≡ (get_or octets 0 0 / 4) ∷ c.second_value.result ∷ [] = cc (sextets_of_one octets (omega arith), last) in
    filled_two c.args.into.now (get_or octets 0 0 / 4) c.second_value.result (omega (arith, sextets_length octets)) ∙ sym group

pub bounds-into-1-2 : goal.bounds-into-1-2
bounds-into-1-2 c = simp length-set (omega (arith, sextets_length c.args.octets.now))

pub bounds-into-2 : goal.bounds-into-2
bounds-into-2 c = simp length-set (omega (arith, sextets_length c.args.octets.now))

pub returns : goal.returns
returns c =
    let octets = c.args.octets.now in
    let last : c.third_value.result ≡ get_or octets 1 0 % 16 * 4 = omega (arith, c.third_value.ensures) in
    let group : sextets octets ≡ (get_or octets 0 0 / 4) ∷ c.second_value-2.result ∷ c.third_value.result ∷ [] =
    cc (sextets_of_two octets (omega arith), c.second_value-2.ensures, last) in
    filled_three c.args.into.now (get_or octets 0 0 / 4) c.second_value-2.result c.third_value.result (omega (arith, sextets_length octets)) ∙ sym group
