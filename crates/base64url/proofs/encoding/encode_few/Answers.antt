-- `encode_few` writes the text of less than a block: the local array's front holds the values, of which `characters` makes it.
use Prim.Native.Nat.{ℕ, ◌≤◌}
use mathlib.Core.Path.{◌≡◌, ap, sym, subst, ◌∙◌}
use mathlib.Core.List.{List, ◌++◌, map}
use native.Mathlib.Omega.{arith}
use lib.ListN.{length, take, replicate, length-append}
use lib.Seq.{length-take-le}
use Rattle.prelude.specs.Buffer.{AllBelow}
use Rattle.prelude.proofs.Lists.{all_below}
use Rattle.base64url.specs.Base64url.{character, sextets, encoded}
use Rattle.base64url.proofs.Covering.{front_is}
use Rattle.base64url.proofs.Laws.{encoded_length_lem}
use Rattle.base64url.proofs.Groups.{sextets_length, sextets_below}
use Rattle.base64url.proofs.encoding.encode_few.Goals as goal

-- the output is as long as the values are many
values : (octets out : List ℕ) → length out ≡ length (encoded octets) → length out ≡ length (sextets octets)
values octets out e = omega (arith, e, encoded_length_lem octets, sextets_length octets)

fits : (octets out : List ℕ) → length octets ≤ 48 → length out ≡ length (encoded octets) → length out ≤ 64
fits octets out h e = omega (arith, e, encoded_length_lem octets)

within : (front after : List ℕ) {n : ℕ} → n ≡ length front → n ≤ length (front ++ after)
within front after e = omega (arith, e, length-append front after)

pub slice_bounds-six-end : goal.slice_bounds-six-end
slice_bounds-six-end c = fits c.args.octets.now c.args.out.now c.requires.octets_len_bound c.requires.out_len

pub slice_bounds-split-end : goal.slice_bounds-split-end
slice_bounds-split-end c =
    let out = c.args.out.now in
    let zeros : List ℕ = replicate 64 0 in
    let front : length out ≡ length (take (length out) zeros) =
    sym (length-take-le (length out) zeros (fits c.args.octets.now out c.requires.octets_len_bound c.requires.out_len)) in
    front

pub split-requires : goal.split-requires
split-requires c =
    let octets = c.args.octets.now in
    let out = c.args.out.now in
    let zeros : List ℕ = replicate 64 0 in
    let front : length (take (length out) zeros) ≡ length (sextets octets) =
    length-take-le (length out) zeros (fits octets out c.requires.octets_len_bound c.requires.out_len) ∙ values octets out c.requires.out_len in
    front

pub slice_bounds-six-end-2 : goal.slice_bounds-six-end-2
slice_bounds-six-end-2 c =
    within c.split.new.into _ (values c.args.octets.now c.args.out.now c.requires.out_len ∙ sym (ap length c.split.ensures))

pub slice_bounds-characters-end : goal.slice_bounds-characters-end
slice_bounds-characters-end c =
    let octets = c.args.octets.now in
    let size = values octets c.args.out.now c.requires.out_len in
    size ∙ sym (ap length (front_is (length c.args.out.now) _ c.split.new.into (sextets octets) c.split.ensures size))

pub characters-requires : goal.characters-requires
characters-requires c =
    let octets = c.args.octets.now in
    let out = c.args.out.now in
    let stand = front_is (length out) _ c.split.new.into (sextets octets) c.split.ensures (values octets out c.requires.out_len) in
    record {
      all_below = subst (AllBelow 64) (sym stand) (sextets_below octets (all_below 256 octets (λ k l. omega (arith, c.type_inv.octets k))));
      out_len = values octets out c.requires.out_len ∙ sym (ap length stand);
    }

pub returns : goal.returns
unfolding encoded
returns c =
    let octets = c.args.octets.now in
    c.characters.ensures
    ∙ ap (map character) (front_is (length c.args.out.now) _ c.split.new.into (sextets octets) c.split.ensures (values octets c.args.out.now c.requires.out_len))
