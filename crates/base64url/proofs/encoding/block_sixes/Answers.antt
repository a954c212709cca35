-- `block_sixes` writes a word for each six octets.
use Prim.Native.Nat.{ℕ, ◌+◌, ◌*◌}
use mathlib.Core.Path.{◌≡◌, refl, ap, subst, ◌∙◌}
use mathlib.Core.List.{List, [], ◌∷◌, ◌++◌}
use native.Mathlib.Omega.{arith}
use lib.ListN.{drop, drop_of_length-le}
use Rattle.prelude.proofs.Writing.{Writing, begin, put, done}
use Rattle.base64url.specs.Inner.Words.{sixes_of}
use Rattle.base64url.proofs.Chunks.{Chunked, chunk_part, chunk_length}
use Rattle.base64url.proofs.Covering.{written_whole}
use Rattle.base64url.proofs.Spreading.{sixes_of_length, sixes_by, sixes_of_six}
use Rattle.base64url.proofs.encoding.block_sixes.Goals as goal

pub loop-g-init : goal.loop-g-init
loop-g-init c = begin 0 (sixes_of c.args.octets.now) c.args.words.now (omega (arith, sixes_of_length c.args.octets.now))

pub loop-g-preserved : goal.loop-g-preserved
loop-g-preserved c =
    let octets = c.args.octets.now in
    let g = c.loop-g.g in
    let w = c.from_be_bytes.result in
    let e = c.from_be_bytes.ensures in
    let chunks : Chunked 6 octets c.as_chunks.result.0.now c.as_chunks.result.1.now = record { front = c.as_chunks.ensures.front; count = c.as_chunks.ensures.front_len; back = c.as_chunks.ensures.back } in
    let word = sixes_of_six _ w (chunk_length chunks g c.loop-g-test.true) (omega (arith, e)) in
    let next : sixes_of (drop (g * 6) octets) ≡ w ∷ sixes_of (drop ((g + 1) * 6) octets) =
    chunk_part chunks g c.loop-g-test.true sixes_by ∙ ap (λ (l : List ℕ). l ++ sixes_of (drop ((g + 1) * 6) octets)) word in
    put w (g + 1) refl (subst (λ (l : List ℕ). Writing 0 (sixes_of octets) c.args.words.now l g c.loop-g.words) next c.loop-g.invariant)

pub returns : goal.returns
unfolding sixes_of
returns c =
    let octets = c.args.octets.now in
    let none : drop (c.loop-g.g * 6) octets ≡ [] = drop_of_length-le octets {i = c.loop-g.g * 6} (omega (arith, c.as_chunks.ensures.front_len)) in
    done (subst (λ (l : List ℕ). Writing 0 (sixes_of octets) c.args.words.now (sixes_of l) c.loop-g.g c.loop-g.words) none c.loop-g.invariant)
    ∙ written_whole (sixes_of octets) c.args.words.now (omega (arith, sixes_of_length octets))
