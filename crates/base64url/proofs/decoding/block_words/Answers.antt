-- `block_words` writes a word for each eight values.
use Prim.Native.Nat.{ℕ, ◌+◌, ◌*◌}
use mathlib.Core.Path.{◌≡◌, refl, ap, subst, ◌∙◌}
use mathlib.Core.List.{List, [], ◌∷◌, ◌++◌}
use native.Mathlib.Omega.{arith}
use lib.ListN.{drop, drop_of_length-le}
use Rattle.prelude.proofs.Writing.{Writing, begin, put, done}
use Rattle.base64url.specs.Inner.Words.{words_of}
use Rattle.base64url.proofs.Chunks.{Chunked, chunk_part, chunk_length}
use Rattle.base64url.proofs.Covering.{written_whole}
use Rattle.base64url.proofs.Joining.{words_of_length, words_by, words_of_eight}
use Rattle.base64url.proofs.decoding.block_words.Goals as goal

pub loop-g-init : goal.loop-g-init
loop-g-init c = begin 0 (words_of c.args.six.now) c.args.words.now (omega (arith, words_of_length c.args.six.now))

pub loop-g-preserved : goal.loop-g-preserved
loop-g-preserved c =
    let six = c.args.six.now in
    let g = c.loop-g.g in
    let chunks : Chunked 8 six c.as_chunks.result.0.now c.as_chunks.result.1.now = record { front = c.as_chunks.ensures.front; count = c.as_chunks.ensures.front_len; back = c.as_chunks.ensures.back } in
    let word = words_of_eight _ c.from_le_bytes.result c.join.result (chunk_length chunks g c.loop-g-test.true) c.from_le_bytes.ensures c.join.ensures in
    let next : words_of (drop (g * 8) six) ≡ c.join.result ∷ words_of (drop ((g + 1) * 8) six) =
    chunk_part chunks g c.loop-g-test.true words_by ∙ ap (λ (l : List ℕ). l ++ words_of (drop ((g + 1) * 8) six)) word in
    put c.join.result (g + 1) refl
    (subst (λ (l : List ℕ). Writing 0 (words_of six) c.args.words.now l g c.loop-g.words) next c.loop-g.invariant)

pub returns : goal.returns
unfolding words_of
returns c =
    let six = c.args.six.now in
    let none : drop (c.loop-g.g * 8) six ≡ [] = drop_of_length-le six {i = c.loop-g.g * 8} (omega (arith, c.as_chunks.ensures.front_len)) in
    done (subst (λ (l : List ℕ). Writing 0 (words_of six) c.args.words.now (words_of l) c.loop-g.g c.loop-g.words) none c.loop-g.invariant)
    ∙ written_whole (words_of six) c.args.words.now (omega (arith, words_of_length six))
