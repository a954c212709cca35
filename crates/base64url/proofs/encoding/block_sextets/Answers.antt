-- `block_sextets` writes the eight values of each word.
use Prim.Native.Nat.{ℕ, ◌+◌, ◌*◌, ◌-◌}
use mathlib.Core.Path.{◌≡◌, subst, ◌∙◌}
use mathlib.Core.List.{List, []}
use native.Mathlib.Omega.{arith}
use borrow.Author.Rules.{rules}
use lib.ListN.{drop, drop_of_length-le}
use Rattle.prelude.proofs.Writing.{Writing, begin, put_part, done}
use Rattle.base64url.specs.Inner.Words.{eight_octets, spread_all}
use Rattle.base64url.proofs.Covering.{copied, written_whole}
use Rattle.base64url.proofs.Spreading.{spread_all_length, spread_all_next, le_octets}
use Rattle.base64url.proofs.encoding.block_sextets.Goals as goal

pub loop-g-init : goal.loop-g-init
loop-g-init c = begin 0 (spread_all c.args.words.now) c.args.six.now (omega (arith, spread_all_length c.args.words.now))

pub loop-g-preserved : goal.loop-g-preserved
unfolding eight_octets
loop-g-preserved c =
    let words = c.args.words.now in
    let g = c.loop-g.g in
    let word = c.spread.result in
    let parts = spread_all_next words g word (omega arith) c.spread.ensures in
    let octets = c.copy_from_slice.ensures.after ∙ c.to_le_bytes.ensures ∙ le_octets word (search rules) in
    put_part (eight_octets word) (spread_all (drop (g + 1) words)) parts c.loop-g.invariant (omega arith)
    (copied (8 * g) (8 * g + 8 - 8 * g) c.loop-g.six _ (eight_octets word) octets (omega arith))

pub returns : goal.returns
unfolding spread_all
returns c =
    let words = c.args.words.now in
    let none : drop c.loop-g.g words ≡ [] = drop_of_length-le words {i = c.loop-g.g} (omega arith) in
    done (subst (λ (l : List ℕ). Writing 0 (spread_all words) c.args.six.now (spread_all l) (8 * c.loop-g.g) c.loop-g.six) none c.loop-g.invariant)
    ∙ written_whole (spread_all words) c.args.six.now (omega (arith, spread_all_length words))
