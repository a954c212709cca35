-- `put_words` writes a block's octets. Each word but the first goes over the two octets that the one before wrote too many
-- (`Covering`), and the last is exact.
use Prim.Native.Nat.{ℕ, ◌+◌, ◌*◌, ◌-◌, ◌≤◌, ◌<◌}
use mathlib.Core.Path.{◌≡◌, ap, sym, ◌∙◌}
use mathlib.Core.List.{List, [], ◌++◌}
use native.Mathlib.Omega.{arith}
use borrow.Author.Rules.{rules}
use lib.ListN.{length, take, drop, get_or, length-drop, length-take, drop_of_length-le}
use Rattle.std.proofs.lemmas.List.{get_or-take}
use Rattle.prelude.specs.Buffer.{written}
use Rattle.base64url.specs.Inner.Words.{six_octets, spill_of, octets_of}
use Rattle.base64url.proofs.Covering.{cover, cover_part, covered, copied, written_whole}
use Rattle.base64url.proofs.Joining.{be_octets, octets_of_length, octets_of_next}
use Rattle.base64url.proofs.decoding.put_words.Goals as goal

-- the word of a turn and those after it
turn : (words : List ℕ) (g : ℕ) → g < 15 → 15 < length words
    → octets_of (drop g words) ≡ six_octets (get_or (take 15 words) g 0) ++ octets_of (drop (g + 1) words)
turn words g h l =
    octets_of_next words g (omega arith)
    ∙ ap (λ (w : ℕ). six_octets w ++ octets_of (drop (g + 1) words)) (sym (get_or-take 15 words g 0 h))

-- the last one
last : (words : List ℕ) (g : ℕ) → g ≡ 15 → length words ≡ 16 → octets_of (drop g words) ≡ six_octets (get_or words 15 0) ++ []
unfolding octets_of
last words g e l =
    ap (λ (n : ℕ). octets_of (drop n words)) e ∙ octets_of_next words 15 (omega arith)
    ∙ ap (λ (r : List ℕ). six_octets (get_or words 15 0) ++ octets_of r) (drop_of_length-le words {i = 16} (omega arith))

pub loop-g-init : goal.loop-g-init
loop-g-init c = cover 0 (octets_of c.args.words.now) c.args.out.now (omega (arith, octets_of_length c.args.words.now))

pub loop-g-preserved : goal.loop-g-preserved
unfolding six_octets
loop-g-preserved c =
    let words = c.args.words.now in
    let g = c.loop-g.g in
    let w : ℕ = get_or (take 15 words) g 0 in
    let sooner : g < 15 = omega (arith, length-take 15 words) in
    let later = octets_of (drop (g + 1) words) in
    let little : 2 ≤ length later = omega (arith, octets_of_length (drop (g + 1) words), length-drop (g + 1) words) in
    let octets = c.copy_from_slice.ensures.after ∙ c.to_be_bytes.ensures ∙ be_octets w (search rules) in
    cover_part (six_octets w) (spill_of w) later (turn words g sooner (omega arith)) little c.loop-g.invariant (omega arith)
    (copied (6 * g) (6 * g + 8 - 6 * g) c.loop-g.out _ (six_octets w ++ spill_of w) octets (omega arith))

pub returns : goal.returns
unfolding six_octets
returns c =
    let words = c.args.words.now in
    let g = c.loop-g.g in
    let out = c.loop-g.out in
    let w : ℕ = get_or words 15 0 in
    let ended : g ≡ 15 = omega (arith, length-take 15 words) in
    let octets = c.copy_from_slice-2.ensures.after ∙ ap (take 6) (c.to_be_bytes-last.ensures ∙ be_octets w (search rules)) in
    let here : 90 ≡ 6 * g = omega arith in
    let stored = copied 90 (length out - 90) out _ (six_octets w) octets (omega (arith, c.loop-g.invariant.same))
    ∙ ap (λ (k : ℕ). written k (six_octets w) out) here in
    (covered (cover_part (six_octets w) [] [] (last words g ended (omega arith)) (omega arith) c.loop-g.invariant {k = 96} (omega arith) stored)).1
    ∙ written_whole (octets_of words) c.args.out.now (omega (arith, octets_of_length words))
