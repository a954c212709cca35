-- `put_named` writes the word that stands at its place.
use Rattle.std.proofs.Common.{◌≡◌, ℕ, ◌+◌, ◌-◌, ◌≤◌, min, List, Bor, length, get_or, ap, subst, sym, arith}
use Rattle.std.proofs.Math.Path.{◌∙◌}
use Rattle.prelude.specs.Buffer.{written}
use Rattle.report.specs.Text.{word, said, ended}
use Rattle.report.proofs.Picking.{picked}
use Rattle.report.proofs.words.put_named.Goals as goal

-- the octets of the word at the place that the code takes
octets : (d : Bor (List ℕ)) (ts : List (Bor (List ℕ))) (n : ℕ) {less i : ℕ} {octets : List ℕ} → 1 ≤ length ts → less ≡ n - 1 →
    i ≡ min less (length ts - 1) → octets ≡ (get_or ts i d).now → octets ≡ word n (said ts)
octets d ts n {less} {i} h m e is = is ∙ picked d n i ts h (omega (arith, m, e))

pub put_word-requires : goal.put_word-requires
put_word-requires c =
    let is = octets _ c.args.words.now c.args.n c.requires.bound c.saturating_sub.ensures c.min-i.ensures c.as_bytes.ensures.value in
    subst (λ (w : List ℕ). c.args.at + length (ended w c.args.end) ≤ length c.args.out.now) (sym is) c.requires.end_in_bounds

pub returns : goal.returns
returns c =
    let is = octets _ c.args.words.now c.args.n c.requires.bound c.saturating_sub.ensures c.min-i.ensures c.as_bytes.ensures.value in
    record {
      value = c.put_word.ensures.value ∙ ap (λ (w : List ℕ). c.args.at + length (ended w c.args.end)) is;
      out_after = c.put_word.ensures.out_after ∙ ap (λ (w : List ℕ). written c.args.at (ended w c.args.end) c.args.out.now) is;
    }
