-- `put_all` puts the lines of the whole message, of the keys and of the parameters.
use Rattle.std.proofs.Common.{ap, ap₂, ◌∙◌, ◌++◌, ℕ, min, append_assoc}
use Rattle.differences.specs.Differences.{compared, message_lines, key_lines, recipient_lines, up_to, differences}
use Rattle.differences.proofs.put_all.Goals as goal

pub returns-clause-lines : goal.returns-clause-lines
unfolding differences
returns-clause-lines c =
    let l = compared c.args.left.now.message.now in
    let r = compared c.args.right.now.message.now in
    rw (c.put_parameters.ensures.lines, c.put_keys.ensures.lines, c.put_message.ensures.lines)
    (simp append_assoc (ap (λ (m : ℕ). c.args.lines.now ++ (message_lines l r ++ (up_to (key_lines l r) m ++ up_to (recipient_lines l r) m)))
    (c.min-both.ensures ∙ ap₂ min c.args.left.now.judged.recipients c.args.right.now.judged.recipients)))
