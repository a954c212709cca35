-- `component` writes nothing where the component is empty.
use Rattle.std.proofs.Common.{List, ℕ, sym, subst, ◌∙◌}
use Rattle.json_put.specs.Inner.Members.{point, Room, Puts}
use Rattle.json_put.proofs.Members.{component_absent, component_present}
use Rattle.json_put.proofs.Putting.{puts_none}
use Rattle.json_put.proofs.write.component.Goals as goal

pub returns-then-is_empty : goal.returns-then-is_empty
returns-then-is_empty g c =
    puts_none g.S.Sink.laws (point c.args.to.now c.args.begun) _
    (component_absent c.args.name.now c.args.octets.now (sym c.is_empty.ensures ∙ c.if-is_empty.true))

pub encoded-requires : goal.encoded-requires
encoded-requires g c =
    subst (λ (l : List (List ℕ)). Room g.S.Sink.fits (point c.args.to.now c.args.begun) l)
    (component_present c.args.name.now c.args.octets.now (sym c.is_empty.ensures ∙ c.if-is_empty.false)) c.requires

pub returns : goal.returns
returns g c =
    subst (λ (l : List (List ℕ)). Puts g.S.Sink.gains (point c.args.to.now c.args.begun) l (point c.encoded.new.to c.encoded.result))
    (sym (component_present c.args.name.now c.args.octets.now (sym c.is_empty.ensures ∙ c.if-is_empty.false))) c.encoded.ensures
