-- `header` writes the name and the text; nothing where there is no text.
use Rattle.std.proofs.Common.{true, refl, List, ℕ, sym, subst, ◌∙◌, ◌∷◌, []}
use Rattle.json_text.specs.Pieces.{member_text}
use Rattle.json_put.specs.Inner.Members.{point, Room, Puts}
use Rattle.json_put.proofs.Members.{header_absent, header_present}
use Rattle.json_put.proofs.Putting.{puts_none, next, ◌▸◌, ended}
use Rattle.json_put.proofs.Parts.{value_parts}
use Rattle.json_put.proofs.write.header.Goals as goal

pub returns-then-is_empty : goal.returns-then-is_empty
returns-then-is_empty g c =
    puts_none g.S.Sink.laws (point c.args.to.now c.args.begun) _
    (header_absent c.args.name.now c.args.text.now (sym c.is_empty.ensures ∙ c.if-is_empty.true))

pub member_name-requires : goal.member_name-requires
member_name-requires g c =
    let there = header_present c.args.name.now c.args.text.now (sym c.is_empty.ensures ∙ c.if-is_empty.false) in
    next
    (value_parts g.S.Sink.laws (point c.args.to.now c.args.begun) c.args.name.now c.args.text.now
    (subst (λ (l : List (List ℕ)). Room g.S.Sink.fits (point c.args.to.now c.args.begun) l) there c.requires))

pub octets-requires : goal.octets-requires
octets-requires g c =
    let there = header_present c.args.name.now c.args.text.now (sym c.is_empty.ensures ∙ c.if-is_empty.false) in
    next
    (value_parts g.S.Sink.laws (point c.args.to.now c.args.begun) c.args.name.now c.args.text.now
    (subst (λ (l : List (List ℕ)). Room g.S.Sink.fits (point c.args.to.now c.args.begun) l) there c.requires) ▸ c.member_name.ensures)

pub returns : goal.returns
returns g c =
    let there = header_present c.args.name.now c.args.text.now (sym c.is_empty.ensures ∙ c.if-is_empty.false) in
    let put : Puts g.S.Sink.gains (point c.args.to.now c.args.begun) (member_text c.args.name.now c.args.text.now ∷ []) (point c.octets.new.self true) = record {
      octets =
          ended
          (value_parts g.S.Sink.laws (point c.args.to.now c.args.begun) c.args.name.now c.args.text.now
          (subst (λ (l : List (List ℕ)). Room g.S.Sink.fits (point c.args.to.now c.args.begun) l) there c.requires) ▸ c.member_name.ensures
          ▸ c.octets.ensures);
      begun = refl;
    } in
    subst (λ (l : List (List ℕ)). Puts g.S.Sink.gains (point c.args.to.now c.args.begun) l (point c.octets.new.self true)) (sym there) put
