-- A member can be read at the position; if its name says the same, it is a partner.
use mathlib.Core.Path.{refl, sym, ◌∙◌}
use Rattle.pairs.proofs.Spots.{spot_some, spot_known, spot_partner}
use Rattle.pairs.proofs.near.Goals as goal

pub member-requires : goal.member-requires
member-requires c =
    let at = c.requires.spot in
    spot_known _ c.args.at at.turns _ at.spot (spot_some _ c.args.at at.turns _ at.spot c.requires.at_in_bounds)

pub returns-in_default : goal.returns-in_default
returns-in_default c = tt

pub returns-then-same_name : goal.returns-then-same_name
returns-then-same_name c =
    let at = c.requires.spot in (
      spot_partner c.args.t.now c.args.at at.turns c.args.q.at at.spot
          (spot_some _ c.args.at at.turns _ at.spot c.requires.at_in_bounds)
          c.in-Some.beside.row c.in-Some.beside.next c.in-Some.ensures c.args.s.now _
          (sym c.same_name.ensures ∙ c.if-same_name.true),
      refl,
    )

pub returns : goal.returns
returns c = tt
