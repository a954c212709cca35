-- Both objects from their first members on; there is no window.
use native.Mathlib.Omega.{arith}
use Rattle.grammar.specs.Grammar.{curly}
use Rattle.distinct.proofs.Walks.{members_all, known_all}
use Rattle.pairs.proofs.Spots.{spot_start}
use Rattle.pairs.proofs.start.Goals as goal

pub returns : goal.returns
returns c =
    record {
      all = members_all c.args.s.now c.args.i _ c.inside.ensures;
      going = λ w. record {
        known = known_all curly c.args.s.now c.args.i _ c.inside.ensures c.requires.known_in;
        cursor = record { turns = _; spot = spot_start c.args.t.now c.args.j _ c.inside-2.ensures c.requires.known_in_2 };
        table = λ h. absurd (omega (arith, h));
      };
    }
