-- Positions in an object: from its first member on, from one to the next, and that a member can be read at each, since
-- an object has fewer members than its text has octets.
use mathlib.Core.Path.{◌≡◌, ap, sym, ◌∙◌}
use mathlib.Core.Bool.{true}
use mathlib.Core.List.{List, [], ◌∷◌, ◌++◌, append_assoc}
use Prim.Native.Nat.{ℕ, ◌-◌, ◌<◌}
use native.Mathlib.Omega.{arith}
use lib.ListN.{length, length-append}
use Rattle.grammar.specs.Grammar.{curly}
use Rattle.grammar.specs.Places.{Member}
use Rattle.grammar.specs.Reader.{entry_at, value_at, members_at}
use Rattle.json_read.specs.Members.{first_in, row_here, member_of}
use Rattle.json_read.specs.Inner.Known.{KnownEntry, KnownIn}
use Rattle.json_read.specs.declared.Position.{Position}
use Rattle.json_read.specs.declared.member.Row.{Row}
use Rattle.distinct.specs.Names.{depth, same_name}
use Rattle.distinct.specs.Inner.Walking.{row_member, rows_from}
use Rattle.distinct.proofs.Walks.{members_all, known_all, row_more, known_more, entry_known}
use Rattle.pairs.specs.Inner.Walks.{SpotAt, Partner}

pub spot_start : (t : List ℕ) (j q : ℕ) → q ≡ first_in t j → KnownIn curly depth t j → SpotAt t j (length t) q
spot_start t j q e k = record {
  before = [];
  rows = sym (members_all t j q e);
  known = known_all curly t j q e k;
  whole = omega arith;
}

module _ (t : List ℕ) (j turns q : ℕ) (c : SpotAt t j turns q) where
  pub spot_some : length (members_at depth t j) < length t → 0 < turns
  spot_some h =
      let n = ap length c.rows ∙ length-append c.before (rows_from curly t turns q) in
      omega (arith, n, h, c.whole)

  module _ (h : 0 < turns) where
    pub spot_known : KnownEntry curly depth t q
    spot_known = entry_known curly t turns q h c.known

    module _ (row : Row) (next : Position) (e : row_here row next ≡ member_of t (entry_at (value_at depth t) curly t q)) where
      spot_among : members_at depth t j ≡ c.before ++ (row_member row ∷ rows_from curly t (turns - 1) next.at)
      spot_among = c.rows ∙ ap (λ r. c.before ++ r) (row_more curly t turns q h row next e)

      pub spot_next : SpotAt t j (turns - 1) next.at
      spot_next = record {
        before = c.before ++ (row_member row ∷ []);
        rows = spot_among
            ∙ sym (append_assoc c.before (row_member row ∷ []) (rows_from curly t (turns - 1) next.at));
        known = known_more curly t turns q h row next e c.known;
        whole =
            let n = length-append c.before (row_member row ∷ []) in
            omega (arith, n, h, c.whole);
      }

      pub spot_partner : (s : List ℕ) (m : Member) → same_name s t m (row_member row) ≡ true →
          Partner s t j m row next.at
      spot_partner s m g = record {
        said = g;
        before = c.before;
        behind = rows_from curly t (turns - 1) next.at;
        among = spot_among;
        on = record { turns = turns - 1; spot = spot_next };
      }
