-- The number that is given is the one that the table says: its rule is the first in document 01's order that is broken.
use mathlib.Core.Path.{◌≡◌, refl, sym, subst}
use mathlib.Core.Bool.{Bool, true, false, cond}
use mathlib.Core.Logic.Iff
use mathlib.Core.Logic.{◌↔◌}
use mathlib.Core.List.{List}
use Prim.Native.Nat.{ℕ}
use lib.ListN.{length}
use lib.Dec.{ltb}
use borrow.Author.Tests.{ltb-false, le-ltb}
use Rattle.names.specs.Names.{sound}
use Rattle.grammar.specs.Reader.{opens_object}
use Rattle.prelude.specs.Refusals.{first}
use Rattle.jwe.specs.Compact.{compact_order}
use Rattle.jwe.specs.General.{json_order}
use Rattle.jwe.specs.Judge.{Call, order, refusal}
use Rattle.meets.specs.Meets.{Meets}
use Rattle.meets.proofs.Saying.{refuted}
use Rattle.meets.proofs.Deciding.{not_where, neither}
use Rattle.meets.proofs.Accepted.{list_decided, list_names, accepted_exactly}
use Rattle.refusals.specs.Table.{fork, Refuses}
use Rattle.meets.specs.Meets.{OpensCurly}
use Rattle.refusals.specs.Numbers.{compact_table, json_table, numbers_table}
use Rattle.refusals.proofs.Steps.{step, where_so, where_not, exactly}
use Rattle.refusals.proofs.CompactRefuses.{compact_refuses}
use Rattle.refusals.proofs.JsonRefuses.{json_refuses}
use Rattle.meets.proofs.FormTold.{form_told}

-- The form that the message opens.
form_refuses : (known : List (List ℕ)) (message : List ℕ) (recipient : ℕ) →
    Refuses (fork (OpensCurly message) (json_table known message recipient) (compact_table known message recipient))
    (first (cond (opens_object message) (json_order message known recipient) (compact_order message known recipient)))
form_refuses known message recipient = cases (opens_object message) refl
  where
    cases : (b : Bool) → opens_object message ≡ b →
        Refuses (fork (OpensCurly message) (json_table known message recipient) (compact_table known message recipient))
        (first (cond b (json_order message known recipient) (compact_order message known recipient)))
    cases true e = where_so _ _ _ ((form_told message).0 e) (json_refuses known message recipient)
    cases false e =
        where_not _ _ _ ((refuted (opens_object message) (form_told message)).0 e)
        (compact_refuses known message recipient)

module _ (c : Call) where
  refuses : Refuses (numbers_table c) (refusal c)
  unfolding numbers_table refusal order
  refuses =
      let message = c.message in
      let recipient = c.recipient in
      step 1 _ _ _
      (neither (ltb c.header_lent 4096) (ltb c.list_lent 576)
      (ltb-false c.header_lent 4096, le-ltb c.header_lent 4096)
      (ltb-false c.list_lent 576, le-ltb c.list_lent 576)) λ room.
      step 2 _ _ _ (ltb-false 16777216 (length message), le-ltb 16777216 (length message)) λ size.
      step 3 _ _ _ (not_where (sound c.known) (list_decided c.known)) λ k.
      subst (λ (ns : List (List ℕ)).
      Refuses (fork (OpensCurly message) (json_table k.names message recipient)
      (compact_table k.names message recipient))
      (first (cond (opens_object message) (json_order message ns recipient) (compact_order message ns recipient))))
      (sym (list_names c.known k)) (form_refuses k.names message recipient)

  -- A number is given exactly where the table says it; 0 is none.
  pub refused_exactly : (k : ℕ) → (refusal c ≡ k) ↔ Refuses (numbers_table c) k
  refused_exactly = exactly (numbers_table c) (refusal c) refuses

  -- No rule is broken exactly where all is met.
  pub none_broken : Refuses (numbers_table c) 0 ↔ Meets c
  none_broken = Iff.trans (Iff.symm (refused_exactly 0)) (accepted_exactly c)
