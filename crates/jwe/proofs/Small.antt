-- Every number of the result is below 2 to the 32: a refusal's number is at most 21, and what an accepted message hands
-- out is bounded by its length, which is at most 16777216 where test 2 passed.
use mathlib.Core.Path.{◌≡◌, refl, sym, subst}
use mathlib.Core.Bool.{Bool, true, false, not, ◌||◌, cond}
use mathlib.Core.List.{List, ◌∷◌}
use Prim.Native.Nat.{ℕ, ◌≤◌, ◌<◌}
use native.Mathlib.Omega.{arith}
use lib.ListN.{length, drop}
use lib.Dec.{eqb, ltb}
use borrow.Author.Tests.{eqb-true, ltb-false}
use Rattle.prelude.specs.Buffer.{AllBelow}
use Rattle.prelude.specs.declared.Place.{Place}
use Rattle.grammar.proofs.Endings.{either}
use Rattle.grammar.specs.Reader.{opens_object}
use Rattle.names.specs.Names.{names, sound}
use Rattle.prelude.specs.Refusals.{◌if◌, first}
use Rattle.prelude.specs.Limits.{longest, header_room, list_room, number_limit}
use Rattle.jwe.specs.Compact.{compact_order}
use Rattle.jwe.specs.General.{json_order}
use Rattle.jwe.specs.Judge.{Call, order, refusal, outcome, accepted, refused, result_of}
use Rattle.jwe.specs.Answers.{numbers}
use Rattle.jwe.specs.Answers.{Result}
use Rattle.jwe.proofs.SmallRefusals.{refusal_low}
use Rattle.jwe.proofs.SmallOutcomes.{outcome_bounded, accepted_below}

-- The first number that 32 bits do not hold.
abbrev pub limit : ℕ
limit = number_limit

-- An accepted message, of the permitted length.
pub accepted_small : (message : List ℕ) (recipient : ℕ) → length message ≤ longest →
    AllBelow limit (accepted message (outcome message recipient))
accepted_small message recipient h =
    accepted_below limit (length message) message (outcome message recipient) (omega (arith, h))
    (outcome_bounded message recipient)

pub refused_small : (n : ℕ) → n ≤ 21 → AllBelow limit (refused n)
unfolding refused
refused_small n h =
    let z : 0 < limit = omega arith in (
      omega (arith, h),
      (z, (z, (z, (z, (z, (z, (z, (z, (z, (z, (z, (z, (z, (z, (z, (z, (z, tt))))))))))))))))),
    )

module _ (c : Call) where
  pub accepted_short : refusal c ≡ 0 → length c.message ≤ longest
  unfolding refusal order first
  accepted_short e =
      let lent = ltb c.header_lent header_room || ltb c.list_lent list_room in
      let rest =
      3 if not (sound c.known)
      ∷ cond (opens_object c.message)
      (json_order c.message (names c.known) c.recipient)
      (compact_order c.message (names c.known) c.recipient) in
      let long = ltb longest (length c.message) in
      ltb-false longest (length c.message) (second lent long (first rest) e)
    where
      second : (a b : Bool) (rest : ℕ) → cond a 1 (cond b 2 rest) ≡ 0 → b ≡ false
      second true b rest h = absurd (omega (arith, h))
      second false true rest h = absurd (omega (arith, h))
      second false false rest h = refl

  pub result_small : AllBelow limit (result_of c)
  unfolding result_of
  result_small =
      let n = refusal c in
      either (AllBelow limit) (eqb n 0)
      (λ e. accepted_small c.message c.recipient (accepted_short (eqb-true n 0 e)))
      (λ _. refused_small n (refusal_low c))

-- The fields of a code's result, one law each

-- Both numbers of a place.
abbrev pub SmallPlace : Place → Type 0
SmallPlace q = (q.start < limit) × (q.len < limit)

-- Whose numbers are below 2 to the 32 ..
module _ (r : Result) (h : AllBelow limit (numbers r)) where
  abbrev places : AllBelow limit (drop 4 (numbers r))
  places = h.1.1.1.1

  pub number_small : r.number < limit
  number_small = h.0

  pub form_small : r.form < limit
  form_small = h.1.0

  pub recipients_small : r.recipients < limit
  recipients_small = h.1.1.0

  pub mode_small : r.mode < limit
  mode_small = h.1.1.1.0

  pub protected_small : SmallPlace r.components.protected
  protected_small = (places.0, places.1.0)

  pub key_small : SmallPlace r.components.key
  key_small = (places.1.1.0, places.1.1.1.0)

  pub iv_small : SmallPlace r.components.iv
  iv_small = (places.1.1.1.1.0, places.1.1.1.1.1.0)

  pub aad_small : SmallPlace r.components.aad
  aad_small = (places.1.1.1.1.1.1.0, places.1.1.1.1.1.1.1.0)

  pub ciphertext_small : SmallPlace r.components.ciphertext
  ciphertext_small = (places.1.1.1.1.1.1.1.1.0, places.1.1.1.1.1.1.1.1.1.0)

  pub tag_small : SmallPlace r.components.tag
  tag_small = (places.1.1.1.1.1.1.1.1.1.1.0, places.1.1.1.1.1.1.1.1.1.1.1.0)

  pub header_small : r.header < limit
  header_small = places.1.1.1.1.1.1.1.1.1.1.1.1.0

  pub parameters_small : r.parameters < limit
  parameters_small = places.1.1.1.1.1.1.1.1.1.1.1.1.1.0

-- .. all together, where the numbers are those of the result, or of an accepted message.

abbrev pub SmallFields : Result → Type 0
SmallFields r =
    (r.number < limit)
    × (r.form < limit)
    × (r.recipients < limit)
    × (r.mode < limit)
    × SmallPlace r.components.protected
    × SmallPlace r.components.key
    × SmallPlace r.components.iv
    × SmallPlace r.components.aad
    × SmallPlace r.components.ciphertext
    × SmallPlace r.components.tag
    × (r.header < limit)
    × (r.parameters < limit)

pub fields_small : (r : Result) → AllBelow limit (numbers r) → SmallFields r
fields_small r h = (
  number_small r h,
  form_small r h,
  recipients_small r h,
  mode_small r h,
  protected_small r h,
  key_small r h,
  iv_small r h,
  aad_small r h,
  ciphertext_small r h,
  tag_small r h,
  header_small r h,
  parameters_small r h,
)

pub result_fields : (c : Call) (r : Result) → numbers r ≡ result_of c → SmallFields r
result_fields c r e = fields_small r (subst (AllBelow limit) (sym e) (result_small c))

pub accepted_fields : (message : List ℕ) (recipient : ℕ) (r : Result) → length message ≤ longest →
    numbers r ≡ accepted message (outcome message recipient) → SmallFields r
accepted_fields message recipient r h e =
    fields_small r (subst (AllBelow limit) (sym e) (accepted_small message recipient h))
