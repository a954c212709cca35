-- The order decides what has to be met: no test refuses exactly where what is lent is enough and the message keeps
-- the rules of one of the forms and has the recipient.
use mathlib.Core.Path.{◌≡◌, refl, ap, sym, subst, ◌∙◌}
use mathlib.Core.Bool.{Bool, true, false, not, ◌||◌, cond, true≢false}
use mathlib.Core.Logic.{◌↔◌}
use mathlib.Core.List.{List, [], ◌∷◌}
use Prim.Native.Nat.{ℕ, ◌≤◌, ◌<◌}
use lib.ListN.{length}
use lib.Dec.{ltb}
use borrow.Author.Tests.{ltb-false, le-ltb}
use Rattle.names.specs.Names.{names, sound}
use Rattle.names.proofs.Laws.{sound_exactly, names_of_lem}
use Rattle.grammar.specs.Reader.{opens_object}
use Rattle.grammar.proofs.Parse.{true→T}
use Rattle.grammar.proofs.Scan.{T→true}
use Rattle.prelude.specs.Any.{any}
use Rattle.prelude.specs.Refusals.{Test, ◌if◌, first}
use Rattle.jwe.specs.Compact.{compact_order}
use Rattle.jwe.specs.General.{json_order}
use Rattle.jwe.specs.Judge.{Call, order, refusal}
use Rattle.meets.specs.Meets.{Message, compact, json, count, Known, Meets}
use Rattle.meets.proofs.Deciding.{FalseWhere, not_where, neither, first_none}
use Rattle.meets.proofs.InOrder.{first_append}
use Rattle.meets.proofs.CompactDecided.{compact_decided}
use Rattle.meets.proofs.FormsApart.{forms_apart}
use Rattle.meets.proofs.JsonDecided.{json_decided}

-- 3: the list of known names.

pub list_decided : (known : List ℕ) → (sound known ≡ true) ↔ Known known
list_decided known =
    let t = sound_exactly known in (
      (λ e.
          let w = t.0 (true→T (sound known) e) in
          record { names = w.0; spelled = w.3; few = w.1; limited = w.2 }),
      (λ k. T→true (sound known) (t.1 (k.names, k.few, k.limited, k.spelled))),
    )

-- Its names are those that are read of it.
pub list_names : (known : List ℕ) (k : Known known) → names known ≡ k.names
list_names known k = ap names (sym k.spelled) ∙ names_of_lem k.names

-- 1 and 2: room and size.

at_most_decided : (m n : ℕ) → FalseWhere (ltb m n) (n ≤ m)
at_most_decided m n = (ltb-false m n, le-ltb m n)

-- The forms

-- A message in one of them, with the recipient.
abbrev Asked : List (List ℕ) → List ℕ → ℕ → Type 0
Asked known message recipient = (f : Message known message) × (recipient < count f)

-- The refusals of the form that it opens.
abbrev form_order : List ℕ → ℕ → Bool → List (List ℕ) → List Test
form_order message recipient b known = cond b (json_order message known recipient) (compact_order message known recipient)

module _ (known : List (List ℕ)) (message : List ℕ) (recipient : ℕ) where
  form_decided : (first (form_order message recipient (opens_object message) known) ≡ 0) ↔ Asked known message recipient
  form_decided = cases (opens_object message) refl
    where
      as_json : opens_object message ≡ true → Asked known message recipient →
          first (json_order message known recipient) ≡ 0
      as_json e (compact c, r) = absurd (true≢false (sym e ∙ (forms_apart known message).0 c))
      as_json e (json j, r) = (json_decided known message recipient).1 (j, r)

      as_compact : opens_object message ≡ false → Asked known message recipient →
          first (compact_order message known recipient) ≡ 0
      as_compact e (compact c, r) = (compact_decided known message recipient).1 (c, r)
      as_compact e (json j, r) = absurd (true≢false (sym ((forms_apart known message).1 j.reading) ∙ e))

      cases : (b : Bool) → opens_object message ≡ b →
          (first (form_order message recipient b known) ≡ 0) ↔ Asked known message recipient
      cases true e = (
        (λ f. let w = (json_decided known message recipient).0 f in (json w.0, w.1)),
        as_json e,
      )
      cases false e = (
        (λ f. let w = (compact_decided known message recipient).0 f in (compact w.0, w.1)),
        as_compact e,
      )

-- All refusals

-- 1 to 3, on what is lent.
module _ (c : Call) where
  abbrev lent_order : List Test
  lent_order =
      1 if (ltb c.header_lent 4096 || ltb c.list_lent 576)
      ∷ 2 if ltb 16777216 (length c.message)
      ∷ 3 if not (sound c.known)
      ∷ []

  lent_decided : (first lent_order ≡ 0)
      ↔ (((4096 ≤ c.header_lent) × (576 ≤ c.list_lent)) × (length c.message ≤ 16777216) × Known c.known)
  unfolding any
  lent_decided =
      let t = first_none lent_order refl in
      let room = neither (ltb c.header_lent 4096) (ltb c.list_lent 576) (at_most_decided c.header_lent 4096)
      (at_most_decided c.list_lent 576) in
      let size = at_most_decided 16777216 (length c.message) in
      let list = not_where (sound c.known) (list_decided c.known) in (
        (λ e. let h = t.0 e in (room.0 h.0, size.0 h.1.0, list.0 h.1.1.0)),
        (λ w. t.1 (room.1 w.0, (size.1 w.1, (list.1 w.2, tt)))),
      )

  names_decided : (k : Known c.known) →
      (first (form_order c.message c.recipient (opens_object c.message) (names c.known)) ≡ 0)
      ↔ Asked k.names c.message c.recipient
  names_decided k =
      subst (λ (ns : List (List ℕ)).
      (first (form_order c.message c.recipient (opens_object c.message) ns) ≡ 0)
      ↔ Asked k.names c.message c.recipient)
      (sym (list_names c.known k)) (form_decided k.names c.message c.recipient)

  pub accepted_exactly : (refusal c ≡ 0) ↔ Meets c
  unfolding refusal order any
  accepted_exactly =
      let lent = lent_decided in
      let t = first_append lent_order
      (form_order c.message c.recipient (opens_object c.message) (names c.known)) refl in (
        (λ e.
            let h = t.0 e in
            let l = lent.0 h.0 in
            let w = (names_decided l.2).0 h.1 in
            record { room = l.0; size = l.1; list = l.2; form = w.0; asked = w.1 }),
        (λ m. t.1 (lent.1 (m.room, m.size, m.list), (names_decided m.list).1 (m.form, m.asked))),
      )
