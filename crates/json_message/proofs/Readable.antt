-- A written message reads exactly where the given texts read within the levels that are left to them where they stand.
use mathlib.Core.Path.{sym, subst}
use mathlib.Core.List.{List, [], ◌∷◌, ◌++◌}
use mathlib.Core.Bool.{Bool, true, false}
use mathlib.Core.Logic.{◌↔◌}
use Prim.Native.Nat.{ℕ, suc, ◌≤◌}
use native.Mathlib.Omega.{arith}
use lib.ListN.{length}
use Rattle.prelude.specs.Buffer.{AllBelow}
use Rattle.prelude.specs.Limits.{levels}
use Rattle.grammar.specs.Bounds.{Every}
use Rattle.grammar.specs.Readings.{Reading}
use Rattle.json_text.proofs.Made.{deepest_field, deepest_element, object_levels, object_reads}
use Rattle.recipients.specs.Table.{RawRecipient}
use Rattle.json_message.specs.JsonText.{RawMessage, json_text}
use Rattle.json_message.specs.WriteOrder.{most_for}
use Rattle.json_message.specs.Handed.{MessageOctets}
use Rattle.json_message.specs.Inner.Judged.{Judged, OwnJudged, shared_levels, own_levels, TextsJudged}
use Rattle.json_message.proofs.Lines.{Line, Within, table_deepest}
use Rattle.json_message.proofs.Tables.{own_lines, own_fields, element_of, EveryOctets, elements_of, recipient_lines}
use Rattle.json_message.proofs.Tables.{protected_line, shared_line, last_lines, top_lines, top_fields, json_text_lem}

-- Flattened is for one recipient.
abbrev pub Counts : Bool → List RawRecipient → Type 0
Counts true rs = Unit {0}
Counts false [] = ⊥
Counts false (r ∷ []) = Unit {0}
Counts false (r ∷ s ∷ rs) = ⊥

pub counted : (general : Bool) (rs : List RawRecipient) → 1 ≤ length rs → length rs ≤ most_for general → Counts general rs
counted true rs some few = tt
counted false [] some few = absurd (omega arith)
counted false (r ∷ []) some few = tt
counted false (r ∷ s ∷ rs) some few = absurd (omega arith)

-- Of one list behind another.

pub every_append : {A : Type 0} (P : A → Type 0) (xs ys : List A) → Every P xs → Every P ys → Every P (xs ++ ys)
every_append P [] ys a b = b
every_append P (x ∷ xs) ys a b = (a.0, every_append P xs ys a.1 b)

pub every_front : {A : Type 0} (P : A → Type 0) (xs ys : List A) → Every P (xs ++ ys) → Every P xs
every_front P [] ys h = tt
every_front P (x ∷ xs) ys h = (h.0, every_front P xs ys h.1)

pub every_back : {A : Type 0} (P : A → Type 0) (xs ys : List A) → Every P (xs ++ ys) → Every P ys
every_back P [] ys h = h
every_back P (x ∷ xs) ys h = every_back P xs ys h.1

-- A table within some levels.
abbrev pub LinesWithin : ℕ → List Line → Type 0
LinesWithin n ls = Every (λ l. Within n l.content) ls

own_within : (n : ℕ) (r : RawRecipient) (o : AllBelow 256 r.key) (j : Judged levels r.header) →
    LinesWithin n (own_lines r o j) ↔ Judged n r.header
unfolding own_lines
own_within n r o j = ((λ h. h.0), (λ h. (h, (tt, tt))))

elements_within : (n : ℕ) (rs : List RawRecipient) (o : EveryOctets rs) (j : OwnJudged levels rs) →
    (deepest_element (elements_of rs o j) ≤ suc n) ↔ OwnJudged n rs
unfolding deepest_element elements_of element_of
elements_within n [] o j = ((λ h. tt), (λ h. omega arith))
elements_within n (r ∷ rs) o j =
    let e = object_levels (own_fields r o.0 j.0) in
    let m = table_deepest n (own_lines r o.0 j.0) in
    let t = own_within n r o.0 j.0 in
    let k = elements_within n rs o.1 j.1 in (
      (λ h. (t.0 (m.0 (omega arith)), k.0 (omega arith))),
      (λ h. let a = m.1 (t.1 h.0) in let b = k.1 h.1 in omega arith),
    )

recipients_within : (general : Bool) (rs : List RawRecipient) (o : EveryOctets rs) (j : OwnJudged levels rs) → Counts general rs →
    LinesWithin shared_levels (recipient_lines general rs o j) ↔ OwnJudged (own_levels general) rs
unfolding recipient_lines
recipients_within true rs o j n =
    let m = elements_within (own_levels true) rs o j in
    ((λ h. m.0 (omega (arith, h.0))), (λ h. let k = m.1 h in (omega arith, tt)))
recipients_within false [] o j n = absurd n
recipients_within false (r ∷ []) o j n =
    let m = own_within shared_levels r o.0 j.0 in
    ((λ h. (m.0 h, tt)), (λ h. m.1 h.0))
recipients_within false (r ∷ s ∷ rs) o j n = absurd n

last_within : (n : ℕ) (c : RawMessage) (o : MessageOctets c) → LinesWithin n (last_lines c o)
unfolding last_lines
last_within n c o = (tt, (tt, (tt, (tt, tt))))

module _ (general : Bool) (c : RawMessage) (o : MessageOctets c) (j : TextsJudged levels levels c)
    (n : Counts general c.recipients) where
  abbrev R : List Line
  R = recipient_lines general c.recipients o.keys j.own

  pub top_deepest : (deepest_field (top_fields general c o j) ≤ shared_levels) ↔ TextsJudged shared_levels (own_levels general) c
  unfolding top_lines protected_line shared_line
  top_deepest =
      let m = table_deepest shared_levels (top_lines general c o j) in
      let r = recipients_within general c.recipients o.keys j.own n in
      let P : Line → Type 0 = λ l. Within shared_levels l.content in (
        (λ k.
            let h = m.0 k in
            record { shared = h.1.0; own = r.0 (every_front P R (last_lines c o) h.1.1) }),
        (λ k. m.1 (tt, (k.shared, every_append P R (last_lines c o) (r.1 k.own) (last_within shared_levels c o)))),
      )

  -- Refusal 7 on the whole, by its pieces.
  pub json_reads : Reading levels (json_text general c) ↔ TextsJudged shared_levels (own_levels general) c
  json_reads =
      let m = object_reads shared_levels (top_fields general c o j) in
      let e = json_text_lem general c o j in (
        (λ r. top_deepest.0 (m.0 (subst (Reading levels) (sym e) r))),
        (λ k. subst (Reading levels) e (m.1 (top_deepest.1 k))),
      )
