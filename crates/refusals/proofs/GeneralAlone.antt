-- 21 is given to general messages alone: those that read as JSON and have a member `recipients` at the top level (document
-- 01). A rule of another number is not the one that is broken, so the rules after it say 21. The compact form has no rule of
-- that number, and the flattened form has one recipient, of which there are no two that could differ.
use mathlib.Core.Path.{◌≡◌, refl, subst}
use mathlib.Core.Bool.{false}
use mathlib.Core.Logic.{inl, inr}
use mathlib.Core.List.{List, [], ◌∷◌}
use Prim.Native.Nat.{ℕ, ◌≤◌}
use native.Mathlib.Omega.{arith}
use lib.ListN.{length}
use lib.Dec.{eqb}
use borrow.Author.Tests.{eqb-false}
use Rattle.prelude.specs.Ascii.{ascii}
use Rattle.prelude.specs.Call.{Call}
use Rattle.prelude.specs.Limits.{levels, most_recipients}
use Rattle.grammar.specs.Strings.{HasOctets}
use Rattle.grammar.specs.Bounds.{Every}
use Rattle.grammar.specs.Readings.{Reading}
use Rattle.jwe.specs.Judge.{refusal}
use Rattle.meets.specs.Members.{Member, members_of}
use Rattle.meets.specs.Rules.{Headers, Present}
use Rattle.meets.specs.Meets.{RecipientsIn, OneContent}
use Rattle.meets.proofs.Deciding.{some_map}
use Rattle.refusals.specs.Table.{Table, pass, rule, given, fork, Refuses}
use Rattle.refusals.specs.Numbers.{Key, object_table, recipient_table, compact_table, elements_table, owns_table}
use Rattle.refusals.specs.Numbers.{recipients_table, headers_table, json_table, numbers_table}
use Rattle.refusals.proofs.JsonRefuses.{spelled_table}
use Rattle.refusals.proofs.Refused.{refused_exactly}

-- The rules of a JSON message from 11 on, by its recipients.
abbrev recipients_left : List (List ℕ) → (message : List ℕ) → ℕ → Reading levels message → List (List Member) → Table
recipients_left known message recipient r rs =
    rule 11 (length rs ≤ most_recipients) λ few. elements_table rs (spelled_table known message recipient r rs)

-- One recipient has one content algorithm.
no_two : (protected shared own : List Member) → OneContent protected shared (own ∷ [])
no_two protected shared own = (tt, tt)

-- What follows where a table says 21, from what follows where the rules after its first one do.
module _ {C : Type 0} where
  -- The first one has another number, so that it is kept ..
  other : {P : Type 0} (n : ℕ) (rest : P → Table) → eqb 21 n ≡ false → ((p : P) → Refuses (rest p) 21 → C) →
      Refuses (rule n P rest) 21 → C
  unfolding Refuses
  other n rest d f (inl a) = absurd (eqb-false 21 n d a.1)
  other n rest d f (inr a) = f a.0 (a.1 a.0)

  -- .. or is kept all the same.
  kept : {P : Type 0} (n : ℕ) (rest : P → Table) → P → ((p : P) → Refuses (rest p) 21 → C) →
      Refuses (rule n P rest) 21 → C
  unfolding Refuses
  kept n rest p f (inl a) = absurd (a.0 p)
  kept n rest p f (inr a) = f p (a.1 p)

  there : {P : Type 0} (rest : P → Table) → ((p : P) → Refuses (rest p) 21 → C) → Refuses (given P rest) 21 → C
  unfolding Refuses
  there rest f r = f r.0 (r.1 r.0)

  either : (P : Type 0) (t u : Table) → (Refuses t 21 → C) → (Refuses u 21 → C) → Refuses (fork P t u) 21 → C
  unfolding Refuses
  either P t u f g (inl a) = f a.1
  either P t u f g (inr a) = g a.1

  none_left : Refuses pass 21 → C
  unfolding Refuses
  none_left e = absurd (omega arith)

  -- The rules on an object and those of a recipient have other numbers.

  past_object : (ms : List Member) (t : Table) → (Refuses t 21 → C) → Refuses (object_table ms t) 21 → C
  past_object ms t f = other 8 _ refl λ few. other 9 _ refl λ once. f

  past_recipient : (known : List (List ℕ)) (h : Headers) (key : List ℕ) (t : Table) → (Refuses t 21 → C) →
      Refuses (recipient_table known h key t) 21 → C
  unfolding recipient_table
  past_recipient known h key t f =
      other 12 _ refl λ a.
      other 13 _ refl λ b.
      other 14 _ refl λ c.
      other 15 _ refl λ d.
      other 16 _ refl λ e.
      other 17 _ refl λ g.
      other 18 _ refl λ i.
      f

  -- Compact
  compact_never : (known : List (List ℕ)) (message : List ℕ) (recipient : ℕ) →
      Refuses (compact_table known message recipient) 21 → C
  unfolding compact_table
  compact_never known message recipient =
      other 4 _ refl λ f.
      other 5 _ refl λ e.
      other 6 _ refl λ short.
      other 7 _ refl λ r.
      past_object (members_of r.text.value) _
      (past_recipient known _ e.1.0 _ (other 19 _ refl λ asked. none_left))

  -- One recipient
  one_never : (known : List (List ℕ)) (ps ms : List Member) (k : Every Key (ms ∷ [])) (recipient : ℕ) (hs : List Member) →
      Refuses (headers_table known ps (ms ∷ []) k recipient hs) 21 → C
  unfolding headers_table owns_table recipients_table
  one_never known ps ms k recipient hs =
      past_object hs _
      (there _ λ s.
      past_object s.0 _
      (there _ λ o.
      past_object o.0.0 _
      (past_recipient known _ k.0.0 _
      (kept 21 _ (no_two hs s.0 o.0.0) λ content.
      other 19 _ refl λ asked.
      none_left))))

  -- Flattened: the recipient that the top level holds
  flattened_never : (known : List (List ℕ)) (message : List ℕ) (recipient : ℕ) (r : Reading levels message) →
      let ps = members_of r.text.value in
      Refuses (recipients_left known message recipient r (ps ∷ [])) 21 → C
  unfolding elements_table
  flattened_never known message recipient r =
      let ps = members_of r.text.value in
      other 11 _ refl λ few.
      past_object ps _
      (other 10 _ refl λ shape.
      other 5 _ refl λ c.
      either _ _ _
      (other 6 _ refl λ short.
      other 7 _ refl λ h.
      other 10 _ refl λ some.
      one_never known ps ps c.5 recipient (members_of h.text.value))
      (one_never known ps ps c.5 recipient []))

abbrev General : List ℕ → Type 0
General message = (r : Reading levels message) × Present (ascii "recipients") (members_of r.text.value)

json_general : (known : List (List ℕ)) (message : List ℕ) (recipient : ℕ) →
    Refuses (json_table known message recipient) 21 → General message
unfolding json_table
json_general known message recipient =
    other 7 _ refl λ r.
    past_object (members_of r.text.value) _
    (other 10 _ refl λ shape.
    there _ λ g.
    cases r g.0 g.1)
  where
    cases : (r : Reading levels message) (rs : List (List Member)) → RecipientsIn (members_of r.text.value) rs →
        Refuses (recipients_left known message recipient r rs) 21 → General message
    cases r rs (inl a) t =
        flattened_never known message recipient r
        (subst (λ (l : List (List Member)). Refuses (recipients_left known message recipient r l) 21) a.1 t)
    cases r rs (inr a) t = (
      r,
      some_map (λ m. HasOctets m.name (ascii "recipients") × (m.value ≡ a.0))
          (λ m. HasOctets m.name (ascii "recipients")) (λ m h. h.0) (members_of r.text.value) a.1,
    )

table_general : (c : Call) → Refuses (numbers_table c) 21 → General c.message
unfolding numbers_table
table_general c =
    other 1 _ refl λ room.
    other 2 _ refl λ size.
    other 3 _ refl λ k.
    either _ _ _ (json_general k.names c.message c.recipient) (compact_never k.names c.message c.recipient)

-- So the compact and the flattened form are never refused by 21.
pub content_general : (c : Call) → refusal c ≡ 21 →
    (r : Reading levels c.message) × Present (ascii "recipients") (members_of r.text.value)
content_general c e = table_general c ((refused_exactly c 21).0 e)
