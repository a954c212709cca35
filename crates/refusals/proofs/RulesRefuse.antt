-- 6 to 9 on a header, and 12 to 18 on a recipient, refuse as the tables say.
use mathlib.Core.Path.{◌≡◌}
use mathlib.Core.Bool.{true}
use mathlib.Core.Logic.{◌↔◌}
use mathlib.Core.List.{List, [], ◌++◌}
use Prim.Native.Nat.{ℕ, ◌≤◌}
use lib.ListN.{length}
use borrow.Author.Tests.{ltb-false, le-ltb}
use lib.Dec.{eqb}
use Rattle.jose.specs.declared.Sizes.{Sizes}
use Rattle.grammar.specs.Readings.{Reading}
use Rattle.rows.specs.Rows.{Entry, Texts, one_text}
use Rattle.jose.specs.Registered.{registered}
use Rattle.prelude.specs.Refusals.{Test, first}
use Rattle.jose.specs.HeaderRules.{recipient_order}
use Rattle.headers.specs.Headers.{text_order, object_order}
use Rattle.meets.specs.Members.{Member, members_of, names_of, Distinct}
use Rattle.meets.specs.Rules.{Headers, parameters}
use Rattle.meets.proofs.OneForOne.{OneForOne}
use Rattle.meets.proofs.Rows.{unread_decides}
use Rattle.meets.proofs.Entries.{EntryStands}
use Rattle.meets.proofs.NamesApart.{few_decided, distinct_decided, names_apart_decided}
use Rattle.meets.proofs.Parameters.{required_decided, kinds_decided, listed_decided, protected_decided}
use Rattle.meets.proofs.CriticalNames.{critical_decided}
use Rattle.meets.proofs.KeyFits.{key_decided}
use Rattle.meets.proofs.RulesDecided.{NamesOnce, all_seen, parameters_distinct}
use Rattle.meets.proofs.ContentDecided.{HasContent}
use Rattle.refusals.specs.Table.{Table, Refuses}
use Rattle.refusals.specs.Numbers.{object_table, text_table, recipient_table}
use Rattle.refusals.proofs.Steps.{step}

-- 8 and 9
pub object_refuses : (names : List (List ℕ)) (s : List ℕ) (o : ℕ) (ps : List Member) (es : List Entry) →
    OneForOne (EntryStands names (one_text s) o) ps es → (t : Table) (ts : List Test) →
    (length ps ≤ 32 → Distinct (names_of ps) → Refuses t (first ts)) →
    Refuses (object_table ps t) (first (object_order s es ++ ts))
unfolding object_order
object_refuses names s o ps es z t ts f =
    step 8 _ _ _ (few_decided names s o ps es z) λ few.
    step 9 _ _ _ (distinct_decided names s o ps es z) λ once.
    f few once

-- 6 and 7
pub text_refuses : (header : List ℕ) (t : List Member → Table) (ts : List Test) →
    ((length header ≤ 4096) → (r : Reading 12 header) → Refuses (t (members_of r.text.value)) (first ts)) →
    Refuses (text_table header t) (first (text_order header ++ ts))
unfolding text_order
text_refuses header t ts f =
    step 6 _ _ _ (ltb-false 4096 (length header), le-ltb 4096 (length header)) λ short.
    step 7 _ _ _ (unread_decides header) λ r.
    f short r

-- 12 to 18; what passes them has a content algorithm
module _ (known : List (List ℕ)) (ts : Texts) (h : Headers) (ps ss os : List Entry) (key : List ℕ)
    (sizes : Sizes) (zp : OneForOne (EntryStands registered ts 0) h.protected ps)
    (zs : OneForOne (EntryStands registered ts 1) h.shared ss)
    (zo : OneForOne (EntryStands registered ts 2) h.own os) (once : NamesOnce h)
    (keyed : (eqb sizes.key 0 ≡ true) ↔ (key ≡ [])) where
  pub recipient_refuses : (t : Table) (later : List Test) → (HasContent h → Refuses t (first later)) →
      Refuses (recipient_table known h key t) (first (recipient_order known ts (ps ++ (ss ++ os)) sizes ++ later))
  unfolding recipient_table recipient_order
  recipient_refuses t later f =
      let ms = parameters h in
      let es = ps ++ (ss ++ os) in
      let seen = all_seen ts h ps ss os zp zs zo in
      step 12 _ _ _ (names_apart_decided registered ts h ps ss os zp zs zo) λ apart.
      let distinct = parameters_distinct h once apart in
      step 13 _ _ _ (required_decided ts ms es seen) λ there.
      step 14 _ _ _ (kinds_decided ts ms es seen) λ kinds.
      step 15 _ _ _ (listed_decided ts ms es seen kinds.0) λ listed.
      step 16 _ _ _ (protected_decided ts h ps ss os zp zs zo) λ inside.
      step 17 _ _ _ (critical_decided known ts ms es seen kinds.2) λ critical.
      step 18 _ _ _ (key_decided ts ms es key sizes seen distinct there.0 listed.0 keyed) λ fits.
      f (record { distinct = distinct; enc = there.1; strings = kinds.0 })
