-- 8 and 9 on each header, 12 to 18 for each recipient, 21 and 19 refuse as the table says.
use mathlib.Core.Path.{◌≡◌, sym, subst}
use mathlib.Core.Bool.{true}
use mathlib.Core.Logic.{◌↔◌}
use mathlib.Core.List.{List, [], ◌∷◌, ◌++◌, flat_map, append_assoc}
use Prim.Native.Nat.{ℕ, ◌<◌}
use native.Mathlib.Omega.{arith}
use lib.ListN.{length}
use lib.Dec.{eqb, leb}
use borrow.Author.Tests.{leb-false, lt-leb}
use Rattle.shape.specs.Recipients.{top_of, components_in}
use Rattle.headers.specs.Components.{sizes_of}
use Rattle.base64url.specs.Base64url.{decoded_length}
use Rattle.prelude.specs.Ascii.{ascii}
use Rattle.grammar.specs.Bounds.{Every}
use Rattle.rows.specs.Rows.{Entry, value_of, read_texts}
use Rattle.jose.specs.Registered.{registered}
use Rattle.prelude.specs.Refusals.{Test, ◌if◌, first}
use Rattle.jose.specs.HeaderRules.{recipient_order}
use Rattle.headers.specs.Headers.{outermost, protected_entries, object_order}
use Rattle.headers.specs.Headers as headers
use Rattle.shape.specs.Shape.{Recipient}
use Rattle.jwe.specs.General.{shared_entries, own_entries, parameters, headers_order, recipients_order, content_order}
use Rattle.meets.specs.Members.{Member, names_of, Distinct}
use Rattle.meets.specs.Rules.{Headers}
use Rattle.meets.specs.Meets.{OneContent}
use Rattle.meets.proofs.OneForOne.{OneForOne, zip_length}
use Rattle.meets.proofs.Standing.{MemberStands}
use Rattle.meets.proofs.NamesApart.{few_decided, distinct_decided}
use Rattle.meets.proofs.EachRecipient.{protected_entries_lem, shared_entries_lem, own_entries_lem, ContentIn, contents_decided}
use Rattle.refusals.specs.Table.{Table, pass, rule, Refuses}
use Rattle.refusals.specs.Numbers.{Key, Own, Header, owns_table, recipient_table, recipients_table}
use Rattle.refusals.specs.Numbers.{owns_of, headers_table}
use Rattle.refusals.proofs.Steps.{step, there, last}
use Rattle.refusals.proofs.RulesRefuse.{recipient_refuses}
use Rattle.refusals.proofs.SpelledRefuses.{Kept, keyed, own_stands, owns_found}

-- No name stands twice in an own header.
abbrev OwnsOnce : (rs : List (List Member)) → Every Own rs → Type 0
OwnsOnce [] o = Unit {0}
OwnsOnce (ms ∷ rs) o = Distinct (names_of o.0.0) × OwnsOnce rs o.1

module _ (message : List ℕ) where
  stands : (ms : List Member) (r : Recipient) → Kept message ms r → (o : Own ms) →
      OneForOne (MemberStands message) o.0 (headers.members_of message r.header)
  stands ms r z o =
      subst (λ (u : Recipient). OneForOne (MemberStands message) o.0 (headers.members_of message u.header))
      (sym z.0.made) (own_stands message ms z.0.entries z.0.holds z.1 o)

  empty_where : (ms : List Member) (r : Recipient) → Kept message ms r → (k : Key ms) →
      (eqb (decoded_length r.key.size) 0 ≡ true) ↔ (k.0 ≡ [])
  empty_where ms r z k =
      subst (λ (u : Recipient). (eqb (decoded_length u.key.size) 0 ≡ true) ↔ (k.0 ≡ []))
      (sym z.0.made) (keyed message ms z.0.entries z.0.holds z.1 k)

  abbrev own_tests : Recipient → List Test
  own_tests r = object_order message (own_entries message r)

  owns_refuse : (rs : List (List Member)) (us : List Recipient) → OneForOne (Kept message) rs us → (o : Every Own rs) →
      (t : Table) (ts : List Test) → (OwnsOnce rs o → Refuses t (first ts)) →
      Refuses (owns_table rs o t) (first (flat_map own_tests us ++ ts))
  unfolding owns_table object_order flat_map
  owns_refuse [] [] z o t ts f = f tt
  owns_refuse [] (u ∷ us) z o t ts f = absurd z
  owns_refuse (ms ∷ rs) [] z o t ts f = absurd z
  owns_refuse (ms ∷ rs) (u ∷ us) z o t ts f =
      let own = o.0.0 in
      let es = own_entries message u in
      let e = own_entries_lem message message u own (stands ms u z.0 o.0) in
      step 8 _ _ _ (few_decided registered message 2 own es e) λ few.
      step 9 _ _ _ (distinct_decided registered message 2 own es e) λ once.
      owns_refuse rs us z.1 o.1 t ts λ all. f (once, all)

module _ (known : List (List ℕ)) (header message : List ℕ) (es : List Entry) (protected shared : List Member)
    (zp : OneForOne (MemberStands header) protected (outermost header))
    (zs : OneForOne (MemberStands message) shared (headers.members_of message (value_of 2 es).start))
    (dp : Distinct (names_of protected)) (ds : Distinct (names_of shared)) where
  abbrev rules_tests : Recipient → List Test
  rules_tests r =
      recipient_order known (read_texts header message) (parameters header message (top_of es) r)
      (sizes_of (components_in (top_of es) r))

  -- What passes them has a content algorithm.
  rules_refuse : (rs : List (List Member)) (us : List Recipient) → OneForOne (Kept message) rs us → (o : Every Own rs) →
      (k : Every Key rs) → OwnsOnce rs o → (t : Table) (ts : List Test) →
      (OneForOne (ContentIn header message protected shared) (owns_of rs o) us → Refuses t (first ts)) →
      Refuses (recipients_table known protected shared rs o k t) (first (flat_map rules_tests us ++ ts))
  unfolding recipients_table flat_map parameters components_in
  rules_refuse [] [] z o k d t ts f = f tt
  rules_refuse [] (u ∷ us) z o k d t ts f = absurd z
  rules_refuse (ms ∷ rs) [] z o k d t ts f = absurd z
  rules_refuse (ms ∷ rs) (u ∷ us) z o k d t ts f =
      let own = o.0.0 in
      let key = k.0.0 in
      let h : Headers = record { protected = protected; shared = shared; own = own } in
      let e = own_entries_lem header message u own (stands message ms u z.0 o.0) in
      let later = recipients_table known protected shared rs o.1 k.1 t in
      subst (λ (xs : List Test). Refuses (recipient_table known h key later) (first xs))
      (sym (append_assoc (rules_tests u) (flat_map rules_tests us) ts))
      (recipient_refuses known (read_texts header message) h (protected_entries header) (shared_entries message (top_of es))
      (own_entries message u) key (sizes_of (components_in (top_of es) u)) (protected_entries_lem header message protected zp)
      (shared_entries_lem header message es shared zs) e (record { protected = dp; shared = ds; own = d.0 })
      (empty_where message ms u z.0 k.0) later (flat_map rules_tests us ++ ts) λ has.
      rules_refuse rs us z.1 o.1 k.1 d.1 t ts λ others. f ((e, has), others))

module _ (known : List (List ℕ)) (header message : List ℕ) (recipient : ℕ) (ps : List Member) (es : List Entry)
    (rs : List (List Member)) (us : List Recipient) (z : OneForOne (Kept message) rs us) (k : Every Key rs)
    (found : Header (ascii "unprotected") ps)
    (shared_stands : (s : Header (ascii "unprotected") ps) →
    OneForOne (MemberStands message) s.0 (headers.members_of message (value_of 2 es).start)) where
  -- 21 and 19

  abbrev last_order : List Test
  last_order = 19 if leb (length us) recipient ∷ []

  abbrev last_table : Table
  last_table = rule 19 (recipient < length rs) λ asked. pass

  asked_refuses : Refuses last_table (first last_order)
  asked_refuses =
      let many = zip_length (Kept message) rs us z in
      step 19 _ _ _ (
        (λ e. let h = leb-false (length us) recipient e in omega arith),
        (λ h. lt-leb (length us) recipient (omega arith)),
      ) λ asked. last

  abbrev content_left : List Test
  content_left = content_order header message (top_of es) us ++ last_order

  abbrev content_table : List Member → List Member → Every Own rs → Table
  content_table hs ss o = rule 21 (OneContent hs ss (owns_of rs o)) λ content. last_table

  content_refuses : (hs ss : List Member) (o : Every Own rs) → OneForOne (MemberStands header) hs (outermost header) →
      OneForOne (MemberStands message) ss (headers.members_of message (value_of 2 es).start) →
      OneForOne (ContentIn header message hs ss) (owns_of rs o) us → Refuses (content_table hs ss o) (first content_left)
  unfolding content_order
  content_refuses hs ss o zp zs each =
      step 21 _ _ _ (contents_decided header message es hs ss zp zs (owns_of rs o) us each) λ content. asked_refuses

  abbrev pub headers_left : List Test
  headers_left =
      headers_order header message (top_of es) us ++ (recipients_order known header message (top_of es) us ++ content_left)

  pub headers_refuse : (hs : List Member) → OneForOne (MemberStands header) hs (outermost header) →
      Refuses (headers_table known ps rs k recipient hs) (first headers_left)
  unfolding headers_table headers_order recipients_order object_order
  headers_refuse hs zp =
      let ph = protected_entries_lem header header hs zp in
      step 8 _ _ _ (few_decided registered header 0 hs (protected_entries header) ph) λ few.
      step 9 _ _ _ (distinct_decided registered header 0 hs (protected_entries header) ph) λ once.
      there _ _ found λ s.
      let ss = s.0 in
      let zs = shared_stands s in
      let sh = shared_entries_lem message message es ss zs in
      step 8 _ _ _ (few_decided registered message 1 ss (shared_entries message (top_of es)) sh) λ fewer.
      step 9 _ _ _ (distinct_decided registered message 1 ss (shared_entries message (top_of es)) sh) λ shared-once.
      there _ _ (owns_found message rs us z) λ o.
      owns_refuse message rs us z o (recipients_table known hs ss rs o k (content_table hs ss o))
      (recipients_order known header message (top_of es) us ++ content_left) λ all.
      rules_refuse known header message es hs ss zp zs once shared-once rs us z o k all (content_table hs ss o) content_left
      (content_refuses hs ss o zp zs)
